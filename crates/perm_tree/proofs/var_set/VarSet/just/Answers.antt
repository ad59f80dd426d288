use Rattle.std.proofs.Common.{arith}
use Rattle.perm_tree.proofs.SetWords.{member-placed}
use Rattle.perm_tree.proofs.var_set.VarSet.just.Goals as goal

pub returns-in-0 : goal.returns-in-0
returns-in-0 c = member-placed 0 c.args.x (omega arith) (omega arith)

pub returns-in-1 : goal.returns-in-1
returns-in-1 c = member-placed 1 c.args.x (omega arith) (omega arith)

pub returns-in-2 : goal.returns-in-2
returns-in-2 c = member-placed 2 c.args.x (omega arith) (omega arith)

pub returns-in_default : goal.returns-in_default
returns-in_default c = member-placed 3 c.args.x (omega arith) (omega arith)
