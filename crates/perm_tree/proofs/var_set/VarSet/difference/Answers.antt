use Rattle.std.proofs.Common.{arith}
use Rattle.perm_tree.proofs.SetWords.{member-without}
use Rattle.perm_tree.proofs.var_set.VarSet.difference.Goals as goal

pub returns : goal.returns
returns c = member-without c.args.self c.args.other (omega arith)
