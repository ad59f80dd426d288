use Rattle.perm_tree.proofs.SetWords.{member-joined}
use Rattle.perm_tree.proofs.var_set.VarSet.union.Goals as goal

pub returns : goal.returns
returns c = member-joined c.args.self c.args.other
