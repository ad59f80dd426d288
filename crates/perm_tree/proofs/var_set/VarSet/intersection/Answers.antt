use Rattle.perm_tree.proofs.SetWords.{member-common}
use Rattle.perm_tree.proofs.var_set.VarSet.intersection.Goals as goal

pub returns : goal.returns
returns c = member-common c.args.self c.args.other
