use Rattle.perm_tree.proofs.SetWords.{member-empty}
use Rattle.perm_tree.proofs.var_set.VarSet.new.Goals as goal

pub returns : goal.returns
returns c = member-empty
