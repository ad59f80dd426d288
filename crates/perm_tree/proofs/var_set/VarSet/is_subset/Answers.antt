use Rattle.std.proofs.Common.{sym, ◌∙◌}
use Rattle.perm_tree.proofs.SetWords.{within_from_none, none_from_within}
use Rattle.perm_tree.proofs.var_set.VarSet.is_subset.Goals as goal

pub returns : goal.returns
returns c = (
  λ yes. within_from_none _ _ (sym c.difference.ensures ∙ c.is_empty.ensures.0 yes),
  λ w. c.is_empty.ensures.1 (c.difference.ensures ∙ none_from_within _ _ w),
)
