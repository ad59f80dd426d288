use Rattle.std.proofs.Common.{drop}
use Rattle.perm_tree.specs.BodyTerms.{operation_terms}
use Rattle.perm_step.specs.Evaluation.{AreValues, IsLast}
use Rattle.perm_step.proofs.values.last_of.Given as goal

abbrev pub invariant-loop-at : goal.invariant-loop-at
invariant-loop-at l = AreValues (drop l.base l.vars) (operation_terms l.run) l.at l.values × IsLast l.at l.last l.values
