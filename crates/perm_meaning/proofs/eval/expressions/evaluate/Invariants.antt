use Rattle.perm_meaning.specs.Evaluator.NumberedValues.{all_by, Names}
use Rattle.perm_meaning.proofs.Evaluator.Operands.{AreFound}
use Rattle.perm_meaning.proofs.eval.expressions.evaluate.Given as goal

abbrev pub invariant-operands : goal.invariant-operands
invariant-operands l = (names : Names) → AreFound l.program l.infos (all_by names l.vars) names l.low l.at l.values.items
