use Rattle.std.proofs.Common.{sym, subst}
use Rattle.perm_meaning.specs.Evaluator.Control.{TestsAs}
use Rattle.perm_meaning.specs.Evaluator.NumberedValues.{given_by}
use Rattle.perm_meaning.proofs.eval.control.test_of.Goals as goal

-- src/eval/control.rt:30:1
pub returns-in-Value : goal.returns-in-Value
returns-in-Value c = λ names. subst (λ g. TestsAs (given_by names g) c.decided.result) (sym c.in-Value.is) (c.decided.ensures names)
