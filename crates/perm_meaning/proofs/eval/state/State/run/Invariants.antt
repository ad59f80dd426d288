use Rattle.perm_meaning.specs.declared.eval.state.Fate.TheVariants.{Goes}
use Rattle.perm_meaning.specs.Meaning.{Result}
use Rattle.perm_meaning.specs.Evaluator.Measure.{left_of_run}
use Rattle.perm_meaning.specs.Evaluator.Runs.{IsSmall, Means}
use Rattle.perm_meaning.proofs.eval.state.State.run.Given as goal

abbrev pub invariant-loop-next : goal.invariant-loop-next
invariant-loop-next l = IsSmall l.self × ((r : Result) → Means l.unit l.fn.self Goes r → Means l.unit l.self l.fate r)

abbrev pub decreases-loop-next : goal.decreases-loop-next
decreases-loop-next l = left_of_run l.self l.fate
