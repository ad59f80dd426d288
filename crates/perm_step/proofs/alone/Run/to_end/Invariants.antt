use Rattle.perm_step.specs.Runs.{weight, IsComing, Opening}
use Rattle.perm_step.proofs.alone.Run.to_end.Given as goal

abbrev pub invariant-loop-self : goal.invariant-loop-self
invariant-loop-self l = (o : Opening) → IsComing o l.bodies l.fn.self → IsComing o l.bodies l.self

abbrev pub decreases-loop-self : goal.decreases-loop-self
decreases-loop-self l = weight l.self
