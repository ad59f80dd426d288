-- What a turn makes of a branch that runs.
use Rattle.std.specs.Prelude.{◌≡◌, ℕ, ◌-◌, ◌⊎◌, None, Some}
use Rattle.perm_tree.specs.declared.ast.Span.{Span}
use Rattle.perm_tree.specs.declared.bodies.Bodies.{Bodies}
use Rattle.perm_tree.specs.declared.bodies.Step.{Step}
use Rattle.perm_step.specs.declared.control.Ending.{Ending}
use Rattle.perm_step.specs.declared.control.Ending.TheVariants as endings
use Rattle.perm_step.specs.declared.control.Failure.TheVariants as failures
use Rattle.perm_step.specs.declared.control.Leaf.{Leaf}
use Rattle.perm_step.specs.declared.control.Stop.{Stop}
use Rattle.perm_step.specs.declared.control.Stop.TheVariants as stops
use Rattle.perm_step.specs.StepMoves.{Moves, Stops}
use Rattle.perm_step.specs.Working.{Working}

-- a turn is spent
abbrev pub spent : Working → Working
spent c = record c { turns = c.turns - 1 }

-- how a branch ends at a step with this span that doesn't lead on
abbrev pub ending_of : Stop → Span → Ending
ending_of (stops.Trap k) at = endings.Failed (failures.Trap k at)
ending_of (stops.Returned w) at = endings.Returned w

-- a step is told a word: it leads on, or the branch ends
abbrev pub Proceeds : Bodies → Step → ℕ → Leaf → Leaf → Type 0
Proceeds b s word old new =
    ((new.ending ≡ None) × Moves b s.next (spent old.control) s.action word new.control)
    ⊎ ((e : Stop) × Stops b s.next (spent old.control) s.action e × (new ≡ record { control = spent old.control; ending = Some (ending_of e s.span) }))
