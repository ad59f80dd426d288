-- What the parts of a call make of a running branch.
use Rattle.std.specs.Prelude.{◌≡◌, ℕ, ◌-◌, ◌<◌, List, ◌∷◌, ◌++◌, drop, take, slice_get, Some}
use Rattle.perm_tree.specs.declared.bodies.Action.TheVariants as actions
use Rattle.perm_tree.specs.declared.bodies.Argument.{Argument}
use Rattle.perm_tree.specs.declared.bodies.Bodies.{Bodies}
use Rattle.perm_tree.specs.declared.bodies.Invocation.{Invocation}
use Rattle.perm_tree.specs.declared.bodies.Operation.{Operation}
use Rattle.perm_tree.specs.declared.bodies.Step.{Step}
use Rattle.perm_tree.specs.BodyTerms.{stretch}
use Rattle.perm_meaning.specs.Effects.{depth_limit}
use Rattle.perm_meaning.specs.Words.{reference_in}
use Rattle.perm_step.specs.declared.control.Called.{Called}
use Rattle.perm_step.specs.Given.{ArgumentsGive, IsObjectBy}
use Rattle.perm_step.specs.Rooms.{HasRoomForArgument}
use Rattle.perm_step.specs.StepMoves.{with_into}
use Rattle.perm_step.specs.Working.{Working, locals}

-- the variables of the running method that stand before an end
abbrev pub locals_before : ℕ → Working → List ℕ
locals_before end c = drop c.base (take end c.vars)

-- nothing changes but that words are put behind the variables
abbrev pub AddsOnly : Working → Working → Type 0
AddsOnly old new = (added : List ℕ) × (new ≡ record old { vars = old.vars ++ added })

-- the words of some arguments are put behind the variables, where the variables of the running method are these
abbrev pub AddsArguments : List Operation → List ℕ → List Argument → Working → Working → Type 0
AddsArguments all vs args old new = (found : List ℕ) × ArgumentsGive all vs args found × (new ≡ record old { vars = old.vars ++ found })

-- the receiver and the arguments of a call are put behind the variables; the receiver isn't null, and the call isn't too deep
pub record Opens (b : Bodies) (v : Invocation) (this : ℕ) (old new : Working) : Type 0 where
  pub found : List ℕ
  pub arguments : ArgumentsGive b.operations (locals old) (stretch b.arguments v.first v.count) found
  pub object : IsObjectBy (reference_in this)
  pub deep : old.depth < depth_limit
  pub after : new ≡ record old { vars = old.vars ++ (this ∷ found) }

-- the caller of an open call goes on: its variables are back, and take the word
pub record ComesBack (b : Bodies) (last : Called) (word : ℕ) (old new : Working) : Type 0 where
  pub step : Step
  pub there : slice_get b.steps last.place ≡ Some step
  pub call : Invocation
  pub invokes : step.action ≡ actions.Invoke call
  pub after : new ≡ record (with_into (record old { base = last.base; vars = take old.base old.vars }) call.into word) { at = step.next; depth = old.depth - 1 }

-- so many values are enough for each of the first so many arguments
abbrev pub HasRoomBefore : ℕ → ℕ → List Argument → Type 0
HasRoomBefore count values args = (i : ℕ) (a : Argument) → i < count → slice_get args i ≡ Some a → HasRoomForArgument values a
