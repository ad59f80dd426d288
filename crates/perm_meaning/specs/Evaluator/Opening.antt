-- The state with which a run begins.
use Rattle.std.specs.Prelude.{◌≡◌, ℕ, ◌+◌, ◌-◌, ◌<◌, ◌≤◌, ℤ, List, [], ◌∷◌, ◌++◌, length, replicate, Option, Some, None}
use Rattle.perm_tree.specs.declared.ast.Shape.TheVariants.{Class}
use Rattle.perm_tree.specs.CodeOf.{code_of}
use Rattle.perm_tree.specs.InBody.{vars_at}
use Rattle.perm_tree.specs.Lookup.{main_place, run_place}
use Rattle.perm_tree.specs.UnitTables.{Tables}
use Rattle.perm_meaning.specs.declared.eval.control.Control.{Control}
use Rattle.perm_meaning.specs.declared.eval.own.Own.{Own}
use Rattle.perm_meaning.specs.declared.eval.parts.Part.TheVariants.{Body}
use Rattle.perm_meaning.specs.declared.eval.state.State.{State}
use Rattle.perm_meaning.specs.declared.eval.values.Value.{Value}
use Rattle.perm_meaning.specs.declared.eval.values.Value.TheVariants as held
use Rattle.perm_meaning.specs.Evaluator.Control.{start}
use Rattle.perm_meaning.specs.Outcome.{opening_need}
use Rattle.perm_meaning.specs.Evaluator.NumberedHeap.{Stored, StartsAs}
use Rattle.perm_meaning.specs.Evaluator.Ties.{opening_stored}

-- ---------- the state ----------
-- the variables of `Run`, on an input of so many numbers: the input array is object 0, and that of `Main` object 1
abbrev pub opening_vars : ℕ → ℕ → List (Option Value)
opening_vars count input = Some (held.Reference 1 0) ∷ ((Some (held.Reference 0 input) ∷ []) ++ replicate (count - (1 + 1)) None)

-- what the first branch has
abbrev pub opening_part : Tables → ℕ → Own
opening_part u input = record { vars = opening_vars (length (vars_at u (run_place u))) input; «method» = run_place u; depth = 1; printed = [] }

-- the body of `Run` begins, and nothing waits
abbrev pub opening_control : Control
opening_control = record { spot = start Body; frames = [] }

-- the whole state, where the object of `Main` starts with these values
abbrev pub first_state : Tables → List ℤ → ℕ → ℕ → List Value → State
first_state u input turns limit main = record { own = opening_part u (length input); turns = turns; heap = opening_stored (code_of u) input main limit; control = opening_control }

-- ---------- how a run begins ----------
-- the heap has both objects, of which that of `Main` starts with these values
pub record HasBoth (u : Tables) (input : List ℤ) (limit : ℕ) (s : Stored) : Type 0 where
  pub room : opening_need (code_of u) input ≤ limit
  pub main : List Value
  pub start : StartsAs (code_of u) (Class (main_place u.program)) 0 main
  pub is : s ≡ opening_stored (code_of u) input main limit

-- or it has no room for them
abbrev pub MayHaveBoth : Tables → List ℤ → ℕ → Option Stored → Type 0
MayHaveBoth u input limit None = limit < opening_need (code_of u) input
MayHaveBoth u input limit (Some s) = HasBoth u input limit s

-- a run begins where the heap has both objects
pub record Begins (u : Tables) (input : List ℤ) (turns limit : ℕ) (s : State) : Type 0 where
  pub heap : HasBoth u input limit s.heap
  pub own : s.own ≡ opening_part u (length input)
  pub turns_are : s.turns ≡ turns
  pub control : s.control ≡ opening_control

-- or it doesn't begin
abbrev pub MayBegin : Tables → List ℤ → ℕ → ℕ → Option State → Type 0
MayBegin u input turns limit None = limit < opening_need (code_of u) input
MayBegin u input turns limit (Some s) = Begins u input turns limit s
