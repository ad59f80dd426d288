-- A call that begins, or why it doesn't.
use Rattle.std.specs.Prelude.{◌≡◌, ℕ, suc, List, [], Option, Some, slice_get}
use Rattle.perm_tree.specs.Code.{Routine, Tie, UnitCode}
use Rattle.perm_meaning.specs.declared.eval.calls.Callee.{Callee}
use Rattle.perm_meaning.specs.declared.eval.calls.Callee.TheVariants as callees
use Rattle.perm_meaning.specs.declared.eval.tell.Passed.{Passed}
use Rattle.perm_meaning.specs.declared.eval.values.Value.{Value}
use Rattle.perm_meaning.specs.Evaluator.Asks.{Way, referred}
use Rattle.perm_meaning.specs.Values.{Eval, Reference}
use Rattle.perm_meaning.specs.Effects.{Calling, Calls, Sticks, below_limit, first_vars, halts, on_routine, ticks}
use Rattle.perm_meaning.specs.Expressions.{tagged}
use Rattle.perm_meaning.specs.NamedHeap.{Held}
use Rattle.perm_meaning.specs.NamedHeap as heaps
use Rattle.perm_meaning.specs.Evaluator.NumberedValues.{all_by, Names}
use Rattle.perm_meaning.specs.Evaluator.ToldAnswers.{passed_by}

-- the turn of a call on an object, with these arguments
abbrev pub begun : UnitCode → Tie → ℕ → ℕ → Option ℕ → Held → List Held → heaps.Own → Way
begun u tie y m into this found l =
    on_routine tagged (slice_get u.routines m) found (λ r. below_limit tagged l.depth (Calls (record { routine = m; code = r.code; first = first_vars tagged r this found; tie = tie; receiver = this; y = y; into = into }) l))

-- a turn begins a call, in so far as it matters where copies are handed on
pub record BeginsCall (names : Names) (u : UnitCode) (l : heaps.Own) (w : Way) (m : ℕ) (vars : List (Option Value)) (depth : ℕ) (into : Option ℕ) : Type 0 where
  pub calling : Calling Held
  pub turn : w ≡ ticks tagged (Calls calling l)
  pub «method» : calling.routine ≡ m
  pub first : calling.first ≡ all_by names vars
  pub deeper : depth ≡ suc l.depth
  pub into_is : calling.into ≡ into
  pub routine : Routine
  pub there : slice_get u.routines m ≡ Some routine
  pub code : calling.code ≡ routine.code

-- a turn is what is found of a call
abbrev pub IsCallOf : Names → UnitCode → heaps.Own → Callee → Way → Type 0
IsCallOf names u l (callees.Begins c) w = BeginsCall names u l w c.«method» c.vars c.depth c.into
IsCallOf names u l (callees.Halts k) w = w ≡ halts tagged k
IsCallOf names u l callees.Sticks w = w ≡ Sticks

-- the turn of a call on what its receiver gives, with these arguments
abbrev pub begun_on : UnitCode → Tie → ℕ → ℕ → Option ℕ → Eval Held → List Held → heaps.Own → Way
begun_on u tie y m into this found l = referred this (λ p n. begun u tie y m into (Some (Reference p n)) found l)

-- the same with the values of its arguments, if each has one
abbrev pub begun_if : UnitCode → Names → Tie → ℕ → ℕ → Option ℕ → Eval Held → Passed → heaps.Own → Way
begun_if u names tie y m into this p l = passed_by names [] p (λ found vs. begun_on u tie y m into this found l)
