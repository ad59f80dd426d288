-- A branch makes an array of three elements at the opening: it has room in a heap of five words and none in one of four.
use Rattle.std.specs.Prelude.{◌≡◌, ℕ, zero, suc, pos, [], ◌∷◌, Some, None, refl}
use Rattle.perm_tree.specs.Code.{LongLit, NewArray, UnitCode}
use Rattle.perm_tree.specs.declared.ast.Span.{Span}
use Rattle.perm_meaning.specs.declared.eval.asks.Ask.TheVariants as asks
use Rattle.perm_meaning.specs.declared.eval.asks.Asked.TheVariants as asked
use Rattle.perm_meaning.specs.declared.eval.asks.Told.TheVariants as told
use Rattle.perm_meaning.specs.declared.eval.own.Own.{Own}
use Rattle.perm_meaning.specs.declared.eval.step.Step.TheVariants as steps
use Rattle.perm_meaning.specs.declared.eval.values.Value.TheVariants.{Number, Reference}
use Rattle.perm_meaning.specs.Meaning.{fail, Full}
use Rattle.perm_meaning.specs.Machine.{NoTurns}
use Rattle.perm_meaning.specs.Names.{root_mark}
use Rattle.perm_meaning.specs.Outcome.{opening_heap}
use Rattle.perm_meaning.specs.Evaluator.SimpleStatements.{Asks}
use Rattle.perm_meaning.specs.Evaluator.SimpleSteps.{meant, At, Comes}
use Rattle.perm_meaning.specs.Evaluator.NumberedHeap.{Stored}
use Rattle.perm_meaning.specs.Evaluator.Ties.{opening_names, opening_stored, AllBelow, IsTied, SlotBelow}
use Rattle.perm_meaning.proofs.Leads.{none-some, some-inj}
use Rattle.perm_meaning.proofs.Evaluator.NewObjects.{array-start}
use Rattle.perm_meaning.proofs.Evaluator.Ties.Opening.{opening-tied, opening-unborn}
use Rattle.perm_meaning.proofs.Evaluator.Ties.Stepping.{fills, goes}
use Rattle.std.proofs.Common.{subst, arith, inl, inr}

-- a unit whose class `Main` has no field
abbrev u : UnitCode
u = record { classes = [] ∷ []; routines = []; main = 0; run = 0 }

-- the branch has the object of Main, the input array of one element, and a variable with no value
abbrev before : Own
before = record { vars = Some (Reference 1 0) ∷ Some (Reference 0 1) ∷ None ∷ []; «method» = 0; depth = 1; printed = [] }

-- the variable has the array
abbrev later : Own
later = record { vars = Some (Reference 1 0) ∷ Some (Reference 0 1) ∷ Some (Reference 2 3) ∷ []; «method» = 0; depth = 1; printed = [] }

abbrev objects : ℕ → Stored
objects limit = opening_stored u (pos 7 ∷ []) [] limit

abbrev more : ℕ → Stored
more limit = record { objects = (Number (pos 7) ∷ []) ∷ [] ∷ (Number (pos 0) ∷ Number (pos 0) ∷ Number (pos 0) ∷ []) ∷ []; given = 5; limit = limit }

-- the opening
abbrev at : Span → At
at s = record { again = λ c m. fail NoTurns m; at = s; turns = 9; names = opening_names; mark = root_mark; heap = opening_heap u (pos 7 ∷ []) }

tied : (s : Span) (limit : ℕ) → IsTied opening_names root_mark before (objects limit) (at s).heap
tied s limit = record { objects = opening-tied u (pos 7 ∷ []) [] limit (λ names. refl); vars = below; unborn = opening-unborn u (pos 7 ∷ []) }
  where
    below : AllBelow 2 before.vars
    below zero v e = subst (SlotBelow 2) (some-inj e) (omega arith)
    below (suc zero) v e = subst (SlotBelow 2) (some-inj e) (omega arith)
    below (suc (suc zero)) v e = subst (SlotBelow 2) (some-inj e) tt
    below (suc (suc (suc x))) v e = none-some e

asks-array : Asks u (NewArray 2 (LongLit (pos 3))) before before (asked.Does (asks.Array 3) (told.Made 2))
asks-array names mark = refl

-- with five words the array is made
pub makes-array : (s : Span) → Comes u (NewArray 2 (LongLit (pos 3))) (at s) before (objects 5) later (more 5) steps.Goes
makes-array s =
    goes u (NewArray 2 (LongLit (pos 3))) before before (asks.Array 3) (told.Made 2) asks-array (objects 5) (more 5) (at s) (tied s 5) (Some (Reference 2 3)) later None (λ names mark. refl)
    (inr (refl, record { room = omega arith; values = Number (pos 0) ∷ Number (pos 0) ∷ Number (pos 0) ∷ []; start = array-start u 3; after = refl })) refl

-- with four the heap is full
pub fills-heap : (s : Span) → meant u (NewArray 2 (LongLit (pos 3))) (at s) before 4 ≡ Full
fills-heap s = fills u (NewArray 2 (LongLit (pos 3))) before before (asks.Array 3) (told.Made 2) asks-array (objects 4) (objects 4) (at s) (tied s 4) (inl (refl, omega arith, refl))

-- the meaning computes to the same
pub computes-full : (s : Span) → meant u (NewArray 2 (LongLit (pos 3))) (at s) before 4 ≡ Full
computes-full s = refl
