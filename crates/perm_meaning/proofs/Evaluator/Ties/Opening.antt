-- The two objects of the opening are tied.
use Rattle.std.proofs.Common.{◌≡◌, ◌∙◌, ℕ, zero, suc, ◌<◌, ℤ, List, [], ◌∷◌, length, Option, Some, inl, inr, refl, sym, ap, arith}
use Rattle.std.specs.Prelude.{map, slice_get}
use Rattle.std.proofs.lemmas.List.{length-append}
use Rattle.perm_tree.specs.declared.ast.Shape.{Shape}
use Rattle.perm_tree.specs.declared.ast.Shape.TheVariants.{Class, Array}
use Rattle.perm_tree.specs.Code.{Routine, UnitCode}
use Rattle.perm_meaning.specs.declared.eval.values.Value.{Value}
use Rattle.perm_meaning.specs.declared.eval.values.Value.TheVariants as held
use Rattle.perm_meaning.specs.Effects.{first_vars}
use Rattle.perm_meaning.specs.Expressions.{tagged}
use Rattle.perm_meaning.specs.Names.{input_name, root_mark, root_name, same_name, Name, Path}
use Rattle.perm_meaning.specs.Evaluator.NumberedValues.{all_by, value_by, Names}
use Rattle.perm_meaning.specs.Objects.{add, first_values, input_object, new_object, no_objects}
use Rattle.perm_meaning.specs.Outcome.{opening_heap}
use Rattle.perm_meaning.specs.Evaluator.NumberedHeap.{AreApart, IsStored, StartsAs}
use Rattle.perm_meaning.specs.Evaluator.Ties.{opening_names, opening_stored, AllBelow, AreTied, FieldsBelow}
use Rattle.perm_meaning.specs.Evaluator.UnbornNames.{AreUnborn, IsAhead}
use Rattle.perm_meaning.specs.Values as values
use Rattle.perm_meaning.proofs.Leads.{none-some, some-inj}
use Rattle.perm_meaning.proofs.Evaluator.Ties.Answering.{fixed-below}
use Rattle.perm_meaning.proofs.Evaluator.Ties.Running.{vars-below}
use Rattle.perm_meaning.proofs.Evaluator.UnbornNames.{kept}

-- the numbers of the input stand for themselves
input-by : (names : Names) (input : List ℤ) → map (value_by names) (map held.Number input) ≡ map values.Number input
input-by names [] = refl
input-by names (n ∷ input) = ap (λ (vs : List (values.Value Name)). values.Number n ∷ vs) (input-by names input)

-- what is new to the first branch is neither of the two
ahead-name : (name : Name) (k : ℕ) → k < 2 → IsAhead root_mark name → name ≡ record { by = []; count = k } → ⊥
ahead-name name k lt (inl a) e = omega (arith, lt, a.1, ap (λ (n : Name). n.count) e)
ahead-name name k lt (inr a) e = omega (arith, ap (λ (n : Name). length n.by) e, ap (λ (p : Path). length p) a.2.1, length-append a.2.0 ((a.0, a.1) ∷ []))

-- the first branch has its other names still to give
pub opening-unborn : (u : UnitCode) (input : List ℤ) → AreUnborn (opening_heap u input).objects root_mark
opening-unborn u input name ahead =
    kept (add same_name no_objects input_name (input_object input)) name root_name (new_object u (Class u.main) 0) (ahead-name name 1 (omega arith) ahead)
    (kept no_objects name input_name (input_object input) (ahead-name name 0 (omega arith) ahead) refl)

module _ (u : UnitCode) (input : List ℤ) (main : List Value) (limit : ℕ) (start : StartsAs u (Class u.main) 0 main) where
  -- they have two names
  apart : AreApart opening_names 2
  apart zero zero x y e = refl
  apart zero (suc j) x y e = absurd (omega (arith, ap (λ (n : Name). n.count) e))
  apart (suc i) zero x y e = absurd (omega (arith, ap (λ (n : Name). n.count) e))
  apart (suc i) (suc j) x y e = omega (arith, x, y)

  -- both heaps hold them
  stored : IsStored opening_names (opening_stored u input main limit) (opening_heap u input)
  stored = record { objects = each; given = refl }
    where
      each : (r : ℕ) (o : List Value) → slice_get (map held.Number input ∷ main ∷ []) r ≡ Some o
          → (shape : Shape) × ((opening_heap u input).objects (opening_names r) ≡ Some (record { shape = shape; values = map (value_by opening_names) o }))
      each zero o e = (Array, ap (λ (vs : List (values.Value Name)). Some (record { shape = Array; values = vs })) (sym (input-by opening_names input) ∙ ap (map (value_by opening_names)) (some-inj e)))
      each (suc zero) o e = (Class u.main, ap (λ (vs : List (values.Value Name)). Some (record { shape = Class u.main; values = vs })) (sym (start opening_names) ∙ ap (map (value_by opening_names)) (some-inj e)))
      each (suc (suc r)) o e = none-some e

  -- they refer to nothing
  fields : FieldsBelow 2 (map held.Number input ∷ main ∷ [])
  fields zero f v e = fixed-below (map held.Number input) (map values.Number input) (λ names. input-by names input) 2 f v e
  fields (suc zero) f v e = fixed-below main (first_values u (Class u.main) 0) start 2 f v e
  fields (suc (suc r)) f v e = none-some e

  -- the two objects are tied
  pub opening-tied : AreTied opening_names (opening_stored u input main limit) (opening_heap u input)
  opening-tied = record { apart = apart; stored = stored; fields = fields }

-- the variables with which `Run` begins refer to these two
pub opening-below : (r : Routine) (count : ℕ) (vs : List (Option Value)) → ((names : Names) → all_by names vs ≡ first_vars tagged r (Some (values.Reference (names 1) 0)) (Some (values.Reference (names 0) count) ∷ [])) → AllBelow 2 vs
opening-below r count vs e = vars-below 2 (λ names. (names 0, names 1)) (λ a b same. λ i. (same 0 (omega arith) i, same 1 (omega arith) i))
    (λ (x : Name × Name). first_vars tagged r (Some (values.Reference x.1 0)) (Some (values.Reference x.0 count) ∷ [])) vs e
