-- Numbered objects hold what named ones hold.
use Rattle.std.proofs.Common.{◌≡◌, ◌∙◌, ℕ, zero, suc, ◌<◌, Bool, true, false, List, [], ◌∷◌, length, Option, None, Some, Bor, refl, sym, ap, subst, arith, ◌++◌, ◌+◌, inl, inr, ◌⊎◌}
use Rattle.std.specs.Prelude.{map, nat_eq, slice_get, slice_set, option_copied, option_map}
use Rattle.std.specs.Slice.{IsItemAt}
use Rattle.std.proofs.lemmas.Option.{slice_get-map, slice_get_past, slice_get_read}
use Rattle.std.proofs.lemmas.Bool.Decides.{nat_tests}
use Rattle.perm_tree.specs.declared.ast.Shape.{Shape}
use Rattle.perm_tree.proofs.HeldStatements.{element-there}
use Rattle.perm_meaning.specs.declared.eval.values.Value.{Value}
use Rattle.perm_meaning.specs.NamedHeap.{Heap, stored}
use Rattle.perm_meaning.specs.Names.{Name, same_name}
use Rattle.perm_meaning.specs.Evaluator.NumberedValues.{value_by, Names}
use Rattle.perm_meaning.specs.Objects.{field_of, value_in, with_field_if, with_field, put, Object, add, this_or}
use Rattle.perm_meaning.specs.Evaluator.NumberedHeap.{Stored, AreApart, IsStored, value_at, value_of_object, put_in, put_at}
use Rattle.perm_meaning.specs.Values as values
use Rattle.perm_meaning.proofs.Leads.{some-inj, none-some}
use Rattle.perm_meaning.proofs.MovesAndCopies.KeptVariables.{get-other}
use Rattle.perm_meaning.proofs.SameName.{name-true, name-itself}

-- what is put in a place stands there
pub get-same : {A : Type 0} (xs : List A) (i : ℕ) (x y : A) → slice_get xs i ≡ Some x → slice_get (slice_set xs i y) i ≡ Some y
get-same [] i x y e = none-some e
get-same (z ∷ xs) zero x y e = refl
get-same (z ∷ xs) (suc i) x y e = get-same xs i x y e

-- what stands at a place is within
pub within : {A : Type 0} (xs : List A) (i : ℕ) (x : A) → slice_get xs i ≡ Some x → i < length xs
within [] i x e = none-some e
within (z ∷ xs) zero x e = omega arith
within (z ∷ xs) (suc i) x e = omega (arith, within xs i x e)

-- a copy of what is lent at a place is what stands there
pub copied-item : {A : Type 0} (xs slice : List A) (i : ℕ) (lent : Option (Bor A)) (copy : Option A) → slice ≡ xs → IsItemAt slice i lent → copy ≡ option_copied lent → copy ≡ slice_get xs i
copied-item xs slice i None copy same at is = is ∙ sym (slice_get_past slice i (grind (arith, nat_tests))) ∙ ap (λ l. slice_get l i) same
copied-item xs slice i (Some x) copy same at is = is ∙ sym (slice_get_read slice (length slice) i x.now refl (grind (arith, nat_tests)) at.1) ∙ ap (λ l. slice_get l i) same

-- setting changes no length
pub set-length : {A : Type 0} (xs : List A) (i : ℕ) (y : A) → length (slice_set xs i y) ≡ length xs
set-length [] i y = refl
set-length (z ∷ xs) zero y = refl
set-length (z ∷ xs) (suc i) y = omega (arith, set-length xs i y)

-- values that are set have their names
set-values : (names : Names) (o : List Value) (f : ℕ) (v : Value) → map (value_by names) (slice_set o f v) ≡ slice_set (map (value_by names) o) f (value_by names v)
set-values names [] f v = refl
set-values names (w ∷ o) zero v = refl
set-values names (w ∷ o) (suc f) v = ap (λ (ws : List (values.Value Name)). value_by names w ∷ ws) (set-values names o f v)

module _ (names : Names) (s : Stored) (h : Heap) (is : IsStored names s h) where
  -- a field of an object that was made is found on both heaps
  pub found-field : (r f : ℕ) → r < length s.objects → field_of h.objects (names r) f ≡ option_map (value_by names) (value_at s.objects r f)
  found-field r f lt = go (element-there s.objects r lt)
    where
      go : (o : List Value) × (slice_get s.objects r ≡ Some o) → field_of h.objects (names r) f ≡ option_map (value_by names) (value_at s.objects r f)
      go (o, e) =
          ap (λ z. value_in z f) (is.objects r o e).1
          ∙ slice_get-map (value_by names) o f
          ∙ ap (λ z. option_map (value_by names) (value_of_object z f)) (sym e)

module _ (names : Names) (s : Stored) (h : Heap) (is : IsStored names s h) (apart : AreApart names (length s.objects)) (r f : ℕ) (v : Value) (lt : r < length s.objects) (o : List Value) (e : slice_get s.objects r ≡ Some o) where
  at-once : (q : List Value) (j : ℕ) → j ≡ r → slice_get (slice_set s.objects r (slice_set o f v)) j ≡ Some q
      → (shape : Shape) × (put same_name h.objects (names r) f (value_by names v) (names j) ≡ Some (record { shape = shape; values = map (value_by names) q }))
  at-once q j same there =
      let x = is.objects r o e in
      let now : slice_set o f v ≡ q = some-inj (sym (get-same s.objects r o (slice_set o f v) e) ∙ subst (λ n. slice_get (slice_set s.objects r (slice_set o f v)) n ≡ Some q) same there) in (
        x.0,
        ap (λ n. put same_name h.objects (names r) f (value_by names v) (names n)) same
            ∙ ap (λ b. with_field_if b f (value_by names v) (h.objects (names r))) (name-itself (names r))
            ∙ ap (with_field f (value_by names v)) x.1
            ∙ ap (λ (vs : List (values.Value Name)). Some (record { shape = x.0; values = vs })) (sym (set-values names o f v) ∙ ap (map (value_by names)) now),
      )

  elsewhere : (q : List Value) (j : ℕ) → same_name (names j) (names r) ≡ false → slice_get (slice_set s.objects r (slice_set o f v)) j ≡ Some q
      → (shape : Shape) × (put same_name h.objects (names r) f (value_by names v) (names j) ≡ Some (record { shape = shape; values = map (value_by names) q }))
  elsewhere q j other there =
      let differs : nat_eq j r ≡ false = by-test (nat_eq j r) refl in
      let x = is.objects j q (sym (get-other s.objects j r (slice_set o f v) differs) ∙ there) in
      (x.0, ap (λ b. with_field_if b f (value_by names v) (h.objects (names j))) other ∙ x.1)
    where
      by-test : (b : Bool) → nat_eq j r ≡ b → b ≡ false
      by-test false k = refl
      by-test true k =
          let same : j ≡ r = grind (arith, nat_tests) in
          let no : true ≡ false = sym (ap (λ n. same_name (names n) (names r)) same ∙ name-itself (names r)) ∙ other in absurd (cc)

  each : (j : ℕ) (q : List Value) → slice_get (slice_set s.objects r (slice_set o f v)) j ≡ Some q → (b : Bool) → same_name (names j) (names r) ≡ b
      → (shape : Shape) × (put same_name h.objects (names r) f (value_by names v) (names j) ≡ Some (record { shape = shape; values = map (value_by names) q }))
  each j q there false k = elsewhere q j k there
  each j q there true k = at-once q j (apart j r (omega (arith, within (slice_set s.objects r (slice_set o f v)) j q there, set-length s.objects r (slice_set o f v))) lt (name-true (names j) (names r) k)) there

-- after a store too both heaps hold the same
pub stored-field : (names : Names) (s : Stored) (h : Heap) → IsStored names s h → AreApart names (length s.objects) → (r f : ℕ) (v : Value) → r < length s.objects
    → IsStored names (record s { objects = put_at s.objects r f v }) (stored (Some (value_by names v)) (names r) f h)
stored-field names s h is apart r f v lt = go (element-there s.objects r lt)
  where
    go : (o : List Value) × (slice_get s.objects r ≡ Some o) → IsStored names (record s { objects = put_at s.objects r f v }) (stored (Some (value_by names v)) (names r) f h)
    go (o, e) = record {
      objects = λ j q there. each names s h is apart r f v lt o e j q (subst (λ z. slice_get (put_in s.objects r z f v) j ≡ Some q) e there) (same_name (names j) (names r)) refl;
      given = is.given;
    }

-- ---------- new objects ----------
-- what stands in a list with one element more stood there, or is that one
pub last-or : {A : Type 0} (xs : List A) (y x : A) (j : ℕ) → slice_get (xs ++ y ∷ []) j ≡ Some x → (slice_get xs j ≡ Some x) ⊎ ((j ≡ length xs) × (y ≡ x))
last-or [] y x zero e = inr (refl, some-inj e)
last-or [] y x (suc j) e = none-some e
last-or (z ∷ xs) y x zero e = inl e
last-or (z ∷ xs) y x (suc j) e = elim (last-or xs y x j e) [
  | inl there ↦ inl there
  | inr last ↦ inr (ap (λ n. suc n) last.0, last.1)
]

-- after a new object too both heaps hold the same, where the next number has its name
pub stored-new : (names : Names) (s : Stored) (h : Heap) → IsStored names s h → AreApart names (suc (length s.objects)) → (o : List Value) (new : Object Name) (n : ℕ) → map (value_by names) o ≡ new.values
    → IsStored names (record s { objects = s.objects ++ o ∷ []; given = s.given + n }) (record h { objects = add same_name h.objects (names (length s.objects)) new; given = h.given + n })
stored-new names s h is apart o new n start = record {
  objects = each;
  given = ap (λ k. k + n) is.given;
}
  where
    last : ℕ
    last = length s.objects

    each : (j : ℕ) (q : List Value) → slice_get (s.objects ++ o ∷ []) j ≡ Some q → (shape : Shape) × (add same_name h.objects (names last) new (names j) ≡ Some (record { shape = shape; values = map (value_by names) q }))
    each j q e = elim (last-or s.objects o q j e) [
      | inl there ↦
          let x = is.objects j q there in
          let lt = within s.objects j q there in
          let other : same_name (names j) (names last) ≡ false = apart-test (same_name (names j) (names last)) refl lt in
          (x.0, ap (λ b. this_or b new (h.objects (names j))) other ∙ x.1)
      | inr at ↦ (
        new.shape,
        ap (λ k. this_or (same_name (names k) (names last)) new (h.objects (names k))) at.0
            ∙ ap (λ b. this_or b new (h.objects (names last))) (name-itself (names last))
            ∙ ap (λ (vs : List (values.Value Name)). Some (record { shape = new.shape; values = vs })) (sym start ∙ ap (map (value_by names)) at.1),
      )
    ]
      where
        apart-test : (b : Bool) → same_name (names j) (names last) ≡ b → j < last → b ≡ false
        apart-test false k lt = refl
        apart-test true k lt = absurd (omega (arith, lt, apart j last (omega (arith, lt)) (omega arith) (name-true (names j) (names last) k)))
