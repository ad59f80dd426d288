-- One object is changed by a store: it fits with the new value, and all others fit as before.
use Rattle.std.proofs.Common.{◌≡◌, ℕ, zero, suc, ◌+◌, Bool, true, false, Option, Some, None, List, [], ◌∷◌, refl, sym, ap, subst, ◌∙◌, arith}
use Rattle.std.specs.Prelude.{not, ℤ, slice_get, slice_set}
use Rattle.std.specs.List.{list_all}
use Rattle.std.proofs.lemmas.Bool.{and_parts}
use Rattle.perm_tree.specs.declared.ast.Shape.{Shape}
use Rattle.perm_tree.specs.declared.ast.Ty.{Ty}
use Rattle.perm_tree.specs.Code.{UnitCode}
use Rattle.perm_tree.specs.Shapes.{same_shape}
use Rattle.perm_meaning.specs.Values.{Value, Number}
use Rattle.perm_meaning.specs.Names.{Name, same_name}
use Rattle.perm_meaning.specs.Objects.{Object, Objects, with_field_if, put}
use Rattle.perm_meaning.specs.Effects.{Store}
use Rattle.perm_meaning.specs.NamedHeap.{Held, Heap, stored}
use Rattle.perm_meaning.proofs.Leads.{none-some, some-inj}
use Rattle.perm_meaning.proofs.SameName.{together, name-true}
use Rattle.perm_core.specs.Regions.{OfField, Labels, is_absent, field_may_lead}
use Rattle.perm_core.specs.Picture.{length_fits, has_shape, value_fits, fields_fit, is_number, values_fit, object_fits}
use Rattle.perm_core.proofs.KeepsPicture.Labels.OtherHeaps.{KeepsShapes, object-more, after-keeps}

module _ (u : UnitCode) (labels : Labels) (h : Objects Name) where
  -- a field takes a value that fits it
  pub fields-set : (o : Name) (g f : ℕ) (ts : List Ty) (vs : List (Value Name)) (t : Ty) (v : Value Name) → slice_get ts f ≡ Some t
      → ((k : ℕ) → k ≡ g + f → value_fits h (λ p n. field_may_lead p (OfField o k) (labels o) (labels n)) t v ≡ true) → fields_fit u labels h o g ts vs ≡ true → fields_fit u labels h o g ts (slice_set vs f v) ≡ true
  fields-set o g f [] vs t v is fits e = none-some is
  fields-set o g f (s ∷ ts) [] t v is fits e = absurd (let no : ⊥ = cc e in no)
  fields-set o g zero (s ∷ ts) (a ∷ vs) t v is fits e =
      together (value_fits h (λ p n. field_may_lead p (OfField o g) (labels o) (labels n)) s v) (fields_fit u labels h o (suc g) ts vs)
      (subst (λ (r : Ty). value_fits h (λ p n. field_may_lead p (OfField o g) (labels o) (labels n)) r v ≡ true) (sym (some-inj is)) (fits g (omega arith)))
      (and_parts (value_fits h (λ p n. field_may_lead p (OfField o g) (labels o) (labels n)) s a) (fields_fit u labels h o (suc g) ts vs) e).1
  fields-set o g (suc f) (s ∷ ts) (a ∷ vs) t v is fits e =
      let p = and_parts (value_fits h (λ p n. field_may_lead p (OfField o g) (labels o) (labels n)) s a) (fields_fit u labels h o (suc g) ts vs) e in
      together (value_fits h (λ p n. field_may_lead p (OfField o g) (labels o) (labels n)) s a) (fields_fit u labels h o (suc g) ts (slice_set vs f v)) p.0
      (fields-set o (suc g) f ts vs t v is (λ k q. fits k (omega (arith, q))) p.1)

  -- an element takes a number
  pub numbers-set : (vs : List (Value Name)) (f : ℕ) (n : ℤ) → list_all (is_number u labels h) vs ≡ true → list_all (is_number u labels h) (slice_set vs f (Number n)) ≡ true
  numbers-set [] f n e = refl
  numbers-set (a ∷ vs) zero n e = (and_parts (is_number u labels h a) (list_all (is_number u labels h) vs) e).1
  numbers-set (a ∷ vs) (suc f) n e =
      let p = and_parts (is_number u labels h a) (list_all (is_number u labels h) vs) e in
      together (is_number u labels h a) (list_all (is_number u labels h) (slice_set vs f (Number n))) p.0 (numbers-set vs f n p.1)

-- all objects fit after a store that one of them fits after
module _ (u : UnitCode) (labels : Labels) (h : Objects Name) (r : Name) (f : ℕ) (d : Value Name) (kept : KeepsShapes labels labels h (put same_name h r f d)) where
  abbrev more : Objects Name
  more = put same_name h r f d

  pub put-objects : ((o : Object Name) → h r ≡ Some o → values_fit u labels more r o.shape o.values ≡ true → values_fit u labels more r o.shape (slice_set o.values f d) ≡ true)
      → ((n : Name) → object_fits u labels h n (h n) ≡ true) → (n : Name) → object_fits u labels more n (more n) ≡ true
  put-objects changes all n = by_name (same_name n r) refl
    where
      by_name : (t : Bool) → same_name n r ≡ t → object_fits u labels more n (with_field_if t f d (h n)) ≡ true
      by_name true q = go (h n) refl (all n)
        where
          same : n ≡ r
          same = name-true n r q

          go : (o : Option (Object Name)) → h n ≡ o → object_fits u labels h n o ≡ true → object_fits u labels more n (with_field_if true f d o) ≡ true
          go None here e = e
          go (Some o) here e =
              let p = and_parts (not (is_absent (labels n))) (values_fit u labels more n o.shape o.values) (object-more u labels labels h more kept n o refl e) in
              together (not (is_absent (labels n))) (values_fit u labels more n o.shape (slice_set o.values f d)) p.0
              (subst (λ (m : Name). values_fit u labels more m o.shape (slice_set o.values f d) ≡ true) (sym same)
              (changes o (ap h (sym same) ∙ here) (subst (λ (m : Name). values_fit u labels more m o.shape o.values ≡ true) same p.1)))
      by_name false q = go (h n) (all n)
        where
          go : (o : Option (Object Name)) → object_fits u labels h n o ≡ true → object_fits u labels more n o ≡ true
          go None e = e
          go (Some o) e = object-more u labels labels h more kept n o refl e

-- an object of which a shape is told has it
pub told-shape : (h : Objects Name) (r : Name) (o : Object Name) (s : Shape) (len : ℕ) → h r ≡ Some o → has_shape (h r) s len ≡ true → same_shape o.shape s ≡ true
told-shape h r o s len here e = (and_parts (same_shape o.shape s) (length_fits s _ len) (sym (ap (λ x. has_shape x s len) here) ∙ e)).0

-- a store keeps the shapes of what is there
pub store-keeps : (u : UnitCode) (labels : Labels) (heap : Heap) (r : Name) (f : ℕ) (v : Held) → KeepsShapes labels labels heap.objects (stored v r f heap).objects
store-keeps u labels heap r f v = after-keeps u (λ n. true) (Store r f v) labels heap (λ by s n e. absurd (let no : ⊥ = cc e in no))
