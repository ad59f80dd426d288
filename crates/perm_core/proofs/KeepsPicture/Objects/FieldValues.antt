-- The values of an object that fits, one by one: each is of the type of its field, and an object whose values all are fits.
use Rattle.std.proofs.Common.{◌≡◌, ℕ, zero, suc, ◌+◌, true, false, Option, Some, None, List, [], ◌∷◌, length, refl, sym, ap, subst, ◌∙◌, arith}
use Rattle.std.specs.Prelude.{not, ℤ, slice_get}
use Rattle.std.specs.List.{list_all}
use Rattle.std.proofs.lemmas.Bool.{not-true, and_parts}
use Rattle.perm_tree.specs.declared.ast.Shape.TheVariants.{Class, Array}
use Rattle.perm_tree.specs.declared.ast.Ty.{Ty}
use Rattle.perm_tree.specs.Code.{Routine, UnitCode}
use Rattle.perm_tree.specs.Shapes.{same_shape}
use Rattle.perm_rules.specs.Parts.{field_among}
use Rattle.perm_meaning.specs.Values.{Value, Number, Truth, Null, Reference}
use Rattle.perm_meaning.specs.Names.{Name}
use Rattle.perm_meaning.specs.Objects.{Object, Objects, value_in, field_of}
use Rattle.perm_meaning.proofs.Leads.{none-some, some-inj}
use Rattle.perm_meaning.proofs.SameName.{together}
use Rattle.perm_core.specs.Regions.{OfField, Labels, is_absent, field_may_lead}
use Rattle.perm_core.specs.Picture.{context_if, context_of, length_fits, has_shape, value_fits, fields_fit, is_number, class_fits, values_fit, object_fits}
use Rattle.perm_core.proofs.KeepsPicture.Calls.Returns.{shape-true}

-- each method is checked by the classes of its unit
pub same-classes : (u : UnitCode) (m : ℕ) → (context_of u m).classes ≡ u.classes
same-classes u m = go (slice_get u.routines m)
  where
    go : (o : Option Routine) → (context_if u o).classes ≡ u.classes
    go None = refl
    go (Some r) = refl

-- ---------- fields one by one ----------
-- there is one value for each field, and each fits the type of its field
pub record FieldsFit (u : UnitCode) (labels : Labels) (h : Objects Name) (o : Name) (ts : List Ty) (vs : List (Value Name)) : Type 0 where
  pub lengths : length ts ≡ length vs
  pub each : (f : ℕ) (t : Ty) (v : Value Name) → slice_get ts f ≡ Some t → slice_get vs f ≡ Some v → value_fits h (λ p n. field_may_lead p (OfField o f) (labels o) (labels n)) t v ≡ true

module _ (u : UnitCode) (labels : Labels) (h : Objects Name) (o : Name) where
  -- a value of this type fits field f
  abbrev pub Fits : ℕ → Ty → Value Name → Type 0
  Fits f t v = value_fits h (λ p n. field_may_lead p (OfField o f) (labels o) (labels n)) t v ≡ true

  same-lengths : (i : ℕ) (ts : List Ty) (vs : List (Value Name)) → fields_fit u labels h o i ts vs ≡ true → length ts ≡ length vs
  same-lengths i [] [] e = refl
  same-lengths i [] (v ∷ vs) e = absurd (let no : ⊥ = cc e in no)
  same-lengths i (t ∷ ts) [] e = absurd (let no : ⊥ = cc e in no)
  same-lengths i (t ∷ ts) (v ∷ vs) e = ap (λ n. suc n) (same-lengths (suc i) ts vs (and_parts (value_fits h (λ p n. field_may_lead p (OfField o i) (labels o) (labels n)) t v) (fields_fit u labels h o (suc i) ts vs) e).1)

  from-number : (i : ℕ) (ts : List Ty) (vs : List (Value Name)) → fields_fit u labels h o i ts vs ≡ true → (f : ℕ) (t : Ty) (v : Value Name) → slice_get ts f ≡ Some t → slice_get vs f ≡ Some v → (g : ℕ) → g ≡ i + f → Fits g t v
  from-number i [] vs e f t v is has g q = none-some is
  from-number i (s ∷ ts) [] e f t v is has g q = none-some has
  from-number i (s ∷ ts) (a ∷ vs) e zero t v is has g q =
      let same : g ≡ i = omega (arith, q) in
      let first = (and_parts (value_fits h (λ p n. field_may_lead p (OfField o i) (labels o) (labels n)) s a) (fields_fit u labels h o (suc i) ts vs) e).0 in
      subst (λ (j : ℕ). Fits j t v) (sym same) (subst (λ (b : Value Name). Fits i t b) (some-inj has) (subst (λ (b : Ty). Fits i b a) (some-inj is) first))
  from-number i (s ∷ ts) (a ∷ vs) e (suc f) t v is has g q =
      from-number (suc i) ts vs (and_parts (value_fits h (λ p n. field_may_lead p (OfField o i) (labels o) (labels n)) s a) (fields_fit u labels h o (suc i) ts vs) e).1 f t v is has g (omega (arith, q))

  -- what is known of fields that fit
  pub fields-each : (ts : List Ty) (vs : List (Value Name)) → fields_fit u labels h o 0 ts vs ≡ true → FieldsFit u labels h o ts vs
  fields-each ts vs e = record { lengths = same-lengths 0 ts vs e; each = λ f t v is has. from-number 0 ts vs e f t v is has f (omega arith) }

  to-number : (i : ℕ) (ts : List Ty) (vs : List (Value Name)) → length ts ≡ length vs → ((f : ℕ) (t : Ty) (v : Value Name) → slice_get ts f ≡ Some t → slice_get vs f ≡ Some v → (g : ℕ) → g ≡ i + f → Fits g t v) → fields_fit u labels h o i ts vs ≡ true
  to-number i [] [] e all = refl
  to-number i [] (v ∷ vs) e all = absurd (let no : 0 ≡ suc (length vs) = e in omega (arith, no))
  to-number i (t ∷ ts) [] e all = absurd (let no : suc (length ts) ≡ 0 = e in omega (arith, no))
  to-number i (t ∷ ts) (v ∷ vs) e all =
      let less : suc (length ts) ≡ suc (length vs) = e in
      together (value_fits h (λ p n. field_may_lead p (OfField o i) (labels o) (labels n)) t v) (fields_fit u labels h o (suc i) ts vs)
      (all zero t v refl refl i (omega arith))
      (to-number (suc i) ts vs (omega (arith, less)) (λ f s a is has g q. all (suc f) s a is has g (omega (arith, q))))

  -- and the other way round
  pub each-fields : (ts : List Ty) (vs : List (Value Name)) → FieldsFit u labels h o ts vs → fields_fit u labels h o 0 ts vs ≡ true
  each-fields ts vs d = to-number 0 ts vs d.lengths (λ f t v is has g q. let same : g ≡ f = omega (arith, q) in subst (λ (j : ℕ). Fits j t v) (sym same) (d.each f t v is has))

  -- ---------- objects ----------
  -- what is known of an object of a class: it is there, with the fields of the class
  pub record IsOfClass (k : ℕ) : Type 0 where
    pub object : Object Name
    pub types : List Ty
    pub here : h o ≡ Some object
    pub shape : object.shape ≡ Class k
    pub class : slice_get u.classes k ≡ Some types
    pub label : is_absent (labels o) ≡ false
    pub fields : FieldsFit u labels h o types object.values

  pub of-class : (k len : ℕ) → object_fits u labels h o (h o) ≡ true → has_shape (h o) (Class k) len ≡ true → IsOfClass k
  of-class k len = go (h o) refl
    where
      classed : (x : Object Name) → h o ≡ Some x → x.shape ≡ Class k → is_absent (labels o) ≡ false → (ts : Option (List Ty)) → slice_get u.classes k ≡ ts → class_fits u labels h o ts x.values ≡ true → IsOfClass k
      classed x q s there None i e = absurd (let no : ⊥ = cc e in no)
      classed x q s there (Some ts) i e = record { object = x; types = ts; here = q; shape = s; class = i; label = there; fields = fields-each ts x.values e }

      go : (x : Option (Object Name)) → h o ≡ x → object_fits u labels h o x ≡ true → has_shape x (Class k) len ≡ true → IsOfClass k
      go None q fits shaped = absurd (let no : ⊥ = cc shaped in no)
      go (Some x) q fits shaped =
          let p = and_parts (not (is_absent (labels o))) (values_fit u labels h o x.shape x.values) fits in
          let s = shape-true x.shape (Class k) (and_parts (same_shape x.shape (Class k)) (length_fits (Class k) (length x.values) len) shaped).0 in
          classed x q s (not-true (is_absent (labels o)) p.0) (slice_get u.classes k) refl (sym (ap (λ s. values_fit u labels h o s x.values) s) ∙ p.1)

  -- what a field of it holds fits the type of the field
  pub field-fits : (k len f : ℕ) (t : Ty) (v : Value Name) → object_fits u labels h o (h o) ≡ true → has_shape (h o) (Class k) len ≡ true → field_among (slice_get u.classes k) f ≡ Some t → field_of h o f ≡ Some v → Fits f t v
  field-fits k len f t v fits shaped field found =
      let x = of-class k len fits shaped in
      x.fields.each f t v (sym (ap (λ ts. field_among ts f) x.class) ∙ field) (sym (ap (λ y. value_in y f) x.here) ∙ found)

  numbered : (vs : List (Value Name)) (f : ℕ) (v : Value Name) → list_all (is_number u labels h) vs ≡ true → slice_get vs f ≡ Some v → is_number u labels h v ≡ true
  numbered [] f v e q = none-some q
  numbered (a ∷ vs) zero v e q = sym (ap (λ b. is_number u labels h b) (some-inj q)) ∙ (and_parts (is_number u labels h a) (list_all (is_number u labels h) vs) e).0
  numbered (a ∷ vs) (suc f) v e q = numbered vs f v (and_parts (is_number u labels h a) (list_all (is_number u labels h) vs) e).1 q

  -- the elements of an array are numbers
  pub item-fits : (len f : ℕ) (v : Value Name) → object_fits u labels h o (h o) ≡ true → has_shape (h o) Array len ≡ true → field_of h o f ≡ Some v → (n : ℤ) × (v ≡ Number n)
  item-fits len f v = go (h o)
    where
      number : (v : Value Name) → is_number u labels h v ≡ true → (n : ℤ) × (v ≡ Number n)
      number (Number n) e = (n, refl)
      number (Truth b) e = absurd (let no : ⊥ = cc e in no)
      number Null e = absurd (let no : ⊥ = cc e in no)
      number (Reference r n) e = absurd (let no : ⊥ = cc e in no)

      go : (x : Option (Object Name)) → object_fits u labels h o x ≡ true → has_shape x Array len ≡ true → value_in x f ≡ Some v → (n : ℤ) × (v ≡ Number n)
      go None fits shaped found = none-some found
      go (Some x) fits shaped found =
          let p = and_parts (not (is_absent (labels o))) (values_fit u labels h o x.shape x.values) fits in
          let s = shape-true x.shape Array (and_parts (same_shape x.shape Array) (length_fits Array (length x.values) len) shaped).0 in
          number v (numbered x.values f v (sym (ap (λ s. values_fit u labels h o s x.values) s) ∙ p.1) found)
