-- Two operations that are granted and spare each other: each finds what it would find alone, and what both leave doesn't depend on their order.
use Rattle.std.proofs.Common.{◌≡◌, ℕ, zero, suc, ◌+◌, Bool, true, false, Option, Some, None, List, [], ◌∷◌, refl, sym, ap, ◌∙◌, arith, inl, inr}
use Rattle.std.specs.Prelude.{◌⊎◌, cond, slice_get, slice_set}
use Rattle.perm_tree.specs.Code.{UnitCode}
use Rattle.perm_meaning.specs.Values.{Value, Null, Reference}
use Rattle.perm_meaning.specs.Names.{Name, next_name, same_name}
use Rattle.perm_meaning.specs.Objects.{Object, size, new_object, length_of, value_in, field_of, with_field, with_field_if, this_or}
use Rattle.perm_meaning.specs.Effects.{Tick, Load, Store, Take, Make}
use Rattle.perm_meaning.specs.NamedHeap.{Heap, Op, has_room, found, found_nothing, find, allocated, after}
use Rattle.perm_meaning.specs.Steps.{Found, Refused}
use Rattle.perm_meaning.proofs.SameName.{name-true}
use Rattle.perm_core.specs.Core.{Writes, Touches}

-- the operation makes the object
abbrev pub Makes : Op → Name → Type 0
Makes (Make by shape n) r = next_name by ≡ r
Makes _ r = ⊥

-- it touches a field of the object, or makes it
abbrev pub IsOn : Op → Name → Type 0
IsOn o r = ((f : ℕ) × Touches o r f) ⊎ Makes o r

-- the first writes nothing that the second touches, and makes no object on which the second is
pub record Spares (o p : Op) : Type 0 where
  pub writes : (r : Name) (f : ℕ) → Writes o r f → Touches p r f → ⊥
  pub makes : (r : Name) → Makes o r → IsOn p r → ⊥

writes-touches : (o : Op) (r : Name) (f : ℕ) → Writes o r f → Touches o r f
writes-touches Tick r f h = h
writes-touches (Load m g) r f h = absurd h
writes-touches (Store m g v) r f h = h
writes-touches (Take m g) r f h = h
writes-touches (Make by shape n) r f h = h

-- ---------- one object ----------
sets-turned : {A : Type 0} (vs : List A) (f g : ℕ) (v w : A) → (f ≡ g → ⊥) → slice_set (slice_set vs f v) g w ≡ slice_set (slice_set vs g w) f v
sets-turned [] f g v w d = refl
sets-turned (x ∷ xs) zero zero v w d = absurd (d refl)
sets-turned (x ∷ xs) zero (suc g) v w d = refl
sets-turned (x ∷ xs) (suc f) zero v w d = refl
sets-turned (x ∷ xs) (suc f) (suc g) v w d = ap (λ z. x ∷ z) (sets-turned xs f g v w (λ e. d (ap (λ z. suc z) e)))

pub get-beside : {A : Type 0} (vs : List A) (f g : ℕ) (v : A) → (f ≡ g → ⊥) → slice_get (slice_set vs f v) g ≡ slice_get vs g
get-beside [] f g v d = refl
get-beside (x ∷ xs) zero zero v d = absurd (d refl)
get-beside (x ∷ xs) zero (suc g) v d = refl
get-beside (x ∷ xs) (suc f) zero v d = refl
get-beside (x ∷ xs) (suc f) (suc g) v d = get-beside xs f g v (λ e. d (ap (λ z. suc z) e))

-- what an operation does to an object: nothing, or where the test holds it sets a field or begins it
data Change : Type 0 where
  Stays : Change
  Sets : (t : Bool) (f : ℕ) (v : Value Name) → Change
  Begins : (t : Bool) (new : Object Name) → Change

abbrev changed : Change → Option (Object Name) → Option (Object Name)
changed Stays x = x
changed (Sets t f v) x = with_field_if t f v x
changed (Begins t new) x = this_or t new x

abbrev SetsField : Change → ℕ → Type 0
SetsField (Sets t f v) g = (t ≡ true) × (f ≡ g)
SetsField _ g = ⊥

abbrev IsBeginning : Change → Type 0
IsBeginning (Begins t new) = t ≡ true
IsBeginning _ = ⊥

-- the changes concern no field in common
record AreOfOthers (a b : Change) : Type 0 where
  fields : (f : ℕ) → SetsField a f → SetsField b f → ⊥
  begun : (f : ℕ) → SetsField a f → IsBeginning b → ⊥
  begins : (f : ℕ) → IsBeginning a → SetsField b f → ⊥
  one : IsBeginning a → IsBeginning b → ⊥

fields-turned : (x : Option (Object Name)) (f g : ℕ) (v w : Value Name) → (f ≡ g → ⊥) → with_field g w (with_field f v x) ≡ with_field f v (with_field g w x)
fields-turned None f g v w d = refl
fields-turned (Some o) f g v w d = ap (λ z. Some (record o { values = z })) (sets-turned o.values f g v w d)

changes-turned : (a b : Change) (x : Option (Object Name)) → AreOfOthers a b → changed b (changed a x) ≡ changed a (changed b x)
changes-turned Stays b x s = refl
changes-turned (Sets t f v) Stays x s = refl
changes-turned (Sets false f v) (Sets t g w) x s = refl
changes-turned (Sets true f v) (Sets false g w) x s = refl
changes-turned (Sets true f v) (Sets true g w) x s = fields-turned x f g v w (λ e. s.fields f (refl, refl) (refl, sym e))
changes-turned (Sets false f v) (Begins t new) x s = refl
changes-turned (Sets true f v) (Begins false new) x s = refl
changes-turned (Sets true f v) (Begins true new) x s = absurd (s.begun f (refl, refl) refl)
changes-turned (Begins t new) Stays x s = refl
changes-turned (Begins false new) (Sets t f v) x s = refl
changes-turned (Begins true new) (Sets false f v) x s = refl
changes-turned (Begins true new) (Sets true f v) x s = absurd (s.begins f refl (refl, refl))
changes-turned (Begins false new) (Begins t old) x s = refl
changes-turned (Begins true new) (Begins false old) x s = refl
changes-turned (Begins true new) (Begins true old) x s = absurd (s.one refl refl)

field-stays : (a : Change) (x : Option (Object Name)) (g : ℕ) → (SetsField a g → ⊥) → (IsBeginning a → ⊥) → value_in (changed a x) g ≡ value_in x g
field-stays Stays x g s b = refl
field-stays (Sets false f v) x g s b = refl
field-stays (Sets true f v) None g s b = refl
field-stays (Sets true f v) (Some o) g s b = get-beside o.values f g v (λ e. s (refl, e))
field-stays (Begins false new) x g s b = refl
field-stays (Begins true new) x g s b = absurd (b refl)

-- ---------- the heap ----------
module _ (u : UnitCode) (fits : ℕ → Bool) where
  -- the operation isn't a refused allocation
  abbrev pub IsGranted : Op → Heap → Type 0
  IsGranted (Make by shape n) h = has_room fits n h ≡ true
  IsGranted _ h = Unit {0}

  -- what it does to the object of this name
  abbrev change : Op → Name → Change
  change (Store r f (Some v)) n = Sets (same_name n r) f v
  change (Take r f) n = Sets (same_name n r) f Null
  change (Make by shape k) n = Begins (same_name n (next_name by)) (new_object u shape k)
  change _ n = Stays

  -- the words that it takes
  abbrev words : Op → ℕ
  words (Make by shape n) = size n
  words _ = 0

  sets-writes : (o : Op) (n : Name) (f : ℕ) → SetsField (change o n) f → Writes o n f
  sets-writes Tick n f h = h
  sets-writes (Load r g) n f h = h
  sets-writes (Store r g None) n f h = absurd h
  sets-writes (Store r g (Some v)) n f h = (sym (name-true n r h.0), h.1)
  sets-writes (Take r g) n f h = (sym (name-true n r h.0), h.1)
  sets-writes (Make by shape k) n f h = h

  begins-makes : (o : Op) (n : Name) → IsBeginning (change o n) → Makes o n
  begins-makes Tick n h = h
  begins-makes (Load r g) n h = h
  begins-makes (Store r g None) n h = h
  begins-makes (Store r g (Some v)) n h = h
  begins-makes (Take r g) n h = h
  begins-makes (Make by shape k) n h = sym (name-true n (next_name by) h)

  -- the heap after a granted operation
  abbrev left_by : Op → Heap → Heap
  left_by o h = record { objects = λ n. changed (change o n) (h.objects n); given = h.given + words o }

  no-more : (h : Heap) (o : Op) (is : words o ≡ 0) → h.given ≡ h.given + words o
  no-more h o is = omega (arith, is)

  after-granted : (o : Op) (h : Heap) → IsGranted o h → after u fits o h ≡ left_by o h
  after-granted Tick h g = λ i. record { objects = h.objects; given = no-more h Tick refl i }
  after-granted (Load r f) h g = λ i. record { objects = h.objects; given = no-more h (Load r f) refl i }
  after-granted (Store r f None) h g = λ i. record { objects = h.objects; given = no-more h (Store r f None) refl i }
  after-granted (Store r f (Some v)) h g = λ i. record { objects = (left_by (Store r f (Some v)) h).objects; given = no-more h (Store r f (Some v)) refl i }
  after-granted (Take r f) h g = λ i. record { objects = (left_by (Take r f) h).objects; given = no-more h (Take r f) refl i }
  after-granted (Make by shape n) h g = ap (λ t. allocated t (fits (size n)) u by shape n h) g

  -- ---------- two operations ----------
  others : (o p : Op) (n : Name) → Spares o p → Spares p o → AreOfOthers (change o n) (change p n)
  others o p n s t =
      record {
        fields = λ f a b. s.writes n f (sets-writes o n f a) (writes-touches p n f (sets-writes p n f b));
        begun = λ f a b. t.makes n (begins-makes p n b) (inl (f, writes-touches o n f (sets-writes o n f a)));
        begins = λ f a b. s.makes n (begins-makes o n a) (inl (f, writes-touches p n f (sets-writes p n f b)));
        one = λ a b. s.makes n (begins-makes o n a) (inr (begins-makes p n b));
      }

  pub operations-turned : (o p : Op) (h : Heap) → Spares o p → Spares p o → IsGranted o h → IsGranted p h → IsGranted p (after u fits o h) → IsGranted o (after u fits p h)
      → after u fits p (after u fits o h) ≡ after u fits o (after u fits p h)
  operations-turned o p h s t o_first p_first p_then o_then =
      after-granted p (after u fits o h) p_then ∙ ap (λ z. left_by p z) (after-granted o h o_first) ∙ both
      ∙ ap (λ z. left_by o z) (sym (after-granted p h p_first)) ∙ sym (after-granted o (after u fits p h) o_then)
    where
      given : h.given + words o + words p ≡ h.given + words p + words o
      given = omega arith

      both : left_by p (left_by o h) ≡ left_by o (left_by p h)
      both = λ i. record { objects = λ n. changes-turned (change o n) (change p n) (h.objects n) (others o p n s t) i; given = given i }

  -- a field that isn't written is found as before
  field-found : (o : Op) (h : Heap) (r : Name) (g : ℕ) → IsGranted o h → (Writes o r g → ⊥) → (Makes o r → ⊥) → field_of (after u fits o h).objects r g ≡ field_of h.objects r g
  field-found o h r g granted w m =
      ap (λ z. field_of z.objects r g) (after-granted o h granted) ∙ field-stays (change o r) (h.objects r) g (λ k. w (sets-writes o r g k)) (λ k. m (begins-makes o r k))

  pub found-as-before : (o p : Op) (h : Heap) → Spares o p → IsGranted o h → IsGranted p h → IsGranted p (after u fits o h) → find fits p (after u fits o h) ≡ find fits p h
  found-as-before o Tick h s g a b = refl
  found-as-before o (Load r f) h s g a b = ap (λ z. found z) (field-found o h r f g (λ w. s.writes r f w (refl, refl)) (λ m. s.makes r m (inl (f, (refl, refl)))))
  found-as-before o (Store r f v) h s g a b = ap (λ z. found_nothing z) (field-found o h r f g (λ w. s.writes r f w (refl, refl)) (λ m. s.makes r m (inl (f, (refl, refl)))))
  found-as-before o (Take r f) h s g a b = ap (λ z. found z) (field-found o h r f g (λ w. s.writes r f w (refl, refl)) (λ m. s.makes r m (inl (f, (refl, refl)))))
  found-as-before o (Make by shape n) h s g a b = ap (λ t. cond t (Found (Some (Reference (next_name by) (length_of shape n)))) Refused) (b ∙ sym a)
