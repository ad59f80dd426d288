-- What the heap of names answers is what the numbered one does, and both are tied after it.
use Rattle.std.proofs.Common.{◌≡◌, ◌∙◌, ℕ, zero, suc, ◌+◌, ◌<◌, ◌≤◌, ◌⊎◌, inl, inr, Bool, true, false, List, [], ◌∷◌, ◌++◌, length, Option, Some, None, refl, sym, ap, subst, arith, cond, le_refl, length-append}
use Rattle.std.specs.Prelude.{map, nat_eq, nat_le, option_map, slice_get, slice_set}
use Rattle.std.proofs.lemmas.Bool.Decides.{nat_tests}
use Rattle.std.proofs.lemmas.Option.{slice_get-map}
use Rattle.perm_tree.specs.declared.ast.Shape.{Shape}
use Rattle.perm_tree.specs.declared.ast.Shape.TheVariants.{Class, Array}
use Rattle.perm_tree.specs.Code.{UnitCode}
use Rattle.perm_tree.proofs.HeldStatements.{element-there}
use Rattle.perm_meaning.specs.declared.eval.answers.Answer as answer
use Rattle.perm_meaning.specs.declared.eval.answers.Answer.TheVariants as answers
use Rattle.perm_meaning.specs.declared.eval.asks.Ask.{Ask}
use Rattle.perm_meaning.specs.declared.eval.asks.Ask.TheVariants as asks
use Rattle.perm_meaning.specs.declared.eval.values.Value.{Value}
use Rattle.perm_meaning.specs.declared.eval.values.Value.TheVariants as held
use Rattle.perm_meaning.specs.Evaluator.Asks.{op_by}
use Rattle.perm_meaning.specs.Effects.{Load, Make, Store, Take, Tick}
use Rattle.perm_meaning.specs.NamedHeap.{Heap, Held, allocated, found, found_nothing, stored}
use Rattle.perm_meaning.specs.Names.{Name, Mark, after_object, next_name, same_name}
use Rattle.perm_meaning.specs.Evaluator.NumberedValues.{value_by, Names}
use Rattle.perm_meaning.specs.Objects.{add, field_types, first_values, length_of, new_object, size}
use Rattle.perm_meaning.specs.Evaluator.NumberedHeap.{found_there, found_value, put_at, put_in, value_at, value_of_object, Answers, AreApart, IsStored, MakesOne, StartsAs, Stored}
use Rattle.perm_meaning.specs.Evaluator.Ties.{next_mark, AreSame, AreTied, AskBelow, FieldsBelow, Grows, Heard, IsBelow}
use Rattle.perm_meaning.specs.Steps.{Answer, Found, Refused}
use Rattle.perm_meaning.specs.Evaluator.UnbornNames.{AreUnborn}
use Rattle.perm_meaning.specs.Values as values
use Rattle.perm_meaning.proofs.Leads.{none-some, some-inj}
use Rattle.perm_meaning.proofs.Evaluator.NumberedHeap.{found-field, last-or, set-length, stored-field, stored-new, within}
use Rattle.perm_meaning.proofs.Evaluator.Ties.Below.{value-below, value-more, values-same}
use Rattle.perm_meaning.proofs.Evaluator.UnbornNames.{next-unborn, put-unborn, still-unborn}

-- ---------- values that are put ----------
-- what stands in a list after one element is set was set, or stood there
set-or : {A : Type 0} (xs : List A) (i : ℕ) (y x : A) (j : ℕ) → slice_get (slice_set xs i y) j ≡ Some x → (y ≡ x) ⊎ (slice_get xs j ≡ Some x)
set-or [] i y x j e = inr e
set-or (z ∷ xs) zero y x zero e = inl (some-inj e)
set-or (z ∷ xs) zero y x (suc j) e = inr e
set-or (z ∷ xs) (suc i) y x zero e = inr e
set-or (z ∷ xs) (suc i) y x (suc j) e = set-or xs i y x j e

-- putting a value makes no object
put-length : (objects : List (List Value)) (r f : ℕ) (v : Value) → length (put_at objects r f v) ≡ length objects
put-length objects r f v = go (slice_get objects r)
  where
    go : (o : Option (List Value)) → length (put_in objects r o f v) ≡ length objects
    go None = refl
    go (Some o) = set-length objects r (slice_set o f v)

-- what an object holds after a value is put was put, or was held before
put-or : (objects : List (List Value)) (r f : ℕ) (v w : Value) (j g : ℕ) → value_at (put_at objects r f v) j g ≡ Some w → (v ≡ w) ⊎ ((i : ℕ) × (value_at objects i g ≡ Some w))
put-or objects r f v w j g e = go (slice_get objects r) refl e
  where
    at : (o q : List Value) → slice_get objects r ≡ Some o → (slice_set o f v ≡ q) ⊎ (slice_get objects j ≡ Some q) → slice_get q g ≡ Some w → (v ≡ w) ⊎ ((i : ℕ) × (value_at objects i g ≡ Some w))
    at o q there (inr k) e = inr (j, ap (λ z. value_of_object z g) k ∙ e)
    at o q there (inl k) e = elim (set-or o f v w g (ap (λ z. slice_get z g) k ∙ e)) [
      | inl new ↦ inl new
      | inr old ↦ inr (r, ap (λ z. value_of_object z g) there ∙ old)
    ]

    among : (o : List Value) (z : Option (List Value)) → slice_get objects r ≡ Some o → slice_get (slice_set objects r (slice_set o f v)) j ≡ z → value_of_object z g ≡ Some w → (v ≡ w) ⊎ ((i : ℕ) × (value_at objects i g ≡ Some w))
    among o None there k e = none-some e
    among o (Some q) there k e = at o q there (set-or objects r (slice_set o f v) q j k) e

    go : (o : Option (List Value)) → slice_get objects r ≡ o → value_at (put_in objects r o f v) j g ≡ Some w → (v ≡ w) ⊎ ((i : ℕ) × (value_at objects i g ≡ Some w))
    go None there e = inr (j, e)
    go (Some o) there e = among o (slice_get (slice_set objects r (slice_set o f v)) j) there refl e

-- no object refers past the others after a value is put that doesn't
put-below : (n : ℕ) (objects : List (List Value)) (r f : ℕ) (v : Value) → FieldsBelow n objects → IsBelow n v → FieldsBelow n (put_at objects r f v)
put-below n objects r f v old new j g w e = elim (put-or objects r f v w j g e) [
  | inl same ↦ subst (IsBelow n) same new
  | inr there ↦ old there.0 g w there.1
]

-- ---------- other names ----------
-- the names of objects that are not there yet make no difference
pub renamed : (a b : Names) (s : Stored) (h : Heap) → AreSame (length s.objects) a b → AreTied a s h → AreTied b s h
renamed a b s h same tied = record {
  apart = λ i j x y e. tied.apart i j x y (same i x ∙ e ∙ sym (same j y));
  stored = record { objects = each; given = tied.stored.given };
  fields = tied.fields;
}
  where
    each : (r : ℕ) (o : List Value) → slice_get s.objects r ≡ Some o → (shape : Shape) × (h.objects (b r) ≡ Some (record { shape = shape; values = map (value_by b) o }))
    each r o e =
        let x = tied.stored.objects r o e in
        let kept = values-same (length s.objects) a b same o (λ f v k. tied.fields r f v (ap (λ z. value_of_object z f) e ∙ k)) in (
          x.0,
          ap (λ (q : Name). h.objects q) (sym (same r (within s.objects r o e))) ∙ x.1 ∙ ap (λ (vs : List (values.Value Name)). Some (record { shape = x.0; values = vs })) kept,
        )

module _ (u : UnitCode) (names : Names) (mark : Mark) (s : Stored) (h : Heap) (tied : AreTied names s h) (new : AreUnborn h.objects mark) where
  -- nothing has changed
  stays : Grows names mark s h names s h
  stays = record { more = le_refl (length s.objects); same = λ r lt. refl; limit = refl; gives = inl (λ m k. k); tied = tied }

  -- a value is put
  puts : (r f : ℕ) (v : Value) → r < length s.objects → IsBelow (length s.objects) v → Grows names mark s h names (record s { objects = put_at s.objects r f v }) (stored (Some (value_by names v)) (names r) f h)
  puts r f v lt below =
      let count = put-length s.objects r f v in record {
        more = omega (arith, count);
        same = λ r lt. refl;
        limit = refl;
        gives = inl (λ m k. put-unborn h.objects m (names r) f (value_by names v) k);
        tied = record {
          apart = λ i j x y e. tied.apart i j (omega (arith, count, x)) (omega (arith, count, y)) e;
          stored = stored-field names s h tied.stored tied.apart r f v lt;
          fields = subst (λ n. FieldsBelow n (put_at s.objects r f v)) (sym count) (put-below (length s.objects) s.objects r f v tied.fields below);
        };
      }

  -- nothing is asked
  heard-tick : Heard u Tick names mark mark s h s (answers.Found None)
  heard-tick = (names, record { grows = stays; found = refl; below = tt; unborn = new })

  -- a field is loaded
  heard-load : (r f : ℕ) → r < length s.objects → (o : Option Value) → value_at s.objects r f ≡ o → Heard u (Load (names r) f) names mark mark s h s (found_value o)
  heard-load r f lt None e = ap found (found-field names s h tied.stored r f lt ∙ ap (option_map (value_by names)) e)
  heard-load r f lt (Some v) e = (
    names,
    record { grows = stays; found = ap found (found-field names s h tied.stored r f lt ∙ ap (option_map (value_by names)) e); below = tied.fields r f v e; unborn = new },
  )

  -- a field is stored to
  heard-store : (r f : ℕ) (v : Value) → r < length s.objects → IsBelow (length s.objects) v → (o : Option Value) → value_at s.objects r f ≡ o
      → Heard u (Store (names r) f (Some (value_by names v))) names mark mark s h (record s { objects = put_at s.objects r f v }) (found_there o)
  heard-store r f v lt below None e = ap found_nothing (found-field names s h tied.stored r f lt ∙ ap (option_map (value_by names)) e)
  heard-store r f v lt below (Some w) e = (
    names,
    record {
      grows = puts r f v lt below;
      found = ap found_nothing (found-field names s h tied.stored r f lt ∙ ap (option_map (value_by names)) e);
      below = tt;
      unborn = put-unborn h.objects mark (names r) f (value_by names v) new;
    },
  )

  -- a field is swapped with null
  heard-take : (r f : ℕ) → r < length s.objects → (o : Option Value) → value_at s.objects r f ≡ o
      → Heard u (Take (names r) f) names mark mark s h (record s { objects = put_at s.objects r f held.Null }) (found_value o)
  heard-take r f lt None e = ap found (found-field names s h tied.stored r f lt ∙ ap (option_map (value_by names)) e)
  heard-take r f lt (Some v) e = (
    names,
    record {
      grows = puts r f held.Null lt tt;
      found = ap found (found-field names s h tied.stored r f lt ∙ ap (option_map (value_by names)) e);
      below = subst (λ n. IsBelow n v) (sym (put-length s.objects r f held.Null)) (tied.fields r f v e);
      unborn = put-unborn h.objects mark (names r) f values.Null new;
    },
  )

-- ---------- new objects ----------
-- the names with one more
abbrev pub one_more : ℕ → Name → Names → Names
one_more n name names r = cond (nat_eq r n) name (names r)

-- the older ones are kept
more-same : (n : ℕ) (name : Name) (names : Names) → AreSame n names (one_more n name names)
more-same n name names r lt = go (nat_eq r n) (grind (arith, nat_tests, lt))
  where
    go : (b : Bool) → b ≡ false → ◌≡◌ {A = Name} (names r) (cond b name (names r))
    go false e = refl
    go true e = absurd (cc)

-- the last one is new
more-last : (n : ℕ) (name : Name) (names : Names) → one_more n name names n ≡ name
more-last n name names = go (nat_eq n n) (grind (arith, nat_tests))
  where
    go : (b : Bool) → b ≡ true → ◌≡◌ {A = Name} (cond b name (names n)) name
    go true e = refl
    go false e = absurd (cc)

-- they are apart where no object has the last one
more-apart : (n : ℕ) (names : Names) → AreApart names n → ((r : ℕ) → r < n → names r ≡ names n → ⊥) → AreApart names (suc n)
more-apart n names apart other i j x y e = go (nat_eq i n) (nat_eq j n) refl refl
  where
    go : (a b : Bool) → nat_eq i n ≡ a → nat_eq j n ≡ b → i ≡ j
    go true true p q = grind (arith, nat_tests, p, q)
    go true false p q =
        let at : i ≡ n = grind (arith, nat_tests, p) in
        let lt : j < n = grind (arith, nat_tests, q, y) in absurd (other j lt (sym e ∙ ap names at))
    go false true p q =
        let at : j ≡ n = grind (arith, nat_tests, q) in
        let lt : i < n = grind (arith, nat_tests, p, x) in absurd (other i lt (e ∙ ap names at))
    go false false p q =
        let a : i < n = grind (arith, nat_tests, p, x) in
        let b : j < n = grind (arith, nat_tests, q, y) in apart i j a b e

-- an object that is there has no name that is new
there-not-new : (names : Names) (s : Stored) (h : Heap) (name : Name) → IsStored names s h → h.objects name ≡ None → (r : ℕ) → r < length s.objects → names r ≡ name → ⊥
there-not-new names s h name is gone r lt e = go (element-there s.objects r lt)
  where
    go : (o : List Value) × (slice_get s.objects r ≡ Some o) → ⊥
    go (o, there) = none-some (sym gone ∙ ap (λ (q : Name). h.objects q) (sym e) ∙ (is.objects r o there).1)

-- values that stand for the same by all names refer to nothing
pub fixed-below : (o : List Value) (ws : List (values.Value Name)) → ((names : Names) → map (value_by names) o ≡ ws) → (m f : ℕ) (v : Value) → slice_get o f ≡ Some v → IsBelow m v
fixed-below o ws fixed m f v e = value-below m v (λ a b same. some-inj (sym (at a) ∙ ap (λ (l : List (values.Value Name)). slice_get l f) (fixed a ∙ sym (fixed b)) ∙ at b))
  where
    at : (a : Names) → slice_get (map (value_by a) o) f ≡ Some (value_by a v)
    at a = slice_get-map (value_by a) o f ∙ ap (option_map (value_by a)) e

-- nor does any object past the others then
added-below : (objects : List (List Value)) (o : List Value) → FieldsBelow (length objects) objects → ((m f : ℕ) (v : Value) → slice_get o f ≡ Some v → IsBelow m v) → FieldsBelow (length (objects ++ o ∷ [])) (objects ++ o ∷ [])
added-below objects o old start r f v e = go (slice_get (objects ++ o ∷ []) r) refl e
  where
    go : (z : Option (List Value)) → slice_get (objects ++ o ∷ []) r ≡ z → value_of_object z f ≡ Some v → IsBelow (length (objects ++ o ∷ [])) v
    go None k e = none-some e
    go (Some q) k e = elim (last-or objects o q r k) [
      | inl there ↦ value-more (length objects) (length (objects ++ o ∷ [])) (omega (arith, length-append objects (o ∷ []))) v (old r f v (ap (λ z. value_of_object z f) there ∙ e))
      | inr last ↦ start (length (objects ++ o ∷ [])) f v (ap (λ (z : List Value). slice_get z f) last.1 ∙ e)
    ]

module _ (u : UnitCode) (shape : Shape) (n : ℕ) (names : Names) (mark : Mark) (s : Stored) (h : Heap) (tied : AreTied names s h) (new : AreUnborn h.objects mark) where
  -- the names with that of the new object
  abbrev pub later : Names
  later = one_more (length s.objects) (next_name mark) names

  -- the heap of names with the new object
  abbrev pub grown : Heap
  grown = record { objects = add same_name h.objects (next_name mark) (new_object u shape n); given = h.given + size n }

  -- the numbered one
  abbrev pub grown_by : List Value → Stored
  grown_by o = record s { objects = s.objects ++ o ∷ []; given = s.given + size n }

  same-later : AreSame (length s.objects) names later
  same-later = more-same (length s.objects) (next_name mark) names

  apart-later : AreApart later (suc (length s.objects))
  apart-later = more-apart (length s.objects) later (renamed names later s h same-later tied).apart
      (λ r lt e. there-not-new names s h (next_name mark) tied.stored (next-unborn h.objects mark new) r lt (same-later r lt ∙ e ∙ more-last (length s.objects) (next_name mark) names))

  -- both heaps are tied with the new object
  tied-new : (o : List Value) → StartsAs u shape n o → AreTied later (grown_by o) grown
  tied-new o start =
      let count : length (s.objects ++ o ∷ []) ≡ suc (length s.objects) = omega (arith, length-append s.objects (o ∷ [])) in record {
        apart = λ i j x y e. apart-later i j (omega (arith, count, x)) (omega (arith, count, y)) e;
        stored = subst (λ (q : Name). IsStored later (grown_by o) (record h { objects = add same_name h.objects q (new_object u shape n); given = h.given + size n })) (more-last (length s.objects) (next_name mark) names)
            (stored-new later s h (renamed names later s h same-later tied).stored apart-later o (new_object u shape n) (size n) (start later));
        fields = added-below s.objects o tied.fields (fixed-below o (first_values u shape n) start);
      }

  -- what the heap of names is where there is room
  has-room : (b alone : Bool) → b ≡ true → allocated b alone u mark shape n h ≡ grown
  has-room true alone e = refl
  has-room false alone e = absurd (cc)

  -- and what is found
  finds : (b : Bool) (x : Answer Held) → b ≡ true → cond b x Refused ≡ x
  finds true x e = refl
  finds false x e = absurd (cc)

  -- nothing, where there is none
  refuses : (b : Bool) (x : Answer Held) → b ≡ false → cond b x Refused ≡ Refused
  refuses false x e = refl
  refuses true x e = absurd (cc)

  grows-new : (o : List Value) → StartsAs u shape n o → Grows names mark s h later (grown_by o) grown
  grows-new o start = record {
    more = omega (arith, length-append s.objects (o ∷ []));
    same = same-later;
    limit = refl;
    gives = inr (new_object u shape n, refl);
    tied = tied-new o start;
  }

  room-is : s.given + size n ≤ s.limit → nat_le (h.given + size n) s.limit ≡ true
  room-is room = grind (arith, nat_tests, room, tied.stored.given)

  -- a new object is made
  heard-made : (o : List Value) → StartsAs u shape n o → s.given + size n ≤ s.limit
      → Heard u (Make mark shape n) names mark (after_object mark) s h (grown_by o) (answers.Found (Some (held.Reference (length s.objects) (length_of shape n))))
  heard-made o start room =
      let fits = room-is room in
      let now = sym (has-room (nat_le (h.given + size n) s.limit) (nat_le (size n) s.limit) fits) in (
        later,
        record {
          grows = subst (λ (k : Heap). Grows names mark s h later (grown_by o) k) now (grows-new o start);
          found = finds (nat_le (h.given + size n) s.limit) (Found (Some (values.Reference (next_name mark) (length_of shape n)))) fits
              ∙ ap (λ (q : Name). Found (Some (values.Reference q (length_of shape n)))) (sym (more-last (length s.objects) (next_name mark) names));
          below = omega (arith, length-append s.objects (o ∷ []));
          unborn = subst (λ (k : Heap). AreUnborn k.objects (after_object mark)) now (still-unborn h.objects mark (new_object u shape n) new);
        },
      )

  -- or refused
  heard-refused : (t : Stored) → s.limit < s.given + size n → Heard u (Make mark shape n) names mark (after_object mark) s h t answers.Refused
  heard-refused t full = refuses (nat_le (h.given + size n) s.limit) (Found (Some (values.Reference (next_name mark) (length_of shape n)))) (grind (arith, nat_tests, full, tied.stored.given))

  -- so is what the heap answers to a new object
  heard-make : (a : answer.Answer) (t : Stored) → MakesOne u shape n s a t → Heard u (Make mark shape n) names mark (after_object mark) s h t a
  heard-make a t (inl (is, full, kept)) = subst (Heard u (Make mark shape n) names mark (after_object mark) s h t) (sym is) (heard-refused t full)
  heard-make a t (inr (is, makes)) =
      subst (Heard u (Make mark shape n) names mark (after_object mark) s h t) (sym is)
      (subst (λ (k : Stored). Heard u (Make mark shape n) names mark (after_object mark) s h k (answers.Found (Some (held.Reference (length s.objects) (length_of shape n))))) (sym makes.after)
      (heard-made makes.values makes.start makes.room))

-- ---------- each answer ----------
-- what the heap of names answers is what the numbered heap answers, and both are tied after it
pub heard : (u : UnitCode) (names : Names) (mark : Mark) (s : Stored) (h : Heap) → AreTied names s h → AreUnborn h.objects mark → (q : Ask) → AskBelow (length s.objects) q → (a : answer.Answer) (t : Stored) → Answers u q s a t
    → Heard u (op_by u names mark q) names mark (next_mark q mark) s h t a
heard u names mark s h tied new asks.Tick b a t (is, same) =
    subst (Heard u Tick names mark mark s h t) (sym is) (subst (λ (k : Stored). Heard u Tick names mark mark s h k (answers.Found None)) (sym same) (heard-tick u names mark s h tied new))
heard u names mark s h tied new (asks.Load r f) b a t (is, same) =
    subst (Heard u (Load (names r) f) names mark mark s h t) (sym is)
    (subst (λ (k : Stored). Heard u (Load (names r) f) names mark mark s h k (found_value (value_at s.objects r f))) (sym same) (heard-load u names mark s h tied new r f b (value_at s.objects r f) refl))
heard u names mark s h tied new (asks.Store r f v) b a t (is, same) =
    subst (Heard u (Store (names r) f (Some (value_by names v))) names mark mark s h t) (sym is)
    (subst (λ (k : Stored). Heard u (Store (names r) f (Some (value_by names v))) names mark mark s h k (found_there (value_at s.objects r f))) (sym same)
    (heard-store u names mark s h tied new r f v b.0 b.1 (value_at s.objects r f) refl))
heard u names mark s h tied new (asks.Take r f) b a t (is, same) =
    subst (Heard u (Take (names r) f) names mark mark s h t) (sym is)
    (subst (λ (k : Stored). Heard u (Take (names r) f) names mark mark s h k (found_value (value_at s.objects r f))) (sym same) (heard-take u names mark s h tied new r f b (value_at s.objects r f) refl))
heard u names mark s h tied new (asks.Object c) b a t is = heard-make u (Class c) (length (field_types u c)) names mark s h tied new a t is
heard u names mark s h tied new (asks.Array n) b a t is = heard-make u Array n names mark s h tied new a t is
