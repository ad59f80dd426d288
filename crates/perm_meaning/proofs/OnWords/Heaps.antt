-- The heap of words goes on showing that of names.
use Rattle.std.proofs.Common.{◌≡◌, ℕ, zero, suc, ◌+◌, ◌<◌, ◌≤◌, max, Bool, true, false, Option, Some, None, List, [], ◌∷◌, length, ◌⊎◌, inl, inr, refl, sym, ap, ◌∙◌, subst, arith}
use Rattle.std.specs.Prelude.{nat_eq, slice_get, slice_set}
use Rattle.std.proofs.lemmas.Option.{slice_get_within}
use Rattle.std.proofs.lemmas.List.{length-set}
use Rattle.perm_meaning.specs.Values.{Value, Number, Truth, Null, Reference}
use Rattle.perm_meaning.specs.Names.{Name, same_name}
use Rattle.perm_meaning.specs.Objects.{Object, value_in, field_of, with_field, with_field_if, put}
use Rattle.perm_meaning.specs.NamedHeap.{Heap, Held}
use Rattle.perm_meaning.specs.WordHeap.{Cells, word_or, write}
use Rattle.perm_meaning.specs.Shows.{Bases, Grows, IsWordOf, IsWithin, HeapShown}
use Rattle.perm_meaning.proofs.Leads.{some-inj, none-some}
use Rattle.perm_meaning.proofs.SameName.{eq-true, eq-false, name-true, name-false}

-- ---------- words ----------
-- what a word shows, it goes on showing
pub word-grows : (b c : Bases) → Grows b c → (v : Held) (w : ℕ) → IsWordOf b v w → IsWordOf c v w
word-grows b c g None w h = tt
word-grows b c g (Some (Number n)) w h = h
word-grows b c g (Some (Truth t)) w h = h
word-grows b c g (Some Null) w h = h
word-grows b c g (Some (Reference r len)) w h = (h.0, g r h.0 h.1, h.2, h.3, h.4)

-- the word at the place
at-place : (i at w old : ℕ) → i ≡ at → word_or (nat_eq i at) w old ≡ w
at-place i at w old e = go (nat_eq i at) refl
  where
    go : (t : Bool) → nat_eq i at ≡ t → word_or t w old ≡ w
    go true q = refl
    go false q = absurd (eq-false i at q e)

-- the words at other places
elsewhere : (i at w old : ℕ) → (i ≡ at → ⊥) → word_or (nat_eq i at) w old ≡ old
elsewhere i at w old n = go (nat_eq i at) refl
  where
    go : (t : Bool) → nat_eq i at ≡ t → word_or t w old ≡ old
    go true q = absurd (n (eq-true i at q))
    go false q = refl

-- a field lies within its object
within : (o : Object Name) (f k : ℕ) (v : Value Name) → slice_get o.values f ≡ Some v → IsWithin (k + f) k o
within o f k v e = let h = slice_get_within o.values f v e in (omega arith, omega arith)

-- an object whose field is there is there
holder-of : (o : Option (Object Name)) (f : ℕ) (v : Value Name) → value_in o f ≡ Some v → (q : Object Name) × (o ≡ Some q) × (slice_get q.values f ≡ Some v)
holder-of None f v e = none-some e
holder-of (Some q) f v e = (q, refl, e)

-- ---------- a store ----------
module _ (b : Bases) (h : Heap) (c : Cells) (s : HeapShown b h c) (r : Name) (k f w : ℕ) (new old : Value Name) (at : b r ≡ Some k) (is : IsWordOf b (Some new) w) (there : field_of h.objects r f ≡ Some old) where
  -- the object that is stored to
  target : (o : Object Name) × (h.objects r ≡ Some o) × (slice_get o.values f ≡ Some old)
  target = holder-of (h.objects r) f old there

  -- objects keep their sizes
  back : (t : Bool) (x : Option (Object Name)) (o : Object Name) → with_field_if t f new x ≡ Some o → (q : Object Name) × (x ≡ Some q) × (length o.values ≡ length q.values)
  back true None o e = none-some e
  back true (Some q) o e = (q, refl, ap (λ z. length z.values) (sym (some-inj e)) ∙ length-set q.values f new)
  back false x o e = (o, e, refl)

  -- and none is lost
  on : (t : Bool) (x : Option (Object Name)) (o : Object Name) → x ≡ Some o → (q : Object Name) × (with_field_if t f new x ≡ Some q)
  on true None o e = none-some e
  on true (Some q) o e = (record q { values = slice_set q.values f new }, refl)
  on false x o e = (o, e)

  -- no other object has that place
  not-there : (n : Name) (l at_n : ℕ) (o : Object Name) → b n ≡ Some l → h.objects n ≡ Some o → IsWithin at_n l o → (n ≡ r → ⊥) → at_n ≡ k + f → ⊥
  not-there n l at_n o p q i d e = d (s.apart n r l k at_n o target.0 p at q target.1 i (subst (λ z. IsWithin z k target.0) (sym e) (within target.0 f k old target.2)))

  field-set : (vs : List (Value Name)) (g : ℕ) (v : Value Name) → slice_get (slice_set vs f new) g ≡ Some v → ((g ≡ f) × (new ≡ v)) ⊎ ((g ≡ f → ⊥) × (slice_get vs g ≡ Some v))
  field-set vs g v e = go vs f g v e
    where
      go : (vs : List (Value Name)) (f g : ℕ) (v : Value Name) → slice_get (slice_set vs f new) g ≡ Some v → ((g ≡ f) × (new ≡ v)) ⊎ ((g ≡ f → ⊥) × (slice_get vs g ≡ Some v))
      go [] f g v e = none-some e
      go (x ∷ xs) zero zero v e = inl (refl, some-inj e)
      go (x ∷ xs) zero (suc g) v e = inr ((λ q. omega arith), e)
      go (x ∷ xs) (suc f) zero v e = inr ((λ q. omega arith), e)
      go (x ∷ xs) (suc f) (suc g) v e = up (go xs f g v e)
        where
          up : ((g ≡ f) × (new ≡ v)) ⊎ ((g ≡ f → ⊥) × (slice_get xs g ≡ Some v)) → ((suc g ≡ suc f) × (new ≡ v)) ⊎ ((suc g ≡ suc f → ⊥) × (slice_get xs g ≡ Some v))
          up (inl z) = inl (ap (λ n. suc n) z.0, z.1)
          up (inr z) = inr ((λ q. z.0 (omega arith)), z.1)

  field-at : (n : Name) (l g : ℕ) (v : Value Name) → b n ≡ Some l → (t : Bool) → same_name n r ≡ t → value_in (with_field_if t f new (h.objects n)) g ≡ Some v → IsWordOf b (Some v) (word_or (nat_eq (l + g) (k + f)) w (c.word (l + g)))
  field-at n l g v p false d e =
      let o = holder-of (h.objects n) g v e in
      subst (λ z. IsWordOf b (Some v) z) (sym (elsewhere (l + g) (k + f) w (c.word (l + g)) (λ q. not-there n l (l + g) o.0 p o.1 (within o.0 g l v o.2) (name-false n r d) q))) (s.fields n l g v p e)
  field-at n l g v p true d e = go (h.objects n) refl e
    where
      same_base : l ≡ k
      same_base = some-inj (sym p ∙ ap b (name-true n r d) ∙ at)

      go : (x : Option (Object Name)) → h.objects n ≡ x → value_in (with_field f new x) g ≡ Some v → IsWordOf b (Some v) (word_or (nat_eq (l + g) (k + f)) w (c.word (l + g)))
      go None q e = none-some e
      go (Some o) q e = which (field-set o.values g v e)
        where
          which : ((g ≡ f) × (new ≡ v)) ⊎ ((g ≡ f → ⊥) × (slice_get o.values g ≡ Some v)) → IsWordOf b (Some v) (word_or (nat_eq (l + g) (k + f)) w (c.word (l + g)))
          which (inl z) = subst (λ y. IsWordOf b (Some v) y) (sym (at-place (l + g) (k + f) w (c.word (l + g)) (omega (arith, same_base, z.0)))) (subst (λ y. IsWordOf b (Some y) w) z.1 is)
          which (inr z) =
              subst (λ y. IsWordOf b (Some v) y) (sym (elsewhere (l + g) (k + f) w (c.word (l + g)) (λ e. z.0 (omega (arith, same_base, e)))))
              (s.fields n l g v p (ap (λ y. value_in y g) q ∙ z.1))

  -- a place within an object after the store was within it before
  within-back : (i l : ℕ) (o q : Object Name) → length o.values ≡ length q.values → IsWithin i l o → IsWithin i l q
  within-back i l o q e x = subst (λ z. (l ≤ i) × (i < l + max 1 z)) e x

  pub stored : HeapShown b (record h { objects = put same_name h.objects r f new }) (write c (k + f) w)
  stored =
      record {
        given = s.given;
        based = λ n o e. s.based n (back (same_name n r) (h.objects n) o e).0 (back (same_name n r) (h.objects n) o e).1;
        made = λ n l p. (let x = s.made n l p in on (same_name n r) (h.objects n) x.0 x.1);
        fields = λ n l g v p e. field-at n l g v p (same_name n r) refl e;
        below = λ n l o p e. (let x = back (same_name n r) (h.objects n) o e in subst (λ z. l + max 1 z ≤ c.given) (sym x.2) (s.below n l x.0 p x.1));
        apart = λ n m l j i o q p p' e e' x x'.
            (let y = back (same_name n r) (h.objects n) o e in
            let y' = back (same_name m r) (h.objects m) q e' in
            s.apart n m l j i y.0 y'.0 p p' y.1 y'.1 (within-back i l o y.0 y.2 x) (within-back i j q y'.0 y'.2 x'));
        unused = λ i d.
            (let free : (n : Name) (l : ℕ) (o : Object Name) → b n ≡ Some l → h.objects n ≡ Some o → IsWithin i l o → ⊥ =
            λ n l o p e x. (let y = on (same_name n r) (h.objects n) o e in
            let z = back (same_name n r) (h.objects n) y.0 y.1 in
            d n l y.0 p y.1 (within-back i l o y.0 (ap (λ j. length j.values) (some-inj (sym e ∙ z.1)) ∙ sym z.2) x)) in
            elsewhere i (k + f) w (c.word i) (λ e. free r k target.0 at target.1 (subst (λ z. IsWithin z k target.0) (sym e) (within target.0 f k old target.2))) ∙ s.unused i free);
        filler = λ n l o p e q.
            (let y = back (same_name n r) (h.objects n) o e in
            elsewhere l (k + f) w (c.word l) (λ z. filled n l y.0 p y.1 (sym y.2 ∙ q) z) ∙ s.filler n l y.0 p y.1 (sym y.2 ∙ q));
      }
    where
      -- the place of a field isn't the word of an object without fields
      filled : (n : Name) (l : ℕ) (o : Object Name) → b n ≡ Some l → h.objects n ≡ Some o → length o.values ≡ 0 → l ≡ k + f → ⊥
      filled n l o p e q z =
          let x = slice_get_within target.0.values f old target.2 in
          not-there n l l o p e (omega arith, omega arith) (λ d. absurd (let y : o ≡ target.0 = some-inj (sym e ∙ ap h.objects d ∙ target.1) in let len : length o.values ≡ length target.0.values = ap (λ j. length j.values) y in omega (arith, len, q, x))) z
