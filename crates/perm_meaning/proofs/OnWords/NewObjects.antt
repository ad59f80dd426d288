-- A new object: the heap of words goes on showing that of names, and every operation of the one is one of the other.
use Rattle.std.proofs.Common.{◌≡◌, ℕ, zero, suc, ◌+◌, ◌<◌, ◌≤◌, ◌^◌, max, Bool, true, false, cond, Option, Some, None, List, [], ◌∷◌, length, ◌⊎◌, inl, inr, refl, sym, ap, ◌∙◌, subst, arith}
use Rattle.std.specs.Prelude.{slice_get, replicate, map, pos}
use Rattle.perm_tree.specs.declared.ast.Shape.{Shape}
use Rattle.perm_tree.specs.declared.ast.Shape.TheVariants.{Class, Array}
use Rattle.perm_tree.specs.declared.ast.Ty.{Ty}
use Rattle.perm_tree.specs.declared.ast.Ty.TheVariants.{Long, Bool as Boolean, Ref}
use Rattle.perm_tree.specs.Code.{UnitCode}
use Rattle.perm_meaning.specs.Values.{Value, Number, Truth, Null, Reference}
use Rattle.perm_meaning.specs.Words.{reference_word}
use Rattle.perm_meaning.specs.Names.{Name, Mark, next_name, same_name}
use Rattle.perm_meaning.specs.Objects.{Object, size, object_size, zero_of, field_types, first_values, new_object, length_of, value_in, field_of, this_or, add}
use Rattle.perm_meaning.specs.Effects.{Tick, Load, Store, Take, Make}
use Rattle.perm_meaning.specs.NamedHeap as named
use Rattle.perm_meaning.specs.NamedHeap.{Heap, Held, allocated}
use Rattle.perm_meaning.specs.WordHeap as worded
use Rattle.perm_meaning.specs.WordHeap.{Cells}
use Rattle.perm_meaning.specs.Steps.{Answer, Found, Refused}
use Rattle.perm_meaning.specs.Shows.{Bases, Grows, IsWordOf, IsAskOf, IsWithin, HeapShown}
use Rattle.perm_meaning.proofs.Leads.{some-inj, none-some}
use Rattle.perm_meaning.proofs.SameName.{name-true, name-itself}
use Rattle.perm_meaning.proofs.OnWords.Simulate.{AnsweredR}
use Rattle.perm_meaning.proofs.OnWords.Heaps.{word-grows, stored}

-- ---------- first values ----------
-- what a field starts as is the word 0
abbrev IsZero : Value Name → Type 0
IsZero (Number n) = n ≡ pos 0
IsZero (Truth b) = b ≡ false
IsZero Null = Unit {0}
IsZero (Reference r len) = ⊥

zero-word : (b : Bases) (v : Value Name) → IsZero v → IsWordOf b (Some v) 0
zero-word b (Number n) h = (h, omega arith)
zero-word b (Truth false) h = refl
zero-word b (Truth true) h = absurd (cc)
zero-word b Null h = refl
zero-word b (Reference r len) h = absurd h

type-zero : (t : Ty) → IsZero (zero_of t)
type-zero Long = refl
type-zero Boolean = refl
type-zero (Ref p k) = tt

types-zero : (ts : List Ty) (f : ℕ) (v : Value Name) → slice_get (map zero_of ts) f ≡ Some v → IsZero v
types-zero [] f v e = none-some e
types-zero (t ∷ ts) zero v e = subst IsZero (some-inj e) (type-zero t)
types-zero (t ∷ ts) (suc f) v e = types-zero ts f v e

abbrev zero_number : Value Name
zero_number = Number (pos 0)

numbers-zero : (n f : ℕ) (v : Value Name) → slice_get (replicate n zero_number) f ≡ Some v → IsZero v
numbers-zero zero f v e = none-some e
numbers-zero (suc n) zero v e = subst IsZero (some-inj e) refl
numbers-zero (suc n) (suc f) v e = numbers-zero n f v e

first-zero : (u : UnitCode) (shape : Shape) (n f : ℕ) (v : Value Name) → slice_get (first_values u shape n) f ≡ Some v → IsZero v
first-zero u Array n f v e = numbers-zero n f v e
first-zero u (Class k) n f v e = types-zero (field_types u k) f v e

-- ---------- a making ----------
-- a base of its own, or the one that was there
abbrev pub base_or : Bool → ℕ → Option ℕ → Option ℕ
base_or true new old = Some new
base_or false new old = old

module _ (u : UnitCode) (b : Bases) (h : Heap) (c : Cells) (s : HeapShown b h c) (r : Name) (shape : Shape) (n : ℕ) (fresh : h.objects r ≡ None) (long : length (first_values {R = Name} u shape n) ≡ n) where
  -- the bases with the new one
  abbrev pub based : Bases
  based m = base_or (same_name m r) c.given (b m)

  abbrev object : Object Name
  object = new_object u shape n

  -- the new name had no base
  no-base : (k : ℕ) → b r ≡ Some k → ⊥
  no-base k p = let x = s.made r k p in none-some (sym fresh ∙ x.1)

  -- each object keeps its base
  grown : (m : Name) (k : ℕ) (t : Bool) → same_name m r ≡ t → b m ≡ Some k → base_or t c.given (b m) ≡ Some k
  grown m k true d p = absurd (no-base k (ap b (sym (name-true m r d)) ∙ p))
  grown m k false d p = p

  pub grows : Grows b based
  grows m k p = grown m k (same_name m r) refl p

  -- the new one's
  pub itself : (t : Bool) → t ≡ true → base_or t c.given (b r) ≡ Some c.given
  itself true e = refl
  itself false e = absurd (cc)

  -- an object is the new one or an older one
  place : (m : Name) (k : ℕ) (o : Object Name) (t : Bool) → same_name m r ≡ t → base_or t c.given (b m) ≡ Some k → this_or t object (h.objects m) ≡ Some o → ((m ≡ r) × (c.given ≡ k) × (object ≡ o)) ⊎ ((b m ≡ Some k) × (h.objects m ≡ Some o))
  place m k o true d p e = inl (name-true m r d, some-inj p, some-inj e)
  place m k o false d p e = inr (p, e)

  placed : (m : Name) (k : ℕ) (o : Object Name) → based m ≡ Some k → add same_name h.objects r object m ≡ Some o → ((m ≡ r) × (c.given ≡ k) × (object ≡ o)) ⊎ ((b m ≡ Some k) × (h.objects m ≡ Some o))
  placed m k o p e = place m k o (same_name m r) refl p e

  based-new : (m : Name) (o : Object Name) (t : Bool) → this_or t object (h.objects m) ≡ Some o → (k : ℕ) × (base_or t c.given (b m) ≡ Some k)
  based-new m o true e = (c.given, refl)
  based-new m o false e = s.based m o e

  made-new : (m : Name) (k : ℕ) (t : Bool) → base_or t c.given (b m) ≡ Some k → (o : Object Name) × (this_or t object (h.objects m) ≡ Some o)
  made-new m k true p = (object, refl)
  made-new m k false p = s.made m k p

  -- no old object lies past the words given
  past : (i : ℕ) → c.given ≤ i → c.word i ≡ 0
  past i le = s.unused i (λ m k o p e x. (let y = s.below m k o p e in absurd (omega arith)))

  field-new : (m : Name) (k f : ℕ) (v : Value Name) (t : Bool) → base_or t c.given (b m) ≡ Some k → value_in (this_or t object (h.objects m)) f ≡ Some v → IsWordOf based (Some v) (c.word (k + f))
  field-new m k f v true p e = let z = some-inj p in subst (λ y. IsWordOf based (Some v) y) (sym (past (k + f) (omega arith))) (zero-word based v (first-zero u shape n f v e))
  field-new m k f v false p e = word-grows b based grows (Some v) (c.word (k + f)) (s.fields m k f v p e)

  below-new : (m : Name) (k : ℕ) (o : Object Name) → ((m ≡ r) × (c.given ≡ k) × (object ≡ o)) ⊎ ((b m ≡ Some k) × (h.objects m ≡ Some o)) → k + object_size o ≤ c.given + size n
  below-new m k o (inl z) =
      let len : length o.values ≡ n = ap (λ (j : Object Name). length j.values) (sym z.2) ∙ long in
      let sz : max 1 (length o.values) ≡ max 1 n = ap (λ j. max 1 j) len in
      let g = z.1 in omega (arith, g, sz)
  below-new m k o (inr z) = let y = s.below m k o z.0 z.1 in omega arith

  apart-new : (m m' : Name) (k l i : ℕ) (o q : Object Name) → ((m ≡ r) × (c.given ≡ k) × (object ≡ o)) ⊎ ((b m ≡ Some k) × (h.objects m ≡ Some o)) → ((m' ≡ r) × (c.given ≡ l) × (object ≡ q)) ⊎ ((b m' ≡ Some l) × (h.objects m' ≡ Some q))
      → IsWithin i k o → IsWithin i l q → m ≡ m'
  apart-new m m' k l i o q (inl z) (inl y) x w = z.0 ∙ sym y.0
  apart-new m m' k l i o q (inl z) (inr y) x w = let g = z.1 in let e = s.below m' l q y.0 y.1 in absurd (omega (arith, g, e, x, w))
  apart-new m m' k l i o q (inr z) (inl y) x w = let g = y.1 in let e = s.below m k o z.0 z.1 in absurd (omega (arith, g, e, x, w))
  apart-new m m' k l i o q (inr z) (inr y) x w = s.apart m m' k l i o q z.0 y.0 z.1 y.1 x w

  older : (m : Name) (o : Object Name) (t : Bool) → same_name m r ≡ t → h.objects m ≡ Some o → this_or t object (h.objects m) ≡ Some o
  older m o true d e = none-some (sym fresh ∙ ap h.objects (sym (name-true m r d)) ∙ e)
  older m o false d e = e

  filler-new : (m : Name) (k : ℕ) (o : Object Name) → ((m ≡ r) × (c.given ≡ k) × (object ≡ o)) ⊎ ((b m ≡ Some k) × (h.objects m ≡ Some o)) → length o.values ≡ 0 → c.word k ≡ 0
  filler-new m k o (inl z) e = let g = z.1 in past k (omega arith)
  filler-new m k o (inr z) e = s.filler m k o z.0 z.1 e

  pub made : HeapShown based (record { objects = add same_name h.objects r object; given = h.given + size n }) (record { word = c.word; given = c.given + size n })
  made =
      record {
        given = ap (λ z. z + size n) s.given;
        based = λ m o e. based-new m o (same_name m r) e;
        made = λ m k p. made-new m k (same_name m r) p;
        fields = λ m k f v p e. field-new m k f v (same_name m r) p e;
        below = λ m k o p e. below-new m k o (placed m k o p e);
        apart = λ m m' k l i o q p p' e e' x w. apart-new m m' k l i o q (placed m k o p e) (placed m' l q p' e') x w;
        unused = λ i d. s.unused i (λ m k o p e x. d m k o (grows m k p) (older m o (same_name m r) refl e) x);
        filler = λ m k o p e q. filler-new m k o (placed m k o p e) q;
      }

-- a refused one
refused : (b : Bases) (h : Heap) (c : Cells) (x y : ℕ) → HeapShown b h c → x ≡ y → c.given ≤ y → HeapShown b (record h { given = x }) (record c { given = y })
refused b h c x y s e le =
    record { given = e; based = s.based; made = s.made; fields = s.fields; below = λ n k o p q. (let z = s.below n k o p q in omega arith); apart = s.apart; unused = s.unused; filler = s.filler }

-- ---------- every operation ----------
-- a heap whose words have bases of 32 bits, and in which what is smaller fits too
pub record IsSmall (fits : ℕ → Bool) : Type 0 where
  pub small : (n : ℕ) → fits n ≡ true → n < 2 ^ 32
  pub down : (a b : ℕ) → fits (a + b) ≡ true → fits b ≡ true

-- what is stored is there, and a new object has as many values as are asked for
abbrev pub HasValues : UnitCode → named.Op → Type 0
HasValues u (Store r f None) = ⊥
HasValues u (Make by shape n) = length (first_values {R = Name} u shape n) ≡ n
HasValues u _ = Unit {0}

-- an operation on words is this one on names, which has its values
abbrev pub Asks : UnitCode → Bases → named.Op → worded.Ask → Type 0
Asks u b o p = IsAskOf b o p × HasValues u o

-- the name of a new object is new
abbrev pub IsSound : named.Op → Heap → Type 0
IsSound (Make by shape n) h = h.objects (next_name by) ≡ None
IsSound o h = Unit {0}

module _ (u : UnitCode) (fits : ℕ → Bool) (small : IsSmall fits) where
  abbrev Answers : Bases → named.Op → worded.Ask → Heap → Cells → Answer Held → Answer ℕ → Type 0
  Answers b o p h c x y = AnsweredR IsWordOf Grows HeapShown (named.memory u) worded.memory fits b o p h c x y

  stay : (b : Bases) → Grows b b
  stay b n k e = e

  load : (b : Bases) (r : Name) (f k g : ℕ) (h : Heap) (c : Cells) → b r ≡ Some k → f ≡ g → HeapShown b h c → (x : Option (Value Name)) → field_of h.objects r f ≡ x → Answers b (Load r f) (Load k g) h c (named.found x) (Found (c.word (k + g)))
  load b r f k g h c a e s None q = tt
  load b r f k g h c a e s (Some v) q = (b, stay b, subst (λ z. IsWordOf b (Some v) (c.word (k + z))) e (s.fields r k f v a q), s)

  take : (b : Bases) (r : Name) (f k g : ℕ) (h : Heap) (c : Cells) → b r ≡ Some k → f ≡ g → HeapShown b h c → (x : Option (Value Name)) → field_of h.objects r f ≡ x → Answers b (Take r f) (Take k g) h c (named.found x) (Found (c.word (k + g)))
  take b r f k g h c a e s None q = tt
  take b r f k g h c a e s (Some v) q =
      subst (λ z. Answers b (Take r f) (Take k z) h c (named.found (Some v)) (Found (c.word (k + z)))) e (b, stay b, s.fields r k f v a q, stored b h c s r k f 0 Null v a refl q)

  store : (b : Bases) (r : Name) (f k g w : ℕ) (v : Value Name) (h : Heap) (c : Cells) → b r ≡ Some k → f ≡ g → IsWordOf b (Some v) w → HeapShown b h c → (x : Option (Value Name)) → field_of h.objects r f ≡ x
      → Answers b (Store r f (Some v)) (Store k g w) h c (named.found_nothing x) (Found 0)
  store b r f k g w v h c a e i s None q = tt
  store b r f k g w v h c a e i s (Some old) q =
      subst (λ z. Answers b (Store r f (Some v)) (Store k z w) h c (named.found_nothing (Some old)) (Found 0)) e (b, stay b, tt, stored b h c s r k f w v old a i q)

  -- an allocation that has room
  length-small : (shape : Shape) (n g : ℕ) → g + size n < 2 ^ 32 → length_of shape n < 2 ^ 32
  length-small Array n g h = omega arith
  length-small (Class k) n g h = omega arith

  make : (b : Bases) (by : Mark) (shape : Shape) (n : ℕ) (h : Heap) (c : Cells) → HeapShown b h c → h.objects (next_name by) ≡ None → length (first_values {R = Name} u shape n) ≡ n
      → Answers b (Make by shape n) (Make tt shape n) h c (named.find fits (Make by shape n) h) (worded.find fits (Make tt shape n) c)
  make b by shape n h c s new len = go (fits (h.given + size n)) (fits (c.given + size n)) (fits (size n)) refl refl refl
    where
      same : fits (h.given + size n) ≡ fits (c.given + size n)
      same = ap (λ z. fits (z + size n)) s.given

      Heaps : Bool → Bool → Bases → Type 0
      Heaps t v b' = HeapShown b' (allocated t v u by shape n h) (record c { given = cond v (c.given + size n) c.given })

      go : (t t' v : Bool) → fits (h.given + size n) ≡ t → fits (c.given + size n) ≡ t' → fits (size n) ≡ v
          → Answers b (Make by shape n) (Make tt shape n) h c (cond t (Found (Some (Reference (next_name by) (length_of shape n)))) Refused) (cond t' (Found (reference_word c.given (length_of shape n))) Refused)
      go true true v e e' d =
          let lt : c.given + size n < 2 ^ 32 = small.small (c.given + size n) e' in
          let full : fits (size n) ≡ true = small.down c.given (size n) e' in (
            based u b h c s (next_name by) shape n new len,
            grows u b h c s (next_name by) shape n new len,
            (c.given, itself u b h c s (next_name by) shape n new len (same_name (next_name by) (next_name by)) (name-itself (next_name by)), omega arith, length-small shape n c.given lt, refl),
            subst (λ z. HeapShown (based u b h c s (next_name by) shape n new len) (allocated z (fits (size n)) u by shape n h) (record c { given = cond (fits (size n)) (c.given + size n) c.given })) (sym e)
                (subst (λ z. HeapShown (based u b h c s (next_name by) shape n new len) (allocated true z u by shape n h) (record c { given = cond z (c.given + size n) c.given })) (sym full)
                (made u b h c s (next_name by) shape n new len)),
          )
      go false false v e e' d =
          subst (λ z. HeapShown b (allocated z (fits (size n)) u by shape n h) (record c { given = cond (fits (size n)) (c.given + size n) c.given })) (sym e) (kept (fits (size n)))
        where
          kept : (z : Bool) → HeapShown b (allocated false z u by shape n h) (record c { given = cond z (c.given + size n) c.given })
          kept true = refused b h c (h.given + size n) (c.given + size n) s (ap (λ z. z + size n) s.given) (omega arith)
          kept false = s
      go true false v e e' d = absurd (cc (same, e, e'))
      go false true v e e' d = absurd (cc (same, e, e'))

  -- each operation is answered alike
  pub heaps : (b : Bases) (o : named.Op) (p : worded.Ask) (h : Heap) (c : Cells) → Asks u b o p → IsSound o h → HeapShown b h c → Answers b o p h c (named.find fits o h) (worded.find fits p c)
  heaps b Tick Tick h c a i s = (b, stay b, tt, s)
  heaps b (Load r f) (Load k g) h c a i s = load b r f k g h c a.0.0 a.0.1 s (field_of h.objects r f) refl
  heaps b (Store r f (Some v)) (Store k g w) h c a i s = store b r f k g w v h c a.0.0 a.0.1 a.0.2 s (field_of h.objects r f) refl
  heaps b (Store r f None) (Store k g w) h c a i s = absurd a.1
  heaps b (Take r f) (Take k g) h c a i s = take b r f k g h c a.0.0 a.0.1 s (field_of h.objects r f) refl
  heaps b (Make by shape n) (Make by' shape' n') h c a i s =
      subst (λ z. Answers b (Make by shape n) (Make by' z n') h c (named.find fits (Make by shape n) h) (worded.find fits (Make by' z n') c)) a.0.0
      (subst (λ z. Answers b (Make by shape n) (Make by' shape z) h c (named.find fits (Make by shape n) h) (worded.find fits (Make by' shape z) c)) a.0.1 (make b by shape n h c s i a.1))
  heaps b o p h c a i s = absurd a.0
