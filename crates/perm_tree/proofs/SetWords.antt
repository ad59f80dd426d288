-- What the operations on words mean for the members.
use Rattle.std.proofs.Common.{◌≡◌, ℕ, zero, suc, ◌+◌, ◌-◌, ◌*◌, ◌/◌, ◌%◌, ◌^◌, ◌<◌, ◌≤◌, Bool, true, false, eqb, refl, sym, ap, ◌∙◌, inl, inr, arith, w64, min, max, eq-eqb, ne_eqb, lit<}
use Rattle.std.specs.Prelude.{◌&&◌, ◌||◌, not, ◌==◌, ◌⊎◌, bit_and, bit_or}
use Rattle.std.specs.Int.{bit_at, bit_not}
use Rattle.std.proofs.lemmas.Nat.Bits.{bit_at_or, bit_at_and, bit_at_not, bit_at-lt, bit_at-zero, bit_at-pow_same, bit_at-pow_other, same_from_bits_below, shr_and_one}
use Rattle.std.proofs.lemmas.Bool.{cases_eq}
use Rattle.std.proofs.lemmas.Nat.{one_shl}
use mathlib.Core.Path.{fun_ext}
use Rattle.perm_tree.specs.declared.var_set.VarSet.{VarSet}
use Rattle.perm_tree.specs.Vars.{Vars, none, just, plus, minus, meet, IsWithin}
use Rattle.perm_tree.specs.VarSets.{set_word, has_bit, member}

-- a bit is 0 or 1
bit_cases : (n i : ℕ) → (bit_at n i ≡ 0) ⊎ (bit_at n i ≡ 1)
bit_cases n i = let small : bit_at n i < 2 = bit_at-lt n i in elim (cases_eq (bit_at n i) 0) [ inl z ↦ inl z | inr nz ↦ inr (omega arith) ]

has_bit-or : (a b i : ℕ) → has_bit (bit_or a b) i ≡ (has_bit a i || has_bit b i)
has_bit-or a b i = rw (bit_at_or a b i) (go (bit_cases a i) (bit_cases b i))
  where
    go : (bit_at a i ≡ 0) ⊎ (bit_at a i ≡ 1) → (bit_at b i ≡ 0) ⊎ (bit_at b i ≡ 1) → eqb (max (bit_at a i) (bit_at b i)) 1 ≡ (has_bit a i || has_bit b i)
    go (inl x) (inl y) = rw (x, y) refl
    go (inl x) (inr y) = rw (x, y) refl
    go (inr x) (inl y) = rw (x, y) refl
    go (inr x) (inr y) = rw (x, y) refl

has_bit-and : (a b i : ℕ) → has_bit (bit_and a b) i ≡ (has_bit a i && has_bit b i)
has_bit-and a b i = rw (bit_at_and a b i) (go (bit_cases a i) (bit_cases b i))
  where
    go : (bit_at a i ≡ 0) ⊎ (bit_at a i ≡ 1) → (bit_at b i ≡ 0) ⊎ (bit_at b i ≡ 1) → eqb (min (bit_at a i) (bit_at b i)) 1 ≡ (has_bit a i && has_bit b i)
    go (inl x) (inl y) = rw (x, y) refl
    go (inl x) (inr y) = rw (x, y) refl
    go (inr x) (inl y) = rw (x, y) refl
    go (inr x) (inr y) = rw (x, y) refl

has_bit-not : (b i : ℕ) → b < 2 ^ 64 → i < 64 → has_bit (bit_not w64 b) i ≡ not (has_bit b i)
has_bit-not b i fits small = rw (bit_at_not w64 b i fits small) (go (bit_cases b i))
  where
    go : (bit_at b i ≡ 0) ⊎ (bit_at b i ≡ 1) → eqb (1 - bit_at b i) 1 ≡ not (has_bit b i)
    go (inl y) = rw y refl
    go (inr y) = rw y refl

module _ (r a b : VarSet) where
  pub member-plus : ((k : ℕ) → set_word r k ≡ bit_or (set_word a k) (set_word b k)) → member r ≡ plus (member a) (member b)
  unfolding member
  member-plus each = fun_ext (λ x. ap (λ n. has_bit n (x % 64)) (each (x / 64)) ∙ has_bit-or (set_word a (x / 64)) (set_word b (x / 64)) (x % 64))

  pub member-meet : ((k : ℕ) → set_word r k ≡ bit_and (set_word a k) (set_word b k)) → member r ≡ meet (member a) (member b)
  unfolding member
  member-meet each = fun_ext (λ x. ap (λ n. has_bit n (x % 64)) (each (x / 64)) ∙ has_bit-and (set_word a (x / 64)) (set_word b (x / 64)) (x % 64))

  pub member-minus : ((k : ℕ) → set_word b k < 2 ^ 64) → ((k : ℕ) → set_word r k ≡ bit_and (set_word a k) (bit_not w64 (set_word b k))) → member r ≡ minus (member a) (member b)
  unfolding member
  member-minus fits each =
      fun_ext (λ x.
      let small : x % 64 < 64 = omega arith in
      ap (λ n. has_bit n (x % 64)) (each (x / 64))
      ∙ has_bit-and (set_word a (x / 64)) (bit_not w64 (set_word b (x / 64))) (x % 64)
      ∙ ap (λ t. has_bit (set_word a (x / 64)) (x % 64) && t) (has_bit-not (set_word b (x / 64)) (x % 64) (fits (x / 64)) small))

bit_from_test : (n m i : ℕ) → has_bit n i ≡ has_bit m i → bit_at n i ≡ bit_at m i
bit_from_test n m i e = go (bit_cases n i) (bit_cases m i)
  where
    go : (bit_at n i ≡ 0) ⊎ (bit_at n i ≡ 1) → (bit_at m i ≡ 0) ⊎ (bit_at m i ≡ 1) → bit_at n i ≡ bit_at m i
    go (inl x) (inl y) = x ∙ sym y
    go (inl x) (inr y) = let f : eqb 0 1 ≡ eqb 1 1 = rw (x, y) at e in cc
    go (inr x) (inl y) = let f : eqb 1 1 ≡ eqb 0 1 = rw (x, y) at e in cc
    go (inr x) (inr y) = x ∙ sym y

-- sets with the same members have the same words
pub same_words : (a b : VarSet) → ((k : ℕ) → set_word a k < 2 ^ 64) → ((k : ℕ) → set_word b k < 2 ^ 64) → member a ≡ member b → (k : ℕ) → set_word a k ≡ set_word b k
unfolding member
same_words a b fa fb e k =
    same_from_bits_below 64 (set_word a k) (set_word b k) (fa k) (fb k) (λ i small.
    let q : (k * 64 + i) / 64 ≡ k = omega arith in
    let r : (k * 64 + i) % 64 ≡ i = omega arith in
    let at : has_bit (set_word a ((k * 64 + i) / 64)) ((k * 64 + i) % 64) ≡ has_bit (set_word b ((k * 64 + i) / 64)) ((k * 64 + i) % 64) = ap (λ f. f (k * 64 + i)) e in
    bit_from_test (set_word a k) (set_word b k) i (rw (q, r) at at))

abbrev pub joined : VarSet → VarSet → VarSet
joined a b = record { first = bit_or a.first b.first; second = bit_or a.second b.second; third = bit_or a.third b.third; fourth = bit_or a.fourth b.fourth }

joined-words : (a b : VarSet) (k : ℕ) → set_word (joined a b) k ≡ bit_or (set_word a k) (set_word b k)
joined-words a b zero = refl
joined-words a b (suc zero) = refl
joined-words a b (suc (suc zero)) = refl
joined-words a b (suc (suc (suc zero))) = refl
joined-words a b (suc (suc (suc (suc k)))) = refl

pub member-joined : (a b : VarSet) → member (joined a b) ≡ plus (member a) (member b)
member-joined a b = member-plus (joined a b) a b (joined-words a b)

abbrev pub common : VarSet → VarSet → VarSet
common a b = record { first = bit_and a.first b.first; second = bit_and a.second b.second; third = bit_and a.third b.third; fourth = bit_and a.fourth b.fourth }

common-words : (a b : VarSet) (k : ℕ) → set_word (common a b) k ≡ bit_and (set_word a k) (set_word b k)
common-words a b zero = refl
common-words a b (suc zero) = refl
common-words a b (suc (suc zero)) = refl
common-words a b (suc (suc (suc zero))) = refl
common-words a b (suc (suc (suc (suc k)))) = refl

pub member-common : (a b : VarSet) → member (common a b) ≡ meet (member a) (member b)
member-common a b = member-meet (common a b) a b (common-words a b)

-- the words of a set have 64 bits
pub record IsSet64 (a : VarSet) : Type 0 where
  pub first : a.first < 2 ^ 64
  pub second : a.second < 2 ^ 64
  pub third : a.third < 2 ^ 64
  pub fourth : a.fourth < 2 ^ 64

set_word-fits : (a : VarSet) → IsSet64 a → (k : ℕ) → set_word a k < 2 ^ 64
set_word-fits a h zero = h.first
set_word-fits a h (suc zero) = h.second
set_word-fits a h (suc (suc zero)) = h.third
set_word-fits a h (suc (suc (suc zero))) = h.fourth
set_word-fits a h (suc (suc (suc (suc k)))) = lit< tt

abbrev pub without : VarSet → VarSet → VarSet
without a b = record { first = bit_and a.first (bit_not w64 b.first); second = bit_and a.second (bit_not w64 b.second); third = bit_and a.third (bit_not w64 b.third); fourth = bit_and a.fourth (bit_not w64 b.fourth) }

without-words : (a b : VarSet) (k : ℕ) → set_word (without a b) k ≡ bit_and (set_word a k) (bit_not w64 (set_word b k))
without-words a b zero = refl
without-words a b (suc zero) = refl
without-words a b (suc (suc zero)) = refl
without-words a b (suc (suc (suc zero))) = refl
without-words a b (suc (suc (suc (suc k)))) = refl

pub member-without : (a b : VarSet) → IsSet64 b → member (without a b) ≡ minus (member a) (member b)
member-without a b h = member-minus (without a b) a b (set_word-fits b h) (without-words a b)

pub same_fields : (a b : VarSet) → IsSet64 a → IsSet64 b → member a ≡ member b → (a.first ≡ b.first) × (a.second ≡ b.second) × (a.third ≡ b.third) × (a.fourth ≡ b.fourth)
same_fields a b ha hb e =
    let at = same_words a b (set_word-fits a ha) (set_word-fits b hb) e in
    (at 0, at 1, at 2, at 3)

pub fields_same : (a b : VarSet) → a.first ≡ b.first → a.second ≡ b.second → a.third ≡ b.third → a.fourth ≡ b.fourth → member a ≡ member b
fields_same a b p q r s = ap member (λ i. record { first = p i; second = q i; third = r i; fourth = s i })

pub empty_words : VarSet
empty_words = record { first = 0; second = 0; third = 0; fourth = 0 }

zero-bits : (k x : ℕ) → has_bit (set_word (record { first = 0; second = 0; third = 0; fourth = 0 }) k) x ≡ false
zero-bits zero x = rw bit_at-zero refl
zero-bits (suc zero) x = rw bit_at-zero refl
zero-bits (suc (suc zero)) x = rw bit_at-zero refl
zero-bits (suc (suc (suc zero))) x = rw bit_at-zero refl
zero-bits (suc (suc (suc (suc k)))) x = rw bit_at-zero refl

pub member-empty : member (record { first = 0; second = 0; third = 0; fourth = 0 }) ≡ none
unfolding member
member-empty = fun_ext (λ x. zero-bits (x / 64) (x % 64))

pub contains_at : (s : VarSet) (x w k : ℕ) → x / 64 ≡ k → w ≡ set_word s k → eqb (bit_and (w / 2 ^ (x % 64)) 1) 1 ≡ member s x
unfolding member
contains_at s x w k at is = rw shr_and_one (rw (is, at) refl)

-- the set with one set_word that isn't 0
abbrev pub placed : ℕ → ℕ → VarSet
placed zero n = record { first = n; second = 0; third = 0; fourth = 0 }
placed (suc zero) n = record { first = 0; second = n; third = 0; fourth = 0 }
placed (suc (suc zero)) n = record { first = 0; second = 0; third = n; fourth = 0 }
placed (suc (suc (suc k))) n = record { first = 0; second = 0; third = 0; fourth = n }

placed-same : (k n : ℕ) → k < 4 → set_word (placed k n) k ≡ n
placed-same zero n h = refl
placed-same (suc zero) n h = refl
placed-same (suc (suc zero)) n h = refl
placed-same (suc (suc (suc zero))) n h = refl
placed-same (suc (suc (suc (suc k)))) n h = absurd (omega arith)

placed-other : (k n j : ℕ) → k < 4 → (j ≡ k → ⊥) → set_word (placed k n) j ≡ 0
placed-other zero n zero h d = absurd (d refl)
placed-other zero n (suc zero) h d = refl
placed-other zero n (suc (suc zero)) h d = refl
placed-other zero n (suc (suc (suc zero))) h d = refl
placed-other zero n (suc (suc (suc (suc j)))) h d = refl
placed-other (suc zero) n zero h d = refl
placed-other (suc zero) n (suc zero) h d = absurd (d refl)
placed-other (suc zero) n (suc (suc zero)) h d = refl
placed-other (suc zero) n (suc (suc (suc zero))) h d = refl
placed-other (suc zero) n (suc (suc (suc (suc j)))) h d = refl
placed-other (suc (suc zero)) n zero h d = refl
placed-other (suc (suc zero)) n (suc zero) h d = refl
placed-other (suc (suc zero)) n (suc (suc zero)) h d = absurd (d refl)
placed-other (suc (suc zero)) n (suc (suc (suc zero))) h d = refl
placed-other (suc (suc zero)) n (suc (suc (suc (suc j)))) h d = refl
placed-other (suc (suc (suc zero))) n zero h d = refl
placed-other (suc (suc (suc zero))) n (suc zero) h d = refl
placed-other (suc (suc (suc zero))) n (suc (suc zero)) h d = refl
placed-other (suc (suc (suc zero))) n (suc (suc (suc zero))) h d = absurd (d refl)
placed-other (suc (suc (suc zero))) n (suc (suc (suc (suc j)))) h d = refl
placed-other (suc (suc (suc (suc k)))) n j h d = absurd (omega arith)

pub member-placed : (k x : ℕ) → x < 256 → x / 64 ≡ k → member (placed k (1 * 2 ^ (x % 64) % 2 ^ 64)) ≡ just x
unfolding member
member-placed k x fits at =
    let small : x % 64 < 64 = omega arith in
    let kk : k < 4 = omega arith in
    rw (one_shl (x % 64) 64 small) (fun_ext (λ y. go y kk (cases_eq y x) (cases_eq (y / 64) k)))
  where
    go : (y : ℕ) → k < 4 → (y ≡ x) ⊎ (y ≡ x → ⊥) → (y / 64 ≡ k) ⊎ (y / 64 ≡ k → ⊥) → has_bit (set_word (placed k (2 ^ (x % 64))) (y / 64)) (y % 64) ≡ (y == x)
    go y kk (inl same) b =
        rw (same, at, placed-same k (2 ^ (x % 64)) kk, bit_at-pow_same (x % 64)) (sym (eq-eqb x x refl))
    go y kk (inr other) (inl here) =
        let apart : y % 64 ≡ x % 64 → ⊥ = λ e. other (omega arith) in
        rw (here, placed-same k (2 ^ (x % 64)) kk, bit_at-pow_other (x % 64) (y % 64) apart) (sym (ne_eqb y x other))
    go y kk (inr other) (inr there) =
        rw (placed-other k (2 ^ (x % 64)) (y / 64) kk there, bit_at-zero (y % 64)) (sym (ne_eqb y x other))

-- nothing is left of G without H exactly where G is within H
pub within_from_none : (G H : Vars) → minus G H ≡ none → IsWithin G H
within_from_none G H e x g = go (H x) (ap (λ b. b && not (H x)) (sym g) ∙ ap (λ f. f x) e)
  where
    go : (b : Bool) → not b ≡ false → b ≡ true
    go true h = refl
    go false h = cc

pub none_from_within : (G H : Vars) → IsWithin G H → minus G H ≡ none
none_from_within G H w = fun_ext (λ x. go (G x) (H x) (w x))
  where
    go : (g h : Bool) → (g ≡ true → h ≡ true) → (g && not h) ≡ false
    go true true w = refl
    go true false w = sym (w refl)
    go false true w = refl
    go false false w = refl

-- nothing from 256 on is a member
pub member_small : (a : VarSet) (x : ℕ) → 256 ≤ x → member a x ≡ false
unfolding member
member_small a x h = go (x / 64) (omega arith)
  where
    go : (k : ℕ) → 4 ≤ k → has_bit (set_word a k) (x % 64) ≡ false
    go zero l = absurd (omega arith)
    go (suc zero) l = absurd (omega arith)
    go (suc (suc zero)) l = absurd (omega arith)
    go (suc (suc (suc zero))) l = absurd (omega arith)
    go (suc (suc (suc (suc k)))) l = rw bit_at-zero refl
