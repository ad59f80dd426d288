-- Numbers of 64 bits as words: both ways, their operators, and the words of references.
use Rattle.std.proofs.Common.{◌≡◌, ℕ, zero, suc, ◌/◌, ◌%◌, ◌<◌, ◌≤◌, ◌^◌, Bool, true, false, refl, sym, ap, ◌∙◌, arith}
use Rattle.std.specs.Prelude.{nat_eq, ◌&&◌, ℤ, pos, negsuc, neg_ℤ, FitsSigned, int_div, int_rem, unsigned_abs}
use Rattle.std.specs.Int.{cast_signed}
use Rattle.std.proofs.Math.Nat.{div-le_self, div-lt_self}
use Rattle.std.proofs.lemmas.Int.{to_z-of_z, of_z-to_z, fits_signed_from_abs, rem_below}
use mir.Syntax.{w64}
use mir.ValLaws as laws
use Rattle.perm_meaning.specs.Values.{least, int_eq, overflows, ToObject}
use Rattle.perm_meaning.specs.Words.{number_in, number_word, reference_word, referred_by, reference_in}
use Rattle.perm_meaning.proofs.SameName.{eq-true, eq-false, eq-itself}

-- ---------- both ways ----------
-- a number of 64 bits is that of its word, which has 64 bits
pub number-back : (n : ℤ) → FitsSigned w64 n → n ≡ number_in (number_word n)
number-back n f = sym (to_z-of_z w64 n f)

pub word-below : (n : ℤ) → FitsSigned w64 n → number_word n < 2 ^ 64
word-below n f = (laws.of_z_fits w64 n f).fits

-- the number of a word has 64 bits
pub in-fits : (w : ℕ) → w < 2 ^ 64 → FitsSigned w64 (number_in w)
in-fits w h = laws.to_z-Fits w64 w (record { fits = h })

-- a word is that of its number
pub word-back : (w : ℕ) → w < 2 ^ 64 → number_word (number_in w) ≡ w
word-back w h = of_z-to_z w64 w h

-- what is taken modulo 2 ^ 64 has 64 bits
pub wrapped-fits : (x : ℕ) → FitsSigned w64 (cast_signed w64 (x % 2 ^ 64))
wrapped-fits x = in-fits (x % 2 ^ 64) (omega arith)

-- ---------- tests ----------
int-itself : (a : ℤ) → int_eq a a ≡ true
int-itself (pos a) = eq-itself a
int-itself (negsuc a) = eq-itself a

int-true : (a b : ℤ) → int_eq a b ≡ true → a ≡ b
int-true (pos a) (pos b) e = ap (λ n. pos n) (eq-true a b e)
int-true (negsuc a) (negsuc b) e = ap (λ n. negsuc n) (eq-true a b e)
int-true (pos a) (negsuc b) e = absurd (cc)
int-true (negsuc a) (pos b) e = absurd (cc)

-- words are equal where their numbers are
pub equal-words : (w x : ℕ) → w < 2 ^ 64 → x < 2 ^ 64 → int_eq (number_in w) (number_in x) ≡ nat_eq w x
equal-words w x h k = go (nat_eq w x) (int_eq (number_in w) (number_in x)) refl refl
  where
    go : (s t : Bool) → nat_eq w x ≡ s → int_eq (number_in w) (number_in x) ≡ t → t ≡ s
    go true true e q = refl
    go false false e q = refl
    go true false e q = let y = sym (int-itself (number_in w)) ∙ ap (λ z. int_eq (number_in w) (number_in z)) (eq-true w x e) ∙ q in absurd (cc)
    go false true e q = absurd (eq-false w x e (sym (word-back w h) ∙ ap number_word (int-true (number_in w) (number_in x) q) ∙ word-back x k))

-- ---------- quotients and remainders ----------
fits-by : (z : ℤ) → unsigned_abs z < 2 ^ 63 → FitsSigned w64 z
fits-by z h = fits_signed_from_abs w64 z h

least-or-less : (a : ℕ) → a < 2 ^ 63 → int_eq (negsuc a) least ≡ false → suc a < 2 ^ 63
least-or-less a h e = let x = eq-false a 9223372036854775807 e in omega arith

negative-fits : (n : ℕ) → n ≤ 2 ^ 63 → FitsSigned w64 (neg_ℤ (pos n))
negative-fits zero h = fits-by (pos 0) (omega arith)
negative-fits (suc n) h = record { sfits = h }

-- a quotient that doesn't overflow has 64 bits
pub quotient-fits : (a b : ℤ) → FitsSigned w64 a → overflows a b ≡ false → FitsSigned w64 (int_div a b)
quotient-fits (pos a) (pos b) f o = fits-by (pos (a / b)) (omega (arith, div-le_self a b, f.sfits))
quotient-fits (pos a) (negsuc b) f o = negative-fits (a / suc b) (omega (arith, div-le_self a (suc b), f.sfits))
quotient-fits (negsuc a) (pos b) f o = negative-fits (suc a / b) (omega (arith, div-le_self (suc a) b, f.sfits))
quotient-fits (negsuc a) (negsuc zero) f o = fits-by (pos (suc a / 1)) (let x = least-or-less a f.sfits (first o) in omega (arith, div-le_self (suc a) 1, x))
  where
    first : int_eq (negsuc a) least && int_eq (negsuc 0) (negsuc 0) ≡ false → int_eq (negsuc a) least ≡ false
    first e = go (int_eq (negsuc a) least) e
      where
        go : (t : Bool) → t && true ≡ false → t ≡ false
        go true e = e
        go false e = refl
quotient-fits (negsuc a) (negsuc (suc b)) f o = fits-by (pos (suc a / suc (suc b))) (let x = div-lt_self {n = suc a} {k = suc (suc b)} (omega arith) (omega arith) in omega (arith, x, f.sfits))

-- so has a remainder
pub remainder-fits : (a b : ℤ) → FitsSigned w64 b → int_eq b (pos 0) ≡ false → FitsSigned w64 (int_rem a b)
remainder-fits a b g o = go a b (rem_below a b (nonzero b o)) g
  where
    nonzero : (b : ℤ) → int_eq b (pos 0) ≡ false → 0 < unsigned_abs b
    nonzero (pos zero) e = absurd (cc)
    nonzero (pos (suc n)) e = omega arith
    nonzero (negsuc n) e = omega arith

    size : (b : ℤ) → FitsSigned w64 b → unsigned_abs b ≤ 2 ^ 63
    size (pos n) f = omega (arith, f.sfits)
    size (negsuc n) f = omega (arith, f.sfits)

    go : (a b : ℤ) → unsigned_abs (int_rem a b) < unsigned_abs b → FitsSigned w64 b → FitsSigned w64 (int_rem a b)
    go a b lt g = fits-by (int_rem a b) (let x = size b g in omega arith)

-- ---------- references ----------
-- the low bits of a reference are the base plus 1, and the high bits the length
pub decoded : (k len : ℕ) → suc k < 2 ^ 32 → reference_in (reference_word k len) ≡ ToObject k len
decoded k len h = go (reference_word k len % 2 ^ 32) (reference_word k len / 2 ^ 32) (omega arith) (omega arith)
  where
    go : (low high : ℕ) → low ≡ suc k → high ≡ len → referred_by low high ≡ ToObject k len
    go zero high e q = absurd (omega arith)
    go (suc low) high e q = (λ i. ToObject (low_is i) (q i))
      where
        low_is : low ≡ k
        low_is = omega arith

-- a reference isn't null
pub not-null : (k len : ℕ) → nat_eq (reference_word k len) 0 ≡ false
not-null k len = go (nat_eq (reference_word k len) 0) refl
  where
    go : (t : Bool) → nat_eq (reference_word k len) 0 ≡ t → t ≡ false
    go false e = refl
    go true e = let x = eq-true (reference_word k len) 0 e in absurd (omega arith)

pub not-null-either : (k len : ℕ) → nat_eq 0 (reference_word k len) ≡ false
not-null-either k len = go (nat_eq 0 (reference_word k len)) refl
  where
    go : (t : Bool) → nat_eq 0 (reference_word k len) ≡ t → t ≡ false
    go false e = refl
    go true e = let x = eq-true 0 (reference_word k len) e in absurd (omega arith)
