-- How often a number occurs in a list.
use Rattle.std.proofs.Common.{◌≡◌, ◌≢◌, ℕ, zero, suc, ◌+◌, ◌<◌, ◌≤◌, Bool, true, false, List, [], ◌∷◌, ◌++◌, length, refl, sym, ap, subst, arith, cond, eqb, ltb, leb, get_or}
use Rattle.std.specs.Prelude.{AllPairs, Contains}
use Rattle.std.proofs.lemmas.Bool.{eq-eqb, eqb-true, eqb-false, ltb-true, ltb-false, leb-true, leb-false, lt-ltb, le-ltb}
use Rattle.std.proofs.lemmas.List.Kept.{AllPairs-cons}

-- 1 where two numbers are equal
abbrev pub hit : ℕ → ℕ → ℕ
hit i x = cond (eqb i x) 1 0

-- how often it occurs
abbrev pub times : ℕ → List ℕ → ℕ
times i [] = 0
times i (x ∷ xs) = hit i x + times i xs

pub times-append : (i : ℕ) (xs ys : List ℕ) → times i (xs ++ ys) ≡ times i xs + times i ys
times-append i [] ys = omega arith
times-append i (x ∷ xs) ys = omega (arith, times-append i xs ys)

hit-same : (i : ℕ) → hit i i ≡ 1
hit-same i = ap (λ b. cond b 1 0) (eq-eqb i i refl)

-- what occurs is an element
pub contains-times : (i : ℕ) (xs : List ℕ) → 0 < times i xs → Contains xs i
contains-times i [] some = absurd (omega arith)
contains-times i (x ∷ xs) some = go (eqb i x) refl (contains-times i xs)
  where
    more : Contains xs i → Contains (x ∷ xs) i
    more (k, within, is) = (suc k, omega arith, is)

    go : (b : Bool) → eqb i x ≡ b → (0 < times i xs → Contains xs i) → Contains (x ∷ xs) i
    go true e rest = (0, omega arith, sym (eqb-true i x e))
    go false e rest = let miss : hit i x ≡ 0 = ap (λ b. cond b 1 0) e in more (rest (omega arith))

-- an element occurs
times-at : (xs : List ℕ) (k d : ℕ) → k < length xs → 0 < times (get_or xs k d) xs
times-at [] k d within = absurd (omega arith)
times-at (x ∷ xs) zero d within = omega (arith, hit-same x)
times-at (x ∷ xs) (suc k) d within = omega (arith, times-at xs k d (omega arith))

-- a list in which each number occurs at most once has no two equal elements
pub apart-times : (xs : List ℕ) → ((i : ℕ) → times i xs ≤ 1) → AllPairs (λ i j. i ≢ j) xs
apart-times [] most = λ i j d lt within. absurd (omega arith)
apart-times (x ∷ xs) most =
    AllPairs-cons (λ i j. i ≢ j) x xs (λ k d within same. twice k d within same) (apart-times xs (λ i. omega (arith, most i)))
  where
    twice : (k d : ℕ) → k < length xs → x ≡ get_or xs k d → ⊥
    twice k d within same =
        let there : 0 < times x xs = subst (λ y. 0 < times y xs) (sym same) (times-at xs k d within) in
        omega (arith, most x, hit-same x, there)

-- ---------- numbers below another one ----------
-- 1 where a number is below another one
abbrev pub under : ℕ → ℕ → ℕ
under i n = cond (ltb i n) 1 0

pub under-at : (i n : ℕ) → i < n → under i n ≡ 1
under-at i n within = ap (λ b. cond b 1 0) (lt-ltb i n within)

under-not : (i n : ℕ) → n ≤ i → under i n ≡ 0
under-not i n beyond = ap (λ b. cond b 1 0) (le-ltb i n beyond)

pub under-zero : (i : ℕ) → under i 0 ≡ 0
under-zero i = under-not i 0 (omega arith)

pub under-least : (i n : ℕ) → under i n ≤ 1
under-least i n = go (ltb i n)
  where
    go : (b : Bool) → cond b 1 0 ≤ 1
    go true = omega arith
    go false = omega arith

-- one number more
pub under-suc : (i n : ℕ) → under i (suc n) ≡ under i n + hit i n
under-suc i n = go (ltb i n) (eqb i n) refl refl
  where
    go : (b c : Bool) → ltb i n ≡ b → eqb i n ≡ c → under i (suc n) ≡ cond b 1 0 + cond c 1 0
    go true true l e = let lt = ltb-true i n l in let same = eqb-true i n e in absurd (omega arith)
    go true false l e = let lt = ltb-true i n l in under-at i (suc n) (omega arith)
    go false true l e = let same = eqb-true i n e in under-at i (suc n) (omega arith)
    go false false l e = under-not i (suc n) (beyond (leb (suc n) i) refl)
      where
        beyond : (b : Bool) → leb (suc n) i ≡ b → suc n ≤ i
        beyond true k = leb-true (suc n) i k
        beyond false k = let le = leb-false (suc n) i k in let least = ltb-false i n l in absurd (eqb-false i n e (omega arith))
