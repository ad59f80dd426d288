-- The tests of names.
use Rattle.std.proofs.Common.{◌≡◌, ℕ, Bool, true, false, [], ◌∷◌, refl, sym, ap, ◌∙◌, arith}
use Rattle.std.specs.Prelude.{nat_eq, ◌&&◌}
use Rattle.std.proofs.lemmas.Bool.{and_parts}
use Rattle.std.proofs.lemmas.Bool.Decides.{nat_tests}
use Rattle.perm_meaning.specs.Names.{Side, OnLeft, OnRight, Path, Name, same_side, same_path, same_name}

-- two tests that hold each hold together
pub together : (a b : Bool) → a ≡ true → b ≡ true → (a && b) ≡ true
together true b e q = q
together false b e q = absurd (cc)

-- numbers that pass the test are equal
pub eq-true : (a b : ℕ) → nat_eq a b ≡ true → a ≡ b
eq-true a b e = grind (arith, nat_tests)

-- those that don't pass it aren't
pub eq-false : (a b : ℕ) → nat_eq a b ≡ false → a ≡ b → ⊥
eq-false a b e q = grind (arith, nat_tests)

-- a number is equal to itself
pub eq-itself : (a : ℕ) → nat_eq a a ≡ true
eq-itself a = grind (arith, nat_tests)

side-true : (a b : Side) → same_side a b ≡ true → a ≡ b
side-true OnLeft OnLeft e = refl
side-true OnRight OnRight e = refl
side-true OnLeft OnRight e = absurd (cc)
side-true OnRight OnLeft e = absurd (cc)

side-itself : (a : Side) → same_side a a ≡ true
side-itself OnLeft = refl
side-itself OnRight = refl

path-true : (p q : Path) → same_path p q ≡ true → p ≡ q
path-true [] [] e = refl
path-true [] (b ∷ q) e = absurd (cc)
path-true (a ∷ p) [] e = absurd (cc)
path-true (a ∷ p) (b ∷ q) e =
    let x = and_parts (nat_eq a.0 b.0 && same_side a.1 b.1) (same_path p q) e in
    let y = and_parts (nat_eq a.0 b.0) (same_side a.1 b.1) x.0 in
    let n = eq-true a.0 b.0 y.0 in
    let s = side-true a.1 b.1 y.1 in
    let r = path-true p q x.1 in
    λ i. (n i, s i) ∷ r i

path-itself : (p : Path) → same_path p p ≡ true
path-itself [] = refl
path-itself (a ∷ p) = together (nat_eq a.0 a.0 && same_side a.1 a.1) (same_path p p) (together (nat_eq a.0 a.0) (same_side a.1 a.1) (eq-itself a.0) (side-itself a.1)) (path-itself p)

-- names that pass the test are one
pub name-true : (a b : Name) → same_name a b ≡ true → a ≡ b
name-true a b e =
    let x = and_parts (nat_eq a.count b.count) (same_path a.by b.by) e in
    let n = eq-true a.count b.count x.0 in
    let p = path-true a.by b.by x.1 in
    λ i. record { by = p i; count = n i }

-- a name is itself
pub name-itself : (a : Name) → same_name a a ≡ true
name-itself a = together (nat_eq a.count a.count) (same_path a.by a.by) (eq-itself a.count) (path-itself a.by)

-- names that don't pass it aren't one
pub name-false : (a b : Name) → same_name a b ≡ false → a ≡ b → ⊥
name-false a b e q = let x = sym e ∙ ap (same_name a) (sym q) ∙ name-itself a in absurd (cc)
