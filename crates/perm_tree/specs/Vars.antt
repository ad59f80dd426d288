-- Sets of variables. A set is the test of its members, and a variable is its number in its method.
use Rattle.std.specs.Prelude.{◌≡◌, ℕ, zero, suc, Bool, true, false, not, ◌&&◌, ◌||◌, nat_eq, List}
use Rattle.std.specs.List.{list_any}

-- a set of variables
abbrev pub Vars : Type 0
Vars = ℕ → Bool

-- the empty set
abbrev pub none : Vars
none x = false

-- the set of one variable
abbrev pub just : ℕ → Vars
just y x = nat_eq x y

-- the numbers below n
abbrev pub below : ℕ → Vars
below zero x = false
below (suc n) zero = true
below (suc n) (suc x) = below n x

-- the set of the listed variables
abbrev pub those : List ℕ → Vars
those xs x = list_any (nat_eq x) xs

-- the members of either set
abbrev pub plus : Vars → Vars → Vars
plus G H x = G x || H x

-- the members of the first set that are not in the second
abbrev pub minus : Vars → Vars → Vars
minus G H x = G x && not (H x)

-- the common members of two sets
abbrev pub meet : Vars → Vars → Vars
meet G H x = G x && H x

-- each member of the first set is in the second
abbrev pub IsWithin : Vars → Vars → Type 0
IsWithin G H = (x : ℕ) → G x ≡ true → H x ≡ true

-- some number below n is in the set
abbrev pub some_below : ℕ → Vars → Bool
some_below zero G = false
some_below (suc n) G = G n || some_below n G

-- H has a property, and holds each set that has it
pub record IsGreatest (P : Vars → Type 0) (H : Vars) : Type 0 where
  pub holds : P H
  pub greatest : (K : Vars) → P K → IsWithin K H
