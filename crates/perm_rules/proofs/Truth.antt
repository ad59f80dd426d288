-- Laws of truth values, by a test over all of them that the checker computes.
use Rattle.std.specs.Prelude.{◌≡◌, Bool, true, false, ◌&&◌, refl}
use Rattle.std.proofs.lemmas.Bool.{and_parts}
use mathlib.Core.Bool.{beq}
use Rattle.perm_perm.proofs.OverAll.{implies}

-- the test holds of both
abbrev pub each : (Bool → Bool) → Bool
each f = f true && f false

pub each-at : (f : Bool → Bool) → each f ≡ true → (b : Bool) → f b ≡ true
each-at f h true = (and_parts (f true) (f false) h).0
each-at f h false = (and_parts (f true) (f false) h).1

pub implies-from : (a b : Bool) → (a ≡ true → b ≡ true) → implies a b ≡ true
implies-from true b f = f refl
implies-from false b f = refl

pub beq-true : (a b : Bool) → beq a b ≡ true → a ≡ b
beq-true true true h = refl
beq-true true false h = cc
beq-true false true h = cc
beq-true false false h = refl

pub each-of-two : (f : Bool → Bool → Bool) → each (λ a. each (f a)) ≡ true → (a b : Bool) → f a b ≡ true
each-of-two f h a b = each-at (f a) (each-at (λ a. each (f a)) h a) b

pub each-of-three : (f : Bool → Bool → Bool → Bool) → each (λ a. each (λ b. each (f a b))) ≡ true → (a b c : Bool) → f a b c ≡ true
each-of-three f h a b c = each-of-two (f a) (each-at (λ a. each (λ b. each (f a b))) h a) b c

pub each-of-four : (f : Bool → Bool → Bool → Bool → Bool) → each (λ a. each (λ b. each (λ c. each (f a b c)))) ≡ true → (a b c d : Bool) → f a b c d ≡ true
each-of-four f h a b c d = each-of-three (f a) (each-at (λ a. each (λ b. each (λ c. each (f a b c)))) h a) b c d

pub each-of-five : (f : Bool → Bool → Bool → Bool → Bool → Bool) → each (λ a. each (λ b. each (λ c. each (λ d. each (f a b c d))))) ≡ true → (a b c d e : Bool) → f a b c d e ≡ true
each-of-five f h a b c d e = each-of-four (f a) (each-at (λ a. each (λ b. each (λ c. each (λ d. each (f a b c d))))) h a) b c d e
