-- Places found in lists.
use Rattle.std.proofs.Common.{◌≡◌, ℕ, ◌≤◌, Bool, true, false, not, cond, List, length, Some, None, refl, arith}
use Rattle.std.specs.Prelude.{nat_lt}
use Rattle.std.specs.List.{position, position_or_len}
use Rattle.std.specs.Option.{unwrap_or}
use Rattle.std.proofs.lemmas.Grind.{common_steps}
use Rattle.std.proofs.lemmas.List.Sums.{prefix_len-le-length}

within-length : {A : Type 0} (p : A → Bool) (xs : List A) → position_or_len p xs ≤ length xs
within-length p xs = prefix_len-le-length (λ x. not (p x)) xs

chosen : (at count : ℕ) (b : Bool) → nat_lt at count ≡ b → at ≤ count → unwrap_or (cond b (Some at) None) count ≡ at
chosen at count true e le = refl
chosen at count false e le = grind (arith, common_steps)

-- the place of the first that passes, or else the length
pub position-or : {A : Type 0} (p : A → Bool) (xs : List A) → unwrap_or (position p xs) (length xs) ≡ position_or_len p xs
position-or p xs = chosen (position_or_len p xs) (length xs) (nat_lt (position_or_len p xs) (length xs)) refl (within-length p xs)
