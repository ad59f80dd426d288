-- The members of a set of variables that is held in words.
use Rattle.std.specs.Prelude.{ℕ, zero, suc, ◌/◌, ◌%◌, Bool, ◌==◌}
use Rattle.std.specs.Int.{bit_at}
use Rattle.perm_tree.specs.declared.var_set.VarSet.{VarSet}

-- the words of a set, of 64 numbers each
abbrev pub set_word : VarSet → ℕ → ℕ
set_word s zero = s.first
set_word s (suc zero) = s.second
set_word s (suc (suc zero)) = s.third
set_word s (suc (suc (suc zero))) = s.fourth
set_word s _ = 0

-- the word has a one at place i
abbrev pub has_bit : ℕ → ℕ → Bool
has_bit n i = bit_at n i == 1

-- the members of a set, as a test
unfoldable pub member : VarSet → ℕ → Bool
member s x = has_bit (set_word s (x / 64)) (x % 64)
