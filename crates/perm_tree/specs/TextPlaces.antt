-- Where a byte of a text stands, by line and column.
use Rattle.std.specs.Prelude.{◌≡◌, ℕ, ◌+◌, ◌==◌, not, List, length, reverse, take, count_by, take_while}
use Rattle.perm_tree.specs.declared.place.Place.{Place}

-- 1 and the number of line feeds among the bytes before
abbrev pub line_behind : List ℕ → ℕ
line_behind before = 1 + count_by (λ b. b == 10) before

-- 1 and the number of bytes after the last line feed among the bytes before
abbrev pub column_behind : List ℕ → ℕ
column_behind before = 1 + length (take_while (λ b. not (b == 10)) (reverse before))

-- the line and the column of the byte at a place
pub record IsPlaceOf (text : List ℕ) (at : ℕ) (place : Place) : Type 0 where
  pub line : place.line ≡ line_behind (take at text)
  pub column : place.column ≡ column_behind (take at text)
