-- A text to which bytes are appended within its room.
use Rattle.std.specs.Prelude.{◌≡◌, ℕ, ◌+◌, ◌≤◌, ◌++◌, List, length, vec_capacity}
use Rattle.std.specs.Global.{Vec}

-- so many bytes more have room
abbrev pub HasRoom : Vec ℕ → List ℕ → Type 0
HasRoom text bytes = length text.items + length bytes ≤ vec_capacity text

-- the bytes are appended, and room isn't lost
pub record Appends (old : Vec ℕ) (bytes : List ℕ) (new : Vec ℕ) : Type 0 where
  pub items : new.items ≡ old.items ++ bytes
  pub capacity : vec_capacity old ≤ vec_capacity new
