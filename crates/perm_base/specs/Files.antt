-- What a shelf tells of its files.
use Rattle.std.specs.Prelude.{◌≡◌, ℕ, ◌-◌, ◌<◌, ◌≤◌, List, length, take, drop, Option, None, Some, IsSomeAnd, IfSome}

-- by the bytes of a path, the bytes of the file under it, or no file
abbrev pub Files : Type 0
Files = List ℕ → Option (List ℕ)

-- the shelf tells its bytes, and these are under the path
abbrev pub HasFile : Option Files → List ℕ → List ℕ → Type 0
HasFile told path bytes = IsSomeAnd told (λ files. files path ≡ Some bytes)

-- the shelf tells its bytes, and no file is under the path
abbrev pub HasNoFile : Option Files → List ℕ → Type 0
HasNoFile told path = IsSomeAnd told (λ files. files path ≡ None)

-- where the shelf tells its bytes, a file is under the path, and its bytes are so
abbrev pub WhereTold : Option Files → List ℕ → (List ℕ → Type 0) → Type 0
WhereTold told path P = IfSome told (λ files. IsSomeAnd (files path) P)

-- the first n bytes of the buffer are those of the file from a place on, and there are none only at its end
pub record Copies (bytes : List ℕ) (at n : ℕ) (buffer : List ℕ) : Type 0 where
  pub same : take n buffer ≡ take n (drop at bytes)
  pub there : n ≤ length bytes - at
  pub end : 0 < length buffer → n ≡ 0 → length bytes ≤ at
