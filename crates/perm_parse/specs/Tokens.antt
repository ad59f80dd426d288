-- Tokens that stand in a text.
use Rattle.std.specs.Prelude.{◌≡◌, ℕ, ◌^◌, ◌<◌, ◌≤◌, List, length, map, Some, slice_get}
use Rattle.std.specs.Borrow.{Bor}
use Rattle.perm_tree.specs.declared.tokens.Token.{Token}

-- each token is a stretch of the text, and a number fits 63 bits
abbrev pub IsOver : List ℕ → List Token → Type 0
IsOver text tokens = (k : ℕ) (t : Token) → slice_get tokens k ≡ Some t → (t.span.start ≤ t.span.end) × (t.span.end ≤ length text) × (t.value < 2 ^ 63)

-- the bytes of stretches of a text
abbrev pub spellings : List (Bor (List ℕ)) → List (List ℕ)
spellings ks = map (λ (k : Bor (List ℕ)). k.now) ks
