-- What is told of the bytes that a sink has taken.
use Rattle.std.specs.Prelude.{◌≡◌, ℕ, ◌<◌, List, ◌++◌, length, take, Option, option_map}

-- what is told after more bytes; a sink that tells nothing goes on so
abbrev pub appended : Option (List ℕ) → List ℕ → Option (List ℕ)
appended told piece = option_map (λ taken. taken ++ piece) told

-- some of a text was appended, from its front, and not all of it
abbrev pub AppendsPart : Option (List ℕ) → Option (List ℕ) → List ℕ → Type 0
AppendsPart old new text = (n : ℕ) × (n < length text) × (new ≡ appended old (take n text))
