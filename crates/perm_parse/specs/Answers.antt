-- Reading a list of tokens with the machine, up to the first refused one.
use Rattle.std.specs.Prelude.{ℕ, ◌+◌, List, [], ◌∷◌, Option, Some, None, nat_le, if◌then◌else◌}
use Rattle.perm_tree.specs.declared.tokens.Token.{Token}
use Rattle.perm_parse.specs.Grammar.{Classes}
use Rattle.perm_parse.specs.States.{State, level_state}
use Rattle.perm_parse.specs.Machine.{step}
use Rattle.perm_parse.specs.Parses.{Parses, IsFirstDead, IsTooDeepAt, deepest}
use Rattle.perm_parse.specs.Meaning.{meaning}

-- what the machine answers of tokens: a tree, the first dead one, or the first that is too deep
pub data Answer : Type 0 where
  parsed : Classes → Answer
  unexpected : ℕ → Answer
  too_deep : ℕ → Answer

-- at the end of the tokens
abbrev pub answer_at_end : State → ℕ → Answer
answer_at_end (State.between_classes list) place = parsed list
answer_at_end _ place = unexpected place

-- behind the token at a place
abbrev pub answer_after : ℕ → Option State → (State → Answer) → Answer
answer_after place None goes_on = unexpected place
answer_after place (Some q) goes_on = if nat_le (level_state q) deepest then goes_on q else too_deep place

-- what tokens give from a state
abbrev pub read_from : List Token → State → ℕ → Answer
read_from [] q place = answer_at_end q place
read_from (t ∷ ts) q place = answer_after place (step q t) (λ r. read_from ts r (place + 1))

-- the state before the first token
abbrev pub start : State
start = State.between_classes Classes.no_classes

-- what a list of tokens gives
abbrev pub read : List Token → Answer
read tokens = read_from tokens start 0

-- what an answer says of the tokens
abbrev pub IsAnswer : List ℕ → List Token → Answer → Type 0
IsAnswer text tokens (parsed list) = Parses text tokens (meaning text list)
IsAnswer text tokens (unexpected place) = IsFirstDead tokens place
IsAnswer text tokens (too_deep place) = IsTooDeepAt tokens place
