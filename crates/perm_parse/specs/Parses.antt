-- When a list of tokens is a program, and which token is the first that isn't part of one.
use Rattle.std.specs.Prelude.{◌≡◌, ℕ, ◌+◌, ◌<◌, ◌≤◌, ◌⊎◌, List, [], ◌∷◌, ◌++◌, length, take}
use Rattle.perm_tree.specs.Places.{Listing}
use Rattle.perm_tree.specs.declared.errors.ParseError.{ParseError}
use Rattle.perm_tree.specs.declared.errors.ParseError.TheVariants.{Unexpected, TooDeep, NoMemory}
use Rattle.perm_tree.specs.declared.tokens.Token.{Token}
use Rattle.perm_parse.specs.Grammar.{Classes, IsProgram, program_text}
use Rattle.perm_parse.specs.Levels.{program_levels}
use Rattle.perm_parse.specs.Meaning.{meaning}

-- how many brackets and unary operators may be open
abbrev pub deepest : ℕ
deepest = 100

-- no level past the deepest
abbrev pub Shallow : List ℕ → Type 0
Shallow [] = Unit {0}
Shallow (l ∷ ls) = (l ≤ deepest) × Shallow ls

-- the tokens are those of a tree that is nowhere too deep and means this program
pub record Parses (text : List ℕ) (tokens : List Token) (program : Listing) : Type 0 where
  pub tree : Classes
  pub is_tree : IsProgram tree
  pub spells : program_text tree [] ≡ tokens
  pub means : meaning text tree ≡ program
  pub shallow : Shallow (program_levels tree [])

-- some tokens behind them make them those of a tree, however deep
pub record IsFront (tokens : List Token) : Type 0 where
  pub more : List Token
  pub tree : Classes
  pub is_tree : IsProgram tree
  pub spells : program_text tree [] ≡ tokens ++ more

-- the token at this place is the first that no program continues with, however deep; or it is the end of tokens that are only a front
pub record IsFirstDead (tokens : List Token) (place : ℕ) : Type 0 where
  pub within : place ≤ length tokens
  pub front : IsFront (take place tokens)
  pub dead : place < length tokens → ¬ IsFront (take (place + 1) tokens)
  pub ended : place ≡ length tokens → (tree : Classes) → IsProgram tree → program_text tree [] ≡ tokens → ⊥

-- the tokens up to this one are a front, and it is the first that makes a level past the deepest
pub record IsTooDeepAt (tokens : List Token) (place : ℕ) : Type 0 where
  pub within : place < length tokens
  pub front : IsFront (take (place + 1) tokens)
  pub before : List ℕ
  pub level : ℕ
  pub behind : List ℕ
  pub levels : program_levels front.tree [] ≡ before ++ (level ∷ behind)
  pub here : length before ≡ place
  pub shallow : Shallow before
  pub deep : deepest < level

-- the token at this place is the first that is refused, and no program continues with it; a token before it that is too deep would be refused first
pub record IsUnexpected (tokens : List Token) (place : ℕ) : Type 0 where
  pub dead : IsFirstDead tokens place
  pub first : (deep : ℕ) → IsTooDeepAt tokens deep → ⊥

-- the tokens are refused so
abbrev pub IsRefused : List Token → ParseError → Type 0
IsRefused tokens (Unexpected place) = IsUnexpected tokens place
IsRefused tokens (TooDeep place) = IsTooDeepAt tokens place
IsRefused tokens NoMemory = ⊥

-- the tokens are a program or have a refusal, and no other one
pub record HasOneAnswer (text : List ℕ) (tokens : List Token) : Type 0 where
  pub some : ((program : Listing) × Parses text tokens program) ⊎ ((e : ParseError) × IsRefused tokens e)
  pub programs : (p q : Listing) → Parses text tokens p → Parses text tokens q → p ≡ q
  pub refusals : (e f : ParseError) → IsRefused tokens e → IsRefused tokens f → e ≡ f
  pub apart : (p : Listing) (e : ParseError) → Parses text tokens p → IsRefused tokens e → ⊥
