-- The tokens of a text stand in it.
use Rattle.std.proofs.Common.{◌≡◌, ℕ, ◌<◌, ◌≤◌, ◌^◌, List, length, Some, subst, arith}
use Rattle.std.specs.Prelude.{All}
use Rattle.std.specs.List.{slice_get}
use Rattle.std.proofs.lemmas.List.Elements.{All-get_or}
use Rattle.std.proofs.lemmas.Option.{slice_get_within, get_or_from_slice_get}
use Rattle.perm_tree.specs.declared.tokens.Token.{Token}
use Rattle.perm_lex.specs.Tokens.{largest}
use Rattle.perm_lex.specs.Lexes.{Lexes}
use Rattle.perm_lex.proofs.Answers.{IsWithin, within, small, few}
use Rattle.perm_parse.specs.Tokens.{IsOver}

at-place : (P : Token → Type 0) (tokens : List Token) (k : ℕ) (t : Token) → slice_get tokens k ≡ Some t → All P tokens → P t
at-place P tokens k t e all = subst P (get_or_from_slice_get tokens k t t e) (All-get_or P tokens k t (slice_get_within tokens k t e) all)

pub lexed-over : (text : List ℕ) (tokens : List Token) → Lexes text tokens → IsOver text tokens
lexed-over text tokens l = λ k t e.
    let span = at-place (IsWithin (length text)) tokens k t e (within text tokens l) in
    let value = at-place (λ (x : Token). x.value ≤ largest) tokens k t e (small text tokens l) in
    let start = span.0 in
    (omega arith, span.1, omega arith)

-- a text of fewer than 2^32 bytes has fewer tokens than that
pub lexed-few : (text : List ℕ) (tokens : List Token) → Lexes text tokens → length text < 2 ^ 32 → length tokens < 2 ^ 32
lexed-few text tokens l lt = let h = few text tokens l in omega arith

-- each token has a byte at least
pub lexed-some : (text : List ℕ) (tokens : List Token) → Lexes text tokens → All (λ t. t.span.start < t.span.end) tokens
lexed-some text tokens l = λ k d in_range. (within text tokens l k d in_range).0
