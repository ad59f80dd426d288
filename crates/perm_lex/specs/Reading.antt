-- What the parts of the reader say of the front of a text.
use Rattle.std.specs.Prelude.{◌≡◌, ◌≢◌, ◌==◌, ℕ, ◌<◌, Bool as Boolean, not, List, ◌++◌, length, codes, Some, false, slice_index}
use Rattle.perm_tree.specs.declared.errors.LexError.{LexError}
use Rattle.perm_tree.specs.declared.errors.LexError.TheVariants.{NoMemory}
use Rattle.perm_tree.specs.declared.tokens.Token.{Token}
use Rattle.perm_tree.specs.declared.tokens.TokenKind.{TokenKind}
use Rattle.perm_tree.specs.declared.tokens.TokenKind.TheVariants.{Number}
use Rattle.perm_lex.specs.declared.lexeme.Lexeme.{Lexeme}
use Rattle.perm_lex.specs.Tokens.{spelling, IsToken, IsLongest, value_of, largest}
use Rattle.perm_lex.specs.Lexes.{Piece, piece_text, IsPiece, tokens_of, is_blank, Begins, Refuses}

-- so many bytes at the front of the text are a piece, which has these tokens
pub record ReadsPiece (at : ℕ) (text : List ℕ) (len : ℕ) (tokens : List Token) : Type 0 where
  pub piece : Piece
  pub after : List ℕ
  pub whole : text ≡ piece_text piece ++ after
  pub is : IsPiece piece after
  pub long : len ≡ length (piece_text piece)
  pub told : tokens ≡ tokens_of at piece

-- a byte that ends no line
abbrev pub is_in_line : ℕ → Boolean
is_in_line b = not (b == 10)

-- the comment at the front has no end
abbrev pub IsUnclosed : List ℕ → Type 0
IsUnclosed text = (inside : List ℕ) × (text ≡ codes "/*" ++ inside) × ((front back : List ℕ) → inside ≢ front ++ (codes "*/" ++ back))

-- the longest token at the front
pub record IsLexeme (text : List ℕ) (found : Lexeme) : Type 0 where
  pub bytes : List ℕ
  pub after : List ℕ
  pub whole : text ≡ bytes ++ after
  pub is : IsToken found.kind bytes
  pub longest : IsLongest bytes after
  pub long : found.len ≡ length bytes
  pub told : found.value ≡ value_of found.kind bytes

-- the longest token at the front is a number of so many digits that is too large
pub record IsTooLarge (text : List ℕ) (len : ℕ) : Type 0 where
  pub bytes : List ℕ
  pub after : List ℕ
  pub whole : text ≡ bytes ++ after
  pub is : IsToken Number bytes
  pub longest : IsLongest bytes after
  pub long : len ≡ length bytes
  pub large : largest < value_of Number bytes

-- neither a blank nor a comment is at the front
pub record BeginsNoGap (text : List ℕ) : Type 0 where
  pub blank : is_blank (slice_index text 0) ≡ false
  pub line : Begins (codes "//") text → ⊥
  pub block : Begins (codes "/*") text → ⊥

-- why a text has no tokens, unless memory ran out
abbrev pub IsCause : List ℕ → LexError → Type 0
IsCause text NoMemory = Unit {0}
IsCause text e = Refuses text e

-- no keyword and no sign is at the front
abbrev pub NoSign : List ℕ → Type 0
NoSign text = (k : TokenKind) (bytes after : List ℕ) → spelling k ≡ Some bytes → text ≢ bytes ++ after
