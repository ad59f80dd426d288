-- Which tokens a text has, and which refusal it has in their place.
use Rattle.std.specs.Prelude.{◌≡◌, ◌≢◌, ℕ, ◌+◌, ◌<◌, ◌≤◌, ◌⊎◌, List, [], ◌∷◌, ◌++◌, length, codes, ◌==◌, ◌||◌, Bool as Boolean, IsTrue, Contains}
use Rattle.perm_tree.specs.declared.ast.Span.{Span}
use Rattle.perm_tree.specs.declared.errors.LexError.{LexError}
use Rattle.perm_tree.specs.declared.errors.LexError.TheVariants.{BadByte, NumberTooLarge, UnclosedComment, NoMemory}
use Rattle.perm_tree.specs.declared.tokens.Token.{Token}
use Rattle.perm_tree.specs.declared.tokens.TokenKind.{TokenKind}
use Rattle.perm_tree.specs.declared.tokens.TokenKind.TheVariants.{Number}
use Rattle.perm_lex.specs.Tokens.{IsToken, IsLongest, value_of, largest}

-- a piece of a text: a blank, a comment by the bytes inside it, or a token by its kind and its bytes
pub data Piece : Type 0 where
  blank : ℕ → Piece
  line_comment : List ℕ → Piece
  block_comment : List ℕ → Piece
  token : TokenKind → List ℕ → Piece

-- the bytes of a piece
abbrev pub piece_text : Piece → List ℕ
piece_text (blank b) = b ∷ []
piece_text (line_comment inside) = codes "//" ++ inside
piece_text (block_comment inside) = codes "/*" ++ (inside ++ codes "*/")
piece_text (token kind bytes) = bytes

-- the bytes of pieces
abbrev pub pieces_text : List Piece → List ℕ
pieces_text [] = []
pieces_text (p ∷ ps) = piece_text p ++ pieces_text ps

-- a space, a tab, a carriage return or a line feed
abbrev pub is_blank : ℕ → Boolean
is_blank b = (b == 32) || ((b == 9) || ((b == 13) || (b == 10)))

-- the text begins with these bytes
abbrev pub Begins : List ℕ → List ℕ → Type 0
Begins front text = (rest : List ℕ) × (text ≡ front ++ rest)

-- the end of the text, or a line feed
abbrev pub EndsLine : List ℕ → Type 0
EndsLine [] = Unit {0}
EndsLine (b ∷ bs) = b ≡ 10

-- A piece is what it should be, with this text behind it. A line comment goes up to the next line feed or the end, and any
-- other comment up to the next `*/`. A token is the longest one at its place, where no comment begins.
abbrev pub IsPiece : Piece → List ℕ → Type 0
IsPiece (blank b) after = IsTrue (is_blank b)
IsPiece (line_comment inside) after = (Contains inside 10 → ⊥) × EndsLine after
IsPiece (block_comment inside) after = (front back : List ℕ) → inside ++ codes "*/" ≡ front ++ (codes "*/" ++ back) → back ≡ []
IsPiece (token kind bytes) after =
    IsToken kind bytes × IsLongest bytes after × (Begins (codes "//") (bytes ++ after) → ⊥) × (Begins (codes "/*") (bytes ++ after) → ⊥) × (value_of kind bytes ≤ largest)

-- each piece is what it should be, with the later pieces and this text behind it
abbrev pub ArePieces : List Piece → List ℕ → Type 0
ArePieces [] after = Unit {0}
ArePieces (p ∷ ps) after = IsPiece p (pieces_text ps ++ after) × ArePieces ps after

-- the span of bytes that begin at a place
abbrev pub span_at : ℕ → List ℕ → Span
span_at at bytes = record { start = at; end = at + length bytes }

-- the token of a piece that begins at a place
abbrev pub tokens_of : ℕ → Piece → List Token
tokens_of at (token kind bytes) = record { kind = kind; span = span_at at bytes; value = value_of kind bytes } ∷ []
tokens_of at _ = []

-- the tokens of pieces that begin at a place
abbrev pub tokens_from : ℕ → List Piece → List Token
tokens_from at [] = []
tokens_from at (p ∷ ps) = tokens_of at p ++ tokens_from (at + length (piece_text p)) ps

-- the text begins with these pieces, and this is what is left of it
pub record BeginsWith (pieces : List Piece) (text rest : List ℕ) : Type 0 where
  pub whole : text ≡ pieces_text pieces ++ rest
  pub each : ArePieces pieces rest

-- the text has these tokens
abbrev pub Lexes : List ℕ → List Token → Type 0
Lexes text tokens = (pieces : List Piece) × BeginsWith pieces text [] × (tokens ≡ tokens_from 0 pieces)

-- This is refused at its first byte, whose place is given: a byte that begins no piece and no token, a number that is too
-- large, or the beginning of a comment that has no end.
abbrev pub IsRefused : ℕ → List ℕ → LexError → Type 0
IsRefused at rest (BadByte place) =
    (rest ≢ []) × ((p : Piece) (after : List ℕ) → rest ≡ piece_text p ++ after → IsPiece p after → ⊥)
    × ((k : TokenKind) (bytes after : List ℕ) → rest ≡ bytes ++ after → IsToken k bytes → ⊥) × (place ≡ at)
IsRefused at rest (NumberTooLarge span) =
    (bytes : List ℕ) × (after : List ℕ) × (rest ≡ bytes ++ after) × IsToken Number bytes × IsLongest bytes after
    × (largest < value_of Number bytes) × (span ≡ span_at at bytes)
IsRefused at rest (UnclosedComment place) =
    (inside : List ℕ) × (rest ≡ codes "/*" ++ inside) × ((front back : List ℕ) → inside ≢ front ++ (codes "*/" ++ back)) × (place ≡ at)
IsRefused at rest NoMemory = ⊥

-- the text is refused so, behind pieces that are as they should be
abbrev pub Refuses : List ℕ → LexError → Type 0
Refuses text e = (pieces : List Piece) × (rest : List ℕ) × BeginsWith pieces text rest × IsRefused (length (pieces_text pieces)) rest e

-- the text has a list of tokens or a refusal, and no other one
pub record HasOneAnswer (text : List ℕ) : Type 0 where
  pub some : ((tokens : List Token) × Lexes text tokens) ⊎ ((e : LexError) × Refuses text e)
  pub tokens : (ts us : List Token) → Lexes text ts → Lexes text us → ts ≡ us
  pub refusals : (e f : LexError) → Refuses text e → Refuses text f → e ≡ f
  pub apart : (ts : List Token) (e : LexError) → Lexes text ts → Refuses text e → ⊥
