-- What the check of a text comes to: its unit, which is accepted, or the first refusal, with the span at which it is.
use Rattle.std.specs.Prelude.{◌≡◌, ℕ, suc, List, Option, Some, None, length, slice_get}
use Rattle.perm_tree.specs.declared.ast.Span.{Span}
use Rattle.perm_tree.specs.declared.errors.LexError.{LexError}
use Rattle.perm_tree.specs.declared.errors.LexError.TheVariants as lexical
use Rattle.perm_tree.specs.declared.errors.ParseError.{ParseError}
use Rattle.perm_tree.specs.declared.errors.ParseError.TheVariants as syntactic
use Rattle.perm_tree.specs.declared.errors.TableError.{TableError}
use Rattle.perm_tree.specs.declared.errors.TableError.TheVariants as table
use Rattle.perm_tree.specs.declared.errors.TypeError.{TypeError}
use Rattle.perm_tree.specs.declared.errors.Refusal.{Refusal}
use Rattle.perm_tree.specs.declared.errors.Refusal.TheVariants.{Lex, Parse, Table, Typing}
use Rattle.perm_tree.specs.declared.errors.CheckFault.{CheckFault}
use Rattle.perm_tree.specs.declared.errors.CheckFault.TheVariants.{Refused, NoMemory}
use Rattle.perm_tree.specs.declared.tokens.Token.{Token}
use Rattle.perm_tree.specs.CodeOf.{code_of}
use Rattle.perm_tree.specs.Names.{names_refusal}
use Rattle.perm_tree.specs.Places.{Listing}
use Rattle.perm_tree.specs.Resolves.{Resolves}
use Rattle.perm_tree.specs.UnitTables.{Tables}
use Rattle.perm_lex.specs.Lexes.{Lexes, Refuses}
use Rattle.perm_parse.specs.Parses.{Parses, IsRefused}
use Rattle.perm_rules.specs.FirstRefused.{unit_refusal}
use Rattle.perm_rules.specs.Goes.{IsAccepted}

-- ---------- the way of a text ----------
-- the text has the tokens of this program
pub record IsProgramOf (text : List ℕ) (program : Listing) : Type 0 where
  pub tokens : List Token
  pub lexes : Lexes text tokens
  pub parses : Parses text tokens program

-- the names of the text's program are resolved to this unit
pub record IsUnitOf (text : List ℕ) (unit : Tables) : Type 0 where
  pub program : Listing
  pub reads : IsProgramOf text program
  pub resolves : Resolves program unit

-- and the typing rules accept it
pub record IsAcceptedOf (text : List ℕ) (unit : Tables) : Type 0 where
  pub reads : IsUnitOf text unit
  pub accepted : IsAccepted (code_of unit)

-- ---------- spans ----------
-- the one byte at a place
abbrev pub byte_at : ℕ → Span
byte_at at = record { start = at; end = suc at }

-- no byte, at a place
abbrev pub empty_at : ℕ → Span
empty_at at = record { start = at; end = at }

-- where a lexical refusal is
abbrev pub lex_span : LexError → Span
lex_span (lexical.BadByte at) = byte_at at
lex_span (lexical.NumberTooLarge span) = span
lex_span (lexical.UnclosedComment at) = byte_at at
lex_span lexical.NoMemory = empty_at 0

-- the span of a token, or the end of the text behind the last one
abbrev pub token_span : ℕ → Option Token → Span
token_span end None = empty_at end
token_span end (Some t) = t.span

-- where a syntactic refusal is
abbrev pub syntax_span : List ℕ → List Token → ParseError → Span
syntax_span text tokens (syntactic.Unexpected i) = token_span (length text) (slice_get tokens i)
syntax_span text tokens (syntactic.TooDeep i) = token_span (length text) (slice_get tokens i)
syntax_span text tokens syntactic.NoMemory = empty_at 0

-- where a refusal of names is; that of NoMain is nowhere
abbrev pub table_span : TableError → Span
table_span (table.DuplicateName span) = span
table_span (table.UnknownClass span) = span
table_span table.NoMain = empty_at 0
table_span (table.BadMain span) = span
table_span (table.TooMany span limit) = span
table_span table.NoMemory = empty_at 0

-- ---------- refusals ----------
-- the text is refused for a byte
pub record IsLexical (text : List ℕ) (e : LexError) (span : Span) : Type 0 where
  pub refused : Refuses text e
  pub at : span ≡ lex_span e

-- it is refused for a token
pub record IsSyntactic (text : List ℕ) (e : ParseError) (span : Span) : Type 0 where
  pub tokens : List Token
  pub lexes : Lexes text tokens
  pub refused : IsRefused tokens e
  pub at : span ≡ syntax_span text tokens e

-- it is refused for a name
pub record IsOfNames (text : List ℕ) (e : TableError) (span : Span) : Type 0 where
  pub program : Listing
  pub reads : IsProgramOf text program
  pub refused : names_refusal program ≡ Some e
  pub at : span ≡ table_span e

-- it is refused for a part that isn't allowed
pub record IsOfTypes (text : List ℕ) (e : TypeError) : Type 0 where
  pub unit : Tables
  pub reads : IsUnitOf text unit
  pub refused : unit_refusal (code_of unit) ≡ Some e

-- the first refusal of a text: what comes before it in the order of stages refuses nothing
abbrev pub IsRefusalOf : List ℕ → Refusal → Type 0
IsRefusalOf text (Lex e span) = IsLexical text e span
IsRefusalOf text (Parse e span) = IsSyntactic text e span
IsRefusalOf text (Table e span) = IsOfNames text e span
IsRefusalOf text (Typing e) = IsOfTypes text e

-- want of memory is no refusal
abbrev pub IsOfText : Refusal → Type 0
IsOfText (Lex lexical.NoMemory span) = ⊥
IsOfText (Parse syntactic.NoMemory span) = ⊥
IsOfText (Table table.NoMemory span) = ⊥
IsOfText refusal = Unit {0}

-- why the text has no checked unit: its refusal, or want of memory
abbrev pub IsFaultOf : List ℕ → CheckFault → Type 0
IsFaultOf text (Refused refusal) = IsRefusalOf text refusal × IsOfText refusal
IsFaultOf text NoMemory = Unit {0}

-- a text has at most one unit that is accepted or one refusal, and not both
pub record HasOneCheck (text : List ℕ) : Type 0 where
  pub units : (u v : Tables) → IsAcceptedOf text u → IsAcceptedOf text v → u ≡ v
  pub refusals : (r s : Refusal) → IsRefusalOf text r → IsRefusalOf text s → r ≡ s
  pub apart : (r : Refusal) (u : Tables) → IsRefusalOf text r → IsAcceptedOf text u → ⊥
