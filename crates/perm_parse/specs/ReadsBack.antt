-- Texts that are read as a program, but for its spans.
use Rattle.std.specs.Prelude.{ℕ, List}
use Rattle.perm_tree.specs.Places.{Listing}
use Rattle.perm_tree.specs.declared.tokens.Token.{Token}
use Rattle.perm_lex.specs.Lexes.{Lexes}
use Rattle.perm_parse.specs.Parses.{Parses}
use Rattle.perm_parse.specs.SameButSpans.{SameButSpans}

-- the text has tokens, and they parse to the program but for its spans
pub record ReadsBack (text : List ℕ) (p : Listing) : Type 0 where
  pub tokens : List Token
  pub program : Listing
  pub lexes : Lexes text tokens
  pub parses : Parses text tokens program
  pub same : SameButSpans p program
