-- What has room for the line with a place has room for the text of its answer, with the printed numbers before a trap.
use Rattle.std.proofs.Common.{◌≡◌, ℕ, ◌+◌, ◌≤◌, List, length, codes, sym, subst, arith}
use Rattle.std.proofs.lemmas.List.{length-append}
use Rattle.perm_tree.specs.declared.errors.LexError.{LexError}
use Rattle.perm_tree.specs.declared.errors.ParseError.{ParseError}
use Rattle.perm_tree.specs.declared.errors.TableError.{TableError}
use Rattle.perm_tree.specs.declared.errors.TableError.TheVariants.{DuplicateName, UnknownClass, NoMain, BadMain, TooMany, NoMemory}
use Rattle.perm_tree.specs.declared.errors.TrapKind.{TrapKind}
use Rattle.perm_tree.specs.declared.errors.TypeError.{TypeError}
use Rattle.perm_tree.specs.declared.place.Place.{Place}
use Rattle.perm_answer.specs.declared.Answer.{Answer}
use Rattle.perm_answer.specs.declared.Answer.TheVariants.{Lex, Syntax, Table, Typing, Trap}
use Rattle.perm_answer.specs.declared.RunText.{RunText}
use Rattle.perm_answer.specs.Answers.{lex_word_of, syntax_word_of, table_word_of, trap_word_of, type_word_of, placed_line, printed_text, text_of}

module _ (answer : Answer) (place : Place) (word : List ℕ) (room : ℕ) where
  -- the line of this word, behind that of its stage, has room
  abbrev Fits : List ℕ → List ℕ → Type 0
  Fits stage w = length (placed_line stage w place) ≤ room

  pub lex_room : (e : LexError) → answer ≡ Lex e place → word ≡ lex_word_of e → Fits (codes "lex ") word → length (text_of answer) ≤ room
  lex_room e is told fits = subst (λ a. length (text_of a) ≤ room) (sym is) (subst (Fits (codes "lex ")) told fits)

  pub syntax_room : (e : ParseError) → answer ≡ Syntax e place → word ≡ syntax_word_of e → Fits (codes "syntax ") word → length (text_of answer) ≤ room
  syntax_room e is told fits = subst (λ a. length (text_of a) ≤ room) (sym is) (subst (Fits (codes "syntax ")) told fits)

  -- without a place the line is shorter
  table_fits : (e : TableError) → Fits (codes "table ") (table_word_of e) → length (text_of (Table e place)) ≤ room
  table_fits (DuplicateName span) fits = fits
  table_fits (UnknownClass span) fits = fits
  table_fits NoMain fits = omega (arith, fits)
  table_fits (BadMain span) fits = fits
  table_fits (TooMany span limit) fits = fits
  table_fits NoMemory fits = fits

  pub table_room : (e : TableError) → answer ≡ Table e place → word ≡ table_word_of e → Fits (codes "table ") word → length (text_of answer) ≤ room
  table_room e is told fits = subst (λ a. length (text_of a) ≤ room) (sym is) (table_fits e (subst (Fits (codes "table ")) told fits))

  pub type_room : (e : TypeError) → answer ≡ Typing e place → word ≡ type_word_of e.kind → Fits (codes "type ") word → length (text_of answer) ≤ room
  type_room e is told fits = subst (λ a. length (text_of a) ≤ room) (sym is) (subst (Fits (codes "type ")) told fits)

  pub trap_room : (k : TrapKind) (run : RunText) (end : ℕ) → answer ≡ Trap k place run → word ≡ trap_word_of k → length (placed_line (codes "trap ") word place) ≤ end → length (printed_text run.printed) + end ≤ room → length (text_of answer) ≤ room
  trap_room k run end is told fits all =
      let joined = length-append (printed_text run.printed) (placed_line (codes "trap ") (trap_word_of k) place) in
      let last = subst (λ w. length (placed_line (codes "trap ") w place) ≤ end) told fits in
      subst (λ a. length (text_of a) ≤ room) (sym is) (omega (arith, joined, last, all))
