-- Each text has tokens or a refusal.
use Rattle.std.proofs.Common.{◌≡◌, ℕ, zero, suc, ◌+◌, ◌<◌, ◌≤◌, true, false, ◌⊎◌, inl, inr, ⊎_elim, List, [], ◌++◌, length, take, drop, codes, Option, Some, None, unwrap_or, find, eqb, sym, refl, subst, arith}
use Rattle.std.specs.Prelude.{slice_index, take_while}
use Rattle.std.specs.Char.{is_ascii_digit}
use Rattle.std.specs.List.{starts_with}
use Rattle.std.specs.Str.Parse.{digits_value}
use Rattle.std.proofs.lemmas.Bool.{false≢true, cases_Bool, cases_lt, cases_eq, or_from}
use Rattle.std.proofs.lemmas.Bool.Decides.{Decides-eqb}
use Rattle.std.proofs.lemmas.Slice.Eq.{starts_is}
use Rattle.std.proofs.lemmas.List.{length-drop}
use Rattle.perm_tree.specs.declared.errors.LexError.{LexError}
use Rattle.perm_tree.specs.declared.errors.LexError.TheVariants.{BadByte, NumberTooLarge, UnclosedComment}
use Rattle.perm_tree.specs.declared.tokens.Token.{Token}
use Rattle.perm_tree.specs.declared.tokens.TokenKind.{TokenKind}
use Rattle.perm_tree.specs.declared.tokens.TokenKind.TheVariants.{Name}
use Rattle.perm_lex.specs.declared.lexeme.Lexeme.{Lexeme}
use Rattle.perm_lex.specs.declared.table.TheConstants.{KEYWORDS, SIGNS}
use Rattle.perm_lex.specs.Tokens.{is_letter, is_word_byte, largest}
use Rattle.perm_lex.specs.Lexes.{is_blank, Begins, span_at, Lexes, IsRefused, Refuses}
use Rattle.perm_lex.specs.Reading.{ReadsPiece, IsLexeme, BeginsNoGap, is_in_line}
use Rattle.perm_lex.proofs.Spellings.{spells}
use Rattle.perm_lex.proofs.Lexemes.{begins_so, word_found, number_found, too_large, sign_found, no_sign}
use Rattle.perm_lex.proofs.Comments.{NotEnded, line_found, comment_found, comment_unclosed}
use Rattle.perm_lex.proofs.Walk.{blank_found, no_gap, token_found, bad_byte, IsReadTo, read_none, read_more, read_all, step_on}

abbrev Goes : ℕ → List ℕ → Type 0
Goes at text = ((len : ℕ) × (new : List Token) × ReadsPiece at text len new) ⊎ ((e : LexError) × IsRefused at text e)

test_begins : (text front : List ℕ) → starts_with eqb text front ≡ true → Begins front text
test_begins text front h = (_, (starts_is Decides-eqb text front true (sym h)).0 refl)

-- a comment has its first end, or none
comment_goes : (text : List ℕ) (at : ℕ) → Begins (codes "/*") text → (turns place : ℕ) → 2 ≤ place → length text ≤ place + turns → ((n : ℕ) → 2 ≤ n → n < place → NotEnded text n) → Goes at text
comment_goes text at begins zero place low near earlier =
    let none = comment_unclosed text begins (λ n l h. earlier n l (omega arith)) in inr (UnclosedComment at, (none.0, none.1, none.2, refl))
comment_goes text at begins (suc turns) place low near earlier = ⊎_elim
    (λ within. ⊎_elim
    (λ ends. inl (place + 2, [], comment_found text place (place + 2) at begins low within earlier (test_begins (drop place text) (codes "*/") ends) refl))
    (λ goes_on. comment_goes text at begins turns (place + 1) (omega arith) (omega arith)
    (λ n l h. ⊎_elim
    (λ same. subst (NotEnded text) (sym same) (λ b. false≢true ((starts_is Decides-eqb (drop place text) (codes "*/") false (sym goes_on)).1 b.0 b.1)))
    (λ other. earlier n l (omega arith))
    (cases_eq n place)))
    (cases_Bool (starts_with eqb (drop place text) (codes "*/"))))
    (λ past. let none = comment_unclosed text begins (λ n l h. earlier n l (omega arith)) in inr (UnclosedComment at, (none.0, none.1, none.2, refl)))
    (cases_lt place (length text))

lexeme_goes : (text : List ℕ) (at : ℕ) → BeginsNoGap text → (found : Lexeme) → IsLexeme text found → found.value ≤ largest → Goes at text
lexeme_goes text at gap found is' small =
    inl (found.len, _, token_found text at found (record { start = at; end = at + found.len }) gap is' small refl refl)

number_goes : (text : List ℕ) (at : ℕ) → BeginsNoGap text → is_ascii_digit (slice_index text 0) ≡ true → Goes at text
number_goes text at gap digit =
    let len = length (take_while is_ascii_digit text) in
    let n = digits_value 10 (take len text) in
    ⊎_elim
    (λ large. let r = too_large text (take len text) len digit refl refl large in inr (NumberTooLarge (span_at at r.bytes), (r.bytes, r.after, r.whole, r.is, r.longest, r.large, refl)))
    (λ small. lexeme_goes text at gap _ (number_found text (take len text) len n digit refl refl refl) small)
    (cases_lt largest n)

sign_goes : (text : List ℕ) (at : ℕ) → 0 < length text → BeginsNoGap text → is_letter (slice_index text 0) ≡ false → is_ascii_digit (slice_index text 0) ≡ false → Goes at text
sign_goes text at some gap letter digit = go (find (begins_so text) SIGNS) refl
  where
    first : is_word_byte (slice_index text 0) ≡ false
    first = or_from (is_letter (slice_index text 0)) (is_ascii_digit (slice_index text 0)) letter digit

    go : (o : Option TokenKind) → find (begins_so text) SIGNS ≡ o → Goes at text
    go None e = inr (BadByte at, bad_byte text at some gap letter digit (no_sign text first e))
    go (Some k) e = lexeme_goes text at gap _ (sign_found text k first e) (omega arith)

token_goes : (text : List ℕ) (at : ℕ) → 0 < length text → BeginsNoGap text → Goes at text
token_goes text at some gap = ⊎_elim
    (λ letter.
    let len = length (take_while is_word_byte text) in
    lexeme_goes text at gap _ (word_found text (take len text) len (find (spells (take len text)) KEYWORDS) (unwrap_or (find (spells (take len text)) KEYWORDS) Name) letter refl refl refl refl) (omega arith))
    (λ other. ⊎_elim
    (λ digit. number_goes text at gap digit)
    (λ no_digit. sign_goes text at some gap other no_digit)
    (cases_Bool (is_ascii_digit (slice_index text 0))))
    (cases_Bool (is_letter (slice_index text 0)))

-- a piece or a refusal stands at the front of what is left
goes : (text : List ℕ) (at : ℕ) → 0 < length text → Goes at text
goes text at some = ⊎_elim
    (λ blank. inl (1, [], blank_found text at some blank))
    (λ no_blank. ⊎_elim
    (λ line. inl (length (take_while is_in_line text), [], line_found text _ at (test_begins text (codes "//") line) refl))
    (λ no_line. ⊎_elim
    (λ block. comment_goes text at (test_begins text (codes "/*") block) (length text) 2 (omega arith) (omega arith) (λ n l h. absurd (omega arith)))
    (λ no_block. token_goes text at some (no_gap text (sym no_blank) (sym no_line) (sym no_block)))
    (cases_Bool (starts_with eqb text (codes "/*"))))
    (cases_Bool (starts_with eqb text (codes "//"))))
    (cases_Bool (is_blank (slice_index text 0)))

abbrev pub HasAnswer : List ℕ → Type 0
HasAnswer text = ((tokens : List Token) × Lexes text tokens) ⊎ ((e : LexError) × Refuses text e)

walk : (text : List ℕ) (turns at : ℕ) (tokens : List Token) → IsReadTo text at tokens → length text ≤ at + turns → HasAnswer text
walk text zero at tokens so_far near = inl (tokens, read_all text at tokens (omega arith) so_far)
walk text (suc turns) at tokens so_far near =
    let size = length-drop at text in
    ⊎_elim
    (λ within. ⊎_elim
    (λ step.
    let on = (step_on at step.0 (drop at text) step.1 step.2).0 in
    walk text turns (at + step.0) (tokens ++ step.1) (read_more text at step.0 tokens step.1 so_far step.2) (omega arith))
    (λ stop. inr (stop.0, (so_far.pieces, drop at text, so_far.begins, subst (λ n. IsRefused n (drop at text) stop.0) so_far.place stop.1)))
    (goes (drop at text) at (omega arith)))
    (λ past. inl (tokens, read_all text at tokens past so_far))
    (cases_lt at (length text))

-- each text has an answer, whatever its length
pub has_answer : (text : List ℕ) → HasAnswer text
has_answer text = walk text (length text) 0 [] (read_none text) (omega arith)
