-- What makes bytes a piece of a text that is written: what stands behind them doesn't go on with them.
use Rattle.std.proofs.Common.{◌≡◌, ◌≢◌, ℕ, ◌≤◌, Bool as Boolean, true, false, not, ◌&&◌, ◌||◌, List, [], ◌∷◌, ◌++◌, codes, Some, unwrap_or, eqb, sym, refl, ◌∙◌, ap, subst, arith}
use Rattle.std.specs.Prelude.{slice_index}
use Rattle.std.specs.Char.{is_ascii_digit}
use Rattle.std.specs.List.{list_all}
use Rattle.std.proofs.lemmas.Bool.{both_ways, and_parts, false≢true}
use Rattle.perm_tree.specs.declared.tokens.TokenKind.{TokenKind}
use Rattle.perm_tree.specs.declared.tokens.TokenKind.TheVariants.{Name, Number}
use Rattle.perm_lex.specs.declared.table.TheConstants.{SIGNS}
use Rattle.perm_lex.specs.Tokens.{spelling, is_letter, is_word_byte, IsWord, IsToken, IsLongest, value_of, largest}
use Rattle.perm_lex.specs.Lexes.{Begins, IsPiece}
use Rattle.perm_lex.specs.Lexes.Piece.{token}
use Rattle.perm_lex.proofs.Runs.{Stops, all_append, nothing_passes}
use Rattle.perm_lex.proofs.Spellings.{Among, IsSign}
use Rattle.perm_lex.proofs.Unique.{cons_tail}
use Rattle.perm_lex.proofs.Lexemes.{token_spelled, value-spelled, word_token, digit_token, sign_token, among_all}

-- the first byte of bytes is that of a comment's mark
begins_slash : (x b : ℕ) (bs after : List ℕ) → Begins (47 ∷ x ∷ []) ((b ∷ bs) ++ after) → b ≡ 47
begins_slash x b bs after begins = ap (λ l. slice_index l 0) begins.1

-- what begins with another byte is no comment
no_comment : (b : ℕ) (bs after : List ℕ) → b ≢ 47 → (Begins (codes "//") ((b ∷ bs) ++ after) → ⊥) × (Begins (codes "/*") ((b ∷ bs) ++ after) → ⊥)
no_comment b bs after other = ((λ begins. other (begins_slash 47 b bs after begins)), (λ begins. other (begins_slash 42 b bs after begins)))

letter_no_slash : (b : ℕ) → is_letter b ≡ true → b ≢ 47
letter_no_slash b letter e = false≢true (ap is_letter (sym e) ∙ letter)

digit_no_slash : (b : ℕ) → is_ascii_digit b ≡ true → b ≢ 47
digit_no_slash b digit e = false≢true (ap is_ascii_digit (sym e) ∙ digit)

word_longest : (b : ℕ) (bs after : List ℕ) → is_letter b ≡ true → Stops is_word_byte after → IsLongest (b ∷ bs) after
word_longest b bs after letter stops k more rest split t =
    nothing_passes is_word_byte after more rest stops split (all_append is_word_byte (b ∷ bs) more (word_token k b (bs ++ more) letter t)).1

-- a name, with no letter and no digit behind it
pub name_piece : (bytes after : List ℕ) → IsWord bytes → ((k : TokenKind) → spelling k ≢ Some bytes) → Stops is_word_byte after → IsPiece (token Name bytes) after
name_piece [] after word free stops = absurd word
name_piece (b ∷ bs) after word free stops =
    let apart = no_comment b bs after (letter_no_slash b word.0) in
    ((word, free), word_longest b bs after word.0 stops, apart.0, apart.1, omega arith)

-- a keyword, with no letter and no digit behind it
pub keyword_piece : (k : TokenKind) (bytes after : List ℕ) → spelling k ≡ Some bytes → IsWord bytes → Stops is_word_byte after → IsPiece (token k bytes) after
keyword_piece k [] after e word stops = absurd word
keyword_piece k (b ∷ bs) after e word stops =
    let apart = no_comment b bs after (letter_no_slash b word.0) in
    let value = value-spelled k (b ∷ bs) e in
    (token_spelled k (b ∷ bs) e, word_longest b bs after word.0 stops, apart.0, apart.1, omega arith)

-- a number that isn't too large, with no digit behind it
pub number_piece : (bytes after : List ℕ) → IsToken Number bytes → value_of Number bytes ≤ largest → Stops is_ascii_digit after → IsPiece (token Number bytes) after
number_piece [] after digits small stops = absurd (digits.0 refl)
number_piece (b ∷ bs) after digits small stops =
    let digit = (and_parts (is_ascii_digit b) (list_all is_ascii_digit bs) digits.1).0 in
    let apart = no_comment b bs after (digit_no_slash b digit) in
    let longest : IsLongest (b ∷ bs) after = λ k more rest split t.
    nothing_passes is_ascii_digit after more rest stops split (all_append is_ascii_digit (b ∷ bs) more (digit_token k b (bs ++ more) digit t).1).1 in
    (digits, longest, apart.0, apart.1, small)

-- the bytes that may make a longer sign or a comment of a sign
abbrev pub goes_on : ℕ → Boolean
goes_on c = eqb c 61 || (eqb c 38 || (eqb c 124 || (eqb c 47 || eqb c 42)))

-- a sign has one byte, or a second one that goes on, and the one that begins with `/` has one
abbrev is_short : List ℕ → Boolean
is_short [] = false
is_short (b ∷ []) = true
is_short (b ∷ c ∷ []) = goes_on c && not (eqb b 47)
is_short (b ∷ c ∷ d ∷ bs) = false

short_sign : (k : TokenKind) (bytes : List ℕ) → spelling k ≡ Some bytes → Among k SIGNS → is_short bytes ≡ true
short_sign k bytes e among = ap (λ o. is_short (unwrap_or o [])) (sym e) ∙ among_all (λ t. is_short (unwrap_or (spelling t) [])) SIGNS k refl among

more_goes_on : (bytes more : List ℕ) → bytes ≢ [] → is_short (bytes ++ more) ≡ true → list_all goes_on more ≡ true
more_goes_on bytes [] some short = refl
more_goes_on [] (m ∷ more) some short = absurd (some refl)
more_goes_on (b ∷ []) (m ∷ []) some short = and_true (goes_on m) (and_parts (goes_on m) (not (eqb b 47)) short).0
  where
    and_true : (x : Boolean) → x ≡ true → (x && true) ≡ true
    and_true x e = ap (λ y. y && true) e
more_goes_on (b ∷ []) (m ∷ n ∷ more) some short = absurd (false≢true short)
more_goes_on (b ∷ c ∷ []) (m ∷ more) some short = absurd (false≢true short)
more_goes_on (b ∷ c ∷ d ∷ bytes) (m ∷ more) some short = absurd (false≢true short)

slash_alone : (bs : List ℕ) → is_short (47 ∷ bs) ≡ true → bs ≡ []
slash_alone [] h = refl
slash_alone (c ∷ []) h = absurd (false≢true (and_parts (goes_on c) false h).1)
slash_alone (c ∷ d ∷ bs) h = absurd (false≢true h)

-- what begins a comment at a sign goes on
no_comment_behind : (x : ℕ) (bytes after : List ℕ) → goes_on x ≡ true → is_short bytes ≡ true → Stops goes_on after → Begins (47 ∷ x ∷ []) (bytes ++ after) → ⊥
no_comment_behind x [] after on short stops begins = false≢true short
no_comment_behind x (b ∷ bs) after on short stops begins =
    let slash = begins_slash x b bs after begins in
    let alone = slash_alone bs (subst (λ c. is_short (c ∷ bs) ≡ true) slash short) in
    let whole : b ∷ bs ≡ 47 ∷ [] = cc (slash, alone) in
    let next : after ≡ x ∷ begins.0 = cons_tail 47 47 after (x ∷ begins.0) (sym (ap (λ l. l ++ after) whole) ∙ begins.1) in
    both_ways (goes_on x) (subst (Stops goes_on) next stops) on

-- a sign, with nothing behind it that goes on
pub sign_piece : (k : TokenKind) (bytes after : List ℕ) → spelling k ≡ Some bytes → IsSign k bytes → Stops goes_on after → IsPiece (token k bytes) after
sign_piece k [] after e sign stops = absurd (sign.0 refl)
sign_piece k (b ∷ bs) after e sign stops =
    let short = short_sign k (b ∷ bs) e sign.2 in
    let value = value-spelled k (b ∷ bs) e in
    let longest : IsLongest (b ∷ bs) after = λ j more rest split t.
    let found = sign_token j ((b ∷ bs) ++ more) rest (((b ∷ bs) ++ more) ++ rest) refl sign.1 t in
    nothing_passes goes_on after more rest stops split (more_goes_on (b ∷ bs) more sign.0 (short_sign j ((b ∷ bs) ++ more) found.0 found.1)) in
    (token_spelled k (b ∷ bs) e, longest, no_comment_behind 47 (b ∷ bs) after refl short stops, no_comment_behind 42 (b ∷ bs) after refl short stops, omega arith)
