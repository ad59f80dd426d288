-- Pieces that write tokens: they are pieces of a text, and the tokens that the text has are alike.
use Rattle.std.proofs.Common.{◌≡◌, ◌≢◌, ℕ, zero, suc, ◌+◌, ◌-◌, ◌<◌, ◌≤◌, ◌⊎◌, inl, inr, Bool as Boolean, true, false, ◌||◌, eqb, leb, List, [], ◌∷◌, ◌++◌, length, take, pos, Some, refl, sym, ◌∙◌, ap, subst, arith, append_assoc, append-nil}
use Rattle.std.specs.Prelude.{slice_range, slice_index}
use Rattle.std.specs.Char.{is_ascii_digit}
use Rattle.std.specs.List.{list_all}
use Rattle.std.specs.Fmt.{decimal, signed_decimal}
use Rattle.std.specs.Str.Parse.{digits_value, AllDigits}
use Rattle.std.proofs.Math.Bool.{or-true}
use Rattle.std.proofs.lemmas.Str.Parse.{digit_from_value}
use Rattle.std.proofs.Math.Seq.{drop-append_seam, take-append_seam}
use Rattle.std.proofs.lemmas.Fmt.{decimal_is_IsNumeral}
use Rattle.std.proofs.lemmas.List.{length-append}
use Rattle.std.proofs.lemmas.Bool.{both_ways, false≢true, ne_eqb, and_parts, and_from, le-leb}
use Rattle.perm_tree.specs.declared.tokens.Token.{Token}
use Rattle.perm_tree.specs.declared.tokens.TokenKind.{TokenKind}
use Rattle.perm_tree.specs.declared.tokens.TokenKind.TheVariants as kinds
use Rattle.perm_lex.specs.Tokens.{spelling, is_letter, is_word_byte, IsWord, IsToken, value_of, largest}
use Rattle.perm_lex.specs.Lexes.{Piece, pieces_text, ArePieces, tokens_from}
use Rattle.perm_lex.specs.Lexes.Piece.{blank, line_comment, block_comment, token}
use Rattle.perm_lex.proofs.Runs.{Stops}
use Rattle.perm_lex.proofs.Spellings.{IsKeyword, IsSign, spelled}
use Rattle.perm_lex.proofs.Writing as writing
use Rattle.perm_lex.proofs.Writing.{goes_on, keyword_piece, number_piece, sign_piece}
use Rattle.perm_parse.specs.Grammar.{Is, IsVar}
use Rattle.perm_parse.proofs.RoundTrip.BareTokens.{AreWritten}
use Rattle.perm_parse.proofs.RoundTrip.AlikeTokens.{AllAlike}
use Rattle.perm_parse.proofs.RoundTrip.CanonicalPieces.{spelled_as, mark, space, line, name_bytes, name_piece, var_piece_as, var_piece, indent_pieces}

-- ---- what pieces write

-- a token with this kind, and with these bytes where it is a name or a number
pub record Writes (text : List ℕ) (u : Token) (k : TokenKind) (bytes : List ℕ) : Type 0 where
  pub kind : u.kind ≡ k
  pub name : k ≡ kinds.Name → name_bytes text u ≡ bytes
  pub number : k ≡ kinds.Number → u.value ≡ value_of k bytes

-- the tokens among the pieces are these
abbrev pub WriteAll : List ℕ → List Piece → List Token → Type 0
WriteAll text [] [] = Unit {0}
WriteAll text (blank b ∷ ps) us = WriteAll text ps us
WriteAll text (token k bytes ∷ ps) (u ∷ us) = Writes text u k bytes × WriteAll text ps us
WriteAll text _ _ = ⊥

pub slice-middle : (front bytes rest : List ℕ) → slice_range (front ++ (bytes ++ rest)) (length front) (length front + length bytes) ≡ bytes
slice-middle front bytes rest =
    let n : length front + length bytes - length front ≡ length bytes = omega arith in
    ap (λ l. take (length front + length bytes - length front) l) (drop-append_seam front (bytes ++ rest)) ∙ ap (λ m. take m (bytes ++ rest)) n ∙ take-append_seam bytes rest

-- so the tokens of the text of the pieces are alike
pub write-alike : (text whole front : List ℕ) (ps : List Piece) (us : List Token) → whole ≡ front ++ pieces_text ps → WriteAll text ps us → AllAlike text whole us (tokens_from (length front) ps)
write-alike text whole front [] [] e h = tt
write-alike text whole front [] (u ∷ us) e h = absurd h
write-alike text whole front (blank b ∷ ps) us e h =
    subst (λ n. AllAlike text whole us (tokens_from n ps)) (length-append front (b ∷ []))
    (write-alike text whole (front ++ b ∷ []) ps us (e ∙ sym (append_assoc front (b ∷ []) (pieces_text ps))) h)
write-alike text whole front (line_comment inside ∷ ps) us e h = absurd h
write-alike text whole front (block_comment inside ∷ ps) us e h = absurd h
write-alike text whole front (token k bytes ∷ ps) [] e h = absurd h
write-alike text whole front (token k bytes ∷ ps) (u ∷ us) e h =
    let here : slice_range whole (length front) (length front + length bytes) ≡ bytes = ap (λ w. slice_range w (length front) (length front + length bytes)) e ∙ slice-middle front bytes (pieces_text ps) in (
      record { kind = h.0.kind; name = λ n. h.0.name (sym h.0.kind ∙ n) ∙ sym here; number = λ n. h.0.number (sym h.0.kind ∙ n) },
      subst (λ n. AllAlike text whole us (tokens_from n ps)) (length-append front bytes)
          (write-alike text whole (front ++ bytes) ps us (e ∙ sym (append_assoc front bytes (pieces_text ps))) h.1),
    )

-- ---- which bytes begin and end a token

or-right : (x y : Boolean) → (x || y) ≡ false → y ≡ false
or-right true y h = absurd (false≢true (sym h))
or-right false y h = h

-- no byte of a word goes on with a sign
other-byte : (b n : ℕ) → is_word_byte b ≡ true → is_word_byte n ≡ false → eqb b n ≡ false
other-byte b n h k = ne_eqb b n (λ e. both_ways (is_word_byte n) k (ap is_word_byte (sym e) ∙ h))

word-stops : (b : ℕ) → is_word_byte b ≡ true → goes_on b ≡ false
word-stops b h = rw (other-byte b 61 h refl, other-byte b 38 h refl, other-byte b 124 h refl, other-byte b 47 h refl, other-byte b 42 h refl) refl

digit-word : (b : ℕ) → is_ascii_digit b ≡ true → is_word_byte b ≡ true
digit-word b h = ap (λ x. is_letter b || x) h ∙ or-true (is_letter b)

letter-word : (b : ℕ) → is_letter b ≡ true → is_word_byte b ≡ true
letter-word b h = ap (λ x. x || is_ascii_digit b) h

digits-stop : (xs : List ℕ) → Stops is_word_byte xs → Stops is_ascii_digit xs
digits-stop [] h = tt
digits-stop (x ∷ xs) h = or-right (is_letter x) (is_ascii_digit x) h

behind-all : (p : ℕ → Boolean) (xs : List ℕ) → Stops p xs → Stops p (xs ++ [])
behind-all p xs h = subst (Stops p) (sym (append-nil xs)) h

begins-word : (bytes rest : List ℕ) → IsWord bytes → Stops goes_on (bytes ++ rest)
begins-word [] rest h = absurd h
begins-word (b ∷ bs) rest h = word-stops b (letter-word b h.0)

begins-digit : (bytes rest : List ℕ) → bytes ≢ [] → list_all is_ascii_digit bytes ≡ true → Stops goes_on (bytes ++ rest)
begins-digit [] rest some h = absurd (some refl)
begins-digit (b ∷ bs) rest some h = word-stops b (digit-word b (and_parts (is_ascii_digit b) (list_all is_ascii_digit bs) h).0)

all-digits : (ds : List ℕ) → AllDigits 10 ds → list_all is_ascii_digit ds ≡ true
all-digits [] h = refl
all-digits (d ∷ ds) h =
    let r = digit_from_value d h.0 in
    and_from (is_ascii_digit d) (list_all is_ascii_digit ds) (and_from (leb 48 d) (leb d 57) (le-leb 48 d (omega arith)) (le-leb d 57 (omega arith))) (all-digits ds h.1)

-- the decimal of a number that isn't too large is a number with its value
pub record IsDecimal (n : ℕ) : Type 0 where
  pub token : IsToken kinds.Number (decimal n)
  pub value : digits_value 10 (decimal n) ≡ n

pub decimal-is : (n : ℕ) → n ≤ largest → IsDecimal n
decimal-is n le =
    let h = decimal_is_IsNumeral n (omega arith) in
    record { token = ((λ e. (let l : 0 < 0 = subst (λ (z : List ℕ). 0 < length z) e h.0.0 in omega arith)), all-digits (decimal n) h.0.1); value = h.1 }

-- ---- tokens laid one before the other

-- where the tokens are written, the pieces are pieces and write them
pub record Lays (text : List ℕ) (us : List Token) (ps : List Piece) : Type 0 where
  pub lays : AreWritten text us → WriteAll text ps us × ArePieces ps []

-- what begins here goes on with no sign
pub record Starts (text : List ℕ) (us : List Token) (ps : List Piece) : Type 0 where
  pub starts : AreWritten text us → Stops goes_on (pieces_text ps)

pub plainly : {text : List ℕ} {us : List Token} {ps : List Piece} → Stops goes_on (pieces_text ps) → Starts text us ps
plainly h = record { starts = λ w. h }

-- what begins here goes on with no token
abbrev pub Ends : List Piece → Type 0
Ends ps = Stops is_word_byte (pieces_text ps) × Stops goes_on (pieces_text ps)

pub gap : {text : List ℕ} {us : List Token} {ps : List Piece} → Lays text us ps → Lays text us (space ∷ ps)
gap more = record { lays = λ w. let r = more.lays w in (r.0, (refl, r.1)) }

pub newline : {text : List ℕ} {us : List Token} {ps : List Piece} → Lays text us ps → Lays text us (line ∷ ps)
newline more = record { lays = λ w. let r = more.lays w in (r.0, (refl, r.1)) }

pub indented : {text : List ℕ} {us : List Token} {ps : List Piece} (depth : ℕ) → Lays text us ps → Lays text us (indent_pieces depth ps)
indented zero more = more
indented (suc depth) more = gap (gap (indented depth more))

spelled-writes : (text : List ℕ) (u : Token) (k : TokenKind) (bytes : List ℕ) → spelling k ≡ Some bytes → Is k u → Writes text u k bytes
spelled-writes text u k bytes s is = record {
  kind = is;
  name = λ e. (let no : spelling kinds.Name ≡ Some bytes = ap spelling (sym e) ∙ s in absurd (cc));
  number = λ e. (let no : spelling kinds.Number ≡ Some bytes = ap spelling (sym e) ∙ s in absurd (cc));
}

-- a keyword, behind which no word goes on
pub word_laid : {text : List ℕ} {u : Token} {us : List Token} {ps : List Piece} (k : TokenKind) → spelling k ≡ Some (spelled_as k) → IsWord (spelled_as k) → Is k u → Stops is_word_byte (pieces_text ps) → Lays text us ps → Lays text (u ∷ us) (mark k ∷ ps)
word_laid {text} {u} {us} {ps} k s word is stops more = record {
  lays = λ w.
      let r = more.lays w.1 in
      ((spelled-writes text u k (spelled_as k) s is, r.0), (keyword_piece k (spelled_as k) (pieces_text ps ++ []) s word (behind-all is_word_byte (pieces_text ps) stops), r.1));
}

sign-is : (k : TokenKind) (bytes : List ℕ) → spelling k ≡ Some bytes → is_letter (slice_index bytes 0) ≡ false → IsSign k bytes
sign-is k bytes s apart = go bytes (spelled k bytes s) apart
  where
    go : (bs : List ℕ) → IsKeyword k bs ⊎ IsSign k bs → is_letter (slice_index bs 0) ≡ false → IsSign k bs
    go bs (inr h) apart = h
    go [] (inl h) apart = absurd h.0
    go (b ∷ bs) (inl h) apart = absurd (both_ways (is_letter b) apart h.0.0)

-- a sign, behind which apart sign goes on
pub sign_laid : {text : List ℕ} {u : Token} {us : List Token} {ps : List Piece} (k : TokenKind) → spelling k ≡ Some (spelled_as k) → is_letter (slice_index (spelled_as k) 0) ≡ false → Is k u → Starts text us ps → Lays text us ps → Lays text (u ∷ us) (mark k ∷ ps)
sign_laid {text} {u} {us} {ps} k s apart is starts more = record {
  lays = λ w.
      let r = more.lays w.1 in
      ((spelled-writes text u k (spelled_as k) s is, r.0), (sign_piece k (spelled_as k) (pieces_text ps ++ []) s (sign-is k (spelled_as k) s apart) (behind-all goes_on (pieces_text ps) (starts.starts w.1)), r.1));
}

pub name_laid : {text : List ℕ} {u : Token} {us : List Token} {ps : List Piece} → Is kinds.Name u → Stops is_word_byte (pieces_text ps) → Lays text us ps → Lays text (u ∷ us) (name_piece text u ∷ ps)
name_laid {text} {u} {us} {ps} is stops more = record {
  lays = λ w.
      let r = more.lays w.1 in
      let name = w.0.name is in
      ((record { kind = is; name = λ e. refl; number = λ e. absurd (cc) }, r.0), (writing.name_piece (name_bytes text u) (pieces_text ps ++ []) name.0 name.1 (behind-all is_word_byte (pieces_text ps) stops), r.1));
}

pub var_laid : {text : List ℕ} {u : Token} {us : List Token} {ps : List Piece} → IsVar u → Stops is_word_byte (pieces_text ps) → Lays text us ps → Lays text (u ∷ us) (var_piece text u ∷ ps)
var_laid {text} {u} {us} {ps} (inl is) stops more = subst (λ p. Lays text (u ∷ us) (p ∷ ps)) (sym (ap (var_piece_as text u) is)) (name_laid is stops more)
var_laid {text} {u} {us} {ps} (inr is) stops more = subst (λ p. Lays text (u ∷ us) (p ∷ ps)) (sym (ap (var_piece_as text u) is)) (word_laid kinds.This refl (refl, refl) is stops more)

pub number_laid : {text : List ℕ} {u : Token} {us : List Token} {ps : List Piece} → Is kinds.Number u → Stops is_word_byte (pieces_text ps) → Lays text us ps → Lays text (u ∷ us) (token kinds.Number (signed_decimal (pos u.value)) ∷ ps)
number_laid {text} {u} {us} {ps} is stops more = record {
  lays = λ w.
      let r = more.lays w.1 in
      let small = w.0.number is in
      let d = decimal-is u.value small in (
        (record { kind = is; name = λ e. absurd (cc); number = λ e. sym d.value }, r.0),
        (number_piece (decimal u.value) (pieces_text ps ++ []) d.token (subst (λ n. n ≤ largest) (sym d.value) small) (behind-all is_ascii_digit (pieces_text ps) (digits-stop (pieces_text ps) stops)), r.1),
      );
}

-- ---- what begins with a word goes on with no sign

pub name-starts : (text : List ℕ) (u : Token) (us : List Token) (ps : List Piece) → Is kinds.Name u → Starts text (u ∷ us) (name_piece text u ∷ ps)
name-starts text u us ps is = record { starts = λ w. begins-word (name_bytes text u) (pieces_text ps) (w.0.name is).0 }

pub var-starts : (text : List ℕ) (u : Token) (us : List Token) (ps : List Piece) → IsVar u → Starts text (u ∷ us) (var_piece text u ∷ ps)
var-starts text u us ps (inl is) = subst (λ p. Starts text (u ∷ us) (p ∷ ps)) (sym (ap (var_piece_as text u) is)) (name-starts text u us ps is)
var-starts text u us ps (inr is) = subst (λ p. Starts text (u ∷ us) (p ∷ ps)) (sym (ap (var_piece_as text u) is)) (plainly refl)

pub number-starts : (text : List ℕ) (u : Token) (us : List Token) (ps : List Piece) → Is kinds.Number u → Starts text (u ∷ us) (token kinds.Number (signed_decimal (pos u.value)) ∷ ps)
number-starts text u us ps is = record { starts = λ w. let d = decimal-is u.value (w.0.number is) in begins-digit (decimal u.value) (pieces_text ps) d.token.0 d.token.1 }
