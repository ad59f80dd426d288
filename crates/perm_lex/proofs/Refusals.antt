-- A text has one list of tokens or one refusal, and not both.
use Rattle.std.proofs.Common.{◌≡◌, ◌≢◌, ℕ, List, [], ◌∷◌, ◌++◌, length, codes, sym, refl, ◌∙◌, ap, subst, arith, append_assoc}
use Rattle.std.specs.Prelude.{slice_index}
use Rattle.std.specs.Char.{is_ascii_digit}
use Rattle.std.proofs.lemmas.Bool.{both_ways}
use Rattle.perm_tree.specs.declared.errors.LexError.{LexError}
use Rattle.perm_tree.specs.declared.errors.LexError.TheVariants.{BadByte, NumberTooLarge, UnclosedComment, NoMemory}
use Rattle.perm_tree.specs.declared.tokens.Token.{Token}
use Rattle.perm_tree.specs.declared.tokens.TokenKind.TheVariants.{Number, Slash}
use Rattle.perm_lex.specs.Tokens.{IsToken, value_of}
use Rattle.perm_lex.specs.Lexes.{pieces_text, span_at, tokens_from, Lexes, IsRefused, Refuses}
use Rattle.perm_lex.specs.Lexes.Piece.{blank, line_comment, block_comment, token}
use Rattle.perm_lex.proofs.Unique.{IsStuck, end_stuck, one_cut, one_token, one_kind, digits_begin, blank_token, blank_apart, marks_apart, token_some, append_some, cons_tail}

-- digits are not the beginning of a comment
digits_apart : (bytes after text : List ℕ) → IsToken Number bytes → 47 ∷ text ≡ bytes ++ after → ⊥
digits_apart [] after text t e = t.0 refl
digits_apart (b ∷ bytes) after text t e =
    both_ways (is_ascii_digit b) (ap (λ l. is_ascii_digit (slice_index l 0)) (sym e)) (digits_begin (b ∷ bytes) t)

-- where something is refused no piece begins
pub refused_stuck : (at : ℕ) (rest : List ℕ) (e : LexError) → IsRefused at rest e → IsStuck rest
refused_stuck at rest (BadByte place) r p after e h = r.1 p after e h
refused_stuck at rest (NumberTooLarge span) r (blank b) after e h = blank_token b Number r.0 after r.1 h r.3 (sym e ∙ r.2)
refused_stuck at rest (NumberTooLarge span) r (line_comment xs) after e h = digits_apart r.0 r.1 (47 ∷ (xs ++ after)) r.3 (sym e ∙ r.2)
refused_stuck at rest (NumberTooLarge span) r (block_comment xs) after e h = digits_apart r.0 r.1 (42 ∷ ((xs ++ codes "*/") ++ after)) r.3 (sym e ∙ r.2)
refused_stuck at rest (NumberTooLarge span) r (token k bytes) after e h =
    let same = one_token k Number bytes r.0 after r.1 (sym e ∙ r.2) h.0 h.1 r.3 r.4 in
    let kind = one_kind k Number bytes h.0 (subst (IsToken Number) (sym same.0) r.3) in
    let value = ap (λ j. value_of j bytes) kind ∙ ap (value_of Number) same.0 in
    let small = h.4 in
    let large = r.5 in
    absurd (omega arith)
refused_stuck at rest (UnclosedComment place) r (blank b) after e h = blank_apart b 47 after (42 ∷ r.0) h refl (sym e ∙ r.1)
refused_stuck at rest (UnclosedComment place) r (line_comment xs) after e h = marks_apart (xs ++ after) r.0 (sym e ∙ r.1)
refused_stuck at rest (UnclosedComment place) r (block_comment xs) after e h =
    let inside = (xs ++ codes "*/") ++ after in
    r.2 xs after (sym (cons_tail 42 42 inside r.0 (cons_tail 47 47 (42 ∷ inside) (42 ∷ r.0) (sym e ∙ r.1))) ∙ append_assoc xs (codes "*/") after)
refused_stuck at rest (UnclosedComment place) r (token k bytes) after e h = h.3 (r.0, sym e ∙ r.1)
refused_stuck at rest NoMemory r p after e h = r

pub refused_some : (at : ℕ) (rest : List ℕ) (e : LexError) → IsRefused at rest e → rest ≢ []
refused_some at rest (BadByte place) r e = r.0 e
refused_some at rest (NumberTooLarge span) r e = append_some r.0 r.1 (token_some Number r.0 r.3) (sym e ∙ r.2)
refused_some at rest (UnclosedComment place) r e = let f = sym e ∙ r.1 in cc
refused_some at rest NoMemory r e = r

-- one thing is refused in one way
pub one_refusal : (at : ℕ) (rest : List ℕ) (e f : LexError) → IsRefused at rest e → IsRefused at rest f → e ≡ f
one_refusal at rest (BadByte p) (BadByte q) r s = ap BadByte (r.3 ∙ sym s.3)
one_refusal at rest (BadByte p) (NumberTooLarge span) r s = absurd (r.2 Number s.0 s.1 s.2 s.3)
one_refusal at rest (BadByte p) (UnclosedComment q) r s = absurd (r.2 Slash (codes "/") (42 ∷ s.0) s.1 refl)
one_refusal at rest (BadByte p) NoMemory r s = absurd s
one_refusal at rest (NumberTooLarge span) (BadByte q) r s = absurd (s.2 Number r.0 r.1 r.2 r.3)
one_refusal at rest (NumberTooLarge span) (NumberTooLarge other) r s =
    let same = one_token Number Number r.0 s.0 r.1 s.1 (sym r.2 ∙ s.2) r.3 r.4 s.3 s.4 in
    ap NumberTooLarge (r.6 ∙ ap (span_at at) same.0 ∙ sym s.6)
one_refusal at rest (NumberTooLarge span) (UnclosedComment q) r s = absurd (digits_apart r.0 r.1 (42 ∷ s.0) r.3 (sym s.1 ∙ r.2))
one_refusal at rest (NumberTooLarge span) NoMemory r s = absurd s
one_refusal at rest (UnclosedComment p) (BadByte q) r s = absurd (s.2 Slash (codes "/") (42 ∷ r.0) r.1 refl)
one_refusal at rest (UnclosedComment p) (NumberTooLarge span) r s = absurd (digits_apart s.0 s.1 (42 ∷ r.0) s.3 (sym r.1 ∙ s.2))
one_refusal at rest (UnclosedComment p) (UnclosedComment q) r s = ap UnclosedComment (r.3 ∙ sym s.3)
one_refusal at rest (UnclosedComment p) NoMemory r s = absurd s
one_refusal at rest NoMemory f r s = absurd r

-- a text has one list of tokens
pub one_lexing : (text : List ℕ) (ts us : List Token) → Lexes text ts → Lexes text us → ts ≡ us
one_lexing text ts us l m =
    let same = one_cut l.0 m.0 [] [] (sym l.1.whole ∙ m.1.whole) l.1.each m.1.each end_stuck end_stuck in
    l.2 ∙ ap (tokens_from 0) same.0 ∙ sym m.2

-- a text that is refused has no tokens
pub not_both : (text : List ℕ) (ts : List Token) (e : LexError) → Lexes text ts → Refuses text e → ⊥
not_both text ts e l r =
    let same = one_cut l.0 r.0 [] r.1 (sym l.1.whole ∙ r.2.whole) l.1.each r.2.each end_stuck (refused_stuck (length (pieces_text r.0)) r.1 e r.3) in
    refused_some (length (pieces_text r.0)) r.1 e r.3 (sym same.1)

-- a text has one refusal
pub one_cause : (text : List ℕ) (e f : LexError) → Refuses text e → Refuses text f → e ≡ f
one_cause text e f r s =
    let at = length (pieces_text r.0) in
    let same = one_cut r.0 s.0 r.1 s.1 (sym r.2.whole ∙ s.2.whole) r.2.each s.2.each (refused_stuck at r.1 e r.3) (refused_stuck (length (pieces_text s.0)) s.1 f s.3) in
    let here : IsRefused at s.1 f = subst (λ ps. IsRefused (length (pieces_text ps)) s.1 f) (sym same.0) s.3 in
    one_refusal at r.1 e f r.3 (subst (λ rest. IsRefused at rest f) (sym same.1) here)
