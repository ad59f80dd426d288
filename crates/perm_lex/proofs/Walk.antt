-- The reader's walk through a text, piece by piece.
use Rattle.std.proofs.Common.{◌≡◌, ◌≢◌, ℕ, ◌+◌, ◌<◌, ◌≤◌, true, false, List, [], ◌∷◌, ◌++◌, length, drop, codes, eqb, ⊎_elim, sym, refl, ◌∙◌, ap, subst, arith, append_assoc}
use Rattle.std.specs.Prelude.{slice_index}
use Rattle.std.specs.Char.{is_ascii_digit}
use Rattle.std.specs.List.{starts_with}
use Rattle.std.proofs.lemmas.Bool.{both_ways, false≢true}
use Rattle.std.proofs.lemmas.Bool.Decides.{Decides-eqb}
use Rattle.std.proofs.lemmas.Slice.Eq.{starts_is}
use Rattle.std.proofs.lemmas.List.{append-nil, length-append, drop-drop, drop_at, drop_all}
use Rattle.perm_tree.specs.declared.ast.Span.{Span}
use Rattle.perm_tree.specs.declared.errors.LexError.TheVariants.{BadByte}
use Rattle.perm_tree.specs.declared.tokens.Token.{Token}
use Rattle.perm_tree.specs.declared.tokens.TokenKind.{TokenKind}
use Rattle.perm_lex.specs.declared.lexeme.Lexeme.{Lexeme}
use Rattle.perm_lex.specs.Tokens.{is_letter, IsToken, largest}
use Rattle.perm_lex.specs.Lexes.{Piece, piece_text, pieces_text, is_blank, IsPiece, ArePieces, tokens_of, tokens_from, BeginsWith, Lexes, IsRefused}
use Rattle.perm_lex.specs.Lexes.Piece.{blank, line_comment, block_comment, token}
use Rattle.perm_lex.specs.Reading.{ReadsPiece, IsLexeme, BeginsNoGap, NoSign}
use Rattle.perm_lex.proofs.Runs.{head_of}
use Rattle.perm_lex.proofs.Lexemes.{token_cases, word_begins}
use Rattle.perm_lex.proofs.Unique.{token_some, digits_begin, piece_some}

pub blank_found : (text : List ℕ) (at : ℕ) → 0 < length text → is_blank (slice_index text 0) ≡ true → ReadsPiece at text 1 []
blank_found [] at some h = absurd (omega arith)
blank_found (b ∷ bs) at some h = record { piece = blank b; after = bs; whole = refl; is = h; long = refl; told = refl }

pub no_gap : (text : List ℕ) → false ≡ is_blank (slice_index text 0) → false ≡ starts_with eqb text (codes "//") → false ≡ starts_with eqb text (codes "/*") → BeginsNoGap text
no_gap text e f g = record {
  blank = sym e;
  line = λ b. false≢true ((starts_is Decides-eqb text (47 ∷ 47 ∷ []) false f).1 b.0 b.1);
  block = λ b. false≢true ((starts_is Decides-eqb text (47 ∷ 42 ∷ []) false g).1 b.0 b.1);
}

pub token_found : (text : List ℕ) (at : ℕ) (found : Lexeme) (span : Span) → BeginsNoGap text → IsLexeme text found → found.value ≤ largest → span.start ≡ at → span.end ≡ at + found.len →
    ReadsPiece at text found.len (record { kind = found.kind; span = span; value = found.value } ∷ [])
token_found text at found span gap is' small start end = record {
  piece = token found.kind is'.bytes;
  after = is'.after;
  whole = is'.whole;
  is = (is'.is, is'.longest, (λ b. gap.line (b.0, is'.whole ∙ b.1)), (λ b. gap.block (b.0, is'.whole ∙ b.1)), subst (λ n. n ≤ largest) is'.told small);
  long = is'.long;
  told = let end' : span.end ≡ at + length is'.bytes = end ∙ ap (λ n. at + n) is'.long in
      λ i. record { kind = found.kind; span = record { start = start i; end = end' i }; value = is'.told i } ∷ [];
}

-- the bytes of a token begin as the text does
begins_alike : (k : TokenKind) (bytes after text : List ℕ) → text ≡ bytes ++ after → IsToken k bytes → slice_index bytes 0 ≡ slice_index text 0
begins_alike k bytes after text e t = let head = head_of bytes after text e (token_some k bytes t) in ap (λ l. slice_index l 0) head.is ∙ head.same

no_token : (text : List ℕ) → is_letter (slice_index text 0) ≡ false → is_ascii_digit (slice_index text 0) ≡ false → NoSign text → (k : TokenKind) (bytes after : List ℕ) → text ≡ bytes ++ after → IsToken k bytes → ⊥
no_token text letter digit sign k bytes after e t =
    let alike = begins_alike k bytes after text e t in
    ⊎_elim
    (λ name. both_ways _ letter (ap is_letter (sym alike) ∙ word_begins bytes name.1.0))
    (⊎_elim
    (λ number. both_ways _ digit (ap is_ascii_digit (sym alike) ∙ digits_begin bytes number.1))
    (λ s. sign k bytes after s.0 e))
    (token_cases k bytes t)

no_piece : (text : List ℕ) → BeginsNoGap text → ((k : TokenKind) (bytes after : List ℕ) → text ≡ bytes ++ after → IsToken k bytes → ⊥) → (p : Piece) (after : List ℕ) → text ≡ piece_text p ++ after → IsPiece p after → ⊥
no_piece text gap none (blank b) after e h = both_ways (is_blank (slice_index text 0)) gap.blank (ap (λ l. is_blank (slice_index l 0)) e ∙ h)
no_piece text gap none (line_comment xs) after e h = gap.line (xs ++ after, e)
no_piece text gap none (block_comment xs) after e h = gap.block ((xs ++ codes "*/") ++ after, e)
no_piece text gap none (token k bytes) after e h = none k bytes after e h.0

pub bad_byte : (text : List ℕ) (at : ℕ) → 0 < length text → BeginsNoGap text → is_letter (slice_index text 0) ≡ false → is_ascii_digit (slice_index text 0) ≡ false → NoSign text → IsRefused at text (BadByte at)
bad_byte text at some gap letter digit sign =
    let none = no_token text letter digit sign in
    ((λ e. let f = ap length e in absurd (omega arith)), no_piece text gap none, none, refl)

pieces_push : (ps : List Piece) (p : Piece) (after : List ℕ) → pieces_text (ps ++ p ∷ []) ++ after ≡ pieces_text ps ++ (piece_text p ++ after)
pieces_push [] p after = ap (λ l. l ++ after) (append-nil (piece_text p))
pieces_push (q ∷ ps) p after =
    append_assoc (piece_text q) (pieces_text (ps ++ p ∷ [])) after ∙ ap (λ l. piece_text q ++ l) (pieces_push ps p after) ∙ sym (append_assoc (piece_text q) (pieces_text ps) (piece_text p ++ after))

are_push : (ps : List Piece) (p : Piece) (after : List ℕ) → ArePieces ps (piece_text p ++ after) → IsPiece p after → ArePieces (ps ++ p ∷ []) after
are_push [] p after each is' = (is', tt)
are_push (q ∷ ps) p after each is' = (subst (IsPiece q) (sym (pieces_push ps p after)) each.0, are_push ps p after each.1 is')

tokens_push : (at : ℕ) (ps : List Piece) (p : Piece) → tokens_from at (ps ++ p ∷ []) ≡ tokens_from at ps ++ tokens_of (at + length (pieces_text ps)) p
tokens_push at [] p = append-nil (tokens_of at p) ∙ ap (λ n. tokens_of n p) (omega arith)
tokens_push at (q ∷ ps) p =
    let size = length-append (piece_text q) (pieces_text ps) in
    let next : at + length (piece_text q) + length (pieces_text ps) ≡ at + length (pieces_text (q ∷ ps)) = omega arith in
    ap (λ l. tokens_of at q ++ l) (tokens_push (at + length (piece_text q)) ps p ∙ ap (λ n. tokens_from (at + length (piece_text q)) ps ++ tokens_of n p) next)
    ∙ sym (append_assoc (tokens_of at q) (tokens_from (at + length (piece_text q)) ps) (tokens_of (at + length (pieces_text (q ∷ ps))) p))

-- the text is read up to a place, with these tokens
pub record IsReadTo (text : List ℕ) (at : ℕ) (tokens : List Token) : Type 0 where
  pub pieces : List Piece
  pub begins : BeginsWith pieces text (drop at text)
  pub place : at ≡ length (pieces_text pieces)
  pub told : tokens ≡ tokens_from 0 pieces

pub read_none : (text : List ℕ) → IsReadTo text 0 []
read_none text = record { pieces = []; begins = record { whole = refl; each = tt }; place = refl; told = refl }

pub read_more : (text : List ℕ) (at len : ℕ) (tokens new : List Token) → IsReadTo text at tokens → ReadsPiece at (drop at text) len new → IsReadTo text (at + len) (tokens ++ new)
read_more text at len tokens new so_far step =
    let ps = so_far.pieces in
    let p = step.piece in
    let left : drop (at + len) text ≡ step.after = sym (drop-drop len at text) ∙ ap (drop len) step.whole ∙ drop_at (piece_text p) step.after len (sym step.long) in
    let whole' : text ≡ pieces_text (ps ++ p ∷ []) ++ step.after = so_far.begins.whole ∙ ap (λ l. pieces_text ps ++ l) step.whole ∙ sym (pieces_push ps p step.after) in
    let each' = are_push ps p step.after (subst (ArePieces ps) step.whole so_far.begins.each) step.is in
    let size : length (pieces_text (ps ++ p ∷ [])) ≡ length (pieces_text ps) + length (piece_text p) =
    ap length (sym (append-nil (pieces_text (ps ++ p ∷ []))) ∙ pieces_push ps p [] ∙ ap (λ l. pieces_text ps ++ l) (append-nil (piece_text p))) ∙ length-append (pieces_text ps) (piece_text p) in
    let place' = so_far.place in
    let long' = step.long in
    let at_is : 0 + length (pieces_text ps) ≡ at = omega arith in
    record {
      pieces = ps ++ p ∷ [];
      begins = record {
        whole = whole' ∙ ap (λ l. pieces_text (ps ++ p ∷ []) ++ l) (sym left);
        each = subst (ArePieces (ps ++ p ∷ [])) (sym left) each';
      };
      place = omega arith;
      told = (λ i. so_far.told i ++ step.told i) ∙ ap (λ n. tokens_from 0 ps ++ tokens_of n p) (sym at_is) ∙ sym (tokens_push 0 ps p);
    }

pub read_all : (text : List ℕ) (at : ℕ) (tokens : List Token) → length text ≤ at → IsReadTo text at tokens → Lexes text tokens
read_all text at tokens end so_far = (so_far.pieces, subst (BeginsWith so_far.pieces text) (drop_all at text end) so_far.begins, so_far.told)

-- a step goes on, and not past the end
pub step_on : (at len : ℕ) (rest : List ℕ) (new : List Token) → ReadsPiece at rest len new → (0 < len) × (len ≤ length rest)
step_on at len rest new step =
    let size = ap length step.whole ∙ length-append (piece_text step.piece) step.after in
    let long' = step.long in
    (some (piece_text step.piece) len long' (piece_some step.piece step.after step.is), omega arith)
  where
    some : (xs : List ℕ) (n : ℕ) → n ≡ length xs → xs ≢ [] → 0 < n
    some [] n e h = absurd (h refl)
    some (x ∷ xs) n e h = omega arith
