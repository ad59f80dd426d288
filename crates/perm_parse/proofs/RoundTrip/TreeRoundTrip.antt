-- What is written of a program's canonical tree is read back as the program, but for its spans.
use Rattle.std.proofs.Common.{◌≡◌, ℕ, ◌+◌, List, [], ◌∷◌, ◌++◌, length, refl, sym, ◌∙◌, ap, subst, append_assoc, append-nil}
use Rattle.std.proofs.lemmas.List.{length-append}
use Rattle.std.specs.Prelude.{slice_range}
use Rattle.perm_tree.specs.Places.{Listing}
use Rattle.perm_tree.specs.declared.tokens.Token.{Token}
use Rattle.perm_tree.specs.declared.tokens.TokenKind.{TokenKind}
use Rattle.perm_tree.specs.declared.tokens.TokenKind.TheVariants as kinds
use Rattle.perm_lex.specs.Tokens.{IsToken}
use Rattle.perm_lex.specs.Lexes.{Piece, piece_text, pieces_text, ArePieces, tokens_from, Lexes}
use Rattle.perm_lex.specs.Lexes.Piece.{blank, line_comment, block_comment, token}
use Rattle.perm_parse.specs.Grammar.{Classes, program_text}
use Rattle.perm_parse.specs.Meaning.{nothing_yet}
use Rattle.perm_parse.specs.Parses.{Parses}
use Rattle.perm_parse.specs.ReadsBack.{ReadsBack}
use Rattle.perm_parse.proofs.RoundTrip.BareTrees.{bare_classes, bare_classes-is, bare_classes-of, bare_classes-low}
use Rattle.perm_parse.proofs.RoundTrip.BareTokens.{AreWritten, bare_classes-written}
use Rattle.perm_parse.proofs.RoundTrip.AlikePrograms.{renew_program}
use Rattle.perm_parse.proofs.RoundTrip.CanonicalPieces.{program_pieces}
use Rattle.perm_parse.proofs.RoundTrip.TokenPieces.{write-alike, slice-middle}
use Rattle.perm_parse.proofs.RoundTrip.TreePieces.{program_laid}

-- ---- the tokens of a text are written in it

tokens-written : (text front : List ℕ) (ps : List Piece) → text ≡ front ++ pieces_text ps → ArePieces ps [] → AreWritten text (tokens_from (length front) ps)
tokens-written text front [] e h = tt
tokens-written text front (blank b ∷ ps) e h =
    subst (λ n. AreWritten text (tokens_from n ps)) (length-append front (b ∷ []))
    (tokens-written text (front ++ b ∷ []) ps (e ∙ sym (append_assoc front (b ∷ []) (pieces_text ps))) h.1)
tokens-written text front (line_comment inside ∷ ps) e h =
    let bytes = piece_text (line_comment inside) in
    subst (λ n. AreWritten text (tokens_from n ps)) (length-append front bytes)
    (tokens-written text (front ++ bytes) ps (e ∙ sym (append_assoc front bytes (pieces_text ps))) h.1)
tokens-written text front (block_comment inside ∷ ps) e h =
    let bytes = piece_text (block_comment inside) in
    subst (λ n. AreWritten text (tokens_from n ps)) (length-append front bytes)
    (tokens-written text (front ++ bytes) ps (e ∙ sym (append_assoc front bytes (pieces_text ps))) h.1)
tokens-written text front (token k bytes ∷ ps) e h =
    let here : slice_range text (length front) (length front + length bytes) ≡ bytes = ap (λ w. slice_range w (length front) (length front + length bytes)) e ∙ slice-middle front bytes (pieces_text ps) in (
      record { name = λ n. subst (λ w. IsToken kinds.Name w) (sym here) (subst (λ (j : TokenKind). IsToken j bytes) n h.0.0); number = λ n. h.0.4 },
      subst (λ n. AreWritten text (tokens_from n ps)) (length-append front bytes)
          (tokens-written text (front ++ bytes) ps (e ∙ sym (append_assoc front bytes (pieces_text ps))) h.1),
    )

pub lexes-written : (text : List ℕ) (tokens : List Token) → Lexes text tokens → AreWritten text tokens
lexes-written text tokens (ps, b, e) = subst (AreWritten text) (sym e) (tokens-written text [] ps (b.whole ∙ append-nil (pieces_text ps)) b.each)

-- ---- the canonical tree of a program

-- its tokens parse to the program
bare-parses : (text : List ℕ) (tokens : List Token) (p : Listing) (h : Parses text tokens p) → Parses text (program_text (bare_classes h.tree) []) p
bare-parses text tokens p h = record {
  tree = bare_classes h.tree;
  is_tree = bare_classes-is h.tree h.is_tree;
  spells = refl;
  means = bare_classes-of text h.tree nothing_yet ∙ h.means;
  shallow = bare_classes-low h.tree h.is_tree h.shallow;
}

-- the text of its pieces
abbrev pub written_text : List ℕ → Classes → List ℕ
written_text text tree = pieces_text (program_pieces text (bare_classes tree) [])

pub read-back : (text : List ℕ) (tokens : List Token) (p : Listing) → Lexes text tokens → (h : Parses text tokens p) → ReadsBack (written_text text h.tree) p
read-back text tokens p l h =
    let bare = bare_classes h.tree in
    let ps = program_pieces text bare [] in
    let whole = written_text text h.tree in
    let written : AreWritten text (program_text h.tree []) = subst (AreWritten text) (sym h.spells) (lexes-written text tokens l) in
    let laid = (program_laid text bare [] [] (bare_classes-is h.tree h.is_tree) (record { lays = λ w. (tt, tt) })).lays (bare_classes-written text h.tree written) in
    let alike = write-alike text whole [] ps (program_text bare []) refl laid.0 in
    let again = renew_program text whole (program_text bare []) (tokens_from 0 ps) p (bare-parses text tokens p h) alike in
    record {
      tokens = tokens_from 0 ps;
      program = again.program;
      lexes = (ps, record { whole = sym (append-nil whole); each = laid.1 }, refl);
      parses = again.parses;
      same = again.same;
    }
