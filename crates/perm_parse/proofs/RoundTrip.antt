-- The canonical text of a program that was parsed is read back as the program, but for its spans.
pub mod AlikeExpressions
pub mod AlikePrograms
pub mod AlikeStatements
pub mod AlikeTokens
pub mod BareTokens
pub mod BareTrees
pub mod CanonicalPieces
pub mod CanonicalTrees
pub mod SortedLists
pub mod StatementTexts
pub mod TextParts
pub mod TokenPieces
pub mod TokenSuffixes
pub mod TreePieces
pub mod TreeRoundTrip
pub mod WrittenArguments
pub mod WrittenExpressions
pub mod WrittenMembers
pub mod WrittenStatements
use Rattle.std.proofs.Common.{◌≡◌, ℕ, List, [], ◌∷◌, ◌++◌, map, codes, refl, sym, ◌∙◌, ap, subst, append_assoc, append-nil, arith}
use Rattle.std.specs.List.{flat_map}
use Rattle.std.proofs.lemmas.Grind.{flat_map-append}
use Rattle.perm_tree.specs.Places.{Listing}
use Rattle.perm_tree.specs.Printer.Expressions.{parts_text}
use Rattle.perm_tree.specs.Printer.Programs as whole
use Rattle.perm_tree.specs.Printer.Programs.{class_text, canonical, Member}
use Rattle.perm_tree.specs.declared.ast.ClassDecl.{ClassDecl}
use Rattle.perm_tree.specs.declared.tokens.Token.{Token}
use Rattle.perm_tree.specs.declared.tokens.TokenKind.TheVariants as kinds
use Rattle.perm_lex.specs.Lexes.{Piece, pieces_text, Lexes}
use Rattle.perm_parse.specs.Grammar.{Classes, IsProgram, members_text, program_text}
use Rattle.perm_parse.specs.Meaning.{ident, members_of, classes_of, nothing_yet}
use Rattle.perm_parse.specs.Parses.{Parses}
use Rattle.perm_parse.specs.SameButSpans.{SameButSpans}
use Rattle.perm_parse.specs.ReadsBack.{ReadsBack}
use Rattle.perm_parse.proofs.RoundTrip.BareTrees.{bare_classes, bare_members}
use Rattle.perm_parse.proofs.RoundTrip.CanonicalPieces.{mark, space, line, name_piece, members_pieces, program_pieces}
use Rattle.perm_parse.proofs.Walks.ListGrowth.{Grows, stays, then, ident-grows, members-grows, classes-grows}
use Rattle.perm_parse.proofs.Walks.{ident-kept, members-kept}
use Rattle.perm_parse.proofs.Walks.UnchangedClasses.{SameClasses, same-classes}
use Rattle.perm_parse.proofs.RoundTrip.TextParts.{class-join}
use Rattle.perm_parse.proofs.RoundTrip.WrittenExpressions.{HasThis, get-front, name-written}
use Rattle.perm_parse.proofs.RoundTrip.WrittenMembers.{entries, members-written, members-sorted}
use Rattle.perm_parse.proofs.RoundTrip.TokenSuffixes.{IsAscending, program-trails, lexes-ascends}
use Rattle.perm_lex.proofs.Refusals.{one_lexing}
use Rattle.perm_parse.proofs.OneAnswer.{one-answer}
use Rattle.perm_parse.proofs.RoundTrip.TreeRoundTrip.{written_text, read-back}

one-more : (f : ClassDecl → List ℕ) (xs : List ClassDecl) (c : ClassDecl) (r : List ℕ) → flat_map f xs ++ (f c ++ r) ≡ flat_map f (xs ++ c ∷ []) ++ r
one-more f xs c r = rw flat_map-append (simp (append_assoc, append-nil))

program-written : (text : List ℕ) (a : Classes) (p : Listing) (us : List Token) (ps : List Piece) → HasThis p → IsProgram a → IsAscending (program_text a us) → Grows (classes_of text a nothing_yet) p →
    pieces_text (program_pieces text (bare_classes a) ps) ≡ flat_map (class_text p) (classes_of text a nothing_yet).classes ++ pieces_text ps
program-written text Classes.no_classes p us ps this is asc g = refl
program-written text (Classes.more_classes list word name opening members closing) p us ps this is asc g =
    let r = classes_of text list nothing_yet in
    let x = ident text name r in
    let m = members_of text members x.1 in
    let c : ClassDecl = record { name = x.0; fields = m.0; methods = m.1 } in
    let gm : Grows m.2 p = record { names = g.names; exprs = g.exprs; stmts = g.stmts } in
    let gx = then (members-grows text members x.1) gm in
    let n = whole.name_text p.names x.0 in
    let A = map (λ (q : Member). q.text) (entries text p members x.1) in
    let last = mark kinds.CloseBrace ∷ line ∷ ps in
    let inner = members_pieces text (bare_members members) last in
    let kept : m.2.classes ≡ r.classes = members-kept SameClasses same-classes (λ x s. refl) text members x.1 ∙ ident-kept SameClasses same-classes text name r in
    let tail = (program-trails list (word ∷ name ∷ opening ∷ members_text members (closing ∷ us))).ascending asc in
    let order = members-sorted text p members x.1 (closing ∷ us) tail.1.1.1 in
    program-written text list p (word ∷ name ∷ opening ∷ members_text members (closing ∷ us)) (mark kinds.Class ∷ space ∷ name_piece text name ∷ space ∷ mark kinds.OpenBrace ∷ line ∷ inner) this is.list asc (then (ident-grows text name r) gx)
    ∙ ap (λ z. flat_map (class_text p) r.classes ++ (codes "class " ++ z)) (name-written text name r p (space ∷ mark kinds.OpenBrace ∷ line ∷ inner) gx)
    ∙ ap (λ z. flat_map (class_text p) r.classes ++ (codes "class " ++ (n ++ (codes " {\n" ++ z)))) (members-written text members x.1 p last this is.members gm)
    ∙ ap (λ z. flat_map (class_text p) r.classes ++ z) (class-join (codes "class ") n (codes " {\n") A (codes "}\n") (pieces_text ps))
    ∙ ap (λ (z : List Member). flat_map (class_text p) r.classes ++ (parts_text (codes "class " ∷ n ∷ codes " {\n" ∷ (map (λ (q : Member). q.text) z ++ codes "}\n" ∷ [])) ++ pieces_text ps)) (sym order)
    ∙ one-more (class_text p) r.classes c (pieces_text ps)
    ∙ ap (λ z. flat_map (class_text p) (z ++ c ∷ []) ++ pieces_text ps) (sym kept)

this-first : (p : Listing) → Grows nothing_yet p → HasThis p
this-first p g = record { this = get-front (codes "this" ∷ []) p.names 0 [] g.names (omega arith) }

-- what is written of the canonical tree is the canonical text
pub written-canonical : (text : List ℕ) (tokens : List Token) (p : Listing) → Lexes text tokens → (h : Parses text tokens p) → written_text text h.tree ≡ canonical p
written-canonical text tokens p l h =
    let same : classes_of text h.tree nothing_yet ≡ p = h.means in
    let g : Grows (classes_of text h.tree nothing_yet) p = subst (Grows (classes_of text h.tree nothing_yet)) same (stays (classes_of text h.tree nothing_yet)) in
    let asc : IsAscending (program_text h.tree []) = subst IsAscending (sym h.spells) (lexes-ascends text tokens l) in
    program-written text h.tree p [] [] (this-first p (then (classes-grows text h.tree nothing_yet) g)) h.is_tree asc g
    ∙ append-nil (flat_map (class_text p) (classes_of text h.tree nothing_yet).classes)
    ∙ ap (λ (q : Listing). flat_map (class_text p) q.classes) same

-- the canonical text of a parsed program has tokens, and they parse to that program but for its spans
pub reads_back : (text : List ℕ) (tokens : List Token) (p : Listing) → Lexes text tokens → Parses text tokens p → ReadsBack (canonical p) p
reads_back text tokens p l h = subst (λ c. ReadsBack c p) (written-canonical text tokens p l h) (read-back text tokens p l h)

-- and its tokens parse to nothing else
pub reads_only_back : (text : List ℕ) (tokens : List Token) (p : Listing) → Lexes text tokens → Parses text tokens p → (others : List Token) (q : Listing) → Lexes (canonical p) others → Parses (canonical p) others q → SameButSpans p q
reads_only_back text tokens p l h others q m k =
    let r = reads_back text tokens p l h in
    let same = one_lexing (canonical p) others r.tokens m r.lexes in
    subst (SameButSpans p) ((one-answer (canonical p) r.tokens).programs r.program q r.parses (subst (λ (ts : List Token). Parses (canonical p) ts q) same k)) r.same
