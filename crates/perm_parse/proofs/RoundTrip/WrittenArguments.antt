-- What is written of arguments, calls and targets is what the canonical text of the program has there.
use Rattle.std.proofs.Common.{◌≡◌, ℕ, zero, suc, List, [], ◌∷◌, ◌++◌, codes, refl, sym, ◌∙◌, ap}
use Rattle.perm_tree.specs.Places.{Listing}
use Rattle.perm_tree.specs.Printer.Expressions as canonical
use Rattle.perm_tree.specs.Printer.Expressions.{parts_text, word}
use Rattle.perm_tree.specs.Printer.Programs as whole
use Rattle.perm_tree.specs.Printer.Programs.{Wording, wording, indent, args_parts, more_args_parts, call_parts, receiver_text, declared_text}
use Rattle.perm_tree.specs.declared.ast.Arg.{Arg}
use Rattle.perm_tree.specs.declared.tokens.Token.{Token}
use Rattle.perm_tree.specs.declared.tokens.TokenKind.TheVariants as kinds
use Rattle.perm_lex.specs.Lexes.{Piece, pieces_text}
use Rattle.perm_parse.specs.Grammar.{TypeTree, ArgTree, ArgList, Args, RecvTree, CallTree, TargetTree, IsArg, IsArgList, AreArgs, IsRecv, IsCall}
use Rattle.perm_parse.specs.Meaning.{ident, var, type_of, arg_of, arg_list_of, args_of, recv_of, call_of, target_of}
use Rattle.perm_parse.proofs.RoundTrip.BareTrees.{bare_arg, bare_arg_list, bare_args, bare_call}
use Rattle.perm_parse.proofs.RoundTrip.CanonicalPieces.{mark, space, name_piece, indent_pieces, type_pieces, arg_pieces, arg_list_pieces, args_pieces, recv_pieces, call_pieces, target_pieces}
use Rattle.perm_parse.proofs.Walks.ListGrowth.{Grows, then, ident-grows, arg-grows, args-grows}
use Rattle.perm_parse.proofs.RoundTrip.TextParts.{one-part, two-parts, three-parts, comma-part, call-join}
use Rattle.perm_parse.proofs.RoundTrip.WrittenExpressions.{HasThis, name-written, var-written, type-written, expr-written}

pub indent-written : (depth : ℕ) (ps : List Piece) → pieces_text (indent_pieces depth ps) ≡ indent depth ++ pieces_text ps
indent-written zero ps = refl
indent-written (suc depth) ps = ap (λ z. 32 ∷ 32 ∷ z) (indent-written depth ps)

-- ---- arguments

pub arg-written : (text : List ℕ) (a : ArgTree) (s p : Listing) (ps : List Piece) → HasThis p → IsArg a → Grows (arg_of text a s).1 p → pieces_text (arg_pieces text (bare_arg a) ps) ≡ whole.arg_text (wording p) (arg_of text a s).0 ++ pieces_text ps
arg-written text (ArgTree.plain e) s p ps this is g = (expr-written text e s p this is g).bytes ps
arg-written text (ArgTree.consumed word name) s p ps this is g =
    ap (λ z. codes "consume " ++ z) (var-written text name s p ps this is.1 g) ∙ two-parts (codes "consume ") (whole.name_text p.names (var text name s).0) (pieces_text ps)

more-snoc : (w : Wording) (xs : List Arg) (y : Arg) → more_args_parts w (xs ++ y ∷ []) ≡ more_args_parts w xs ++ codes ", " ∷ whole.arg_text w y ∷ []
more-snoc w [] y = refl
more-snoc w (x ∷ xs) y = ap (λ z. codes ", " ∷ whole.arg_text w x ∷ z) (more-snoc w xs y)

snoc-some : (xs : List Arg) (y : Arg) → xs ++ y ∷ [] ≡ [] → ⊥
snoc-some [] y e = cc
snoc-some (x ∷ xs) y e = cc

args-snoc : (w : Wording) (xs : List Arg) (y : Arg) → (xs ≡ [] → ⊥) → args_parts w (xs ++ y ∷ []) ≡ args_parts w xs ++ codes ", " ∷ whole.arg_text w y ∷ []
args-snoc w [] y some = absurd (some refl)
args-snoc w (x ∷ xs) y some = ap (λ z. whole.arg_text w x ∷ z) (more-snoc w xs y)

one-none : (x : Arg) → x ∷ [] ≡ [] → ⊥
one-none x e = cc

list-some : (text : List ℕ) (a : ArgList) (s : Listing) → (arg_list_of text a s).0 ≡ [] → ⊥
list-some text (ArgList.one_arg a) s = one-none (arg_of text a s).0
list-some text (ArgList.more_args list comma a) s = snoc-some (arg_list_of text list s).0 (arg_of text a (arg_list_of text list s).1).0

arg_list-written : (text : List ℕ) (a : ArgList) (s p : Listing) (ps : List Piece) → HasThis p → IsArgList a → Grows (arg_list_of text a s).1 p →
    pieces_text (arg_list_pieces text (bare_arg_list a) ps) ≡ parts_text (args_parts (wording p) (arg_list_of text a s).0) ++ pieces_text ps
arg_list-written text (ArgList.one_arg a) s p ps this is g = arg-written text a s p ps this is g ∙ one-part (whole.arg_text (wording p) (arg_of text a s).0) (pieces_text ps)
arg_list-written text (ArgList.more_args list comma a) s p ps this is g =
    let x = arg_list_of text list s in
    let y = arg_of text a x.1 in
    let w = wording p in
    arg_list-written text list s p (mark kinds.Comma ∷ space ∷ arg_pieces text (bare_arg a) ps) this is.0 (then (arg-grows text a x.1) g)
    ∙ ap (λ z. parts_text (args_parts w x.0) ++ (44 ∷ 32 ∷ z)) (arg-written text a x.1 p ps this is.2 g)
    ∙ comma-part (args_parts w x.0) (whole.arg_text w y.0) (pieces_text ps)
    ∙ ap (λ z. parts_text z ++ pieces_text ps) (sym (args-snoc w x.0 y.0 (list-some text list s)))

args-written : (text : List ℕ) (a : Args) (s p : Listing) (ps : List Piece) → HasThis p → AreArgs a → Grows (args_of text a s).1 p →
    pieces_text (args_pieces text (bare_args a) ps) ≡ parts_text (args_parts (wording p) (args_of text a s).0) ++ pieces_text ps
args-written text Args.no_args s p ps this is g = refl
args-written text (Args.args list) s p ps this is g = arg_list-written text list s p ps this is g

-- ---- calls and targets

recv-written : (text : List ℕ) (a : RecvTree) (s p : Listing) (ps : List Piece) → HasThis p → IsRecv a → Grows (recv_of text a s).2 p →
    pieces_text (recv_pieces text a ps) ≡ receiver_text p.names (recv_of text a s).0 (recv_of text a s).1 ++ pieces_text ps
recv-written text (RecvTree.lent name) s p ps this is g = var-written text name s p ps this is g
recv-written text (RecvTree.given opening word name closing) s p ps this is g =
    ap (λ z. codes "(consume " ++ z) (var-written text name s p (mark kinds.CloseParen ∷ ps) this is.name g) ∙ three-parts (codes "(consume ") (whole.name_text p.names (var text name s).0) (codes ")") (pieces_text ps)

pub call-written : (text : List ℕ) (a : CallTree) (s p : Listing) (ps : List Piece) → HasThis p → IsCall a → Grows (call_of text a s).1 p →
    pieces_text (call_pieces text (bare_call a) ps) ≡ parts_text (call_parts (wording p) (call_of text a s).0) ++ pieces_text ps
call-written text (CallTree.call recv dot name opening list closing) s p ps this is g =
    let x = recv_of text recv s in
    let y = ident text name x.2 in
    let g2 = then (args-grows text list y.1) g in
    let rc = receiver_text p.names x.0 x.1 in
    let n = whole.name_text p.names y.0 in
    recv-written text recv s p (mark kinds.Dot ∷ name_piece text name ∷ mark kinds.OpenParen ∷ args_pieces text (bare_args list) (mark kinds.CloseParen ∷ ps)) this is.receiver (then (ident-grows text name x.2) g2)
    ∙ ap (λ z. rc ++ (46 ∷ z)) (name-written text name x.2 p (mark kinds.OpenParen ∷ args_pieces text (bare_args list) (mark kinds.CloseParen ∷ ps)) g2)
    ∙ ap (λ z. rc ++ (46 ∷ (n ++ (40 ∷ z)))) (args-written text list y.1 p (mark kinds.CloseParen ∷ ps) this is.args g)
    ∙ call-join rc n (args_parts (wording p) (args_of text list y.1).0) (pieces_text ps)

-- a type and a name
pub declared-written : (text : List ℕ) (ty : TypeTree) (name : Token) (s p : Listing) (ps : List Piece) → Grows (ident text name (type_of text ty s).1).1 p →
    pieces_text (type_pieces text ty (space ∷ name_piece text name ∷ ps)) ≡ declared_text p.names (type_of text ty s).0 (ident text name (type_of text ty s).1).0 ++ pieces_text ps
declared-written text ty name s p ps g =
    let x = type_of text ty s in
    let t = canonical.type_text p.names x.0 in
    type-written text ty s p (space ∷ name_piece text name ∷ ps) (then (ident-grows text name x.1) g)
    ∙ ap (λ z. t ++ (32 ∷ z)) (name-written text name x.1 p ps g)
    ∙ three-parts t (codes " ") (whole.name_text p.names (ident text name x.1).0) (pieces_text ps)

pub target-written : (text : List ℕ) (a : TargetTree) (s p : Listing) (ps : List Piece) → Grows (target_of text a s).2 p →
    pieces_text (target_pieces text a ps) ≡ whole.target_text p.names (target_of text a s).0 (target_of text a s).1 ++ pieces_text ps
target-written text (TargetTree.known name) s p ps g = name-written text name s p ps g
target-written text (TargetTree.declared ty name) s p ps g = declared-written text ty name s p ps g
