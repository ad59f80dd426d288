-- What is written of statements is what the canonical text of the program has there.
use Rattle.std.proofs.Common.{◌≡◌, ℕ, suc, ◌+◌, List, [], ◌∷◌, ◌++◌, length, get_or, codes, refl, sym, ◌∙◌, ap, add-one}
use Rattle.std.proofs.lemmas.List.{map-append}
use Rattle.perm_tree.specs.Places.{Listing}
use Rattle.perm_tree.specs.Printer.Expressions.{parts_text}
use Rattle.perm_tree.specs.Printer.Programs as whole
use Rattle.perm_tree.specs.Printer.Programs.{wording, indent, name_text, block_parts, rhs_parts, stmt_parts, stmt_texts, call_parts, declared_text}
use Rattle.perm_tree.proofs.Entries.{entries_of-at}
use Rattle.perm_tree.specs.declared.tokens.TokenKind.TheVariants as kinds
use Rattle.perm_lex.specs.Lexes.{Piece, pieces_text}
use Rattle.perm_parse.specs.Grammar.{ExprTree, RhsTree, BlockTree, StmtTree, Stmts, IsExpr, IsRhs, IsStmt, AreStmts}
use Rattle.perm_parse.specs.Meaning.{ident, var, type_of, expr_of, arg_of, call_of, target_of, rhs_of, stmt_of, stmts_of}
use Rattle.perm_parse.proofs.RoundTrip.CanonicalTrees.{bare}
use Rattle.perm_parse.proofs.RoundTrip.BareTrees.{bare_arg, bare_rhs, bare_stmt, bare_stmts}
use Rattle.perm_parse.proofs.RoundTrip.CanonicalPieces.{mark, space, line, end_pieces, name_piece, indent_pieces, expr_pieces, arg_pieces, rhs_pieces, stmt_pieces, stmts_pieces}
use Rattle.perm_parse.proofs.Walks.ListGrowth.{Grows, then, ident-grows, expr-grows, arg-grows, rhs-grows, stmt-grows, stmts-grows, push_stmt-grows}
use Rattle.perm_parse.proofs.RoundTrip.WrittenExpressions.{HasThis, slice-pushed, name-written, var-written, expr-written}
use Rattle.perm_parse.proofs.RoundTrip.WrittenArguments.{indent-written, arg-written, call-written, declared-written, target-written}
use Rattle.perm_parse.proofs.RoundTrip.StatementTexts.{stmt-reads}
use Rattle.perm_parse.proofs.RoundTrip.TextParts.{two-parts, three-parts, four-parts, five-parts, seven-parts, and-part, before-join, standing-join, recover-join, test-join, else-join, par-join}

-- ---- statements

-- the statements of a block are written
abbrev Inside : List ℕ → ℕ → Stmts → Listing → Listing → List Piece → Type 0
Inside text depth b s p ps =
    pieces_text (stmts_pieces text (suc depth) (bare_stmts b) (indent_pieces depth (mark kinds.CloseBrace ∷ ps)))
    ≡ parts_text (block_parts (stmt_texts p) (suc depth) (stmts_of text b s).0) ++ pieces_text (indent_pieces depth (mark kinds.CloseBrace ∷ ps))

-- a block, up to its last brace
block-written : (text : List ℕ) (depth : ℕ) (b : Stmts) (s p : Listing) (ps : List Piece) → Inside text depth b s p ps →
    pieces_text (stmts_pieces text (suc depth) (bare_stmts b) (indent_pieces depth (mark kinds.CloseBrace ∷ ps))) ≡ parts_text (block_parts (stmt_texts p) (depth + 1) (stmts_of text b s).0) ++ (indent depth ++ (125 ∷ pieces_text ps))
block-written text depth b s p ps inside =
    inside ∙ (λ i. parts_text (block_parts (stmt_texts p) (sym (add-one depth) i) (stmts_of text b s).0) ++ indent-written depth (mark kinds.CloseBrace ∷ ps) i)

-- a test and a block
test-written : (text : List ℕ) (depth : ℕ) (e : ExprTree) (b : Stmts) (s p : Listing) (ps : List Piece) → HasThis p → IsExpr e → Grows (stmts_of text b (expr_of text e s).1).1 p → Inside text depth b (expr_of text e s).1 p ps →
    pieces_text (expr_pieces text (bare e) (mark kinds.CloseParen ∷ space ∷ mark kinds.OpenBrace ∷ line ∷ stmts_pieces text (suc depth) (bare_stmts b) (indent_pieces depth (mark kinds.CloseBrace ∷ ps))))
    ≡ whole.expr_text (wording p) (expr_of text e s).0 ++ (codes ") {\n" ++ (parts_text (block_parts (stmt_texts p) (depth + 1) (stmts_of text b (expr_of text e s).1).0) ++ (indent depth ++ (125 ∷ pieces_text ps))))
test-written text depth e b s p ps this is g inside =
    let x = expr_of text e s in
    (expr-written text e s p this is (then (stmts-grows text b x.1) g)).bytes (mark kinds.CloseParen ∷ space ∷ mark kinds.OpenBrace ∷ line ∷ stmts_pieces text (suc depth) (bare_stmts b) (indent_pieces depth (mark kinds.CloseBrace ∷ ps)))
    ∙ ap (λ z. whole.expr_text (wording p) x.0 ++ (codes ") {\n" ++ z)) (block-written text depth b x.1 p ps inside)

mutual
  rhs-written : (text : List ℕ) (depth : ℕ) (a : RhsTree) (s p : Listing) (ps : List Piece) → HasThis p → IsRhs a → Grows (rhs_of text a s).1 p →
      pieces_text (rhs_pieces text depth (bare_rhs a) (end_pieces ps)) ≡ parts_text (rhs_parts (wording p) (stmt_texts p) depth (rhs_of text a s).0) ++ pieces_text ps
  rhs-written text depth (RhsTree.value a) s p ps this is g = arg-written text a s p (end_pieces ps) this is g ∙ two-parts (whole.arg_text (wording p) (arg_of text a s).0) (codes ";\n") (pieces_text ps)
  rhs-written text depth (RhsTree.field name dot member) s p ps this is g =
      let x = var text name s in
      let y = ident text member x.1 in
      var-written text name s p (mark kinds.Dot ∷ name_piece text member ∷ end_pieces ps) this is.0 (then (ident-grows text member x.1) g)
      ∙ ap (λ z. name_text p.names x.0 ++ (46 ∷ z)) (name-written text member x.1 p (end_pieces ps) g)
      ∙ four-parts (name_text p.names x.0) (codes ".") (name_text p.names y.0) (codes ";\n") (pieces_text ps)
  rhs-written text depth (RhsTree.take_field word name dot member) s p ps this is g =
      let x = var text name s in
      let y = ident text member x.1 in
      ap (λ z. codes "consume " ++ z) (var-written text name s p (mark kinds.Dot ∷ name_piece text member ∷ end_pieces ps) this is.name (then (ident-grows text member x.1) g))
      ∙ ap (λ z. codes "consume " ++ (name_text p.names x.0 ++ (46 ∷ z))) (name-written text member x.1 p (end_pieces ps) g)
      ∙ five-parts (codes "consume ") (name_text p.names x.0) (codes ".") (name_text p.names y.0) (codes ";\n") (pieces_text ps)
  rhs-written text depth (RhsTree.item name opening e closing) s p ps this is g =
      let x = var text name s in
      let y = expr_of text e x.1 in
      var-written text name s p (mark kinds.OpenBracket ∷ expr_pieces text (bare e) (mark kinds.CloseBracket ∷ end_pieces ps)) this is.name (then (expr-grows text e x.1) g)
      ∙ ap (λ z. name_text p.names x.0 ++ (91 ∷ z)) ((expr-written text e x.1 p this is.index g).bytes (mark kinds.CloseBracket ∷ end_pieces ps))
      ∙ four-parts (name_text p.names x.0) (codes "[") (whole.expr_text (wording p) y.0) (codes "];\n") (pieces_text ps)
  rhs-written text depth (RhsTree.new_object word name opening closing) s p ps this is g =
      let last : Grows (ident text name s).1 p = record { names = g.names; exprs = g.exprs; stmts = g.stmts } in
      ap (λ z. codes "new " ++ z) (name-written text name s p (mark kinds.OpenParen ∷ mark kinds.CloseParen ∷ end_pieces ps) last)
      ∙ three-parts (codes "new ") (name_text p.names (ident text name s).0) (codes "();\n") (pieces_text ps)
  rhs-written text depth (RhsTree.new_array word long opening e closing) s p ps this is g =
      ap (λ z. codes "new long[" ++ z) ((expr-written text e s p this is.size g).bytes (mark kinds.CloseBracket ∷ end_pieces ps))
      ∙ three-parts (codes "new long[") (whole.expr_text (wording p) (expr_of text e s).0) (codes "];\n") (pieces_text ps)
  rhs-written text depth (RhsTree.called c) s p ps this is g = call-written text c s p (end_pieces ps) this is g ∙ and-part (call_parts (wording p) (call_of text c s).0) (codes ";\n") (pieces_text ps)
  rhs-written text depth (RhsTree.recover word opening b give name end closing) s p ps this is g =
      let x = stmts_of text b s in
      let y = ident text name x.1 in
      let behind = indent_pieces depth (mark kinds.CloseBrace ∷ end_pieces ps) in
      let inner = indent_pieces (suc depth) (mark kinds.Give ∷ space ∷ name_piece text name ∷ end_pieces behind) in
      let A = block_parts (stmt_texts p) (suc depth) x.0 in
      ap (λ z. codes "recover {\n" ++ z) (stmts-written text (suc depth) b s p inner this is.body (then (ident-grows text name x.1) g))
      ∙ ap (λ z. codes "recover {\n" ++ (parts_text A ++ z)) (indent-written (suc depth) (mark kinds.Give ∷ space ∷ name_piece text name ∷ end_pieces behind))
      ∙ ap (λ z. codes "recover {\n" ++ (parts_text A ++ (indent (suc depth) ++ (codes "give " ++ z)))) (name-written text name x.1 p (end_pieces behind) g)
      ∙ ap (λ z. codes "recover {\n" ++ (parts_text A ++ (indent (suc depth) ++ (codes "give " ++ (name_text p.names y.0 ++ (codes ";\n" ++ z)))))) (indent-written depth (mark kinds.CloseBrace ∷ end_pieces ps))
      ∙ recover-join (codes "recover {\n") A (indent (suc depth)) (codes "give ") (name_text p.names y.0) (codes ";\n") (indent depth) (codes "};\n") (pieces_text ps)
      ∙ ap (λ d. parts_text (codes "recover {\n" ∷ (block_parts (stmt_texts p) d x.0 ++ indent d ∷ codes "give " ∷ name_text p.names y.0 ∷ codes ";\n" ∷ indent depth ∷ codes "};\n" ∷ [])) ++ pieces_text ps) (sym (add-one depth))

  -- a statement behind its indentation
  stmt-written : (text : List ℕ) (depth : ℕ) (a : StmtTree) (s p : Listing) (ps : List Piece) → HasThis p → IsStmt a → Grows (stmt_of text a s).1 p →
      pieces_text (indent_pieces depth (stmt_pieces text depth (bare_stmt a) ps)) ≡ parts_text (stmt_parts (wording p) (stmt_texts p) depth (stmt_of text a s).0.kind) ++ pieces_text ps
  stmt-written text depth (StmtTree.declare ty name end) s p ps this is g =
      let x = type_of text ty s in
      indent-written depth (stmt_pieces text depth (StmtTree.declare ty name end) ps)
      ∙ ap (λ z. indent depth ++ z) (declared-written text ty name s p (end_pieces ps) g)
      ∙ three-parts (indent depth) (declared_text p.names x.0 (ident text name x.1).0) (codes ";\n") (pieces_text ps)
  stmt-written text depth (StmtTree.assign target equals r end) s p ps this is g =
      let t = target_of text target s in
      let h = whole.target_text p.names t.0 t.1 in
      indent-written depth (stmt_pieces text depth (bare_stmt (StmtTree.assign target equals r end)) ps)
      ∙ ap (λ z. indent depth ++ z) (target-written text target s p (space ∷ mark kinds.Assign ∷ space ∷ rhs_pieces text depth (bare_rhs r) (end_pieces ps)) (then (rhs-grows text r t.2) g))
      ∙ ap (λ z. indent depth ++ (h ++ (codes " = " ++ z))) (rhs-written text depth r t.2 p ps this is.right g)
      ∙ before-join (indent depth) h (codes " = ") (rhs_parts (wording p) (stmt_texts p) depth (rhs_of text r t.2).0) (pieces_text ps)
  stmt-written text depth (StmtTree.set_field name dot member equals a end) s p ps this is g =
      let x = var text name s in
      let y = ident text member x.1 in
      let n = name_text p.names x.0 in
      let m = name_text p.names y.0 in
      let g2 = then (arg-grows text a y.1) g in
      let last = space ∷ mark kinds.Assign ∷ space ∷ arg_pieces text (bare_arg a) (end_pieces ps) in
      indent-written depth (stmt_pieces text depth (bare_stmt (StmtTree.set_field name dot member equals a end)) ps)
      ∙ ap (λ z. indent depth ++ z) (var-written text name s p (mark kinds.Dot ∷ name_piece text member ∷ last) this is.name (then (ident-grows text member x.1) g2))
      ∙ ap (λ z. indent depth ++ (n ++ (46 ∷ z))) (name-written text member x.1 p last g2)
      ∙ ap (λ z. indent depth ++ (n ++ (46 ∷ (m ++ (codes " = " ++ z))))) (arg-written text a y.1 p (end_pieces ps) this is.value g)
      ∙ seven-parts (indent depth) n (codes ".") m (codes " = ") (whole.arg_text (wording p) (arg_of text a y.1).0) (codes ";\n") (pieces_text ps)
  stmt-written text depth (StmtTree.set_item name opening j closing equals e end) s p ps this is g =
      let x = var text name s in
      let y = expr_of text j x.1 in
      let n = name_text p.names x.0 in
      let m = whole.expr_text (wording p) y.0 in
      let g2 = then (expr-grows text e y.1) g in
      let last = mark kinds.CloseBracket ∷ space ∷ mark kinds.Assign ∷ space ∷ expr_pieces text (bare e) (end_pieces ps) in
      indent-written depth (stmt_pieces text depth (bare_stmt (StmtTree.set_item name opening j closing equals e end)) ps)
      ∙ ap (λ z. indent depth ++ z) (var-written text name s p (mark kinds.OpenBracket ∷ expr_pieces text (bare j) last) this is.name (then (expr-grows text j x.1) g2))
      ∙ ap (λ z. indent depth ++ (n ++ (91 ∷ z))) ((expr-written text j x.1 p this is.index g2).bytes last)
      ∙ ap (λ z. indent depth ++ (n ++ (91 ∷ (m ++ (codes "] = " ++ z))))) ((expr-written text e y.1 p this is.value g).bytes (end_pieces ps))
      ∙ seven-parts (indent depth) n (codes "[") m (codes "] = ") (whole.expr_text (wording p) (expr_of text e y.1).0) (codes ";\n") (pieces_text ps)
  stmt-written text depth (StmtTree.run_call c end) s p ps this is g =
      indent-written depth (stmt_pieces text depth (bare_stmt (StmtTree.run_call c end)) ps)
      ∙ ap (λ z. indent depth ++ z) (call-written text c s p (end_pieces ps) this is.0 g)
      ∙ standing-join (indent depth) (call_parts (wording p) (call_of text c s).0) (codes ";\n") (pieces_text ps)
  stmt-written text depth (StmtTree.print word e end) s p ps this is g =
      indent-written depth (stmt_pieces text depth (bare_stmt (StmtTree.print word e end)) ps)
      ∙ ap (λ z. indent depth ++ (codes "print " ++ z)) ((expr-written text e s p this is.1 g).bytes (end_pieces ps))
      ∙ four-parts (indent depth) (codes "print ") (whole.expr_text (wording p) (expr_of text e s).0) (codes ";\n") (pieces_text ps)
  stmt-written text depth (StmtTree.if_then word opening e closing (BlockTree.block start b finish)) s p ps this is g =
      let x = expr_of text e s in
      let y = stmts_of text b x.1 in
      indent-written depth (stmt_pieces text depth (bare_stmt (StmtTree.if_then word opening e closing (BlockTree.block start b finish))) ps)
      ∙ ap (λ z. indent depth ++ (codes "if (" ++ z)) (test-written text depth e b s p (line ∷ ps) this is.test g (stmts-written text (suc depth) b x.1 p (indent_pieces depth (mark kinds.CloseBrace ∷ line ∷ ps)) this is.block.1 g))
      ∙ test-join (indent depth) (codes "if (") (whole.expr_text (wording p) x.0) (codes ") {\n") (block_parts (stmt_texts p) (depth + 1) y.0) (indent depth) (codes "}\n") (pieces_text ps)
  stmt-written text depth (StmtTree.if_else word opening e closing (BlockTree.block start b finish) otherwise (BlockTree.block start2 c finish2)) s p ps this is g =
      let x = expr_of text e s in
      let y = stmts_of text b x.1 in
      let v = stmts_of text c y.1 in
      let A = block_parts (stmt_texts p) (depth + 1) y.0 in
      let last = space ∷ mark kinds.Else ∷ space ∷ mark kinds.OpenBrace ∷ line ∷ stmts_pieces text (suc depth) (bare_stmts c) (indent_pieces depth (mark kinds.CloseBrace ∷ line ∷ ps)) in
      indent-written depth (stmt_pieces text depth (bare_stmt (StmtTree.if_else word opening e closing (BlockTree.block start b finish) otherwise (BlockTree.block start2 c finish2))) ps)
      ∙ ap (λ z. indent depth ++ (codes "if (" ++ z)) (test-written text depth e b s p last this is.test (then (stmts-grows text c y.1) g) (stmts-written text (suc depth) b x.1 p (indent_pieces depth (mark kinds.CloseBrace ∷ last)) this is.first.1 (then (stmts-grows text c y.1) g)))
      ∙ ap (λ z. indent depth ++ (codes "if (" ++ (whole.expr_text (wording p) x.0 ++ (codes ") {\n" ++ (parts_text A ++ (indent depth ++ (codes "} else {\n" ++ z))))))) (block-written text depth c y.1 p (line ∷ ps) (stmts-written text (suc depth) c y.1 p (indent_pieces depth (mark kinds.CloseBrace ∷ line ∷ ps)) this is.second.1 g))
      ∙ else-join (indent depth) (codes "if (") (whole.expr_text (wording p) x.0) (codes ") {\n") A (indent depth) (codes "} else {\n") (block_parts (stmt_texts p) (depth + 1) v.0) (indent depth) (codes "}\n") (pieces_text ps)
  stmt-written text depth (StmtTree.repeat word opening e closing (BlockTree.block start b finish)) s p ps this is g =
      let x = expr_of text e s in
      let y = stmts_of text b x.1 in
      indent-written depth (stmt_pieces text depth (bare_stmt (StmtTree.repeat word opening e closing (BlockTree.block start b finish))) ps)
      ∙ ap (λ z. indent depth ++ (codes "while (" ++ z)) (test-written text depth e b s p (line ∷ ps) this is.test g (stmts-written text (suc depth) b x.1 p (indent_pieces depth (mark kinds.CloseBrace ∷ line ∷ ps)) this is.block.1 g))
      ∙ test-join (indent depth) (codes "while (") (whole.expr_text (wording p) x.0) (codes ") {\n") (block_parts (stmt_texts p) (depth + 1) y.0) (indent depth) (codes "}\n") (pieces_text ps)
  stmt-written text depth (StmtTree.par word (BlockTree.block start b finish) (BlockTree.block start2 c finish2)) s p ps this is g =
      let y = stmts_of text b s in
      let v = stmts_of text c y.1 in
      let A = block_parts (stmt_texts p) (depth + 1) y.0 in
      let last = space ∷ mark kinds.OpenBrace ∷ line ∷ stmts_pieces text (suc depth) (bare_stmts c) (indent_pieces depth (mark kinds.CloseBrace ∷ line ∷ ps)) in
      indent-written depth (stmt_pieces text depth (bare_stmt (StmtTree.par word (BlockTree.block start b finish) (BlockTree.block start2 c finish2))) ps)
      ∙ ap (λ z. indent depth ++ (codes "par {\n" ++ z)) (block-written text depth b s p last (stmts-written text (suc depth) b s p (indent_pieces depth (mark kinds.CloseBrace ∷ last)) this is.1.1 (then (stmts-grows text c y.1) g)))
      ∙ ap (λ z. indent depth ++ (codes "par {\n" ++ (parts_text A ++ (indent depth ++ (codes "} {\n" ++ z))))) (block-written text depth c y.1 p (line ∷ ps) (stmts-written text (suc depth) c y.1 p (indent_pieces depth (mark kinds.CloseBrace ∷ line ∷ ps)) this is.2.1 g))
      ∙ par-join (indent depth) (codes "par {\n") A (indent depth) (codes "} {\n") (block_parts (stmt_texts p) (depth + 1) v.0) (indent depth) (codes "}\n") (pieces_text ps)

  pub stmts-written : (text : List ℕ) (depth : ℕ) (a : Stmts) (s p : Listing) (ps : List Piece) → HasThis p → AreStmts a → Grows (stmts_of text a s).1 p →
      pieces_text (stmts_pieces text depth (bare_stmts a) ps) ≡ parts_text (block_parts (stmt_texts p) depth (stmts_of text a s).0) ++ pieces_text ps
  stmts-written text depth Stmts.no_stmts s p ps this is g = refl
  stmts-written text depth (Stmts.more_stmts b x) s p ps this is g =
      let y = stmts_of text b s in
      let z = stmt_of text x y.1 in
      let w = wording p in
      let g2 = then (push_stmt-grows z.0 z.1) g in
      let entry = entries_of-at (whole.stmt_text w) p.stmts (length z.1.stmts) z.0 (λ d. []) (slice-pushed z.1.stmts p.stmts z.0 g.stmts) (stmt-reads text x y.1 w) in
      let A = block_parts (stmt_texts p) depth y.0 in
      stmts-written text depth b s p (indent_pieces depth (stmt_pieces text depth (bare_stmt x) ps)) this is.0 (then (stmt-grows text x y.1) g2)
      ∙ ap (λ v. parts_text A ++ v) (stmt-written text depth x y.1 p ps this is.1 g2)
      ∙ ap (λ v. parts_text A ++ (v ++ pieces_text ps)) (λ i. sym entry i depth)
      ∙ and-part A (get_or (stmt_texts p) (length z.1.stmts) (λ d. []) depth) (pieces_text ps)
      ∙ ap (λ v. parts_text v ++ pieces_text ps) (sym (map-append (λ i. get_or (stmt_texts p) i (λ d. []) depth) y.0 (length z.1.stmts ∷ [])))
