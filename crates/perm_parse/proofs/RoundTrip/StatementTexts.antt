-- The text of a statement is made of the texts of statements before it.
use Rattle.std.proofs.Common.{◌≡◌, ℕ, ◌+◌, ◌≤◌, List, [], ◌∷◌, ◌++◌, length, codes, refl, ap, arith}
use Rattle.std.proofs.Math.ListN.{get_or-append}
use Rattle.std.proofs.lemmas.List.{length-append}
use Rattle.perm_tree.specs.Places.{Listing, AllBelow}
use Rattle.perm_tree.specs.Printer.Expressions.{parts_text}
use Rattle.perm_tree.specs.Printer.Programs as whole
use Rattle.perm_tree.specs.Printer.Programs.{Wording, indent, block_parts, rhs_parts, stmt_parts}
use Rattle.perm_tree.proofs.Pushes.{all_more, all_append}
use Rattle.perm_tree.proofs.Entries.{ReadsBefore}
use Rattle.perm_parse.specs.Grammar.{RhsTree, BlockTree, StmtTree, Stmts}
use Rattle.perm_parse.specs.Meaning.{ident, target_of, expr_of, rhs_of, stmt_of, stmts_of}
use Rattle.perm_parse.proofs.Walks.ListGrowth.{front-length, ident-grows, stmt-grows, stmts-grows}

-- the statements of a list are there behind it
pub stmts-below : (text : List ℕ) (b : Stmts) (s : Listing) → AllBelow (length (stmts_of text b s).1.stmts) (stmts_of text b s).0
stmts-below text Stmts.no_stmts s = tt
stmts-below text (Stmts.more_stmts b x) s =
    let y = stmts_of text b s in
    let z = stmt_of text x y.1 in
    let grown = front-length y.1.stmts z.1.stmts (stmt-grows text x y.1).stmts in
    let long = length-append z.1.stmts (z.0 ∷ []) in
    all_append (length (z.1.stmts ++ z.0 ∷ [])) y.0 (length z.1.stmts ∷ []) (all_more (length y.1.stmts) (length (z.1.stmts ++ z.0 ∷ [])) y.0 (omega arith) (stmts-below text b s)) (omega arith, tt)

block-same : (before after : List (ℕ → List ℕ)) (is : List ℕ) (depth : ℕ) → AllBelow (length before) is → block_parts (before ++ after) depth is ≡ block_parts before depth is
block-same before after [] depth h = refl
block-same before after (i ∷ is) depth h =
    let here = get_or-append before after (λ d. []) i h.0 in
    let rest = block-same before after is depth h.1 in
    λ j. here j depth ∷ rest j

-- with statements that are there the texts of later ones change nothing
stmts-same : (text : List ℕ) (b : Stmts) (s : Listing) (before after : List (ℕ → List ℕ)) (depth : ℕ) → length (stmts_of text b s).1.stmts ≤ length before → block_parts (before ++ after) depth (stmts_of text b s).0 ≡ block_parts before depth (stmts_of text b s).0
stmts-same text b s before after depth le =
    block-same before after (stmts_of text b s).0 depth (all_more (length (stmts_of text b s).1.stmts) (length before) (stmts_of text b s).0 le (stmts-below text b s))

rhs-same : (text : List ℕ) (r : RhsTree) (s : Listing) (w : Wording) (before after : List (ℕ → List ℕ)) (depth : ℕ) → length (rhs_of text r s).1.stmts ≤ length before →
    rhs_parts w (before ++ after) depth (rhs_of text r s).0 ≡ rhs_parts w before depth (rhs_of text r s).0
rhs-same text (RhsTree.value a) s w before after depth le = refl
rhs-same text (RhsTree.field name dot member) s w before after depth le = refl
rhs-same text (RhsTree.take_field word name dot member) s w before after depth le = refl
rhs-same text (RhsTree.item name opening e closing) s w before after depth le = refl
rhs-same text (RhsTree.new_object word name opening closing) s w before after depth le = refl
rhs-same text (RhsTree.new_array word long opening e closing) s w before after depth le = refl
rhs-same text (RhsTree.called c) s w before after depth le = refl
rhs-same text (RhsTree.recover word opening b give name end closing) s w before after depth le =
    let x = stmts_of text b s in
    let y = ident text name x.1 in
    let grown = front-length x.1.stmts y.1.stmts (ident-grows text name x.1).stmts in
    ap (λ z. codes "recover {\n" ∷ (z ++ indent (depth + 1) ∷ codes "give " ∷ whole.name_text w.names y.0 ∷ codes ";\n" ∷ indent depth ∷ codes "};\n" ∷ [])) (stmts-same text b s before after (depth + 1) (omega arith))

stmt-same : (text : List ℕ) (x : StmtTree) (s : Listing) (w : Wording) (before after : List (ℕ → List ℕ)) (depth : ℕ) → length (stmt_of text x s).1.stmts ≤ length before →
    stmt_parts w (before ++ after) depth (stmt_of text x s).0.kind ≡ stmt_parts w before depth (stmt_of text x s).0.kind
stmt-same text (StmtTree.declare ty name end) s w before after depth le = refl
stmt-same text (StmtTree.assign target equals r end) s w before after depth le =
    let t = target_of text target s in
    ap (λ z. indent depth ∷ whole.target_text w.names t.0 t.1 ∷ codes " = " ∷ z) (rhs-same text r t.2 w before after depth le)
stmt-same text (StmtTree.set_field name dot member equals a end) s w before after depth le = refl
stmt-same text (StmtTree.set_item name opening i closing equals e end) s w before after depth le = refl
stmt-same text (StmtTree.run_call c end) s w before after depth le = refl
stmt-same text (StmtTree.print word e end) s w before after depth le = refl
stmt-same text (StmtTree.if_then word opening e closing (BlockTree.block start b finish)) s w before after depth le =
    let x = expr_of text e s in
    ap (λ z. indent depth ∷ codes "if (" ∷ whole.expr_text w x.0 ∷ codes ") {\n" ∷ (z ++ indent depth ∷ codes "}\n" ∷ [])) (stmts-same text b x.1 before after (depth + 1) le)
stmt-same text (StmtTree.if_else word opening e closing (BlockTree.block start b finish) otherwise (BlockTree.block start2 c finish2)) s w before after depth le =
    let x = expr_of text e s in
    let y = stmts_of text b x.1 in
    let z = stmts_of text c y.1 in
    let grown = front-length y.1.stmts z.1.stmts (stmts-grows text c y.1).stmts in
    let one = stmts-same text b x.1 before after (depth + 1) (omega arith) in
    let two = stmts-same text c y.1 before after (depth + 1) le in
    λ j. indent depth ∷ codes "if (" ∷ whole.expr_text w x.0 ∷ codes ") {\n" ∷ (one j ++ indent depth ∷ codes "} else {\n" ∷ (two j ++ indent depth ∷ codes "}\n" ∷ []))
stmt-same text (StmtTree.repeat word opening e closing (BlockTree.block start b finish)) s w before after depth le =
    let x = expr_of text e s in
    ap (λ z. indent depth ∷ codes "while (" ∷ whole.expr_text w x.0 ∷ codes ") {\n" ∷ (z ++ indent depth ∷ codes "}\n" ∷ [])) (stmts-same text b x.1 before after (depth + 1) le)
stmt-same text (StmtTree.par word (BlockTree.block start b finish) (BlockTree.block start2 c finish2)) s w before after depth le =
    let y = stmts_of text b s in
    let z = stmts_of text c y.1 in
    let grown = front-length y.1.stmts z.1.stmts (stmts-grows text c y.1).stmts in
    let one = stmts-same text b s before after (depth + 1) (omega arith) in
    let two = stmts-same text c y.1 before after (depth + 1) le in
    λ j. indent depth ∷ codes "par {\n" ∷ (one j ++ indent depth ∷ codes "} {\n" ∷ (two j ++ indent depth ∷ codes "}\n" ∷ []))

-- the text of a statement at its place is made of those before it
pub stmt-reads : (text : List ℕ) (x : StmtTree) (s : Listing) (w : Wording) → ReadsBefore (whole.stmt_text w) (length (stmt_of text x s).1.stmts) (stmt_of text x s).0
stmt-reads text x s w before after long = λ i depth. parts_text (stmt-same text x s w before after depth (omega arith) i)
