-- Each statement of a program that is read stands in one block.
use Rattle.std.proofs.Common.{◌≡◌, ℕ, ◌+◌, List, [], ◌∷◌, ◌++◌, length, map, refl, sym, ◌∙◌, ap, subst, arith, append-nil, length-append}
use Rattle.std.specs.Prelude.{flat_map}
use Rattle.std.proofs.lemmas.Grind.{flat_map-append}
use Rattle.std.proofs.lemmas.List.{map-append}
use Rattle.perm_tree.specs.Blocks.{rhs_blocks, kind_blocks, stmt_blocks, blocks_of, block_places, HasStatementsOnce}
use Rattle.perm_tree.specs.Places.{Listing}
use Rattle.perm_tree.specs.TextOrder.{methods_of}
use Rattle.perm_tree.specs.declared.ast.Block.{Block}
use Rattle.perm_tree.specs.declared.ast.ClassDecl.{ClassDecl}
use Rattle.perm_tree.specs.declared.ast.FieldDecl.{FieldDecl}
use Rattle.perm_tree.specs.declared.ast.Method.{Method}
use Rattle.perm_tree.specs.declared.ast.Stmt.{Stmt}
use Rattle.perm_tree.proofs.Occurrences.{hit, times, times-append, under, under-zero, under-suc, under-at, under-least, apart-times, contains-times}
use Rattle.perm_parse.specs.Grammar.{RhsTree, BlockTree, StmtTree, Stmts, MemberTree, Members, Classes}
use Rattle.perm_parse.specs.Meaning.{ident, push_stmt, span_over, arg_of, rhs_of, block_of, stmt_of, stmts_of, method_of, member_of, members_of, classes_of, meaning, nothing_yet}
use Rattle.perm_parse.proofs.Walks.{ident-kept, members-kept}
use Rattle.perm_parse.proofs.Walks.UnchangedClasses.{SameClasses, same-classes}
use Rattle.perm_parse.proofs.WellFormed.SameStatements.{IsSame, stays, then, pushed, ident-same, var-same, type-same, expr-same, arg-same, call-same, target-same, method-same}

-- how often a place stands in some blocks
abbrev times_in : ℕ → List Block → ℕ
times_in i bs = times i (block_places bs)

-- how often it stands in the blocks of a program's statements
abbrev held : ℕ → Listing → ℕ
held i s = times_in i (stmt_blocks s.stmts)

times_in-append : (i : ℕ) (bs cs : List Block) → times_in i (bs ++ cs) ≡ times_in i bs + times_in i cs
times_in-append i bs cs = ap (times i) (flat_map-append (λ b. b.stmts) bs cs) ∙ times-append i (block_places bs) (block_places cs)

-- of the statements that are added each one stands once, in the blocks of the added ones or in these blocks
record Places (s t : Listing) (bs : List Block) : Type 0 where
  pub times : (i : ℕ) → held i t + times_in i bs + under i (length s.stmts) ≡ held i s + under i (length t.stmts)

-- no statement is added
none : {s t : Listing} → IsSame s t → Places s t []
none {s} {t} g = record {
  times = λ i. (let kept : held i t ≡ held i s = ap (λ (l : List Stmt). times_in i (stmt_blocks l)) g.stmts in
      let count : under i (length t.stmts) ≡ under i (length s.stmts) = ap (λ (l : List Stmt). under i (length l)) g.stmts in
      omega (arith, kept, count));
}

-- one part behind the other
join : {s t u : Listing} {bs cs : List Block} → Places s t bs → Places t u cs → Places s u (bs ++ cs)
join {bs} {cs} g h = record { times = λ i. omega (arith, g.times i, h.times i, times_in-append i bs cs) }

-- no statement is added before
after : {s t u : Listing} {bs : List Block} → Places s t [] → Places t u bs → Places s u bs
after g h = join g h

-- no statement is added behind
last : {s t u : Listing} {bs : List Block} → Places s t bs → IsSame t u → Places s u bs
last {s} {u} {bs} g h = subst (Places s u) (append-nil bs) (join g (none h))

-- one statement more stands in its block, behind others
push : {s t : Listing} (x : Stmt) (is : List ℕ) → Places s t (record { stmts = is } ∷ kind_blocks x.kind) → Places s (push_stmt x t).1 (record { stmts = is ++ (push_stmt x t).0 ∷ [] } ∷ [])
push {s} {t} x is g = record { times = λ i. one i }
  where
    one : (i : ℕ) → held i (push_stmt x t).1 + times_in i (record { stmts = is ++ (push_stmt x t).0 ∷ [] } ∷ []) + under i (length s.stmts) ≡ held i s + under i (length (push_stmt x t).1.stmts)
    one i =
        let n = length t.stmts in
        let count : under i (length (t.stmts ++ x ∷ [])) ≡ under i n + hit i n = ap (under i) (length-append t.stmts (x ∷ [])) ∙ ap (under i) (omega arith) ∙ under-suc i n in
        let blocks : stmt_blocks (t.stmts ++ x ∷ []) ≡ stmt_blocks t.stmts ++ kind_blocks x.kind = flat_map-append (λ y. kind_blocks y.kind) t.stmts (x ∷ []) ∙ ap (λ bs. stmt_blocks t.stmts ++ bs) (append-nil (kind_blocks x.kind)) in
        let more : held i (push_stmt x t).1 ≡ held i t + times_in i (kind_blocks x.kind) = ap (times_in i) blocks ∙ times_in-append i (stmt_blocks t.stmts) (kind_blocks x.kind) in
        let front : times_in i (record { stmts = is } ∷ kind_blocks x.kind) ≡ times i is + times_in i (kind_blocks x.kind) = times-append i is (block_places (kind_blocks x.kind)) in
        let opened : times_in i (record { stmts = is ++ n ∷ [] } ∷ []) ≡ times i is + hit i n = ap (times i) (append-nil (is ++ n ∷ [])) ∙ times-append i is (n ∷ []) ∙ omega arith in
        omega (arith, count, more, front, opened, g.times i)

-- ---------- statements ----------
mutual
  rhs-places : (text : List ℕ) (a : RhsTree) (s : Listing) → Places s (rhs_of text a s).1 (rhs_blocks (rhs_of text a s).0)
  rhs-places text (RhsTree.value a) s = none (arg-same text a s)
  rhs-places text (RhsTree.field name dot member) s = none (then (var-same text name s) (ident-same text member _))
  rhs-places text (RhsTree.take_field word name dot member) s = none (then (var-same text name s) (ident-same text member _))
  rhs-places text (RhsTree.item name opening e closing) s = none (then (var-same text name s) (expr-same text e _))
  rhs-places text (RhsTree.new_object word name opening closing) s = none (pushed (ident-same text name s) refl)
  rhs-places text (RhsTree.new_array word long opening e closing) s = none (expr-same text e s)
  rhs-places text (RhsTree.called c) s = none (call-same text c s)
  rhs-places text (RhsTree.recover word opening b give name end closing) s = last (stmts-places text b s) (ident-same text name _)

  block-places : (text : List ℕ) (a : BlockTree) (s : Listing) → Places s (block_of text a s).1 ((block_of text a s).0 ∷ [])
  block-places text (BlockTree.block opening b closing) s = stmts-places text b s

  stmt-places : (text : List ℕ) (a : StmtTree) (s : Listing) → Places s (stmt_of text a s).1 (kind_blocks (stmt_of text a s).0.kind)
  stmt-places text (StmtTree.declare ty name end) s = none (then (type-same text ty s) (ident-same text name _))
  stmt-places text (StmtTree.assign target equals r end) s = after (none (target-same text target s)) (rhs-places text r _)
  stmt-places text (StmtTree.set_field name dot member equals a end) s = none (then (var-same text name s) (then (ident-same text member _) (arg-same text a _)))
  stmt-places text (StmtTree.set_item name opening i closing equals e end) s = none (then (var-same text name s) (then (expr-same text i _) (expr-same text e _)))
  stmt-places text (StmtTree.run_call c end) s = none (call-same text c s)
  stmt-places text (StmtTree.print word e end) s = none (expr-same text e s)
  stmt-places text (StmtTree.if_then word opening e closing a) s = after (none (expr-same text e s)) (block-places text a _)
  stmt-places text (StmtTree.if_else word opening e closing a otherwise b) s = after (none (expr-same text e s)) (join (block-places text a _) (block-places text b _))
  stmt-places text (StmtTree.repeat word opening e closing a) s = after (none (expr-same text e s)) (block-places text a _)
  stmt-places text (StmtTree.par word a b) s = join (block-places text a s) (block-places text b _)

  stmts-places : (text : List ℕ) (a : Stmts) (s : Listing) → Places s (stmts_of text a s).1 (record { stmts = (stmts_of text a s).0 } ∷ [])
  stmts-places text Stmts.no_stmts s = record { times = λ i. omega arith }
  stmts-places text (Stmts.more_stmts b x) s =
      let y = stmts_of text b s in
      let z = stmt_of text x y.1 in
      push z.0 y.0 (join (stmts-places text b s) (stmt-places text x y.1))

-- ---------- methods ----------
abbrev bodies : List Method → List Block
bodies ds = map (λ d. d.body) ds

member-places : (text : List ℕ) (x : MemberTree) (fs : List FieldDecl) (ds : List Method) (s t : Listing) → Places s t (bodies ds) → Places s (member_of text x fs ds t).2 (bodies (member_of text x fs ds t).1)
member-places text (MemberTree.field_member ty name end) fs ds s t g = last g (then (type-same text ty t) (ident-same text name _))
member-places text (MemberTree.method ty name opening list closing p perm start b word a end finish) fs ds s t g =
    let head = method_of text ty name list t in
    let x = stmts_of text b head.program in
    let y = arg_of text a x.1 in
    let made : Method = record { result = head.result; name = head.name; params = head.params; receiver = p; body = record { stmts = x.0 }; back = y.0; span = span_over word end } in
    subst (Places s y.1) (sym (map-append (λ (d : Method). d.body) ds (made ∷ [])))
    (join g (after (none (method-same text ty name list t)) (last (stmts-places text b head.program) (arg-same text a x.1))))

members-places : (text : List ℕ) (a : Members) (s : Listing) → Places s (members_of text a s).2 (bodies (members_of text a s).1)
members-places text Members.no_members s = none (stays s)
members-places text (Members.more_members list x) s =
    let r = members_of text list s in
    member-places text x r.0 r.1 s r.2 (members-places text list s)

-- ---------- programs ----------
-- the bodies of one class more stand last
bodies-last : (cs : List ClassDecl) (c : ClassDecl) → bodies (flat_map (λ c. c.methods) (cs ++ c ∷ [])) ≡ bodies (flat_map (λ c. c.methods) cs) ++ bodies c.methods
bodies-last cs c =
    ap bodies (flat_map-append (λ (c : ClassDecl). c.methods) cs (c ∷ []) ∙ ap (λ ds. flat_map (λ (c : ClassDecl). c.methods) cs ++ ds) (append-nil c.methods))
    ∙ map-append (λ (d : Method). d.body) (flat_map (λ (c : ClassDecl). c.methods) cs) c.methods

classes-places : (text : List ℕ) (a : Classes) → Places nothing_yet (classes_of text a nothing_yet) (bodies (methods_of (classes_of text a nothing_yet)))
classes-places text Classes.no_classes = none (stays nothing_yet)
classes-places text (Classes.more_classes list word name opening members closing) =
    let front = classes_of text list nothing_yet in
    let x = ident text name front in
    let r = members_of text members x.1 in
    let c : ClassDecl = record { name = x.0; fields = r.0; methods = r.1 } in
    let kept : r.2.classes ≡ front.classes = members-kept SameClasses same-classes (λ x s. refl) text members x.1 ∙ ident-kept SameClasses same-classes text name front in
    let all = join (classes-places text list) (after (none (ident-same text name front)) (members-places text members x.1)) in
    let same : bodies (methods_of front) ++ bodies r.1 ≡ bodies (flat_map (λ (c : ClassDecl). c.methods) (r.2.classes ++ c ∷ [])) =
    sym (bodies-last front.classes c) ∙ ap (λ (cs : List ClassDecl). bodies (flat_map (λ (c : ClassDecl). c.methods) (cs ++ c ∷ []))) (sym kept) in
    record { times = (subst (Places nothing_yet r.2) same all).times }

-- each place below the number of statements stands once in the blocks of the program that a tree means, and no other one does
meaning-times : (text : List ℕ) (tree : Classes) (i : ℕ) → times_in i (blocks_of (meaning text tree)) ≡ under i (length (meaning text tree).stmts)
meaning-times text tree i =
    let p = meaning text tree in
    omega (arith, (classes-places text tree).times i, under-zero i, times_in-append i (stmt_blocks p.stmts) (bodies (methods_of p)))

pub meaning-once : (text : List ℕ) (tree : Classes) → HasStatementsOnce (meaning text tree)
meaning-once text tree =
    let p = meaning text tree in
    record {
      apart = apart-times (block_places (blocks_of p)) (λ i. omega (arith, meaning-times text tree i, under-least i (length p.stmts)));
      held = λ at within. contains-times at (block_places (blocks_of p)) (omega (arith, meaning-times text tree at, under-at at (length p.stmts) within));
    }
