-- The marks of statements, methods and classes stand at their tokens: a program is in text order where its tokens are.
use Rattle.std.proofs.Common.{◌≡◌, ℕ, List, [], ◌∷◌, ◌++◌, length, refl, sym, ◌∙◌, ap, subst, arith, append-nil}
use Rattle.std.specs.List.{flat_map}
use Rattle.std.proofs.lemmas.Grind.{flat_map-append}
use Rattle.perm_tree.specs.Places.{AllBelow, Listing}
use Rattle.perm_tree.specs.TextOrder.{Mark, mark_names, Marks, IsRising, all_expr_marks, all_stmt_marks, marks_at, block_marks, rhs_marks, stmt_marks, params_marks, method_marks, methods_marks, methods_of, marks_of}
use Rattle.perm_tree.specs.TextOrder.Mark.{names}
use Rattle.perm_tree.specs.declared.ast.ClassDecl.{ClassDecl}
use Rattle.perm_tree.specs.declared.ast.Expr.{Expr}
use Rattle.perm_tree.specs.declared.ast.FieldDecl.{FieldDecl}
use Rattle.perm_tree.specs.declared.ast.Method.{Method}
use Rattle.perm_tree.specs.declared.ast.Perm.{Perm}
use Rattle.perm_tree.specs.declared.ast.Stmt.{Stmt}
use Rattle.perm_tree.specs.declared.tokens.Token.{Token}
use Rattle.perm_tree.proofs.MethodMarks.{methods-append}
use Rattle.perm_parse.specs.Grammar.{TypeTree, ArgTree, TargetTree, RhsTree, BlockTree, StmtTree, Stmts, ParamList, Params, MemberTree, Members, Classes, target_text, rhs_text, block_text, stmt_text, stmts_text, type_text, param_list_text, params_text, member_text, members_text, program_text}
use Rattle.perm_parse.specs.Meaning.{ident, var, span_over, type_of, expr_of, arg_of, target_of, head_last, block_last, rhs_of, block_of, stmt_of, stmts_of, push_stmt, param_list_of, params_of, method_of, member_of, members_of, classes_of, nothing_yet, meaning}
use Rattle.perm_parse.proofs.Walks.ListGrowth.{front-refl, front-length, Grows, then, push_stmt-grows, ident-grows, type-grows, expr-grows, arg-grows, rhs-grows, block-grows, stmt-grows, stmts-grows, params-grows, member-grows, members-grows, classes-grows}
use Rattle.perm_parse.proofs.Walks.{ident-kept, members-kept}
use Rattle.perm_parse.proofs.Walks.UnchangedClasses.{SameClasses, same-classes}
use Rattle.perm_parse.proofs.WellFormed.ExpressionMarks.{AreInOrder, Told, nothing, skip, ended, Under, before, entry-pushed, ident-told, var-told, type-told, expr-told, arg-told, call-told}

-- ---- statements

target-told : {n : ℕ} {vs : List Token} (text : List ℕ) (a : TargetTree) (s : Listing) {xs : List Expr} {ys : List Stmt} {us : List Token} {ms : List Mark} →
    Under n xs ys (target_of text a s).2 → Told n vs us ms → Told n vs (target_text a us) (names (target_of text a s).1 ∷ ms)
target-told text (TargetTree.known name) s u r = ident-told text name s u r
target-told text (TargetTree.declared ty name) s u r = type-told ty (ident-told text name (type_of text ty s).1 u r)

-- the marks of one statement more stand last
block-last : (ss : List Marks) (list : List ℕ) (i : ℕ) (ms : List Mark) → block_marks ss (list ++ i ∷ []) ms ≡ block_marks ss list (marks_at ss i ms)
block-last ss [] i ms = refl
block-last ss (j ∷ list) i ms = ap (marks_at ss j) (block-last ss list i ms)

-- the marks of a statement that was pushed are made of those of the statements before it
pushed-told : {n : ℕ} {xs : List Expr} {ys : List Stmt} {vs us : List Token} (x : Stmt) (s : Listing) (ms : List Mark) →
    Under n xs ys (push_stmt x s).1 → Told n vs us (stmt_marks (all_expr_marks xs) (all_stmt_marks xs s.stmts) x ms) → Told n vs us (marks_at (all_stmt_marks xs ys) (length s.stmts) ms)
pushed-told {n} {xs} {ys} {vs} {us} x s ms u r =
    subst (λ (m : Marks). Told n vs us (m ms)) (sym (entry-pushed (stmt_marks (all_expr_marks xs)) s.stmts ys x (λ ms. ms) u.stmts)) r

-- a statement that isn't pushed yet
abbrev unpushed : {n : ℕ} {xs : List Expr} {ys : List Stmt} (x : Stmt) (s : Listing) → Under n xs ys (push_stmt x s).1 → Under n xs s.stmts s
unpushed x s u = record { some = u.some; names = u.names; exprs = u.exprs; stmts = front-refl s.stmts }

mutual
  -- a right side, whose head ends with the word `recover` or with the token behind it
  rhs-told : {n : ℕ} {vs : List Token} (text : List ℕ) (a : RhsTree) (end : Token) (s : Listing) {xs : List Expr} {ys : List Stmt} {us : List Token} {ms : List Mark} →
      Under n xs ys (rhs_of text a s).1 → Told n vs us ms → Told n vs (rhs_text a us) (rhs_marks (all_expr_marks xs) (all_stmt_marks xs ys) (head_last a end).span.end (rhs_of text a s).0 ms)
  rhs-told text (RhsTree.value a) last s u r = arg-told text a s u r
  rhs-told text (RhsTree.field name dot member) last s u r =
      let x = var text name s in
      var-told text name s (before (ident-grows text member x.1) u) (skip (ident-told text member x.1 u r))
  rhs-told text (RhsTree.take_field word name dot member) last s u r =
      let x = var text name s in
      skip (var-told text name s (before (ident-grows text member x.1) u) (skip (ident-told text member x.1 u r)))
  rhs-told text (RhsTree.item name opening e closing) last s u r =
      let x = var text name s in
      var-told text name s (before (expr-grows text e x.1) u) (skip (expr-told text e x.1 u (skip r)))
  rhs-told {n} text (RhsTree.new_object word name opening closing) last s {xs} {ys} u r =
      let v : Under n xs ys (ident text name s).1 = record { some = u.some; names = u.names; exprs = u.exprs; stmts = u.stmts } in
      skip (ident-told text name s v (skip (skip r)))
  rhs-told text (RhsTree.new_array word long opening e closing) last s u r = skip (skip (skip (expr-told text e s u (skip r))))
  rhs-told text (RhsTree.called c) last s u r = call-told text c s u r
  rhs-told text (RhsTree.recover word opening b give name end closing) last s u r =
      let x = stmts_of text b s in
      ended (skip (stmts-told text b s (before (ident-grows text name x.1) u) (skip (ident-told text name x.1 u (ended (skip r))))))

  -- a block, behind which its last token tells what has ended with it
  block-told : {n : ℕ} {vs : List Token} (text : List ℕ) (a : BlockTree) (s : Listing) {xs : List Expr} {ys : List Stmt} {us : List Token} {ms : List Mark} →
      Under n xs ys (block_of text a s).1 → Told n vs (block_last a ∷ us) ms → Told n vs (block_text a us) (block_marks (all_stmt_marks xs ys) (block_of text a s).0.stmts ms)
  block-told text (BlockTree.block opening b closing) s u r = skip (stmts-told text b s u r)

  stmt-told : {n : ℕ} {vs : List Token} (text : List ℕ) (a : StmtTree) (s : Listing) {xs : List Expr} {ys : List Stmt} {us : List Token} {ms : List Mark} →
      Under n xs ys (stmt_of text a s).1 → Told n vs us ms → Told n vs (stmt_text a us) (stmt_marks (all_expr_marks xs) (all_stmt_marks xs ys) (stmt_of text a s).0 ms)
  stmt-told text (StmtTree.declare ty name end) s u r = type-told ty (ident-told text name (type_of text ty s).1 u (ended r))
  stmt-told text (StmtTree.assign target equals a end) s u r =
      let x = target_of text target s in
      target-told text target s (before (rhs-grows text a x.2) u) (skip (rhs-told text a end x.2 u (ended r)))
  stmt-told text (StmtTree.set_field name dot member equals a end) s u r =
      let x = var text name s in
      let y = ident text member x.1 in
      let v = before (arg-grows text a y.1) u in
      var-told text name s (before (ident-grows text member x.1) v) (skip (ident-told text member x.1 v (skip (arg-told text a y.1 u (ended r)))))
  stmt-told text (StmtTree.set_item name opening i closing equals e end) s u r =
      let x = var text name s in
      let y = expr_of text i x.1 in
      let v = before (expr-grows text e y.1) u in
      var-told text name s (before (expr-grows text i x.1) v) (skip (expr-told text i x.1 v (skip (skip (expr-told text e y.1 u (ended r))))))
  stmt-told text (StmtTree.run_call c end) s u r = call-told text c s u (ended r)
  stmt-told text (StmtTree.print word e end) s u r = skip (expr-told text e s u (ended r))
  stmt-told text (StmtTree.if_then word opening e closing a) s u r =
      let x = expr_of text e s in
      skip (skip (expr-told text e s (before (block-grows text a x.1) u) (ended (block-told text a x.1 u (ended r)))))
  stmt-told text (StmtTree.if_else word opening e closing a otherwise b) s u r =
      let x = expr_of text e s in
      let y = block_of text a x.1 in
      let v = before (block-grows text b y.1) u in
      skip (skip (expr-told text e s (before (block-grows text a x.1) v) (ended (block-told text a x.1 v (skip (skip (block-told text b y.1 u (ended r))))))))
  stmt-told text (StmtTree.repeat word opening e closing a) s u r =
      let x = expr_of text e s in
      skip (skip (expr-told text e s (before (block-grows text a x.1) u) (ended (block-told text a x.1 u (ended r)))))
  stmt-told text (StmtTree.par word a b) s u r =
      let x = block_of text a s in
      ended (block-told text a s (before (block-grows text b x.1) u) (skip (block-told text b x.1 u (ended r))))

  stmts-told : {n : ℕ} {vs : List Token} (text : List ℕ) (a : Stmts) (s : Listing) {xs : List Expr} {ys : List Stmt} {us : List Token} {ms : List Mark} →
      Under n xs ys (stmts_of text a s).1 → Told n vs us ms → Told n vs (stmts_text a us) (block_marks (all_stmt_marks xs ys) (stmts_of text a s).0 ms)
  stmts-told text Stmts.no_stmts s u r = r
  stmts-told {n} {vs} text (Stmts.more_stmts b x) s {xs} {ys} {us} {ms} u r =
      let y = stmts_of text b s in
      let z = stmt_of text x y.1 in
      let w = push_stmt z.0 z.1 in
      let v = unpushed z.0 z.1 u in
      let last : Told n vs (stmt_text x us) (marks_at (all_stmt_marks xs ys) w.0 ms) = pushed-told z.0 z.1 ms u (stmt-told text x y.1 v r) in
      let front : Grows y.1 w.1 = then (stmt-grows text x y.1) (push_stmt-grows z.0 z.1) in
      subst
      (Told n vs (stmts_text b (stmt_text x us)))
      (sym (block-last (all_stmt_marks xs ys) y.0 w.0 ms))
      (stmts-told text b s (before front u) last)

-- ---- methods

-- the mark of one parameter more stands last
params-last : (list : List FieldDecl) (f : FieldDecl) (ms : List Mark) → params_marks (list ++ f ∷ []) ms ≡ params_marks list (names f.name ∷ ms)
params-last [] f ms = refl
params-last (g ∷ list) f ms = ap (λ ks. names g.name ∷ ks) (params-last list f ms)

param_list-told : {n : ℕ} {vs : List Token} (text : List ℕ) (a : ParamList) (s : Listing) {xs : List Expr} {ys : List Stmt} {us : List Token} {ms : List Mark} →
    Under n xs ys (param_list_of text a s).1 → Told n vs us ms → Told n vs (param_list_text a us) (params_marks (param_list_of text a s).0 ms)
param_list-told text (ParamList.one_param ty name) s u r = type-told ty (ident-told text name (type_of text ty s).1 u r)
param_list-told {n} {vs} text (ParamList.more_params list comma ty name) s {us} {ms} u r =
    let z = param_list_of text list s in
    let x = type_of text ty z.1 in
    let y = ident text name x.1 in
    let f : FieldDecl = record { ty = x.0; name = y.0 } in
    subst
    (Told n vs (param_list_text list (comma ∷ type_text ty (name ∷ us))))
    (sym (params-last z.0 f ms))
    (param_list-told text list s (before (then (type-grows text ty z.1) (ident-grows text name x.1)) u) (skip (type-told ty (ident-told text name x.1 u r))))

params-told : {n : ℕ} {vs : List Token} (text : List ℕ) (a : Params) (s : Listing) {xs : List Expr} {ys : List Stmt} {us : List Token} {ms : List Mark} →
    Under n xs ys (params_of text a s).1 → Told n vs us ms → Told n vs (params_text a us) (params_marks (params_of text a s).0 ms)
params-told text Params.no_params s u r = r
params-told text (Params.params list) s u r = param_list-told text list s u r

-- a method ends with the token behind its `return`
method-told : {n : ℕ} {vs : List Token} {xs : List Expr} {ys : List Stmt} {ms : List Mark} (text : List ℕ) (ty : TypeTree) (name opening : Token) (list : Params) (closing : Token) (p : Perm) (perm start : Token)
    (b : Stmts) (word : Token) (a : ArgTree) (end finish : Token) (us : List Token) (s : Listing) →
    let head = method_of text ty name list s in
    let x = stmts_of text b head.program in
    let y = arg_of text a x.1 in
    Under n xs ys y.1 → Told n vs us ms → Told n vs (member_text (MemberTree.method ty name opening list closing p perm start b word a end finish) us)
    (method_marks xs ys (record { result = head.result; name = head.name; params = head.params; receiver = p; body = record { stmts = x.0 }; back = y.0; span = span_over word end }) ms)
method-told text ty name opening list closing p perm start b word a end finish us s u r =
    let t = type_of text ty s in
    let i = ident text name t.1 in
    let head = method_of text ty name list s in
    let x = stmts_of text b head.program in
    let k = before (arg-grows text a x.1) u in
    let l = before (stmts-grows text b head.program) k in
    type-told ty (ident-told text name t.1 (before (params-grows text list i.1) l) (skip (params-told text list i.1 l
    (skip (skip (skip (stmts-told text b head.program k (skip (arg-told text a x.1 u (ended (skip r)))))))))))

-- ---- members

-- the methods of a member more stand last
member-told : {n : ℕ} {vs us ws : List Token} {xs : List Expr} {ys : List Stmt} {ms : List Mark} (text : List ℕ) (x : MemberTree) (fs : List FieldDecl) (ds : List Method) (s : Listing) →
    Under n xs ys (member_of text x fs ds s).2 → Told n vs us ms → ((ks : List Mark) → Told n vs (member_text x us) ks → Told n vs ws (methods_marks xs ys ds ks))
    → Told n vs ws (methods_marks xs ys (member_of text x fs ds s).1 ms)
member-told {n} {vs} {us} {ws} {xs} {ys} {ms} text (MemberTree.field_member ty name end) fs ds s u r front = front ms (type-told ty (skip (skip r)))
member-told {n} {vs} {us} {ws} {xs} {ys} {ms} text (MemberTree.method ty name opening list closing p perm start b word a end finish) fs ds s u r front =
    let head = method_of text ty name list s in
    let x = stmts_of text b head.program in
    let y = arg_of text a x.1 in
    let made : Method = record { result = head.result; name = head.name; params = head.params; receiver = p; body = record { stmts = x.0 }; back = y.0; span = span_over word end } in
    subst
    (Told n vs ws)
    (sym (methods-append xs ys ds (made ∷ []) ms))
    (front (method_marks xs ys made ms) (method-told text ty name opening list closing p perm start b word a end finish us s u r))

members-told : {n : ℕ} {vs us : List Token} {xs : List Expr} {ys : List Stmt} {ms : List Mark} (text : List ℕ) (a : Members) (s : Listing) →
    Under n xs ys (members_of text a s).2 → Told n vs us ms → Told n vs (members_text a us) (methods_marks xs ys (members_of text a s).1 ms)
members-told text Members.no_members s u r = r
members-told text (Members.more_members list x) s u r =
    let m = members_of text list s in
    member-told text x m.0 m.1 m.2 u r (λ ks q. members-told text list s (before (member-grows text x m.0 m.1 m.2) u) q)

-- ---- programs

-- the methods of one class more stand last
classes-last : (xs : List Expr) (ys : List Stmt) (cs : List ClassDecl) (c : ClassDecl) (ms : List Mark)
    → methods_marks xs ys (flat_map (λ c. c.methods) cs) (methods_marks xs ys c.methods ms) ≡ methods_marks xs ys (flat_map (λ c. c.methods) (cs ++ c ∷ [])) ms
classes-last xs ys cs c ms =
    let of : ClassDecl → List Method = λ c. c.methods in
    sym (methods-append xs ys (flat_map of cs) c.methods ms)
    ∙ ap (λ ds. methods_marks xs ys (flat_map of cs ++ ds) ms) (sym (append-nil c.methods))
    ∙ ap (λ ds. methods_marks xs ys ds ms) (sym (flat_map-append of cs (c ∷ [])))

-- the marks of a class stand behind those of the program before it
class-told : {n : ℕ} {vs us ws : List Token} {xs : List Expr} {ys : List Stmt} {ms : List Mark} (text : List ℕ) (word name opening : Token) (members : Members) (closing : Token) (s : Listing) →
    let x = ident text name s in
    let m = members_of text members x.1 in
    Under n xs ys m.2 → Told n vs us ms
    → ((ks : List Mark) → Under n xs ys s → Told n vs (word ∷ name ∷ opening ∷ members_text members (closing ∷ us)) ks → Told n vs ws (methods_marks xs ys (methods_of s) ks))
    → Told n vs ws (methods_marks xs ys (flat_map (λ d. d.methods) (m.2.classes ++ (record { name = x.0; fields = m.0; methods = m.1 }) ∷ [])) ms)
class-told {n} {vs} {us} {ws} {xs} {ys} {ms} text word name opening members closing s u r front =
    let x = ident text name s in
    let m = members_of text members x.1 in
    let c : ClassDecl = record { name = x.0; fields = m.0; methods = m.1 } in
    let kept : m.2.classes ≡ s.classes = members-kept SameClasses same-classes (λ x s. refl) text members x.1 ∙ ident-kept SameClasses same-classes text name s in
    let here : Told n vs (members_text members (closing ∷ us)) (methods_marks xs ys m.1 ms) = members-told text members x.1 u (skip r) in
    subst
    (Told n vs ws)
    (classes-last xs ys s.classes c ms ∙ ap (λ (cs : List ClassDecl). methods_marks xs ys (flat_map (λ d. d.methods) (cs ++ c ∷ [])) ms) (sym kept))
    (front (methods_marks xs ys m.1 ms) (before (then (ident-grows text name s) (members-grows text members x.1)) u) (skip (skip (skip here))))

program-told : {n : ℕ} {vs us : List Token} {xs : List Expr} {ys : List Stmt} {ms : List Mark} (text : List ℕ) (a : Classes) →
    Under n xs ys (classes_of text a nothing_yet) → Told n vs us ms → Told n vs (program_text a us) (methods_marks xs ys (methods_of (classes_of text a nothing_yet)) ms)
program-told text Classes.no_classes u r = r
program-told text (Classes.more_classes list word name opening members closing) u r =
    class-told text word name opening members closing (classes_of text list nothing_yet) (record { some = u.some; names = u.names; exprs = u.exprs; stmts = u.stmts }) r (λ ks w q. program-told text list w q)

whole : (text : List ℕ) (tree : Classes) →
    let p = meaning text tree in
    Told (length p.names) [] (program_text tree []) (marks_of p)
whole text tree =
    let p = meaning text tree in
    let g = classes-grows text tree nothing_yet in
    program-told text tree
    (record { some = omega (arith, front-length nothing_yet.names p.names g.names); names = omega arith; exprs = front-refl p.exprs; stmts = front-refl p.stmts })
    nothing

-- the program that a tree means is in text order, where its tokens are
pub meaning-rising : (text : List ℕ) (tokens : List Token) (tree : Classes) → AreInOrder 0 tokens → program_text tree [] ≡ tokens → IsRising 0 (marks_of (meaning text tree))
meaning-rising text tokens tree order spells = (whole text tree).rising 0 (subst (AreInOrder 0) (sym spells) order)

-- each name that stands in its methods has a number among its names
pub meaning-marked : (text : List ℕ) (tree : Classes) → AllBelow (length (meaning text tree).names) (mark_names (marks_of (meaning text tree)))
meaning-marked text tree = (whole text tree).numbered
