-- Marks: what stands behind those of a part of a tree rises from the same place as they do.
use Rattle.std.proofs.Common.{ℕ, zero, suc, ◌≤◌, List, [], ◌∷◌, ◌++◌, arith}
use Rattle.perm_tree.specs.declared.ast.Arg.{Arg}
use Rattle.perm_tree.specs.declared.ast.Arg.TheVariants.{Expr as Plain, Consume}
use Rattle.perm_tree.specs.declared.ast.Call.{Call}
use Rattle.perm_tree.specs.declared.ast.Expr.{Expr}
use Rattle.perm_tree.specs.declared.ast.Expr.TheVariants.{Number, Bool as Truth, Null, Var, Unary, Binary}
use Rattle.perm_tree.specs.declared.ast.FieldDecl.{FieldDecl}
use Rattle.perm_tree.specs.declared.ast.Ident.{Ident}
use Rattle.perm_tree.specs.declared.ast.Method.{Method}
use Rattle.perm_tree.specs.declared.ast.Rhs.{Rhs}
use Rattle.perm_tree.specs.declared.ast.Rhs.TheVariants.{Value, Field, TakeField, Item, New, NewArray, Call as CallRhs, Recover}
use Rattle.perm_tree.specs.declared.ast.Stmt.{Stmt}
use Rattle.perm_tree.specs.declared.ast.StmtKind.{StmtKind}
use Rattle.perm_tree.specs.declared.ast.StmtKind.TheVariants.{Declare, Assign, SetField, SetItem, Call as CallStmt, Print, If, While, Par}
use Rattle.perm_tree.specs.Entries.{entries_from}
use Rattle.perm_tree.specs.Scopes.{else_stmts}
use Rattle.perm_tree.specs.TextOrder.{Mark, names, ends, IsRising, Marks, expr_marks, all_expr_marks, marks_at, arg_marks, args_marks, call_marks, block_marks, rhs_marks, kind_marks, stmt_marks, all_stmt_marks, params_marks, method_marks, methods_marks}

-- marks that rise from a place rise from an earlier one
pub rising-less : (lo hi : ℕ) (ms : List Mark) → lo ≤ hi → IsRising hi ms → IsRising lo ms
rising-less lo hi [] less rise = tt
rising-less lo hi (names i ∷ ms) less rise = (omega arith, rise.1)
rising-less lo hi (ends at ∷ ms) less rise = (omega arith, rise.1)

-- ---------- expressions ----------
-- what stands behind some marks rises from the same place
abbrev pub Passes : Marks → Type 0
Passes m = (lo : ℕ) (rest : List Mark) → IsRising lo (m rest) → IsRising lo rest

abbrev pub AllPass : List Marks → Type 0
AllPass [] = Unit {0}
AllPass (m ∷ ms) = Passes m × AllPass ms

pub past-name : (i : Ident) → Passes (λ rest. names i ∷ rest)
past-name i lo rest rise = let low : lo ≤ i.span.start = rise.0 in rising-less lo (suc i.span.start) rest (omega arith) rise.1

pub pass-at : (ms : List Marks) (k : ℕ) → AllPass ms → Passes (marks_at ms k)
pass-at [] k all lo rest rise = rise
pass-at (m ∷ ms) zero all lo rest rise = all.0 lo rest rise
pass-at (m ∷ ms) (suc k) all lo rest rise = pass-at ms k all.1 lo rest rise

pass-append : (ms : List Marks) (m : Marks) → AllPass ms → Passes m → AllPass (ms ++ m ∷ [])
pass-append [] m all more = (more, tt)
pass-append (n ∷ ms) m all more = (all.0, pass-append ms m all.1 more)

expr-passes : (before : List Marks) (e : Expr) → AllPass before → Passes (expr_marks before e)
expr-passes before (Number n) all lo rest rise = rise
expr-passes before (Truth b) all lo rest rise = rise
expr-passes before Null all lo rest rise = rise
expr-passes before (Var x) all lo rest rise = past-name x lo rest rise
expr-passes before (Unary op a) all lo rest rise = pass-at before a all lo rest rise
expr-passes before (Binary op a b) all lo rest rise = pass-at before b all lo rest (pass-at before a all lo (marks_at before b rest) rise)

pub exprs-pass : (before : List Marks) (es : List Expr) → AllPass before → AllPass (entries_from expr_marks before es)
exprs-pass before [] all = all
exprs-pass before (e ∷ es) all = exprs-pass (before ++ expr_marks before e ∷ []) es (pass-append before (expr_marks before e) all (expr-passes before e all))

module _ (exprs : List Marks) (pass : AllPass exprs) where
  pub arg-passes : (a : Arg) → Passes (arg_marks exprs a)
  arg-passes (Plain e) lo rest rise = pass-at exprs e pass lo rest rise
  arg-passes (Consume y) lo rest rise = past-name y lo rest rise

  args-pass : (list : List Arg) → Passes (args_marks exprs list)
  args-pass [] lo rest rise = rise
  args-pass (a ∷ list) lo rest rise = args-pass list lo rest (arg-passes a lo (args_marks exprs list rest) rise)

  pub call-passes : (c : Call) → Passes (call_marks exprs c)
  call-passes c lo rest rise =
      let args = args_marks exprs c.args rest in
      args-pass c.args lo rest (past-name c.«method» lo args (past-name c.on lo (names c.«method» ∷ args) rise))

-- ---------- statements ----------
past-end : (at : ℕ) → Passes (λ rest. ends at ∷ rest)
past-end at lo rest rise = rising-less lo at rest rise.0 rise.1

block-passes : (stmts : List Marks) → AllPass stmts → (is : List ℕ) → Passes (block_marks stmts is)
block-passes stmts all [] lo rest rise = rise
block-passes stmts all (i ∷ is) lo rest rise = block-passes stmts all is lo rest (pass-at stmts i all lo (block_marks stmts is rest) rise)

module _ (exprs stmts : List Marks) (pass : AllPass exprs) (all : AllPass stmts) where
  rhs-passes : (head : ℕ) (r : Rhs) → Passes (rhs_marks exprs stmts head r)
  rhs-passes head (Value a) lo rest rise = arg-passes exprs pass a lo rest rise
  rhs-passes head (Field y f) lo rest rise = past-name f lo rest (past-name y lo (names f ∷ rest) rise)
  rhs-passes head (TakeField y f) lo rest rise = past-name f lo rest (past-name y lo (names f ∷ rest) rise)
  rhs-passes head (Item y e) lo rest rise = pass-at exprs e pass lo rest (past-name y lo (marks_at exprs e rest) rise)
  rhs-passes head (New c) lo rest rise = past-name c lo rest rise
  rhs-passes head (NewArray e) lo rest rise = pass-at exprs e pass lo rest rise
  rhs-passes head (CallRhs c) lo rest rise = call-passes exprs pass c lo rest rise
  rhs-passes head (Recover b w give) lo rest rise =
      let given = names w ∷ ends give.end ∷ rest in
      past-end give.end lo rest (past-name w lo (ends give.end ∷ rest) (block-passes stmts all b.stmts lo given (past-end head lo (block_marks stmts b.stmts given) rise)))

  two-pass : (head : ℕ) (is js : List ℕ) → Passes (λ rest. ends head ∷ block_marks stmts is (block_marks stmts js rest))
  two-pass head is js lo rest rise =
      let others = block_marks stmts js rest in
      block-passes stmts all js lo rest (block-passes stmts all is lo others (past-end head lo (block_marks stmts is others) rise))

  kind-passes : (head : ℕ) (kind : StmtKind) → Passes (kind_marks exprs stmts head kind)
  kind-passes head (Declare t x) lo rest rise = past-name x lo rest rise
  kind-passes head (Assign t x r) lo rest rise = rhs-passes head r lo rest (past-name x lo (rhs_marks exprs stmts head r rest) rise)
  kind-passes head (SetField y f a) lo rest rise = arg-passes exprs pass a lo rest (past-name f lo (arg_marks exprs a rest) (past-name y lo (names f ∷ arg_marks exprs a rest) rise))
  kind-passes head (SetItem y i e) lo rest rise =
      pass-at exprs e pass lo rest (pass-at exprs i pass lo (marks_at exprs e rest) (past-name y lo (marks_at exprs i (marks_at exprs e rest)) rise))
  kind-passes head (CallStmt c) lo rest rise = call-passes exprs pass c lo rest rise
  kind-passes head (Print e) lo rest rise = pass-at exprs e pass lo rest rise
  kind-passes head (If e a b) lo rest rise =
      two-pass head a.stmts (else_stmts b) lo rest (pass-at exprs e pass lo (ends head ∷ block_marks stmts a.stmts (block_marks stmts (else_stmts b) rest)) rise)
  kind-passes head (While e a) lo rest rise =
      let body = block_marks stmts a.stmts rest in
      block-passes stmts all a.stmts lo rest (past-end head lo body (pass-at exprs e pass lo (ends head ∷ body) rise))
  kind-passes head (Par a b) lo rest rise = two-pass head a.stmts b.stmts lo rest rise

stmts-pass : (exprs : List Marks) → AllPass exprs → (before : List Marks) (ss : List Stmt) → AllPass before → AllPass (entries_from (stmt_marks exprs) before ss)
stmts-pass exprs pass before [] all = all
stmts-pass exprs pass before (s ∷ ss) all =
    stmts-pass exprs pass (before ++ stmt_marks exprs before s ∷ []) ss
    (pass-append before (stmt_marks exprs before s) all (λ lo rest rise. past-end s.span.end lo rest (kind-passes exprs before pass all s.head.end s.kind lo (ends s.span.end ∷ rest) rise)))

-- ---------- methods ----------
pub params-pass : (fs : List FieldDecl) → Passes (params_marks fs)
params-pass [] lo rest rise = rise
params-pass (f ∷ fs) lo rest rise = params-pass fs lo rest (past-name f.name lo (params_marks fs rest) rise)

module _ (exprs : List Expr) (stmts : List Stmt) where
  abbrev es : List Marks
  es = all_expr_marks exprs

  abbrev ms : List Marks
  ms = all_stmt_marks exprs stmts

  pub method-passes : (d : Method) → Passes (method_marks exprs stmts d)
  method-passes d lo rest rise =
      let pass : AllPass es = exprs-pass [] exprs tt in
      let back = arg_marks es d.back (ends d.span.end ∷ rest) in
      let body = block_marks ms d.body.stmts back in
      past-end d.span.end lo rest
      (arg-passes es pass d.back lo (ends d.span.end ∷ rest)
      (block-passes ms (stmts-pass es pass [] stmts tt) d.body.stmts lo back (params-pass d.params lo body (past-name d.name lo (params_marks d.params body) rise))))

  pub methods-pass : (ds : List Method) → Passes (methods_marks exprs stmts ds)
  methods-pass [] lo rest rise = rise
  methods-pass (d ∷ ds) lo rest rise = methods-pass ds lo rest (method-passes d lo (methods_marks exprs stmts ds rest) rise)
