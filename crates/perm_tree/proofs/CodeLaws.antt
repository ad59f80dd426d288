-- How the code of a unit unfolds, one statement and one expression at a time.
use Rattle.std.proofs.Common.{◌≡◌, ℕ, List, [], ◌∷◌, ◌++◌, length, Option, Some, None, refl, sym, ap, subst, arith, ◌∙◌}
use Rattle.std.specs.Prelude.{slice_get, get_or}
use Rattle.std.proofs.Math.ListN.{get_or-append}
use Rattle.perm_tree.specs.declared.ast.Block.{Block}
use Rattle.perm_tree.specs.declared.ast.Expr.{Expr}
use Rattle.perm_tree.specs.declared.ast.Expr.TheVariants.{Number, Bool as Truth, Null, Var, Unary as UnaryExpr, Binary as BinaryExpr}
use Rattle.perm_tree.specs.declared.ast.Rhs.{Rhs}
use Rattle.perm_tree.specs.declared.ast.Rhs.TheVariants.{Value, Field, TakeField as TakeRhs, Item, New, NewArray as NewArrayRhs, Call as CallRhs, Recover as RecoverRhs}
use Rattle.perm_tree.specs.declared.ast.Stmt.{Stmt}
use Rattle.perm_tree.specs.declared.ast.StmtKind.{StmtKind}
use Rattle.perm_tree.specs.declared.ast.StmtKind.TheVariants.{Declare as DeclareStmt, Assign as AssignStmt, SetField, SetItem, Call as CallStmt, Print as PrintStmt, If as IfStmt, While as WhileStmt, Par as ParStmt}
use Rattle.perm_tree.specs.declared.unit.VarInfo.{VarInfo}
use Rattle.perm_tree.specs.Code.{NullLit, Unary, Binary, Code, End, Give, If, While, Par, Recover}
use Rattle.perm_tree.specs.CodeNames.{Setting, setting, term_of, terms_of, term_at, var_at, own_vars, tied_before}
use Rattle.perm_tree.specs.CodeOf.{sequence, assignment, kind_code, codes_of, stmt_code, block_code}
use Rattle.perm_tree.specs.Places.{AllBelow, ExprBelow, RhsPlaced, ElseBelow, KindPlaced, IsPlaced}
use Rattle.perm_tree.specs.Scopes.{else_stmts}
use Rattle.perm_tree.specs.UnitTables.{Tables}
use Rattle.perm_tree.proofs.Entries.{ReadsBefore, entries_of-at}

-- ---------- expressions ----------
-- operands that stand before an expression make its term
pub term_of-reads : (vars : List VarInfo) (at : ℕ) (e : Expr) → ExprBelow at e → ReadsBefore (term_of vars) at e
term_of-reads vars at (Number n) below before after count = refl
term_of-reads vars at (Truth b) below before after count = refl
term_of-reads vars at Null below before after count = refl
term_of-reads vars at (Var x) below before after count = refl
term_of-reads vars at (UnaryExpr op a) below before after count = ap (Unary op) (get_or-append before after NullLit a (omega arith))
term_of-reads vars at (BinaryExpr op a b) below before after count =
    ap (λ t. Binary op t (get_or (before ++ after) b NullLit)) (get_or-append before after NullLit a (omega (arith, below.0)))
    ∙ ap (Binary op (get_or before a NullLit)) (get_or-append before after NullLit b (omega (arith, below.1)))

-- the term at a place is made from the expression there and the terms of its operands
pub term_at-is : (u : Tables) (vars : List VarInfo) (at : ℕ) (e : Expr) → IsPlaced u.program → slice_get u.program.exprs at ≡ Some e
    → term_at (setting u vars) at ≡ term_of vars (terms_of vars u.program.exprs) e
term_at-is u vars at e placed here = entries_of-at (term_of vars) u.program.exprs at e NullLit here (term_of-reads vars at e (placed.exprs at e here))

-- ---------- blocks ----------
-- a block begins with the code of its first statement
pub block_code-cons : (k : Setting) (i : ℕ) (is : List ℕ) (end : Code) → block_code k (i ∷ is) end ≡ stmt_code k i (block_code k is end)
block_code-cons k i is end = refl

-- what stands behind doesn't change the code of a block whose statements stand before
sequence-front : (before after : List (Code → Code)) (is : List ℕ) (end : Code) → AllBelow (length before) is → sequence (before ++ after) is end ≡ sequence before is end
sequence-front before after [] end below = refl
sequence-front before after (i ∷ is) end below =
    ap (λ (f : Code → Code). f (sequence (before ++ after) is end)) (get_or-append before after (λ c. c) i below.0)
    ∙ ap (get_or before i (λ c. c)) (sequence-front before after is end below.1)

front : (before after : List (Code → Code)) (at : ℕ) (is : List ℕ) (end : Code) → length before ≡ at → AllBelow at is → sequence (before ++ after) is end ≡ sequence before is end
front before after at is end count below = sequence-front before after is end (subst (λ n. AllBelow n is) (sym count) below)

-- ---------- statements ----------
else-below : (at : ℕ) (b : Option Block) → ElseBelow at b → AllBelow at (else_stmts b)
else-below at None below = tt
else-below at (Some b) below = below

assignment-reads : (k : Setting) (before after : List (Code → Code)) (exprs at : ℕ) (s : Stmt) (x : ℕ) (r : Rhs) (rest : Code) → RhsPlaced exprs at r → length before ≡ at
    → assignment k (before ++ after) s x r rest ≡ assignment k before s x r rest
assignment-reads k before after exprs at s x (Value a) rest placed count = refl
assignment-reads k before after exprs at s x (Field y f) rest placed count = refl
assignment-reads k before after exprs at s x (TakeRhs y f) rest placed count = refl
assignment-reads k before after exprs at s x (Item y e) rest placed count = refl
assignment-reads k before after exprs at s x (New c) rest placed count = refl
assignment-reads k before after exprs at s x (NewArrayRhs e) rest placed count = refl
assignment-reads k before after exprs at s x (CallRhs c) rest placed count = refl
assignment-reads k before after exprs at s x (RecoverRhs b w give) rest placed count =
    ap (λ body. Recover s.head x (own_vars k b.stmts) (tied_before s.head.end 0 k.vars) body rest) (front before after at b.stmts (Give give (var_at k w) x) count placed)

kind-reads : (k : Setting) (before after : List (Code → Code)) (exprs at : ℕ) (s : Stmt) (kind : StmtKind) (rest : Code) → KindPlaced exprs at kind → length before ≡ at
    → kind_code k (before ++ after) s kind rest ≡ kind_code k before s kind rest
kind-reads k before after exprs at s (DeclareStmt t x) rest placed count = refl
kind-reads k before after exprs at s (AssignStmt t x r) rest placed count = assignment-reads k before after exprs at s (var_at k x) r rest placed count
kind-reads k before after exprs at s (SetField y f a) rest placed count = refl
kind-reads k before after exprs at s (SetItem y i e) rest placed count = refl
kind-reads k before after exprs at s (CallStmt c) rest placed count = refl
kind-reads k before after exprs at s (PrintStmt e) rest placed count = refl
kind-reads k before after exprs at s (IfStmt e a b) rest placed count =
    let p = front before after at a.stmts End count placed.1 in
    let q = front before after at (else_stmts b) End count (else-below at b placed.2) in
    λ i. If s.head (term_at k e) (own_vars k a.stmts) (p i) (own_vars k (else_stmts b)) (q i) rest
kind-reads k before after exprs at s (WhileStmt e a) rest placed count =
    ap (λ body. While s.head (term_at k e) (own_vars k a.stmts) body rest) (front before after at a.stmts End count placed.1)
kind-reads k before after exprs at s (ParStmt a b) rest placed count =
    let p = front before after at a.stmts End count placed.0 in
    let q = front before after at b.stmts End count placed.1 in
    λ i. Par s.head (own_vars k a.stmts) (p i) (own_vars k b.stmts) (q i) rest

-- the code of the statement at a place is made from its kind and the codes before it
pub stmt_code-is : (k : Setting) (at : ℕ) (s : Stmt) (rest : Code) → IsPlaced k.tables.program → slice_get k.tables.program.stmts at ≡ Some s
    → stmt_code k at rest ≡ kind_code k (codes_of k) s s.kind rest
stmt_code-is k at s rest placed here =
    ap
    (λ (f : Code → Code). f rest)
    (entries_of-at
    (λ codes (t : Stmt). kind_code k codes t t.kind)
    k.tables.program.stmts
    at
    s
    (λ c. c)
    here
    (λ before after count i r. kind-reads k before after (length k.tables.program.exprs) at s s.kind r (placed.stmts at s here) count i))
