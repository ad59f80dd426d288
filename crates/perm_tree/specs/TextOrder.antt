-- The text order of a program: what its spans say of its trees, within each method and from each method to the next.
use Rattle.std.specs.Prelude.{ℕ, suc, ◌≤◌, List, [], ◌∷◌, flat_map, get_or}
use Rattle.perm_tree.specs.declared.ast.Ident.{Ident}
use Rattle.perm_tree.specs.declared.ast.FieldDecl.{FieldDecl}
use Rattle.perm_tree.specs.declared.ast.Expr.{Expr}
use Rattle.perm_tree.specs.declared.ast.Expr.TheVariants.{Var, Unary, Binary}
use Rattle.perm_tree.specs.declared.ast.Arg.{Arg}
use Rattle.perm_tree.specs.declared.ast.Arg.TheVariants.{Expr as Plain, Consume}
use Rattle.perm_tree.specs.declared.ast.Call.{Call}
use Rattle.perm_tree.specs.declared.ast.Rhs.{Rhs}
use Rattle.perm_tree.specs.declared.ast.Rhs.TheVariants.{Value, Field, TakeField, Item, New, NewArray, Call as CallRhs, Recover}
use Rattle.perm_tree.specs.declared.ast.Stmt.{Stmt}
use Rattle.perm_tree.specs.declared.ast.StmtKind.{StmtKind}
use Rattle.perm_tree.specs.declared.ast.StmtKind.TheVariants.{Declare, Assign, SetField, SetItem, Call as CallStmt, Print, If, While, Par}
use Rattle.perm_tree.specs.declared.ast.Method.{Method}
use Rattle.perm_tree.specs.Entries.{entries_of}
use Rattle.perm_tree.specs.Places.{Listing}
use Rattle.perm_tree.specs.Scopes.{else_stmts}

-- ---------- marks ----------
-- a place of the text that a tree tells: where a name stands, or where a statement, a head, a `give` or a `return` has ended
pub data Mark : Type 0 where
  names : Ident → Mark
  ends : ℕ → Mark

-- each mark stands behind the one before it, and the first one not before a place; a name has at least one byte
abbrev pub IsRising : ℕ → List Mark → Type 0
IsRising from [] = Unit {0}
IsRising from (names i ∷ rest) = (from ≤ i.span.start) × IsRising (suc i.span.start) rest
IsRising from (ends at ∷ rest) = (from ≤ at) × IsRising at rest

-- the numbers of the names among some marks
abbrev pub mark_names : List Mark → List ℕ
mark_names [] = []
mark_names (names i ∷ rest) = i.name ∷ mark_names rest
mark_names (ends at ∷ rest) = mark_names rest

-- ---------- the marks of a tree, in the order of the grammar ----------
-- the marks of a part of a tree, and behind them the others
abbrev pub Marks : Type 0
Marks = List Mark → List Mark

-- those of an expression, by those of the expressions before it
abbrev pub expr_marks : List Marks → Expr → Marks
expr_marks before (Var x) rest = names x ∷ rest
expr_marks before (Unary op a) rest = get_or before a (λ ms. ms) rest
expr_marks before (Binary op a b) rest = get_or before a (λ ms. ms) (get_or before b (λ ms. ms) rest)
expr_marks before _ rest = rest

-- those of all expressions
abbrev pub all_expr_marks : List Expr → List Marks
all_expr_marks exprs = entries_of expr_marks exprs

-- those of the expression at a place
abbrev pub marks_at : List Marks → ℕ → Marks
marks_at all at rest = get_or all at (λ ms. ms) rest

-- those of an argument
abbrev pub arg_marks : List Marks → Arg → Marks
arg_marks exprs (Plain e) rest = marks_at exprs e rest
arg_marks exprs (Consume y) rest = names y ∷ rest

-- those of some arguments
abbrev pub args_marks : List Marks → List Arg → Marks
args_marks exprs [] rest = rest
args_marks exprs (a ∷ list) rest = arg_marks exprs a (args_marks exprs list rest)

-- those of a call
abbrev pub call_marks : List Marks → Call → Marks
call_marks exprs c rest = names c.on ∷ names c.«method» ∷ args_marks exprs c.args rest

-- those of the statements of a block
abbrev pub block_marks : List Marks → List ℕ → Marks
block_marks stmts [] rest = rest
block_marks stmts (i ∷ is) rest = marks_at stmts i (block_marks stmts is rest)

-- those of the right side of an assignment whose head ends at a place
abbrev pub rhs_marks : List Marks → List Marks → ℕ → Rhs → Marks
rhs_marks exprs stmts head (Value a) rest = arg_marks exprs a rest
rhs_marks exprs stmts head (Field y f) rest = names y ∷ names f ∷ rest
rhs_marks exprs stmts head (TakeField y f) rest = names y ∷ names f ∷ rest
rhs_marks exprs stmts head (Item y e) rest = names y ∷ marks_at exprs e rest
rhs_marks exprs stmts head (New c) rest = names c ∷ rest
rhs_marks exprs stmts head (NewArray e) rest = marks_at exprs e rest
rhs_marks exprs stmts head (CallRhs c) rest = call_marks exprs c rest
rhs_marks exprs stmts head (Recover b w give) rest = ends head ∷ block_marks stmts b.stmts (names w ∷ ends give.end ∷ rest)

-- those of a statement whose head ends at a place, but for its end
abbrev pub kind_marks : List Marks → List Marks → ℕ → StmtKind → Marks
kind_marks exprs stmts head (Declare t x) rest = names x ∷ rest
kind_marks exprs stmts head (Assign t x r) rest = names x ∷ rhs_marks exprs stmts head r rest
kind_marks exprs stmts head (SetField y f a) rest = names y ∷ names f ∷ arg_marks exprs a rest
kind_marks exprs stmts head (SetItem y i e) rest = names y ∷ marks_at exprs i (marks_at exprs e rest)
kind_marks exprs stmts head (CallStmt c) rest = call_marks exprs c rest
kind_marks exprs stmts head (Print e) rest = marks_at exprs e rest
kind_marks exprs stmts head (If e a b) rest = marks_at exprs e (ends head ∷ block_marks stmts a.stmts (block_marks stmts (else_stmts b) rest))
kind_marks exprs stmts head (While e a) rest = marks_at exprs e (ends head ∷ block_marks stmts a.stmts rest)
kind_marks exprs stmts head (Par a b) rest = ends head ∷ block_marks stmts a.stmts (block_marks stmts b.stmts rest)

-- those of a statement, by those of the statements before it
abbrev pub stmt_marks : List Marks → List Marks → Stmt → Marks
stmt_marks exprs before s rest = kind_marks exprs before s.head.end s.kind (ends s.span.end ∷ rest)

-- those of all statements
abbrev pub all_stmt_marks : List Expr → List Stmt → List Marks
all_stmt_marks exprs stmts = entries_of (stmt_marks (all_expr_marks exprs)) stmts

-- those of some parameters
abbrev pub params_marks : List FieldDecl → Marks
params_marks [] rest = rest
params_marks (f ∷ fs) rest = names f.name ∷ params_marks fs rest

-- those of a method: its name, its parameters, its body, and its `return`
abbrev pub method_marks : List Expr → List Stmt → Method → Marks
method_marks exprs stmts d rest = names d.name ∷ params_marks d.params (block_marks (all_stmt_marks exprs stmts) d.body.stmts (arg_marks (all_expr_marks exprs) d.back (ends d.span.end ∷ rest)))

-- those of some methods, one behind the other
abbrev pub methods_marks : List Expr → List Stmt → List Method → Marks
methods_marks exprs stmts [] rest = rest
methods_marks exprs stmts (d ∷ ds) rest = method_marks exprs stmts d (methods_marks exprs stmts ds rest)

-- ---------- programs ----------
-- the methods of a program
abbrev pub methods_of : Listing → List Method
methods_of p = flat_map (λ c. c.methods) p.classes

-- the marks of all methods
abbrev pub marks_of : Listing → List Mark
marks_of p = methods_marks p.exprs p.stmts (methods_of p) []
