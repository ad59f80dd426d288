-- The flat program, and what it is to be well placed.
use Rattle.std.specs.Prelude.{◌≡◌, ℕ, ◌<◌, List, [], ◌∷◌, length, Option, Some, None, slice_get, FitsSigned}
use mir.Syntax.{w64}
use Rattle.perm_tree.specs.declared.ast.Ident.{Ident}
use Rattle.perm_tree.specs.declared.ast.Expr.{Expr}
use Rattle.perm_tree.specs.declared.ast.Expr.TheVariants.{Number, Unary, Binary}
use Rattle.perm_tree.specs.declared.ast.Arg.{Arg}
use Rattle.perm_tree.specs.declared.ast.Arg.TheVariants.{Expr as Plain, Consume}
use Rattle.perm_tree.specs.declared.ast.Stmt.{Stmt}
use Rattle.perm_tree.specs.declared.ast.StmtKind.{StmtKind}
use Rattle.perm_tree.specs.declared.ast.StmtKind.TheVariants.{Declare, Assign, SetField, SetItem, Call as CallStmt, Print, If, While, Par}
use Rattle.perm_tree.specs.declared.ast.Rhs.{Rhs}
use Rattle.perm_tree.specs.declared.ast.Rhs.TheVariants.{Value, Item, NewArray, Call, Recover}
use Rattle.perm_tree.specs.declared.ast.Block.{Block}
use Rattle.perm_tree.specs.declared.ast.Method.{Method}
use Rattle.perm_tree.specs.declared.ast.ClassDecl.{ClassDecl}

-- a program as contracts see it: lists, in which a statement or an expression is named by its place
pub record Listing : Type 0 where
  pub names : List (List ℕ)
  pub classes : List ClassDecl
  pub stmts : List Stmt
  pub exprs : List Expr
  pub mentions : List Ident

-- all places are below a number
abbrev pub AllBelow : ℕ → List ℕ → Type 0
AllBelow n [] = Unit {0}
AllBelow n (x ∷ xs) = (x < n) × AllBelow n xs

-- the operands of an expression stand before it
abbrev pub ExprBelow : ℕ → Expr → Type 0
ExprBelow at (Unary op e) = e < at
ExprBelow at (Binary op a b) = (a < at) × (b < at)
ExprBelow at _ = Unit {0}

-- a number that stands in an expression has 64 bits
abbrev pub LiteralFits : Expr → Type 0
LiteralFits (Number n) = FitsSigned w64 n
LiteralFits _ = Unit {0}

-- the expression of an argument is there
abbrev pub ArgPlaced : ℕ → Arg → Type 0
ArgPlaced exprs (Plain e) = e < exprs
ArgPlaced exprs (Consume y) = Unit {0}

-- the same of arguments
abbrev pub ArgsPlaced : ℕ → List Arg → Type 0
ArgsPlaced exprs [] = Unit {0}
ArgsPlaced exprs (a ∷ rest) = ArgPlaced exprs a × ArgsPlaced exprs rest

-- the expressions of a right side are there, and the statements of its block stand before it
abbrev pub RhsPlaced : ℕ → ℕ → Rhs → Type 0
RhsPlaced exprs at (Value a) = ArgPlaced exprs a
RhsPlaced exprs at (Item y e) = e < exprs
RhsPlaced exprs at (NewArray e) = e < exprs
RhsPlaced exprs at (Call c) = ArgsPlaced exprs c.args
RhsPlaced exprs at (Recover b w give) = AllBelow at b.stmts
RhsPlaced exprs at _ = Unit {0}

-- the statements behind `else` stand before a place
abbrev pub ElseBelow : ℕ → Option Block → Type 0
ElseBelow at None = Unit {0}
ElseBelow at (Some b) = AllBelow at b.stmts

-- the same of a statement
abbrev pub KindPlaced : ℕ → ℕ → StmtKind → Type 0
KindPlaced exprs at (Declare t x) = Unit {0}
KindPlaced exprs at (Assign t x r) = RhsPlaced exprs at r
KindPlaced exprs at (SetField y f a) = ArgPlaced exprs a
KindPlaced exprs at (SetItem y i e) = (i < exprs) × (e < exprs)
KindPlaced exprs at (CallStmt c) = ArgsPlaced exprs c.args
KindPlaced exprs at (Print e) = e < exprs
KindPlaced exprs at (If e a b) = (e < exprs) × AllBelow at a.stmts × ElseBelow at b
KindPlaced exprs at (While e a) = (e < exprs) × AllBelow at a.stmts
KindPlaced exprs at (Par a b) = AllBelow at a.stmts × AllBelow at b.stmts

-- the statements of a body and the returned expression are there
abbrev pub MethodPlaced : ℕ → ℕ → Method → Type 0
MethodPlaced exprs stmts d = AllBelow stmts d.body.stmts × ArgPlaced exprs d.back

-- the bodies of the methods of a class are there
abbrev pub ClassPlaced : ℕ → ℕ → ClassDecl → Type 0
ClassPlaced exprs stmts c = (m : ℕ) (d : Method) → slice_get c.methods m ≡ Some d → MethodPlaced exprs stmts d

-- each place in a program is in range, what is inside stands before what holds it, and its numbers have 64 bits
pub record IsPlaced (p : Listing) : Type 0 where
  pub exprs : (at : ℕ) (e : Expr) → slice_get p.exprs at ≡ Some e → ExprBelow at e
  pub literals : (at : ℕ) (e : Expr) → slice_get p.exprs at ≡ Some e → LiteralFits e
  pub stmts : (at : ℕ) (s : Stmt) → slice_get p.stmts at ≡ Some s → KindPlaced (length p.exprs) at s.kind
  pub bodies : (k : ℕ) (c : ClassDecl) → slice_get p.classes k ≡ Some c → ClassPlaced (length p.exprs) (length p.stmts) c
