-- The code of a method as one tree, in which each statement holds what comes after it. All names are resolved to numbers.
use Rattle.std.specs.Prelude.{ℕ, ℤ, Bool, List, Option}
use Rattle.perm_tree.specs.declared.ast.Span.{Span}
use Rattle.perm_tree.specs.declared.ast.Perm.{Perm}
use Rattle.perm_tree.specs.declared.ast.Ty.{Ty}
use Rattle.perm_tree.specs.declared.ast.UnaryOp.{UnaryOp}
use Rattle.perm_tree.specs.declared.ast.BinaryOp.{BinaryOp}

-- an expression; a local variable is its number in the method, and one that isn't known there has the number past the last
pub data Term : Type 0 where
  LongLit : (n : ℤ) → Term
  BoolLit : (b : Bool) → Term
  NullLit : Term
  Local : (x : ℕ) → Term
  Unary : (op : UnaryOp) (a : Term) → Term
  Binary : (op : BinaryOp) (a b : Term) → Term

-- a value that is handed over: that of an expression, or of a variable which is consumed
pub data Argument : Type 0 where
  Expression : (e : Term) → Argument
  Consumed : (y : ℕ) → Argument

-- how a call is tied to its caller's references: it shares them, its result is raised, or its isolated receiver is lent to it
pub data Tie : Type 0 where
  Shares : Tie
  Raises : Tie
  Lends : Tie

-- a simple statement: x takes the value, y holds the object. Fields have numbers in the class of y's declared type, routines and classes in the unit; what isn't there has a number past the last
pub data Instruction : Type 0 where
  Declare : (x : ℕ) → Instruction
  Assign : (x : ℕ) (a : Argument) → Instruction
  LoadField : (x y f : ℕ) → Instruction
  LoadLength : (x y : ℕ) → Instruction
  LoadItem : (x y : ℕ) (i : Term) → Instruction
  TakeField : (x y f : ℕ) → Instruction
  NewObject : (x class : ℕ) → Instruction
  NewArray : (x : ℕ) (n : Term) → Instruction
  StoreField : (y f : ℕ) (a : Argument) → Instruction
  StoreItem : (y : ℕ) (i e : Term) → Instruction
  Invoke : (into : Option ℕ) (tie : Tie) (consumed : Bool) (y routine : ℕ) (args : List Argument) → Instruction
  Print : (e : Term) → Instruction

-- a block's code ends in End, that of a recover block in Give, that of a method in Return; own are the variables that a block itself declares, hides those that a recover block hides, at is the span of the statement or head
pub data Code : Type 0 where
  End : Code
  Give : (at : Span) (w x : ℕ) → Code
  Return : (at : Span) (a : Argument) → Code
  Do : (at : Span) (i : Instruction) (rest : Code) → Code
  If : (at : Span) (e : Term) (own1 : List ℕ) (a : Code) (own2 : List ℕ) (b : Code) (rest : Code) → Code
  While : (at : Span) (e : Term) (own : List ℕ) (body rest : Code) → Code
  Par : (at : Span) (own1 : List ℕ) (a : Code) (own2 : List ℕ) (b : Code) (rest : Code) → Code
  Recover : (at : Span) (x : ℕ) (own hides : List ℕ) (body rest : Code) → Code

-- a method: the number of its class, its types, the types of its variables, and its code
pub record Routine : Type 0 where
  pub class : ℕ
  pub receiver : Perm
  pub result : Ty
  pub params : List Ty
  pub vars : List Ty
  pub code : Code

-- a unit: the types of the fields of each class, its methods in text order, and the numbers of the class Main and of its method Run
pub record UnitCode : Type 0 where
  pub classes : List (List Ty)
  pub routines : List Routine
  pub main : ℕ
  pub run : ℕ
