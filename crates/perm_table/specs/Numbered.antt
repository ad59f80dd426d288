-- What is added to bodies for an expression, for arguments or for a simple statement.
use Rattle.std.specs.Prelude.{◌≡◌, ℕ, ◌<◌, List, ◌++◌, map}
use Rattle.perm_tree.specs.declared.ast.Rhs.{Rhs}
use Rattle.perm_tree.specs.declared.ast.Rhs.TheVariants.{Value, Item, NewArray, Call, Recover}
use Rattle.perm_tree.specs.declared.ast.Stmt.{Stmt}
use Rattle.perm_tree.specs.declared.ast.StmtKind.{StmtKind}
use Rattle.perm_tree.specs.declared.ast.StmtKind.TheVariants.{Declare, Assign, SetField, SetItem, Call as CallStmt, Print}
use Rattle.perm_tree.specs.declared.bodies.Action.{Action}
use Rattle.perm_tree.specs.declared.bodies.Argument.{Argument}
use Rattle.perm_tree.specs.declared.bodies.Bodies.{Bodies}
use Rattle.perm_tree.specs.declared.bodies.Expression.{Expression}
use Rattle.perm_tree.specs.BodyTerms.{argument_of, expression_term, instruction_of, AreArgumentsIn, IsActionIn, IsArgumentIn, IsExpressionIn}
use Rattle.perm_tree.specs.Code as code
use Rattle.perm_tree.specs.Code.{Code, Do, Instruction, Term, Tie, UnitCode}
use Rattle.perm_tree.specs.CodeNames.{Setting}
use Rattle.perm_tree.specs.CodeOf.{assignment, kind_code}
use Rattle.perm_tree.specs.Links.{IsSimple}
use Rattle.perm_tree.specs.Places.{ArgPlaced, ArgsPlaced}
use Rattle.perm_table.specs.Growth.{Grows}

-- the expression has this term, and no argument is added with it
pub record TellsTerm (old new : Bodies) (t : Term) (e : Expression) : Type 0 where
  pub grows : Grows old new
  pub arguments : new.arguments ≡ old.arguments
  pub inside : IsExpressionIn new.operations e
  pub term : expression_term new.operations e ≡ t

-- so of an argument
pub record TellsArgument (old new : Bodies) (v : code.Argument) (a : Argument) : Type 0 where
  pub grows : Grows old new
  pub arguments : new.arguments ≡ old.arguments
  pub inside : IsArgumentIn new.operations a
  pub value : argument_of new.operations a ≡ v

-- the arguments that are added are these
pub record TellsArguments (old new : Bodies) (vs : List code.Argument) : Type 0 where
  pub grows : Grows old new
  pub added : List Argument
  pub arguments : new.arguments ≡ old.arguments ++ added
  pub inside : AreArgumentsIn new.operations added
  pub values : map (argument_of new.operations) added ≡ vs

-- the action is a simple statement's that has this code, if the statement has a call tied in some way
pub record TellsCode (old new : Bodies) (u : UnitCode) (made : List (Code → Code) → Stmt → Code → Code) (a : Action) : Type 0 where
  pub grows : Grows old new
  pub inside : IsActionIn new u a
  pub simple : IsSimple a
  pub tie : Tie
  pub code : (codes : List (Code → Code)) (s : Stmt) (rest : Code) → made codes s rest ≡ Do s.span (instruction_of new tie a) rest

-- the code of a statement that asks for this
abbrev pub does : Instruction → List (Code → Code) → Stmt → Code → Code
does i codes s rest = Do s.span i rest

-- the code of an assignment to x
abbrev pub assigns : Setting → ℕ → Rhs → List (Code → Code) → Stmt → Code → Code
assigns k x r codes s rest = assignment k codes s x r rest

-- the code of a statement of a kind
abbrev pub states : Setting → StmtKind → List (Code → Code) → Stmt → Code → Code
states k kind codes s rest = kind_code k codes s kind rest

-- the right side is no recover block, and its expressions are there
abbrev pub IsSimpleRhs : ℕ → Rhs → Type 0
IsSimpleRhs exprs (Value a) = ArgPlaced exprs a
IsSimpleRhs exprs (Item y e) = e < exprs
IsSimpleRhs exprs (NewArray e) = e < exprs
IsSimpleRhs exprs (Call c) = ArgsPlaced exprs c.args
IsSimpleRhs exprs (Recover b w give) = ⊥
IsSimpleRhs exprs _ = Unit {0}

-- the statement has no block, and its expressions are there
abbrev pub IsSimpleKind : ℕ → StmtKind → Type 0
IsSimpleKind exprs (Declare t x) = Unit {0}
IsSimpleKind exprs (Assign t x r) = IsSimpleRhs exprs r
IsSimpleKind exprs (SetField y f a) = ArgPlaced exprs a
IsSimpleKind exprs (SetItem y i e) = (i < exprs) × (e < exprs)
IsSimpleKind exprs (CallStmt c) = ArgsPlaced exprs c.args
IsSimpleKind exprs (Print e) = e < exprs
IsSimpleKind exprs _ = ⊥
