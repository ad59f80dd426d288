-- The variables of steps by what they do with them.
use Rattle.std.specs.Prelude.{◌≡◌, ℕ, ◌+◌, ◌≤◌, length, Option, Some, None}
use Rattle.perm_tree.specs.declared.ast.Ident.{Ident}
use Rattle.perm_tree.specs.declared.ast.Rhs.{Rhs}
use Rattle.perm_tree.specs.declared.ast.Stmt.{Stmt}
use Rattle.perm_tree.specs.declared.ast.StmtKind.TheVariants.{Assign}
use Rattle.perm_tree.specs.declared.ast.Ty.{Ty}
use Rattle.perm_tree.specs.declared.bodies.Action.{Action}
use Rattle.perm_tree.specs.declared.bodies.Action.TheVariants as actions
use Rattle.perm_tree.specs.declared.bodies.Bodies.{Bodies}
use Rattle.perm_tree.specs.Code.{Instruction, Declare}
use Rattle.perm_tree.specs.InBody.{HasStmt}
use Rattle.perm_tree.specs.Vars.{Vars, none, just}
use Rattle.perm_rules.specs.MethodBodies.{Body}

-- the variable that a simple statement declares without a value
abbrev pub declares : Instruction → Vars
declares (Declare x) = just x
declares i = none

-- the variable to which an action gives a value, that of a `give` included
abbrev pub taker_of : Action → Option ℕ
taker_of (actions.Assign x a) = Some x
taker_of (actions.LoadField x y f) = Some x
taker_of (actions.LoadLength x y) = Some x
taker_of (actions.LoadItem x y e) = Some x
taker_of (actions.TakeField x y f) = Some x
taker_of (actions.NewObject x class fields) = Some x
taker_of (actions.NewArray x e) = Some x
taker_of (actions.Invoke v) = v.into
taker_of (actions.Give w x) = Some x
taker_of action = None

-- the variable of an assignment that declares it, with a type
abbrev pub if_declared : Option Ty → Option ℕ → Option ℕ
if_declared None x = None
if_declared (Some t) x = x

-- the arguments of a call are there
abbrev pub IsCallIn : Bodies → Action → Type 0
IsCallIn b (actions.Invoke v) = v.first + v.count ≤ length b.arguments
IsCallIn b action = Unit {0}

-- the statement at a place of the body assigns a right side
pub record IsAssignmentAt (b : Body) (at : ℕ) (rhs : Rhs) : Type 0 where
  pub stmt : Stmt
  pub stands : HasStmt b.unit b.number at stmt
  pub ty : Option Ty
  pub taker : Ident
  pub is : stmt.kind ≡ Assign ty taker rhs

-- an action gives one variable to another
abbrev pub IsGive : Action → Type 0
IsGive (actions.Give w x) = Unit {0}
IsGive action = ⊥
