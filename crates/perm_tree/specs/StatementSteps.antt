-- The step of each statement, by the statement's place: it says with numbers what the statement says with names.
use Rattle.std.specs.Prelude.{◌≡◌, ℕ, map, Option, Some, slice_get}
use Rattle.std.specs.List.{list_all}
use Rattle.perm_tree.specs.declared.ast.Ident.{Ident}
use Rattle.perm_tree.specs.declared.ast.Method.{Method}
use Rattle.perm_tree.specs.declared.ast.Rhs.{Rhs}
use Rattle.perm_tree.specs.declared.ast.Rhs.TheVariants.{Recover}
use Rattle.perm_tree.specs.declared.ast.Stmt.{Stmt}
use Rattle.perm_tree.specs.declared.ast.StmtKind.{StmtKind}
use Rattle.perm_tree.specs.declared.ast.StmtKind.TheVariants.{Assign, If, While, Par}
use Rattle.perm_tree.specs.declared.ast.Ty.{Ty}
use Rattle.perm_tree.specs.declared.bodies.Action.{Action}
use Rattle.perm_tree.specs.declared.bodies.Action.TheVariants as actions
use Rattle.perm_tree.specs.declared.bodies.Argument as handed
use Rattle.perm_tree.specs.declared.bodies.Bodies.{Bodies}
use Rattle.perm_tree.specs.declared.bodies.Entry.{Entry}
use Rattle.perm_tree.specs.declared.bodies.Expression.{Expression}
use Rattle.perm_tree.specs.declared.bodies.Step.{Step}
use Rattle.perm_tree.specs.BodyTerms.{argument_of, expression_term, instruction_of, stretch, IsActionIn, IsArgumentIn, IsExpressionIn}
use Rattle.perm_tree.specs.Code.{Code, Do, Tie, Shares}
use Rattle.perm_tree.specs.CodeNames.{Setting, argument, term_at, var_at}
use Rattle.perm_tree.specs.CodeOf.{code_of, codes_of, kind_code}
use Rattle.perm_tree.specs.InBody.{setting_at, method_at, HasStmt}
use Rattle.perm_tree.specs.Lookup.{var_ty}
use Rattle.perm_tree.specs.Ties.{is_harmless, tie_of}
use Rattle.perm_tree.specs.UnitTables.{Tables}

-- how a call is tied, by the types of variables; nothing else is tied
abbrev pub action_tie : (ℕ → Option Ty) → Bodies → Action → Tie
action_tie ty b (actions.Invoke v) = tie_of (ty v.receiver) v.consumed (list_all (is_harmless ty) (map (argument_of b.operations) (stretch b.arguments v.first v.count)))
action_tie ty b action = Shares

-- the action is that of a simple statement
pub record SaysSimple (k : Setting) (b : Bodies) (s : Stmt) (action : Action) : Type 0 where
  pub code : (rest : Code) → kind_code k (codes_of k) s s.kind rest ≡ Do s.span (instruction_of b (action_tie (var_ty k.vars) b action) action) rest
  pub inside : IsActionIn b (code_of k.tables) action

-- the expression is the one at a place of the program
pub record SaysTerm (k : Setting) (b : Bodies) (at : ℕ) (e : Expression) : Type 0 where
  pub term : expression_term b.operations e ≡ term_at k at
  pub inside : IsExpressionIn b.operations e

-- the action tests the expression at a place of the program
abbrev pub SaysTest : Setting → Bodies → ℕ → Action → Type 0
SaysTest k b at (actions.If e other) = SaysTerm k b at e
SaysTest k b at (actions.While e first) = SaysTerm k b at e
SaysTest k b at action = ⊥

-- the action gives one variable to another
abbrev pub SaysGive : Setting → Ident → Ident → Action → Type 0
SaysGive k w x (actions.Give given taker) = (given ≡ var_at k w) × (taker ≡ var_at k x)
SaysGive k w x action = ⊥

-- the action is that of an assignment to x; that of a recover block is its `give`
abbrev pub SaysAssignment : Setting → Bodies → Stmt → Ident → Rhs → Action → Type 0
SaysAssignment k b s x (Recover block w give) action = SaysGive k w x action
SaysAssignment k b s x r action = SaysSimple k b s action

-- the action is that of a statement
abbrev pub Says : Setting → Bodies → Stmt → StmtKind → Action → Type 0
Says k b s (Assign t x r) action = SaysAssignment k b s x r action
Says k b s (If e first other) action = SaysTest k b e action
Says k b s (While e body) action = SaysTest k b e action
Says k b s (Par left right) action = Unit {0}
Says k b s kind action = SaysSimple k b s action

-- the bodies name, for the statement s at a place, the step that says what s does
pub record HasStepOf (k : Setting) (b : Bodies) (at : ℕ) (s : Stmt) : Type 0 where
  pub place : ℕ
  pub placed : slice_get b.places at ≡ Some place
  pub step : Step
  pub there : slice_get b.steps place ≡ Some step
  pub says : Says k b s s.kind step.action

-- at the end of a method stands its `return`
pub record HasReturnOf (k : Setting) (b : Bodies) (d : Method) (e : Entry) : Type 0 where
  pub step : Step
  pub there : slice_get b.steps e.last ≡ Some step
  pub handed : handed.Argument
  pub returns : step.action ≡ actions.Return handed
  pub value : argument_of b.operations handed ≡ argument k d.back
  pub inside : IsArgumentIn b.operations handed

-- each statement of each method has its step, and each method its `return`
pub record AreSteps (u : Tables) (b : Bodies) : Type 0 where
  pub stmts : (m at : ℕ) (s : Stmt) → HasStmt u m at s → HasStepOf (setting_at u m) b at s
  pub returns : (m : ℕ) (d : Method) (e : Entry) → method_at u m ≡ Some d → slice_get b.entries m ≡ Some e → HasReturnOf (setting_at u m) b d e
