-- Where a branch stands within a method, and what it is for the steps of a unit's bodies to be linked as its code goes.
use Rattle.std.specs.Prelude.{◌≡◌, ℕ, ◌<◌, List, [], ◌∷◌, length, slice_get, Some}
use Rattle.perm_tree.specs.declared.ast.Ty.{Ty}
use Rattle.perm_tree.specs.declared.ast.Span.{Span}
use Rattle.perm_tree.specs.declared.bodies.Action.{Action}
use Rattle.perm_tree.specs.declared.bodies.Action.TheVariants as actions
use Rattle.perm_tree.specs.declared.bodies.Argument.{Argument}
use Rattle.perm_tree.specs.declared.bodies.Expression.{Expression}
use Rattle.perm_tree.specs.declared.bodies.Step.{Step}
use Rattle.perm_tree.specs.declared.bodies.Sides.{Sides}
use Rattle.perm_tree.specs.declared.bodies.Entry.{Entry}
use Rattle.perm_tree.specs.declared.bodies.Bodies.{Bodies}
use Rattle.perm_tree.specs.Code.{Code, End, Give, Return, Do, If, While, Par, Recover, Tie, Routine, UnitCode}
use Rattle.perm_tree.specs.CodeOf.{code_of}
use Rattle.perm_tree.specs.Mentions.{block_writes}
use Rattle.perm_tree.specs.StatementSteps.{AreSteps}
use Rattle.perm_tree.specs.UnitTables.{Tables}
use Rattle.perm_tree.specs.VarSets.{member}
use Rattle.perm_tree.specs.BodyTerms.{argument_of, expression_term, instruction_of, IsActionIn}

-- ---------- spots ----------
-- what is open round a code in its method: a block with its own variables, or a recover block; each with the code that comes after it
pub data Enclosing : Type 0 where
  InBlock : (own : List ℕ) (rest : Code) → Enclosing
  InRecover : (own hides : List ℕ) (rest : Code) → Enclosing

-- code to come, and what is open round it
pub record Standing : Type 0 where
  pub code : Code
  pub within : List Enclosing

-- ended blocks are left at once
abbrev pub left_ended : Code → List Enclosing → Standing
left_ended End (InBlock own rest ∷ st) = left_ended rest st
left_ended c st = record { code = c; within = st }

-- a spot: the number of the method, the code to come, and what is open round it there
pub record Spot : Type 0 where
  pub routine : ℕ
  pub code : Code
  pub within : List Enclosing

-- where a branch in a method comes with this code, and this open round it
abbrev pub spot_of : ℕ → Code → List Enclosing → Spot
spot_of m c st = record { routine = m; code = (left_ended c st).code; within = (left_ended c st).within }

-- ---------- links ----------
-- how many variables a method may have
abbrev pub most_variables : ℕ
most_variables = 256

module _ (stands : ℕ → Spot → Type 0) (b : Bodies) (u : UnitCode) (here : Spot) (at : Span) (next : ℕ) where
  -- a simple statement stands here, and what comes after it stands next
  pub record IsDo (action : Action) : Type 0 where
    pub tie : Tie
    pub rest : Code
    pub code : here.code ≡ Do at (instruction_of b tie action) rest
    pub after : stands next (spot_of here.routine rest here.within)

  -- an `if`, of which the first block stands next and the other there
  pub record IsIf (e : Expression) (other : ℕ) : Type 0 where
    pub own1 : List ℕ
    pub yes : Code
    pub own2 : List ℕ
    pub no : Code
    pub rest : Code
    pub code : here.code ≡ If at (expression_term b.operations e) own1 yes own2 no rest
    pub first : stands next (spot_of here.routine yes (InBlock own1 rest ∷ here.within))
    pub second : stands other (spot_of here.routine no (InBlock own2 rest ∷ here.within))

  -- a `while`, whose body leads back here
  pub record IsWhile (e : Expression) (first : ℕ) : Type 0 where
    pub own : List ℕ
    pub body : Code
    pub rest : Code
    pub code : here.code ≡ While at (expression_term b.operations e) own body rest
    pub again : stands first (spot_of here.routine body (InBlock own here.code ∷ here.within))
    pub after : stands next (spot_of here.routine rest here.within)

  -- the sets hold, of the variables that a method may have, just those that the blocks write
  pub record AreSides (own1 : List ℕ) (left : Code) (own2 : List ℕ) (right : Code) (sides : Sides) : Type 0 where
    pub left_writes : (x : ℕ) → x < most_variables → member sides.left x ≡ block_writes own1 left x
    pub right_writes : (x : ℕ) → x < most_variables → member sides.right x ≡ block_writes own2 right x

  -- a par, whose blocks each stand alone
  pub record IsPar (first second place : ℕ) : Type 0 where
    pub own1 : List ℕ
    pub left : Code
    pub own2 : List ℕ
    pub right : Code
    pub rest : Code
    pub code : here.code ≡ Par at own1 left own2 right rest
    pub begin_left : stands first (spot_of here.routine left [])
    pub begin_right : stands second (spot_of here.routine right [])
    pub after : stands next (spot_of here.routine rest here.within)
    pub sides : Sides
    pub there : slice_get b.sides place ≡ Some sides
    pub writes : AreSides own1 left own2 right sides

  -- a recover block, of which the first statement stands next
  pub record IsRecover : Type 0 where
    pub x : ℕ
    pub own : List ℕ
    pub hides : List ℕ
    pub body : Code
    pub rest : Code
    pub code : here.code ≡ Recover at x own hides body rest
    pub first : stands next (spot_of here.routine body (InRecover own hides rest ∷ here.within))

  -- the end of a recover block
  pub record IsGive (w x : ℕ) : Type 0 where
    pub own : List ℕ
    pub hides : List ℕ
    pub rest : Code
    pub within : List Enclosing
    pub code : here.code ≡ Give at w x
    pub inside : here.within ≡ InRecover own hides rest ∷ within
    pub after : stands next (spot_of here.routine rest within)

  -- the end of a method
  pub record IsReturn (a : Argument) : Type 0 where
    pub code : here.code ≡ Return at (argument_of b.operations a)
    pub within : here.within ≡ []

  -- the end of a side of a par
  pub record IsEnd : Type 0 where
    pub code : here.code ≡ End
    pub within : here.within ≡ []

  -- what stands here is what the action says
  abbrev pub IsLinkedBy : Action → Type 0
  IsLinkedBy (actions.If e other) = IsIf e other
  IsLinkedBy (actions.While e first) = IsWhile e first
  IsLinkedBy (actions.Par first second place) = IsPar first second place
  IsLinkedBy actions.Recover = IsRecover
  IsLinkedBy (actions.Give w x) = IsGive w x
  IsLinkedBy (actions.Return a) = IsReturn a
  IsLinkedBy actions.End = IsEnd
  IsLinkedBy action = IsDo action

-- what stands at a step's spot is what it says, and leads on as it says
abbrev pub IsLinked : (ℕ → Spot → Type 0) → Bodies → UnitCode → Spot → Step → Type 0
IsLinked stands b u here s = IsLinkedBy stands b u here s.span s.next s.action × IsActionIn b u s.action

-- ---------- bodies ----------
-- the action is a simple statement
abbrev pub IsSimple : Action → Type 0
IsSimple (actions.If e other) = ⊥
IsSimple (actions.While e first) = ⊥
IsSimple (actions.Par first second place) = ⊥
IsSimple actions.Recover = ⊥
IsSimple (actions.Give w x) = ⊥
IsSimple (actions.Return a) = ⊥
IsSimple actions.End = ⊥
IsSimple action = Unit {0}

-- this spot is that of a place, where a step stands
abbrev pub StandsAt : (ℕ → Spot) → List Step → ℕ → Spot → Type 0
StandsAt spot steps q here = (q < length steps) × (spot q ≡ here)

-- the bodies are the code of a unit: each step stands at a spot and is linked to steps that are there, each method begins at its first step, a simple statement leads on to a step that stands before it in the list, and `Run` and `Main` are those of the code
pub record AreBodiesOf (u : UnitCode) (b : Bodies) : Type 0 where
  pub spot : ℕ → Spot
  pub linked : (p : ℕ) (s : Step) → slice_get b.steps p ≡ Some s → IsLinked (λ q here. StandsAt spot b.steps q here) b u (spot p) s
  pub entries : length b.entries ≡ length u.routines
  pub first : (m : ℕ) (e : Entry) (r : Routine) → slice_get b.entries m ≡ Some e → slice_get u.routines m ≡ Some r → StandsAt spot b.steps e.first (spot_of m r.code [])
  pub variables : (m : ℕ) (e : Entry) (r : Routine) → slice_get b.entries m ≡ Some e → slice_get u.routines m ≡ Some r → e.variables ≡ length r.vars
  pub falls : (p : ℕ) (s : Step) → slice_get b.steps p ≡ Some s → IsSimple s.action → s.next < p
  pub run : b.run ≡ u.run
  pub fields : (ts : List Ty) → slice_get u.classes u.main ≡ Some ts → length ts ≡ b.fields

-- the bodies of a unit: its steps are linked as its code goes, and each statement has its step
pub record AreBodies (t : Tables) (b : Bodies) : Type 0 where
  pub linked : AreBodiesOf (code_of t) b
  pub steps : AreSteps t b
