-- Statements whose steps are named: each has its step among those that were added, and the places of the others are as before.
use Rattle.std.specs.Prelude.{◌≡◌, ℕ, ◌≤◌, Contains, List, [], ◌∷◌, length, get_or, Some, slice_get}
use Rattle.perm_tree.specs.declared.ast.Stmt.{Stmt}
use Rattle.perm_tree.specs.declared.bodies.Action.{Action}
use Rattle.perm_tree.specs.declared.bodies.Bodies.{Bodies}
use Rattle.perm_tree.specs.declared.bodies.Step.{Step}
use Rattle.perm_tree.specs.CodeNames.{Setting}
use Rattle.perm_tree.specs.InBody.{all_within, places_with}
use Rattle.perm_tree.specs.StatementSteps.{Says}
use Rattle.perm_table.specs.Numbering.{Naming}

-- ---------- which statements are held ----------
-- the places of the statements within the one at a place
abbrev pub within_stmt : Setting → ℕ → List ℕ
within_stmt k at = get_or (all_within k.tables.program.stmts) at []

-- that place, and those within
abbrev pub stmt_holds : Setting → ℕ → List ℕ
stmt_holds k at = at ∷ within_stmt k at

-- the places of some statements and of those within them
abbrev pub block_holds : Setting → List ℕ → List ℕ
block_holds k stmts = places_with (all_within k.tables.program.stmts) stmts

-- ---------- named steps ----------
-- there is a place for the step of each statement
abbrev pub HasPlaces : Naming → Bodies → Type 0
HasPlaces n b = length b.places ≡ length n.tables.program.stmts

-- among the steps behind old ones stands, at a place, one of which something is said
pub record HasAt (says : Action → Type 0) (old new : Bodies) (place : ℕ) : Type 0 where
  pub behind : length old.steps ≤ place
  pub step : Step
  pub there : slice_get new.steps place ≡ Some step
  pub said : says step.action

-- an action says what the statement at a place does
abbrev pub SaysAt : Setting → Bodies → ℕ → Action → Type 0
SaysAt k b at action = (s : Stmt) → slice_get k.tables.program.stmts at ≡ Some s → Says k b s s.kind action

-- the bodies name a step that was added for the statement at a place
pub record IsNamed (k : Setting) (old new : Bodies) (at : ℕ) : Type 0 where
  pub place : ℕ
  pub placed : slice_get new.places at ≡ Some place
  pub has : HasAt (SaysAt k new at) old new place

-- a place is held and its step is named, or it isn't and all is as before
pub data IsNamedIf (k : Setting) (old new : Bodies) (held : List ℕ) (at : ℕ) : Type 0 where
  Held : Contains held at → IsNamed k old new at → IsNamedIf k old new held at
  Kept : (Contains held at → ⊥) → slice_get new.places at ≡ slice_get old.places at → IsNamedIf k old new held at

-- the steps of the held statements are named, and those alone
pub record AreNamed (k : Setting) (old new : Bodies) (held : List ℕ) : Type 0 where
  pub count : length new.places ≡ length old.places
  pub each : (at : ℕ) → IsNamedIf k old new held at
