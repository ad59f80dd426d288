-- What stands in a method that is named by its number: its variables, and the statements and blocks of its body by their places.
use Rattle.std.specs.Prelude.{◌≡◌, ℕ, List, [], ◌∷◌, ◌++◌, get_or, Option, Some, None, slice_get, Contains}
use Rattle.perm_tree.specs.declared.ast.Stmt.{Stmt}
use Rattle.perm_tree.specs.declared.ast.StmtKind.TheVariants.{Par}
use Rattle.perm_tree.specs.declared.ast.Block.{Block}
use Rattle.perm_tree.specs.declared.ast.Method.{Method}
use Rattle.perm_tree.specs.declared.unit.MethodTable.{MethodTable}
use Rattle.perm_tree.specs.declared.unit.VarInfo.{VarInfo}
use Rattle.perm_tree.specs.Blocks.{kind_blocks, block_places}
use Rattle.perm_tree.specs.CodeNames.{Setting, setting}
use Rattle.perm_tree.specs.Entries.{entries_of}
use Rattle.perm_tree.specs.Lookup.{method_of}
use Rattle.perm_tree.specs.UnitTables.{Tables}

-- ---------- its variables ----------
-- the variables of a table, if it is there
abbrev pub vars_if : Option MethodTable → List VarInfo
vars_if None = []
vars_if (Some t) = t.vars

-- the variables of the method with number m
abbrev pub vars_at : Tables → ℕ → List VarInfo
vars_at u m = vars_if (slice_get u.tables m)

-- what its code is made with
abbrev pub setting_at : Tables → ℕ → Setting
setting_at u m = setting u (vars_at u m)

-- ---------- its statements ----------
-- the places of the statements of a statement's blocks
abbrev pub inner_places : Stmt → List ℕ
inner_places s = block_places (kind_blocks s.kind)

-- the places of some statements and of those within their blocks, where inner has the places within each statement
abbrev pub places_with : List (List ℕ) → List ℕ → List ℕ
places_with inner [] = []
places_with inner (i ∷ is) = i ∷ (get_or inner i [] ++ places_with inner is)

-- for each statement the places of the statements within its blocks
abbrev pub all_within : List Stmt → List (List ℕ)
all_within stmts = entries_of (λ inner s. places_with inner (inner_places s)) stmts

-- the statements of a method's body, if the method is there
abbrev pub body_if : Option Method → List ℕ
body_if None = []
body_if (Some d) = d.body.stmts

-- the method of a table, if that is there
abbrev pub method_if : Tables → Option MethodTable → Option Method
method_if u None = None
method_if u (Some t) = method_of u.program t

-- the method with number m in the unit
abbrev pub method_at : Tables → ℕ → Option Method
method_at u m = method_if u (slice_get u.tables m)

-- the places of all statements of the body of the method with number m
abbrev pub body_places : Tables → ℕ → List ℕ
body_places u m = places_with (all_within u.program.stmts) (body_if (method_at u m))

-- the statement at a place is one of the body
abbrev pub IsStmtOf : Tables → ℕ → ℕ → Type 0
IsStmtOf u m at = Contains (body_places u m) at

-- the statement at a place of the body
pub record HasStmt (u : Tables) (m at : ℕ) (s : Stmt) : Type 0 where
  pub inside : IsStmtOf u m at
  pub here : slice_get u.program.stmts at ≡ Some s

-- ---------- its blocks ----------
-- a block is the body itself, or one of a statement of it
pub data IsBlockOf (u : Tables) (m : ℕ) (b : Block) : Type 0 where
  Body : (d : Method) → method_at u m ≡ Some d → b ≡ d.body → IsBlockOf u m b
  Inner : (at : ℕ) (s : Stmt) → HasStmt u m at s → Contains (kind_blocks s.kind) b → IsBlockOf u m b

-- two blocks are those of one par of the body
pub record AreParOf (u : Tables) (m : ℕ) (left right : Block) : Type 0 where
  pub at : ℕ
  pub stmt : Stmt
  pub stands : HasStmt u m at stmt
  pub par : stmt.kind ≡ Par left right
