-- What the walk over the statements of a method gives.
use Rattle.std.specs.Prelude.{◌≡◌, ℕ, ◌<◌, true, List, length, Option, None, Some, Result, Ok, Err, slice_get}
use Rattle.perm_tree.specs.declared.ast.Block.{Block}
use Rattle.perm_tree.specs.declared.ast.Ident.{Ident}
use Rattle.perm_tree.specs.declared.ast.Rhs.{Rhs}
use Rattle.perm_tree.specs.declared.ast.Rhs.TheVariants.{Recover}
use Rattle.perm_tree.specs.declared.ast.Span.{Span}
use Rattle.perm_tree.specs.declared.ast.Stmt.{Stmt}
use Rattle.perm_tree.specs.declared.ast.StmtKind.{StmtKind}
use Rattle.perm_tree.specs.declared.ast.StmtKind.TheVariants.{Assign, If, While}
use Rattle.perm_tree.specs.declared.ast.Ty.{Ty}
use Rattle.perm_tree.specs.declared.errors.TypeError.{TypeError}
use Rattle.perm_tree.specs.declared.var_set.VarSet.{VarSet}
use Rattle.perm_tree.specs.Code.{Code, End}
use Rattle.perm_tree.specs.CodeNames.{Setting}
use Rattle.perm_tree.specs.CodeOf.{block_code, codes_of, kind_code}
use Rattle.perm_tree.specs.InBody.{inner_places, IsStmtOf}
use Rattle.perm_tree.specs.Links.{most_variables}
use Rattle.perm_tree.specs.Places.{AllBelow}
use Rattle.perm_tree.specs.VarSets.{member}
use Rattle.perm_tree.specs.Vars.{Vars, below, those, IsWithin}
use Rattle.perm_rules.specs.Effects.{Effect, changed, effect}
use Rattle.perm_rules.specs.FirstRefused.{error_or, first_refused}
use Rattle.perm_rules.specs.Goes.{hiding}
use Rattle.perm_rules.specs.MethodBodies.{Body, context_of, setting_of}
use Rattle.perm_rules.specs.Parts.{Context, Part}
use Rattle.perm_rules.specs.Refusals.{refusal}
use Rattle.perm_flow.specs.Parts.{HoldsHidden}

-- ---------- sets ----------
-- a set holds just these, of the variables that a method may have
abbrev pub Holds : VarSet → Vars → Type 0
Holds set G = (x : ℕ) → x < most_variables → member set x ≡ G x

-- a set of variables of the method
abbrev pub IsKnown : Body → VarSet → Type 0
IsKnown b set = IsWithin (member set) (below (length (context_of b).vars))

-- a live set as the test of its members
abbrev pub told : Result VarSet TypeError → Result Vars TypeError
told (Ok set) = Ok (member set)
told (Err e) = Err e

-- ---------- places ----------
-- the statements at some places are of the body
abbrev pub AreOfBody : Body → List ℕ → Type 0
AreOfBody b is = (i : ℕ) → those is i ≡ true → IsStmtOf b.unit b.number i

-- the blocks of statements hold what stands before, and no two hold one
pub record AreHolders (stmts : List Stmt) : Type 0 where
  pub below : (j : ℕ) (s : Stmt) → slice_get stmts j ≡ Some s → AllBelow j (inner_places s)
  pub one : (j k : ℕ) (s t : Stmt) (i : ℕ) → slice_get stmts j ≡ Some s → slice_get stmts k ≡ Some t → those (inner_places s) i ≡ true → those (inner_places t) i ≡ true → j ≡ k

-- a statement with a block in which another one stands
pub record IsHolder (stmts : List Stmt) (at j : ℕ) : Type 0 where
  pub stmt : Stmt
  pub there : slice_get stmts j ≡ Some stmt
  pub inside : those (inner_places stmt) at ≡ true

-- the place is that of the one that holds the statement at a place, if there is one
abbrev pub HoldsPlace : List Stmt → ℕ → Option ℕ → Type 0
HoldsPlace stmts at (Some j) = IsHolder stmts at j
HoldsPlace stmts at None = (j : ℕ) (s : Stmt) → slice_get stmts j ≡ Some s → those (inner_places s) at ≡ true → ⊥

-- ---------- what is given ----------
-- a part at a span is allowed, or its error is given
abbrev pub PartGives : Context → Span → Part → Vars → Result (Unit {0}) TypeError → Type 0
PartGives c at p G (Ok _) = refusal c p G ≡ None
PartGives c at p G (Err e) = error_or at (refusal c p G) None ≡ Some e

-- a code is unrefused, and the live set is changed by an effect, or the first error of the code is given
abbrev pub CodeGives : Context → Code → Effect → Vars → Result VarSet TypeError → Type 0
CodeGives c a e G (Ok set) = (first_refused c a G ≡ None) × (member set ≡ changed e G)
CodeGives c a e G (Err error) = first_refused c a G ≡ Some error

-- so it is of a part of a body, whatever variables are hidden of which a set holds the known ones
abbrev pub GivesPart : Body → VarSet → Span → Part → VarSet → Result (Unit {0}) TypeError → Type 0
GivesPart b hidden at p live result = (hides : List ℕ) → HoldsHidden b hidden hides → PartGives (hiding hides (context_of b)) at p (member live) result

-- so it is of a code of a body
abbrev pub GivesCode : Body → VarSet → Code → Effect → VarSet → Result VarSet TypeError → Type 0
GivesCode b hidden a e live result = (hides : List ℕ) → HoldsHidden b hidden hides → CodeGives (hiding hides (context_of b)) a e (member live) result

-- the statements of a block are unrefused, and what comes last is entered with the live set; or the first error of them is given, whatever comes last
abbrev pub BlockGives : Context → Setting → List ℕ → Vars → Result VarSet TypeError → Type 0
BlockGives c k is G (Ok set) = (last : Code) → (first_refused c (block_code k is last) G ≡ first_refused c last (member set)) × (changed (effect (block_code k is last)) G ≡ changed (effect last) (member set))
BlockGives c k is G (Err error) = (last : Code) → first_refused c (block_code k is last) G ≡ Some error

-- so it is of a block of a body
abbrev pub GivesBlock : Body → VarSet → List ℕ → VarSet → Result VarSet TypeError → Type 0
GivesBlock b hidden is live result = (hides : List ℕ) → HoldsHidden b hidden hides → BlockGives (hiding hides (context_of b)) (setting_of b) is (member live) result

-- ---------- forms of statements ----------
-- the code of a statement before no rest
abbrev pub kind_end : Body → Stmt → Code
kind_end b s = kind_code (setting_of b) (codes_of (setting_of b)) s s.kind End

-- an `if` with these blocks
pub record IsIf (kind : StmtKind) (yes : Block) (no : Option Block) : Type 0 where
  pub condition : ℕ
  pub is : kind ≡ If condition yes no

-- a `while` with this block
pub record IsWhile (kind : StmtKind) (block : Block) : Type 0 where
  pub condition : ℕ
  pub is : kind ≡ While condition block

-- an assignment with this right side
pub record IsAssignment (kind : StmtKind) (r : Rhs) : Type 0 where
  pub ty : Option Ty
  pub x : Ident
  pub is : kind ≡ Assign ty x r

-- a recover block with this `give`
pub record IsRecover (kind : StmtKind) (block : Block) (give : Span) : Type 0 where
  pub ty : Option Ty
  pub x : Ident
  pub w : Ident
  pub is : kind ≡ Assign ty x (Recover block w give)
