-- How the steps of a method are emitted: each new one leads on to steps that are there, and what is there stays.
use Rattle.std.specs.Prelude.{◌≡◌, ℕ, suc, Option, Some, slice_get, ◌<◌, ◌+◌, ◌≤◌, List, [], ◌∷◌, ◌++◌, length}
use Rattle.perm_tree.specs.declared.ast.ClassDecl.{ClassDecl}
use Rattle.perm_tree.specs.declared.ast.Ident.{Ident}
use Rattle.perm_tree.specs.declared.ast.Method.{Method}
use Rattle.perm_tree.specs.declared.ast.Rhs.{Rhs}
use Rattle.perm_tree.specs.declared.ast.Span.{Span}
use Rattle.perm_tree.specs.declared.ast.Stmt.{Stmt}
use Rattle.perm_tree.specs.declared.ast.StmtKind.{StmtKind}
use Rattle.perm_tree.specs.declared.ast.StmtKind.TheVariants.{Assign}
use Rattle.perm_tree.specs.declared.ast.Ty.{Ty}
use Rattle.perm_tree.specs.declared.bodies.Action.{Action}
use Rattle.perm_tree.specs.declared.bodies.Action.TheVariants.{Invoke, Par as ParAction}
use Rattle.perm_tree.specs.declared.bodies.Bodies.{Bodies}
use Rattle.perm_tree.specs.declared.bodies.Entry.{Entry}
use Rattle.perm_tree.specs.declared.bodies.Step.{Step}
use Rattle.perm_tree.specs.declared.unit.MethodTable.{MethodTable}
use Rattle.perm_tree.specs.declared.var_set.VarSet.{VarSet}
use Rattle.perm_tree.specs.Code.{Code, End, Give, Return, If, While, Par, Recover, Instruction, Routine, UnitCode}
use Rattle.perm_tree.specs.CodeNames.{Setting, argument, own_vars, term_at, tied_before}
use Rattle.perm_tree.specs.CodeOf.{block_code, code_of}
use Rattle.perm_tree.specs.InBody.{method_at, setting_at, HasStmt}
use Rattle.perm_tree.specs.Links.{Enclosing, Spot, spot_of, IsLinked, IsSimple, StandsAt, most_variables}
use Rattle.perm_tree.specs.Lookup.{main_place, method_of}
use Rattle.perm_tree.specs.Mentions.{assigns, block_writes, consumes, written}
use Rattle.perm_tree.specs.Places.{Listing}
use Rattle.perm_tree.specs.StatementSteps.{HasReturnOf, HasStepOf}
use Rattle.perm_tree.specs.UnitTables.{Tables}
use Rattle.perm_tree.specs.VarSets.{member}
use Rattle.perm_tree.specs.Vars.{Vars, plus}
use Rattle.perm_table.specs.declared.numbering.emit.Emitted.{Emitted}
use Rattle.perm_table.specs.declared.numbering.emit.Fragment.{Fragment}
use Rattle.perm_table.specs.Growth.{Extends}
use Rattle.perm_table.specs.StepPlaces.{block_holds, AreNamed, HasAt}

-- ---------- steps at spots ----------
-- these spots stand one after the other, from a place on
abbrev pub AreAt : (ℕ → Spot) → List Step → ℕ → List Spot → Type 0
AreAt spot all at [] = Unit {0}
AreAt spot all at (s ∷ spots) = StandsAt spot all at s × AreAt spot all (suc at) spots

-- a step at a place is linked, and if it is a simple statement it leads on to a place before its own
pub record IsLinkedAt (spot : ℕ → Spot) (b : Bodies) (u : UnitCode) (at : ℕ) (s : Step) : Type 0 where
  pub linked : IsLinked (λ q here. StandsAt spot b.steps q here) b u (spot at) s
  pub falls : IsSimple s.action → s.next < at

-- so are these steps, from a place on
abbrev pub AreLinkedAt : (ℕ → Spot) → Bodies → UnitCode → ℕ → List Step → Type 0
AreLinkedAt spot b u at [] = Unit {0}
AreLinkedAt spot b u at (s ∷ steps) = IsLinkedAt spot b u at s × AreLinkedAt spot b u (suc at) steps

-- steps of these bodies, from a place on, have spots at which all of them are linked, and something is gained of what stands where, if something else is given
pub record IsPath (u : UnitCode) (b : Bodies) (at : ℕ) (steps : List Step) (given gained : (ℕ → Spot) → List Step → Type 0) : Type 0 where
  pub spots : List Spot
  pub count : length spots ≡ length steps
  pub linked : (spot : ℕ → Spot) (later : Bodies) → Extends b later → AreAt spot later.steps at spots → given spot later.steps → AreLinkedAt spot later u at steps × gained spot later.steps

-- ---------- emission ----------
-- steps are added before a place that comes next, so that from the first one on they are this code, whatever code comes next and whatever is open round it
pub record Emits (u : UnitCode) (old : Bodies) (next : ℕ) (new : Bodies) (first : ℕ) (code : Code → Code) : Type 0 where
  pub added : List Step
  pub steps : new.steps ≡ old.steps ++ added
  pub extends : Extends old new
  pub entries : new.entries ≡ old.entries
  pub there : first < length new.steps
  pub path : (m : ℕ) (rest : Code) (st : List Enclosing) → IsPath u new (length old.steps) added (λ spot all. StandsAt spot all next (spot_of m rest st)) (λ spot all. StandsAt spot all first (spot_of m (code rest) st))

-- a set holds just these, of the variables that a method may have
abbrev pub Holds : VarSet → Vars → Type 0
Holds set G = (x : ℕ) → x < most_variables → member set x ≡ G x

-- a set holds just those that a code writes before what comes next
abbrev pub HoldsWritten : VarSet → (Code → Code) → Type 0
HoldsWritten set code = (rest : Code) (x : ℕ) → x < most_variables → written (code rest) x ≡ plus (member set) (written rest) x

-- a code is emitted, what it writes is known, and the steps of the statements that it holds are named
pub record IsEmitted (k : Setting) (old : Bodies) (next : ℕ) (new : Bodies) (code : Code → Code) (held : List ℕ) (e : Fragment) : Type 0 where
  pub emits : Emits (code_of k.tables) old next new e.first code
  pub writes : HoldsWritten e.written code
  pub names : AreNamed k old new held

-- so is a statement's, and of its own step, which isn't named yet, something is said
pub record IsStmtEmitted (k : Setting) (old : Bodies) (next : ℕ) (new : Bodies) (code : Code → Code) (held : List ℕ) (says : Action → Type 0) (e : Emitted) : Type 0 where
  pub emitted : IsEmitted k old next new code held e.fragment
  pub has : HasAt says old new e.step

-- a block is emitted, the outer variables that it writes are known, and the steps of its statements are named
pub record IsBlockEmitted (k : Setting) (old : Bodies) (next : ℕ) (new : Bodies) (stmts : List ℕ) (e : Fragment) : Type 0 where
  pub emits : Emits (code_of k.tables) old next new e.first (block_code k stmts)
  pub writes : Holds e.written (block_writes (own_vars k stmts) (block_code k stmts End))
  pub names : AreNamed k old new (block_holds k stmts)

-- ---------- statements with blocks ----------
-- the code of an if
abbrev pub if_code : Setting → Span → ℕ → List ℕ → List ℕ → Code → Code
if_code k at e first other rest = If at (term_at k e) (own_vars k first) (block_code k first End) (own_vars k other) (block_code k other End) rest

-- of a while
abbrev pub while_code : Setting → Span → ℕ → List ℕ → Code → Code
while_code k at e body rest = While at (term_at k e) (own_vars k body) (block_code k body End) rest

-- of a par
abbrev pub par_code : Setting → Span → List ℕ → List ℕ → Code → Code
par_code k at left right rest = Par at (own_vars k left) (block_code k left End) (own_vars k right) (block_code k right End) rest

-- of a recover, of which x takes the variable w
abbrev pub recover_code : Setting → Span → ℕ → List ℕ → ℕ → Span → Code → Code
recover_code k at x body w give rest = Recover at x (own_vars k body) (tied_before at.end 0 k.vars) (block_code k body (Give give w x)) rest

-- a par whose sides begin there and write so much is added behind what was there
abbrev pub HasPar : Span → ℕ → Fragment → Fragment → Bodies → Bodies → Type 0
HasPar at next left right old new =
    new
    ≡ record old {
      sides = old.sides ++ record { left = left.written; right = right.written } ∷ [];
      steps = old.steps ++ record { span = at; next = next; action = ParAction left.first right.first (length old.sides) } ∷ [];
    }

-- ---------- simple statements ----------
-- the statement assigns a right side to a variable
pub record IsAssignment (kind : StmtKind) (x : Ident) (rhs : Rhs) : Type 0 where
  pub ty : Option Ty
  pub is : kind ≡ Assign ty x rhs

-- the variables that a simple statement consumes or assigns
abbrev pub writes_of : Instruction → Vars
writes_of i = plus (consumes i) (assigns i)

-- the arguments of a call are there
abbrev pub IsCallIn : Bodies → Action → Type 0
IsCallIn b (Invoke v) = v.first + v.count ≤ length b.arguments
IsCallIn b action = Unit {0}

-- ---------- methods ----------
-- a method is emitted: its steps end with its `return`, its entry stands behind those that were there, and the steps of its statements are named
pub record IsMethodEmitted (k : Setting) (old new : Bodies) (d : Method) : Type 0 where
  pub first : ℕ
  pub last : ℕ
  pub added : List Step
  pub steps : new.steps ≡ old.steps ++ added
  pub extends : Extends old new
  pub entries : new.entries ≡ old.entries ++ record { first = first; last = last; variables = length k.vars } ∷ []
  pub path : (m : ℕ) → IsPath (code_of k.tables) new (length old.steps) added (λ spot all. Unit {0}) (λ spot all. StandsAt spot all first (spot_of m (block_code k d.body.stmts (Return d.span (argument k d.back))) []))
  pub returns : HasReturnOf k new d (record { first = first; last = last; variables = length k.vars })
  pub names : AreNamed k old new (block_holds k d.body.stmts)

-- the method with this number begins at its first step
pub record BeginsAt (spot : ℕ → Spot) (all : List Step) (m : ℕ) (e : Entry) (r : Routine) : Type 0 where
  pub first : StandsAt spot all e.first (spot_of m r.code [])
  pub variables : e.variables ≡ length r.vars

-- so does each method that has an entry
abbrev pub AllBegin : (ℕ → Spot) → List Step → UnitCode → List Entry → Type 0
AllBegin spot all u entries = (m : ℕ) (e : Entry) (r : Routine) → slice_get entries m ≡ Some e → slice_get u.routines m ≡ Some r → BeginsAt spot all m e r

-- the first n methods of a unit are emitted
pub record AreEmitted (u : Tables) (n : ℕ) (b : Bodies) : Type 0 where
  pub count : length b.entries ≡ n
  pub path : IsPath (code_of u) b 0 b.steps (λ spot all. Unit {0}) (λ spot all. AllBegin spot all (code_of u) b.entries)
  pub places : length b.places ≡ length u.program.stmts
  pub stmts : (m at : ℕ) (s : Stmt) → m < n → HasStmt u m at s → HasStepOf (setting_at u m) b at s
  pub returns : (m : ℕ) (d : Method) (e : Entry) → method_at u m ≡ Some d → slice_get b.entries m ≡ Some e → HasReturnOf (setting_at u m) b d e

-- the table is that of a method of the program
pub record HasMethod (p : Listing) (t : MethodTable) : Type 0 where
  pub «method» : Method
  pub is : method_of p t ≡ Some «method»

-- the class Main, if there is one, has so many fields
abbrev pub MainHas : Listing → ℕ → Type 0
MainHas p n = (c : ClassDecl) → slice_get p.classes (main_place p) ≡ Some c → length c.fields ≡ n
