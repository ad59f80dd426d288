-- The rules for a method, a statement or a block that is named by its place in a unit.
use Rattle.std.specs.Prelude.{ℕ, true, List, [], ◌∷◌, ◌++◌, get_or, length, Option, Some, None, cond, Result, Ok, Err}
use Rattle.perm_tree.specs.declared.ast.Stmt.{Stmt}
use Rattle.perm_tree.specs.declared.ast.StmtKind.{StmtKind}
use Rattle.perm_tree.specs.declared.ast.StmtKind.TheVariants.{Assign}
use Rattle.perm_tree.specs.declared.ast.Rhs.{Rhs}
use Rattle.perm_tree.specs.declared.ast.Rhs.TheVariants.{Recover}
use Rattle.perm_tree.specs.declared.ast.Block.{Block}
use Rattle.perm_tree.specs.declared.ast.Perm.TheVariants.{Readable}
use Rattle.perm_tree.specs.declared.ast.Ty.TheVariants.{Long}
use Rattle.perm_tree.specs.declared.errors.TypeError.{TypeError}
use Rattle.perm_tree.specs.declared.errors.TypeKind.{TypeKind}
use Rattle.perm_tree.specs.declared.unit.VarInfo.{VarInfo}
use Rattle.perm_tree.specs.Code.{Code, End, Routine}
use Rattle.perm_tree.specs.CodeNames.{own_vars, tied_before}
use Rattle.perm_tree.specs.CodeOf.{code_of, stmt_code, block_code}
use Rattle.perm_tree.specs.UnitTables.{Tables}
use Rattle.perm_tree.specs.Vars.{Vars, those}
use Rattle.perm_rules.specs.declared.ParMode.{ParMode}
use Rattle.perm_rules.specs.Parts.{Context, ParHead}
use Rattle.perm_rules.specs.Pars.{uses, sets, par_head, mode_of}
use Rattle.perm_rules.specs.Refusals.{refusal}
use Rattle.perm_rules.specs.Effects.{Effect, effect, changed, block_effect, known_effect}
use Rattle.perm_tree.specs.InBody.{all_within, vars_at, setting_at}
use Rattle.perm_rules.specs.Goes.{Goes, context, hiding}
use Rattle.perm_rules.specs.FirstRefused.{first_refused}

-- ---------- the method with number m ----------
-- what a number past the last stands for: a method of no statements
abbrev pub no_routine : Routine
no_routine = record { class = 0; receiver = Readable; result = Long; params = []; vars = []; code = End }

-- its types and its code
abbrev pub routine_at : Tables → ℕ → Routine
routine_at u m = get_or (code_of u).routines m no_routine

-- ---------- what is hidden at a place ----------
-- what the right side of a statement hides in its block: a recover block the writable and readable variables that are declared before it
abbrev pub rhs_hides : List VarInfo → Stmt → Rhs → List ℕ
rhs_hides vars s (Recover b w give) = tied_before s.head.end 0 vars
rhs_hides vars s _ = []

-- the same of a statement
abbrev pub hides_of : List VarInfo → Stmt → StmtKind → List ℕ
hides_of vars s (Assign t x r) = rhs_hides vars s r
hides_of vars s _ = []

-- what some statements hide at a place, each by the places within it
abbrev pub hidden_by : List VarInfo → ℕ → List (List ℕ) → List Stmt → List ℕ
hidden_by vars at (inside ∷ rest) (s ∷ ss) = cond (those inside at) (hides_of vars s s.kind) [] ++ hidden_by vars at rest ss
hidden_by vars at _ _ = []

-- the variables that are hidden at a place of a method: those that a statement round it hides, the innermost first, since each stands behind what it holds
abbrev pub hidden_at : Tables → ℕ → ℕ → List ℕ
hidden_at u m at = hidden_by (vars_at u m) at (all_within u.program.stmts) u.program.stmts

-- what the parts at a place of a method are checked by
abbrev pub context_at : Tables → ℕ → ℕ → Context
context_at u m at = hiding (hidden_at u m at) (context (code_of u) (routine_at u m))

-- ---------- blocks ----------
-- the code of a block
abbrev pub block_code_at : Tables → ℕ → Block → Code
block_code_at u m b = block_code (setting_at u m) b.stmts End

-- the variables that a block of a method itself declares
abbrev pub own_at : Tables → ℕ → Block → List ℕ
own_at u m b = own_vars (setting_at u m) b.stmts

-- what a block does to the live set, its own variables lost at its end
abbrev pub whole_effect_of : Tables → ℕ → Block → Effect
whole_effect_of u m b = block_effect (own_at u m b) (block_code_at u m b)

-- what it loses and makes of the variables of the method
abbrev pub effect_of : Tables → ℕ → Block → Effect
effect_of u m b = known_effect (length (vars_at u m)) (whole_effect_of u m b)

-- what the blocks of a method are checked by, where nothing is hidden; the sets of variables and the par tests don't look at what is
abbrev pub plain_context : Tables → ℕ → Context
plain_context u m = context (code_of u) (routine_at u m)

-- the outer variables that a block mentions
abbrev pub uses_of : Tables → ℕ → Block → Vars
uses_of u m b = uses (plain_context u m) (own_at u m b) (block_code_at u m b)

-- the outer variables that a block assigns or consumes
abbrev pub sets_of : Tables → ℕ → Block → Vars
sets_of u m b = sets (plain_context u m) (own_at u m b) (block_code_at u m b)

-- the mode, unless the par is refused
abbrev pub mode_unless : Option TypeKind → ParMode → Result ParMode TypeKind
mode_unless None mode = Ok mode
mode_unless (Some k) mode = Err k

-- the mode of two blocks side by side, or why they may not be
abbrev pub par_mode_of : Tables → ℕ → Block → Block → Result ParMode TypeKind
par_mode_of u m left right =
    mode_unless
    (refusal (plain_context u m) (par_head (plain_context u m) (own_at u m left) (block_code_at u m left) (own_at u m right) (block_code_at u m right)) (λ x. true))
    (mode_of (plain_context u m) (uses_of u m left) (uses_of u m right))

-- the same by what the blocks assign and consume alone, which is as much in each par of a unit (`laws::pars`)
abbrev pub plain_mode_of : Tables → ℕ → Block → Block → Result ParMode TypeKind
plain_mode_of u m left right =
    mode_unless
    (refusal (plain_context u m) (ParHead (uses_of u m left) (uses_of u m right) (sets_of u m left) (sets_of u m right)) (λ x. true))
    (mode_of (plain_context u m) (uses_of u m left) (uses_of u m right))

-- ---------- statements ----------
-- the code of the one statement at a place
abbrev pub stmt_code_at : Tables → ℕ → ℕ → Code
stmt_code_at u m at = stmt_code (setting_at u m) at End

-- from the live set G the statement at a place goes to H
abbrev pub StmtGoes : Tables → ℕ → ℕ → Vars → Vars → Type 0
StmtGoes u m at G H = Goes (context_at u m at) (stmt_code_at u m at) G H

-- the first refused part of the statement at a place, which is entered with G
abbrev pub stmt_refusal : Tables → ℕ → ℕ → Vars → Option TypeError
stmt_refusal u m at G = first_refused (context_at u m at) (stmt_code_at u m at) G

-- the live set, unless something is refused
abbrev pub flow_unless : Option TypeError → Vars → Result Vars TypeError
flow_unless None H = Ok H
flow_unless (Some e) H = Err e

-- the live set after the statement at a place, or the first refusal within it
abbrev pub flow_of : Tables → ℕ → ℕ → Vars → Result Vars TypeError
flow_of u m at G = flow_unless (stmt_refusal u m at G) (changed (effect (stmt_code_at u m at)) G)

-- on from the live set, unless something is refused
abbrev pub flow_then : Result Vars TypeError → (Vars → Result Vars TypeError) → Result Vars TypeError
flow_then (Ok H) next = next H
flow_then (Err e) next = Err e

-- the live set after some statements, one behind the other, or the first refusal within them
abbrev pub flows_of : Tables → ℕ → List ℕ → Vars → Result Vars TypeError
flows_of u m [] G = Ok G
flows_of u m (i ∷ is) G = flow_then (flow_of u m i G) (λ H. flows_of u m is H)

-- the refusal, or else that of what comes last
abbrev pub refusal_then : Result Vars TypeError → (Vars → Option TypeError) → Option TypeError
refusal_then (Ok H) last = last H
refusal_then (Err e) last = Some e
