-- Statements and blocks named by their places, by computation.
use Rattle.std.specs.Prelude.{◌≡◌, ℕ, Bool, true, false, ◌&&◌, nat_le, List, [], ◌∷◌, ◌++◌, map, Option, Some, None, slice_get, refl, Result, Ok, Err}
use Rattle.perm_tree.specs.declared.ast.Block.{Block}
use Rattle.perm_tree.specs.declared.ast.Stmt.{Stmt}
use Rattle.perm_tree.specs.declared.ast.Ty.TheVariants.{Long}
use Rattle.perm_tree.specs.declared.errors.TypeKind.{TypeKind}
use Rattle.perm_tree.specs.declared.errors.TypeKind.TheVariants.{Gone, Hidden, ParShared, ParPermission}
use Rattle.perm_tree.specs.declared.errors.TypeError.{TypeError}
use Rattle.perm_tree.specs.declared.unit.MethodTable.{MethodTable}
use Rattle.perm_tree.specs.declared.unit.VarInfo.{VarInfo}
use Rattle.perm_tree.specs.CodeOf.{code_of}
use Rattle.perm_tree.specs.UnitTables.{Tables}
use Rattle.perm_tree.specs.Vars.{Vars, below}
use Rattle.perm_tree.proofs.Builder.{truth, assign, consumed, if_only}
use Rattle.perm_tree.proofs.Programs.{unit, p1, p6}
use Rattle.perm_tree.proofs.ParPrograms.{p4, p4_both, p11, p11_shared}
use Rattle.perm_rules.specs.declared.ParMode.{ParMode}
use Rattle.perm_rules.specs.declared.ParMode.TheVariants.{Symmetric, LeftAlone}
use Rattle.perm_rules.specs.AtPlace.{routine_at, flow_of, flows_of, par_mode_of, plain_mode_of, uses_of, sets_of, effect_of, whole_effect_of}
use Rattle.perm_rules.specs.FirstRefused.{entries}
use Rattle.perm_rules.specs.Goes.{context, first_live}
use Rattle.perm_tree.specs.InBody.{body_places}
use Rattle.perm_rules.proofs.Examples.Kinds.{with_lines}

-- the first six variables, each as whether it is in a set
abbrev first_six : Vars → List Bool
first_six G = map G (0 ∷ 1 ∷ 2 ∷ 3 ∷ 4 ∷ 5 ∷ [])

pub data Flow : Type 0 where
  GoesTo : (live : List Bool) → Flow
  StopsAt : (k : TypeKind) → Flow
  NoStmt : Flow

abbrev flow_shown : Result Vars TypeError → Flow
flow_shown (Ok G) = GoesTo (first_six G)
flow_shown (Err e) = StopsAt e.kind

abbrev flow_if : Tables → ℕ → ℕ → Option Stmt → Vars → Flow
flow_if u m at None G = NoStmt
flow_if u m at (Some s) G = flow_shown (flow_of u m at G)

-- the flow of the statement at a place of the method with number m
abbrev pub flow : Tables → ℕ → ℕ → Vars → Flow
flow u m at G = flow_if u m at (slice_get u.program.stmts at) G

-- `w.other = r;` within a recover block that hides r
hidden-field-refused : flow (unit p6) 0 3 (below 6) ≡ StopsAt Hidden
hidden-field-refused = refl

-- `readable Box r = consume a;` makes variable 3 live, and variable 2 no longer
consumes : flow (unit p6) 0 1 (below 3) ≡ GoesTo (true ∷ true ∷ false ∷ true ∷ false ∷ false ∷ [])
consumes = refl

-- the same from a set without variable 2
consumes-gone : flow (unit p6) 0 1 (below 2) ≡ StopsAt Gone
consumes-gone = refl

-- the statements of the body of `Run`, one behind the other: of p6 the recover block is refused, and p11 goes on with all its variables
p6-body : flow_shown (flows_of (unit p6) 0 (0 ∷ 1 ∷ 4 ∷ []) (below 2)) ≡ StopsAt Hidden
p6-body = refl

p11-body : flow_shown (flows_of (unit p11) 0 (0 ∷ 1 ∷ 4 ∷ 5 ∷ []) (below 2)) ≡ GoesTo (true ∷ true ∷ true ∷ true ∷ false ∷ false ∷ [])
p11-body = refl

-- a place that isn't there changes nothing
nowhere : flow_shown (flows_of (unit p11) 0 (99 ∷ []) (below 2)) ≡ GoesTo (true ∷ true ∷ false ∷ false ∷ false ∷ false ∷ [])
nowhere = refl

abbrev mode : Tables → ℕ → List ℕ → List ℕ → Result ParMode TypeKind
mode u m a b = par_mode_of u m (record { stmts = a }) (record { stmts = b })

-- `a = 1;` beside `b = 2;`
numbers-symmetric : mode (unit p11) 0 (2 ∷ []) (3 ∷ []) ≡ Ok Symmetric
numbers-symmetric = refl

-- `a = 1;` beside `a = 2;`
numbers-shared : mode (unit p11_shared) 0 (2 ∷ []) (3 ∷ []) ≡ Err ParShared
numbers-shared = refl

-- `got = d.Bump();`, which lends d, beside `this.mark = 5;`
lends-left-alone : mode (unit p4) 1 (6 ∷ []) (7 ∷ []) ≡ Ok LeftAlone
lends-left-alone = refl

-- `this.mark = 4;` beside `this.mark = 5;`
marks-permission : mode (unit p4_both) 1 (6 ∷ []) (7 ∷ []) ≡ Err ParPermission
marks-permission = refl

-- the same by what the blocks assign and consume alone
abbrev plain_mode : Tables → ℕ → List ℕ → List ℕ → Result ParMode TypeKind
plain_mode u m a b = plain_mode_of u m (record { stmts = a }) (record { stmts = b })

plain-modes :
    (plain_mode (unit p11) 0 (2 ∷ []) (3 ∷ []) ∷ plain_mode (unit p11_shared) 0 (2 ∷ []) (3 ∷ []) ∷ plain_mode (unit p4) 1 (6 ∷ []) (7 ∷ []) ∷ plain_mode (unit p4_both) 1 (6 ∷ []) (7 ∷ []) ∷ [])
    ≡ Ok Symmetric ∷ Err ParShared ∷ Ok LeftAlone ∷ Err ParPermission ∷ []
plain-modes = refl

-- `long a = p.x;` beside `print a + b;`, which are no par: a is declared by the one and stands in the other, and so the two tests differ
no-par : mode (unit p1) 0 (3 ∷ []) (5 ∷ []) ≡ Err ParShared
no-par = refl

no-par-plain : plain_mode (unit p1) 0 (3 ∷ []) (5 ∷ []) ≡ Ok Symmetric
no-par-plain = refl

-- `got = d.Bump();` mentions d and got, and assigns got
bump-uses : first_six (uses_of (unit p4) 1 (record { stmts = 6 ∷ [] })) ≡ false ∷ false ∷ false ∷ true ∷ true ∷ false ∷ []
bump-uses = refl

bump-sets : first_six (sets_of (unit p4) 1 (record { stmts = 6 ∷ [] })) ≡ false ∷ false ∷ false ∷ false ∷ true ∷ false ∷ []
bump-sets = refl

-- the body of `Run`, where the two statements of the par stand before it
bodies : map (body_places (unit p4)) (0 ∷ 1 ∷ 2 ∷ []) ≡ (0 ∷ 1 ∷ []) ∷ (2 ∷ 3 ∷ 4 ∷ 5 ∷ 8 ∷ 6 ∷ 7 ∷ 9 ∷ 10 ∷ []) ∷ [] ∷ []
bodies = refl

-- ---------- effects of blocks ----------
-- `got = d.Bump();` makes got and loses nothing
bump-made : first_six (effect_of (unit p4) 1 (record { stmts = 6 ∷ [] })).made ≡ false ∷ false ∷ false ∷ false ∷ true ∷ false ∷ []
bump-made = refl

bump-lost : first_six (effect_of (unit p4) 1 (record { stmts = 6 ∷ [] })).lost ≡ false ∷ false ∷ false ∷ false ∷ false ∷ false ∷ []
bump-lost = refl

-- `Run` has the five variables this, input, b, f and w, and in a block `f = consume none;` of a name that isn't known
abbrev lost_name : Tables
lost_name = unit (with_lines (if_only (truth true) (assign "f" (consumed "none") ∷ []) ∷ []))

abbrev lost_block : Block
lost_block = record { stmts = 4 ∷ [] }

-- it makes f, and loses no variable
unknown-made : first_six (effect_of lost_name 4 lost_block).made ≡ false ∷ false ∷ false ∷ true ∷ false ∷ false ∷ []
unknown-made = refl

unknown-lost : first_six (effect_of lost_name 4 lost_block).lost ≡ false ∷ false ∷ false ∷ false ∷ false ∷ false ∷ []
unknown-lost = refl

-- the whole effect loses the number past the last, which is no variable
unknown-lost-whole : first_six (whole_effect_of lost_name 4 lost_block).lost ≡ false ∷ false ∷ false ∷ false ∷ false ∷ true ∷ []
unknown-lost-whole = refl

-- a method with 256 variables, none of which has a name of the program
abbrev doubled : List VarInfo → List VarInfo
doubled vs = vs ++ vs

abbrev many : List VarInfo
many =
    doubled (doubled (doubled (doubled (doubled (doubled (doubled (doubled (
    record { name = 1000; ty = Long; declared = record { start = 0; end = 0 }; scope = record { start = 0; end = 0 } } ∷ []))))))))

abbrev filled : Tables
filled = record lost_name { tables = map (λ (t : MethodTable). record t { vars = many }) lost_name.tables }

-- whole it makes the number 256, which no set of variables holds
full-whole : ((whole_effect_of filled 4 lost_block).lost 256 ∷ (whole_effect_of filled 4 lost_block).made 256 ∷ []) ≡ false ∷ true ∷ []
full-whole = refl

full-known : ((effect_of filled 4 lost_block).lost 256 ∷ (effect_of filled 4 lost_block).made 256 ∷ []) ≡ false ∷ false ∷ []
full-known = refl

-- of a method that isn't there no variable is made
no-method-made : first_six (effect_of lost_name 9 lost_block).made ≡ false ∷ false ∷ false ∷ false ∷ false ∷ false ∷ []
no-method-made = refl

-- ---------- the order of parts ----------
-- where the parts of a method end, in the order in which they are looked at
abbrev ends_in : Tables → ℕ → List ℕ
ends_in u m = map (λ e. e.at.end) (entries (context (code_of u) (routine_at u m)) (routine_at u m).code (first_live (routine_at u m)))

abbrev sorted : List ℕ → Bool
sorted [] = true
sorted (x ∷ []) = true
sorted (x ∷ y ∷ ys) = nat_le x y && sorted (y ∷ ys)

-- of `Run`: four statements, the head of the par, one statement in each of its blocks, and what comes behind it
ends-in-order : sorted (ends_in (unit p4) 1) ≡ true
ends-in-order = refl
