-- The law `places`: the entries of a statement of a method, with what is hidden at its place, stand among those of the method.
pub mod Holders
pub mod Stretches
use Rattle.std.proofs.Common.{◌≡◌, ℕ, zero, suc, ◌<◌, true, List, [], ◌∷◌, length, Some, refl, sym, ◌∙◌, ap, subst, arith}
use Rattle.std.specs.Prelude.{Contains, nat_eq, slice_get, get_or}
use Rattle.std.proofs.lemmas.Bool.{eq-eqb, or_left, or_right}
use Rattle.std.proofs.lemmas.Option.{get_or_from_slice_get}
use Rattle.perm_tree.specs.declared.ast.ClassDecl.{ClassDecl}
use Rattle.perm_tree.specs.declared.ast.Method.{Method}
use Rattle.perm_tree.specs.declared.unit.MethodTable.{MethodTable}
use Rattle.perm_tree.specs.declared.unit.VarInfo.{VarInfo}
use Rattle.perm_tree.specs.Code.{Code, End, Return, Routine}
use Rattle.perm_tree.specs.CodeNames.{setting, argument}
use Rattle.perm_tree.specs.CodeOf.{stmt_code, routine, code_of}
use Rattle.perm_tree.specs.Resolves.{IsResolved}
use Rattle.perm_tree.specs.UnitTables.{Tables}
use Rattle.perm_tree.specs.Vars.{those}
use Rattle.perm_tree.proofs.MethodMarks.{method-class}
use Rattle.perm_tree.proofs.TableLaws.{AllMethods, HasTable, IsTable, tables_of-methods, routine-table}
use Rattle.perm_tree.specs.InBody.{vars_if, vars_at, places_with, all_within, body_if, method_if, IsStmtOf}
use Rattle.perm_rules.specs.AtPlace.{no_routine, routine_at, hidden_by, context_at, stmt_code_at}
use Rattle.perm_rules.specs.FirstRefused.{entries}
use Rattle.perm_rules.specs.Goes.{hiding, context, first_live}
use Rattle.perm_rules.specs.Laws.{HasStretch, PlaceContext}
use Rattle.perm_tree.proofs.StandOnce.{holders-same, body-unheld, those-contained}
use Rattle.perm_rules.proofs.Hiding.Holders.{hidden-in-body}
use Rattle.perm_tree.proofs.HeldStatements.{inner-below}
use Rattle.perm_rules.proofs.Hiding.Stretches.{body-holds}

-- the same of a method by its table
table-stretch : (u : Tables) (at : ℕ) (t : MethodTable) (d : Method) → IsResolved u → IsTable u.program t d → those (places_with (all_within u.program.stmts) d.body.stmts) at ≡ true
    → HasStretch (hiding (hidden_by t.vars at (all_within u.program.stmts) u.program.stmts) (context (code_of u) (routine u t d))) (stmt_code (setting u t.vars) at End)
    (entries (context (code_of u) (routine u t d)) (routine u t d).code (first_live (routine u t d)))
table-stretch u at t d is table e =
    body-holds (setting u t.vars) (context (code_of u) (routine u t d)) is.formed.placed (holders-same u.program is.formed.orderly.once)
    d.body.stmts (Return d.span (argument (setting u t.vars) d.back)) (first_live (routine u t d)) at
    (is.formed.placed.bodies t.class class.0 class.1 t.«method» d class.2).0
    (λ i f. hidden-in-body u.program.stmts (λ j s here. inner-below (length u.program.exprs) j s.kind (is.formed.placed.stmts j s here)) (holders-same u.program is.formed.orderly.once) t.vars i
    (λ j s. body-unheld u.program is.formed.orderly.once t.class t.«method» class.0 d i class.1 class.2 f j s))
    e
  where
    class : (c : ClassDecl) × (slice_get u.program.classes t.class ≡ Some c) × (slice_get c.methods t.«method» ≡ Some d)
    class = method-class u t d table.0

pub place-context : PlaceContext
place-context u m at r is here stands = by-table (routine-table u u.tables m r (subst (AllMethods u.program) (sym is.tables) (tables_of-methods u.program)) here)
  where
    by-table : HasTable u u.tables m r → HasStretch (context_at u m at) (stmt_code_at u m at) (entries (context (code_of u) r) r.code (first_live r))
    by-table (t, d, there, table, same) =
        subst (λ (q : Routine). HasStretch (hiding (hidden_by (vars_at u m) at (all_within u.program.stmts) u.program.stmts) (context (code_of u) q)) (stmt_code (setting u (vars_at u m)) at End) (entries (context (code_of u) r) r.code (first_live r)))
        (sym (get_or_from_slice_get (code_of u).routines m r no_routine here))
        (subst (λ (vs : List VarInfo). HasStretch (hiding (hidden_by vs at (all_within u.program.stmts) u.program.stmts) (context (code_of u) r)) (stmt_code (setting u vs) at End) (entries (context (code_of u) r) r.code (first_live r)))
        (sym (ap vars_if there))
        (subst (λ (q : Routine). HasStretch (hiding (hidden_by t.vars at (all_within u.program.stmts) u.program.stmts) (context (code_of u) q)) (stmt_code (setting u t.vars) at End) (entries (context (code_of u) q) q.code (first_live q)))
        same
        (table-stretch u at t d is table
        (those-contained (places_with (all_within u.program.stmts) d.body.stmts) at
        (subst (λ (is : List ℕ). Contains (places_with (all_within u.program.stmts) is) at) (ap (λ o. body_if (method_if u o)) there ∙ ap body_if table.0) stands)))))
