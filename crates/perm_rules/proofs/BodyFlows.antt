-- The first refused part of a method is that of the statements of its body, by their places and one behind the other, or its `return`.
use Rattle.std.proofs.Common.{◌≡◌, ℕ, true, List, [], ◌∷◌, length, Option, Some, None, Ok, refl, sym, ◌∙◌, ap, subst}
use Rattle.std.specs.Prelude.{nat_eq, slice_get, Result}
use Rattle.std.proofs.lemmas.Bool.{eq-eqb, or_left, or_right}
use Rattle.std.proofs.lemmas.Option.{get_or_from_slice_get}
use Rattle.perm_tree.specs.declared.ast.ClassDecl.{ClassDecl}
use Rattle.perm_tree.specs.declared.ast.Method.{Method}
use Rattle.perm_tree.specs.declared.ast.Stmt.{Stmt}
use Rattle.perm_tree.specs.declared.errors.TypeError.{TypeError}
use Rattle.perm_tree.specs.declared.unit.VarInfo.{VarInfo}
use Rattle.perm_tree.specs.Code.{Code, End, Return, Routine}
use Rattle.perm_tree.specs.CodeNames.{Setting, setting, argument}
use Rattle.perm_tree.specs.CodeOf.{stmt_code, block_code, code_of}
use Rattle.perm_tree.specs.Places.{AllBelow, IsPlaced}
use Rattle.perm_tree.specs.UnitTables.{Tables}
use Rattle.perm_tree.specs.Vars.{Vars, those}
use Rattle.perm_tree.proofs.MethodMarks.{method-class}
use Rattle.perm_tree.proofs.TableLaws.{AllMethods, HasTable, tables_of-methods, routine-table}
use Rattle.perm_tree.specs.InBody.{vars_if, vars_at, setting_at, method_if, method_at}
use Rattle.perm_rules.specs.AtPlace.{no_routine, hidden_at, context_at, flow_unless, flow_then, flows_of, refusal_then}
use Rattle.perm_rules.specs.Effects.{changed, effect}
use Rattle.perm_rules.specs.FirstRefused.{entries, first_error, first_refused, or_later, method_refusal}
use Rattle.perm_rules.specs.Goes.{hiding, context, first_live}
use Rattle.perm_rules.specs.Laws.{RefusedByBody}
use Rattle.perm_rules.specs.Parts.{Context}
use Rattle.perm_rules.proofs.Refusals.ErrorLists.{first_error-append}
use Rattle.perm_tree.proofs.StandOnce.{holders-same, body-unheld}
use Rattle.perm_tree.proofs.HeldStatements.{element-there, inner-below}
use Rattle.perm_rules.proofs.Hiding.Holders.{hidden-in-body}
use Rattle.perm_rules.proofs.Hiding.Stretches.{Splits, stmt-splits}

-- ---------- statements that are checked by one context ----------
module _ (k : Setting) (placed : IsPlaced k.tables.program) (c : Context) where
  abbrev flow : ℕ → Vars → Result Vars TypeError
  flow i G = flow_unless (first_refused c (stmt_code k i End) G) (changed (effect (stmt_code k i End)) G)

  abbrev pub flows : List ℕ → Vars → Result Vars TypeError
  flows [] G = Ok G
  flows (i ∷ is) G = flow_then (flow i G) (λ H. flows is H)

  -- the first refusal of a block is that of its statements, one behind the other, or of what comes last
  pub block-refusal : (is : List ℕ) (last : Code) (G : Vars) → AllBelow (length k.tables.program.stmts) is → first_refused c (block_code k is last) G ≡ refusal_then (flows is G) (λ H. first_refused c last H)
  block-refusal [] last G below = refl
  block-refusal (i ∷ is) last G below = go (element-there k.tables.program.stmts i below.0) (λ H. block-refusal is last H below.1)
    where
      after : Vars
      after = changed (effect (stmt_code k i End)) G

      by-first : (o : Option TypeError) → first_refused c (block_code k is last) after ≡ refusal_then (flows is after) (λ H. first_refused c last H)
          → or_later o (first_refused c (block_code k is last) after) ≡ refusal_then (flow_then (flow_unless o after) (λ H. flows is H)) (λ H. first_refused c last H)
      by-first None later = later
      by-first (Some e) later = refl

      go : (s : Stmt) × (slice_get k.tables.program.stmts i ≡ Some s) → ((H : Vars) → first_refused c (block_code k is last) H ≡ refusal_then (flows is H) (λ H. first_refused c last H))
          → first_refused c (block_code k (i ∷ is) last) G ≡ refusal_then (flows (i ∷ is) G) (λ H. first_refused c last H)
      go (s, here) later = on (stmt-splits k placed c i s G here)
        where
          on : Splits c (stmt_code k i) G → first_refused c (block_code k (i ∷ is) last) G ≡ refusal_then (flows (i ∷ is) G) (λ H. first_refused c last H)
          on (K, left, splits) =
              ap first_error (splits (block_code k is last))
              ∙ (first_error-append (entries c (stmt_code k i End) G) (entries c (block_code k is last) K)
              ∙ (ap (λ (H : Vars). or_later (first_refused c (stmt_code k i End) G) (first_refused c (block_code k is last) H)) left
              ∙ by-first (first_refused c (stmt_code k i End) G) (later after)))

-- ---------- bodies ----------
-- the flow of some statements at whose places one context is told
same-flows : (u : Tables) (m : ℕ) (c : Context) (placed : IsPlaced u.program) (is : List ℕ) (G : Vars) → ((i : ℕ) → those is i ≡ true → context_at u m i ≡ c) → flows_of u m is G ≡ flows (setting_at u m) placed c is G
same-flows u m c placed [] G same = refl
same-flows u m c placed (i ∷ is) G same =
    ap (λ (d : Context). flow_then (flow_unless (first_refused d (stmt_code (setting_at u m) i End) G) (changed (effect (stmt_code (setting_at u m) i End)) G)) (λ H. flows_of u m is H)) (same i (or_left (nat_eq i i) (those is i) (eq-eqb i i refl)))
    ∙ later (first_refused c (stmt_code (setting_at u m) i End) G) (λ H. same-flows u m c placed is H (λ j f. same j (or_right (nat_eq j i) (those is j) f)))
  where
    after : Vars
    after = changed (effect (stmt_code (setting_at u m) i End)) G

    later : (o : Option TypeError) → ((H : Vars) → flows_of u m is H ≡ flows (setting_at u m) placed c is H) → flow_then (flow_unless o after) (λ H. flows_of u m is H) ≡ flow_then (flow_unless o after) (λ H. flows (setting_at u m) placed c is H)
    later None all = all after
    later (Some e) all = refl

pub refused-by-body : RefusedByBody
refused-by-body u m r d is here there = by-table (routine-table u u.tables m r (subst (AllMethods u.program) (sym is.tables) (tables_of-methods u.program)) here)
  where
    by-table : HasTable u u.tables m r → method_refusal (code_of u) r ≡ refusal_then (flows_of u m d.body.stmts (first_live r)) (λ H. first_refused (context (code_of u) r) (Return d.span (argument (setting_at u m) d.back)) H)
    by-table (t, e, table, isit, same) =
        ap (λ a. first_refused c a (first_live r)) code
        ∙ (block-refusal (setting_at u m) is.formed.placed c d.body.stmts (Return d.span (argument (setting_at u m) d.back)) (first_live r) (is.formed.placed.bodies t.class class.0 class.1 t.«method» d class.2).0
        ∙ ap (λ o. refusal_then o (λ H. first_refused c (Return d.span (argument (setting_at u m) d.back)) H)) (sym (same-flows u m c is.formed.placed d.body.stmts (first_live r) told)))
      where
        c : Context
        c = context (code_of u) r

        found : method_at u m ≡ Some e
        found = ap (method_if u) table ∙ isit.0

        equal : e ≡ d
        equal = cc (found, there)

        class : (b : ClassDecl) × (slice_get u.program.classes t.class ≡ Some b) × (slice_get b.methods t.«method» ≡ Some d)
        class = method-class u t d (isit.0 ∙ ap Some equal)

        vars : vars_at u m ≡ t.vars
        vars = ap vars_if table

        code : r.code ≡ block_code (setting_at u m) d.body.stmts (Return d.span (argument (setting_at u m) d.back))
        code =
            ap (λ (q : Routine). q.code) (sym same)
            ∙ (ap (λ (f : Method). block_code (setting u t.vars) f.body.stmts (Return f.span (argument (setting u t.vars) f.back))) equal
            ∙ ap (λ (vs : List VarInfo). block_code (setting u vs) d.body.stmts (Return d.span (argument (setting u vs) d.back))) (sym vars))

        told : (i : ℕ) → those d.body.stmts i ≡ true → context_at u m i ≡ context (code_of u) r
        told i f =
            ap (λ (q : Routine). hiding (hidden_at u m i) (context (code_of u) q)) (get_or_from_slice_get (code_of u).routines m r no_routine here)
            ∙ ap (λ (hs : List ℕ). hiding hs (context (code_of u) r))
            (hidden-in-body u.program.stmts (λ j s at. inner-below (length u.program.exprs) j s.kind (is.formed.placed.stmts j s at)) (holders-same u.program is.formed.orderly.once) (vars_at u m) i
            (λ j s. body-unheld u.program is.formed.orderly.once t.class t.«method» class.0 d i class.1 class.2 f j s))
