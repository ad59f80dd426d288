-- The law `pars`: in each par of a resolved unit the two blocks share nothing that one of them only declares; and the code of each method is rightly scoped.
pub mod Scoped
pub mod Beginnings
pub mod Locals
pub mod StandingTerms
pub mod CodeWalks
pub mod OwnVariables
pub mod Tellings
pub mod Blocks
pub mod RightSides
pub mod KindsOfStatements
pub mod AllStatements
use Rattle.std.proofs.Common.{◌≡◌, ℕ, zero, suc, ◌+◌, ◌<◌, ◌≤◌, true, List, [], ◌∷◌, ◌++◌, length, Some, refl, sym, ap, subst, arith, ◌∙◌, le_refl, inl, inr}
use Rattle.std.specs.Prelude.{All, ◌⊎◌, map, option_map, slice_get}
use Rattle.std.proofs.lemmas.List.Elements.{All-get_or}
use Rattle.std.proofs.lemmas.Option.{get_or_from_slice_get, slice_get-map, slice_get_within}
use Rattle.perm_tree.specs.declared.ast.FieldDecl.{FieldDecl}
use Rattle.perm_tree.specs.declared.ast.Method.{Method}
use Rattle.perm_tree.specs.declared.ast.Stmt.{Stmt}
use Rattle.perm_tree.specs.declared.unit.MethodTable.{MethodTable}
use Rattle.perm_tree.specs.declared.unit.VarInfo.{VarInfo}
use Rattle.perm_tree.specs.Code.{Return, Routine}
use Rattle.perm_tree.specs.CodeNames.{Setting, setting, argument}
use Rattle.perm_tree.specs.CodeOf.{codes_of, routine, code_of}
use Rattle.perm_tree.specs.Nesting.{IsInScope, AreNested}
use Rattle.perm_tree.specs.Places.{AllBelow}
use Rattle.perm_tree.specs.Resolves.{IsResolved, unmentioned}
use Rattle.perm_tree.specs.Scopes.{all_inner, block_end, block_vars, this_var, param_var}
use Rattle.perm_tree.specs.TextOrder.{Mark, ends, IsRising, Marks, all_expr_marks, arg_marks, block_marks, all_stmt_marks, params_marks}
use Rattle.perm_tree.specs.UnitTables.{Tables}
use Rattle.perm_tree.specs.Vars.{below}
use Rattle.perm_tree.proofs.AcceptedNames.{names_refusal-accepted}
use Rattle.perm_tree.proofs.MethodMarks.{IsResolved-method}
use Rattle.perm_tree.proofs.Nested.{IsResolved-nested}
use Rattle.perm_tree.proofs.Passing.{exprs-pass, arg-passes}
use Rattle.perm_tree.proofs.ResolvedLaws.{ident}
use Rattle.perm_tree.proofs.TableLaws.{AllMethods, HasTable, IsTable, tables_of-methods, routine-table}
use Rattle.perm_rules.specs.Goes.{context, first_live}
use Rattle.perm_rules.specs.Parts.{Context}
use Rattle.perm_rules.specs.Sharing.{AllSharePlainly}
use Rattle.perm_rules.specs.Scoping.{is_scoped}
use Rattle.perm_rules.proofs.Pars.Beginnings.{IsAmong, among-append, among-none, AreAll, AllBegin, AllEarly}
use Rattle.perm_rules.proofs.Pars.Locals.{locals}
use Rattle.perm_rules.proofs.Pars.Scoped.{AreApart, AllHad, had-behind}
use Rattle.perm_rules.proofs.Pars.StandingTerms.{AllTermsStand, exprs-stand}
use Rattle.perm_rules.proofs.Pars.OwnVariables.{MethodFacts}
use Rattle.perm_rules.proofs.Pars.Tellings.{IsTold, Earlier}
use Rattle.perm_rules.proofs.Pars.Blocks.{block-told}
use Rattle.perm_rules.proofs.Pars.AllStatements.{all-told}

-- what holds of all elements holds of each
all-at : {X : Type 0} (P : X → Type 0) (xs : List X) (i : ℕ) (x : X) → All P xs → slice_get xs i ≡ Some x → P x
all-at P xs i x all here = subst P (get_or_from_slice_get xs i x x here) (All-get_or P xs i x (slice_get_within xs i x here) all)

-- ---------- names ----------
ident-at : (vars : List VarInfo) (a : ℕ) (v : VarInfo) → slice_get vars a ≡ Some v → slice_get (map ident vars) a ≡ Some (ident v)
ident-at vars a v here = slice_get-map ident vars a ∙ ap (option_map ident) here

-- no two variables of a method of a resolved unit have one name
apart-names : (u : Tables) (at : ℕ) (t : MethodTable) → IsResolved u → slice_get u.tables at ≡ Some t → AreApart t.vars
apart-names u at t is here a b v w first second same =
    (names_refusal-accepted (unmentioned u.program) is.accepted).variables
    at
    t
    (subst (λ (ts : List MethodTable). slice_get ts at ≡ Some t) is.tables here)
    a
    b
    (ident v)
    (ident w)
    (ident-at t.vars a v first)
    (ident-at t.vars b w second)
    same

-- ---------- parameters ----------
-- some declarations are named before a place
abbrev AllBefore : ℕ → List FieldDecl → Type 0
AllBefore from [] = Unit {0}
AllBefore from (f ∷ fs) = (f.name.span.start < from) × AllBefore from fs

-- behind the marks of the parameters there is such a place
pub record Behind (lo : ℕ) (fs : List FieldDecl) (rest : List Mark) : Type 0 where
  pub from : ℕ
  pub low : lo ≤ from
  pub all : AllBefore from fs
  pub rise : IsRising from rest

params-behind : (lo : ℕ) (fs : List FieldDecl) (rest : List Mark) → IsRising lo (params_marks fs rest) → Behind lo fs rest
params-behind lo [] rest rise = record { from = lo; low = le_refl lo; all = tt; rise = rise }
params-behind lo (f ∷ fs) rest rise = let low : lo ≤ f.name.span.start = rise.0 in one low (params-behind (suc f.name.span.start) fs rest rise.1)
  where
    one : lo ≤ f.name.span.start → Behind (suc f.name.span.start) fs rest → Behind lo (f ∷ fs) rest
    one low is = let room : suc f.name.span.start ≤ is.from = is.low in record { from = is.from; low = omega arith; all = (omega arith, is.all); rise = is.rise }

param-before : (d : Method) (from : ℕ) (fs : List FieldDecl) (v : VarInfo) → AllBefore from fs → IsAmong v (map (param_var d) fs) → (v.declared.start < from) × (v.scope.start ≡ d.name.span.start)
param-before d from [] v all at = absurd (among-none v at)
param-before d from (f ∷ fs) v all (zero, here) = let same : param_var d f ≡ v = cc here in subst (λ (w : VarInfo). (w.declared.start < from) × (w.scope.start ≡ d.name.span.start)) same (all.0, refl)
param-before d from (f ∷ fs) v all (suc z, here) = param-before d from fs v all.1 (z, here)

params-first : (d : Method) (fs : List FieldDecl) (ws : List VarInfo) (y : ℕ) (v : VarInfo) → below (length (map (λ f. f.ty) fs)) y ≡ true → slice_get (map (param_var d) fs ++ ws) y ≡ Some v → v.scope.start ≡ d.name.span.start
params-first d [] ws y v e here = absurd (let no : ⊥ = cc e in no)
params-first d (f ∷ fs) ws zero v e here = let same : param_var d f ≡ v = cc here in subst (λ (w : VarInfo). w.scope.start ≡ d.name.span.start) same refl
params-first d (f ∷ fs) ws (suc y) v e here = params-first d fs ws y v e here

-- the code of a method shares plainly in each par, and is rightly scoped
pub record CodeTold (u : Tables) (r : Routine) : Type 0 where
  pub shares : AllSharePlainly (context (code_of u) r) r.code
  pub scoped : is_scoped (context (code_of u) r) r.code (first_live r) ≡ true

-- ---------- methods ----------
module _ (u : Tables) (t : MethodTable) (d : Method) (is : IsResolved u) (apart : AreApart t.vars) (table : IsTable u.program t d) (others : List Mark) where
  abbrev stmts : List Stmt
  stmts = u.program.stmts

  abbrev exprs : List Marks
  exprs = all_expr_marks u.program.exprs

  abbrev marks : List Marks
  marks = all_stmt_marks u.program.exprs stmts

  abbrev k : Setting
  k = setting u t.vars

  abbrev c : Context
  c = context (code_of u) (routine u t d)

  abbrev back : List Mark
  back = arg_marks exprs d.back (ends d.span.end ∷ others)

  terms : AllTermsStand k.vars exprs k.terms
  terms = exprs-stand k.vars [] [] u.program.exprs tt

  -- the variables of the body are those of the method
  had : AllHad t.vars (block_vars stmts (all_inner stmts) d.span.end d.body.stmts)
  had =
      subst
      (λ (vs : List VarInfo). AllHad vs (block_vars stmts (all_inner stmts) d.span.end d.body.stmts))
      (sym table.1)
      (had-behind (this_var t.class d ∷ map (param_var d) d.params) (block_vars stmts (all_inner stmts) d.span.end d.body.stmts))

  abbrev body : List VarInfo
  body = block_vars stmts (all_inner stmts) d.span.end d.body.stmts

  -- a variable of the method is `this` or a parameter, whose scopes begin with its name, or one of its body
  pub record IsOuter (from : ℕ) (v : VarInfo) : Type 0 where
    pub begins : v.scope.start ≡ d.name.span.start
    pub declared : v.declared.start < from

  parts : (from : ℕ) → suc d.name.span.start ≤ from → AllBefore from d.params → (x : ℕ) (v : VarInfo) → slice_get k.vars x ≡ Some v → IsOuter from v ⊎ IsAmong v body
  parts from low all x v here = at x (subst (λ (vs : List VarInfo). slice_get vs x ≡ Some v) table.1 here)
    where
      behind : IsAmong v (map (param_var d) d.params) ⊎ IsAmong v body → IsOuter from v ⊎ IsAmong v body
      behind (inl i) = let both = param-before d from d.params v all i in inl (record { begins = both.1; declared = both.0 })
      behind (inr i) = inr i

      at : (y : ℕ) → slice_get (this_var t.class d ∷ (map (param_var d) d.params ++ body)) y ≡ Some v → IsOuter from v ⊎ IsAmong v body
      at zero e = let same : this_var t.class d ≡ v = cc e in inl (subst (IsOuter from) same (record { begins = refl; declared = low }))
      at (suc y) e = behind (among-append v (map (param_var d) d.params) body (y, e))

  module _ (nested : AreNested t.vars) (from : ℕ) (low : suc d.name.span.start ≤ from) (all : AllBefore from d.params) where
    early : AllEarly from k.vars
    early x v here = record { known = (all-at IsInScope t.vars x v nested.within here).0; early = pick (parts from low all x v here) }
      where
        pick : IsOuter from v ⊎ IsAmong v body → (v.declared.start ≤ v.scope.start) ⊎ (v.declared.start < from)
        pick (inl outer) = inr outer.declared
        pick (inr i) = let same : v.declared.start ≡ v.scope.start = locals stmts d.span.end d.body.stmts v i in inl (omega arith)

    abbrev facts : MethodFacts
    facts = record { setting = k; context = c; exprs = exprs; base = from; types = refl; apart = apart; early = early; terms = terms }

    told : (at : ℕ) → at < length stmts → IsTold facts marks (codes_of k) (all_inner stmts) at
    told at within =
        all-told facts (length u.program.exprs) is.formed.placed.stmts [] [] [] stmts refl refl
        (λ j s q. subst (λ n. slice_get stmts n ≡ Some s) (omega arith) q)
        (λ j none. absurd (omega arith))
        at
        (omega arith)

    abbrev every : Earlier
    every = record { facts = facts; marks = marks; codes = codes_of k; inner = all_inner stmts; count = length stmts; told = told }

    -- what is live at the start begins before the body
    first-begins : AllBegin k.vars from (first_live (routine u t d))
    first-begins x e v here = let begins : v.scope.start ≡ d.name.span.start = at x e (subst (λ (vs : List VarInfo). slice_get vs x ≡ Some v) table.1 here) in omega arith
      where
        at : (y : ℕ) → below (1 + length (map (λ f. f.ty) d.params)) y ≡ true → slice_get (this_var t.class d ∷ (map (param_var d) d.params ++ body)) y ≡ Some v → v.scope.start ≡ d.name.span.start
        at zero f q = let same : this_var t.class d ≡ v = cc q in subst (λ (w : VarInfo). w.scope.start ≡ d.name.span.start) same refl
        at (suc y) f q =
            let next : 1 + length (map (λ f. f.ty) d.params) ≡ suc (length (map (λ f. f.ty) d.params)) = omega arith in
            params-first d d.params body y v (subst (λ n. below n (suc y) ≡ true) next f) q

    method-tells : IsRising from (block_marks marks d.body.stmts back) → AllBelow (length stmts) d.body.stmts → CodeTold u (routine u t d)
    method-tells rise below =
        let body_told = block-told every from d.body.stmts back below (le_refl from) rise in
        let last = block_end stmts from d.body.stmts in
        let end : IsRising last (ends d.span.end ∷ others) = arg-passes exprs (exprs-pass [] u.program.exprs tt) d.back last (ends d.span.end ∷ others) body_told.rise in
        let walks = (body_told.tells d.span.end end.0 (record { had = had; all = λ y v here. whole last y v here })).walks in
        record { shares = walks.pars (Return d.span (argument k d.back)) tt; scoped = walks.scoped (Return d.span (argument k d.back)) (first_live (routine u t d)) first-begins (λ V behind. refl) }
      where
        whole : (last : ℕ) → AreAll k.vars from last body
        whole last y v here = pick (parts from low all y v here)
          where
            pick : IsOuter from v ⊎ IsAmong v body → (v.scope.start < from) ⊎ ((last ≤ v.scope.start) ⊎ IsAmong v body)
            pick (inl outer) = let begins : v.scope.start ≡ d.name.span.start = outer.begins in inl (omega arith)
            pick (inr i) = inr (inr i)

-- what the marks of a method of a resolved unit tell of its code
table-tells : (u : Tables) (at : ℕ) (t : MethodTable) (d : Method) → IsResolved u → slice_get u.tables at ≡ Some t → IsTable u.program t d
    → CodeTold u (routine u t d)
table-tells u at t d is there table =
    let «method» = IsResolved-method u t d is table.0 in
    let others = «method».1.rest in
    go others «method».0.0 (params-behind (suc d.name.span.start) d.params (block_marks (all_stmt_marks u.program.exprs u.program.stmts) d.body.stmts (arg_marks (all_expr_marks u.program.exprs) d.back (ends d.span.end ∷ others))) «method».1.rise.1)
  where
    go : (others : List Mark) → AllBelow (length u.program.stmts) d.body.stmts → Behind (suc d.name.span.start) d.params (block_marks (all_stmt_marks u.program.exprs u.program.stmts) d.body.stmts (arg_marks (all_expr_marks u.program.exprs) d.back (ends d.span.end ∷ others)))
        → CodeTold u (routine u t d)
    go others placed b = method-tells u t d is (apart-names u at t is there) table others (all-at (λ (t : MethodTable). AreNested t.vars) u.tables at t (IsResolved-nested u is) there) b.from b.low b.all b.rise placed

-- ---------- units ----------
-- so it is of the code with a number
code-tells : (u : Tables) (at : ℕ) (r : Routine) → IsResolved u → slice_get (code_of u).routines at ≡ Some r → CodeTold u r
code-tells u at r is here = by-table (routine-table u u.tables at r (subst (AllMethods u.program) (sym is.tables) (tables_of-methods u.program)) here)
  where
    by-table : HasTable u u.tables at r → CodeTold u r
    by-table (t, d, there, table, same) = subst (CodeTold u) same (table-tells u at t d is there table)

pub IsResolved-shares : (u : Tables) (at : ℕ) (r : Routine) → IsResolved u → slice_get (code_of u).routines at ≡ Some r → AllSharePlainly (context (code_of u) r) r.code
IsResolved-shares u at r is here = (code-tells u at r is here).shares

-- the code of each method of a resolved unit is rightly scoped
pub IsResolved-scoped : (u : Tables) (at : ℕ) (r : Routine) → IsResolved u → slice_get (code_of u).routines at ≡ Some r → is_scoped (context (code_of u) r) r.code (first_live r) ≡ true
IsResolved-scoped u at r is here = (code-tells u at r is here).scoped
