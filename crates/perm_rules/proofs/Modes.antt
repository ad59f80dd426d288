-- The law of modes: in each par of a unit the mode is told by what the blocks assign and consume alone.
use Rattle.std.proofs.Common.{◌≡◌, ℕ, zero, suc, ◌<◌, ◌≤◌, true, cond, List, [], ◌∷◌, ◌++◌, length, Option, Some, None, refl, sym, ap, subst, arith, get_or, inl, inr, append-nil, le_refl}
use Rattle.std.specs.Prelude.{◌⊎◌, Contains, nat_eq, slice_get}
use Rattle.std.proofs.lemmas.Bool.{eqb-true, or_cases}
use Rattle.std.proofs.lemmas.Option.{get_or_from_slice_get}
use Rattle.perm_tree.specs.declared.ast.Block.{Block}
use Rattle.perm_tree.specs.declared.ast.ClassDecl.{ClassDecl}
use Rattle.perm_tree.specs.declared.ast.Method.{Method}
use Rattle.perm_tree.specs.declared.ast.Rhs.{Rhs}
use Rattle.perm_tree.specs.declared.ast.Rhs.TheVariants.{Value, Field, TakeField as TakeRhs, Item, New, NewArray as NewArrayRhs, Call as CallRhs, Recover as RecoverRhs}
use Rattle.perm_tree.specs.declared.ast.Stmt.{Stmt}
use Rattle.perm_tree.specs.declared.ast.StmtKind.{StmtKind}
use Rattle.perm_tree.specs.declared.ast.StmtKind.TheVariants.{Declare as DeclareStmt, Assign as AssignStmt, SetField, SetItem, Call as CallStmt, Print as PrintStmt, If as IfStmt, While as WhileStmt, Par as ParStmt}
use Rattle.perm_tree.specs.declared.errors.TypeKind.{TypeKind}
use Rattle.perm_tree.specs.declared.errors.TypeKind.TheVariants.{ParShared, ParPermission}
use Rattle.perm_tree.specs.declared.unit.MethodTable.{MethodTable}
use Rattle.perm_tree.specs.declared.unit.VarInfo.{VarInfo}
use Rattle.perm_tree.specs.Blocks.{rhs_blocks, kind_blocks, block_places}
use Rattle.perm_tree.specs.Code.{Code, End, Give, Return, Routine}
use Rattle.perm_tree.specs.CodeNames.{Setting, setting, argument, var_at, own_vars}
use Rattle.perm_tree.specs.CodeOf.{assignment, kind_code, codes_of, stmt_code, block_code, routine, code_of}
use Rattle.perm_tree.specs.Lookup.{method_of}
use Rattle.perm_tree.specs.Places.{AllBelow, RhsPlaced, KindPlaced, IsPlaced}
use Rattle.perm_tree.specs.Resolves.{IsResolved}
use Rattle.perm_tree.specs.Scopes.{else_stmts}
use Rattle.perm_tree.specs.UnitTables.{Tables}
use Rattle.perm_tree.specs.Vars.{Vars, those}
use Rattle.perm_tree.proofs.CodeLaws.{stmt_code-is}
use Rattle.perm_tree.proofs.MethodMarks.{method-class}
use Rattle.perm_tree.proofs.TableLaws.{AllMethods, tables_of-methods, routines_of-at}
use Rattle.perm_tree.specs.InBody.{vars_if, setting_at, inner_places, places_with, all_within, body_if, method_if, IsStmtOf}
use Rattle.perm_rules.specs.AtPlace.{no_routine, routine_at, plain_context, uses_of, sets_of, mode_unless}
use Rattle.perm_rules.specs.Goes.{context}
use Rattle.perm_rules.specs.Laws.{ModeByWrites}
use Rattle.perm_rules.specs.Pars.{par_shared, par_permission, mode_of}
use Rattle.perm_rules.specs.Parts.{Context, ParHead}
use Rattle.perm_rules.specs.Refusals.{refusal}
use Rattle.perm_rules.specs.Sharing.{SharesPlainly, AllSharePlainly}
use Rattle.perm_tree.proofs.StandOnce.{those-contained, those-parts, holders-same}
use Rattle.perm_tree.proofs.HeldStatements.{element-there, else-below, else-places, inner-below, opened, places-parts, within-at}
use Rattle.perm_rules.proofs.Pars.{IsResolved-shares}

-- ---------- statements within others ----------
module _ (k : Setting) (c : Context) (placed : IsPlaced k.tables.program)
    (one : (i j : ℕ) (s t : Stmt) (x : ℕ) → slice_get k.tables.program.stmts i ≡ Some s → slice_get k.tables.program.stmts j ≡ Some t → those (inner_places s) x ≡ true → those (inner_places t) x ≡ true → i ≡ j) where
  abbrev stmts : List Stmt
  stmts = k.tables.program.stmts

  abbrev within : List (List ℕ)
  within = all_within stmts

  inner : (j : ℕ) (s : Stmt) → slice_get stmts j ≡ Some s → AllBelow j (inner_places s)
  inner j s here = inner-below (length k.tables.program.exprs) j s.kind (placed.stmts j s here)

  -- the pars of a statement, and of some code behind it, share plainly
  abbrev Shares : ℕ → Type 0
  Shares at = (rest : Code) × AllSharePlainly c (stmt_code k at rest)

  abbrev StmtShares : ℕ → Type 0
  StmtShares j = (at : ℕ) (rest : Code) → those (get_or within j []) at ≡ true → AllSharePlainly c (stmt_code k j rest) → Shares at

  abbrev BlockShares : ℕ → ℕ → Type 0
  BlockShares n at = (is : List ℕ) → AllBelow n is → (last : Code) → those (places_with within is) at ≡ true → AllSharePlainly c (block_code k is last) → Shares at

  rhs-rest : (s : Stmt) (x : ℕ) (r : Rhs) (rest : Code) → AllSharePlainly c (assignment k (codes_of k) s x r rest) → AllSharePlainly c rest
  rhs-rest s x (Value a) rest all = all
  rhs-rest s x (Field y f) rest all = all
  rhs-rest s x (TakeRhs y f) rest all = all
  rhs-rest s x (Item y e) rest all = all
  rhs-rest s x (New n) rest all = all
  rhs-rest s x (NewArrayRhs e) rest all = all
  rhs-rest s x (CallRhs m) rest all = all
  rhs-rest s x (RecoverRhs b w give) rest all = all.1

  kind-rest : (s : Stmt) (kind : StmtKind) (rest : Code) → AllSharePlainly c (kind_code k (codes_of k) s kind rest) → AllSharePlainly c rest
  kind-rest s (DeclareStmt t x) rest all = all
  kind-rest s (AssignStmt t x r) rest all = rhs-rest s (var_at k x) r rest all
  kind-rest s (SetField y f a) rest all = all
  kind-rest s (SetItem y i e) rest all = all
  kind-rest s (CallStmt m) rest all = all
  kind-rest s (PrintStmt e) rest all = all
  kind-rest s (IfStmt e a b) rest all = all.2
  kind-rest s (WhileStmt e a) rest all = all.1
  kind-rest s (ParStmt a b) rest all = all.rest

  of-kind : (j : ℕ) (s : Stmt) (rest : Code) → slice_get stmts j ≡ Some s → AllSharePlainly c (stmt_code k j rest) → AllSharePlainly c (kind_code k (codes_of k) s s.kind rest)
  of-kind j s rest here all = subst (AllSharePlainly c) (stmt_code-is k j s rest placed here) all

  block-shares : (n at : ℕ) → n ≤ length stmts → ((j : ℕ) → j < n → StmtShares j) → BlockShares n at
  block-shares n at room every [] below last e all = absurd (let no : ⊥ = cc e in no)
  block-shares n at room every (i ∷ is) below last e all = go (element-there stmts i (let small : i < n = below.0 in omega arith)) (λ q more. block-shares n at room every is below.1 last q more)
    where
      go : (s : Stmt) × (slice_get stmts i ≡ Some s) → (those (places_with within is) at ≡ true → AllSharePlainly c (block_code k is last) → Shares at) → Shares at
      go (s, here) later = first (or_cases (nat_eq at i) (those (get_or within i [] ++ places_with within is) at) e)
        where
          second : (those (get_or within i []) at ≡ true) ⊎ (those (places_with within is) at ≡ true) → Shares at
          second (inl q) = every i below.0 at (block_code k is last) q all
          second (inr q) = later q (kind-rest s s.kind (block_code k is last) (of-kind i s (block_code k is last) here all))

          first : (nat_eq at i ≡ true) ⊎ (those (get_or within i [] ++ places_with within is) at ≡ true) → Shares at
          first (inl q) = subst Shares (sym (eqb-true at i q)) (block_code k is last, all)
          first (inr q) = second (those-parts (get_or within i []) (places_with within is) at q)

  nothing-within : {X : Type 0} (at : ℕ) → those (places_with within []) at ≡ true → X
  nothing-within at e = absurd (let no : ⊥ = cc e in no)

  module _ (n at : ℕ) (s : Stmt) (rest : Code) (blocks : BlockShares n at) where
    in-block : (b : Block) (last : Code) → AllBelow n b.stmts → those (places_with within (block_places (b ∷ []))) at ≡ true → AllSharePlainly c (block_code k b.stmts last) → Shares at
    in-block b last below e all = blocks b.stmts below last (subst (λ is. those (places_with within is) at ≡ true) (append-nil b.stmts) e) all

    in-blocks : (is js : List ℕ) → AllBelow n is → AllBelow n js → those (places_with within (is ++ js)) at ≡ true → AllSharePlainly c (block_code k is End) → AllSharePlainly c (block_code k js End) → Shares at
    in-blocks is js left right e all more = pick (places-parts within is js at e)
      where
        pick : (those (places_with within is) at ≡ true) ⊎ (those (places_with within js) at ≡ true) → Shares at
        pick (inl q) = blocks is left End q all
        pick (inr q) = blocks js right End q more

    rhs-shares : (exprs x : ℕ) (r : Rhs) → RhsPlaced exprs n r → those (places_with within (block_places (rhs_blocks r))) at ≡ true → AllSharePlainly c (assignment k (codes_of k) s x r rest) → Shares at
    rhs-shares exprs x (Value a) below e all = nothing-within at e
    rhs-shares exprs x (Field y f) below e all = nothing-within at e
    rhs-shares exprs x (TakeRhs y f) below e all = nothing-within at e
    rhs-shares exprs x (Item y i) below e all = nothing-within at e
    rhs-shares exprs x (New m) below e all = nothing-within at e
    rhs-shares exprs x (NewArrayRhs i) below e all = nothing-within at e
    rhs-shares exprs x (CallRhs m) below e all = nothing-within at e
    rhs-shares exprs x (RecoverRhs b w give) below e all = in-block b (Give give (var_at k w) x) below e all.0

    kind-shares : (exprs : ℕ) (kind : StmtKind) → KindPlaced exprs n kind → those (places_with within (block_places (kind_blocks kind))) at ≡ true → AllSharePlainly c (kind_code k (codes_of k) s kind rest) → Shares at
    kind-shares exprs (DeclareStmt t x) below e all = nothing-within at e
    kind-shares exprs (AssignStmt t x r) below e all = rhs-shares exprs (var_at k x) r below e all
    kind-shares exprs (SetField y f a) below e all = nothing-within at e
    kind-shares exprs (SetItem y i v) below e all = nothing-within at e
    kind-shares exprs (CallStmt m) below e all = nothing-within at e
    kind-shares exprs (PrintStmt v) below e all = nothing-within at e
    kind-shares exprs (IfStmt v a b) below e all =
        in-blocks a.stmts (else_stmts b) below.1 (else-below n b below.2) (subst (λ js. those (places_with within (a.stmts ++ js)) at ≡ true) (else-places b) e) all.0 all.1
    kind-shares exprs (WhileStmt v a) below e all = in-block a End below.1 e all.0
    kind-shares exprs (ParStmt a b) below e all =
        in-blocks a.stmts b.stmts below.0 below.1 (subst (λ js. those (places_with within (a.stmts ++ js)) at ≡ true) (append-nil b.stmts) e) all.left all.right

  stmts-share : (n : ℕ) → n ≤ length stmts → (j : ℕ) → j < n → StmtShares j
  stmts-share zero room j less at rest e all = absurd (omega arith)
  stmts-share (suc n) room j less at rest e all =
      let o = opened stmts inner j at e in
      go o.stmt o.here (block-shares j at (omega arith) (λ i small. stmts-share n (omega arith) i (omega arith)))
    where
      go : (s : Stmt) → slice_get stmts j ≡ Some s → BlockShares j at → Shares at
      go s here blocks =
          kind-shares j at s rest blocks (length k.tables.program.exprs) s.kind (placed.stmts j s here)
          (subst (λ xs. those xs at ≡ true) (within-at stmts inner j s here) e)
          (of-kind j s rest here all)

  -- the two blocks of a par in some statements or within them share plainly, where all of these do
  pub par-shares : (is : List ℕ) (last : Code) (at : ℕ) (s : Stmt) (a b : Block) → AllBelow (length stmts) is → those (places_with within is) at ≡ true → slice_get stmts at ≡ Some s → s.kind ≡ ParStmt a b
      → AllSharePlainly c (block_code k is last) → SharesPlainly c (own_vars k a.stmts) (block_code k a.stmts End) (own_vars k b.stmts) (block_code k b.stmts End)
  par-shares is last at s a b below e here par all = pick (block-shares (length stmts) at (le_refl (length stmts)) (stmts-share (length stmts) (le_refl (length stmts))) is below last e all)
    where
      pick : Shares at → SharesPlainly c (own_vars k a.stmts) (block_code k a.stmts End) (own_vars k b.stmts) (block_code k b.stmts End)
      pick (rest, shares) = (subst (λ (kind : StmtKind). AllSharePlainly c (kind_code k (codes_of k) s kind rest)) par (of-kind at s rest here shares)).head

-- ---------- modes ----------
-- of two pars that differ in what is shared alone, the same is refused where the same is shared
refused-alike : (c : Context) (u1 u2 a1 a2 b1 b2 : Vars) (G : Vars) → par_shared c (ParHead u1 u2 a1 a2) ≡ par_shared c (ParHead u1 u2 b1 b2) → refusal c (ParHead u1 u2 a1 a2) G ≡ refusal c (ParHead u1 u2 b1 b2) G
refused-alike c u1 u2 a1 a2 b1 b2 G same = ap (λ b. cond b (Some ParShared) (cond (par_permission c (ParHead u1 u2 a1 a2)) (Some ParPermission) none)) same
  where
    none : Option TypeKind
    none = None

-- the table and the method of a statement of a body
pub record Stands (u : Tables) (m at : ℕ) : Type 0 where
  pub table : MethodTable
  pub «method» : Method
  pub here : slice_get u.tables m ≡ Some table
  pub is : method_of u.program table ≡ Some «method»
  pub inside : those (places_with (all_within u.program.stmts) «method».body.stmts) at ≡ true

pub stands-in : (u : Tables) (m at : ℕ) → IsStmtOf u m at → Stands u m at
stands-in u m at inside = by-table (slice_get u.tables m) refl inside
  where
    by-method : (t : MethodTable) (o : Option Method) → slice_get u.tables m ≡ Some t → method_of u.program t ≡ o → Contains (places_with (all_within u.program.stmts) (body_if o)) at → Stands u m at
    by-method t None here is (k, less, same) = absurd (omega arith)
    by-method t (Some d) here is inside = record { table = t; «method» = d; here = here; is = is; inside = those-contained (places_with (all_within u.program.stmts) d.body.stmts) at inside }

    by-table : (o : Option MethodTable) → slice_get u.tables m ≡ o → Contains (places_with (all_within u.program.stmts) (body_if (method_if u o))) at → Stands u m at
    by-table None here (k, less, same) = absurd (omega arith)
    by-table (Some t) here inside = by-method t (method_of u.program t) here refl inside

shares-at : (u : Tables) (m at : ℕ) (s : Stmt) (a b : Block) → IsResolved u → Stands u m at → slice_get u.program.stmts at ≡ Some s → s.kind ≡ ParStmt a b
    → SharesPlainly (context (code_of u) (routine_at u m)) (own_vars (setting_at u m) a.stmts) (block_code (setting_at u m) a.stmts End) (own_vars (setting_at u m) b.stmts) (block_code (setting_at u m) b.stmts End)
shares-at u m at s a b is stands here par =
    subst (λ (r : Routine). SharesPlainly (context (code_of u) r) (own_vars (setting_at u m) a.stmts) (block_code (setting_at u m) a.stmts End) (own_vars (setting_at u m) b.stmts) (block_code (setting_at u m) b.stmts End))
    (sym (get_or_from_slice_get (code_of u).routines m (routine u t d) no_routine found))
    (subst (λ (vs : List VarInfo). SharesPlainly (context (code_of u) (routine u t d)) (own_vars (setting u vs) a.stmts) (block_code (setting u vs) a.stmts End) (own_vars (setting u vs) b.stmts) (block_code (setting u vs) b.stmts End))
    (sym (ap vars_if stands.here))
    (par-shares (setting u t.vars) (context (code_of u) (routine u t d)) is.formed.placed (holders-same u.program is.formed.orderly.once)
    d.body.stmts (Return d.span (argument (setting u t.vars) d.back)) at s a b (is.formed.placed.bodies t.class class.0 class.1 t.«method» d class.2).0 stands.inside here par
    (IsResolved-shares u m (routine u t d) is found)))
  where
    t : MethodTable
    t = stands.table

    d : Method
    d = stands.«method»

    class : (c : ClassDecl) × (slice_get u.program.classes t.class ≡ Some c) × (slice_get c.methods t.«method» ≡ Some d)
    class = method-class u t d stands.is

    found : slice_get (code_of u).routines m ≡ Some (routine u t d)
    found = routines_of-at u u.tables m t d (subst (AllMethods u.program) (sym is.tables) (tables_of-methods u.program)) stands.here stands.is

pub mode-by-writes : ModeByWrites
mode-by-writes u m left right is par =
    ap (λ o. mode_unless o (mode_of (plain_context u m) (uses_of u m left) (uses_of u m right)))
    (refused-alike (plain_context u m) (uses_of u m left) (uses_of u m right) _ _ (sets_of u m left) (sets_of u m right) (λ x. true)
    (shares-at u m par.at par.stmt left right is (stands-in u m par.at par.stands.inside) par.stands.here par.par))
