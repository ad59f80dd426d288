-- What a block of a body declares are variables of the method.
use Rattle.std.proofs.Common.{◌≡◌, ◌∙◌, ℕ, zero, suc, ◌<◌, Bool, true, false, List, [], ◌∷◌, ◌++◌, length, map, Some, cond, refl, sym, ap, subst, arith, get_or, ◌+◌, append-nil, inl, inr}
use Rattle.std.specs.Prelude.{◌⊎◌, ◌&&◌, not, nat_eq, slice_get}
use Rattle.std.proofs.lemmas.Bool.{eq-eqb, eqb-true, lt-ltb, or_cases, or_left, or_right}
use Rattle.std.proofs.Math.Bool.{and-false}
use Rattle.std.proofs.Math.ListN.{get_or-append}
use Rattle.std.proofs.lemmas.List.Elements.{All-get_or}
use Rattle.std.proofs.lemmas.Option.{get_or_from_slice_get, slice_get_within}
use mathlib.Core.Path.{fun_ext}
use Rattle.perm_tree.specs.declared.ast.Block.{Block}
use Rattle.perm_tree.specs.declared.ast.FieldDecl.{FieldDecl}
use Rattle.perm_tree.specs.declared.ast.Ident.{Ident}
use Rattle.perm_tree.specs.declared.ast.Method.{Method}
use Rattle.perm_tree.specs.declared.ast.Rhs.{Rhs}
use Rattle.perm_tree.specs.declared.ast.Rhs.TheVariants.{Value, Field, TakeField, Item, New, NewArray, Call as CallRhs, Recover}
use Rattle.perm_tree.specs.declared.ast.Stmt.{Stmt}
use Rattle.perm_tree.specs.declared.ast.StmtKind.{StmtKind}
use Rattle.perm_tree.specs.declared.ast.StmtKind.TheVariants.{Declare, Assign, SetField, SetItem, Call as CallStmt, Print, If, While, Par}
use Rattle.perm_tree.specs.declared.unit.MethodTable.{MethodTable}
use Rattle.perm_tree.specs.declared.unit.VarInfo.{VarInfo}
use Rattle.perm_tree.specs.Blocks.{block_places, kind_blocks, rhs_blocks}
use Rattle.perm_tree.specs.CodeNames.{own_vars}
use Rattle.perm_tree.specs.InBody.{all_within, inner_places, setting_at, vars_at, vars_if, IsBlockOf, IsStmtOf}
use Rattle.perm_tree.specs.Lookup.{is_known_as, var_place}
use Rattle.perm_tree.specs.Mentions.{known}
use Rattle.perm_tree.specs.Nesting.{AreNested, IsInScope}
use Rattle.perm_tree.specs.Places.{AllBelow, KindPlaced, RhsPlaced}
use Rattle.perm_tree.specs.Resolves.{IsResolved}
use Rattle.perm_tree.specs.Scopes.{all_inner, block_end, block_vars, braced_vars, declared_at, else_stmts, inner_vars, known_until, param_var, rhs_vars, this_var}
use Rattle.perm_tree.specs.UnitTables.{Tables}
use Rattle.perm_tree.specs.declared.var_set.VarSet.{VarSet}
use Rattle.perm_tree.specs.VarSets.{member}
use Rattle.perm_tree.specs.Vars.{Vars, below, those}
use Rattle.perm_tree.proofs.Entries.{entries_of-at}
use Rattle.perm_tree.proofs.Nested.{IsResolved-nested}
use Rattle.perm_tree.proofs.TableLaws.{AllMethods, IsTable, tables_of-methods}
use Rattle.perm_tree.proofs.HeldStatements.{Opened, Reached, else-below, else-places, inner-below, listed-below, opened, reached}
use Rattle.perm_tree.proofs.StandOnce.{those-parts}
use Rattle.perm_rules.proofs.Modes.{Stands, stands-in}
use Rattle.perm_rules.proofs.Pars.Beginnings.{IsAmong}
use Rattle.perm_rules.specs.MethodBodies.{Body, IsBody, setting_of}
use Rattle.perm_par.specs.Known.{count_of, HoldsKnown}
use Rattle.perm_par.proofs.BlockStatements.{block-stmt}
use Rattle.perm_par.proofs.KnownVariables.{below-within}

-- each of some declarations is that of a variable of a list
abbrev pub AreDeclared : List VarInfo → List FieldDecl → Type 0
AreDeclared ws [] = Unit {0}
AreDeclared ws (d ∷ ds) = ((end : ℕ) × IsAmong (known_until end d) ws) × AreDeclared ws ds

declared-more : (vs ws : List VarInfo) (ds : List FieldDecl) → ((v : VarInfo) → IsAmong v vs → IsAmong v ws) → AreDeclared vs ds → AreDeclared ws ds
declared-more vs ws [] more are = tt
declared-more vs ws (d ∷ ds) more are = ((are.0.0, more (known_until are.0.0 d) are.0.1), declared-more vs ws ds more are.1)

among-behind : (vs ws : List VarInfo) (v : VarInfo) → IsAmong v ws → IsAmong v (vs ++ ws)
among-behind [] ws v at = at
among-behind (u ∷ vs) ws v at = let (z, here) = among-behind vs ws v at in (suc z, here)

among-before : (vs ws : List VarInfo) (v : VarInfo) → IsAmong v vs → IsAmong v (vs ++ ws)
among-before [] ws v (z, here) = absurd (let no : ⊥ = cc here in no)
among-before (u ∷ vs) ws v (zero, here) = (zero, here)
among-before (u ∷ vs) ws v (suc z, here) = let (y, there) = among-before vs ws v (z, here) in (suc y, there)

declared-themselves : (end : ℕ) (ds : List FieldDecl) → AreDeclared (map (known_until end) ds) ds
declared-themselves end [] = tt
declared-themselves end (d ∷ ds) = ((end, (zero, refl)), declared-more (map (known_until end) ds) (known_until end d ∷ map (known_until end) ds) ds (λ v (z, here). (suc z, here)) (declared-themselves end ds))

-- ---------- blocks ----------
module _ (stmts : List Stmt) where
  module _ (inner : List (List VarInfo)) where
    -- what a statement of a block declares is of the block's variables
    block-declares : (end : ℕ) (is : List ℕ) (i : ℕ) → those is i ≡ true → AreDeclared (block_vars stmts inner end is) (declared_at stmts i)
    block-declares end [] i listed = absurd (let no : ⊥ = cc listed in no)
    block-declares end (j ∷ is) i listed = pick (or_cases (nat_eq i j) (those is i) listed) (λ q. block-declares end is i q)
      where
        own : List VarInfo
        own = map (known_until end) (declared_at stmts j)

        rest : List VarInfo
        rest = get_or inner j [] ++ block_vars stmts inner end is

        pick : (nat_eq i j ≡ true) ⊎ (those is i ≡ true) → (those is i ≡ true → AreDeclared (block_vars stmts inner end is) (declared_at stmts i)) → AreDeclared (own ++ rest) (declared_at stmts i)
        pick (inl q) later =
            subst (λ n. AreDeclared (own ++ rest) (declared_at stmts n)) (sym (eqb-true i j q)) (declared-more own (own ++ rest) (declared_at stmts j) (λ v. among-before own rest v) (declared-themselves end (declared_at stmts j)))
        pick (inr q) later =
            declared-more (block_vars stmts inner end is) (own ++ rest) (declared_at stmts i)
            (λ v at. among-behind own rest v (among-behind (get_or inner j []) (block_vars stmts inner end is) v at)) (later q)

    -- so are the variables within a statement of it
    within-declares : (end : ℕ) (is : List ℕ) (j : ℕ) (ds : List FieldDecl) → those is j ≡ true → AreDeclared (get_or inner j []) ds → AreDeclared (block_vars stmts inner end is) ds
    within-declares end [] j ds listed are = absurd (let no : ⊥ = cc listed in no)
    within-declares end (i ∷ is) j ds listed are = pick (or_cases (nat_eq j i) (those is j) listed) (λ q. within-declares end is j ds q are)
      where
        own : List VarInfo
        own = map (known_until end) (declared_at stmts i)

        pick : (nat_eq j i ≡ true) ⊎ (those is j ≡ true) → (those is j ≡ true → AreDeclared (block_vars stmts inner end is) ds) → AreDeclared (own ++ (get_or inner i [] ++ block_vars stmts inner end is)) ds
        pick (inl q) later =
            declared-more (get_or inner i []) (own ++ (get_or inner i [] ++ block_vars stmts inner end is)) ds
            (λ v at. among-behind own (get_or inner i [] ++ block_vars stmts inner end is) v (among-before (get_or inner i []) (block_vars stmts inner end is) v at))
            (subst (λ n. AreDeclared (get_or inner n []) ds) (eqb-true j i q) are)
        pick (inr q) later =
            declared-more (block_vars stmts inner end is) (own ++ (get_or inner i [] ++ block_vars stmts inner end is)) ds
            (λ v at. among-behind own (get_or inner i [] ++ block_vars stmts inner end is) v (among-behind (get_or inner i []) (block_vars stmts inner end is) v at)) (later q)

    -- where each block of a statement has some declarations, the statement has those of one block
    module _ (ds : List FieldDecl) (at : ℕ) (blocks : (end : ℕ) (is : List ℕ) → those is at ≡ true → AreDeclared (block_vars stmts inner end is) ds) where
      braced-declares : (is : List ℕ) → those is at ≡ true → AreDeclared (braced_vars stmts inner is) ds
      braced-declares is listed = blocks (block_end stmts 0 is) is listed

      both-declare : (is js : List ℕ) → those (is ++ js) at ≡ true → AreDeclared (braced_vars stmts inner is ++ braced_vars stmts inner js) ds
      both-declare is js listed = pick (those-parts is js at listed)
        where
          pick : (those is at ≡ true) ⊎ (those js at ≡ true) → AreDeclared (braced_vars stmts inner is ++ braced_vars stmts inner js) ds
          pick (inl q) = declared-more (braced_vars stmts inner is) (braced_vars stmts inner is ++ braced_vars stmts inner js) ds (λ v. among-before (braced_vars stmts inner is) (braced_vars stmts inner js) v) (braced-declares is q)
          pick (inr q) = declared-more (braced_vars stmts inner js) (braced_vars stmts inner is ++ braced_vars stmts inner js) ds (λ v. among-behind (braced_vars stmts inner is) (braced_vars stmts inner js) v) (braced-declares js q)

      nothing-listed : {X : Type 0} → those [] at ≡ true → X
      nothing-listed e = absurd (let no : ⊥ = cc e in no)

      rhs-declares : (r : Rhs) → those (block_places (rhs_blocks r)) at ≡ true → AreDeclared (rhs_vars stmts inner r) ds
      rhs-declares (Value a) e = nothing-listed e
      rhs-declares (Field y f) e = nothing-listed e
      rhs-declares (TakeField y f) e = nothing-listed e
      rhs-declares (Item y i) e = nothing-listed e
      rhs-declares (New c) e = nothing-listed e
      rhs-declares (NewArray i) e = nothing-listed e
      rhs-declares (CallRhs c) e = nothing-listed e
      rhs-declares (Recover b w give) e = blocks give.end b.stmts (subst (λ is. those is at ≡ true) (append-nil b.stmts) e)

      kind-declares : (kind : StmtKind) → those (block_places (kind_blocks kind)) at ≡ true → AreDeclared (inner_vars stmts inner kind) ds
      kind-declares (Declare t x) e = nothing-listed e
      kind-declares (Assign t x r) e = rhs-declares r e
      kind-declares (SetField y f a) e = nothing-listed e
      kind-declares (SetItem y i v) e = nothing-listed e
      kind-declares (CallStmt c) e = nothing-listed e
      kind-declares (Print v) e = nothing-listed e
      kind-declares (If v a b) e = both-declare a.stmts (else_stmts b) (subst (λ is. those (a.stmts ++ is) at ≡ true) (else-places b) e)
      kind-declares (While v a) e = braced-declares a.stmts (subst (λ is. those is at ≡ true) (append-nil a.stmts) e)
      kind-declares (Par a b) e = both-declare a.stmts b.stmts (subst (λ is. those (a.stmts ++ is) at ≡ true) (append-nil b.stmts) e)

  -- only the variables within earlier statements are read
  block-front : (before after : List (List VarInfo)) (end : ℕ) (is : List ℕ) → AllBelow (length before) is → block_vars stmts (before ++ after) end is ≡ block_vars stmts before end is
  block-front before after end [] all = refl
  block-front before after end (i ∷ is) all =
      let here = get_or-append before after [] i all.0 in
      let rest = block-front before after end is all.1 in
      λ j. map (known_until end) (declared_at stmts i) ++ (here j ++ rest j)

  braced-front : (before after : List (List VarInfo)) (is : List ℕ) → AllBelow (length before) is → braced_vars stmts (before ++ after) is ≡ braced_vars stmts before is
  braced-front before after is all = block-front before after (block_end stmts 0 is) is all

  rhs-front : (before after : List (List VarInfo)) (exprs : ℕ) (r : Rhs) → RhsPlaced exprs (length before) r → rhs_vars stmts (before ++ after) r ≡ rhs_vars stmts before r
  rhs-front before after exprs (Value a) all = refl
  rhs-front before after exprs (Field y f) all = refl
  rhs-front before after exprs (TakeField y f) all = refl
  rhs-front before after exprs (Item y e) all = refl
  rhs-front before after exprs (New c) all = refl
  rhs-front before after exprs (NewArray e) all = refl
  rhs-front before after exprs (CallRhs c) all = refl
  rhs-front before after exprs (Recover b w give) all = block-front before after give.end b.stmts all

  kind-front : (before after : List (List VarInfo)) (exprs : ℕ) (kind : StmtKind) → KindPlaced exprs (length before) kind → inner_vars stmts (before ++ after) kind ≡ inner_vars stmts before kind
  kind-front before after exprs (Declare t x) all = refl
  kind-front before after exprs (Assign t x r) all = rhs-front before after exprs r all
  kind-front before after exprs (SetField y f a) all = refl
  kind-front before after exprs (SetItem y i e) all = refl
  kind-front before after exprs (CallStmt c) all = refl
  kind-front before after exprs (Print e) all = refl
  kind-front before after exprs (If e a b) all =
      let yes = braced-front before after a.stmts all.1 in let no = braced-front before after (else_stmts b) (else-below (length before) b all.2) in λ j. yes j ++ no j
  kind-front before after exprs (While e a) all = braced-front before after a.stmts all.1
  kind-front before after exprs (Par a b) all = let left = braced-front before after a.stmts all.0 in let right = braced-front before after b.stmts all.1 in λ j. left j ++ right j

-- ---------- methods ----------
module _ (u : Tables) (resolved : IsResolved u) where
  abbrev all : List Stmt
  all = u.program.stmts

  abbrev inner : List (List VarInfo)
  inner = all_inner u.program.stmts

  placed : (j : ℕ) (s : Stmt) → slice_get all j ≡ Some s → AllBelow j (inner_places s)
  placed j s here = inner-below (length u.program.exprs) j s.kind (resolved.formed.placed.stmts j s here)

  inner-at : (j : ℕ) (s : Stmt) → slice_get all j ≡ Some s → get_or inner j [] ≡ inner_vars all inner s.kind
  inner-at j s here =
      entries_of-at (λ before t. inner_vars all before t.kind) all j s [] here
      (λ before after count. kind-front all before after (length u.program.exprs) s.kind (subst (λ n. KindPlaced (length u.program.exprs) n s.kind) (sym count) (resolved.formed.placed.stmts j s here)))

  -- what a statement within another one declares is of the variables within that
  stmt-declares : (n j i : ℕ) → j < n → those (get_or (all_within all) j []) i ≡ true → AreDeclared (get_or inner j []) (declared_at all i)
  stmt-declares zero j i less e = absurd (omega arith)
  stmt-declares (suc n) j i less e = go (opened all placed j i e) (λ k small q. stmt-declares n k i small q)
    where
      go : Opened all placed j i → ((k : ℕ) → k < n → those (get_or (all_within all) k []) i ≡ true → AreDeclared (get_or inner k []) (declared_at all i)) → AreDeclared (get_or inner j []) (declared_at all i)
      go o later =
          subst (λ (ws : List VarInfo). AreDeclared ws (declared_at all i)) (sym (inner-at j o.stmt o.here))
          (kind-declares all inner (declared_at all i) o.inside.at (λ end is listed. in-block end is listed o.inside.either) o.stmt.kind o.inside.listed)
        where
          below : o.inside.at < j
          below = listed-below j (inner_places o.stmt) o.inside.at (placed j o.stmt o.here) o.inside.listed

          in-block : (end : ℕ) (is : List ℕ) → those is o.inside.at ≡ true → (i ≡ o.inside.at) ⊎ (those (get_or (all_within all) o.inside.at []) i ≡ true) → AreDeclared (block_vars all inner end is) (declared_at all i)
          in-block end is listed (inl q) = block-declares all inner end is i (subst (λ x. those is x ≡ true) (sym q) listed)
          in-block end is listed (inr q) = within-declares all inner end is o.inside.at (declared_at all i) listed (later o.inside.at (omega (arith, below)) q)

  table-vars : (ts : List MethodTable) (m : ℕ) (t : MethodTable) → AllMethods u.program ts → slice_get ts m ≡ Some t → (d : Method) × IsTable u.program t d
  table-vars [] m t are here = absurd (let no : ⊥ = cc here in no)
  table-vars (s ∷ ts) zero t are here = let same : s ≡ t = cc here in subst (λ (r : MethodTable). (d : Method) × IsTable u.program r d) same are.0
  table-vars (s ∷ ts) (suc m) t are here = table-vars ts m t are.1 here

  -- what a statement of a method declares is of the method's variables
  method-declares : (m i : ℕ) → IsStmtOf u m i → AreDeclared (vars_at u m) (declared_at all i)
  method-declares m i inside = go (stands-in u m i inside)
    where
      go : Stands u m i → AreDeclared (vars_at u m) (declared_at all i)
      go stands = with-table (table-vars u.tables m stands.table (subst (AllMethods u.program) (sym resolved.tables) (tables_of-methods u.program)) stands.here)
        where
          in-body : (end : ℕ) (r : Reached (all_within all) stands.«method».body.stmts i) → (i ≡ r.at) ⊎ (those (get_or (all_within all) r.at []) i ≡ true) → AreDeclared (block_vars all inner end stands.«method».body.stmts) (declared_at all i)
          in-body end r (inl q) = block-declares all inner end stands.«method».body.stmts i (subst (λ x. those stands.«method».body.stmts x ≡ true) (sym q) r.listed)
          in-body end r (inr q) = within-declares all inner end stands.«method».body.stmts r.at (declared_at all i) r.listed (stmt-declares (suc r.at) r.at i (omega arith) q)

          with-table : (d : Method) × IsTable u.program stands.table d → AreDeclared (vars_at u m) (declared_at all i)
          with-table (d, table) =
              let same : d ≡ stands.«method» = let e : Some d ≡ Some stands.«method» = sym table.0 ∙ stands.is in cc e in
              let from = reached (all_within all) stands.«method».body.stmts i stands.inside in
              subst (λ (ws : List VarInfo). AreDeclared ws (declared_at all i)) (sym (ap vars_if stands.here ∙ table.1))
              (declared-more (block_vars all inner d.span.end d.body.stmts) (this_var stands.table.class d ∷ (map (param_var d) d.params ++ block_vars all inner d.span.end d.body.stmts)) (declared_at all i) (λ v. among-behind (this_var stands.table.class d ∷ map (param_var d) d.params) (block_vars all inner d.span.end d.body.stmts) v)
              (subst (λ (e : Method). AreDeclared (block_vars all inner e.span.end e.body.stmts) (declared_at all i)) (sym same) (in-body stands.«method».span.end from from.either)))

  -- the name of a variable that is known where it stands is found
  place-there : (i : Ident) (w : VarInfo) → is_known_as i w ≡ true → (vars : List VarInfo) (z : ℕ) → slice_get vars z ≡ Some w → var_place vars i < length vars
  place-there i w is [] z at = absurd (let no : ⊥ = cc at in no)
  place-there i w is (v ∷ vars) zero at =
      let same : v ≡ w = cc at in
      subst (λ b. cond (not b) (1 + var_place vars i) 0 < length (v ∷ vars)) (sym (subst (λ (t : VarInfo). is_known_as i t ≡ true) (sym same) is)) (omega arith)
  place-there i w is (v ∷ vars) (suc z) at = by-test (is_known_as i v) (place-there i w is vars z at)
    where
      by-test : (b : Bool) → var_place vars i < length vars → cond (not b) (1 + var_place vars i) 0 < length (v ∷ vars)
      by-test true less = omega arith
      by-test false less = omega arith

  module _ (m : ℕ) (nested : AreNested (vars_at u m)) where
    -- a declared variable is one of the method
    declared-there : (d : FieldDecl) (end : ℕ) → IsAmong (known_until end d) (vars_at u m) → var_place (vars_at u m) d.name < length (vars_at u m)
    declared-there d end (z, here) = place-there d.name (known_until end d) (known-as scope.1) (vars_at u m) z here
      where
        scope : IsInScope (known_until end d)
        scope = subst IsInScope (get_or_from_slice_get (vars_at u m) z (known_until end d) (known_until end d) here) (All-get_or IsInScope (vars_at u m) z (known_until end d) (slice_get_within (vars_at u m) z (known_until end d) here) nested.within)

        known-as : d.name.span.start < end → is_known_as d.name (known_until end d) ≡ true
        known-as less = rw (eq-eqb d.name.name d.name.name refl, lt-ltb d.name.span.start end less) grind arith

    listed-there : (ds : List FieldDecl) (x : ℕ) → AreDeclared (vars_at u m) ds → those (map (λ d. var_place (vars_at u m) d.name) ds) x ≡ true → x < length (vars_at u m)
    listed-there [] x are e = absurd (let no : ⊥ = cc e in no)
    listed-there (d ∷ ds) x are e = pick (or_cases (nat_eq x (var_place (vars_at u m) d.name)) (those (map (λ d. var_place (vars_at u m) d.name) ds) x) e) (λ q. listed-there ds x are.1 q)
      where
        pick : (nat_eq x (var_place (vars_at u m) d.name) ≡ true) ⊎ (those (map (λ d. var_place (vars_at u m) d.name) ds) x ≡ true) → (those (map (λ d. var_place (vars_at u m) d.name) ds) x ≡ true → x < length (vars_at u m)) → x < length (vars_at u m)
        pick (inl q) later = subst (λ n. n < length (vars_at u m)) (sym (eqb-true x (var_place (vars_at u m) d.name) q)) (declared-there d are.0.0 are.0.1)
        pick (inr q) later = later q

    -- so is each one that some statements declare
    pub own-there : (is : List ℕ) (x : ℕ) → ((i : ℕ) → those is i ≡ true → IsStmtOf u m i) → those (own_vars (setting_at u m) is) x ≡ true → x < length (vars_at u m)
    own-there [] x stands e = absurd (let no : ⊥ = cc e in no)
    own-there (i ∷ is) x stands e =
        pick (those-parts (map (λ d. var_place (vars_at u m) d.name) (declared_at all i)) (own_vars (setting_at u m) is) x e)
        (λ q. own-there is x (λ j listed. stands j (or_right (nat_eq j i) (those is j) listed)) q)
      where
        pick : (those (map (λ d. var_place (vars_at u m) d.name) (declared_at all i)) x ≡ true) ⊎ (those (own_vars (setting_at u m) is) x ≡ true) → (those (own_vars (setting_at u m) is) x ≡ true → x < length (vars_at u m)) → x < length (vars_at u m)
        pick (inl q) later = listed-there (declared_at all i) x (method-declares m i (stands i (or_left (nat_eq i i) (those is i) (eq-eqb i i refl)))) q
        pick (inr q) later = later q

-- all variables of a set of known ones are known
known-all : (n : ℕ) (G : Vars) → ((x : ℕ) → G x ≡ true → x < n) → known n G ≡ G
known-all n G all = fun_ext (λ x. by-test x (G x) refl)
  where
    by-test : (x : ℕ) (g : Bool) → G x ≡ g → (below n x && g) ≡ g
    by-test x false e = and-false (below n x)
    by-test x true e = rw (below-within n x (all x e)) refl

-- a block declares known variables alone
pub own-known : (b : Body) (block : Block) → IsBody b → IsBlockOf b.unit b.number block → known (count_of b) (those (own_vars (setting_of b) block.stmts)) ≡ those (own_vars (setting_of b) block.stmts)
own-known b block is inside =
    known-all (count_of b) (those (own_vars (setting_of b) block.stmts))
    (λ x e. own-there b.unit is.resolved b.number nested block.stmts x (λ i listed. block-stmt b.unit b.number block i is.resolved inside listed) e)
  where
    nested : AreNested (vars_at b.unit b.number)
    nested =
        subst AreNested (sym (ap vars_if is.tabled))
        (subst (λ (t : MethodTable). AreNested t.vars) (get_or_from_slice_get b.unit.tables b.number is.table is.table is.tabled)
        (All-get_or (λ (t : MethodTable). AreNested t.vars) b.unit.tables b.number is.table (slice_get_within b.unit.tables b.number is.table is.tabled) (IsResolved-nested b.unit is.resolved)))

-- so a set that holds what a block declares holds known variables
pub own-held : (b : Body) (r : VarSet) (block : Block) → IsBody b → IsBlockOf b.unit b.number block → member r ≡ those (own_vars (setting_of b) block.stmts) → HoldsKnown b r (those (own_vars (setting_of b) block.stmts))
own-held b r block is inside holds = holds ∙ sym (own-known b block is inside)
