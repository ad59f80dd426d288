-- The law `order`: the parts of a unit stand in the order of the text, within each method and from each method to the next.
use Rattle.std.proofs.Common.{◌≡◌, ℕ, zero, suc, ◌<◌, ◌≤◌, List, [], ◌∷◌, ◌++◌, length, Some, refl, sym, ◌∙◌, ap, subst, arith, get_or, map, append_assoc, append-nil, le_refl}
use Rattle.std.specs.Prelude.{flat_map, slice_get}
use Rattle.std.proofs.Math.ListN.{get_or-append}
use Rattle.std.proofs.lemmas.List.{map-append}
use Rattle.perm_tree.specs.declared.ast.Block.{Block}
use Rattle.perm_tree.specs.declared.ast.Method.{Method}
use Rattle.perm_tree.specs.declared.ast.Rhs.{Rhs}
use Rattle.perm_tree.specs.declared.ast.Rhs.TheVariants.{Value, Field, TakeField as TakeRhs, Item, New, NewArray as NewArrayRhs, Call as CallRhs, Recover as RecoverRhs}
use Rattle.perm_tree.specs.declared.ast.Stmt.{Stmt}
use Rattle.perm_tree.specs.declared.ast.StmtKind.{StmtKind}
use Rattle.perm_tree.specs.declared.ast.StmtKind.TheVariants.{Declare as DeclareStmt, Assign as AssignStmt, SetField, SetItem, Call as CallStmt, Print as PrintStmt, If as IfStmt, While as WhileStmt, Par as ParStmt}
use Rattle.perm_tree.specs.declared.unit.MethodTable.{MethodTable}
use Rattle.perm_tree.specs.Code.{Code, End, Give, Return, Routine, UnitCode}
use Rattle.perm_tree.specs.CodeNames.{Setting, setting, argument, var_at}
use Rattle.perm_tree.specs.CodeOf.{assignment, kind_code, codes_of, stmt_code, block_code, routine, routine_if, routines_of, code_of}
use Rattle.perm_tree.specs.Lookup.{method_of}
use Rattle.perm_tree.specs.Places.{AllBelow, RhsPlaced, KindPlaced, IsPlaced}
use Rattle.perm_tree.specs.Resolves.{IsResolved}
use Rattle.perm_tree.specs.Scopes.{else_stmts}
use Rattle.perm_tree.specs.TextOrder.{Mark, names, ends, IsRising, Marks, all_expr_marks, marks_at, arg_marks, block_marks, rhs_marks, kind_marks, stmt_marks, all_stmt_marks, params_marks, method_marks, methods_marks, methods_of}
use Rattle.perm_tree.specs.UnitTables.{Tables}
use Rattle.perm_tree.specs.Vars.{Vars}
use Rattle.perm_tree.proofs.CodeLaws.{stmt_code-is}
use Rattle.perm_tree.proofs.Entries.{entries_of-at}
use Rattle.perm_tree.proofs.MethodMarks.{MethodRises, IsResolved-method}
use Rattle.perm_tree.proofs.Passing.{rising-less, AllPass, past-name, pass-at, exprs-pass, arg-passes, call-passes, params-pass}
use Rattle.perm_tree.proofs.TableLaws.{AllMethods, AreTables, HasTable, tables_of-are, tables_of-methods, routine-table}
use Rattle.perm_rules.proofs.Refusals.ErrorLists.{first_error-append}
use Rattle.perm_rules.specs.FirstRefused.{Entry, entries, method_entries, first_error, or_later, method_refusal, methods_refusal}
use Rattle.perm_rules.specs.Goes.{context, first_live}
use Rattle.perm_rules.specs.Laws.{PartsInOrder, UnitInOrder, RefusedAtFirst}
use Rattle.perm_rules.specs.Parts.{Context}
use Rattle.perm_tree.proofs.HeldStatements.{element-there, else-below}
use Rattle.perm_rules.proofs.Hiding.Stretches.{Splits, stmt-splits}

-- ---------- marks ----------
-- what stands behind doesn't change the marks of a block whose statements stand before
marks-front : (before after : List Marks) (at : ℕ) (is : List ℕ) (rest : List Mark) → length before ≡ at → AllBelow at is → block_marks (before ++ after) is rest ≡ block_marks before is rest
marks-front before after at [] rest count below = refl
marks-front before after at (i ∷ is) rest count below =
    ap (λ (m : Marks). m (block_marks (before ++ after) is rest)) (get_or-append before after (λ ms. ms) i (let less : i < at = below.0 in omega arith))
    ∙ ap (get_or before i (λ ms. ms)) (marks-front before after at is rest count below.1)

rhs-marked : (es before after : List Marks) (exprs at head : ℕ) (r : Rhs) (rest : List Mark) → length before ≡ at → RhsPlaced exprs at r → rhs_marks es (before ++ after) head r rest ≡ rhs_marks es before head r rest
rhs-marked es before after exprs at head (Value a) rest count placed = refl
rhs-marked es before after exprs at head (Field y f) rest count placed = refl
rhs-marked es before after exprs at head (TakeRhs y f) rest count placed = refl
rhs-marked es before after exprs at head (Item y e) rest count placed = refl
rhs-marked es before after exprs at head (New c) rest count placed = refl
rhs-marked es before after exprs at head (NewArrayRhs e) rest count placed = refl
rhs-marked es before after exprs at head (CallRhs c) rest count placed = refl
rhs-marked es before after exprs at head (RecoverRhs b w give) rest count placed = ap (λ ms. ends head ∷ ms) (marks-front before after at b.stmts (names w ∷ ends give.end ∷ rest) count placed)

kind-marked : (es before after : List Marks) (exprs at head : ℕ) (kind : StmtKind) (rest : List Mark) → length before ≡ at → KindPlaced exprs at kind → kind_marks es (before ++ after) head kind rest ≡ kind_marks es before head kind rest
kind-marked es before after exprs at head (DeclareStmt t x) rest count placed = refl
kind-marked es before after exprs at head (AssignStmt t x r) rest count placed = ap (λ ms. names x ∷ ms) (rhs-marked es before after exprs at head r rest count placed)
kind-marked es before after exprs at head (SetField y f a) rest count placed = refl
kind-marked es before after exprs at head (SetItem y i e) rest count placed = refl
kind-marked es before after exprs at head (CallStmt c) rest count placed = refl
kind-marked es before after exprs at head (PrintStmt e) rest count placed = refl
kind-marked es before after exprs at head (IfStmt e a b) rest count placed =
    ap (λ ms. marks_at es e (ends head ∷ ms))
    (marks-front before after at a.stmts (block_marks (before ++ after) (else_stmts b) rest) count placed.1
    ∙ ap (block_marks before a.stmts) (marks-front before after at (else_stmts b) rest count (else-below at b placed.2)))
kind-marked es before after exprs at head (WhileStmt e a) rest count placed = ap (λ ms. marks_at es e (ends head ∷ ms)) (marks-front before after at a.stmts rest count placed.1)
kind-marked es before after exprs at head (ParStmt a b) rest count placed =
    ap (λ ms. ends head ∷ ms)
    (marks-front before after at a.stmts (block_marks (before ++ after) b.stmts rest) count placed.0
    ∙ ap (block_marks before a.stmts) (marks-front before after at b.stmts rest count placed.1))

-- where the parts end
abbrev pub ends_of : List Entry → List Mark
ends_of es = map (λ e. ends e.at.end) es

ends-append : (xs ys : List Entry) (ms : List Mark) → ends_of (xs ++ ys) ++ ms ≡ ends_of xs ++ (ends_of ys ++ ms)
ends-append xs ys ms = ap (λ ks. ks ++ ms) (map-append (λ (e : Entry). ends e.at.end) xs ys) ∙ append_assoc (ends_of xs) (ends_of ys) ms

-- marks rise wherever others do
abbrev pub Follow : List Mark → List Mark → Type 0
Follow rest behind = (hi : ℕ) → IsRising hi rest → IsRising hi behind

-- ---------- statements ----------
module _ (k : Setting) (placed : IsPlaced k.tables.program) where
  abbrev stmts : List Stmt
  stmts = k.tables.program.stmts

  abbrev es : List Marks
  es = all_expr_marks k.tables.program.exprs

  abbrev ms : List Marks
  ms = all_stmt_marks k.tables.program.exprs stmts

  pass : AllPass es
  pass = exprs-pass [] k.tables.program.exprs tt

  stmt-marked : (j : ℕ) (s : Stmt) (rest : List Mark) → slice_get stmts j ≡ Some s → marks_at ms j rest ≡ stmt_marks es ms s rest
  stmt-marked j s rest here =
      ap
      (λ (m : Marks). m rest)
      (entries_of-at (stmt_marks es) stmts j s (λ ms. ms) here
      (λ before after count i r. kind-marked es before after (length k.tables.program.exprs) j s.head.end s.kind (ends s.span.end ∷ r) count (placed.stmts j s here) i))

  -- where the marks of a code rise, so do the ends of its parts
  abbrev Ordered : Marks → (Code → Code) → Type 0
  Ordered m f = (c : Context) (G : Vars) (lo : ℕ) (rest behind : List Mark) → Follow rest behind → IsRising lo (m rest) → IsRising lo (ends_of (entries c (f End) G) ++ behind)

  abbrev BlockOrdered : ℕ → Type 0
  BlockOrdered n = (is : List ℕ) → AllBelow n is → (last : Code) (c : Context) (G : Vars) (lo : ℕ) (rest behind : List Mark)
      → ((K : Vars) (hi : ℕ) → IsRising hi rest → IsRising hi (ends_of (entries c last K) ++ behind)) → IsRising lo (block_marks ms is rest) → IsRising lo (ends_of (entries c (block_code k is last) G) ++ behind)

  block-ordered : (n : ℕ) → n ≤ length stmts → ((j : ℕ) → j < n → Ordered (marks_at ms j) (stmt_code k j)) → BlockOrdered n
  block-ordered n room all [] below last c G lo rest behind closing rise = closing G lo rise
  block-ordered n room all (i ∷ is) below last c G lo rest behind closing rise =
      go (element-there stmts i (let small : i < n = below.0 in omega arith)) (λ K hi r. block-ordered n room all is below.1 last c K hi rest behind closing r)
    where
      go : (s : Stmt) × (slice_get stmts i ≡ Some s) → ((K : Vars) → Follow (block_marks ms is rest) (ends_of (entries c (block_code k is last) K) ++ behind)) → IsRising lo (ends_of (entries c (block_code k (i ∷ is) last) G) ++ behind)
      go (s, here) later = on (stmt-splits k placed c i s G here)
        where
          on : Splits c (stmt_code k i) G → IsRising lo (ends_of (entries c (block_code k (i ∷ is) last) G) ++ behind)
          on (K, left, splits) =
              subst (λ xs. IsRising lo (ends_of xs ++ behind)) (sym (splits (block_code k is last)))
              (subst (IsRising lo) (sym (ends-append (entries c (stmt_code k i End) G) (entries c (block_code k is last) K) behind))
              (all i below.0 c G lo (block_marks ms is rest) (ends_of (entries c (block_code k is last) K) ++ behind) (later K) rise))

  module _ (n : ℕ) (s : Stmt) (blocks : BlockOrdered n) (c : Context) (G : Vars) (rest behind : List Mark) (follow : Follow rest behind) where
    -- behind the end of the statement
    closed : Follow (ends s.span.end ∷ rest) behind
    closed hi rise = rising-less hi s.span.end behind rise.0 (follow s.span.end rise.1)

    simple : (lo : ℕ) → IsRising lo (ends s.span.end ∷ rest) → IsRising lo (ends s.span.end ∷ behind)
    simple lo rise = (rise.0, follow s.span.end rise.1)

    one : (b : Block) → AllBelow n b.stmts → (d : Context) (K : Vars) (last : Code) (back : List Mark) → ((L : Vars) (hi : ℕ) → IsRising hi back → IsRising hi (ends_of (entries d last L) ++ behind))
        → Follow (block_marks ms b.stmts back) (ends_of (entries d (block_code k b.stmts last) K ++ []) ++ behind)
    one b below d K last back closing lo rise =
        subst (λ xs. IsRising lo (ends_of xs ++ behind)) (sym (append-nil (entries d (block_code k b.stmts last) K))) (blocks b.stmts below last d K lo back behind closing rise)

    two : (is js : List ℕ) → AllBelow n is → AllBelow n js
        → Follow (block_marks ms is (block_marks ms js (ends s.span.end ∷ rest))) (ends_of (entries c (block_code k is End) G ++ (entries c (block_code k js End) G ++ [])) ++ behind)
    two is js left right lo rise =
        subst (IsRising lo) (sym (ends-append (entries c (block_code k is End) G) (entries c (block_code k js End) G ++ []) behind))
        (subst (λ xs. IsRising lo (ends_of (entries c (block_code k is End) G) ++ (ends_of xs ++ behind))) (sym (append-nil (entries c (block_code k js End) G)))
        (blocks is left End c G lo (block_marks ms js (ends s.span.end ∷ rest)) (ends_of (entries c (block_code k js End) G) ++ behind)
        (λ K hi r. blocks js right End c G hi (ends s.span.end ∷ rest) behind (λ L at q. closed at q) r) rise))

    rhs-ordered : (exprs lo x : ℕ) (r : Rhs) → RhsPlaced exprs n r → IsRising lo (rhs_marks es ms s.head.end r (ends s.span.end ∷ rest)) → IsRising lo (ends_of (entries c (assignment k (codes_of k) s x r End) G) ++ behind)
    rhs-ordered exprs lo x (Value a) below rise = simple lo (arg-passes es pass a lo (ends s.span.end ∷ rest) rise)
    rhs-ordered exprs lo x (Field y f) below rise = simple lo (past-name f lo (ends s.span.end ∷ rest) (past-name y lo (names f ∷ ends s.span.end ∷ rest) rise))
    rhs-ordered exprs lo x (TakeRhs y f) below rise = simple lo (past-name f lo (ends s.span.end ∷ rest) (past-name y lo (names f ∷ ends s.span.end ∷ rest) rise))
    rhs-ordered exprs lo x (Item y e) below rise = simple lo (pass-at es e pass lo (ends s.span.end ∷ rest) (past-name y lo (marks_at es e (ends s.span.end ∷ rest)) rise))
    rhs-ordered exprs lo x (New m) below rise = simple lo (past-name m lo (ends s.span.end ∷ rest) rise)
    rhs-ordered exprs lo x (NewArrayRhs e) below rise = simple lo (pass-at es e pass lo (ends s.span.end ∷ rest) rise)
    rhs-ordered exprs lo x (CallRhs m) below rise = simple lo (call-passes es pass m lo (ends s.span.end ∷ rest) rise)
    rhs-ordered exprs lo x (RecoverRhs b w give) below rise = (
      rise.0,
      one b below _ G (Give give (var_at k w) x) (names w ∷ ends give.end ∷ ends s.span.end ∷ rest)
          (λ L hi r. let q = past-name w hi (ends give.end ∷ ends s.span.end ∷ rest) r in (q.0, closed give.end q.1)) s.head.end rise.1,
    )

    kind-ordered : (exprs lo : ℕ) (kind : StmtKind) → KindPlaced exprs n kind → IsRising lo (kind_marks es ms s.head.end kind (ends s.span.end ∷ rest)) → IsRising lo (ends_of (entries c (kind_code k (codes_of k) s kind End) G) ++ behind)
    kind-ordered exprs lo (DeclareStmt t x) below rise = simple lo (past-name x lo (ends s.span.end ∷ rest) rise)
    kind-ordered exprs lo (AssignStmt t x r) below rise = rhs-ordered exprs lo (var_at k x) r below (past-name x lo (rhs_marks es ms s.head.end r (ends s.span.end ∷ rest)) rise)
    kind-ordered exprs lo (SetField y f a) below rise =
        simple lo (arg-passes es pass a lo (ends s.span.end ∷ rest) (past-name f lo (arg_marks es a (ends s.span.end ∷ rest)) (past-name y lo (names f ∷ arg_marks es a (ends s.span.end ∷ rest)) rise)))
    kind-ordered exprs lo (SetItem y i e) below rise =
        simple lo (pass-at es e pass lo (ends s.span.end ∷ rest) (pass-at es i pass lo (marks_at es e (ends s.span.end ∷ rest)) (past-name y lo (marks_at es i (marks_at es e (ends s.span.end ∷ rest))) rise)))
    kind-ordered exprs lo (CallStmt m) below rise = simple lo (call-passes es pass m lo (ends s.span.end ∷ rest) rise)
    kind-ordered exprs lo (PrintStmt e) below rise = simple lo (pass-at es e pass lo (ends s.span.end ∷ rest) rise)
    kind-ordered exprs lo (IfStmt e a b) below rise =
        let blocks_marks : List Mark = block_marks ms a.stmts (block_marks ms (else_stmts b) (ends s.span.end ∷ rest)) in
        let head : IsRising lo (ends s.head.end ∷ blocks_marks) = pass-at es e pass lo (ends s.head.end ∷ blocks_marks) rise in
        (head.0, two a.stmts (else_stmts b) below.1 (else-below n b below.2) s.head.end head.1)
    kind-ordered exprs lo (WhileStmt e a) below rise =
        let head : IsRising lo (ends s.head.end ∷ block_marks ms a.stmts (ends s.span.end ∷ rest)) = pass-at es e pass lo (ends s.head.end ∷ block_marks ms a.stmts (ends s.span.end ∷ rest)) rise in
        (head.0, one a below.1 c _ End (ends s.span.end ∷ rest) (λ L hi r. closed hi r) s.head.end head.1)
    kind-ordered exprs lo (ParStmt a b) below rise = (rise.0, two a.stmts b.stmts below.0 below.1 s.head.end rise.1)

  stmts-ordered : (n : ℕ) → n ≤ length stmts → (j : ℕ) → j < n → Ordered (marks_at ms j) (stmt_code k j)
  stmts-ordered zero room j less c G lo rest behind follow rise = absurd (omega arith)
  stmts-ordered (suc n) room j less c G lo rest behind follow rise =
      go (element-there stmts j (omega arith)) (block-ordered j (omega arith) (λ i small. stmts-ordered n (omega arith) i (omega arith)))
    where
      go : (s : Stmt) × (slice_get stmts j ≡ Some s) → BlockOrdered j → IsRising lo (ends_of (entries c (stmt_code k j End) G) ++ behind)
      go (s, here) blocks =
          subst (λ a. IsRising lo (ends_of (entries c a G) ++ behind)) (sym (stmt_code-is k j s End placed here))
          (kind-ordered j s blocks c G rest behind follow (length k.tables.program.exprs) lo s.kind (placed.stmts j s here) (subst (IsRising lo) (stmt-marked j s rest here) rise))

  pub body-ordered : BlockOrdered (length stmts)
  body-ordered = block-ordered (length stmts) (le_refl (length stmts)) (stmts-ordered (length stmts) (le_refl (length stmts)))

-- ---------- methods ----------
module _ (u : Tables) (is : IsResolved u) where
  -- where the marks of a method and others behind them rise, so do the ends of its parts and what follows the others
  method-ordered : (t : MethodTable) (d : Method) → method_of u.program t ≡ Some d → (lo : ℕ) (rest behind : List Mark) → Follow rest behind → IsRising lo (method_marks u.program.exprs u.program.stmts d rest)
      → IsRising lo (ends_of (method_entries (code_of u) (routine u t d)) ++ behind)
  method-ordered t d there lo rest behind follow rise =
      let exprs : List Marks = all_expr_marks u.program.exprs in
      let marks : List Marks = all_stmt_marks u.program.exprs u.program.stmts in
      let back : List Mark = arg_marks exprs d.back (ends d.span.end ∷ rest) in
      body-ordered (setting u t.vars) is.formed.placed d.body.stmts (IsResolved-method u t d is there).0.0 (Return d.span (argument (setting u t.vars) d.back)) (context (code_of u) (routine u t d)) (first_live (routine u t d)) lo back behind
      (λ K hi q. let last = arg-passes exprs (exprs-pass [] u.program.exprs tt) d.back hi (ends d.span.end ∷ rest) q in (last.0, follow d.span.end last.1))
      (params-pass d.params lo (block_marks marks d.body.stmts back) (past-name d.name lo (params_marks d.params (block_marks marks d.body.stmts back)) rise))

  -- so it is of methods with their tables, one behind the other
  methods-ordered : (ts : List MethodTable) (ds : List Method) → AreTables u.program ts ds → (lo : ℕ) → IsRising lo (methods_marks u.program.exprs u.program.stmts ds []) → IsRising lo (ends_of (flat_map (method_entries (code_of u)) (routines_of u ts)))
  methods-ordered [] [] are lo rise = tt
  methods-ordered [] (d ∷ ds) are lo rise = absurd are
  methods-ordered (t ∷ ts) [] are lo rise = absurd are
  methods-ordered (t ∷ ts) (d ∷ ds) are lo rise =
      let here : List Entry = method_entries (code_of u) (routine u t d) in
      let later : List Entry = flat_map (method_entries (code_of u)) (routines_of u ts) in
      subst (λ o. IsRising lo (ends_of (flat_map (method_entries (code_of u)) (routine_if u t o ++ routines_of u ts)))) (sym are.0.0)
      (subst (IsRising lo) (sym (map-append (λ (e : Entry). ends e.at.end) here later))
      (method-ordered t d are.0.0 lo (methods_marks u.program.exprs u.program.stmts ds []) (ends_of later) (λ hi r. methods-ordered ts ds are.1 hi r) rise))

-- ---------- units ----------
pub unit-in-order : UnitInOrder
unit-in-order u is = methods-ordered u is u.tables (methods_of u.program) (subst (λ ts. AreTables u.program ts (methods_of u.program)) (sym is.tables) (tables_of-are u.program)) 0 is.formed.orderly.ordered

pub parts-in-order : PartsInOrder
parts-in-order u m r is here = by-table (routine-table u u.tables m r (subst (AllMethods u.program) (sym is.tables) (tables_of-methods u.program)) here)
  where
    by-table : HasTable u u.tables m r → IsRising 0 (ends_of (method_entries (code_of u) r))
    by-table (t, d, there, table, same) =
        let rises : MethodRises u.program.exprs u.program.stmts d = (IsResolved-method u t d is table.0).1 in
        subst (λ (q : Routine). IsRising 0 (ends_of (method_entries (code_of u) q))) same
        (subst (IsRising 0) (append-nil (ends_of (method_entries (code_of u) (routine u t d)))) (method-ordered u is t d table.0 0 rises.rest [] (λ hi q. tt) rises.rise))

methods-at-first : (u : UnitCode) (rs : List Routine) → methods_refusal u rs ≡ first_error (flat_map (method_entries u) rs)
methods-at-first u [] = refl
methods-at-first u (r ∷ rs) = ap (or_later (method_refusal u r)) (methods-at-first u rs) ∙ sym (first_error-append (method_entries u r) (flat_map (method_entries u) rs))

pub refused-at-first : RefusedAtFirst
refused-at-first u = methods-at-first u u.routines
