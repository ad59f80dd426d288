-- The variables of a resolved unit stand in text order, and their scopes nest.
use Rattle.std.proofs.Common.{◌≡◌, ℕ, zero, suc, ◌+◌, ◌<◌, ◌≤◌, List, [], ◌∷◌, ◌++◌, length, Option, Some, None, refl, sym, ap, subst, ◌∙◌, arith, length-append, add-zero}
use borrow.Author.Count.{below_more}
use Rattle.std.specs.Prelude.{All, map, flat_map, get_or, slice_get}
use Rattle.std.proofs.Math.ListN.{get_or-append}
use Rattle.std.proofs.Math.Seq.{get_or-append_seam}
use Rattle.std.proofs.lemmas.List.Elements.{All-nil, All-cons, All-append}
use Rattle.perm_tree.specs.declared.ast.Block.{Block}
use Rattle.perm_tree.specs.declared.ast.ClassDecl.{ClassDecl}
use Rattle.perm_tree.specs.declared.ast.FieldDecl.{FieldDecl}
use Rattle.perm_tree.specs.declared.ast.Method.{Method}
use Rattle.perm_tree.specs.declared.ast.Rhs.{Rhs}
use Rattle.perm_tree.specs.declared.ast.Rhs.TheVariants.{Value, Field, TakeField, Item, New, NewArray, Call as CallRhs, Recover}
use Rattle.perm_tree.specs.declared.ast.Stmt.{Stmt}
use Rattle.perm_tree.specs.declared.ast.StmtKind.{StmtKind}
use Rattle.perm_tree.specs.declared.ast.StmtKind.TheVariants.{Declare, Assign, SetField, SetItem, Call as CallStmt, Print, If, While, Par}
use Rattle.perm_tree.specs.declared.unit.MethodTable.{MethodTable}
use Rattle.perm_tree.specs.declared.unit.VarInfo.{VarInfo}
use Rattle.perm_tree.specs.Entries.{entries_from}
use Rattle.perm_tree.specs.Nesting.{AreNested, AllNested}
use Rattle.perm_tree.specs.Places.{Listing, IsPlaced, AllBelow, ElseBelow, RhsPlaced, KindPlaced, MethodPlaced, ClassPlaced}
use Rattle.perm_tree.specs.Resolves.{IsResolved}
use Rattle.perm_tree.specs.Scopes.{declared_by, declared_if, known_until, end_if, block_end, block_vars, braced_vars, else_stmts, rhs_vars, inner_vars, all_inner, this_var, param_var, method_vars, class_tables, tables_from}
use Rattle.perm_tree.specs.TextOrder.{Mark, names, ends, IsRising, Marks, all_expr_marks, marks_at, arg_marks, block_marks, rhs_marks, kind_marks, stmt_marks, all_stmt_marks, params_marks, method_marks, methods_marks}
use Rattle.perm_tree.specs.UnitTables.{Tables}
use Rattle.perm_tree.proofs.MethodMarks.{methods-append}
use Rattle.perm_tree.proofs.Passing.{rising-less, AllPass, past-name, pass-at, exprs-pass, arg-passes, call-passes, method-passes, methods-pass}
use Rattle.perm_tree.proofs.ScopeRows.{Laid, Opens, laid-nil, laid-more, laid-append, laid-cons, laid-nested, opens-room, opens-laid}

-- two names
past-two : (lo a b : ℕ) (ms : List Mark) → lo ≤ a → suc a ≤ b → IsRising (suc b) ms → IsRising lo ms
past-two lo a b ms low next rise = rising-less lo (suc b) ms (omega arith) rise

-- ---------- statements ----------
-- the variables of a part, and behind them the other marks
abbrev Part : ℕ → List Mark → List VarInfo → Type 0
Part lo rest vars = (hi : ℕ) × Laid lo lo hi vars × IsRising hi rest

part-two : (lo : ℕ) (rest : List Mark) (vs ws : List VarInfo) (mid : ℕ) → Laid lo lo mid vs → Part mid rest ws → Part lo rest (vs ++ ws)
part-two lo rest vs ws mid here (hi, later, rise) = (hi, laid-append lo mid hi vs ws here later, rise)

-- a part of a statement that ends at a place
abbrev Closed : ℕ → ℕ → List Mark → List VarInfo → Type 0
Closed lo end rest vars = Laid lo lo end vars × IsRising end rest

closes : (lo end : ℕ) (rest : List Mark) (vars : List VarInfo) → Part lo (ends end ∷ rest) vars → Closed lo end rest vars
closes lo end rest vars (hi, laid, rise) = let low : hi ≤ end = rise.0 in (laid-more lo lo hi lo lo end vars (omega arith) (omega arith) low laid, rise.1)

closed-from : (lo from end : ℕ) (rest : List Mark) (vars : List VarInfo) → lo ≤ from → Closed from end rest vars → Closed lo end rest vars
closed-from lo from end rest vars less is = (laid-more from from end lo lo end vars less less (omega arith) is.0, is.1)

plain : (lo end : ℕ) (rest : List Mark) → IsRising lo (ends end ∷ rest) → Closed lo end rest []
plain lo end rest rise = (laid-nil lo lo end rise.0, rise.1)

-- the marks of a statement tell where it ends, and how its variables lie
abbrev TellsOf : Stmt → Marks → List VarInfo → Type 0
TellsOf s m vars = (lo : ℕ) (rest : List Mark) → IsRising lo (m rest) → Opens lo s.span.end (declared_by s.kind) vars × IsRising s.span.end rest

module _ (exprs : List Marks) (pass : AllPass exprs) (stmts : List Stmt) where
  -- so do the marks at a place
  abbrev IsTold : List Marks → List (List VarInfo) → ℕ → Type 0
  IsTold marks inner k = (s : Stmt) × (slice_get stmts k ≡ Some s) × TellsOf s (get_or marks k (λ ms. ms)) (get_or inner k [])

  module _ (marks : List Marks) (inner : List (List VarInfo)) (n : ℕ) (all : (k : ℕ) → k < n → IsTold marks inner k) where
    -- where a block ends, what stands behind it, and how its variables lie
    abbrev BlockTold : ℕ → List Mark → ℕ → (ℕ → List VarInfo) → Type 0
    BlockTold lo rest hi vars = (lo ≤ hi) × IsRising hi rest × ((end : ℕ) → hi ≤ end → Laid lo lo end (vars end))

    block-told : (lo : ℕ) (is : List ℕ) (rest : List Mark) → AllBelow n is → IsRising lo (block_marks marks is rest)
        → BlockTold lo rest (block_end stmts lo is) (λ end. block_vars stmts inner end is)
    block-told lo [] rest below rise = (omega arith, rise, λ end less. laid-nil lo lo end less)
    block-told lo (i ∷ is) rest below rise = go (all i below.0) (λ from r. block-told from is rest below.1 r)
      where
        go : IsTold marks inner i → ((from : ℕ) → IsRising from (block_marks marks is rest) → BlockTold from rest (block_end stmts from is) (λ end. block_vars stmts inner end is))
            → BlockTold lo rest (block_end stmts lo (i ∷ is)) (λ end. block_vars stmts inner end (i ∷ is))
        go (s, here, tells) more =
            let told : Opens lo s.span.end (declared_by s.kind) (get_or inner i []) × IsRising s.span.end (block_marks marks is rest) = tells lo (block_marks marks is rest) rise in
            let room : lo ≤ s.span.end = opens-room lo s.span.end (declared_by s.kind) (get_or inner i []) told.0 in
            let later : BlockTold s.span.end rest (block_end stmts s.span.end is) (λ end. block_vars stmts inner end is) = more s.span.end told.1 in
            subst
            (λ (o : Option Stmt). BlockTold lo rest (block_end stmts (end_if lo o) is) (λ end. map (known_until end) (declared_if o) ++ (get_or inner i [] ++ block_vars stmts inner end is)))
            (sym here) (
              omega arith,
              later.1,
              λ end less. opens-laid lo s.span.end end (declared_by s.kind) (get_or inner i []) (block_vars stmts inner end is) told.0 (later.2 end less),
            )

    -- a block in braces
    braced-told : (lo : ℕ) (is : List ℕ) (rest : List Mark) → AllBelow n is → IsRising lo (block_marks marks is rest) → Part lo rest (braced_vars stmts inner is)
    braced-told lo [] rest below rise = (lo, laid-nil lo lo lo (omega arith), rise)
    braced-told lo (i ∷ is) rest below rise = go (all i below.0) (block-told lo (i ∷ is) rest below rise)
      where
        go : IsTold marks inner i → BlockTold lo rest (block_end stmts lo (i ∷ is)) (λ end. block_vars stmts inner end (i ∷ is)) → Part lo rest (braced_vars stmts inner (i ∷ is))
        go (s, here, tells) told =
            let hi = block_end stmts lo (i ∷ is) in
            let same : hi ≡ block_end stmts 0 (i ∷ is) = ap (λ (o : Option Stmt). block_end stmts (end_if lo o) is) here ∙ sym (ap (λ (o : Option Stmt). block_end stmts (end_if 0 o) is) here) in
            (hi, subst (λ e. Laid lo lo hi (block_vars stmts inner e (i ∷ is))) same (told.2 hi (omega arith)), told.1)

    two-told : (lo : ℕ) (is js : List ℕ) (rest : List Mark) → AllBelow n is → AllBelow n js → IsRising lo (block_marks marks is (block_marks marks js rest))
        → Part lo rest (braced_vars stmts inner is ++ braced_vars stmts inner js)
    two-told lo is js rest below under rise = go (braced-told lo is (block_marks marks js rest) below rise)
      where
        go : Part lo (block_marks marks js rest) (braced_vars stmts inner is) → Part lo rest (braced_vars stmts inner is ++ braced_vars stmts inner js)
        go (mid, here, r) = part-two lo rest (braced_vars stmts inner is) (braced_vars stmts inner js) mid here (braced-told mid js rest under r)

    else-below : (b : Option Block) → ElseBelow n b → AllBelow n (else_stmts b)
    else-below None below = below
    else-below (Some b) below = below

    -- a right side
    rhs-told : (count lo head end : ℕ) (r : Rhs) (rest : List Mark) → RhsPlaced count n r → IsRising lo (rhs_marks exprs marks head r (ends end ∷ rest)) → Closed lo end rest (rhs_vars stmts inner r)
    rhs-told count lo head end (Value a) rest placed rise = plain lo end rest (arg-passes exprs pass a lo (ends end ∷ rest) rise)
    rhs-told count lo head end (Field y f) rest placed rise = plain lo end rest (past-two lo y.span.start f.span.start (ends end ∷ rest) rise.0 rise.1.0 rise.1.1)
    rhs-told count lo head end (TakeField y f) rest placed rise = plain lo end rest (past-two lo y.span.start f.span.start (ends end ∷ rest) rise.0 rise.1.0 rise.1.1)
    rhs-told count lo head end (Item y e) rest placed rise =
        plain lo end rest (pass-at exprs e pass lo (ends end ∷ rest) (past-name y lo (marks_at exprs e (ends end ∷ rest)) rise))
    rhs-told count lo head end (New c) rest placed rise = plain lo end rest (past-name c lo (ends end ∷ rest) rise)
    rhs-told count lo head end (NewArray e) rest placed rise = plain lo end rest (pass-at exprs e pass lo (ends end ∷ rest) rise)
    rhs-told count lo head end (CallRhs c) rest placed rise = plain lo end rest (call-passes exprs pass c lo (ends end ∷ rest) rise)
    rhs-told count lo head end (Recover b w give) rest placed rise =
        let told : BlockTold head (names w ∷ ends give.end ∷ ends end ∷ rest) (block_end stmts head b.stmts) (λ e. block_vars stmts inner e b.stmts) =
        block-told head b.stmts (names w ∷ ends give.end ∷ ends end ∷ rest) placed rise.1 in
        let at_w : block_end stmts head b.stmts ≤ w.span.start = told.1.0 in
        let at_give : suc w.span.start ≤ give.end = told.1.1.0 in
        let at_end : give.end ≤ end = told.1.1.1.0 in
        let vars = block_vars stmts inner give.end b.stmts in
        let laid : Laid head head give.end vars = told.2 give.end (omega arith) in
        (laid-more head head give.end lo lo end vars rise.0 rise.0 at_end laid, told.1.1.1.1)

    -- a statement
    kind-told : (count lo head end : ℕ) (kind : StmtKind) (rest : List Mark) → KindPlaced count n kind → IsRising lo (kind_marks exprs marks head kind (ends end ∷ rest))
        → Opens lo end (declared_by kind) (inner_vars stmts inner kind) × IsRising end rest
    kind-told count lo head end (Declare t x) rest placed rise = let is : Closed (suc x.span.start) end rest [] = plain (suc x.span.start) end rest rise.1 in ((rise.0, is.0), is.1)
    kind-told count lo head end (Assign None x r) rest placed rise =
        let from : lo ≤ x.span.start = rise.0 in
        closed-from lo (suc x.span.start) end rest (rhs_vars stmts inner r) (omega arith) (rhs-told count (suc x.span.start) head end r rest placed rise.1)
    kind-told count lo head end (Assign (Some t) x r) rest placed rise =
        let is : Closed (suc x.span.start) end rest (rhs_vars stmts inner r) = rhs-told count (suc x.span.start) head end r rest placed rise.1 in
        ((rise.0, is.0), is.1)
    kind-told count lo head end (SetField y f a) rest placed rise =
        plain lo end rest (arg-passes exprs pass a lo (ends end ∷ rest) (past-two lo y.span.start f.span.start (arg_marks exprs a (ends end ∷ rest)) rise.0 rise.1.0 rise.1.1))
    kind-told count lo head end (SetItem y i e) rest placed rise =
        let on : IsRising lo (marks_at exprs i (marks_at exprs e (ends end ∷ rest))) = past-name y lo (marks_at exprs i (marks_at exprs e (ends end ∷ rest))) rise in
        plain lo end rest (pass-at exprs e pass lo (ends end ∷ rest) (pass-at exprs i pass lo (marks_at exprs e (ends end ∷ rest)) on))
    kind-told count lo head end (CallStmt c) rest placed rise = plain lo end rest (call-passes exprs pass c lo (ends end ∷ rest) rise)
    kind-told count lo head end (Print e) rest placed rise = plain lo end rest (pass-at exprs e pass lo (ends end ∷ rest) rise)
    kind-told count lo head end (If e a b) rest placed rise =
        let blocks = block_marks marks a.stmts (block_marks marks (else_stmts b) (ends end ∷ rest)) in
        let on : IsRising lo (ends head ∷ blocks) = pass-at exprs e pass lo (ends head ∷ blocks) rise in
        closes lo end rest (inner_vars stmts inner (If e a b)) (two-told lo a.stmts (else_stmts b) (ends end ∷ rest) placed.1 (else-below b placed.2) (rising-less lo head blocks on.0 on.1))
    kind-told count lo head end (While e a) rest placed rise =
        let blocks = block_marks marks a.stmts (ends end ∷ rest) in
        let on : IsRising lo (ends head ∷ blocks) = pass-at exprs e pass lo (ends head ∷ blocks) rise in
        closes lo end rest (inner_vars stmts inner (While e a)) (braced-told lo a.stmts (ends end ∷ rest) placed.1 (rising-less lo head blocks on.0 on.1))
    kind-told count lo head end (Par a b) rest placed rise =
        let blocks = block_marks marks a.stmts (block_marks marks b.stmts (ends end ∷ rest)) in
        closes lo end rest (inner_vars stmts inner (Par a b)) (two-told lo a.stmts b.stmts (ends end ∷ rest) placed.0 placed.1 (rising-less lo head blocks rise.0 rise.1))

  -- ---------- all statements ----------
  -- what is told stays so behind it
  old-told : (marks : List Marks) (inner : List (List VarInfo)) (m : Marks) (vars : List VarInfo) (k : ℕ) → length inner ≡ length marks → k < length marks → IsTold marks inner k
      → IsTold (marks ++ m ∷ []) (inner ++ vars ∷ []) k
  old-told marks inner m vars k same before (t, there, tells) = (
    t,
    there,
    subst
        (λ (f : Marks). TellsOf t f (get_or (inner ++ vars ∷ []) k []))
        (sym (get_or-append marks (m ∷ []) (λ ms. ms) k before))
        (subst (λ (vs : List VarInfo). TellsOf t (get_or marks k (λ ms. ms)) vs) (sym (get_or-append inner (vars ∷ []) [] k (omega arith))) tells),
  )

  new-told : (marks : List Marks) (inner : List (List VarInfo)) (m : Marks) (vars : List VarInfo) (s : Stmt) → length inner ≡ length marks → slice_get stmts (length marks) ≡ Some s → TellsOf s m vars
      → IsTold (marks ++ m ∷ []) (inner ++ vars ∷ []) (length marks)
  new-told marks inner m vars s same here tells =
      let read : get_or (inner ++ vars ∷ []) (length marks) [] ≡ vars = subst (λ n. get_or (inner ++ vars ∷ []) n [] ≡ vars) same (get_or-append_seam inner vars [] []) in (
        s,
        here,
        subst
            (λ (f : Marks). TellsOf s f (get_or (inner ++ vars ∷ []) (length marks) []))
            (sym (get_or-append_seam marks m [] (λ ms. ms)))
            (subst (λ (vs : List VarInfo). TellsOf s m vs) (sym read) tells),
      )

  module _ (count : ℕ) (placed : (at : ℕ) (s : Stmt) → slice_get stmts at ≡ Some s → KindPlaced count at s.kind) where
    -- one more statement
    more-told : (marks : List Marks) (inner : List (List VarInfo)) (s : Stmt) → length inner ≡ length marks → slice_get stmts (length marks) ≡ Some s → ((k : ℕ) → k < length marks → IsTold marks inner k)
        → (k : ℕ) → k < length marks + 1 → IsTold (marks ++ stmt_marks exprs marks s ∷ []) (inner ++ inner_vars stmts inner s.kind ∷ []) k
    more-told marks inner s same here all =
        let m : Marks = stmt_marks exprs marks s in
        let vars : List VarInfo = inner_vars stmts inner s.kind in
        let tells : TellsOf s m vars = λ lo rest rise. kind-told marks inner (length marks) all count lo s.head.end s.span.end s.kind rest (placed (length marks) s here) rise in
        below_more
        (λ k. IsTold (marks ++ m ∷ []) (inner ++ vars ∷ []) k)
        (length marks)
        (λ k before. old-told marks inner m vars k same before (all k before))
        (new-told marks inner m vars s same here tells)

    -- so do the marks of all statements
    all-told : (marks : List Marks) (inner : List (List VarInfo)) (xs : List Stmt) → length inner ≡ length marks
        → ((k : ℕ) (s : Stmt) → slice_get xs k ≡ Some s → slice_get stmts (length marks + k) ≡ Some s) → ((k : ℕ) → k < length marks → IsTold marks inner k)
        → (k : ℕ) → k < length marks + length xs → IsTold (entries_from (stmt_marks exprs) marks xs) (entries_from (λ before s. inner_vars stmts before s.kind) inner xs) k
    all-told marks inner [] same there all k within = all k (omega arith)
    all-told marks inner (s ∷ xs) same there all k within =
        let m : Marks = stmt_marks exprs marks s in
        let vars : List VarInfo = inner_vars stmts inner s.kind in
        let long : length (marks ++ m ∷ []) ≡ length marks + 1 = length-append marks (m ∷ []) in
        let wide : length (inner ++ vars ∷ []) ≡ length inner + 1 = length-append inner (vars ∷ []) in
        let here : slice_get stmts (length marks) ≡ Some s = subst (λ n. slice_get stmts n ≡ Some s) (add-zero (length marks)) (there zero s refl) in
        all-told
        (marks ++ m ∷ [])
        (inner ++ vars ∷ [])
        xs
        (omega arith)
        (λ j t q. subst (λ n. slice_get stmts n ≡ Some t) (omega arith) (there (suc j) t q))
        (λ j before. more-told marks inner s same here all j (omega arith))
        k
        (omega arith)

-- ---------- methods ----------
-- the parameters of a method, and behind their names the other variables
params-laid : (d : Method) (fs : List FieldDecl) (lo : ℕ) (rest : List Mark) (vars : List VarInfo) → d.name.span.start < lo → IsRising lo (params_marks fs rest)
    → ((from : ℕ) → d.name.span.start < from → IsRising from rest → Laid d.name.span.start from d.span.end vars) → Laid d.name.span.start lo d.span.end (map (param_var d) fs ++ vars)
params-laid d [] lo rest vars after rise later = later lo after rise
params-laid d (f ∷ fs) lo rest vars after rise later =
    let low : lo ≤ f.name.span.start = rise.0 in
    laid-cons
    (param_var d f)
    d.name.span.start
    d.name.span.start
    lo
    (map (param_var d) fs ++ vars)
    (omega arith)
    (omega arith)
    (omega arith)
    low
    (params-laid d fs (suc f.name.span.start) rest vars (omega arith) rise.1 later)

module _ (p : Listing) (placed : IsPlaced p) where
  abbrev exprs : List Marks
  exprs = all_expr_marks p.exprs

  pass : AllPass exprs
  pass = exprs-pass [] p.exprs tt

  abbrev stmts : List Marks
  stmts = all_stmt_marks p.exprs p.stmts

  abbrev inner : List (List VarInfo)
  inner = all_inner p.stmts

  told : (k : ℕ) → k < length p.stmts → IsTold exprs pass p.stmts stmts inner k
  told k within =
      all-told exprs pass p.stmts (length p.exprs) placed.stmts [] [] p.stmts refl (λ j s q. subst (λ n. slice_get p.stmts n ≡ Some s) (omega arith) q) (λ j none. absurd (omega arith)) k (omega arith)

  -- the variables of a method
  method-nested : (class : ℕ) (d : Method) → MethodPlaced (length p.exprs) (length p.stmts) d → (others : List Mark) → IsRising 0 (method_marks p.exprs p.stmts d others) → AreNested (method_vars p.stmts inner class d)
  method-nested class d below others rise =
      let x = d.name.span.start in
      let body = block_vars p.stmts inner d.span.end d.body.stmts in
      let rest = arg_marks exprs d.back (ends d.span.end ∷ others) in
      let later : (from : ℕ) → x < from → IsRising from (block_marks stmts d.body.stmts rest) → Laid x from d.span.end body = λ from after r.
      let block = block-told exprs pass p.stmts stmts inner (length p.stmts) told from d.body.stmts rest below.0 r in
      let back : IsRising (block_end p.stmts from d.body.stmts) (ends d.span.end ∷ others) = arg-passes exprs pass d.back (block_end p.stmts from d.body.stmts) (ends d.span.end ∷ others) block.1 in
      laid-more from from d.span.end x from d.span.end body (omega arith) (omega arith) (omega arith) (block.2 d.span.end back.0) in
      laid-nested
      x
      x
      d.span.end
      (method_vars p.stmts inner class d)
      (
      laid-cons
      (this_var class d)
      x
      x
      x
      (map (param_var d) d.params ++ body)
      (omega arith)
      (omega arith)
      (omega arith)
      (omega arith)
      (params-laid d d.params (suc x) (block_marks stmts d.body.stmts rest) body (omega arith) rise.1 later)
      )

  abbrev Nested : MethodTable → Type 0
  Nested t = AreNested t.vars

  -- ---------- tables ----------
  class-nested : (class m : ℕ) (ds : List Method) → ((j : ℕ) (d : Method) → slice_get ds j ≡ Some d → MethodPlaced (length p.exprs) (length p.stmts) d)
      → (rest : List Mark) → IsRising 0 (methods_marks p.exprs p.stmts ds rest) → All Nested (class_tables p.stmts inner class m ds)
  class-nested class m [] bodies rest rise = All-nil Nested
  class-nested class m (d ∷ ds) bodies rest rise =
      let others = methods_marks p.exprs p.stmts ds rest in
      All-cons
      Nested
      (record { class = class; «method» = m; vars = method_vars p.stmts inner class d })
      (class_tables p.stmts inner class (suc m) ds)
      (method-nested class d (bodies zero d refl) others rise)
      (class-nested class (suc m) ds (λ j e q. bodies (suc j) e q) rest (method-passes p.exprs p.stmts d 0 others rise))

  tables-nested : (k : ℕ) (cs : List ClassDecl) → ((j : ℕ) (c : ClassDecl) → slice_get cs j ≡ Some c → ClassPlaced (length p.exprs) (length p.stmts) c)
      → IsRising 0 (methods_marks p.exprs p.stmts (flat_map (λ c. c.methods) cs) []) → All Nested (tables_from p.stmts inner k cs)
  tables-nested k [] bodies rise = All-nil Nested
  tables-nested k (c ∷ cs) bodies rise =
      let others = methods_marks p.exprs p.stmts (flat_map (λ c. c.methods) cs) [] in
      let split : IsRising 0 (methods_marks p.exprs p.stmts c.methods others) = subst (IsRising 0) (methods-append p.exprs p.stmts c.methods (flat_map (λ c. c.methods) cs) []) rise in
      All-append
      Nested
      (class_tables p.stmts inner k 0 c.methods)
      (tables_from p.stmts inner (suc k) cs)
      (class-nested k 0 c.methods (bodies zero c refl) others split)
      (tables-nested (suc k) cs (λ j e q. bodies (suc j) e q) (methods-pass p.exprs p.stmts c.methods 0 others split))

-- the variables of each method of a resolved unit
pub IsResolved-nested : (u : Tables) → IsResolved u → AllNested u.tables
IsResolved-nested u is =
    subst AllNested (sym is.tables) (tables-nested u.program is.formed.placed 0 u.program.classes (λ j c q. is.formed.placed.bodies j c q) is.formed.orderly.ordered)
