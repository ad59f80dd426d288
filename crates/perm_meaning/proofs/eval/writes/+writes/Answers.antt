use Rattle.std.proofs.Common.{◌≡◌, ◌∙◌, ℕ, ◌+◌, ◌<◌, ◌≤◌, Bool, false, List, Some, drop, get_or, length, refl, sym, ap, subst, arith}
use Rattle.std.specs.Prelude.{◌||◌, nat_lt, slice_get}
use Rattle.std.proofs.lemmas.Bool.Decides.{nat_tests}
use Rattle.std.proofs.lemmas.Option.{slice_get-get_or}
use Rattle.perm_tree.specs.declared.ast.Stmt.{Stmt}
use Rattle.perm_tree.specs.Code.{Code}
use Rattle.perm_tree.specs.CodeOf.{block_code}
use Rattle.perm_tree.specs.InBody.{setting_at}
use Rattle.perm_tree.specs.Mentions.{written}
use Rattle.perm_tree.specs.Places.{IsPlaced, Listing}
use Rattle.perm_meaning.proofs.Evaluator.Writes.{AreWriting, below-top, first-top, from-end, from-stmt, no-stmt, second-top, stmt-writes, top}
use Rattle.perm_meaning.proofs.eval.writes.+writes.Goals as goal

-- a number that doesn't pass the test isn't below
past : (a b : ℕ) → false ≡ nat_lt a b → b ≤ a
past a b e = grind (arith, nat_tests)

-- the statement that is read stands there
there : (xs ys zs : List Stmt) (at : ℕ) (d s : Stmt) → xs ≡ ys → ys ≡ zs → at < length xs → s ≡ get_or xs at d → slice_get zs at ≡ Some s
there xs ys zs at d s one two within is = subst (λ (l : List Stmt). slice_get l at ≡ Some s) (one ∙ two) (subst (λ (t : Stmt). slice_get xs at ≡ Some t) (sym is) (slice_get-get_or xs at d within))

pub some_writes-writes_at-requires : goal.some_writes-writes_at-requires
some_writes-writes_at-requires t c = (omega (arith, c.decreases, below-top c.args.stmts.now c.stmts.at-index c.stmts-test.true), tt)

pub some_writes-returns-then-writes_at : goal.some_writes-returns-then-writes_at
some_writes-returns-then-writes_at t c end =
    let k = setting_at c.args.unit.now c.args.«method» in
    let rest : Code = block_code k (drop (c.stmts.at-index + 1) c.args.stmts.now) end in
    c.stmts.invariant end ∙ from-stmt k c.args.stmts.now c.stmts.at-index c.args.x end c.stmts-test.true ∙ c.writes_at.ensures rest ∙ ap (λ (b : Bool). b || written rest c.args.x) c.if-writes_at.true

pub some_writes-stmts-preserved : goal.some_writes-stmts-preserved
some_writes-stmts-preserved t c end =
    let k = setting_at c.args.unit.now c.args.«method» in
    let rest : Code = block_code k (drop (c.stmts.at-index + 1) c.args.stmts.now) end in
    c.stmts.invariant end ∙ from-stmt k c.args.stmts.now c.stmts.at-index c.args.x end c.stmts-test.true ∙ c.writes_at.ensures rest ∙ ap (λ (b : Bool). b || written rest c.args.x) c.if-writes_at.false

pub some_writes-returns : goal.some_writes-returns
some_writes-returns t c end = c.stmts.invariant end ∙ from-end (setting_at c.args.unit.now c.args.«method») c.args.stmts.now c.stmts.at-index c.args.x end c.stmts-test.false

pub writes_at-returns-in_default : goal.writes_at-returns-in_default
writes_at-returns-in_default t c rest =
    let u = c.args.unit.now in
    ap (λ (e : Code). written e c.args.x)
    (no-stmt (setting_at u c.args.«method») c.args.at rest
    (subst (λ (l : List Stmt). length l ≤ c.args.at) (c.stmts.ensures.value ∙ ap (λ (p : Listing). p.stmts) c.program.ensures) (past c.args.at (length c.stmts.result.now) c.in_default.ensures.lookup.0)))

pub writes_at-some_writes-first-requires : goal.writes_at-some_writes-first-requires
writes_at-some_writes-first-requires t c =
    let s : Stmt = c.in-Some.stmt.now in
    let program = c.program.result.now in
    let here : slice_get program.stmts c.args.at ≡ Some s = there c.stmts.result.now program.stmts program.stmts c.args.at _ s c.stmts.ensures.value refl c.in-Some.ensures.lookup.3.0 c.in-Some.ensures.lookup.1 in
    (omega (arith, c.decreases, ap top c.first_of.ensures, first-top (length program.exprs) c.args.at s.kind (c.stmts.ensures.placed.stmts c.args.at s here)), tt)

pub writes_at-some_writes-second-requires : goal.writes_at-some_writes-second-requires
writes_at-some_writes-second-requires t c =
    let s : Stmt = c.in-Some.stmt.now in
    let program = c.program.result.now in
    let here : slice_get program.stmts c.args.at ≡ Some s = there c.stmts.result.now program.stmts program.stmts c.args.at _ s c.stmts.ensures.value refl c.in-Some.ensures.lookup.3.0 c.in-Some.ensures.lookup.1 in
    (omega (arith, c.decreases, ap top c.second_of.ensures, second-top (length program.exprs) c.args.at s.kind (c.stmts.ensures.placed.stmts c.args.at s here)), tt)

pub writes_at-returns : goal.writes_at-returns
writes_at-returns t c rest =
    let u = c.args.unit.now in
    let k = setting_at u c.args.«method» in
    let s : Stmt = c.in-Some.stmt.now in
    let here : slice_get u.program.stmts c.args.at ≡ Some s =
    there c.stmts.result.now c.program.result.now.stmts u.program.stmts c.args.at _ s c.stmts.ensures.value (ap (λ (p : Listing). p.stmts) c.program.ensures) c.in-Some.ensures.lookup.3.0 c.in-Some.ensures.lookup.1 in
    stmt-writes k c.args.at c.args.x s c.some_writes-first.result c.some_writes-second.result rest (subst IsPlaced c.program.ensures c.stmts.ensures.placed) here
    (subst (λ (is : List ℕ). AreWriting k is c.args.x c.some_writes-first.result) c.first_of.ensures c.some_writes-first.ensures)
    (subst (λ (is : List ℕ). AreWriting k is c.args.x c.some_writes-second.result) c.second_of.ensures c.some_writes-second.ensures)
    ∙ ap (λ (b : Bool). b || written rest c.args.x) (sym c.stmt_writes.ensures)
