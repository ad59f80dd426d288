use Rattle.std.proofs.Common.{◌≡◌, ℕ, ◌<◌, ◌≤◌, pos, false, Some, get_or, ap, sym, subst, arith, le_refl, length, List}
use Rattle.std.specs.Prelude.{nat_lt, slice_get}
use Rattle.std.proofs.lemmas.Bool.Decides.{nat_tests}
use Rattle.std.proofs.lemmas.Option.{slice_get-get_or}
use Rattle.perm_tree.specs.declared.ast.Expr.{Expr}
use Rattle.perm_tree.specs.declared.ast.Expr.TheVariants.{Number}
use Rattle.perm_tree.specs.Code.{Term}
use Rattle.perm_tree.proofs.LowLaws.{low-le}
use Rattle.perm_meaning.specs.declared.eval.values.Given.{Given}
use Rattle.perm_meaning.specs.Evaluator.Operands.{OperandsAre}
use Rattle.perm_meaning.specs.Expressions.{eval, tagged}
use Rattle.perm_meaning.specs.Evaluator.NumberedValues.{all_by}
use Rattle.perm_meaning.proofs.Evaluator.Operands.{AreFound, made-of, no-term, none-found, one-more}
use Rattle.perm_meaning.proofs.eval.expressions.evaluate.Goals as goal

-- a number that doesn't pass the test isn't below
past : (a b : ℕ) → false ≡ nat_lt a b → b ≤ a
past a b e = grind (arith, nat_tests)

-- the expression that is read stands there
there : (xs ys : List Expr) (at : ℕ) (d : Expr) → xs ≡ ys → at < length xs → slice_get ys at ≡ Some (get_or xs at d)
there xs ys at d same within = subst (λ (l : List Expr). slice_get l at ≡ Some (get_or xs at d)) same (slice_get-get_or xs at d within)

pub returns-in_default : goal.returns-in_default
returns-in_default c names =
    ap (λ (t : Term). eval tagged t (all_by names c.args.vars.now))
    (sym (no-term c.args.program.now c.args.infos.now c.args.e (subst (λ (l : List Expr). length l ≤ c.args.e) c.exprs-exprs.ensures.value (past c.args.e (length c.exprs-exprs.result.now) c.in_default.ensures.lookup.0))))

pub operands-init : goal.operands-init
operands-init c names = none-found c.args.program.now c.args.infos.now (all_by names c.args.vars.now) names c.low-low.result c.new-values.result.items c.new-values.ensures.items

pub operands-preserved : goal.operands-preserved
operands-preserved c names =
    let exprs = c.exprs-exprs.result.now in
    let e : Expr = get_or exprs c.operands.at (Number (pos 0)) in
    let here = there exprs c.args.program.now.exprs c.operands.at (Number (pos 0)) c.exprs-exprs.ensures.value (omega (arith, c.operands-test.true, c.in-Some.ensures.lookup.3.0)) in
    one-more c.args.program.now c.exprs-exprs.ensures.placed c.args.infos.now (all_by names c.args.vars.now) names c.low-low.result c.operands.at e c.operands.values.items c.push.new.self.items c.given-value.result
    here (c.operands.invariant names) c.in_ok-push.ensures.items (λ terms known. c.given-value.ensures names terms (subst (λ (l : List Given). OperandsAre (all_by names c.args.vars.now) names terms c.low-low.result l e) (sym c.as_slice.ensures.value) known))

pub returns : goal.returns
returns c names =
    let exprs = c.exprs-exprs.result.now in
    let here : slice_get c.args.program.now.exprs c.args.e ≡ Some c.in-Some.last.now =
    subst (λ (e : Expr). slice_get c.args.program.now.exprs c.args.e ≡ Some e) (sym c.in-Some.ensures.lookup.1)
    (there exprs c.args.program.now.exprs c.args.e _ c.exprs-exprs.ensures.value c.in-Some.ensures.lookup.3.0) in
    let low : c.low-low.result ≤ c.args.e = subst (λ n. n ≤ c.args.e) (sym c.low-low.ensures) (low-le c.args.program.now.exprs c.args.e) in
    let end : c.operands.at ≡ c.args.e = omega (arith, c.operands-test.false, c.operands.auto.at, low) in
    let found = subst (λ n. AreFound c.args.program.now c.args.infos.now (all_by names c.args.vars.now) names c.low-low.result n c.operands.values.items) end (c.operands.invariant names) in
    made-of c.args.program.now c.exprs-exprs.ensures.placed c.args.infos.now (all_by names c.args.vars.now) names c.low-low.result c.args.e c.in-Some.last.now c.operands.values.items c.given.result
    here found (subst (λ n. c.low-low.result ≤ n) c.low-low.ensures (le_refl c.low-low.result)) (λ terms known. c.given.ensures names terms (subst (λ (l : List Given). OperandsAre (all_by names c.args.vars.now) names terms c.low-low.result l c.in-Some.last.now) (sym c.as_slice-2.ensures.value) known))
