use Rattle.std.proofs.Common.{◌≡◌, ◌∙◌, ℕ, List, All, length, ap, sym, subst, arith, Option}
use Rattle.std.proofs.lemmas.List.Elements.{All-get_or}
use Rattle.std.specs.Option.{IfSome}
use Rattle.perm_tree.specs.declared.ast.Block.{Block}
use Rattle.perm_tree.specs.declared.ast.Rhs.{Rhs}
use Rattle.perm_tree.specs.declared.ast.Rhs.TheVariants.{Recover}
use Rattle.perm_tree.specs.declared.ast.StmtKind.{StmtKind}
use Rattle.perm_tree.specs.declared.ast.StmtKind.TheVariants.{Assign}
use Rattle.perm_tree.specs.Code.{Give}
use Rattle.perm_tree.specs.CodeOf.{code_of, codes_of, kind_code}
use Rattle.perm_tree.specs.InBody.{HasStmt, IsBlockOf, IsStmtOf}
use Rattle.perm_tree.specs.Places.{KindPlaced}
use Rattle.perm_tree.specs.Scopes.{else_stmts}
use Rattle.perm_tree.specs.StatementSteps.{Says}
use Rattle.perm_rules.specs.Effects.{Effect, both, effect, either, repeated}
use Rattle.perm_rules.specs.MethodBodies.{setting_of}
use Rattle.perm_par.specs.BlockEffects.{else_effect, stmts_effect}
use Rattle.perm_par.proofs.BlockStatements.{below-top, block-stmts, else-block, if-block, if-top, left-block, par-top, recover-block, recover-top, right-block, top, while-block, while-top}
use Rattle.perm_par.proofs.EffectWalks.{done-all, done-more, done-none, effect-block, effect-both, effect-either, effect-given, effect-held, effect-repeated, recover-effect, simple-effect, stmt-effect}
use Rattle.perm_par.proofs.OwnVariables.{own-held}
use Rattle.perm_par.proofs.StepCodes.{call-in, recover-gives, says-plain, says-simple}
use Rattle.perm_par.proofs.effects.+effects.Goals as goal

pub effect_at-effect_of_if-requires : goal.effect_at-effect_of_if-requires
effect_at-effect_of_if-requires t c =
    let b = c.args.body.now in
    let s = c.stmt-stmt.result.now in
    let stands : HasStmt b.unit b.number c.args.at s = record { inside = c.requires; here = c.stmt-stmt.ensures } in
    let placed = subst (KindPlaced (length b.unit.program.exprs) c.args.at) c.in-If.is (c.kept.ensures.resolved.formed.placed.stmts c.args.at s c.stmt-stmt.ensures) in
    let low = if-top (length b.unit.program.exprs) c.args.at c.in-If.field-0 c.in-If.yes c.in-If.no placed in (
      omega (arith, c.decreases, low.0, low.1),
      (if-block b.unit b.number c.args.at s stands c.in-If.field-0 c.in-If.yes c.in-If.no c.in-If.is, else-block b.unit b.number c.args.at s stands c.in-If.field-0 c.in-If.yes c.in-If.no c.in-If.is),
    )

pub effect_at-effect_of_while-requires : goal.effect_at-effect_of_while-requires
effect_at-effect_of_while-requires t c =
    let b = c.args.body.now in
    let s = c.stmt-stmt.result.now in
    let stands : HasStmt b.unit b.number c.args.at s = record { inside = c.requires; here = c.stmt-stmt.ensures } in
    let placed = subst (KindPlaced (length b.unit.program.exprs) c.args.at) c.in-While.is (c.kept.ensures.resolved.formed.placed.stmts c.args.at s c.stmt-stmt.ensures) in
    let low = while-top (length b.unit.program.exprs) c.args.at c.in-While.field-0 c.in-While.inner placed in (
      omega (arith, c.decreases, low),
      while-block b.unit b.number c.args.at s stands c.in-While.field-0 c.in-While.inner c.in-While.is,
    )

pub effect_at-effect_of_par-requires : goal.effect_at-effect_of_par-requires
effect_at-effect_of_par-requires t c =
    let b = c.args.body.now in
    let s = c.stmt-stmt.result.now in
    let stands : HasStmt b.unit b.number c.args.at s = record { inside = c.requires; here = c.stmt-stmt.ensures } in
    let placed = subst (KindPlaced (length b.unit.program.exprs) c.args.at) c.in-Par.is (c.kept.ensures.resolved.formed.placed.stmts c.args.at s c.stmt-stmt.ensures) in
    let low = par-top (length b.unit.program.exprs) c.args.at c.in-Par.left c.in-Par.right placed in (
      omega (arith, c.decreases, low.0, low.1),
      (left-block b.unit b.number c.args.at s stands c.in-Par.left c.in-Par.right c.in-Par.is, right-block b.unit b.number c.args.at s stands c.in-Par.left c.in-Par.right c.in-Par.is),
    )

pub effect_at-effect_of_assignment-requires : goal.effect_at-effect_of_assignment-requires
effect_at-effect_of_assignment-requires t c = (
  omega (arith, c.decreases),
  record { stmt = c.stmt-stmt.result.now; stands = record { inside = c.requires; here = c.stmt-stmt.ensures }; ty = c.in-Assign.field-0; taker = c.in-Assign.field-1; is = c.in-Assign.is },
)

pub effect_at-effect_of_step-requires : goal.effect_at-effect_of_step-requires
effect_at-effect_of_step-requires t c =
    let b = c.args.body.now in
    let s = c.stmt-stmt.result.now in
    call-in b.bodies (code_of b.unit) c.action.result (says-simple (setting_of b) b.bodies s s.kind c.action.result c.in_default.not-Assign c.in_default.not-If c.in_default.not-While c.in_default.not-Par (c.action.ensures s c.stmt-stmt.ensures)).inside

pub effect_at-returns-in-If : goal.effect_at-returns-in-If
effect_at-returns-in-If t c =
    let b = c.args.body.now in
    let k = setting_of b in
    let s = c.stmt-stmt.result.now in
    stmt-effect b c.args.at s c.effect_of_if.result (either (stmts_effect k c.in-If.yes.stmts) (else_effect k c.in-If.no)) c.kept.ensures c.stmt-stmt.ensures c.effect_of_if.ensures
    (λ rest. ap (λ (q : StmtKind). effect (kind_code k (codes_of k) s q rest)) c.in-If.is)

pub effect_at-returns-in-While : goal.effect_at-returns-in-While
effect_at-returns-in-While t c =
    let b = c.args.body.now in
    let k = setting_of b in
    let s = c.stmt-stmt.result.now in
    stmt-effect b c.args.at s c.effect_of_while.result (repeated (stmts_effect k c.in-While.inner.stmts)) c.kept.ensures c.stmt-stmt.ensures c.effect_of_while.ensures
    (λ rest. ap (λ (q : StmtKind). effect (kind_code k (codes_of k) s q rest)) c.in-While.is)

pub effect_at-returns-in-Par : goal.effect_at-returns-in-Par
effect_at-returns-in-Par t c =
    let b = c.args.body.now in
    let k = setting_of b in
    let s = c.stmt-stmt.result.now in
    stmt-effect b c.args.at s c.effect_of_par.result (both (stmts_effect k c.in-Par.left.stmts) (stmts_effect k c.in-Par.right.stmts)) c.kept.ensures c.stmt-stmt.ensures c.effect_of_par.ensures
    (λ rest. ap (λ (q : StmtKind). effect (kind_code k (codes_of k) s q rest)) c.in-Par.is)

pub effect_at-returns-in_default : goal.effect_at-returns-in_default
effect_at-returns-in_default t c =
    let b = c.args.body.now in
    let s = c.stmt-stmt.result.now in
    simple-effect b c.args.at s c.effect_of_step.result c.action.result c.kept.ensures c.stmt-stmt.ensures
    (says-simple (setting_of b) b.bodies s s.kind c.action.result c.in_default.not-Assign c.in_default.not-If c.in_default.not-While c.in_default.not-Par (c.action.ensures s c.stmt-stmt.ensures)) (c.effect_of_step.ensures _)

pub effect_in-effect_of_all-inner-requires : goal.effect_in-effect_of_all-inner-requires
effect_in-effect_of_all-inner-requires t c =
    let u = c.args.body.now.unit in
    let m = c.args.body.now.number in (
      omega (arith, c.decreases, ap top c.as_slice.ensures),
      subst (λ (is : List ℕ). All (IsStmtOf u m) is) (sym c.as_slice.ensures) (block-stmts u m c.args.block.now c.kept.ensures.resolved c.requires),
    )

pub effect_in-returns-clause-lost : goal.effect_in-returns-clause-lost
effect_in-returns-clause-lost t c =
    let b = c.args.body.now in
    ap (λ (e : Effect). e.lost) (effect-block b c.closed.result c.effect_of_all-inner.result c.own_in.result c.args.block.now.stmts c.as_slice.result.now c.as_slice.ensures c.effect_of_all-inner.ensures (own-held c.args.body.now c.own_in.result c.args.block.now c.kept.ensures c.requires c.own_in.ensures) c.closed.ensures)

pub effect_in-returns-clause-made : goal.effect_in-returns-clause-made
effect_in-returns-clause-made t c =
    let b = c.args.body.now in
    ap (λ (e : Effect). e.made) (effect-block b c.closed.result c.effect_of_all-inner.result c.own_in.result c.args.block.now.stmts c.as_slice.result.now c.as_slice.ensures c.effect_of_all-inner.ensures (own-held c.args.body.now c.own_in.result c.args.block.now c.kept.ensures c.requires c.own_in.ensures) c.closed.ensures)

pub effect_of_all-stmts-init : goal.effect_of_all-stmts-init
effect_of_all-stmts-init t c = done-none c.args.body.now c.no_effect-all.result c.args.stmts.now c.no_effect-all.ensures

pub effect_of_all-effect_at-requires : goal.effect_of_all-effect_at-requires
effect_of_all-effect_at-requires t c = (
  omega (arith, c.decreases, below-top c.args.stmts.now c.stmts.at-index c.stmts-test.true),
  All-get_or (IsStmtOf c.args.body.now.unit c.args.body.now.number) c.args.stmts.now c.stmts.at-index 0 c.stmts-test.true c.requires,
)

pub effect_of_all-stmts-preserved : goal.effect_of_all-stmts-preserved
effect_of_all-stmts-preserved t c =
    done-more c.args.body.now c.stmts.all c.effect_at.result c.then-all.result c.args.stmts.now c.stmts.at-index c.stmts-test.true c.stmts.invariant c.effect_at.ensures c.then-all.ensures

pub effect_of_all-returns : goal.effect_of_all-returns
effect_of_all-returns t c = done-all c.args.body.now c.stmts.all c.args.stmts.now c.stmts.at-index c.stmts-test.false c.stmts.invariant

pub effect_of_assignment-gift_of-requires : goal.effect_of_assignment-gift_of-requires
effect_of_assignment-gift_of-requires t c =
    let b = c.args.body.now in
    let s = c.requires.stmt in
    recover-gives (setting_of b) b.bodies s c.requires.taker c.in-Recover.block c.in-Recover.field-1 c.in-Recover.field-2 c.action-action.result
    (subst (λ (q : StmtKind). Says (setting_of b) b.bodies s q c.action-action.result) (c.requires.is ∙ ap (λ (q : Rhs). Assign c.requires.ty c.requires.taker q) c.in-Recover.is) (c.action-action.ensures s c.requires.stands.here))

pub effect_of_assignment-effect_of_recover-requires : goal.effect_of_assignment-effect_of_recover-requires
effect_of_assignment-effect_of_recover-requires t c =
    let b = c.args.body.now in
    let s = c.requires.stmt in
    let is : s.kind ≡ Assign c.requires.ty c.requires.taker (Recover c.in-Recover.block c.in-Recover.field-1 c.in-Recover.field-2) = c.requires.is ∙ ap (λ (q : Rhs). Assign c.requires.ty c.requires.taker q) c.in-Recover.is in
    let placed = subst (KindPlaced (length b.unit.program.exprs) c.args.at) is (c.kept.ensures.resolved.formed.placed.stmts c.args.at s c.requires.stands.here) in
    let low = recover-top (length b.unit.program.exprs) c.args.at c.requires.ty c.requires.taker c.in-Recover.block c.in-Recover.field-1 c.in-Recover.field-2 placed in (
      omega (arith, c.decreases, low),
      recover-block b.unit b.number c.args.at s c.requires.stands c.requires.ty c.requires.taker c.in-Recover.block c.in-Recover.field-1 c.in-Recover.field-2 is,
    )

pub effect_of_assignment-effect_of_step-requires : goal.effect_of_assignment-effect_of_step-requires
effect_of_assignment-effect_of_step-requires t c =
    let b = c.args.body.now in
    let k = setting_of b in
    let s = c.requires.stmt in
    call-in b.bodies (code_of b.unit) c.action-action.result
    (says-plain k b.bodies s c.requires.taker c.args.rhs.now c.action-action.result c.in_default.not-Recover (subst (λ (q : StmtKind). Says k b.bodies s q c.action-action.result) c.requires.is (c.action-action.ensures s c.requires.stands.here))).inside

pub effect_of_assignment-returns-in-Recover : goal.effect_of_assignment-returns-in-Recover
effect_of_assignment-returns-in-Recover t c =
    let b = c.args.body.now in
    let s = c.requires.stmt in
    recover-effect b c.args.at s c.effect_of_recover.result c.requires.ty c.requires.taker c.in-Recover.block c.in-Recover.field-1 c.in-Recover.field-2 c.action-action.result c.gift_of.result.given c.gift_of.result.taker
    c.kept.ensures c.requires.stands.here (c.requires.is ∙ ap (λ (q : Rhs). Assign c.requires.ty c.requires.taker q) c.in-Recover.is) (c.action-action.ensures s c.requires.stands.here) c.gift_of.ensures c.effect_of_recover.ensures

pub effect_of_assignment-returns-in_default : goal.effect_of_assignment-returns-in_default
effect_of_assignment-returns-in_default t c =
    let b = c.args.body.now in
    let k = setting_of b in
    let s = c.requires.stmt in
    simple-effect b c.args.at s c.effect_of_step.result c.action-action.result c.kept.ensures c.requires.stands.here
    (says-plain k b.bodies s c.requires.taker c.args.rhs.now c.action-action.result c.in_default.not-Recover (subst (λ (q : StmtKind). Says k b.bodies s q c.action-action.result) c.requires.is (c.action-action.ensures s c.requires.stands.here)))
    (c.effect_of_step.ensures _)

pub effect_of_else-effect_in-requires : goal.effect_of_else-effect_in-requires
effect_of_else-effect_in-requires t c =
    let b = c.args.body.now in (
      omega (arith, c.decreases, ap (λ (o : Option Block). top (else_stmts o)) c.in-Some.is),
      subst (λ (o : Option Block). IfSome o (IsBlockOf b.unit b.number)) c.in-Some.is c.requires,
    )

pub effect_of_if-returns : goal.effect_of_if-returns
effect_of_if-returns t c =
    let b = c.args.body.now in
    let k = setting_of b in
    let e = stmts_effect k c.args.yes.now.stmts in
    effect-either b c.effect_in-yes.result c.effect_of_else-no.result c.either.result e (else_effect k c.args.no.now) c.either.ensures
    (effect-held b c.effect_in-yes.result e c.effect_in-yes.ensures.lost c.effect_in-yes.ensures.made) c.effect_of_else-no.ensures

pub effect_of_par-returns : goal.effect_of_par-returns
effect_of_par-returns t c =
    let b = c.args.body.now in
    let k = setting_of b in
    let e = stmts_effect k c.args.left.now.stmts in
    let f = stmts_effect k c.args.right.now.stmts in
    effect-both b c.effect_in-left.result c.effect_in-right.result c.both.result e f c.both.ensures
    (effect-held b c.effect_in-left.result e c.effect_in-left.ensures.lost c.effect_in-left.ensures.made)
    (effect-held b c.effect_in-right.result f c.effect_in-right.ensures.lost c.effect_in-right.ensures.made)

pub effect_of_recover-effect_of_all-inner-requires : goal.effect_of_recover-effect_of_all-inner-requires
effect_of_recover-effect_of_all-inner-requires t c =
    let u = c.args.body.now.unit in
    let m = c.args.body.now.number in (
      omega (arith, c.decreases, ap top c.as_slice.ensures),
      subst (λ (is : List ℕ). All (IsStmtOf u m) is) (sym c.as_slice.ensures) (block-stmts u m c.args.block.now c.kept.ensures.resolved c.requires),
    )

pub effect_of_recover-returns : goal.effect_of_recover-returns
effect_of_recover-returns t c at =
    effect-given c.args.body.now c.closed.result c.effect_of_all-inner.result c.effect_of_give.result c.then.result c.own_in.result c.args.block.now.stmts c.as_slice.result.now (Give at c.args.gift.given c.args.gift.taker)
    c.as_slice.ensures c.effect_of_all-inner.ensures (c.effect_of_give.ensures at) c.then.ensures (own-held c.args.body.now c.own_in.result c.args.block.now c.kept.ensures c.requires c.own_in.ensures) c.closed.ensures

pub effect_of_while-returns : goal.effect_of_while-returns
effect_of_while-returns t c =
    effect-repeated c.args.body.now c.effect_in.result c.new.result (stmts_effect (setting_of c.args.body.now) c.args.block.now.stmts) c.effect_in.ensures.lost c.new.ensures
