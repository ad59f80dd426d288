use Rattle.std.proofs.Common.{◌≡◌, ◌∙◌, ℕ, List, All, length, ap, sym, subst, arith, Option}
use Rattle.std.proofs.lemmas.List.Elements.{All-get_or}
use Rattle.std.specs.Option.{IfSome}
use Rattle.perm_tree.specs.declared.ast.Block.{Block}
use Rattle.perm_tree.specs.declared.ast.Rhs.{Rhs}
use Rattle.perm_tree.specs.declared.ast.Rhs.TheVariants.{Recover}
use Rattle.perm_tree.specs.declared.ast.StmtKind.{StmtKind}
use Rattle.perm_tree.specs.declared.ast.StmtKind.TheVariants.{Assign}
use Rattle.perm_tree.specs.InBody.{HasStmt, IsBlockOf, IsStmtOf}
use Rattle.perm_tree.specs.Places.{KindPlaced}
use Rattle.perm_tree.specs.Scopes.{else_stmts}
use Rattle.perm_tree.specs.StatementSteps.{Says}
use Rattle.perm_tree.specs.BodyTerms.{expression_term}
use Rattle.perm_rules.specs.MethodBodies.{setting_of}
use Rattle.perm_par.specs.BlockSets.{else_uses, joint, stmts_uses, term_uses, test_of}
use Rattle.perm_par.proofs.BlockStatements.{below-top, block-stmts, else-block, if-block, if-top, left-block, par-top, recover-block, recover-top, right-block, top, while-block, while-top}
use Rattle.perm_par.proofs.OwnVariables.{own-held}
use Rattle.perm_par.proofs.StepCodes.{recover-gives, says-plain, says-simple}
use Rattle.perm_par.proofs.UsesWalks.{if-uses, par-uses, recover-uses, says-test, simple-uses, used-all, used-more, used-none, uses-block, uses-given, uses-joint, while-uses}
use Rattle.perm_par.proofs.mentions.+uses.Goals as goal

pub uses_at-uses_of_par-requires : goal.uses_at-uses_of_par-requires
uses_at-uses_of_par-requires t c =
    let b = c.args.body.now in
    let s = c.stmt-stmt.result.now in
    let stands : HasStmt b.unit b.number c.args.at s = record { inside = c.requires; here = c.stmt-stmt.ensures } in
    let placed = subst (KindPlaced (length b.unit.program.exprs) c.args.at) c.in-Par.is (c.kept.ensures.resolved.formed.placed.stmts c.args.at s c.stmt-stmt.ensures) in
    let low = par-top (length b.unit.program.exprs) c.args.at c.in-Par.left c.in-Par.right placed in (
      omega (arith, c.decreases, low.0, low.1),
      (left-block b.unit b.number c.args.at s stands c.in-Par.left c.in-Par.right c.in-Par.is, right-block b.unit b.number c.args.at s stands c.in-Par.left c.in-Par.right c.in-Par.is),
    )

pub uses_at-uses_of_assignment-requires : goal.uses_at-uses_of_assignment-requires
uses_at-uses_of_assignment-requires t c = (
  omega (arith, c.decreases),
  record { stmt = c.stmt-stmt.result.now; stands = record { inside = c.requires; here = c.stmt-stmt.ensures }; ty = c.in-Assign.field-0; taker = c.in-Assign.field-1; is = c.in-Assign.is },
)

pub uses_of_block-uses_of_all-inner-requires : goal.uses_of_block-uses_of_all-inner-requires
uses_of_block-uses_of_all-inner-requires t c =
    let u = c.args.body.now.unit in
    let m = c.args.body.now.number in (
      omega (arith, c.decreases, ap top c.as_slice.ensures),
      subst (λ (is : List ℕ). All (IsStmtOf u m) is) (sym c.as_slice.ensures) (block-stmts u m c.args.block.now c.kept.ensures.resolved c.requires),
    )

pub uses_of_all-uses_at-requires : goal.uses_of_all-uses_at-requires
uses_of_all-uses_at-requires t c = (
  omega (arith, c.decreases, below-top c.args.stmts.now c.stmts.at-index c.stmts-test.true),
  All-get_or (IsStmtOf c.args.body.now.unit c.args.body.now.number) c.args.stmts.now c.stmts.at-index 0 c.stmts-test.true c.requires,
)

pub uses_of_assignment-gift_of-requires : goal.uses_of_assignment-gift_of-requires
uses_of_assignment-gift_of-requires t c =
    let b = c.args.body.now in
    let s = c.requires.stmt in
    recover-gives (setting_of b) b.bodies s c.requires.taker c.in-Recover.block c.in-Recover.field-1 c.in-Recover.field-2 c.action-action.result
    (subst (λ (q : StmtKind). Says (setting_of b) b.bodies s q c.action-action.result) (c.requires.is ∙ ap (λ (q : Rhs). Assign c.requires.ty c.requires.taker q) c.in-Recover.is) (c.action-action.ensures s c.requires.stands.here))

pub uses_of_assignment-uses_of_recover-requires : goal.uses_of_assignment-uses_of_recover-requires
uses_of_assignment-uses_of_recover-requires t c =
    let b = c.args.body.now in
    let s = c.requires.stmt in
    let is : s.kind ≡ Assign c.requires.ty c.requires.taker (Recover c.in-Recover.block c.in-Recover.field-1 c.in-Recover.field-2) = c.requires.is ∙ ap (λ (q : Rhs). Assign c.requires.ty c.requires.taker q) c.in-Recover.is in
    let placed = subst (KindPlaced (length b.unit.program.exprs) c.args.at) is (c.kept.ensures.resolved.formed.placed.stmts c.args.at s c.requires.stands.here) in
    let low = recover-top (length b.unit.program.exprs) c.args.at c.requires.ty c.requires.taker c.in-Recover.block c.in-Recover.field-1 c.in-Recover.field-2 placed in (
      omega (arith, c.decreases, low),
      recover-block b.unit b.number c.args.at s c.requires.stands c.requires.ty c.requires.taker c.in-Recover.block c.in-Recover.field-1 c.in-Recover.field-2 is,
    )

pub uses_of_else-uses_of_block-requires : goal.uses_of_else-uses_of_block-requires
uses_of_else-uses_of_block-requires t c =
    let b = c.args.body.now in (
      omega (arith, c.decreases, ap (λ (o : Option Block). top (else_stmts o)) c.in-Some.is),
      subst (λ (o : Option Block). IfSome o (IsBlockOf b.unit b.number)) c.in-Some.is c.requires,
    )

pub uses_of_recover-uses_of_all-inner-requires : goal.uses_of_recover-uses_of_all-inner-requires
uses_of_recover-uses_of_all-inner-requires t c =
    let u = c.args.body.now.unit in
    let m = c.args.body.now.number in (
      omega (arith, c.decreases, ap top c.as_slice.ensures),
      subst (λ (is : List ℕ). All (IsStmtOf u m) is) (sym c.as_slice.ensures) (block-stmts u m c.args.block.now c.kept.ensures.resolved c.requires),
    )

pub uses_at-uses_of_if-requires : goal.uses_at-uses_of_if-requires
uses_at-uses_of_if-requires t c =
    let b = c.args.body.now in
    let s = c.stmt-stmt.result.now in
    let stands : HasStmt b.unit b.number c.args.at s = record { inside = c.requires; here = c.stmt-stmt.ensures } in
    let placed = subst (KindPlaced (length b.unit.program.exprs) c.args.at) c.in-If.is (c.kept.ensures.resolved.formed.placed.stmts c.args.at s c.stmt-stmt.ensures) in
    let low = if-top (length b.unit.program.exprs) c.args.at c.in-If.field-0 c.in-If.yes c.in-If.no placed in
    let test = says-test b c.in-If.field-0 c.action-action.result (subst (λ (q : StmtKind). Says (setting_of b) b.bodies s q c.action-action.result) c.in-If.is (c.action-action.ensures s c.stmt-stmt.ensures)) in (
      omega (arith, c.decreases, low.0, low.1),
      (test.inside, (if-block b.unit b.number c.args.at s stands c.in-If.field-0 c.in-If.yes c.in-If.no c.in-If.is, else-block b.unit b.number c.args.at s stands c.in-If.field-0 c.in-If.yes c.in-If.no c.in-If.is)),
    )

pub uses_at-uses_of_while-requires : goal.uses_at-uses_of_while-requires
uses_at-uses_of_while-requires t c =
    let b = c.args.body.now in
    let s = c.stmt-stmt.result.now in
    let stands : HasStmt b.unit b.number c.args.at s = record { inside = c.requires; here = c.stmt-stmt.ensures } in
    let placed = subst (KindPlaced (length b.unit.program.exprs) c.args.at) c.in-While.is (c.kept.ensures.resolved.formed.placed.stmts c.args.at s c.stmt-stmt.ensures) in
    let low = while-top (length b.unit.program.exprs) c.args.at c.in-While.field-0 c.in-While.inner placed in
    let test = says-test b c.in-While.field-0 c.action-action.result (subst (λ (q : StmtKind). Says (setting_of b) b.bodies s q c.action-action.result) c.in-While.is (c.action-action.ensures s c.stmt-stmt.ensures)) in (
      omega (arith, c.decreases, low),
      (test.inside, while-block b.unit b.number c.args.at s stands c.in-While.field-0 c.in-While.inner c.in-While.is),
    )

pub uses_at-uses_of_step-requires : goal.uses_at-uses_of_step-requires
uses_at-uses_of_step-requires t c =
    let b = c.args.body.now in
    let s = c.stmt-stmt.result.now in
    (says-simple (setting_of b) b.bodies s s.kind c.action-action.result c.in_default.not-Assign c.in_default.not-If c.in_default.not-While c.in_default.not-Par (c.action-action.ensures s c.stmt-stmt.ensures)).inside

pub uses_at-returns-in-If : goal.uses_at-returns-in-If
uses_at-returns-in-If t c =
    let s = c.stmt-stmt.result.now in
    if-uses c.args.body.now c.args.at s c.uses_of_if.result c.action-action.result c.in-If.field-0 c.in-If.yes c.in-If.no c.kept.ensures c.stmt-stmt.ensures c.in-If.is (c.action-action.ensures s c.stmt-stmt.ensures) c.uses_of_if.ensures

pub uses_at-returns-in-While : goal.uses_at-returns-in-While
uses_at-returns-in-While t c =
    let s = c.stmt-stmt.result.now in
    while-uses c.args.body.now c.args.at s c.uses_of_while.result c.action-action.result c.in-While.field-0 c.in-While.inner c.kept.ensures c.stmt-stmt.ensures c.in-While.is (c.action-action.ensures s c.stmt-stmt.ensures) c.uses_of_while.ensures

pub uses_at-returns-in-Par : goal.uses_at-returns-in-Par
uses_at-returns-in-Par t c = par-uses c.args.body.now c.args.at c.stmt-stmt.result.now c.uses_of_par.result c.in-Par.left c.in-Par.right c.kept.ensures c.stmt-stmt.ensures c.in-Par.is c.uses_of_par.ensures

pub uses_at-returns-in_default : goal.uses_at-returns-in_default
uses_at-returns-in_default t c =
    let b = c.args.body.now in
    let s = c.stmt-stmt.result.now in
    simple-uses b c.args.at s c.uses_of_step.result c.action-action.result c.kept.ensures c.stmt-stmt.ensures
    (says-simple (setting_of b) b.bodies s s.kind c.action-action.result c.in_default.not-Assign c.in_default.not-If c.in_default.not-While c.in_default.not-Par (c.action-action.ensures s c.stmt-stmt.ensures)) (c.uses_of_step.ensures _)

pub uses_of_all-stmts-init : goal.uses_of_all-stmts-init
uses_of_all-stmts-init t c = used-none c.args.body.now c.no_uses-all.result c.args.stmts.now c.no_uses-all.ensures

pub uses_of_all-stmts-preserved : goal.uses_of_all-stmts-preserved
uses_of_all-stmts-preserved t c =
    used-more c.args.body.now c.stmts.all c.uses_at.result c.joint-all.result c.args.stmts.now c.stmts.at-index c.stmts-test.true c.stmts.invariant c.uses_at.ensures c.joint-all.ensures

pub uses_of_all-returns : goal.uses_of_all-returns
uses_of_all-returns t c = used-all c.args.body.now c.stmts.all c.args.stmts.now c.stmts.at-index c.stmts-test.false c.stmts.invariant

pub uses_of_assignment-uses_of_step-requires : goal.uses_of_assignment-uses_of_step-requires
uses_of_assignment-uses_of_step-requires t c =
    let b = c.args.body.now in
    let k = setting_of b in
    let s = c.requires.stmt in
    (says-plain k b.bodies s c.requires.taker c.args.rhs.now c.action-action.result c.in_default.not-Recover (subst (λ (q : StmtKind). Says k b.bodies s q c.action-action.result) c.requires.is (c.action-action.ensures s c.requires.stands.here))).inside

pub uses_of_assignment-returns-in-Recover : goal.uses_of_assignment-returns-in-Recover
uses_of_assignment-returns-in-Recover t c =
    let s = c.requires.stmt in
    recover-uses c.args.body.now c.args.at s c.uses_of_recover.result c.requires.ty c.requires.taker c.in-Recover.block c.in-Recover.field-1 c.in-Recover.field-2 c.action-action.result c.gift_of.result.given c.gift_of.result.taker
    c.kept.ensures c.requires.stands.here (c.requires.is ∙ ap (λ (q : Rhs). Assign c.requires.ty c.requires.taker q) c.in-Recover.is) (c.action-action.ensures s c.requires.stands.here) c.gift_of.ensures c.uses_of_recover.ensures

pub uses_of_assignment-returns-in_default : goal.uses_of_assignment-returns-in_default
uses_of_assignment-returns-in_default t c =
    let b = c.args.body.now in
    let k = setting_of b in
    let s = c.requires.stmt in
    simple-uses b c.args.at s c.uses_of_step.result c.action-action.result c.kept.ensures c.requires.stands.here
    (says-plain k b.bodies s c.requires.taker c.args.rhs.now c.action-action.result c.in_default.not-Recover (subst (λ (q : StmtKind). Says k b.bodies s q c.action-action.result) c.requires.is (c.action-action.ensures s c.requires.stands.here)))
    (c.uses_of_step.ensures _)

pub uses_of_block-returns : goal.uses_of_block-returns
uses_of_block-returns t c = uses-block c.args.body.now c.outside.result c.uses_of_all-inner.result c.own_in.result c.args.block.now.stmts c.as_slice.result.now c.as_slice.ensures c.uses_of_all-inner.ensures (own-held c.args.body.now c.own_in.result c.args.block.now c.kept.ensures c.requires c.own_in.ensures) c.outside.ensures

pub uses_of_if-returns : goal.uses_of_if-returns
uses_of_if-returns t c =
    let b = c.args.body.now in
    let k = setting_of b in
    let e = term_uses (expression_term b.bodies.operations (test_of c.args.action)) in
    let y = stmts_uses k c.args.yes.now.stmts in
    let n = else_uses k c.args.no.now in
    uses-joint b c.uses_of_test.result c.joint.result c.joint-2.result e (joint y n) c.joint-2.ensures c.uses_of_test.ensures (uses-joint b c.uses_of_block-yes.result c.uses_of_else-no.result c.joint.result y n c.joint.ensures c.uses_of_block-yes.ensures c.uses_of_else-no.ensures)

pub uses_of_while-returns : goal.uses_of_while-returns
uses_of_while-returns t c =
    let b = c.args.body.now in
    uses-joint b c.uses_of_test.result c.uses_of_block-inner.result c.joint.result (term_uses (expression_term b.bodies.operations (test_of c.args.action))) (stmts_uses (setting_of b) c.args.block.now.stmts) c.joint.ensures c.uses_of_test.ensures c.uses_of_block-inner.ensures

pub uses_of_par-returns : goal.uses_of_par-returns
uses_of_par-returns t c =
    let b = c.args.body.now in
    uses-joint b c.uses_of_block-left.result c.uses_of_block-right.result c.joint.result (stmts_uses (setting_of b) c.args.left.now.stmts) (stmts_uses (setting_of b) c.args.right.now.stmts) c.joint.ensures c.uses_of_block-left.ensures c.uses_of_block-right.ensures

pub uses_of_recover-returns : goal.uses_of_recover-returns
uses_of_recover-returns t c at =
    uses-given c.args.body.now c.target-taker.result c.uses_of_all-inner.result c.joint-give.result c.joint.result c.outside.result c.joint-2.result c.target.result c.own_in.result c.args.block.now.stmts c.as_slice.result.now at c.args.gift.given c.args.gift.taker
    c.as_slice.ensures c.uses_of_all-inner.ensures c.target.ensures c.target-taker.ensures c.joint-give.ensures c.joint.ensures (own-held c.args.body.now c.own_in.result c.args.block.now c.kept.ensures c.requires c.own_in.ensures) c.outside.ensures c.joint-2.ensures
