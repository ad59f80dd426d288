use Rattle.std.proofs.Common.{◌≡◌, ◌∙◌, ◌++◌, refl, ap, sym, subst, arith, drop, length, List, ℕ}
use Rattle.std.specs.Prelude.{Option}
use Rattle.perm_tree.specs.declared.ast.Block.{Block}
use Rattle.perm_tree.specs.declared.ast.StmtKind.TheVariants.{Assign, If, While, Par}
use Rattle.perm_tree.specs.declared.bodies.Action.TheVariants.{End}
use Rattle.perm_tree.specs.CodeNames.{own_vars}
use Rattle.perm_tree.specs.CodeOf.{block_code}
use Rattle.perm_tree.specs.InBody.{inner_places}
use Rattle.perm_tree.specs.Places.{KindPlaced}
use Rattle.perm_tree.specs.Scopes.{else_stmts}
use Rattle.perm_tree.specs.StatementSteps.{Says, SaysTest}
use Rattle.perm_tree.specs.Vars.{minus, those}
use Rattle.perm_tree.specs.VarSets.{member}
use Rattle.perm_table.specs.Emission.{Holds, IsBlockEmitted, IsEmitted}
use Rattle.perm_table.specs.Numbering.{setting_of}
use Rattle.perm_table.specs.StepPlaces.{block_holds}
use Rattle.perm_table.proofs.Emission.Statements.{emitted-none, emitted-more, emitted-block, emitted-no-else, emitted-if, emitted-while, emitted-par, emitted-recover, simple-assignment, stmt-answer, recover-answer, if-holds, while-holds, par-holds, emitted-named}
use Rattle.perm_table.proofs.numbering.blocks.+numbering.Goals as goal

pub number_assignment-number_recover-requires : goal.number_assignment-number_recover-requires
number_assignment-number_recover-requires t c =
    let exprs = length c.args.names.now.tables.program.exprs in
    let is = c.requires.is.is ∙ ap (Assign c.requires.is.ty c.args.x) c.in-Recover.is in
    (omega (arith, c.decreases), (subst (KindPlaced exprs c.args.at) is c.requires.placed, (c.requires.at, (c.requires.next, c.requires.places))))

pub number_assignment-number_plain-requires : goal.number_assignment-number_plain-requires
number_assignment-number_plain-requires t c = record {
  simple = simple-assignment (length c.args.names.now.tables.program.exprs) c.args.at c.args.stmt.now.kind c.args.x c.args.rhs.now c.requires.placed c.requires.is c.in_default.not-Recover;
  next = c.requires.next;
}

pub number_assignment-returns-in_ok-x-in-Recover : goal.number_assignment-returns-in_ok-x-in-Recover
number_assignment-returns-in_ok-x-in-Recover t c =
    let names = c.args.names.now in
    recover-answer (setting_of names) c.args.bodies.now c.number_recover.new.bodies c.args.next c.args.stmt.now c.args.x c.in-Recover.w c.in_ok-x-in-Recover.x c.in_ok-w-in-Recover.w c.in-Recover.block c.in-Recover.give c.args.rhs.now
    c.number_recover.result c.requires.is c.in-Recover.is c.in_ok-x-in-Recover.ensures c.in_ok-w-in-Recover.ensures c.number_recover.ensures

pub number_block-loop-at-init : goal.number_block-loop-at-init
number_block-loop-at-init t c =
    let names = c.args.names.now in
    (omega arith, emitted-none (setting_of names) c.args.bodies.now c.args.next c.args.stmts.now c.new-written.result c.requires.next c.new-written.ensures)

pub number_block-loop-at-preserved : goal.number_block-loop-at-preserved
number_block-loop-at-preserved t c =
    let names = c.args.names.now in
    let one : IsEmitted (setting_of names) c.args.bodies.now c.args.next c.loop-at.bodies (block_code (setting_of names) (drop c.loop-at.at c.args.stmts.now)) (block_holds (setting_of names) (drop c.loop-at.at c.args.stmts.now)) (record { first = c.loop-at.first; written = c.loop-at.written }) =
    c.loop-at.invariant.1 in (
      omega (arith, c.loop-at.invariant.0),
      emitted-more (setting_of names) c.args.bodies.now c.loop-at.bodies c.number_stmt.new.bodies c.args.next c.args.stmts.now c.loop-at.at c.place.result (record { first = c.loop-at.first; written = c.loop-at.written }) c.in_ok-stmt.stmt c.union-written.result
          c.loop-at-test.true c.loop-at.invariant.0 c.place.ensures.place one c.in_ok-stmt.ensures c.union-written.ensures,
    )

pub number_block-returns : goal.number_block-returns
number_block-returns t c =
    let names = c.args.names.now in
    let none_left : c.loop-at.at ≡ 0 = omega (arith, c.loop-at-test.false) in
    subst (λ n. IsEmitted (setting_of names) c.args.bodies.now c.args.next c.loop-at.bodies (block_code (setting_of names) (drop n c.args.stmts.now)) (block_holds (setting_of names) (drop n c.args.stmts.now)) (record { first = c.loop-at.first; written = c.loop-at.written })) none_left c.loop-at.invariant.1

pub number_braced-returns : goal.number_braced-returns
number_braced-returns t c =
    let names = c.args.names.now in
    let k = setting_of names in
    let e = c.in_ok-first.field-0 in
    emitted-block k c.args.bodies.now c.number_block.new.bodies c.args.next c.args.block.now.stmts e c.in_ok-outer.field-0
    (subst (λ (is : List ℕ). IsEmitted k c.args.bodies.now c.args.next c.number_block.new.bodies (block_code k is) (block_holds k is) e) c.as_slice-stmts.ensures c.in_ok-first.ensures)
    (subst (λ (is : List ℕ). Holds c.in_ok-outer.field-0 (minus (member e.written) (those (own_vars k is)))) c.as_slice-stmts.ensures c.in_ok-outer.ensures)

pub number_else-returns-in-None : goal.number_else-returns-in-None
number_else-returns-in-None t c =
    let names = c.args.names.now in
    let k = setting_of names in
    subst (λ (b : Option Block). IsBlockEmitted k c.args.bodies.now c.args.next c.args.bodies.now (else_stmts b) (record { first = c.args.next; written = c.new.result })) (sym c.in-None.is)
    (emitted-no-else k c.args.bodies.now c.args.next c.new.result c.requires.next c.new.ensures)

pub number_if-returns : goal.number_if-returns
number_if-returns t c =
    let names = c.args.names.now in
    emitted-if (setting_of names) c.args.bodies.now c.number_else.new.bodies c.number_braced.new.bodies c.number_expression.new.bodies c.emit.new.bodies c.args.site.head c.args.site.next c.args.condition c.in_ok-first.first
    c.args.yes.now.stmts (else_stmts c.args.no.now) c.in_ok-condition.condition c.in_ok-yes.yes c.in_ok-no.no c.union-written.result
    c.in_ok-no.ensures c.in_ok-yes.ensures c.in_ok-condition.ensures c.in_ok-first.ensures.place c.in_ok-first.ensures.bodies c.union-written.ensures

pub number_par-returns : goal.number_par-returns
number_par-returns t c =
    let names = c.args.names.now in
    emitted-par (setting_of names) c.args.bodies.now c.emit.new.bodies c.number_braced.new.bodies c.number_braced-2.new.bodies c.emit_par.new.bodies c.args.site.head c.args.site.head c.args.site.next c.args.site.next c.in_ok-end.end c.in_ok-first.first
    c.args.left.now.stmts c.args.right.now.stmts c.in_ok-left.left c.in_ok-right.right c.union-written.result
    c.in_ok-end.ensures.place c.in_ok-end.ensures.bodies c.in_ok-left.ensures c.in_ok-right.ensures c.in_ok-first.ensures.place c.in_ok-first.ensures.bodies c.union-written.ensures

pub number_recover-returns : goal.number_recover-returns
number_recover-returns t c =
    let names = c.args.names.now in
    let k = setting_of names in
    emitted-recover k c.args.bodies.now c.emit.new.bodies c.number_block.new.bodies c.emit-2.new.bodies c.args.site.head c.args.give c.args.site.next c.in_ok-end.end c.in_ok-first.first c.args.given c.args.x
    c.args.block.now.stmts c.in_ok-body.body c.with.result c.with-inner.result c.in_ok-outer.field-0 c.with-written.result
    c.in_ok-end.ensures.place c.in_ok-end.ensures.bodies
    (subst (λ (is : List ℕ). IsEmitted k c.emit.new.bodies c.in_ok-end.end c.number_block.new.bodies (block_code k is) (block_holds k is) c.in_ok-body.body) c.as_slice-stmts.ensures c.in_ok-body.ensures)
    c.in_ok-first.ensures.place c.in_ok-first.ensures.bodies c.with.ensures c.with-inner.ensures
    (subst (λ (is : List ℕ). Holds c.in_ok-outer.field-0 (minus (member c.with-inner.result) (those (own_vars k is)))) c.as_slice-stmts.ensures c.in_ok-outer.ensures)
    c.with-written.ensures

pub number_kind-returns-in-If : goal.number_kind-returns-in-If
number_kind-returns-in-If t c =
    let k = setting_of c.args.names.now in
    let s = c.stmt_at-stmt.result.now in
    stmt-answer k c.args.bodies.now c.number_if.new.bodies c.args.next c.args.at s (If c.in-If.e c.in-If.yes c.in-If.no) (block_holds k c.in-If.yes.stmts ++ block_holds k (else_stmts c.in-If.no)) (SaysTest k c.number_if.new.bodies c.in-If.e) c.number_if.result
    c.stmt_at-stmt.ensures.program c.stmt_at-stmt.ensures.found c.in-If.is (if-holds k c.in-If.e c.in-If.yes c.in-If.no) (λ a said. said) c.number_if.ensures

pub number_kind-returns-in-While : goal.number_kind-returns-in-While
number_kind-returns-in-While t c =
    let k = setting_of c.args.names.now in
    let s = c.stmt_at-stmt.result.now in
    stmt-answer k c.args.bodies.now c.number_while.new.bodies c.args.next c.args.at s (While c.in-While.e c.in-While.body) (block_holds k c.in-While.body.stmts) (SaysTest k c.number_while.new.bodies c.in-While.e) c.number_while.result
    c.stmt_at-stmt.ensures.program c.stmt_at-stmt.ensures.found c.in-While.is (while-holds k c.in-While.e c.in-While.body) (λ a said. said) c.number_while.ensures

pub number_kind-returns-in-Par : goal.number_kind-returns-in-Par
number_kind-returns-in-Par t c =
    let k = setting_of c.args.names.now in
    let s = c.stmt_at-stmt.result.now in
    stmt-answer k c.args.bodies.now c.number_par.new.bodies c.args.next c.args.at s (Par c.in-Par.left c.in-Par.right) (block_holds k c.in-Par.left.stmts ++ block_holds k c.in-Par.right.stmts) (λ action. Unit {0}) c.number_par.result
    c.stmt_at-stmt.ensures.program c.stmt_at-stmt.ensures.found c.in-Par.is (par-holds k c.in-Par.left c.in-Par.right) (λ a said. said) c.number_par.ensures

pub number_kind-returns-in-Assign : goal.number_kind-returns-in-Assign
number_kind-returns-in-Assign t c =
    let k = setting_of c.args.names.now in
    let s = c.stmt_at-stmt.result.now in
    stmt-answer k c.args.bodies.now c.number_assignment.new.bodies c.args.next c.args.at s s.kind (block_holds k (inner_places s)) (Says k c.number_assignment.new.bodies s s.kind) c.number_assignment.result
    c.stmt_at-stmt.ensures.program c.stmt_at-stmt.ensures.found refl refl (λ a said. said) c.number_assignment.ensures

pub number_kind-returns-in_default : goal.number_kind-returns-in_default
number_kind-returns-in_default t c =
    let k = setting_of c.args.names.now in
    let s = c.stmt_at-stmt.result.now in
    stmt-answer k c.args.bodies.now c.number_plain.new.bodies c.args.next c.args.at s s.kind (block_holds k (inner_places s)) (Says k c.number_plain.new.bodies s s.kind) c.number_plain.result
    c.stmt_at-stmt.ensures.program c.stmt_at-stmt.ensures.found refl refl (λ a said. said) c.number_plain.ensures

pub number_stmt-name_step-requires : goal.number_stmt-name_step-requires
number_stmt-name_step-requires t c = omega (arith, c.requires.at, c.requires.places, c.in_ok-fragment.ensures.emitted.names.count)

pub number_stmt-returns : goal.number_stmt-returns
number_stmt-returns t c =
    let k = setting_of c.args.names.now in
    emitted-named k c.args.bodies.now c.number_kind.new.bodies c.name_step.new.bodies c.args.next c.args.at c.in_ok-fragment.field-0
    (omega (arith, c.requires.at, c.requires.places, c.in_ok-fragment.ensures.emitted.names.count)) c.name_step.ensures c.in_ok-fragment.ensures

pub number_while-returns : goal.number_while-returns
number_while-returns t c =
    let names = c.args.names.now in
    emitted-while (setting_of names) c.args.bodies.now c.number_expression.new.bodies c.emit.new.bodies c.number_braced.new.bodies c.settle.new.bodies c.args.site.head (record { span = c.args.site.head; next = c.args.site.next; action = End }) c.args.site.next c.args.condition c.in_ok-first.first
    c.args.body.now.stmts c.in_ok-condition.condition c.in_ok-body.body
    c.in_ok-condition.ensures c.in_ok-first.ensures.place c.in_ok-first.ensures.bodies c.in_ok-body.ensures c.settle.ensures
