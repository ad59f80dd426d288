use Rattle.std.proofs.Common.{◌≡◌, ◌∙◌, length, sym, ap, subst}
use Rattle.perm_tree.specs.InBody.{vars_at, IsStmtOf}
use Rattle.perm_tree.specs.Places.{Listing}
use Rattle.perm_tree.specs.UnitTables.{Tables}
use Rattle.perm_tree.specs.VarSets.{member}
use Rattle.perm_tree.specs.Vars.{below, IsWithin}
use Rattle.perm_flow.specs.Walk.{AreHolders}
use Rattle.perm_flow.proofs.StatementForms.{vars-count}
use Rattle.perm_flow.proofs.WholeMethods.{flow-told, place-hidden, unit-holders}
use Rattle.perm_flow.proofs.walk.methods.flow.Goals as goal

pub hidden_at-hidden-requires : goal.hidden_at-hidden-requires
hidden_at-hidden-requires c = subst AreHolders (sym (c.stmts.ensures.value ∙ ap (λ (p : Listing). p.stmts) c.program.ensures)) (unit-holders c.args.unit.now c.resolved.ensures.resolved)

pub flow_stmt-requires : goal.flow_stmt-requires
flow_stmt-requires c =
    let b = c.new-body.result in
    let same : length (vars_at b.unit b.number) ≡ length (vars_at c.args.unit.now c.args.method) = λ i. length (vars_at (c.new-body.ensures.unit i) (c.new-body.ensures.number i)) in
    record {
      inside = subst (λ n. IsStmtOf b.unit n c.args.stmt) (sym c.new-body.ensures.number) (subst (λ (u : Tables). IsStmtOf u c.args.method c.args.stmt) (sym c.new-body.ensures.unit) c.requires.stmt);
      known = subst (λ n. IsWithin (member c.args.live) (below n)) (sym (vars-count b c.kept.ensures ∙ same)) c.requires.live;
    }

pub returns : goal.returns
returns c =
    let b = c.new-body.result in
    flow-told b c.args.unit.now c.args.method c.args.stmt c.hidden_at-hidden.result c.args.live c.flow_stmt.result c.new-body.ensures.unit c.new-body.ensures.number
    (place-hidden b c.kept.ensures c.args.stmt c.vars.result.now c.stmts.result.now c.hidden_at-hidden.result c.vars.ensures
    (c.stmts.ensures.value ∙ (ap (λ (p : Listing). p.stmts) c.program.ensures ∙ ap (λ (u : Tables). u.program.stmts) (sym c.new-body.ensures.unit))) c.hidden_at-hidden.ensures)
    c.flow_stmt.ensures
