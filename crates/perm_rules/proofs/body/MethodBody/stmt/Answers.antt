use Rattle.std.proofs.Common.{◌≡◌, ◌∙◌, ◌<◌, length, Some, ap, subst, sym}
use Rattle.std.specs.Prelude.{slice_get}
use Rattle.std.proofs.lemmas.Option.{slice_get-get_or}
use Rattle.perm_tree.specs.InBody.{IsStmtOf}
use Rattle.perm_rules.specs.MethodBodies.{Body}
use Rattle.perm_rules.proofs.MethodStatements.{stmt-below}
use Rattle.perm_rules.proofs.body.MethodBody.stmt.Goals as goal

pub bounds-stmts-at : goal.bounds-stmts-at
bounds-stmts-at c =
    let inside = subst (λ (b : Body). IsStmtOf b.unit b.number c.args.at) (sym c.self.view_is) c.requires in
    subst (λ xs. c.args.at < length xs) (sym c.stmts.ensures.value) (stmt-below (record { program = c.self.inside.program.now; tables = c.self.inside.tables.now }) c.self.invariant.resolved c.self.inside.number c.args.at inside)

pub returns : goal.returns
returns c =
    let inside = subst (λ (b : Body). IsStmtOf b.unit b.number c.args.at) (sym c.self.view_is) c.requires in
    let less = stmt-below (record { program = c.self.inside.program.now; tables = c.self.inside.tables.now }) c.self.invariant.resolved c.self.inside.number c.args.at inside in
    let there = slice_get-get_or c.stmts.result.now c.args.at c.index-stmts-at.result (subst (λ xs. c.args.at < length xs) (sym c.stmts.ensures.value) less) in
    subst (λ (b : Body). slice_get b.unit.program.stmts c.args.at ≡ Some c.index-stmts-at.result) c.self.view_is
    (ap (λ xs. slice_get xs c.args.at) (sym c.stmts.ensures.value) ∙ (there ∙ ap Some (sym c.index-stmts-at.is)))
