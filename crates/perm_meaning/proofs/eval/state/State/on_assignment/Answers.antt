use Rattle.std.proofs.Common.{◌∙◌, ap, sym, subst}
use Rattle.perm_tree.specs.declared.ast.Rhs.{Rhs}
use Rattle.perm_tree.specs.declared.ast.StmtKind.TheVariants.{Assign}
use Rattle.perm_meaning.specs.declared.eval.control.Control.{Control}
use Rattle.perm_meaning.specs.declared.eval.state.Fate.TheVariants as fates
use Rattle.perm_meaning.specs.Evaluator.Runs.{unspent, IsNext}
use Rattle.perm_meaning.proofs.Evaluator.Runs.Blocks.{recover-next}
use Rattle.perm_meaning.proofs.eval.state.State.on_assignment.Goals as goal

pub returns-in_ok-on_recover-in-Recover : goal.returns-in_ok-on_recover-in-Recover
returns-in_ok-on_recover-in-Recover c t x e =
    let u = c.args.unit.now in
    let s = c.args.self.now in
    let kind = e ∙ ap (λ (r : Rhs). Assign t x r) c.in-Recover.is in
    subst (λ (k : Control). IsNext u (unspent s) fates.Goes (record s { control = k }) fates.Goes) (sym c.in_ok-on_recover-in-Recover.ensures)
    (recover-next u s c.args.at c.args.stmt.now c.resolved.ensures.resolved.formed.placed c.requires.next t x c.in-Recover.field-0 c.in-Recover.field-1 c.in-Recover.field-2 kind)
