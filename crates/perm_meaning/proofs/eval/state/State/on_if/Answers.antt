use Rattle.std.proofs.Common.{sym, subst}
use Rattle.perm_meaning.specs.declared.eval.control.Control.{Control}
use Rattle.perm_meaning.specs.declared.eval.state.Fate.{Fate}
use Rattle.perm_meaning.specs.declared.eval.state.Fate.TheVariants as fates
use Rattle.perm_meaning.specs.Evaluator.Control.{TestsAs}
use Rattle.perm_meaning.specs.Evaluator.Runs.{unspent, IsNext}
use Rattle.perm_meaning.specs.Evaluator.States.{test_fate}
use Rattle.perm_meaning.proofs.Evaluator.Runs.Blocks.{if-next}
use Rattle.perm_meaning.proofs.eval.state.State.on_if.Goals as goal

pub returns : goal.returns
returns c a b e =
    let u = c.args.unit.now in
    let s = c.args.self.now in
    let q = c.test_of-tested.result in
    let next = if-next u s c.args.at c.args.stmt.now c.resolved.ensures.resolved.formed.placed c.requires c.args.e a b e q
    (λ names. subst (λ v. TestsAs v q) (c.in_ok-given.ensures names) (c.test_of-tested.ensures names)) in
    subst (λ (f : Fate). IsNext u (unspent s) fates.Goes (record s { control = c.on_if.new.self }) f) (sym c.test_fate.ensures)
    (subst (λ (k : Control). IsNext u (unspent s) fates.Goes (record s { control = k }) (test_fate c.args.stmt.now.head q)) (sym c.in_ok-on_if.ensures) next)
