use Rattle.std.proofs.Common.{sym, subst}
use Rattle.perm_meaning.specs.declared.eval.state.Fate.TheVariants as fates
use Rattle.perm_meaning.specs.declared.eval.state.State.{State}
use Rattle.perm_meaning.specs.Evaluator.Runs.{unspent, IsNext}
use Rattle.perm_meaning.proofs.Evaluator.Runs.Blocks.{par-next, par-stops}
use Rattle.perm_meaning.proofs.eval.state.State.on_par.Goals as goal

pub returns-then-self-ge-MOST_DEPTH : goal.returns-then-self-ge-MOST_DEPTH
returns-then-self-ge-MOST_DEPTH c a b e =
    par-stops c.args.unit.now c.args.self.now c.args.at c.args.stmt.now c.resolved.ensures.resolved.formed.placed c.requires a b e c.if-self-ge-MOST_DEPTH.true

pub returns : goal.returns
returns c a b e =
    subst (λ (s : State). IsNext c.args.unit.now (unspent c.args.self.now) fates.Goes s fates.Goes) (sym c.in_ok-split.ensures)
    (par-next c.args.unit.now c.args.self.now c.args.at c.args.stmt.now c.resolved.ensures.resolved.formed.placed c.requires a b e c.if-self-ge-MOST_DEPTH.false)
