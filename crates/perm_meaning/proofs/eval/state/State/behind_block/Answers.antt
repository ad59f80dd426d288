use Rattle.std.proofs.Common.{sym, subst}
use Rattle.perm_meaning.specs.declared.eval.frames.Frame.TheVariants as frames
use Rattle.perm_meaning.specs.declared.eval.state.Fate.{Fate}
use Rattle.perm_meaning.specs.declared.eval.state.Fate.TheVariants as fates
use Rattle.perm_meaning.specs.Evaluator.Runs.{below_frame, IsNext}
use Rattle.perm_meaning.proofs.Evaluator.Runs.BehindBlocks.{block-fails-next, block-next, block-stuck-next}
use Rattle.perm_meaning.proofs.eval.state.State.behind_block.Goals as goal

pub returns-in-Closes : goal.returns-in-Closes
returns-in-Closes c =
    let old = c.args.self.now in
    let new = record old { own = c.close.new.self; control = record old.control { spot = c.args.rest } } in
    subst (λ (x : Fate). IsNext c.args.unit.now (below_frame (frames.Block c.args.part c.args.rest) old) x new fates.Goes) (sym c.in-Closes.is)
    (block-next c.args.unit.now c.args.part c.args.rest old c.close.new.self c.close.ensures.vars c.close.ensures.same)

pub returns-in-Fails : goal.returns-in-Fails
returns-in-Fails c =
    let old = c.args.self.now in
    subst (λ (x : Fate). IsNext c.args.unit.now (below_frame (frames.Block c.args.part c.args.rest) old) x old x) (sym c.in-Fails.is)
    (block-fails-next c.args.unit.now c.args.part c.args.rest old c.in-Fails.field-0)

pub returns-in_default : goal.returns-in_default
returns-in_default c = block-stuck-next c.args.unit.now c.args.part c.args.rest c.args.self.now c.args.fate c.requires c.in_default.not-Closes c.in_default.not-Fails
