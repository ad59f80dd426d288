use Rattle.std.proofs.Common.{sym, subst}
use Rattle.perm_meaning.specs.declared.eval.frames.Frame.TheVariants as frames
use Rattle.perm_meaning.specs.declared.eval.state.Fate.{Fate}
use Rattle.perm_meaning.specs.declared.eval.state.Fate.TheVariants as fates
use Rattle.perm_meaning.specs.Evaluator.Runs.{below_frame, IsNext}
use Rattle.perm_meaning.proofs.Evaluator.Runs.BehindBlocks.{recover-fails-next, recover-next, recover-stuck-next}
use Rattle.perm_meaning.proofs.eval.state.State.behind_recover.Goals as goal

pub returns-in-Gives : goal.returns-in-Gives
returns-in-Gives c =
    let old = c.args.self.now in
    let new = record old { own = c.recover.new.self; control = record old.control { spot = c.args.rest } } in
    subst (λ (x : Fate). IsNext c.args.unit.now (below_frame (frames.Recover c.args.part c.args.rest) old) x new fates.Goes) (sym c.in-Gives.is)
    (recover-next c.args.unit.now c.args.part c.args.rest old c.in-Gives.value c.in-Gives.x c.recover.new.self c.recover.ensures.vars c.recover.ensures.same)

pub returns-in-Fails : goal.returns-in-Fails
returns-in-Fails c =
    let old = c.args.self.now in
    subst (λ (x : Fate). IsNext c.args.unit.now (below_frame (frames.Recover c.args.part c.args.rest) old) x old x) (sym c.in-Fails.is)
    (recover-fails-next c.args.unit.now c.args.part c.args.rest old c.in-Fails.field-0)

pub returns-in_default : goal.returns-in_default
returns-in_default c = recover-stuck-next c.args.unit.now c.args.part c.args.rest c.args.self.now c.args.fate c.requires c.in_default.not-Gives c.in_default.not-Fails
