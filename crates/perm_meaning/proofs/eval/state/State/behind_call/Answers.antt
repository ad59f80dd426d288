use Rattle.std.proofs.Common.{sym, subst}
use Rattle.perm_meaning.specs.declared.eval.frames.Frame.TheVariants as frames
use Rattle.perm_meaning.specs.declared.eval.state.Fate.{Fate}
use Rattle.perm_meaning.specs.declared.eval.state.Fate.TheVariants as fates
use Rattle.perm_meaning.specs.Evaluator.Runs.{below_frame, IsNext}
use Rattle.perm_meaning.specs.Evaluator.States.{left_call}
use Rattle.perm_meaning.proofs.Evaluator.Runs.BehindBlocks.{call-fails-next, call-next, call-stuck-next}
use Rattle.perm_meaning.proofs.eval.state.State.behind_call.Goals as goal

pub returns-in-Returns : goal.returns-in-Returns
returns-in-Returns c u =
    let old = c.args.self.now in
    let new = record old { own = c.come_back.new.self; control = record old.control { spot = c.args.caller.rest } } in
    subst (λ (x : Fate). IsNext u (below_frame (frames.Call c.args.caller) old) x new fates.Goes) (sym c.in-Returns.is)
    (call-next u c.args.caller old c.in-Returns.value c.come_back.new.self c.come_back.ensures.vars c.come_back.ensures.same)

pub returns-in-Fails : goal.returns-in-Fails
returns-in-Fails c u =
    let old = c.args.self.now in
    subst (λ (x : Fate). IsNext u (below_frame (frames.Call c.args.caller) old) x (left_call c.args.caller old) x) (sym c.in-Fails.is) (call-fails-next u c.args.caller old c.in-Fails.field-0)

pub returns-in_default : goal.returns-in_default
returns-in_default c u = call-stuck-next u c.args.caller c.args.self.now c.args.fate c.requires c.in_default.not-Returns c.in_default.not-Fails
