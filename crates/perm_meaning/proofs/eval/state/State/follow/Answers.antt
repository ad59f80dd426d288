use Rattle.std.proofs.Common.{sym, subst}
use Rattle.std.proofs.lemmas.Result.{IfOk-weaker}
use Rattle.perm_meaning.specs.declared.eval.frames.Frame.{Frame}
use Rattle.perm_meaning.specs.Evaluator.Runs.{below_frame, IsNext}
use Rattle.perm_meaning.specs.Evaluator.States.{final_of, BeginsRight}
use Rattle.perm_meaning.proofs.Evaluator.Runs.BehindPars.{begins-next}
use Rattle.perm_meaning.proofs.eval.state.State.follow.Goals as goal

pub returns-in-Call : goal.returns-in-Call
returns-in-Call c =
    subst (λ (f : Frame). IsNext c.args.unit.now (below_frame f c.args.self.now) c.args.fate c.behind_call.new.self c.behind_call.result) (sym c.in-Call.is) (c.behind_call.ensures c.args.unit.now)

pub returns-in-Left : goal.returns-in-Left
returns-in-Left c =
    let u = c.args.unit.now in
    let old = c.args.self.now in
    let new = c.behind_left.new.self in
    let x = c.args.fate in
    let p = c.in-Left.parent in
    IfOk-weaker c.behind_left.result (λ y. BeginsRight p old (final_of old x) new y) (λ y. IsNext u (below_frame c.args.frame old) x new y)
    (λ y begins. subst (λ (f : Frame). IsNext u (below_frame f old) x new y) (sym c.in-Left.is) (begins-next u p old x c.requires.ended new y begins))
    c.behind_left.ensures
