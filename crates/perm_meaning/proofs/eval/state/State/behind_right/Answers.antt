use Rattle.std.proofs.Common.{◌∙◌, sym, subst, ap}
use Rattle.perm_meaning.specs.declared.eval.frames.Frame.TheVariants as frames
use Rattle.perm_meaning.specs.declared.eval.state.Fate.{Fate}
use Rattle.perm_meaning.specs.declared.eval.state.Fate.TheVariants as fates
use Rattle.perm_meaning.specs.declared.eval.state.State.{State}
use Rattle.perm_meaning.specs.Evaluator.Runs.{below_frame, IsNext}
use Rattle.perm_meaning.specs.Evaluator.States.{joined_at}
use Rattle.perm_meaning.proofs.Evaluator.Runs.BehindPars.{join-next, joined-same, right-stuck-next}
use Rattle.perm_meaning.proofs.eval.state.State.behind_right.Goals as goal

pub returns-in_default : goal.returns-in_default
returns-in_default c =
    let old = c.args.self.now in
    subst (λ (s : State). IsNext c.args.unit.now (below_frame (frames.Right c.args.parent c.args.left) old) c.args.fate s fates.Sticks) (sym c.in_default.ensures.same)
    (right-stuck-next c.args.unit.now c.args.parent c.args.left old c.args.fate c.requires.ended c.take_final.new.self.own (sym c.in_default.ensures.value))

pub returns : goal.returns
returns c =
    let old = c.args.self.now in
    let p = c.args.parent in
    let own = c.take_final.new.self.own in
    let state = c.join.ensures.state ∙ ap (λ (s : State). joined_at (record p { own = c.joined.new.parent }) c.in_ok-end.end s) c.in-Some.ensures.same
    ∙ joined-same p c.joined.new.parent c.in_ok-end.end (record old { own = own }) c.in_ok-end.ensures.same in
    subst (λ (s : State). IsNext c.args.unit.now (below_frame (frames.Right p c.args.left) old) c.args.fate s c.join.result) (sym state)
    (subst (λ (y : Fate). IsNext c.args.unit.now (below_frame (frames.Right p c.args.left) old) c.args.fate (joined_at p c.in_ok-end.end (record old { own = own })) y) (sym c.join.ensures.fate)
    (join-next c.args.unit.now p c.args.left old c.args.fate c.requires.ended c.in-Some.right own (sym c.in-Some.ensures.value) c.in_ok-end.end c.in_ok-end.ensures.ends))
