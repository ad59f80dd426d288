use Rattle.std.proofs.Common.{◌∙◌, sym, subst}
use Rattle.perm_step.specs.StemMoves.{IsFinished}
use Rattle.perm_step.specs.Stems.{Stack}
use Rattle.perm_step.proofs.ControlStacks.Finals.{no-side, not-due, tells-end}
use Rattle.perm_step.proofs.ctl.finished.Goals as goal

pub unreachable-requires : goal.unreachable-requires
unreachable-requires c =
    let k : Stack = record { bodies = c.ctl.inside.bodies.now; leaf = c.ctl.inside.leaf; parents = c.ctl.inside.parents.items; on_right = c.ctl.inside.on_right } in
    let (u, s, f, finished) = c.requires.ended in
    let is = subst (λ (k : Stack). IsFinished u k s f) (sym c.ctl.view_is) finished in
    not-due u k s is.means f is.over c.in_default.ensures

pub told_end-requires : goal.told_end-requires
told_end-requires c =
    let k : Stack = record { bodies = c.ctl.inside.bodies.now; leaf = c.ctl.inside.leaf; parents = c.ctl.inside.parents.items; on_right = c.ctl.inside.on_right } in
    let (u, s, f, finished) = c.requires.ended in
    no-side u k s f (subst (λ (k : Stack). IsFinished u k s f) (sym c.ctl.view_is) finished) c.in-Some.end c.in-Some.ensures

pub returns : goal.returns
returns c u s f finished =
    let k : Stack = record { bodies = c.ctl.inside.bodies.now; leaf = c.ctl.inside.leaf; parents = c.ctl.inside.parents.items; on_right = c.ctl.inside.on_right } in
    let is = subst (λ (k : Stack). IsFinished u k s f) (sym c.ctl.view_is) finished in
    tells-end u k s f is c.in-Some.end c.in-Some.ensures (record { end = c.told_end.result; printed = c.from_vec.result; left = c.into_printed-printed.result.1 })
    c.told_end.ensures (c.from_vec.ensures ∙ c.into_printed-printed.ensures.0) c.into_printed-printed.ensures.1
