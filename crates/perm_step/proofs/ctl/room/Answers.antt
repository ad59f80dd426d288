use Rattle.std.proofs.Common.{sym, subst}
use Rattle.perm_tree.specs.CodeOf.{code_of}
use Rattle.perm_step.specs.Stems.{Means, Stack}
use Rattle.perm_step.proofs.ControlStacks.StemSteps.{same-room}
use Rattle.perm_step.proofs.ctl.room.Goals as goal

pub make_room-requires : goal.make_room-requires
make_room-requires c =
    let k : Stack = record { bodies = c.ctl.inside.bodies.now; leaf = c.ctl.inside.leaf; parents = c.ctl.inside.parents.items; on_right = c.ctl.inside.on_right } in
    let m = subst (λ (k : Stack). Means (code_of c.args.checked.now) k c.requires.means.0) (sym c.ctl.view_is) c.requires.means.1 in
    record { there = (code_of c.args.checked.now, (m.bodies.linked k.leaf.control.at c.step-step.result.now c.step-step.ensures).1) }

pub returns-clause-means : goal.returns-clause-means
returns-clause-means c s m =
    let k : Stack = record { bodies = c.ctl.inside.bodies.now; leaf = c.ctl.inside.leaf; parents = c.ctl.inside.parents.items; on_right = c.ctl.inside.on_right } in
    same-room (code_of c.args.checked.now) k s (subst (λ (k : Stack). Means (code_of c.args.checked.now) k s) (sym c.ctl.view_is) m) c.make_room.new.self c.make_room.ensures.same
