use Rattle.std.proofs.Common.{◌∙◌, sym, subst}
use Rattle.perm_tree.specs.CodeOf.{code_of}
use Rattle.perm_step.specs.Stems.{IsNext, IsReady, IsRootStack, Stack}
use Rattle.perm_step.specs.declared.ctl.Op.{Op}
use Rattle.perm_step.proofs.ControlStacks.StemSteps.{ask-next, side-next, step-due, trap-next}
use Rattle.perm_step.proofs.ctl.next.Goals as goal

pub returns-else-is_root-clause-next : goal.returns-else-is_root-clause-next
returns-else-is_root-clause-next c s r =
    let k : Stack = record { bodies = c.ctl.inside.bodies.now; leaf = c.ctl.inside.leaf; parents = c.ctl.inside.parents.items; on_right = c.ctl.inside.on_right } in
    let m = subst (λ (k : Stack). IsReady (code_of c.args.checked.now) k s) (sym c.ctl.view_is) r in
    side-next (code_of c.args.checked.now) k s m.means c.in-Some._end c.in-Some.ensures (λ root. let e = sym c.if-is_root.false ∙ c.is_root.ensures.1 (subst IsRootStack c.ctl.view_is root) in let none : ⊥ = cc e in none)

pub ask-requires-clause-there : goal.ask-requires-clause-there
ask-requires-clause-there c =
    let k : Stack = record { bodies = c.ctl.inside.bodies.now; leaf = c.ctl.inside.leaf; parents = c.ctl.inside.parents.items; on_right = c.ctl.inside.on_right } in
    let m = subst (λ (k : Stack). IsReady (code_of c.args.checked.now) k c.requires.ready.0) (sym c.ctl.view_is) c.requires.ready.1 in
    (code_of c.args.checked.now, (m.means.bodies.linked k.leaf.control.at c.step-step.result.now c.step-step.ensures).1)

pub returns-in-Ok-clause-next : goal.returns-in-Ok-clause-next
returns-in-Ok-clause-next c s r =
    let k : Stack = record { bodies = c.ctl.inside.bodies.now; leaf = c.ctl.inside.leaf; parents = c.ctl.inside.parents.items; on_right = c.ctl.inside.on_right } in
    let u = code_of c.args.checked.now in
    let m = subst (λ (k : Stack). IsReady u k s) (sym c.ctl.view_is) r in
    subst (λ (o : Op). IsNext u s o) (sym c.op_of.ensures) (ask-next u k s m.means c.checked.ensures (step-due u k s m.means c.in-None.ensures) m.unstuck c.step-step.result.now c.step-step.ensures c.in-Ok.ask c.in-Ok.ensures.asks)

pub returns-in-Err-clause-next : goal.returns-in-Err-clause-next
returns-in-Err-clause-next c s r =
    let k : Stack = record { bodies = c.ctl.inside.bodies.now; leaf = c.ctl.inside.leaf; parents = c.ctl.inside.parents.items; on_right = c.ctl.inside.on_right } in
    let u = code_of c.args.checked.now in
    let m = subst (λ (k : Stack). IsReady u k s) (sym c.ctl.view_is) r in
    trap-next u k s m.means c.checked.ensures (step-due u k s m.means c.in-None.ensures) m.unstuck c.step-step.result.now c.step-step.ensures c.in-Err._kind c.in-Err.ensures.traps
