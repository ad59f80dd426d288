use Rattle.std.proofs.Common.{◌≡◌, ◌∷◌, [], ◌++◌, List, true, sym, ap, ◌∙◌, subst}
use Rattle.perm_tree.specs.CodeOf.{code_of}
use Rattle.perm_step.specs.Stems.{IsReady, Stack}
use Rattle.perm_step.specs.Working.{Working}
use Rattle.perm_step.proofs.ControlStacks.Forks.{fork-par, fork-runs, forks-so}
use Rattle.perm_step.proofs.ctl.fork.Goals as goal

pub unreachable-requires : goal.unreachable-requires
unreachable-requires c =
    let k : Stack = record { bodies = c.ctl.inside.bodies.now; leaf = c.ctl.inside.leaf; parents = c.ctl.inside.parents.items; on_right = c.ctl.inside.on_right } in
    let u = code_of c.args.checked.now in
    let s = c.requires.atfork.0 in
    let a = c.requires.atfork.1 in
    let r = subst (λ (k : Stack). IsReady u k s) (sym c.ctl.view_is) a.ready in
    let par = fork-par u k s r a.starts c.checked.ensures c.step-step.result.now c.step-step.ensures in
    c.in_default.not-Par par.0 par.1 par.2 par.3

pub returns-clause-forks : goal.returns-clause-forks
returns-clause-forks c s a =
    let k : Stack = record { bodies = c.ctl.inside.bodies.now; leaf = c.ctl.inside.leaf; parents = c.ctl.inside.parents.items; on_right = c.ctl.inside.on_right } in
    let u = code_of c.args.checked.now in
    let r = subst (λ (k : Stack). IsReady u k s) (sym c.ctl.view_is) a.ready in
    let parent = c.in_ok-parent.field-0.parent in
    let right = c.in_ok-parent.field-0.right in
    let left = c.fork.new.self in
    let parents : c.push_reserved.new.self.items ≡ k.parents ++ parent ∷ [] = c.push_reserved.ensures.items ∙ ap (λ (ps : List Working). ps ++ parent ∷ []) c.reserve.ensures.items in
    let new : Stack = record { bodies = k.bodies; leaf = record { control = left; ending = k.leaf.ending }; parents = c.push_reserved.new.self.items; on_right = k.on_right } in
    let other : Stack = record { bodies = k.bodies; leaf = c.running.result; parents = c.new.result.items; on_right = true } in
    forks-so u k s r a.starts c.checked.ensures c.step-step.result.now c.step-step.ensures c.in-Par.first c.in-Par.second c.in-Par.field-2 c.in-Par.is parent left right c.in_ok-parent.ensures.parts new other
    (λ j. record { bodies = k.bodies; leaf = record { control = left; ending = fork-runs u k s r a.starts c.checked.ensures j }; parents = parents j; on_right = k.on_right })
    (λ j. record { bodies = k.bodies; leaf = c.running.ensures j; parents = c.new.ensures.items j; on_right = true })
