use Rattle.std.proofs.Common.{◌≡◌, ◌<◌, Some, None, sym, ap, ◌∙◌, refl, subst}
use Rattle.perm_tree.specs.CodeOf.{code_of}
use Rattle.perm_step.specs.declared.control.Ending.TheVariants as endings
use Rattle.perm_step.specs.declared.control.Failure.TheVariants as failures
use Rattle.perm_step.specs.declared.control.Leaf as leaves
use Rattle.perm_step.specs.LeafMoves.{spent, Proceeds}
use Rattle.perm_step.specs.Standing.{AreOpenCalls}
use Rattle.perm_step.specs.StemMoves.{IsAnswered}
use Rattle.perm_step.specs.Stems.{Stack}
use Rattle.perm_step.specs.StepMoves.{IsCallable}
use Rattle.perm_step.specs.Working.{Working}
use Rattle.perm_step.proofs.ControlStacks.Resumes.{answer-fits, answered-callable, answered-leads, answered-runs, answered-turn, proceed-resumes, refuse-resumes, trap-resumes}
use Rattle.perm_step.proofs.ctl.resume.Goals as goal

pub ask-requires-clause-there : goal.ask-requires-clause-there
ask-requires-clause-there c =
    let k : Stack = record { bodies = c.ctl.inside.bodies.now; leaf = c.ctl.inside.leaf; parents = c.ctl.inside.parents.items; on_right = c.ctl.inside.on_right } in
    let u = code_of c.args.checked.now in
    let a = subst (λ (k : Stack). IsAnswered u k c.args.answer c.requires.answered.0) (sym c.ctl.view_is) c.requires.answered.1 in
    (u, (a.ready.means.bodies.linked k.leaf.control.at c.step-step.result.now c.step-step.ensures).1)

pub word_for-requires : goal.word_for-requires
word_for-requires c =
    let k : Stack = record { bodies = c.ctl.inside.bodies.now; leaf = c.ctl.inside.leaf; parents = c.ctl.inside.parents.items; on_right = c.ctl.inside.on_right } in
    let u = code_of c.args.checked.now in
    let s = c.requires.answered.0 in
    let a = subst (λ (k : Stack). IsAnswered u k c.args.answer s) (sym c.ctl.view_is) c.requires.answered.1 in
    answer-fits u k s c.args.answer a c.checked.ensures c.step-step.result.now c.step-step.ensures c.in-Ok.ask c.in-Ok.ensures.asks

pub proceed-requires-clause-due : goal.proceed-requires-clause-due
proceed-requires-clause-due c =
    let k : Stack = record { bodies = c.ctl.inside.bodies.now; leaf = c.ctl.inside.leaf; parents = c.ctl.inside.parents.items; on_right = c.ctl.inside.on_right } in
    let u = code_of c.args.checked.now in
    let s = c.requires.answered.0 in
    let a = subst (λ (k : Stack). IsAnswered u k c.args.answer s) (sym c.ctl.view_is) c.requires.answered.1 in
    subst (λ (d : Working). 0 < d.turns) (sym c.ask.ensures.same) (answered-turn u k s c.args.answer a c.checked.ensures)

pub proceed-requires-clause-there : goal.proceed-requires-clause-there
proceed-requires-clause-there c =
    let k : Stack = record { bodies = c.ctl.inside.bodies.now; leaf = c.ctl.inside.leaf; parents = c.ctl.inside.parents.items; on_right = c.ctl.inside.on_right } in
    let u = code_of c.args.checked.now in
    let a = subst (λ (k : Stack). IsAnswered u k c.args.answer c.requires.answered.0) (sym c.ctl.view_is) c.requires.answered.1 in
    (u, (a.ready.means.bodies.linked k.leaf.control.at c.step-step.result.now c.step-step.ensures).1)

pub proceed-requires-clause-leads : goal.proceed-requires-clause-leads
proceed-requires-clause-leads c =
    let k : Stack = record { bodies = c.ctl.inside.bodies.now; leaf = c.ctl.inside.leaf; parents = c.ctl.inside.parents.items; on_right = c.ctl.inside.on_right } in
    let u = code_of c.args.checked.now in
    let s = c.requires.answered.0 in
    let a = subst (λ (k : Stack). IsAnswered u k c.args.answer s) (sym c.ctl.view_is) c.requires.answered.1 in
    answered-leads u k s c.args.answer a c.checked.ensures c.step-step.result.now c.step-step.ensures c.in-Ok.ask c.in-Ok.ensures.asks

pub proceed-requires-clause-callable : goal.proceed-requires-clause-callable
proceed-requires-clause-callable c =
    let k : Stack = record { bodies = c.ctl.inside.bodies.now; leaf = c.ctl.inside.leaf; parents = c.ctl.inside.parents.items; on_right = c.ctl.inside.on_right } in
    let u = code_of c.args.checked.now in
    let s = c.requires.answered.0 in
    let a = subst (λ (k : Stack). IsAnswered u k c.args.answer s) (sym c.ctl.view_is) c.requires.answered.1 in
    subst (λ (d : Working). IsCallable k.bodies c.step-step.result.now.action d) (sym c.ask.ensures.same) (answered-callable u k s c.args.answer a c.checked.ensures c.step-step.result.now c.step-step.ensures)

pub proceed-requires-clause-calls : goal.proceed-requires-clause-calls
proceed-requires-clause-calls c =
    let k : Stack = record { bodies = c.ctl.inside.bodies.now; leaf = c.ctl.inside.leaf; parents = c.ctl.inside.parents.items; on_right = c.ctl.inside.on_right } in
    let u = code_of c.args.checked.now in
    let s = c.requires.answered.0 in
    let a = subst (λ (k : Stack). IsAnswered u k c.args.answer s) (sym c.ctl.view_is) c.requires.answered.1 in
    subst (λ (d : Working). AreOpenCalls k.bodies d.calls) (sym c.ask.ensures.same) (a.ready.means.leaf.sound (answered-runs u k s c.args.answer a c.checked.ensures)).calls

pub trap-requires : goal.trap-requires
trap-requires c =
    let k : Stack = record { bodies = c.ctl.inside.bodies.now; leaf = c.ctl.inside.leaf; parents = c.ctl.inside.parents.items; on_right = c.ctl.inside.on_right } in
    let u = code_of c.args.checked.now in
    let s = c.requires.answered.0 in
    let a = subst (λ (k : Stack). IsAnswered u k c.args.answer s) (sym c.ctl.view_is) c.requires.answered.1 in
    record { due = subst (λ (d : Working). 0 < d.turns) (sym c.ask.ensures.same) (answered-turn u k s c.args.answer a c.checked.ensures) }

pub returns-in-Some : goal.returns-in-Some
returns-in-Some c s answered =
    let k : Stack = record { bodies = c.ctl.inside.bodies.now; leaf = c.ctl.inside.leaf; parents = c.ctl.inside.parents.items; on_right = c.ctl.inside.on_right } in
    let u = code_of c.args.checked.now in
    let a = subst (λ (k : Stack). IsAnswered u k c.args.answer s) (sym c.ctl.view_is) answered in
    let runs = answered-runs u k s c.args.answer a c.checked.ensures in
    let open-so : ◌≡◌ {A = leaves.Leaf} (record { control = c.ask.new.self; ending = k.leaf.ending }) (record { control = k.leaf.control; ending = None }) = λ j. record { control = c.ask.ensures.same j; ending = runs j } in
    proceed-resumes u k s c.args.answer a c.checked.ensures c.step-step.result.now c.step-step.ensures c.in-Ok.ask c.in-Ok.ensures.asks c.in-Some.word (sym c.word_for.ensures ∙ c.in-Some.is) c.proceed.new.self
    (subst (λ (l : leaves.Leaf). Proceeds k.bodies c.step-step.result.now c.in-Some.word l c.proceed.new.self) open-so c.proceed.ensures)
    (record k { leaf = c.proceed.new.self }) refl

pub returns-in-None : goal.returns-in-None
returns-in-None c s answered =
    let k : Stack = record { bodies = c.ctl.inside.bodies.now; leaf = c.ctl.inside.leaf; parents = c.ctl.inside.parents.items; on_right = c.ctl.inside.on_right } in
    let u = code_of c.args.checked.now in
    let a = subst (λ (k : Stack). IsAnswered u k c.args.answer s) (sym c.ctl.view_is) answered in
    let refused = λ (d : Working). let l : leaves.Leaf = record { control = spent d; ending = Some (endings.Failed failures.NoRoom) } in l in
    let new : c.refuse.new.self ≡ refused k.leaf.control = c.refuse.ensures ∙ ap refused c.ask.ensures.same in
    refuse-resumes u k s c.args.answer a c.checked.ensures c.step-step.result.now c.step-step.ensures c.in-Ok.ask c.in-Ok.ensures.asks (sym c.word_for.ensures ∙ c.in-None.is)
    (record k { leaf = c.refuse.new.self }) (λ j. record k { leaf = new j })

pub returns-in-Err : goal.returns-in-Err
returns-in-Err c s answered =
    let k : Stack = record { bodies = c.ctl.inside.bodies.now; leaf = c.ctl.inside.leaf; parents = c.ctl.inside.parents.items; on_right = c.ctl.inside.on_right } in
    let u = code_of c.args.checked.now in
    let a = subst (λ (k : Stack). IsAnswered u k c.args.answer s) (sym c.ctl.view_is) answered in
    let trapped = λ (d : Working). let l : leaves.Leaf = record { control = spent d; ending = Some (endings.Failed (failures.Trap c.in-Err.kind c.step-step.result.now.span)) } in l in
    let new : c.trap.new.self ≡ trapped k.leaf.control = c.trap.ensures ∙ ap trapped c.ask.ensures.same in
    trap-resumes u k s c.args.answer a c.checked.ensures c.step-step.result.now c.step-step.ensures c.in-Err.kind c.in-Err.ensures.traps
    (record k { leaf = c.trap.new.self }) (λ j. record k { leaf = new j })
