use Rattle.std.proofs.Common.{◌≡◌, ◌∙◌, Some, None, ap, sym, subst}
use Rattle.std.specs.Prelude.{option_copied}
use Rattle.perm_tree.specs.InBody.{method_at}
use Rattle.perm_meaning.specs.declared.eval.own.Own.{Own}
use Rattle.perm_meaning.specs.Evaluator.Opening.{Begins, MayBegin}
use Rattle.perm_meaning.specs.Plain.{Tells}
use Rattle.perm_meaning.proofs.Evaluator.Runs.Begun.{begins-means, begins-tells, no-run}
use Rattle.perm_meaning.proofs.eval.plain.eval_plain.Goals as goal

pub returns : goal.returns
returns c =
    let u = c.args.unit.now in
    let begins : Begins u c.args.input.now c.args.turns c.args.heap c.in-Some.state = subst (MayBegin u c.args.input.now c.args.turns c.args.heap) c.in-Some.is c.in_ok-state.ensures in
    let gone : method_at u c.in-Some.state.own.«method» ≡ None = sym c.method.ensures ∙ ap option_copied c.in-None.is in
    no-run u c.resolved.ensures.resolved c.args.input.now c.args.turns c.args.heap begins.heap.room (ap (λ (o : Own). method_at u o.«method») (sym begins.own) ∙ gone)

pub returns-in-Some-method : goal.returns-in-Some-method
returns-in-Some-method c =
    let u = c.args.unit.now in
    let begins : Begins u c.args.input.now c.args.turns c.args.heap c.in-Some.state = subst (MayBegin u c.args.input.now c.args.turns c.args.heap) c.in-Some.is c.in_ok-state.ensures in
    let d = c.in-Some-method._run.now in
    let there : method_at u c.in-Some.state.own.«method» ≡ Some d = sym c.method.ensures ∙ ap option_copied c.in-Some-method.is in
    let is = ap (λ (o : Own). method_at u o.«method») (sym begins.own) ∙ there in
    let means = c.in_ok-fate-in-Some-method.ensures.means _ (begins-means u c.resolved.ensures.resolved c.args.input.now c.args.turns c.args.heap d is c.in-Some.state begins) in
    subst (Tells c.told.result) (sym (begins-tells u c.resolved.ensures.resolved c.args.input.now c.args.turns c.args.heap d is c.in-Some.state begins)) (c.told.ensures u _ means)
