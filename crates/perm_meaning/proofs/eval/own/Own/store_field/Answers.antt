use Rattle.std.proofs.Common.{◌≡◌, ap, subst}
use Rattle.perm_tree.specs.CodeNames.{argument, var_at}
use Rattle.perm_tree.specs.CodeOf.{code_of}
use Rattle.perm_tree.specs.InBody.{setting_at}
use Rattle.perm_meaning.specs.declared.eval.own.Own.{Own}
use Rattle.perm_meaning.specs.Expressions.{look_up, tagged}
use Rattle.perm_meaning.specs.Evaluator.NumberedValues.{all_by, given_by}
use Rattle.perm_meaning.proofs.Evaluator.Asks.{stores}
use Rattle.perm_meaning.proofs.eval.own.Own.store_field.Goals as goal

pub returns-clause-asks : goal.returns-clause-asks
returns-clause-asks c names mark =
    let u = c.args.unit.now in
    let new : Own = c.argument.new.self in
    let held : given_by names c.held.result ≡ look_up tagged (all_by names new.vars) (var_at (setting_at u c.args.self.now.«method») c.args.y) =
    subst (λ m. given_by names c.held.result ≡ look_up tagged (all_by names new.vars) (var_at (setting_at u m) c.args.y)) (ap (λ (o : Own). o.«method») c.argument.ensures.same) (c.held.ensures names) in
    stores (code_of u) names mark c.args.self.now new (argument (setting_at u c.args.self.now.«method») c.args.a.now) (var_at (setting_at u c.args.self.now.«method») c.args.y) c.args.f c.in_ok-value.value c.held.result c.store.result
    c.argument.ensures.same (c.argument.ensures.vars names) (c.in_ok-value.ensures.value names) held (λ l. c.store.ensures (code_of u) names l)
