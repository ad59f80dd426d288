use Rattle.std.proofs.Common.{◌∙◌, ℕ, Option, Some, sym, ap}
use Rattle.perm_meaning.specs.declared.eval.own.Own.{Own}
use Rattle.perm_meaning.specs.Expressions.{assign_into}
use Rattle.perm_meaning.specs.Evaluator.NumberedValues.{all_by, value_by}
use Rattle.perm_meaning.proofs.Evaluator.Asks.{set-by}
use Rattle.perm_meaning.proofs.eval.own.Own.come_back.Goals as goal

pub returns-in-Some-clause-vars : goal.returns-in-Some-clause-vars
returns-in-Some-clause-vars c names =
    ap (λ (o : Own). all_by names o.vars) c.set.ensures
    ∙ set-by names c.args.caller.vars c.in-Some.x (Some c.args.value)
    ∙ ap (λ (into : Option ℕ). assign_into (all_by names c.args.caller.vars) into (Some (value_by names c.args.value))) (sym c.in-Some.is)
