use Rattle.std.proofs.Common.{◌∙◌, List, Some, ap}
use Rattle.perm_meaning.specs.declared.eval.own.Own.{Own}
use Rattle.perm_meaning.specs.Expressions.{assign}
use Rattle.perm_meaning.specs.NamedHeap.{Held}
use Rattle.perm_meaning.specs.Evaluator.NumberedValues.{all_by, held_by}
use Rattle.perm_meaning.proofs.Evaluator.Asks.{set-by}
use Rattle.perm_meaning.proofs.eval.own.Own.recover.Goals as goal

pub returns-clause-vars : goal.returns-clause-vars
returns-clause-vars c names =
    ap (λ (o : Own). all_by names o.vars) c.set.ensures
    ∙ set-by names c.close.new.self.vars c.args.x (Some c.args.value)
    ∙ ap (λ (vs : List Held). assign vs c.args.x (held_by names (Some c.args.value))) (c.close.ensures.vars names)
