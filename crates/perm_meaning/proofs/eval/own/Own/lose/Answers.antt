use Rattle.std.proofs.Common.{ap, ◌∙◌}
use Rattle.perm_meaning.specs.declared.eval.own.Own.{Own}
use Rattle.perm_meaning.specs.Evaluator.NumberedValues.{all_by}
use Rattle.perm_meaning.proofs.Evaluator.Asks.{clear-by}
use Rattle.perm_meaning.proofs.eval.own.Own.lose.Goals as goal

pub returns-clause-vars : goal.returns-clause-vars
returns-clause-vars c names = ap (λ (o : Own). all_by names o.vars) c.set.ensures ∙ clear-by names c.args.self.now.vars c.args.x
