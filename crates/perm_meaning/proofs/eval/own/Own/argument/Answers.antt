use Rattle.std.proofs.Common.{◌≡◌, sym, ap, ◌∙◌, subst}
use Rattle.perm_tree.specs.declared.ast.Arg.{Arg}
use Rattle.perm_tree.specs.CodeNames.{argument}
use Rattle.perm_tree.specs.InBody.{setting_at}
use Rattle.perm_meaning.specs.Expressions.{clear, tagged}
use Rattle.perm_meaning.specs.Evaluator.NumberedValues.{all_by}
use Rattle.perm_meaning.specs.Evaluator.SimpleStatements.{after_argument}
use Rattle.perm_meaning.proofs.eval.own.Own.argument.Goals as goal

pub returns-in-Consume-clause-vars : goal.returns-in-Consume-clause-vars
returns-in-Consume-clause-vars c names =
    subst (λ (a : Arg). all_by names c.lose.new.self.vars ≡ after_argument (argument (setting_at c.args.unit.now c.args.self.now.«method») a) (all_by names c.args.self.now.vars)) (sym c.in-Consume.is)
    (c.lose.ensures.vars names ∙ ap (clear tagged (all_by names c.args.self.now.vars)) c.variable-y.ensures)
