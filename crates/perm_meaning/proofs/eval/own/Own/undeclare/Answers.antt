use Rattle.std.proofs.Common.{◌∙◌, Some, sym, ap}
use Rattle.std.specs.Prelude.{option_to_list}
use Rattle.perm_tree.specs.InBody.{setting_at}
use Rattle.perm_tree.specs.Scopes.{declared_at}
use Rattle.perm_meaning.specs.Expressions.{clear, tagged}
use Rattle.perm_meaning.specs.Evaluator.NumberedValues.{all_by}
use Rattle.perm_meaning.proofs.Evaluator.PartEnds.{undeclared}
use Rattle.perm_meaning.proofs.eval.own.Own.undeclare.Goals as goal

pub returns-in-Some-clause-vars : goal.returns-in-Some-clause-vars
returns-in-Some-clause-vars c names =
    let u = c.args.unit.now in
    let vs = all_by names c.args.self.now.vars in
    c.lose.ensures.vars names
    ∙ ap (clear tagged vs) c.variable-x.ensures
    ∙ undeclared (setting_at u c.args.self.now.«method») (declared_at u.program.stmts c.args.at) (Some c.in-Some.x) vs (ap option_to_list (sym c.in-Some.is) ∙ c.declared_at.ensures)
