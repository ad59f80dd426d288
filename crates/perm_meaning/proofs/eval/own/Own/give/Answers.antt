use Rattle.std.proofs.Common.{◌∙◌, ap}
use Rattle.perm_tree.specs.CodeNames.{var_at}
use Rattle.perm_tree.specs.CodeOf.{code_of}
use Rattle.perm_tree.specs.InBody.{setting_at}
use Rattle.perm_meaning.specs.Expressions.{clear, tagged}
use Rattle.perm_meaning.specs.Evaluator.NumberedValues.{all_by}
use Rattle.perm_meaning.proofs.Evaluator.PartEnds.{gives-as}
use Rattle.perm_meaning.proofs.eval.own.Own.give.Goals as goal

pub returns-clause-ends : goal.returns-clause-ends
returns-clause-ends c names fits again m same =
    let u = c.args.unit.now in
    let w = var_at (setting_at u c.args.self.now.«method») c.args.w in
    gives-as (code_of u) fits again names m.own m.heap c.held-given.result c.args.at m.turns w c.args.x c.args.self.now.vars c.lose.new.self.vars
    same (c.held-given.ensures names) (c.lose.ensures.vars names ∙ ap (clear tagged (all_by names c.args.self.now.vars)) c.variable-w.ensures)
