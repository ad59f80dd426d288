use Rattle.perm_tree.specs.CodeNames.{argument}
use Rattle.perm_tree.specs.CodeOf.{code_of}
use Rattle.perm_tree.specs.InBody.{setting_at}
use Rattle.perm_meaning.proofs.Evaluator.Asks.{assigns}
use Rattle.perm_meaning.proofs.eval.own.Own.assign.Goals as goal

pub returns-clause-asks : goal.returns-clause-asks
returns-clause-asks c names mark =
    assigns (code_of c.args.unit.now) names mark c.args.self.now c.argument.new.self (argument (setting_at c.args.unit.now c.args.self.now.«method») c.args.a.now) c.args.x c.in_ok-value.value c.assign.result
    c.argument.ensures.same (c.argument.ensures.vars names) (c.in_ok-value.ensures.value names) (λ l. c.assign.ensures (code_of c.args.unit.now) names l)
