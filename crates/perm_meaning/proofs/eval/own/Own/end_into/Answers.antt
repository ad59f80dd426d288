use Rattle.std.proofs.Common.{sym, subst}
use Rattle.perm_tree.specs.declared.ast.Rhs.{Rhs}
use Rattle.perm_tree.specs.CodeOf.{code_of}
use Rattle.perm_tree.specs.InBody.{setting_at}
use Rattle.perm_meaning.specs.Evaluator.PartEnds.{EndsAs}
use Rattle.perm_meaning.specs.Evaluator.Parts.{give_of}
use Rattle.perm_meaning.proofs.eval.own.Own.end_into.Goals as goal

pub returns-in-Recover-clause-ends : goal.returns-in-Recover-clause-ends
returns-in-Recover-clause-ends c =
    let u = c.args.unit.now in
    subst (λ (r : Rhs). EndsAs (code_of u) (give_of (setting_at u c.args.self.now.«method») c.args.x r) c.args.self.now c.give.new.self c.give.result) (sym c.in-Recover.is) c.give.ensures.ends
