use Rattle.std.proofs.Common.{sym, subst}
use Rattle.perm_tree.specs.declared.ast.StmtKind.{StmtKind}
use Rattle.perm_tree.specs.CodeOf.{code_of}
use Rattle.perm_tree.specs.InBody.{setting_at}
use Rattle.perm_meaning.specs.Evaluator.PartEnds.{EndsAs}
use Rattle.perm_meaning.specs.Evaluator.Parts.{first_end, give_of}
use Rattle.perm_meaning.proofs.eval.own.Own.end_of.Goals as goal

pub returns-in-Assign-clause-ends : goal.returns-in-Assign-clause-ends
returns-in-Assign-clause-ends c =
    let u = c.args.unit.now in
    let k = setting_at u c.args.self.now.«method» in
    subst (λ (q : StmtKind). EndsAs (code_of u) (first_end k q) c.args.self.now c.end_into.new.self c.end_into.result) (sym c.in-Assign.is)
    (subst (λ x. EndsAs (code_of u) (give_of k x c.in-Assign.r) c.args.self.now c.end_into.new.self c.end_into.result) c.variable-x.ensures c.end_into.ensures.ends)
