use Rattle.std.proofs.Common.{◌≡◌, ◌∙◌, sym, subst}
use Rattle.perm_tree.specs.declared.bodies.Operand.{Operand}
use Rattle.perm_tree.specs.BodyTerms.{operand_term, operation_terms, IsOperandBelow}
use Rattle.perm_rules.specs.MethodBodies.{context_of}
use Rattle.perm_rules.specs.Sorts.{term_sort}
use Rattle.perm_flow.specs.Questions.{as_sort}
use Rattle.perm_flow.proofs.OperationTerms.{earlier-sort}
use Rattle.perm_flow.proofs.terms.operand_sort.Goals as goal

pub returns-in-Earlier : goal.returns-in-Earlier
returns-in-Earlier c =
    let terms = operation_terms c.args.run.now in
    let context = context_of c.args.body.now in
    subst (λ (a : Operand). as_sort c.operation_sort.result ≡ term_sort context (operand_term terms a)) (sym c.in-Earlier.is)
    (c.operation_sort.ensures context terms ∙ earlier-sort context c.args.run.now c.in-Earlier.i c.requires.ordered (subst (IsOperandBelow _) c.in-Earlier.is c.requires.below))
