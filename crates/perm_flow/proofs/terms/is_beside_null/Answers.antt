use Rattle.std.proofs.Common.{◌≡◌, false, sym, subst}
use Rattle.perm_tree.specs.declared.bodies.Operand.{Operand}
use Rattle.perm_tree.specs.BodyTerms.{operand_term, operation_terms}
use Rattle.perm_rules.specs.MethodBodies.{context_of}
use Rattle.perm_flow.specs.Questions.{is_beside_null}
use Rattle.perm_flow.proofs.OperationTerms.{earlier-no_local}
use Rattle.perm_flow.proofs.terms.is_beside_null.Goals as goal

pub returns-in-Earlier : goal.returns-in-Earlier
returns-in-Earlier c =
    let terms = operation_terms c.args.run.now in
    subst (λ (a : Operand). false ≡ is_beside_null (context_of c.args.body.now) (operand_term terms a) (operand_term terms c.args.b)) (sym c.in-Earlier.is)
    (sym (earlier-no_local (context_of c.args.body.now) c.args.run.now c.in-Earlier.field-0 (operand_term terms c.args.b)))
