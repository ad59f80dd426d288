use Rattle.std.proofs.Common.{◌≡◌, false, sym, subst}
use Rattle.perm_tree.specs.declared.bodies.Operand.{Operand}
use Rattle.perm_tree.specs.BodyTerms.{operand_term, operation_terms, IsOperandBelow}
use Rattle.perm_flow.specs.Questions.{is_null}
use Rattle.perm_flow.proofs.OperationTerms.{earlier-no_null}
use Rattle.perm_flow.proofs.terms.is_null.Goals as goal

pub returns-in-Earlier : goal.returns-in-Earlier
returns-in-Earlier c =
    subst (λ (a : Operand). false ≡ is_null (operand_term (operation_terms c.args.run.now) a)) (sym c.in-Earlier.is)
    (sym (earlier-no_null c.args.run.now c.in-Earlier.field-0 c.requires.ordered (subst (IsOperandBelow _) c.in-Earlier.is c.requires.below)))
