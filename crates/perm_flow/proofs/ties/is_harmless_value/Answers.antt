use Rattle.std.proofs.Common.{◌≡◌, ◌-◌, true, refl, subst, sym}
use Rattle.perm_tree.specs.declared.bodies.Expression.{Expression}
use Rattle.perm_tree.specs.BodyTerms.{expression_term, stretch}
use Rattle.perm_tree.specs.Code as code
use Rattle.perm_tree.specs.Ties.{is_harmless}
use Rattle.perm_rules.specs.MethodBodies.{context_of}
use Rattle.perm_rules.specs.Parts.{type_of}
use Rattle.perm_flow.proofs.OperationTerms.{made-term}
use Rattle.perm_flow.proofs.ties.is_harmless_value.Goals as goal

pub returns-in-Operations : goal.returns-in-Operations
returns-in-Operations c =
    let all = c.args.body.now.bodies.operations in
    let ty = type_of (context_of c.args.body.now) in
    subst (λ (e : Expression). true ≡ is_harmless ty (code.Expression (expression_term all e))) (sym c.in-Operations.is)
    (made-term (stretch all c.in-Operations.field-0 c.in-Operations.field-1) (c.in-Operations.field-1 - 1) (λ t. true ≡ is_harmless ty (code.Expression t)) refl (λ op a. refl) (λ op a b. refl))
