use Rattle.std.proofs.Common.{◌≡◌, ◌≤◌, length}
use Rattle.std.specs.Prelude.{◌||◌}
use Rattle.perm_tree.specs.BodyTerms.{operand_term, operation_terms, IsOperandBelow}
use Rattle.perm_rules.specs.MethodBodies.{context_of}
use Rattle.perm_flow.specs.Questions.{answer}
use Rattle.perm_flow.proofs.OperationTerms.{place_of}
use Rattle.perm_flow.proofs.terms.+operand_answer.Given as goal

abbrev pub decreases-operand_answer : goal.decreases-operand_answer
decreases-operand_answer l = place_of l.operand

abbrev pub decreases-loop-left : goal.decreases-loop-left
decreases-loop-left l = place_of l.left

abbrev pub invariant-loop-left : goal.invariant-loop-left
invariant-loop-left l = record {
  below : IsOperandBelow (length l.run) l.left;
  within : place_of l.left ≤ place_of l.fn.operand;
  kept : (l.found || answer (context_of l.body) l.question (operand_term (operation_terms l.run) l.left)) ≡ answer (context_of l.body) l.question (operand_term (operation_terms l.run) l.fn.operand);
}
