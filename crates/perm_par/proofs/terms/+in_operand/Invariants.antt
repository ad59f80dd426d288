use Rattle.std.proofs.Common.{◌≡◌, ◌≤◌, length}
use Rattle.perm_tree.specs.BodyTerms.{operand_term, operation_terms, IsOperandBelow}
use Rattle.perm_tree.specs.Mentions.{known, term_mentions}
use Rattle.perm_tree.specs.Vars.{plus}
use Rattle.perm_tree.specs.VarSets.{member}
use Rattle.perm_par.specs.Known.{count_of}
use Rattle.perm_par.specs.Operands.{rank}
use Rattle.perm_par.proofs.terms.+in_operand.Given as goal

abbrev pub decreases-in_operand : goal.decreases-in_operand
decreases-in_operand l = rank l.operand

abbrev pub invariant-on : goal.invariant-on
invariant-on l = record {
  below : IsOperandBelow (length l.run) l.on;
  rank : rank l.on ≤ rank l.fn.operand;
  gathered : plus (member l.set) (known (count_of l.body) (term_mentions (operand_term (operation_terms l.run) l.on))) ≡ known (count_of l.body) (term_mentions (operand_term (operation_terms l.run) l.fn.operand));
}

abbrev pub decreases-on : goal.decreases-on
decreases-on l = rank l.on
