use Rattle.perm_table.specs.Operands.{AreKnown}
use Rattle.perm_table.proofs.numbering.expressions.add_operands.Given as goal

abbrev pub invariant-loop-at : goal.invariant-loop-at
invariant-loop-at l = AreKnown l.names l.low l.at l.operands.items l.operations.items
