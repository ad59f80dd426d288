use Rattle.std.proofs.Common.{◌≡◌, ◌++◌, take}
use Rattle.perm_table.proofs.numbering.expressions.add_operations.Given as goal

abbrev pub invariant-operations : goal.invariant-operations
invariant-operations l = l.bodies ≡ record l.fn.bodies { operations = l.fn.bodies.operations ++ take l.operation-index l.operations }
