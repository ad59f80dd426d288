use Rattle.perm_table.specs.Emission.{AreEmitted}
use Rattle.perm_table.proofs.numbering.methods.number_methods.Given as goal

abbrev pub invariant-tables : goal.invariant-tables
invariant-tables l = AreEmitted (record { program = l.program; tables = l.tables }) l.table-index l.bodies
