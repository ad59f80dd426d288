use Rattle.std.proofs.Common.{◌≡◌, ◌++◌, drop}
use Rattle.perm_tree.specs.Scopes.{all_inner, tables_from}
use Rattle.perm_table.proofs.tables.tables_of.Given as goal

abbrev pub invariant-classes : goal.invariant-classes
invariant-classes l =
    l.tables ++ tables_from l.program.stmts (all_inner l.program.stmts) l.at (drop l.at l.classes) ≡ tables_from l.program.stmts (all_inner l.program.stmts) 0 l.classes
