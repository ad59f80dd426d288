use Rattle.std.proofs.Common.{◌≡◌, ◌++◌, drop}
use Rattle.perm_tree.specs.Scopes.{all_inner, class_tables}
use Rattle.perm_table.proofs.tables.add_class.Given as goal

abbrev pub invariant-methods : goal.invariant-methods
invariant-methods l =
    l.tables ++ class_tables l.program.stmts (all_inner l.program.stmts) l.class l.at (drop l.at l.methods) ≡ l.fn.tables ++ class_tables l.program.stmts (all_inner l.program.stmts) l.class 0 l.methods
