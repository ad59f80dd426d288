use Rattle.std.proofs.Common.{◌≡◌, drop}
use Rattle.perm_tree.specs.Scopes.{block_end}
use Rattle.perm_table.proofs.tables.block_end.Given as goal

abbrev pub invariant-places : goal.invariant-places
invariant-places l = block_end l.stmts l.end (drop l.place-index l.places) ≡ block_end l.stmts 0 l.places
