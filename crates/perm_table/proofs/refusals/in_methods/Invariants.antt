use Rattle.std.proofs.Common.{◌≡◌, map, reverse}
use Rattle.std.specs.Prelude.{flat_map}
use Rattle.perm_tree.specs.Names.{in_method}
use Rattle.perm_table.specs.Findings.{first_before, told_if}
use Rattle.perm_table.proofs.refusals.in_methods.Given as goal

abbrev pub invariant-tables : goal.invariant-tables
invariant-tables l = told_if l.first ≡ first_before (flat_map in_method (reverse (map (λ t. t.now) l.yielded))) (told_if l.fn.rest)
