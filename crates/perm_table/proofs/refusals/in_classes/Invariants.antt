use Rattle.std.proofs.Common.{◌≡◌, map, reverse}
use Rattle.std.specs.Prelude.{flat_map}
use Rattle.perm_tree.specs.Names.{in_class}
use Rattle.perm_table.specs.Findings.{first_before, told_if}
use Rattle.perm_table.proofs.refusals.in_classes.Given as goal

abbrev pub invariant-classes : goal.invariant-classes
invariant-classes l = told_if l.first ≡ first_before (flat_map in_class (reverse (map (λ c. c.now) l.yielded))) (told_if l.fn.rest)
