use Rattle.std.proofs.Common.{nat_eq, map, reverse}
use Rattle.indexmap.specs.IndexMap.{get}
use Rattle.perm_table.specs.Findings.{told_if}
use Rattle.perm_table.proofs.Doubles.{AreDoubles}
use Rattle.perm_table.proofs.refusals.doubles.Given as goal

abbrev pub invariant-names : goal.invariant-names
invariant-names l = AreDoubles (reverse (map (λ i. i.now) l.yielded)) (told_if l.fn.rest) (get nat_eq l.firsts) (told_if l.first)
