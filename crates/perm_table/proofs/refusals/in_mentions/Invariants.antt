use Rattle.std.proofs.Common.{◌≡◌, map, reverse}
use Rattle.perm_table.specs.Findings.{unknowns_by}
use Rattle.perm_table.specs.Numbers.{knows_in}
use Rattle.perm_table.specs.Findings.{first_before, told_if}
use Rattle.perm_table.proofs.refusals.in_mentions.Given as goal

abbrev pub invariant-names : goal.invariant-names
invariant-names l = told_if l.first ≡ first_before (unknowns_by (knows_in l.numbers) (reverse (map (λ i. i.now) l.yielded))) (told_if l.fn.rest)
