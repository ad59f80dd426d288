use Rattle.std.proofs.Common.{◌≡◌, map, reverse}
use Rattle.std.specs.Prelude.{flat_map}
use Rattle.perm_tree.specs.Names.{made_class}
use Rattle.perm_table.specs.Findings.{first_before, told_if, unknowns_by}
use Rattle.perm_table.specs.Numbers.{knows_in}
use Rattle.perm_table.proofs.refusals.in_stmts.Given as goal

abbrev pub invariant-stmts : goal.invariant-stmts
invariant-stmts l = told_if l.first ≡ first_before (unknowns_by (knows_in l.numbers) (flat_map (λ s. made_class s.kind) (reverse (map (λ s. s.now) l.yielded)))) (told_if l.fn.rest)
