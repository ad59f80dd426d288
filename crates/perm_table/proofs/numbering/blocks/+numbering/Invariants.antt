use Rattle.std.proofs.Common.{◌+◌, ◌*◌, ◌≤◌, drop, length}
use Rattle.perm_tree.specs.CodeOf.{block_code}
use Rattle.perm_table.specs.Emission.{IsEmitted}
use Rattle.perm_table.specs.Numbering.{setting_of}
use Rattle.perm_table.specs.StepPlaces.{block_holds}
use Rattle.perm_table.proofs.numbering.blocks.+numbering.Given as goal

abbrev pub decreases-number_block : goal.decreases-number_block
decreases-number_block l = 7 * l.below

abbrev pub decreases-number_braced : goal.decreases-number_braced
decreases-number_braced l = 7 * l.below + 1

abbrev pub decreases-number_else : goal.decreases-number_else
decreases-number_else l = 7 * l.below + 2

abbrev pub decreases-number_if : goal.decreases-number_if
decreases-number_if l = 7 * l.site.at + 3

abbrev pub decreases-number_while : goal.decreases-number_while
decreases-number_while l = 7 * l.site.at + 3

abbrev pub decreases-number_par : goal.decreases-number_par
decreases-number_par l = 7 * l.site.at + 3

abbrev pub decreases-number_recover : goal.decreases-number_recover
decreases-number_recover l = 7 * l.site.at + 3

abbrev pub decreases-number_assignment : goal.decreases-number_assignment
decreases-number_assignment l = 7 * l.at + 4

abbrev pub decreases-number_stmt : goal.decreases-number_stmt
decreases-number_stmt l = 7 * l.at + 6

abbrev pub decreases-number_kind : goal.decreases-number_kind
decreases-number_kind l = 7 * l.at + 5

abbrev pub invariant-number_block-loop-at : goal.invariant-number_block-loop-at
invariant-number_block-loop-at l =
    (l.at ≤ length l.stmts) × IsEmitted (setting_of l.names) l.initial.bodies l.next l.bodies (block_code (setting_of l.names) (drop l.at l.stmts)) (block_holds (setting_of l.names) (drop l.at l.stmts)) (record { first = l.first; written = l.written })
