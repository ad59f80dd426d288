use Rattle.std.proofs.Common.{◌+◌, ◌*◌, max}
use Rattle.perm_tree.specs.Scopes.{else_stmts}
use Rattle.perm_par.proofs.BlockStatements.{top}
use Rattle.perm_par.proofs.UsesWalks.{HasUsed}
use Rattle.perm_par.proofs.mentions.+uses.Given as goal

abbrev pub decreases-uses_of_all : goal.decreases-uses_of_all
decreases-uses_of_all l = 6 * top l.stmts.now

abbrev pub decreases-uses_of_block : goal.decreases-uses_of_block
decreases-uses_of_block l = 6 * top l.block.now.stmts + 1

abbrev pub decreases-uses_of_else : goal.decreases-uses_of_else
decreases-uses_of_else l = 6 * top (else_stmts l.block.now) + 2

abbrev pub decreases-uses_of_if : goal.decreases-uses_of_if
decreases-uses_of_if l = 6 * max (top l.yes.now.stmts) (top (else_stmts l.no.now)) + 3

abbrev pub decreases-uses_of_while : goal.decreases-uses_of_while
decreases-uses_of_while l = 6 * top l.block.now.stmts + 3

abbrev pub decreases-uses_of_par : goal.decreases-uses_of_par
decreases-uses_of_par l = 6 * max (top l.left.now.stmts) (top l.right.now.stmts) + 3

abbrev pub decreases-uses_of_recover : goal.decreases-uses_of_recover
decreases-uses_of_recover l = 6 * top l.block.now.stmts + 3

abbrev pub decreases-uses_of_assignment : goal.decreases-uses_of_assignment
decreases-uses_of_assignment l = 6 * l.at + 4

abbrev pub decreases-uses_at : goal.decreases-uses_at
decreases-uses_at l = 6 * l.at + 5

abbrev pub invariant-uses_of_all-stmts : goal.invariant-uses_of_all-stmts
invariant-uses_of_all-stmts l = HasUsed l.body l.all l.stmts l.at-index
