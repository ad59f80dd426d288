use Rattle.std.proofs.Common.{◌+◌, ◌*◌, max}
use Rattle.perm_tree.specs.Scopes.{else_stmts}
use Rattle.perm_par.proofs.BlockStatements.{top}
use Rattle.perm_par.proofs.EffectWalks.{HasDone}
use Rattle.perm_par.proofs.effects.+effects.Given as goal

abbrev pub decreases-effect_of_all : goal.decreases-effect_of_all
decreases-effect_of_all l = 6 * top l.stmts.now

abbrev pub decreases-effect_in : goal.decreases-effect_in
decreases-effect_in l = 6 * top l.block.now.stmts + 1

abbrev pub decreases-effect_of_else : goal.decreases-effect_of_else
decreases-effect_of_else l = 6 * top (else_stmts l.block.now) + 2

abbrev pub decreases-effect_of_if : goal.decreases-effect_of_if
decreases-effect_of_if l = 6 * max (top l.yes.now.stmts) (top (else_stmts l.no.now)) + 3

abbrev pub decreases-effect_of_while : goal.decreases-effect_of_while
decreases-effect_of_while l = 6 * top l.block.now.stmts + 3

abbrev pub decreases-effect_of_par : goal.decreases-effect_of_par
decreases-effect_of_par l = 6 * max (top l.left.now.stmts) (top l.right.now.stmts) + 3

abbrev pub decreases-effect_of_recover : goal.decreases-effect_of_recover
decreases-effect_of_recover l = 6 * top l.block.now.stmts + 3

abbrev pub decreases-effect_of_assignment : goal.decreases-effect_of_assignment
decreases-effect_of_assignment l = 6 * l.at + 4

abbrev pub decreases-effect_at : goal.decreases-effect_at
decreases-effect_at l = 6 * l.at + 5

abbrev pub invariant-effect_of_all-stmts : goal.invariant-effect_of_all-stmts
invariant-effect_of_all-stmts l = HasDone l.body l.all l.stmts l.at-index
