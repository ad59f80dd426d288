use Rattle.std.proofs.Common.{◌≡◌, ◌+◌, ◌*◌, drop}
use Rattle.perm_tree.specs.Code.{Code}
use Rattle.perm_tree.specs.CodeOf.{block_code}
use Rattle.perm_tree.specs.InBody.{setting_at}
use Rattle.perm_tree.specs.Mentions.{written}
use Rattle.perm_meaning.proofs.Evaluator.Writes.{top}
use Rattle.perm_meaning.proofs.eval.writes.+writes.Given as goal

abbrev pub decreases-some_writes : goal.decreases-some_writes
decreases-some_writes l = 2 * top l.stmts.now

abbrev pub decreases-writes_at : goal.decreases-writes_at
decreases-writes_at l = 2 * l.at + 1

abbrev pub invariant-some_writes-stmts : goal.invariant-some_writes-stmts
invariant-some_writes-stmts l = (end : Code) → written (block_code (setting_at l.unit l.«method») l.stmts end) l.x ≡ written (block_code (setting_at l.unit l.«method») (drop l.at-index l.stmts) end) l.x
