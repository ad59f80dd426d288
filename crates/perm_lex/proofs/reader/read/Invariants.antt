use Rattle.std.proofs.Common.{◌-◌, ◌≤◌, length}
use Rattle.perm_lex.proofs.Walk.{IsReadTo}
use Rattle.perm_lex.proofs.reader.read.Given as goal

abbrev pub invariant-loop-at : goal.invariant-loop-at
invariant-loop-at l = record { read : IsReadTo l.text l.at l.tokens.items; within : l.at ≤ length l.text }

abbrev pub decreases-loop-at : goal.decreases-loop-at
decreases-loop-at l = length l.text - l.at
