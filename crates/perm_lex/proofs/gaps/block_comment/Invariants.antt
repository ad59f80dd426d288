use Rattle.std.proofs.Common.{ℕ, ◌<◌, ◌≤◌}
use Rattle.perm_lex.proofs.Comments.{NotEnded}
use Rattle.perm_lex.proofs.gaps.block_comment.Given as goal

abbrev pub invariant-loop-place : goal.invariant-loop-place
invariant-loop-place l = (n : ℕ) → 2 ≤ n → n < l.place → NotEnded l.rest n
