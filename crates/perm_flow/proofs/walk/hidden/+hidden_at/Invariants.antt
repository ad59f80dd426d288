use Rattle.std.proofs.Common.{length, ◌-◌}
use Rattle.perm_flow.proofs.walk.hidden.+hidden_at.Given as goal

abbrev pub decreases-hidden_at : goal.decreases-hidden_at
decreases-hidden_at l = length l.stmts.now - l.at
