use Rattle.std.proofs.Common.{sym}
use Rattle.perm_tree.proofs.SetWords.{member_small}
use Rattle.perm_flow.proofs.sets.holds.Goals as goal

pub returns-else-x-lt256 : goal.returns-else-x-lt256
returns-else-x-lt256 c = sym (member_small c.args.set c.args.x c.if-x-lt256.false)
