use Rattle.perm_flow.proofs.SmallSets.{minus-past}
use Rattle.perm_flow.proofs.sets.without.Goals as goal

pub returns-else-x-lt256 : goal.returns-else-x-lt256
returns-else-x-lt256 c = minus-past c.args.set c.args.x c.if-x-lt256.false
