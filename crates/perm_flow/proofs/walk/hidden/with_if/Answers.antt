use Rattle.perm_flow.proofs.HiddenSets.{one-listed, none-listed}
use Rattle.perm_flow.proofs.walk.hidden.with_if.Goals as goal

pub returns-then-test : goal.returns-then-test
returns-then-test c x within = one-listed c.args.set c.with_number.result c.args.test c.args.x x c.if-test.true (c.with_number.ensures x within)

pub returns-else-test : goal.returns-else-test
returns-else-test c x within = none-listed c.args.set c.args.test c.args.x x c.if-test.false
