use Rattle.std.proofs.Common.{rules}
use Rattle.perm_perm.proofs.OrderPairs.{pairs_by_test}
use Rattle.perm_perm.proofs.leq.Goals as goal

pub returns-in-Isolated-default-clause-pairs : goal.returns-in-Isolated-default-clause-pairs
returns-in-Isolated-default-clause-pairs c = pairs_by_test c.args.p c.args.q _ (search rules)

pub returns-in-Readable-Readable-clause-pairs : goal.returns-in-Readable-Readable-clause-pairs
returns-in-Readable-Readable-clause-pairs c = pairs_by_test c.args.p c.args.q _ (search rules)

pub returns-in-Writable-Writable-clause-pairs : goal.returns-in-Writable-Writable-clause-pairs
returns-in-Writable-Writable-clause-pairs c = pairs_by_test c.args.p c.args.q _ (search rules)
