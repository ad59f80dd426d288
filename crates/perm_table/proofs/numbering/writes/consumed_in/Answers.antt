use Rattle.std.proofs.Common.{sym, map}
use Rattle.perm_tree.specs.BodyTerms.{argument_of}
use Rattle.perm_tree.specs.Mentions.{arguments_consume}
use Rattle.perm_table.proofs.Emission.Sets.{holds-none, consumed-step, consumed-done}
use Rattle.perm_table.proofs.numbering.writes.consumed_in.Goals as goal

pub arguments-init : goal.arguments-init
arguments-init c all x within = sym (holds-none c.new-set.result (arguments_consume (map (argument_of all) c.args.arguments.now)) c.new-set.ensures x)

pub arguments-preserved : goal.arguments-preserved
arguments-preserved c all x within =
    consumed-step all c.args.arguments.now c.arguments.argument-index _ c.arguments.set c.with_consumed-set.result x (arguments_consume (map (argument_of all) c.args.arguments.now) x)
    c.arguments-test.true (c.with_consumed-set.ensures all x within) (c.arguments.invariant all x within)

pub returns : goal.returns
returns c all x within =
    consumed-done all c.args.arguments.now c.arguments.argument-index c.arguments.set x (arguments_consume (map (argument_of all) c.args.arguments.now) x) c.arguments-test.false (c.arguments.invariant all x within)
