use Rattle.std.proofs.Common.{ap, map}
use Rattle.perm_tree.specs.BodyTerms.{argument_of}
use Rattle.perm_tree.specs.Mentions.{arguments_consume}
use Rattle.perm_tree.specs.Vars.{Vars, minus}
use Rattle.perm_tree.specs.VarSets.{member}
use Rattle.perm_flow.proofs.LiveSets.{without-more, without-all}
use Rattle.perm_flow.proofs.walk.live.without_arguments.Goals as goal

pub arguments-preserved : goal.arguments-preserved
arguments-preserved c x within =
    let all = c.args.body.now.bodies.operations in
    without-more all c.args.arguments.now c.arguments.argument-index _ c.arguments.rest c.after_argument-rest.result x (minus (member c.args.set) (arguments_consume (map (argument_of all) c.args.arguments.now)) x)
    c.arguments-test.true (ap (λ (M : Vars). M x) c.after_argument-rest.ensures) (c.arguments.invariant x within)

pub returns : goal.returns
returns c x within =
    let all = c.args.body.now.bodies.operations in
    without-all all c.args.arguments.now c.arguments.argument-index c.arguments.rest x (minus (member c.args.set) (arguments_consume (map (argument_of all) c.args.arguments.now)) x) c.arguments-test.false (c.arguments.invariant x within)
