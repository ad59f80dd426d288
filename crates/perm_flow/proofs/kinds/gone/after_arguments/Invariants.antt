use Rattle.std.proofs.Common.{◌≡◌, drop, map}
use Rattle.perm_tree.specs.BodyTerms.{argument_of}
use Rattle.perm_tree.specs.VarSets.{member}
use Rattle.perm_rules.specs.Liveness.{after_arguments}
use Rattle.perm_flow.proofs.kinds.gone.after_arguments.Given as goal

abbrev pub invariant-loop-a : goal.invariant-loop-a
invariant-loop-a l =
    after_arguments (map (argument_of l.body.bodies.operations) (drop l.a-index l.args)) (member l.left)
    ≡ after_arguments (map (argument_of l.body.bodies.operations) l.args) (member l.fn.live)
