use Rattle.std.proofs.Common.{◌≡◌, drop, map}
use Rattle.std.specs.Prelude.{◌||◌}
use Rattle.perm_tree.specs.BodyTerms.{argument_of}
use Rattle.perm_tree.specs.VarSets.{member}
use Rattle.perm_rules.specs.Liveness.{arguments_gone}
use Rattle.perm_flow.proofs.kinds.gone.arguments_gone.Given as goal

abbrev pub invariant-loop-a : goal.invariant-loop-a
invariant-loop-a l =
    (l.found || arguments_gone (map (argument_of l.body.bodies.operations) (drop l.a-index l.args)) (member l.left))
    ≡ arguments_gone (map (argument_of l.body.bodies.operations) l.args) (member l.fn.live)
