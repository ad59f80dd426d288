use Rattle.std.proofs.Common.{◌≡◌, ℕ, ◌<◌, drop, map}
use Rattle.perm_tree.specs.BodyTerms.{argument_of}
use Rattle.perm_tree.specs.Links.{most_variables}
use Rattle.perm_tree.specs.Mentions.{arguments_consume}
use Rattle.perm_tree.specs.Vars.{minus}
use Rattle.perm_tree.specs.VarSets.{member}
use Rattle.perm_flow.proofs.walk.live.without_arguments.Given as goal

abbrev pub invariant-arguments : goal.invariant-arguments
invariant-arguments l =
    (x : ℕ) → x < most_variables → minus (member l.rest) (arguments_consume (map (argument_of l.body.bodies.operations) (drop l.argument-index l.arguments))) x ≡ minus (member l.initial.rest) (arguments_consume (map (argument_of l.body.bodies.operations) l.arguments)) x
