use Rattle.std.proofs.Common.{◌≡◌, drop, map}
use Rattle.perm_tree.specs.BodyTerms.{argument_of}
use Rattle.perm_tree.specs.Mentions.{arguments_consume, known}
use Rattle.perm_tree.specs.Vars.{plus}
use Rattle.perm_tree.specs.VarSets.{member}
use Rattle.perm_par.specs.Known.{count_of}
use Rattle.perm_par.proofs.actions.consumed_among.Given as goal

abbrev pub invariant-arguments : goal.invariant-arguments
invariant-arguments l =
    plus (member l.set) (known (count_of l.body) (arguments_consume (map (argument_of l.body.bodies.operations) (drop l.argument-index l.arguments))))
    ≡ known (count_of l.body) (arguments_consume (map (argument_of l.body.bodies.operations) l.arguments))
