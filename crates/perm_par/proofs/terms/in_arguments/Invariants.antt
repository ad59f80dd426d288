use Rattle.std.proofs.Common.{◌≡◌, drop, map}
use Rattle.perm_tree.specs.BodyTerms.{argument_of}
use Rattle.perm_tree.specs.Mentions.{known}
use Rattle.perm_par.specs.Operands.{stand_in}
use Rattle.perm_tree.specs.Vars.{plus}
use Rattle.perm_tree.specs.VarSets.{member}
use Rattle.perm_par.specs.Known.{count_of}
use Rattle.perm_par.proofs.terms.in_arguments.Given as goal

abbrev pub invariant-arguments : goal.invariant-arguments
invariant-arguments l =
    plus (member l.set) (known (count_of l.body) (stand_in (map (argument_of l.body.bodies.operations) (drop l.argument-index l.arguments))))
    ≡ known (count_of l.body) (stand_in (map (argument_of l.body.bodies.operations) l.arguments))
