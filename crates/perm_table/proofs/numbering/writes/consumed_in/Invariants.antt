use Rattle.std.proofs.Common.{◌≡◌, ℕ, ◌<◌, drop, map, List}
use Rattle.perm_tree.specs.declared.bodies.Operation.{Operation}
use Rattle.perm_tree.specs.BodyTerms.{argument_of}
use Rattle.perm_tree.specs.Links.{most_variables}
use Rattle.perm_tree.specs.Mentions.{arguments_consume}
use Rattle.perm_tree.specs.Vars.{plus}
use Rattle.perm_tree.specs.VarSets.{member}
use Rattle.perm_table.proofs.numbering.writes.consumed_in.Given as goal

abbrev pub invariant-arguments : goal.invariant-arguments
invariant-arguments l =
    (all : List Operation) (x : ℕ) → x < most_variables → plus (member l.set) (arguments_consume (map (argument_of all) (drop l.argument-index l.arguments))) x ≡ arguments_consume (map (argument_of all) l.arguments) x
