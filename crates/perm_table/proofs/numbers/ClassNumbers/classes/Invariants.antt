use Rattle.std.proofs.Common.{◌≡◌, map}
use Rattle.perm_tree.specs.Resolves.{renamed_class}
use Rattle.perm_table.specs.Numbers.{number_in}
use Rattle.perm_table.proofs.numbers.ClassNumbers.classes.Given as goal

abbrev pub invariant-classes : goal.invariant-classes
invariant-classes l = l.renamed ≡ map (renamed_class (number_in l.self)) l.yielded
