use Rattle.std.proofs.Common.{◌≡◌, map}
use Rattle.perm_tree.specs.Resolves.{renamed_method}
use Rattle.perm_table.specs.Numbers.{number_in}
use Rattle.perm_table.proofs.numbers.ClassNumbers.methods.Given as goal

abbrev pub invariant-methods : goal.invariant-methods
invariant-methods l = l.renamed ≡ map (renamed_method (number_in l.self)) l.yielded
