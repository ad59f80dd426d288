use Rattle.std.proofs.Common.{◌≡◌}
use Rattle.perm_tree.specs.VarSets.{member}
use Rattle.perm_tree.specs.Vars.{below}
use Rattle.perm_flow.proofs.walk.methods.first_variables.Given as goal

abbrev pub invariant-numbers : goal.invariant-numbers
invariant-numbers l = member l.set ≡ below l.x
