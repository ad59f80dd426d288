use Rattle.std.proofs.Common.{◌≡◌}
use Rattle.perm_tree.specs.Vars.{some_below}
use Rattle.perm_tree.specs.VarSets.{member}
use Rattle.perm_par.proofs.modes.some_in.Given as goal

abbrev pub invariant-vars : goal.invariant-vars
invariant-vars l = l.found ≡ some_below l.x (member l.set)
