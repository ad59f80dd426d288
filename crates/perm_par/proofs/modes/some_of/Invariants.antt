use Rattle.std.proofs.Common.{◌≡◌}
use Rattle.perm_tree.specs.Vars.{meet, some_below}
use Rattle.perm_tree.specs.VarSets.{member}
use Rattle.perm_par.specs.Kinds.{of_kind}
use Rattle.perm_par.proofs.modes.some_of.Given as goal

abbrev pub invariant-vars : goal.invariant-vars
invariant-vars l = l.found ≡ some_below l.x (meet (of_kind l.body l.kind) (member l.set))
