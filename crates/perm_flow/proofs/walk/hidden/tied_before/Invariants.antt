use Rattle.std.proofs.Common.{◌≡◌, ℕ, ◌<◌, drop}
use Rattle.perm_tree.specs.CodeNames.{tied_before}
use Rattle.perm_tree.specs.Links.{most_variables}
use Rattle.perm_tree.specs.Vars.{plus, those}
use Rattle.perm_tree.specs.VarSets.{member}
use Rattle.perm_flow.proofs.walk.hidden.tied_before.Given as goal

abbrev pub invariant-vars : goal.invariant-vars
invariant-vars l =
    (x : ℕ) → x < most_variables → plus (member l.set) (those (tied_before l.end l.at (drop l.at l.vars))) x ≡ those (tied_before l.end 0 l.vars) x
