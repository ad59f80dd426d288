use Rattle.std.proofs.Common.{◌≡◌, ℕ, ◌<◌, drop}
use Rattle.perm_tree.specs.CodeNames.{own_vars}
use Rattle.perm_tree.specs.Links.{most_variables}
use Rattle.perm_tree.specs.Vars.{plus, those}
use Rattle.perm_tree.specs.VarSets.{member}
use Rattle.perm_table.specs.Numbering.{setting_of}
use Rattle.perm_table.proofs.numbering.writes.own_vars.Given as goal

abbrev pub invariant-stmts : goal.invariant-stmts
invariant-stmts l =
    (x : ℕ) → x < most_variables → plus (member l.set) (those (own_vars (setting_of l.names) (drop l.at-index l.stmts))) x ≡ those (own_vars (setting_of l.names) l.stmts) x
