use Rattle.std.proofs.Common.{◌≡◌, drop}
use Rattle.perm_tree.specs.CodeNames.{own_vars}
use Rattle.perm_tree.specs.InBody.{setting_at}
use Rattle.perm_tree.specs.Vars.{those}
use Rattle.perm_meaning.proofs.eval.writes.some_declares.Given as goal

abbrev pub invariant-stmts : goal.invariant-stmts
invariant-stmts l = let k = setting_at l.unit l.«method» in those (own_vars k l.stmts) l.x ≡ those (own_vars k (drop l.at-index l.stmts)) l.x
