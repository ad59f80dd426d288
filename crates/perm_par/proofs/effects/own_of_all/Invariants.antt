use Rattle.std.proofs.Common.{◌≡◌, drop}
use Rattle.perm_tree.specs.CodeNames.{own_vars}
use Rattle.perm_tree.specs.Mentions.{known}
use Rattle.perm_tree.specs.Vars.{plus, those}
use Rattle.perm_tree.specs.VarSets.{member}
use Rattle.perm_rules.specs.MethodBodies.{setting_of}
use Rattle.perm_par.specs.Known.{count_of}
use Rattle.perm_par.proofs.effects.own_of_all.Given as goal

abbrev pub invariant-stmts : goal.invariant-stmts
invariant-stmts l = plus (member l.own) (known (count_of l.body) (those (own_vars (setting_of l.body) (drop l.at-index l.stmts)))) ≡ known (count_of l.body) (those (own_vars (setting_of l.body) l.stmts))
