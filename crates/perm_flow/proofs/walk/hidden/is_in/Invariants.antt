use Rattle.std.proofs.Common.{◌≡◌, drop}
use Rattle.perm_tree.specs.Vars.{those}
use Rattle.perm_flow.proofs.walk.hidden.is_in.Given as goal

abbrev pub invariant-stmts : goal.invariant-stmts
invariant-stmts l = those (drop l.stmt-index l.fn.block.stmts) l.fn.at ≡ those l.fn.block.stmts l.fn.at
