use Rattle.std.proofs.Common.{◌≡◌, ℕ, ◌<◌, true, Some}
use Rattle.std.specs.Prelude.{slice_get}
use Rattle.perm_tree.specs.declared.ast.Stmt.{Stmt}
use Rattle.perm_tree.specs.InBody.{inner_places}
use Rattle.perm_tree.specs.Vars.{those}
use Rattle.perm_flow.proofs.walk.hidden.holder_of.Given as goal

abbrev pub invariant-stmts : goal.invariant-stmts
invariant-stmts l = (j : ℕ) (s : Stmt) → j < l.place → slice_get l.stmts j ≡ Some s → those (inner_places s) l.fn.at ≡ true → ⊥
