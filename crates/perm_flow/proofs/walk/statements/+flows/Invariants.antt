use Rattle.std.proofs.Common.{ℕ, ◌+◌, ◌*◌, List, drop}
use Rattle.perm_tree.specs.Scopes.{else_stmts}
use Rattle.perm_tree.specs.VarSets.{member}
use Rattle.perm_rules.specs.Goes.{hiding}
use Rattle.perm_rules.specs.MethodBodies.{context_of, setting_of}
use Rattle.perm_flow.specs.Parts.{HoldsHidden}
use Rattle.perm_flow.specs.Walk.{IsKnown}
use Rattle.perm_flow.proofs.Statements.{bound, BlockLeft}
use Rattle.perm_flow.proofs.walk.statements.+flows.Given as goal

abbrev pub decreases-flow_block : goal.decreases-flow_block
decreases-flow_block l = 6 * bound l.stmts.now

abbrev pub decreases-flow_braced : goal.decreases-flow_braced
decreases-flow_braced l = 6 * bound l.block.now.stmts + 1

abbrev pub decreases-flow_else : goal.decreases-flow_else
decreases-flow_else l = 6 * bound (else_stmts l.block.now) + 2

abbrev pub decreases-flow_if : goal.decreases-flow_if
decreases-flow_if l = 6 * l.at + 3

abbrev pub decreases-flow_while : goal.decreases-flow_while
decreases-flow_while l = 6 * l.at + 3

abbrev pub decreases-flow_par : goal.decreases-flow_par
decreases-flow_par l = 6 * l.at + 3

abbrev pub decreases-flow_recover : goal.decreases-flow_recover
decreases-flow_recover l = 6 * l.at + 3

abbrev pub decreases-flow_assignment : goal.decreases-flow_assignment
decreases-flow_assignment l = 6 * l.at + 4

abbrev pub decreases-flow_stmt : goal.decreases-flow_stmt
decreases-flow_stmt l = 6 * l.at + 5

abbrev pub invariant-flow_block-stmts : goal.invariant-flow_block-stmts
invariant-flow_block-stmts l = record {
  known : IsKnown l.body l.now;
  left : (hides : List ℕ) → HoldsHidden l.body l.hidden hides
      → BlockLeft (hiding hides (context_of l.body)) (setting_of l.body) l.stmts (member l.initial.now) (drop l.at-index l.stmts) (member l.now);
}
