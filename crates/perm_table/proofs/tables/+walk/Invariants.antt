use Rattle.std.proofs.Common.{◌≡◌, ◌+◌, ◌*◌, ◌++◌, drop}
use Rattle.perm_tree.specs.Scopes.{all_inner, block_vars}
use Rattle.perm_table.proofs.tables.+walk.Given as goal

abbrev pub decreases-add_block : goal.decreases-add_block
decreases-add_block l = 5 * l.below

abbrev pub decreases-add_braced : goal.decreases-add_braced
decreases-add_braced l = 5 * l.below + 1

abbrev pub decreases-add_else : goal.decreases-add_else
decreases-add_else l = 5 * l.below + 2

abbrev pub decreases-add_rhs : goal.decreases-add_rhs
decreases-add_rhs l = 5 * l.below + 2

abbrev pub decreases-add_kind : goal.decreases-add_kind
decreases-add_kind l = 5 * l.at + 3

abbrev pub decreases-add_inner : goal.decreases-add_inner
decreases-add_inner l = 5 * l.at + 4

abbrev pub invariant-add_block-places : goal.invariant-add_block-places
invariant-add_block-places l =
    l.vars ++ block_vars l.program.stmts (all_inner l.program.stmts) l.end (drop l.place-index l.places) ≡ l.fn.vars ++ block_vars l.program.stmts (all_inner l.program.stmts) l.end l.places
