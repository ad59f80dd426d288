use Rattle.std.proofs.Common.{◌≡◌, length}
use Rattle.perm_tree.specs.Printer.Parts.{onto, more_args_tasks}
use Rattle.perm_tree.proofs.print.stack.push_more_args.Given as goal

abbrev pub invariant-loop-last : goal.invariant-loop-last
invariant-loop-last l = onto l.stack.items (more_args_tasks l.left) ≡ onto l.initial.stack.items (more_args_tasks l.initial.left)

abbrev pub decreases-loop-last : goal.decreases-loop-last
decreases-loop-last l = length l.left
