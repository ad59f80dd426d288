use Rattle.perm_tree.specs.Printer.PendingParts.{Remains, rest_work}
use Rattle.perm_tree.proofs.print.steps.write_all.Given as goal

abbrev pub invariant-loop-part : goal.invariant-loop-part
invariant-loop-part l = Remains l.program l.initial.text.items l.text.items l.initial.stack.items l.stack.items

abbrev pub decreases-loop-part : goal.decreases-loop-part
decreases-loop-part l = rest_work l.program l.stack.items
