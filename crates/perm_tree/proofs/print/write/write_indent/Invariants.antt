use Rattle.std.proofs.Common.{◌≡◌, ◌++◌}
use Rattle.perm_tree.specs.Printer.Programs.{indent}
use Rattle.perm_tree.proofs.print.write.write_indent.Given as goal

abbrev pub invariant-loop : goal.invariant-loop
invariant-loop l = l.text.items ≡ l.initial.text.items ++ indent l.counter
