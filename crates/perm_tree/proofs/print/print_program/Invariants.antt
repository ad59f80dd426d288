use Rattle.std.proofs.Common.{◌≡◌}
use Rattle.std.specs.Prelude.{flat_map, take}
use Rattle.perm_tree.specs.Printer.Programs.{class_text}
use Rattle.perm_tree.proofs.print.print_program.Given as goal

abbrev pub invariant-loop-class : goal.invariant-loop-class
invariant-loop-class l = l.text.items ≡ flat_map (class_text l.program) (take l.class-index l.class-items)
