use Rattle.std.proofs.Common.{◌≡◌, ◌++◌, map}
use Rattle.std.specs.Prelude.{take}
use Rattle.perm_tree.specs.Printer.Members.{form_of, one_field, one_method}
use Rattle.perm_tree.proofs.print.class.listed.Given as goal

abbrev pub invariant-loop-field : goal.invariant-loop-field
invariant-loop-field l = map form_of l.members.items ≡ map one_field (take l.field-index l.field-items)

abbrev pub invariant-loop-method : goal.invariant-loop-method
invariant-loop-method l = map form_of l.members.items ≡ map one_field l.class.fields ++ map one_method (take l.method-index l.method-items)
