use Rattle.std.proofs.Common.{◌≡◌, ◌++◌, [], map}
use Rattle.std.specs.Prelude.{take}
use Rattle.perm_tree.specs.Printer.Members.{form_of, forms_text}
use Rattle.perm_tree.proofs.print.write_members.Given as goal

abbrev pub invariant-loop-member : goal.invariant-loop-member
invariant-loop-member l = record {
  empty : l.stack.items ≡ [];
  text : l.text.items ≡ l.initial.text.items ++ forms_text l.program (map form_of (take l.member-index l.members));
}
