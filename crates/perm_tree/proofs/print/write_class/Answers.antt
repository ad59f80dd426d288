use Rattle.std.proofs.Common.{◌∙◌, ap, length, map}
use Rattle.perm_tree.specs.Printer.Members.{form_of}
use Rattle.perm_tree.proofs.Printer.Members.{members_placed, written_class}
use Rattle.perm_tree.proofs.print.write_class.Goals as goal

pub write_members-requires : goal.write_members-requires
write_members-requires c =
    let p = c.args.program.now in
    members_placed (length p.exprs) (length p.stmts) c.args.class.now (map form_of c.as_slice.result.now) (ap (map form_of) c.as_slice.ensures.value ∙ c.in_ok-members.ensures) c.requires

pub returns : goal.returns
returns c =
    let p = c.args.program.now in
    let named = rw c.names.ensures at c.in_ok-write_name.ensures in
    written_class c.write-3.result p c.args.class.now (map form_of c.as_slice.result.now) c.args.text.now.items c.write.new.text.items c.write_name.new.text.items c.write-2.new.text.items c.write_members.new.text.items c.write-3.new.text.items
    c.in_ok-write.ensures named c.in_ok-write-2.ensures c.in_ok-write_members.ensures (ap (map form_of) c.as_slice.ensures.value ∙ c.in_ok-members.ensures) c.write-3.ensures
