use Rattle.perm_tree.specs.Printer.Members.{form_of}
use Rattle.perm_tree.proofs.Printer.Members.{pushed_fits, written_form}
use Rattle.perm_tree.proofs.print.write_member.Goals as goal

pub write_all-requires : goal.write_all-requires
write_all-requires c =
    pushed_fits c.args.program.now (form_of c.args.member.now) c.args.stack.now.items c.push_member.new.stack.items c.requires.empty c.in_ok-push_member.ensures c.requires.placed

pub returns-clause-text : goal.returns-clause-text
returns-clause-text c =
    written_form c.write_all.result c.args.program.now (form_of c.args.member.now) c.args.stack.now.items c.push_member.new.stack.items c.args.text.now.items c.write_all.new.text.items
    c.requires.empty c.in_ok-push_member.ensures c.write_all.ensures.text
