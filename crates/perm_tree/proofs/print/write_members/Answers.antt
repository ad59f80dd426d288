use Rattle.std.proofs.Common.{length, sym, subst, arith}
use Rattle.perm_tree.specs.declared.print.class.Member.{Member}
use Rattle.perm_tree.specs.Printer.Members.{IsFormPlaced, form_of}
use Rattle.perm_tree.proofs.Printer.Members.{one_more, one_placed}
use Rattle.perm_tree.proofs.print.write_members.Goals as goal

pub write_member-requires-clause-placed : goal.write_member-requires-clause-placed
write_member-requires-clause-placed c =
    let p = c.args.program.now in
    let placed = one_placed (length p.exprs) (length p.stmts) form_of c.args.members.now c.loop-member.member-index c.member-item.result (omega arith) c.requires in
    subst (λ (m : Member). IsFormPlaced (length p.exprs) (length p.stmts) (form_of m)) (sym c.member-item.is) placed

pub loop-member-preserved : goal.loop-member-preserved
loop-member-preserved c = record {
  empty = c.in_ok-write_member.ensures.empty;
  text = one_more c.args.program.now form_of c.args.members.now c.loop-member.member-index c.member-item.result c.args.text.now.items c.loop-member.text.items c.write_member.new.text.items (omega arith) c.member-item.is c.loop-member.invariant.text c.in_ok-write_member.ensures.text;
}
