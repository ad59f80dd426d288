use Rattle.std.proofs.Common.{◌≡◌, sym, subst}
use Rattle.std.specs.Prelude.{OnOk}
use Rattle.perm_tree.specs.Printer.Parts.{onto, rhs_tasks}
use Rattle.perm_tree.proofs.Printer.Stacks.{pushed_last}
use Rattle.perm_tree.proofs.print.forms.push_rhs.Goals as goal

pub returns-in_ok-push-in-Call : goal.returns-in_ok-push-in-Call
returns-in_ok-push-in-Call c =
    let s0 = c.args.stack.now.items in
    subst (λ r. OnOk c.push_call.result (c.push_call.new.stack.items ≡ onto s0 (rhs_tasks c.args.depth r))) (sym c.in-Call.is)
    (pushed_last c.push_call.result s0 c.push.new.stack.items c.push_call.new.stack.items _ _ c.in_ok-push-in-Call.ensures c.push_call.ensures)
