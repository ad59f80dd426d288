use Rattle.std.proofs.Common.{◌≡◌, sym, subst, [], ◌∷◌}
use Rattle.std.specs.Prelude.{OnOk}
use Rattle.perm_tree.specs.declared.print.part.Part.TheVariants.{Word as Fixed, Indent, Target}
use Rattle.perm_tree.specs.declared.print.part.Word.TheVariants as fixed
use Rattle.perm_tree.specs.Printer.Parts.{onto, stmt_tasks}
use Rattle.perm_tree.proofs.Printer.Stacks.{pushed, pushed_last}
use Rattle.perm_tree.proofs.print.forms.push_stmt.Goals as goal

pub returns-in_ok-push_rhs-in-Assign : goal.returns-in_ok-push_rhs-in-Assign
returns-in_ok-push_rhs-in-Assign c =
    let s0 = c.args.stack.now.items in
    subst (λ k. OnOk c.push_all-in-Assign.result (c.push_all-in-Assign.new.stack.items ≡ onto s0 (stmt_tasks c.args.depth k))) (sym c.in-Assign.is)
    (pushed_last c.push_all-in-Assign.result s0 c.push_rhs.new.stack.items c.push_all-in-Assign.new.stack.items
    (Indent c.args.depth ∷ Target c.in-Assign.ty c.in-Assign.x ∷ Fixed fixed.Gets ∷ []) _ c.in_ok-push_rhs-in-Assign.ensures c.push_all-in-Assign.ensures)

pub returns-in_ok-push_call-in-Call : goal.returns-in_ok-push_call-in-Call
returns-in_ok-push_call-in-Call c =
    let s0 = c.args.stack.now.items in
    let behind = pushed s0 _ _ c.in_ok-push-in-Call.ensures c.in_ok-push_call-in-Call.ensures in
    subst (λ k. OnOk c.push-in-Call.result (c.push-in-Call.new.stack.items ≡ onto s0 (stmt_tasks c.args.depth k))) (sym c.in-Call.is)
    (pushed_last c.push-in-Call.result s0 c.push_call.new.stack.items c.push-in-Call.new.stack.items (Indent c.args.depth ∷ []) _ behind c.push-in-Call.ensures)
