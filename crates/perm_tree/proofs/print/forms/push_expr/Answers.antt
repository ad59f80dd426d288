use Rattle.std.proofs.Common.{◌≡◌, sym, subst, [], ◌∷◌}
use Rattle.std.specs.Prelude.{OnOk}
use Rattle.perm_tree.specs.declared.print.part.Part.TheVariants.{Sign}
use Rattle.perm_tree.specs.Printer.Parts.{onto, expr_tasks}
use Rattle.perm_tree.proofs.Printer.Stacks.{pushed_last}
use Rattle.perm_tree.proofs.print.forms.push_expr.Goals as goal

pub returns-in_ok-push_operand-in-Unary : goal.returns-in_ok-push_operand-in-Unary
returns-in_ok-push_operand-in-Unary c =
    let s0 = c.args.stack.now.items in
    let behind = rw c.looseness.ensures at c.in_ok-push_operand-in-Unary.ensures in
    subst (λ e. OnOk c.push-in-Unary.result (c.push-in-Unary.new.stack.items ≡ onto s0 (expr_tasks c.args.exprs.now e))) (sym c.in-Unary.is)
    (pushed_last c.push-in-Unary.result s0 c.push_operand.new.stack.items c.push-in-Unary.new.stack.items (Sign c.in-Unary.op ∷ []) _ behind c.push-in-Unary.ensures)
