use Rattle.std.proofs.Common.{[], ◌∷◌}
use Rattle.perm_tree.specs.declared.print.part.Part.TheVariants.{Operator}
use Rattle.perm_tree.proofs.Printer.Stacks.{pushed, pushed_last}
use Rattle.perm_tree.proofs.print.forms.push_binary.Goals as goal

pub returns : goal.returns
returns c =
    let s0 = c.args.stack.now.items in
    let right = rw (c.looseness.ensures, c.level.ensures) at c.in_ok-push_operand.ensures in
    let left = rw (c.looseness-2.ensures, c.level-2.ensures) at c.push_operand-2.ensures in
    let behind = pushed s0 (Operator c.args.op ∷ []) _ right c.in_ok-push.ensures in
    pushed_last c.push_operand-2.result s0 c.push.new.stack.items c.push_operand-2.new.stack.items _ _ behind left
