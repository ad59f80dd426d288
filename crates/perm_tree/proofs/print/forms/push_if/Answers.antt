use Rattle.std.proofs.Common.{[], ◌∷◌}
use Rattle.perm_tree.specs.declared.print.part.Part.TheVariants.{Word as Fixed, Indent, Expr as Expression}
use Rattle.perm_tree.specs.declared.print.part.Word.TheVariants as fixed
use Rattle.perm_tree.proofs.Printer.Stacks.{pushed, pushed_last}
use Rattle.perm_tree.proofs.print.forms.push_if.Goals as goal

pub returns : goal.returns
returns c =
    let s0 = c.args.stack.now.items in
    let behind = pushed s0 _ _ c.in_ok-push_else.ensures c.in_ok-push_block.ensures in
    pushed_last c.push_all.result s0 c.push_block.new.stack.items c.push_all.new.stack.items
    (Indent c.args.depth ∷ Fixed fixed.If ∷ Expression c.args.test ∷ Fixed fixed.Body ∷ []) _ behind c.push_all.ensures
