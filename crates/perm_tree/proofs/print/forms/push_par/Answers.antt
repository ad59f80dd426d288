use Rattle.std.proofs.Common.{[], ◌∷◌}
use Rattle.perm_tree.specs.declared.print.part.Part.TheVariants.{Word as Fixed, Indent}
use Rattle.perm_tree.specs.declared.print.part.Word.TheVariants as fixed
use Rattle.perm_tree.proofs.Printer.Stacks.{pushed, pushed_last}
use Rattle.perm_tree.proofs.print.forms.push_par.Goals as goal

pub returns : goal.returns
returns c =
    let s0 = c.args.stack.now.items in
    let right = pushed s0 _ _ c.in_ok-push_all.ensures c.in_ok-push_block.ensures in
    let beside = pushed s0 (Indent c.args.depth ∷ Fixed fixed.Beside ∷ []) _ right c.in_ok-push_all-2.ensures in
    let left = pushed s0 _ _ beside c.in_ok-push_block-2.ensures in
    pushed_last c.push_all-3.result s0 c.push_block-2.new.stack.items c.push_all-3.new.stack.items (Indent c.args.depth ∷ Fixed fixed.Par ∷ []) _ left c.push_all-3.ensures
