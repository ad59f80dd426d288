use Rattle.std.proofs.Common.{[], ◌∷◌}
use Rattle.perm_tree.specs.declared.print.part.Part.TheVariants.{Word as Fixed}
use Rattle.perm_tree.specs.declared.print.part.Word.TheVariants as fixed
use Rattle.perm_tree.proofs.Printer.Stacks.{pushed, pushed_last}
use Rattle.perm_tree.proofs.print.forms.push_recover.Goals as goal

pub returns : goal.returns
returns c =
    let s0 = c.args.stack.now.items in
    let behind = pushed s0 _ _ c.in_ok-push_all.ensures c.in_ok-push_block.ensures in
    pushed_last c.push.result s0 c.push_block.new.stack.items c.push.new.stack.items (Fixed fixed.Recover ∷ []) _ behind c.push.ensures
