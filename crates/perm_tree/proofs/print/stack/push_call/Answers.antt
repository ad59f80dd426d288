use Rattle.std.proofs.Common.{◌≡◌, ap, [], ◌∷◌, ◌∙◌}
use Rattle.perm_tree.specs.declared.print.part.Part.TheVariants.{Word as Fixed, Name, Receiver}
use Rattle.perm_tree.specs.declared.print.part.Word.TheVariants as fixed
use Rattle.perm_tree.specs.Printer.Parts.{onto, args_tasks}
use Rattle.perm_tree.proofs.Printer.Stacks.{pushed, pushed_last}
use Rattle.perm_tree.proofs.print.stack.push_call.Goals as goal

pub returns : goal.returns
returns c =
    let k = c.args.call.now in
    let s0 = c.args.stack.now.items in
    let args : c.push_args.new.stack.items ≡ onto c.push.new.stack.items (args_tasks k.args) =
    c.in_ok-push_args.ensures ∙ ap (λ l. onto c.push.new.stack.items (args_tasks l)) c.as_slice.ensures in
    let behind = pushed s0 (args_tasks k.args) (Fixed fixed.Close ∷ []) c.in_ok-push.ensures args in
    pushed_last c.push_all.result s0 c.push_args.new.stack.items c.push_all.new.stack.items (Receiver k.consumed k.on ∷ Fixed fixed.Dot ∷ Name k.«method» ∷ Fixed fixed.Open ∷ []) _ behind c.push_all.ensures
