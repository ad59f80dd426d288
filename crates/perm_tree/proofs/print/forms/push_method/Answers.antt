use Rattle.std.proofs.Common.{◌≡◌, ◌∙◌, ap, [], ◌∷◌}
use Rattle.perm_tree.specs.declared.print.part.Part.TheVariants.{Word as Fixed, Indent, Perm, Declared}
use Rattle.perm_tree.specs.declared.print.part.Word.TheVariants as fixed
use Rattle.perm_tree.specs.Printer.Parts.{onto, params_tasks}
use Rattle.perm_tree.proofs.Printer.Stacks.{pushed, pushed_last}
use Rattle.perm_tree.proofs.print.forms.push_method.Goals as goal

pub returns : goal.returns
returns c =
    let s0 = c.args.stack.now.items in
    let m = c.args.method.now in
    let body = pushed s0 _ _ c.in_ok-push_all.ensures c.in_ok-push_block.ensures in
    let heading = pushed s0 (Fixed fixed.ParamsEnd ∷ Perm m.receiver ∷ Fixed fixed.MethodBody ∷ []) _ body c.in_ok-push_all-2.ensures in
    let params : c.push_params.new.stack.items ≡ onto c.push_all-2.new.stack.items (params_tasks m.params) =
    c.in_ok-push_params.ensures ∙ ap (λ l. onto c.push_all-2.new.stack.items (params_tasks l)) c.as_slice.ensures in
    let behind = pushed s0 _ _ heading params in
    pushed_last c.push_all-3.result s0 c.push_params.new.stack.items c.push_all-3.new.stack.items (Indent 1 ∷ Declared m.result m.name ∷ Fixed fixed.Open ∷ []) _ behind c.push_all-3.ensures
