use Rattle.std.proofs.Common.{◌≡◌, sym, subst, [], ◌∷◌}
use Rattle.std.specs.Prelude.{OnOk}
use Rattle.perm_tree.specs.declared.print.part.Part.TheVariants.{Word as Fixed, Indent}
use Rattle.perm_tree.specs.declared.print.part.Word.TheVariants as fixed
use Rattle.perm_tree.specs.Printer.Parts.{onto, else_tasks}
use Rattle.perm_tree.proofs.Printer.Stacks.{pushed, pushed_last}
use Rattle.perm_tree.proofs.print.forms.push_else.Goals as goal

pub returns-in_ok-push_block-in-Some : goal.returns-in_ok-push_block-in-Some
returns-in_ok-push_block-in-Some c =
    let s0 = c.args.stack.now.items in
    let behind = pushed s0 _ _ c.in_ok-push_all.ensures c.in_ok-push_block-in-Some.ensures in
    subst (λ b. OnOk c.push_all-in-Some.result (c.push_all-in-Some.new.stack.items ≡ onto s0 (else_tasks c.args.depth b))) (sym c.in-Some.is)
    (pushed_last c.push_all-in-Some.result s0 c.push_block.new.stack.items c.push_all-in-Some.new.stack.items (Indent c.args.depth ∷ Fixed fixed.Else ∷ []) _ behind c.push_all-in-Some.ensures)
