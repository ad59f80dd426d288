use Rattle.std.proofs.Common.{◌∙◌, ap, sym, [], ◌∷◌, ◌++◌, append_assoc}
use Rattle.perm_tree.specs.Printer.Programs.{indent}
use Rattle.perm_tree.proofs.Printer.Texts.{indent-more}
use Rattle.perm_tree.proofs.print.write.write_indent.Goals as goal

pub loop-preserved : goal.loop-preserved
loop-preserved c =
    let s0 = c.args.text.now.items in
    c.in_ok-write.ensures ∙ ap (λ l. l ++ 32 ∷ 32 ∷ []) c.loop.invariant ∙ append_assoc s0 (indent c.loop.counter) (32 ∷ 32 ∷ []) ∙ ap (λ l. s0 ++ l) (sym (indent-more c.loop.counter))
