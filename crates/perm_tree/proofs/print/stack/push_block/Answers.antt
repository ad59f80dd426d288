use Rattle.std.proofs.Common.{rules, ℕ, ◌∙◌, ap, ◌++◌, map}
use Rattle.std.specs.Prelude.{reverse}
use Rattle.std.proofs.lemmas.Iterator.{YieldsList-from_map}
use Rattle.std.proofs.lemmas.Iterator.Adapters.{items_from_extend, YieldsList-from_rev_slice}
use Rattle.perm_tree.specs.declared.print.part.Part.{Part}
use Rattle.perm_tree.specs.declared.print.part.Part.TheVariants.{Stmt as Statement}
use Rattle.perm_tree.specs.Printer.Parts.{onto}
use Rattle.perm_tree.proofs.Printer.Stacks.{map-reverse, when_ok}
use Rattle.perm_tree.proofs.print.stack.push_block.Goals as goal

pub returns : goal.returns
unfolding onto
returns c =
    let h = items_from_extend c.extend.result c.extend.ensures.ran (YieldsList-from_map _ (λ i. Statement i c.args.depth) (YieldsList-from_rev_slice c.as_slice-stmts.result.now (cc)) c.map.ensures.closure (λ x r q k. search rules)) in
    let items = when_ok c.extend.result c.in_ok-extend.field-0 c.in_ok-extend.was h in
    let f : ℕ → Part = λ i. Statement i c.args.depth in
    items.0 ∙ ap (λ l. c.args.stack.now.items ++ l) (map-reverse f c.as_slice-stmts.result.now ∙ ap (λ l. reverse (map f l)) c.as_slice-stmts.ensures)
