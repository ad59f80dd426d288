use Rattle.std.proofs.Common.{rules, ◌≡◌, [], ◌∷◌, ◌++◌, length}
use Rattle.perm_tree.specs.declared.print.part.Part.TheVariants.{Word as Fixed, Arg as Argument}
use Rattle.perm_tree.specs.declared.print.part.Word.TheVariants as fixed
use Rattle.perm_tree.specs.Printer.Parts.{more_args_tasks}
use Rattle.perm_tree.proofs.Printer.Stacks.{before_last, none_left}
use Rattle.perm_tree.proofs.print.stack.push_more_args.Goals as goal

pub loop-last-preserved : goal.loop-last-preserved
loop-last-preserved c =
    let split : c.loop-last.left.now ≡ c.in-Some.before.now ++ c.in-Some.last.now ∷ [] = search rules in
    before_last (λ a. Fixed fixed.Comma ∷ Argument a ∷ []) c.loop-last.stack.items c.push_all.new.stack.items c.args.stack.now.items (more_args_tasks c.args.args.now) c.loop-last.left.now c.in-Some.before.now c.in-Some.last.now split c.in_ok-push_all.ensures c.loop-last.invariant

pub returns : goal.returns
returns c =
    let none : length c.loop-last.left.now ≡ 0 = search rules in
    none_left (λ a. Fixed fixed.Comma ∷ Argument a ∷ []) c.loop-last.stack.items c.args.stack.now.items (more_args_tasks c.args.args.now) c.loop-last.left.now none c.loop-last.invariant
