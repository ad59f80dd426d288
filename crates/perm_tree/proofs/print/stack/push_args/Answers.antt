use Rattle.std.proofs.Common.{rules, ◌≡◌, ◌∙◌, ap, sym, [], ◌∷◌, subst}
use Rattle.std.specs.Prelude.{OnOk}
use Rattle.perm_tree.specs.declared.print.part.Part.TheVariants.{Arg as Argument}
use Rattle.perm_tree.specs.Printer.Parts.{onto, args_tasks, more_args_tasks}
use Rattle.perm_tree.proofs.Printer.Stacks.{empty, onto-nil, pushed_last}
use Rattle.perm_tree.proofs.print.stack.push_args.Goals as goal

pub returns-in_default : goal.returns-in_default
returns-in_default c =
    let none : c.args.args.now ≡ [] = empty c.args.args.now (search rules) in
    sym (onto-nil c.args.stack.now.items) ∙ ap (λ l. onto c.args.stack.now.items (args_tasks l)) (sym none)

pub returns : goal.returns
returns c =
    let split : c.args.args.now ≡ c.in-Some.first.now ∷ c.in-Some.others.now = search rules in
    subst (λ l. OnOk c.push.result (c.push.new.stack.items ≡ onto c.args.stack.now.items (args_tasks l))) (sym split)
    (pushed_last c.push.result c.args.stack.now.items c.push_more_args.new.stack.items c.push.new.stack.items ((Argument c.in-Some.first.now) ∷ []) (more_args_tasks c.in-Some.others.now) c.in_ok-push_more_args.ensures c.push.ensures)
