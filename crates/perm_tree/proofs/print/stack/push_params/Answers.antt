use Rattle.std.proofs.Common.{rules, ◌≡◌, ◌∙◌, ap, sym, [], ◌∷◌, subst}
use Rattle.std.specs.Prelude.{OnOk}
use Rattle.perm_tree.specs.declared.print.part.Part.TheVariants.{Declared}
use Rattle.perm_tree.specs.Printer.Parts.{onto, params_tasks, more_params_tasks}
use Rattle.perm_tree.proofs.Printer.Stacks.{empty, onto-nil, pushed_last}
use Rattle.perm_tree.proofs.print.stack.push_params.Goals as goal

pub returns-in_default : goal.returns-in_default
returns-in_default c =
    let none : c.args.params.now ≡ [] = empty c.args.params.now (search rules) in
    sym (onto-nil c.args.stack.now.items) ∙ ap (λ l. onto c.args.stack.now.items (params_tasks l)) (sym none)

pub returns : goal.returns
returns c =
    let split : c.args.params.now ≡ c.in-Some.first.now ∷ c.in-Some.others.now = search rules in
    subst (λ l. OnOk c.push.result (c.push.new.stack.items ≡ onto c.args.stack.now.items (params_tasks l))) (sym split)
    (pushed_last c.push.result c.args.stack.now.items c.push_more_params.new.stack.items c.push.new.stack.items ((Declared c.in-Some.first.now.ty c.in-Some.first.now.name) ∷ []) (more_params_tasks c.in-Some.others.now) c.in_ok-push_more_params.ensures c.push.ensures)
