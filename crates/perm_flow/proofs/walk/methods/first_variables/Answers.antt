use Rattle.std.proofs.Common.{◌≡◌, ◌≤◌, ◌∙◌, ap, arith}
use Rattle.perm_tree.specs.Vars.{below}
use Rattle.perm_flow.proofs.WholeMethods.{below-more, below-nothing}
use Rattle.perm_flow.proofs.walk.methods.first_variables.Goals as goal

pub numbers-init : goal.numbers-init
numbers-init c = c.new-set.ensures ∙ below-nothing

pub numbers-preserved : goal.numbers-preserved
numbers-preserved c = below-more c.numbers.x c.numbers.set c.insert-set.result c.numbers.invariant c.insert-set.ensures

pub returns : goal.returns
returns c =
    let most : c.numbers.x ≤ c.args.count = c.numbers.auto.x-end in
    let end : c.numbers.x ≡ c.args.count = omega (arith, most, c.numbers-test.false) in
    c.numbers.invariant ∙ ap below end
