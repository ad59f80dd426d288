use Rattle.std.proofs.Common.{◌≡◌, ◌∙◌, List, ◌∷◌, [], ◌++◌, length, ap, arith}
use Rattle.perm_tree.specs.declared.bodies.Bodies.{Bodies}
use Rattle.perm_tree.specs.declared.bodies.Operation.{Operation}
use Rattle.perm_table.proofs.NumberingExpressions.{operations-told}
use Rattle.perm_table.proofs.numbering.expressions.with_operation.Goals as goal

pub returns : goal.returns
returns c =
    let old = c.args.bodies.now in
    let run = c.args.operations.items in
    let o = c.args.operation in
    let pushed : c.push.new.self.items ≡ run ++ o ∷ [] = c.in_ok-push.ensures.items in
    let begin : c.in_ok-first.first ≡ length old.operations = c.in_ok-first.ensures ∙ c.len.ensures.value in
    let many : c.in_ok-count.count ≡ length (run ++ o ∷ []) = omega (arith, c.in_ok-count.ensures, c.len.ensures.value, ap (λ (l : List Operation). length l) pushed) in
    let is : c.add_operations.new.bodies ≡ record old { operations = old.operations ++ (run ++ o ∷ []) } =
    c.in_ok-add_operations.ensures ∙ ap (λ (l : List Operation). let b : Bodies = record old { operations = old.operations ++ l } in b) (c.as_slice.ensures.value ∙ pushed) in
    operations-told old c.add_operations.new.bodies run o c.in_ok-first.first c.in_ok-count.count begin many is c.requires.ordered c.requires.below
