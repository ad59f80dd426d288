use Rattle.std.proofs.Common.{◌≡◌, ◌∙◌}
use Rattle.perm_tree.specs.Vars.{minus, plus}
use Rattle.perm_tree.specs.VarSets.{member}
use Rattle.perm_flow.proofs.StatementForms.{minus-same, plus-same}
use Rattle.perm_flow.proofs.walk.statements.joined.Goals as goal

pub returns : goal.returns
returns c =
    let lost : member c.union-lost.result ≡ plus (minus (member c.args.live) (member c.args.left)) (minus (member c.args.live) (member c.args.right)) = c.union-lost.ensures ∙ plus-same c.difference.ensures c.difference-2.ensures in
    let made : member c.union-made.result ≡ plus (minus (member c.args.left) (member c.args.live)) (minus (member c.args.right) (member c.args.live)) = c.union-made.ensures ∙ plus-same c.difference-3.ensures c.difference-4.ensures in
    c.union.ensures ∙ plus-same (c.difference-5.ensures ∙ minus-same (member c.args.live) lost) made
