use Rattle.perm_tree.specs.BodyTerms.{expression_term}
use Rattle.perm_tree.specs.Mentions.{term_mentions}
use Rattle.perm_tree.specs.Vars.{just, plus}
use Rattle.perm_par.proofs.KnownVariables.{holds-plus}
use Rattle.perm_par.proofs.actions.mentioned_by_item.Goals as goal

pub returns : goal.returns
returns c =
    let b = c.args.body.now in
    let e = term_mentions (expression_term b.bodies.operations c.args.at) in
    let f = term_mentions (expression_term b.bodies.operations c.args.value) in
    holds-plus b c.union.result c.known.result c.union-used.result (just c.args.y) (plus e f) c.union.ensures c.known.ensures
    (holds-plus b c.union-used.result c.in_expression.result c.in_expression-2.result e f c.union-used.ensures c.in_expression.ensures c.in_expression-2.ensures)
