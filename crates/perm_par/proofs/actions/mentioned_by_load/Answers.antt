use Rattle.perm_tree.specs.BodyTerms.{expression_term}
use Rattle.perm_tree.specs.Mentions.{term_mentions}
use Rattle.perm_tree.specs.Vars.{just, plus}
use Rattle.perm_par.proofs.KnownVariables.{holds-plus}
use Rattle.perm_par.proofs.actions.mentioned_by_load.Goals as goal

pub returns : goal.returns
returns c =
    let b = c.args.body.now in
    let e = term_mentions (expression_term b.bodies.operations c.args.at) in
    holds-plus b c.union.result c.known-2.result c.union-used.result (just c.args.x) (plus (just c.args.y) e) c.union.ensures c.known-2.ensures
    (holds-plus b c.union-used.result c.known.result c.in_expression.result (just c.args.y) e c.union-used.ensures c.known.ensures c.in_expression.ensures)
