use Rattle.perm_tree.specs.BodyTerms.{argument_of}
use Rattle.perm_tree.specs.Mentions.{argument_mentions}
use Rattle.perm_tree.specs.Vars.{just}
use Rattle.perm_par.proofs.KnownVariables.{holds-plus}
use Rattle.perm_par.proofs.actions.known_with.Goals as goal

pub returns : goal.returns
returns c =
    holds-plus c.args.body.now c.union.result c.known.result c.in_argument.result (just c.args.x) (argument_mentions (argument_of c.args.body.now.bodies.operations c.args.argument)) c.union.ensures c.known.ensures c.in_argument.ensures
