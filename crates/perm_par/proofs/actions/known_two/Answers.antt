use Rattle.perm_tree.specs.Vars.{just}
use Rattle.perm_par.proofs.KnownVariables.{holds-plus}
use Rattle.perm_par.proofs.actions.known_two.Goals as goal

pub returns : goal.returns
returns c = holds-plus c.args.body.now c.union.result c.known.result c.known-2.result (just c.args.x) (just c.args.y) c.union.ensures c.known.ensures c.known-2.ensures
