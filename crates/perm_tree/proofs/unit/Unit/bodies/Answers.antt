use Rattle.std.proofs.Common.{subst}
use Rattle.perm_tree.specs.Links.{AreBodies}
use Rattle.perm_tree.specs.UnitTables.{Tables}
use Rattle.perm_tree.proofs.unit.Unit.bodies.Goals as goal

pub returns : goal.returns
returns c = subst (λ (u : Tables). AreBodies u c.self.inside.bodies) c.self.view_is c.self.invariant.2
