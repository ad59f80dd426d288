use Rattle.std.proofs.Common.{subst}
use Rattle.perm_tree.specs.Nesting.{AllNested}
use Rattle.perm_tree.specs.Resolves.{IsResolved}
use Rattle.perm_tree.specs.UnitTables.{Tables}
use Rattle.perm_tree.proofs.Nested.{IsResolved-nested}
use Rattle.perm_tree.proofs.unit.Unit.resolved.Goals as goal

pub returns : goal.returns
returns c = record {
  resolved = subst IsResolved c.self.view_is c.self.invariant.0;
  nested = subst (λ (u : Tables). AllNested u.tables) c.self.view_is (IsResolved-nested (record { program = c.self.inside.program; tables = c.self.inside.tables }) c.self.invariant.0);
}
