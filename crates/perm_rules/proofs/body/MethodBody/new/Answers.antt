use Rattle.std.proofs.Common.{◌≡◌, subst, sym}
use Rattle.perm_tree.specs.UnitTables.{Tables}
use Rattle.perm_rules.specs.MethodBodies.{IsBody}
use Rattle.perm_rules.proofs.BodiesThere.{body-there}
use Rattle.perm_rules.proofs.body.MethodBody.new.Goals as goal

pub invariant_of-result : goal.invariant_of-result
invariant_of-result c =
    let same : record { program = c.program.result.now; tables = c.tables.result.now } ≡ c.args.unit.now = (λ i. record { program = c.program.ensures i; tables = c.tables.ensures i }) in
    subst (λ (u : Tables). IsBody (record { unit = u; bodies = c.bodies.result.now; number = c.args.method })) (sym same)
    (body-there c.args.unit.now c.bodies.result.now c.args.method c.resolved.ensures.resolved c.bodies.ensures c.requires)
