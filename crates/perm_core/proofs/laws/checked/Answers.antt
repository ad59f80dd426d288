use Rattle.std.proofs.Common.{subst}
use Rattle.perm_tree.specs.CodeOf.{code_of}
use Rattle.perm_tree.specs.UnitTables.{Tables}
use Rattle.perm_core.specs.Whole.{IsWhole}
use Rattle.perm_core.proofs.Whole.WholeUnits.{resolved-whole}
use Rattle.perm_core.proofs.laws.checked.Goals as goal

pub returns : goal.returns
returns c =
    let u = c.unit.result.now in
    record { accepted = c.accepted.ensures; whole = subst (λ (t : Tables). IsWhole (code_of t)) c.unit.ensures (resolved-whole u c.resolved.ensures.resolved) }
