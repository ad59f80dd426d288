use Rattle.std.proofs.Common.{subst, sym}
use Rattle.perm_tree.specs.CodeOf.{code_of}
use Rattle.perm_tree.specs.UnitTables.{Tables}
use Rattle.perm_rules.specs.Goes.{IsAccepted}
use Rattle.perm_check.specs.Checks.{IsUnitOf}
use Rattle.perm_check.proofs.text.check_text.Goals as goal

pub returns-in-Ok-clause-accepted : goal.returns-in-Ok-clause-accepted
returns-in-Ok-clause-accepted c =
    let same = c.in-Ok.ensures.accepted.0 in
    record { reads = subst (λ (u : Tables). IsUnitOf c.args.text.now u) (sym same) c.in_ok-unit.ensures.unit; accepted = subst (λ (u : Tables). IsAccepted (code_of u)) (sym same) c.in-Ok.ensures.accepted.1 }
