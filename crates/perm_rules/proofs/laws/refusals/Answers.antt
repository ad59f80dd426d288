use Rattle.perm_rules.proofs.Refusals.KnownOnly.{refused-by-known}
use Rattle.perm_rules.proofs.Refusals.{goes-unrefused, accepted-unrefused, flow-goes}
use Rattle.perm_rules.proofs.laws.refusals.Goals as goal

pub returns : goal.returns
returns c = record { code = goes-unrefused; unit = accepted-unrefused; flow = flow-goes; known = refused-by-known }
