use Rattle.perm_rules.proofs.Pars.{IsResolved-shares}
use Rattle.perm_rules.proofs.Modes.{mode-by-writes}
use Rattle.perm_rules.proofs.laws.pars.Goals as goal

pub returns : goal.returns
returns c = record { shared = λ u m r is here. IsResolved-shares u m r is here; mode = mode-by-writes }
