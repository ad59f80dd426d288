use Rattle.perm_perm.proofs.AdaptationLaws.{monotone, associative}
use Rattle.perm_perm.proofs.laws.adaptation.Goals as goal

pub returns : goal.returns
returns c = record { monotone = monotone; associative = associative }
