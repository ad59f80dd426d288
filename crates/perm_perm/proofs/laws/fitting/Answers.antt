use Rattle.perm_perm.proofs.Fitting.{fits-parts}
use Rattle.perm_perm.proofs.laws.fitting.Goals as goal

pub returns : goal.returns
returns c t u = fits-parts t u
