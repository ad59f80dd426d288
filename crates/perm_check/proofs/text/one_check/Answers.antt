use Rattle.perm_check.proofs.OneCheck.{one-accepted, one-refusal, refused-apart}
use Rattle.perm_check.proofs.text.one_check.Goals as goal

pub returns : goal.returns
returns c text = record { units = one-accepted text; refusals = one-refusal text; apart = refused-apart text }
