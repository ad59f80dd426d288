use Rattle.perm_rules.proofs.Hiding.{place-context}
use Rattle.perm_rules.proofs.BodyFlows.{refused-by-body}
use Rattle.perm_rules.proofs.laws.places.Goals as goal

pub returns : goal.returns
returns c = record { context = place-context; body = refused-by-body }
