use Rattle.perm_rules.proofs.Effects.{goes-by-effect, loses-or-makes, goes-from-more, changes-known}
use Rattle.perm_rules.proofs.laws.effects.Goals as goal

pub returns : goal.returns
returns c = record { by_effect = goes-by-effect; clear = loses-or-makes; monotone = goes-from-more; known = changes-known }
