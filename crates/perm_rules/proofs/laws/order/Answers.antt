use Rattle.perm_rules.proofs.PartOrder.{parts-in-order, unit-in-order, refused-at-first}
use Rattle.perm_rules.proofs.laws.order.Goals as goal

pub returns : goal.returns
returns c = record { methods = parts-in-order; unit = unit-in-order; first = refused-at-first }
