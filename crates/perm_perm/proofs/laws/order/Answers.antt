use Rattle.perm_perm.proofs.OrderLaws.{reflexive, transitive, antisymmetric, isolated_least, readable_greatest}
use Rattle.perm_perm.proofs.laws.order.Goals as goal

pub returns : goal.returns
returns c = record { reflexive = reflexive; transitive = transitive; antisymmetric = antisymmetric; least = isolated_least; greatest = readable_greatest }
