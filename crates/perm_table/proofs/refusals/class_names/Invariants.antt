use Rattle.std.proofs.Common.{◌≡◌, map, take}
use Rattle.perm_table.proofs.refusals.class_names.Given as goal

abbrev pub invariant-classes : goal.invariant-classes
invariant-classes l = l.names.items ≡ map (λ c. c.name) (take l.class-index l.classes)
