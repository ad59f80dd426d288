use Rattle.std.proofs.Common.{◌≡◌, take}
use Rattle.perm_tree.specs.Resolves.{class_words}
use Rattle.perm_table.proofs.Maps.{placed_words}
use Rattle.perm_table.proofs.classes.class_map.Given as goal

abbrev pub invariant-classes : goal.invariant-classes
invariant-classes l = l.map.entries ≡ placed_words 0 (take l.at (class_words l.program))
