use Rattle.std.proofs.Common.{◌≡◌, ◌≤◌, ℕ, drop, length, nat_eq}
use Rattle.indexmap.specs.IndexMap.{get}
use Rattle.perm_table.specs.Numbers.{place_from}
use Rattle.perm_table.proofs.numbers.ClassNumbers.new.Given as goal

abbrev pub invariant-places : goal.invariant-places
invariant-places l = (l.at ≤ length l.classes) × ((name : ℕ) → get nat_eq l.places name ≡ place_from l.at (drop l.at l.classes) name)
