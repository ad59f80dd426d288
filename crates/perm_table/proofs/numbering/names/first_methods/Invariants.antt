use Rattle.std.proofs.Common.{◌≡◌, ◌++◌, drop}
use Rattle.perm_table.specs.Numbering.{firsts_from}
use Rattle.perm_table.proofs.numbering.names.first_methods.Given as goal

abbrev pub invariant-classes : goal.invariant-classes
invariant-classes l = l.firsts.items ++ firsts_from l.before (drop l.class-index l.classes) ≡ firsts_from 0 l.classes
