use Rattle.std.proofs.Common.{take}
use Rattle.std.specs.Prelude.{map}
use Rattle.perm_tree.specs.CodeNames.{argument}
use Rattle.perm_table.specs.Numbered.{TellsArguments}
use Rattle.perm_table.specs.Numbering.{setting_of}
use Rattle.perm_table.proofs.numbering.expressions.number_arguments.Given as goal

abbrev pub invariant-each : goal.invariant-each
invariant-each l = TellsArguments l.fn.bodies l.bodies (map (argument (setting_of l.names)) (take l.arg-index l.args))
