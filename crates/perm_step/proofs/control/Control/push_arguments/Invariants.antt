use Rattle.std.proofs.Common.{take}
use Rattle.perm_step.specs.CallParts.{locals_before, AddsArguments}
use Rattle.perm_step.proofs.control.Control.push_arguments.Given as goal

abbrev pub invariant-loop-a : goal.invariant-loop-a
invariant-loop-a l = AddsArguments l.operations (locals_before l.end l.initial.self) (take l.a-index l.arguments) l.initial.self l.self
