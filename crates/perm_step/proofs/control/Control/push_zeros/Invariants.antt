use Rattle.std.proofs.Common.{◌≡◌, ◌++◌, replicate}
use Rattle.perm_step.proofs.control.Control.push_zeros.Given as goal

abbrev pub invariant-loop : goal.invariant-loop
invariant-loop l = l.self ≡ record l.initial.self { vars = l.initial.self.vars ++ replicate l.counter 0 }
