use Rattle.std.proofs.Common.{◌≡◌, ◌+◌, ◌-◌, ◌++◌, ◌∷◌, length, Some, None}
use Rattle.std.specs.Prelude.{replicate}
use Rattle.perm_meaning.proofs.eval.calls.first_vars.Given as goal

abbrev pub invariant-loop : goal.invariant-loop
invariant-loop l = l.vars.items ++ replicate (l.missing - l.counter) None ≡ Some l.fn.this ∷ (l.fn.found ++ replicate (l.fn.count - (1 + length l.fn.found)) None)
