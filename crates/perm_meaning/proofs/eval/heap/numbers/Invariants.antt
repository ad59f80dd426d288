use Rattle.std.proofs.Common.{◌≡◌, ◌++◌, drop, map}
use Rattle.perm_meaning.specs.declared.eval.values.Value.TheVariants.{Number}
use Rattle.perm_meaning.proofs.eval.heap.numbers.Given as goal

abbrev pub invariant-input : goal.invariant-input
invariant-input l = l.values ++ map (λ n. Number n) (drop l.number-index l.input) ≡ map (λ n. Number n) l.input
