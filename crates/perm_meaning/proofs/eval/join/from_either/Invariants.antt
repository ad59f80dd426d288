use Rattle.std.proofs.Common.{◌≡◌, ◌++◌, drop}
use Rattle.perm_meaning.specs.Custody.{from_either, from_either_at}
use Rattle.perm_meaning.specs.Evaluator.Writes.{part_writes}
use Rattle.perm_meaning.proofs.eval.join.from_either.Given as goal

abbrev pub invariant-vars : goal.invariant-vars
invariant-vars l =
    let G = part_writes l.unit l.«method» l.part in
    from_either G l.first l.other ≡ l.all ++ from_either_at l.x G (drop l.x l.first) (drop l.x l.other)
