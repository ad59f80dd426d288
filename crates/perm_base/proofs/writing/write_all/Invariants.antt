use Rattle.std.proofs.Common.{◌≡◌, length}
use Rattle.perm_base.proofs.WrittenParts.{AreWritten, IsWrittenUpTo}
use Rattle.perm_base.proofs.writing.write_all.Given as goal

abbrev pub invariant-loop-rest : goal.invariant-loop-rest
invariant-loop-rest g l = record {
  written : IsWrittenUpTo (g.K.Sink.told l.fn.sink) (g.K.Sink.told l.sink) l.text l.rest;
  counts : g.K.Sink.faults l.sink ≡ g.K.Sink.faults l.fn.sink;
  writes : AreWritten g.K.Sink.write_gives l.text l.fn.sink l.rest l.sink;
}

abbrev pub decreases-loop-rest : goal.decreases-loop-rest
decreases-loop-rest g l = length l.rest
