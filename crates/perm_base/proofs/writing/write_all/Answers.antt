use Rattle.std.proofs.Common.{◌∙◌, refl, rules}
use Rattle.std.proofs.lemmas.Grind.{common_steps}
use Rattle.perm_base.proofs.WrittenParts.{more_writes, more_written, no_writes, none_written, on_err, part_written, refused_write}
use Rattle.perm_base.proofs.writing.write_all.Goals as goal

pub returns-in_err-taken-clause-part : goal.returns-in_err-taken-clause-part
returns-in_err-taken-clause-part g c =
    on_err c.from_residual.result (part_written _ _ _ _ _ c.loop-rest.invariant.written (search (rules, common_steps)) c.in_err-taken.ensures.kept)

pub loop-rest-init : goal.loop-rest-init
loop-rest-init g c = record {
  written = none_written _ _;
  counts = refl;
  writes = no_writes _ _ _;
}

pub loop-rest-preserved : goal.loop-rest-preserved
loop-rest-preserved g c = record {
  written = more_written _ _ _ _ _ c.in_ok-taken.taken c.loop-rest.invariant.written c.in_ok-taken.ensures.taken;
  counts = c.in_ok-taken.ensures.no_fault ∙ c.loop-rest.invariant.counts;
  writes = more_writes _ _ _ _ _ _ c.in_ok-taken.taken c.loop-rest.invariant.writes c.in_ok-taken.ensures.some c.in_ok-taken.ensures.within c.in_ok-taken.ensures.given;
}

pub returns-in_err-taken-clause-refused : goal.returns-in_err-taken-clause-refused
returns-in_err-taken-clause-refused g c =
    on_err c.from_residual.result (refused_write _ _ _ _ _ _ c.loop-rest.invariant.writes (search (rules, common_steps)) c.in_err-taken.ensures.given)
