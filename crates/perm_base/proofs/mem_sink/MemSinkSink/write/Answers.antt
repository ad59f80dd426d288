use Rattle.std.proofs.Common.{IsTrue, refl, inl, inr, rules, arith}
use Rattle.std.proofs.lemmas.Grind.{common_steps}
use Rattle.perm_base.specs.Calls.{is_next_failing}
use Rattle.perm_base.proofs.mem_sink.MemSinkSink.write.Goals as goal
use Rattle.perm_base.proofs.mem_sink.MemSinkSink.write.Goals.{then-free-eq0-via-then-free-eq0, then-free-eq0-via-else-free-eq0+then-contains}

pub returns-then-free-eq0-clause-refused : goal.returns-then-free-eq0-clause-refused
returns-then-free-eq0-clause-refused c = (
  λ _. elim c.then-free-eq0.branch [
    | then-free-eq0-via-then-free-eq0 w ↦ inr (omega arith)
    | then-free-eq0-via-else-free-eq0+then-contains w ↦
        let failing : IsTrue (is_next_failing c.args.self.now.fail.items c.args.self.now.calls) = search (rules, common_steps) in
        inl failing
  ],
  λ _. refl,
)
