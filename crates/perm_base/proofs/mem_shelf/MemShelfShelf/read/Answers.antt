use Rattle.std.proofs.Common.{IsTrue, refl, inl, rules}
use Rattle.std.proofs.lemmas.Grind.{common_steps}
use Rattle.perm_base.specs.Calls.{is_next_failing}
use Rattle.perm_base.proofs.mem_shelf.MemShelfShelf.read.Goals as goal

pub returns-then-contains-clause-refused : goal.returns-then-contains-clause-refused
returns-then-contains-clause-refused c =
    let failing : IsTrue (is_next_failing c.args.self.now.fail.items c.args.self.now.calls) = search (rules, common_steps) in
    (λ _. inl failing, λ _. refl)
