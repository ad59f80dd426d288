use Rattle.std.proofs.Common.{◌≡◌, ◌<◌, sym, ap, subst, ◌∙◌, refl, arith}
use Rattle.perm_step.specs.declared.heap.Shortage.{Shortage}
use Rattle.perm_step.specs.declared.heap.Shortage.TheVariants as shortages
use Rattle.std.proofs.lemmas.Result.{err_from_is_err_and}
use Rattle.perm_meaning.specs.Effects.{depth_limit}
use Rattle.perm_step.specs.declared.alone.Run.{Run}
use Rattle.perm_step.specs.HeapAsks.{Asks, TrapsFirst}
use Rattle.perm_step.specs.Heaps.{Refuses}
use Rattle.perm_step.specs.LeafMoves.{Proceeds}
use Rattle.perm_step.specs.Runs.{weight, IsComing, IsShort, Opening}
use Rattle.perm_step.specs.Working.{Working, locals}
use Rattle.perm_step.proofs.WholeRuns.Comings.{asks-par, in-room, is-due, leads-on, no-end, no-ending, proceed-comes, refused-fills, runs-on, start-comes, trap-comes}
use Rattle.perm_step.proofs.StepEvents.{step-claims}
use Rattle.perm_step.proofs.WholeRuns.Weights.{start-lighter}
use Rattle.perm_step.proofs.alone.Run.turn.Goals as goal

pub returns-then-is_fork-clause-goes : goal.returns-then-is_fork-clause-goes
returns-then-is_fork-clause-goes c o k =
    let same = in-room c.args.self.now.leaf.control c.make_room.new.self c.ask.new.self c.make_room.ensures.same c.ask.ensures.same in
    let par = asks-par c.args.bodies.now _ _ c.step-step.result.now.action c.in-Ok.ask c.in-Ok.ensures.asks (c.is_fork.ensures.0 c.if-is_fork.true) in
    start-comes o c.args.bodies.now c.args.self.now k (step-claims o.unit c.args.bodies.now k.bodies o.checked) c.requires.due c.step-step.result.now c.step-step.ensures c.ask.new.self same
    (record { leaf = record { control = c.ask.new.self; ending = c.args.self.now.leaf.ending }; waiting = c.args.self.now.waiting; heap = c.args.self.now.heap })
    c.start_par.new.self refl refl refl (subst (λ (x : Working). x.depth < depth_limit) (sym c.ask.ensures.same) par.0) c.in_ok-start_par-in-Ok.ensures

pub returns-then-is_fork-clause-less : goal.returns-then-is_fork-clause-less
returns-then-is_fork-clause-less c =
    let started = c.in_ok-start_par-in-Ok.ensures in
    let old : Run = record { leaf = record { control = c.ask.new.self; ending = c.args.self.now.leaf.ending }; waiting = c.args.self.now.waiting; heap = c.args.self.now.heap } in
    let turns : c.ask.new.self.turns ≡ c.args.self.now.leaf.control.turns = ap (λ (x : Working). x.turns) (c.ask.ensures.same ∙ c.make_room.ensures.same) in
    let due = runs-on c.args.bodies.now c.args.self.now.leaf.control c.args.self.now.leaf.ending c.requires.due in
    let lighter : weight c.start_par.new.self < weight old = start-lighter old c.start_par.new.self started.parent started.right started.at.first started.at.second started.waits (omega (arith, due, turns)) started.parts in
    omega (arith, lighter, turns)

pub proceed-requires-clause-there : goal.proceed-requires-clause-there
proceed-requires-clause-there c =
    let k = c.requires.coming in
    (k.0.unit, (k.1.bodies.linked c.args.self.now.leaf.control.at c.step-step.result.now c.step-step.ensures).1)

pub proceed-requires-clause-leads : goal.proceed-requires-clause-leads
proceed-requires-clause-leads c =
    let k = c.requires.coming in
    let claims = step-claims k.0.unit c.args.bodies.now k.1.bodies k.0.checked in
    let due = is-due k.0 c.args.bodies.now c.args.self.now k.1 claims c.requires.due c.step-step.result.now c.step-step.ensures c.ask.new.self (in-room c.args.self.now.leaf.control c.make_room.new.self c.ask.new.self c.make_room.ensures.same c.ask.ensures.same) in
    leads-on c.args.bodies.now _ _ c.step-step.result.now.action c.in-Ok.ask c.in-Ok.ensures.asks (λ fork. let e = sym c.if-is_fork.false ∙ c.is_fork.ensures.1 fork in let no : ⊥ = cc e in no) (no-end k.0.unit c.args.bodies.now k.1.bodies k.1.bottom c.ask.new.self c.step-step.result.now due)

pub proceed-requires-clause-callable : goal.proceed-requires-clause-callable
proceed-requires-clause-callable c =
    let k = c.requires.coming in
    let claims = step-claims k.0.unit c.args.bodies.now k.1.bodies k.0.checked in
    let due = is-due k.0 c.args.bodies.now c.args.self.now k.1 claims c.requires.due c.step-step.result.now c.step-step.ensures c.ask.new.self (in-room c.args.self.now.leaf.control c.make_room.new.self c.ask.new.self c.make_room.ensures.same c.ask.ensures.same) in
    claims.callable k.1.bottom c.ask.new.self c.step-step.result.now due

pub returns-in_err-word-in-Ok-clause-short : goal.returns-in_err-word-in-Ok-clause-short
returns-in_err-word-in-Ok-clause-short c = let p = err_from_is_err_and c.from_residual-in_err-word-in-Ok.result c.from_residual-in_err-word-in-Ok.ensures.1 in rw (p.1, p.2) (λ o k. by o k c.in_err-word-in-Ok.field-0.0 c.in_err-word-in-Ok.ensures.refused)
  where
    by : (o : Opening) (k : IsComing o c.args.bodies.now c.args.self.now) (e : Shortage) → Refuses c.in-Ok.ask c.args.self.now.heap c.answer.new.self e → IsShort o e
    by o k shortages.NoMemory refuses = tt
    by o k shortages.HeapFull refuses =
        refused-fills o c.args.bodies.now c.args.self.now k (step-claims o.unit c.args.bodies.now k.bodies o.checked) c.requires.due c.step-step.result.now c.step-step.ensures c.ask.new.self
        (in-room c.args.self.now.leaf.control c.make_room.new.self c.ask.new.self c.make_room.ensures.same c.ask.ensures.same) c.in-Ok.ask c.answer.new.self
        (subst (λ (x : Working). Asks c.args.bodies.now (locals x) x.depth c.step-step.result.now.action c.in-Ok.ask) (sym c.ask.ensures.same) c.in-Ok.ensures.asks) refuses

pub returns-in_ok-word-in-Ok-clause-goes : goal.returns-in_ok-word-in-Ok-clause-goes
returns-in_ok-word-in-Ok-clause-goes c o k =
    let same = in-room c.args.self.now.leaf.control c.make_room.new.self c.ask.new.self c.make_room.ensures.same c.ask.ensures.same in
    let claims = step-claims o.unit c.args.bodies.now k.bodies o.checked in
    let due = is-due o c.args.bodies.now c.args.self.now k claims c.requires.due c.step-step.result.now c.step-step.ensures c.ask.new.self same in
    proceed-comes o c.args.bodies.now c.args.self.now k claims c.requires.due c.step-step.result.now c.step-step.ensures c.ask.new.self same
    c.in-Ok.ask c.in_ok-word-in-Ok.word c.answer.new.self c.proceed.new.self (record { leaf = c.proceed.new.self; waiting = c.args.self.now.waiting; heap = c.answer.new.self })
    (subst (λ (x : Working). Asks c.args.bodies.now (locals x) x.depth c.step-step.result.now.action c.in-Ok.ask) (sym c.ask.ensures.same) c.in-Ok.ensures.asks)
    (leads-on c.args.bodies.now _ _ c.step-step.result.now.action c.in-Ok.ask c.in-Ok.ensures.asks (λ fork. let e = sym c.if-is_fork.false ∙ c.is_fork.ensures.1 fork in let no : ⊥ = cc e in no) (no-end o.unit c.args.bodies.now k.bodies k.bottom c.ask.new.self c.step-step.result.now due))
    c.in_ok-word-in-Ok.ensures.answers
    (subst (λ e. Proceeds c.args.bodies.now c.step-step.result.now c.in_ok-word-in-Ok.word (record { control = c.ask.new.self; ending = e }) c.proceed.new.self) (no-ending c.args.bodies.now c.args.self.now.leaf.control c.args.self.now.leaf.ending c.requires.due) c.proceed.ensures)
    refl refl refl

pub returns-in-Err-clause-goes : goal.returns-in-Err-clause-goes
returns-in-Err-clause-goes c o k =
    let same = in-room c.args.self.now.leaf.control c.make_room.new.self c.ask.new.self c.make_room.ensures.same c.ask.ensures.same in
    trap-comes o c.args.bodies.now c.args.self.now k (step-claims o.unit c.args.bodies.now k.bodies o.checked) c.requires.due c.step-step.result.now c.step-step.ensures c.ask.new.self same
    c.in-Err.kind (record { leaf = c.trap.new.self; waiting = c.args.self.now.waiting; heap = c.args.self.now.heap })
    (subst (λ (x : Working). TrapsFirst c.args.bodies.now (locals x) x.depth c.step-step.result.now.action c.in-Err.kind) (sym c.ask.ensures.same) c.in-Err.ensures.traps) c.trap.ensures refl refl
