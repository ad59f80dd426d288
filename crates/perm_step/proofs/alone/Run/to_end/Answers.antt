use Rattle.std.proofs.Common.{◌≡◌, List, [], ◌++◌, sym, ap, ◌∙◌, refl, arith}
use Rattle.std.proofs.lemmas.List.{nil_from_length}
use Rattle.std.proofs.lemmas.Result.{err_from_is_err_and}
use Rattle.perm_step.specs.declared.alone.Waiting.{Waiting}
use Rattle.perm_step.proofs.WholeRuns.Comings.{can-go-on, goes-comes, same-run, waits-here}
use Rattle.perm_step.proofs.StepEvents.{step-claims}
use Rattle.perm_step.proofs.WholeRuns.Weights.{go-lighter}
use Rattle.perm_step.proofs.alone.Run.to_end.Goals as goal

pub end-requires : goal.end-requires
end-requires c = (c.loop-self.invariant c.requires.coming.0 c.requires.coming.1).leaf.here

pub turn-requires-clause-coming : goal.turn-requires-clause-coming
turn-requires-clause-coming c = (c.requires.coming.0, c.loop-self.invariant c.requires.coming.0 c.requires.coming.1)

pub loop-self-preserved-in-Continue-1 : goal.loop-self-preserved-in-Continue-1
loop-self-preserved-in-Continue-1 c o k = c.in_ok-turn-in-None.ensures.goes o (c.loop-self.invariant o k)

pub returns-in_err-turn-in-None-clause-short : goal.returns-in_err-turn-in-None-clause-short
returns-in_err-turn-in-None-clause-short c =
    let p = err_from_is_err_and c.from_residual.result c.from_residual.ensures.1 in
    rw (p.1, p.2) (λ o k. c.in_err-turn-in-None.ensures.short o (c.loop-self.invariant o k))

pub returns-in-None-pop-clause-through : goal.returns-in-None-pop-clause-through
returns-in-None-pop-clause-through c o k =
    let now = c.loop-self.invariant o k in
    let none : c.pop.new.self.items ≡ [] = nil_from_length c.pop.new.self.items (omega (arith, c.in-None-pop.ensures.cases)) in
    let rest : c.loop-self.self.waiting.items ≡ [] = c.in-None-pop.ensures.items ∙ ap (λ (xs : List Waiting). xs ++ []) none in record {
      coming = same-run o c.args.bodies.now c.loop-self.self now (record { leaf = c.loop-self.self.leaf; waiting = c.pop.new.self; heap = c.loop-self.self.heap }) refl (none ∙ sym rest) refl;
      alone = none;
      ends = c.in-Some.ensures;
    }

pub go_on-requires-clause-can : goal.go_on-requires-clause-can
go_on-requires-clause-can c =
    let k = c.loop-self.invariant c.requires.coming.0 c.requires.coming.1 in
    can-go-on c.requires.coming.0 c.args.bodies.now c.loop-self.self k (step-claims c.requires.coming.0.unit c.args.bodies.now k.bodies c.requires.coming.0.checked) c.in-Some.end c.in-Some.ensures c.pop.new.self.items c.in-Some-pop.waiting c.in-Some-pop.ensures.items

pub loop-self-smaller : goal.loop-self-smaller
loop-self-smaller c =
    let k = c.loop-self.invariant c.requires.coming.0 c.requires.coming.1 in
    go-lighter c.args.bodies.now c.in-Some.end c.loop-self.self (record { leaf = c.loop-self.self.leaf; waiting = c.pop.new.self; heap = c.loop-self.self.heap }) c.go_on.new.self c.pop.new.self.items c.in-Some-pop.waiting c.in-Some-pop.ensures.items refl refl
    (waits-here c.requires.coming.0 c.args.bodies.now c.loop-self.self k (step-claims c.requires.coming.0.unit c.args.bodies.now k.bodies c.requires.coming.0.checked) c.in-Some.end c.in-Some.ensures c.pop.new.self.items c.in-Some-pop.waiting c.in-Some-pop.ensures.items) c.in_ok-go_on-in-Some-pop.ensures

pub loop-self-preserved : goal.loop-self-preserved
loop-self-preserved c o k =
    let now = c.loop-self.invariant o k in
    goes-comes o c.args.bodies.now c.loop-self.self now (step-claims o.unit c.args.bodies.now now.bodies o.checked) c.in-Some.end c.in-Some.ensures c.pop.new.self.items c.in-Some-pop.waiting c.in-Some-pop.ensures.items
    (record { leaf = c.loop-self.self.leaf; waiting = c.pop.new.self; heap = c.loop-self.self.heap }) c.go_on.new.self refl refl refl c.in_ok-go_on-in-Some-pop.ensures
