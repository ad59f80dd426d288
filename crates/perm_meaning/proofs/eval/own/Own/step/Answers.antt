use Rattle.std.proofs.Common.{Option, Some, None, refl, sym, subst}
use Rattle.perm_tree.specs.Code.{Instruction, UnitCode}
use Rattle.perm_tree.specs.CodeOf.{code_of}
use Rattle.perm_tree.specs.InBody.{setting_at}
use Rattle.perm_meaning.specs.declared.eval.asks.Asked.{Asked}
use Rattle.perm_meaning.specs.declared.eval.own.Own.{Own}
use Rattle.perm_meaning.specs.declared.eval.step.Step.{Step}
use Rattle.perm_meaning.specs.Evaluator.SimpleStatements.{simple_of, Asks, MayAsk}
use Rattle.perm_meaning.specs.Evaluator.SimpleSteps.{IsStep, MayStep}
use Rattle.perm_meaning.specs.Evaluator.NumberedHeap.{Stored}
use Rattle.perm_meaning.proofs.Leads.{none-some, some-inj}
use Rattle.perm_meaning.proofs.eval.own.Own.step.Goals as goal

-- what is asked is done
may-step : (u : UnitCode) (p : Option Instruction) (old mid new : Own) (s t : Stored) (q : Asked) (r : Step) → MayAsk u p old mid (Some q) → ((i : Instruction) → Asks u i old mid q → IsStep u i old s new t r)
    → MayStep u p old s new t (Some r)
may-step u None old mid new s t q r (e, same) k = none-some (sym e)
may-step u (Some i) old mid new s t q r (a, e, asks) k = (r, refl, k i (subst (Asks u i old mid) (sym (some-inj e)) asks))

pub returns-in_ok-perform-in-Some-clause-steps : goal.returns-in_ok-perform-in-Some-clause-steps
returns-in_ok-perform-in-Some-clause-steps c =
    let u = code_of c.args.unit.now in
    may-step u (simple_of (setting_at c.args.unit.now c.args.self.now.«method») c.args.kind.now) c.args.self.now c.simple.new.self c.perform.new.self c.args.heap.now c.perform.new.heap c.in-Some.asked c.in_ok-perform-in-Some.field-0
    (subst (MayAsk u (simple_of (setting_at c.args.unit.now c.args.self.now.«method») c.args.kind.now) c.args.self.now c.simple.new.self) c.in-Some.is c.in_ok-asked.ensures.asks)
    (λ i asks. c.in_ok-perform-in-Some.ensures.steps i c.args.self.now c.in_ok-asked.ensures.same asks)
