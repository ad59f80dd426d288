use Rattle.std.proofs.Common.{◌≡◌, ◌∙◌, Option, ap, subst}
use Rattle.perm_tree.specs.declared.errors.TrapKind.{TrapKind}
use Rattle.perm_tree.specs.CodeOf.{code_of}
use Rattle.perm_meaning.specs.declared.eval.answers.Answer.{Answer}
use Rattle.perm_meaning.specs.declared.eval.own.Own.{Own}
use Rattle.perm_meaning.specs.Evaluator.Asks.{told_by}
use Rattle.perm_meaning.specs.Names.{Mark}
use Rattle.perm_meaning.specs.Evaluator.NumberedValues.{held_by, Names}
use Rattle.perm_meaning.specs.Evaluator.SimpleStatements.{own_by, Asks}
use Rattle.perm_meaning.specs.Evaluator.NumberedHeap.{Answers}
use Rattle.perm_meaning.specs.Evaluator.ToldAnswers.{act_by, mark_after, IsLeft}
use Rattle.perm_meaning.proofs.Evaluator.Ties.Stepping.{fills, goes, misses, stays-in-place, sticks, traps}
use Rattle.perm_meaning.proofs.eval.own.Own.perform.Goals as goal

pub returns-in-None-clause-steps : goal.returns-in-None-clause-steps
returns-in-None-clause-steps c i old kept asks z tied =
    let u = code_of c.args.unit.now in
    goes u i old c.args.self.now c.in-Does.ask c.in-Does.told (subst (Asks u i old c.args.self.now) c.in-Does.is asks) c.args.heap.now c.answer.new.self z tied c.in-Found.found c.tell.new.self c.in_ok-tell-in-Found.field-0
    c.in_ok-tell-in-Found.ensures.acts (subst (λ (a : Answer). Answers u c.in-Does.ask c.args.heap.now a c.answer.new.self) c.in-Found.is c.in_ok-found-in-Does.ensures) c.in-None.is

pub returns-in-None-clause-place : goal.returns-in-None-clause-place
returns-in-None-clause-place c =
    stays-in-place c.args.self.now c.tell.new.self c.in-Does.told c.in-Found.found
    (subst (λ (k : Option TrapKind). (names : Names) (mark : Mark) → told_by names (own_by names mark c.args.self.now) c.in-Does.told (held_by names c.in-Found.found) ≡ act_by names (mark_after c.in-Does.told mark) c.tell.new.self k)
    c.in-None.is c.in_ok-tell-in-Found.ensures.acts)

pub returns-in-Some-clause-steps : goal.returns-in-Some-clause-steps
returns-in-Some-clause-steps c i old kept asks z tied =
    let u = code_of c.args.unit.now in
    let left : c.tell.new.self ≡ c.args.self.now = subst (IsLeft c.args.self.now c.tell.new.self) c.in-Some.is c.in_ok-tell-in-Found.ensures.left in
    traps u i old c.args.self.now c.in-Does.ask c.in-Does.told (subst (Asks u i old c.args.self.now) c.in-Does.is asks) c.args.heap.now c.answer.new.self z tied c.in-Found.found c.tell.new.self c.in_ok-tell-in-Found.field-0
    c.in_ok-tell-in-Found.ensures.acts (subst (λ (a : Answer). Answers u c.in-Does.ask c.args.heap.now a c.answer.new.self) c.in-Found.is c.in_ok-found-in-Does.ensures) c.in-Some.kind c.in-Some.is
    (ap (λ (o : Own). o.printed) left ∙ ap (λ (o : Own). o.printed) kept)

pub returns-in-Refused-clause-steps : goal.returns-in-Refused-clause-steps
returns-in-Refused-clause-steps c i old kept asks z tied =
    let u = code_of c.args.unit.now in
    fills u i old c.args.self.now c.in-Does.ask c.in-Does.told (subst (Asks u i old c.args.self.now) c.in-Does.is asks) c.args.heap.now c.answer.new.self z tied
    (subst (λ (a : Answer). Answers u c.in-Does.ask c.args.heap.now a c.answer.new.self) c.in-Refused.is c.in_ok-found-in-Does.ensures)

pub returns-in-Missing-clause-steps : goal.returns-in-Missing-clause-steps
returns-in-Missing-clause-steps c i old kept asks z tied =
    let u = code_of c.args.unit.now in
    misses u i old c.args.self.now c.in-Does.ask c.in-Does.told (subst (Asks u i old c.args.self.now) c.in-Does.is asks) c.args.heap.now c.answer.new.self z tied
    (subst (λ (a : Answer). Answers u c.in-Does.ask c.args.heap.now a c.answer.new.self) c.in-Missing.is c.in_ok-found-in-Does.ensures)

pub returns-in-Sticks-clause-steps : goal.returns-in-Sticks-clause-steps
returns-in-Sticks-clause-steps c i old kept asks z tied =
    sticks (code_of c.args.unit.now) i old c.args.self.now (subst (Asks (code_of c.args.unit.now) i old c.args.self.now) c.in-Sticks.is asks) c.args.heap.now z
