use Rattle.std.proofs.Common.{◌-◌, Option, subst}
use Rattle.perm_tree.specs.InBody.{setting_at}
use Rattle.perm_meaning.specs.declared.eval.state.Fate.{Fate}
use Rattle.perm_meaning.specs.declared.eval.state.Fate.TheVariants.{Goes}
use Rattle.perm_meaning.specs.declared.eval.state.State.{State}
use Rattle.perm_meaning.specs.Evaluator.CallStatements.{call_in}
use Rattle.perm_meaning.specs.Evaluator.Runs.{IsNext, MayTurn}
use Rattle.perm_meaning.specs.Evaluator.SimpleStatements.{simple_of}
use Rattle.perm_meaning.proofs.Evaluator.Runs.StatementsThere.{turn-out}
use Rattle.perm_meaning.proofs.Evaluator.Runs.Turns.{has-turned, is-left, unspent-is}
use Rattle.perm_meaning.proofs.eval.state.State.statement.Goals as goal

pub returns-then-self-eq0 : goal.returns-then-self-eq0
returns-then-self-eq0 c = turn-out c.args.unit.now c.args.self.now c.args.at c.args.stmt.now c.requires.next c.if-self-eq0.true c.resolved.ensures.resolved.formed.placed

pub returns-in-Some : goal.returns-in-Some
returns-in-Some c =
    let s = c.args.self.now in
    let spent = record s { turns = s.turns - 1 } in
    let kind = simple_of (setting_at c.args.unit.now s.own.«method») c.args.stmt.now.kind in
    subst (λ (s : State). IsNext c.args.unit.now s Goes c.simple.new.self c.in-Some.fate) (unspent-is s c.if-self-eq0.false)
    (has-turned c.args.unit.now spent c.simple.new.self kind c.in-Some.fate (subst (λ (y : Option Fate). MayTurn c.args.unit.now kind spent c.simple.new.self y) c.in-Some.is c.in_ok-fate.ensures))

pub returns-in-Some-2 : goal.returns-in-Some-2
returns-in-Some-2 c =
    let s = c.args.self.now in
    let u = c.args.unit.now in
    let spent = record s { turns = s.turns - 1 } in
    let k = setting_at u s.own.«method» in
    let same = is-left u spent c.simple.new.self (simple_of k c.args.stmt.now.kind) c.in_ok-fate.field-0 c.in_default.not-Some c.in_ok-fate.ensures in
    let calls = call_in k c.args.stmt.now.kind in
    let now = subst (λ (s : State). MayTurn u (call_in (setting_at u s.own.«method») c.args.stmt.now.kind) s c.call.new.self c.in_ok-fate-2.field-0) same c.in_ok-fate-2.ensures in
    subst (λ (s : State). IsNext u s Goes c.call.new.self c.in-Some-2.fate) (unspent-is s c.if-self-eq0.false)
    (has-turned u spent c.call.new.self calls c.in-Some-2.fate (subst (λ (y : Option Fate). MayTurn u calls spent c.call.new.self y) c.in-Some-2.is now))
