use Rattle.std.proofs.Common.{refl, subst}
use Rattle.perm_tree.specs.CodeOf.{code_of}
use Rattle.perm_tree.specs.InBody.{setting_at}
use Rattle.perm_meaning.specs.Evaluator.SimpleStatements.{simple_of}
use Rattle.perm_meaning.specs.Evaluator.SimpleSteps.{MayStep}
use Rattle.perm_meaning.proofs.Evaluator.Runs.Simple.{may-turn}
use Rattle.perm_meaning.proofs.eval.state.State.simple.Goals as goal

pub returns-in-Some : goal.returns-in-Some
returns-in-Some c =
    let u = c.args.unit.now in
    let s = c.args.self.now in
    let p = simple_of (setting_at u s.own.«method») c.args.stmt.now.kind in
    let e = c.in_ok-step.ensures in
    may-turn u c.args.at c.args.stmt.now s c.go_behind.new.self c.step.new.self c.step.new.heap c.in-Some.step c.go_behind.result p c.resolved.ensures.resolved c.requires.next refl
    (subst (MayStep (code_of u) p s.own s.heap c.step.new.self c.step.new.heap) c.in-Some.is e.steps)
    e.limit
    e.place.0
    c.go_behind.ensures.state
    c.go_behind.ensures.fate
