use Rattle.std.proofs.Common.{refl, subst}
use Rattle.perm_tree.specs.CodeOf.{code_of}
use Rattle.perm_tree.specs.InBody.{setting_at}
use Rattle.perm_meaning.specs.Evaluator.CallStatements.{call_in, MayInvoke}
use Rattle.perm_meaning.proofs.Evaluator.Runs.Calls.{may-call}
use Rattle.perm_meaning.proofs.eval.state.State.call.Goals as goal

pub returns-in_ok-go_into-in-Some : goal.returns-in_ok-go_into-in-Some
returns-in_ok-go_into-in-Some c =
    let u = c.args.unit.now in
    let s = c.args.self.now in
    let p = call_in (setting_at u s.own.«method») c.args.stmt.now.kind in
    may-call u c.args.at c.args.stmt.now s c.go_into.new.self c.invocation.new.self c.in-Some.callee c.in_ok-go_into-in-Some.field-0 p c.resolved.ensures.resolved c.requires.next refl
    (subst (MayInvoke (code_of u) p s.own c.invocation.new.self) c.in-Some.is c.in_ok-callee.ensures.callee)
    c.in_ok-callee.ensures.same
    c.in_ok-go_into-in-Some.ensures.state
    c.in_ok-go_into-in-Some.ensures.fate
