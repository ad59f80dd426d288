use Rattle.std.proofs.Common.{Some, refl, sym, subst}
use Rattle.perm_tree.specs.declared.ast.Rhs.{Rhs}
use Rattle.perm_tree.specs.declared.ast.StmtKind.{StmtKind}
use Rattle.perm_tree.specs.CodeNames.{call, var_at}
use Rattle.perm_tree.specs.CodeOf.{code_of}
use Rattle.perm_tree.specs.InBody.{setting_at}
use Rattle.perm_meaning.specs.Evaluator.CallStatements.{call_in, call_into, Invokes, MayInvoke}
use Rattle.perm_meaning.proofs.eval.own.Own.invocation.Goals as goal

pub returns-in_ok-call-in-Call-r-clause-callee : goal.returns-in_ok-call-in-Call-r-clause-callee
returns-in_ok-call-in-Call-r-clause-callee c =
    let u = code_of c.args.unit.now in
    let k = setting_at c.args.unit.now c.args.self.now.«method» in
    let q = c.in_ok-call-in-Call-r.field-0 in
    subst (λ (s : StmtKind). MayInvoke u (call_in k s) c.args.self.now c.call-in-Call-r.new.self (Some q)) (sym c.in-Assign.is)
    (subst (λ (r : Rhs). MayInvoke u (call_into k (var_at k c.in-Assign.x) r) c.args.self.now c.call-in-Call-r.new.self (Some q)) (sym c.in-Call-r.is)
    (q, refl, subst (λ x. Invokes u (call k (Some x) c.in-Call-r.called) c.args.self.now c.call-in-Call-r.new.self q) c.variable-x.ensures c.in_ok-call-in-Call-r.ensures.callee))
