use Rattle.std.proofs.Common.{true, false, sym, subst}
use Rattle.std.specs.Prelude.{map}
use Rattle.std.proofs.lemmas.Result.{IfOk-weaker}
use Rattle.perm_tree.specs.Code.{Invoke, Tie}
use Rattle.perm_tree.specs.CodeNames.{argument, call, call_tie, ty_at, var_at}
use Rattle.perm_tree.specs.CodeOf.{code_of}
use Rattle.perm_tree.specs.InBody.{setting_at}
use Rattle.perm_tree.specs.Lookup.{method_place}
use Rattle.perm_meaning.specs.Evaluator.CallStatements.{Invokes}
use Rattle.perm_meaning.proofs.eval.own.Own.call.Goals as goal

pub returns-then-called-clause-callee : goal.returns-then-called-clause-callee
returns-then-called-clause-callee c =
    let u = c.args.unit.now in
    let k = setting_at u c.args.self.now.«method» in
    let y = var_at k c.args.called.now.on in
    let args = map (argument k) c.args.called.now.args in
    IfOk-weaker c.call_on_consumed.result
    (λ x. (tie : Tie) → Invokes (code_of u) (Invoke c.args.into tie true y c.callee-number.result args) c.args.self.now c.call_on_consumed.new.self x)
    (λ x. Invokes (code_of u) (call k c.args.into c.args.called.now) c.args.self.now c.call_on_consumed.new.self x)
    (λ x h.
    subst (λ b. Invokes (code_of u) (Invoke c.args.into (call_tie k c.args.called.now.on b args) b y (method_place u (ty_at k c.args.called.now.on) c.args.called.now.«method».name) args) c.args.self.now c.call_on_consumed.new.self x) (sym c.if-called.true)
    (subst (λ m. Invokes (code_of u) (Invoke c.args.into (call_tie k c.args.called.now.on true args) true y m args) c.args.self.now c.call_on_consumed.new.self x) c.callee-number.ensures
    (h (call_tie k c.args.called.now.on true args))))
    c.call_on_consumed.ensures.callee

pub returns-else-called-clause-callee : goal.returns-else-called-clause-callee
returns-else-called-clause-callee c =
    let u = c.args.unit.now in
    let k = setting_at u c.args.self.now.«method» in
    let y = var_at k c.args.called.now.on in
    let args = map (argument k) c.args.called.now.args in
    IfOk-weaker c.call_on_kept.result
    (λ x. (tie : Tie) → Invokes (code_of u) (Invoke c.args.into tie false y c.callee-number.result args) c.args.self.now c.call_on_kept.new.self x)
    (λ x. Invokes (code_of u) (call k c.args.into c.args.called.now) c.args.self.now c.call_on_kept.new.self x)
    (λ x h.
    subst (λ b. Invokes (code_of u) (Invoke c.args.into (call_tie k c.args.called.now.on b args) b y (method_place u (ty_at k c.args.called.now.on) c.args.called.now.«method».name) args) c.args.self.now c.call_on_kept.new.self x) (sym c.if-called.false)
    (subst (λ m. Invokes (code_of u) (Invoke c.args.into (call_tie k c.args.called.now.on false args) false y m args) c.args.self.now c.call_on_kept.new.self x) c.callee-number.ensures
    (h (call_tie k c.args.called.now.on false args))))
    c.call_on_kept.ensures.callee
