use Rattle.std.proofs.Common.{◌≡◌, ◌∙◌, ℕ, true, List, [], Some, refl, sym, ap, subst}
use Rattle.std.specs.Prelude.{map}
use Rattle.std.proofs.lemmas.Result.{IfOk-weaker}
use Rattle.perm_tree.specs.declared.ast.Arg.{Arg}
use Rattle.perm_tree.specs.Code.{Invoke, Tie}
use Rattle.perm_tree.specs.CodeNames.{argument, var_at}
use Rattle.perm_tree.specs.CodeOf.{code_of}
use Rattle.perm_tree.specs.InBody.{setting_at}
use Rattle.perm_meaning.specs.declared.eval.own.Own.{Own}
use Rattle.perm_meaning.specs.declared.eval.values.Given.{Given}
use Rattle.perm_meaning.specs.Evaluator.Asks.{Way}
use Rattle.perm_meaning.specs.Evaluator.BegunCalls.{begun_if, IsCallOf}
use Rattle.perm_meaning.specs.Effects.{on_arguments}
use Rattle.perm_meaning.specs.Expressions.{clear, tagged}
use Rattle.perm_meaning.specs.Evaluator.CallStatements.{Invokes}
use Rattle.perm_meaning.specs.NamedHeap as heaps
use Rattle.perm_meaning.specs.NamedHeap.{Held}
use Rattle.perm_meaning.specs.Evaluator.NumberedValues.{all_by, given_by, value_by, Names}
use Rattle.perm_meaning.specs.Evaluator.SimpleStatements.{own_by}
use Rattle.perm_meaning.specs.Evaluator.ToldAnswers.{passed_by}
use Rattle.perm_meaning.proofs.Evaluator.CallStatements.{calls-consumed, receiver-halts, receiver-sticks}
use Rattle.perm_meaning.proofs.eval.own.Own.call_on_consumed.Goals as goal

pub returns-in_ok-passed-in-Value-clause-callee : goal.returns-in_ok-passed-in-Value-clause-callee
returns-in_ok-passed-in-Value-clause-callee c =
    let u = c.args.unit.now in
    let k = setting_at u c.args.self.now.«method» in
    let old : Own = c.args.self.now in
    let mid : Own = c.lose.new.self in
    let new : Own = c.arguments.new.self in
    let y = var_at k c.args.called.now.on in
    let args = map (argument k) c.args.called.now.args in
    let this = c.held-this.result in
    let v = c.in-Value.field-0 in
    let p = c.in_ok-passed-in-Value.passed in
    IfOk-weaker c.begin_if.result
    (λ x. (names : Names) (l : heaps.Own) (tie : Tie) (y : ℕ) → l.depth ≡ new.depth → IsCallOf names (code_of u) l x (begun_if (code_of u) names tie y c.args.number c.args.into (given_by names this) p l))
    (λ x. (tie : Tie) → Invokes (code_of u) (Invoke c.args.into tie true y c.args.number args) old new x)
    (λ x h tie names mark.
    let same : new ≡ record old { vars = new.vars } = c.arguments.ensures.same ∙ ap (λ (o : Own). record o { vars = new.vars }) c.lose.ensures.same in
    let cleared : all_by names mid.vars ≡ clear tagged (all_by names old.vars) y = c.lose.ensures.vars names ∙ ap (clear tagged (all_by names old.vars)) c.variable-y.ensures in
    let passes : (go : List Held → List Held → Way) → on_arguments tagged args [] (clear tagged (all_by names old.vars) y) go ≡ passed_by names new.vars p go =
    λ go. subst (λ (vs : List Held). on_arguments tagged args [] vs go ≡ passed_by names new.vars p go) cleared
    (subst (λ (bs : List Arg). on_arguments tagged (map (argument k) bs) [] (all_by names mid.vars) go ≡ passed_by names new.vars p go) c.as_slice.ensures
    (subst (λ m. on_arguments tagged (map (argument (setting_at u m)) c.as_slice.result.now) [] (all_by names mid.vars) go ≡ passed_by names new.vars p go) (ap (λ (o : Own). o.«method») c.lose.ensures.same) (c.in_ok-passed-in-Value.ensures.passed names go))) in
    subst (λ (w : Way). IsCallOf names (code_of u) (own_by names mark new) x w)
    (sym (calls-consumed (code_of u) tie y c.args.number c.args.into names mark old new args same (Some (value_by names v)) p (ap (given_by names) (sym c.in-Value.is) ∙ c.held-this.ensures names) passes))
    (subst (λ (g : Given). IsCallOf names (code_of u) (own_by names mark new) x (begun_if (code_of u) names tie y c.args.number c.args.into (given_by names g) p (own_by names mark new))) c.in-Value.is
    (h names (own_by names mark new) tie y refl)))
    c.begin_if.ensures

pub returns-in-Trap-clause-callee : goal.returns-in-Trap-clause-callee
returns-in-Trap-clause-callee c tie names mark =
    let k = setting_at c.args.unit.now c.args.self.now.«method» in
    receiver-halts (code_of c.args.unit.now) tie (var_at k c.args.called.now.on) c.args.number c.args.into (map (argument k) c.args.called.now.args) (own_by names mark c.args.self.now) c.in-Trap.kind
    (ap (given_by names) (sym c.in-Trap.is) ∙ c.held-this.ensures names)

pub returns-in-Nothing-clause-callee : goal.returns-in-Nothing-clause-callee
returns-in-Nothing-clause-callee c tie names mark =
    let k = setting_at c.args.unit.now c.args.self.now.«method» in
    receiver-sticks (code_of c.args.unit.now) tie (var_at k c.args.called.now.on) c.args.number c.args.into (map (argument k) c.args.called.now.args) (own_by names mark c.args.self.now)
    (ap (given_by names) (sym c.in-Nothing.is) ∙ c.held-this.ensures names)
