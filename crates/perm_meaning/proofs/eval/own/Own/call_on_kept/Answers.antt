use Rattle.std.proofs.Common.{◌≡◌, ℕ, false, List, [], refl, sym, ap, subst}
use Rattle.std.specs.Prelude.{map}
use Rattle.std.proofs.lemmas.Result.{IfOk-weaker}
use Rattle.perm_tree.specs.declared.ast.Arg.{Arg}
use Rattle.perm_tree.specs.Code.{Invoke, Tie}
use Rattle.perm_tree.specs.CodeNames.{argument, var_at}
use Rattle.perm_tree.specs.CodeOf.{code_of}
use Rattle.perm_tree.specs.InBody.{setting_at}
use Rattle.perm_meaning.specs.declared.eval.own.Own.{Own}
use Rattle.perm_meaning.specs.Evaluator.Asks.{Way}
use Rattle.perm_meaning.specs.Evaluator.BegunCalls.{begun_if, IsCallOf}
use Rattle.perm_meaning.specs.Effects.{on_arguments}
use Rattle.perm_meaning.specs.Expressions.{look_up, tagged}
use Rattle.perm_meaning.specs.Evaluator.CallStatements.{Invokes}
use Rattle.perm_meaning.specs.NamedHeap as heaps
use Rattle.perm_meaning.specs.NamedHeap.{Held}
use Rattle.perm_meaning.specs.Evaluator.NumberedValues.{all_by, given_by, Names}
use Rattle.perm_meaning.specs.Evaluator.SimpleStatements.{own_by}
use Rattle.perm_meaning.specs.Evaluator.ToldAnswers.{passed_by}
use Rattle.perm_meaning.proofs.Evaluator.CallStatements.{calls-kept}
use Rattle.perm_meaning.proofs.eval.own.Own.call_on_kept.Goals as goal

pub returns-clause-callee : goal.returns-clause-callee
returns-clause-callee c =
    let u = c.args.unit.now in
    let k = setting_at u c.args.self.now.«method» in
    let new : Own = c.arguments.new.self in
    let y = var_at k c.args.called.now.on in
    let args = map (argument k) c.args.called.now.args in
    let this = c.held-this.result in
    let p = c.in_ok-passed.passed in
    IfOk-weaker c.begin_if.result
    (λ x. (names : Names) (l : heaps.Own) (tie : Tie) (y : ℕ) → l.depth ≡ new.depth → IsCallOf names (code_of u) l x (begun_if (code_of u) names tie y c.args.number c.args.into (given_by names this) p l))
    (λ x. (tie : Tie) → Invokes (code_of u) (Invoke c.args.into tie false y c.args.number args) c.args.self.now new x)
    (λ x h tie names mark.
    let passes : (go : List Held → List Held → Way) → on_arguments tagged args [] (all_by names c.args.self.now.vars) go ≡ passed_by names new.vars p go =
    λ go. subst (λ (bs : List Arg). on_arguments tagged (map (argument k) bs) [] (all_by names c.args.self.now.vars) go ≡ passed_by names new.vars p go) c.as_slice.ensures (c.in_ok-passed.ensures.passed names go) in
    let held : given_by names this ≡ look_up tagged (all_by names new.vars) y =
    subst (λ m. given_by names this ≡ look_up tagged (all_by names new.vars) (var_at (setting_at u m) c.args.called.now.on)) (ap (λ (o : Own). o.«method») c.arguments.ensures.same) (c.held-this.ensures names) in
    subst (λ (w : Way). IsCallOf names (code_of u) (own_by names mark new) x w)
    (sym (calls-kept (code_of u) tie y c.args.number c.args.into names mark c.args.self.now new args c.arguments.ensures.same (given_by names this) p passes held))
    (h names (own_by names mark new) tie y refl))
    c.begin_if.ensures
