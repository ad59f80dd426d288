use Rattle.std.proofs.Common.{◌≡◌, ◌∙◌, ◌+◌, List, [], ◌∷◌, ◌++◌, Some, drop, get_or, sym, ap, subst}
use Rattle.std.specs.Prelude.{map}
use Rattle.std.proofs.lemmas.List.{map-append}
use Rattle.perm_tree.specs.declared.ast.Arg.{Arg}
use Rattle.perm_tree.specs.declared.ast.Arg.TheVariants.{Expr as Plain}
use Rattle.perm_tree.specs.Code as code
use Rattle.perm_tree.specs.CodeNames.{argument}
use Rattle.perm_tree.specs.InBody.{setting_at}
use Rattle.perm_meaning.specs.declared.eval.own.Own.{Own}
use Rattle.perm_meaning.specs.Effects.{on_arguments}
use Rattle.perm_meaning.specs.Expressions.{tagged, value_of}
use Rattle.perm_meaning.specs.NamedHeap.{Held}
use Rattle.perm_meaning.specs.Evaluator.NumberedValues.{all_by, given_by, held_by}
use Rattle.perm_meaning.specs.Evaluator.SimpleStatements.{after_argument}
use Rattle.perm_meaning.proofs.Evaluator.Asks.{made-next, made-none, next-value, next-halts, next-sticks}
use Rattle.perm_meaning.proofs.eval.own.Own.arguments.Goals as goal

pub returns-in-Trap-clause-passed : goal.returns-in-Trap-clause-passed
returns-in-Trap-clause-passed c names go =
    let u = c.args.unit.now in
    let f = argument (setting_at u c.args.self.now.«method») in
    let i = c.args-2.arg-index in
    let x : Arg = get_or c.args.args.now i (Plain 0) in
    let vs = all_by names c.args-2.self.vars in
    let value : given_by names c.in_ok-value.field-0 ≡ value_of tagged (f x) vs =
    subst (λ m. given_by names c.in_ok-value.field-0 ≡ value_of tagged (argument (setting_at u m) x) vs) (ap (λ (o : Own). o.«method») c.args-2.invariant.0) (c.in_ok-value.ensures.value names) in
    c.args-2.invariant.1 names go
    ∙ next-halts (map f (drop i c.args.args.now)) (f x) (map f (drop (i + 1) c.args.args.now)) (made-next f c.args.args.now i (Plain 0) c.args-2-test.true) (all_by names c.args-2.found) vs go c.in-Trap.kind
    (sym value ∙ ap (given_by names) c.in-Trap.is)

pub returns-in-Nothing-clause-passed : goal.returns-in-Nothing-clause-passed
returns-in-Nothing-clause-passed c names go =
    let u = c.args.unit.now in
    let f = argument (setting_at u c.args.self.now.«method») in
    let i = c.args-2.arg-index in
    let x : Arg = get_or c.args.args.now i (Plain 0) in
    let vs = all_by names c.args-2.self.vars in
    let value : given_by names c.in_ok-value.field-0 ≡ value_of tagged (f x) vs =
    subst (λ m. given_by names c.in_ok-value.field-0 ≡ value_of tagged (argument (setting_at u m) x) vs) (ap (λ (o : Own). o.«method») c.args-2.invariant.0) (c.in_ok-value.ensures.value names) in
    c.args-2.invariant.1 names go
    ∙ next-sticks (map f (drop i c.args.args.now)) (f x) (map f (drop (i + 1) c.args.args.now)) (made-next f c.args.args.now i (Plain 0) c.args-2-test.true) (all_by names c.args-2.found) vs go
    (sym value ∙ ap (given_by names) c.in-Nothing.is)

pub args-2-preserved : goal.args-2-preserved
args-2-preserved c = (
  c.argument.ensures.same ∙ ap (λ (o : Own). record o { vars = c.argument.new.self.vars }) c.args-2.invariant.0,
  λ names go.
      let u = c.args.unit.now in
      let f = argument (setting_at u c.args.self.now.«method») in
      let i = c.args-2.arg-index in
      let x : Arg = get_or c.args.args.now i (Plain 0) in
      let vs = all_by names c.args-2.self.vars in
      let ws = all_by names c.argument.new.self.vars in
      let value : given_by names c.in_ok-value.field-0 ≡ value_of tagged (f x) vs =
      subst (λ m. given_by names c.in_ok-value.field-0 ≡ value_of tagged (argument (setting_at u m) x) vs) (ap (λ (o : Own). o.«method») c.args-2.invariant.0) (c.in_ok-value.ensures.value names) in
      let vars : ws ≡ after_argument (f x) vs =
      subst (λ m. ws ≡ after_argument (argument (setting_at u m) x) vs) (ap (λ (o : Own). o.«method») c.args-2.invariant.0) (c.argument.ensures.vars names) in
      let found : all_by names c.push.new.self ≡ all_by names c.args-2.found ++ held_by names (Some c.in-Value.value) ∷ [] =
      ap (all_by names) c.in_ok-push-in-Value.ensures.ok ∙ map-append (held_by names) c.args-2.found (Some c.in-Value.value ∷ []) in
      c.args-2.invariant.1 names go
      ∙ next-value (map f (drop i c.args.args.now)) (f x) (map f (drop (i + 1) c.args.args.now)) (made-next f c.args.args.now i (Plain 0) c.args-2-test.true) (all_by names c.args-2.found) vs go
      (held_by names (Some c.in-Value.value)) ws (sym value ∙ ap (given_by names) c.in-Value.is) vars
      ∙ ap (λ (fs : List Held). on_arguments tagged (map f (drop (i + 1) c.args.args.now)) fs ws go) (sym found),
)

pub returns-clause-passed : goal.returns-clause-passed
returns-clause-passed c names go =
    let f = argument (setting_at c.args.unit.now c.args.self.now.«method») in
    c.args-2.invariant.1 names go
    ∙ ap (λ (bs : List code.Argument). on_arguments tagged bs (all_by names c.args-2.found) (all_by names c.args-2.self.vars) go) (made-none f c.args.args.now c.args-2.arg-index c.args-2-test.false)
