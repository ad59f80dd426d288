use Rattle.std.proofs.Common.{List, ℕ, ap, ◌∙◌, drop, subst}
use Rattle.std.proofs.lemmas.Result.{IfOk-weaker, IfErr-weaker}
use Rattle.perm_tree.specs.BodyTerms.{expression_term}
use Rattle.perm_meaning.specs.Expressions.{eval}
use Rattle.perm_meaning.specs.Words.{words}
use Rattle.perm_step.specs.Evaluation.{IsAnswer}
use Rattle.perm_step.specs.Working.{locals}
use Rattle.perm_step.proofs.Expressions.GivenWords.{word-given, trap-given}
use Rattle.perm_step.proofs.control.Control.value.Goals as goal

pub returns-clause-given : goal.returns-clause-given
returns-clause-given c =
    let e = expression_term c.args.operations.now c.args.e.now in
    let answer = subst (λ (vs : List ℕ). IsAnswer (eval words e vs) c.evaluate.result) (ap (drop c.self.inside.base) c.as_slice-vars.ensures.value ∙ ap locals c.self.view_is) c.evaluate.ensures in
    IfOk-weaker c.word.result _ _ (λ w is. word-given (eval words e (locals c.args.self.now)) c.evaluate.result w is answer) c.word.ensures.word

pub returns-clause-halted : goal.returns-clause-halted
returns-clause-halted c =
    let e = expression_term c.args.operations.now c.args.e.now in
    let answer = subst (λ (vs : List ℕ). IsAnswer (eval words e vs) c.evaluate.result) (ap (drop c.self.inside.base) c.as_slice-vars.ensures.value ∙ ap locals c.self.view_is) c.evaluate.ensures in
    IfErr-weaker c.word.result _ _ (λ k is. trap-given (eval words e (locals c.args.self.now)) c.evaluate.result k is answer) c.word.ensures.trap
