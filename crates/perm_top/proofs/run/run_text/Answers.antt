use Rattle.std.proofs.Common.{Result, IfOk, subst}
use Rattle.std.proofs.lemmas.Result.{IfOk-weaker}
use Rattle.perm_tree.specs.UnitTables.{Tables}
use Rattle.perm_tree.specs.declared.errors.CheckFault.{CheckFault}
use Rattle.perm_check.specs.Checks.{IsAcceptedOf}
use Rattle.perm_answer.specs.Answers.{IsTold}
use Rattle.perm_top.specs.Programs.{IsAnswerTo, IsRunOf}
use Rattle.perm_top.proofs.RunAnswers.{run_answers, run_is_told}
use Rattle.perm_top.proofs.run.run_text.Goals as goal

pub returns-in-Ok-clause-answer : goal.returns-in-Ok-clause-answer
returns-in-Ok-clause-answer c =
    let accepted = subst (λ (r : Result Tables CheckFault). IfOk r (IsAcceptedOf c.args.text.now)) c.in-Ok.is c.check_text.ensures.accepted in
    IfOk-weaker c.run_unit.result (IsRunOf c.args.text.now c.in-Ok.checked) (IsAnswerTo c.args.text.now)
    (λ answer run. run_answers c.args.text.now c.in-Ok.checked answer accepted run) c.run_unit.ensures.ran

pub returns-in-Ok-clause-told : goal.returns-in-Ok-clause-told
returns-in-Ok-clause-told c = IfOk-weaker c.run_unit.result (IsRunOf c.args.text.now c.in-Ok.checked) IsTold (run_is_told c.args.text.now c.in-Ok.checked) c.run_unit.ensures.ran
