use Rattle.std.proofs.Common.{[], drop, sym, subst, arith}
use Rattle.perm_tree.specs.declared.bodies.Expression.{Expression}
use Rattle.perm_tree.specs.BodyTerms.{expression_term, IsExpressionIn}
use Rattle.perm_meaning.specs.Expressions.{eval}
use Rattle.perm_meaning.specs.Words.{words}
use Rattle.perm_step.specs.Evaluation.{IsAnswer}
use Rattle.perm_step.proofs.values.evaluate.Goals as goal

pub returns-in-Operand : goal.returns-in-Operand
returns-in-Operand c =
    subst
    (λ (e : Expression). IsAnswer (eval words (expression_term c.args.operations.now e) (drop c.args.base c.args.vars.now)) c.operand.result)
    (sym c.in-Operand.is)
    (c.operand.ensures [] (subst (IsExpressionIn c.args.operations.now) c.in-Operand.is c.requires.there) (λ k below. absurd (omega (arith, below))) (λ k is. absurd (omega (arith, is))))

pub returns-in-Operation : goal.returns-in-Operation
returns-in-Operation c =
    subst
    (λ (e : Expression). IsAnswer (eval words (expression_term c.args.operations.now e) (drop c.args.base c.args.vars.now)) c.operation.result)
    (sym c.in-Operation.is)
    (c.operation.ensures [] (subst (IsExpressionIn c.args.operations.now) c.in-Operation.is c.requires.there) (λ k below. absurd (omega (arith, below))) (λ k is. absurd (omega (arith, is))))
