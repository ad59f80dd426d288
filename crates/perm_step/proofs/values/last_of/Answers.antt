use Rattle.std.proofs.Common.{◌≡◌, drop, arith, get_or, length, pos}
use Rattle.std.proofs.lemmas.Option.{slice_get-get_or}
use Rattle.perm_tree.specs.declared.ast.UnaryOp.TheVariants.{Minus}
use Rattle.perm_tree.specs.declared.bodies.Operand.TheVariants.{Number}
use Rattle.perm_tree.specs.declared.bodies.Operation.{Operation}
use Rattle.perm_tree.specs.declared.bodies.Operation.TheVariants.{Unary}
use Rattle.perm_step.proofs.Expressions.Operations.{last-answer, last-more, ordered-at, values-more}
use Rattle.perm_step.proofs.values.last_of.Goals as goal

pub operation-last-requires : goal.operation-last-requires
operation-last-requires c = ordered-at c.args.run.now c.loop-at.at _ (Unary Minus (Number (pos 0))) c.requires.ordered c.loop-at-test.true (omega (arith, c.requires.room))

pub loop-at-init : goal.loop-at-init
loop-at-init c = (λ k below. absurd (omega (arith, below)), λ k is. absurd (omega (arith, is)))

pub loop-at-preserved : goal.loop-at-preserved
loop-at-preserved c =
    let run = c.args.run.now in
    let o : Operation = get_or run c.loop-at.at (Unary Minus (Number (pos 0))) in (
      values-more (drop c.args.base c.args.vars.now) run c.loop-at.at c.loop-at.values o c.operation-last.result
          (slice_get-get_or run c.loop-at.at (Unary Minus (Number (pos 0))) c.loop-at-test.true) c.requires.ordered (omega (arith, c.requires.room)) c.loop-at.invariant.0
          (λ terms below known. c.operation-last.ensures terms below known c.loop-at.invariant.1),
      last-more c.loop-at.at c.loop-at.values c.operation-last.result (omega (arith, c.requires.room)),
    )

pub returns : goal.returns
returns c =
    let all : c.loop-at.at ≡ length c.args.run.now = omega arith in
    last-answer (drop c.args.base c.args.vars.now) c.args.run.now c.loop-at.at c.loop-at.last c.loop-at.values c.requires.some all c.loop-at.invariant.0 c.loop-at.invariant.1
