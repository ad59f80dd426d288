use Rattle.perm_step.proofs.WholeRuns.Opening.{made-opened}
use Rattle.perm_step.proofs.alone.open.Goals as goal

pub returns-clause-opened : goal.returns-clause-opened
returns-clause-opened c =
    made-opened c.args.bodies.now c.args.input.now c.args.turns c.in_ok-array.array c.in_ok-root.root c.args.heap.now c.answer.new.self c.write_numbers.new.self c.answer-2.new.self c.in_ok-enter.field-0
    (record { fresh = c.requires.fresh; making = c.in_ok-array.ensures.answers; writing = c.write_numbers.ensures; rooting = c.in_ok-root.ensures.answers }) c.in_ok-enter.ensures
