use Rattle.std.proofs.Common.{◌<◌, ◌≤◌, arith}
use Rattle.perm_tree.specs.declared.bodies.Operation.TheVariants.{Unary, Binary}
use Rattle.perm_tree.specs.BodyTerms.{operand_term, operation_terms}
use Rattle.perm_rules.specs.MethodBodies.{context_of}
use Rattle.perm_flow.proofs.OperationTerms.{leads, leads-below, leads-down, place_of}
use Rattle.perm_flow.proofs.Questions.{binary-step, passed-step, unary-step}
use Rattle.perm_flow.proofs.terms.+operand_answer.Goals as goal

pub unary_answer-found-requires-clause-below : goal.unary_answer-found-requires-clause-below
unary_answer-found-requires-clause-below t c =
    let run = c.args.run.now in
    leads-below run c.loop-left.left (Unary c.in-Unary.op c.in-Unary.a) (leads run c.loop-left.left c.in-Earlier.i (Unary c.in-Unary.op c.in-Unary.a) c.requires.ordered c.loop-left.invariant.below c.in-Earlier.is c.in-Unary.is)

pub loop-left-smaller-in-Unary : goal.loop-left-smaller-in-Unary
loop-left-smaller-in-Unary t c =
    let run = c.args.run.now in
    let down = leads run c.loop-left.left c.in-Earlier.i (Unary c.in-Unary.op c.in-Unary.a) c.requires.ordered c.loop-left.invariant.below c.in-Earlier.is c.in-Unary.is in
    leads-down run c.loop-left.left (Unary c.in-Unary.op c.in-Unary.a) c.in-Unary.a down down.below

pub loop-left-preserved-in-Unary : goal.loop-left-preserved-in-Unary
loop-left-preserved-in-Unary t c =
    let run = c.args.run.now in
    let terms = operation_terms run in
    let down = leads run c.loop-left.left c.in-Earlier.i (Unary c.in-Unary.op c.in-Unary.a) c.requires.ordered c.loop-left.invariant.below c.in-Earlier.is c.in-Unary.is in
    let less : place_of c.in-Unary.a < place_of c.loop-left.left = leads-down run c.loop-left.left (Unary c.in-Unary.op c.in-Unary.a) c.in-Unary.a down down.below in
    let within : place_of c.loop-left.left ≤ place_of c.args.operand = c.loop-left.invariant.within in
    record {
      below = leads-below run c.loop-left.left (Unary c.in-Unary.op c.in-Unary.a) down;
      within = omega (arith, less, within);
      kept = unary-step (context_of c.args.body.now) c.args.question c.in-Unary.op (operand_term terms c.loop-left.left) (operand_term terms c.in-Unary.a) c.loop-left.found c.unary_answer-found.result _ down.term c.loop-left.invariant.kept c.unary_answer-found.ensures;
    }

pub is_passed_over-requires-clause-left : goal.is_passed_over-requires-clause-left
is_passed_over-requires-clause-left t c =
    let run = c.args.run.now in
    let o = Binary c.in-Binary.op c.in-Binary.a c.in-Binary.b in
    (leads-below run c.loop-left.left o (leads run c.loop-left.left c.in-Earlier.i o c.requires.ordered c.loop-left.invariant.below c.in-Earlier.is c.in-Binary.is)).0

pub is_passed_over-requires-clause-right : goal.is_passed_over-requires-clause-right
is_passed_over-requires-clause-right t c =
    let run = c.args.run.now in
    let o = Binary c.in-Binary.op c.in-Binary.a c.in-Binary.b in
    (leads-below run c.loop-left.left o (leads run c.loop-left.left c.in-Earlier.i o c.requires.ordered c.loop-left.invariant.below c.in-Earlier.is c.in-Binary.is)).1

pub returns-then-is_passed_over : goal.returns-then-is_passed_over
returns-then-is_passed_over t c =
    let run = c.args.run.now in
    let terms = operation_terms run in
    let down = leads run c.loop-left.left c.in-Earlier.i (Binary c.in-Binary.op c.in-Binary.a c.in-Binary.b) c.requires.ordered c.loop-left.invariant.below c.in-Earlier.is c.in-Binary.is in
    passed-step (context_of c.args.body.now) c.args.question c.in-Binary.op (operand_term terms c.loop-left.left) (operand_term terms c.in-Binary.a) (operand_term terms c.in-Binary.b) c.loop-left.found c.is_passed_over.result _
    down.term c.loop-left.invariant.kept c.is_passed_over.ensures c.if-is_passed_over.true

pub binary_answer-found-requires-clause-left : goal.binary_answer-found-requires-clause-left
binary_answer-found-requires-clause-left t c =
    let run = c.args.run.now in
    let o = Binary c.in-Binary.op c.in-Binary.a c.in-Binary.b in
    (leads-below run c.loop-left.left o (leads run c.loop-left.left c.in-Earlier.i o c.requires.ordered c.loop-left.invariant.below c.in-Earlier.is c.in-Binary.is)).0

pub binary_answer-found-requires-clause-right : goal.binary_answer-found-requires-clause-right
binary_answer-found-requires-clause-right t c =
    let run = c.args.run.now in
    let o = Binary c.in-Binary.op c.in-Binary.a c.in-Binary.b in
    (leads-below run c.loop-left.left o (leads run c.loop-left.left c.in-Earlier.i o c.requires.ordered c.loop-left.invariant.below c.in-Earlier.is c.in-Binary.is)).1

pub operand_answer-found-requires : goal.operand_answer-found-requires
operand_answer-found-requires t c =
    let run = c.args.run.now in
    let o = Binary c.in-Binary.op c.in-Binary.a c.in-Binary.b in
    let down = leads run c.loop-left.left c.in-Earlier.i o c.requires.ordered c.loop-left.invariant.below c.in-Earlier.is c.in-Binary.is in
    let less : place_of c.in-Binary.b < place_of c.loop-left.left = leads-down run c.loop-left.left o c.in-Binary.b down down.below.1 in
    let within : place_of c.loop-left.left ≤ place_of c.args.operand = c.loop-left.invariant.within in
    (omega (arith, less, within), (c.requires.ordered, (leads-below run c.loop-left.left o down).1))

pub loop-left-smaller : goal.loop-left-smaller
loop-left-smaller t c =
    let run = c.args.run.now in
    let o = Binary c.in-Binary.op c.in-Binary.a c.in-Binary.b in
    let down = leads run c.loop-left.left c.in-Earlier.i o c.requires.ordered c.loop-left.invariant.below c.in-Earlier.is c.in-Binary.is in
    leads-down run c.loop-left.left o c.in-Binary.a down down.below.0

pub loop-left-preserved : goal.loop-left-preserved
loop-left-preserved t c =
    let run = c.args.run.now in
    let terms = operation_terms run in
    let o = Binary c.in-Binary.op c.in-Binary.a c.in-Binary.b in
    let down = leads run c.loop-left.left c.in-Earlier.i o c.requires.ordered c.loop-left.invariant.below c.in-Earlier.is c.in-Binary.is in
    let less : place_of c.in-Binary.a < place_of c.loop-left.left = leads-down run c.loop-left.left o c.in-Binary.a down down.below.0 in
    let within : place_of c.loop-left.left ≤ place_of c.args.operand = c.loop-left.invariant.within in
    record {
      below = (leads-below run c.loop-left.left o down).0;
      within = omega (arith, less, within);
      kept = binary-step (context_of c.args.body.now) c.args.question c.in-Binary.op (operand_term terms c.loop-left.left) (operand_term terms c.in-Binary.a) (operand_term terms c.in-Binary.b)
          c.loop-left.found c.is_passed_over.result c.binary_answer-found.result c.operand_answer-found.result _ down.term c.loop-left.invariant.kept
          c.is_passed_over.ensures c.if-is_passed_over.false c.binary_answer-found.ensures c.operand_answer-found.ensures;
    }
