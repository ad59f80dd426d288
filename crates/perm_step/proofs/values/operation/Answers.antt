use Rattle.std.proofs.Common.{ℕ, List, drop, refl, sym, subst}
use Rattle.perm_tree.specs.declared.bodies.Operation.{Operation}
use Rattle.perm_tree.specs.BodyTerms.{operand_term, operation_term, IsOperationBelow}
use Rattle.perm_meaning.specs.Expressions.{eval}
use Rattle.perm_meaning.specs.Values.{Eval}
use Rattle.perm_meaning.specs.Words.{words}
use Rattle.perm_step.specs.declared.values.Value.TheVariants.{Trap, Word}
use Rattle.perm_step.specs.Evaluation.{IsAnswer}
use Rattle.perm_step.proofs.Expressions.Answering.{left_decides, left_traps, one, right_counts}
use Rattle.perm_step.proofs.values.operation.Goals as goal

pub returns-in-Unary : goal.returns-in-Unary
returns-in-Unary c terms below known last =
    let vs : List ℕ = drop c.args.base c.args.vars.now in
    let each = subst (IsOperationBelow c.args.count) c.in-Unary.is below in
    subst
    (λ (o : Operation). IsAnswer (eval words (operation_term terms o) vs) c.unary.result)
    (sym c.in-Unary.is)
    (one c.in-Unary.op (eval words (operand_term terms c.in-Unary.a) vs) c.operand.result c.unary.result (c.operand.ensures terms each known last) c.unary.ensures)

pub returns-in-Trap : goal.returns-in-Trap
returns-in-Trap c terms below known last =
    let vs : List ℕ = drop c.args.base c.args.vars.now in
    let left : Eval ℕ = eval words (operand_term terms c.in-Binary.a) vs in
    let right : Eval ℕ = eval words (operand_term terms c.in-Binary.b) vs in
    let each = subst (IsOperationBelow c.args.count) c.in-Binary.is below in
    subst
    (λ (o : Operation). IsAnswer (eval words (operation_term terms o) vs) (Trap c.in-Trap.kind))
    (sym c.in-Binary.is)
    (left_traps c.in-Binary.op left right c.in-Trap.kind (c.in-Trap.ensures terms each.0 known last))

pub returns-then-decides : goal.returns-then-decides
returns-then-decides c terms below known last =
    let vs : List ℕ = drop c.args.base c.args.vars.now in
    let left : Eval ℕ = eval words (operand_term terms c.in-Binary.a) vs in
    let right : Eval ℕ = eval words (operand_term terms c.in-Binary.b) vs in
    let each = subst (IsOperationBelow c.args.count) c.in-Binary.is below in
    subst
    (λ (o : Operation). IsAnswer (eval words (operation_term terms o) vs) (Word c.in-Word.left))
    (sym c.in-Binary.is)
    (left_decides c.in-Binary.op left right c.in-Word.left (c.in-Word.ensures terms each.0 known last) c.if-decides.ensures)

pub returns-in-Word-operand : goal.returns-in-Word-operand
returns-in-Word-operand c terms below known last =
    let vs : List ℕ = drop c.args.base c.args.vars.now in
    let left : Eval ℕ = eval words (operand_term terms c.in-Binary.a) vs in
    let right : Eval ℕ = eval words (operand_term terms c.in-Binary.b) vs in
    let each = subst (IsOperationBelow c.args.count) c.in-Binary.is below in
    subst
    (λ (o : Operation). IsAnswer (eval words (operation_term terms o) vs) c.operate.result)
    (sym c.in-Binary.is)
    (right_counts c.in-Binary.op left right c.in-Word.left (Word c.in-Word-operand.right) c.operate.result (c.in-Word.ensures terms each.0 known last) (c.in-Word-operand.ensures terms each.1 known last) c.if-decides.ensures c.operate.ensures)

pub returns-in-Trap-operand : goal.returns-in-Trap-operand
returns-in-Trap-operand c terms below known last =
    let vs : List ℕ = drop c.args.base c.args.vars.now in
    let left : Eval ℕ = eval words (operand_term terms c.in-Binary.a) vs in
    let right : Eval ℕ = eval words (operand_term terms c.in-Binary.b) vs in
    let each = subst (IsOperationBelow c.args.count) c.in-Binary.is below in
    subst
    (λ (o : Operation). IsAnswer (eval words (operation_term terms o) vs) (Trap c.in-Trap-operand.kind))
    (sym c.in-Binary.is)
    (right_counts c.in-Binary.op left right c.in-Word.left (Trap c.in-Trap-operand.kind) (Trap c.in-Trap-operand.kind) (c.in-Word.ensures terms each.0 known last) (c.in-Trap-operand.ensures terms each.1 known last) c.if-decides.ensures refl)
