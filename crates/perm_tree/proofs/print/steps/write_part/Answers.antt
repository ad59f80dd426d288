use Rattle.std.proofs.Common.{rules, ◌≡◌, ◌++◌, sym, subst}
use Rattle.std.specs.Fmt.{signed_decimal}
use Rattle.std.specs.Prelude.{OnOk, pos}
use Rattle.perm_tree.specs.declared.ast.Expr.TheVariants.{Number as Numeral}
use Rattle.perm_tree.specs.declared.print.part.Part.TheVariants as piece
use Rattle.perm_tree.specs.declared.ast.Stmt.{Stmt}
use Rattle.perm_tree.specs.Printer.PendingParts.{IsPart, Steps}
use Rattle.perm_tree.specs.Printer.Parts.{onto, stmt_tasks}
use Rattle.perm_tree.proofs.Printer.Steps.{expr-steps, leaf, operands_below, stmt-steps}
use Rattle.perm_tree.proofs.print.steps.write_part.Goals as goal

pub returns-in-Word : goal.returns-in-Word
returns-in-Word c =
    let more = rw c.bytes.ensures at c.write.ensures in
    leaf c.write.result c.args.program.now c.args.part (piece.Word c.in-Word.word) c.args.text.now.items c.write.new.text.items c.args.stack.now.items c.in-Word.is more

pub returns-in-Indent : goal.returns-in-Indent
returns-in-Indent c =
    let more = c.write_indent.ensures in
    leaf c.write_indent.result c.args.program.now c.args.part (piece.Indent c.in-Indent.depth) c.args.text.now.items c.write_indent.new.text.items c.args.stack.now.items c.in-Indent.is more

pub returns-in-Name : goal.returns-in-Name
returns-in-Name c =
    let more = rw c.names-names.ensures at c.write_name.ensures in
    leaf c.write_name.result c.args.program.now c.args.part (piece.Name c.in-Name.name) c.args.text.now.items c.write_name.new.text.items c.args.stack.now.items c.in-Name.is more

pub returns-in-Perm : goal.returns-in-Perm
returns-in-Perm c =
    let more = rw c.perm_bytes.ensures at c.write-in-Perm.ensures in
    leaf c.write-in-Perm.result c.args.program.now c.args.part (piece.Perm c.in-Perm.perm) c.args.text.now.items c.write-in-Perm.new.text.items c.args.stack.now.items c.in-Perm.is more

pub returns-in-Declared : goal.returns-in-Declared
returns-in-Declared c =
    let more = rw c.names-names.ensures at c.write_declared.ensures in
    leaf c.write_declared.result c.args.program.now c.args.part (piece.Declared c.in-Declared.ty c.in-Declared.name) c.args.text.now.items c.write_declared.new.text.items c.args.stack.now.items c.in-Declared.is more

pub returns-in-Target : goal.returns-in-Target
returns-in-Target c =
    let more = rw c.names-names.ensures at c.write_target.ensures in
    leaf c.write_target.result c.args.program.now c.args.part (piece.Target c.in-Target.ty c.in-Target.name) c.args.text.now.items c.write_target.new.text.items c.args.stack.now.items c.in-Target.is more

pub returns-in-Receiver : goal.returns-in-Receiver
returns-in-Receiver c =
    let more = rw c.names-names.ensures at c.write_receiver.ensures in
    leaf c.write_receiver.result c.args.program.now c.args.part (piece.Receiver c.in-Receiver.consumed c.in-Receiver.name) c.args.text.now.items c.write_receiver.new.text.items c.args.stack.now.items c.in-Receiver.is more

pub returns-in-Number : goal.returns-in-Number
returns-in-Number c =
    let more : OnOk c.write_number.result (c.write_number.new.text.items ≡ c.args.text.now.items ++ signed_decimal c.in-Number.number) = search rules in
    leaf c.write_number.result c.args.program.now c.args.part (piece.Number c.in-Number.number) c.args.text.now.items c.write_number.new.text.items c.args.stack.now.items c.in-Number.is more

pub returns-in-Sign : goal.returns-in-Sign
returns-in-Sign c =
    let more = rw c.sign_bytes.ensures at c.write-in-Sign.ensures in
    leaf c.write-in-Sign.result c.args.program.now c.args.part (piece.Sign c.in-Sign.op) c.args.text.now.items c.write-in-Sign.new.text.items c.args.stack.now.items c.in-Sign.is more

pub returns-in-Operator : goal.returns-in-Operator
returns-in-Operator c =
    let more = rw c.operator_bytes.ensures at c.write-in-Operator.ensures in
    leaf c.write-in-Operator.result c.args.program.now c.args.part (piece.Operator c.in-Operator.op) c.args.text.now.items c.write-in-Operator.new.text.items c.args.stack.now.items c.in-Operator.is more

pub returns-in-Arg : goal.returns-in-Arg
returns-in-Arg c =
    subst (λ x. OnOk c.write_arg.result (Steps c.args.program.now x c.args.text.now.items c.write_arg.new.text.items c.args.stack.now.items c.write_arg.new.stack.items))
    (sym c.in-Arg.is) c.write_arg.ensures

pub write_arg-requires : goal.write_arg-requires
write_arg-requires c = subst (IsPart c.args.program.now) c.in-Arg.is c.requires

pub push_expr-requires : goal.push_expr-requires
push_expr-requires c =
    operands_below c.args.program.now c.exprs-exprs.result.now c.in-Expr.at (Numeral (pos 0)) c.exprs-exprs.ensures.placed c.exprs-exprs.ensures.value (subst (IsPart c.args.program.now) c.in-Expr.is c.requires)

pub returns-in-Expr : goal.returns-in-Expr
returns-in-Expr c =
    expr-steps c.push_expr.result c.args.program.now c.args.part c.exprs-exprs.result.now c.in-Expr.at (Numeral (pos 0)) c.args.text.now.items c.args.stack.now.items c.push_expr.new.stack.items
    c.exprs-exprs.ensures.placed c.in-Expr.is c.requires c.exprs-exprs.ensures.value c.push_expr.ensures

pub returns-in-Stmt : goal.returns-in-Stmt
returns-in-Stmt c =
    stmt-steps c.push_stmt.result c.args.program.now c.args.part c.stmts.result.now c.in-Stmt.at c.in-Stmt.depth c.index-stmts-at.result c.args.text.now.items c.args.stack.now.items c.push_stmt.new.stack.items
    c.stmts.ensures.placed c.in-Stmt.is c.requires c.stmts.ensures.value c.index-stmts-at.is
    (subst (λ (s : Stmt). OnOk c.push_stmt.result (c.push_stmt.new.stack.items ≡ onto c.args.stack.now.items (stmt_tasks c.in-Stmt.depth s.kind))) (sym c.index-stmts-at.is) c.push_stmt.ensures)
