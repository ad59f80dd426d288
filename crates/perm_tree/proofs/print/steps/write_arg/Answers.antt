use Rattle.std.proofs.Common.{refl}
use Rattle.std.specs.Prelude.{codes}
use Rattle.perm_tree.proofs.Printer.Steps.{arg-steps, consumed-steps}
use Rattle.perm_tree.proofs.print.steps.write_arg.Goals as goal

pub returns-in-Expr : goal.returns-in-Expr
returns-in-Expr c = arg-steps c.push.result c.args.program.now c.args.arg c.in-Expr.at c.args.text.now.items c.args.stack.now.items c.push.new.stack.items c.in-Expr.is c.requires c.push.ensures

pub returns-in_ok-write-in-Consume : goal.returns-in_ok-write-in-Consume
returns-in_ok-write-in-Consume c =
    let more = rw c.names.ensures at c.write_name.ensures in
    consumed-steps c.write_name.result c.args.program.now c.args.arg c.in-Consume.name c.args.text.now.items c.write.new.text.items c.write_name.new.text.items (codes "consume ") c.args.stack.now.items
    c.in-Consume.is refl c.in_ok-write-in-Consume.ensures more
