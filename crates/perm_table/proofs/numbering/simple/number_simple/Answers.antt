use Rattle.std.proofs.Common.{ℕ, sym, subst}
use Rattle.std.specs.Prelude.{IfOk}
use Rattle.perm_tree.specs.declared.ast.StmtKind.{StmtKind}
use Rattle.perm_tree.specs.CodeOf.{code_of}
use Rattle.perm_table.specs.Numbered.{assigns, states, TellsCode}
use Rattle.perm_table.specs.Numbering.{setting_of}
use Rattle.perm_table.proofs.numbering.simple.number_simple.Goals as goal

pub returns-in_ok-x-in-Assign : goal.returns-in_ok-x-in-Assign
returns-in_ok-x-in-Assign c =
    let k = setting_of c.args.names.now in
    let u = code_of c.args.names.now.tables in
    subst (λ (s : StmtKind). IfOk c.number_assignment.result (TellsCode c.args.bodies.now c.number_assignment.new.bodies u (states k s))) (sym c.in-Assign.is)
    (subst (λ (x : ℕ). IfOk c.number_assignment.result (TellsCode c.args.bodies.now c.number_assignment.new.bodies u (assigns k x c.in-Assign.rhs))) c.in_ok-x-in-Assign.ensures c.number_assignment.ensures)

pub returns-in-Declare : goal.returns-in-Declare
returns-in-Declare c =
    subst (λ (s : StmtKind). IfOk c.declare.result (TellsCode c.args.bodies.now c.args.bodies.now (code_of c.args.names.now.tables) (states (setting_of c.args.names.now) s))) (sym c.in-Declare.is) (c.declare.ensures c.args.bodies.now)

pub returns-in-SetField : goal.returns-in-SetField
returns-in-SetField c =
    subst (λ (s : StmtKind). IfOk c.store_field.result (TellsCode c.args.bodies.now c.store_field.new.bodies (code_of c.args.names.now.tables) (states (setting_of c.args.names.now) s))) (sym c.in-SetField.is) c.store_field.ensures

pub returns-in-SetItem : goal.returns-in-SetItem
returns-in-SetItem c =
    subst (λ (s : StmtKind). IfOk c.store_item.result (TellsCode c.args.bodies.now c.store_item.new.bodies (code_of c.args.names.now.tables) (states (setting_of c.args.names.now) s))) (sym c.in-SetItem.is) c.store_item.ensures

pub returns-in-Call : goal.returns-in-Call
returns-in-Call c =
    subst (λ (s : StmtKind). IfOk c.number_call.result (TellsCode c.args.bodies.now c.number_call.new.bodies (code_of c.args.names.now.tables) (states (setting_of c.args.names.now) s))) (sym c.in-Call.is) c.number_call.ensures

pub returns-in-Print : goal.returns-in-Print
returns-in-Print c =
    subst (λ (s : StmtKind). IfOk c.print.result (TellsCode c.args.bodies.now c.print.new.bodies (code_of c.args.names.now.tables) (states (setting_of c.args.names.now) s))) (sym c.in-Print.is) c.print.ensures
