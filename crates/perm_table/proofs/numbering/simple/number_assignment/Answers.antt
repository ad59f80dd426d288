use Rattle.std.proofs.Common.{sym, subst}
use Rattle.std.specs.Prelude.{IfOk}
use Rattle.perm_tree.specs.declared.ast.Rhs.{Rhs}
use Rattle.perm_tree.specs.CodeOf.{code_of}
use Rattle.perm_table.specs.Numbered.{assigns, TellsCode}
use Rattle.perm_table.specs.Numbering.{setting_of}
use Rattle.perm_table.proofs.numbering.simple.number_assignment.Goals as goal

pub returns-in-Value : goal.returns-in-Value
returns-in-Value c =
    subst (λ (r : Rhs). IfOk c.assign.result (TellsCode c.args.bodies.now c.assign.new.bodies (code_of c.args.names.now.tables) (assigns (setting_of c.args.names.now) c.args.x r))) (sym c.in-Value.is) c.assign.ensures

pub returns-in-Field : goal.returns-in-Field
returns-in-Field c =
    subst (λ (r : Rhs). IfOk c.load.result (TellsCode c.args.bodies.now c.args.bodies.now (code_of c.args.names.now.tables) (assigns (setting_of c.args.names.now) c.args.x r))) (sym c.in-Field.is) (c.load.ensures c.args.bodies.now)

pub returns-in-TakeField : goal.returns-in-TakeField
returns-in-TakeField c =
    subst (λ (r : Rhs). IfOk c.take_field.result (TellsCode c.args.bodies.now c.args.bodies.now (code_of c.args.names.now.tables) (assigns (setting_of c.args.names.now) c.args.x r))) (sym c.in-TakeField.is) (c.take_field.ensures c.args.bodies.now)

pub returns-in-Item : goal.returns-in-Item
returns-in-Item c =
    subst (λ (r : Rhs). IfOk c.load_item.result (TellsCode c.args.bodies.now c.load_item.new.bodies (code_of c.args.names.now.tables) (assigns (setting_of c.args.names.now) c.args.x r))) (sym c.in-Item.is) c.load_item.ensures

pub returns-in-New : goal.returns-in-New
returns-in-New c =
    subst (λ (r : Rhs). IfOk c.new_object.result (TellsCode c.args.bodies.now c.args.bodies.now (code_of c.args.names.now.tables) (assigns (setting_of c.args.names.now) c.args.x r))) (sym c.in-New.is) (c.new_object.ensures c.args.bodies.now)

pub returns-in-NewArray : goal.returns-in-NewArray
returns-in-NewArray c =
    subst (λ (r : Rhs). IfOk c.new_array.result (TellsCode c.args.bodies.now c.new_array.new.bodies (code_of c.args.names.now.tables) (assigns (setting_of c.args.names.now) c.args.x r))) (sym c.in-NewArray.is) c.new_array.ensures

pub returns-in-Call : goal.returns-in-Call
returns-in-Call c =
    subst (λ (r : Rhs). IfOk c.number_call.result (TellsCode c.args.bodies.now c.number_call.new.bodies (code_of c.args.names.now.tables) (assigns (setting_of c.args.names.now) c.args.x r))) (sym c.in-Call.is) c.number_call.ensures
