use Rattle.std.proofs.Common.{Some, refl, sym, subst}
use Rattle.perm_tree.specs.declared.ast.Rhs.{Rhs}
use Rattle.perm_tree.specs.Code.{TakeField}
use Rattle.perm_tree.specs.CodeNames.{var_at}
use Rattle.perm_tree.specs.CodeOf.{code_of}
use Rattle.perm_tree.specs.InBody.{setting_at}
use Rattle.perm_meaning.specs.Evaluator.SimpleStatements.{assignment_to, Asks, MayAsk}
use Rattle.perm_meaning.proofs.eval.own.Own.assignment.Goals as goal

pub returns-in-Field-clause-asks : goal.returns-in-Field-clause-asks
returns-in-Field-clause-asks c =
    subst (λ (r : Rhs). MayAsk (code_of c.args.unit.now) (assignment_to (setting_at c.args.unit.now c.args.self.now.«method») c.args.x r) c.args.self.now c.args.self.now (Some c.read.result)) (sym c.in-Field.is)
    (c.read.result, refl, c.read.ensures)

pub returns-in-TakeField-clause-asks : goal.returns-in-TakeField-clause-asks
returns-in-TakeField-clause-asks c =
    let k = setting_at c.args.unit.now c.args.self.now.«method» in
    subst (λ (r : Rhs). MayAsk (code_of c.args.unit.now) (assignment_to k c.args.x r) c.args.self.now c.args.self.now (Some c.take_field.result)) (sym c.in-TakeField.is)
    (c.take_field.result, refl, subst (λ f. Asks (code_of c.args.unit.now) (TakeField c.args.x (var_at k c.in-TakeField.y) f) c.args.self.now c.args.self.now c.take_field.result) c.field-f.ensures c.take_field.ensures)

pub returns-in_ok-load_item-in-Item-clause-asks : goal.returns-in_ok-load_item-in-Item-clause-asks
returns-in_ok-load_item-in-Item-clause-asks c =
    subst (λ (r : Rhs). MayAsk (code_of c.args.unit.now) (assignment_to (setting_at c.args.unit.now c.args.self.now.«method») c.args.x r) c.args.self.now c.args.self.now (Some c.in_ok-load_item-in-Item.field-0)) (sym c.in-Item.is)
    (c.in_ok-load_item-in-Item.field-0, refl, c.in_ok-load_item-in-Item.ensures)

pub returns-in-New-clause-asks : goal.returns-in-New-clause-asks
returns-in-New-clause-asks c =
    subst (λ (r : Rhs). MayAsk (code_of c.args.unit.now) (assignment_to (setting_at c.args.unit.now c.args.self.now.«method») c.args.x r) c.args.self.now c.args.self.now (Some c.new_object.result)) (sym c.in-New.is)
    (c.new_object.result, refl, c.new_object.ensures c.args.self.now)
