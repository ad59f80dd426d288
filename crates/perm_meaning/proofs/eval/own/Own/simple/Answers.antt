use Rattle.std.proofs.Common.{Some, refl, sym, subst}
use Rattle.std.specs.Prelude.{IfOk}
use Rattle.perm_tree.specs.declared.ast.StmtKind.{StmtKind}
use Rattle.perm_tree.specs.Code.{Declare, StoreField}
use Rattle.perm_tree.specs.CodeNames.{var_at, argument}
use Rattle.perm_tree.specs.CodeOf.{code_of}
use Rattle.perm_tree.specs.InBody.{setting_at}
use Rattle.perm_meaning.specs.Evaluator.SimpleStatements.{assignment_to, simple_of, Asks, MayAsk}
use Rattle.perm_meaning.proofs.eval.own.Own.simple.Goals as goal

pub returns-in-Declare-clause-asks : goal.returns-in-Declare-clause-asks
returns-in-Declare-clause-asks c =
    let k = setting_at c.args.unit.now c.args.self.now.«method» in
    subst (λ (s : StmtKind). MayAsk (code_of c.args.unit.now) (simple_of k s) c.args.self.now c.args.self.now (Some c.declare.result)) (sym c.in-Declare.is)
    (c.declare.result, refl, subst (λ x. Asks (code_of c.args.unit.now) (Declare x) c.args.self.now c.args.self.now c.declare.result) c.variable-x.ensures c.declare.ensures)

pub returns-in-Assign-clause-asks : goal.returns-in-Assign-clause-asks
returns-in-Assign-clause-asks c =
    let k = setting_at c.args.unit.now c.args.self.now.«method» in
    subst (λ (s : StmtKind). IfOk c.assignment.result (λ q. MayAsk (code_of c.args.unit.now) (simple_of k s) c.args.self.now c.assignment.new.self q)) (sym c.in-Assign.is)
    (subst (λ x. IfOk c.assignment.result (λ q. MayAsk (code_of c.args.unit.now) (assignment_to k x c.in-Assign.r) c.args.self.now c.assignment.new.self q)) c.variable-x-in-Assign.ensures c.assignment.ensures.asks)

pub returns-in_ok-store_field-in-SetField-clause-asks : goal.returns-in_ok-store_field-in-SetField-clause-asks
returns-in_ok-store_field-in-SetField-clause-asks c =
    let k = setting_at c.args.unit.now c.args.self.now.«method» in
    let q = c.in_ok-store_field-in-SetField.field-0 in
    subst (λ (s : StmtKind). MayAsk (code_of c.args.unit.now) (simple_of k s) c.args.self.now c.store_field.new.self (Some q)) (sym c.in-SetField.is)
    (q, refl, subst (λ f. Asks (code_of c.args.unit.now) (StoreField (var_at k c.in-SetField.y) f (argument k c.in-SetField.a)) c.args.self.now c.store_field.new.self q) c.field-f.ensures c.in_ok-store_field-in-SetField.ensures.asks)

pub returns-in_ok-store_item-in-SetItem-clause-asks : goal.returns-in_ok-store_item-in-SetItem-clause-asks
returns-in_ok-store_item-in-SetItem-clause-asks c =
    let q = c.in_ok-store_item-in-SetItem.field-0 in
    subst (λ (s : StmtKind). MayAsk (code_of c.args.unit.now) (simple_of (setting_at c.args.unit.now c.args.self.now.«method») s) c.args.self.now c.args.self.now (Some q)) (sym c.in-SetItem.is)
    (q, refl, c.in_ok-store_item-in-SetItem.ensures)
