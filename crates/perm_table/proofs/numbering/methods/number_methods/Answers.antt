use Rattle.std.proofs.Common.{◌≡◌, ◌∙◌, ◌+◌, suc, List, length, ap, sym, subst, arith}
use Rattle.std.specs.Prelude.{Some, slice_get}
use Rattle.std.proofs.lemmas.List.{length-replicate}
use Rattle.std.proofs.lemmas.Option.{slice_get-get_or}
use Rattle.perm_tree.specs.declared.ast.Stmt.{Stmt}
use Rattle.perm_tree.specs.declared.bodies.Bodies.{Bodies}
use Rattle.perm_tree.specs.declared.unit.MethodTable.{MethodTable}
use Rattle.perm_tree.specs.CodeNames.{Setting, setting}
use Rattle.perm_tree.specs.UnitTables.{Tables}
use Rattle.perm_table.specs.Emission.{AreEmitted, IsMethodEmitted}
use Rattle.perm_table.specs.Numbering.{setting_of, Naming}
use Rattle.perm_table.proofs.Emission.Methods.{none-emitted, more-emitted, has-method, routine-there}
use Rattle.perm_table.proofs.numbering.methods.number_methods.Goals as goal

pub tables-init : goal.tables-init
tables-init c =
    let u : Tables = record { program = c.args.program.now; tables = c.args.tables.now } in
    let b = c.in_ok-bodies.bodies in
    let is = c.in_ok-bodies.ensures in
    none-emitted u b (ap (λ (b : Bodies). b.steps) is) (ap (λ (b : Bodies). b.entries) is) (ap (λ (b : Bodies). length b.places) is ∙ length-replicate (length c.stmts.result.now) 0 ∙ ap (λ (l : List Stmt). length l) c.stmts.ensures.value)

pub method_of-method-requires : goal.method_of-method-requires
method_of-method-requires c =
    let u : Tables = record { program = c.args.program.now; tables = c.args.tables.now } in
    let t : MethodTable = c.table-item.result in
    let here : slice_get u.tables c.tables.table-index ≡ Some t = slice_get-get_or u.tables c.tables.table-index t c.tables-test.true ∙ ap (λ (x : MethodTable). Some x) (sym c.table-item.is) in
    has-method u c.tables.table-index t c.requires here

pub tables-preserved : goal.tables-preserved
tables-preserved c =
    let u : Tables = record { program = c.args.program.now; tables = c.args.tables.now } in
    let at = c.tables.table-index in
    let t : MethodTable = c.table-item.result in
    let here : slice_get u.tables at ≡ Some t = slice_get-get_or u.tables at t c.tables-test.true ∙ ap (λ (x : MethodTable). Some x) (sym c.table-item.is) in
    let next : suc at ≡ at + 1 = omega arith in
    let k : setting_of c.new-names.result ≡ setting u t.vars = ap setting_of c.new-names.ensures ∙ ap (setting u) c.as_slice-vars.ensures in
    let one = subst (λ (k : Setting). IsMethodEmitted k c.tables.bodies c.number_method.new.bodies c.method_of-method.result.now) k c.in_ok-number_method.ensures in
    subst (λ n. AreEmitted u n c.number_method.new.bodies) next
    (more-emitted u at c.tables.bodies c.number_method.new.bodies t c.method_of-method.result.now c.requires here c.method_of-method.ensures.found (routine-there u at t c.method_of-method.result.now c.requires here c.method_of-method.ensures.found) c.tables.invariant one)

pub number_method-requires-clause-places : goal.number_method-requires-clause-places
number_method-requires-clause-places c = c.tables.invariant.places ∙ ap (λ (n : Naming). length n.tables.program.stmts) (sym c.new-names.ensures)
