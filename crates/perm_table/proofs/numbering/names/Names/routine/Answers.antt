use Rattle.std.proofs.Common.{◌≡◌, ◌∙◌, sym, ap, subst}
use Rattle.std.specs.Prelude.{IfOk, Some}
use Rattle.std.proofs.lemmas.Result.{IfOk-weaker}
use Rattle.perm_tree.specs.CodeNames.{ty_at}
use Rattle.perm_tree.specs.Lookup.{method_place, var_place, var_ty}
use Rattle.perm_tree.specs.UnitTables.{Tables}
use Rattle.perm_table.specs.Numbering.{class_in, setting_of, Naming}
use Rattle.perm_table.proofs.NumberingRoutines.{method_place-is}
use Rattle.perm_table.proofs.numbering.names.Names.routine.Goals as goal

pub returns-in-Some : goal.returns-in-Some
returns-in-Some c =
    let s = c.self.inside in
    let u : Tables = record { program = s.program.now; tables = s.tables.now } in
    let ty = var_ty s.vars.now (var_place s.vars.now c.args.y) in
    let class : class_in ty ≡ Some c.in-Some.class = ap class_in (sym c.ty_among.ensures) ∙ sym c.class_of.ensures ∙ c.in-Some.is in
    let found = c.method_of.ensures ∙ method_place-is u ty c.in-Some.class c.args.method.name c.self.invariant.0 class in
    subst (λ (n : Naming). IfOk c.number.result (λ m. m ≡ method_place n.tables (ty_at (setting_of n) c.args.y) c.args.method.name)) c.self.view_is
    (IfOk-weaker c.number.result (λ m. m ≡ c.method_of.result) (λ m. m ≡ method_place u ty c.args.method.name) (λ m e. e ∙ found) c.number.ensures)
