use Rattle.std.proofs.Common.{◌∙◌, refl, sym, subst}
use Rattle.perm_tree.specs.UnitTables.{Tables}
use Rattle.perm_table.specs.Emission.{MainHas}
use Rattle.perm_table.proofs.Emission.Methods.{all-bodies}
use Rattle.perm_table.proofs.numbering.bodies_of.Goals as goal

pub returns : goal.returns
returns c =
    let u : Tables = record { program = c.args.program.now; tables = c.args.tables.now } in
    all-bodies u c.in_ok-bodies.bodies (record c.in_ok-bodies.bodies { run = c.in_ok-bodies-2.field-0; fields = c.in_ok-bodies-3.field-0 }) c.in_ok-bodies-2.field-0 c.in_ok-bodies-3.field-0 c.requires c.in_ok-bodies.ensures
    (c.in_ok-bodies-2.ensures ∙ c.run_place.ensures) (subst (MainHas c.args.program.now) (sym c.in_ok-bodies-3.ensures) c.main_fields.ensures) refl
