use Rattle.std.proofs.Common.{◌∙◌, subst, sym}
use Rattle.perm_tree.specs.Resolves.{Resolves}
use Rattle.perm_tree.proofs.ResolvedTypes.{Resolves-resolved}
use Rattle.perm_table.proofs.Renaming.{resolves}
use Rattle.perm_table.proofs.resolve.Goals as goal

pub unit_of-requires : goal.unit_of-requires
unit_of-requires c =
    let p = c.args.program in
    let named = c.in_ok-program in
    let found = named.field-0 in
    Resolves-resolved p (record { program = found.program; tables = found.tables }) named.ensures.formed (resolves p found.program found.tables named.ensures.program named.ensures.tables (sym named.ensures.refusal ∙ c.in-None.is))

pub returns-in_ok-unit_of-in-None : goal.returns-in_ok-unit_of-in-None
returns-in_ok-unit_of-in-None c =
    let p = c.args.program in
    let named = c.in_ok-program in
    let found = named.field-0 in
    record {
      resolved = subst (Resolves p) (sym c.in_ok-unit_of-in-None.ensures) (resolves p found.program found.tables named.ensures.program named.ensures.tables (sym named.ensures.refusal ∙ c.in-None.is));
      refused = tt;
    }
