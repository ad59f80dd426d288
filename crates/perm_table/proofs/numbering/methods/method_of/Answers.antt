use Rattle.perm_table.proofs.Emission.Methods.{method-found}
use Rattle.perm_table.proofs.numbering.methods.method_of.Goals as goal

pub returns : goal.returns
returns c =
    let found = method-found c.args.program.now c.args.table.now c.classes.result.now c.index-classes-table.result c.as_slice.result.now c.index-as_slice-table.result
    c.requires c.classes.ensures.placed c.classes.ensures.value c.index-classes-table.is c.as_slice.ensures c.index-as_slice-table.is in
    record { found = found.0; placed = found.1 }
