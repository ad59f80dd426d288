-- A program with the tables of its methods.
use Rattle.std.specs.Prelude.{List}
use Rattle.perm_tree.specs.Places.{Listing}
use Rattle.perm_tree.specs.declared.unit.MethodTable.{MethodTable}

-- a unit as contracts see it
pub record Tables : Type 0 where
  pub program : Listing
  pub tables : List MethodTable
