-- The numbers of classes, as a map has them by the numbers of their names.
use Rattle.std.specs.Prelude.{ℕ, suc, Bool, Option, Some, None, nat_eq, nat_lt, List, [], ◌∷◌, unwrap_or, if◌then◌else◌}
use Rattle.indexmap.specs.IndexMap.{get}
use Rattle.perm_tree.specs.declared.ast.ClassDecl.{ClassDecl}
use Rattle.perm_table.specs.declared.numbers.ClassNumbers.{ClassNumbers}

-- the number that a map has for a name
abbrev pub number_in : ClassNumbers → ℕ → ℕ
number_in n name = unwrap_or (get nat_eq n.places name) n.count

-- some class has the name
abbrev pub knows_in : ClassNumbers → ℕ → Bool
knows_in n name = nat_lt (number_in n name) n.count

-- the place of the first class with a name, where the first of the list has the number at
abbrev pub place_from : ℕ → List ClassDecl → ℕ → Option ℕ
place_from at [] name = None
place_from at (c ∷ cs) name = if nat_eq c.name.name name then Some at else place_from (suc at) cs name
