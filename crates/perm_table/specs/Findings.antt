-- Refusals at names, met from the last to the first.
use Rattle.std.specs.Prelude.{ℕ, Bool, not, nat_eq, nat_le, List, [], ◌∷◌, ◌++◌, map, filter, flat_map, Option, Some, None, if◌then◌else◌}
use Rattle.perm_tree.specs.declared.ast.Ident.{Ident}
use Rattle.perm_tree.specs.declared.ast.Rhs.{Rhs}
use Rattle.perm_tree.specs.declared.ast.Rhs.TheVariants.{New}
use Rattle.perm_tree.specs.declared.errors.Limit.TheVariants.{Classes}
use Rattle.perm_tree.specs.declared.errors.TableError.TheVariants.{UnknownClass}
use Rattle.perm_tree.specs.declared.unit.MethodTable.{MethodTable}
use Rattle.perm_tree.specs.Names.{Complaint, class_names, double_at, doubles, earlier, in_class, in_method, later, passing}
use Rattle.perm_tree.specs.Places.{Listing}
use Rattle.perm_table.specs.declared.refusals.Finding.{Finding}

-- what is found as a complaint
abbrev pub told : Finding → Complaint
told f = record { at = f.at; rank = f.rank; what = f.what }

-- the same where something is found
abbrev pub told_if : Option Finding → Option Complaint
told_if None = None
told_if (Some f) = Some (told f)

-- the first of some complaints and of those behind them
abbrev pub first_before : List Complaint → Option Complaint → Option Complaint
first_before [] rest = rest
first_before (c ∷ cs) rest = Some (earlier c (first_before cs rest))

-- what is refused of a name and those behind it that equal it
abbrev pub doubles_of : Ident → List Ident → List Complaint
doubles_of i is = map (λ j. double_at (later i j)) (filter (λ j. nat_eq i.name j.name) is)

-- of a name and another one the one that comes first in the text
abbrev pub sooner : Ident → Option Ident → Ident
sooner i None = i
sooner i (Some j) = if nat_le i.span.start j.span.start then i else j

-- of the names with a number the one that comes first in the text
abbrev pub first_named : ℕ → List Ident → Option Ident
first_named n [] = None
first_named n (i ∷ is) = if nat_eq i.name n then Some (sooner i (first_named n is)) else first_named n is

-- what is refused of a name and another one that equals it
abbrev pub double_with : Ident → Option Ident → List Complaint
double_with i None = []
double_with i (Some j) = double_at (later i j) ∷ []

-- the name behind `new` on a right side
abbrev pub made_by : Rhs → List Ident
made_by (New c) = c ∷ []
made_by _ = []

-- names that are not known as those of classes
abbrev pub unknowns_by : (ℕ → Bool) → List Ident → List Complaint
unknowns_by known is = map (λ i. record { at = i.span; rank = 2; what = UnknownClass i.span }) (filter (λ i. not (known i.name)) is)

-- all that is refused at a name but for unknown classes, by the tables of the methods
abbrev pub findings : Listing → List MethodTable → List Complaint
findings p tables =
    doubles (class_names p)
    ++ (passing Classes (class_names p)
    ++ (flat_map in_class p.classes
    ++ flat_map in_method tables))
