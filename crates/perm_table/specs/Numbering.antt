-- What names are numbered with.
use Rattle.std.specs.Prelude.{◌≡◌, ℕ, ◌+◌, nat_eq, List, [], ◌∷◌, length, Option, Some, None}
use Rattle.std.specs.List.{position}
use Rattle.perm_tree.specs.declared.ast.ClassDecl.{ClassDecl}
use Rattle.perm_tree.specs.declared.ast.Shape.TheVariants.{Class}
use Rattle.perm_tree.specs.declared.ast.Ty.{Ty}
use Rattle.perm_tree.specs.declared.ast.Ty.TheVariants.{Ref}
use Rattle.perm_tree.specs.declared.unit.VarInfo.{VarInfo}
use Rattle.perm_tree.specs.CodeNames.{Setting, setting}
use Rattle.perm_tree.specs.Lookup.{class_place}
use Rattle.perm_tree.specs.Places.{Listing}
use Rattle.perm_tree.specs.UnitTables.{Tables}
use Rattle.perm_table.specs.Numbers.{number_in}
use Rattle.perm_table.specs.declared.numbering.names.UnitNumbers.{UnitNumbers}

-- what names mean something in: a unit, and the variables of one of its methods
pub record Naming : Type 0 where
  pub tables : Tables
  pub vars : List VarInfo

-- the setting of the method
abbrev pub setting_of : Naming → Setting
setting_of n = setting n.tables n.vars

-- the number of the first method of each class, where so many methods stand before
abbrev pub firsts_from : ℕ → List ClassDecl → List ℕ
firsts_from before [] = []
firsts_from before (c ∷ cs) = before ∷ firsts_from (before + length c.methods) cs

-- the numbers are those of the classes of a program and of their first methods
pub record AreNumbersOf (p : Listing) (n : UnitNumbers) : Type 0 where
  pub classes : (name : ℕ) → number_in n.classes name ≡ class_place p name
  pub firsts : n.firsts.items ≡ firsts_from 0 p.classes

-- the class that a type refers to
abbrev pub class_in : Option Ty → Option ℕ
class_in (Some (Ref q (Class k))) = Some k
class_in _ = None

-- how many fields a class has that is there
abbrev pub field_count : Option ClassDecl → ℕ
field_count None = 0
field_count (Some c) = length c.fields

-- the number that is so far behind a first one
abbrev pub number_behind : ℕ → ℕ → Option ℕ → ℕ
number_behind first count None = count
number_behind first count (Some at) = first + at

-- the number of the method of a name in a class whose first method has a number; of so many methods of a unit
abbrev pub method_number : ℕ → ℕ → Option ClassDecl → ℕ → ℕ
method_number first count None name = count
method_number first count (Some c) name = number_behind first count (position (λ d. nat_eq d.name.name name) c.methods)
