-- From names to numbers. What isn't there has the number past the last.
use Rattle.std.specs.Prelude.{ℕ, Bool, true, false, ◌&&◌, nat_eq, nat_lt, nat_le, List, length, Option, Some, None, slice_get}
use Rattle.std.specs.List.{position_or_len}
use Rattle.perm_tree.specs.declared.ast.Ident.{Ident}
use Rattle.perm_tree.specs.declared.ast.Shape.TheVariants.{Class, Array}
use Rattle.perm_tree.specs.declared.ast.Ty.{Ty}
use Rattle.perm_tree.specs.declared.ast.Ty.TheVariants.{Ref}
use Rattle.perm_tree.specs.declared.ast.Method.{Method}
use Rattle.perm_tree.specs.declared.ast.ClassDecl.{ClassDecl}
use Rattle.perm_tree.specs.declared.unit.VarInfo.{VarInfo}
use Rattle.perm_tree.specs.declared.unit.MethodTable.{MethodTable}
use Rattle.perm_tree.specs.Places.{Listing}
use Rattle.perm_tree.specs.Spelling.{main_word, run_word, is_word}
use Rattle.perm_tree.specs.UnitTables.{Tables}

-- ---------- variables ----------
-- the variable has this name, and the name stands in its scope
abbrev pub is_known_as : Ident → VarInfo → Bool
is_known_as i v = nat_eq v.name i.name && (nat_le v.scope.start i.span.start && nat_lt i.span.start v.scope.end)

-- the number of the variable of a name where it stands
abbrev pub var_place : List VarInfo → Ident → ℕ
var_place vars i = position_or_len (is_known_as i) vars

-- the type of a variable that is there
abbrev pub ty_if : Option VarInfo → Option Ty
ty_if None = None
ty_if (Some v) = Some v.ty

-- the declared type of the variable with number x
abbrev pub var_ty : List VarInfo → ℕ → Option Ty
var_ty vars x = ty_if (slice_get vars x)

-- ---------- classes and fields ----------
-- the class with this name
abbrev pub class_place : Listing → ℕ → ℕ
class_place p name = position_or_len (λ c. nat_eq c.name.name name) p.classes

-- the field of this name in a class
abbrev pub field_in : Option ClassDecl → ℕ → ℕ
field_in None name = 0
field_in (Some c) name = position_or_len (λ f. nat_eq f.name.name name) c.fields

-- the field of this name in the class of a type
abbrev pub field_place : Listing → Option Ty → ℕ → ℕ
field_place p (Some (Ref q (Class k))) name = field_in (slice_get p.classes k) name
field_place p _ name = 0

-- the type is that of an array
abbrev pub is_array : Option Ty → Bool
is_array (Some (Ref q Array)) = true
is_array _ = false

-- ---------- methods ----------
-- the method with number m of a class
abbrev pub method_in : Option ClassDecl → ℕ → Option Method
method_in None m = None
method_in (Some c) m = slice_get c.methods m

-- the method of a table
abbrev pub method_of : Listing → MethodTable → Option Method
method_of p t = method_in (slice_get p.classes t.class) t.«method»

-- the name of a method passes a test
abbrev pub is_method_if : (ℕ → Bool) → Option Method → Bool
is_method_if test None = false
is_method_if test (Some d) = test d.name.name

-- the table is that of a method of the class k whose name passes a test
abbrev pub is_method_of : Listing → ℕ → (ℕ → Bool) → MethodTable → Bool
is_method_of p k test t = nat_eq t.class k && is_method_if test (method_of p t)

-- the method of this name in the class of a type, by its number in the unit
abbrev pub method_place : Tables → Option Ty → ℕ → ℕ
method_place u (Some (Ref q (Class k))) name = position_or_len (is_method_of u.program k (λ n. nat_eq n name)) u.tables
method_place u _ name = length u.tables

-- ---------- the start of a run ----------
-- the name of a class is this word
abbrev pub is_class_word : Listing → List ℕ → ClassDecl → Bool
is_class_word p word c = is_word p.names word c.name.name

-- the class `Main`
abbrev pub main_place : Listing → ℕ
main_place p = position_or_len (is_class_word p main_word) p.classes

-- its method `Run`
abbrev pub run_place : Tables → ℕ
run_place u = position_or_len (is_method_of u.program (main_place u.program) (is_word u.program.names run_word)) u.tables
