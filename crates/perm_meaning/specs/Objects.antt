-- Objects, and heaps as maps from references to objects.
use Rattle.std.specs.Prelude.{ℕ, max, Bool, true, false, ℤ, pos, List, [], length, map, replicate, slice_get, slice_set, Option, Some, None}
use Rattle.perm_tree.specs.declared.ast.Shape.{Shape}
use Rattle.perm_tree.specs.declared.ast.Shape.TheVariants.{Class, Array}
use Rattle.perm_tree.specs.declared.ast.Ty.{Ty}
use Rattle.perm_tree.specs.declared.ast.Ty.TheVariants.{Long, Bool as Boolean, Ref}
use Rattle.perm_tree.specs.Code.{UnitCode}
use Rattle.perm_meaning.specs.Values.{Value, Number, Truth, Null}

-- the values of an object are those of its fields, or the elements of an array
pub record Object (R : Type 0) : Type 0 where
  pub shape : Shape
  pub values : List (Value R)

-- the words of an object with n values
abbrev pub size : ℕ → ℕ
size n = max 1 n

-- the words of an object
abbrev pub object_size : {R : Type 0} → Object R → ℕ
object_size o = size (length o.values)

-- ---------- new objects ----------
-- what a field of a type starts as
abbrev pub zero_of : {R : Type 0} → Ty → Value R
zero_of Long = Number (pos 0)
zero_of Boolean = Truth false
zero_of (Ref p k) = Null

-- the types of a class that is there
abbrev pub types_or_none : Option (List Ty) → List Ty
types_or_none None = []
types_or_none (Some ts) = ts

-- the types of the fields of a class
abbrev pub field_types : UnitCode → ℕ → List Ty
field_types u k = types_or_none (slice_get u.classes k)

-- the values that a new object starts with; n is the length of an array
abbrev pub first_values : {R : Type 0} → UnitCode → Shape → ℕ → List (Value R)
first_values u Array n = replicate n (Number (pos 0))
first_values u (Class k) n = map zero_of (field_types u k)

-- a new object
abbrev pub new_object : {R : Type 0} → UnitCode → Shape → ℕ → Object R
new_object u shape n = record { shape = shape; values = first_values u shape n }

-- the length that a reference to a new object bears
abbrev pub length_of : Shape → ℕ → ℕ
length_of Array n = n
length_of (Class k) n = 0

-- the input array
abbrev pub input_object : {R : Type 0} → List ℤ → Object R
input_object input = record { shape = Array; values = map Number input }

-- ---------- maps from references to objects ----------
-- a map from references to objects
abbrev pub Objects : Type 0 → Type 0
Objects R = R → Option (Object R)

-- the map of no objects
abbrev pub no_objects : {R : Type 0} → Objects R
no_objects r = None

-- a value of an object that is there
abbrev pub value_in : {R : Type 0} → Option (Object R) → ℕ → Option (Value R)
value_in None f = None
value_in (Some o) f = slice_get o.values f

-- the value of a field, if the field is there
abbrev pub field_of : {R : Type 0} → Objects R → R → ℕ → Option (Value R)
field_of h r f = value_in (h r) f

-- an object with another value in a field
abbrev pub with_field : {R : Type 0} → ℕ → Value R → Option (Object R) → Option (Object R)
with_field f v None = None
with_field f v (Some o) = Some (record o { values = slice_set o.values f v })

-- the same of the one object, and the others stay
abbrev pub with_field_if : {R : Type 0} → Bool → ℕ → Value R → Option (Object R) → Option (Object R)
with_field_if true f v o = with_field f v o
with_field_if false f v o = o

-- the objects after a value is put into a field
abbrev pub put : {R : Type 0} → (R → R → Bool) → Objects R → R → ℕ → Value R → Objects R
put same h r f v q = with_field_if (same q r) f v (h q)

-- the new object in its place, and the others stay
abbrev pub this_or : {R : Type 0} → Bool → Object R → Option (Object R) → Option (Object R)
this_or true new o = Some new
this_or false new o = o

-- the objects with one more
abbrev pub add : {R : Type 0} → (R → R → Bool) → Objects R → R → Object R → Objects R
add same h r new q = this_or (same q r) new (h q)
