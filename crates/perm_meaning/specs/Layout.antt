-- The objects that words hold, by the declared types of fields, and when words are laid out.
use Rattle.std.specs.Prelude.{◌≡◌, ℕ, zero, suc, ◌+◌, ◌/◌, ◌%◌, ◌^◌, ◌≤◌, ◌⊎◌, Bool, true, false, ◌&&◌, nat_eq, List, [], ◌∷◌, length, replicate, slice_get, Option, Some, None}
use Rattle.perm_tree.specs.declared.ast.Shape.{Shape}
use Rattle.perm_tree.specs.declared.ast.Shape.TheVariants.{Class, Array}
use Rattle.perm_tree.specs.declared.ast.Ty.{Ty}
use Rattle.perm_tree.specs.declared.ast.Ty.TheVariants.{Long, Bool as Boolean, Ref}
use Rattle.perm_tree.specs.Code.{UnitCode}
use Rattle.perm_tree.specs.Shapes.{same_shape}
use Rattle.perm_meaning.specs.Values.{Value, Number, Truth, Null, Reference}
use Rattle.perm_meaning.specs.Words.{number_in}
use Rattle.perm_meaning.specs.Objects.{Object, Objects, object_size}

-- where an object stands in the words: the shape that it is declared with, its base, and the length of an array
pub record Spot : Type 0 where
  pub shape : Shape
  pub base : ℕ
  pub len : ℕ

-- two spots are one
abbrev pub same_spot : Spot → Spot → Bool
same_spot a b = nat_eq a.base b.base && (nat_eq a.len b.len && same_shape a.shape b.shape)

-- ---------- words as values ----------
-- the truth value that a word is, if it is one
abbrev pub truth_from : ℕ → Option (Value Spot)
truth_from zero = Some (Truth false)
truth_from (suc zero) = Some (Truth true)
truth_from _ = None

-- a reference to an object of this shape, base and length
abbrev pub to_spot : Shape → ℕ → ℕ → Option (Value Spot)
to_spot k base len = Some (Reference (record { shape = k; base = base; len = len }) len)

-- the reference of a shape whose word has these low and high 32 bits; one of a class bears no length
abbrev pub reference_from : Shape → ℕ → ℕ → Option (Value Spot)
reference_from k zero zero = Some Null
reference_from k zero (suc len) = None
reference_from (Class k) (suc base) zero = to_spot (Class k) base 0
reference_from (Class k) (suc base) (suc len) = None
reference_from Array (suc base) len = to_spot Array base len

-- the value of a declared type that a word is, if it is one
abbrev pub value_from : Ty → ℕ → Option (Value Spot)
value_from Long w = Some (Number (number_in w))
value_from Boolean w = truth_from w
value_from (Ref p k) w = reference_from k (w % 2 ^ 32) (w / 2 ^ 32)

-- the same of a word that is there
abbrev pub value_if : Ty → Option ℕ → Option (Value Spot)
value_if t None = None
value_if t (Some w) = value_from t w

-- a value and those behind it, if all are there
abbrev pub before_values : Option (Value Spot) → Option (List (Value Spot)) → Option (List (Value Spot))
before_values (Some v) (Some vs) = Some (v ∷ vs)
before_values _ _ = None

-- the values of these types that stand in the words from a base on
abbrev pub values_from : List ℕ → ℕ → List Ty → Option (List (Value Spot))
values_from words base [] = Some []
values_from words base (t ∷ ts) = before_values (value_if t (slice_get words base)) (values_from words (suc base) ts)

-- ---------- the objects ----------
-- the types of the values of an object
abbrev pub types_of : UnitCode → Shape → ℕ → Option (List Ty)
types_of u Array len = Some (replicate len Long)
types_of u (Class k) len = slice_get u.classes k

-- the values of these types, if the shape is there
abbrev pub values_if : List ℕ → ℕ → Option (List Ty) → Option (List (Value Spot))
values_if words base None = None
values_if words base (Some ts) = values_from words base ts

-- an object of these values, if they are there
abbrev pub object_if : Shape → Option (List (Value Spot)) → Option (Object Spot)
object_if k None = None
object_if k (Some vs) = Some (record { shape = k; values = vs })

-- the object at each spot, where the words hold one there
abbrev pub objects_in : UnitCode → List ℕ → Objects Spot
objects_in u words s = object_if s.shape (values_if words s.base (types_of u s.shape s.len))

-- the spot of the object of Main with this base
abbrev pub root_spot : UnitCode → ℕ → Spot
root_spot u base = record { shape = Class u.main; base = base; len = 0 }

-- ---------- what is reached ----------
-- what is reached from the root by the references in objects
pub data Reached {R : Type 0} (h : Objects R) (root : R) : R → Type 0 where
  here : Reached h root root
  next : (q r : R) (o : Object R) (f len : ℕ) → Reached h root q → h q ≡ Some o → slice_get o.values f ≡ Some (Reference r len) → Reached h root r

-- each spot that is reached lies within the words and holds values of its types, and two of them are one or don't overlap
pub record IsLaid (u : UnitCode) (words : List ℕ) (root : Spot) : Type 0 where
  pub there : (s : Spot) → Reached (objects_in u words) root s → (o : Object Spot) × (objects_in u words s ≡ Some o) × (s.base + object_size o ≤ length words)
  pub apart : (s t : Spot) (o q : Object Spot) → Reached (objects_in u words) root s → Reached (objects_in u words) root t
      → objects_in u words s ≡ Some o → objects_in u words t ≡ Some q → (s ≡ t) ⊎ ((s.base + object_size o ≤ t.base) ⊎ (t.base + object_size q ≤ s.base))

-- the words are laid out from the object of Main on, which has this reference word
pub record IsLaidFrom (u : UnitCode) (words : List ℕ) (word : ℕ) : Type 0 where
  pub root : Spot
  pub is : reference_from (Class u.main) (word % 2 ^ 32) (word / 2 ^ 32) ≡ Some (Reference root 0)
  pub laid : IsLaid u words root
