-- The text of a dump: a line for each object that is reached, in the order of their numbers.
use Rattle.std.specs.Prelude.{◌≡◌, ℕ, suc, Bool, List, [], ◌∷◌, ◌++◌, length, slice_get, Option, Some, None, decimal, flat_map, codes}
use Rattle.std.specs.Fmt.{signed_decimal}
use Rattle.std.specs.List.{position_or_len}
use Rattle.perm_tree.specs.declared.ast.Shape.{Shape}
use Rattle.perm_tree.specs.declared.ast.Shape.TheVariants.{Class, Array}
use Rattle.perm_tree.specs.declared.ast.ClassDecl.{ClassDecl}
use Rattle.perm_tree.specs.declared.ast.FieldDecl.{FieldDecl}
use Rattle.perm_tree.specs.Places.{Listing}
use Rattle.perm_tree.specs.Printer.Expressions.{word, truth_text}
use Rattle.perm_meaning.specs.Values.{Value, Number, Truth, Null, Reference}
use Rattle.perm_meaning.specs.Objects.{Object, Objects}
use Rattle.perm_canon.specs.Numbering.{IsNumbering}

-- `#K`
abbrev pub number_text : ℕ → List ℕ
number_text k = codes "#" ++ decimal k

module _ {R : Type 0} (same : R → R → Bool) (p : Listing) (order : List R) where
  -- a decimal number, `true`, `false`, `null`, or `#K`
  abbrev pub value_text : Value R → List ℕ
  value_text (Number n) = signed_decimal n
  value_text (Truth b) = truth_text b
  value_text Null = codes "null"
  value_text (Reference r len) = number_text (position_or_len (same r) order)

  -- ` FIELD=VALUE` for each field
  abbrev pub fields_text : List FieldDecl → List (Value R) → List ℕ
  fields_text (f ∷ fs) (v ∷ vs) = codes " " ++ (word p.names f.name.name ++ (codes "=" ++ (value_text v ++ fields_text fs vs)))
  fields_text _ _ = []

  -- `CLASS` and its fields
  abbrev pub class_text : Option ClassDecl → List (Value R) → List ℕ
  class_text None vs = []
  class_text (Some c) vs = word p.names c.name.name ++ fields_text c.fields vs

  -- that, or `long[N]` and its elements
  abbrev pub object_text : Shape → List (Value R) → List ℕ
  object_text (Class k) vs = class_text (slice_get p.classes k) vs
  object_text Array vs = codes "long[" ++ (decimal (length vs) ++ (codes "]" ++ flat_map (λ v. codes " " ++ value_text v) vs))

  -- the text of an object that is there
  abbrev pub text_if : Option (Object R) → List ℕ
  text_if None = []
  text_if (Some o) = object_text o.shape o.values

  -- the lines of objects, from number k on
  abbrev pub lines : Objects R → ℕ → List R → List ℕ
  lines h k [] = []
  lines h k (r ∷ rs) = number_text k ++ (codes " " ++ (text_if (h r) ++ (codes "\n" ++ lines h (suc k) rs)))

-- the text of the dump of objects in their order
abbrev pub dump_text : {R : Type 0} → (R → R → Bool) → Listing → Objects R → List R → List ℕ
dump_text same p h order = lines same p order h 0 order

-- a text is the dump of what is reached from a root
pub record IsDump {R : Type 0} (same : R → R → Bool) (p : Listing) (h : Objects R) (root : R) (text : List ℕ) : Type 0 where
  pub order : List R
  pub numbering : IsNumbering h root order
  pub written : text ≡ dump_text same p h order
