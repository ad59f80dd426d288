-- The heap of objects with numbers, and what it holds where each number has its name.
use Rattle.std.specs.Prelude.{pos, false, ◌≡◌, ℕ, suc, ◌+◌, ◌≤◌, ◌<◌, ◌⊎◌, List, [], ◌∷◌, ◌++◌, length, map, slice_get, slice_set, Option, Some, None}
use Rattle.perm_tree.specs.declared.ast.Shape.{Shape}
use Rattle.perm_tree.specs.declared.ast.Shape.TheVariants.{Class, Array}
use Rattle.perm_meaning.specs.declared.eval.asks.Ask.{Ask}
use Rattle.perm_meaning.specs.declared.eval.asks.Ask.TheVariants as asks
use Rattle.perm_meaning.specs.declared.eval.answers.Answer.{Answer}
use Rattle.perm_meaning.specs.declared.eval.answers.Answer.TheVariants as answers
use Rattle.perm_tree.specs.declared.ast.Ty.{Ty}
use Rattle.perm_tree.specs.declared.ast.Ty.TheVariants.{Long, Bool as Boolean, Ref}
use Rattle.perm_tree.specs.Code.{UnitCode}
use Rattle.perm_meaning.specs.declared.eval.values.Value.{Value}
use Rattle.perm_meaning.specs.declared.eval.values.Value.TheVariants as held
use Rattle.perm_meaning.specs.NamedHeap.{Heap}
use Rattle.perm_meaning.specs.Evaluator.NumberedValues.{value_by, Names}
use Rattle.perm_meaning.specs.Objects.{field_types, first_values, length_of, size}

-- the values of each object by its number, the words given so far, and how many fit
pub record Stored : Type 0 where
  pub objects : List (List Value)
  pub given : ℕ
  pub limit : ℕ

-- the keys of entries count from a number on
abbrev pub CountFrom : ℕ → List (ℕ × List Value) → Type 0
CountFrom n [] = Unit {0}
CountFrom n (e ∷ es) = (e.0 ≡ n) × CountFrom (suc n) es

-- the values of an object that may be there
abbrev pub value_of_object : Option (List Value) → ℕ → Option Value
value_of_object None f = None
value_of_object (Some o) f = slice_get o f

-- the value of a field, if it is there
abbrev pub value_at : List (List Value) → ℕ → ℕ → Option Value
value_at objects r f = value_of_object (slice_get objects r) f

-- the objects after a value is put into a field of one that may be there
abbrev pub put_in : List (List Value) → ℕ → Option (List Value) → ℕ → Value → List (List Value)
put_in objects r None f v = objects
put_in objects r (Some o) f v = slice_set objects r (slice_set o f v)

-- the objects after a value is put into a field
abbrev pub put_at : List (List Value) → ℕ → ℕ → Value → List (List Value)
put_at objects r f v = put_in objects r (slice_get objects r) f v

-- the values that a new object starts with
abbrev pub StartsAs : UnitCode → Shape → ℕ → List Value → Type 0
StartsAs u shape n o = (names : Names) → map (value_by names) o ≡ first_values u shape n

-- the heap after a new object is made that has room
pub record Makes (u : UnitCode) (shape : Shape) (n : ℕ) (old new : Stored) : Type 0 where
  pub room : old.given + size n ≤ old.limit
  pub values : List Value
  pub start : StartsAs u shape n values
  pub after : new ≡ record old { objects = old.objects ++ values ∷ []; given = old.given + size n }

-- the names of so many objects are apart
abbrev pub AreApart : Names → ℕ → Type 0
AreApart names n = (i j : ℕ) → i < n → j < n → names i ≡ names j → i ≡ j

-- a heap of names holds the same objects
pub record IsStored (names : Names) (s : Stored) (h : Heap) : Type 0 where
  pub objects : (r : ℕ) (o : List Value) → slice_get s.objects r ≡ Some o → (shape : Shape) × (h.objects (names r) ≡ Some (record { shape = shape; values = map (value_by names) o }))
  pub given : h.given ≡ s.given

-- what a field of a type starts as
abbrev pub zero_value : Ty → Value
zero_value Long = held.Number (pos 0)
zero_value Boolean = held.Truth false
zero_value (Ref p k) = held.Null

-- ---------- what the heap answers ----------
-- the value that is found, if there is one
abbrev pub found_value : Option Value → Answer
found_value None = answers.Missing
found_value (Some v) = answers.Found (Some v)

-- something is found, or not
abbrev pub found_there : Option Value → Answer
found_there None = answers.Missing
found_there (Some v) = answers.Found None

-- a new object is refused, or made and found
abbrev pub MakesOne : UnitCode → Shape → ℕ → Stored → Answer → Stored → Type 0
MakesOne u shape n old a new =
    ((a ≡ answers.Refused) × (old.limit < old.given + size n) × (new ≡ old)) ⊎ ((a ≡ answers.Found (Some (held.Reference (length old.objects) (length_of shape n)))) × Makes u shape n old new)

-- what a heap answers to this, and what it is then
abbrev pub Answers : UnitCode → Ask → Stored → Answer → Stored → Type 0
Answers u asks.Tick old a new = (a ≡ answers.Found None) × (new ≡ old)
Answers u (asks.Load r f) old a new = (a ≡ found_value (value_at old.objects r f)) × (new ≡ old)
Answers u (asks.Store r f v) old a new = (a ≡ found_there (value_at old.objects r f)) × (new ≡ record old { objects = put_at old.objects r f v })
Answers u (asks.Take r f) old a new = (a ≡ found_value (value_at old.objects r f)) × (new ≡ record old { objects = put_at old.objects r f held.Null })
Answers u (asks.Object c) old a new = MakesOne u (Class c) (length (field_types u c)) old a new
Answers u (asks.Array n) old a new = MakesOne u Array n old a new
