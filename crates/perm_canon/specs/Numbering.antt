-- The numbers of the objects that are reached: they go by where an object is first met.
use Rattle.std.specs.Prelude.{◌≡◌, ℕ, ◌<◌, ◌⊎◌, List, length, slice_get, Some}
use Rattle.perm_meaning.specs.Values.{Reference}
use Rattle.perm_meaning.specs.Objects.{Object, Objects}
use Rattle.perm_meaning.specs.Layout.{Reached}

module _ {R : Type 0} (h : Objects R) where
  -- object number k refers to r by its field f
  abbrev pub RefersTo : List R → ℕ → ℕ → R → Type 0
  RefersTo order k f r = (q : R) × (o : Object R) × (len : ℕ) × (slice_get order k ≡ Some q) × (h q ≡ Some o) × (slice_get o.values f ≡ Some (Reference r len))

  -- a field of one object comes before a field of another, or of the same
  abbrev pub IsBefore : ℕ → ℕ → ℕ → ℕ → Type 0
  IsBefore k f k' f' = (k < k') ⊎ ((k ≡ k') × (f < f'))

  -- object number i is first met in field f of object number k, which has a smaller number
  pub record IsFirstMet (order : List R) (i k f : ℕ) : Type 0 where
    pub smaller : k < i
    pub met : (r : R) → slice_get order i ≡ Some r → RefersTo order k f r
    pub least : (r : R) (k' f' : ℕ) → slice_get order i ≡ Some r → RefersTo order k' f' r → ((k ≡ k') × (f ≡ f')) ⊎ IsBefore k f k' f'

  -- the one list without repeats that begins with the root, holds just what is reached, and has the others in the order in which they are first met
  pub record IsNumbering (root : R) (order : List R) : Type 0 where
    pub begins : slice_get order 0 ≡ Some root
    pub once : (i j : ℕ) (r : R) → slice_get order i ≡ Some r → slice_get order j ≡ Some r → i ≡ j
    pub all : (r : R) → Reached h root r → (i : ℕ) × (slice_get order i ≡ Some r)
    pub only : (i : ℕ) (r : R) → slice_get order i ≡ Some r → Reached h root r
    pub met : (i : ℕ) → 0 < i → i < length order → (k : ℕ) × (f : ℕ) × IsFirstMet order i k f
    pub sorted : (i j k f k' f' : ℕ) → i < j → IsFirstMet order i k f → IsFirstMet order j k' f' → IsBefore k f k' f'
