-- The numbering of what is reached from a root, by a walk.
use Rattle.std.specs.Prelude.{ℕ, zero, suc, Bool, List, [], ◌∷◌, ◌++◌, slice_get, Option, Some, None, cond}
use Rattle.std.specs.List.{list_any}
use Rattle.perm_meaning.specs.Values.{Value, Reference}
use Rattle.perm_meaning.specs.Objects.{Object, Objects}

module _ {R : Type 0} (same : R → R → Bool) (h : Objects R) where
  -- the order with the references among these values that it lacks
  abbrev pub with_references : List R → List (Value R) → List R
  with_references order [] = order
  with_references order (Reference r len ∷ vs) = with_references (cond (list_any (same r) order) order (order ++ r ∷ [])) vs
  with_references order (_ ∷ vs) = with_references order vs

  -- the same with those of an object that is there
  abbrev pub with_object : List R → Option (Object R) → List R
  with_object order None = order
  with_object order (Some o) = with_references order o.values

  -- go on with an object, if there is one more
  abbrev pub walk_on : Option R → List R → (R → List R) → List R
  walk_on None order go = order
  walk_on (Some r) order go = go r

  -- the order after at most n objects, from number i on
  abbrev pub walk_from : ℕ → ℕ → List R → List R
  walk_from zero i order = order
  walk_from (suc n) i order = walk_on (slice_get order i) order (λ r. walk_from n (suc i) (with_object order (h r)))

  -- what is reached, by number
  abbrev pub walk : R → List R
  walk root = walk_from 10000 0 (root ∷ [])
