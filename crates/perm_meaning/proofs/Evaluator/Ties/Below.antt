-- A value refers to no object past the first n exactly where the names of those make no difference to it.
use Rattle.std.proofs.Common.{◌≡◌, ◌∙◌, ℕ, suc, ◌<◌, ◌≤◌, Bool, true, false, List, [], ◌∷◌, Option, Some, None, refl, sym, ap, arith, cond}
use Rattle.std.specs.Prelude.{map, nat_lt, option_map, slice_get}
use Rattle.std.proofs.lemmas.Bool.Decides.{nat_tests}
use Rattle.std.proofs.lemmas.Option.{slice_get-map}
use Rattle.perm_meaning.specs.declared.eval.values.Value.{Value}
use Rattle.perm_meaning.specs.declared.eval.values.Value.TheVariants as held
use Rattle.perm_meaning.specs.NamedHeap.{Held}
use Rattle.perm_meaning.specs.Names.{Name}
use Rattle.perm_meaning.specs.Evaluator.NumberedValues.{all_by, held_by, value_by, Names}
use Rattle.perm_meaning.specs.Evaluator.Ties.{AllBelow, AreSame, IsBelow, SlotBelow}
use Rattle.perm_meaning.specs.Values as values
use Rattle.perm_meaning.proofs.Leads.{some-inj}

-- ---------- more objects ----------
-- what refers to one of the first objects refers to one of more
pub value-more : (n m : ℕ) → n ≤ m → (v : Value) → IsBelow n v → IsBelow m v
value-more n m le (held.Number i) b = b
value-more n m le (held.Truth i) b = b
value-more n m le held.Null b = b
value-more n m le (held.Reference r len) b = omega (arith, le, b)

-- the same of what a variable holds
pub slot-more : (n m : ℕ) → n ≤ m → (v : Option Value) → SlotBelow n v → SlotBelow m v
slot-more n m le None b = b
slot-more n m le (Some v) b = value-more n m le v b

-- the same of all variables
pub all-more : (n m : ℕ) (vs : List (Option Value)) → n ≤ m → AllBelow n vs → AllBelow m vs
all-more n m vs le b x v e = slot-more n m le v (b x v e)

-- names that agree on more objects agree on fewer
pub same-fewer : (n m : ℕ) (a b : Names) → n ≤ m → AreSame m a b → AreSame n a b
same-fewer n m a b le same r lt = same r (omega (arith, le, lt))

-- ---------- other names of later objects ----------
module _ (n : ℕ) (a b : Names) (same : AreSame n a b) where
  -- a value stands for the same
  pub value-same : (v : Value) → IsBelow n v → value_by a v ≡ value_by b v
  value-same (held.Number i) k = refl
  value-same (held.Truth i) k = refl
  value-same held.Null k = refl
  value-same (held.Reference r len) k = ap (λ (q : Name). values.Reference q len) (same r k)

  -- so does what a variable holds
  pub slot-same : (v : Option Value) → SlotBelow n v → held_by a v ≡ held_by b v
  slot-same None k = refl
  slot-same (Some v) k = ap (λ (w : values.Value Name). Some w) (value-same v k)

  -- so does what all variables hold
  pub all-same : (vs : List (Option Value)) → AllBelow n vs → all_by a vs ≡ all_by b vs
  all-same [] k = refl
  all-same (v ∷ vs) k =
      let first = slot-same v (k 0 v refl) in
      let rest = all-same vs (λ x w e. k (suc x) w e) in λ i. first i ∷ rest i

  -- and what an object holds
  pub values-same : (o : List Value) → ((f : ℕ) (v : Value) → slice_get o f ≡ Some v → IsBelow n v) → map (value_by a) o ≡ map (value_by b) o
  values-same [] k = refl
  values-same (v ∷ o) k =
      let first = value-same v (k 0 v refl) in
      let rest = values-same o (λ f w e. k (suc f) w e) in λ i. first i ∷ rest i

-- ---------- what doesn't depend on the names of later objects ----------
-- one name for all
abbrev flat : Names
flat r = record { by = []; count = 0 }

-- another one for all but the first n
abbrev split : ℕ → Names
split n r = record { by = []; count = cond (nat_lt r n) 0 1 }

-- both agree on the first n
split-same : (n : ℕ) → AreSame n (split n) flat
split-same n r lt = go (nat_lt r n) (grind (arith, nat_tests, lt))
  where
    go : (x : Bool) → x ≡ true → ◌≡◌ {A = Name} (record { by = []; count = cond x 0 1 }) (record { by = []; count = 0 })
    go true e = refl
    go false e = absurd (cc)

-- a number whose name doesn't depend on the others is one of the first n
pub number-below : (n r : ℕ) → ((a b : Names) → AreSame n a b → a r ≡ b r) → r < n
number-below n r k = go (nat_lt r n) refl (ap (λ (q : Name). q.count) (k (split n) flat (split-same n)))
  where
    go : (x : Bool) → nat_lt r n ≡ x → ◌≡◌ {A = ℕ} (cond x 0 1) 0 → r < n
    go true e z = grind (arith, nat_tests, e)
    go false e z = absurd (omega (arith, z))

-- the name that a value bears
abbrev name_of : values.Value Name → Name
name_of (values.Reference r len) = r
name_of v = record { by = []; count = 0 }

-- a value that doesn't depend on them refers to one of the first n
pub value-below : (n : ℕ) (v : Value) → ((a b : Names) → AreSame n a b → value_by a v ≡ value_by b v) → IsBelow n v
value-below n (held.Number i) k = tt
value-below n (held.Truth i) k = tt
value-below n held.Null k = tt
value-below n (held.Reference r len) k = number-below n r (λ a b same. ap name_of (k a b same))

-- the same of what a variable holds
pub slot-below : (n : ℕ) (v : Option Value) → ((a b : Names) → AreSame n a b → held_by a v ≡ held_by b v) → SlotBelow n v
slot-below n None k = tt
slot-below n (Some v) k = value-below n v (λ a b same. some-inj (k a b same))

-- what a variable that is there stands for
held-at : (names : Names) (vs : List (Option Value)) (x : ℕ) (v : Option Value) → slice_get vs x ≡ Some v → slice_get (all_by names vs) x ≡ Some (held_by names v)
held-at names vs x v e = slice_get-map (held_by names) vs x ∙ ap (option_map (held_by names)) e

-- the same of all variables
pub all-below : (n : ℕ) (vs : List (Option Value)) → ((a b : Names) → AreSame n a b → all_by a vs ≡ all_by b vs) → AllBelow n vs
all-below n vs k x v e = slot-below n v (λ a b same. some-inj (sym (held-at a vs x v e) ∙ ap (λ (l : List Held). slice_get l x) (k a b same) ∙ held-at b vs x v e))
