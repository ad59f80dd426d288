-- When two heaps have one shape: what is reached is equal up to its places.
use Rattle.std.specs.Prelude.{◌≡◌, Bool, true, List, [], ◌∷◌, Option, Some}
use Rattle.perm_meaning.specs.Values.{Value, Number, Truth, Null, Reference}
use Rattle.perm_meaning.specs.Objects.{Object, Objects}

module _ {R S : Type 0} (M : R → S → Type 0) where
  -- two values are equal, where M says which references are
  abbrev pub AreAlike : Value R → Value S → Type 0
  AreAlike (Number a) (Number b) = a ≡ b
  AreAlike (Truth a) (Truth b) = a ≡ b
  AreAlike Null Null = Unit {0}
  AreAlike (Reference r m) (Reference s n) = M r s × (m ≡ n)
  AreAlike _ _ = ⊥

  -- two lists of values are equal so
  abbrev pub AllAlike : List (Value R) → List (Value S) → Type 0
  AllAlike [] [] = Unit {0}
  AllAlike (v ∷ vs) (w ∷ ws) = AreAlike v w × AllAlike vs ws
  AllAlike _ _ = ⊥

  -- two objects have one shape and equal values
  abbrev pub ObjectsAlike : Option (Object R) → Option (Object S) → Type 0
  ObjectsAlike (Some o) (Some q) = (o.shape ≡ q.shape) × AllAlike o.values q.values
  ObjectsAlike _ _ = ⊥

  -- M is one-to-one, and takes root to root and all values across
  pub record IsMatch (h : Objects R) (root : R) (h' : Objects S) (root' : S) : Type 0 where
    pub roots : M root root'
    pub objects : (r : R) (s : S) → M r s → ObjectsAlike (h r) (h' s)
    pub one : (r : R) (s t : S) → M r s → M r t → s ≡ t
    pub back : (r q : R) (s : S) → M r s → M q s → r ≡ q

-- two heaps have one shape from their roots on: some test of pairs is such a match
pub record HasOneShape {R S : Type 0} (h : Objects R) (root : R) (h' : Objects S) (root' : S) : Type 0 where
  pub across : R → S → Bool
  pub match : IsMatch (λ r s. across r s ≡ true) h root h' root'
