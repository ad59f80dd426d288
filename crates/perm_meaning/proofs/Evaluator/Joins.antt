-- How variables are taken from either of two lists.
use Rattle.std.proofs.Common.{◌≡◌, ◌∙◌, ℕ, ◌<◌, ◌≤◌, min, Bool, true, false, List, [], ◌∷◌, length, drop, refl, ap, arith}
use Rattle.std.specs.Prelude.{suc, cond, map, nat_le}
use Rattle.std.proofs.lemmas.Bool.Decides.{nat_tests}
use Rattle.std.proofs.lemmas.List.{drop_all}
use Rattle.perm_tree.specs.Vars.{Vars}
use Rattle.perm_meaning.specs.Custody.{from_either, from_either_at, merged}

-- ---------- variables from two lists ----------
module _ {V : Type 0} (G : Vars) (vs ws : List V) where
  nothing : (x : ℕ) (l : List V) → from_either_at x G l [] ≡ []
  nothing x [] = refl
  nothing x (v ∷ l) = refl

  -- where one of the lists is at its end nothing is taken
  pub either-none : (x : ℕ) → min (length vs) (length ws) ≤ x → from_either_at x G (drop x vs) (drop x ws) ≡ []
  either-none x past = go (nat_le (length vs) x) refl
    where
      go : (b : Bool) → nat_le (length vs) x ≡ b → from_either_at x G (drop x vs) (drop x ws) ≡ []
      go true e = ap (λ (l : List V). from_either_at x G l (drop x ws)) (drop_all x vs (grind (arith, nat_tests)))
      go false e = ap (λ (l : List V). from_either_at x G (drop x vs) l) (drop_all x ws (let less : x < length vs = grind (arith, nat_tests) in omega arith)) ∙ nothing x (drop x vs)

module _ {V W : Type 0} (f : V → W) where
  map-cond : (b : Bool) (v w : V) → f (cond b v w) ≡ cond b (f v) (f w)
  map-cond true v w = refl
  map-cond false v w = refl

  map-either-at : (i : ℕ) (G : Vars) (vs ws : List V) → map f (from_either_at i G vs ws) ≡ from_either_at i G (map f vs) (map f ws)
  map-either-at i G [] ws = refl
  map-either-at i G (v ∷ vs) [] = refl
  map-either-at i G (v ∷ vs) (w ∷ ws) = λ j. map-cond (G i) v w j ∷ map-either-at (suc i) G vs ws j

  -- what is made of each value may be made before variables are taken, or after
  pub map-merged : (a b : Vars) (vs ls rs : List V) → map f (merged a b vs ls rs) ≡ merged a b (map f vs) (map f ls) (map f rs)
  map-merged a b vs ls rs = map-either-at 0 b rs (from_either a ls vs) ∙ ap (from_either b (map f rs)) (map-either-at 0 a ls vs)
