-- Lists of variables of which some have lost their values.
use Rattle.std.proofs.Common.{◌≡◌, ℕ, true, [], ◌∷◌, Option, Some, None, refl, List, ap, ◌∙◌, zero, suc, Bool, false, length, subst, arith, ◌+◌, cond}
use Rattle.std.specs.Prelude.{slice_get}
use Rattle.perm_tree.specs.Vars.{Vars}
use Rattle.perm_meaning.specs.Expressions.{tagged}
use Rattle.perm_meaning.specs.NamedHeap.{Held}
use Rattle.perm_meaning.specs.Custody.{from_either_at, only_at}
use Rattle.perm_meaning.specs.Relate.{OptionR}
use Rattle.perm_meaning.specs.HoldsFewer.{IsPart, AreParts, IsPartAt}
use Rattle.perm_meaning.proofs.Leads.{some-inj}
use Rattle.perm_meaning.proofs.OnWords.Related.{vars-length, vars-at}

-- ---------- values ----------
pub part-same : (v : Held) → IsPart v v
part-same None = tt
part-same (Some v) = refl

pub parts-same : (vs : List Held) → AreParts vs vs
parts-same [] = tt
parts-same (v ∷ vs) = (part-same v, parts-same vs)

-- fewer variables keep their values
pub only-parts : (i : ℕ) (G : Vars) (vs ws : List Held) → AreParts vs ws → AreParts (only_at tagged i G vs) ws
only-parts i G [] [] h = tt
only-parts i G [] (w ∷ ws) h = absurd h
only-parts i G (v ∷ vs) [] h = absurd h
only-parts i G (v ∷ vs) (w ∷ ws) h = (chosen (G i), only-parts (suc i) G vs ws h.1)
  where
    chosen : (t : Bool) → IsPart (cond t v None) w
    chosen true = h.0
    chosen false = tt

-- of each place
pub part-of-slot : (v w : Option Held) → OptionR IsPart v w → IsPartAt v w
part-of-slot None w h = tt
part-of-slot (Some None) w h = tt
part-of-slot (Some (Some v)) None h = absurd h
part-of-slot (Some (Some v)) (Some w) h = ap (λ z. Some z) h

pub parts-at : (vs ws : List Held) → AreParts vs ws → (x : ℕ) → IsPartAt (slice_get vs x) (slice_get ws x)
parts-at vs ws h x = part-of-slot (slice_get vs x) (slice_get ws x) (vars-at IsPart vs ws x h)

-- one part of another
pub part-at-then : (a b c : Option Held) → IsPartAt a b → IsPartAt b c → IsPartAt a c
part-at-then None b c h k = tt
part-at-then (Some None) b c h k = tt
part-at-then (Some (Some v)) b c h k = subst (λ z. IsPartAt z c) h k

pub part-at-same : (a : Option Held) → IsPartAt a a
part-at-same None = tt
part-at-same (Some None) = tt
part-at-same (Some (Some v)) = refl

-- from one place to all
pub parts-from-places : (vs ws : List Held) → length vs ≡ length ws → ((x : ℕ) → IsPartAt (slice_get vs x) (slice_get ws x)) → AreParts vs ws
parts-from-places [] [] e h = tt
parts-from-places [] (w ∷ ws) e h = absurd (omega (arith, e))
parts-from-places (v ∷ vs) [] e h = absurd (omega (arith, e))
parts-from-places (None ∷ vs) (w ∷ ws) e h = (tt, parts-from-places vs ws (omega (arith, e)) (λ x. h (suc x)))
parts-from-places (Some v ∷ vs) (w ∷ ws) e h = (some-inj (h 0), parts-from-places vs ws (omega (arith, e)) (λ x. h (suc x)))

-- one part of another
pub parts-then : (vs ws us : List Held) → AreParts vs ws → AreParts ws us → AreParts vs us
parts-then vs ws us h k = parts-from-places vs us (vars-length IsPart vs ws h ∙ vars-length IsPart ws us k) (λ x. part-at-then (slice_get vs x) (slice_get ws x) (slice_get us x) (parts-at vs ws h x) (parts-at ws us k x))

pub only-length : (i : ℕ) (G : Vars) (vs : List Held) → length (only_at tagged i G vs) ≡ length vs
only-length i G [] = refl
only-length i G (v ∷ vs) = ap (λ n. suc n) (only-length (suc i) G vs)

-- ---------- one list or the other ----------
pub either-length : (i : ℕ) (G : Vars) (vs ws : List Held) → length vs ≡ length ws → length (from_either_at i G vs ws) ≡ length ws
either-length i G [] [] e = refl
either-length i G [] (w ∷ ws) e = absurd (omega (arith, e))
either-length i G (v ∷ vs) [] e = absurd (omega (arith, e))
either-length i G (v ∷ vs) (w ∷ ws) e = ap (λ n. suc n) (either-length (suc i) G vs ws (omega (arith, e)))

pub either-at : (i : ℕ) (G : Vars) (vs ws : List Held) (x k : ℕ) → k ≡ i + x → length vs ≡ length ws → slice_get (from_either_at i G vs ws) x ≡ cond (G k) (slice_get vs x) (slice_get ws x)
either-at i G [] [] x k q e = which (G k)
  where
    which : (t : Bool) → slice_get {X = Held} [] x ≡ cond t (slice_get [] x) (slice_get [] x)
    which true = refl
    which false = refl
either-at i G [] (w ∷ ws) x k q e = absurd (omega (arith, e))
either-at i G (v ∷ vs) [] x k q e = absurd (omega (arith, e))
either-at i G (v ∷ vs) (w ∷ ws) zero k q e = subst (λ (n : ℕ). Some (cond (G i) v w) ≡ cond (G n) (Some v) (Some w)) (same) (which (G i))
  where
    same : i ≡ k
    same = omega (arith, q)

    which : (t : Bool) → Some (cond t v w) ≡ cond t (Some v) (Some w)
    which true = refl
    which false = refl
either-at i G (v ∷ vs) (w ∷ ws) (suc x) k q e = either-at (suc i) G vs ws x k (omega (arith, q)) (omega (arith, e))
