-- What a list of variables keeps, and which of a set hold no more than others, as variables are set and cleared.
use Rattle.std.proofs.Common.{◌≡◌, ℕ, true, [], ◌∷◌, Option, Some, None, refl, List, sym, ap, ◌∙◌, zero, suc, Bool, false, length, ◌⊎◌, inl, inr, subst, arith}
use Rattle.std.specs.Prelude.{◌&&◌, not, nat_eq, slice_get, slice_set}
use Rattle.std.proofs.lemmas.Bool.{or_parts, or_right, or_cases, and_parts, or_from}
use Rattle.std.proofs.lemmas.Bool.Decides.{nat_tests}
use Rattle.perm_tree.specs.Vars.{Vars, just, those, plus, minus}
use Rattle.perm_tree.specs.Mentions.{just_option}
use Rattle.perm_meaning.specs.Expressions.{tagged, clear, clear_all, assign_into, cleared_slot}
use Rattle.perm_meaning.specs.NamedHeap.{Held}
use Rattle.perm_meaning.specs.Steady.{AreApart}
use Rattle.perm_meaning.specs.HoldsFewer.{IsPartAt, ArePartsOn, AreKept}
use Rattle.perm_meaning.proofs.MovesAndCopies.Parts.{part-at-then}

-- ---------- what is kept ----------
pub kept-same : (H : Vars) (vs : List Held) → AreKept H vs vs
kept-same H vs = record { long = refl; same = λ x h. refl }

-- a variable beside the one that is set
pub get-other : {A : Type 0} (ws : List A) (x y : ℕ) (v : A) → nat_eq x y ≡ false → slice_get (slice_set ws y v) x ≡ slice_get ws x
get-other [] x y v e = refl
get-other (w ∷ ws) zero zero v e = absurd (grind (arith, nat_tests))
get-other (w ∷ ws) (suc x) zero v e = refl
get-other (w ∷ ws) zero (suc y) v e = refl
get-other (w ∷ ws) (suc x) (suc y) v e = get-other ws x y v (lower x y e)
  where
    lower : (x y : ℕ) → nat_eq (suc x) (suc y) ≡ false → nat_eq x y ≡ false
    lower x y e = grind (arith, nat_tests)

-- setting a variable keeps the length
pub set-length : {A : Type 0} (ws : List A) (y : ℕ) (v : A) → length (slice_set ws y v) ≡ length ws
set-length [] y v = refl
set-length (w ∷ ws) zero v = refl
set-length (w ∷ ws) (suc y) v = ap (λ n. suc n) (set-length ws y v)

pub kept-set : {H : Vars} {vs ws : List Held} (y : ℕ) (v : Held) → AreApart H (just y) → AreKept H vs ws → AreKept H vs (slice_set ws y v)
kept-set {ws = ws} y v a k = record { long = set-length ws y v ∙ k.long; same = λ x h. get-other ws x y v (a x h) ∙ k.same x h }

pub kept-into : {H : Vars} {vs ws : List Held} (into : Option ℕ) (v : Held) → AreApart H (just_option into) → AreKept H vs ws → AreKept H vs (assign_into ws into v)
kept-into None v a k = k
kept-into (Some y) v a k = kept-set y v a k

pub kept-cleared : {H : Vars} {vs ws : List Held} (own : List ℕ) → AreApart H (those own) → AreKept H vs ws → AreKept H vs (clear_all tagged ws own)
kept-cleared [] a k = k
kept-cleared {ws = ws} (y ∷ own) a k = kept-cleared own (λ x h. (or_parts (nat_eq x y) (those own x) (a x h)).1) (kept-set y (cleared_slot tagged (slice_get ws y)) (λ x h. (or_parts (nat_eq x y) (those own x) (a x h)).0) k)

-- ---------- sets ----------
pub apart-left : {H : Vars} (G K : Vars) → AreApart H (plus G K) → AreApart H G
apart-left G K a x h = (or_parts (G x) (K x) (a x h)).0

pub apart-right : {H : Vars} (G K : Vars) → AreApart H (plus G K) → AreApart H K
apart-right G K a x h = (or_parts (G x) (K x) (a x h)).1

pub apart-plus : {H : Vars} (G K : Vars) → AreApart H G → AreApart H K → AreApart H (plus G K)
apart-plus G K a b x h = or_from (G x) (K x) (a x h) (b x h)

pub kept-right : {vs ws : List Held} (H K : Vars) → AreKept (plus H K) vs ws → AreKept K vs ws
kept-right H K k = record { long = k.long; same = λ x h. k.same x (or_right (H x) (K x) h) }

-- ---------- parts of a set ----------
pub on-lost : (H : Vars) (vs ws : List Held) (y : ℕ) → ArePartsOn H vs ws → ArePartsOn H (slice_set vs y None) ws
on-lost H vs ws y q x h = go vs y x (slice_get ws x) (q x h)
  where
    go : (vs : List Held) (y x : ℕ) (w : Option Held) → IsPartAt (slice_get vs x) w → IsPartAt (slice_get (slice_set vs y None) x) w
    go [] y x w k = k
    go (v ∷ vs) zero zero w k = tt
    go (v ∷ vs) zero (suc x) w k = k
    go (v ∷ vs) (suc y) zero w k = k
    go (v ∷ vs) (suc y) (suc x) w k = go vs y x w k

-- what is left of a variable that loses its value
pub cleared-is : (v : Option Held) → cleared_slot tagged v ≡ None
cleared-is None = refl
cleared-is (Some v) = refl

pub on-cleared-one : (H : Vars) (vs ws : List Held) (y : ℕ) → ArePartsOn H vs ws → ArePartsOn H (clear tagged vs y) ws
on-cleared-one H vs ws y q = subst (λ z. ArePartsOn H (slice_set vs y z) ws) (sym (cleared-is (slice_get vs y))) (on-lost H vs ws y q)

pub on-set : (H : Vars) (vs ws : List Held) (y : ℕ) (v : Held) → AreApart H (just y) → ArePartsOn H vs ws → ArePartsOn H (slice_set vs y v) ws
on-set H vs ws y v a q x h = subst (λ z. IsPartAt z (slice_get ws x)) (sym (get-other vs x y v (a x h))) (q x h)

pub on-into : (H : Vars) (vs ws : List Held) (into : Option ℕ) (v : Held) → AreApart H (just_option into) → ArePartsOn H vs ws → ArePartsOn H (assign_into vs into v) ws
on-into H vs ws None v a q = q
on-into H vs ws (Some y) v a q = on-set H vs ws y v a q

pub on-then : (H : Vars) (vs ws us : List Held) → ArePartsOn H vs ws → ArePartsOn H ws us → ArePartsOn H vs us
on-then H vs ws us q r x h = part-at-then (slice_get vs x) (slice_get ws x) (slice_get us x) (q x h) (r x h)

-- a variable that has no value is a part of any
abbrev IsLost : List Held → ℕ → Type 0
IsLost vs x = (w : Option Held) → IsPartAt (slice_get vs x) w

lost-here : (vs : List Held) (y : ℕ) → IsLost (slice_set vs y None) y
lost-here [] y w = tt
lost-here (v ∷ vs) zero w = tt
lost-here (v ∷ vs) (suc y) w = lost-here vs y w

lost-still : (vs : List Held) (y x : ℕ) → IsLost vs x → IsLost (slice_set vs y None) x
lost-still [] y x l w = l w
lost-still (v ∷ vs) zero zero l w = tt
lost-still (v ∷ vs) zero (suc x) l w = l w
lost-still (v ∷ vs) (suc y) zero l w = l w
lost-still (v ∷ vs) (suc y) (suc x) l w = lost-still vs y x l w

clear-lost : (vs : List Held) (y x : ℕ) → IsLost vs x → IsLost (clear tagged vs y) x
clear-lost vs y x l = subst (λ z. IsLost (slice_set vs y z) x) (sym (cleared-is (slice_get vs y))) (lost-still vs y x l)

all-lost : (own : List ℕ) (vs : List Held) (x : ℕ) → IsLost vs x → IsLost (clear_all tagged vs own) x
all-lost [] vs x l = l
all-lost (y ∷ own) vs x l = all-lost own (clear tagged vs y) x (clear-lost vs y x l)

own-lost : (own : List ℕ) (vs : List Held) (x : ℕ) → those own x ≡ true → IsLost (clear_all tagged vs own) x
own-lost [] vs x e = absurd (let no : ⊥ = cc e in no)
own-lost (y ∷ own) vs x e = which (λ q. own-lost own (clear tagged vs y) x q) (or_cases (nat_eq x y) (those own x) e)
  where
    is : (x y : ℕ) → nat_eq x y ≡ true → y ≡ x
    is x y q = grind (arith, nat_tests)

    which : (those own x ≡ true → IsLost (clear_all tagged (clear tagged vs y) own) x) → (nat_eq x y ≡ true) ⊎ (those own x ≡ true) → IsLost (clear_all tagged (clear tagged vs y) own) x
    which later (inl q) = all-lost own (clear tagged vs y) x (subst (λ n. IsLost (clear tagged vs y) n) (is x y q) (subst (λ z. IsLost (slice_set vs y z) y) (sym (cleared-is (slice_get vs y))) (lost-here vs y)))
    which later (inr q) = later q

on-cleared-list : (H : Vars) (own : List ℕ) (vs ws : List Held) → ArePartsOn H vs ws → ArePartsOn H (clear_all tagged vs own) ws
on-cleared-list H [] vs ws q = q
on-cleared-list H (y ∷ own) vs ws q = on-cleared-list H own (clear tagged vs y) ws (on-cleared-one H vs ws y q)

-- the own variables of a block lose their values at its end
pub on-block-end : (H : Vars) (own : List ℕ) (vs ws : List Held) → ArePartsOn (minus H (those own)) vs ws → ArePartsOn H (clear_all tagged vs own) ws
on-block-end H own vs ws q x h = which (those own x) refl
  where
    which : (t : Bool) → those own x ≡ t → IsPartAt (slice_get (clear_all tagged vs own) x) (slice_get ws x)
    which true e = own-lost own vs x e (slice_get ws x)
    which false e = on-cleared-list (minus H (those own)) own vs ws q x (ap (λ z. z && not (those own x)) h ∙ ap not e)

-- a smaller set
pub on-fewer : (H : Vars) (own : List ℕ) (vs ws : List Held) → ArePartsOn H vs ws → ArePartsOn (minus H (those own)) vs ws
on-fewer H own vs ws q x h = q x (and_parts (H x) (not (those own x)) h).0

pub apart-without : (H G : Vars) (own : List ℕ) → AreApart H (minus G (those own)) → AreApart (minus H (those own)) G
apart-without H G own a x h = go (G x) (those own x) (and_parts (H x) (not (those own x)) h).1 (a x (and_parts (H x) (not (those own x)) h).0)
  where
    go : (g o : Bool) → not o ≡ true → (g && not o) ≡ false → g ≡ false
    go true true e f = absurd (let no : ⊥ = cc e in no)
    go true false e f = f
    go false o e f = refl
