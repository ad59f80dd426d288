-- Which variables have a value after they are assigned, cleared, handed on or begun.
use Rattle.std.proofs.Common.{◌≡◌, ℕ, zero, suc, Bool, true, false, Option, Some, None, List, [], ◌∷◌, ◌++◌, length, refl, ap, ◌∙◌, inl, inr}
use Rattle.std.specs.Prelude.{◌⊎◌, ◌&&◌, ◌||◌, not, nat_eq, slice_get, replicate}
use Rattle.std.proofs.lemmas.Bool.{or_cases, or_left, or_right}
use Rattle.perm_tree.specs.Code.{Tie, Shares, Raises, Lends, Argument, Instruction, Declare, Assign, LoadField, LoadLength, LoadItem, TakeField, StoreField, StoreItem, Print, UnitCode}
use Rattle.perm_tree.specs.Mentions.{any_in_argument, mentions}
use Rattle.perm_tree.specs.Vars.{Vars, just, below, those, plus, minus, meet, IsWithin}
use Rattle.perm_meaning.specs.Values.{Value}
use Rattle.perm_meaning.specs.Names.{Name}
use Rattle.perm_meaning.specs.Expressions.{tagged, assign, assign_into, clear, clear_all}
use Rattle.perm_meaning.specs.Custody.{Moves, from_either, only, while_called}
use Rattle.perm_meaning.specs.NamedHeap.{Held, Op, Own}
use Rattle.perm_meaning.specs.Turns.{lent_back}
use Rattle.perm_meaning.proofs.SameName.{together, eq-itself}
use Rattle.perm_core.specs.Picture.{has_value, valued, just_lent, just_taken}
use Rattle.perm_core.proofs.KeepsPicture.Calls.CallEnds.{set-cases}
use Rattle.perm_core.proofs.KeepsPicture.Calls.Gives.{clear-cases, clear_all-cases, either-cases}
use Rattle.perm_core.proofs.KeepsPicture.Pars.ParStarts.{only-cases}
use Rattle.perm_core.proofs.KeepsPicture.Turns.LeafTurns.{Evaluates, no_more, plain, consumes, Gives_one, plain_one, consumes_one, Receives, first, last, Acts, declares, assigns, loads, measures, reads, takes, stores, writes, prints}

-- a variable that has a value, and the value
pub has-of : (vs : List Held) (x : ℕ) → valued vs x ≡ true → (a : Value Name) × (slice_get vs x ≡ Some (Some a))
has-of vs x e = go (slice_get vs x) refl e
  where
    go : (o : Option Held) → slice_get vs x ≡ o → has_value o ≡ true → (a : Value Name) × (slice_get vs x ≡ Some (Some a))
    go None q e = absurd (let no : ⊥ = cc e in no)
    go (Some None) q e = absurd (let no : ⊥ = cc e in no)
    go (Some (Some a)) q e = (a, q)

pub valued-of : (vs : List Held) (x : ℕ) (a : Value Name) → slice_get vs x ≡ Some (Some a) → valued vs x ≡ true
valued-of vs x a e = ap has_value e

pub assign-within : (vs : List Held) (x : ℕ) (v : Held) → IsWithin (valued (assign vs x v)) (plus (valued vs) (just x))
assign-within vs x v y e = go (has-of (assign vs x v) y e)
  where
    pick : (a : Value Name) → ((y ≡ x) × (v ≡ Some a)) ⊎ ((y ≡ x → ⊥) × (slice_get vs y ≡ Some (Some a))) → (valued vs y || nat_eq y x) ≡ true
    pick a (inl (i, q)) = or_right (valued vs y) (nat_eq y x) (ap (λ z. nat_eq z x) i ∙ eq-itself x)
    pick a (inr (i, q)) = or_left (valued vs y) (nat_eq y x) (valued-of vs y a q)

    go : (a : Value Name) × (slice_get (assign vs x v) y ≡ Some (Some a)) → (valued vs y || nat_eq y x) ≡ true
    go (a, q) = pick a (set-cases vs x v y (Some a) q)

pub clear-within : (vs : List Held) (x : ℕ) → IsWithin (valued (clear tagged vs x)) (valued vs)
clear-within vs x y e = go (has-of (clear tagged vs x) y e)
  where
    go : (a : Value Name) × (slice_get (clear tagged vs x) y ≡ Some (Some a)) → valued vs y ≡ true
    go (a, q) = valued-of vs y a (clear-cases vs x y a q).1

pub clear_all-within : (vs : List Held) (own : List ℕ) → IsWithin (valued (clear_all tagged vs own)) (minus (valued vs) (those own))
clear_all-within vs own y e = go (has-of (clear_all tagged vs own) y e)
  where
    go : (a : Value Name) × (slice_get (clear_all tagged vs own) y ≡ Some (Some a)) → (valued vs y && not (those own y)) ≡ true
    go (a, q) = let p = clear_all-cases own vs y a q in together (valued vs y) (not (those own y)) (valued-of vs y a p.1) (ap (λ b. not b) p.0)

pub only-within : (G : Vars) (vs : List Held) → IsWithin (valued (only tagged G vs)) (meet G (valued vs))
only-within G vs y e = go (has-of (only tagged G vs) y e)
  where
    go : (a : Value Name) × (slice_get (only tagged G vs) y ≡ Some (Some a)) → (G y && valued vs y) ≡ true
    go (a, q) = let p = only-cases G vs y a q in together (G y) (valued vs y) p.0 (valued-of vs y a p.1)

pub either-within : (G : Vars) (vs ws : List Held) → IsWithin (valued (from_either G vs ws)) (plus (meet G (valued vs)) (minus (valued ws) G))
either-within G vs ws y e = go (has-of (from_either G vs ws) y e)
  where
    pick : (a : Value Name) → ((G y ≡ true) × (slice_get vs y ≡ Some (Some a))) ⊎ ((G y ≡ false) × (slice_get ws y ≡ Some (Some a))) → ((G y && valued vs y) || (valued ws y && not (G y))) ≡ true
    pick a (inl (g, q)) = or_left (G y && valued vs y) (valued ws y && not (G y)) (together (G y) (valued vs y) g (valued-of vs y a q))
    pick a (inr (g, q)) = or_right (G y && valued vs y) (valued ws y && not (G y)) (together (valued ws y) (not (G y)) (valued-of ws y a q) (ap (λ b. not b) g))

    go : (a : Value Name) × (slice_get (from_either G vs ws) y ≡ Some (Some a)) → ((G y && valued vs y) || (valued ws y && not (G y))) ≡ true
    go (a, q) = pick a (either-cases G vs ws y (Some a) q)

pub into-within : (vs : List Held) (into : Option ℕ) (v : Held) → IsWithin (valued (assign_into vs into v)) (plus (valued vs) (just_taken into))
into-within vs None v y e = or_left (valued vs y) false e
into-within vs (Some x) v y e = assign-within vs x v y e

pub back-within : (lent : Option Held) (y : ℕ) (vs : List Held) → IsWithin (valued (lent_back lent y vs)) (plus (valued vs) (just_lent lent y))
back-within None y vs x e = or_left (valued vs x) false e
back-within (Some v) y vs x e = assign-within vs y v x e

-- ---------- statements ----------
pub one-within : (vs ws : List Held) (a : Argument) (v : Held) → Gives_one vs a v ws → IsWithin (valued ws) (valued vs)
one-within vs _ _ _ (plain_one e v q) = λ y m. m
one-within vs _ _ _ (consumes_one y v here q) = clear-within vs y

pub evaluates-within : (args : List Argument) (vs found ws : List Held) → Evaluates args vs found ws → IsWithin (valued ws) (valued vs)
evaluates-within _ _ _ _ (no_more vs) y m = m
evaluates-within _ _ _ _ (plain e v rest vs found ws q more) y m = evaluates-within rest vs found ws more y m
evaluates-within _ _ _ _ (consumes x v rest vs found ws here q more) y m = clear-within vs x y (evaluates-within rest (clear tagged vs x) found ws more y m)

-- what stays with a caller, and what its arguments leave
pub kept-within : (tie : Tie) (y : ℕ) (vs : List Held) → IsWithin (valued (while_called tagged Moves tie y vs)) (valued vs)
kept-within Shares y vs x e = e
kept-within Raises y vs x e = e
kept-within Lends y vs x e = clear-within vs y x e

pub receives-within : (u : UnitCode) (l : Own) (consumed : Bool) (y : ℕ) (args : List Argument) (this : Held) (found vs : List Held) → Receives u l consumed y args this found vs → IsWithin (valued vs) (valued l.vars)
receives-within u l _ _ _ _ _ _ (first y args this found vs here q is) x e = clear-within l.vars y x (evaluates-within args (clear tagged l.vars y) found vs is x e)
receives-within u l _ _ _ _ _ _ (last y args this found vs is here) x e = evaluates-within args l.vars found vs is x e

-- what a simple statement gives a value stands in it
pub acts-within : (u : UnitCode) (l : Own) (w : Held) (i : Instruction) (o : Op) (vs : List Held) → Acts u l w i o vs → IsWithin (valued vs) (plus (valued l.vars) (mentions i))
acts-within u l w i o vs acts y e = go i o vs acts e
  where
    old : (i : Instruction) → valued l.vars y ≡ true → plus (valued l.vars) (mentions i) y ≡ true
    old i e = or_left (valued l.vars y) (mentions i y) e

    set : (ws : List Held) (x : ℕ) (v : Held) (i : Instruction) → (just x y ≡ true → mentions i y ≡ true) → IsWithin (valued ws) (valued l.vars) → valued (assign ws x v) y ≡ true → plus (valued l.vars) (mentions i) y ≡ true
    set ws x v i stands less e = pick (or_cases (valued ws y) (just x y) (assign-within ws x v y e))
      where
        pick : (valued ws y ≡ true) ⊎ (just x y ≡ true) → plus (valued l.vars) (mentions i) y ≡ true
        pick (inl q) = old i (less y q)
        pick (inr q) = or_right (valued l.vars y) (mentions i y) (stands q)

    go : (i : Instruction) (o : Op) (vs : List Held) → Acts u l w i o vs → valued vs y ≡ true → plus (valued l.vars) (mentions i) y ≡ true
    go _ _ _ (declares x) e = old (Declare x) (clear-within l.vars x y e)
    go _ _ _ (assigns x a v ws one) e = set ws x v (Assign x a) (λ q. or_left (nat_eq y x) (any_in_argument (nat_eq y) a) q) (one-within l.vars ws a v one) e
    go _ _ _ (loads x z f r n here) e = set l.vars x w (LoadField x z f) (λ q. or_left (nat_eq y x) (nat_eq y z) q) (λ z m. m) e
    go _ _ _ (measures x z r n here) e = set l.vars x _ (LoadLength x z) (λ q. or_left (nat_eq y x) (nat_eq y z) q) (λ z m. m) e
    go _ _ _ (reads x z i r n f here) e = set l.vars x w (LoadItem x z i) (λ q. or_left (nat_eq y x) _ q) (λ z m. m) e
    go _ _ _ (takes x z f r n here) e = set l.vars x w (TakeField x z f) (λ q. or_left (nat_eq y x) (nat_eq y z) q) (λ z m. m) e
    go _ _ _ (stores z f a v ws r n one here) e = old (StoreField z f a) (one-within l.vars ws a v one y e)
    go _ _ _ (writes z i t v k r n f q p here) e = old (StoreItem z i t) e
    go _ _ _ (prints t) e = old (Print t) e

-- ---------- methods ----------
found-below : (found : List Held) (n y : ℕ) → valued (found ++ replicate n None) y ≡ true → below (length found) y ≡ true
found-below [] zero y e = absurd (let no : ⊥ = cc e in no)
found-below [] (suc n) zero e = absurd (let no : ⊥ = cc e in no)
found-below [] (suc n) (suc y) e = absurd (let no : ⊥ = cc (found-below [] n y e) in no)
found-below (v ∷ found) n zero e = refl
found-below (v ∷ found) n (suc y) e = found-below found n y e

-- at the start of a method `this` and its parameters have values
pub first-within : (this : Held) (found : List Held) (n : ℕ) → IsWithin (valued (this ∷ (found ++ replicate n None))) (below (suc (length found)))
first-within this found n zero e = refl
first-within this found n (suc y) e = found-below found n y e
