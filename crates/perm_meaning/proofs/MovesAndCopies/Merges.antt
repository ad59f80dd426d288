-- What comes back from the sides of a par: under moves it is a part of what comes back under copies.
use Rattle.std.proofs.Common.{◌≡◌, ℕ, true, Option, refl, List, sym, ap, ◌∙◌, Bool, false, length, subst, arith, cond}
use Rattle.std.specs.Prelude.{◌&&◌, ◌||◌, not, slice_get}
use Rattle.std.proofs.lemmas.Bool.{and_from}
use Rattle.perm_tree.specs.Code.{UnitCode}
use Rattle.perm_tree.specs.Vars.{Vars, plus}
use Rattle.perm_meaning.specs.NamedHeap.{Held}
use Rattle.perm_meaning.specs.Custody.{mentions_l, mentions_r, back_l, back_r, from_either, merged, writes_l, writes_r, isolated_in}
use Rattle.perm_meaning.specs.Machine.{Blocks}
use Rattle.perm_meaning.specs.Steady.{AreApart, stays_l, stays_r, IsSteadyPar}
use Rattle.perm_meaning.specs.HoldsFewer.{IsPart, AreParts, IsPartAt, ArePartsOn, AreKept}
use Rattle.perm_meaning.proofs.OnWords.Related.{vars-length}
use Rattle.perm_meaning.proofs.MovesAndCopies.Parts.{parts-at, part-at-then, parts-from-places, either-length, either-at}
use Rattle.perm_meaning.proofs.MovesAndCopies.KeptVariables.{apart-left, apart-right}

-- ---------- variables ----------
-- a variable after a join
merged-at : (a b : Vars) (vs ls rs : List Held) (x : ℕ) → length ls ≡ length vs → length rs ≡ length vs → slice_get (merged a b vs ls rs) x ≡ cond (b x) (slice_get rs x) (cond (a x) (slice_get ls x) (slice_get vs x))
merged-at a b vs ls rs x e f =
    either-at 0 b rs (from_either a ls vs) x x (omega arith) (f ∙ sym (either-length 0 a ls vs e))
    ∙ ap (λ z. cond (b x) (slice_get rs x) z) (either-at 0 a ls vs x x (omega arith) e)

merged-length : (a b : Vars) (vs ls rs : List Held) → length ls ≡ length vs → length rs ≡ length vs → length (merged a b vs ls rs) ≡ length vs
merged-length a b vs ls rs e f = either-length 0 b rs (from_either a ls vs) (f ∙ sym (either-length 0 a ls vs e)) ∙ either-length 0 a ls vs e

-- what isn't written is as it was
pub join-kept : (a b : Vars) (H : Vars) (ws ls rs : List Held) → length ls ≡ length ws → length rs ≡ length ws → AreApart H (plus a b) → AreKept H ws (merged a b ws ls rs)
join-kept a b H ws ls rs e f q = record {
  long = merged-length a b ws ls rs e f;
  same = λ x h. merged-at a b ws ls rs x e f ∙ ap (λ z. cond z (slice_get rs x) (cond (a x) (slice_get ls x) (slice_get ws x))) (apart-right a b q x h)
      ∙ ap (λ z. cond z (slice_get ls x) (slice_get ws x)) (apart-left a b q x h);
}

-- what is true of one is true of both
in-first-alone : (s t : Bool) → s ≡ true → t ≡ false → (s && not t) ≡ true
in-first-alone s t e f = and_from s (not t) e (ap not f)

-- a variable that the left block writes, or that a side holds and doesn't write, comes back where it stands; all others stay
module _ (u : UnitCode) (n : ℕ) (p : Blocks) (s : IsSteadyPar p) (kv os ws ls ls' rs rs' : List Held) (k : AreParts kv os) (o : AreParts os ws) (l : AreParts ls ls') (r : AreParts rs rs') (kl : ArePartsOn (stays_l p) ls os) (kr : ArePartsOn (stays_r p) rs os)
    (ll : length ls' ≡ length os) (lr : length rs' ≡ length os) where
  kept-length : length kv ≡ length os
  kept-length = vars-length IsPart kv os k

  copied-length : length os ≡ length ws
  copied-length = vars-length IsPart os ws o

  left-length : length ls ≡ length kv
  left-length = vars-length IsPart ls ls' l ∙ ll ∙ sym kept-length

  right-length : length rs ≡ length kv
  right-length = vars-length IsPart rs rs' r ∙ lr ∙ sym kept-length

  -- what comes back from the sides under moves is a part of what comes back under copies
  pub join-parts : AreParts (merged (back_l u n p) (back_r u n p) kv ls rs) (merged (writes_l p) (writes_r p) ws ls' rs')
  join-parts = parts-from-places _ _ long each
    where
      long : length (merged (back_l u n p) (back_r u n p) kv ls rs) ≡ length (merged (writes_l p) (writes_r p) ws ls' rs')
      long = merged-length (back_l u n p) (back_r u n p) kv ls rs left-length right-length ∙ kept-length ∙ copied-length ∙ sym (merged-length (writes_l p) (writes_r p) ws ls' rs' (ll ∙ copied-length) (lr ∙ copied-length))

      each : (x : ℕ) → IsPartAt (slice_get (merged (back_l u n p) (back_r u n p) kv ls rs) x) (slice_get (merged (writes_l p) (writes_r p) ws ls' rs') x)
      each x =
          subst (λ z. IsPartAt z (slice_get (merged (writes_l p) (writes_r p) ws ls' rs') x)) (sym (merged-at (back_l u n p) (back_r u n p) kv ls rs x left-length right-length))
          (subst (λ z. IsPartAt (cond (back_r u n p x) (slice_get rs x) (cond (back_l u n p x) (slice_get ls x) (slice_get kv x))) z) (sym (merged-at (writes_l p) (writes_r p) ws ls' rs' x (ll ∙ copied-length) (lr ∙ copied-length)))
          (cases (writes_r p x) (writes_l p x) (isolated_in u n x) (mentions_r p x) (mentions_l p x) refl refl refl refl))
        where
          was : (a : Option Held) → IsPartAt a (slice_get os x) → IsPartAt a (slice_get ws x)
          was a q = part-at-then a (slice_get os x) (slice_get ws x) q (parts-at os ws o x)

          cases : (wr wl i mr ml : Bool) → writes_r p x ≡ wr → writes_l p x ≡ wl → mentions_r p x ≡ mr → mentions_l p x ≡ ml
              → IsPartAt (cond (wr || (i && mr)) (slice_get rs x) (cond (wl || (i && ml)) (slice_get ls x) (slice_get kv x))) (cond wr (slice_get rs' x) (cond wl (slice_get ls' x) (slice_get ws x)))
          cases true wl i mr ml e f g h = parts-at rs rs' r x
          cases false true true true ml e f g h = absurd (let z = s x (in-first-alone (mentions_r p x) (writes_r p x) g e) in cc)
          cases false false true true ml e f g h = was (slice_get rs x) (kr x (in-first-alone (mentions_r p x) (writes_r p x) g e))
          cases false true true false ml e f g h = parts-at ls ls' l x
          cases false true false mr ml e f g h = parts-at ls ls' l x
          cases false false true false true e f g h = was (slice_get ls x) (kl x (in-first-alone (mentions_l p x) (writes_l p x) h f))
          cases false false true false false e f g h = was (slice_get kv x) (parts-at kv os k x)
          cases false false false mr ml e f g h = was (slice_get kv x) (parts-at kv os k x)

  -- what neither block writes holds no more than before
  pub join-side : (J : Vars) → AreApart J (plus (writes_l p) (writes_r p)) → ArePartsOn J (merged (back_l u n p) (back_r u n p) kv ls rs) os
  join-side J a x j =
      subst (λ z. IsPartAt z (slice_get os x)) (sym (merged-at (back_l u n p) (back_r u n p) kv ls rs x left-length right-length))
      (cases (writes_r p x) (writes_l p x) (isolated_in u n x) (mentions_r p x) (mentions_l p x) (apart-right (writes_l p) (writes_r p) a x j) (apart-left (writes_l p) (writes_r p) a x j) refl refl refl refl)
    where
      cases : (wr wl i mr ml : Bool) → writes_r p x ≡ false → writes_l p x ≡ false → writes_r p x ≡ wr → writes_l p x ≡ wl → mentions_r p x ≡ mr → mentions_l p x ≡ ml
          → IsPartAt (cond (wr || (i && mr)) (slice_get rs x) (cond (wl || (i && ml)) (slice_get ls x) (slice_get kv x))) (slice_get os x)
      cases true wl i mr ml wr0 wl0 e f g h = absurd (let no : ⊥ = cc (wr0, e) in no)
      cases false true i mr ml wr0 wl0 e f g h = absurd (let no : ⊥ = cc (wl0, f) in no)
      cases false false true true ml wr0 wl0 e f g h = kr x (in-first-alone (mentions_r p x) (writes_r p x) g e)
      cases false false true false true wr0 wl0 e f g h = kl x (in-first-alone (mentions_l p x) (writes_l p x) h f)
      cases false false true false false wr0 wl0 e f g h = parts-at kv os k x
      cases false false false mr ml wr0 wl0 e f g h = parts-at kv os k x
