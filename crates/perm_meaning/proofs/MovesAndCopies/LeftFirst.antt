-- Ended roots tell the same, and left first the machine that copies goes as the one that moves.
use Rattle.std.proofs.Common.{◌≡◌, ℕ, Option, Some, None, refl, List, sym, ap, ◌∙◌, zero, suc, Bool, subst}
use Rattle.perm_tree.specs.Code.{UnitCode}
use Rattle.perm_tree.specs.Vars.{Vars}
use Rattle.perm_meaning.specs.NamedHeap.{memory, Final, State, Held, Heap, Task, Op, named}
use Rattle.perm_meaning.specs.Steps.{alone, Refused, leftmost, Answer, Found, Missing, granted, asked_with_care, careful, leftmost_of}
use Rattle.perm_meaning.specs.Machine.{Way, final, look, GoL, GoR, Stage, Over, Due, stage, fill, Fine, GaveBack, Failed, over}
use Rattle.perm_meaning.specs.Custody.{Copies, Moves}
use Rattle.perm_meaning.specs.Outcome.{reported}
use Rattle.perm_meaning.specs.Steady.{IsSteady}
use Rattle.perm_meaning.specs.HoldsFewer.{TaskHoldsFewer, leaf, fork, StateHoldsFewer, FinalHoldsFewer}
use Rattle.perm_meaning.proofs.Leads.{some-inj, none-some, then-some, then-at}
use Rattle.perm_meaning.proofs.MovesAndCopies.Ends.{StageHoldsFewer, stage-fewer}
use Rattle.perm_meaning.proofs.MovesAndCopies.Events.{EventHoldsFewer, event-fewer}

-- ---------- ends ----------
-- ended roots tell the same
pub told-alike : (K : Vars) (vp : List Held) (turns : ℕ) (h : Heap) (f g : Final) → FinalHoldsFewer K vp f g → reported turns f h ≡ reported turns g h
told-alike K vp turns h (Fine vs t p) (Fine ws n q) k = refl
told-alike K vp turns h (GaveBack v t p) (GaveBack w n q) k = λ i. reported turns (GaveBack (k.0 i) (k.1 i) (k.2 i)) h
told-alike K vp turns h (Failed e t p) (Failed e' n q) k = λ i. reported turns (Failed (k.0 i) (k.1 i) (k.2 i)) h
told-alike K vp turns h (Fine vs t p) (GaveBack w n q) k = absurd k
told-alike K vp turns h (Fine vs t p) (Failed e' n q) k = absurd k
told-alike K vp turns h (GaveBack v t p) (Fine ws n q) k = absurd k
told-alike K vp turns h (GaveBack v t p) (Failed e' n q) k = absurd k
told-alike K vp turns h (Failed e t p) (Fine ws n q) k = absurd k
told-alike K vp turns h (Failed e t p) (GaveBack w n q) k = absurd k

-- ---------- left first ----------
module _ (K : Vars) (vp : List Held) where
  -- both are over, or neither
  abbrev pub OverHoldsFewer : Option Final → Option Final → Type 0
  OverHoldsFewer None None = Unit {0}
  OverHoldsFewer (Some f) (Some g) = FinalHoldsFewer K vp f g
  OverHoldsFewer _ _ = ⊥

  over-alike : (x y : Stage Held) → StageHoldsFewer K vp x y → OverHoldsFewer (over x) (over y)
  over-alike (Over f) (Over g) h = h
  over-alike (Over f) (Due n) h = absurd h
  over-alike (Due t) (Over g) h = absurd h
  over-alike (Due t) (Due n) h = tt

  pub finals-alike : {t s : Task} → TaskHoldsFewer K vp t s → OverHoldsFewer (final t) (final s)
  finals-alike (leaf {b = b} {c = c} h) = over-alike (stage b) (stage c) (stage-fewer K vp h)
  finals-alike (fork h q s b i a j p x y) = tt

ways-alike : (K L : Vars) (vp vq : List Held) (f g f' g' : Option Final) (l r l' r' : Way) → OverHoldsFewer K vp f f' → OverHoldsFewer L vq g g' → l ≡ l' → r ≡ r' → leftmost_of f g l r ≡ leftmost_of f' g' l' r'
ways-alike K L vp vq None g None g' l r l' r' h k e q = ap (λ w. GoL w) e
ways-alike K L vp vq (Some x) None (Some y) None l r l' r' h k e q = ap (λ w. GoR w) q
ways-alike K L vp vq (Some x) (Some z) (Some y) (Some w) l r l' r' h k e q = refl
ways-alike K L vp vq None g (Some y) g' l r l' r' h k e q = absurd h
ways-alike K L vp vq (Some x) g None g' l r l' r' h k e q = absurd h
ways-alike K L vp vq (Some x) None (Some y) (Some w) l r l' r' h k e q = absurd k
ways-alike K L vp vq (Some x) (Some z) (Some y) None l r l' r' h k e q = absurd k

-- the leftmost node of the one is that of the other
pub leftmost-alike : {K : Vars} {vp : List Held} {t s : Task} → TaskHoldsFewer K vp t s → leftmost t ≡ leftmost s
leftmost-alike (leaf h) = refl
leftmost-alike (fork h q s b i a j p x y) = ways-alike _ _ _ _ _ _ _ _ _ _ _ _ (finals-alike _ _ x) (finals-alike _ _ y) (leftmost-alike x) (leftmost-alike y)

module _ (u : UnitCode) (steady : IsSteady u) where
  module _ (fits : ℕ → Bool) {K : Vars} {vp : List Held} where
    careful-fewer : (s s' s1 : State) (w : Way) → StateHoldsFewer K vp s s' → careful (named Moves u) (memory u) fits s w ≡ Some s1 → (t : State) × (careful (named Copies u) (memory u) fits s' w ≡ Some t) × StateHoldsFewer K vp s1 t
    careful-fewer s s' s1 w h e = go (look (named Moves u) w s.task) refl e
      where
        go : (o : Option Op) → look (named Moves u) w s.task ≡ o → asked_with_care (named Moves u) (memory u) fits s w o ≡ Some s1 → (t : State) × (careful (named Copies u) (memory u) fits s' w ≡ Some t) × StateHoldsFewer K vp s1 t
        go None i e = none-some e
        go (Some o) i e = answer (found-at s.heap) refl e
          where
            ev : EventHoldsFewer u steady K vp w s.task s'.task o
            ev = event-fewer u steady h.0 w o i

            found-at : Heap → Answer Held
            found-at z = (memory u).find fits o z

            same : careful (named Copies u) (memory u) fits s' w ≡ granted (named Copies u) (memory u) fits s' w o (found-at s.heap)
            same = ap (λ z. asked_with_care (named Copies u) (memory u) fits s' w z) ev.0 ∙ ap (λ z. granted (named Copies u) (memory u) fits s' w o (found-at z)) h.1

            answer : (a : Answer Held) → found-at s.heap ≡ a → granted (named Moves u) (memory u) fits s w o a ≡ Some s1 → (t : State) × (careful (named Copies u) (memory u) fits s' w ≡ Some t) × StateHoldsFewer K vp s1 t
            answer (Found v) j e = (_, same ∙ ap (λ z. granted (named Copies u) (memory u) fits s' w o z) j, subst (λ z. StateHoldsFewer K vp z (record { task = fill (named Copies u) w s'.task (Some v); heap = (memory u).after fits o s'.heap })) (some-inj e) (ev.1 (Some v), ap (λ z. (memory u).after fits o z) h.1))
            answer Refused j e = none-some e
            answer Missing j e = none-some e

    -- left first, the machine that copies goes as the one that moves
    pub alone-fewer : (n : ℕ) (s s' s1 : State) → StateHoldsFewer K vp s s' → alone (named Moves u) (memory u) fits n s ≡ Some s1 → (t : State) × (alone (named Copies u) (memory u) fits n s' ≡ Some t) × StateHoldsFewer K vp s1 t
    alone-fewer zero s s' s1 h e = (s', refl, subst (λ z. StateHoldsFewer K vp z s') (some-inj e) h)
    alone-fewer (suc n) s s' s1 h e =
        let a = then-some (careful (named Moves u) (memory u) fits s (leftmost s.task)) (alone (named Moves u) (memory u) fits n) s1 e in
        let b = careful-fewer s s' a.0 (leftmost s.task) h a.1 in
        let c = alone-fewer n a.0 b.0 s1 b.2 a.2 in
        (c.0, then-at (careful (named Copies u) (memory u) fits s' (leftmost s'.task)) (alone (named Copies u) (memory u) fits n) b.0 (ap (λ w. careful (named Copies u) (memory u) fits s' w) (sym (leftmost-alike h.0)) ∙ b.1) ∙ c.1, c.2)
