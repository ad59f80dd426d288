-- The other way: left first, the machine that moves goes as the one that copies, as long as it is not stuck.
use Rattle.std.proofs.Common.{◌≡◌, ℕ, Some, refl, ◌≢◌, List, sym, ap, ◌∙◌, zero, suc, Bool, subst, ◌≤◌}
use Rattle.std.specs.Prelude.{ℤ, slice_get}
use Rattle.perm_tree.specs.Code.{Routine, UnitCode}
use Rattle.perm_tree.specs.Vars.{none, Vars}
use Rattle.perm_meaning.specs.NamedHeap.{memory, Final, State, Held, Heap, Op, named, find}
use Rattle.perm_meaning.specs.Steps.{within, alone, Refused, leftmost, Answer, Found, Missing, granted, asked_with_care, careful}
use Rattle.perm_meaning.specs.Outcome.{RanStuck, outcome, opening_state, RanFull, opening_own, reported, opening_need}
use Rattle.perm_meaning.specs.Machine.{Way, final, look, fill}
use Rattle.perm_meaning.specs.Custody.{Copies, Moves}
use Rattle.perm_meaning.specs.Steady.{IsSteady}
use Rattle.perm_meaning.specs.HoldsFewer.{StateHoldsFewer}
use Rattle.perm_meaning.proofs.Leads.{some-inj, none-some, then-some, then-at, unended, ended-no-event}
use Rattle.perm_meaning.proofs.LeftFirst.WholeRun.{ends-as-meaning, fills-as-meaning}
use Rattle.perm_meaning.proofs.MovesAndCopies.Ends.{final-fewer}
use Rattle.perm_meaning.proofs.MovesAndCopies.Events.{EventHoldsFewer, event-fewer}
use Rattle.perm_meaning.proofs.MovesAndCopies.LeftFirst.{leftmost-alike}
use Rattle.perm_meaning.proofs.MovesAndCopies.Runs.{opening-fewer, ends-as-outcome}

-- the machine that moves has ended, or has an event next whose field is there
pub data IsLively (u : UnitCode) (fits : ℕ → Bool) (s : State) : Type 0 where
  has_ended : {f : Final} → final s.task ≡ Some f → IsLively u fits s
  has_event : {o : Op} → look (named Moves u) (leftmost s.task) s.task ≡ Some o → find fits o s.heap ≢ Missing → IsLively u fits s

-- so it is after each number of events, left first
abbrev pub StaysLively : UnitCode → (ℕ → Bool) → State → Type 0
StaysLively u fits s = (k : ℕ) (t : State) → alone (named Moves u) (memory u) fits k s ≡ Some t → IsLively u fits t

module _ (u : UnitCode) (steady : IsSteady u) where
  module _ (fits : ℕ → Bool) {K : Vars} {vp : List Held} where
    careful-back : (s s' t : State) → StateHoldsFewer K vp s s' → IsLively u fits s → careful (named Copies u) (memory u) fits s' (leftmost s'.task) ≡ Some t → (s1 : State) × (careful (named Moves u) (memory u) fits s (leftmost s.task) ≡ Some s1) × StateHoldsFewer K vp s1 t
    careful-back s s' t h (has_ended {f = f} q) e =
        let g = final-fewer K vp h.0 f q in
        none-some (sym (ap (λ z. asked_with_care (named Copies u) (memory u) fits s' (leftmost s'.task) z) (ended-no-event (named Copies u) (leftmost s'.task) s'.task g.0 g.1)) ∙ e)
    careful-back s s' t h (has_event {o = o} q there) e = answer (found-at s.heap) refl (sym same ∙ e)
      where
        w : Way
        w = leftmost s.task

        ev : EventHoldsFewer u steady K vp (leftmost s.task) s.task s'.task o
        ev = event-fewer u steady h.0 (leftmost s.task) o q

        found-at : Heap → Answer Held
        found-at z = (memory u).find fits o z

        same : careful (named Copies u) (memory u) fits s' (leftmost s'.task) ≡ granted (named Copies u) (memory u) fits s' (leftmost s.task) o (found-at s.heap)
        same = ap (λ w. careful (named Copies u) (memory u) fits s' w) (sym (leftmost-alike h.0)) ∙ ap (λ z. asked_with_care (named Copies u) (memory u) fits s' (leftmost s.task) z) ev.0 ∙ ap (λ z. granted (named Copies u) (memory u) fits s' (leftmost s.task) o (found-at z)) h.1

        first : careful (named Moves u) (memory u) fits s (leftmost s.task) ≡ granted (named Moves u) (memory u) fits s (leftmost s.task) o (found-at s.heap)
        first = ap (λ z. asked_with_care (named Moves u) (memory u) fits s (leftmost s.task) z) q

        answer : (a : Answer Held) → found-at s.heap ≡ a → granted (named Copies u) (memory u) fits s' (leftmost s.task) o (found-at s.heap) ≡ Some t → (s1 : State) × (careful (named Moves u) (memory u) fits s (leftmost s.task) ≡ Some s1) × StateHoldsFewer K vp s1 t
        answer (Found v) j e =
            let r = some-inj (sym (ap (λ z. granted (named Copies u) (memory u) fits s' (leftmost s.task) o z) j) ∙ e) in
            (_, first ∙ ap (λ z. granted (named Moves u) (memory u) fits s (leftmost s.task) o z) j, subst (λ z. StateHoldsFewer K vp (record { task = fill (named Moves u) (leftmost s.task) s.task (Some v); heap = (memory u).after fits o s.heap }) z) r (ev.1 (Some v), ap (λ z. (memory u).after fits o z) h.1))
        answer Refused j e = none-some (sym (ap (λ z. granted (named Copies u) (memory u) fits s' (leftmost s.task) o z) j) ∙ e)
        answer Missing j e = none-some (sym (ap (λ z. granted (named Copies u) (memory u) fits s' (leftmost s.task) o z) j) ∙ e)

    -- left first, the machine that moves goes as the one that copies, as long as it isn't stuck
    pub alone-back : (n : ℕ) (s s' t : State) → StateHoldsFewer K vp s s' → StaysLively u fits s → alone (named Copies u) (memory u) fits n s' ≡ Some t → (s1 : State) × (alone (named Moves u) (memory u) fits n s ≡ Some s1) × StateHoldsFewer K vp s1 t
    alone-back zero s s' t h lively e = (s, refl, subst (λ z. StateHoldsFewer K vp s z) (some-inj e) h)
    alone-back (suc n) s s' t h lively e =
        let a = then-some (careful (named Copies u) (memory u) fits s' (leftmost s'.task)) (alone (named Copies u) (memory u) fits n) t e in
        let b = careful-back s s' a.0 h (lively 0 s refl) a.1 in
        let on = then-at (careful (named Moves u) (memory u) fits s (leftmost s.task)) (alone (named Moves u) (memory u) fits n) b.0 b.1 in
        let c = alone-back n b.0 a.0 t b.2 (λ k z q. lively (suc k) z (then-at (careful (named Moves u) (memory u) fits s (leftmost s.task)) (alone (named Moves u) (memory u) fits k) b.0 b.1 ∙ q)) a.2 in
        (c.0, on ∙ c.1, c.2)

  module _ (limit : ℕ) (input : List ℤ) (turns : ℕ) (r : Routine) (is : slice_get u.routines u.run ≡ Some r) (room : opening_need u input ≤ limit) where
    abbrev start : State
    start = opening_state u input turns r

    -- left first, the core comes to the end that the meaning says
    pub comes-to-outcome : StaysLively u (within limit) start → outcome u input turns limit ≢ RanStuck → outcome u input turns limit ≢ RanFull
        → (n : ℕ) × (s : State) × (f : Final) × (alone (named Moves u) (memory u) (within limit) n start ≡ Some s) × (final s.task ≡ Some f) × (reported turns f s.heap ≡ outcome u input turns limit)
    comes-to-outcome lively unstuck full =
        let c = ends-as-meaning u limit input turns r is room unstuck full in
        let a = alone-back (within limit) c.0 start start c.1 (opening-fewer u steady limit input turns r is) lively c.3 in
        last c.0 a.0 a.1 (lively c.0 a.0 a.1) c.1 c.2 a.2 c.4
      where
        last : (n : ℕ) (s : State) → alone (named Moves u) (memory u) (within limit) n start ≡ Some s → IsLively u (within limit) s → (t : State) (g : Final) → StateHoldsFewer none (opening_own u input r).vars s t → final t.task ≡ Some g
            → (n : ℕ) × (s : State) × (f : Final) × (alone (named Moves u) (memory u) (within limit) n start ≡ Some s) × (final s.task ≡ Some f) × (reported turns f s.heap ≡ outcome u input turns limit)
        last n s e (has_ended {f = f} q) t g h p = (n, s, f, e, q, ends-as-outcome u steady limit input turns r is room unstuck n s f e q)
        last n s e (has_event {o = o} q there) t g h p = none-some (sym (unended (named Copies u) (leftmost s.task) t.task o (event-fewer u steady h.0 (leftmost s.task) o q).0) ∙ p)

    -- and where the heap doesn't hold the run, to the allocation that is refused
    pub fills-as-outcome : StaysLively u (within limit) start → outcome u input turns limit ≡ RanFull
        → (n : ℕ) × (s : State) × (o : Op) × (alone (named Moves u) (memory u) (within limit) n start ≡ Some s) × (look (named Moves u) (leftmost s.task) s.task ≡ Some o) × (find (within limit) o s.heap ≡ Refused)
    fills-as-outcome lively full =
        let c = fills-as-meaning u limit input turns r is room full in
        let a = alone-back (within limit) c.0 start start c.1 (opening-fewer u steady limit input turns r is) lively c.3 in
        last c.0 a.0 a.1 (lively c.0 a.0 a.1) c.1 c.2 a.2 c.4 c.5
      where
        last : (n : ℕ) (s : State) → alone (named Moves u) (memory u) (within limit) n start ≡ Some s → IsLively u (within limit) s → (t : State) (p : Op) → StateHoldsFewer none (opening_own u input r).vars s t
            → look (named Copies u) (leftmost t.task) t.task ≡ Some p → find (within limit) p t.heap ≡ Refused
            → (n : ℕ) × (s : State) × (o : Op) × (alone (named Moves u) (memory u) (within limit) n start ≡ Some s) × (look (named Moves u) (leftmost s.task) s.task ≡ Some o) × (find (within limit) o s.heap ≡ Refused)
        last n s e (has_ended {f = f} q) t p h l z =
            let g = final-fewer none (opening_own u input r).vars h.0 f q in
            none-some (sym (ended-no-event (named Copies u) (leftmost t.task) t.task g.0 g.1) ∙ l)
        last n s e (has_event {o = o} q there) t p h l z =
            let ev = event-fewer u steady h.0 (leftmost s.task) o q in
            let same = some-inj (sym l ∙ ap (λ w. look (named Copies u) w t.task) (sym (leftmost-alike h.0)) ∙ ev.0) in
            (n, s, o, e, q, ap (λ i. find (within limit) i s.heap) (sym same) ∙ ap (λ i. find (within limit) p i) (sym h.1) ∙ z)
