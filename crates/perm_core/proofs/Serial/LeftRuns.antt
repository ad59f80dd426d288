-- Left first, the core of a checked unit goes as the machine that copies variables. So its meaning isn't stuck, where the core neither is nor ends as if it were, and the core ends as the meaning says.
use Rattle.std.proofs.Common.{◌≡◌, ◌≢◌, ℕ, Some, List, ◌⊎◌, inl, inr, sym, ap, ◌∙◌}
use Rattle.std.specs.Prelude.{ℤ}
use Rattle.perm_tree.specs.Code.{Routine, UnitCode}
use Rattle.perm_tree.specs.Vars.{none}
use Rattle.perm_meaning.specs.Machine as machines
use Rattle.perm_meaning.specs.Machine.{Final, final}
use Rattle.perm_meaning.specs.Custody.{Copies}
use Rattle.perm_meaning.specs.NamedHeap as named
use Rattle.perm_meaning.specs.NamedHeap.{State, memory}
use Rattle.perm_meaning.specs.Steps.{Refused, within, alone, leftmost}
use Rattle.perm_meaning.specs.Outcome.{RanFull, RanStuck, outcome, opening_own, opening_state, reported}
use Rattle.perm_meaning.specs.Steady.{IsSteady}
use Rattle.perm_meaning.specs.HoldsFewer.{StateHoldsFewer}
use Rattle.perm_meaning.proofs.Leads.{some-inj, none-some, unended}
use Rattle.perm_meaning.specs.Claims.{Opens}
use Rattle.perm_meaning.proofs.MovesAndCopies.Ends.{final-fewer}
use Rattle.perm_meaning.proofs.MovesAndCopies.Events.{event-fewer}
use Rattle.perm_meaning.proofs.MovesAndCopies.LeftFirst.{told-alike, leftmost-alike}
use Rattle.perm_meaning.proofs.MovesAndCopies.Runs.{opening-fewer}
use Rattle.perm_meaning.proofs.MovesAndCopies.RunsBack.{IsLively, has_ended, has_event, StaysLively, alone-back, comes-to-outcome, fills-as-outcome}
use Rattle.perm_core.specs.Core.{core, look, told_of, core_outcome}
use Rattle.perm_core.specs.Claims.{IsChecked}
use Rattle.perm_core.proofs.Serial.SteadyCodes.{checked-steady}
use Rattle.perm_core.proofs.Serial.StuckMeanings.CalledCodes.{AllReturn}
use Rattle.perm_core.proofs.Serial.StuckMeanings.Stops.{IsStopped, Stops}
use Rattle.perm_core.proofs.Serial.StuckMeanings.StuckRuns.{EndsUntold, stuck-run}

module _ (u : UnitCode) (limit : ℕ) (input : List ℤ) (turns : ℕ) (r : Routine) (is : IsChecked u) (o : Opens u limit input r) (lively : StaysLively u (within limit) (opening_state u input turns r)) where
  steady : IsSteady u
  steady = checked-steady u is

  returning : AllReturn u
  returning m r here = (is.whole.routines m r here).returns

  abbrev first : State
  first = opening_state u input turns r

  begins : StateHoldsFewer none (opening_own u input r).vars first first
  begins = opening-fewer u steady limit input turns r o.run

  -- left first, no ended run of the core is told as stuck
  abbrev pub NoneTold : Type 0
  NoneTold = (n : ℕ) (s : State) (f : Final named.Held) → alone (core u) (memory u) (within limit) n (opening_state u input turns r) ≡ Some s → final s.task ≡ Some f → core_outcome turns s ≢ Some RanStuck

  -- so the meaning isn't stuck: where it is, the machine that copies variables stops or ends untold, left first, and so would the core
  pub meaning-unstuck : NoneTold → outcome u input turns limit ≢ RanStuck
  meaning-unstuck none_told p = by_copies (stuck-run u returning limit input turns r o.run o.fits p)
    where
      -- a lively state of the core goes with no state that has stopped
      no_stop : (s t : State) → StateHoldsFewer none (opening_own u input r).vars s t → IsStopped u (within limit) t → IsLively u (within limit) s → ⊥
      no_stop s t h stopped (has_ended {f = f} q) = none-some (sym stopped.unended ∙ (final-fewer none (opening_own u input r).vars h.0 f q).1)
      no_stop s t h stopped (has_event {o = p} q there) =
          let ev = event-fewer u steady h.0 (leftmost s.task) p q in
          there (ap (λ z. named.find (within limit) p z) (sym h.1) ∙ stopped.missing p (ap (λ w. machines.look (named.named Copies u) w t.task) (sym (leftmost-alike h.0)) ∙ ev.0))

      -- and where that has ended untold, so has the core
      no_end : (n : ℕ) (s t : State) (g : Final named.Held) → alone (core u) (memory u) (within limit) n first ≡ Some s → StateHoldsFewer none (opening_own u input r).vars s t → final t.task ≡ Some g → reported turns g t.heap ≡ RanStuck → IsLively u (within limit) s → ⊥
      no_end n s t g e h over stuck (has_ended {f = f} q) =
          let b = final-fewer none (opening_own u input r).vars h.0 f q in
          none_told n s f e q
          (ap (λ z. told_of turns s z) q
          ∙ ap (λ z. Some z) (told-alike none (opening_own u input r).vars turns s.heap f b.0 b.2 ∙ ap (λ z. reported turns b.0 z) (sym h.1) ∙ ap (λ z. reported turns z t.heap) (some-inj (sym b.1 ∙ over)) ∙ stuck))
      no_end n s t g e h over stuck (has_event {o = p} q there) = none-some (sym (unended (named.named Copies u) (leftmost s.task) t.task p (event-fewer u steady h.0 (leftmost s.task) p q).0) ∙ over)

      by_copies : Stops u (within limit) first ⊎ EndsUntold u (within limit) turns first → ⊥
      by_copies (inl x) = let a = alone-back u steady (within limit) x.run.0 first first x.state begins lively x.run.1 in no_stop a.0 x.state a.2 x.stopped (lively x.run.0 a.0 a.1)
      by_copies (inr x) = let a = alone-back u steady (within limit) x.events first first x.state begins lively x.run in no_end x.events a.0 x.state x.ending a.1 a.2 x.over x.told (lively x.events a.0 a.1)

  -- left first, the core comes to an end, which is the one that the meaning says, where the heap holds the run
  pub left-first-comes : NoneTold → outcome u input turns limit ≢ RanFull
      → (n : ℕ) × (s : State) × (alone (core u) (memory u) (within limit) n (opening_state u input turns r) ≡ Some s) × (core_outcome turns s ≡ Some (outcome u input turns limit))
  left-first-comes none_told full =
      let a = comes-to-outcome u steady limit input turns r o.run o.fits lively (meaning-unstuck none_told) full in
      (a.0, a.1, a.3, ap (λ z. told_of turns a.1 z) a.4 ∙ ap (λ z. Some z) a.5)

  -- and to the refused allocation, where the heap doesn't hold the run
  pub left-first-fills : outcome u input turns limit ≡ RanFull
      → (n : ℕ) × (s : State) × (p : named.Op) × (alone (core u) (memory u) (within limit) n (opening_state u input turns r) ≡ Some s) × (look u (leftmost s.task) s.task ≡ Some p) × (named.find (within limit) p s.heap ≡ Refused)
  left-first-fills full = fills-as-outcome u steady limit input turns r o.run o.fits lively full
