-- Where each event keeps the picture, all complete lists of events from a state with a picture have a refused allocation or none has, and they end alike.
use Rattle.std.proofs.Common.{◌≡◌, ℕ, ◌≤◌, Some, List, sym, ap, ◌∙◌, arith}
use Rattle.perm_tree.specs.Code.{UnitCode}
use Rattle.perm_meaning.specs.Machine.{Way, Fine, GaveBack, Failed, final}
use Rattle.perm_meaning.specs.NamedHeap.{Heap, Final, State}
use Rattle.perm_meaning.specs.Outcome.{RanFull, reported}
use Rattle.perm_core.specs.Core.{told_of, core_outcome}
use Rattle.perm_core.specs.Claims.{IsChecked}
use Rattle.perm_core.specs.Serial.{SomeRefused}
use Rattle.perm_core.proofs.Serial.FreeRuns.{KeepsPictures, HasPicture, Complete, free-confluent, free-never-more}
use Rattle.perm_core.proofs.Serial.Refusals.{EndsFull, lacking-ends, refused-lacks, some-refused-or-not, unrefused-runs-free, unrefused-runs-within, refused-list-exceeds}

-- a state that ended for want of room tells that the heap is full
reported-full : (turns : ℕ) (f : Final) (h : Heap) → EndsFull f → reported turns f h ≡ RanFull
reported-full turns (Fine vs t p) h is = absurd is
reported-full turns (GaveBack v t p) h is = absurd is
reported-full turns (Failed e t p) h is = ap (λ z. reported turns (Failed z t p) h) is

pub told-full : (turns : ℕ) (s : State) (f : Final) → final s.task ≡ Some f → EndsFull f → core_outcome turns s ≡ Some RanFull
told-full turns s f e is = ap (λ z. told_of turns s z) e ∙ ap (λ z. Some z) (reported-full turns f s.heap is)

module _ (u : UnitCode) (checked : IsChecked u) (keeps : KeepsPictures u) (limit : ℕ) (s : State) (picture : HasPicture u s) where
  -- two complete lists without a refused allocation end in one state
  pub unrefused-confluent : (vs ws : List Way) (a b : State) → Complete u limit s vs a → Complete u limit s ws b → (SomeRefused u limit vs s → ⊥) → (SomeRefused u limit ws s → ⊥) → a ≡ b
  unrefused-confluent vs ws a b c d no_first no_second =
      free-confluent u checked keeps s a b c.ending d.ending vs ws picture (unrefused-runs-free u limit vs s a no_first c.run) c.over (unrefused-runs-free u limit ws s b no_second d.run) d.over

  -- a complete list with a refused allocation tells that the heap is full
  pub refused-full : (turns : ℕ) (vs : List Way) (a : State) → Complete u limit s vs a → SomeRefused u limit vs s → core_outcome turns a ≡ Some RanFull
  refused-full turns vs a c r = told-full turns a c.ending c.over (lacking-ends a.task c.ending (refused-lacks u limit vs s a r c.run) c.over)

  module _ (fits : s.heap.given ≤ limit) where
    -- an allocation that is refused in one complete list is refused in each
    pub refused-in-each : (vs ws : List Way) (a b : State) → Complete u limit s vs a → Complete u limit s ws b → SomeRefused u limit vs s → SomeRefused u limit ws s
    refused-in-each vs ws a b c d r = elim (some-refused-or-not u limit ws s) [ yes q ↦ q | no not ↦ absurd (never not) ]
      where
        never : (SomeRefused u limit ws s → ⊥) → ⊥
        never not =
            let x = refused-list-exceeds u limit vs s r in
            let most = free-never-more u checked keeps s b x.end d.ending ws x.events picture (unrefused-runs-free u limit ws s b not d.run) d.over x.run in
            let le = unrefused-runs-within u limit ws s b not d.run fits in
            let more = x.more in
            omega arith

    -- all complete lists end alike
    pub ends-alike : (turns : ℕ) (vs ws : List Way) (a b : State) → Complete u limit s vs a → Complete u limit s ws b → core_outcome turns a ≡ core_outcome turns b
    ends-alike turns vs ws a b c d = go (some-refused-or-not u limit vs s) (some-refused-or-not u limit ws s)
      where
        go : Dec (SomeRefused u limit vs s) → Dec (SomeRefused u limit ws s) → core_outcome turns a ≡ core_outcome turns b
        go (yes r) (yes q) = refused-full turns vs a c r ∙ sym (refused-full turns ws b d q)
        go (yes r) (no not) = absurd (not (refused-in-each vs ws a b c d r))
        go (no not) (yes q) = absurd (not (refused-in-each ws vs b a d c q))
        go (no no_first) (no no_second) = ap (λ z. core_outcome turns z) (unrefused-confluent vs ws a b c d no_first no_second)
