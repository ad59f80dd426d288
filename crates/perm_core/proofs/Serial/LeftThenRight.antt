-- Every complete list of events ends as running left then right does, where each event keeps the picture and some complete list ends so.
use Rattle.std.proofs.Common.{◌≡◌, ℕ, Option, Some, None, List, [], refl, sym, ap, ◌∙◌}
use Rattle.std.specs.Prelude.{ℤ}
use Rattle.perm_tree.specs.Code.{Routine, UnitCode}
use Rattle.perm_meaning.specs.Machine.{Way, NoRoom, NoTurns, Trapped, Fine, GaveBack, Failed, final}
use Rattle.perm_meaning.specs.NamedHeap.{Heap, Final, State}
use Rattle.perm_meaning.specs.Outcome.{Outcome, RanFull, outcome, reported, opening_state}
use Rattle.perm_meaning.specs.Steps.{runs}
use Rattle.perm_meaning.proofs.Leads.{some-inj, none-some}
use Rattle.perm_meaning.proofs.LeftFirst.WholeRun.{given-not-full}
use Rattle.perm_core.specs.Core.{step, told_of, core_outcome}
use Rattle.perm_core.specs.NextPicture.{first_picture}
use Rattle.perm_core.specs.Claims.{IsChecked, ReachesPicture, AllHaveNext}
use Rattle.perm_meaning.specs.Claims.{Opens}
use Rattle.perm_core.specs.Serial.{SomeRefused, EndsLeftThenRight, RefusedWhereFull}
use Rattle.perm_core.proofs.Progress.NextEvents.{has-next}
use Rattle.perm_core.proofs.OpeningPicture.{opens-with-picture}
use Rattle.perm_core.proofs.Serial.Needs.{runs-keep}
use Rattle.perm_core.proofs.Serial.FreeRuns.{KeepsPictures, HasPicture, Complete, pictured-next}
use Rattle.perm_core.proofs.Serial.Refusals.{EndsFull, lacking-ends, refused-lacks, some-refused-or-not, unrefused-runs-free}
use Rattle.perm_core.proofs.Serial.RoomKept.{roomy-ends, free-runs-room}
use Rattle.perm_core.proofs.Serial.CompleteLists.{told-full, ends-alike}

-- ---------- what is told of an ended root ----------
-- only want of room is told as a full heap
pub reported-so : (turns : ℕ) (f : Final) (h : Heap) → reported turns f h ≡ RanFull → EndsFull f
reported-so turns (Fine vs t p) h e = absurd (cc)
reported-so turns (GaveBack v t p) h e = absurd (given-not-full turns v t p h e)
reported-so turns (Failed (Trapped k at) t p) h e = absurd (cc)
reported-so turns (Failed NoTurns t p) h e = absurd (cc)
reported-so turns (Failed NoRoom t p) h e = refl

module _ (u : UnitCode) (limit : ℕ) (input : List ℤ) (turns : ℕ) where
  -- ---------- pictures that are reached ----------
  -- every lawful list from the opening leads to a state with a picture
  pub reaches-picture : KeepsPictures u → ReachesPicture u limit input turns
  reaches-picture keeps r ws t checked opens e =
      runs-keep (step u limit) (HasPicture u) (pictured-next u checked keeps limit) ws (opening_state u input turns r) t (first_picture, opens-with-picture u limit input turns r checked opens) e

  -- and no branch is stuck
  pub reaches-next : KeepsPictures u → (r : Routine) (ws : List Way) (t : State) → IsChecked u → Opens u limit input r → runs (step u limit) ws (opening_state u input turns r) ≡ Some t → AllHaveNext u limit t
  reaches-next keeps r ws t checked opens e = let x = reaches-picture keeps r ws t checked opens e in has-next u limit x.0 t checked x.1

  -- ---------- the claims ----------
  -- a complete list of events that ends as running left then right does
  pub record EndsSo (r : Routine) : Type 0 where
    pub events : List Way
    pub end : State
    pub run : runs (step u limit) events (opening_state u input turns r) ≡ Some end
    pub told : core_outcome turns end ≡ Some (outcome u input turns limit)

  -- some complete list does
  abbrev pub SomeEndsSo : Type 0
  SomeEndsSo = (r : Routine) → IsChecked u → Opens u limit input r → EndsSo r

  -- a state of which something is told has ended
  pub ended : (s : State) (o : Outcome) → core_outcome turns s ≡ Some o → (f : Final) × (final s.task ≡ Some f)
  ended s o = go (final s.task)
    where
      go : (x : Option Final) → told_of turns s x ≡ Some o → (f : Final) × (x ≡ Some f)
      go None e = none-some e
      go (Some f) e = (f, refl)

  module _ (keeps : KeepsPictures u) (some : SomeEndsSo) where
    pub ends-left-then-right : EndsLeftThenRight u limit input turns
    ends-left-then-right r ws t checked opens run f over =
        let x = some r checked opens in
        let g = ended x.end (outcome u input turns limit) x.told in
        let picture = reaches-picture keeps r [] (opening_state u input turns r) checked opens refl in
        let complete : Complete u limit (opening_state u input turns r) ws t = record { run = run; ending = f; over = over } in
        let other : Complete u limit (opening_state u input turns r) x.events x.end = record { run = x.run; ending = g.0; over = g.1 } in
        ends-alike u checked keeps limit (opening_state u input turns r) picture opens.fits turns ws x.events t x.end complete other ∙ x.told

    pub refused-where-full : RefusedWhereFull u limit input turns
    refused-where-full r ws checked opens (f, (t, run, over)) = (to_full, to_refused)
      where
        told : core_outcome turns t ≡ Some (outcome u input turns limit)
        told = ends-left-then-right r ws t checked opens run f over

        to_full : SomeRefused u limit ws (opening_state u input turns r) → outcome u input turns limit ≡ RanFull
        to_full refused = some-inj (sym told ∙ told-full turns t f over (lacking-ends t.task f (refused-lacks u limit ws (opening_state u input turns r) t refused run) over))

        to_refused : outcome u input turns limit ≡ RanFull → SomeRefused u limit ws (opening_state u input turns r)
        to_refused full = elim (some-refused-or-not u limit ws (opening_state u input turns r)) [ yes r ↦ r | no not ↦ absurd (never not) ]
          where
            ends_full : EndsFull f
            ends_full = reported-so turns f t.heap (some-inj (sym (ap (λ z. told_of turns t z) over) ∙ told ∙ ap (λ z. Some z) full))

            never : (SomeRefused u limit ws (opening_state u input turns r) → ⊥) → ⊥
            never not =
                roomy-ends u t.task f (free-runs-room u ws (opening_state u input turns r) t (λ e. none-some e) (unrefused-runs-free u limit ws (opening_state u input turns r) t not run)) over ends_full
