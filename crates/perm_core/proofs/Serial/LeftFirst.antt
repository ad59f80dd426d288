-- A run of the core with the leftmost node first that ends as the meaning says, or comes to the refused allocation that fills the heap, is a complete list of events that ends so: then all end so.
use Rattle.std.proofs.Common.{◌≡◌, ◌≢◌, ℕ, zero, suc, Option, Some, None, List, [], ◌∷◌, ◌++◌, refl, sym, ap, ◌∙◌}
use Rattle.std.specs.Prelude.{ℤ}
use Rattle.perm_tree.specs.Code.{Routine, UnitCode}
use Rattle.perm_meaning.specs.Machine.{Way}
use Rattle.perm_meaning.specs.Effects.{Tick}
use Rattle.perm_meaning.specs.NamedHeap.{Held, Op, State, memory, find}
use Rattle.perm_meaning.specs.Outcome.{Outcome, Ran, RanFull, RanStuck, outcome, opening_state}
use Rattle.perm_meaning.specs.Steps.{Answer, Found, Refused, Missing, runs, within, leftmost, next_state, answered, asked, granted, asked_with_care, careful, alone}
use Rattle.perm_meaning.proofs.Leads.{none-some, then-some, then-at}
use Rattle.perm_meaning.specs.Claims.{Opens}
use Rattle.perm_core.specs.Core.{core, look, step, core_outcome}
use Rattle.perm_core.specs.Claims.{IsChecked}
use Rattle.perm_core.specs.Serial.{EndsLeftThenRight, RefusedWhereFull}
use Rattle.perm_core.proofs.Serial.Needs.{runs-append}
use Rattle.perm_core.proofs.Serial.FreeRuns.{KeepsPictures, HasPicture, Complete, pictured-next, completed}
use Rattle.perm_core.proofs.Serial.Refusals.{LacksRoom, lacking-ends, refusal-lacks, runs-lack}
use Rattle.perm_core.proofs.Serial.CompleteLists.{told-full}
use Rattle.perm_core.proofs.Serial.LeftThenRight.{reaches-picture, EndsSo, SomeEndsSo, ends-left-then-right, refused-where-full}

module _ (u : UnitCode) (limit : ℕ) where
  -- an event that isn't a refused allocation is one
  careful-step : (s t : State) (w : Way) → careful (core u) (memory u) (within limit) s w ≡ Some t → step u limit s w ≡ Some t
  careful-step s t w = go (look u w s.task)
    where
      reply : (o : Op) (x : Answer Held) → granted (core u) (memory u) (within limit) s w o x ≡ Some t → answered (core u) (memory u) (within limit) s w o x ≡ Some t
      reply o (Found v) e = e
      reply o Refused e = none-some e
      reply o Missing e = none-some e

      go : (o : Option Op) → asked_with_care (core u) (memory u) (within limit) s w o ≡ Some t → asked (core u) (memory u) (within limit) s w o ≡ Some t
      go None e = none-some e
      go (Some o) e = reply o (find (within limit) o s.heap) e

  -- so many events at the leftmost node are a list of events
  pub alone-listed : (n : ℕ) (s t : State) → alone (core u) (memory u) (within limit) n s ≡ Some t → (ws : List Way) × (runs (step u limit) ws s ≡ Some t)
  alone-listed zero s t e = ([], e)
  alone-listed (suc n) s t e =
      let a = then-some (careful (core u) (memory u) (within limit) s (leftmost s.task)) (alone (core u) (memory u) (within limit) n) t e in
      let r = alone-listed n a.0 t a.2 in
      (leftmost s.task ∷ r.0, then-at (step u limit s (leftmost s.task)) (runs (step u limit) r.0) a.0 (careful-step s a.0 (leftmost s.task) a.1) ∙ r.1)

  module _ (input : List ℤ) (turns : ℕ) (r : Routine) where
    -- the leftmost node first, the core ends as the meaning says
    pub record EndsLeftFirst : Type 0 where
      pub events : ℕ
      pub state : State
      pub run : alone (core u) (memory u) (within limit) events (opening_state u input turns r) ≡ Some state
      pub told : core_outcome turns state ≡ Some (outcome u input turns limit)

    -- it comes to a refused allocation
    pub record FillsLeftFirst : Type 0 where
      pub events : ℕ
      pub state : State
      pub op : Op
      pub run : alone (core u) (memory u) (within limit) events (opening_state u input turns r) ≡ Some state
      pub looked : look u (leftmost state.task) state.task ≡ Some op
      pub refused : find (within limit) op state.heap ≡ Refused

    ends-left-first : EndsLeftFirst → EndsSo u limit input turns r
    ends-left-first x =
        let l = alone-listed x.events (opening_state u input turns r) x.state x.run in
        record { events = l.0; end = x.state; run = l.1; told = x.told }

    fills-left-first : KeepsPictures u → IsChecked u → Opens u limit input r → outcome u input turns limit ≡ RanFull → FillsLeftFirst → EndsSo u limit input turns r
    fills-left-first keeps checked opens full x = finish (completed u checked keeps limit after (pictured-next u checked keeps limit x.state after w pictured event))
      where
        w : Way
        w = leftmost x.state.task

        l : (ws : List Way) × (runs (step u limit) ws (opening_state u input turns r) ≡ Some x.state)
        l = alone-listed x.events (opening_state u input turns r) x.state x.run

        pictured : HasPicture u x.state
        pictured = reaches-picture u limit input turns keeps r l.0 x.state checked opens l.1

        after : State
        after = next_state (core u) (memory u) (within limit) x.state w x.op None

        event : step u limit x.state w ≡ Some after
        event = ap (λ z. asked (core u) (memory u) (within limit) x.state w z) x.looked ∙ ap (λ z. answered (core u) (memory u) (within limit) x.state w x.op z) x.refused

        isnt_tick : x.op ≢ Tick
        isnt_tick q = let e = sym (ap (λ o. find (within limit) o x.state.heap) q) ∙ x.refused in absurd (cc)

        lacks : LacksRoom after.task
        lacks = refusal-lacks u w x.state.task x.op x.looked isnt_tick

        finish : (ws : List Way) × (t : State) × Complete u limit after ws t → EndsSo u limit input turns r
        finish (ws, t, c) =
            record {
              events = l.0 ++ (w ∷ ws);
              end = t;
              run = runs-append (step u limit) l.0 (w ∷ ws) (opening_state u input turns r) x.state l.1 ∙ then-at (step u limit x.state w) (runs (step u limit) ws) after event ∙ c.run;
              told = told-full turns t c.ending c.over (lacking-ends t.task c.ending (runs-lack u limit ws after t lacks c.run) c.over) ∙ ap (λ z. Some z) (sym full);
            }

  -- ---------- the claims ----------
  module _ (input : List ℤ) (turns : ℕ) where
    -- left first the core ends as the meaning says, or comes to the refused allocation where that fills the heap
    pub record GoesLeftFirst : Type 0 where
      pub ends : (r : Routine) → IsChecked u → Opens u limit input r → outcome u input turns limit ≢ RanFull → EndsLeftFirst input turns r
      pub fills : (r : Routine) → IsChecked u → Opens u limit input r → outcome u input turns limit ≡ RanFull → FillsLeftFirst input turns r

    full-or-not : (o : Outcome) → Dec (o ≡ RanFull)
    full-or-not (Ran x) = no (λ e. absurd (cc))
    full-or-not RanFull = yes refl
    full-or-not RanStuck = no (λ e. absurd (cc))

    -- so some complete list of events ends as the meaning says
    pub goes-so : KeepsPictures u → GoesLeftFirst → SomeEndsSo u limit input turns
    goes-so keeps goes r checked opens =
        elim (full-or-not (outcome u input turns limit)) [
          | yes full ↦ fills-left-first input turns r keeps checked opens full (goes.fills r checked opens full)
          | no not ↦ ends-left-first input turns r (goes.ends r checked opens not)
        ]

    -- and all do
    pub all-end-left-then-right : KeepsPictures u → GoesLeftFirst → EndsLeftThenRight u limit input turns
    all-end-left-then-right keeps goes = ends-left-then-right u limit input turns keeps (goes-so keeps goes)

    pub all-refused-where-full : KeepsPictures u → GoesLeftFirst → RefusedWhereFull u limit input turns
    all-refused-where-full keeps goes = refused-where-full u limit input turns keeps (goes-so keeps goes)
