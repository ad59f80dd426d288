-- Where each event keeps the picture, a run that has ended tells a report, or that the heap is full: it is never told as stuck.
use Rattle.std.proofs.Common.{◌≡◌, ◌≢◌, ℕ, zero, suc, true, Option, Some, None, List, [], ◌∷◌, sym, ap, subst, ◌∙◌}
use Rattle.std.specs.Prelude.{ℤ}
use Rattle.perm_tree.specs.Code.{Code, End, Give, Return, Do, If, While, Par, Recover, Routine, UnitCode}
use Rattle.perm_meaning.specs.Machine.{Frame, Trapped, NoTurns, NoRoom, Close, Returning, Failing, Leaf, Fork, Way, Fine, GaveBack, Failed, over, stage_by_turns, stage_by_code, stage_from, final}
use Rattle.perm_meaning.specs.NamedHeap.{Heap, Held, Final, Own, State, Task, memory}
use Rattle.perm_meaning.specs.Outcome.{RanStuck, reported, opening_state}
use Rattle.perm_meaning.specs.Steps.{within, alone}
use Rattle.perm_meaning.proofs.Leads.{some-inj, none-some}
use Rattle.perm_meaning.proofs.SameName.{eq-itself}
use Rattle.perm_meaning.specs.Claims.{Opens}
use Rattle.perm_core.specs.Core.{core, step, told_of, core_outcome}
use Rattle.perm_core.specs.Endings.{ByReturn, branch_ends, tree_ends}
use Rattle.perm_core.specs.Picture.{stands_in}
use Rattle.perm_core.specs.NextPicture.{first_picture}
use Rattle.perm_core.specs.Claims.{IsChecked}
use Rattle.perm_core.proofs.OpeningPicture.{opens-with-picture}
use Rattle.perm_core.proofs.KeepsPicture.Trees.NodePremises.{root-node}
use Rattle.perm_core.proofs.KeepsPicture.Trees.TreeEvents.{is-step, step-event}
use Rattle.perm_core.proofs.KeepsPicture.Order.Sides.{root-keeps}
use Rattle.perm_core.proofs.Serial.Needs.{runs-keep}
use Rattle.perm_core.proofs.Serial.FreeRuns.{KeepsPictures, HasPicture, pictured-next}
use Rattle.perm_core.proofs.Serial.LeftFirst.{alone-listed}
use Rattle.perm_core.proofs.Serial.NumberReturned.{IsNumber, ReturnsNumber, RootReturnsNumber, keeps-number}

-- an end that is told
abbrev pub IsTold : Final → Type 0
IsTold (Fine vs t p) = ⊥
IsTold (GaveBack v t p) = IsNumber v
IsTold (Failed e t p) = Unit {0}

by-turns-told : (n : ℕ) (l : Own) (f : Final) → over (stage_by_turns n l) ≡ Some f → IsTold f
by-turns-told zero l f e = subst (λ z. IsTold z) (some-inj e) tt
by-turns-told (suc n) l f e = none-some e

closed-told : (c : Option (Close Held)) (a : Code) (st : List (Frame Held)) (n : ℕ) (l : Own) (f : Final) → branch_ends ByReturn c a st ≡ true → ReturnsNumber c → over (stage_from c (stage_by_code a st n l) n l) ≡ Some f → IsTold f
closed-told (Some (Returning v)) a st n l f ends number e = subst (λ z. IsTold z) (some-inj e) number
closed-told (Some (Failing x)) a st n l f ends number e = subst (λ z. IsTold z) (some-inj e) tt
closed-told None End [] n l f ends number e = absurd (let no : ⊥ = cc ends in no)
closed-told None End (g ∷ st) n l f ends number e = by-turns-told n l f e
closed-told None (Give at w x) st n l f ends number e = by-turns-told n l f e
closed-told None (Return at a) st n l f ends number e = by-turns-told n l f e
closed-told None (Do at i rest) st n l f ends number e = by-turns-told n l f e
closed-told None (If at x own1 a own2 b rest) st n l f ends number e = by-turns-told n l f e
closed-told None (While at x own a rest) st n l f ends number e = by-turns-told n l f e
closed-told None (Par at own1 a own2 b rest) st n l f ends number e = by-turns-told n l f e
closed-told None (Recover at x own hides a rest) st n l f ends number e = by-turns-told n l f e

root-told : (t : Task) (f : Final) → tree_ends ByReturn t ≡ true → RootReturnsNumber t → final t ≡ Some f → IsTold f
root-told (Leaf b) f ends number e = closed-told b.close b.code b.stack b.turns b.own f ends number e
root-told (Fork b p l r) f ends number e = none-some e

told-unstuck : (turns : ℕ) (f : Final) (h : Heap) → IsTold f → reported turns f h ≢ RanStuck
told-unstuck turns (Fine vs t p) h is e = absurd is
told-unstuck turns (GaveBack v t p) h is e = let x = sym (ap (λ z. reported turns (GaveBack z t p) h) is.1) ∙ e in absurd (cc)
told-unstuck turns (Failed (Trapped k at) t p) h is e = absurd (cc)
told-unstuck turns (Failed NoTurns t p) h is e = absurd (cc)
told-unstuck turns (Failed NoRoom t p) h is e = absurd (cc)

module _ (u : UnitCode) where
  -- a state with a picture whose root stands in `Run`, and has returned a number where it has returned
  pub record RunsRun (s : State) : Type 0 where
    pub picture : HasPicture u s
    pub stands : stands_in u.run s.task ≡ true
    pub number : RootReturnsNumber s.task

  runs-told : (turns : ℕ) (s : State) (f : Final) → RunsRun s → final s.task ≡ Some f → core_outcome turns s ≢ Some RanStuck
  runs-told turns s f is over e = told-unstuck turns f s.heap (root-told s.task f is.picture.1.orderly.ends is.number over) (some-inj (sym (ap (λ z. told_of turns s z) over) ∙ e))

  module _ (checked : IsChecked u) (keeps : KeepsPictures u) (limit : ℕ) where
    runs-next : (s t : State) (w : Way) → RunsRun s → step u limit s w ≡ Some t → RunsRun t
    runs-next s t w is e =
        let x = is-step u limit s t w e in
        let event = step-event u limit s t w x in
        record {
          picture = pictured-next u checked keeps limit s t w is.picture e;
          stands = (root-keeps u u.run x.op x.told w s.task t.task is.stands event).stands;
          number = keeps-number u checked is.picture.0 s.heap is.picture.1.orderly.goes.0 x.op x.told w s.task t.task (root-node u is.picture.0 s is.picture.1) is.stands is.number event;
        }

    -- left first, an ended run from the opening is told
    pub left-first-told : (input : List ℤ) (turns : ℕ) (r : Routine) → Opens u limit input r
        → (n : ℕ) (t : State) (f : Final) → alone (core u) (memory u) (within limit) n (opening_state u input turns r) ≡ Some t → final t.task ≡ Some f → core_outcome turns t ≢ Some RanStuck
    left-first-told input turns r opens n t f run over =
        let l = alone-listed u limit n (opening_state u input turns r) t run in
        runs-told turns t f (runs-keep (step u limit) RunsRun runs-next l.0 (opening_state u input turns r) t begins l.1) over
      where
        begins : RunsRun (opening_state u input turns r)
        begins = record { picture = (first_picture, opens-with-picture u limit input turns r checked opens); stands = eq-itself u.run; number = tt }
