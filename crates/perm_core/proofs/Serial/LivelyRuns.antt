-- Where each event keeps the picture, the core goes on left first until it has ended, as the meaning says.
use Rattle.std.proofs.Common.{◌≡◌, ◌≢◌, ℕ, List, Option, Some, None, refl, sym, ap, ◌∙◌}
use Rattle.std.specs.Prelude.{ℤ}
use Rattle.perm_tree.specs.Code.{Routine, UnitCode}
use Rattle.perm_meaning.specs.Machine.{Leaf, Fork, Way, Here, GoL, GoR, final, over, stage, if_both_over}
use Rattle.perm_meaning.specs.Effects.{Tick}
use Rattle.perm_meaning.specs.NamedHeap.{Branch, Final, Op, State, Task, memory, find}
use Rattle.perm_meaning.specs.Steps.{Refused, Missing, within, alone, answered, asked, leftmost, leftmost_of}
use Rattle.perm_meaning.specs.Outcome.{RanFull, RanStuck, outcome, opening_state}
use Rattle.perm_meaning.proofs.Leads.{none-some}
use Rattle.perm_meaning.specs.Claims.{Opens}
use Rattle.perm_meaning.proofs.MovesAndCopies.RunsBack.{IsLively, has_ended, has_event, StaysLively}
use Rattle.perm_core.specs.Core.{core, look, step, core_outcome}
use Rattle.perm_core.specs.Claims.{IsChecked, leaf_at, AllHaveNext}
use Rattle.perm_core.specs.Regions.{Labels}
use Rattle.perm_core.specs.Picture.{IsPicture}
use Rattle.perm_core.proofs.Serial.FreeRuns.{KeepsPictures}
use Rattle.perm_core.proofs.Serial.LeftFirst.{alone-listed}
use Rattle.perm_core.proofs.Serial.LeftThenRight.{reaches-picture}
use Rattle.perm_core.proofs.Serial.LeftRuns.{left-first-comes, left-first-fills, meaning-unstuck}
use Rattle.perm_core.proofs.Serial.ToldEnds.{left-first-told}
use Rattle.perm_core.proofs.Progress.NextEvents.{has-next}

module _ (u : UnitCode) where
  -- an event that asks what fulfils P
  abbrev Asks : (Op → Type 0) → Way → Task → Type 0
  Asks P w t = (o : Op) × (look u w t ≡ Some o) × P o

  -- where each leaf that isn't over has such an event, the leftmost node of a tree that hasn't ended has one
  next-event : (P : Op → Type 0) → P Tick → (t : Task) → ((w : Way) (b : Branch) → leaf_at w t ≡ Some b → over (stage b) ≡ None → Asks P w t) → final t ≡ None → Asks P (leftmost t) t
  next-event P ticks (Leaf b) leaves e = leaves Here b refl e
  next-event P ticks (Fork b p l r) leaves e = go (final l) (final r) refl refl (λ q. next-event P ticks l (λ w b h k. leaves (GoL w) b h k) q) (λ q. next-event P ticks r (λ w b h k. leaves (GoR w) b h k) q)
    where
      go : (x y : Option Final) → final l ≡ x → final r ≡ y → (final l ≡ None → Asks P (leftmost l) l) → (final r ≡ None → Asks P (leftmost r) r) → Asks P (leftmost_of x y (leftmost l) (leftmost r)) (Fork b p l r)
      go None y q z left right = left q
      go (Some f) None q z left right = right z
      go (Some f) (Some g) q z left right = (Tick, ap (λ i. if_both_over i (final r) None (λ x y. Some Tick)) q ∙ ap (λ i. if_both_over (Some f) i None (λ x y. Some Tick)) z, ticks)

  module _ (limit : ℕ) where
    -- what is asked is there
    abbrev IsAnswered : State → Op → Type 0
    IsAnswered s o = find (within limit) o s.heap ≢ Missing

    -- an event asks something that is there
    looked : (s t : State) (w : Way) → step u limit s w ≡ Some t → Asks (IsAnswered s) w s.task
    looked s t w e = go (look u w s.task) refl
      where
        go : (o : Option Op) → look u w s.task ≡ o → Asks (IsAnswered s) w s.task
        go (Some o) q = (o, q, λ m. none-some (sym (ap (λ z. asked (core u) (memory u) (within limit) s w z) q ∙ ap (λ a. answered (core u) (memory u) (within limit) s w o a) m) ∙ e))
        go None q = none-some (sym (ap (λ z. asked (core u) (memory u) (within limit) s w z) q) ∙ e)

    -- a state with a picture has ended, or has an event next
    pub picture-lively : (labels : Labels) (s : State) → IsChecked u → IsPicture u labels s → IsLively u (within limit) s
    picture-lively labels s is picture = go (final s.task) refl
      where
        next : AllHaveNext u limit s
        next = has-next u limit labels s is picture

        go : (f : Option Final) → final s.task ≡ f → IsLively u (within limit) s
        go (Some f) q = has_ended q
        go None q = let x = next-event (IsAnswered s) (λ m. let z : ⊥ = cc m in z) s.task (λ w b h k. let n = next w b h k in looked s n.0 w n.1) q in has_event x.1 x.2

    module _ (keeps : KeepsPictures u) (is : IsChecked u) where
      -- the core of a checked unit is never stuck, left first
      pub left-first-lively : (input : List ℤ) (turns : ℕ) (r : Routine) → Opens u limit input r → StaysLively u (within limit) (opening_state u input turns r)
      left-first-lively input turns r o k t e =
          let l = alone-listed u limit k (opening_state u input turns r) t e in
          let x = reaches-picture u limit input turns keeps r l.0 t is o l.1 in
          picture-lively x.0 t is x.1

      -- nor is its meaning
      pub picture-unstuck : (input : List ℤ) (turns : ℕ) (r : Routine) → Opens u limit input r → outcome u input turns limit ≢ RanStuck
      picture-unstuck input turns r o = meaning-unstuck u limit input turns r is o (left-first-lively input turns r o) (left-first-told u is keeps limit input turns r o)

      -- it comes to the end that the meaning says
      pub picture-comes : (input : List ℤ) (turns : ℕ) (r : Routine) → Opens u limit input r → outcome u input turns limit ≢ RanFull
          → (n : ℕ) × (s : State) × (alone (core u) (memory u) (within limit) n (opening_state u input turns r) ≡ Some s) × (core_outcome turns s ≡ Some (outcome u input turns limit))
      picture-comes input turns r o full = left-first-comes u limit input turns r is o (left-first-lively input turns r o) (left-first-told u is keeps limit input turns r o) full

      -- or to the refused allocation, where the heap doesn't hold the run
      pub picture-fills : (input : List ℤ) (turns : ℕ) (r : Routine) → Opens u limit input r → outcome u input turns limit ≡ RanFull
          → (n : ℕ) × (s : State) × (p : Op) × (alone (core u) (memory u) (within limit) n (opening_state u input turns r) ≡ Some s) × (look u (leftmost s.task) s.task ≡ Some p) × (find (within limit) p s.heap ≡ Refused)
      picture-fills input turns r o full = left-first-fills u limit input turns r is o (left-first-lively input turns r o) full
