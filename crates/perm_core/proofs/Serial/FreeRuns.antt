-- Lists of events without a limit on the heap: they keep that there is a picture, any two complete ones end in one state, and none needs more words than a complete one.
use Rattle.std.proofs.Common.{◌≡◌, ◌≢◌, ℕ, ◌+◌, ◌≤◌, ◌⊎◌, inl, inr, Option, Some, None, List, refl, sym, ap, ◌∙◌, arith}
use Rattle.perm_tree.specs.Code.{UnitCode}
use Rattle.perm_meaning.specs.Machine.{Blocks, Leaf, Fork, Way, Here, GoL, GoR, Final, stage, over, final, if_both_over}
use Rattle.perm_meaning.specs.Effects.{Tick}
use Rattle.perm_meaning.specs.NamedHeap as named
use Rattle.perm_meaning.specs.NamedHeap.{Held, Op, Task, State, memory}
use Rattle.perm_meaning.specs.Steps.{runs, within, leftmost, leftmost_of, asked}
use Rattle.perm_meaning.proofs.Leads.{none-some, ended-no-event}
use Rattle.perm_core.specs.Core.{core, look, step}
use Rattle.perm_core.specs.Regions.{Labels}
use Rattle.perm_core.specs.Picture.{IsPicture}
use Rattle.perm_core.specs.NextPicture.{next_picture}
use Rattle.perm_core.specs.Claims.{IsChecked, leaf_at}
use Rattle.perm_core.specs.Claims.{KeepsPicture}
use Rattle.perm_core.proofs.Commute.Conflicts.{events-commute}
use Rattle.perm_core.proofs.FewEvents.{weight, step-less}
use Rattle.perm_core.proofs.Progress.NextEvents.{has-next}
use Rattle.perm_core.proofs.Serial.Confluence.{IsFinal, Commutes, confluent}
use Rattle.perm_core.proofs.Serial.Needs.{GoesOrEnds, Terminates, Completed, runs-keep, complete, never-more}
use Rattle.perm_core.proofs.Serial.FreeSteps.{no_limit, free_step, asks, roomy-unrefused, unrefused-free, free-grows}

-- ---------- nodes ----------
-- two nodes are one, or they aren't
pub way-or-other : (v w : Way) → Dec (v ≡ w)
way-or-other Here Here = yes refl
way-or-other Here (GoL w) = no (λ e. absurd (cc))
way-or-other Here (GoR w) = no (λ e. absurd (cc))
way-or-other (GoL v) Here = no (λ e. absurd (cc))
way-or-other (GoL v) (GoR w) = no (λ e. absurd (cc))
way-or-other (GoR v) Here = no (λ e. absurd (cc))
way-or-other (GoR v) (GoL w) = no (λ e. absurd (cc))
way-or-other (GoL v) (GoL w) = elim (way-or-other v w) [ yes e ↦ yes (ap (λ z. GoL z) e) | no d ↦ no (λ e. d (below e)) ]
  where
    below : GoL v ≡ GoL w → v ≡ w
    below e = cc
way-or-other (GoR v) (GoR w) = elim (way-or-other v w) [ yes e ↦ yes (ap (λ z. GoR z) e) | no d ↦ no (λ e. d (below e)) ]
  where
    below : GoR v ≡ GoR w → v ≡ w
    below e = cc

-- the leaf at a node isn't over
pub record IsRunning (w : Way) (t : Task) : Type 0 where
  pub branch : named.Branch
  pub there : leaf_at w t ≡ Some branch
  pub running : over (stage branch) ≡ None

module _ (u : UnitCode) where
  -- the node is a leaf that isn't over, or a parent whose sides are
  abbrev pub IsNext : Way → Task → Type 0
  IsNext w t = IsRunning w t ⊎ (look u w t ≡ Some Tick)

  in-left : (b : named.Branch) (p : Blocks) (l r : Task) (w : Way) → IsNext w l → IsNext (GoL w) (Fork b p l r)
  in-left b p l r w (inl x) = inl (record { branch = x.branch; there = x.there; running = x.running })
  in-left b p l r w (inr e) = inr e

  in-right : (b : named.Branch) (p : Blocks) (l r : Task) (w : Way) → IsNext w r → IsNext (GoR w) (Fork b p l r)
  in-right b p l r w (inl x) = inl (record { branch = x.branch; there = x.there; running = x.running })
  in-right b p l r w (inr e) = inr e

  -- so is the leftmost node of a tree that hasn't ended
  pub leftmost-next : (t : Task) → final t ≡ None → IsNext (leftmost t) t
  leftmost-next (Leaf b) e = inl (record { branch = b; there = refl; running = e })
  leftmost-next (Fork b p l r) e = go (λ q. leftmost-next l q) (λ q. leftmost-next r q) (final l) (final r) refl refl
    where
      go : (final l ≡ None → IsNext (leftmost l) l) → (final r ≡ None → IsNext (leftmost r) r) → (x y : Option (Final Held)) → final l ≡ x → final r ≡ y → IsNext (leftmost_of x y (leftmost l) (leftmost r)) (Fork b p l r)
      go of_left of_right None y j k = in-left b p l r (leftmost l) (of_left j)
      go of_left of_right (Some x) None j k = in-right b p l r (leftmost r) (of_right k)
      go of_left of_right (Some x) (Some y) j k = inr (ap (λ z. if_both_over z (final r) None (λ x y. Some Tick)) j ∙ ap (λ z. if_both_over (Some x) z None (λ x y. Some Tick)) k)

-- ---------- pictures ----------
-- each event keeps the picture, whatever the heap holds
abbrev pub KeepsPictures : UnitCode → Type 0
KeepsPictures u = (limit : ℕ) → KeepsPicture u limit

-- the state has a picture
abbrev pub HasPicture : UnitCode → State → Type 0
HasPicture u s = (labels : Labels) × IsPicture u labels s

-- a list of events from the one state to the other, which has ended
pub record Complete (u : UnitCode) (limit : ℕ) (s : State) (ws : List Way) (t : State) : Type 0 where
  pub run : runs (step u limit) ws s ≡ Some t
  pub ending : Final Held
  pub over : final t.task ≡ Some ending

module _ (u : UnitCode) (checked : IsChecked u) where
  node-next : (limit : ℕ) (s : State) (w : Way) → HasPicture u s → IsNext u w s.task → (t : State) × (step u limit s w ≡ Some t)
  node-next limit s w picture (inl x) = has-next u limit picture.0 s checked picture.1 w x.branch x.there x.running
  node-next limit s w picture (inr e) = (_, ap (λ o. asked (core u) (memory u) (within limit) s w o) e)

  -- a state with a picture has ended, or its leftmost node has an event
  abbrev pub NextOrOver : ℕ → State → Type 0
  NextOrOver limit s = ((t : State) × (step u limit s (leftmost s.task) ≡ Some t)) ⊎ ((f : Final Held) × (final s.task ≡ Some f))

  pub next-or-over : (limit : ℕ) (s : State) → HasPicture u s → NextOrOver limit s
  next-or-over limit s picture = go (final s.task) refl
    where
      go : (x : Option (Final Held)) → final s.task ≡ x → NextOrOver limit s
      go None q = inl (node-next limit s (leftmost s.task) picture (leftmost-next u s.task q))
      go (Some f) q = inr (f, q)

  -- a state that has ended has no event, with or without a limit
  pub over-final : (limit : ℕ) (s : State) (f : Final Held) → final s.task ≡ Some f → IsFinal (step u limit) s
  over-final limit s f e w = ap (λ o. asked (core u) (memory u) (within limit) s w o) (ended-no-event (core u) w s.task f e)

  pub over-free : (s : State) (f : Final Held) → final s.task ≡ Some f → IsFinal (free_step u) s
  over-free s f e w = ap (λ o. asked (core u) (memory u) no_limit s w o) (ended-no-event (core u) w s.task f e)

  module _ (keeps : KeepsPictures u) where
    -- an event within a limit, or without one, leads from a state with a picture to one with a picture
    pub pictured-next : (limit : ℕ) (s t : State) (w : Way) → HasPicture u s → step u limit s w ≡ Some t → HasPicture u t
    pictured-next limit s t w picture e = (next_picture u limit picture.0 s w, keeps limit picture.0 s t w checked picture.1 e)

    -- an event without a limit is one within the words that it leaves
    free-within : (limit : ℕ) (s t : State) (w : Way) → s.heap.given + asks u s w ≤ limit → free_step u s w ≡ Some t → step u limit s w ≡ Some t
    free-within limit s t w le e = unrefused-free u limit s w (roomy-unrefused u limit s w le) ∙ e

    within-free : (limit : ℕ) (s t : State) (w : Way) → s.heap.given + asks u s w ≤ limit → step u limit s w ≡ Some t → free_step u s w ≡ Some t
    within-free limit s t w le e = sym (unrefused-free u limit s w (roomy-unrefused u limit s w le)) ∙ e

    free-pictured : (s t : State) (w : Way) → HasPicture u s → free_step u s w ≡ Some t → HasPicture u t
    free-pictured s t w picture e =
        let limit = s.heap.given + asks u s w in
        pictured-next limit s t w picture (free-within limit s t w (omega arith) e)

    -- two events of different nodes may come in either order
    free-either-order : (s a b : State) (p q : Way) → HasPicture u s → p ≢ q → free_step u s p ≡ Some a → free_step u s q ≡ Some b → (t : State) × (free_step u a q ≡ Some t) × (free_step u b p ≡ Some t)
    free-either-order s a b p q picture differ to_a to_b =
        let limit = (s.heap.given + asks u s p) + ((s.heap.given + asks u s q) + ((a.heap.given + asks u a q) + (b.heap.given + asks u b p))) in
        let a_q : a.heap.given + asks u a q ≤ limit = omega arith in
        let b_p : b.heap.given + asks u b p ≤ limit = omega arith in
        let x = events-commute u limit picture.0 s a b p q picture.1 differ (free-within limit s a p (omega arith) to_a) (free-within limit s b q (omega arith) to_b) (roomy-unrefused u limit a q a_q) (roomy-unrefused u limit b p b_p) in
        (x.0, within-free limit a x.0 q a_q x.1, within-free limit b x.0 p b_p x.2)

    free-next : (s : State) → HasPicture u s → GoesOrEnds (free_step u) s
    free-next s picture = go (next-or-over (s.heap.given + asks u s (leftmost s.task)) s picture)
      where
        w : Way
        w = leftmost s.task

        go : NextOrOver (s.heap.given + asks u s w) s → GoesOrEnds (free_step u) s
        go (inl x) = inl (w, x.0, within-free (s.heap.given + asks u s w) s x.0 w (omega arith) x.1)
        go (inr x) = inr (over-free s x.0 x.1)

    -- ---------- lists ----------
    free-commutes : Commutes (free_step u) (HasPicture u)
    free-commutes = record { keeps = free-pictured; meets = free-either-order }

    -- what an event leaves of the turns and of the pars that wait
    abbrev pub fuel : State → ℕ
    fuel s = weight s.task

    free-terminates : Terminates (free_step u) (HasPicture u) fuel
    free-terminates = record { keeps = free-pictured; falls = λ s t w e. step-less (core u) (memory u) no_limit s t w e; goes = free-next }

    -- within a limit each list can be completed
    pub completed : (limit : ℕ) (s : State) → HasPicture u s → (ws : List Way) × (t : State) × Complete u limit s ws t
    completed limit s picture = over_at (complete (step u limit) (HasPicture u) fuel terminates s picture)
      where
        end_or_on : (t : State) → HasPicture u t → GoesOrEnds (step u limit) t
        end_or_on t is = elim (next-or-over limit t is) [ inl x ↦ inl (leftmost t.task, x.0, x.1) | inr x ↦ inr (over-final limit t x.0 x.1) ]

        terminates : Terminates (step u limit) (HasPicture u) fuel
        terminates = record { keeps = pictured-next limit; falls = λ s t w e. step-less (core u) (memory u) (within limit) s t w e; goes = end_or_on }

        over_at : (c : Completed (step u limit) s) → (ws : List Way) × (t : State) × Complete u limit s ws t
        over_at c = go (next-or-over limit c.end (runs-keep (step u limit) (HasPicture u) (pictured-next limit) c.events s c.end picture c.run))
          where
            go : NextOrOver limit c.end → (ws : List Way) × (t : State) × Complete u limit s ws t
            go (inl x) = none-some (sym (c.final (leftmost c.end.task)) ∙ x.1)
            go (inr x) = (c.events, c.end, record { run = c.run; ending = x.0; over = x.1 })

    -- two complete lists without a limit end in one state
    pub free-confluent : (s a b : State) (f g : Final Held) (vs ws : List Way) → HasPicture u s → runs (free_step u) vs s ≡ Some a → final a.task ≡ Some f → runs (free_step u) ws s ≡ Some b → final b.task ≡ Some g → a ≡ b
    free-confluent s a b f g vs ws picture to_a f_is to_b g_is =
        (confluent (free_step u) (HasPicture u) way-or-other free-commutes vs ws s a b picture to_a (over-free a f f_is) to_b (over-free b g g_is)).0

    -- no list needs more words than a complete one
    pub free-never-more : (s a b : State) (f : Final Held) (vs ws : List Way) → HasPicture u s → runs (free_step u) vs s ≡ Some a → final a.task ≡ Some f → runs (free_step u) ws s ≡ Some b → b.heap.given ≤ a.heap.given
    free-never-more s a b f vs ws picture to_a f_is to_b =
        never-more (free_step u) (HasPicture u) fuel free-terminates (λ z. z.heap.given) (free-grows u) way-or-other free-commutes vs ws s a b picture to_a (over-free a f f_is) to_b
