-- A list of events within a limit has a refused allocation, which closes a branch for want of room for good, or it is a list without a limit.
use Rattle.std.proofs.Common.{◌≡◌, ◌≢◌, ℕ, ◌≤◌, ◌<◌, ◌⊎◌, inl, inr, Option, Some, None, List, [], ◌∷◌, refl, sym, ap, ◌∙◌, subst}
use Rattle.std.specs.Prelude.{ℤ, cond}
use Rattle.perm_tree.specs.Code.{UnitCode}
use Rattle.perm_meaning.specs.Names.{Mark, next_name}
use Rattle.perm_meaning.specs.Values.{Reference}
use Rattle.perm_meaning.specs.Objects.{length_of}
use Rattle.perm_meaning.specs.Machine.{Failure, NoRoom, Trapped, NoTurns, Close, Returning, Failing, Blocks, Leaf, Fork, Way, Here, GoL, GoR, Fine, GaveBack, Failed, Stage, Over, Due, over, stage_by_code, stage_from, stage, final, worse, join_final, if_both_over, Turn, Takes, NoTurn, turn_op, next_turn, told_to, leaf_op, leaf_on, resumed, join_of, fill}
use Rattle.perm_meaning.specs.Effects.{Tick, Load, Store, Take, Make}
use Rattle.perm_meaning.specs.NamedHeap.{Held, Op, Branch, Task, Final, State, memory, find}
use Rattle.perm_meaning.specs.Steps.{Found, Refused, runs, within, answered, asked}
use Rattle.perm_meaning.proofs.Leads.{some-inj, none-some, then-some, then-at}
use Rattle.perm_core.specs.Core.{core, look, step}
use Rattle.perm_core.specs.Claims.{Refuses, refused}
use Rattle.perm_core.specs.Serial.{SomeRefused}
use Rattle.perm_core.proofs.Serial.FreeSteps.{free_step, happened, refused-or-not, unrefused-free, refused-exceeds, unrefused-within}

-- ---------- want of room ----------
-- a branch is closed for want of room
abbrev pub LacksRoom : Task → Type 0
LacksRoom (Leaf b) = b.close ≡ Some (Failing NoRoom)
LacksRoom (Fork b p l r) = LacksRoom l ⊎ LacksRoom r

-- it has ended so
abbrev pub EndsFull : Final → Type 0
EndsFull (Fine vs t p) = ⊥
EndsFull (GaveBack v t p) = ⊥
EndsFull (Failed e t p) = e ≡ NoRoom

closed-full : (c : Option (Close Held)) (s : Stage Held) (b : Branch) (f : Final) → c ≡ Some (Failing NoRoom) → over (stage_from c s b.turns b.own) ≡ Some f → EndsFull f
closed-full None s b f q e = none-some q
closed-full (Some (Returning v)) s b f q e = let x = some-inj q in absurd (cc)
closed-full (Some (Failing NoRoom)) s b f q e = subst (λ z. EndsFull z) (some-inj e) refl
closed-full (Some (Failing NoTurns)) s b f q e = let x = some-inj q in absurd (cc)
closed-full (Some (Failing (Trapped k at))) s b f q e = let x = some-inj q in absurd (cc)

-- a tree that lacks room has no other end
pub lacking-ends : (t : Task) (f : Final) → LacksRoom t → final t ≡ Some f → EndsFull f
lacking-ends (Leaf b) f h e = closed-full b.close (stage_by_code b.code b.stack b.turns b.own) b f h e
lacking-ends (Fork b p l r) f h e = none-some e

worse-left : (e f : Failure) → e ≡ NoRoom → worse e f ≡ NoRoom
worse-left e NoRoom h = refl
worse-left e NoTurns h = h
worse-left e (Trapped k at) h = h

worse-right : (e f : Failure) → f ≡ NoRoom → worse e f ≡ NoRoom
worse-right e f h = ap (λ z. worse e z) h

join-full : (merge : List Held → List Held → List Held → List Held) (vs : List Held) (out : List ℤ) (x y : Final) → EndsFull x ⊎ EndsFull y → EndsFull (join_final merge vs out x y)
join-full merge vs out (Fine ls t p) (Fine rs u q) (inl h) = absurd h
join-full merge vs out (Fine ls t p) (Fine rs u q) (inr h) = absurd h
join-full merge vs out (Fine ls t p) (GaveBack v u q) (inl h) = absurd h
join-full merge vs out (Fine ls t p) (GaveBack v u q) (inr h) = absurd h
join-full merge vs out (Fine ls t p) (Failed e u q) (inl h) = absurd h
join-full merge vs out (Fine ls t p) (Failed e u q) (inr h) = h
join-full merge vs out (GaveBack v t p) (Fine rs u q) (inl h) = absurd h
join-full merge vs out (GaveBack v t p) (Fine rs u q) (inr h) = absurd h
join-full merge vs out (GaveBack v t p) (GaveBack w u q) (inl h) = absurd h
join-full merge vs out (GaveBack v t p) (GaveBack w u q) (inr h) = absurd h
join-full merge vs out (GaveBack v t p) (Failed e u q) (inl h) = absurd h
join-full merge vs out (GaveBack v t p) (Failed e u q) (inr h) = h
join-full merge vs out (Failed e t p) (Fine rs u q) (inl h) = h
join-full merge vs out (Failed e t p) (Fine rs u q) (inr h) = absurd h
join-full merge vs out (Failed e t p) (GaveBack v u q) (inl h) = h
join-full merge vs out (Failed e t p) (GaveBack v u q) (inr h) = absurd h
join-full merge vs out (Failed e t p) (Failed f u q) (inl h) = worse-left e f h
join-full merge vs out (Failed e t p) (Failed f u q) (inr h) = worse-right e f h

module _ (u : UnitCode) where
  resumed-full : (b : Branch) (f : Final) → EndsFull f → LacksRoom (resumed (core u) b f)
  resumed-full b (Fine vs t p) h = absurd h
  resumed-full b (GaveBack v t p) h = absurd h
  resumed-full b (Failed e t p) h = ap (λ z. Some (Failing z)) h

  closed-still : (c : Option (Close Held)) (s : Stage Held) (b : Branch) (o : Op) → c ≡ Some (Failing NoRoom) → leaf_op (core u) b (stage_from c s b.turns b.own) ≡ Some o → ⊥
  closed-still None s b o q e = none-some q
  closed-still (Some (Returning v)) s b o q e = none-some e
  closed-still (Some (Failing f)) s b o q e = none-some e

  join-lacks : (b : Branch) (p : Blocks) (l r : Task) (x y : Option Final) (o : Op) → final l ≡ x → final r ≡ y → if_both_over x y None (λ x y. Some Tick) ≡ Some o → LacksRoom l ⊎ LacksRoom r
      → LacksRoom (if_both_over x y (Fork b p l r) (λ x y. resumed (core u) b (join_of (core u) b p x y)))
  join-lacks b p l r (Some x) (Some y) o e f h (inl k) = resumed-full b (join_of (core u) b p x y) (join-full ((core u).parting.joined b.own.routine p) b.own.vars b.own.printed x y (inl (lacking-ends l x k e)))
  join-lacks b p l r (Some x) (Some y) o e f h (inr k) = resumed-full b (join_of (core u) b p x y) (join-full ((core u).parting.joined b.own.routine p) b.own.vars b.own.printed x y (inr (lacking-ends r y k f)))
  join-lacks b p l r (Some x) None o e f h k = none-some h
  join-lacks b p l r None y o e f h k = none-some h

  -- an event leaves a branch closed
  fill-lacks : (w : Way) (t : Task) (v : Option Held) (o : Op) → look u w t ≡ Some o → LacksRoom t → LacksRoom (fill (core u) w t v)
  fill-lacks Here (Leaf b) v o e h = absurd (closed-still b.close (stage_by_code b.code b.stack b.turns b.own) b o h e)
  fill-lacks Here (Fork b p l r) v o e h = join-lacks b p l r (final l) (final r) o refl refl e h
  fill-lacks (GoL w) (Leaf b) v o e h = none-some e
  fill-lacks (GoL w) (Fork b p l r) v o e (inl h) = inl (fill-lacks w l v o e h)
  fill-lacks (GoL w) (Fork b p l r) v o e (inr h) = inr h
  fill-lacks (GoR w) (Leaf b) v o e h = none-some e
  fill-lacks (GoR w) (Fork b p l r) v o e (inl h) = inl h
  fill-lacks (GoR w) (Fork b p l r) v o e (inr h) = inr (fill-lacks w r v o e h)

  told-lacks : (b : Branch) (t : ℕ) (x : Turn Held Mark Op) (o : Op) → turn_op (core u) x ≡ Some o → LacksRoom (told_to (core u) b t x None)
  told-lacks b t NoTurn o e = none-some e
  told-lacks b t (Takes q told) o e = refl

  leaf-lacks : (b : Branch) (s : Stage Held) (o : Op) → leaf_op (core u) b s ≡ Some o → LacksRoom (leaf_on (core u) b s None)
  leaf-lacks b (Over f) o e = none-some e
  leaf-lacks b (Due t) o e = told-lacks b t (next_turn (core u) b) o e

  join-ticks : (x y : Option Final) (o : Op) → if_both_over x y None (λ x y. Some Tick) ≡ Some o → o ≡ Tick
  join-ticks (Some x) (Some y) o e = sym (some-inj e)
  join-ticks (Some x) None o e = none-some e
  join-ticks None y o e = none-some e

  -- a refusal closes a branch
  pub refusal-lacks : (w : Way) (t : Task) (o : Op) → look u w t ≡ Some o → o ≢ Tick → LacksRoom (fill (core u) w t None)
  refusal-lacks Here (Leaf b) o e isnt = leaf-lacks b (stage b) o e
  refusal-lacks Here (Fork b p l r) o e isnt = absurd (isnt (join-ticks (final l) (final r) o e))
  refusal-lacks (GoL w) (Leaf b) o e isnt = none-some e
  refusal-lacks (GoL w) (Fork b p l r) o e isnt = inl (refusal-lacks w l o e isnt)
  refusal-lacks (GoR w) (Leaf b) o e isnt = none-some e
  refusal-lacks (GoR w) (Fork b p l r) o e isnt = inr (refusal-lacks w r o e isnt)

  -- ---------- lists ----------
  module _ (limit : ℕ) where
    step-lacks : (s t : State) (w : Way) → LacksRoom s.task → step u limit s w ≡ Some t → LacksRoom t.task
    step-lacks s t w h e = let x = happened u (within limit) s t w e in subst (λ (z : State). LacksRoom z.task) x.end (fill-lacks w s.task x.told x.op x.looked h)

    pub runs-lack : (ws : List Way) (s t : State) → LacksRoom s.task → runs (step u limit) ws s ≡ Some t → LacksRoom t.task
    runs-lack [] s t h e = subst (λ (z : State). LacksRoom z.task) (some-inj e) h
    runs-lack (w ∷ ws) s t h e = let a = then-some (step u limit s w) (runs (step u limit) ws) t e in runs-lack ws a.0 t (step-lacks s a.0 w h a.1) a.2

    refuses-lacks : (s t : State) (w : Way) → Refuses u limit s w → step u limit s w ≡ Some t → LacksRoom t.task
    refuses-lacks s t w = go (look u w s.task) refl
      where
        go : (o : Option Op) → look u w s.task ≡ o → refused u limit o s → asked (core u) (memory u) (within limit) s w o ≡ Some t → LacksRoom t.task
        go None q r e = absurd r
        go (Some Tick) q r e = absurd r
        go (Some (Load n f)) q r e = absurd r
        go (Some (Store n f v)) q r e = absurd r
        go (Some (Take n f)) q r e = absurd r
        go (Some (Make by shape n)) q r e =
            let is : find (within limit) (Make by shape n) s.heap ≡ Refused = ap (λ t. cond t (Found (Some (Reference (next_name by) (length_of shape n)))) Refused) r in
            let same = some-inj (sym (ap (λ x. answered (core u) (memory u) (within limit) s w (Make by shape n) x) is) ∙ e) in
            subst (λ (z : State). LacksRoom z.task) same (refusal-lacks w s.task (Make by shape n) q (λ q. absurd (cc)))

    -- after a refused allocation a branch is closed for want of room
    pub refused-lacks : (ws : List Way) (s t : State) → SomeRefused u limit ws s → runs (step u limit) ws s ≡ Some t → LacksRoom t.task
    refused-lacks [] s t r e = absurd r
    refused-lacks (w ∷ ws) s t (inl r) e = let a = then-some (step u limit s w) (runs (step u limit) ws) t e in runs-lack ws a.0 t (refuses-lacks s a.0 w r a.1) a.2
    refused-lacks (w ∷ ws) s t (inr x) e =
        let a = then-some (step u limit s w) (runs (step u limit) ws) t e in
        refused-lacks ws x.0 t x.2 (ap (λ z. runs (step u limit) ws z) (some-inj (sym x.1 ∙ a.1)) ∙ a.2)

    -- a list has a refused allocation, or it hasn't
    pub some-refused-or-not : (ws : List Way) (s : State) → Dec (SomeRefused u limit ws s)
    some-refused-or-not [] s = no (λ r. r)
    some-refused-or-not (w ∷ ws) s = first (λ t. some-refused-or-not ws t) (refused-or-not u limit s w)
      where
        rest : (Refuses u limit s w → ⊥) → (o : Option State) → step u limit s w ≡ o → ((t : State) → Dec (SomeRefused u limit ws t)) → Dec (SomeRefused u limit (w ∷ ws) s)
        rest not None q further = no (λ r. elim r [ inl r ↦ not r | inr x ↦ none-some (sym q ∙ x.1) ])
        rest not (Some t) q further =
            elim (further t) [ yes r ↦ yes (inr (t, q, r)) | no d ↦ no (λ r. elim r [ inl r ↦ not r | inr x ↦ d (subst (λ z. SomeRefused u limit ws z) (some-inj (sym x.1 ∙ q)) x.2) ]) ]

        first : ((t : State) → Dec (SomeRefused u limit ws t)) → Dec (Refuses u limit s w) → Dec (SomeRefused u limit (w ∷ ws) s)
        first further (yes r) = yes (inl r)
        first further (no not) = rest not (step u limit s w) refl further

    -- a list without a refused allocation is one without a limit
    pub unrefused-runs-free : (ws : List Way) (s t : State) → (SomeRefused u limit ws s → ⊥) → runs (step u limit) ws s ≡ Some t → runs (free_step u) ws s ≡ Some t
    unrefused-runs-free [] s t not e = e
    unrefused-runs-free (w ∷ ws) s t not e =
        let a = then-some (step u limit s w) (runs (step u limit) ws) t e in
        then-at (free_step u s w) (runs (free_step u) ws) a.0 (sym (unrefused-free u limit s w (λ r. not (inl r))) ∙ a.1) ∙ unrefused-runs-free ws a.0 t (λ r. not (inr (a.0, a.1, r))) a.2

    -- and leaves the words given within the limit
    pub unrefused-runs-within : (ws : List Way) (s t : State) → (SomeRefused u limit ws s → ⊥) → runs (step u limit) ws s ≡ Some t → s.heap.given ≤ limit → t.heap.given ≤ limit
    unrefused-runs-within [] s t not e le = subst (λ (z : State). z.heap.given ≤ limit) (some-inj e) le
    unrefused-runs-within (w ∷ ws) s t not e le =
        let a = then-some (step u limit s w) (runs (step u limit) ws) t e in
        unrefused-runs-within ws a.0 t (λ r. not (inr (a.0, a.1, r))) a.2 (unrefused-within u limit s a.0 w (λ r. not (inl r)) a.1 le)

    -- some list without a limit needs more words than the limit
    pub record Exceeds (s : State) : Type 0 where
      pub events : List Way
      pub end : State
      pub run : runs (free_step u) events s ≡ Some end
      pub more : limit < end.heap.given

    pub refused-list-exceeds : (ws : List Way) (s : State) → SomeRefused u limit ws s → Exceeds s
    refused-list-exceeds [] s r = absurd r
    refused-list-exceeds (w ∷ ws) s r = go (λ t r. refused-list-exceeds ws t r) (refused-or-not u limit s w) r
      where
        at_once : Refuses u limit s w → Exceeds s
        at_once r = let x = refused-exceeds u limit s w r in record { events = w ∷ []; end = x.0; run = then-at (free_step u s w) (λ z. Some z) x.0 x.1; more = x.2 }

        go : ((t : State) → SomeRefused u limit ws t → Exceeds t) → Dec (Refuses u limit s w) → SomeRefused u limit (w ∷ ws) s → Exceeds s
        go further (yes r) x = at_once r
        go further (no not) (inl r) = at_once r
        go further (no not) (inr x) =
            let y = further x.0 x.2 in
            record { events = w ∷ y.events; end = y.end; run = then-at (free_step u s w) (runs (free_step u) y.events) x.0 (sym (unrefused-free u limit s w not) ∙ x.1) ∙ y.run; more = y.more }
