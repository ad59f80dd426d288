-- What an event does to a tree, case by case: a leaf takes a turn or is refused an allocation, a parent whose sides are over goes on, or it is an event of a side; and to a state.
use Rattle.std.proofs.Common.{◌≡◌, ℕ, Option, Some, None, refl, sym, ap, subst, inl, inr}
use Rattle.std.specs.Prelude.{◌⊎◌}
use Rattle.perm_tree.specs.Code.{UnitCode}
use Rattle.perm_meaning.specs.Effects.{Tick}
use Rattle.perm_meaning.specs.Names.{Mark}
use Rattle.perm_meaning.specs.Machine.{Close, Returning, Failing, NoRoom, Leaf, Fork, Blocks, Way, Here, GoL, GoR, Final, Stage, Over, Due, stage_by_code, stage_from, stage, final, if_both_over, Did, Turn, Takes, NoTurn, turn_op, next_turn, leaf_op, leaf_on, ended, done, told_to, resumed, join_of, fill}
use Rattle.perm_meaning.specs.NamedHeap.{Held, Heap, Op, Own, Branch, Task, State, find, after, memory}
use Rattle.perm_meaning.specs.Steps.{Answer, Found, Refused, Missing, within, answered, asked}
use Rattle.perm_meaning.proofs.Leads.{none-some, some-inj}
use Rattle.perm_core.specs.Core.{core, look, step}
use Rattle.perm_core.proofs.KeepsPicture.Turns.LeafTurns.{TurnTo, TurnTells, turn-tells}

-- a step is due only of a branch that has no end
pub due-none : (close : Option (Close Held)) (s : Stage Held) (n t : ℕ) (l : Own) → stage_from close s n l ≡ Due t → close ≡ None
due-none None s n t l e = refl
due-none (Some (Returning v)) s n t l e = absurd (let no : ⊥ = cc e in no)
due-none (Some (Failing f)) s n t l e = absurd (let no : ⊥ = cc e in no)

module _ (u : UnitCode) where
  -- the event of a node, which asks o and is told v, or refused
  pub data EventAt (o : Op) (v : Option Held) : Way → Task → Task → Type 0 where
    refused_leaf : (b : Branch) (t : ℕ) (after : Task) → v ≡ None → b.close ≡ None → after ≡ ended (core u) b t b.own.printed (Failing NoRoom) → EventAt o v Here (Leaf b) after
    told_leaf : (b : Branch) (t : ℕ) (w : Held) (d : Did Held Mark) (after : Task) → v ≡ Some w → b.close ≡ None → stage b ≡ Due t → TurnTo u b.own w b.code b.stack o d → after ≡ done (core u) b t d → EventAt o v Here (Leaf b) after
    joining : (b : Branch) (p : Blocks) (l r : Task) (x y : Final Held) (after : Task) → o ≡ Tick → final l ≡ Some x → final r ≡ Some y → after ≡ resumed (core u) b (join_of (core u) b p x y) → EventAt o v Here (Fork b p l r) after
    on_left : (w : Way) (b : Branch) (p : Blocks) (l r after : Task) → EventAt o v w l after → EventAt o v (GoL w) (Fork b p l r) (Fork b p after r)
    on_right : (w : Way) (b : Branch) (p : Blocks) (l r after : Task) → EventAt o v w r after → EventAt o v (GoR w) (Fork b p l r) (Fork b p l after)

  leaf-event : (o : Op) (v : Option Held) (b : Branch) (s : Stage Held) → stage b ≡ s → leaf_op (core u) b s ≡ Some o → EventAt o v Here (Leaf b) (leaf_on (core u) b s v)
  leaf-event o v b (Over f) is e = none-some e
  leaf-event o v b (Due t) is e = by_turn (next_turn (core u) b) (turn-tells u b.own b.code b.stack) e v
    where
      open_ : b.close ≡ None
      open_ = due-none b.close (stage_by_code b.code b.stack b.turns b.own) b.turns t b.own is

      by_turn : (x : Turn Held Mark Op) → TurnTells u b.own b.code b.stack x → turn_op (core u) x ≡ Some o → (v : Option Held) → EventAt o v Here (Leaf b) (told_to (core u) b t x v)
      by_turn NoTurn tells e v = none-some e
      by_turn (Takes q told) tells e None = refused_leaf b t _ refl open_ refl
      by_turn (Takes q told) tells e (Some w) = told_leaf b t w (told w) _ refl open_ is (subst (λ q. TurnTo u b.own w b.code b.stack q (told w)) (some-inj e) (tells w)) refl

  join-event : (o : Op) (v : Option Held) (b : Branch) (p : Blocks) (l r : Task) (x y : Option (Final Held)) → final l ≡ x → final r ≡ y → if_both_over x y None (λ x y. Some Tick) ≡ Some o
      → EventAt o v Here (Fork b p l r) (if_both_over x y (Fork b p l r) (λ x y. resumed (core u) b (join_of (core u) b p x y)))
  join-event o v b p l r None y left right e = none-some e
  join-event o v b p l r (Some x) None left right e = none-some e
  join-event o v b p l r (Some x) (Some y) left right e = joining b p l r x y _ (sym (some-inj e)) left right refl

  pub event-at : (o : Op) (v : Option Held) (w : Way) (t : Task) → look u w t ≡ Some o → EventAt o v w t (fill (core u) w t v)
  event-at o v Here (Leaf b) e = leaf-event o v b (stage b) refl e
  event-at o v Here (Fork b p l r) e = join-event o v b p l r (final l) (final r) refl refl e
  event-at o v (GoL w) (Leaf b) e = none-some e
  event-at o v (GoR w) (Leaf b) e = none-some e
  event-at o v (GoL w) (Fork b p l r) e = on_left w b p l r (fill (core u) w l v) (event-at o v w l e)
  event-at o v (GoR w) (Fork b p l r) e = on_right w b p l r (fill (core u) w r v) (event-at o v w r e)

-- ---------- states ----------
-- what is told is what the heap finds, or nothing where it refuses
abbrev pub IsTold : ℕ → Op → Option Held → Heap → Type 0
IsTold limit o v h = ((x : Held) × ((v ≡ Some x) × (find (within limit) o h ≡ Found x))) ⊎ ((v ≡ None) × (find (within limit) o h ≡ Refused))

-- the event of a node, by what it asks and is told
pub record IsStep (u : UnitCode) (limit : ℕ) (s t : State) (w : Way) : Type 0 where
  pub op : Op
  pub told : Option Held
  pub looks : look u w s.task ≡ Some op
  pub task : t.task ≡ fill (core u) w s.task told
  pub heap : t.heap ≡ after u (within limit) op s.heap
  pub answer : IsTold limit op told s.heap

pub is-step : (u : UnitCode) (limit : ℕ) (s t : State) (w : Way) → step u limit s w ≡ Some t → IsStep u limit s t w
is-step u limit s t w e = looked (look u w s.task) refl e
  where
    made : (o : Op) (v : Option Held) → look u w s.task ≡ Some o → record { task = fill (core u) w s.task v; heap = after u (within limit) o s.heap } ≡ t → IsTold limit o v s.heap → IsStep u limit s t w
    made o v q same answer = record { op = o; told = v; looks = q; task = sym (ap (λ (z : State). z.task) same); heap = sym (ap (λ (z : State). z.heap) same); answer = answer }

    reply : (o : Op) (x : Answer Held) → look u w s.task ≡ Some o → find (within limit) o s.heap ≡ x → answered (core u) (memory u) (within limit) s w o x ≡ Some t → IsStep u limit s t w
    reply o (Found v) q f e = made o (Some v) q (some-inj e) (inl (v, (refl, f)))
    reply o Refused q f e = made o None q (some-inj e) (inr (refl, f))
    reply o Missing q f e = none-some e

    looked : (x : Option Op) → look u w s.task ≡ x → asked (core u) (memory u) (within limit) s w x ≡ Some t → IsStep u limit s t w
    looked None q e = none-some e
    looked (Some o) q e = reply o (find (within limit) o s.heap) q refl e

-- what the event does to the tree
pub step-event : (u : UnitCode) (limit : ℕ) (s t : State) (w : Way) → (is : IsStep u limit s t w) → EventAt u is.op is.told w s.task t.task
step-event u limit s t w is = subst (λ (x : Task). EventAt u is.op is.told w s.task x) (sym is.task) (event-at u is.op is.told w s.task is.looks)
