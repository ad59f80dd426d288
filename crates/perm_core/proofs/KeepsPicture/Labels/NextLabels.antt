-- The next labels at the node of an event: those that the leaf's code or the parent's join tells, and the old ones where a turn traps or an allocation is refused.
use Rattle.std.proofs.Common.{◌≡◌, ℕ, Bool, true, false, Option, Some, None, List, refl, sym, ap, subst, ◌∙◌, inl, inr}
use Rattle.std.specs.Prelude.{◌⊎◌, cond}
use Rattle.perm_tree.specs.declared.ast.Shape.{Shape}
use Rattle.perm_tree.specs.Code.{Instruction, Code, UnitCode}
use Rattle.perm_tree.specs.Vars.{Vars}
use Rattle.perm_meaning.specs.Values.{Value}
use Rattle.perm_meaning.specs.Names.{Name, Mark, next_name}
use Rattle.perm_meaning.specs.Objects.{Objects, field_of}
use Rattle.perm_meaning.specs.Effects.{Tick, Load, Store, Take, Make}
use Rattle.perm_meaning.specs.Machine.{Frame, Blocks, Leaf, Fork, Way, Here, Final, final, Did, Dies, done, resumed, join_of, fill}
use Rattle.perm_meaning.specs.NamedHeap.{Held, Heap, Op, Own, Branch, Task, found, found_nothing, has_room, find}
use Rattle.perm_meaning.specs.Steps.{Found, Refused, within}
use Rattle.perm_meaning.proofs.Leads.{some-inj, none-some}
use Rattle.perm_core.specs.Core.{core, look}
use Rattle.perm_core.specs.Endings.{Ending}
use Rattle.perm_core.specs.Regions.{Zone, Labels}
use Rattle.perm_core.specs.Picture.{context_of, tree_fits, object_fits}
use Rattle.perm_core.specs.NextPicture.{Change, moving, no_change, relabelled, join_moves, is_failing, code_change, change, unless_refused}
use Rattle.perm_core.proofs.KeepsPicture.Turns.LeafChanges.{has-died, LeafTold, leaf-told}
use Rattle.perm_core.proofs.KeepsPicture.Turns.LeafTurns.{Acts, declares, assigns, loads, measures, reads, takes, stores, writes, prints, TurnTo, dying, ending, acting, making, beginning, left_block, right_block, into_loop, out_of_loop, parting, recovering, giving, returning}
use Rattle.perm_core.proofs.KeepsPicture.Labels.LocalChanges.{IsAround, local-around, no-local}
use Rattle.perm_core.proofs.KeepsPicture.Labels.NodeChanges.{code-local, join-local}
use Rattle.perm_core.proofs.KeepsPicture.Trees.NodePremises.{NodeFits, LeafFits, leaf-fits, fork-avoids}
use Rattle.perm_core.proofs.KeepsPicture.Objects.ObjectTurns.{found-room, refused-full, refused-objects, room-change, refused-change}
use Rattle.perm_core.proofs.KeepsPicture.Trees.TreeEvents.{EventAt, refused_leaf, told_leaf, joining, event-at}
use Rattle.perm_core.proofs.KeepsPicture.Trees.WholeTrees.{next_at, left_by, IsNext}

-- ---------- operations ----------
-- an operation that is answered changes the labels as told
pub answered-change : (limit : ℕ) (h : Heap) (o : Op) (w : Held) (c : Change) → find (within limit) o h ≡ Found w → unless_refused limit h (Some o) c ≡ c
answered-change limit h Tick w c e = refl
answered-change limit h (Load r f) w c e = refl
answered-change limit h (Store r f v) w c e = refl
answered-change limit h (Take r f) w c e = refl
answered-change limit h (Make by shape n) w c e = room-change limit by shape n h c (found-room (within limit) by shape n h w e).0

-- one that is refused is an allocation that has no room
pub record IsFull (limit : ℕ) (h : Heap) (o : Op) : Type 0 where
  pub by : Mark
  pub shape : Shape
  pub n : ℕ
  pub same : o ≡ Make by shape n
  pub full : has_room (within limit) n h ≡ false

pub is-full : (limit : ℕ) (h : Heap) (o : Op) → find (within limit) o h ≡ Refused → IsFull limit h o
is-full limit h (Make by shape n) e = record { by = by; shape = shape; n = n; same = refl; full = refused-full (within limit) by shape n h e }
is-full limit h Tick e = absurd (let no : ⊥ = cc e in no)
is-full limit h (Load r f) e = absurd (go (field_of h.objects r f) e)
  where
    go : (v : Option (Value Name)) → found v ≡ Refused → ⊥
    go None e = let no : ⊥ = cc e in no
    go (Some v) e = let no : ⊥ = cc e in no
is-full limit h (Store r f v) e = absurd (go (field_of h.objects r f) e)
  where
    go : (v : Option (Value Name)) → found_nothing v ≡ Refused → ⊥
    go None e = let no : ⊥ = cc e in no
    go (Some v) e = let no : ⊥ = cc e in no
is-full limit h (Take r f) e = absurd (go (field_of h.objects r f) e)
  where
    go : (v : Option (Value Name)) → found v ≡ Refused → ⊥
    go None e = let no : ⊥ = cc e in no
    go (Some v) e = let no : ⊥ = cc e in no

-- ---------- turns ----------
-- the mark by which an operation makes an object
abbrev made_by : Op → Option Mark
made_by (Make by shape n) = Some by
made_by o = None

module _ (u : UnitCode) (l : Own) (w : Held) where
  acts-make : (i : Instruction) (o : Op) (vs : List Held) → Acts u l w i o vs → made_by o ≡ None
  acts-make _ _ _ (declares x) = refl
  acts-make _ _ _ (assigns x a v vs one) = refl
  acts-make _ _ _ (loads x y f r n here) = refl
  acts-make _ _ _ (measures x y r n here) = refl
  acts-make _ _ _ (reads x y i r n f here) = refl
  acts-make _ _ _ (takes x y f r n here) = refl
  acts-make _ _ _ (stores y f a v vs r n one here) = refl
  acts-make _ _ _ (writes y i e v k r n f p q here) = refl
  acts-make _ _ _ (prints e) = refl

  -- a turn makes an object by the mark of its branch
  turn-makes : (c : Code) (st : List (Frame Held)) (o : Op) (d : Did Held Mark) → TurnTo u l w c st o d → (made_by o ≡ None) ⊎ (made_by o ≡ Some l.mark)
  turn-makes _ _ _ _ (dying c st f) = inl refl
  turn-makes _ _ _ _ (ending at a v q) = inl refl
  turn-makes _ _ _ _ (acting at i rest st o vs l' acts stays) = inl (acts-make i o vs acts)
  turn-makes _ _ _ _ (making at i rest st shape k x l' is q) = inr refl
  turn-makes _ _ _ _ (beginning at rest st into tie consumed y m args r this found vs saved lent l' c caller is code q1 q2 q3 goes) = inl refl
  turn-makes _ _ _ _ (left_block at x own1 a own2 a2 rest st) = inl refl
  turn-makes _ _ _ _ (right_block at x own1 a own2 a2 rest st) = inl refl
  turn-makes _ _ _ _ (into_loop at x own body rest st) = inl refl
  turn-makes _ _ _ _ (out_of_loop at x own body rest st) = inl refl
  turn-makes _ _ _ _ (parting at own1 a own2 a2 rest st p same) = inl refl
  turn-makes _ _ _ _ (recovering at x own hides body rest st l' saved goes q) = inl refl
  turn-makes _ _ _ _ (giving at y x own hides saved rest st v l' had q goes) = inl refl
  turn-makes _ _ _ _ (returning at a tie into y saved lent caller rest st v l' q goes) = inl refl

  pub makes-by-mark : (c : Code) (st : List (Frame Held)) (o : Op) (d : Did Held Mark) → TurnTo u l w c st o d → (by : Mark) (shape : Shape) (n : ℕ) → o ≡ Make by shape n → by ≡ l.mark
  makes-by-mark c st o d turn by shape n same = go (turn-makes c st o d turn)
    where
      go : (made_by o ≡ None) ⊎ (made_by o ≡ Some l.mark) → by ≡ l.mark
      go (inl q) = none-some (sym q ∙ ap made_by same)
      go (inr q) = some-inj (sym (ap made_by same) ∙ q)

module _ (u : UnitCode) (limit : ℕ) (labels : Labels) (heap : Heap) where
  -- ---------- what is asked of a turn and of a join ----------
  -- the labels that a leaf's code tells
  abbrev pub told_at : (Way → Way) → Zone → Branch → Labels
  told_at at z b = relabelled (code_change u labels (context_of u b.own.routine) at z b b.code) labels

  -- a turn that doesn't trap leaves a tree and objects that fit the labels that the code tells
  pub record TurnFits (o : Op) (at : Way → Way) (z : Zone) (b : Branch) (t : ℕ) (d : Did Held Mark) : Type 0 where
    pub fits : tree_fits u (told_at at z b) (left_by u limit labels heap o) at z (done (core u) b t d) ≡ true
    pub objects : (n : Name) → object_fits u (told_at at z b) (left_by u limit labels heap o) n (left_by u limit labels heap o n) ≡ true

  -- the labels that a join tells
  abbrev pub joined_at : (Way → Way) → Zone → Branch → Blocks → Labels
  joined_at at z b p = relabelled (moving (join_moves u labels (context_of u b.own.routine) at z b p)) labels

  -- a parent whose sides have ended so leaves a tree and objects that fit those
  pub record JoinFits (at : Way → Way) (z : Zone) (b : Branch) (p : Blocks) (x y : Final Held) : Type 0 where
    pub fits : tree_fits u (joined_at at z b p) heap.objects at z (resumed (core u) b (join_of (core u) b p x y)) ≡ true
    pub objects : (n : Name) → object_fits u (joined_at at z b p) heap.objects n (heap.objects n) ≡ true

  -- ---------- the events of a node ----------
  abbrev Next : Op → Option Held → (Way → Way) → Zone → Task → Type 0
  Next o v at z t = IsNext u limit labels heap o v at z Here t

  -- a node's event, by the labels after it and what it leaves
  next-by : (o : Op) (v : Option Held) (at : Way → Way) (z : Zone) (t after : Task) (c : Change) → unless_refused limit heap (look u Here t) (change u labels at z Here t) ≡ c → fill (core u) Here t v ≡ after
      → tree_fits u (relabelled c labels) (left_by u limit labels heap o) at z after ≡ true → ((n : Name) → object_fits u (relabelled c labels) (left_by u limit labels heap o) n (left_by u limit labels heap o n) ≡ true)
      → IsAround at labels (relabelled c labels) heap.objects (left_by u limit labels heap o) → Next o v at z t
  next-by o v at z t after c same became fits objects around = record {
    fits = subst (λ (x : Task). tree_fits u (next_at u limit labels heap at z Here t) (left_by u limit labels heap o) at z x ≡ true) (sym became)
        (subst (λ (q : Change). tree_fits u (relabelled q labels) (left_by u limit labels heap o) at z after ≡ true) (sym same) fits);
    objects = λ n. subst (λ (q : Change). object_fits u (relabelled q labels) (left_by u limit labels heap o) n (left_by u limit labels heap o n) ≡ true) (sym same) (objects n);
    around = subst (λ (q : Change). IsAround at labels (relabelled q labels) heap.objects (left_by u limit labels heap o)) (sym same) around;
  }

  -- a leaf's turn that is answered
  pub leaf-next : (k : Ending) (below : List ℕ) (at : Way → Way) (z : Zone) (b : Branch) (H : Vars) (o : Op) (w : Held) → NodeFits u labels heap k below at z (Leaf b) H → look u Here (Leaf b) ≡ Some o → find (within limit) o heap ≡ Found w
      → ((t : ℕ) (d : Did Held Mark) → LeafFits u labels heap k below at z b H → TurnTo u b.own w b.code b.stack o d → is_failing u labels d ≡ false → TurnFits o at z b t d) → Next o (Some w) at z (Leaf b)
  leaf-next k below at z b H o w node asks answered turn = go (is_failing u labels told.d) refl
    where
      told : LeafTold u labels b o w
      told = leaf-told u labels (within limit) b o heap w asks answered

      leaf : LeafFits u labels heap k below at z b H
      leaf = leaf-fits u labels heap k below at z b H told.t node told.open_ told.due

      c : Change
      c = code_change u labels (context_of u b.own.routine) at z b b.code

      same : (t : Bool) → is_failing u labels told.d ≡ t → unless_refused limit heap (look u Here (Leaf b)) (change u labels at z Here (Leaf b)) ≡ cond t no_change c
      same t q =
          ap (λ x. unless_refused limit heap x (change u labels at z Here (Leaf b))) asks ∙ answered-change limit heap o w (change u labels at z Here (Leaf b)) answered ∙ told.changes c ∙ ap (λ x. cond x no_change c) q

      makes : (by : Mark) (shape : Shape) (n : ℕ) → o ≡ Make by shape n → heap.objects (next_name by) ≡ None
      makes by shape n q = ap (λ (m : Mark). heap.objects (next_name m)) (makes-by-mark u b.own w b.code b.stack o told.d told.turn by shape n q) ∙ leaf.new

      go : (t : Bool) → is_failing u labels told.d ≡ t → Next o (Some w) at z (Leaf b)
      go false q =
          let is = turn told.t told.d leaf told.turn q in
          next-by o (Some w) at z (Leaf b) (done (core u) b told.t told.d) c (same false q) told.same is.fits is.objects
          (local-around u (within limit) at labels heap o c (code-local at u labels heap k below z b H leaf b.code) makes)
      go true q =
          let died = has-died u labels b.own w b.code b.stack o told.d told.turn q in
          next-by o (Some w) at z (Leaf b) (done (core u) b told.t (Dies died.failure)) no_change (same true q) (told.same ∙ ap (λ d. done (core u) b told.t d) died.dies) refl
          (λ n. subst (λ (p : Op). object_fits u labels (left_by u limit labels heap p) n (left_by u limit labels heap p n) ≡ true) (sym died.idle) (leaf.objects n))
          (local-around u (within limit) at labels heap o no_change (no-local at heap.objects) makes)

  -- a leaf to which an allocation is refused
  pub refused-next : (k : Ending) (below : List ℕ) (at : Way → Way) (z : Zone) (b : Branch) (H : Vars) (o : Op) → NodeFits u labels heap k below at z (Leaf b) H → look u Here (Leaf b) ≡ Some o → find (within limit) o heap ≡ Refused → Next o None at z (Leaf b)
  refused-next k below at z b H o node asks refused = go (event-at u o None Here (Leaf b) asks)
    where
      full : IsFull limit heap o
      full = is-full limit heap o refused

      same : unless_refused limit heap (look u Here (Leaf b)) (change u labels at z Here (Leaf b)) ≡ no_change
      same =
          ap (λ x. unless_refused limit heap x (change u labels at z Here (Leaf b))) (asks ∙ ap (λ (x : Op). Some x) full.same)
          ∙ refused-change limit full.by full.shape full.n heap (change u labels at z Here (Leaf b)) full.full

      objects_same : left_by u limit labels heap o ≡ heap.objects
      objects_same = ap (λ (x : Op). left_by u limit labels heap x) full.same ∙ refused-objects u (within limit) full.by full.shape full.n heap full.full

      around : IsAround at labels labels heap.objects (left_by u limit labels heap o)
      around = subst (λ (h : Objects Name). IsAround at labels labels heap.objects h) (sym objects_same) (local-around u (within limit) at labels heap Tick no_change (no-local at heap.objects) (λ by shape n q. absurd (let no : ⊥ = cc q in no)))

      go : EventAt u o None Here (Leaf b) (fill (core u) Here (Leaf b) None) → Next o None at z (Leaf b)
      go (refused_leaf _ t after q open_ became) =
          next-by o None at z (Leaf b) _ no_change same became refl (λ n. subst (λ (h : Objects Name). object_fits u labels h n (h n) ≡ true) (sym objects_same) (node.objects n)) around
      go (told_leaf _ t w d after q open_ due turn became) = none-some q

  -- a parent whose sides have ended
  pub join-next : (k : Ending) (below : List ℕ) (at : Way → Way) (z : Zone) (b : Branch) (p : Blocks) (l r : Task) (H : Vars) (o : Op) (v : Option Held) → NodeFits u labels heap k below at z (Fork b p l r) H → look u Here (Fork b p l r) ≡ Some o
      → ((x y : Final Held) → final l ≡ Some x → final r ≡ Some y → JoinFits at z b p x y) → Next o v at z (Fork b p l r)
  join-next k below at z b p l r H o v node asks join = go (event-at u o v Here (Fork b p l r) asks)
    where
      c : Change
      c = moving (join_moves u labels (context_of u b.own.routine) at z b p)

      go : EventAt u o v Here (Fork b p l r) (fill (core u) Here (Fork b p l r) v) → Next o v at z (Fork b p l r)
      go (joining _ _ _ _ x y after idle left right became) =
          let is = join x y left right in
          next-by o v at z (Fork b p l r) (resumed (core u) b (join_of (core u) b p x y)) c (ap (λ q. unless_refused limit heap q c) (asks ∙ ap (λ (q : Op). Some q) idle)) became
          (subst (λ (q : Op). tree_fits u (joined_at at z b p) (left_by u limit labels heap q) at z (resumed (core u) b (join_of (core u) b p x y)) ≡ true) (sym idle) is.fits)
          (λ n. subst (λ (q : Op). object_fits u (joined_at at z b p) (left_by u limit labels heap q) n (left_by u limit labels heap q n) ≡ true) (sym idle) (is.objects n))
          (local-around u (within limit) at labels heap o c (record { moves = join-local at u labels (context_of u b.own.routine) z b p (fork-avoids u labels heap k below at z b p l r H node); new = tt })
          (λ by shape n q. absurd (let e : Tick ≡ Make by shape n = sym idle ∙ q in let no : ⊥ = cc e in no)))
