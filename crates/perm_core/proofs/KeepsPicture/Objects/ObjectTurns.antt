-- A turn that makes or writes an object: in the heap that its operation leaves, the branch and the objects fit the labels that its statement tells. A refused allocation changes neither labels nor objects.
use Rattle.std.proofs.Common.{◌≡◌, ℕ, Bool, true, false, Some, None, List, refl, sym, ap, subst, ◌∙◌}
use Rattle.std.specs.Prelude.{cond}
use Rattle.perm_tree.specs.declared.ast.Shape.{Shape}
use Rattle.perm_tree.specs.declared.ast.Span.{Span}
use Rattle.perm_tree.specs.Code.{Instruction, StoreField, StoreItem, Code, Do, UnitCode}
use Rattle.perm_tree.specs.Vars.{Vars}
use Rattle.perm_meaning.specs.Values.{Reference}
use Rattle.perm_meaning.specs.Names.{Name, Mark, next_name, after_object}
use Rattle.perm_meaning.specs.Objects.{size, length_of}
use Rattle.perm_meaning.specs.Expressions.{assign}
use Rattle.perm_meaning.specs.Effects.{Make}
use Rattle.perm_meaning.specs.Machine.{Way, Here, On, done}
use Rattle.perm_meaning.specs.NamedHeap.{Held, Heap, Op, Own, Branch, has_room, find, allocated, after}
use Rattle.perm_meaning.specs.Steps.{Answer, Found, Refused, Missing, within}
use Rattle.perm_core.specs.Core.{core}
use Rattle.perm_core.specs.Regions.{Zone, Labels, calls, top_zone}
use Rattle.perm_core.specs.Picture.{context_of, variables_fit, stack_fits, tree_fits, object_fits, valued, RestGoes, stack_hidden}
use Rattle.perm_core.specs.NextPicture.{Change, relabelled, no_change, instruction_change, unless_refused}
use Rattle.perm_core.proofs.KeepsPicture.Calls.CallEnds.{StartsLow}
use Rattle.perm_core.proofs.KeepsPicture.Objects.ItemStores.{item-fits, item-objects}
use Rattle.perm_core.proofs.KeepsPicture.Turns.LeafTurns.{Acts, declares, assigns, loads, measures, reads, takes, stores, writes, prints, Creates, object, array, Stays}
use Rattle.perm_core.proofs.KeepsPicture.Objects.MakeTurns.{make-fits, make-objects}
use Rattle.perm_core.proofs.KeepsPicture.Objects.StoreTurns.{store-fits, store-objects}

-- ---------- allocations ----------
-- an allocation that is answered has room, and is told a reference to the new object
pub found-room : (fits : ℕ → Bool) (by : Mark) (shape : Shape) (n : ℕ) (h : Heap) (w : Held) → find fits (Make by shape n) h ≡ Found w → (has_room fits n h ≡ true) × (w ≡ Some (Reference (next_name by) (length_of shape n)))
found-room fits by shape n h w e = go (has_room fits n h) e
  where
    told : Answer Held → Held
    told (Found v) = v
    told Refused = None
    told Missing = None

    go : (t : Bool) → cond t (Found (Some (Reference (next_name by) (length_of shape n)))) Refused ≡ Found w → (t ≡ true) × (w ≡ Some (Reference (next_name by) (length_of shape n)))
    go true q = (refl, sym (ap told q))
    go false q = absurd (let no : ⊥ = cc q in no)

-- one that is refused has none
pub refused-full : (fits : ℕ → Bool) (by : Mark) (shape : Shape) (n : ℕ) (h : Heap) → find fits (Make by shape n) h ≡ Refused → has_room fits n h ≡ false
refused-full fits by shape n h e = go (has_room fits n h) e
  where
    go : (t : Bool) → cond t (Found (Some (Reference (next_name by) (length_of shape n)))) Refused ≡ Refused → t ≡ false
    go true q = absurd (let no : ⊥ = cc q in no)
    go false q = refl

-- and leaves the objects
pub refused-objects : (u : UnitCode) (fits : ℕ → Bool) (by : Mark) (shape : Shape) (n : ℕ) (h : Heap) → has_room fits n h ≡ false → (after u fits (Make by shape n) h).objects ≡ h.objects
refused-objects u fits by shape n h e = ap (λ t. (allocated t (fits (size n)) u by shape n h).objects) e ∙ go (fits (size n))
  where
    go : (alone : Bool) → (allocated false alone u by shape n h).objects ≡ h.objects
    go true = refl
    go false = refl

-- its labels change only where it has room
pub room-change : (limit : ℕ) (by : Mark) (shape : Shape) (n : ℕ) (h : Heap) (c : Change) → has_room (within limit) n h ≡ true → unless_refused limit h (Some (Make by shape n)) c ≡ c
room-change limit by shape n h c e = ap (λ t. cond t c no_change) e

pub refused-change : (limit : ℕ) (by : Mark) (shape : Shape) (n : ℕ) (h : Heap) (c : Change) → has_room (within limit) n h ≡ false → unless_refused limit h (Some (Make by shape n)) c ≡ no_change
refused-change limit by shape n h c e = ap (λ t. cond t c no_change) e

-- a statement that writes to an object
abbrev pub IsWrite : Instruction → Type 0
IsWrite (StoreField y f a) = Unit {0}
IsWrite (StoreItem y i e) = Unit {0}
IsWrite i = ⊥

-- ---------- turns ----------
module _ (u : UnitCode) (fits : ℕ → Bool) (labels : Labels) (heap : Heap) (at : Way → Way) (z : Zone) (low : StartsLow (at Here) z) (below : List ℕ) (b : Branch) (span : Span) (rest : Code) (H : Vars) (w : Held)
    (vars : variables_fit u labels heap.objects (top_zone (at Here) z b.stack) (at Here) (calls b.stack) 0 (context_of u b.own.routine).vars b.own.vars ≡ true) (stack : stack_fits u labels heap.objects (at Here) z b.own.routine b.stack ≡ true) where
  -- the labels after a statement
  abbrev pub told : Instruction → Labels
  told i = relabelled (instruction_change u labels (context_of u b.own.routine) (at Here) z b i) labels

  -- the code to come, where the statement is next
  abbrev pub ComesNext : Instruction → Type 0
  ComesNext i = RestGoes u below b.own.routine (Do span i rest) b.stack (valued b.own.vars) H × (stack_hidden below (Do span i rest) b.stack ≡ true)

  -- after a store the branch fits
  pub write-fits : (i : Instruction) (o : Op) (vs : List Held) (l : Own) (t : ℕ) → IsWrite i → ComesNext i → Acts u b.own w i o vs → Stays u b.own l vs → tree_fits u (told i) (after u fits o heap).objects at z (done (core u) b t (On l rest b.stack)) ≡ true
  write-fits _ _ _ l t is next (stores y f a v vs r n one here) stays = store-fits u labels heap at z low below b span y f a rest b.stack H v vs r n next.0 vars stack next.1 one here l t stays.vars stays.routine
  write-fits _ _ _ l t is next (writes y i e v k r n f gives number here) stays = item-fits u labels heap at z below b span y i e rest b.stack H v k r n f next.0 vars stack number here l t stays.vars stays.routine
  write-fits _ _ _ l t is next (declares x) stays = absurd is
  write-fits _ _ _ l t is next (assigns x a v vs one) stays = absurd is
  write-fits _ _ _ l t is next (loads x y f r n here) stays = absurd is
  write-fits _ _ _ l t is next (measures x y r n here) stays = absurd is
  write-fits _ _ _ l t is next (reads x y i r n f here) stays = absurd is
  write-fits _ _ _ l t is next (takes x y f r n here) stays = absurd is
  write-fits _ _ _ l t is next (prints e) stays = absurd is

  -- and so do the objects
  pub write-objects : (i : Instruction) (o : Op) (vs : List Held) → IsWrite i → ComesNext i → Acts u b.own w i o vs → ((m : Name) → object_fits u labels heap.objects m (heap.objects m) ≡ true) → (m : Name) → object_fits u (told i) (after u fits o heap).objects m ((after u fits o heap).objects m) ≡ true
  write-objects _ _ _ is next (stores y f a v vs r n one here) all = store-objects u labels heap at z low below b span y f a rest b.stack H v vs r n next.0 vars stack next.1 one here all
  write-objects _ _ _ is next (writes y i e v k r n f gives number here) all = item-objects u labels heap at z below b span y i e rest b.stack H v k r n f next.0 vars stack number here all
  write-objects _ _ _ is next (declares x) all = absurd is
  write-objects _ _ _ is next (assigns x a v vs one) all = absurd is
  write-objects _ _ _ is next (loads x y f r n here) all = absurd is
  write-objects _ _ _ is next (measures x y r n here) all = absurd is
  write-objects _ _ _ is next (reads x y i r n f here) all = absurd is
  write-objects _ _ _ is next (takes x y f r n here) all = absurd is
  write-objects _ _ _ is next (prints e) all = absurd is

  -- after an allocation that is answered the branch fits
  pub create-fits : (i : Instruction) (shape : Shape) (n x : ℕ) (l : Own) (t : ℕ) → ComesNext i → Creates u b.own i shape n x → heap.objects (next_name b.own.mark) ≡ None → find fits (Make b.own.mark shape n) heap ≡ Found w
      → l ≡ record b.own { vars = assign b.own.vars x w; mark = after_object b.own.mark } → tree_fits u (told i) (after u fits (Make b.own.mark shape n) heap).objects at z (done (core u) b t (On l rest b.stack)) ≡ true
  create-fits i shape n x l t next is new answered same =
      subst (λ (q : Bool). tree_fits u (told i) (allocated q (fits (size n)) u b.own.mark shape n heap).objects at z (done (core u) b t (On l rest b.stack)) ≡ true) (sym room.0) (go i shape n x next is (fits (size n)) vars_same (ap (λ (o : Own). o.routine) same))
    where
      room : (has_room fits n heap ≡ true) × (w ≡ Some (Reference (next_name b.own.mark) (length_of shape n)))
      room = found-room fits b.own.mark shape n heap w answered

      vars_same : l.vars ≡ assign b.own.vars x (Some (Reference (next_name b.own.mark) (length_of shape n)))
      vars_same = ap (λ (o : Own). o.vars) same ∙ ap (λ (v : Held). assign b.own.vars x v) room.1

      go : (i : Instruction) (shape : Shape) (n x : ℕ) → ComesNext i → Creates u b.own i shape n x → (alone : Bool) → l.vars ≡ assign b.own.vars x (Some (Reference (next_name b.own.mark) (length_of shape n))) → l.routine ≡ b.own.routine
          → tree_fits u (told i) (allocated true alone u b.own.mark shape n heap).objects at z (done (core u) b t (On l rest b.stack)) ≡ true
      go _ _ _ _ next (object x k ts q) alone e r = make-fits u labels heap.objects at z below b span _ _ _ x rest b.stack H next.0 vars stack (object x k ts q) new l t e r
      go _ _ _ _ next (array x e n) alone p r = make-fits u labels heap.objects at z below b span _ _ n x rest b.stack H next.0 vars stack (array x e n) new l t p r

  -- and so do the objects
  pub create-objects : (i : Instruction) (shape : Shape) (n x : ℕ) → ComesNext i → Creates u b.own i shape n x → heap.objects (next_name b.own.mark) ≡ None → find fits (Make b.own.mark shape n) heap ≡ Found w
      → ((m : Name) → object_fits u labels heap.objects m (heap.objects m) ≡ true) → (m : Name) → object_fits u (told i) (after u fits (Make b.own.mark shape n) heap).objects m ((after u fits (Make b.own.mark shape n) heap).objects m) ≡ true
  create-objects i shape n x next is new answered all m =
      subst (λ (q : Bool). object_fits u (told i) (allocated q (fits (size n)) u b.own.mark shape n heap).objects m ((allocated q (fits (size n)) u b.own.mark shape n heap).objects m) ≡ true) (sym (found-room fits b.own.mark shape n heap w answered).0)
      (go i shape n x next is (fits (size n)))
    where
      go : (i : Instruction) (shape : Shape) (n x : ℕ) → ComesNext i → Creates u b.own i shape n x → (alone : Bool) → object_fits u (told i) (allocated true alone u b.own.mark shape n heap).objects m ((allocated true alone u b.own.mark shape n heap).objects m) ≡ true
      go _ _ _ _ next (object x k ts q) alone = make-objects u labels heap.objects at z below b span _ _ _ x rest b.stack H next.0 vars stack (object x k ts q) new all m
      go _ _ _ _ next (array x e n) alone = make-objects u labels heap.objects at z below b span _ _ n x rest b.stack H next.0 vars stack (array x e n) new all m
