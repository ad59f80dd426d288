-- A turn that reads an object, or takes a field's value out of it: in the heap that its operation leaves, the branch and the objects fit the labels that its statement tells.
use Rattle.std.proofs.Common.{◌≡◌, ℕ, Bool, true, List}
use Rattle.perm_tree.specs.declared.ast.Span.{Span}
use Rattle.perm_tree.specs.Code.{Instruction, LoadField, LoadLength, LoadItem, TakeField, Code, Do, UnitCode}
use Rattle.perm_tree.specs.Vars.{Vars}
use Rattle.perm_meaning.specs.Names.{Name}
use Rattle.perm_meaning.specs.Machine.{Way, Here, On, done}
use Rattle.perm_meaning.specs.NamedHeap.{Held, Heap, Op, Own, Branch, find, after}
use Rattle.perm_meaning.specs.Steps.{Found}
use Rattle.perm_core.specs.Core.{core}
use Rattle.perm_core.specs.Regions.{Zone, Labels, calls, top_zone}
use Rattle.perm_core.specs.Picture.{context_of, variables_fit, stack_fits, tree_fits, object_fits, valued, RestGoes}
use Rattle.perm_core.specs.NextPicture.{relabelled, instruction_change}
use Rattle.perm_core.proofs.KeepsPicture.Turns.LeafTurns.{Acts, declares, assigns, loads, measures, reads, takes, stores, writes, prints, Stays}
use Rattle.perm_core.proofs.KeepsPicture.Objects.LoadTurns.{load-field-fits, load-field-objects, load-length-fits, load-item-fits}
use Rattle.perm_core.proofs.KeepsPicture.Objects.TakeTurns.{take-field-fits, take-field-objects}

-- a statement that reads an object, or takes a field's value
abbrev pub IsRead : Instruction → Type 0
IsRead (LoadField x y f) = Unit {0}
IsRead (LoadLength x y) = Unit {0}
IsRead (LoadItem x y i) = Unit {0}
IsRead (TakeField x y f) = Unit {0}
IsRead i = ⊥

module _ (u : UnitCode) (fits : ℕ → Bool) (labels : Labels) (heap : Heap) (at : Way → Way) (z : Zone) (below : List ℕ) (b : Branch) (span : Span) (rest : Code) (H : Vars) (w : Held)
    (vars : variables_fit u labels heap.objects (top_zone (at Here) z b.stack) (at Here) (calls b.stack) 0 (context_of u b.own.routine).vars b.own.vars ≡ true) (stack : stack_fits u labels heap.objects (at Here) z b.own.routine b.stack ≡ true)
    (objects : (m : Name) → object_fits u labels heap.objects m (heap.objects m) ≡ true) where
  -- the labels after a statement
  abbrev told : Instruction → Labels
  told i = relabelled (instruction_change u labels (context_of u b.own.routine) (at Here) z b i) labels

  -- the code to come, where the statement is next
  abbrev GoesFrom : Instruction → Type 0
  GoesFrom i = RestGoes u below b.own.routine (Do span i rest) b.stack (valued b.own.vars) H

  -- after the turn the branch fits
  pub read-fits : (i : Instruction) (o : Op) (vs : List Held) (l : Own) (t : ℕ) → IsRead i → GoesFrom i → find fits o heap ≡ Found w → Acts u b.own w i o vs → Stays u b.own l vs → tree_fits u (told i) (after u fits o heap).objects at z (done (core u) b t (On l rest b.stack)) ≡ true
  read-fits _ _ _ l t is goes answered (loads x y f r n here) stays = load-field-fits u labels heap.objects at z below b span x y f rest b.stack H r n w goes vars stack objects here answered l t stays.vars stays.routine
  read-fits _ _ _ l t is goes answered (measures x y r n here) stays = load-length-fits u labels heap.objects at z below b span x y rest b.stack H _ goes vars stack l t stays.vars stays.routine
  read-fits _ _ _ l t is goes answered (reads x y e r n f here) stays = load-item-fits u labels heap.objects at z below b span x y e rest b.stack H r n f w goes vars stack objects here answered l t stays.vars stays.routine
  read-fits _ _ _ l t is goes answered (takes x y f r n here) stays = take-field-fits u labels heap.objects at z below b span x y f rest b.stack H r n w goes vars stack objects here answered l t stays.vars stays.routine
  read-fits _ _ _ l t is goes answered (declares x) stays = absurd is
  read-fits _ _ _ l t is goes answered (assigns x a v vs one) stays = absurd is
  read-fits _ _ _ l t is goes answered (stores y f a v vs r n one here) stays = absurd is
  read-fits _ _ _ l t is goes answered (writes y i e v k r n f gives number here) stays = absurd is
  read-fits _ _ _ l t is goes answered (prints e) stays = absurd is

  -- and so do the objects
  pub read-objects : (i : Instruction) (o : Op) (vs : List Held) → IsRead i → GoesFrom i → find fits o heap ≡ Found w → Acts u b.own w i o vs → (m : Name) → object_fits u (told i) (after u fits o heap).objects m ((after u fits o heap).objects m) ≡ true
  read-objects _ _ _ is goes answered (loads x y f r n here) = load-field-objects u labels heap.objects at z below b span x y f rest b.stack H r n w goes vars stack objects here answered
  read-objects _ _ _ is goes answered (measures x y r n here) = objects
  read-objects _ _ _ is goes answered (reads x y e r n f here) = objects
  read-objects _ _ _ is goes answered (takes x y f r n here) = take-field-objects u labels heap.objects at z below b span x y f rest b.stack H r n w goes vars stack objects here answered
  read-objects _ _ _ is goes answered (declares x) = absurd is
  read-objects _ _ _ is goes answered (assigns x a v vs one) = absurd is
  read-objects _ _ _ is goes answered (stores y f a v vs r n one here) = absurd is
  read-objects _ _ _ is goes answered (writes y i e v k r n f gives number here) = absurd is
  read-objects _ _ _ is goes answered (prints e) = absurd is
