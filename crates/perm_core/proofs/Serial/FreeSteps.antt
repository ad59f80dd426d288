-- Events without a limit on the heap: they are those of the core where no allocation is refused, and what a refused one would need exceeds the limit.
use Rattle.std.proofs.Common.{◌≡◌, ℕ, ◌+◌, ◌≤◌, ◌<◌, Bool, true, false, Option, Some, None, refl, sym, ap, ◌∙◌, subst, arith, le_refl}
use Rattle.std.proofs.lemmas.Bool.Decides.{nat_tests}
use Rattle.std.specs.Prelude.{nat_le, cond}
use Rattle.perm_tree.specs.declared.ast.Shape.{Shape}
use Rattle.perm_tree.specs.Code.{UnitCode}
use Rattle.perm_meaning.specs.Machine.{Way, fill}
use Rattle.perm_meaning.specs.Values.{Reference}
use Rattle.perm_meaning.specs.Names.{Mark, next_name}
use Rattle.perm_meaning.specs.Effects.{Tick, Load, Store, Take, Make}
use Rattle.perm_meaning.specs.Objects.{size, length_of}
use Rattle.perm_meaning.specs.NamedHeap.{Heap, Held, Op, State, memory, has_room, find, allocated, after}
use Rattle.perm_meaning.specs.Steps as steps
use Rattle.perm_meaning.specs.Steps.{Answer, Found, Refused, Missing, within, next_state, answered, asked}
use Rattle.perm_meaning.proofs.Leads.{some-inj, none-some}
use Rattle.perm_core.specs.Core.{core, look, step}
use Rattle.perm_core.specs.Claims.{Refuses, refused}

-- every number of words fits
abbrev pub no_limit : ℕ → Bool
no_limit n = true

-- the words that an operation asks for
abbrev pub words_of : Option Op → ℕ
words_of (Some (Make by shape n)) = size n
words_of _ = 0

test-true : (a b : ℕ) → nat_le a b ≡ true → a ≤ b
test-true a b e = grind (arith, nat_tests)

test-false : (a b : ℕ) → nat_le a b ≡ false → b < a
test-false a b e = grind (arith, nat_tests)

test-passes : (a b : ℕ) → a ≤ b → nat_le a b ≡ true
test-passes a b e = grind (arith, nat_tests)

module _ (u : UnitCode) where
  -- the event of a node, without a limit
  abbrev pub free_step : State → Way → Option State
  free_step s w = steps.step (core u) (memory u) no_limit s w

  -- the words that the event of a node asks for
  abbrev pub asks : State → Way → ℕ
  asks s w = words_of (look u w s.task)

  -- an event that happened, in a heap that holds what fits
  pub record Happened (fits : ℕ → Bool) (s : State) (w : Way) (t : State) : Type 0 where
    pub op : Op
    pub told : Option Held
    pub looked : look u w s.task ≡ Some op
    pub end : next_state (core u) (memory u) fits s w op told ≡ t

  pub happened : (fits : ℕ → Bool) (s t : State) (w : Way) → steps.step (core u) (memory u) fits s w ≡ Some t → Happened fits s w t
  happened fits s t w e = go (look u w s.task) refl e
    where
      reply : (o : Op) (x : Answer Held) → look u w s.task ≡ Some o → answered (core u) (memory u) fits s w o x ≡ Some t → Happened fits s w t
      reply o (Found v) q e = record { op = o; told = Some v; looked = q; end = some-inj e }
      reply o Refused q e = record { op = o; told = None; looked = q; end = some-inj e }
      reply o Missing q e = none-some e

      go : (o : Option Op) → look u w s.task ≡ o → asked (core u) (memory u) fits s w o ≡ Some t → Happened fits s w t
      go None q e = none-some e
      go (Some o) q e = reply o (find fits o s.heap) q e

  -- ---------- with and without a limit ----------
  module _ (limit : ℕ) where
    -- where the heap holds what an event asks for, it isn't refused
    pub roomy-unrefused : (s : State) (w : Way) → s.heap.given + asks s w ≤ limit → Refuses u limit s w → ⊥
    roomy-unrefused s w = go (look u w s.task)
      where
        go : (o : Option Op) → s.heap.given + words_of o ≤ limit → refused u limit o s → ⊥
        go None le r = r
        go (Some Tick) le r = r
        go (Some (Load n f)) le r = r
        go (Some (Store n f v)) le r = r
        go (Some (Take n f)) le r = r
        go (Some (Make by shape n)) le r = let x = sym r ∙ test-passes (s.heap.given + size n) limit le in absurd (cc)

    -- an event is a refused allocation, or it isn't
    pub refused-or-not : (s : State) (w : Way) → Dec (Refuses u limit s w)
    refused-or-not s w = go (look u w s.task)
      where
        go : (o : Option Op) → Dec (refused u limit o s)
        go None = no (λ r. r)
        go (Some Tick) = no (λ r. r)
        go (Some (Load n f)) = no (λ r. r)
        go (Some (Store n f v)) = no (λ r. r)
        go (Some (Take n f)) = no (λ r. r)
        go (Some (Make by shape n)) = by_test (has_room (within limit) n s.heap) refl
          where
            by_test : (t : Bool) → has_room (within limit) n s.heap ≡ t → Dec (has_room (within limit) n s.heap ≡ false)
            by_test true q = no (λ r. let x = sym q ∙ r in absurd (cc))
            by_test false q = yes q

    -- what an answer makes of a state, with this heap after it
    abbrev replied : State → Way → Heap → Answer Held → Option State
    replied s w h (Found v) = Some (record { task = fill (core u) w s.task (Some v); heap = h })
    replied s w h Refused = Some (record { task = fill (core u) w s.task None; heap = h })
    replied s w h Missing = None

    replied-is : (fits : ℕ → Bool) (s : State) (w : Way) (o : Op) (x : Answer Held) → answered (core u) (memory u) fits s w o x ≡ replied s w (after u fits o s.heap) x
    replied-is fits s w o (Found v) = refl
    replied-is fits s w o Refused = refl
    replied-is fits s w o Missing = refl

    -- what an allocation makes of a state, by whether there is room
    abbrev made : State → Way → Mark → Shape → ℕ → Bool → Bool → Option State
    made s w by shape n room alone = replied s w (allocated room alone u by shape n s.heap) (cond room (Found (Some (Reference (next_name by) (length_of shape n)))) Refused)

    -- an event that isn't a refused allocation is one without a limit
    pub unrefused-free : (s : State) (w : Way) → (Refuses u limit s w → ⊥) → step u limit s w ≡ free_step s w
    unrefused-free s w = go (look u w s.task)
      where
        go : (o : Option Op) → (refused u limit o s → ⊥) → asked (core u) (memory u) (within limit) s w o ≡ asked (core u) (memory u) no_limit s w o
        go None not = refl
        go (Some Tick) not = refl
        go (Some (Load n f)) not = replied-is (within limit) s w (Load n f) _ ∙ sym (replied-is no_limit s w (Load n f) _)
        go (Some (Store n f v)) not = replied-is (within limit) s w (Store n f v) _ ∙ sym (replied-is no_limit s w (Store n f v) _)
        go (Some (Take n f)) not = replied-is (within limit) s w (Take n f) _ ∙ sym (replied-is no_limit s w (Take n f) _)
        go (Some (Make by shape n)) not = replied-is (within limit) s w (Make by shape n) _ ∙ by_test (has_room (within limit) n s.heap) refl
          where
            by_test : (t : Bool) → has_room (within limit) n s.heap ≡ t
                → made s w by shape n (has_room (within limit) n s.heap) (within limit (size n)) ≡ asked (core u) (memory u) no_limit s w (Some (Make by shape n))
            by_test true q = ap (λ t. made s w by shape n t (within limit (size n))) q
            by_test false q = absurd (not q)

    -- without a limit a refused allocation happens, and the words given exceed the limit after it
    pub refused-exceeds : (s : State) (w : Way) → Refuses u limit s w → (t : State) × (free_step s w ≡ Some t) × (limit < t.heap.given)
    refused-exceeds s w = go (look u w s.task)
      where
        go : (o : Option Op) → refused u limit o s → (t : State) × (asked (core u) (memory u) no_limit s w o ≡ Some t) × (limit < t.heap.given)
        go None r = absurd r
        go (Some Tick) r = absurd r
        go (Some (Load n f)) r = absurd r
        go (Some (Store n f v)) r = absurd r
        go (Some (Take n f)) r = absurd r
        go (Some (Make by shape n)) r = (_, refl, test-false (s.heap.given + size n) limit r)

    -- an event that isn't a refused allocation leaves the words given within the limit
    pub unrefused-within : (s t : State) (w : Way) → (Refuses u limit s w → ⊥) → step u limit s w ≡ Some t → s.heap.given ≤ limit → t.heap.given ≤ limit
    unrefused-within s t w not e le =
        let x = happened (within limit) s t w e in
        subst (λ (z : State). z.heap.given ≤ limit) x.end (left x.op (λ r. not (subst (λ o. refused u limit o s) (sym x.looked) r)))
      where
        left : (o : Op) → (refused u limit (Some o) s → ⊥) → (after u (within limit) o s.heap).given ≤ limit
        left Tick not = le
        left (Load n f) not = le
        left (Store n f None) not = le
        left (Store n f (Some v)) not = le
        left (Take n f) not = le
        left (Make by shape n) not = by_test (has_room (within limit) n s.heap) refl
          where
            by_test : (t : Bool) → has_room (within limit) n s.heap ≡ t → (allocated (has_room (within limit) n s.heap) (within limit (size n)) u by shape n s.heap).given ≤ limit
            by_test true q = subst (λ t. (allocated t (within limit (size n)) u by shape n s.heap).given ≤ limit) (sym q) (test-true (s.heap.given + size n) limit q)
            by_test false q = absurd (not q)

  -- the words given never fall
  pub free-grows : (s t : State) (w : Way) → free_step s w ≡ Some t → s.heap.given ≤ t.heap.given
  free-grows s t w e = let x = happened no_limit s t w e in subst (λ (z : State). s.heap.given ≤ z.heap.given) x.end (grows x.op)
    where
      grows : (o : Op) → s.heap.given ≤ (after u no_limit o s.heap).given
      grows Tick = le_refl s.heap.given
      grows (Load n f) = le_refl s.heap.given
      grows (Store n f None) = le_refl s.heap.given
      grows (Store n f (Some v)) = le_refl s.heap.given
      grows (Take n f) = le_refl s.heap.given
      grows (Make by shape n) = omega arith
