-- Two events of different nodes whose operations spare each other may come in either order.
use Rattle.std.proofs.Common.{◌≡◌, ◌≢◌, ℕ, ◌+◌, ◌≤◌, Bool, true, false, Option, Some, None, refl, sym, ap, subst, ◌∙◌, le_refl, arith}
use Rattle.std.proofs.lemmas.Bool.Decides.{nat_tests}
use Rattle.std.specs.Prelude.{nat_le, cond}
use Rattle.perm_tree.specs.Code.{UnitCode}
use Rattle.perm_meaning.specs.Machine.{Way}
use Rattle.perm_meaning.specs.Values.{Value, Reference}
use Rattle.perm_meaning.specs.Names.{Name, next_name}
use Rattle.perm_meaning.specs.Effects.{Tick, Load, Store, Take, Make}
use Rattle.perm_meaning.specs.Objects.{size, length_of, field_of}
use Rattle.perm_meaning.specs.NamedHeap.{Heap, Held, Op, State, memory, has_room, found, found_nothing, find, allocated, after}
use Rattle.perm_meaning.specs.Steps.{Answer, Found, Refused, Missing, within, next_state, answered, asked}
use Rattle.perm_meaning.proofs.Leads.{some-inj, none-some}
use Rattle.perm_core.specs.Core.{core, look, step}
use Rattle.perm_core.specs.Claims.{Refuses, refused}
use Rattle.perm_core.proofs.Commute.TwoNodes.{AreApart, apart-turned, two-events-apart, look-beside, fills-turned}
use Rattle.perm_core.proofs.Commute.TwoOperations.{Spares, IsGranted, operations-turned, found-as-before}

module _ (u : UnitCode) (limit : ℕ) where
  abbrev fits : ℕ → Bool
  fits = within limit

  abbrev next : State → Way → Op → Option Held → State
  next s w o v = next_state (core u) (memory u) fits s w o v

  abbrev answer : State → Way → Op → Answer Held → Option State
  answer s w o x = answered (core u) (memory u) fits s w o x

  -- ---------- granted operations ----------
  -- an event that isn't refused asks what is granted
  unrefused-granted : (s : State) (w : Way) (o : Op) → look u w s.task ≡ Some o → (Refuses u limit s w → ⊥) → IsGranted u fits o s.heap
  unrefused-granted s w Tick e not = tt
  unrefused-granted s w (Load r f) e not = tt
  unrefused-granted s w (Store r f v) e not = tt
  unrefused-granted s w (Take r f) e not = tt
  unrefused-granted s w (Make by shape n) e not = go (has_room fits n s.heap) refl
    where
      go : (t : Bool) → has_room fits n s.heap ≡ t → t ≡ true
      go true q = refl
      go false q = absurd (not (subst (λ z. refused u limit z s) (sym e) q))

  given-grows : (p : Op) (h : Heap) → h.given ≤ (after u fits p h).given
  given-grows Tick h = le_refl h.given
  given-grows (Load r f) h = le_refl h.given
  given-grows (Store r f None) h = le_refl h.given
  given-grows (Store r f (Some v)) h = le_refl h.given
  given-grows (Take r f) h = le_refl h.given
  given-grows (Make by shape n) h = go (has_room fits n h) (fits (size n))
    where
      go : (t alone : Bool) → h.given ≤ (allocated t alone u by shape n h).given
      go true alone = omega arith
      go false true = omega arith
      go false false = le_refl h.given

  fits-less : (a b c : ℕ) → a ≤ b → nat_le (b + c) limit ≡ true → nat_le (a + c) limit ≡ true
  fits-less a b c le e = grind (arith, nat_tests)

  -- what is granted after an operation is granted before it
  granted-before : (o p : Op) (h : Heap) → IsGranted u fits o (after u fits p h) → IsGranted u fits o h
  granted-before Tick p h g = tt
  granted-before (Load r f) p h g = tt
  granted-before (Store r f v) p h g = tt
  granted-before (Take r f) p h g = tt
  granted-before (Make by shape n) p h g = fits-less h.given (after u fits p h).given (size n) (given-grows p h) g

  -- ---------- answers ----------
  found-unrefused : (x : Option (Value Name)) → found x ≡ Refused → ⊥
  found-unrefused None e = absurd (cc)
  found-unrefused (Some v) e = absurd (cc)

  nothing-unrefused : (x : Option (Value Name)) → found_nothing x ≡ Refused → ⊥
  nothing-unrefused None e = absurd (cc)
  nothing-unrefused (Some v) e = absurd (cc)

  granted-unrefused : (o : Op) (h : Heap) → IsGranted u fits o h → find fits o h ≡ Refused → ⊥
  granted-unrefused Tick h g e = absurd (cc)
  granted-unrefused (Load r f) h g e = found-unrefused (field_of h.objects r f) e
  granted-unrefused (Store r f v) h g e = nothing-unrefused (field_of h.objects r f) e
  granted-unrefused (Take r f) h g e = found-unrefused (field_of h.objects r f) e
  granted-unrefused (Make by shape n) h g e = let x = sym (ap (λ t. cond t (Found (Some (Reference (next_name by) (length_of shape n)))) Refused) g) ∙ e in absurd (cc)

  -- an event that asks what is granted finds something
  record Finds (s : State) (w : Way) (o : Op) (a : State) : Type 0 where
    value : Held
    is : find fits o s.heap ≡ Found value
    end : next s w o (Some value) ≡ a

  finds : (s a : State) (w : Way) (o : Op) → look u w s.task ≡ Some o → IsGranted u fits o s.heap → step u limit s w ≡ Some a → Finds s w o a
  finds s a w o e g happens = go (find fits o s.heap) refl (sym (ap (λ z. asked (core u) (memory u) fits s w z) e) ∙ happens)
    where
      go : (x : Answer Held) → find fits o s.heap ≡ x → answer s w o x ≡ Some a → Finds s w o a
      go (Found v) q k = record { value = v; is = q; end = some-inj k }
      go Refused q k = absurd (granted-unrefused o s.heap g q)
      go Missing q k = none-some k

  happens-so : (s : State) (w : Way) (o : Op) (v : Held) → look u w s.task ≡ Some o → find fits o s.heap ≡ Found v → step u limit s w ≡ Some (next s w o (Some v))
  happens-so s w o v e q = ap (λ z. asked (core u) (memory u) fits s w z) e ∙ ap (λ z. answer s w o z) q

  -- ---------- either order ----------
  -- whatever an event finds, it leads to the next state
  moved : (s a : State) (w : Way) (o : Op) → look u w s.task ≡ Some o → step u limit s w ≡ Some a → (v : Option Held) × (next s w o v ≡ a)
  moved s a w o e happens = go (find fits o s.heap) (sym (ap (λ z. asked (core u) (memory u) fits s w z) e) ∙ happens)
    where
      go : (x : Answer Held) → answer s w o x ≡ Some a → (v : Option Held) × (next s w o v ≡ a)
      go (Found v) k = (Some v, some-inj k)
      go Refused k = (None, some-inj k)
      go Missing k = none-some k

  -- what isn't refused after the event of another node was granted after it
  granted-then : (s a : State) (p q : Way) (o v : Op) → AreApart q p → look u p s.task ≡ Some o → look u q s.task ≡ Some v → step u limit s p ≡ Some a → (Refuses u limit a q → ⊥) → IsGranted u fits v (after u fits o s.heap)
  granted-then s a p q o v apart e f happens not =
      let x = moved s a p o e happens in
      unrefused-granted (next s p o x.0) q v (look-beside (core u) q p s.task x.0 apart ∙ f) (λ r. not (subst (λ z. Refuses u limit z q) x.1 r))

  -- the second event after the first finds what it finds alone
  happens-then : (s : State) (p q : Way) (o v : Op) (x y : Held) → AreApart q p → look u q s.task ≡ Some v → Spares o v → IsGranted u fits o s.heap → IsGranted u fits v s.heap → IsGranted u fits v (after u fits o s.heap)
      → find fits v s.heap ≡ Found y → step u limit (next s p o (Some x)) q ≡ Some (next (next s p o (Some x)) q v (Some y))
  happens-then s p q o v x y apart e spares first alone then is =
      happens-so (next s p o (Some x)) q v y (look-beside (core u) q p s.task (Some x) apart ∙ e) (found-as-before u fits o v s.heap spares first alone then ∙ is)

  pub either-order : (s a b : State) (p q : Way) (o v : Op) → p ≢ q → look u p s.task ≡ Some o → look u q s.task ≡ Some v → Spares o v → Spares v o → step u limit s p ≡ Some a → step u limit s q ≡ Some b
      → (Refuses u limit a q → ⊥) → (Refuses u limit b p → ⊥) → (t : State) × (step u limit a q ≡ Some t) × (step u limit b p ≡ Some t)
  either-order s a b p q o v differ e f spares spared to_a to_b q_not p_not =
      let apart = two-events-apart (core u) p q s.task o v differ e f in
      let turned = apart-turned p q apart in
      let v_then = granted-then s a p q o v turned e f to_a q_not in
      let o_then = granted-then s b q p v o apart f e to_b p_not in
      let v_alone = granted-before v o s.heap v_then in
      let o_alone = granted-before o v s.heap o_then in
      let x = finds s a p o e o_alone to_a in
      let y = finds s b q v f v_alone to_b in
      let end = next (next s q v (Some y.value)) p o (Some x.value) in
      let same : next (next s p o (Some x.value)) q v (Some y.value) ≡ end =
      λ i. record { task = fills-turned (core u) q p s.task (Some x.value) (Some y.value) turned i; heap = operations-turned u fits o v s.heap spares spared o_alone v_alone v_then o_then i } in (
        end,
        sym (ap (λ z. step u limit z q) x.end) ∙ happens-then s p q o v x.value y.value turned f spares o_alone v_alone v_then y.is ∙ ap (λ z. Some z) same,
        sym (ap (λ z. step u limit z p) y.end) ∙ happens-then s q p v o y.value x.value apart e spared v_alone o_alone o_then x.is,
      )
