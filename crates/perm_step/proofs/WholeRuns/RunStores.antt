-- What a run of a checked unit on words loads, stores or takes lies within the words given.
use Rattle.std.proofs.Common.{◌≡◌, ℕ, zero, suc, ◌+◌, ◌<◌, ◌≤◌, Bool, Option, Some, None, List, [], ◌∷◌, refl, sym, ap, ◌∙◌, subst, ◌⊎◌, inl, inr, arith}
use Rattle.std.specs.Prelude.{ℤ, length, max}
use Rattle.std.proofs.lemmas.Option.{slice_get_within}
use Rattle.perm_tree.specs.Code.{Routine, UnitCode}
use Rattle.perm_meaning.specs.Custody.{Copies}
use Rattle.perm_meaning.specs.Effects.{Tick, Load, Store, Take, Make}
use Rattle.perm_meaning.specs.Machine.{Machine, Leaf, Fork, Stage, Over, Due, look, leaf_op, over, stage}
use Rattle.perm_meaning.specs.Names.{Name, Path, OnLeft, OnRight}
use Rattle.perm_meaning.specs.Objects.{Object, Objects, field_of, value_in}
use Rattle.perm_meaning.specs.Values.{Value}
use Rattle.perm_meaning.specs.NamedHeap as on_names
use Rattle.perm_meaning.specs.NamedHeap.{Heap, Held, Op, named}
use Rattle.perm_meaning.specs.WordHeap.{Ask, Branch, Cells, NoMark, State, worded, memory, find, opening_state}
use Rattle.perm_meaning.specs.Outcome as meaning
use Rattle.perm_meaning.specs.Steps as steps
use Rattle.perm_meaning.specs.Steps.{Answer, Found, Refused, Missing, Memory, alone, careful, granted, asked_with_care, leftmost, within}
use Rattle.perm_meaning.specs.Shows.{Bases, Grows, IsWordOf, AnyMark, IsAskOf, HeapShown, IsShownBy}
use Rattle.perm_meaning.specs.Claims.{OpensOnWords}
use Rattle.perm_meaning.proofs.Leads.{some-inj, none-some, then-some, then-at, ended-no-event}
use Rattle.perm_meaning.proofs.LeftFirst.Determined.{IsAtRest}
use Rattle.perm_meaning.proofs.OnWords.Kept.{TaskKept}
use Rattle.perm_meaning.proofs.OnWords.KeptEvents.{IsKept}
use Rattle.perm_meaning.proofs.OnWords.NewObjects.{Asks}
use Rattle.perm_meaning.proofs.OnWords.Related.{leftmost-related}
use Rattle.perm_meaning.proofs.OnWords.Simulate.{AllFit, same}
use Rattle.perm_meaning.proofs.OnWords.TurnsAlike.{IsShort, alike}
use Rattle.perm_core.specs.Claims.{IsChecked}
use Rattle.perm_step.specs.Holding.{Aside, tree_around, AreEnded}
use Rattle.perm_step.specs.Running.{IsInHeap, Reaches}
use Rattle.perm_step.proofs.WholeRuns.RunHeld.{look-around}
use Rattle.perm_step.proofs.WholeRuns.RunRest.{HasEnded, IsRefused, rest-is, Rest, comes-to-rest, shown-after}

-- ---------- from what is found ----------
module _ (b : Bases) (h : Heap) (c : Cells) (s : HeapShown b h c) where
  -- a field that is there has its word among those given
  field-in : (r : Name) (f k g : ℕ) (v : Value Name) → b r ≡ Some k → f ≡ g → field_of h.objects r f ≡ Some v → k + g < c.given
  field-in r f k g v base is there = go (h.objects r) refl there
    where
      go : (o : Option (Object Name)) → h.objects r ≡ o → value_in o f ≡ Some v → k + g < c.given
      go None q e = none-some e
      go (Some o) q e =
          let below : k + max 1 (length o.values) ≤ c.given = s.below r k o base q in
          let less : f < length o.values = slice_get_within o.values f v e in
          omega (arith, below, less, is)

  -- what is found by its names lies in the heap of words
  in-heap : (p : Op) (o : Ask) (fits : ℕ → Bool) (v : Held) → IsAskOf b p o → on_names.find fits p h ≡ Found v → IsInHeap o c
  in-heap (Load r f) (Load k g) fits v a e = go (field_of h.objects r f) refl e
    where
      go : (x : Option (Value Name)) → field_of h.objects r f ≡ x → on_names.found x ≡ Found v → k + g < c.given
      go None q e = absurd (let no : ⊥ = cc e in no)
      go (Some w) q e = field-in r f k g w a.0 a.1 q
  in-heap (Take r f) (Take k g) fits v a e = go (field_of h.objects r f) refl e
    where
      go : (x : Option (Value Name)) → field_of h.objects r f ≡ x → on_names.found x ≡ Found v → k + g < c.given
      go None q e = absurd (let no : ⊥ = cc e in no)
      go (Some w) q e = field-in r f k g w a.0 a.1 q
  in-heap (Store r f x) (Store k g w) fits v a e = go (field_of h.objects r f) refl e
    where
      go : (x : Option (Value Name)) → field_of h.objects r f ≡ x → on_names.found_nothing x ≡ Found v → k + g < c.given
      go None q e = absurd (let no : ⊥ = cc e in no)
      go (Some w) q e = field-in r f k g w a.0 a.1 q
  in-heap Tick Tick fits v a e = tt
  in-heap (Make by shape n) (Make by' shape' n') fits v a e = tt
  in-heap p o fits v a e = absurd a

-- what is refused takes no word that is there
refused-in : (o : Ask) (fits : ℕ → Bool) (c : Cells) → find fits o c ≡ Refused → IsInHeap o c
refused-in Tick fits c e = tt
refused-in (Make by shape n) fits c e = tt
refused-in (Load b f) fits c e = absurd (let no : ⊥ = cc e in no)
refused-in (Store b f w) fits c e = absurd (let no : ⊥ = cc e in no)
refused-in (Take b f) fits c e = absurd (let no : ⊥ = cc e in no)

-- ---------- runs ----------
module _ {V G O H : Type 0} (m : Machine V G O) (memory : Memory V O H) (fits : ℕ → Bool) where
  -- so many events lead on to the rest to which more of them lead
  to-rest : (n k : ℕ) (s t z : steps.State V G H) → alone m memory fits n s ≡ Some t → alone m memory fits k s ≡ Some z → IsAtRest m memory fits z → (j : ℕ) × (alone m memory fits j t ≡ Some z) × (k ≡ n + j)
  to-rest zero k s t z e q rest = (k, subst (λ x. alone m memory fits k x ≡ Some z) (some-inj e) q, omega arith)
  to-rest (suc n) zero s t z e q rest =
      let x = then-some (careful m memory fits s (leftmost s.task)) (alone m memory fits n) t e in
      none-some (sym (subst (IsAtRest m memory fits) (sym (some-inj q)) rest) ∙ x.1)
  to-rest (suc n) (suc k) s t z e q rest =
      let x = then-some (careful m memory fits s (leftmost s.task)) (alone m memory fits n) t e in
      let y = then-some (careful m memory fits s (leftmost s.task)) (alone m memory fits k) z q in
      let j = to-rest n k x.0 t z x.2 (subst (λ i. alone m memory fits k i ≡ Some z) (some-inj (sym y.1 ∙ x.1)) y.2) rest in
      (j.0, j.1, (let is = j.2 in omega (arith, is)))

  -- one event, and so many more
  one-more : (n : ℕ) (s x t : steps.State V G H) → careful m memory fits s (leftmost s.task) ≡ Some x → alone m memory fits n x ≡ Some t → alone m memory fits (suc n) s ≡ Some t
  one-more n s x t e q = then-at (careful m memory fits s (leftmost s.task)) (alone m memory fits n) x e ∙ q

  -- the state after the first of so many events
  split-at : (n j : ℕ) (s z : steps.State V G H) → alone m memory fits (n + j) s ≡ Some z → (t : steps.State V G H) × (alone m memory fits n s ≡ Some t) × (alone m memory fits j t ≡ Some z)
  split-at zero j s z e = (s, refl, subst (λ i. alone m memory fits i s ≡ Some z) (let is : 0 + j ≡ j = omega arith in is) e)
  split-at (suc n) j s z e =
      let more : suc n + j ≡ suc (n + j) = omega arith in
      let x = then-some (careful m memory fits s (leftmost s.task)) (alone m memory fits (n + j)) z (subst (λ i. alone m memory fits i s ≡ Some z) more e) in
      let r = split-at n j x.0 z x.2 in
      (r.0, one-more n s x.0 r.0 x.1 r.1, r.2)

  -- an event asks what is found
  found-next : (s t : steps.State V G H) → careful m memory fits s (leftmost s.task) ≡ Some t → (o : O) × (v : V) × (look m (leftmost s.task) s.task ≡ Some o) × (memory.find fits o s.heap ≡ Found v)
  found-next s t e = looked (look m (leftmost s.task) s.task) refl e
    where
      answer : (o : O) (a : Answer V) → look m (leftmost s.task) s.task ≡ Some o → memory.find fits o s.heap ≡ a → granted m memory fits s (leftmost s.task) o a ≡ Some t
          → (o : O) × (v : V) × (look m (leftmost s.task) s.task ≡ Some o) × (memory.find fits o s.heap ≡ Found v)
      answer o (Found v) q r e = (o, v, q, r)
      answer o Refused q r e = none-some e
      answer o Missing q r e = none-some e

      looked : (x : Option O) → look m (leftmost s.task) s.task ≡ x → asked_with_care m memory fits s (leftmost s.task) x ≡ Some t → (o : O) × (v : V) × (look m (leftmost s.task) s.task ≡ Some o) × (memory.find fits o s.heap ≡ Found v)
      looked None q e = none-some e
      looked (Some o) q e = answer o (memory.find fits o s.heap) q refl e

module _ (u : UnitCode) (limit : ℕ) where
  -- each leaf of what is kept has code with numbers of 64 bits
  leaves-short : (q : Path) (h : Objects Name) (t : on_names.Task) → TaskKept q h t → AllFit (named Copies u) (worded Copies u) IsWordOf (λ b. AnyMark) (Asks u) Grows IsShort t
  leaves-short q h (Leaf b) k = k.code
  leaves-short q h (Fork b p l r) k = (leaves-short ((k.1.0, OnLeft) ∷ q) h l k.1.2, leaves-short ((k.1.0, OnRight) ∷ q) h r k.1.3)

  module _ (checked : IsChecked u) (input : List ℤ) (turns : ℕ) (r : Routine) (opens : OpensOnWords u limit input r) where
    -- what is asked next on words lies in the heap where the run on names goes on
    next-in : (d : Bases) (s s' : on_names.State) (t : State) (o : Ask) → IsShownBy d s t → IsKept Copies u checked.whole.fits (within limit) s → careful (named Copies u) (on_names.memory u) (within limit) s (leftmost s.task) ≡ Some s'
        → look (worded Copies u) (leftmost t.task) t.task ≡ Some o → IsInHeap o t.heap
    next-in d s s' t o shown kept next asks =
        let x = found-next (named Copies u) (on_names.memory u) (within limit) s s' next in
        let k = same (named Copies u) (worded Copies u) IsWordOf (λ b. AnyMark) (Asks u) Grows IsShort (alike Copies u) d (leftmost s.task) s.task t.task x.0 (leaves-short [] s.heap.objects s.task kept) shown.task x.2 in
        let is : k.op ≡ o = some-inj (sym k.looks ∙ ap (λ w. look (worded Copies u) w t.task) (leftmost-related (IsWordOf d) AnyMark s.task t.task shown.task) ∙ asks) in
        subst (λ z. IsInHeap z t.heap) is (in-heap d s.heap t.heap shown.heap x.0 k.op (within limit) x.1 k.asks.0 x.3)

    -- what the run asks next lies in the heap
    pub run-stores : (t : State) (o : Ask) → Reaches u limit input turns r t → look (worded Copies u) (leftmost t.task) t.task ≡ Some o → IsInHeap o t.heap
    run-stores t o run asks = by (comes-to-rest u limit checked input turns r opens)
      where
        by : Rest u limit checked input turns r opens → IsInHeap o t.heap
        by z = on j.0 j.1 j.2
          where
            j : (j : ℕ) × (alone (worded Copies u) memory (within limit) j t ≡ Some z.words) × (z.events ≡ run.0 + j)
            j = to-rest (worded Copies u) memory (within limit) run.0 z.events (opening_state u input turns r) t z.words run.1 z.on_words (rest-is u limit z.words z.rests)

            at_rest : t ≡ z.words → HasEnded z.words ⊎ IsRefused u limit z.words → IsInHeap o t.heap
            at_rest same (inl (f, e)) = none-some (sym (ap (λ (x : State). look (worded Copies u) (leftmost x.task) x.task) same ∙ ended-no-event (worded Copies u) (leftmost z.words.task) z.words.task f e) ∙ asks)
            at_rest same (inr (p, next, refused)) =
                let is : p ≡ o = some-inj (sym next ∙ sym (ap (λ (x : State). look (worded Copies u) (leftmost x.task) x.task) same) ∙ asks) in
                refused-in o (within limit) t.heap (subst (λ (x : State). find (within limit) o x.heap ≡ Refused) (sym same) (subst (λ i. find (within limit) i z.words.heap ≡ Refused) is refused))

            on : (j : ℕ) → alone (worded Copies u) memory (within limit) j t ≡ Some z.words → z.events ≡ run.0 + j → IsInHeap o t.heap
            on zero e is = at_rest (some-inj e) z.rests
            on (suc j) e is =
                let x = split-at (named Copies u) (on_names.memory u) (within limit) run.0 (suc j) (meaning.opening_state u input turns r) z.names
                (subst (λ i. alone (named Copies u) (on_names.memory u) (within limit) i (meaning.opening_state u input turns r) ≡ Some z.names) is z.on_names) in
                let y = shown-after u limit checked input turns r opens run.0 x.0 x.1 in
                let next = then-some (careful (named Copies u) (on_names.memory u) (within limit) x.0 (leftmost x.0.task)) (alone (named Copies u) (on_names.memory u) (within limit) j) z.names x.2 in
                let same : y.1 ≡ t = some-inj (sym y.2 ∙ run.1) in
                subst (λ (i : State). IsInHeap o i.heap) same
                (next-in y.0 x.0 next.0 y.1 o y.4 y.5 next.1 (ap (λ (i : State). look (worded Copies u) (leftmost i.task) i.task) same ∙ asks))

    -- so does what a branch asks that runs within what is kept aside
    pub held-stores : (ks : List (Aside ℕ NoMark)) (b : Branch) (t : State) (o : Ask) → AreEnded ks → t.task ≡ tree_around (Leaf b) ks → Reaches u limit input turns r t → leaf_op (worded Copies u) b (stage b) ≡ Some o → IsInHeap o t.heap
    held-stores ks b t o ended is run asks =
        run-stores t o run (ap (λ x. look (worded Copies u) (leftmost x) x) is ∙ look-around (worded Copies u) (Leaf b) ks ended (due (stage b) asks) ∙ asks)
      where
        due : (x : Stage ℕ) → leaf_op (worded Copies u) b x ≡ Some o → over x ≡ None
        due (Over f) e = none-some e
        due (Due n) e = refl
