-- A whole run on words, left first, shows the run on names, and so ends as the meaning says.
use Rattle.std.proofs.Common.{◌≡◌, ℕ, ◌+◌, ◌-◌, ◌<◌, ◌^◌, Bool, true, Option, Some, None, List, [], ◌∷◌, length, refl, sym, ap, ◌∙◌, subst, arith}
use Rattle.std.specs.Prelude.{nat_le, ℤ}
use Rattle.std.proofs.lemmas.Bool.Decides.{nat_tests}
use Rattle.perm_tree.specs.Code.{Routine, UnitCode}
use Rattle.perm_meaning.specs.declared.End.TheVariants.{Done, Trap, OutOfTurns}
use Rattle.perm_meaning.specs.Values.{Number, Truth, Null, Reference}
use Rattle.perm_meaning.specs.Machine.{Trapped, NoTurns, NoRoom, Leaf, Fork, Way, Fine, GaveBack, Failed, final, look}
use Rattle.perm_meaning.specs.Machine as machines
use Rattle.perm_meaning.specs.Custody.{Custody, Copies}
use Rattle.perm_meaning.specs.Names.{Path, OnLeft, OnRight, root_name}
use Rattle.perm_meaning.specs.Objects.{size}
use Rattle.perm_meaning.specs.NamedHeap as on_names
use Rattle.perm_meaning.specs.NamedHeap.{Heap, Held, Op, Task, Final, State, named, memory}
use Rattle.perm_meaning.specs.WordHeap as on_words
use Rattle.perm_meaning.specs.WordHeap.{Ask, Cells, worded}
use Rattle.perm_meaning.specs.Steps.{Refused, alone, step, leftmost, within}
use Rattle.perm_meaning.specs.Relate.{OptionR, FinalR}
use Rattle.perm_meaning.specs.Shows.{Bases, Grows, IsWordOf, AnyMark, HeapShown, IsShownBy}
use Rattle.perm_meaning.specs.Literals.{UnitFits}
use Rattle.perm_meaning.specs.Outcome.{Outcome, Report, Ran, RanFull, RanStuck, reported, opening_state}
use Rattle.perm_meaning.specs.Told.{IsTold}
use Rattle.perm_meaning.specs.Claims.{AfterLeftFirstOnWords, WordsShowNames, WordsEndAsMeaning, WordsFillAsMeaning, OpensOnWords}
use Rattle.perm_meaning.proofs.Leads.{some-inj, none-some}
use Rattle.perm_meaning.proofs.OnWords.Related.{final-alike, leftmost-related}
use Rattle.perm_meaning.proofs.OnWords.Simulate.{AllFit, IsFit, same-step, same-refusal, same-alone}
use Rattle.perm_meaning.proofs.OnWords.NewObjects.{IsSmall, Asks, IsSound, heaps}
use Rattle.perm_meaning.proofs.OnWords.TurnsAlike.{IsShort, alike}
use Rattle.perm_meaning.proofs.OnWords.Moved.{routine-fits}
use Rattle.perm_meaning.proofs.OnWords.Kept.{TaskKept}
use Rattle.perm_meaning.proofs.OnWords.KeptEvents.{IsKept, keeps, keeps-step, asks-sound}
use Rattle.perm_meaning.proofs.OnWords.OpeningShown.{opening_bases, root-base, opening-shown, opening-kept}
use Rattle.perm_meaning.proofs.LeftFirst.WholeRun.{ends-as-meaning, fills-as-meaning}

module _ (c : Custody) (u : UnitCode) (uf : UnitFits u) (fits : ℕ → Bool) (small : IsSmall fits) where
  -- each leaf has code with numbers of 64 bits
  all-short : (q : Path) (s : State) (t : Task) → TaskKept q s.heap.objects t → AllFit (named c u) (worded c u) IsWordOf (λ b. AnyMark) (Asks u) Grows IsShort t
  all-short q s (Leaf b) k = k.code
  all-short q s (Fork b p l r) k = (all-short ((k.1.0, OnLeft) ∷ q) s l k.1.2, all-short ((k.1.0, OnRight) ∷ q) s r k.1.3)

  abbrev Fits : State → Type 0
  Fits s = IsFit (named c u) (worded c u) IsWordOf (λ b. AnyMark) (Asks u) Grows IsShort (alike c u) (memory u) on_words.memory fits HeapShown IsSound (heaps u fits small) s

  is-fit : (s : State) → IsKept c u uf fits s → Fits s
  is-fit s k = record { leaves = all-short [] s s.task k; sound = λ w o e. asks-sound c u uf fits w [] s.heap s.task o k e }

  -- a state on words that shows one on names goes on showing it, left first
  pub words-alone : (n : ℕ) (b : Bases) (s s' : State) (t : on_words.State) → IsKept c u uf fits s → IsShownBy b s t → alone (named c u) (memory u) fits n s ≡ Some s'
      → (d : Bases) × (t' : on_words.State) × (alone (worded c u) on_words.memory fits n t ≡ Some t') × Grows b d × IsShownBy d s' t' × IsKept c u uf fits s'
  words-alone n b s s' t k h e =
      let x = same-alone (named c u) (worded c u) IsWordOf (λ b. AnyMark) (Asks u) Grows IsShort (alike c u) (memory u) on_words.memory fits HeapShown IsSound (heaps u fits small) (IsKept c u uf fits) is-fit (keeps c u uf fits) n b s s' t k
      (record { task = h.task; heap = h.heap }) e in
      (x.0, x.1, x.2, x.3, record { task = x.4.task; heap = x.4.heap }, x.5)

  -- the event of a node on names, which may be a refused allocation, is one on words
  pub words-step : (b : Bases) (s s' : State) (t : on_words.State) (w : Way) → IsKept c u uf fits s → IsShownBy b s t → step (named c u) (memory u) fits s w ≡ Some s'
      → (d : Bases) × (t' : on_words.State) × (step (worded c u) on_words.memory fits t w ≡ Some t') × Grows b d × IsShownBy d s' t' × IsKept c u uf fits s'
  words-step b s s' t w k h e =
      let x = same-step (named c u) (worded c u) IsWordOf (λ b. AnyMark) (Asks u) Grows IsShort (alike c u) (memory u) on_words.memory fits HeapShown IsSound (heaps u fits small) b s s' t w (is-fit s k)
      (record { task = h.task; heap = h.heap }) e in
      (x.0, x.1, x.2, x.3, record { task = x.4.task; heap = x.4.heap }, keeps-step c u uf fits s s' w k e)

  -- where an allocation is refused on names, it is refused on words
  pub words-refusal : (b : Bases) (s : State) (t : on_words.State) (o : Op) → IsKept c u uf fits s → IsShownBy b s t → look (named c u) (leftmost s.task) s.task ≡ Some o → on_names.find fits o s.heap ≡ Refused
      → (p : Ask) × (look (worded c u) (leftmost t.task) t.task ≡ Some p) × (on_words.find fits p t.heap ≡ Refused)
  words-refusal b s t o k h e q =
      let x = same-refusal (named c u) (worded c u) IsWordOf (λ b. AnyMark) (Asks u) Grows IsShort (alike c u) (memory u) on_words.memory fits HeapShown IsSound (heaps u fits small) b s t (leftmost s.task) o (is-fit s k)
      (record { task = h.task; heap = h.heap }) e q in
      (x.0, subst (λ w. look (worded c u) w t.task ≡ Some x.0) (leftmost-related (IsWordOf b) AnyMark s.task t.task h.task) x.1, x.2)

-- ---------- ends ----------
-- a heap of less than 2 ^ 32 words
pub within-small : (limit : ℕ) → limit < 2 ^ 32 → IsSmall (within limit)
within-small limit h = record { small = λ n e. below n e; down = λ a b e. less a b e }
  where
    below : (n : ℕ) → nat_le n limit ≡ true → n < 2 ^ 32
    below n e = grind (arith, nat_tests)

    less : (a b : ℕ) → nat_le (a + b) limit ≡ true → nat_le b limit ≡ true
    less a b e = grind (arith, nat_tests)

ran-inj : {x y : Report} → Ran x ≡ Ran y → x ≡ y
ran-inj {x = x} {y = y} e = ap (λ o. take o x) e
  where
    take : Outcome → Report → Report
    take (Ran r) d = r
    take RanFull d = d
    take RanStuck d = d

-- what is told of an end on names is told of the end on words that shows it
pub told-on-words : (b : Bases) (turns : ℕ) (f : Final) (g : machines.Final ℕ) (h : Heap) (c : Cells) (r : Report) → FinalR (IsWordOf b) f g → h.given ≡ c.given → reported turns f h ≡ Ran r → IsTold turns r g c
told-on-words b turns (GaveBack (Some (Number n)) left out) (GaveBack w left' out') h c r k e q =
    subst (λ z. IsTold turns z (GaveBack w left' out') c) (ran-inj q) (record { ending = ap (λ z. Some (Done z)) (sym k.0.0); printed = sym k.2; spent = ap (λ z. turns - z) (sym k.1); need = sym e })
told-on-words b turns (GaveBack None left out) g h c r k e q = absurd (cc)
told-on-words b turns (GaveBack (Some (Truth t)) left out) g h c r k e q = absurd (cc)
told-on-words b turns (GaveBack (Some Null) left out) g h c r k e q = absurd (cc)
told-on-words b turns (GaveBack (Some (Reference p len)) left out) g h c r k e q = absurd (cc)
told-on-words b turns (GaveBack (Some (Number n)) left out) (Fine ws left' out') h c r k e q = absurd k
told-on-words b turns (GaveBack (Some (Number n)) left out) (Failed x left' out') h c r k e q = absurd k
told-on-words b turns (Fine vs left out) g h c r k e q = absurd (cc)
told-on-words b turns (Failed (Trapped t at) left out) (Failed x left' out') h c r k e q =
    subst (λ z. IsTold turns z (Failed x left' out') c) (ran-inj q) (subst (λ z. IsTold turns (record { ending = Trap t at; printed = out; spent = turns - left; need = h.given; objects = h.objects }) (Failed z left' out') c) k.0
    (record { ending = refl; printed = sym k.2; spent = ap (λ z. turns - z) (sym k.1); need = sym e }))
told-on-words b turns (Failed NoTurns left out) (Failed x left' out') h c r k e q =
    subst (λ z. IsTold turns z (Failed x left' out') c) (ran-inj q) (subst (λ z. IsTold turns (record { ending = OutOfTurns; printed = out; spent = turns - left; need = h.given; objects = h.objects }) (Failed z left' out') c) k.0
    (record { ending = refl; printed = sym k.2; spent = ap (λ z. turns - z) (sym k.1); need = sym e }))
told-on-words b turns (Failed NoRoom left out) g h c r k e q = absurd (cc)
told-on-words b turns (Failed (Trapped t at) left out) (Fine ws left' out') h c r k e q = absurd k
told-on-words b turns (Failed (Trapped t at) left out) (GaveBack w left' out') h c r k e q = absurd k
told-on-words b turns (Failed NoTurns left out) (Fine ws left' out') h c r k e q = absurd k
told-on-words b turns (Failed NoTurns left out) (GaveBack w left' out') h c r k e q = absurd k

abbrev heap_of : Report → Heap
heap_of r = record { objects = r.objects; given = r.need }

-- the objects and the need that are told are those of the heap
pub told-heap : (turns : ℕ) (f : Final) (h : Heap) (r : Report) → reported turns f h ≡ Ran r → h ≡ record { objects = r.objects; given = r.need }
told-heap turns (GaveBack (Some (Number n)) left out) h r q = ap (λ (z : Report). heap_of z) (ran-inj q)
told-heap turns (GaveBack None left out) h r q = absurd (cc)
told-heap turns (GaveBack (Some (Truth t)) left out) h r q = absurd (cc)
told-heap turns (GaveBack (Some Null) left out) h r q = absurd (cc)
told-heap turns (GaveBack (Some (Reference p len)) left out) h r q = absurd (cc)
told-heap turns (Fine vs left out) h r q = absurd (cc)
told-heap turns (Failed (Trapped t at) left out) h r q = ap (λ (z : Report). heap_of z) (ran-inj q)
told-heap turns (Failed NoTurns left out) h r q = ap (λ (z : Report). heap_of z) (ran-inj q)
told-heap turns (Failed NoRoom left out) h r q = absurd (cc)

-- an end on names is one on words
other-end : (b : Bases) (x : Option Final) (y : Option (machines.Final ℕ)) (f : Final) → OptionR (FinalR (IsWordOf b)) x y → x ≡ Some f → (g : machines.Final ℕ) × (y ≡ Some g) × FinalR (IsWordOf b) f g
other-end b None y f h e = none-some e
other-end b (Some x) None f h e = absurd h
other-end b (Some x) (Some g) f h e = (g, refl, subst (λ z. FinalR (IsWordOf b) z g) (some-inj e) h)

-- ---------- the laws ----------
module _ (u : UnitCode) (uf : UnitFits u) (limit : ℕ) where
  -- the words show the names after so many events
  shown-after : (c : Custody) (input : List ℤ) (turns : ℕ) (r : Routine) (i : OpensOnWords u limit input r) (n : ℕ) (s : State) → alone (named c u) (memory u) (within limit) n (opening_state u input turns r) ≡ Some s
      → (d : Bases) × (t : on_words.State) × AfterLeftFirstOnWords u limit c input turns r n t × Grows (opening_bases u input i.numbers) d × IsShownBy d s t × IsKept c u uf (within limit) s
  shown-after c input turns r i n s e =
      words-alone c u uf (within limit) (within-small limit i.bases) n (opening_bases u input i.numbers) (opening_state u input turns r) s (on_words.opening_state u input turns r)
      (opening-kept u limit input turns r (routine-fits u.routines u.run r uf i.opens.run)) (opening-shown u input i.numbers limit turns r i.opens.fits i.bases) e

pub words-show-names : (u : UnitCode) → UnitFits u → (limit : ℕ) (c : Custody) (input : List ℤ) (turns : ℕ) → WordsShowNames u limit c input turns
words-show-names u uf limit c input turns r i n s e = let x = shown-after u uf limit c input turns r i n s e in (x.1, x.2, (x.0, x.4))

pub words-end-as-meaning : (u : UnitCode) → UnitFits u → (limit : ℕ) (input : List ℤ) (turns : ℕ) → WordsEndAsMeaning u limit input turns
words-end-as-meaning u uf limit input turns r report i e =
    let x = ends-as-meaning u limit input turns r i.opens.run i.opens.fits (λ q. stuck (sym e ∙ q)) (λ q. full (sym e ∙ q)) in
    let y = shown-after u uf limit Copies input turns r i x.0 x.1 x.3 in
    let z = other-end y.0 (final x.1.task) (final y.1.task) x.2 (final-alike (IsWordOf y.0) AnyMark x.1.task y.1.task y.4.task) x.4 in
    record {
      events = x.0;
      state = y.1;
      ending = z.0;
      run = y.2;
      over = z.1;
      told = told-on-words y.0 turns x.2 z.0 x.1.heap y.1.heap report z.2 y.4.heap.given (x.5 ∙ e);
      bases = y.0;
      root = y.3 root_name (size (length input)) (root-base u input i.numbers);
      shown = subst (λ j. HeapShown y.0 j y.1.heap) (told-heap turns x.2 x.1.heap report (x.5 ∙ e)) y.4.heap;
    }
  where
    stuck : Ran report ≡ RanStuck → ⊥
    stuck q = absurd (cc)

    full : Ran report ≡ RanFull → ⊥
    full q = absurd (cc)

pub words-fill-as-meaning : (u : UnitCode) → UnitFits u → (limit : ℕ) (input : List ℤ) (turns : ℕ) → WordsFillAsMeaning u limit input turns
words-fill-as-meaning u uf limit input turns r i e =
    let x = fills-as-meaning u limit input turns r i.opens.run i.opens.fits e in
    let y = shown-after u uf limit Copies input turns r i x.0 x.1 x.3 in
    let z = words-refusal Copies u uf (within limit) (within-small limit i.bases) y.0 x.1 y.1 x.2 y.5 y.4 x.4 x.5 in
    (x.0, y.1, z.0, y.2, z.1, z.2)
