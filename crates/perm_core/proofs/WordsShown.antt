-- The core on words and the core on names go step by step alike, whatever the order of events.
use Rattle.std.proofs.Common.{◌≡◌, ℕ, ◌<◌, ◌^◌, ap, Option, Some, None, List, [], ◌∷◌, refl, sym, subst, ◌∙◌, inl, inr}
use Rattle.std.specs.Prelude.{◌⊎◌, ℤ, option_and_then}
use Rattle.perm_tree.specs.Code.{Routine, UnitCode}
use Rattle.perm_meaning.specs.Machine.{Leaf, Fork, Way, Here, GoL, GoR, Final, Stage, Over, Due, final, stage, over, leaf_op, if_both_over}
use Rattle.perm_meaning.specs.Custody.{Moves}
use Rattle.perm_meaning.specs.Names.{Path, Name, OnLeft, OnRight}
use Rattle.perm_meaning.specs.Objects.{Objects}
use Rattle.perm_meaning.specs.Effects.{Tick}
use Rattle.perm_meaning.specs.Literals.{UnitFits}
use Rattle.perm_meaning.specs.NamedHeap as named
use Rattle.perm_meaning.specs.NamedHeap.{Op, Held, Task, State, memory}
use Rattle.perm_meaning.specs.Relate.{OptionR, FinalR, TaskR}
use Rattle.perm_meaning.specs.Shows.{Bases, Grows, IsWordOf, AnyMark, IsAskOf, IsShown, IsShownBy}
use Rattle.perm_meaning.specs.Steps.{Missing, next_state, answered, asked, within}
use Rattle.perm_meaning.specs.WordHeap as worded
use Rattle.perm_meaning.specs.WordHeap.{Ask}
use Rattle.perm_meaning.proofs.OnWords.Kept.{TaskKept}
use Rattle.perm_meaning.proofs.OnWords.KeptEvents.{IsKept, keeps-step}
use Rattle.perm_meaning.proofs.OnWords.NewObjects.{Asks}
use Rattle.perm_meaning.proofs.OnWords.Simulate.{AllFit, same}
use Rattle.perm_meaning.proofs.OnWords.TurnsAlike.{IsShort, alike}
use Rattle.perm_meaning.proofs.Leads.{some-inj, none-some}
use Rattle.perm_meaning.proofs.OnWords.Moved.{routine-fits}
use Rattle.perm_meaning.proofs.OnWords.OpeningShown.{opening_bases, opening-kept, opening-shown}
use Rattle.perm_meaning.proofs.OnWords.Related.{StageR, stage-alike, final-alike}
use Rattle.perm_meaning.proofs.OnWords.WordsRun.{within-small, words-step}
use Rattle.perm_meaning.specs.Outcome.{opening_state}
use Rattle.perm_meaning.specs.Claims.{OpensOnWords}
use Rattle.perm_core.specs.Whole.{IsWhole}
use Rattle.perm_core.specs.Core.{core, look, step, runs}
use Rattle.perm_core.specs.WordCore as word_core
use Rattle.perm_core.specs.WordCore.{word_core as machine}
use Rattle.perm_core.specs.Claims.{WordsShowRuns, WordsFollow, AllHaveNext, leaf_at}

module _ (u : UnitCode) (limit : ℕ) where
  -- ---------- from names to words ----------
  -- what is kept of the opening is kept of each state that is reached
  kept : (uf : UnitFits u) (ws : List Way) (s t : State) → IsKept Moves u uf (within limit) s → runs u limit ws s ≡ Some t → IsKept Moves u uf (within limit) t
  kept uf [] s t k e = subst (IsKept Moves u uf (within limit)) (some-inj e) k
  kept uf (w ∷ ws) s t k e = on (step u limit s w) refl e (λ next. kept uf ws next t)
    where
      on : (o : Option State) → step u limit s w ≡ o → option_and_then (runs u limit ws) o ≡ Some t → ((next : State) → IsKept Moves u uf (within limit) next → runs u limit ws next ≡ Some t → IsKept Moves u uf (within limit) t)
          → IsKept Moves u uf (within limit) t
      on None q e go = none-some e
      on (Some next) q e go = go next (keeps-step Moves u uf (within limit) s next w k q) e

  pub words-follow : (input : List ℤ) (turns : ℕ) → WordsFollow u limit input turns
  words-follow input turns r whole is ws s s' b t w e shown event =
      let first = opening-kept u limit input turns r (routine-fits u.routines u.run r whole.fits is.opens.run) in
      let k = kept whole.fits ws (opening_state u input turns r) s first e in
      let x = words-step Moves u whole.fits (within limit) (within-small limit is.bases) b s s' t w k shown event in
      record { after = x.1; event = x.2; bases = x.0; grown = x.3; shown = x.4 }

  -- each leaf of what is kept has code with numbers of 64 bits
  leaves-short : (q : Path) (h : Objects Name) (t : Task) → TaskKept q h t → AllFit (core u) (machine u) IsWordOf (λ b. AnyMark) (Asks u) Grows IsShort t
  leaves-short q h (Leaf b) k = k.code
  leaves-short q h (Fork b p l r) k = (leaves-short ((k.1.0, OnLeft) ∷ q) h l k.1.2, leaves-short ((k.1.0, OnRight) ∷ q) h r k.1.3)

  -- what a node asks on words is what it asks on names
  pub asks-alike : (input : List ℤ) (turns : ℕ) (r : Routine) → IsWhole u → OpensOnWords u limit input r → (ws : List Way) (s : State) (b : Bases) (t : worded.State) (w : Way) (o : Op)
      → runs u limit ws (opening_state u input turns r) ≡ Some s → IsShownBy b s t → look u w s.task ≡ Some o → (p : Ask) × (word_core.look u w t.task ≡ Some p) × IsAskOf b o p
  asks-alike input turns r whole is ws s b t w o e shown asks =
      let first = opening-kept u limit input turns r (routine-fits u.routines u.run r whole.fits is.opens.run) in
      let k = kept whole.fits ws (opening_state u input turns r) s first e in
      let x = same (core u) (machine u) IsWordOf (λ b. AnyMark) (Asks u) Grows IsShort (alike Moves u) b w s.task t.task o (leaves-short [] s.heap.objects s.task k) shown.task asks in
      (x.op, x.looks, x.asks.0)

  -- from a state that is shown
  run-shown : (uf : UnitFits u) (small : limit < 2 ^ 32) (ws : List Way) (b : Bases) (s next : State) (t : worded.State) → IsKept Moves u uf (within limit) s → IsShownBy b s t → runs u limit ws s ≡ Some next
      → (after : worded.State) × (word_core.runs u limit ws t ≡ Some after) × IsShown next after
  run-shown uf small [] b s next t k shown e = (t, refl, (b, subst (λ z. IsShownBy b z t) (some-inj e) shown))
  run-shown uf small (w ∷ ws) b s next t k shown e = on (step u limit s w) refl e (λ c z y. run-shown uf small ws c z next y)
    where
      on : (o : Option State) → step u limit s w ≡ o → option_and_then (runs u limit ws) o ≡ Some next
          → ((c : Bases) (z : State) (y : worded.State) → IsKept Moves u uf (within limit) z → IsShownBy c z y → runs u limit ws z ≡ Some next → (after : worded.State) × (word_core.runs u limit ws y ≡ Some after) × IsShown next after)
          → (after : worded.State) × (word_core.runs u limit (w ∷ ws) t ≡ Some after) × IsShown next after
      on None q e go = none-some e
      on (Some z) q e go =
          let x = words-step Moves u uf (within limit) (within-small limit small) b s z t w k shown q in
          let rest = go x.0 z x.1 x.5 x.4 e in
          (rest.0, ap (option_and_then (word_core.runs u limit ws)) x.2 ∙ rest.1, rest.2)

  pub words-show-runs : (input : List ℤ) (turns : ℕ) → WordsShowRuns u limit input turns
  words-show-runs input turns r whole is ws s e =
      run-shown whole.fits is.bases ws (opening_bases u input is.numbers) (opening_state u input turns r) s (worded.opening_state u input turns r)
      (opening-kept u limit input turns r (routine-fits u.routines u.run r whole.fits is.opens.run))
      (opening-shown u input is.numbers limit turns r is.opens.fits is.bases)
      e

  -- ---------- from words to names ----------
  -- on names a node is a leaf that isn't over, or the join of a parent
  abbrev MayGo : Way → Task → Type 0
  MayGo w s = ((b : named.Branch) × (leaf_at w s ≡ Some b) × (over (stage b) ≡ None)) ⊎ (look u w s ≡ Some Tick)

  leaf-goes : (b : Bases) (x : named.Branch) (y : worded.Branch) (st : Stage Held) (st' : Stage ℕ) (p : Ask) → stage x ≡ st → StageR (IsWordOf b) AnyMark st st' → leaf_op (machine u) y st' ≡ Some p → MayGo Here (Leaf x)
  leaf-goes b x y st (Over g) p e alike ask = none-some ask
  leaf-goes b x y (Over f) (Due n) p e alike ask = absurd alike
  leaf-goes b x y (Due m) (Due n) p e alike ask = inl (x, refl, ap over e)

  fork-goes : (b : Bases) (f g : Option (Final Held)) (f' g' : Option (Final ℕ)) (p : Ask) → OptionR (FinalR (IsWordOf b)) f f' → OptionR (FinalR (IsWordOf b)) g g'
      → if_both_over f' g' None (λ x y. Some (machine u).idle) ≡ Some p → if_both_over f g None (λ x y. Some (core u).idle) ≡ Some Tick
  fork-goes b f g None g' p left right e = none-some e
  fork-goes b f g (Some x) None p left right e = none-some e
  fork-goes b None g (Some x) (Some y) p left right e = absurd left
  fork-goes b (Some z) None (Some x) (Some y) p left right e = absurd right
  fork-goes b (Some z) (Some v) (Some x) (Some y) p left right e = refl

  goes : (b : Bases) (w : Way) (s : Task) (t : worded.Task) (p : Ask) → TaskR (IsWordOf b) AnyMark s t → word_core.look u w t ≡ Some p → MayGo w s
  goes b Here (Leaf x) (Leaf y) p alike e = leaf-goes b x y (stage x) (stage y) p refl (stage-alike (IsWordOf b) AnyMark x y alike) e
  goes b Here (Fork x q l r) (Fork y q' l' r') p alike e = inr (fork-goes b (final l) (final r) (final l') (final r') p (final-alike (IsWordOf b) AnyMark l l' alike.2) (final-alike (IsWordOf b) AnyMark r r' alike.3) e)
  goes b (GoL w) (Fork x q l r) (Fork y q' l' r') p alike e = goes b w l l' p alike.2 e
  goes b (GoR w) (Fork x q l r) (Fork y q' l' r') p alike e = goes b w r r' p alike.3 e
  goes b w (Leaf x) (Fork y q l r) p alike e = absurd alike
  goes b w (Fork x q l r) (Leaf y) p alike e = absurd alike
  goes b (GoL w) (Leaf x) (Leaf y) p alike e = none-some e
  goes b (GoR w) (Leaf x) (Leaf y) p alike e = none-some e

  -- so it has an event there
  event-there : (s : State) (w : Way) → AllHaveNext u limit s → MayGo w s.task → (s' : State) × (step u limit s w ≡ Some s')
  event-there s w all (inl (b, at, due)) = all w b at due
  event-there s w all (inr idle) = (next_state (core u) (memory u) (within limit) s w Tick (Some None), ap (asked (core u) (memory u) (within limit) s w) idle)

  asks : (t t' : worded.State) (w : Way) → word_core.step u limit t w ≡ Some t' → (p : Ask) × (word_core.look u w t.task ≡ Some p)
  asks t t' w e = by_look (word_core.look u w t.task) refl e
    where
      by_look : (o : Option Ask) → word_core.look u w t.task ≡ o → asked (machine u) worded.memory (within limit) t w o ≡ Some t' → (p : Ask) × (word_core.look u w t.task ≡ Some p)
      by_look None q e = none-some e
      by_look (Some p) q e = (p, q)

  -- a node asks this on words where it asks the like on names, and there no field is missing
  pub record AsksOnNames (s : State) (b : Bases) (w : Way) (p : Ask) : Type 0 where
    pub op : Op
    pub looks : look u w s.task ≡ Some op
    pub is : IsAskOf b op p
    pub there : named.find (within limit) op s.heap ≡ Missing → ⊥

  pub asks-on-names : (input : List ℤ) (turns : ℕ) (r : Routine) → IsWhole u → OpensOnWords u limit input r → (ws : List Way) (s : State) (b : Bases) (t : worded.State) (w : Way) (p : Ask)
      → runs u limit ws (opening_state u input turns r) ≡ Some s → IsShownBy b s t → AllHaveNext u limit s → word_core.look u w t.task ≡ Some p → AsksOnNames s b w p
  asks-on-names input turns r whole is ws s b t w p run shown all ask = let next = event-there s w all (goes b w s.task t.task p shown.task ask) in go next.0 (look u w s.task) refl next.1
    where
      go : (s' : State) (o : Option Op) → look u w s.task ≡ o → asked (core u) (memory u) (within limit) s w o ≡ Some s' → AsksOnNames s b w p
      go s' None q e = none-some e
      go s' (Some o) q e =
          let x = asks-alike input turns r whole is ws s b t w o run shown q in
          record { op = o; looks = q; is = subst (λ z. IsAskOf b o z) (some-inj (sym x.1 ∙ ask)) x.2; there = λ m. none-some (sym (ap (answered (core u) (memory u) (within limit) s w o) m) ∙ e) }

  pub words-do-no-more : (input : List ℤ) (turns : ℕ) (r : Routine) → IsWhole u → OpensOnWords u limit input r → (ws : List Way) (s : State) (b : Bases) (t t' : worded.State) (w : Way)
      → runs u limit ws (opening_state u input turns r) ≡ Some s → IsShownBy b s t → AllHaveNext u limit s → word_core.step u limit t w ≡ Some t'
      → (s' : State) × (step u limit s w ≡ Some s') × (c : Bases) × Grows b c × IsShownBy c s' t'
  words-do-no-more input turns r whole is ws s b t t' w e shown all event =
      let ask = asks t t' w event in
      let next = event-there s w all (goes b w s.task t.task ask.0 shown.task ask.1) in
      let on = words-follow input turns r whole is ws s next.0 b t w e shown next.1 in
      (next.0, next.1, on.bases, on.grown, subst (IsShownBy on.bases next.0) (some-inj (sym on.event ∙ event)) on.shown)
