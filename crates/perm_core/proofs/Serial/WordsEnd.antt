-- Every complete list of events of the core on words ends as the meaning tells.
use Rattle.std.proofs.Common.{◌≡◌, ℕ, Option, Some, None, List, [], ◌∷◌, ◌++◌, length, refl, sym, ap, ◌∙◌, subst}
use Rattle.std.specs.Prelude.{ℤ}
use Rattle.perm_tree.specs.Code.{Routine, UnitCode}
use Rattle.perm_meaning.specs.declared.End.TheVariants.{HeapFull}
use Rattle.perm_meaning.specs.Machine as machines
use Rattle.perm_meaning.specs.Machine.{Way, Fine, GaveBack, Failed, final}
use Rattle.perm_meaning.specs.Names.{root_name}
use Rattle.perm_meaning.specs.Objects.{size}
use Rattle.perm_meaning.specs.NamedHeap.{Final, State}
use Rattle.perm_meaning.specs.WordHeap as worded
use Rattle.perm_meaning.specs.Steps.{runs}
use Rattle.perm_meaning.specs.Relate.{OptionR, FinalR}
use Rattle.perm_meaning.specs.Shows.{Bases, Grows, IsWordOf, AnyMark, HeapShown, IsShownBy}
use Rattle.perm_meaning.specs.Outcome.{Outcome, Ran, RanFull, RanStuck, outcome, reported, opening_state}
use Rattle.perm_meaning.specs.Told.{told_end}
use Rattle.perm_meaning.proofs.Leads.{some-inj, none-some, then-some, then-at}
use Rattle.perm_meaning.proofs.OnWords.OpeningShown.{opening_bases, opening-shown, root-base}
use Rattle.perm_meaning.proofs.OnWords.Related.{final-alike}
use Rattle.perm_meaning.proofs.OnWords.WordsRun.{told-on-words, told-heap}
use Rattle.perm_meaning.specs.Claims.{OpensOnWords}
use Rattle.perm_core.specs.Core.{step, told_of}
use Rattle.perm_core.specs.WordCore as word_core
use Rattle.perm_core.specs.Claims.{IsChecked}
use Rattle.perm_core.specs.Serial.{IsToldOnWords, WordsEndLeftThenRight}
use Rattle.perm_core.proofs.KeepsPicture.PictureEvents.{keeps-picture}
use Rattle.perm_core.proofs.WordsShown.{words-do-no-more}
use Rattle.perm_core.proofs.Serial.Needs.{runs-append}
use Rattle.perm_core.proofs.Serial.Refusals.{EndsFull}
use Rattle.perm_core.proofs.Serial.LeftThenRight.{reported-so, reaches-next}
use Rattle.perm_core.proofs.Serial.EveryRun.{every-list-ends, never-stuck}

-- an end on words is one on names
end-back : (b : Bases) (x : Option Final) (y : Option (machines.Final ℕ)) (g : machines.Final ℕ) → OptionR (FinalR (IsWordOf b)) x y → y ≡ Some g → (f : Final) × (x ≡ Some f) × FinalR (IsWordOf b) f g
end-back b x None g h e = none-some e
end-back b None (Some y) g h e = absurd h
end-back b (Some f) (Some y) g h e = (f, refl, subst (λ z. FinalR (IsWordOf b) f z) (some-inj e) h)

-- want of room on names is want of room on words
full-alike : (b : Bases) (f : Final) (g : machines.Final ℕ) → EndsFull f → FinalR (IsWordOf b) f g → told_end g ≡ Some HeapFull
full-alike b (Fine vs t p) g is k = absurd is
full-alike b (GaveBack v t p) g is k = absurd is
full-alike b (Failed e t p) (Fine vs n q) is k = absurd k
full-alike b (Failed e t p) (GaveBack v n q) is k = absurd k
full-alike b (Failed e t p) (Failed f n q) is k = ap (λ z. told_end (Failed z n q)) (sym k.0 ∙ is)

module _ (u : UnitCode) (limit : ℕ) (input : List ℤ) (turns : ℕ) (r : Routine) (checked : IsChecked u) (opens : OpensOnWords u limit input r) where
  abbrev start : State
  start = opening_state u input turns r

  -- a state on words that shows one to which a list of events leads on names
  pub record Shows (t : worded.State) : Type 0 where
    pub events : List Way
    pub state : State
    pub run : runs (step u limit) events start ≡ Some state
    pub bases : Bases
    pub grown : Grows (opening_bases u input opens.numbers) bases
    pub shown : IsShownBy bases state t

  shows-next : (t t' : worded.State) (w : Way) → Shows t → word_core.step u limit t w ≡ Some t' → Shows t'
  shows-next t t' w x e =
      let all = reaches-next u limit input turns (λ limit. keeps-picture u limit) r x.events x.state checked opens.opens x.run in
      let y = words-do-no-more u limit input turns r checked.whole opens x.events x.state x.bases t t' w x.run x.shown all e in
      record {
        events = x.events ++ (w ∷ []);
        state = y.0;
        run = runs-append (step u limit) x.events (w ∷ []) start x.state x.run ∙ then-at (step u limit x.state w) (λ z. Some z) y.0 y.1;
        bases = y.2;
        grown = λ n i e. y.3 n i (x.grown n i e);
        shown = y.4;
      }

  pub shows-runs : (ws : List Way) (t t' : worded.State) → Shows t → word_core.runs u limit ws t ≡ Some t' → Shows t'
  shows-runs [] t t' x e = subst (λ z. Shows z) (some-inj e) x
  shows-runs (w ∷ ws) t t' x e = let a = then-some (word_core.step u limit t w) (word_core.runs u limit ws) t' e in shows-runs ws a.0 t' (shows-next t a.0 w x a.1) a.2

  pub shows-start : Shows (worded.opening_state u input turns r)
  shows-start = record { events = []; state = start; run = refl; bases = opening_bases u input opens.numbers; grown = λ n i e. e; shown = opening-shown u input opens.numbers limit turns r opens.opens.fits opens.bases }

  -- ---------- ends ----------
  told-so : (o : Outcome) (s : State) (b : Bases) (t : worded.State) (f : Final) (g : machines.Final ℕ) → Grows (opening_bases u input opens.numbers) b → IsShownBy b s t → FinalR (IsWordOf b) f g → reported turns f s.heap ≡ o → (o ≡ RanStuck → ⊥) → IsToldOnWords input turns o t g
  told-so (Ran report) s b t f g grown shown alike e unstuck = record {
    told = told-on-words b turns f g s.heap t.heap report alike shown.heap.given e;
    bases = b;
    root = grown root_name (size (length input)) (root-base u input opens.numbers);
    shown = subst (λ h. HeapShown b h t.heap) (told-heap turns f s.heap report e) shown.heap;
  }
  told-so RanFull s b t f g grown shown alike e unstuck = full-alike b f g (reported-so turns f s.heap e) alike
  told-so RanStuck s b t f g grown shown alike e unstuck = unstuck refl

  pub words-end : (ws : List Way) (t : worded.State) (g : machines.Final ℕ) → word_core.runs u limit ws (worded.opening_state u input turns r) ≡ Some t → final t.task ≡ Some g → IsToldOnWords input turns (outcome u input turns limit) t g
  words-end ws t g run over =
      let x = shows-runs ws (worded.opening_state u input turns r) t shows-start run in
      let y = end-back x.bases (final x.state.task) (final t.task) g (final-alike (IsWordOf x.bases) AnyMark x.state.task t.task x.shown.task) over in
      let told = every-list-ends u limit input turns r x.events x.state checked opens.opens x.run y.0 y.1 in
      told-so (outcome u input turns limit) x.state x.bases t y.0 g x.grown x.shown y.2 (some-inj (sym (ap (λ z. told_of turns x.state z) y.1) ∙ told)) (never-stuck u limit input turns r checked opens.opens)

-- so on words too
pub every-list-on-words : (u : UnitCode) (limit : ℕ) (input : List ℤ) (turns : ℕ) → WordsEndLeftThenRight u limit input turns
every-list-on-words u limit input turns r ws t g checked opens run over = words-end u limit input turns r checked opens ws t g run over
