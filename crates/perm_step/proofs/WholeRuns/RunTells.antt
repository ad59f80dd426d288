-- What is reported of a run of a checked unit is what the unit means.
use Rattle.std.proofs.Common.{◌≡◌, ℕ, suc, ◌-◌, ◌^◌, ◌<◌, false, Option, Some, None, List, length, refl, sym, ap, ◌∙◌, subst, arith}
use Rattle.std.specs.Prelude.{ℤ, nat_le, slice_get, if◌then◌else◌}
use Rattle.std.proofs.lemmas.Bool.{lt-leb}
use Rattle.perm_tree.specs.Code.{Routine, UnitCode}
use Rattle.perm_meaning.specs.declared.End.{End}
use Rattle.perm_meaning.specs.declared.Outcome.{Outcome}
use Rattle.perm_meaning.specs.Claims.{EndsOnWords, OpensOnWords}
use Rattle.perm_meaning.specs.Custody.{Copies}
use Rattle.perm_meaning.specs.Machine.{Leaf, Final, Stage, Over, Due, final, look, leaf_op, over, stage, turns_of, printed_of}
use Rattle.perm_meaning.specs.Objects.{size}
use Rattle.perm_meaning.specs.Outcome as meaning
use Rattle.perm_meaning.specs.Outcome.{Report, Ran, RanFull, RanStuck, opening_need, outcome, outcome_from}
use Rattle.perm_meaning.specs.Shows.{HeapShown}
use Rattle.perm_meaning.specs.Steps.{Refused, leftmost, within}
use Rattle.perm_meaning.specs.Told.{told_end}
use Rattle.perm_meaning.specs.WordHeap.{Ask, Branch, Cells, NoMark, State, worded, memory, find, opening_state, root_word}
use Rattle.perm_meaning.proofs.Leads.{some-inj, none-some, ended-no-event}
use Rattle.perm_meaning.proofs.LeftFirst.Determined.{determined, over-at-rest, refused-at-rest}
use Rattle.perm_meaning.proofs.OnWords.WordsRun.{words-end-as-meaning, words-fill-as-meaning}
use Rattle.perm_core.specs.Claims.{IsChecked}
use Rattle.perm_core.proofs.Serial.EveryRun.{never-stuck}
use Rattle.perm_step.specs.Holding.{Aside, tree_around, AreEnded}
use Rattle.perm_step.specs.Reports.{IsEnd, IsReport}
use Rattle.perm_step.specs.Tells.{HasRoot, IsFull, Tells}
use Rattle.perm_step.specs.Working.{cells_of}
use Rattle.perm_step.specs.Running.{Reaches}
use Rattle.perm_step.proofs.WholeRuns.RunHeld.{look-around}
use Rattle.perm_step.proofs.WholeRuns.RunRest.{IsRefused}

-- ---------- the root ----------
-- a report names the object of Main behind the input
pub report-root : (turns : ℕ) (f : Final ℕ) (ws : List ℕ) (input : List ℤ) (o : Outcome) → IsReport turns f ws (root_word input) o → HasRoot input o
report-root turns f ws input o h some = h.root

-- of a full heap nothing is told
pub full-root : (input : List ℤ) (o : Outcome) → IsFull o → HasRoot input o
full-root input o h some = absurd (some h.ending)

-- the end that is told is reported
end-told : (x : Option End) (e y : End) → IsEnd x e → x ≡ Some y → e ≡ y
end-told None e y h q = none-some q
end-told (Some x) e y h q = h ∙ some-inj q

-- a run whose opening the heap doesn't hold fills it
pub unopened-tells : (u : UnitCode) (input : List ℤ) (turns limit : ℕ) (o : Outcome) → limit < opening_need u input → IsFull o → Tells (outcome u input turns limit) o
unopened-tells u input turns limit o less full =
    let over : nat_le (opening_need u input) limit ≡ false = lt-leb (opening_need u input) limit less in
    subst (λ x. Tells x o) (sym (ap (λ b. if b then outcome_from u input turns limit (slice_get u.routines u.run) else RanFull) over)) full

module _ (u : UnitCode) (limit : ℕ) (checked : IsChecked u) (input : List ℤ) (turns : ℕ) (r : Routine) (opens : OpensOnWords u limit input r) where
  -- a run that has ended doesn't come to a refused allocation
  apart : (t z : State) (f : Final ℕ) → Reaches u limit input turns r t → final t.task ≡ Some f → Reaches u limit input turns r z → IsRefused u limit z → ⊥
  apart t z f run ended run' (a, asks, refused) =
      let same = determined (worded Copies u) memory (within limit) run.0 run'.0 (opening_state u input turns r) t z run.1 (over-at-rest (worded Copies u) memory (within limit) t f ended) run'.1 (refused-at-rest (worded Copies u) memory (within limit) z a asks refused) in
      none-some (sym (ended-no-event (worded Copies u) (leftmost z.task) z.task f (ap (λ (x : State). final x.task) (sym same.1) ∙ ended)) ∙ asks)

  -- ---------- a run that has ended ----------
  -- the end of a run is that of its report
  report-tells : (t : State) (f : Final ℕ) (ws : List ℕ) (o : Outcome) (report : Report) → Reaches u limit input turns r t → final t.task ≡ Some f → t.heap ≡ cells_of ws → IsReport turns f ws (root_word input) o
      → EndsOnWords u limit input turns r report → Tells (Ran report) o
  report-tells t f ws o report run ended heap told w =
      let same = determined (worded Copies u) memory (within limit) run.0 w.events (opening_state u input turns r) t w.state run.1 (over-at-rest (worded Copies u) memory (within limit) t f ended) w.run (over-at-rest (worded Copies u) memory (within limit) w.state w.ending w.over) in
      let ending : f ≡ w.ending = some-inj (sym ended ∙ ap (λ (x : State). final x.task) same.1 ∙ w.over) in
      let cells : w.state.heap ≡ cells_of o.words = ap (λ (x : State). x.heap) (sym same.1) ∙ heap ∙ ap cells_of (sym told.words) in
      let small = opens.bases in
      let fits = opens.opens.fits in
      let base : suc (size (length input)) < 2 ^ 32 = omega (arith, fits, small) in
      record {
        ending = end-told (told_end f) o.end report.ending told.ending (ap told_end ending ∙ w.told.ending);
        printed = told.printed ∙ ap printed_of ending ∙ w.told.printed;
        spent = told.spent ∙ ap (λ (x : Final ℕ). turns - turns_of x) ending ∙ w.told.spent;
        need = told.need ∙ ap (λ (c : Cells). c.given) (sym heap) ∙ ap (λ (x : State). x.heap.given) same.1 ∙ w.told.need;
        bases = w.bases;
        root = (size (length input), w.root, base, omega arith, told.root);
        words = subst (HeapShown w.bases (record { objects = report.objects; given = report.need })) cells w.shown;
      }

  -- what is reported of a run that has ended is told of it
  pub ended-tells : (t : State) (f : Final ℕ) (ws : List ℕ) (o : Outcome) → Reaches u limit input turns r t → final t.task ≡ Some f → t.heap ≡ cells_of ws → IsReport turns f ws (root_word input) o → Tells (outcome u input turns limit) o
  ended-tells t f ws o run ended heap told = by (outcome u input turns limit) refl
    where
      by : (x : meaning.Outcome) → outcome u input turns limit ≡ x → Tells x o
      by (Ran report) q = report-tells t f ws o report run ended heap told (words-end-as-meaning u checked.whole.fits limit input turns r report opens q)
      by RanFull q =
          let full = words-fill-as-meaning u checked.whole.fits limit input turns r opens q in
          absurd (apart t full.1 f run ended (full.0, full.3) (full.2, full.4, full.5))
      by RanStuck q = absurd (never-stuck u limit input turns r checked opens.opens q)

  -- ---------- a run that fills the heap ----------
  -- where the next allocation is refused, a full heap is told
  pub full-tells : (t : State) (o : Outcome) → Reaches u limit input turns r t → IsRefused u limit t → IsFull o → Tells (outcome u input turns limit) o
  full-tells t o run refused full = by (outcome u input turns limit) refl
    where
      by : (x : meaning.Outcome) → outcome u input turns limit ≡ x → Tells x o
      by (Ran report) q =
          let w = words-end-as-meaning u checked.whole.fits limit input turns r report opens q in
          absurd (apart w.state t w.ending (w.events, w.run) w.over run refused)
      by RanFull q = full
      by RanStuck q = absurd (never-stuck u limit input turns r checked opens.opens q)

  -- so it is where the branch is refused that runs within what is kept aside
  pub held-full-tells : (ks : List (Aside ℕ NoMark)) (b : Branch) (t : State) (a : Ask) (o : Outcome) → AreEnded ks → t.task ≡ tree_around (Leaf b) ks → Reaches u limit input turns r t
      → leaf_op (worded Copies u) b (stage b) ≡ Some a → find (within limit) a t.heap ≡ Refused → IsFull o → Tells (outcome u input turns limit) o
  held-full-tells ks b t a o ended is run asks refused full =
      full-tells t o run (a, ap (λ x. look (worded Copies u) (leftmost x) x) is ∙ look-around (worded Copies u) (Leaf b) ks ended (due (stage b) asks) ∙ asks, refused) full
    where
      due : (x : Stage ℕ) → leaf_op (worded Copies u) b x ≡ Some a → over x ≡ None
      due (Over f) e = none-some e
      due (Due n) e = refl
