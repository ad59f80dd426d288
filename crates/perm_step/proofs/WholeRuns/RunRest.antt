-- A run of a checked unit on words, left first, comes to rest: it has ended, or its next allocation is refused. It shows the run on names, which comes to rest after as many events.
use Rattle.std.proofs.Common.{◌≡◌, ℕ, Option, Some, None, List, refl, ◌⊎◌, inl, inr}
use Rattle.std.specs.Prelude.{ℤ}
use Rattle.perm_tree.specs.Code.{Routine, UnitCode}
use Rattle.perm_meaning.specs.Custody.{Copies}
use Rattle.perm_meaning.specs.Machine as machines
use Rattle.perm_meaning.specs.Machine.{Machine, final, look}
use Rattle.perm_meaning.specs.NamedHeap as on_names
use Rattle.perm_meaning.specs.NamedHeap.{Held, named}
use Rattle.perm_meaning.specs.WordHeap.{Ask, State, worded, memory, find, opening_state}
use Rattle.perm_meaning.specs.Steps.{Refused, alone, leftmost, within}
use Rattle.perm_meaning.specs.Relate.{OptionR, FinalR}
use Rattle.perm_meaning.specs.Shows.{Bases, Grows, IsWordOf, AnyMark, IsShownBy}
use Rattle.perm_meaning.specs.Outcome as meaning
use Rattle.perm_meaning.specs.Outcome.{Ran, RanFull, RanStuck, outcome}
use Rattle.perm_meaning.specs.Claims.{OpensOnWords}
use Rattle.perm_meaning.proofs.OnWords.KeptEvents.{IsKept}
use Rattle.perm_meaning.proofs.OnWords.Related.{final-alike}
use Rattle.perm_meaning.proofs.OnWords.Moved.{routine-fits}
use Rattle.perm_meaning.proofs.OnWords.OpeningShown.{opening_bases, opening-kept, opening-shown}
use Rattle.perm_meaning.proofs.OnWords.WordsRun.{within-small, words-alone, words-refusal}
use Rattle.perm_meaning.proofs.Leads.{none-some}
use Rattle.perm_meaning.proofs.LeftFirst.Determined.{IsAtRest, over-at-rest, refused-at-rest}
use Rattle.perm_meaning.proofs.LeftFirst.WholeRun.{ends-as-meaning, fills-as-meaning}
use Rattle.perm_core.specs.Claims.{IsChecked}
use Rattle.perm_core.proofs.Serial.EveryRun.{never-stuck}

-- what has ended on names has ended on words
other-end : (b : Bases) (x : Option (machines.Final Held)) (y : Option (machines.Final ℕ)) (f : machines.Final Held) → OptionR (FinalR (IsWordOf b)) x y → x ≡ Some f → (g : machines.Final ℕ) × (y ≡ Some g)
other-end b None y f h e = none-some e
other-end b (Some x) None f h e = absurd h
other-end b (Some x) (Some g) f h e = (g, refl)

-- the state has ended
abbrev pub HasEnded : State → Type 0
HasEnded t = (f : machines.Final ℕ) × (final t.task ≡ Some f)

module _ (u : UnitCode) (limit : ℕ) where
  -- its next allocation is refused
  abbrev pub IsRefused : State → Type 0
  IsRefused t = (o : Ask) × (look (worded Copies u) (leftmost t.task) t.task ≡ Some o) × (find (within limit) o t.heap ≡ Refused)

  -- a state that has ended, or is refused what it asks next, is at rest
  pub rest-is : (t : State) → HasEnded t ⊎ IsRefused t → IsAtRest (worded Copies u) memory (within limit) t
  rest-is t (inl (f, e)) = over-at-rest (worded Copies u) memory (within limit) t f e
  rest-is t (inr (o, asks, refused)) = refused-at-rest (worded Copies u) memory (within limit) t o asks refused

  module _ (checked : IsChecked u) (input : List ℤ) (turns : ℕ) (r : Routine) (opens : OpensOnWords u limit input r) where
    -- after so many events both runs are at rest, and the one on words shows the one on names
    pub record Rest : Type 0 where
      pub events : ℕ
      pub names : on_names.State
      pub words : State
      pub bases : Bases
      pub on_names : alone (named Copies u) (on_names.memory u) (within limit) events (meaning.opening_state u input turns r) ≡ Some names
      pub on_words : alone (worded Copies u) memory (within limit) events (opening_state u input turns r) ≡ Some words
      pub shown : IsShownBy bases names words
      pub rests : HasEnded words ⊎ IsRefused words

    -- the words show the names after so many events
    pub shown-after : (n : ℕ) (s : on_names.State) → alone (named Copies u) (on_names.memory u) (within limit) n (meaning.opening_state u input turns r) ≡ Some s
        → (d : Bases) × (t : State) × (alone (worded Copies u) memory (within limit) n (opening_state u input turns r) ≡ Some t) × Grows (opening_bases u input opens.numbers) d × IsShownBy d s t × IsKept Copies u checked.whole.fits (within limit) s
    shown-after n s e =
        words-alone Copies u checked.whole.fits (within limit) (within-small limit opens.bases) n (opening_bases u input opens.numbers) (meaning.opening_state u input turns r) s (opening_state u input turns r)
        (opening-kept u limit input turns r (routine-fits u.routines u.run r checked.whole.fits opens.opens.run)) (opening-shown u input opens.numbers limit turns r opens.opens.fits opens.bases) e

    -- so is a run on names that has ended
    ended-rest : (n : ℕ) (s : on_names.State) (f : machines.Final Held) → alone (named Copies u) (on_names.memory u) (within limit) n (meaning.opening_state u input turns r) ≡ Some s → final s.task ≡ Some f → Rest
    ended-rest n s f run over =
        let y = shown-after n s run in
        let z = other-end y.0 (final s.task) (final y.1.task) f (final-alike (IsWordOf y.0) AnyMark s.task y.1.task y.4.task) over in
        record { events = n; names = s; words = y.1; bases = y.0; on_names = run; on_words = y.2; shown = y.4; rests = inl (z.0, z.1) }

    -- and one that is refused what it asks next
    refused-rest : (n : ℕ) (s : on_names.State) (o : on_names.Op) → alone (named Copies u) (on_names.memory u) (within limit) n (meaning.opening_state u input turns r) ≡ Some s
        → look (named Copies u) (leftmost s.task) s.task ≡ Some o → on_names.find (within limit) o s.heap ≡ Refused → Rest
    refused-rest n s o run asks refused =
        let y = shown-after n s run in
        let z = words-refusal Copies u checked.whole.fits (within limit) (within-small limit opens.bases) y.0 s y.1 o y.5 y.4 asks refused in
        record { events = n; names = s; words = y.1; bases = y.0; on_names = run; on_words = y.2; shown = y.4; rests = inr (z.0, z.1, z.2) }

    -- a run of a checked unit comes to rest
    pub comes-to-rest : Rest
    comes-to-rest = by (outcome u input turns limit) refl
      where
        by : (x : meaning.Outcome) → outcome u input turns limit ≡ x → Rest
        by (Ran report) q =
            let x = ends-as-meaning u limit input turns r opens.opens.run opens.opens.fits (λ e. (let no : ⊥ = cc (q, e) in no)) (λ e. (let no : ⊥ = cc (q, e) in no)) in
            ended-rest x.0 x.1 x.2 x.3 x.4
        by RanFull q = let x = fills-as-meaning u limit input turns r opens.opens.run opens.opens.fits q in refused-rest x.0 x.1 x.2 x.3 x.4 x.5
        by RanStuck q = absurd (never-stuck u limit input turns r checked opens.opens q)
