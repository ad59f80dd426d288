-- Every order of events ends as running left then right does.
use Rattle.std.specs.Prelude.{◌≡◌, ◌≢◌, ◌⊎◌, ℕ, ℤ, List, [], ◌∷◌, length, Some}
use Rattle.perm_tree.specs.Code.{Routine, UnitCode}
use Rattle.perm_meaning.specs.declared.End.TheVariants.{HeapFull}
use Rattle.perm_meaning.specs.Machine.{Way, Final, final}
use Rattle.perm_meaning.specs.Custody.{Copies}
use Rattle.perm_meaning.specs.Names.{root_name}
use Rattle.perm_meaning.specs.Objects.{size}
use Rattle.perm_meaning.specs.NamedHeap as named
use Rattle.perm_meaning.specs.NamedHeap.{State, memory}
use Rattle.perm_meaning.specs.Steps as steps
use Rattle.perm_meaning.specs.Steps.{within}
use Rattle.perm_meaning.specs.Outcome.{Outcome, Report, Ran, RanFull, RanStuck, outcome, opening_state}
use Rattle.perm_meaning.specs.Shows.{Bases, HeapShown}
use Rattle.perm_meaning.specs.Told.{IsTold, told_end}
use Rattle.perm_meaning.specs.WordHeap as worded
use Rattle.perm_meaning.specs.Claims.{Opens, OpensOnWords}
use Rattle.perm_core.specs.Core.{step, runs, IsComplete, core_outcome}
use Rattle.perm_core.specs.WordCore as word_core
use Rattle.perm_core.specs.Claims.{IsChecked, Refuses}

module _ (u : UnitCode) (limit : ℕ) where
  -- an event of the list is a refused allocation
  abbrev pub SomeRefused : List Way → State → Type 0
  SomeRefused [] s = ⊥
  SomeRefused (w ∷ ws) s = Refuses u limit s w ⊎ ((t : State) × (step u limit s w ≡ Some t) × SomeRefused ws t)

  -- every complete list of events ends as running left then right does
  abbrev pub EndsLeftThenRight : List ℤ → ℕ → Type 0
  EndsLeftThenRight input turns = (r : Routine) (ws : List Way) (t : State) → IsChecked u → Opens u limit input r → runs u limit ws (opening_state u input turns r) ≡ Some t → (f : Final named.Held) → final t.task ≡ Some f
      → core_outcome turns t ≡ Some (outcome u input turns limit)

  -- a refused allocation comes in a complete list where the heap doesn't hold the run, and only there
  abbrev pub RefusedWhereFull : List ℤ → ℕ → Type 0
  RefusedWhereFull input turns = (r : Routine) (ws : List Way) → IsChecked u → Opens u limit input r → IsComplete u limit ws (opening_state u input turns r)
      → (SomeRefused ws (opening_state u input turns r) → outcome u input turns limit ≡ RanFull) × (outcome u input turns limit ≡ RanFull → SomeRefused ws (opening_state u input turns r))

  -- the machine that copies variables goes the same way: each event is allowed at its place, the heap is the same, and the same is told of the end
  pub record GoesByCopies (turns : ℕ) (ws : List Way) (first s : State) : Type 0 where
    pub state : State
    pub run : steps.runs (steps.step (named.named Copies u) (memory u) (within limit)) ws first ≡ Some state
    pub heap : state.heap ≡ s.heap
    pub told : core_outcome turns state ≡ core_outcome turns s

  -- it does so with each lawful list of events
  abbrev pub CopiesFollow : List ℤ → ℕ → Type 0
  CopiesFollow input turns = (r : Routine) (ws : List Way) (s : State) → IsChecked u → Opens u limit input r → runs u limit ws (opening_state u input turns r) ≡ Some s → GoesByCopies turns ws (opening_state u input turns r) s

  -- the meaning of a checked unit is never stuck
  abbrev pub NeverStuck : List ℤ → ℕ → Type 0
  NeverStuck input turns = (r : Routine) → IsChecked u → Opens u limit input r → outcome u input turns limit ≢ RanStuck

-- ---------- words ----------
-- a report tells of a state on words that has ended so; its heap shows the objects of the report, and the object of Main has the base that it began with
pub record TellsOnWords (input : List ℤ) (turns : ℕ) (report : Report) (t : worded.State) (g : Final ℕ) : Type 0 where
  pub told : IsTold turns report g t.heap
  pub bases : Bases
  pub root : bases root_name ≡ Some (size (length input))
  pub shown : HeapShown bases (record { objects = report.objects; given = report.need }) t.heap

-- what the meaning comes to is told of a state on words that has ended so
abbrev pub IsToldOnWords : List ℤ → ℕ → Outcome → worded.State → Final ℕ → Type 0
IsToldOnWords input turns (Ran report) t g = TellsOnWords input turns report t g
IsToldOnWords input turns RanFull t g = told_end g ≡ Some HeapFull
IsToldOnWords input turns RanStuck t g = ⊥

-- every complete list of events of the core on words ends as the meaning tells
abbrev pub WordsEndLeftThenRight : UnitCode → ℕ → List ℤ → ℕ → Type 0
WordsEndLeftThenRight u limit input turns = (r : Routine) (ws : List Way) (t : worded.State) (g : Final ℕ) → IsChecked u → OpensOnWords u limit input r
    → word_core.runs u limit ws (worded.opening_state u input turns r) ≡ Some t → final t.task ≡ Some g → IsToldOnWords input turns (outcome u input turns limit) t g
