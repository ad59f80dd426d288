-- What holds of the meaning, of the machine on names and of the machine on words.
use Rattle.std.specs.Prelude.{◌≡◌, ◌≢◌, ℕ, ◌<◌, ◌≤◌, ◌^◌, ℤ, List, length, Some, slice_get}
use Rattle.perm_tree.specs.Code.{Routine, UnitCode}
use Rattle.perm_meaning.specs.Machine.{Machine, Final, final, look}
use Rattle.perm_meaning.specs.Custody.{Custody, Copies}
use Rattle.perm_meaning.specs.NamedHeap.{Held, Op, State, named, memory, find}
use Rattle.perm_meaning.specs.Steps.{Lone, AreOver, lone_task, lone_way, leftmost, alone, within, Refused}
use Rattle.perm_meaning.specs.Outcome.{Report, Ran, RanFull, RanStuck, outcome, reported, opening_need, opening_state}
use Rattle.perm_meaning.specs.Names.{root_name}
use Rattle.perm_meaning.specs.Objects.{size}
use Rattle.perm_meaning.specs.WordHeap as on_words
use Rattle.perm_meaning.specs.WordHeap.{Ask, worded}
use Rattle.perm_meaning.specs.Shows.{Bases, HeapShown, IsShown}
use Rattle.perm_meaning.specs.Literals.{NumbersFit}
use Rattle.perm_meaning.specs.Told.{IsTold}

-- the event of a holder, if it has one, is the leftmost of the tree that it holds
abbrev pub HolderGoesLeftFirst : {V G O : Type 0} → Machine V G O → Type 0
HolderGoesLeftFirst {V} {G} {O} m = (x : Lone V G) (o : O) → AreOver x → look m (lone_way x) (lone_task x) ≡ Some o → leftmost (lone_task x) ≡ lone_way x

module _ (u : UnitCode) (limit : ℕ) where
  -- after so many events at the leftmost node
  abbrev pub AfterLeftFirst : List ℤ → ℕ → Routine → ℕ → State → Type 0
  AfterLeftFirst input turns r n s = alone (named Copies u) (memory u) (within limit) n (opening_state u input turns r) ≡ Some s

  -- the machine of names, left first, ends as the meaning says, or comes to the allocation that fills the heap
  abbrev pub EndsAsMeaning : List ℤ → ℕ → Type 0
  EndsAsMeaning input turns = (r : Routine) → slice_get u.routines u.run ≡ Some r → opening_need u input ≤ limit → outcome u input turns limit ≢ RanStuck → outcome u input turns limit ≢ RanFull
      → (n : ℕ) × (s : State) × (f : Final Held) × AfterLeftFirst input turns r n s × (final s.task ≡ Some f) × (reported turns f s.heap ≡ outcome u input turns limit)

  -- where the heap doesn't hold the run, the machine of names, left first, comes to the allocation that is refused
  abbrev pub FillsAsMeaning : List ℤ → ℕ → Type 0
  FillsAsMeaning input turns = (r : Routine) → slice_get u.routines u.run ≡ Some r → opening_need u input ≤ limit → outcome u input turns limit ≡ RanFull
      → (n : ℕ) × (s : State) × (o : Op) × AfterLeftFirst input turns r n s × (look (named Copies u) (leftmost s.task) s.task ≡ Some o) × (find (within limit) o s.heap ≡ Refused)

  -- the run on this input begins with the body of this method, on a heap that holds its opening
  pub record Opens (input : List ℤ) (r : Routine) : Type 0 where
    pub run : slice_get u.routines u.run ≡ Some r
    pub fits : opening_need u input ≤ limit

  -- ---------- on words ----------
  -- besides, bases have 32 bits, and the numbers of the input 64 bits
  pub record OpensOnWords (input : List ℤ) (r : Routine) : Type 0 where
    pub opens : Opens input r
    pub bases : limit < 2 ^ 32
    pub numbers : NumbersFit input

  -- after so many events at the leftmost node, on words
  abbrev pub AfterLeftFirstOnWords : Custody → List ℤ → ℕ → Routine → ℕ → on_words.State → Type 0
  AfterLeftFirstOnWords c input turns r n t = alone (worded c u) on_words.memory (within limit) n (on_words.opening_state u input turns r) ≡ Some t

  -- left first, the machine on words goes step by step with the machine on names, and shows it, whichever way variables are handed on
  abbrev pub WordsShowNames : Custody → List ℤ → ℕ → Type 0
  WordsShowNames c input turns = (r : Routine) → OpensOnWords input r → (n : ℕ) (s : State) → alone (named c u) (memory u) (within limit) n (opening_state u input turns r) ≡ Some s
      → (t : on_words.State) × AfterLeftFirstOnWords c input turns r n t × IsShown s t

  -- a run on words that has ended as a report tells; its heap shows the objects of the report, and the object of Main has the base that it began with
  pub record EndsOnWords (input : List ℤ) (turns : ℕ) (r : Routine) (report : Report) : Type 0 where
    pub events : ℕ
    pub state : on_words.State
    pub ending : Final ℕ
    pub run : AfterLeftFirstOnWords Copies input turns r events state
    pub over : final state.task ≡ Some ending
    pub told : IsTold turns report ending state.heap
    pub bases : Bases
    pub root : bases root_name ≡ Some (size (length input))
    pub shown : HeapShown bases (record { objects = report.objects; given = report.need }) state.heap

  -- the machine on words, left first, ends as the meaning says
  abbrev pub WordsEndAsMeaning : List ℤ → ℕ → Type 0
  WordsEndAsMeaning input turns = (r : Routine) (report : Report) → OpensOnWords input r → outcome u input turns limit ≡ Ran report → EndsOnWords input turns r report

  -- where the heap doesn't hold the run, the machine on words, left first, comes to the allocation that is refused
  abbrev pub WordsFillAsMeaning : List ℤ → ℕ → Type 0
  WordsFillAsMeaning input turns = (r : Routine) → OpensOnWords input r → outcome u input turns limit ≡ RanFull
      → (n : ℕ) × (t : on_words.State) × (o : Ask) × AfterLeftFirstOnWords Copies input turns r n t × (look (worded Copies u) (leftmost t.task) t.task ≡ Some o) × (on_words.find (within limit) o t.heap ≡ Refused)
