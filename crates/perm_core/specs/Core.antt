-- The interleaved core: any branch may take the next turn. Its objects have names, which don't depend on the order of events, so two states match where they are equal.
use Rattle.std.specs.Prelude.{◌≡◌, ◌≢◌, ℕ, List, Option, Some, None}
use Rattle.perm_tree.specs.Code.{UnitCode}
use Rattle.perm_meaning.specs.Names.{Name, Mark}
use Rattle.perm_meaning.specs.Machine as machines
use Rattle.perm_meaning.specs.Machine.{Machine, Leaf, Way, Final, final}
use Rattle.perm_meaning.specs.Effects.{Load, Store, Take}
use Rattle.perm_meaning.specs.Custody.{Moves}
use Rattle.perm_meaning.specs.NamedHeap.{Held, Op, Task, State, named, memory}
use Rattle.perm_meaning.specs.Steps as steps
use Rattle.perm_meaning.specs.Steps.{within}
use Rattle.perm_meaning.specs.Outcome.{Outcome, reported}

-- the machine of the core: what a branch hands on has one holder at a time
abbrev pub core : UnitCode → Machine Held Mark Op
core u = named Moves u

module _ (u : UnitCode) where
  -- what the event of a node asks of the heap, if the node has an event
  abbrev pub look : Way → Task → Option Op
  look w t = machines.look (core u) w t

  -- the event of a node, in a heap of so many words
  abbrev pub step : ℕ → State → Way → Option State
  step limit s w = steps.step (core u) (memory u) (within limit) s w

  -- the state after a list of events, where each is allowed at its place
  abbrev pub runs : ℕ → List Way → State → Option State
  runs limit ws s = steps.runs (step limit) ws s

  -- each event of the list is allowed at its place
  abbrev pub IsLawful : ℕ → List Way → State → Type 0
  IsLawful limit ws s = steps.IsLawful (step limit) ws s

  -- the list ends with the root as an ended leaf
  abbrev pub IsComplete : ℕ → List Way → State → Type 0
  IsComplete limit ws s = (f : Final Held) × steps.IsComplete (step limit) ws s f

-- ---------- the end ----------
-- what is told of a root that has ended so
abbrev pub told_of : ℕ → State → Option (Final Held) → Option Outcome
told_of turns s None = None
told_of turns s (Some f) = Some (reported turns f s.heap)

-- what is told of a state whose root has ended
abbrev pub core_outcome : ℕ → State → Option Outcome
core_outcome turns s = told_of turns s (final s.task)

-- ---------- conflicts ----------
-- the operation writes field f of r
abbrev pub Writes : Op → Name → ℕ → Type 0
Writes (Store m g v) r f = (m ≡ r) × (g ≡ f)
Writes (Take m g) r f = (m ≡ r) × (g ≡ f)
Writes _ r f = ⊥

-- the operation reads or writes it
abbrev pub Touches : Op → Name → ℕ → Type 0
Touches (Load m g) r f = (m ≡ r) × (g ≡ f)
Touches (Store m g v) r f = (m ≡ r) × (g ≡ f)
Touches (Take m g) r f = (m ≡ r) × (g ≡ f)
Touches _ r f = ⊥

-- the next events of two different nodes touch one field, and one of them writes it
pub record Conflict (u : UnitCode) (s : State) : Type 0 where
  pub one : Way
  pub other : Way
  pub differ : one ≢ other
  pub writing : Op
  pub touching : Op
  pub writes_next : look u one s.task ≡ Some writing
  pub touches_next : look u other s.task ≡ Some touching
  pub object : Name
  pub field : ℕ
  pub writes : Writes writing object field
  pub touches : Touches touching object field
