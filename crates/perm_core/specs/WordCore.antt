-- The core on words, which a running program shows.
use Rattle.std.specs.Prelude.{◌≡◌, ◌≢◌, ℕ, ◌+◌, List, Option, Some}
use Rattle.perm_tree.specs.Code.{UnitCode}
use Rattle.perm_meaning.specs.Machine as machines
use Rattle.perm_meaning.specs.Machine.{Machine, Way}
use Rattle.perm_meaning.specs.Custody.{Moves}
use Rattle.perm_meaning.specs.Effects.{Load, Store, Take}
use Rattle.perm_meaning.specs.Steps as steps
use Rattle.perm_meaning.specs.Steps.{within}
use Rattle.perm_meaning.specs.WordHeap.{NoMark, Ask, Task, State, worded, memory}

-- the machine of the core on words
abbrev pub word_core : UnitCode → Machine ℕ NoMark Ask
word_core u = worded Moves u

-- what the event of a node asks of the heap, if the node has an event
abbrev pub look : UnitCode → Way → Task → Option Ask
look u w t = machines.look (word_core u) w t

-- the event of a node, in a heap of so many words
abbrev pub step : UnitCode → ℕ → State → Way → Option State
step u limit s w = steps.step (word_core u) memory (within limit) s w

-- the state after a list of events, where each is allowed at its place
abbrev pub runs : UnitCode → ℕ → List Way → State → Option State
runs u limit ws s = steps.runs (step u limit) ws s

-- ---------- conflicts ----------
-- the operation writes the word at this place of the heap
abbrev pub Writes : Ask → ℕ → Type 0
Writes (Store b f w) at = b + f ≡ at
Writes (Take b f) at = b + f ≡ at
Writes _ at = ⊥

-- the operation reads or writes it
abbrev pub Touches : Ask → ℕ → Type 0
Touches (Load b f) at = b + f ≡ at
Touches (Store b f w) at = b + f ≡ at
Touches (Take b f) at = b + f ≡ at
Touches _ at = ⊥

-- the next events of two different nodes touch one word of the heap, and one of them writes it
pub record Conflict (u : UnitCode) (t : State) : Type 0 where
  pub one : Way
  pub other : Way
  pub differ : one ≢ other
  pub writing : Ask
  pub touching : Ask
  pub writes_next : look u one t.task ≡ Some writing
  pub touches_next : look u other t.task ≡ Some touching
  pub place : ℕ
  pub writes : Writes writing place
  pub touches : Touches touching place
