-- What a run on one thread has reached, as the left-first run of the machine on words has it.
use Rattle.std.specs.Prelude.{ℕ, ℤ, ◌+◌, ◌<◌, List}
use Rattle.perm_tree.specs.Code.{Routine, UnitCode}
use Rattle.perm_meaning.specs.Custody.{Copies}
use Rattle.perm_meaning.specs.Effects.{Load, Store, Take}
use Rattle.perm_meaning.specs.Machine.{Leaf}
use Rattle.perm_meaning.specs.Steps.{Leads, within}
use Rattle.perm_meaning.specs.WordHeap.{Ask, Branch, Cells, NoMark, State, worded, memory, opening_state}
use Rattle.perm_step.specs.Holding.{Aside, AreEnded, tree_around}

-- the word that is asked for is one of those given
abbrev pub IsInHeap : Ask → Cells → Type 0
IsInHeap (Load b f) c = b + f < c.given
IsInHeap (Store b f w) c = b + f < c.given
IsInHeap (Take b f) c = b + f < c.given
IsInHeap o c = Unit {0}

module _ (u : UnitCode) (limit : ℕ) (input : List ℤ) (turns : ℕ) (r : Routine) where
  -- the left-first run from the opening comes to this state
  abbrev pub Reaches : State → Type 0
  Reaches t = Leads (worded Copies u) memory (within limit) (opening_state u input turns r) t

  -- the run has reached the tree in which this branch runs within these sides, on this heap
  pub record IsRunning (ks : List (Aside ℕ NoMark)) (b : Branch) (h : Cells) : Type 0 where
    pub ended : AreEnded ks
    pub reached : Reaches (record { task = tree_around (Leaf b) ks; heap = h })
