-- How a run begins.
use Rattle.std.specs.Prelude.{◌≡◌, ℕ, ℤ, ◌+◌, ◌<◌, ◌≤◌, List, [], length, get_or, replicate, slice_get, slice_set, Some}
use Rattle.perm_tree.specs.declared.bodies.Bodies.{Bodies}
use Rattle.perm_tree.specs.declared.bodies.Entry.{Entry}
use Rattle.perm_meaning.specs.Literals.{NumbersFit}
use Rattle.perm_meaning.specs.Objects.{size}
use Rattle.perm_meaning.specs.WordHeap.{opening_word, input_word, root_word}
use Rattle.perm_step.specs.declared.heap.Shortage.{Shortage}
use Rattle.perm_step.specs.declared.heap.Shortage.TheVariants as shortages
use Rattle.perm_step.specs.Heaps.{Heaped}
use Rattle.perm_step.specs.Working.{Working, Room}

-- the words of the opening: the input array, and the object of Main
abbrev pub opening_size : Bodies → List ℤ → ℕ
opening_size b input = size (length input) + size b.fields

-- `Run` is about to run on these words, with so many turns
pub record IsEntered (b : Bodies) (root input turns : ℕ) (c : Working) : Type 0 where
  pub entry : Entry
  pub here : slice_get b.entries b.run ≡ Some entry
  pub room : Room
  pub control : c ≡ record {
    at = entry.first;
    base = 0;
    calls = [];
    vars = slice_set (slice_set (replicate entry.variables 0) 0 root) 1 input;
    printed = [];
    depth = 1;
    turns = turns;
    room = room;
  }

-- `Run` is about to run on the object of Main and the input, with so many turns, on a heap of so many words
pub record IsOpened (b : Bodies) (input : List ℤ) (turns limit : ℕ) (c : Working) (h : Heaped) : Type 0 where
  pub entered : IsEntered b (root_word input) (input_word input) turns c
  pub words : (i : ℕ) → get_or h.words i 0 ≡ opening_word input i
  pub given : length h.words ≡ opening_size b input
  pub fits : opening_size b input ≤ limit
  pub numbers : NumbersFit input
  pub same : h.limit ≡ limit

-- the heap doesn't hold an opening of so many words, or memory runs out
abbrev pub IsNotOpened : ℕ → ℕ → Shortage → Type 0
IsNotOpened need limit shortages.NoMemory = Unit {0}
IsNotOpened need limit shortages.HeapFull = limit < need
