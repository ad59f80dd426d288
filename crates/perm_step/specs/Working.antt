-- What a branch has while it runs.
use Rattle.std.specs.Prelude.{ℕ, ℤ, List, drop, length, get_or}
use Rattle.perm_step.specs.declared.control.Called.{Called}
use Rattle.perm_meaning.specs.WordHeap.{Cells}

-- how many open calls, variables, printed numbers and values of operations there is room for
pub record Room : Type 0 where
  pub calls : ℕ
  pub vars : ℕ
  pub printed : ℕ
  pub values : ℕ

-- the place of the next step, where the variables of the running method begin among all, the open calls with the last one last, all variables, the printed numbers, the depth, the turns left, and the room
pub record Working : Type 0 where
  pub at : ℕ
  pub base : ℕ
  pub calls : List Called
  pub vars : List ℕ
  pub printed : List ℤ
  pub depth : ℕ
  pub turns : ℕ
  pub room : Room

-- the variables of the running method
abbrev pub locals : Working → List ℕ
locals c = drop c.base c.vars

-- the heap of these words; a word that isn't given is 0
abbrev pub cells_of : List ℕ → Cells
cells_of ws = record { word = λ i. get_or ws i 0; given = length ws }
