-- The heap of a run on one thread, and what it answers.
use Rattle.std.specs.Prelude.{◌≡◌, ℕ, ℤ, pos, ◌+◌, ◌<◌, ◌≤◌, ◌++◌, List, length, get_or, replicate, slice_set}
use Rattle.perm_meaning.specs.Objects.{size}
use Rattle.perm_meaning.specs.Literals.{NumbersFit}
use Rattle.perm_meaning.specs.Words.{number_word, reference_word}
use Rattle.perm_step.specs.declared.ask.Ask.{Ask}
use Rattle.perm_step.specs.declared.ask.Ask.TheVariants as asks
use Rattle.perm_step.specs.declared.heap.Shortage.{Shortage}
use Rattle.perm_step.specs.declared.heap.Shortage.TheVariants as shortages

-- the words that are given, and how many may be
pub record Heaped : Type 0 where
  pub words : List ℕ
  pub limit : ℕ

-- the length that a reference holds is no more than the values of its object
abbrev pub IsFitting : Ask → Type 0
IsFitting (asks.Make count len) = len ≤ count
IsFitting q = Unit {0}

-- the word that is found, and what is left of the heap; a new object is found as its reference
abbrev pub Answers : Ask → Heaped → ℕ → Heaped → Type 0
Answers asks.Nothing old word new = (word ≡ 0) × (new ≡ old)
Answers asks.Fork old word new = (word ≡ 0) × (new ≡ old)
Answers (asks.Load at) old word new = (word ≡ get_or old.words at 0) × (new ≡ old)
Answers (asks.Store at w) old word new = (word ≡ 0) × (new ≡ record old { words = slice_set old.words at w })
Answers (asks.Take at) old word new = (word ≡ get_or old.words at 0) × (new ≡ record old { words = slice_set old.words at 0 })
Answers (asks.Make count len) old word new =
    (word ≡ reference_word (length old.words) len) × (length old.words + size count ≤ old.limit) × (new ≡ record old { words = old.words ++ replicate (size count) 0 })

-- an object isn't made: the heap has no room, or memory is refused
abbrev pub Refuses : Ask → Heaped → Heaped → Shortage → Type 0
Refuses q old new shortages.NoMemory = Unit {0}
Refuses q old new shortages.HeapFull = (count : ℕ) × (len : ℕ) × (q ≡ asks.Make count len) × (old.limit < length old.words + size count) × (new ≡ old)

-- the first words are those of some numbers, which have 64 bits, and the others are as they were
pub record IsWritten (numbers : List ℤ) (old new : Heaped) : Type 0 where
  pub fit : NumbersFit numbers
  pub first : (k : ℕ) → k < length numbers → get_or new.words k 0 ≡ number_word (get_or numbers k (pos 0))
  pub others : (k : ℕ) → length numbers ≤ k → get_or new.words k 0 ≡ get_or old.words k 0
  pub given : length new.words ≡ length old.words
  pub limit : new.limit ≡ old.limit
