-- Runs of the worked programs, shown as a report of their end.
use Rattle.std.specs.Prelude.{ℕ, ℤ, List}
use Rattle.perm_tree.specs.declared.errors.TrapKind.{TrapKind}
use Rattle.perm_tree.specs.Code.{UnitCode}
use Rattle.perm_tree.specs.CodeOf.{code_of}
use Rattle.perm_tree.proofs.Builder.{Source, text_of, place_in, listing_of, unit_of}
use Rattle.perm_meaning.specs.declared.End.{End}
use Rattle.perm_meaning.specs.declared.End.TheVariants.{Done, Trap, OutOfTurns, HeapFull}
use Rattle.perm_meaning.specs.Outcome.{Outcome, Ran, RanFull, RanStuck, outcome}

-- an end, with the line and the column of a trap
pub data ShownEnd : Type 0 where
  IsDone : (n : ℤ) → ShownEnd
  TrapsAt : (k : TrapKind) (place : ℕ × ℕ) → ShownEnd
  IsOutOfTurns : ShownEnd
  IsFull : ShownEnd

-- what is shown of a run: its end, the printed numbers, the turns spent and the need
pub data Shown : Type 0 where
  Shows : (e : ShownEnd) (printed : List ℤ) (spent need : ℕ) → Shown
  ShowsFull : Shown
  ShowsStuck : Shown

-- the code of a program
abbrev pub code : Source → UnitCode
code s = code_of (unit_of (listing_of s))

-- an end, its place taken from the text
abbrev pub shown_end : Source → End → ShownEnd
shown_end s (Done n) = IsDone n
shown_end s (Trap k at) = TrapsAt k (place_in (text_of s) at.start)
shown_end s OutOfTurns = IsOutOfTurns
shown_end s HeapFull = IsFull

-- what is shown of an outcome
abbrev pub shown : Source → Outcome → Shown
shown s (Ran r) = Shows (shown_end s r.ending) r.printed r.spent r.need
shown s RanFull = ShowsFull
shown s RanStuck = ShowsStuck

-- what a run of a program on an input shows, with so many turns and a heap of so many words
abbrev pub run : Source → List ℤ → ℕ → ℕ → Shown
run s input turns limit = shown s (outcome (code s) input turns limit)

-- the turns and the heap that a run has by default
abbrev pub turn_limit : ℕ
turn_limit = 1099511627776

-- the words of the heap by default
abbrev pub heap_words : ℕ
heap_words = 1048576

-- a run with the turns and the heap that it has by default
abbrev pub run_plain : Source → List ℤ → Shown
run_plain s input = run s input turn_limit heap_words
