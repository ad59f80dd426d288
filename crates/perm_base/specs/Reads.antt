-- The answers of a read of a whole file.
use Rattle.std.specs.Prelude.{◌≡◌, ◌⊎◌, ℕ, ◌+◌, ◌-◌, ◌<◌, ◌≤◌, min, List, length, Option, Some, None, Result, Ok, Err, vec_len}
use Rattle.std.specs.Global.{Vec}
use Rattle.perm_base.specs.Counts.{Rose}
use Rattle.perm_base.specs.Files.{Files, HasNoFile}
use Rattle.perm_base.specs.declared.reading.ReadFault.{ReadFault}
use Rattle.perm_base.specs.declared.reading.ReadFault.TheVariants.{Fault, TooLong, NoMemory}

-- the answer for a file with these bytes where no read failed; want of memory is free
abbrev pub IsAnswerFor : List ℕ → ℕ → Result (Vec ℕ) ReadFault → Type 0
IsAnswerFor bytes limit (Ok text) = (text.items ≡ bytes) × (length bytes ≤ limit)
IsAnswerFor bytes limit (Err TooLong) = limit < length bytes
IsAnswerFor bytes limit (Err Fault) = ⊥
IsAnswerFor bytes limit (Err NoMemory) = Unit {0}

-- why one read, with what follows it, failed: a fault has its cause, and nothing is too long for it
abbrev pub HasCause : ReadFault → Option Files → List ℕ → ℕ → ℕ → Type 0
HasCause Fault told path before now = Rose before now ⊎ HasNoFile told path
HasCause TooLong told path before now = ⊥
HasCause NoMemory told path before now = Unit {0}

-- a count of faults after an answer: where it is no fault the count is as before
abbrev pub LeavesCount : {A : Type 0} → Result A ReadFault → ℕ → ℕ → Type 0
LeavesCount (Ok x) before now = now ≡ before
LeavesCount (Err TooLong) before now = now ≡ before
LeavesCount (Err Fault) before now = Unit {0}
LeavesCount (Err NoMemory) before now = now ≡ before

-- ---------- the calls of a shelf ----------
-- how many bytes are asked for where so many are there: 4,096, or what is missing to one more than the limit where that is less
abbrev pub asked_count : ℕ → ℕ → ℕ
asked_count limit at = min 4096 (limit + 1 - at)

-- reads one after another, each behind the bytes that came before it, of which each gave some bytes
pub data ReadsUpTo {S : Type 0} (gives : S → List ℕ → ℕ → ℕ → Option ℕ → S → Type 0) (path : List ℕ) (limit : ℕ) (first : S) : ℕ → S → Type 0 where
  no_read : ReadsUpTo gives path limit first 0 first
  one_more : (at n all : ℕ) (before after : S) → ReadsUpTo gives path limit first at before → at ≤ limit → 0 < n
      → gives before path at (asked_count limit at) (Some n) after → all ≡ at + n → ReadsUpTo gives path limit first all after

-- after such reads one more, of which this came
pub record EndsWith {S : Type 0} (gives : S → List ℕ → ℕ → ℕ → Option ℕ → S → Type 0) (path : List ℕ) (limit : ℕ) (first : S) (at : ℕ) (came : Option ℕ) (after : S) : Type 0 where
  pub before : S
  pub reads : ReadsUpTo gives path limit first at before
  pub missing : at ≤ limit
  pub last : gives before path at (asked_count limit at) came after

-- the reads of a whole file, by the answer: at last no byte came, or all that were asked for had come, or a read failed, or there was no memory for what came
abbrev pub AreReadsFor : {S : Type 0} → (S → List ℕ → ℕ → ℕ → Option ℕ → S → Type 0) → List ℕ → ℕ → S → Result (Vec ℕ) ReadFault → S → Type 0
AreReadsFor gives path limit first (Ok text) after = EndsWith gives path limit first (vec_len text) (Some 0) after
AreReadsFor gives path limit first (Err TooLong) after = ReadsUpTo gives path limit first (limit + 1) after
AreReadsFor gives path limit first (Err Fault) after = (at : ℕ) × EndsWith gives path limit first at None after
AreReadsFor gives path limit first (Err NoMemory) after = (at : ℕ) × ((n : ℕ) × EndsWith gives path limit first at (Some n) after)

-- what one read gave, by what came of it
abbrev pub GaveFor : (Option ℕ → Type 0) → Result ℕ ReadFault → Type 0
GaveFor gave (Ok n) = gave (Some n)
GaveFor gave (Err Fault) = gave None
GaveFor gave (Err TooLong) = ⊥
GaveFor gave (Err NoMemory) = (n : ℕ) × gave (Some n)
