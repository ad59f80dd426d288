-- The calls of a sink while a text is written.
use Rattle.std.specs.Prelude.{◌≡◌, ℕ, ◌+◌, ◌<◌, List, length, drop, Option, Some, None}

-- writes one after another, each of all that isn't taken yet, of which each took some bytes
pub data WritesUpTo {S : Type 0} (gives : S → List ℕ → Option ℕ → S → Type 0) (text : List ℕ) (first : S) : ℕ → S → Type 0 where
  no_write : WritesUpTo gives text first 0 first
  one_more : (at n all : ℕ) (before after : S) → WritesUpTo gives text first at before → at < length text → 0 < n
      → gives before (drop at text) (Some n) after → all ≡ at + n → WritesUpTo gives text first all after

-- after such writes, which didn't take the whole text, one that was refused
pub record IsRefusedAfter {S : Type 0} (gives : S → List ℕ → Option ℕ → S → Type 0) (text : List ℕ) (first after : S) : Type 0 where
  pub at : ℕ
  pub before : S
  pub writes : WritesUpTo gives text first at before
  pub missing : at < length text
  pub refused : gives before (drop at text) None after
