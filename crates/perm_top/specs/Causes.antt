-- Which answer the words and the files get, and what is written of it.
use Rattle.std.specs.Prelude.{◌≡◌, ◌⊎◌, ℕ, ◌<◌, ◌≤◌, ◌==◌, Bool, false, List, [], ◌∷◌, length, Option, Some, None, if◌then◌else◌}
use Rattle.perm_base.specs.Counts.{Rose}
use Rattle.perm_base.specs.Files.{Files, HasFile, HasNoFile, WhereTold}
use Rattle.perm_base.specs.Pieces.{appended, AppendsPart}
use Rattle.perm_answer.specs.declared.Answer.{Answer}
use Rattle.perm_answer.specs.declared.Answer.TheVariants.{Usage, ReadFault, TooLong}
use Rattle.perm_answer.specs.declared.Which.TheVariants.{Program, Input}
use Rattle.perm_top.specs.Programs.{IsAnswerTo}

-- ---------- words ----------
-- a word that begins with `-`
abbrev pub is_option : List ℕ → Bool
is_option [] = false
is_option (b ∷ bs) = b == 45

-- the path that the words name: there is one word, and it is no option
abbrev pub named_path : List (List ℕ) → Option (List ℕ)
named_path (word ∷ []) = if is_option word then None else Some word
named_path _ = None

-- ---------- causes ----------
-- how many bytes a program's text may have
abbrev pub most_bytes : ℕ
most_bytes = 1048576

-- the answer has its cause in the words, in what a shelf tells of its files, or in its count of faults
abbrev pub IsCaused : Option Files → ℕ → ℕ → Option (List ℕ) → Answer → Type 0
IsCaused told before now None answer = answer ≡ Usage
IsCaused told before now (Some path) Usage = ⊥
IsCaused told before now (Some path) (ReadFault Program) = Rose before now ⊎ HasNoFile told path
IsCaused told before now (Some path) (ReadFault Input) = ⊥
IsCaused told before now (Some path) (TooLong Program) = WhereTold told path (λ bytes. most_bytes < length bytes)
IsCaused told before now (Some path) (TooLong Input) = ⊥
IsCaused told before now (Some path) answer = WhereTold told path (λ bytes. (length bytes ≤ most_bytes) × IsAnswerTo bytes answer)

-- what a sink was given of a text, and the status: the whole text with its status, or after a fault of the sink a part of it and 5
abbrev pub IsWritten : Option (List ℕ) → Option (List ℕ) → ℕ → ℕ → List ℕ → ℕ → ℕ → Type 0
IsWritten old new before now text wanted given =
    ((given ≡ wanted) × (new ≡ appended old text))
    ⊎ ((given ≡ 5) × Rose before now × AppendsPart old new text)

-- the words name a file of the shelf, which tells its bytes: these, and not too many
pub record IsPlain (told : Option Files) (path : Option (List ℕ)) (bytes : List ℕ) : Type 0 where
  pub name : List ℕ
  pub named : path ≡ Some name
  pub file : HasFile told name bytes
  pub short : length bytes ≤ most_bytes
