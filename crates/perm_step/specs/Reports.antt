-- What the interpreter reports of a run whose root has ended.
use Rattle.std.specs.Prelude.{◌≡◌, ℕ, ◌-◌, List, length, Option, Some, None}
use Rattle.perm_meaning.specs.declared.End.{End}
use Rattle.perm_meaning.specs.declared.Outcome.{Outcome}
use Rattle.perm_meaning.specs.Machine.{Final, turns_of, printed_of}
use Rattle.perm_meaning.specs.Told.{told_end}

-- this end is reported, if one is told
abbrev pub IsEnd : Option End → End → Type 0
IsEnd None e = Unit {0}
IsEnd (Some x) e = e ≡ x

-- of a root that has ended so, with these words of the heap: how it ended, the printed numbers, the turns spent of so many, and the words with the reference to the object of Main
pub record IsReport (turns : ℕ) (f : Final ℕ) (ws : List ℕ) (main : ℕ) (o : Outcome) : Type 0 where
  pub ending : IsEnd (told_end f) o.end
  pub printed : o.printed ≡ printed_of f
  pub spent : o.spent ≡ turns - turns_of f
  pub need : o.need ≡ length ws
  pub words : o.words ≡ ws
  pub root : o.root ≡ main
