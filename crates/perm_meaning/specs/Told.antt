-- What is told of a run on words that has ended.
use Rattle.std.specs.Prelude.{◌≡◌, ℕ, ◌-◌, Option, Some, None}
use Rattle.perm_meaning.specs.declared.End.{End}
use Rattle.perm_meaning.specs.declared.End.TheVariants.{Done, Trap, OutOfTurns, HeapFull}
use Rattle.perm_meaning.specs.Machine.{Trapped, NoTurns, NoRoom, Final, Fine, GaveBack, Failed, turns_of, printed_of}
use Rattle.perm_meaning.specs.Words.{number_in}
use Rattle.perm_meaning.specs.WordHeap.{Cells}
use Rattle.perm_meaning.specs.Outcome.{Report}

-- how it ended: the word that it gives back holds the number that is told. Where it gives nothing back, nothing is told
abbrev pub told_end : Final ℕ → Option End
told_end (GaveBack w left printed) = Some (Done (number_in w))
told_end (Failed (Trapped k at) left printed) = Some (Trap k at)
told_end (Failed NoTurns left printed) = Some OutOfTurns
told_end (Failed NoRoom left printed) = Some HeapFull
told_end (Fine vs left printed) = None

-- of a run with so many turns that has ended so, with these words, a report tells its end, the printed numbers, the turns spent and the words given
pub record IsTold (turns : ℕ) (r : Report) (f : Final ℕ) (c : Cells) : Type 0 where
  pub ending : told_end f ≡ Some r.ending
  pub printed : printed_of f ≡ r.printed
  pub spent : turns - turns_of f ≡ r.spent
  pub need : c.given ≡ r.need
