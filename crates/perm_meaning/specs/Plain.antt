-- What is told of a run, but for the words of its heap.
use Rattle.std.specs.Prelude.{◌≡◌, ℕ, ℤ, List, []}
use Rattle.perm_tree.specs.CodeOf.{code_of}
use Rattle.perm_tree.specs.UnitTables.{Tables}
use Rattle.perm_meaning.specs.declared.End.TheVariants.{HeapFull}
use Rattle.perm_meaning.specs.declared.eval.plain.Plain.{Plain}
use Rattle.perm_meaning.specs.declared.eval.plain.Plain.TheVariants as plains
use Rattle.perm_meaning.specs.declared.Outcome as told
use Rattle.perm_meaning.specs.Outcome.{outcome, Outcome, Ran, RanFull, RanStuck, Report}

-- what is told is the end, the printed numbers, the turns spent and the need
pub record TellsReport (o : told.Outcome) (r : Report) : Type 0 where
  pub ending : o.end ≡ r.ending
  pub printed : o.printed ≡ r.printed
  pub spent : o.spent ≡ r.spent
  pub need : o.need ≡ r.need

-- after a full heap nothing else is told
pub record TellsFull (o : told.Outcome) : Type 0 where
  pub ending : o.end ≡ HeapFull
  pub printed : o.printed ≡ []
  pub spent : o.spent ≡ 0
  pub need : o.need ≡ 0

-- this is told of an outcome
abbrev pub Tells : Plain → Outcome → Type 0
Tells (plains.Ran o) (Ran r) = TellsReport o r
Tells (plains.Ran o) RanFull = TellsFull o
Tells (plains.Ran o) RanStuck = ⊥
Tells plains.Stuck x = x ≡ RanStuck

-- it is told of the run of a unit on an input, with so many turns and a heap of so many words
abbrev pub IsPlain : Tables → List ℤ → ℕ → ℕ → Plain → Type 0
IsPlain u input turns limit p = Tells p (outcome (code_of u) input turns limit)
