-- What a caller is told of a run.
use Rattle.std.specs.Prelude.{◌≡◌, ◌≢◌, ℤ, List, [], Some}
use Rattle.perm_meaning.specs.declared.End.TheVariants.{HeapFull}
use Rattle.perm_meaning.specs.declared.Outcome.{Outcome}
use Rattle.perm_meaning.specs.Names.{root_name}
use Rattle.perm_meaning.specs.Outcome as meaning
use Rattle.perm_meaning.specs.Outcome.{Report, Ran, RanFull, RanStuck}
use Rattle.perm_meaning.specs.Shows.{Bases, HeapShown, IsWordOf}
use Rattle.perm_meaning.specs.Values.{Reference}
use Rattle.perm_meaning.specs.WordHeap.{root_word}
use Rattle.perm_step.specs.Working.{cells_of}

-- the end, the printed numbers, the turns spent and the need are those of the report, the words show its objects, and the root refers to the object of Main in them
pub record TellsReport (r : Report) (told : Outcome) : Type 0 where
  pub ending : told.end ≡ r.ending
  pub printed : told.printed ≡ r.printed
  pub spent : told.spent ≡ r.spent
  pub need : told.need ≡ r.need
  pub bases : Bases
  pub root : IsWordOf bases (Some (Reference root_name 0)) told.root
  pub words : HeapShown bases (record { objects = r.objects; given = r.need }) (cells_of told.words)

-- nothing else is told of a full heap
pub record IsFull (o : Outcome) : Type 0 where
  pub ending : o.end ≡ HeapFull
  pub printed : o.printed ≡ []
  pub spent : o.spent ≡ 0
  pub need : o.need ≡ 0
  pub words : o.words ≡ []
  pub root : o.root ≡ 0

-- what a run comes to is told, and nothing else where it fills the heap; no run is stuck
abbrev pub Tells : meaning.Outcome → Outcome → Type 0
Tells (Ran r) told = TellsReport r told
Tells RanFull told = IsFull told
Tells RanStuck told = ⊥

-- where the heap isn't full, the root is the reference to the object of Main behind the input
abbrev pub HasRoot : List ℤ → Outcome → Type 0
HasRoot input told = told.end ≢ HeapFull → told.root ≡ root_word input
