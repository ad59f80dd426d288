-- How the sides of a par end, with objects as numbers.
use Rattle.std.specs.Prelude.{◌≡◌, ℕ, ℤ, List}
use Rattle.perm_tree.specs.UnitTables.{Tables}
use Rattle.perm_meaning.specs.declared.eval.frames.Final.{Final}
use Rattle.perm_meaning.specs.declared.eval.own.Own.{Own}
use Rattle.perm_meaning.specs.Custody.{merged, writes_l, writes_r}
use Rattle.perm_meaning.specs.Evaluator.Frames.{final_by}
use Rattle.perm_meaning.specs.Machine.{Blocks, join_final}
use Rattle.perm_meaning.specs.NamedHeap as heaps
use Rattle.perm_meaning.specs.NamedHeap.{Heap, Held}
use Rattle.perm_meaning.specs.Evaluator.NumberedValues.{all_by, Names}
use Rattle.perm_meaning.specs.Evaluator.Writes.{par_at}

-- how a par of these blocks ends whose sides end so, by the variables and the printed numbers of its parent
abbrev pub end_of_par : Blocks → List Held → List ℤ → heaps.Final → heaps.Final → heaps.Final
end_of_par p vs out x y = join_final (merged (writes_l p) (writes_r p)) vs out x y

-- the par at a place ends so whose parent has this
abbrev pub IsJoined : Tables → ℕ → Own → Final → Final → Final → Type 0
IsJoined u at l x y f = (names : Names) → final_by names f ≡ end_of_par (par_at u l.«method» at) (all_by names l.vars) l.printed (final_by names x) (final_by names y)
