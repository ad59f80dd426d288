-- How the variables of a branch and the numbered objects stand for a moment of the meaning.
use Rattle.std.specs.Prelude.{◌≡◌, ℕ, zero, suc, ◌≤◌, ◌<◌, ◌⊎◌, ℤ, List, [], ◌∷◌, length, map, slice_get, Option, Some, None}
use Rattle.perm_meaning.specs.declared.eval.asks.Ask.{Ask}
use Rattle.perm_meaning.specs.declared.eval.asks.Ask.TheVariants as asks
use Rattle.perm_meaning.specs.declared.eval.answers.Answer.{Answer}
use Rattle.perm_meaning.specs.declared.eval.answers.Answer.TheVariants as answers
use Rattle.perm_meaning.specs.declared.eval.own.Own.{Own}
use Rattle.perm_meaning.specs.declared.eval.values.Value.{Value}
use Rattle.perm_meaning.specs.declared.eval.values.Value.TheVariants as held
use Rattle.perm_meaning.specs.Meaning.{Moment}
use Rattle.perm_tree.specs.Code.{UnitCode}
use Rattle.perm_meaning.specs.NamedHeap.{Heap, Op, after, find}
use Rattle.perm_meaning.specs.Names.{Name, Mark, after_object, input_name, next_name, root_name, same_name}
use Rattle.perm_meaning.specs.Evaluator.NumberedValues.{held_by, Names}
use Rattle.perm_meaning.specs.Objects.{Object, Objects, add}
use Rattle.perm_meaning.specs.Outcome.{opening_need}
use Rattle.perm_meaning.specs.Evaluator.SimpleStatements.{own_by}
use Rattle.perm_meaning.specs.Evaluator.NumberedHeap.{Stored, AreApart, IsStored, value_at}
use Rattle.perm_meaning.specs.Steps.{Found, Missing, Refused, within}
use Rattle.perm_meaning.specs.Evaluator.UnbornNames.{AreUnborn}

-- ---------- references ----------
-- a value refers to one of the first n objects, if it refers to any
abbrev pub IsBelow : ℕ → Value → Type 0
IsBelow n (held.Reference r len) = r < n
IsBelow n v = Unit {0}

-- so does what a variable holds
abbrev pub SlotBelow : ℕ → Option Value → Type 0
SlotBelow n None = Unit {0}
SlotBelow n (Some v) = IsBelow n v

-- so does what variables hold
abbrev pub AllBelow : ℕ → List (Option Value) → Type 0
AllBelow n vs = (x : ℕ) (v : Option Value) → slice_get vs x ≡ Some v → SlotBelow n v

-- so does what objects hold
abbrev pub FieldsBelow : ℕ → List (List Value) → Type 0
FieldsBelow n objects = (r f : ℕ) (v : Value) → value_at objects r f ≡ Some v → IsBelow n v

-- so does what is asked of the heap
abbrev pub AskBelow : ℕ → Ask → Type 0
AskBelow n (asks.Load r f) = r < n
AskBelow n (asks.Store r f v) = (r < n) × IsBelow n v
AskBelow n (asks.Take r f) = r < n
AskBelow n a = Unit {0}

-- the first n objects have the same names by both
abbrev pub AreSame : ℕ → Names → Names → Type 0
AreSame n a b = (r : ℕ) → r < n → a r ≡ b r

-- ---------- the tie ----------
-- the numbered objects are those of a heap of names
pub record AreTied (names : Names) (s : Stored) (h : Heap) : Type 0 where
  -- no two objects have one name
  pub apart : AreApart names (length s.objects)
  -- both heaps hold the same
  pub stored : IsStored names s h
  -- no object refers to one that isn't there
  pub fields : FieldsBelow (length s.objects) s.objects

-- a branch with this mark and these objects are at a moment of the meaning
pub record IsTied (names : Names) (mark : Mark) (o : Own) (s : Stored) (h : Heap) : Type 0 where
  -- the objects are tied
  pub objects : AreTied names s h
  -- no variable refers to an object that isn't there
  pub vars : AllBelow (length s.objects) o.vars
  -- the names that the branch has still to give are new
  pub unborn : AreUnborn h.objects mark

-- the moment, with so many turns left
abbrev pub moment_by : Names → Mark → Heap → ℕ → Own → Moment
moment_by names mark h turns o = record { turns = turns; own = own_by names mark o; heap = h }

-- ---------- what changes ----------
-- no new name is given, or the next one of a branch
abbrev pub GivesAtMost : Mark → Objects Name → Objects Name → Type 0
GivesAtMost mark old new = ((m : Mark) → AreUnborn old m → AreUnborn new m) ⊎ ((o : Object Name) × (new ≡ add same_name old (next_name mark) o))

-- the objects of two moments, between which a branch with this mark has made one more or none
pub record Grows (names : Names) (mark : Mark) (s : Stored) (h : Heap) (later : Names) (t : Stored) (k : Heap) : Type 0 where
  -- no object goes
  pub more : length s.objects ≤ length t.objects
  -- what was there keeps its names
  pub same : AreSame (length s.objects) names later
  -- the heap has as many words
  pub limit : t.limit ≡ s.limit
  -- no other branch loses a name that it has still to give
  pub gives : GivesAtMost mark h.objects k.objects
  -- the objects are tied
  pub tied : AreTied later t k

-- ---------- what the heap answers ----------
-- the mark of a branch after the heap has answered
abbrev pub next_mark : Ask → Mark → Mark
next_mark (asks.Object c) mark = after_object mark
next_mark (asks.Array n) mark = after_object mark
next_mark a mark = mark

-- an operation finds what the numbered heap does, and both heaps are tied after it
pub record IsAnswered (u : UnitCode) (o : Op) (names : Names) (mark next : Mark) (s : Stored) (h : Heap) (t : Stored) (later : Names) (v : Option Value) : Type 0 where
  -- the objects are tied after it
  pub grows : Grows names mark s h later t (after u (within s.limit) o h)
  -- what is found
  pub found : find (within s.limit) o h ≡ Found (held_by later v)
  -- it refers to no object that isn't there
  pub below : SlotBelow (length t.objects) v
  -- the names that the branch has then still to give are new
  pub unborn : AreUnborn (after u (within s.limit) o h).objects next

-- the same of each answer
abbrev pub Heard : UnitCode → Op → Names → Mark → Mark → Stored → Heap → Stored → Answer → Type 0
Heard u o names mark next s h t (answers.Found v) = (later : Names) × IsAnswered u o names mark next s h t later v
Heard u o names mark next s h t answers.Refused = find (within s.limit) o h ≡ Refused
Heard u o names mark next s h t answers.Missing = find (within s.limit) o h ≡ Missing

-- ---------- the opening ----------
-- the names of the input array and of the object of Main, which are the first two objects
abbrev pub opening_names : Names
opening_names zero = input_name
opening_names (suc n) = root_name

-- the first two objects, where that of Main starts with these values
abbrev pub opening_stored : UnitCode → List ℤ → List Value → ℕ → Stored
opening_stored u input main limit = record { objects = map held.Number input ∷ main ∷ []; given = opening_need u input; limit = limit }
