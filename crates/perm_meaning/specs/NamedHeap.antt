-- The heap of named objects, and the machine on it.
use Rattle.std.specs.Prelude.{ℕ, ◌+◌, Bool, true, false, Option, Some, None, cond}
use Rattle.perm_tree.specs.declared.ast.Shape.{Shape}
use Rattle.perm_tree.specs.Code.{UnitCode}
use Rattle.perm_meaning.specs.Values.{Value, Null, Reference, Slot}
use Rattle.perm_meaning.specs.Expressions.{tagged}
use Rattle.perm_meaning.specs.Names.{Name, Mark, OnLeft, OnRight, next_name, side_mark, after_par, after_object, same_name}
use Rattle.perm_meaning.specs.Objects.{Objects, size, new_object, length_of, field_of, put, add}
use Rattle.perm_meaning.specs.Machine as machines
use Rattle.perm_meaning.specs.Machine.{Marks, Machine}
use Rattle.perm_meaning.specs.Effects as effects
use Rattle.perm_meaning.specs.Effects.{Tick, Load, Store, Take, Make}
use Rattle.perm_meaning.specs.Custody.{Custody}
use Rattle.perm_meaning.specs.Turns.{machine}
use Rattle.perm_meaning.specs.Steps as steps
use Rattle.perm_meaning.specs.Steps.{Answer, Found, Refused, Missing, Memory}

-- the objects, and the number of words given so far
pub record Heap : Type 0 where
  pub objects : Objects Name
  pub given : ℕ

-- ---------- the types of the machine of names ----------
-- what a variable holds
abbrev pub Held : Type 0
Held = Slot Name

-- what a turn asks of the heap
abbrev pub Op : Type 0
Op = effects.Op Held Name Mark

-- what a turn may change
abbrev pub Own : Type 0
Own = machines.Own Held Mark

-- a branch on names
abbrev pub Branch : Type 0
Branch = machines.Branch Held Mark

-- a tree of branches on names
abbrev pub Task : Type 0
Task = machines.Task Held Mark

-- how a branch has ended
abbrev pub Final : Type 0
Final = machines.Final Held

-- a tree with the heap
abbrev pub State : Type 0
State = steps.State Held Mark Heap

-- what branches bear to give names
abbrev pub marks : Marks Mark
marks = record { to_left = side_mark OnLeft; to_right = side_mark OnRight; after_par = after_par; after_object = after_object }

-- the machine of a unit whose variables hold named references
abbrev pub named : Custody → UnitCode → Machine Held Mark Op
named c u = machine tagged c marks u

-- ---------- what operations find and leave ----------
-- the value of a field that is there
abbrev pub found : Option (Value Name) → Answer Held
found None = Missing
found (Some v) = Found (Some v)

-- the field is there
abbrev pub found_nothing : Option (Value Name) → Answer Held
found_nothing None = Missing
found_nothing (Some v) = Found None

-- an object of n values has room where the words given with its own fit the heap
abbrev pub has_room : (ℕ → Bool) → ℕ → Heap → Bool
has_room fits n h = fits (h.given + size n)

-- a field that isn't there is missing. A new object is found as a reference to it, and is refused where it has no room
abbrev pub find : (ℕ → Bool) → Op → Heap → Answer Held
find fits Tick h = Found None
find fits (Load r f) h = found (field_of h.objects r f)
find fits (Store r f v) h = found_nothing (field_of h.objects r f)
find fits (Take r f) h = found (field_of h.objects r f)
find fits (Make by shape n) h = cond (has_room fits n h) (Found (Some (Reference (next_name by) (length_of shape n)))) Refused

-- the heap after a value is stored
abbrev pub stored : Held → Name → ℕ → Heap → Heap
stored None r f h = h
stored (Some v) r f h = record h { objects = put same_name h.objects r f v }

-- the words given grow by a refused allocation too, unless it alone exceeds the heap
abbrev pub allocated : Bool → Bool → UnitCode → Mark → Shape → ℕ → Heap → Heap
allocated true alone u by shape n h = record { objects = add same_name h.objects (next_name by) (new_object u shape n); given = h.given + size n }
allocated false true u by shape n h = record h { given = h.given + size n }
allocated false false u by shape n h = h

-- the heap after an operation
abbrev pub after : UnitCode → (ℕ → Bool) → Op → Heap → Heap
after u fits Tick h = h
after u fits (Load r f) h = h
after u fits (Store r f v) h = stored v r f h
after u fits (Take r f) h = stored (Some Null) r f h
after u fits (Make by shape n) h = allocated (has_room fits n h) (fits (size n)) u by shape n h

-- the heap as the machine sees it
abbrev pub memory : UnitCode → Memory Held Op Heap
memory u = record { find = find; after = after u }
