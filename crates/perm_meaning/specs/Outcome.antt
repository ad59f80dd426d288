-- What a run comes to: the opening, and what is told of the end.
use Rattle.std.specs.Prelude.{ℕ, ◌+◌, ◌-◌, ℤ, List, [], ◌∷◌, length, nat_le, slice_get, Option, Some, None, if◌then◌else◌}
use Rattle.perm_tree.specs.declared.ast.Shape.TheVariants.{Class}
use Rattle.perm_tree.specs.Code.{Routine, UnitCode}
use Rattle.perm_meaning.specs.declared.End.{End}
use Rattle.perm_meaning.specs.declared.End.TheVariants.{Done, Trap, OutOfTurns}
use Rattle.perm_meaning.specs.Values.{Number, Reference}
use Rattle.perm_meaning.specs.Expressions.{tagged}
use Rattle.perm_meaning.specs.Names.{Name, input_name, root_name, root_mark, same_name}
use Rattle.perm_meaning.specs.Objects.{Objects, size, field_types, input_object, new_object, no_objects, add}
use Rattle.perm_meaning.specs.Machine.{Leaf, Trapped, NoTurns, NoRoom, Final, Fine, GaveBack, Failed}
use Rattle.perm_meaning.specs.Effects.{first_vars}
use Rattle.perm_meaning.specs.NamedHeap.{Branch, Heap, Held, Own, State}
use Rattle.perm_meaning.specs.Meaning.{Moment, Result, Well, Gave, Handed, Fails, Full, Stuck, mean}
use Rattle.perm_meaning.specs.Steps.{within}

-- what is told of a run: its end, the printed numbers, the turns spent, the need, and the objects, of which that of Main is the root
pub record Report : Type 0 where
  pub ending : End
  pub printed : List ℤ
  pub spent : ℕ
  pub need : ℕ
  pub objects : Objects Name

-- a run that fills the heap tells nothing else, and only a run of an ill-typed unit is stuck
pub data Outcome : Type 0 where
  Ran : (r : Report) → Outcome
  RanFull : Outcome
  RanStuck : Outcome

-- ---------- the opening ----------
-- the words of the input array and of the object of Main
abbrev pub opening_need : UnitCode → List ℤ → ℕ
opening_need u input = size (length input) + size (length (field_types u u.main))

-- the two objects of the opening
abbrev pub opening_heap : UnitCode → List ℤ → Heap
opening_heap u input = record {
  objects = add same_name (add same_name no_objects input_name (input_object input)) root_name (new_object u (Class u.main) 0);
  given = opening_need u input;
}

-- `Run` is called on the object of Main with the input array, which costs no turn
abbrev pub opening_own : UnitCode → List ℤ → Routine → Own
opening_own u input r = record {
  vars = first_vars tagged r (Some (Reference root_name 0)) (Some (Reference input_name (length input)) ∷ []);
  routine = u.run;
  depth = 1;
  printed = [];
  mark = root_mark;
}

-- the branch that is about to run the body of `Run`
abbrev pub opening_branch : UnitCode → List ℤ → ℕ → Routine → Branch
opening_branch u input turns r = record { own = opening_own u input r; turns = turns; code = r.code; stack = []; close = None }

-- this branch alone, and the two objects
abbrev pub opening_state : UnitCode → List ℤ → ℕ → Routine → State
opening_state u input turns r = record { task = Leaf (opening_branch u input turns r); heap = opening_heap u input }

-- the moment at which a run begins
abbrev pub opening : UnitCode → List ℤ → ℕ → Routine → Moment
opening u input turns r = record { turns = turns; own = opening_own u input r; heap = opening_heap u input }

-- ---------- the end ----------
-- what is told of a run that has ended
abbrev pub report : ℕ → End → List ℤ → ℕ → Heap → Outcome
report turns e printed left h = Ran (record { ending = e; printed = printed; spent = turns - left; need = h.given; objects = h.objects })

-- a run that gives back a number is done
abbrev pub reported : ℕ → Final Held → Heap → Outcome
reported turns (GaveBack (Some (Number n)) left printed) h = report turns (Done n) printed left h
reported turns (GaveBack v left printed) h = RanStuck
reported turns (Fine vs left printed) h = RanStuck
reported turns (Failed (Trapped k at) left printed) h = report turns (Trap k at) printed left h
reported turns (Failed NoTurns left printed) h = report turns OutOfTurns printed left h
reported turns (Failed NoRoom left printed) h = RanFull

-- what is told of how the body of `Run` ends
abbrev pub reported_result : ℕ → Result → Outcome
reported_result turns (Well m) = RanStuck
reported_result turns (Handed x v m) = RanStuck
reported_result turns (Gave v m) = reported turns (GaveBack v m.turns m.own.printed) m.heap
reported_result turns (Fails e left printed h) = reported turns (Failed e left printed) h
reported_result turns Full = RanFull
reported_result turns Stuck = RanStuck

-- what a run comes to that begins with this method
abbrev pub outcome_from : UnitCode → List ℤ → ℕ → ℕ → Option Routine → Outcome
outcome_from u input turns limit None = RanStuck
outcome_from u input turns limit (Some r) = reported_result turns (mean u (within limit) turns r.code (opening u input turns r))

-- what a run on an input comes to, with so many turns and a heap of so many words
abbrev pub outcome : UnitCode → List ℤ → ℕ → ℕ → Outcome
outcome u input turns limit = if nat_le (opening_need u input) limit then outcome_from u input turns limit (slice_get u.routines u.run) else RanFull
