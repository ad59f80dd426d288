-- A call that begins leaves a branch and objects that fit the labels that its code tells.
use Rattle.std.proofs.Common.{◌≡◌, ℕ, Bool, Option, List, ◌∷◌}
use Rattle.perm_tree.specs.declared.ast.Span.{Span}
use Rattle.perm_tree.specs.Code.{Tie, Argument, Invoke, Code, Do, Routine, UnitCode}
use Rattle.perm_tree.specs.Vars.{Vars}
use Rattle.perm_meaning.specs.Expressions.{tagged}
use Rattle.perm_meaning.specs.Custody.{Moves, while_called, lent_by}
use Rattle.perm_meaning.specs.Effects.{Tick, first_vars}
use Rattle.perm_meaning.specs.Machine.{Frame, OpenCall, Close, Way, On}
use Rattle.perm_meaning.specs.NamedHeap.{Held, Heap, Own, Branch}
use Rattle.perm_core.specs.Endings.{Ending}
use Rattle.perm_core.specs.Regions.{Zone, Labels}
use Rattle.perm_core.specs.Whole.{IsWhole}
use Rattle.perm_core.proofs.KeepsPicture.Calls.CallTurns.{call-fits, call-objects}
use Rattle.perm_core.proofs.KeepsPicture.Turns.LeafCases.{branch, LeafWith, TurnOf}
use Rattle.perm_core.proofs.KeepsPicture.Turns.LeafTurns.{Begins, Goes_in}

module _ (u : UnitCode) (limit : ℕ) (whole : IsWhole u) (labels : Labels) (heap : Heap) (k : Ending) (below : List ℕ) (at : Way → Way) (z : Zone) (H : Vars) (l : Own) (n : ℕ) (close : Option (Close Held)) where
  pub begin-turn : (span : Span) (rest : Code) (st : List (Frame Held)) (into : Option ℕ) (tie : Tie) (consumed : Bool) (y m : ℕ) (args : List Argument) (r : Routine) (this : Held) (found vs saved : List Held) (lent : Option Held) (l' : Own) (c : Code) (caller : ℕ) (t : ℕ)
      → LeafWith u limit labels heap k below at z H l n close (Do span (Invoke into tie consumed y m args) rest) st → Begins u l tie consumed y m args r this found vs → c ≡ r.code → saved ≡ while_called tagged Moves tie y vs → lent ≡ lent_by Moves tie this → caller ≡ l.routine → Goes_in u l l' m (first_vars tagged r this found)
      → TurnOf u limit labels heap k below at z H l n close (Do span (Invoke into tie consumed y m args) rest) st Tick t (On l' c (OpenCall tie into y saved lent caller rest ∷ st))
  begin-turn span rest st into tie consumed y m args r this found vs saved lent l' c caller t leaf begins code same_saved same_lent same_caller on = record {
    fits = call-fits u whole labels heap.objects at z leaf.low below b span into tie consumed y m args rest st H r this found vs begins leaf.goes leaf.vars leaf.stack leaf.hid leaf.right l' t c saved lent caller same_saved same_lent same_caller on.vars on.routine;
    objects = call-objects u whole labels heap.objects at z leaf.low below b span into tie consumed y m args rest st H r this found vs begins leaf.goes leaf.vars leaf.stack leaf.hid leaf.right leaf.objects;
  }
    where
      b : Branch
      b = branch l n (Do span (Invoke into tie consumed y m args) rest) st close
