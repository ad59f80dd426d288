-- Runs of the core in which a policy chooses the next event.
use Rattle.std.specs.Prelude.{ℕ, zero, suc, Bool, true, false, not, ℤ, List, [], ◌∷◌, ◌++◌, Option, Some, None, slice_get, find, is_some, nat_le, map}
use Rattle.perm_tree.specs.Code.{UnitCode, Routine}
use Rattle.perm_meaning.specs.Machine.{Leaf, Fork, Way, Here, GoL, GoR}
use Rattle.perm_meaning.specs.Effects.{choose}
use Rattle.perm_meaning.specs.NamedHeap.{Task, State}
use Rattle.perm_meaning.specs.Outcome.{Outcome, RanFull, opening_need, opening_state}
use Rattle.perm_core.specs.Core.{step, core_outcome}

-- the nodes of one side before those of the other, and the parent last
abbrev pub in_order : Bool → List Way → List Way → List Way
in_order true ls rs = ls ++ (rs ++ Here ∷ [])
in_order false ls rs = rs ++ (ls ++ Here ∷ [])

-- the nodes of a tree, those of the left sides first, or those of the right sides
abbrev pub ways : Bool → Task → List Way
ways left (Leaf b) = Here ∷ []
ways left (Fork b p l r) = in_order left (map GoL (ways left l)) (map GoR (ways left r))

-- which side comes first in each of the events to come
pub data Policy : Type 0 where
  LeftFirst : Policy
  RightFirst : Policy
  InTurn : (left : Bool) → Policy

-- the left side comes first in the next event
abbrev pub prefers_left : Policy → Bool
prefers_left LeftFirst = true
prefers_left RightFirst = false
prefers_left (InTurn b) = b

-- the policy for the events after the next
abbrev pub next_policy : Policy → Policy
next_policy (InTurn b) = InTurn (not b)
next_policy p = p

module _ (u : UnitCode) (limit : ℕ) where
  -- the first node that has an event, by a policy
  abbrev pub next_way : Policy → State → Option Way
  next_way p s = find (λ w. is_some (step u limit s w)) (ways (prefers_left p) s.task)

  -- the state after the event of a node
  abbrev pub after_way : State → Option Way → Option State
  after_way s None = None
  after_way s (Some w) = step u limit s w

  -- go on with a state, if there is one
  abbrev pub go_on : Option State → (State → State) → State → State
  go_on None go s = s
  go_on (Some t) go s = go t

  -- the state after at most n events
  abbrev pub drive : Policy → ℕ → State → State
  drive p zero s = s
  drive p (suc n) s = go_on (after_way s (next_way p s)) (λ t. drive (next_policy p) n t) s

  -- what a run comes to whose first method is this
  abbrev pub driven_from : List ℤ → ℕ → Policy → ℕ → Option Routine → Option Outcome
  driven_from input turns p n None = None
  driven_from input turns p n (Some r) = core_outcome turns (drive p n (opening_state u input turns r))

  -- what a run comes to whose events a policy chooses, n of them at most
  abbrev pub outcome_under : Policy → ℕ → List ℤ → ℕ → Option Outcome
  outcome_under p n input turns =
      choose (nat_le (opening_need u input) limit) (λ r. driven_from input turns p n r) (λ r. Some RanFull) (slice_get u.routines u.run)
