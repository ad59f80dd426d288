-- How the steps of a running branch are events of the word machine, in which each side of a par works on a copy of the variables.
use Rattle.std.specs.Prelude.{◌≡◌, ◌≢◌, ℕ, ◌<◌, ◌≤◌, List, [], ◌∷◌, length, reverse, slice_get, Option, Some, None}
use Rattle.perm_tree.specs.declared.bodies.Bodies.{Bodies}
use Rattle.perm_tree.specs.Code.{Routine, UnitCode}
use Rattle.perm_tree.specs.Links.{Spot}
use Rattle.perm_meaning.specs.Custody.{Copies}
use Rattle.perm_meaning.specs.Effects.{depth_limit}
use Rattle.perm_meaning.specs.Machine.{leaf_op, leaf_on, stage, over, next_turn, turn_op, resumed, join_of}
use Rattle.perm_meaning.specs.WordHeap.{Ask, Branch, Task, worded}
use Rattle.perm_step.specs.declared.control.Called.{Called}
use Rattle.perm_step.specs.declared.control.Leaf.{Leaf}
use Rattle.perm_step.specs.declared.pars.Final.{Final}
use Rattle.perm_step.specs.Standing.{Open, AreOpenCalls, opens_of, leaf_branch, parent_branch, blocks_of}
use Rattle.perm_step.specs.ParMoves.{final_of}
use Rattle.perm_step.specs.Working.{Working, locals}

-- ---------- what a running branch keeps ----------
module _ (u : UnitCode) (spot : ℕ → Spot) where
  -- so many variables has the method at a place
  pub record HasVariables (place count : ℕ) : Type 0 where
    pub routine : Routine
    pub there : slice_get u.routines (spot place).routine ≡ Some routine
    pub many : count ≡ length routine.vars

  -- each open call has kept the variables of its caller
  abbrev pub AreLong : List Open → Type 0
  AreLong [] = Unit {0}
  AreLong (o ∷ os) = HasVariables o.place (length o.saved) × AreLong os

  -- the method that stands below all open calls
  abbrev pub bottom_from : ℕ → List Called → ℕ
  bottom_from at [] = (spot at).routine
  bottom_from at (c ∷ cs) = (spot c.place).routine

  -- a running branch stands at a step, its open calls at calls, it and its callers have the variables of their methods, and the method below all calls is this one
  pub record IsSound (b : Bodies) (bottom : ℕ) (c : Working) : Type 0 where
    pub here : c.at < length b.steps
    pub calls : AreOpenCalls b c.calls
    pub variables : HasVariables c.at (length (locals c))
    pub callers : AreLong (opens_of c.base c.vars (reverse c.calls))
    pub below : bottom_from c.at c.calls ≡ bottom
    pub deep : c.depth ≤ depth_limit

-- ---------- events ----------
module _ (u : UnitCode) where
  -- the next turn of the branch isn't stuck
  abbrev pub IsLively : Branch → Type 0
  IsLively x = turn_op (worded Copies u) (next_turn (worded Copies u) x) ≢ None

  -- the next event of a branch asks this
  abbrev pub NextAsks : Branch → Ask → Type 0
  NextAsks x o = leaf_op (worded Copies u) x (stage x) ≡ Some o

  -- given this, it makes this of the branch
  abbrev pub NextMakes : Branch → Option ℕ → Task → Type 0
  NextMakes x v t = leaf_on (worded Copies u) x (stage x) v ≡ t

-- ---------- ends ----------
module _ (u : UnitCode) (spot : ℕ → Spot) where
  -- how a leaf has ended
  abbrev pub HasEnded : Leaf → Option Final → Type 0
  HasEnded l None = over (stage (leaf_branch spot l)) ≡ None
  HasEnded l (Some f) = over (stage (leaf_branch spot l)) ≡ Some (final_of l.control f)

  -- what the join of two sides makes of the parent that waits
  abbrev pub JoinMakes : Working → Working → Final → Working → Final → Task → Type 0
  JoinMakes parent left x right y t =
      resumed (worded Copies u) (parent_branch spot parent) (join_of (worded Copies u) (parent_branch spot parent) (blocks_of (spot parent.at).code) (final_of left x) (final_of right y)) ≡ t
