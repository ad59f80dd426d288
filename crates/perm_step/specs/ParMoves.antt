-- How a running branch starts a par, how it has ended, and what the join of two sides makes of their parent.
use Rattle.std.specs.Prelude.{◌≡◌, ℕ, ℤ, suc, ◌+◌, ◌-◌, ◌/◌, ◌<◌, List, [], ◌++◌, take, slice_get, Option, Some, None}
use Rattle.perm_tree.specs.declared.bodies.Action.TheVariants as actions
use Rattle.perm_tree.specs.declared.bodies.Bodies.{Bodies}
use Rattle.perm_tree.specs.declared.bodies.Sides.{Sides}
use Rattle.perm_tree.specs.declared.bodies.Step.{Step}
use Rattle.perm_tree.specs.VarSets.{member}
use Rattle.perm_meaning.specs.Custody.{merged}
use Rattle.perm_meaning.specs.Machine as machines
use Rattle.perm_step.specs.declared.control.Ending.{Ending}
use Rattle.perm_step.specs.declared.control.Ending.TheVariants as endings
use Rattle.perm_step.specs.declared.control.Failure.{Failure}
use Rattle.perm_step.specs.declared.control.Failure.TheVariants as failures
use Rattle.perm_step.specs.declared.pars.Final.{Final}
use Rattle.perm_step.specs.declared.pars.Final.TheVariants as finals
use Rattle.perm_step.specs.Standing.{failure_of}
use Rattle.perm_step.specs.Working.{Working, Room, locals}

-- ---------- how a branch has ended ----------
-- the branch stands at the end of a side, and no call is open
pub record IsAtEnd (b : Bodies) (c : Working) : Type 0 where
  pub step : Step
  pub there : slice_get b.steps c.at ≡ Some step
  pub ends : step.action ≡ actions.End
  pub alone : c.calls ≡ []

-- how a branch has ended whose next step shows it: it is at its end, or a step is due and no turn is left
abbrev pub RunsOut : Bodies → Working → Option Final → Type 0
RunsOut b c None = (IsAtEnd b c → ⊥) × (0 < c.turns)
RunsOut b c (Some finals.Fine) = IsAtEnd b c
RunsOut b c (Some (finals.Returned w)) = ⊥
RunsOut b c (Some (finals.Failed failures.NoTurns)) = (IsAtEnd b c → ⊥) × (c.turns ≡ 0)
RunsOut b c (Some (finals.Failed e)) = ⊥

-- how a branch has ended
abbrev pub EndsAs : Bodies → Working → Option Ending → Option Final → Type 0
EndsAs b c None r = RunsOut b c r
EndsAs b c (Some (endings.Returned w)) r = r ≡ Some (finals.Returned w)
EndsAs b c (Some (endings.Failed e)) r = r ≡ Some (finals.Failed e)

-- as the machine says it
abbrev pub final_of : Working → Final → machines.Final ℕ
final_of c finals.Fine = machines.Fine (locals c) c.turns c.printed
final_of c (finals.Returned w) = machines.GaveBack w c.turns c.printed
final_of c (finals.Failed e) = machines.Failed (failure_of e) c.turns c.printed

-- ---------- the start of a par ----------
-- a side of a par, at its first step and with so many turns, which works on a copy of the variables
pub record IsSide (at turns : ℕ) (old side : Working) : Type 0 where
  pub room : Room
  pub is : side ≡ record { at = at; base = 0; calls = []; vars = locals old; printed = []; depth = suc old.depth; turns = turns; room = room }

-- the parent waits, the left side gets the larger half of the turns that are left after this one, and the right side the other
pub record Parts (first second : ℕ) (old parent left right : Working) : Type 0 where
  pub waits : parent ≡ record old { turns = 0 }
  pub on_left : IsSide first (old.turns - 1 - (old.turns - 1) / 2) old left
  pub on_right : IsSide second ((old.turns - 1) / 2) old right

-- ---------- the join ----------
-- a parent waits at a par, of which the sides write these variables
pub record IsWaiting (b : Bodies) (c : Working) : Type 0 where
  pub step : Step
  pub there : slice_get b.steps c.at ≡ Some step
  pub first : ℕ
  pub second : ℕ
  pub place : ℕ
  pub par : step.action ≡ actions.Par first second place
  pub sides : Sides
  pub written : slice_get b.sides place ≡ Some sides

-- want of room comes first, then the left's failure
abbrev pub worse_of : Failure → Failure → Failure
worse_of l failures.NoRoom = failures.NoRoom
worse_of l r = l

-- the failure of a branch that has failed
abbrev pub failure_in : Final → Option Failure
failure_in (finals.Failed e) = Some e
failure_in finals.Fine = None
failure_in (finals.Returned w) = None

-- the failure of a par, by those of its sides
abbrev pub either_failure : Option Failure → Option Failure → Option Failure
either_failure (Some e) (Some f) = Some (worse_of e f)
either_failure (Some e) None = Some e
either_failure None f = f

-- what the sides have printed; what the right side has only where the left hasn't failed
abbrev pub printed_by : Final → List ℤ → List ℤ → List ℤ
printed_by (finals.Failed e) left right = left
printed_by x left right = left ++ right

module _ (next : ℕ) (sides : Sides) (left right old new : Working) where
  -- the parent has both sides' turns, and these printed numbers more
  abbrev pub with_turns : List ℤ → Working
  with_turns more = record old { turns = left.turns + right.turns; printed = old.printed ++ more; room = new.room }

  -- the variables after the join: what the sides write is taken from them
  abbrev pub joined_vars : List ℕ
  joined_vars = take old.base old.vars ++ merged (member sides.left) (member sides.right) (locals old) (locals left) (locals right)

  -- what the join makes of the parent, where the sides have ended so; no block of a par returns a word
  abbrev pub JoinsBy : Final → Final → Option Ending → Type 0
  JoinsBy (finals.Failed e) (finals.Failed f) ending = (ending ≡ Some (endings.Failed (worse_of e f))) × (new ≡ with_turns left.printed)
  JoinsBy (finals.Failed e) y ending = (ending ≡ Some (endings.Failed e)) × (new ≡ with_turns left.printed)
  JoinsBy x (finals.Failed f) ending = (ending ≡ Some (endings.Failed f)) × (new ≡ with_turns (left.printed ++ right.printed))
  JoinsBy finals.Fine finals.Fine ending = (ending ≡ None) × (new ≡ record (with_turns (left.printed ++ right.printed)) { at = next; vars = joined_vars })
  JoinsBy x y ending = (ending ≡ None) × (new ≡ record (with_turns (left.printed ++ right.printed)) { at = next })

-- the same, where the parent waits at a par
abbrev pub Joins : Bodies → Working → Final → Working → Final → Working → Working → Option Ending → Type 0
Joins b left x right y old new ending = (w : IsWaiting b old) → JoinsBy w.step.next w.sides left right old new x y ending
