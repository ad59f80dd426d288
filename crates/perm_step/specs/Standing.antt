-- The branch of the word machine that a running branch of the interpreter stands for, where each place of the bodies has its spot.
use Rattle.std.specs.Prelude.{◌≡◌, ℕ, ℤ, List, [], ◌∷◌, ◌++◌, reverse, take, drop, slice_get, Option, Some, None}
use Rattle.perm_tree.specs.declared.bodies.Action.TheVariants as actions
use Rattle.perm_tree.specs.declared.bodies.Bodies.{Bodies}
use Rattle.perm_tree.specs.declared.bodies.Invocation.{Invocation}
use Rattle.perm_tree.specs.declared.bodies.Step.{Step}
use Rattle.perm_tree.specs.Code.{Code, End, Do, Par, Invoke}
use Rattle.perm_tree.specs.Links.{Enclosing, InBlock, InRecover, Spot}
use Rattle.perm_meaning.specs.Machine as machines
use Rattle.perm_meaning.specs.Machine.{Frame, OpenBlock, OpenRecover, OpenCall, Blocks, Close, Returning, Failing, Trapped, NoTurns, NoRoom}
use Rattle.perm_meaning.specs.Turns.{blocks}
use Rattle.perm_meaning.specs.WordHeap.{Branch}
use Rattle.perm_step.specs.declared.control.Called.{Called}
use Rattle.perm_step.specs.declared.control.Ending.{Ending}
use Rattle.perm_step.specs.declared.control.Ending.TheVariants as endings
use Rattle.perm_step.specs.declared.control.Failure.{Failure}
use Rattle.perm_step.specs.declared.control.Failure.TheVariants as failures
use Rattle.perm_step.specs.declared.control.Leaf.{Leaf}
use Rattle.perm_step.specs.Working.{Working, locals}

-- ---------- frames ----------
-- what is open round a code in its method, on words: a recover block lays nothing by
abbrev pub frames_of : List Enclosing → List (Frame ℕ)
frames_of [] = []
frames_of (InBlock own rest ∷ st) = OpenBlock own rest ∷ frames_of st
frames_of (InRecover own hides rest ∷ st) = OpenRecover own hides [] rest ∷ frames_of st

-- an open call: the place of its statement, and the variables of its caller
pub record Open : Type 0 where
  pub place : ℕ
  pub saved : List ℕ

-- the frame of a call at a spot over what stands below
abbrev pub frame_over : ℕ → List Enclosing → Code → List ℕ → List (Frame ℕ) → List (Frame ℕ)
frame_over m within (Do at (Invoke into tie consumed y r args) rest) saved below = OpenCall tie into y saved None m rest ∷ (frames_of within ++ below)
frame_over m within c saved below = []

-- the frames of open calls, the last one first
abbrev pub calls_of : (ℕ → Spot) → List Open → List (Frame ℕ)
calls_of spot [] = []
calls_of spot (o ∷ os) = frame_over (spot o.place).routine (spot o.place).within (spot o.place).code o.saved (calls_of spot os)

-- the open calls below variables that begin at a base, the last one first
abbrev pub opens_of : ℕ → List ℕ → List Called → List Open
opens_of base vars [] = []
opens_of base vars (c ∷ cs) = record { place = c.place; saved = drop c.base (take base vars) } ∷ opens_of c.base (take base vars) cs

-- what stands below the running method
abbrev pub below_of : (ℕ → Spot) → Working → List (Frame ℕ)
below_of spot c = calls_of spot (opens_of c.base c.vars (reverse c.calls))

-- ---------- branches ----------
-- the branch at a spot, with what stands below its method, its variables, depth, printed numbers and turns
abbrev pub branch_at : Spot → List (Frame ℕ) → List ℕ → ℕ → List ℤ → ℕ → Branch
branch_at s below vs depth printed turns = record {
  own = record { vars = vs; routine = s.routine; depth = depth; printed = printed; mark = tt };
  turns = turns;
  code = s.code;
  stack = frames_of s.within ++ below;
  close = None;
}

-- the branch that runs
abbrev pub branch_of : (ℕ → Spot) → Working → Branch
branch_of spot c = branch_at (spot c.at) (below_of spot c) (locals c) c.depth c.printed c.turns

-- why it has failed
abbrev pub failure_of : Failure → machines.Failure
failure_of (failures.Trap k at) = Trapped k at
failure_of failures.NoTurns = NoTurns
failure_of failures.NoRoom = NoRoom

-- how it has ended
abbrev pub close_of : Ending → Close ℕ
close_of (endings.Returned w) = Returning w
close_of (endings.Failed e) = Failing (failure_of e)

-- a branch that has ended keeps neither variables nor open calls
abbrev pub ended_as : Option Ending → Branch → Branch
ended_as None b = b
ended_as (Some e) b = record { own = record b.own { vars = [] }; turns = b.turns; code = End; stack = []; close = Some (close_of e) }

-- the branch that runs or has ended
abbrev pub leaf_branch : (ℕ → Spot) → Leaf → Branch
leaf_branch spot l = ended_as l.ending (branch_of spot l.control)

-- ---------- pars ----------
-- what comes after a par
abbrev pub after_par : Code → Code
after_par (Par at own1 a own2 b rest) = rest
after_par c = End

-- its blocks
abbrev pub blocks_of : Code → Blocks
blocks_of (Par at own1 a own2 b rest) = blocks own1 a own2 b
blocks_of c = blocks [] End [] End

-- the parent that waits at a par
abbrev pub parent_branch : (ℕ → Spot) → Working → Branch
parent_branch spot c = record (branch_of spot c) { code = after_par (spot c.at).code }

-- ---------- what a running branch keeps ----------
-- a call stands at the place
pub record IsOpenCall (b : Bodies) (o : Called) : Type 0 where
  pub step : Step
  pub there : slice_get b.steps o.place ≡ Some step
  pub call : Invocation
  pub invokes : step.action ≡ actions.Invoke call

-- so at the place of each open call
abbrev pub AreOpenCalls : Bodies → List Called → Type 0
AreOpenCalls b calls = (i : ℕ) (o : Called) → slice_get calls i ≡ Some o → IsOpenCall b o
