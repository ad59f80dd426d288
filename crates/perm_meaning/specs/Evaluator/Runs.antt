-- What a state of a run means, and what each of its steps keeps.
use Rattle.std.specs.Prelude.{◌≡◌, ℕ, suc, ◌<◌, ◌≤◌, ◌^◌, List, [], ◌∷◌, length, slice_get, Option, Some, None}
use Rattle.perm_tree.specs.declared.ast.Stmt.{Stmt}
use Rattle.perm_tree.specs.Code.{Instruction}
use Rattle.perm_tree.specs.UnitTables.{Tables}
use Rattle.perm_meaning.specs.declared.eval.frames.Final.{Final}
use Rattle.perm_meaning.specs.declared.eval.frames.Final.TheVariants as finals
use Rattle.perm_meaning.specs.declared.eval.frames.Frame.{Frame}
use Rattle.perm_meaning.specs.declared.eval.frames.Frame.TheVariants as frames
use Rattle.perm_meaning.specs.declared.eval.state.Fate.{Fate}
use Rattle.perm_meaning.specs.declared.eval.state.Fate.TheVariants as fates
use Rattle.perm_meaning.specs.declared.eval.state.State.{State}
use Rattle.perm_meaning.specs.Meaning.{Result, Full, Stuck}
use Rattle.perm_meaning.specs.Evaluator.Measure.{all_turns, left_of_run}
use Rattle.perm_meaning.specs.NamedHeap.{Heap}
use Rattle.perm_meaning.specs.Names.{Mark}
use Rattle.perm_meaning.specs.Evaluator.NewNames.{AreNew}
use Rattle.perm_meaning.specs.Evaluator.NumberedValues.{Names}
use Rattle.perm_meaning.specs.Evaluator.Parts.{stmts_in}
use Rattle.perm_meaning.specs.Evaluator.States.{Comes}
use Rattle.perm_meaning.specs.Steps.{within}
use Rattle.perm_meaning.specs.Evaluator.Ties.{AllBelow, AreTied, IsBelow}
use Rattle.perm_meaning.specs.Evaluator.Waits.{Waiting}

-- ---------- references ----------
-- the variables of a side that has ended refer to the first n objects
abbrev pub FinalBelow : ℕ → Final → Type 0
FinalBelow n (finals.Fine vs t p) = AllBelow n vs
FinalBelow n (finals.Failed e t p) = Unit {0}

-- so do those that wait in a frame
abbrev pub FrameBelow : ℕ → Frame → Type 0
FrameBelow n (frames.Block p rest) = Unit {0}
FrameBelow n (frames.Recover p rest) = Unit {0}
FrameBelow n (frames.Call c) = AllBelow n c.vars
FrameBelow n (frames.Left p) = AllBelow n p.own.vars
FrameBelow n (frames.Right p left) = AllBelow n p.own.vars × FinalBelow n left

-- so do those of all frames
abbrev pub FramesBelow : ℕ → List Frame → Type 0
FramesBelow n [] = Unit {0}
FramesBelow n (f ∷ fs) = FrameBelow n f × FramesBelow n fs

-- so does the value that a code gives
abbrev pub FateBelow : ℕ → Fate → Type 0
FateBelow n (fates.Gives v x) = IsBelow n v
FateBelow n (fates.Returns v) = IsBelow n v
FateBelow n f = Unit {0}

-- ---------- what a state means ----------
-- a state with this fate comes to a result by the meaning, where each object has a name
pub record Stands (u : Tables) (s : State) (f : Fate) (r : Result) : Type 0 where
  pub names : Names
  pub mark : Mark
  pub heap : Heap
  pub waits : List Waiting
  -- the objects are those of the heap of names
  pub objects : AreTied names s.heap heap
  -- nothing refers to an object that isn't there
  pub vars : AllBelow (length s.heap.objects) s.own.vars
  pub frames : FramesBelow (length s.heap.objects) s.control.frames
  pub value : FateBelow (length s.heap.objects) f
  -- the branch, and all that wait for it, have new names to give
  pub new : AreNew heap.objects mark waits
  -- that is what it comes to
  pub comes : Comes u (within s.heap.limit) names mark heap s f waits r

-- the same of each fate. A full heap, and what has no meaning, end the whole run
abbrev pub Means : Tables → State → Fate → Result → Type 0
Means u s fates.Full r = Full ≡ r
Means u s fates.Sticks r = Stuck ≡ r
Means u s f r = Stands u s f r

-- ---------- sizes ----------
-- the parents that wait are below the depth limit
abbrev pub AreShallow : List Frame → Type 0
AreShallow [] = Unit {0}
AreShallow (frames.Left p ∷ fs) = (p.own.depth < 100000) × AreShallow fs
AreShallow (frames.Right p left ∷ fs) = (p.own.depth < 100000) × AreShallow fs
AreShallow (f ∷ fs) = AreShallow fs

-- the turns of all branches, the heap and the parents are within the limits
pub record IsSmall (s : State) : Type 0 where
  pub turns : all_turns s ≤ 2 ^ 40
  pub limit : s.heap.limit ≤ 4194304
  pub parents : AreShallow s.control.frames

-- ---------- steps ----------
-- from a state with its fate to the next one: what it means stays, and less is left of the run
pub record IsNext (u : Tables) (old : State) (x : Fate) (new : State) (y : Fate) : Type 0 where
  pub means : (r : Result) → Means u old x r → Means u new y r
  pub small : IsSmall old → IsSmall new
  pub less : left_of_run new y < left_of_run old x

-- the statement at a place comes next in a state
pub record ComesNext (u : Tables) (s : State) (at : ℕ) (d : Stmt) : Type 0 where
  pub next : slice_get (stmts_in u s.own.«method» s.control.spot.part) s.control.spot.at ≡ Some at
  pub here : slice_get u.program.stmts at ≡ Some d
  pub fits : s.control.spot.at < 2 ^ 63

-- the state before a turn was spent
abbrev pub unspent : State → State
unspent s = record s { turns = suc s.turns }

-- a statement that may be one of a kind took its turn, which is spent already, or else nothing was done
abbrev pub MayTurn : Tables → Option Instruction → State → State → Option Fate → Type 0
MayTurn u None old new y = (y ≡ None) × (new ≡ old)
MayTurn u (Some i) old new y = (f : Fate) × (y ≡ Some f) × IsNext u (unspent old) fates.Goes new f

-- the state in which a frame waits innermost
abbrev pub below_frame : Frame → State → State
below_frame f s = record s { control = record s.control { frames = f ∷ s.control.frames } }

-- ---------- the end ----------
-- a run has ended with this fate: nothing waits, or the whole run has ended
abbrev pub HasEnded : State → Fate → Type 0
HasEnded s fates.Goes = ⊥
HasEnded s fates.Full = Unit {0}
HasEnded s fates.Sticks = Unit {0}
HasEnded s f = s.control.frames ≡ []

-- a run goes on from a state with its fate, or it has ended
abbrev pub MayGoOn : Tables → State → Fate → State → Option Fate → Type 0
MayGoOn u old x new None = HasEnded old x × (new ≡ old)
MayGoOn u old x new (Some y) = IsNext u old x new y

-- a run that begins so ends so
pub record IsLast (u : Tables) (old new : State) (y : Fate) : Type 0 where
  pub ended : HasEnded new y
  pub means : (r : Result) → Means u old fates.Goes r → Means u new y r
