-- What frames stand for: code that waits.
use Rattle.std.specs.Prelude.{◌≡◌, ℕ, Bool, List, [], ◌∷◌}
use Rattle.perm_tree.specs.Code.{Code}
use Rattle.perm_tree.specs.CodeOf.{code_of}
use Rattle.perm_tree.specs.UnitTables.{Tables}
use Rattle.perm_meaning.specs.declared.eval.frames.Caller.{Caller}
use Rattle.perm_meaning.specs.declared.eval.frames.Parent.{Parent}
use Rattle.perm_meaning.specs.declared.eval.frames.Failure as failing
use Rattle.perm_meaning.specs.declared.eval.frames.Failure.TheVariants as failures
use Rattle.perm_meaning.specs.declared.eval.frames.Final as ending
use Rattle.perm_meaning.specs.declared.eval.frames.Final.TheVariants as finals
use Rattle.perm_meaning.specs.declared.eval.frames.Frame.{Frame}
use Rattle.perm_meaning.specs.declared.eval.frames.Frame.TheVariants as frames
use Rattle.perm_meaning.specs.declared.eval.frames.Spot.{Spot}
use Rattle.perm_meaning.specs.Machine.{Failure, Trapped, NoTurns, Fine, Failed}
use Rattle.perm_meaning.specs.Meaning.{Result}
use Rattle.perm_meaning.specs.Names.{Mark}
use Rattle.perm_meaning.specs.NamedHeap as heaps
use Rattle.perm_meaning.specs.NamedHeap.{Heap}
use Rattle.perm_meaning.specs.Evaluator.NumberedValues.{all_by, Names}
use Rattle.perm_meaning.specs.Evaluator.Parts.{code_from, own_in}
use Rattle.perm_meaning.specs.Evaluator.Ties.{moment_by}
use Rattle.perm_meaning.specs.Evaluator.Waits.{Waiting, ForBlock, ForRecover, ForCall, ForLeft, ForRight, resumed}
use Rattle.perm_meaning.specs.Evaluator.Writes.{par_at}

-- ---------- code ----------
-- the code from a place in a method on
abbrev pub code_at : Tables → ℕ → Spot → Code
code_at u m s = code_from u m s.part s.at

-- ---------- ends ----------
-- why a branch has failed
abbrev pub failure_by : failing.Failure → Failure
failure_by (failures.Trapped k at) = Trapped k at
failure_by failures.NoTurns = NoTurns

-- how a side has ended
abbrev pub final_by : Names → ending.Final → heaps.Final
final_by names (finals.Fine vs t p) = Fine (all_by names vs) t p
final_by names (finals.Failed e t p) = Failed (failure_by e) t p

-- the turns that it leaves
abbrev pub turns_left : ending.Final → ℕ
turns_left (finals.Fine vs t p) = t
turns_left (finals.Failed e t p) = t

-- ---------- what waits ----------
-- what waits for a call: of what its caller has, only the variables and the method come back
pub record WaitsForCall (u : Tables) (names : Names) (c : Caller) (w : Waiting) : Type 0 where
  pub own : heaps.Own
  pub vars : own.vars ≡ all_by names c.vars
  pub routine : own.routine ≡ c.«method»
  pub is : w ≡ ForCall own c.into (code_at u c.«method» c.rest)

-- what waits for the left side of a par
pub record WaitsForLeft (u : Tables) (names : Names) (p : Parent) (w : Waiting) : Type 0 where
  pub mark : Mark
  pub heap : Heap
  pub is : w ≡ ForLeft (par_at u p.own.«method» p.stmt) (moment_by names mark heap p.turns p.own) (code_at u p.own.«method» p.rest)

-- what waits for its right side
pub record WaitsForRight (u : Tables) (names : Names) (p : Parent) (left : ending.Final) (w : Waiting) : Type 0 where
  pub mark : Mark
  pub heap : Heap
  pub is : w ≡ ForRight (par_at u p.own.«method» p.stmt) (moment_by names mark heap p.turns p.own) (final_by names left) (code_at u p.own.«method» p.rest)

-- what a frame stands for above which a method runs
abbrev pub StandsFor : Tables → Names → ℕ → Frame → Waiting → Type 0
StandsFor u names m (frames.Block p rest) w = w ≡ ForBlock (own_in u m p) (code_at u m rest)
StandsFor u names m (frames.Recover p rest) w = w ≡ ForRecover (own_in u m p) (code_at u m rest)
StandsFor u names m (frames.Call c) w = WaitsForCall u names c w
StandsFor u names m (frames.Left p) w = WaitsForLeft u names p w
StandsFor u names m (frames.Right p left) w = WaitsForRight u names p left w

-- the method that goes on behind a frame above which a method runs
abbrev pub method_behind : ℕ → Frame → ℕ
method_behind m (frames.Block p rest) = m
method_behind m (frames.Recover p rest) = m
method_behind m (frames.Call c) = c.«method»
method_behind m (frames.Left p) = p.own.«method»
method_behind m (frames.Right p left) = p.own.«method»

-- what frames stand for, the innermost first
pub data AllStand (u : Tables) (names : Names) : ℕ → List Frame → List Waiting → Type 0 where
  NoneStands : {m : ℕ} → AllStand u names m [] []
  OneStands : {m : ℕ} {f : Frame} {w : Waiting} {fs : List Frame} {ws : List Waiting} → StandsFor u names m f w → AllStand u names (method_behind m f) fs ws → AllStand u names m (f ∷ fs) (w ∷ ws)

-- ---------- what a run comes to ----------
-- where a method runs above these frames, which stand for what waits, an end of its code so comes to a result
pub record AmountsTo (u : Tables) (fits : ℕ → Bool) (names : Names) (m : ℕ) (fs : List Frame) (ws : List Waiting) (x r : Result) : Type 0 where
  pub stand : AllStand u names m fs ws
  pub is : resumed (code_of u) fits ws x ≡ r
