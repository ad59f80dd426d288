-- What a run on one thread stands for, and how it goes on.
use Rattle.std.specs.Prelude.{◌≡◌, ℕ, ℤ, ◌+◌, ◌*◌, ◌<◌, ◌≤◌, ◌^◌, List, [], ◌∷◌, ◌++◌, reverse, length, slice_get, Option, None, Some}
use Rattle.perm_tree.specs.declared.bodies.Action.TheVariants as actions
use Rattle.perm_tree.specs.declared.bodies.Bodies.{Bodies}
use Rattle.perm_tree.specs.declared.bodies.Step.{Step}
use Rattle.perm_tree.specs.Code.{Routine, UnitCode}
use Rattle.perm_tree.specs.Links.{Spot, AreBodiesOf, most_variables}
use Rattle.perm_meaning.specs.Claims.{OpensOnWords}
use Rattle.perm_meaning.specs.Steps.{Refused, within}
use Rattle.perm_meaning.specs.WordHeap.{Ask, Branch, Cells, NoMark, find}
use Rattle.perm_core.specs.Claims.{IsChecked}
use Rattle.perm_step.specs.declared.alone.Run.{Run}
use Rattle.perm_step.specs.declared.alone.Waiting.{Waiting}
use Rattle.perm_step.specs.declared.alone.Waiting.TheVariants.{ForLeft, ForRight}
use Rattle.perm_step.specs.declared.control.Ending.{Ending}
use Rattle.perm_step.specs.declared.control.Leaf as leaves
use Rattle.perm_step.specs.declared.heap.Shortage.{Shortage}
use Rattle.perm_step.specs.declared.heap.Shortage.TheVariants as shortages
use Rattle.perm_step.specs.declared.pars.Final.{Final}
use Rattle.perm_step.specs.declared.pars.Final.TheVariants as finals
use Rattle.perm_step.specs.Events.{IsSound, NextAsks}
use Rattle.perm_step.specs.Holding.{Aside, RightAside, LeftAside}
use Rattle.perm_step.specs.ParMoves.{EndsAs, IsWaiting, Joins, Parts}
use Rattle.perm_step.specs.Running.{IsRunning}
use Rattle.perm_step.specs.Standing.{branch_of, leaf_branch, parent_branch, blocks_of}
use Rattle.perm_step.specs.Working.{Working, cells_of, locals}

-- ---------- pars that wait ----------
module _ (spot : ℕ → Spot) where
  -- what is kept aside by pars that wait
  abbrev pub asides_of : List Waiting → List (Aside ℕ NoMark)
  asides_of [] = []
  asides_of (ForLeft parent right ∷ ws) = RightAside (parent_branch spot parent) (blocks_of (spot parent.at).code) (branch_of spot right) ∷ asides_of ws
  asides_of (ForRight parent left ∷ ws) = LeftAside (parent_branch spot parent) (blocks_of (spot parent.at).code) (leaf_branch spot left) ∷ asides_of ws

-- ---------- what is kept ----------
module _ (u : UnitCode) (spot : ℕ → Spot) (b : Bodies) where
  -- a leaf stands at a step, and is sound unless it has an ending
  pub record IsSoundLeaf (bottom : ℕ) (l : leaves.Leaf) : Type 0 where
    pub here : l.control.at < length b.steps
    pub sound : l.ending ≡ None → IsSound u spot b bottom l.control

  -- the parent of a side that stands in this method waits at a par of the method, and is sound
  pub record IsParent (bottom outer : ℕ) (parent : Working) : Type 0 where
    pub waits : IsWaiting b parent
    pub same : bottom ≡ (spot parent.at).routine
    pub sound : IsSound u spot b outer parent

  -- pars that wait for a side that stands in this method, the innermost first: the sides that are kept aside are sound, and the left ones have ended
  abbrev pub AreKept : ℕ → List Waiting → Type 0
  AreKept bottom [] = Unit {0}
  AreKept bottom (ForLeft parent right ∷ ws) = (outer : ℕ) × IsParent bottom outer parent × IsSound u spot b bottom right × AreKept outer ws
  AreKept bottom (ForRight parent left ∷ ws) = (outer : ℕ) × IsParent bottom outer parent × IsSoundLeaf bottom left × ((f : Final) × EndsAs b left.control left.ending (Some f)) × AreKept outer ws

-- ---------- runs ----------
-- no method has more variables than a set of them holds
abbrev pub HasFewVariables : UnitCode → Type 0
HasFewVariables u = (m : ℕ) (r : Routine) → slice_get u.routines m ≡ Some r → length r.vars ≤ most_variables

-- a checked unit with an input, turns and a heap that holds the opening
pub record Opening : Type 0 where
  pub unit : UnitCode
  pub limit : ℕ
  pub input : List ℤ
  pub turns : ℕ
  pub first : Routine
  pub checked : IsChecked unit
  pub opens : OpensOnWords unit limit input first
  pub slim : HasFewVariables unit
  pub few : turns ≤ 2 ^ 40
  pub small : limit ≤ 4194304

-- a run by the bodies of the unit stands for what the word machine, left first, comes to from the opening
pub record IsComing (o : Opening) (b : Bodies) (r : Run) : Type 0 where
  pub bodies : AreBodiesOf o.unit b
  pub running : IsRunning o.unit o.limit o.input o.turns o.first (asides_of bodies.spot (reverse r.waiting.items)) (leaf_branch bodies.spot r.leaf) (cells_of r.heap.words)
  pub bottom : ℕ
  pub leaf : IsSoundLeaf o.unit bodies.spot b bottom r.leaf
  pub kept : AreKept o.unit bodies.spot b bottom (reverse r.waiting.items)
  pub same : r.heap.limit ≡ o.limit

-- it has come to the end of its root
pub record IsThrough (o : Opening) (b : Bodies) (r : Run) (f : Final) : Type 0 where
  pub coming : IsComing o b r
  pub alone : r.waiting.items ≡ []
  pub ends : EndsAs b r.leaf.control r.leaf.ending (Some f)

-- the machine comes to an allocation that the heap refuses
pub record Fills (o : Opening) : Type 0 where
  pub kept : List (Aside ℕ NoMark)
  pub branch : Branch
  pub cells : Cells
  pub running : IsRunning o.unit o.limit o.input o.turns o.first kept branch cells
  pub ask : Ask
  pub next : NextAsks o.unit branch ask
  pub refused : find (within o.limit) ask cells ≡ Refused

-- why a run gets no more words
abbrev pub IsShort : Opening → Shortage → Type 0
IsShort o shortages.NoMemory = Unit {0}
IsShort o shortages.HeapFull = Fills o

-- ---------- pars ----------
-- the branch stands at a par
pub record IsAtPar (b : Bodies) (c : Working) : Type 0 where
  pub step : Step
  pub here : slice_get b.steps c.at ≡ Some step
  pub first : ℕ
  pub second : ℕ
  pub place : ℕ
  pub par : step.action ≡ actions.Par first second place

-- a par is started: its left side runs, and its right one is kept aside
pub record Starts (b : Bodies) (old new : Run) : Type 0 where
  pub at : IsAtPar b old.leaf.control
  pub parent : Working
  pub right : Working
  pub parts : Parts at.first at.second old.leaf.control parent new.leaf.control right
  pub runs : new.leaf.ending ≡ None
  pub waits : new.waiting.items ≡ old.waiting.items ++ ForLeft parent right ∷ []
  pub heap : new.heap ≡ old.heap

-- the two sides of a par that waits for its right one may be joined, where that one has ended so
pub record CanJoin (b : Bodies) (parent : Working) (left right : leaves.Leaf) (right_end : Final) : Type 0 where
  pub here : left.control.at < length b.steps
  pub waits : IsWaiting b parent
  pub left_end : Final
  pub over : EndsAs b left.control left.ending (Some left_end)
  pub turns : left.control.turns + right.control.turns < 2 ^ 64
  pub few : length (locals parent) ≤ 256
  pub lefts : left_end ≡ finals.Fine → length (locals left.control) ≡ length (locals parent)
  pub rights : right_end ≡ finals.Fine → length (locals right.control) ≡ length (locals parent)

-- a par that waits may go on, where its side has ended so
abbrev pub CanGoOn : Bodies → leaves.Leaf → Final → Waiting → Type 0
CanGoOn b leaf f (ForLeft parent right) = Unit {0}
CanGoOn b leaf f (ForRight parent left) = CanJoin b parent left leaf f

-- a par goes on whose side has ended so: with the right side after the left one, and with the parent after the right one
abbrev pub GoesOn : Bodies → Final → Waiting → Run → Run → Type 0
GoesOn b f (ForLeft parent right) old new = (new.leaf ≡ record { control = right; ending = None }) × (new.waiting.items ≡ old.waiting.items ++ ForRight parent old.leaf ∷ []) × (new.heap ≡ old.heap)
GoesOn b f (ForRight parent left) old new =
    (x : Final) × EndsAs b left.control left.ending (Some x) × (joined : Working) × (ending : Option Ending) × Joins b left.control x old.leaf.control f parent joined ending
    × (new.leaf ≡ record { control = joined; ending = ending }) × (new.waiting.items ≡ old.waiting.items) × (new.heap ≡ old.heap)

-- ---------- what is left to do ----------
-- the turns that the sides have which are kept aside
abbrev pub turns_kept : List Waiting → ℕ
turns_kept [] = 0
turns_kept (ForLeft parent right ∷ ws) = right.turns + turns_kept ws
turns_kept (ForRight parent left ∷ ws) = left.control.turns + turns_kept ws

-- how often pars have still to go on
abbrev pub turnings : List Waiting → ℕ
turnings [] = 0
turnings (ForLeft parent right ∷ ws) = 2 + turnings ws
turnings (ForRight parent left ∷ ws) = 1 + turnings ws

-- what each turn and each going on of a par make less
abbrev pub weight : Run → ℕ
weight r = 3 * (r.leaf.control.turns + turns_kept r.waiting.items) + turnings r.waiting.items
