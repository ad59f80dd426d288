-- The stem that a control stack means: its branch, with the waiting parents from which left sides alone lead to it.
use Rattle.std.specs.Prelude.{◌≡◌, ℕ, ◌+◌, Bool, true, false, List, [], ◌∷◌, reverse, slice_get, None, Some}
use Rattle.perm_tree.specs.declared.ast.Shape.{Shape}
use Rattle.perm_tree.specs.declared.bodies.Bodies.{Bodies}
use Rattle.perm_tree.specs.declared.bodies.Step.{Step}
use Rattle.perm_tree.specs.Code.{UnitCode}
use Rattle.perm_tree.specs.Links.{Spot, AreBodiesOf}
use Rattle.perm_meaning.specs.Effects.{Tick, Load, Store, Take, Make}
use Rattle.perm_meaning.specs.Machine as machines
use Rattle.perm_meaning.specs.Machine.{Leaf, Fork, Blocks, over, stage}
use Rattle.perm_meaning.specs.Objects.{size}
use Rattle.perm_meaning.specs.WordHeap.{Branch, NoMark}
use Rattle.perm_core.specs.Pieces as pieces
use Rattle.perm_core.specs.Pieces.{Foot, AtRoot, OnRightSide, without_number}
use Rattle.perm_step.specs.declared.ask.Ask as interpreter
use Rattle.perm_step.specs.declared.ask.Ask.TheVariants as asks
use Rattle.perm_step.specs.declared.control.Leaf as leaves
use Rattle.perm_step.specs.declared.ctl.Op.{Op}
use Rattle.perm_step.specs.declared.ctl.Op.TheVariants as ops
use Rattle.perm_step.specs.Events.{IsLively, NextAsks, NextMakes}
use Rattle.perm_step.specs.Rooms.{HasRoomForStep}
use Rattle.perm_step.specs.Runs.{IsParent, IsSoundLeaf}
use Rattle.perm_step.specs.Standing.{blocks_of, leaf_branch, parent_branch}
use Rattle.perm_step.specs.Working.{Working}

-- the stem of a branch on words
abbrev pub Stem : Type 0
Stem = pieces.Stem ℕ NoMark

-- a waiting parent on words
abbrev pub Parent : Type 0
Parent = pieces.Parent ℕ NoMark

-- the bodies of the unit, the branch that runs or has ended, the parents that wait with the innermost last, and whether it all stands on a right side
pub record Stack : Type 0 where
  pub bodies : Bodies
  pub leaf : leaves.Leaf
  pub parents : List Working
  pub on_right : Bool

-- where a stem ends; no number is told
abbrev pub foot_of : Bool → Foot
foot_of true = OnRightSide None
foot_of false = AtRoot

-- a parent that waits, by its spot
abbrev pub parent_of : (ℕ → Spot) → Working → Parent
parent_of spot p = without_number (parent_branch spot p) (blocks_of (spot p.at).code)

-- the same of each of a list
abbrev pub parents_of : (ℕ → Spot) → List Working → List Parent
parents_of spot [] = []
parents_of spot (p ∷ ps) = parent_of spot p ∷ parents_of spot ps

-- the stem of a control stack
abbrev pub stem_of : (ℕ → Spot) → Stack → Stem
stem_of spot k = record { leaf = leaf_branch spot k.leaf; parents = parents_of spot (reverse k.parents); foot = foot_of k.on_right }

-- parents, the innermost first, of a side that stands in this method
abbrev pub AreParents : (u : UnitCode) (spot : ℕ → Spot) (b : Bodies) → ℕ → List Working → Type 0
AreParents u spot b bottom [] = Unit {0}
AreParents u spot b bottom (p ∷ ps) = (outer : ℕ) × IsParent u spot b bottom outer p × AreParents u spot b outer ps

-- a control stack by the bodies of a unit means a stem
pub record Means (u : UnitCode) (k : Stack) (s : Stem) : Type 0 where
  pub bodies : AreBodiesOf u k.bodies
  pub bottom : ℕ
  pub leaf : IsSoundLeaf u bodies.spot k.bodies bottom k.leaf
  pub parents : AreParents u bodies.spot k.bodies bottom (reverse k.parents)
  pub stem : s ≡ stem_of bodies.spot k

-- no parent waits for the stack
pub record IsRootStack (k : Stack) : Type 0 where
  pub parents : k.parents ≡ []
  pub left : k.on_right ≡ false

-- what a step asks, as it is told outside
abbrev pub op_for : interpreter.Ask → Op
op_for asks.Nothing = ops.Tick
op_for asks.Fork = ops.Par
op_for (asks.Load at) = ops.Load at
op_for (asks.Store at w) = ops.Store at w
op_for (asks.Take at) = ops.Take at
op_for (asks.Make count len) = ops.Alloc (size count)

-- there is room for the next step
abbrev pub HasRoom : Stack → Type 0
HasRoom k = (s : Step) → slice_get k.bodies.steps k.leaf.control.at ≡ Some s → HasRoomForStep k.bodies s.action k.leaf.control

-- a step of the branch is due
abbrev pub HasStep : Stem → Type 0
HasStep s = over (stage s.leaf) ≡ None

-- the branch has ended so
abbrev pub IsOver : Stem → machines.Final ℕ → Type 0
IsOver s f = over (stage s.leaf) ≡ Some f

-- the stem is a root's, with no parent
pub record IsRoot (s : Stem) : Type 0 where
  pub parents : s.parents ≡ []
  pub foot : s.foot ≡ AtRoot

module _ (u : UnitCode) where
  -- no step that is due is stuck
  abbrev pub IsUnstuck : Stem → Type 0
  IsUnstuck s = HasStep s → IsLively u s.leaf

  -- the next event starts a par
  pub record StartsPar (s : Stem) : Type 0 where
    pub parent : Branch
    pub blocks : Blocks
    pub left : Branch
    pub right : Branch
    pub asks : NextAsks u s.leaf Tick
    pub makes : NextMakes u s.leaf (Some 0) (Fork parent blocks (Leaf left) (Leaf right))

  -- it asks nothing of the heap, and leaves a branch
  pub record Ticks (s : Stem) : Type 0 where
    pub after : Branch
    pub asks : NextAsks u s.leaf Tick
    pub makes : NextMakes u s.leaf (Some 0) (Leaf after)

  -- what is next of a stem
  abbrev pub IsNext : Stem → Op → Type 0
  IsNext s ops.Tick = Ticks s
  IsNext s (ops.Load at) = (base : ℕ) × (f : ℕ) × NextAsks u s.leaf (Load base f) × (at ≡ base + f)
  IsNext s (ops.Store at w) = (base : ℕ) × (f : ℕ) × NextAsks u s.leaf (Store base f w) × (at ≡ base + f)
  IsNext s (ops.Take at) = (base : ℕ) × (f : ℕ) × NextAsks u s.leaf (Take base f) × (at ≡ base + f)
  IsNext s (ops.Alloc words) = (shape : Shape) × (count : ℕ) × NextAsks u s.leaf (Make tt shape count) × (words ≡ size count)
  IsNext s ops.Par = StartsPar s
  IsNext s ops.BranchEnd = ((f : machines.Final ℕ) × IsOver s f) × (IsRoot s → ⊥)
  IsNext s ops.Ended = ((f : machines.Final ℕ) × IsOver s f) × IsRoot s

  -- the stack means a stem that is not stuck
  pub record IsReady (k : Stack) (s : Stem) : Type 0 where
    pub means : Means u k s
    pub unstuck : IsUnstuck s
