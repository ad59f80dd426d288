-- What is claimed of the steps of a running branch, for all actions together: they are events of the word machine.
use Rattle.std.proofs.Common.{◌≡◌, ℕ, ◌<◌, ◌≤◌, length, Option, Some, None}
use Rattle.std.specs.Prelude.{slice_get}
use Rattle.perm_tree.specs.declared.bodies.Action.TheVariants as actions
use Rattle.perm_tree.specs.declared.bodies.Bodies.{Bodies}
use Rattle.perm_tree.specs.declared.bodies.Step.{Step}
use Rattle.perm_tree.specs.declared.errors.TrapKind.{TrapKind}
use Rattle.perm_tree.specs.Code.{UnitCode}
use Rattle.perm_tree.specs.Links.{AreBodiesOf}
use Rattle.perm_meaning.specs.Effects.{Tick, depth_limit}
use Rattle.perm_meaning.specs.Machine.{Leaf, Fork}
use Rattle.perm_meaning.specs.WordHeap.{Ask}
use Rattle.perm_step.specs.declared.ask.Ask as interpreter
use Rattle.perm_step.specs.declared.control.Ending.{Ending}
use Rattle.perm_step.specs.declared.control.Ending.TheVariants as endings
use Rattle.perm_step.specs.declared.control.Failure.{Failure}
use Rattle.perm_step.specs.declared.control.Failure.TheVariants as failures
use Rattle.perm_step.specs.declared.control.Leaf as leaves
use Rattle.perm_step.specs.declared.pars.Final.{Final}
use Rattle.perm_step.specs.declared.pars.Final.TheVariants as finals
use Rattle.perm_step.specs.Events.{IsSound, IsLively, NextAsks, NextMakes, HasEnded, JoinMakes}
use Rattle.perm_step.specs.HeapAsks.{Asks, TrapsFirst, IsAskFor}
use Rattle.perm_step.specs.LeafMoves.{Proceeds, spent}
use Rattle.perm_step.specs.ParMoves.{EndsAs, IsWaiting, JoinsBy, Parts}
use Rattle.perm_step.specs.Standing.{branch_of, leaf_branch, parent_branch, blocks_of}
use Rattle.perm_step.specs.StepMoves.{IsCallable, Leads}
use Rattle.perm_step.specs.Working.{Working, locals}

module _ (u : UnitCode) (b : Bodies) (w : AreBodiesOf u b) where
  -- a sound branch that runs, with the step that comes next, and a turn left for it
  pub record IsDue (m : ℕ) (c : Working) (s : Step) : Type 0 where
    pub sound : IsSound u w.spot b m c
    pub here : slice_get b.steps c.at ≡ Some s
    pub due : 0 < c.turns
    pub lively : IsLively u (branch_of w.spot c)

  -- a branch that runs
  abbrev pub running : Working → leaves.Leaf
  running c = record { control = c; ending = None }

  -- a branch that has failed so in a turn
  abbrev pub failed : Working → Failure → leaves.Leaf
  failed c e = record { control = spent c; ending = Some (endings.Failed e) }

  -- what a step asks is what the machine's next event asks
  abbrev pub AsksNext : Type 0
  AsksNext = (m : ℕ) (c : Working) (s : Step) (q : interpreter.Ask) → IsDue m c s → Asks b (locals c) c.depth s.action q → (o : Ask) × NextAsks u (branch_of w.spot c) o × IsAskFor q o

  -- the machine's next event asks nothing, and the branch traps
  abbrev pub TrapsTo : Working → Step → TrapKind → Type 0
  TrapsTo c s k = NextAsks u (branch_of w.spot c) Tick × NextMakes u (branch_of w.spot c) (Some 0) (Leaf (leaf_branch w.spot (failed c (failures.Trap k s.span))))

  -- a step that traps before it asks the heap
  abbrev pub TrapsNext : Type 0
  TrapsNext = (m : ℕ) (c : Working) (s : Step) (k : TrapKind) → IsDue m c s → TrapsFirst b (locals c) c.depth s.action k → TrapsTo c s k

  -- the machine's event makes this of the branch, which is sound where it goes on
  pub record IsMade (m : ℕ) (c : Working) (v : ℕ) (new : leaves.Leaf) : Type 0 where
    pub makes : NextMakes u (branch_of w.spot c) (Some v) (Leaf (leaf_branch w.spot new))
    pub sound : new.ending ≡ None → IsSound u w.spot b m new.control

  -- a step that is told a word makes of the branch what the machine's event makes of it
  abbrev pub MakesNext : Type 0
  MakesNext = (m : ℕ) (c : Working) (s : Step) (q : interpreter.Ask) (v : ℕ) (new : leaves.Leaf) → IsDue m c s → Leads s.action → Asks b (locals c) c.depth s.action q → Proceeds b s v (running c) new
      → IsMade m c v new

  -- a call's method is there
  abbrev pub CallableNext : Type 0
  CallableNext = (m : ℕ) (c : Working) (s : Step) → IsDue m c s → IsCallable b s.action c

  -- the machine's event starts a par, whose sides and parent are sound
  pub record IsForked (m : ℕ) (c parent left right : Working) : Type 0 where
    pub asks : NextAsks u (branch_of w.spot c) Tick
    pub makes : NextMakes u (branch_of w.spot c) (Some 0) (Fork (parent_branch w.spot parent) (blocks_of (w.spot c.at).code) (Leaf (branch_of w.spot left)) (Leaf (branch_of w.spot right)))
    pub waits : IsWaiting b parent
    pub parent_sound : IsSound u w.spot b m parent
    pub left_sound : IsSound u w.spot b (w.spot c.at).routine left
    pub right_sound : IsSound u w.spot b (w.spot c.at).routine right

  -- a par starts
  abbrev pub ForksNext : Type 0
  ForksNext = (m : ℕ) (c : Working) (s : Step) (first second place : ℕ) (parent left right : Working) → IsDue m c s → s.action ≡ actions.Par first second place → c.depth < depth_limit → Parts first second c parent left right
      → IsForked m c parent left right

  -- two sides are joined
  abbrev pub JoinsNext : Type 0
  JoinsNext = (m : ℕ) (old left right new : Working) (x y : Final) (ending : Option Ending) (p : IsWaiting b old) → IsSound u w.spot b m old
      → (x ≡ finals.Fine → length (locals left) ≡ length (locals old)) → (y ≡ finals.Fine → length (locals right) ≡ length (locals old)) → length (locals old) ≤ 256 → JoinsBy p.step.next p.sides left right old new x y ending
      → JoinMakes u w.spot old left x right y (Leaf (leaf_branch w.spot (record { control = new; ending = ending }))) × (ending ≡ None → IsSound u w.spot b m new)

  -- a branch has ended so
  abbrev pub EndsNext : Type 0
  EndsNext = (m : ℕ) (c : Working) (ending : Option Ending) (r : Option Final) → (ending ≡ None → IsSound u w.spot b m c) → EndsAs b c ending r → HasEnded u w.spot (record { control = c; ending = ending }) r

  -- all of this
  pub record StepClaims : Type 0 where
    pub asks : AsksNext
    pub traps : TrapsNext
    pub makes : MakesNext
    pub callable : CallableNext
    pub forks : ForksNext
    pub joins : JoinsNext
    pub ends : EndsNext
