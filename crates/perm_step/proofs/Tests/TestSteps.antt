-- A step of a known form: what stands at its place, and what comes of the branch.
use Rattle.std.proofs.Common.{◌≡◌, ℕ, suc, ◌<◌, arith, true, false, Some, None, refl, sym, ap, subst, inl, inr}
use Rattle.std.specs.Prelude.{◌-◌, ◌⊎◌, cond, nat_eq, slice_get}
use Rattle.perm_tree.specs.declared.bodies.Action.{Action}
use Rattle.perm_tree.specs.declared.bodies.Bodies.{Bodies}
use Rattle.perm_tree.specs.declared.bodies.Step.{Step}
use Rattle.perm_tree.specs.Code.{UnitCode}
use Rattle.perm_tree.specs.Links.{AreBodiesOf, IsLinkedBy, StandsAt}
use Rattle.perm_meaning.specs.Effects.{Tick}
use Rattle.perm_meaning.specs.WordHeap.{Ask as HeapAsk}
use Rattle.perm_step.specs.declared.ask.Ask.{Ask}
use Rattle.perm_step.specs.declared.ask.Ask.TheVariants as asks
use Rattle.perm_step.specs.declared.control.Leaf.{Leaf}
use Rattle.perm_step.specs.declared.control.Stop.{Stop}
use Rattle.perm_step.specs.Events.{NextAsks}
use Rattle.perm_step.specs.HeapAsks.{IsAskFor}
use Rattle.perm_step.specs.LeafMoves.{Proceeds, ending_of, spent}
use Rattle.perm_step.specs.Standing.{branch_of}
use Rattle.perm_step.specs.StepMoves.{Moves, Stops, way}
use Rattle.perm_step.specs.Working.{Working}
use Rattle.perm_step.proofs.Tests.TestSound.{no-ending}

-- the place to which a true test leads
pub way-first : (word first other : ℕ) → nat_eq word 0 ≡ false → way word first other ≡ first
way-first word first other is = ap (λ d. cond d other first) is

-- that of a false one
pub way-other : (word first other : ℕ) → nat_eq word 0 ≡ true → way word first other ≡ other
way-other word first other is = ap (λ d. cond d other first) is

-- where a turn is left, there are so many more after it
pub one-more : (turns : ℕ) → 0 < turns → turns ≡ suc (turns - 1)
one-more turns some = omega arith

module _ (u : UnitCode) (b : Bodies) (w : AreBodiesOf u b) (c : Working) (s : Step) (there : slice_get b.steps c.at ≡ Some s) where
  -- what stands at the place, if the action is this
  abbrev pub LinkOf : Action → Type 0
  LinkOf a = IsLinkedBy (λ q here. StandsAt w.spot b.steps q here) b u (w.spot c.at) s.span s.next a

  -- it is what the step says
  pub link-of : (a : Action) → s.action ≡ a → LinkOf a
  link-of a is = subst LinkOf is (w.linked c.at s there).0

  -- what comes of the branch by this action
  abbrev pub ComesTo : Action → ℕ → Leaf → Type 0
  ComesTo a v new =
      ((new.ending ≡ None) × Moves b s.next (spent c) a v new.control)
      ⊎ ((e : Stop) × Stops b s.next (spent c) a e × (new ≡ record { control = spent c; ending = Some (ending_of e s.span) }))

  -- what comes of the branch by the step
  pub comes-to : (a : Action) → s.action ≡ a → (v : ℕ) (new : Leaf) → Proceeds b s v (record { control = c; ending = None }) new → ComesTo a v new
  comes-to a is v new comes = subst (λ a. ComesTo a v new) is comes

  -- a branch that goes on has moved
  pub has-moved : (a : Action) (v : ℕ) (new : Leaf) → ComesTo a v new → new.ending ≡ None → Moves b s.next (spent c) a v new.control
  has-moved a v new (inl (on, moves)) runs = moves
  has-moved a v new (inr (e, stops, is)) runs = absurd (no-ending new (spent c) (ending_of e s.span) is runs)

  -- a step that asks nothing asks the machine nothing
  pub asks-nothing : (q : Ask) → q ≡ asks.Nothing → NextAsks u (branch_of w.spot c) Tick → (o : HeapAsk) × NextAsks u (branch_of w.spot c) o × IsAskFor q o
  asks-nothing q is next = (Tick, next, subst (λ (q : Ask). IsAskFor q Tick) (sym is) refl)
