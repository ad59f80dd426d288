-- The claims of the steps of a running branch, for simple statements that are no calls.
use Rattle.std.proofs.Common.{◌≡◌, ℕ, suc, ◌-◌, Some, arith}
use Rattle.perm_tree.specs.declared.bodies.Bodies.{Bodies}
use Rattle.perm_tree.specs.declared.bodies.Step.{Step}
use Rattle.perm_tree.specs.declared.errors.TrapKind.{TrapKind}
use Rattle.perm_tree.specs.BodyTerms.{IsActionIn}
use Rattle.perm_tree.specs.Code.{UnitCode}
use Rattle.perm_tree.specs.Links.{AreBodiesOf, StandsAt}
use Rattle.perm_meaning.specs.Effects.{Tick}
use Rattle.perm_meaning.specs.Machine.{Leaf}
use Rattle.perm_meaning.specs.WordHeap as machines
use Rattle.perm_step.specs.declared.ask.Ask.{Ask}
use Rattle.perm_step.specs.declared.control.Failure.TheVariants as failures
use Rattle.perm_step.specs.declared.control.Leaf as leaves
use Rattle.perm_step.specs.Events.{NextAsks, NextMakes}
use Rattle.perm_step.specs.HeapAsks.{Asks, IsAskFor, TrapsFirst}
use Rattle.perm_step.specs.LeafMoves.{Proceeds}
use Rattle.perm_step.specs.Standing.{branch_of, leaf_branch}
use Rattle.perm_step.specs.Working.{Working, locals}
use Rattle.perm_step.proofs.SimpleStatements.SimpleForms.{IsPlain}
use Rattle.perm_step.proofs.SimpleStatements.SimpleTurns.{Linked, link-plain, plain-asks, plain-makes, plain-sound, plain-traps}
use Rattle.perm_step.proofs.StepClaims.{failed, running, IsDue, IsMade}

module _ (u : UnitCode) (b : Bodies) (w : AreBodiesOf u b) (m : ℕ) (c : Working) (s : Step) (d : IsDue u b w m c s) (plain : IsPlain s.action) where
  left : c.turns ≡ suc (c.turns - 1)
  left = omega (arith, d.due)

  linked : Linked u b w.spot c (c.turns - 1) left s
  linked = link-plain (λ q here. StandsAt w.spot b.steps q here) b u (w.spot c.at) s.span s.next s.action plain (w.linked c.at s d.here).0

  inside : IsActionIn b u s.action
  inside = (w.linked c.at s d.here).1

  -- what the step asks is what the machine's next event asks
  pub plain-asks-next : (q : Ask) → Asks b (locals c) c.depth s.action q → (o : machines.Ask) × NextAsks u (branch_of w.spot c) o × IsAskFor q o
  plain-asks-next q asked = plain-asks u b w.spot c (c.turns - 1) left s linked plain inside q d.lively asked

  -- where it traps before it asks the heap, the event ends the branch
  pub plain-traps-next : (k : TrapKind) → TrapsFirst b (locals c) c.depth s.action k
      → NextAsks u (branch_of w.spot c) Tick × NextMakes u (branch_of w.spot c) (Some 0) (Leaf (leaf_branch w.spot (failed u b w c (failures.Trap k s.span))))
  plain-traps-next k traps = plain-traps u b w.spot c (c.turns - 1) left s linked plain inside k d.lively traps

  -- told a word, the event makes of the branch what the step makes of it
  pub plain-makes-next : (q : Ask) (v : ℕ) (new : leaves.Leaf) → Asks b (locals c) c.depth s.action q → Proceeds b s v (running u b w c) new → IsMade u b w m c v new
  plain-makes-next q v new asked goes = record {
    makes = plain-makes u b w.spot c (c.turns - 1) left s linked plain inside q v new d.lively asked goes;
    sound = plain-sound u b w.spot c (c.turns - 1) left s linked plain inside m v new d.sound goes;
  }
