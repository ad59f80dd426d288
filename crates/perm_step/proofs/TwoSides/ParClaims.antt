-- What is claimed of pars, of ended branches and of joins.
use Rattle.std.proofs.Common.{◌≡◌, ℕ, Some}
use Rattle.std.specs.Prelude.{◌-◌}
use Rattle.perm_tree.specs.declared.bodies.Action.TheVariants as actions
use Rattle.perm_tree.specs.declared.bodies.Bodies.{Bodies}
use Rattle.perm_tree.specs.declared.bodies.Step.{Step}
use Rattle.perm_tree.specs.declared.errors.TrapKind.{TrapKind}
use Rattle.perm_tree.specs.Code.{UnitCode}
use Rattle.perm_tree.specs.Links.{AreBodiesOf}
use Rattle.perm_meaning.specs.Effects.{Tick}
use Rattle.perm_meaning.specs.Machine.{Leaf}
use Rattle.perm_meaning.specs.WordHeap.{Ask as HeapAsk}
use Rattle.perm_step.specs.declared.ask.Ask.{Ask}
use Rattle.perm_step.specs.declared.control.Failure.TheVariants.{Trap}
use Rattle.perm_step.specs.Events.{NextAsks, NextMakes}
use Rattle.perm_step.specs.HeapAsks.{Asks, IsAskFor, TrapsFirst}
use Rattle.perm_step.specs.Standing.{branch_of, leaf_branch}
use Rattle.perm_step.specs.Working.{Working, locals}
use Rattle.perm_step.proofs.TwoSides.JoinEnds.{ended-as}
use Rattle.perm_step.proofs.TwoSides.JoinMade.{join-makes, join-sound}
use Rattle.perm_step.proofs.TwoSides.ParForms.{left-sound, par-asks-next, par-forks-next, par-traps-next, par-waits, parent-sound, right-sound}
use Rattle.perm_step.proofs.StepClaims.{EndsNext, ForksNext, IsDue, JoinsNext, failed}
use Rattle.perm_step.proofs.Tests.TestSteps.{one-more}

module _ (u : UnitCode) (b : Bodies) (w : AreBodiesOf u b) where
  -- what a par asks
  pub par-asked : (m : ℕ) (c : Working) (s : Step) (first second place : ℕ) (q : Ask) → IsDue u b w m c s → s.action ≡ actions.Par first second place → Asks b (locals c) c.depth s.action q → (o : HeapAsk) × NextAsks u (branch_of w.spot c) o × IsAskFor q o
  par-asked m c s first second place q due is asks = par-asks-next u b w c s due.here (c.turns - 1) (one-more c.turns due.due) first second place is q asks

  -- how it traps
  pub par-trapped : (m : ℕ) (c : Working) (s : Step) (first second place : ℕ) (k : TrapKind) → IsDue u b w m c s → s.action ≡ actions.Par first second place → TrapsFirst b (locals c) c.depth s.action k
      → NextAsks u (branch_of w.spot c) Tick × NextMakes u (branch_of w.spot c) (Some 0) (Leaf (leaf_branch w.spot (failed u b w c (Trap k s.span))))
  par-trapped m c s first second place k due is traps = par-traps-next u b w c s due.here (c.turns - 1) (one-more c.turns due.due) first second place is k traps

  -- a par starts
  pub forks-next : ForksNext u b w
  forks-next m c s first second place parent left right due is deep starts =
      let t = c.turns - 1 in
      let more = one-more c.turns due.due in
      let forks = par-forks-next u b w c s due.here t more first second place is parent left right deep starts in
      record {
        asks = forks.0;
        makes = forks.1;
        waits = par-waits u b w c s due.here t more first second place is parent left right deep starts;
        parent_sound = parent-sound u b w c s due.here t more first second place is parent left right deep starts m due.sound;
        left_sound = left-sound u b w c s due.here t more first second place is parent left right deep starts m due.sound;
        right_sound = right-sound u b w c s due.here t more first second place is parent left right deep starts m due.sound;
      }

  -- two sides are joined
  pub joins-next : JoinsNext u b w
  joins-next m old left right new x y ending p sound lefts rights few by = (join-makes u b w m old left right new ending sound p x y lefts rights few by, join-sound u b w m old left right new ending sound p x y lefts rights by)

  -- a branch has ended so
  pub ends-next : EndsNext u b w
  ends-next m c ending r sound ends = ended-as u b w c m ending r sound ends
