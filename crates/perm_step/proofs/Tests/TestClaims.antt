-- What is claimed of tests and of recover blocks.
use Rattle.std.proofs.Common.{◌≡◌, ℕ}
use Rattle.std.specs.Prelude.{◌-◌}
use Rattle.perm_tree.specs.declared.bodies.Action.TheVariants as actions
use Rattle.perm_tree.specs.declared.bodies.Bodies.{Bodies}
use Rattle.perm_tree.specs.declared.bodies.Expression.{Expression}
use Rattle.perm_tree.specs.declared.bodies.Step.{Step}
use Rattle.perm_tree.specs.Code.{UnitCode}
use Rattle.perm_tree.specs.Links.{AreBodiesOf}
use Rattle.perm_meaning.specs.WordHeap.{Ask as HeapAsk}
use Rattle.perm_step.specs.declared.ask.Ask.{Ask}
use Rattle.perm_step.specs.declared.control.Leaf.{Leaf}
use Rattle.perm_step.specs.Events.{NextAsks}
use Rattle.perm_step.specs.HeapAsks.{Asks, IsAskFor}
use Rattle.perm_step.specs.LeafMoves.{Proceeds}
use Rattle.perm_step.specs.Standing.{branch_of}
use Rattle.perm_step.specs.Working.{Working, locals}
use Rattle.perm_step.proofs.Tests.RecoverForms.{give-asks-next, give-keeps-sound, give-makes-next, recover-asks-next, recover-keeps-sound, recover-makes-next}
use Rattle.perm_step.proofs.StepClaims.{IsDue, IsMade, running}
use Rattle.perm_step.proofs.Tests.TestForms.{if-asks-next, if-keeps-sound, if-makes-next, while-asks-next, while-keeps-sound, while-makes-next}
use Rattle.perm_step.proofs.Tests.TestSteps.{one-more}

module _ (u : UnitCode) (b : Bodies) (w : AreBodiesOf u b) (m : ℕ) (c : Working) (s : Step) (due : IsDue u b w m c s) where
  -- what the machine is asked, as the step asks it
  abbrev pub IsAsked : Ask → Type 0
  IsAsked q = (o : HeapAsk) × NextAsks u (branch_of w.spot c) o × IsAskFor q o

  -- ---------- tests ----------
  -- what an `if` asks
  pub if-asked : (e : Expression) (other : ℕ) (q : Ask) → s.action ≡ actions.If e other → Asks b (locals c) c.depth s.action q → IsAsked q
  if-asked e other q is asks = if-asks-next u b w c s due.here (c.turns - 1) (one-more c.turns due.due) due.lively e other is q asks

  -- what it makes of the branch
  pub if-made : (e : Expression) (other v : ℕ) (new : Leaf) → s.action ≡ actions.If e other → Proceeds b s v (running u b w c) new → IsMade u b w m c v new
  if-made e other v new is comes = record {
    makes = if-makes-next u b w c s due.here (c.turns - 1) (one-more c.turns due.due) due.lively e other is v new comes;
    sound = λ runs. if-keeps-sound u b w c s due.here m v new due.sound runs e other is comes;
  }

  -- what a `while` asks
  pub while-asked : (e : Expression) (first : ℕ) (q : Ask) → s.action ≡ actions.While e first → Asks b (locals c) c.depth s.action q → IsAsked q
  while-asked e first q is asks = while-asks-next u b w c s due.here (c.turns - 1) (one-more c.turns due.due) due.lively e first is q asks

  -- what it makes of the branch
  pub while-made : (e : Expression) (first v : ℕ) (new : Leaf) → s.action ≡ actions.While e first → Proceeds b s v (running u b w c) new → IsMade u b w m c v new
  while-made e first v new is comes = record {
    makes = while-makes-next u b w c s due.here (c.turns - 1) (one-more c.turns due.due) due.lively e first is v new comes;
    sound = λ runs. while-keeps-sound u b w c s due.here m v new due.sound runs e first is comes;
  }

  -- ---------- recover blocks ----------
  -- what the begin of a recover block asks
  pub recover-asked : (q : Ask) → s.action ≡ actions.Recover → Asks b (locals c) c.depth s.action q → IsAsked q
  recover-asked q is asks = recover-asks-next u b w c s due.here (c.turns - 1) (one-more c.turns due.due) is q asks

  -- what it makes of the branch
  pub recover-made : (v : ℕ) (new : Leaf) → s.action ≡ actions.Recover → Proceeds b s v (running u b w c) new → IsMade u b w m c v new
  recover-made v new is comes = record {
    makes = recover-makes-next u b w c s due.here (c.turns - 1) (one-more c.turns due.due) is v new comes;
    sound = λ runs. recover-keeps-sound u b w c s due.here m v new due.sound runs is comes;
  }

  -- what the end of a recover block asks
  pub give-asked : (y x : ℕ) (q : Ask) → s.action ≡ actions.Give y x → Asks b (locals c) c.depth s.action q → IsAsked q
  give-asked y x q is asks = give-asks-next u b w c s due.here (c.turns - 1) (one-more c.turns due.due) due.lively y x is q asks

  -- what it makes of the branch
  pub give-made : (y x v : ℕ) (new : Leaf) → s.action ≡ actions.Give y x → Proceeds b s v (running u b w c) new → IsMade u b w m c v new
  give-made y x v new is comes = record {
    makes = give-makes-next u b w c s due.here (c.turns - 1) (one-more c.turns due.due) due.lively y x is v new comes;
    sound = λ runs. give-keeps-sound u b w c s due.here m v new due.sound runs y x is comes;
  }
