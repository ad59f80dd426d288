-- What is claimed of a step that returns: it asks nothing, and its turn makes of the branch what the machine's event makes of it.
use Rattle.std.proofs.Common.{◌≡◌, ◌∙◌, ℕ, suc, ◌+◌, ◌-◌, ◌≤◌, List, length, Option, Some, None, refl, sym, ap, subst, arith, inl, inr, drop, length-set}
use Rattle.std.specs.Prelude.{reverse, slice_get, slice_set}
use Rattle.std.proofs.lemmas.List.{drop-set-add, take-set-le}
use Rattle.perm_tree.specs.declared.bodies.Action.{Action}
use Rattle.perm_tree.specs.declared.bodies.Action.TheVariants as actions
use Rattle.perm_tree.specs.declared.bodies.Argument.{Argument}
use Rattle.perm_tree.specs.declared.bodies.Bodies.{Bodies}
use Rattle.perm_tree.specs.declared.bodies.Step.{Step}
use Rattle.perm_tree.specs.Code.{UnitCode}
use Rattle.perm_tree.specs.Links.{Spot, AreBodiesOf, IsDo, IsLinkedBy, StandsAt}
use Rattle.perm_meaning.specs.Effects.{Tick, depth_limit}
use Rattle.perm_meaning.specs.Machine.{Leaf}
use Rattle.perm_meaning.specs.WordHeap.{Ask}
use Rattle.perm_step.specs.declared.ask.Ask as interpreter
use Rattle.perm_step.specs.declared.control.Called.{Called}
use Rattle.perm_step.specs.declared.control.Leaf as leaves
use Rattle.perm_step.specs.declared.control.Stop.{Stop}
use Rattle.perm_step.specs.declared.control.Stop.TheVariants as stops
use Rattle.perm_step.specs.Events.{AreLong, HasVariables, IsSound, NextAsks, bottom_from}
use Rattle.perm_step.specs.HeapAsks.{Asks, IsAskFor}
use Rattle.perm_step.specs.LeafMoves.{ending_of, Proceeds, spent}
use Rattle.perm_step.specs.Standing.{branch_of, below_of, ended_as, opens_of, AreOpenCalls}
use Rattle.perm_step.specs.StepMoves.{with_into, Leaves, Stops}
use Rattle.perm_step.specs.Working.{Working, locals}
use Rattle.perm_step.proofs.Routines.CallSound.{bottom-fewer, calls-before}
use Rattle.perm_step.proofs.Routines.ReturnFollows.{IsBack, caller, opens-same, return-asks, return-ends, return-leads, return-traps, reversed}
use Rattle.perm_step.proofs.StepClaims.{running, IsDue, IsMade}

-- ---------- a caller that takes a word ----------
-- it has as many variables as before
into-length : (c : Working) (into : Option ℕ) (word : ℕ) → length (locals (with_into c into word)) ≡ length (locals c)
into-length c None word = refl
into-length c (Some x) word = ap (λ (l : List ℕ). length l) (drop-set-add c.base c.vars x word) ∙ length-set (drop c.base c.vars) x word

-- and its callers have theirs
into-callers : (u : UnitCode) (spot : ℕ → Spot) (c : Working) (into : Option ℕ) (word : ℕ) (cs : List Called) → AreLong u spot (opens_of c.base c.vars cs) → AreLong u spot (opens_of (with_into c into word).base (with_into c into word).vars cs)
into-callers u spot c None word cs are = are
into-callers u spot c (Some x) word cs are = subst (AreLong u spot) (opens-same c.base c.vars (slice_set c.vars (c.base + x) word) cs (sym (take-set-le c.base c.vars (c.base + x) word (omega arith)))) are

module _ (u : UnitCode) (b : Bodies) (w : AreBodiesOf u b) (m : ℕ) (c : Working) (s : Step) (a : Argument) (is : s.action ≡ actions.Return a) (due : IsDue u b w m c s) where
  -- the return stands at the spot of its step
  link : IsBack u b w c s.span s.next a
  link = subst (λ (a : Action). IsLinkedBy (λ q here. StandsAt w.spot b.steps q here) b u (w.spot c.at) s.span s.next a) is (w.linked c.at s due.here).0

  -- a turn is left
  turns : c.turns ≡ suc (c.turns - 1)
  turns = omega (arith, due.due)

  -- a return asks nothing of the heap
  pub return-asks-next : (q : interpreter.Ask) → Asks b (locals c) c.depth s.action q → (o : Ask) × NextAsks u (branch_of w.spot c) o × IsAskFor q o
  return-asks-next q asks =
      let asked = subst (λ (a : Action). Asks b (locals c) c.depth a q) is asks in
      (Tick, return-asks u b w c s.span s.next a link turns due.lively (below_of w.spot c) refl, subst (λ (x : interpreter.Ask). IsAskFor x Tick) (sym asked) refl)

  -- ---------- where it ends the branch ----------
  ended-by : (word : ℕ) (e : Stop) → Stops b s.next (spent c) (actions.Return a) e → IsMade u b w m c word (record { control = spent c; ending = Some (ending_of e s.span) })
  ended-by word (stops.Trap k) stop = record {
    makes = return-traps u b w c s.span s.next a link turns due.lively word k stop;
    sound = λ goes. let no : ⊥ = cc goes in absurd no;
  }
  ended-by word (stops.Returned found) stop = record {
    makes = return-ends u b w c s.span s.next a link turns due.lively word found stop.0 stop.1;
    sound = λ goes. let no : ⊥ = cc goes in absurd no;
  }

  -- ---------- where it leads to a caller ----------
  module _ (found : ℕ) (new : Working) (e : Leaves b found (spent c) new) where
    -- the call stands at the spot of the open call
    back : IsDo (λ q here. StandsAt w.spot b.steps q here) b u (w.spot e.last.place) e.step.span e.step.next (actions.Invoke e.call)
    back = subst (λ (a : Action). IsLinkedBy (λ q here. StandsAt w.spot b.steps q here) b u (w.spot e.last.place) e.step.span e.step.next a) e.invokes (w.linked e.last.place e.step e.there).0

    -- the caller, before it takes the word
    abbrev called_from : Working
    called_from = caller u b w c s.span s.next a link turns due.lively e.front e.last e.popped e.step.span e.step.next e.call back

    -- it and its callers have their variables
    long : HasVariables u w.spot e.last.place (length (locals called_from)) × AreLong u w.spot (opens_of called_from.base called_from.vars (reverse e.front))
    long =
        subst (λ (cs : List Called). AreLong u w.spot (opens_of c.base c.vars cs)) (reversed u b w c s.span s.next a link turns due.lively e.front e.last e.popped e.step.span e.step.next e.call back) due.sound.callers

    -- the branch behind the call is sound
    back-sound : IsSound u w.spot b m (record (with_into called_from e.call.into found) { at = e.step.next; calls = e.front; depth = c.depth - 1 })
    back-sound =
        let method = ap (λ (x : Spot). x.routine) back.after.1 in
        record {
          here = back.after.0;
          calls = calls-before b e.front e.last (subst (AreOpenCalls b) e.popped due.sound.calls);
          variables = record {
            routine = long.0.routine;
            there = ap (slice_get u.routines) method ∙ long.0.there;
            many = into-length called_from e.call.into found ∙ long.0.many;
          };
          callers = into-callers u w.spot called_from e.call.into found (reverse e.front) long.1;
          below = bottom-fewer u w.spot c.at e.step.next e.front e.last method ∙ subst (λ (cs : List Called). bottom_from u w.spot c.at cs ≡ m) e.popped due.sound.below;
          deep = let deep : c.depth - 1 ≤ depth_limit = omega (arith, due.sound.deep) in deep;
        }

  -- the turn of a return is made
  pub return-makes-next : (word : ℕ) (new : leaves.Leaf) → Proceeds b s word (running u b w c) new → IsMade u b w m c word new
  return-makes-next word new proceeds = by (subst (λ (a : Action). Proceeds b (record s { action = a }) word (running u b w c) new) is proceeds)
    where
      by : Proceeds b (record s { action = actions.Return a }) word (running u b w c) new → IsMade u b w m c word new
      by (inr (e, stop, after)) = subst (IsMade u b w m c word) (sym after) (ended-by word e stop)
      by (inl (goes, (found, gives, e))) =
          let leads = return-leads u b w c s.span s.next a link turns due.lively e.front e.last e.popped e.step.span e.step.next e.call (back found new.control e) word found gives in
          record {
            makes = leads ∙ (λ i. Leaf (ended_as (sym goes i) (branch_of w.spot (sym e.after i))));
            sound = λ _. subst (IsSound u w.spot b m) (sym e.after) (back-sound found new.control e);
          }
