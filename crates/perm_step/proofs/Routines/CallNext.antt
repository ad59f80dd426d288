-- What is claimed of a step that calls: it asks nothing, its method is there, and its turn makes of the branch what the machine's event makes of it.
use Rattle.std.proofs.Common.{◌≡◌, ◌∙◌, ℕ, suc, ◌+◌, ◌-◌, ◌≤◌, List, ◌∷◌, ◌++◌, length, replicate, Some, refl, sym, ap, subst, arith, inl, inr}
use Rattle.std.specs.Prelude.{slice_get}
use Rattle.std.proofs.Math.Seq.{drop-append_seam}
use Rattle.perm_tree.specs.declared.bodies.Action.{Action}
use Rattle.perm_tree.specs.declared.bodies.Action.TheVariants as actions
use Rattle.perm_tree.specs.declared.bodies.Bodies.{Bodies}
use Rattle.perm_tree.specs.declared.bodies.Invocation.{Invocation}
use Rattle.perm_tree.specs.declared.bodies.Step.{Step}
use Rattle.perm_tree.specs.Code.{UnitCode}
use Rattle.perm_tree.specs.Links.{Spot, AreBodiesOf, IsLinkedBy, StandsAt}
use Rattle.perm_meaning.specs.Effects.{Tick, depth_limit}
use Rattle.perm_meaning.specs.Machine.{Leaf}
use Rattle.perm_meaning.specs.WordHeap.{Ask}
use Rattle.perm_core.specs.Whole.{IsWhole}
use Rattle.perm_step.specs.declared.ask.Ask as interpreter
use Rattle.perm_step.specs.declared.control.Leaf as leaves
use Rattle.perm_step.specs.declared.control.Stop.{Stop}
use Rattle.perm_step.specs.declared.control.Stop.TheVariants as stops
use Rattle.perm_step.specs.Events.{IsSound, NextAsks}
use Rattle.perm_step.specs.HeapAsks.{Asks, IsAskFor}
use Rattle.perm_step.specs.LeafMoves.{ending_of, Proceeds, spent}
use Rattle.perm_step.specs.Standing.{branch_of, ended_as, leaf_branch}
use Rattle.perm_step.specs.StepMoves.{Enters, HasMethod, IsCallable, Stops}
use Rattle.perm_step.specs.Working.{Working, locals}
use Rattle.perm_step.proofs.Routines.CallFollows.{IsCall, call-callable, call-ends, call-enters, call-ticks, call-traps, called-method, inside}
use Rattle.perm_step.proofs.Routines.CallSound.{bottom-more, callers-more, filled-length, one-more-call}
use Rattle.perm_step.proofs.StepClaims.{running, IsDue, IsMade}

module _ (u : UnitCode) (b : Bodies) (w : AreBodiesOf u b) (m : ℕ) (c : Working) (s : Step) (v : Invocation) (is : s.action ≡ actions.Invoke v) (due : IsDue u b w m c s) where
  -- the call stands at the spot of its step
  link : IsCall u b w c s.span s.next v
  link = subst (λ (a : Action). IsLinkedBy (λ q here. StandsAt w.spot b.steps q here) b u (w.spot c.at) s.span s.next a) is (w.linked c.at s due.here).0

  -- a turn is left
  turns : c.turns ≡ suc (c.turns - 1)
  turns = omega (arith, due.due)

  -- a call asks nothing of the heap
  pub call-asks-next : (q : interpreter.Ask) → Asks b (locals c) c.depth s.action q → (o : Ask) × NextAsks u (branch_of w.spot c) o × IsAskFor q o
  call-asks-next q asks =
      let asked = subst (λ (a : Action). Asks b (locals c) c.depth a q) is asks in
      (Tick, call-ticks u b w c s.span s.next v link turns due.lively, subst (λ (x : interpreter.Ask). IsAskFor x Tick) (sym asked) refl)

  -- the method of a call is there
  pub call-callable-next : IsCallable b s.action c
  call-callable-next = subst (λ (a : Action). IsCallable b a c) (sym is) (let there : HasMethod b v c = call-callable u b w c s.span s.next v link turns due.lively in there)

  -- ---------- where the call traps ----------
  -- the branch ends, as the machine's does
  call-stops : (word : ℕ) (new : leaves.Leaf) (e : Stop) → Stops b s.next (spent c) (actions.Invoke v) e → new ≡ record { control = spent c; ending = Some (ending_of e s.span) } → IsMade u b w m c word new
  call-stops word new (stops.Returned x) stop after = absurd stop
  call-stops word new (stops.Trap k) stop after =
      let traps = call-traps u b w c s.span s.next v link turns due.lively k stop in
      let ends = call-ends u b w c s.span s.next v link turns due.lively word k traps in
      record {
        makes = ends ∙ ap (λ (l : leaves.Leaf). Leaf (leaf_branch w.spot l)) (sym after);
        sound = λ goes. let no : ⊥ = cc (ap (λ (l : leaves.Leaf). l.ending) after, goes) in absurd no;
      }

  -- ---------- where it goes on ----------
  module _ (whole : IsWhole u) (new : Working) (e : Enters b v (spent c) new) where
    -- the branch in the method is sound
    inside-sound : IsSound u w.spot b m (inside u b w c s.span s.next v link turns due.lively new e)
    inside-sound =
        let method = (called-method u b w c s.span s.next v link turns due.lively new e).0 in
        let enter = w.first v.routine e.entry method.routine e.there method.there in
        let count = w.variables v.routine e.entry method.routine e.there method.there in
        let at_method = ap (λ (x : Spot). x.routine) enter.1 in
        let added : List ℕ = e.this ∷ (e.found ++ replicate (e.entry.variables - (1 + length e.found)) 0) in
        record {
          here = enter.0;
          calls = one-more-call b c.calls (record { place = c.at; base = c.base }) due.sound.calls (record { step = s; there = due.here; call = v; invokes = is });
          variables = record {
            routine = method.routine;
            there = ap (slice_get u.routines) at_method ∙ method.there;
            many = ap (λ (l : List ℕ). length l) (drop-append_seam c.vars added) ∙ filled-length u whole v.routine method.routine method.there e.this e.found method.count e.entry.variables count;
          };
          callers = callers-more u w.spot c.at c.base c.calls c.vars added due.sound.variables due.sound.callers;
          below = bottom-more u w.spot c.at e.entry.first c.base c.calls ∙ due.sound.below;
          deep = let deep : suc c.depth ≤ depth_limit = omega (arith, e.deep) in deep;
        }

  -- the turn of a call is made
  pub call-makes-next : IsWhole u → (word : ℕ) (new : leaves.Leaf) → Proceeds b s word (running u b w c) new → IsMade u b w m c word new
  call-makes-next whole word new proceeds = by (subst (λ (a : Action). Proceeds b (record s { action = a }) word (running u b w c) new) is proceeds)
    where
      by : Proceeds b (record s { action = actions.Invoke v }) word (running u b w c) new → IsMade u b w m c word new
      by (inr (e, stop, after)) = call-stops word new e stop after
      by (inl (goes, e)) =
          let enters = call-enters u b w c s.span s.next v link turns due.lively new.control e word in
          record {
            makes = enters ∙ (λ i. Leaf (ended_as (sym goes i) (branch_of w.spot (sym e.after i))));
            sound = λ _. subst (IsSound u w.spot b m) (sym e.after) (inside-sound whole new.control e);
          }
