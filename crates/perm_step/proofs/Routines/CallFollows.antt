-- The turn of a call: what it asks, and what the machine makes of the branch.
use Rattle.std.proofs.Common.{◌≡◌, ◌≢◌, ◌∙◌, ℕ, zero, suc, ◌+◌, ◌-◌, ◌<◌, List, [], ◌∷◌, ◌++◌, length, map, replicate, Some, None, refl, sym, ap, subst, arith, inl, inr, drop}
use Rattle.std.specs.Prelude.{reverse, slice_get}
use Rattle.std.proofs.lemmas.List.{reverse-append}
use Rattle.std.proofs.Math.Seq.{take-append_seam, drop-append_seam}
use Rattle.std.proofs.lemmas.Option.{slice_get_within}
use Rattle.perm_tree.specs.declared.ast.Span.{Span}
use Rattle.perm_tree.specs.declared.bodies.Action.TheVariants as actions
use Rattle.perm_tree.specs.declared.bodies.Argument.{Argument}
use Rattle.perm_tree.specs.declared.bodies.Bodies.{Bodies}
use Rattle.perm_tree.specs.declared.bodies.Invocation.{Invocation}
use Rattle.perm_tree.specs.declared.errors.TrapKind.{TrapKind}
use Rattle.perm_tree.specs.BodyTerms.{argument_of, instruction_of, stretch}
use Rattle.perm_tree.specs.Code.{Code, Do, Instruction, UnitCode}
use Rattle.perm_tree.specs.Links.{Spot, AreBodiesOf, IsDo, StandsAt}
use Rattle.perm_meaning.specs.Custody.{Copies}
use Rattle.perm_meaning.specs.Effects.{Tick, Calls, Halts, Calling, depth_limit, first_vars, halts, ticks}
use Rattle.perm_meaning.specs.Machine.{Leaf as LeafTask, Turn, turn_op}
use Rattle.perm_meaning.specs.Turns.{turn_of}
use Rattle.perm_meaning.specs.WordHeap.{Branch, NoMark, Own, worded}
use Rattle.perm_meaning.specs.Words.{reference_in, words}
use Rattle.perm_step.specs.declared.control.Called.{Called}
use Rattle.perm_step.specs.Events.{IsLively, NextAsks, NextMakes}
use Rattle.perm_meaning.specs.WordHeap as machines
use Rattle.perm_step.specs.declared.control.Ending.TheVariants.{Failed}
use Rattle.perm_step.specs.declared.control.Failure.TheVariants.{Trap}
use Rattle.perm_step.specs.Given.{ArgumentsGive, IsObjectBy, VariableGives}
use Rattle.perm_step.specs.LeafMoves.{spent}
use Rattle.perm_step.specs.Standing.{branch_at, branch_of, below_of, calls_of, frame_over, frames_of, leaf_branch, opens_of}
use Rattle.perm_step.specs.StepMoves.{CallTraps, Enters, HasMethod}
use Rattle.perm_step.specs.Working.{Working, locals}
use Rattle.perm_step.proofs.Routines.CallEffects.{Effect, Runs, Takes, begins, by_call, begins-deep, begins-goes, begins-null, call-asks-nothing, call-goes, call-halts, ticks-then}
use Rattle.perm_step.proofs.WordMachine.Moves.{acts_trap, before, calls_on}
use Rattle.perm_step.proofs.WordMachine.Settling.{AreCalls, are-calls}

-- a place within a list has something
some-within : {A : Type 0} (xs : List A) (i : ℕ) → i < length xs → (x : A) × (slice_get xs i ≡ Some x)
some-within [] i inside = absurd (omega arith)
some-within (x ∷ xs) zero inside = (x, refl)
some-within (x ∷ xs) (suc i) inside = some-within xs i (omega arith)

-- what stands below the method of a call that a branch has entered
pub below-entered : (spot : ℕ → Spot) (c : Working) (added : List ℕ) (at : Span) (i : Instruction) (rest : Code) → (spot c.at).code ≡ Do at i rest
    → calls_of spot (opens_of (length c.vars) (c.vars ++ added) (reverse (c.calls ++ record { place = c.at; base = c.base } ∷ []))) ≡ frame_over (spot c.at).routine (spot c.at).within (Do at i rest) (locals c) (below_of spot c)
below-entered spot c added at i rest code =
    let called : Called = record { place = c.at; base = c.base } in
    ap (λ (cs : List Called). calls_of spot (opens_of (length c.vars) (c.vars ++ added) cs)) (reverse-append c.calls (called ∷ []))
    ∙ ap (λ (vs : List ℕ). frame_over (spot c.at).routine (spot c.at).within (spot c.at).code (drop c.base vs) (calls_of spot (opens_of c.base vs (reverse c.calls)))) (take-append_seam c.vars added)
    ∙ ap (λ (x : Code). frame_over (spot c.at).routine (spot c.at).within x (locals c) (below_of spot c)) code

module _ (u : UnitCode) (b : Bodies) (w : AreBodiesOf u b) (c : Working) (at : Span) (next : ℕ) (v : Invocation) where
  -- the call stands at the spot
  abbrev pub IsCall : Type 0
  IsCall = IsDo (λ q here. StandsAt w.spot b.steps q here) b u (w.spot c.at) at next (actions.Invoke v)

  -- its arguments
  abbrev pub handed_over : List Argument
  handed_over = stretch b.arguments v.first v.count

  -- what the branch has of its own
  abbrev pub own_of : Own
  own_of = record { vars = locals c; routine = (w.spot c.at).routine; depth = c.depth; printed = c.printed; mark = tt }

  -- the turns after this one
  abbrev pub left_of : ℕ
  left_of = c.turns - 1

  -- only open calls stand below its method
  pub below-calls : AreCalls (below_of w.spot c)
  below-calls = are-calls w.spot (opens_of c.base c.vars (reverse c.calls))

  module _ (link : IsCall) where
    -- the branch before its turn
    abbrev pub begun : Branch
    begun = before u own_of left_of (w.spot c.at).within (below_of w.spot c) below-calls (Do at (instruction_of b link.tie (actions.Invoke v)) link.rest)

    -- the turn of what the call does
    abbrev pub turn_by : Effect → Turn ℕ NoMark machines.Ask
    turn_by f = turn_of words Copies at link.rest (frames_of (w.spot c.at).within ++ below_of w.spot c) f

    -- what comes after the receiver and the arguments
    abbrev pub then_begins : ℕ → List ℕ → List ℕ → Effect
    then_begins this found vs = begins u own_of v.into link.tie v.receiver v.routine this found vs

    -- what it does
    abbrev pub doing : Effect
    doing = by_call b.operations (locals c) v.consumed v.receiver handed_over then_begins

    module _ (turns : c.turns ≡ suc left_of) (lively : IsLively u (branch_of w.spot c)) where
      -- the branch stands before its turn so
      stands : branch_of w.spot c ≡ begun
      stands = λ i. record (branch_of w.spot c) { turns = turns i; code = link.code i }

      -- its turn there isn't stuck
      lively-there : turn_op (worded Copies u) (turn_by doing) ≢ None
      lively-there = subst (λ (x : Branch). IsLively u x) stands lively

      -- so what the call does isn't
      runs : Runs doing
      runs none = lively-there (ap (λ (f : Effect). turn_op (worded Copies u) (turn_by f)) none)

      -- a call asks nothing of the heap
      pub call-ticks : NextAsks u (branch_of w.spot c) Tick
      call-ticks =
          let nothing = call-asks-nothing u own_of v.into link.tie v.receiver v.routine v.consumed (map (argument_of b.operations) handed_over) (locals c) in
          subst (λ (x : Branch). NextAsks u x Tick) (sym stands) (ticks-then u at link.rest (frames_of (w.spot c.at).within ++ below_of w.spot c) doing nothing lively-there)

      -- a method that begins
      pub call-reaches : (this : ℕ) (found : List ℕ) → VariableGives (locals c) v.receiver this → ArgumentsGive b.operations (locals c) handed_over found → IsObjectBy (reference_in this) → c.depth < depth_limit
          → (r : Takes u v.routine found) × (doing ≡ ticks words (Calls (record { routine = v.routine; code = r.routine.code; first = first_vars words r.routine this found; tie = link.tie; receiver = this; y = v.receiver; into = v.into }) own_of))
      call-reaches this found receiver gives object deep =
          let reaches = call-goes b.operations (locals c) v.consumed v.receiver handed_over this found then_begins receiver gives runs in
          let goes = begins-goes u own_of v.into link.tie v.receiver v.routine this found (locals c) object deep (λ none. runs (reaches ∙ none)) in
          (goes.0, reaches ∙ goes.1)

      -- where nothing traps before, the method is there
      pub call-callable : HasMethod b v c
      call-callable this found receiver gives object deep =
          let r = (call-reaches this found receiver gives object deep).0 in
          let inside : v.routine < length b.entries = omega (arith, slice_get_within u.routines v.routine r.routine r.there, w.entries) in
          some-within b.entries v.routine inside

      -- ---------- traps ----------
      -- a trap ends the branch
      pub call-ends : (word : ℕ) (k : TrapKind) → doing ≡ halts words k → NextMakes u (branch_of w.spot c) (Some word) (LeafTask (leaf_branch w.spot (record { control = spent c; ending = Some (Failed (Trap k at)) })))
      call-ends word k is =
          let turn = acts_trap u own_of left_of (w.spot c.at).within (below_of w.spot c) below-calls at (instruction_of b link.tie (actions.Invoke v)) link.rest Tick (λ w. Halts k) word k is refl in
          subst (λ (x : Branch). NextMakes u x (Some word) (LeafTask (leaf_branch w.spot (record { control = spent c; ending = Some (Failed (Trap k at)) })))) (sym stands) turn.1

      -- what traps in the interpreter traps here
      pub call-traps : (k : TrapKind) → CallTraps b v c k → doing ≡ halts words k
      call-traps k (inl argument) = call-halts b.operations (locals c) v.consumed v.receiver handed_over k then_begins argument runs
      call-traps k (inr (found, gives, inl (this, receiver, null))) =
          let reaches = call-goes b.operations (locals c) v.consumed v.receiver handed_over this found then_begins receiver gives runs in
          reaches ∙ begins-null u own_of v.into link.tie v.receiver v.routine this found (locals c) k null (λ none. runs (reaches ∙ none))
      call-traps k (inr (found, gives, inr (this, receiver, object, deep, is))) =
          let reaches = call-goes b.operations (locals c) v.consumed v.receiver handed_over this found then_begins receiver gives runs in
          reaches ∙ begins-deep u own_of v.into link.tie v.receiver v.routine this found (locals c) object deep (λ none. runs (reaches ∙ none)) ∙ ap (λ x. halts words x) (sym is)

      -- ---------- the method ----------
      module _ (new : Working) (e : Enters b v (spent c) new) where
        -- the branch that has entered the method
        abbrev pub inside : Working
        inside = record c {
          at = e.entry.first;
          base = length c.vars;
          calls = c.calls ++ record { place = c.at; base = c.base } ∷ [];
          vars = c.vars ++ (e.this ∷ (e.found ++ replicate (e.entry.variables - (1 + length e.found)) 0));
          depth = suc c.depth;
          turns = left_of;
        }

        -- the method that it has entered
        pub called-method : (r : Takes u v.routine e.found)
            × (doing ≡ ticks words (Calls (record { routine = v.routine; code = r.routine.code; first = first_vars words r.routine e.this e.found; tie = link.tie; receiver = e.this; y = v.receiver; into = v.into }) own_of))
        called-method = call-reaches e.this e.found e.receiver e.arguments e.object e.deep

        -- a call that goes on leads to the first step of its method
        pub call-enters : (word : ℕ) → NextMakes u (branch_of w.spot c) (Some word) (LeafTask (branch_of w.spot inside))
        call-enters word =
            let r = called-method.0.routine in
            let x : Calling ℕ = record { routine = v.routine; code = r.code; first = first_vars words r e.this e.found; tie = link.tie; receiver = e.this; y = v.receiver; into = v.into } in
            let turn = calls_on u own_of left_of (w.spot c.at).within (below_of w.spot c) below-calls at (instruction_of b link.tie (actions.Invoke v)) link.rest Tick (λ w. Calls x own_of) word x own_of called-method.1 refl in
            let enter = w.first v.routine e.entry r e.there called-method.0.there in
            let count = w.variables v.routine e.entry r e.there called-method.0.there in
            let added : List ℕ = e.this ∷ (e.found ++ replicate (e.entry.variables - (1 + length e.found)) 0) in
            let first : x.first ≡ locals inside = ap (λ n. e.this ∷ (e.found ++ replicate (n - (1 + length e.found)) 0)) (sym count) ∙ sym (drop-append_seam c.vars added) in
            let below = below-entered w.spot c added at (instruction_of b link.tie (actions.Invoke v)) link.rest link.code in
            subst (λ (x : Branch). NextMakes u x (Some word) (LeafTask (branch_of w.spot inside))) (sym stands)
            (turn.1 ∙ (λ i. LeafTask (branch_at (sym enter.1 i) (sym below i) (first i) (suc c.depth) c.printed left_of)))
