-- The turn of a return: what it asks, and what the machine makes of the branch.
use Rattle.std.proofs.Common.{◌≡◌, ◌≢◌, ◌∙◌, ℕ, suc, ◌+◌, ◌-◌, List, [], ◌∷◌, ◌++◌, Option, Some, None, refl, sym, ap, subst, arith, take, drop}
use Rattle.std.specs.Prelude.{reverse, slice_set}
use Rattle.std.proofs.lemmas.List.{drop-set-add, reverse-append}
use Rattle.std.proofs.Math.Seq.{take-set-le}
use Rattle.perm_tree.specs.declared.ast.Span.{Span}
use Rattle.perm_tree.specs.declared.bodies.Action.TheVariants as actions
use Rattle.perm_tree.specs.declared.bodies.Argument.{Argument}
use Rattle.perm_tree.specs.declared.bodies.Bodies.{Bodies}
use Rattle.perm_tree.specs.declared.bodies.Invocation.{Invocation}
use Rattle.perm_tree.specs.declared.errors.TrapKind.{TrapKind}
use Rattle.perm_tree.specs.BodyTerms.{argument_of}
use Rattle.perm_tree.specs.Code.{Code, Return, UnitCode}
use Rattle.perm_tree.specs.Links.{Spot, AreBodiesOf, IsDo, IsReturn, StandsAt}
use Rattle.perm_meaning.specs.Custody.{Copies}
use Rattle.perm_meaning.specs.Effects.{Tick}
use Rattle.perm_meaning.specs.Expressions.{assign_into, value_of}
use Rattle.perm_meaning.specs.Machine.{Frame, OpenBlock, OpenCall, OpenRecover, Leaf as LeafTask, Turn, told_to, turn_op}
use Rattle.perm_meaning.specs.Turns.{on_value, returned}
use Rattle.perm_meaning.specs.Values.{Eval, Gives, Traps, Mistyped}
use Rattle.perm_meaning.specs.WordHeap.{Ask, Branch, NoMark, Own, worded}
use Rattle.perm_meaning.specs.Words.{words}
use Rattle.perm_step.specs.declared.control.Called.{Called}
use Rattle.perm_step.specs.declared.control.Ending.TheVariants as endings
use Rattle.perm_step.specs.declared.control.Failure.TheVariants as failures
use Rattle.perm_step.specs.Events.{IsLively, NextAsks, NextMakes}
use Rattle.perm_step.specs.Given.{ArgumentGives, ArgumentTraps, IsGiven, IsTrap}
use Rattle.perm_step.specs.LeafMoves.{spent}
use Rattle.perm_step.specs.Standing.{Open, branch_at, branch_of, below_of, calls_of, frame_over, frames_of, leaf_branch, opens_of}
use Rattle.perm_step.specs.StepMoves.{with_into}
use Rattle.perm_step.specs.Working.{Working, locals}
use Rattle.perm_step.proofs.WordMachine.Moves.{return_traps, returns_to}
use Rattle.perm_step.proofs.WordMachine.Settling.{are-calls}

-- ---------- the turn ----------
module _ (u : UnitCode) (at : Span) (st : List (Frame ℕ)) (l : Own) where
  -- the turn of a return of what an argument comes to
  abbrev pub returning : Eval ℕ → Turn ℕ NoMark Ask
  returning e = on_value words Copies e at (λ v. returned words Copies v st l)

  -- it isn't stuck
  abbrev pub Goes : Eval ℕ → Type 0
  Goes e = turn_op (worded Copies u) (returning e) ≢ None

  -- a turn that isn't stuck asks nothing of the heap
  pub return-ticks : (e : Eval ℕ) → Goes e → turn_op (worded Copies u) (returning e) ≡ Some Tick
  return-ticks e lively = by e st lively
    where
      by : (e : Eval ℕ) (st : List (Frame ℕ)) → turn_op (worded Copies u) (on_value words Copies e at (λ v. returned words Copies v st l)) ≢ None → turn_op (worded Copies u) (on_value words Copies e at (λ v. returned words Copies v st l)) ≡ Some Tick
      by (Gives v) [] lively = refl
      by (Gives v) (OpenCall tie into y saved lent caller rest ∷ st) lively = refl
      by (Gives v) (OpenBlock own rest ∷ st) lively = absurd (lively refl)
      by (Gives v) (OpenRecover own hides saved rest ∷ st) lively = absurd (lively refl)
      by (Traps k) st lively = refl
      by Mistyped st lively = absurd (lively refl)

  -- it makes the same of each word that it is told
  pub return-deaf : (b : Branch) (t : ℕ) (e : Eval ℕ) (word : ℕ) → told_to (worded Copies u) b t (returning e) (Some word) ≡ told_to (worded Copies u) b t (returning e) (Some 0)
  return-deaf b t e word = by e st
    where
      by : (e : Eval ℕ) (st : List (Frame ℕ))
          → told_to (worded Copies u) b t (on_value words Copies e at (λ v. returned words Copies v st l)) (Some word) ≡ told_to (worded Copies u) b t (on_value words Copies e at (λ v. returned words Copies v st l)) (Some 0)
      by (Gives v) [] = refl
      by (Gives v) (OpenCall tie into y saved lent caller rest ∷ st) = refl
      by (Gives v) (OpenBlock own rest ∷ st) = refl
      by (Gives v) (OpenRecover own hides saved rest ∷ st) = refl
      by (Traps k) st = refl
      by Mistyped st = refl

  -- what gives a word
  pub return-gives : (e : Eval ℕ) (word : ℕ) → Goes e → IsGiven e word → e ≡ Gives word
  return-gives (Gives v) word lively is = ap Gives (sym is)
  return-gives (Traps k) word lively is = absurd is
  return-gives Mistyped word lively is = absurd (lively refl)

  -- what traps
  pub return-halts : (e : Eval ℕ) (k : TrapKind) → Goes e → IsTrap e k → e ≡ Traps k
  return-halts (Gives v) k lively is = absurd is
  return-halts (Traps j) k lively is = ap Traps (sym is)
  return-halts Mistyped k lively is = absurd (lively refl)

-- ---------- the caller ----------
-- calls below a base don't see what stands from there on
pub opens-same : (base : ℕ) (vs ws : List ℕ) (cs : List Called) → take base vs ≡ take base ws → opens_of base vs cs ≡ opens_of base ws cs
opens-same base vs ws [] same = refl
opens-same base vs ws (c ∷ cs) same = ap (λ (l : List ℕ). let o : Open = record { place = c.place; saved = drop c.base l } in o ∷ opens_of c.base l cs) same

-- the caller's branch after a return: its variables have taken the word
pub back-is : (spot : ℕ → Spot) (c : Working) (into : Option ℕ) (word to depth : ℕ) (front : List Called)
    → branch_at (spot to) (calls_of spot (opens_of c.base c.vars (reverse front))) (assign_into (locals c) into word) depth c.printed c.turns ≡ branch_of spot (record (with_into c into word) { at = to; calls = front; depth = depth })
back-is spot c None word to depth front = refl
back-is spot c (Some x) word to depth front =
    let opens = ap (calls_of spot) (opens-same c.base c.vars (slice_set c.vars (c.base + x) word) (reverse front) (sym (take-set-le c.base c.vars (c.base + x) word (omega arith)))) in
    let vars = sym (drop-set-add c.base c.vars x word) in
    λ i. branch_at (spot to) (opens i) (vars i) depth c.printed c.turns

-- ---------- returns ----------
module _ (u : UnitCode) (b : Bodies) (w : AreBodiesOf u b) (c : Working) (at : Span) (next : ℕ) (a : Argument) where
  -- the return stands at the spot
  abbrev pub IsBack : Type 0
  IsBack = IsReturn (λ q here. StandsAt w.spot b.steps q here) b u (w.spot c.at) at next a

  -- what the branch has of its own
  abbrev pub own_of : Own
  own_of = record { vars = locals c; routine = (w.spot c.at).routine; depth = c.depth; printed = c.printed; mark = tt }

  -- the turns after this one
  abbrev pub left_of : ℕ
  left_of = c.turns - 1

  -- what it comes to
  abbrev pub given : Eval ℕ
  given = value_of words (argument_of b.operations a) (locals c)

  -- the branch before its turn, over these frames
  abbrev pub over_frames : List (Frame ℕ) → Branch
  over_frames st = record { own = own_of; turns = suc left_of; code = Return at (argument_of b.operations a); stack = st; close = None }

  module _ (link : IsBack) (turns : c.turns ≡ suc left_of) (lively : IsLively u (branch_of w.spot c)) where
    module _ (st : List (Frame ℕ)) (stack : below_of w.spot c ≡ st) where
      -- nothing is open in the method
      stands : branch_of w.spot c ≡ over_frames st
      stands = (λ i. record (branch_of w.spot c) { turns = turns i; code = link.code i; stack = frames_of (link.within i) ++ below_of w.spot c }) ∙ ap over_frames stack

      -- its turn there isn't stuck
      lively-there : Goes u at st own_of given
      lively-there = subst (λ (x : Branch). IsLively u x) stands lively

      -- a return asks nothing of the heap
      pub return-asks : NextAsks u (branch_of w.spot c) Tick
      return-asks = subst (λ (x : Branch). NextAsks u x Tick) (sym stands) (return-ticks u at st own_of given lively-there)

      -- what it makes when it is told 0 it makes when it is told anything
      pub return-told : (word : ℕ) (x : Branch) → NextMakes u (over_frames st) (Some 0) (LeafTask x) → NextMakes u (branch_of w.spot c) (Some word) (LeafTask x)
      return-told word x makes = subst (λ (y : Branch). NextMakes u y (Some word) (LeafTask x)) (sym stands) (return-deaf u at st own_of (over_frames st) left_of given word ∙ makes)

    -- an argument that traps ends the branch
    pub return-traps : (word : ℕ) (k : TrapKind) → ArgumentTraps b.operations (locals c) a k → NextMakes u (branch_of w.spot c) (Some word) (LeafTask (leaf_branch w.spot (record { control = spent c; ending = Some (endings.Failed (failures.Trap k at)) })))
    return-traps word k traps =
        let below = below_of w.spot c in
        let is = return-halts u at below own_of given k (lively-there below refl) traps in
        return-told below refl word _ (return_traps u own_of left_of [] below (are-calls w.spot (opens_of c.base c.vars (reverse c.calls))) at (argument_of b.operations a) k is).1

    -- a word that is returned where no call is open ends the branch
    pub return-ends : (word found : ℕ) → ArgumentGives b.operations (locals c) a found → c.calls ≡ [] → NextMakes u (branch_of w.spot c) (Some word) (LeafTask (leaf_branch w.spot (record { control = spent c; ending = Some (endings.Returned found) })))
    return-ends word found gives alone =
        let stack : below_of w.spot c ≡ [] = ap (λ (cs : List Called). calls_of w.spot (opens_of c.base c.vars (reverse cs))) alone in
        let is = return-gives u at [] own_of given found (lively-there [] stack) gives in
        return-told [] stack word _ (ap (λ e. told_to (worded Copies u) (over_frames []) left_of (returning u at [] own_of e) (Some 0)) is)

    -- ---------- to a caller ----------
    module _ (front : List Called) (last : Called) (popped : c.calls ≡ front ++ last ∷ []) (span : Span) (to : ℕ) (v : Invocation) (back : IsDo (λ q here. StandsAt w.spot b.steps q here) b u (w.spot last.place) span to (actions.Invoke v)) where
      -- the caller, before it takes the word
      abbrev pub caller : Working
      caller = record (spent c) { base = last.base; vars = take c.base c.vars }

      -- what stands below it
      abbrev pub lower : List (Frame ℕ)
      lower = calls_of w.spot (opens_of last.base caller.vars (reverse front))

      -- the calls, the last one first
      pub reversed : reverse c.calls ≡ last ∷ reverse front
      reversed = ap (λ (cs : List Called). reverse cs) popped ∙ reverse-append front (last ∷ [])

      -- what stands below the method
      below-returned : below_of w.spot c ≡ OpenCall back.tie v.into v.receiver (locals caller) None (w.spot last.place).routine back.rest ∷ (frames_of (w.spot last.place).within ++ lower)
      below-returned =
          ap (λ (cs : List Called). calls_of w.spot (opens_of c.base c.vars cs)) reversed
          ∙ ap (λ (x : Code). frame_over (w.spot last.place).routine (w.spot last.place).within x (locals caller) lower) back.code

      -- the branch goes on behind the call
      pub return-leads : (word found : ℕ) → ArgumentGives b.operations (locals c) a found
          → NextMakes u (branch_of w.spot c) (Some word) (LeafTask (branch_of w.spot (record (with_into caller v.into found) { at = to; calls = front; depth = c.depth - 1 })))
      return-leads word found gives =
          let st = OpenCall back.tie v.into v.receiver (locals caller) None (w.spot last.place).routine back.rest ∷ (frames_of (w.spot last.place).within ++ lower) in
          let is = return-gives u at st own_of given found (lively-there st below-returned) gives in
          let turn = returns_to u own_of left_of (w.spot last.place).within lower (are-calls w.spot (opens_of last.base caller.vars (reverse front))) at (argument_of b.operations a) back.tie v.into v.receiver (w.spot last.place).routine (locals caller) back.rest found is in
          return-told st below-returned word _
          (turn.1 ∙ (λ i. LeafTask (branch_at (sym back.after.1 i) lower (assign_into (locals caller) v.into found) (c.depth - 1) c.printed left_of)) ∙ ap (λ (x : Branch). LeafTask x) (back-is w.spot caller v.into found to (c.depth - 1) front))
