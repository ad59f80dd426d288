-- One turn of a simple statement that is no call is one event of the word machine, and the branch comes along the link of the statement.
use Rattle.std.proofs.Common.{◌≡◌, ℕ, suc, ◌-◌, ◌++◌, List, [], drop, take, Option, Some, None, inl, inr, refl, sym, ap, ◌∙◌, subst, arith}
use Rattle.std.specs.Prelude.{ℤ, reverse, ◌≢◌}
use Rattle.perm_tree.specs.declared.ast.Span.{Span}
use Rattle.perm_tree.specs.declared.bodies.Action.{Action}
use Rattle.perm_tree.specs.declared.bodies.Action.TheVariants as actions
use Rattle.perm_tree.specs.declared.bodies.Bodies.{Bodies}
use Rattle.perm_tree.specs.declared.bodies.Step.{Step}
use Rattle.perm_tree.specs.declared.errors.TrapKind.{TrapKind}
use Rattle.perm_tree.specs.BodyTerms.{instruction_of, IsActionIn}
use Rattle.perm_tree.specs.Code.{Do, End, Instruction, UnitCode}
use Rattle.perm_tree.specs.Links.{Spot, IsDo, IsLinkedBy, StandsAt}
use Rattle.perm_meaning.specs.Custody.{Copies}
use Rattle.perm_meaning.specs.Effects.{Act, Does, Sticks, Tick}
use Rattle.perm_meaning.specs.Machine.{Frame, Leaf, Failing, Trapped, next_turn, turn_op}
use Rattle.perm_meaning.specs.Turns.{turn_of}
use Rattle.perm_meaning.specs.WordHeap as machines
use Rattle.perm_meaning.specs.WordHeap.{Branch, NoMark, Task, worded}
use Rattle.perm_meaning.specs.Words.{words as on_words}
use Rattle.perm_step.specs.declared.ask.Ask.{Ask}
use Rattle.perm_step.specs.declared.control.Ending.{Ending}
use Rattle.perm_step.specs.declared.control.Ending.TheVariants as endings
use Rattle.perm_step.specs.declared.control.Failure.TheVariants as failures
use Rattle.perm_step.specs.declared.control.Leaf as leaves
use Rattle.perm_step.specs.declared.control.Stop.{Stop}
use Rattle.perm_step.specs.declared.control.Stop.TheVariants as stops
use Rattle.perm_step.specs.Events.{IsLively, IsSound, NextAsks, NextMakes}
use Rattle.perm_step.specs.HeapAsks.{Asks, IsAskFor, TrapsFirst}
use Rattle.perm_step.specs.LeafMoves.{ending_of, spent, Proceeds}
use Rattle.perm_step.specs.Standing.{below_of, branch_at, branch_of, calls_of, frames_of, leaf_branch, opens_of}
use Rattle.perm_step.specs.StepMoves.{Stops}
use Rattle.perm_step.specs.Working.{Working, locals}
use Rattle.perm_step.proofs.WordMachine.Moves.{acts, acts_trap, before}
use Rattle.perm_step.proofs.WordMachine.Settling.{AreCalls, are-calls}
use Rattle.perm_step.proofs.SimpleStatements.SimpleEffects.{Effect, IsAsked, IsHalting, IsTold}
use Rattle.perm_step.proofs.SimpleStatements.SimpleForms.{IsPlain, effect_at, own_in, asks-plain, returns-plain, stops-plain, traps-plain}
use Rattle.perm_step.proofs.SimpleStatements.SimpleLeft.{IsNext, moves-plain, next-plain, next-sound}
use Rattle.perm_step.proofs.Tests.TestSound.{opens-same}

-- a simple statement that is no call is linked as such
pub link-plain : (stands : ℕ → Spot → Type 0) (b : Bodies) (u : UnitCode) (here : Spot) (at : Span) (next : ℕ) (a : Action) → IsPlain a → IsLinkedBy stands b u here at next a → IsDo stands b u here at next a
link-plain stands b u here at next (actions.Declare x) plain link = link
link-plain stands b u here at next (actions.Assign x a) plain link = link
link-plain stands b u here at next (actions.LoadField x y f) plain link = link
link-plain stands b u here at next (actions.LoadLength x y) plain link = link
link-plain stands b u here at next (actions.LoadItem x y e) plain link = link
link-plain stands b u here at next (actions.TakeField x y f) plain link = link
link-plain stands b u here at next (actions.NewObject x class fields) plain link = link
link-plain stands b u here at next (actions.NewArray x e) plain link = link
link-plain stands b u here at next (actions.StoreField y f a) plain link = link
link-plain stands b u here at next (actions.StoreItem y i e) plain link = link
link-plain stands b u here at next (actions.Invoke v) plain link = absurd plain
link-plain stands b u here at next (actions.Print e) plain link = link
link-plain stands b u here at next (actions.If e other) plain link = absurd plain
link-plain stands b u here at next (actions.While e first) plain link = absurd plain
link-plain stands b u here at next (actions.Par first second sides) plain link = absurd plain
link-plain stands b u here at next actions.Recover plain link = absurd plain
link-plain stands b u here at next (actions.Give y x) plain link = absurd plain
link-plain stands b u here at next (actions.Return a) plain link = absurd plain
link-plain stands b u here at next actions.End plain link = absurd plain

-- an effect that isn't stuck does something
does : (e : Effect) → e ≢ Sticks → (o : machines.Ask) × (told : ℕ → Act ℕ NoMark) × (e ≡ Does o told)
does (Does o told) moving = (o, told, refl)
does Sticks moving = absurd (moving refl)

module _ (u : UnitCode) (b : Bodies) (spot : ℕ → Spot) (c : Working) (t : ℕ) (due : c.turns ≡ suc t) (s : Step) where
  -- a simple statement stands at the branch's spot, and the next step after it
  abbrev pub Linked : Type 0
  Linked = IsDo (λ q here. StandsAt spot b.steps q here) b u (spot c.at) s.span s.next s.action

  module _ (link : Linked) (plain : IsPlain s.action) (inside : IsActionIn b u s.action) where
    -- the method in which it runs
    abbrev routine : ℕ
    routine = (spot c.at).routine

    -- what stands below that
    abbrev below : List (Frame ℕ)
    below = below_of spot c

    -- are open calls
    calls : AreCalls below
    calls = are-calls spot (opens_of c.base c.vars (reverse c.calls))

    -- the statement
    abbrev instruction : Instruction
    instruction = instruction_of b link.tie s.action

    -- its effect
    abbrev eff : Effect
    eff = effect_at u b link.tie routine c s.action

    -- the branch before the turn
    abbrev due_at : Branch
    due_at = before u (own_in routine c) t (spot c.at).within below calls (Do s.span instruction link.rest)

    -- is the branch that runs
    is-due : branch_of spot c ≡ due_at
    is-due = λ j. let x : Branch = record { own = own_in routine c; turns = due j; code = link.code j; stack = frames_of (spot c.at).within ++ below; close = None } in x

    -- it isn't stuck, so its effect isn't
    moving : IsLively u (branch_of spot c) → eff ≢ Sticks
    moving lively is =
        lively
        (ap (λ (x : Branch). turn_op (worded Copies u) (next_turn (worded Copies u) x)) is-due
        ∙ ap (λ (f : Effect). turn_op (worded Copies u) (turn_of on_words Copies s.span link.rest (frames_of (spot c.at).within ++ below) f)) is)

    -- the turns after it
    left : t ≡ c.turns - 1
    left = omega (arith, due)

    -- ---------- what it asks ----------
    -- the next event asks what the step asks
    pub plain-asks : (q : Ask) → IsLively u (branch_of spot c) → Asks b (locals c) c.depth s.action q → (o : machines.Ask) × NextAsks u (branch_of spot c) o × IsAskFor q o
    plain-asks q lively asked =
        let d = does eff (moving lively) in (
          d.0,
          subst
              (λ (x : Branch). NextAsks u x d.0)
              (sym is-due)
              (ap (λ (f : Effect). turn_op (worded Copies u) (turn_of on_words Copies s.span link.rest (frames_of (spot c.at).within ++ below) f)) d.2),
          subst (IsAsked q) d.2 (asks-plain u b link.tie routine c s.action q plain inside asked),
        )

    -- ---------- traps ----------
    -- the branch that has failed by a trap of its step
    abbrev pub trapped : TrapKind → leaves.Leaf
    trapped k = record { control = spent c; ending = Some (endings.Failed (failures.Trap k s.span)) }

    -- where the effect traps, the next event asks nothing and ends the branch, whatever it is told
    halting : (k : TrapKind) → IsLively u (branch_of spot c) → IsHalting k eff → (v : ℕ) → NextAsks u (branch_of spot c) Tick × NextMakes u (branch_of spot c) (Some v) (Leaf (leaf_branch spot (trapped k)))
    halting k lively halts v =
        let d = does eff (moving lively) in
        let h = subst (IsHalting k) d.2 halts in
        let p = acts_trap u (own_in routine c) t (spot c.at).within below calls s.span instruction link.rest d.0 d.1 v k d.2 (h.1 v) in (
          subst (λ (x : Branch). NextAsks u x Tick) (sym is-due) (p.0 ∙ ap (λ o. Some o) h.0),
          subst
              (λ (x : Branch). NextMakes u x (Some v) (Leaf (leaf_branch spot (trapped k))))
              (sym is-due)
              (p.1 ∙ ap (λ n. let x : Task = Leaf (record { own = record (own_in routine c) { vars = [] }; turns = n; code = End; stack = []; close = Some (Failing (Trapped k s.span)) }) in x) left),
        )

    -- a step that traps before it asks the heap
    pub plain-traps : (k : TrapKind) → IsLively u (branch_of spot c) → TrapsFirst b (locals c) c.depth s.action k
        → NextAsks u (branch_of spot c) Tick × NextMakes u (branch_of spot c) (Some 0) (Leaf (leaf_branch spot (trapped k)))
    plain-traps k lively traps = halting k lively (traps-plain u b link.tie routine c s.action k plain traps) 0

    -- ---------- what it makes ----------
    -- the branch stands next, with these variables and printed numbers
    went-to : (v : ℕ) (vs : List ℕ) (printed : List ℤ) → IsLively u (branch_of spot c) → take c.base vs ≡ take c.base c.vars
        → let new : Working = record (spent c) { at = s.next; vars = vs; printed = printed } in IsTold v (own_in routine new) eff → NextMakes u (branch_of spot c) (Some v) (Leaf (branch_of spot new))
    went-to v vs printed lively callers told =
        let new : Working = record (spent c) { at = s.next; vars = vs; printed = printed } in
        let d = does eff (moving lively) in
        let p = acts u (own_in routine c) t (spot c.at).within below calls s.span instruction link.rest d.0 d.1 v (own_in routine new) d.2 (subst (IsTold v (own_in routine new)) d.2 told) in
        let opens = opens-same c.base vs c.vars (reverse c.calls) callers in
        subst
        (λ (x : Branch). NextMakes u x (Some v) (Leaf (branch_of spot new)))
        (sym is-due)
        (p.1 ∙ (λ j. let x : Task = Leaf (branch_at (sym link.after.1 j) (calls_of spot (sym opens j)) (drop c.base vs) c.depth printed (left j)) in x))

    -- it stands next
    went : (v : ℕ) (new : Working) → IsLively u (branch_of spot c) → IsNext (spent c) s.next new → IsTold v (own_in routine new) eff → NextMakes u (branch_of spot c) (Some v) (Leaf (branch_of spot new))
    went v new lively n told =
        subst
        (λ (x : Working). IsTold v (own_in routine x) eff → NextMakes u (branch_of spot c) (Some v) (Leaf (branch_of spot x)))
        (sym n.after)
        (went-to v n.vars n.printed lively n.callers)
        told

    -- a step that doesn't lead on
    stopped : (v : ℕ) (e : Stop) → IsLively u (branch_of spot c) → Stops b s.next (spent c) s.action e
        → NextMakes u (branch_of spot c) (Some v) (Leaf (leaf_branch spot (record { control = spent c; ending = Some (ending_of e s.span) })))
    stopped v (stops.Trap k) lively halts = (halting k lively (stops-plain u b link.tie routine (spent c) s.next s.action k plain halts) v).1
    stopped v (stops.Returned w) lively halts = absurd (returns-plain u b link.tie routine (spent c) s.next s.action w plain halts)

    -- told a word, the next event makes what the turn makes
    pub plain-makes : (q : Ask) (v : ℕ) (new : leaves.Leaf) → IsLively u (branch_of spot c) → Asks b (locals c) c.depth s.action q → Proceeds b s v (record { control = c; ending = None }) new
        → NextMakes u (branch_of spot c) (Some v) (Leaf (leaf_branch spot new))
    plain-makes q v new lively asked (inl (runs, moves)) =
        went v new.control lively (next-plain b (spent c) s.next s.action v new.control plain moves) (moves-plain u b link.tie routine (spent c) s.next s.action q v new.control plain inside asked moves)
        ∙ ap (λ (e : Option Ending). let x : Task = Leaf (leaf_branch spot (record { control = new.control; ending = e })) in x) (sym runs)
    plain-makes q v new lively asked (inr (e, halts, is)) = subst (λ (l : leaves.Leaf). NextMakes u (branch_of spot c) (Some v) (Leaf (leaf_branch spot l))) (sym is) (stopped v e lively halts)

    -- ---------- what stays ----------
    -- a branch that goes on is sound as before
    pub plain-sound : (bottom : ℕ) (v : ℕ) (new : leaves.Leaf) → IsSound u spot b bottom c → Proceeds b s v (record { control = c; ending = None }) new → new.ending ≡ None → IsSound u spot b bottom new.control
    plain-sound bottom v new sound (inl (runs, moves)) on =
        next-sound u spot b bottom c s.next new.control link.after.0 (ap (λ (x : Spot). x.routine) link.after.1) (next-plain b (spent c) s.next s.action v new.control plain moves) sound
    plain-sound bottom v new sound (inr (e, halts, is)) on =
        let no : Some (ending_of e s.span) ≡ None = sym (ap (λ (l : leaves.Leaf). l.ending) is) ∙ on in
        absurd (let r : ⊥ = cc in r)
