-- The steps of recover blocks: where one begins, and where it gives its value.
use Rattle.std.proofs.Common.{◌≡◌, ◌≢◌, ℕ, suc, ◌+◌, List, [], ◌∷◌, ◌++◌, length, take, Some, None, refl, sym, ap, subst, ◌∙◌, inl, inr, arith, length-set}
use Rattle.std.specs.Prelude.{slice_get, slice_set}
use Rattle.std.proofs.lemmas.List.{drop-set-add}
use Rattle.std.proofs.Math.Seq.{take-set-le}
use Rattle.perm_tree.specs.declared.bodies.Action.TheVariants as actions
use Rattle.perm_tree.specs.declared.bodies.Bodies.{Bodies}
use Rattle.perm_tree.specs.declared.bodies.Step.{Step}
use Rattle.perm_tree.specs.Code.{Code, Give, Recover, UnitCode}
use Rattle.perm_tree.specs.Links.{AreBodiesOf, Enclosing, InRecover, Spot, spot_of}
use Rattle.perm_meaning.specs.Custody.{Copies}
use Rattle.perm_meaning.specs.Effects.{Tick}
use Rattle.perm_meaning.specs.Expressions.{look_up}
use Rattle.perm_meaning.specs.Machine.{Frame, OpenBlock, OpenRecover, OpenCall, Leaf as MachineLeaf, turn_op}
use Rattle.perm_meaning.specs.Turns.{given_back}
use Rattle.perm_meaning.specs.Values.{Eval, Gives, Traps, Mistyped}
use Rattle.perm_meaning.specs.WordHeap.{Ask as HeapAsk, Own, worded}
use Rattle.perm_meaning.specs.Words.{words}
use Rattle.perm_step.specs.declared.ask.Ask.{Ask}
use Rattle.perm_step.specs.declared.control.Leaf.{Leaf}
use Rattle.perm_step.specs.declared.control.Stop.TheVariants as stops
use Rattle.perm_step.specs.Events.{IsLively, IsSound, NextAsks, NextMakes}
use Rattle.perm_step.specs.HeapAsks.{Asks, IsAskFor}
use Rattle.perm_step.specs.LeafMoves.{Proceeds, spent}
use Rattle.perm_step.specs.Standing.{below_of, branch_at, branch_of, calls_of, frames_of, leaf_branch}
use Rattle.perm_step.specs.StepMoves.{with_variable}
use Rattle.perm_step.specs.Working.{Working, locals}
use Rattle.perm_step.proofs.WordMachine.Moves.{before, begins, gives}
use Rattle.perm_step.proofs.WordMachine.Settling.{Ticks}
use Rattle.perm_step.proofs.Tests.TestSound.{opens-kept, sound-goes, sound-moves}
use Rattle.perm_step.proofs.Tests.TestSteps.{ComesTo, LinkOf, asks-nothing, comes-to, has-moved, link-of}
use Rattle.perm_step.proofs.Tests.TestTurns.{asks-there, at_code, below-calls, deaf-given, given-is, lands, lively-there, makes-there, own_of}

-- ---------- variables ----------
-- a variable of the running method is one of its own list
pub locals-set : (c : Working) (x word : ℕ) → locals (with_variable c x word) ≡ slice_set (locals c) x word
locals-set c x word = drop-set-add c.base c.vars x word

-- what stands below it stays
pub below-set : (c : Working) (x word : ℕ) → take c.base (with_variable c x word).vars ≡ take c.base c.vars
below-set c x word = take-set-le c.base c.vars (c.base + x) word (omega arith)

module _ (u : UnitCode) (b : Bodies) (w : AreBodiesOf u b) (c : Working) (s : Step) (there : slice_get b.steps c.at ≡ Some s) (t : ℕ) (due : c.turns ≡ suc t) where
  -- what this makes of the branch
  abbrev MakesBy : ℕ → Leaf → Type 0
  MakesBy v new = NextMakes u (branch_of w.spot c) (Some v) (MachineLeaf (leaf_branch w.spot new))

  -- ---------- the begin ----------
  module _ (link : LinkOf u b w c s there actions.Recover) where
    abbrev begin_code : Code
    begin_code = Recover s.span link.x link.own link.hides link.body link.rest

    -- its turn leads to the first statement
    begin-makes : (v : ℕ) (new : Leaf) → ComesTo u b w c s there actions.Recover v new → MakesBy v new
    begin-makes v new (inr (stops.Returned word, never, is)) = absurd never
    begin-makes v new (inr (stops.Trap k, never, is)) = absurd never
    begin-makes v new (inl (on, goes)) =
        makes-there u w.spot c t begin_code _ (MachineLeaf (leaf_branch w.spot new)) due link.code (λ v. refl)
        (begins u (own_of u w.spot c) t (w.spot c.at).within (below_of w.spot c) (below-calls u w.spot c) s.span link.x link.own link.hides link.body link.rest)
        (lands u w.spot c t (spot_of (w.spot c.at).routine link.body (InRecover link.own link.hides link.rest ∷ (w.spot c.at).within)) (locals c) (record (spent c) { at = s.next }) new link.first.1 refl refl refl refl (omega arith) on goes) v

  -- the begin of a recover block asks nothing
  pub recover-asks-next : s.action ≡ actions.Recover → (q : Ask) → Asks b (locals c) c.depth s.action q → (o : HeapAsk) × NextAsks u (branch_of w.spot c) o × IsAskFor q o
  recover-asks-next is q asks =
      let link = link-of u b w c s there actions.Recover is in
      asks-nothing u b w c s there q (subst (λ a. Asks b (locals c) c.depth a q) is asks) (asks-there u w.spot c t (begin_code link) Tick due link.code refl)

  -- and leads to its first statement
  pub recover-makes-next : s.action ≡ actions.Recover → (v : ℕ) (new : Leaf) → Proceeds b s v (record { control = c; ending = None }) new → MakesBy v new
  recover-makes-next is v new comes = begin-makes (link-of u b w c s there actions.Recover is) v new (comes-to u b w c s there actions.Recover is v new comes)

-- ---------- the end ----------
module _ (u : UnitCode) where
  -- the end of a recover block that isn't stuck asks nothing
  given-ticks : (e : Eval ℕ) (y x : ℕ) (st : List (Frame ℕ)) (l : Own) → turn_op (worded Copies u) (given_back words Copies e y x st l) ≢ None → turn_op (worded Copies u) (given_back words Copies e y x st l) ≡ Some Tick
  given-ticks (Gives v) y x [] l lively = absurd (lively refl)
  given-ticks (Gives v) y x (OpenBlock own rest ∷ st) l lively = absurd (lively refl)
  given-ticks (Gives v) y x (OpenRecover own hides saved rest ∷ st) l lively = refl
  given-ticks (Gives v) y x (OpenCall tie into z saved lent caller rest ∷ st) l lively = absurd (lively refl)
  given-ticks (Traps k) y x st l lively = absurd (lively refl)
  given-ticks Mistyped y x st l lively = absurd (lively refl)

  -- nor is its value mistyped
  given-typed : (e : Eval ℕ) (y x : ℕ) (st : List (Frame ℕ)) (l : Own) → turn_op (worded Copies u) (given_back words Copies e y x st l) ≢ None → e ≡ Mistyped → ⊥
  given-typed e y x st l lively is = lively (ap (λ e. turn_op (worded Copies u) (given_back words Copies e y x st l)) is)

module _ (u : UnitCode) (b : Bodies) (w : AreBodiesOf u b) (c : Working) (s : Step) (there : slice_get b.steps c.at ≡ Some s) (t : ℕ) (due : c.turns ≡ suc t) (lively : IsLively u (branch_of w.spot c)) (y x : ℕ)
    (link : LinkOf u b w c s there (actions.Give y x)) where
  abbrev end_code : Code
  end_code = Give s.span y x

  -- the frames round the end of a recover block
  abbrev frames : List (Frame ℕ)
  frames = frames_of (w.spot c.at).within ++ below_of w.spot c

  -- its turn isn't stuck
  end-lively : turn_op (worded Copies u) (given_back words Copies (look_up words (locals c) y) y x frames (own_of u w.spot c)) ≢ None
  end-lively = lively-there u w.spot c t end_code due link.code lively

  -- it asks nothing
  end-asks : NextAsks u (branch_of w.spot c) Tick
  end-asks = asks-there u w.spot c t end_code Tick due link.code (given-ticks u (look_up words (locals c) y) y x frames (own_of u w.spot c) end-lively)

  -- the turn at the end, as the link says what is open there
  end-ticks : (word : ℕ) → look_up words (locals c) y ≡ Gives word
      → Ticks u (at_code u w.spot c t end_code) (MachineLeaf (branch_at (spot_of (w.spot c.at).routine link.rest link.within) (below_of w.spot c) (slice_set (locals c) x word) c.depth c.printed t))
  end-ticks word given =
      subst (λ (st : List Enclosing). Ticks u (before u (own_of u w.spot c) t st (below_of w.spot c) (below-calls u w.spot c) end_code) (MachineLeaf (branch_at (spot_of (w.spot c.at).routine link.rest link.within) (below_of w.spot c) (slice_set (locals c) x word) c.depth c.printed t)))
      (sym link.inside) (gives u (own_of u w.spot c) t link.within (below_of w.spot c) (below-calls u w.spot c) s.span y x link.own link.hides link.rest word given)

  -- it leads on with the value that it gives
  end-makes : (v : ℕ) (new : Leaf) → ComesTo u b w c s there (actions.Give y x) v new → NextMakes u (branch_of w.spot c) (Some v) (MachineLeaf (leaf_branch w.spot new))
  end-makes v new (inr (stops.Returned word, never, is)) = absurd never
  end-makes v new (inr (stops.Trap k, never, is)) = absurd never
  end-makes v new (inl (on, (word, gives, goes))) =
      let n : Working = record (with_variable (spent c) x word) { at = s.next } in
      let given = given-is (look_up words (locals c) y) word gives (given-typed u (look_up words (locals c) y) y x frames (own_of u w.spot c) end-lively) in
      makes-there u w.spot c t end_code _ (MachineLeaf (leaf_branch w.spot new)) due link.code (deaf-given (look_up words (locals c) y) y x frames (own_of u w.spot c)) (end-ticks word given)
      (lands u w.spot c t (spot_of (w.spot c.at).routine link.rest link.within) (slice_set (locals c) x word) n new link.after.1
      (ap (calls_of w.spot) (opens-kept c n refl refl (below-set c x word))) (locals-set c x word) refl refl (omega arith) on goes) v

module _ (u : UnitCode) (b : Bodies) (w : AreBodiesOf u b) (c : Working) (s : Step) (there : slice_get b.steps c.at ≡ Some s) (t : ℕ) (due : c.turns ≡ suc t) (lively : IsLively u (branch_of w.spot c)) where
  -- the end of a recover block asks nothing
  pub give-asks-next : (y x : ℕ) → s.action ≡ actions.Give y x → (q : Ask) → Asks b (locals c) c.depth s.action q → (o : HeapAsk) × NextAsks u (branch_of w.spot c) o × IsAskFor q o
  give-asks-next y x is q asks =
      asks-nothing u b w c s there q (subst (λ a. Asks b (locals c) c.depth a q) is asks) (end-asks u b w c s there t due lively y x (link-of u b w c s there (actions.Give y x) is))

  -- and leads on with the value that it gives
  pub give-makes-next : (y x : ℕ) → s.action ≡ actions.Give y x → (v : ℕ) (new : Leaf) → Proceeds b s v (record { control = c; ending = None }) new → NextMakes u (branch_of w.spot c) (Some v) (MachineLeaf (leaf_branch w.spot new))
  give-makes-next y x is v new comes = end-makes u b w c s there t due lively y x (link-of u b w c s there (actions.Give y x) is) v new (comes-to u b w c s there (actions.Give y x) is v new comes)

-- ---------- soundness ----------
module _ (u : UnitCode) (b : Bodies) (w : AreBodiesOf u b) (c : Working) (s : Step) (there : slice_get b.steps c.at ≡ Some s) (m v : ℕ) (new : Leaf) (sound : IsSound u w.spot b m c) (runs : new.ending ≡ None) where
  -- at the begin of a recover block the branch is sound
  pub recover-keeps-sound : s.action ≡ actions.Recover → Proceeds b s v (record { control = c; ending = None }) new → IsSound u w.spot b m new.control
  recover-keeps-sound is comes =
      let link = link-of u b w c s there actions.Recover is in
      let moved = has-moved u b w c s there actions.Recover v new (comes-to u b w c s there actions.Recover is v new comes) runs in
      sound-goes u w.spot b m c s.next new.control sound link.first.0 (ap (λ (x : Spot). x.routine) link.first.1) moved

  -- so it is after its end
  pub give-keeps-sound : (y x : ℕ) → s.action ≡ actions.Give y x → Proceeds b s v (record { control = c; ending = None }) new → IsSound u w.spot b m new.control
  give-keeps-sound y x is comes =
      let link = link-of u b w c s there (actions.Give y x) is in
      let moved = has-moved u b w c s there (actions.Give y x) v new (comes-to u b w c s there (actions.Give y x) is v new comes) runs in
      let n : Working = record (with_variable (spent c) x moved.0) { at = s.next } in
      let count : length (locals n) ≡ length (locals c) = ap (λ (l : List ℕ). length l) (locals-set c x moved.0) ∙ length-set (locals c) x moved.0 in
      subst (IsSound u w.spot b m) (sym moved.2) (sound-moves u w.spot b m c n sound link.after.0 (ap (λ (x : Spot). x.routine) link.after.1) refl refl count (below-set c x moved.0) refl)
