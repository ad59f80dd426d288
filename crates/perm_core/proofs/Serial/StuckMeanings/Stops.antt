-- States that have stopped: they haven't ended, and have no event next. What a turn without an event, or an event whose field isn't there, leads to.
use Rattle.std.proofs.Common.{◌≡◌, ℕ, zero, suc, ◌≤◌, Bool, true, false, Some, None, List, refl, sym, ap, ◌∙◌, subst}
use Rattle.perm_tree.specs.declared.ast.Span.{Span}
use Rattle.perm_tree.specs.Code.{Code, UnitCode}
use Rattle.perm_meaning.specs.Values.{Eval, Gives, Traps, Mistyped, Truth}
use Rattle.perm_meaning.specs.Expressions.{tagged}
use Rattle.perm_meaning.specs.Machine.{Blocks, Final, Leaf, Fork, Here, Did, On, Turn, Takes, NoTurn, over, final, look, told_to, leaf_op, leaf_on, turn_op}
use Rattle.perm_meaning.specs.Names.{Mark}
use Rattle.perm_meaning.specs.Custody.{Copies}
use Rattle.perm_meaning.specs.Turns as turns
use Rattle.perm_meaning.specs.NamedHeap.{Heap, Held, Op, Own, Branch, Task, State, marks, named, memory, find, after}
use Rattle.perm_meaning.specs.Steps.{Answer, Found, Refused, Missing, granted, asked_with_care, leftmost, leftmost_of}
use Rattle.perm_meaning.specs.Meaning as meaning
use Rattle.perm_meaning.specs.Meaning.{Moment, Result, Well, Gave, Handed, Fails, Full, Stuck, spend, then_do}
use Rattle.perm_meaning.proofs.Leads.{some-inj, none-some, stay, one, lead, in_left, in_right, lead-left, lead-right}
use Rattle.perm_meaning.proofs.LeftFirst.Reached.{Frame, going, settles, Reach, Follows}
use Rattle.perm_meaning.proofs.LeftFirst.OneTurn.{plain, IsDue, before, then_task}
use Rattle.perm_core.specs.Endings.{ByNothing}
use Rattle.perm_core.proofs.Serial.StuckMeanings.Results.{EndsBy}

module _ (u : UnitCode) (fits : ℕ → Bool) where
  -- it hasn't ended, and what its leftmost node asks isn't there
  pub record IsStopped (s : State) : Type 0 where
    pub unended : final s.task ≡ None
    pub missing : (o : Op) → look (named Copies u) (leftmost s.task) s.task ≡ Some o → find fits o s.heap ≡ Missing

  -- left first, the machine comes to such a state
  pub record Stops (s : State) : Type 0 where
    pub state : State
    pub run : Reach u fits s state
    pub stopped : IsStopped state

  -- the same from an earlier state
  pub stops-along : (s t : State) → Reach u fits s t → Stops t → Stops s
  stops-along s t l x = record { state = x.state; run = lead (named Copies u) (memory u) fits s t x.state l x.run; stopped = x.stopped }

  -- the same of a left side
  pub left-stops : (b : Branch) (p : Blocks) (r : Task) (s : State) → Stops s → Stops (in_left b p r s)
  left-stops b p r s x = record {
    state = in_left b p r x.state;
    run = lead-left (named Copies u) (memory u) fits b p r s x.state x.run;
    stopped = record {
      unended = refl;
      missing = λ o q. x.stopped.missing o
          (sym (ap (λ z. look (named Copies u) (leftmost_of z (final r) (leftmost x.state.task) (leftmost r)) (Fork b p x.state.task r)) x.stopped.unended) ∙ q);
    };
  }

  -- the same of a right side, where the left one has ended
  pub right-stops : (b : Branch) (p : Blocks) (l : Task) (f : Final Held) → final l ≡ Some f → (s : State) → Stops s → Stops (in_right b p l s)
  right-stops b p l f e s x = record {
    state = in_right b p l x.state;
    run = lead-right (named Copies u) (memory u) fits b p l f e s x.state x.run;
    stopped = record {
      unended = refl;
      missing = λ o q. x.stopped.missing o
          (sym (ap (λ z. look (named Copies u) (leftmost_of z (final x.state.task) (leftmost l) (leftmost x.state.task)) (Fork b p l x.state.task)) e
          ∙ ap (λ z. look (named Copies u) (leftmost_of (Some f) z (leftmost l) (leftmost x.state.task)) (Fork b p l x.state.task)) x.stopped.unended) ∙ q);
    };
  }

  -- where the meaning is stuck, the machine stops
  abbrev pub Stalls : Result → State → Type 0
  Stalls r s = r ≡ Stuck → Stops s

  -- ---------- one turn ----------
  -- after what the heap answers
  abbrev pub AnswerStalls : Code → List Frame → Moment → Op → (Held → Did Held Mark) → Answer Held → Result → Type 0
  AnswerStalls c st m o told (Found v) r = Stalls r (record { task = then_task u fits c st m (told v); heap = after u fits o m.heap })
  AnswerStalls c st m o told Refused r = r ≡ Full
  AnswerStalls c st m o told Missing r = Unit {0}

  -- after a turn
  abbrev pub TurnStalls : Code → List Frame → Moment → Turn Held Mark Op → Result → Type 0
  TurnStalls c st m NoTurn r = Unit {0}
  TurnStalls c st m (Takes o told) r = AnswerStalls c st m o told (find fits o m.heap) r

  -- a branch that takes its turn
  by-turn : (c : Code) (st : List Frame) → IsDue c st → (m : Moment) (t : Turn Held Mark Op) (r : Result) → turns.turn tagged Copies u marks c st m.own ≡ t → TurnStalls c st m t r → Stalls r (before u fits c st m)
  by-turn c st due m t r e q stuck = asks t e q
    where
      x : State
      x = before u fits c st m

      b : Branch
      b = plain c st (record m { turns = suc m.turns })

      going_on : final x.task ≡ None
      going_on = ap (λ z. over z) (due (suc m.turns) m.own)

      looks : (t : Turn Held Mark Op) → turns.turn tagged Copies u marks c st m.own ≡ t → look (named Copies u) Here x.task ≡ turn_op (named Copies u) t
      looks t e = ap (λ z. leaf_op (named Copies u) b z) (due (suc m.turns) m.own) ∙ ap (λ t. turn_op (named Copies u) t) e

      here : IsStopped x → Stops x
      here is = record { state = x; run = stay (named Copies u) (memory u) fits x; stopped = is }

      answers : (o : Op) (told : Held → Did Held Mark) → turns.turn tagged Copies u marks c st m.own ≡ Takes o told → (a : Answer Held) → find fits o m.heap ≡ a → AnswerStalls c st m o told a r → Stops x
      answers o told e Refused f q = absurd (let no : Full ≡ Stuck = sym q ∙ stuck in let z : ⊥ = cc no in z)
      answers o told e Missing f q = here (record { unended = going_on; missing = λ p g. ap (λ z. find fits z m.heap) (some-inj (sym g ∙ looks (Takes o told) e)) ∙ f })
      answers o told e (Found v) f q =
          let y : State = record { task = then_task u fits c st m (told v); heap = after u fits o m.heap } in
          stops-along x y (one (named Copies u) (memory u) fits x y
          (ap (λ t. asked_with_care (named Copies u) (memory u) fits x Here t) (looks (Takes o told) e)
          ∙ ap (λ a. granted (named Copies u) (memory u) fits x Here o a) f
          ∙ ap (λ z. Some (record { task = leaf_on (named Copies u) b z (Some v); heap = after u fits o m.heap })) (due (suc m.turns) m.own)
          ∙ ap (λ t. Some (record { task = told_to (named Copies u) b m.turns t (Some v); heap = after u fits o m.heap })) e)) (q stuck)

      asks : (t : Turn Held Mark Op) → turns.turn tagged Copies u marks c st m.own ≡ t → TurnStalls c st m t r → Stops x
      asks NoTurn e q = here (record { unended = going_on; missing = λ o g. none-some (sym (looks NoTurn e) ∙ g) })
      asks (Takes o told) e q = answers o told e (find fits o m.heap) refl q

  -- a step that is due spends a turn, if one is left
  pub spending-stalls : (c : Code) (st : List Frame) → IsDue c st → (t : ℕ) (l : Own) (h : Heap) (go : Moment → Result)
      → ((k : ℕ) → suc k ≡ t → TurnStalls c st (record { turns = k; own = l; heap = h }) (turns.turn tagged Copies u marks c st l) (go (record { turns = k; own = l; heap = h })))
      → Stalls (spend (record { turns = t; own = l; heap = h }) go) (record { task = Leaf (plain c st (record { turns = t; own = l; heap = h })); heap = h })
  spending-stalls c st due zero l h go f = λ e. absurd (let z : ⊥ = cc e in z)
  spending-stalls c st due (suc k) l h go f = by-turn c st due (record { turns = k; own = l; heap = h }) (turns.turn tagged Copies u marks c st l) (go (record { turns = k; own = l; heap = h })) refl (f k refl)

  -- a branch that goes on with other code
  pub on-stalls : (c c1 : Code) (st st1 : List Frame) (m : Moment) (l : Own) (h : Heap) (r : Result)
      → Stalls r (going u c1 st1 (record { turns = m.turns; own = l; heap = h })) → Stalls r (record { task = then_task u fits c st m (On l c1 st1); heap = h })
  on-stalls c c1 st st1 m l h r f = subst (λ (z : Branch). Stalls r (record { task = Leaf z; heap = h })) (sym (settles u l m.turns c st l.vars c1 st1)) f

  -- one way of two
  pub test-stalls : (c : Code) (st : List Frame) (m : Moment) (e : Eval Held) (at : Span) (a b : Turn Held Mark Op) (f g : Moment → Result)
      → TurnStalls c st m a (f m) → TurnStalls c st m b (g m) → TurnStalls c st m (turns.on_test tagged Copies e at a b) (meaning.on_test e at m f g)
  test-stalls c st m (Gives (Some (Truth true))) at a b f g x y = x
  test-stalls c st m (Gives (Some (Truth false))) at a b f g x y = y
  test-stalls c st m (Gives _) at a b f g x y = tt
  test-stalls c st m (Traps k) at a b f g x y = λ e. absurd (let z : ⊥ = cc e in z)
  test-stalls c st m Mistyped at a b f g x y = tt

  -- one stretch after another
  pub then-stalls : (c : Code) (st : List Frame) (n : ℕ) (s : State) (r : Result) (go : Moment → Result) → Follows u fits c st n s r → EndsBy ByNothing r → Stalls r s
      → ((m : Moment) → m.turns ≤ n → Stalls (go m) (going u c st m)) → Stalls (then_do r go) s
  then-stalls c st n s (Well m) go f is x g = λ e. stops-along s (going u c st m) f.1 (g m f.0 e)
  then-stalls c st n s (Gave v m) go f is x g = absurd is
  then-stalls c st n s (Handed y v m) go f is x g = absurd is
  then-stalls c st n s (Fails e w p h) go f is x g = x
  then-stalls c st n s Full go f is x g = x
  then-stalls c st n s Stuck go f is x g = x
