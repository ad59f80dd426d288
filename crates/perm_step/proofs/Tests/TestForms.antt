-- The steps of tests: an `if` and a `while`.
use Rattle.std.proofs.Common.{◌≡◌, ◌≢◌, ℕ, suc, ◌<◌, true, false, Bool, ◌∷◌, ◌++◌, length, Some, None, refl, ap, subst, ◌∙◌, inl, inr, arith}
use Rattle.std.specs.Prelude.{nat_eq, not, slice_get}
use Rattle.perm_tree.specs.declared.ast.Span.{Span}
use Rattle.perm_tree.specs.declared.bodies.Action.TheVariants as actions
use Rattle.perm_tree.specs.declared.bodies.Bodies.{Bodies}
use Rattle.perm_tree.specs.declared.bodies.Expression.{Expression}
use Rattle.perm_tree.specs.declared.bodies.Step.{Step}
use Rattle.perm_tree.specs.BodyTerms.{expression_term}
use Rattle.perm_tree.specs.Code.{Code, If, While, UnitCode}
use Rattle.perm_tree.specs.Links.{AreBodiesOf, InBlock, Spot, spot_of}
use Rattle.perm_meaning.specs.Custody.{Copies}
use Rattle.perm_meaning.specs.Effects.{Tick}
use Rattle.perm_meaning.specs.Expressions.{eval}
use Rattle.perm_meaning.specs.Machine.{On, OpenBlock, Leaf as MachineLeaf, Did, turn_op}
use Rattle.perm_meaning.specs.Turns.{by_truth, on_test, tick}
use Rattle.perm_meaning.specs.Values.{Eval, Gives, Traps, Mistyped}
use Rattle.perm_meaning.specs.WordHeap.{Ask as HeapAsk, NoMark, worded}
use Rattle.perm_meaning.specs.Words.{words}
use Rattle.perm_step.specs.declared.ask.Ask.{Ask}
use Rattle.perm_step.specs.declared.control.Leaf.{Leaf}
use Rattle.perm_step.specs.declared.control.Stop.TheVariants as stops
use Rattle.perm_step.specs.Events.{IsLively, IsSound, NextAsks, NextMakes}
use Rattle.perm_step.specs.Given.{ExpressionGives}
use Rattle.perm_step.specs.HeapAsks.{Asks, IsAskFor}
use Rattle.perm_step.specs.LeafMoves.{Proceeds, spent}
use Rattle.perm_step.specs.Standing.{below_of, branch_of, frames_of, leaf_branch}
use Rattle.perm_step.specs.StepMoves.{way}
use Rattle.perm_step.specs.Working.{Working, locals}
use Rattle.perm_step.proofs.WordMachine.Moves.{choice_traps, chooses, falls, leaves, loops, loop_traps}
use Rattle.perm_step.proofs.Tests.TestSound.{sound-goes}
use Rattle.perm_step.proofs.Tests.TestSteps.{ComesTo, LinkOf, asks-nothing, comes-to, has-moved, link-of, way-first, way-other}
use Rattle.perm_step.proofs.Tests.TestTurns.{asks-there, below-calls, deaf-test, fails, given-is, lands, lively-there, makes-there, own_of, trap-is}

module _ (u : UnitCode) where
  -- a test that has a truth value asks nothing
  truth-ticks : (o : Bool) (first second : Did ℕ NoMark) → turn_op (worded Copies u) (by_truth words Copies (Some o) (tick words Copies first) (tick words Copies second)) ≡ Some Tick
  truth-ticks true first second = refl
  truth-ticks false first second = refl

  -- a test that isn't stuck asks nothing
  test-ticks : (e : Eval ℕ) (at : Span) (first second : Did ℕ NoMark) → turn_op (worded Copies u) (on_test words Copies e at (tick words Copies first) (tick words Copies second)) ≢ None
      → turn_op (worded Copies u) (on_test words Copies e at (tick words Copies first) (tick words Copies second)) ≡ Some Tick
  test-ticks (Gives v) at first second lively = truth-ticks (not (nat_eq v 0)) first second
  test-ticks (Traps k) at first second lively = refl
  test-ticks Mistyped at first second lively = absurd (lively refl)

  -- nor is it mistyped
  test-typed : (e : Eval ℕ) (at : Span) (first second : Did ℕ NoMark) → turn_op (worded Copies u) (on_test words Copies e at (tick words Copies first) (tick words Copies second)) ≢ None → e ≡ Mistyped → ⊥
  test-typed e at first second lively is = lively (ap (λ e. turn_op (worded Copies u) (on_test words Copies e at (tick words Copies first) (tick words Copies second))) is)

module _ (u : UnitCode) (b : Bodies) (w : AreBodiesOf u b) (c : Working) (s : Step) (there : slice_get b.steps c.at ≡ Some s) (t : ℕ) (due : c.turns ≡ suc t) (lively : IsLively u (branch_of w.spot c)) where
  -- what an expression gives
  abbrev value_at : Expression → Eval ℕ
  value_at e = eval words (expression_term b.operations e) (locals c)

  -- a test that gives a word leads to one of two places
  abbrev MakesBy : ℕ → Leaf → Type 0
  MakesBy v new = NextMakes u (branch_of w.spot c) (Some v) (MachineLeaf (leaf_branch w.spot new))

  -- ---------- `if` ----------
  module _ (e : Expression) (other : ℕ) (link : LinkOf u b w c s there (actions.If e other)) where
    abbrev if_code : Code
    if_code = If s.span (expression_term b.operations e) link.own1 link.yes link.own2 link.no link.rest

    abbrev if_first : Did ℕ NoMark
    if_first = On (own_of u w.spot c) link.yes (OpenBlock link.own1 link.rest ∷ (frames_of (w.spot c.at).within ++ below_of w.spot c))

    abbrev if_second : Did ℕ NoMark
    if_second = On (own_of u w.spot c) link.no (OpenBlock link.own2 link.rest ∷ (frames_of (w.spot c.at).within ++ below_of w.spot c))

    -- its turn asks nothing
    if-asks : NextAsks u (branch_of w.spot c) Tick
    if-asks = asks-there u w.spot c t if_code Tick due link.code (test-ticks u (value_at e) s.span if_first if_second (lively-there u w.spot c t if_code due link.code lively))

    -- its condition isn't mistyped
    if-typed : value_at e ≡ Mistyped → ⊥
    if-typed = test-typed u (value_at e) s.span if_first if_second (lively-there u w.spot c t if_code due link.code lively)

    -- where the condition gives a word, it leads to a block
    if-goes : (v word : ℕ) (new : Leaf) → ExpressionGives b.operations (locals c) e word → new.ending ≡ None → new.control ≡ record (spent c) { at = way word s.next other } → MakesBy v new
    if-goes v word new gives on is = by (nat_eq word 0) refl
      where
        given : value_at e ≡ Gives word
        given = given-is (value_at e) word gives if-typed

        by : (q : Bool) → nat_eq word 0 ≡ q → MakesBy v new
        by false holds =
            makes-there u w.spot c t if_code _ (MachineLeaf (leaf_branch w.spot new)) due link.code (deaf-test (value_at e) s.span if_first if_second)
            (chooses u (own_of u w.spot c) t (w.spot c.at).within (below_of w.spot c) (below-calls u w.spot c) s.span (expression_term b.operations e) link.own1 link.yes link.own2 link.no link.rest word given holds)
            (lands u w.spot c t (spot_of (w.spot c.at).routine link.yes (InBlock link.own1 link.rest ∷ (w.spot c.at).within)) (locals c) (record (spent c) { at = way word s.next other }) new (ap w.spot (way-first word s.next other holds) ∙ link.first.1) refl refl refl refl (omega arith) on is) v
        by true fails =
            makes-there u w.spot c t if_code _ (MachineLeaf (leaf_branch w.spot new)) due link.code (deaf-test (value_at e) s.span if_first if_second)
            (falls u (own_of u w.spot c) t (w.spot c.at).within (below_of w.spot c) (below-calls u w.spot c) s.span (expression_term b.operations e) link.own1 link.yes link.own2 link.no link.rest word given fails)
            (lands u w.spot c t (spot_of (w.spot c.at).routine link.no (InBlock link.own2 link.rest ∷ (w.spot c.at).within)) (locals c) (record (spent c) { at = way word s.next other }) new (ap w.spot (way-other word s.next other fails) ∙ link.second.1) refl refl refl refl (omega arith) on is) v

    -- whatever comes of it is what the machine makes
    if-makes : (v : ℕ) (new : Leaf) → ComesTo u b w c s there (actions.If e other) v new → MakesBy v new
    if-makes v new (inl (on, (word, gives, goes))) = if-goes v word new gives on goes
    if-makes v new (inr (stops.Returned word, never, is)) = absurd never
    if-makes v new (inr (stops.Trap k, traps, is)) =
        makes-there u w.spot c t if_code _ (MachineLeaf (leaf_branch w.spot new)) due link.code (deaf-test (value_at e) s.span if_first if_second)
        (choice_traps u (own_of u w.spot c) t (w.spot c.at).within (below_of w.spot c) (below-calls u w.spot c) s.span (expression_term b.operations e) link.own1 link.yes link.own2 link.no link.rest k (trap-is (value_at e) k traps if-typed))
        (fails u w.spot c t if_code k s.span new due is) v

  -- an `if` asks nothing
  pub if-asks-next : (e : Expression) (other : ℕ) → s.action ≡ actions.If e other → (q : Ask) → Asks b (locals c) c.depth s.action q → (o : HeapAsk) × NextAsks u (branch_of w.spot c) o × IsAskFor q o
  if-asks-next e other is q asks = asks-nothing u b w c s there q (subst (λ a. Asks b (locals c) c.depth a q) is asks) (if-asks e other (link-of u b w c s there (actions.If e other) is))

  -- and leads to one of its blocks, or traps
  pub if-makes-next : (e : Expression) (other : ℕ) → s.action ≡ actions.If e other → (v : ℕ) (new : Leaf) → Proceeds b s v (record { control = c; ending = None }) new → MakesBy v new
  if-makes-next e other is v new comes = if-makes e other (link-of u b w c s there (actions.If e other) is) v new (comes-to u b w c s there (actions.If e other) is v new comes)

  -- ---------- `while` ----------
  module _ (e : Expression) (first : ℕ) (link : LinkOf u b w c s there (actions.While e first)) where
    abbrev while_code : Code
    while_code = While s.span (expression_term b.operations e) link.own link.body link.rest

    abbrev while_first : Did ℕ NoMark
    while_first = On (own_of u w.spot c) link.body (OpenBlock link.own while_code ∷ (frames_of (w.spot c.at).within ++ below_of w.spot c))

    abbrev while_second : Did ℕ NoMark
    while_second = On (own_of u w.spot c) link.rest (frames_of (w.spot c.at).within ++ below_of w.spot c)

    -- its turn asks nothing
    while-asks : NextAsks u (branch_of w.spot c) Tick
    while-asks = asks-there u w.spot c t while_code Tick due link.code (test-ticks u (value_at e) s.span while_first while_second (lively-there u w.spot c t while_code due link.code lively))

    -- its condition isn't mistyped
    while-typed : value_at e ≡ Mistyped → ⊥
    while-typed = test-typed u (value_at e) s.span while_first while_second (lively-there u w.spot c t while_code due link.code lively)

    -- the body leads back to the loop
    again : w.spot first ≡ spot_of (w.spot c.at).routine link.body (InBlock link.own while_code ∷ (w.spot c.at).within)
    again = link.again.1 ∙ ap (λ (x : Code). spot_of (w.spot c.at).routine link.body (InBlock link.own x ∷ (w.spot c.at).within)) link.code

    -- where the condition gives a word, it leads to the body or on
    while-goes : (v word : ℕ) (new : Leaf) → ExpressionGives b.operations (locals c) e word → new.ending ≡ None → new.control ≡ record (spent c) { at = way word first s.next } → MakesBy v new
    while-goes v word new gives on is = by (nat_eq word 0) refl
      where
        given : value_at e ≡ Gives word
        given = given-is (value_at e) word gives while-typed

        by : (q : Bool) → nat_eq word 0 ≡ q → MakesBy v new
        by false holds =
            makes-there u w.spot c t while_code _ (MachineLeaf (leaf_branch w.spot new)) due link.code (deaf-test (value_at e) s.span while_first while_second)
            (loops u (own_of u w.spot c) t (w.spot c.at).within (below_of w.spot c) (below-calls u w.spot c) s.span (expression_term b.operations e) link.own link.body link.rest word given holds)
            (lands u w.spot c t (spot_of (w.spot c.at).routine link.body (InBlock link.own while_code ∷ (w.spot c.at).within)) (locals c) (record (spent c) { at = way word first s.next }) new (ap w.spot (way-first word first s.next holds) ∙ again) refl refl refl refl (omega arith) on is) v
        by true fails =
            makes-there u w.spot c t while_code _ (MachineLeaf (leaf_branch w.spot new)) due link.code (deaf-test (value_at e) s.span while_first while_second)
            (leaves u (own_of u w.spot c) t (w.spot c.at).within (below_of w.spot c) (below-calls u w.spot c) s.span (expression_term b.operations e) link.own link.body link.rest word given fails)
            (lands u w.spot c t (spot_of (w.spot c.at).routine link.rest (w.spot c.at).within) (locals c) (record (spent c) { at = way word first s.next }) new (ap w.spot (way-other word first s.next fails) ∙ link.after.1) refl refl refl refl (omega arith) on is) v

    -- whatever comes of it is what the machine makes
    while-makes : (v : ℕ) (new : Leaf) → ComesTo u b w c s there (actions.While e first) v new → MakesBy v new
    while-makes v new (inl (on, (word, gives, goes))) = while-goes v word new gives on goes
    while-makes v new (inr (stops.Returned word, never, is)) = absurd never
    while-makes v new (inr (stops.Trap k, traps, is)) =
        makes-there u w.spot c t while_code _ (MachineLeaf (leaf_branch w.spot new)) due link.code (deaf-test (value_at e) s.span while_first while_second)
        (loop_traps u (own_of u w.spot c) t (w.spot c.at).within (below_of w.spot c) (below-calls u w.spot c) s.span (expression_term b.operations e) link.own link.body link.rest k (trap-is (value_at e) k traps while-typed))
        (fails u w.spot c t while_code k s.span new due is) v

  -- a `while` asks nothing
  pub while-asks-next : (e : Expression) (first : ℕ) → s.action ≡ actions.While e first → (q : Ask) → Asks b (locals c) c.depth s.action q → (o : HeapAsk) × NextAsks u (branch_of w.spot c) o × IsAskFor q o
  while-asks-next e first is q asks = asks-nothing u b w c s there q (subst (λ a. Asks b (locals c) c.depth a q) is asks) (while-asks e first (link-of u b w c s there (actions.While e first) is))

  -- and leads to its body or on, or traps
  pub while-makes-next : (e : Expression) (first : ℕ) → s.action ≡ actions.While e first → (v : ℕ) (new : Leaf) → Proceeds b s v (record { control = c; ending = None }) new → MakesBy v new
  while-makes-next e first is v new comes = while-makes e first (link-of u b w c s there (actions.While e first) is) v new (comes-to u b w c s there (actions.While e first) is v new comes)

-- ---------- soundness ----------
module _ (u : UnitCode) (b : Bodies) (w : AreBodiesOf u b) (c : Working) (s : Step) (there : slice_get b.steps c.at ≡ Some s) (m v : ℕ) (new : Leaf) (sound : IsSound u w.spot b m c) (runs : new.ending ≡ None) where
  -- the branch is sound at one of two places of its method
  goes-one-way : (first other : ℕ) → first < length b.steps → (w.spot first).routine ≡ (w.spot c.at).routine → other < length b.steps → (w.spot other).routine ≡ (w.spot c.at).routine
      → (word : ℕ) → new.control ≡ record (spent c) { at = way word first other } → IsSound u w.spot b m new.control
  goes-one-way first other here method here_too method_too word goes = by (nat_eq word 0) refl
    where
      by : (q : Bool) → nat_eq word 0 ≡ q → IsSound u w.spot b m new.control
      by false holds =
          let to = way-first word first other holds in
          sound-goes u w.spot b m c first new.control sound here method (goes ∙ ap (λ n. record (spent c) { at = n }) to)
      by true fails =
          let to = way-other word first other fails in
          sound-goes u w.spot b m c other new.control sound here_too method_too (goes ∙ ap (λ n. record (spent c) { at = n }) to)

  -- after an `if` the branch is sound
  pub if-keeps-sound : (e : Expression) (other : ℕ) → s.action ≡ actions.If e other → Proceeds b s v (record { control = c; ending = None }) new → IsSound u w.spot b m new.control
  if-keeps-sound e other is comes =
      let link = link-of u b w c s there (actions.If e other) is in
      let moved = has-moved u b w c s there (actions.If e other) v new (comes-to u b w c s there (actions.If e other) is v new comes) runs in
      goes-one-way s.next other link.first.0 (ap (λ (x : Spot). x.routine) link.first.1) link.second.0 (ap (λ (x : Spot). x.routine) link.second.1) moved.0 moved.2

  -- so it is after a `while`
  pub while-keeps-sound : (e : Expression) (first : ℕ) → s.action ≡ actions.While e first → Proceeds b s v (record { control = c; ending = None }) new → IsSound u w.spot b m new.control
  while-keeps-sound e first is comes =
      let link = link-of u b w c s there (actions.While e first) is in
      let moved = has-moved u b w c s there (actions.While e first) v new (comes-to u b w c s there (actions.While e first) is v new comes) runs in
      goes-one-way first s.next link.again.0 (ap (λ (x : Spot). x.routine) link.again.1) link.after.0 (ap (λ (x : Spot). x.routine) link.after.1) moved.0 moved.2
