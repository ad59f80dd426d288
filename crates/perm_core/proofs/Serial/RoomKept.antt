-- Only a refused allocation closes a branch for want of room: no list of events without a limit does.
use Rattle.std.proofs.Common.{◌≡◌, ◌≢◌, ℕ, zero, suc, Bool, true, false, Option, Some, None, List, [], ◌∷◌, refl, sym, ap, ◌∙◌, subst}
use Rattle.std.specs.Prelude.{ℤ, nat_lt, cond}
use Rattle.perm_tree.specs.declared.ast.Span.{Span}
use Rattle.perm_tree.specs.declared.errors.TrapKind.{TrapKind}
use Rattle.perm_tree.specs.declared.errors.TrapKind.TheVariants.{StackOverflow}
use Rattle.perm_tree.specs.Code.{Code, End, Give, Return, Do, If, While, Par, Recover, UnitCode}
use Rattle.perm_meaning.specs.Values.{Value, Eval, Gives, Traps, Mistyped}
use Rattle.perm_meaning.specs.Names.{Name, Mark}
use Rattle.perm_meaning.specs.Objects.{field_of}
use Rattle.perm_meaning.specs.Expressions.{tagged, look_up, clear_all, eval, value_of}
use Rattle.perm_meaning.specs.Effects.{Tick, Load, Store, Take, Make, Act, GoesOn, Calls, Halts, Resumption, Does, Sticks, depth_limit, effect}
use Rattle.perm_meaning.specs.Custody.{Moves}
use Rattle.perm_meaning.specs.Machine.{Frame, OpenBlock, OpenRecover, OpenCall, Failure, NoRoom, Trapped, NoTurns, Close, Returning, Failing, Blocks, Leaf, Fork, Way, Here, GoL, GoR, Fine, GaveBack, Failed, Stage, Over, Due, over, stage_by_turns, stage_by_code, stage_from, stage, final, worse, join_final, if_both_over, Did, On, Splits, Ends, Dies, Turn, Takes, NoTurn, settled, done, next_turn, told_to, leaf_on, resumed, join_of, fill}
use Rattle.perm_meaning.specs.NamedHeap.{Heap, Held, Op, Own, Branch, Task, Final, State, marks, memory, found, found_nothing, find}
use Rattle.perm_meaning.specs.Steps.{Answer, Found, Refused, Missing, runs, answered, asked}
use Rattle.perm_meaning.specs.Turns as turns
use Rattle.perm_meaning.specs.Turns.{acted, turn_of, returned, by_truth, on_test, given_back, turn}
use Rattle.perm_meaning.proofs.Leads.{some-inj, none-some, then-some}
use Rattle.perm_core.specs.Core.{core, look}
use Rattle.perm_core.proofs.Serial.FreeSteps.{no_limit, free_step}
use Rattle.perm_core.proofs.Serial.Refusals.{EndsFull}

-- ---------- turns ----------
-- a trap isn't want of room
trapped-otherwise : (k : TrapKind) (at : Span) → Trapped k at ≢ NoRoom
trapped-otherwise k at e = absurd (cc)

-- why a closed branch has failed, if it has
abbrev failure_of : Close Held → Failure
failure_of (Failing e) = e
failure_of (Returning v) = NoTurns

-- a branch doesn't die by it for want of room
abbrev DiesOtherwise : Did Held Mark → Type 0
DiesOtherwise (Dies e) = e ≢ NoRoom
DiesOtherwise _ = Unit {0}

-- nor by this turn, whatever it is told
abbrev EndsOtherwise : Turn Held Mark Op → Type 0
EndsOtherwise (Takes o told) = (v : Held) → DiesOtherwise (told v)
EndsOtherwise NoTurn = Unit {0}

acted-otherwise : (at : Span) (rest : Code) (st : List (Frame Held)) (a : Act Held Mark) → DiesOtherwise (acted tagged Moves at rest st a)
acted-otherwise at rest st (GoesOn l) = tt
acted-otherwise at rest st (Calls x l) = tt
acted-otherwise at rest st (Halts k) = trapped-otherwise k at

statement-otherwise : (at : Span) (rest : Code) (st : List (Frame Held)) (e : Resumption Held Name Mark) → EndsOtherwise (turn_of tagged Moves at rest st e)
statement-otherwise at rest st (Does o told) = λ v. acted-otherwise at rest st (told v)
statement-otherwise at rest st Sticks = tt

returned-otherwise : (v : Held) (st : List (Frame Held)) (l : Own) → EndsOtherwise (returned tagged Moves v st l)
returned-otherwise v [] l = λ w. tt
returned-otherwise v (OpenCall tie into y saved lent caller rest ∷ st) l = λ w. tt
returned-otherwise v (OpenBlock own rest ∷ st) l = tt
returned-otherwise v (OpenRecover own hides saved rest ∷ st) l = tt

given-otherwise : (e : Eval Held) (y x : ℕ) (st : List (Frame Held)) (l : Own) → EndsOtherwise (given_back tagged Moves e y x st l)
given-otherwise (Gives v) y x [] l = tt
given-otherwise (Gives v) y x (OpenCall tie into z saved lent caller rest ∷ st) l = tt
given-otherwise (Gives v) y x (OpenBlock own rest ∷ st) l = tt
given-otherwise (Gives v) y x (OpenRecover own hides saved rest ∷ st) l = λ w. tt
given-otherwise (Traps t) y x st l = tt
given-otherwise Mistyped y x st l = tt

test-otherwise : (e : Eval Held) (at : Span) (a b : Turn Held Mark Op) → EndsOtherwise a → EndsOtherwise b → EndsOtherwise (on_test tagged Moves e at a b)
test-otherwise (Gives v) at a b h k = go (tagged.as_truth v)
  where
    go : (t : Option Bool) → EndsOtherwise (by_truth tagged Moves t a b)
    go None = tt
    go (Some true) = h
    go (Some false) = k
test-otherwise (Traps t) at a b h k = λ w. trapped-otherwise t at
test-otherwise Mistyped at a b h k = tt

module _ (u : UnitCode) where
  turn-otherwise : (c : Code) (st : List (Frame Held)) (l : Own) → EndsOtherwise (turn tagged Moves u marks c st l)
  turn-otherwise End st l = tt
  turn-otherwise (Give at y x) st l = given-otherwise (look_up tagged l.vars y) y x st l
  turn-otherwise (Return at a) st l = go (value_of tagged a l.vars)
    where
      go : (e : Eval Held) → EndsOtherwise (turns.on_value tagged Moves e at (λ v. returned tagged Moves v st l))
      go (Gives v) = returned-otherwise v st l
      go (Traps t) = λ w. trapped-otherwise t at
      go Mistyped = tt
  turn-otherwise (Do at i rest) st l = statement-otherwise at rest st (effect tagged u marks i l)
  turn-otherwise (If at e own1 a own2 b rest) st l = test-otherwise (eval tagged e l.vars) at _ _ (λ w. tt) (λ w. tt)
  turn-otherwise (While at e own body rest) st l = test-otherwise (eval tagged e l.vars) at _ _ (λ w. tt) (λ w. tt)
  turn-otherwise (Par at own1 a own2 b rest) st l = go (nat_lt l.depth depth_limit)
    where
      go : (t : Bool) → EndsOtherwise (cond t (turns.tick tagged Moves (Splits (turns.blocks own1 a own2 b) rest)) (turns.trap tagged Moves at StackOverflow))
      go true = λ w. tt
      go false = λ w. trapped-otherwise StackOverflow at
  turn-otherwise (Recover at x own hides body rest) st l = λ w. tt

  -- ---------- trees ----------
  -- no branch is closed for want of room
  abbrev pub AllHaveRoom : Task → Type 0
  AllHaveRoom (Leaf b) = b.close ≢ Some (Failing NoRoom)
  AllHaveRoom (Fork b p l r) = (b.close ≢ Some (Failing NoRoom)) × AllHaveRoom l × AllHaveRoom r

  by-turns-otherwise : (n : ℕ) (l : Own) (f : Final) → over (stage_by_turns n l) ≡ Some f → EndsFull f → ⊥
  by-turns-otherwise zero l f e h = let x = subst (λ z. EndsFull z) (sym (some-inj e)) h in absurd (cc)
  by-turns-otherwise (suc n) l f e h = none-some e

  by-code-otherwise : (c : Code) (st : List (Frame Held)) (n : ℕ) (l : Own) (f : Final) → over (stage_by_code c st n l) ≡ Some f → EndsFull f → ⊥
  by-code-otherwise End [] n l f e h = subst (λ z. EndsFull z) (sym (some-inj e)) h
  by-code-otherwise End (g ∷ st) n l f e h = by-turns-otherwise n l f e h
  by-code-otherwise (Give at w x) st n l f e h = by-turns-otherwise n l f e h
  by-code-otherwise (Return at a) st n l f e h = by-turns-otherwise n l f e h
  by-code-otherwise (Do at i rest) st n l f e h = by-turns-otherwise n l f e h
  by-code-otherwise (If at x own1 a own2 b rest) st n l f e h = by-turns-otherwise n l f e h
  by-code-otherwise (While at x own a rest) st n l f e h = by-turns-otherwise n l f e h
  by-code-otherwise (Par at own1 a own2 b rest) st n l f e h = by-turns-otherwise n l f e h
  by-code-otherwise (Recover at x own hides a rest) st n l f e h = by-turns-otherwise n l f e h

  closed-otherwise : (c : Option (Close Held)) (b : Branch) (f : Final) → c ≢ Some (Failing NoRoom) → over (stage_from c (stage_by_code b.code b.stack b.turns b.own) b.turns b.own) ≡ Some f → EndsFull f → ⊥
  closed-otherwise None b f not e h = by-code-otherwise b.code b.stack b.turns b.own f e h
  closed-otherwise (Some (Returning v)) b f not e h = subst (λ z. EndsFull z) (sym (some-inj e)) h
  closed-otherwise (Some (Failing x)) b f not e h = not (ap (λ z. Some (Failing z)) (subst (λ z. EndsFull z) (sym (some-inj e)) h))

  pub roomy-ends : (t : Task) (f : Final) → AllHaveRoom t → final t ≡ Some f → EndsFull f → ⊥
  roomy-ends (Leaf b) f has e h = closed-otherwise b.close b f has e h
  roomy-ends (Fork b p l r) f has e h = none-some e

  worse-otherwise : (e f : Failure) → e ≢ NoRoom → f ≢ NoRoom → worse e f ≢ NoRoom
  worse-otherwise e NoRoom h k q = k refl
  worse-otherwise e NoTurns h k q = h q
  worse-otherwise e (Trapped t at) h k q = h q

  join-otherwise : (merge : List Held → List Held → List Held → List Held) (vs : List Held) (out : List ℤ) (x y : Final) → (EndsFull x → ⊥) → (EndsFull y → ⊥) → EndsFull (join_final merge vs out x y) → ⊥
  join-otherwise merge vs out (Fine ls t p) (Fine rs n q) h k e = e
  join-otherwise merge vs out (Fine ls t p) (GaveBack v n q) h k e = e
  join-otherwise merge vs out (Fine ls t p) (Failed f n q) h k e = k e
  join-otherwise merge vs out (GaveBack v t p) (Fine rs n q) h k e = e
  join-otherwise merge vs out (GaveBack v t p) (GaveBack w n q) h k e = e
  join-otherwise merge vs out (GaveBack v t p) (Failed f n q) h k e = k e
  join-otherwise merge vs out (Failed f t p) (Fine rs n q) h k e = h e
  join-otherwise merge vs out (Failed f t p) (GaveBack v n q) h k e = h e
  join-otherwise merge vs out (Failed f t p) (Failed g n q) h k e = worse-otherwise f g h k e

  pub settled-close : (b : Branch) (vs : List Held) (c : Code) (st : List (Frame Held)) → (settled (core u) b vs c st).close ≡ b.close
  settled-close b vs End [] = refl
  settled-close b vs End (OpenBlock own rest ∷ st) = settled-close b (clear_all tagged vs own) rest st
  settled-close b vs End (OpenRecover own hides saved rest ∷ st) = refl
  settled-close b vs End (OpenCall tie into y saved lent caller rest ∷ st) = refl
  settled-close b vs (Give at w x) st = refl
  settled-close b vs (Return at a) st = refl
  settled-close b vs (Do at i rest) st = refl
  settled-close b vs (If at x own1 a own2 d rest) st = refl
  settled-close b vs (While at x own a rest) st = refl
  settled-close b vs (Par at own1 a own2 d rest) st = refl
  settled-close b vs (Recover at x own hides a rest) st = refl

  resumed-room : (b : Branch) (f : Final) → b.close ≢ Some (Failing NoRoom) → (EndsFull f → ⊥) → AllHaveRoom (resumed (core u) b f)
  resumed-room b (Fine vs t p) open_ not = λ e. open_ (sym (settled-close (record b { own = record b.own { printed = p }; turns = t }) vs b.code b.stack) ∙ e)
  resumed-room b (GaveBack v t p) open_ not = λ e. let x = some-inj e in absurd (cc)
  resumed-room b (Failed e t p) open_ not = λ q. not (ap failure_of (some-inj q))

  done-room : (b : Branch) (t : ℕ) (d : Did Held Mark) → b.close ≢ Some (Failing NoRoom) → DiesOtherwise d → AllHaveRoom (done (core u) b t d)
  done-room b t (On l c st) open_ h = λ e. open_ (sym (settled-close (record b { own = l; turns = t }) l.vars c st) ∙ e)
  done-room b t (Splits p rest) open_ h = (open_, (λ e. none-some e), (λ e. none-some e))
  done-room b t (Ends v) open_ h = λ e. let x = some-inj e in absurd (cc)
  done-room b t (Dies e) open_ h = λ q. h (ap failure_of (some-inj q))

  told-room : (b : Branch) (t : ℕ) (x : Turn Held Mark Op) (v : Held) → b.close ≢ Some (Failing NoRoom) → EndsOtherwise x → AllHaveRoom (told_to (core u) b t x (Some v))
  told-room b t NoTurn v open_ h = open_
  told-room b t (Takes o told) v open_ h = done-room b t (told v) open_ (h v)

  leaf-room : (b : Branch) (s : Stage Held) (v : Held) → b.close ≢ Some (Failing NoRoom) → AllHaveRoom (leaf_on (core u) b s (Some v))
  leaf-room b (Over f) v open_ = open_
  leaf-room b (Due t) v open_ = told-room b t (next_turn (core u) b) v open_ (turn-otherwise b.code b.stack b.own)

  join-room : (b : Branch) (p : Blocks) (l r : Task) (x y : Option Final) → final l ≡ x → final r ≡ y → AllHaveRoom (Fork b p l r) → AllHaveRoom (if_both_over x y (Fork b p l r) (λ x y. resumed (core u) b (join_of (core u) b p x y)))
  join-room b p l r (Some x) (Some y) e f h =
      resumed-room b (join_of (core u) b p x y) h.0 (join-otherwise ((core u).parting.joined b.own.routine p) b.own.vars b.own.printed x y (roomy-ends l x h.1 e) (roomy-ends r y h.2 f))
  join-room b p l r (Some x) None e f h = h
  join-room b p l r None y e f h = h

  -- an event that isn't refused closes no branch for want of room
  fill-room : (w : Way) (t : Task) (v : Held) → AllHaveRoom t → AllHaveRoom (fill (core u) w t (Some v))
  fill-room Here (Leaf b) v h = leaf-room b (stage b) v h
  fill-room Here (Fork b p l r) v h = join-room b p l r (final l) (final r) refl refl h
  fill-room (GoL w) (Leaf b) v h = h
  fill-room (GoL w) (Fork b p l r) v h = (h.0, fill-room w l v h.1, h.2)
  fill-room (GoR w) (Leaf b) v h = h
  fill-room (GoR w) (Fork b p l r) v h = (h.0, h.1, fill-room w r v h.2)

  -- ---------- lists ----------
  found-unrefused : (x : Option (Value Name)) → found x ≡ Refused → ⊥
  found-unrefused None e = absurd (cc)
  found-unrefused (Some v) e = absurd (cc)

  nothing-unrefused : (x : Option (Value Name)) → found_nothing x ≡ Refused → ⊥
  nothing-unrefused None e = absurd (cc)
  nothing-unrefused (Some v) e = absurd (cc)

  never-refused : (o : Op) (h : Heap) → find no_limit o h ≡ Refused → ⊥
  never-refused Tick h e = absurd (cc)
  never-refused (Load r f) h e = found-unrefused (field_of h.objects r f) e
  never-refused (Store r f v) h e = nothing-unrefused (field_of h.objects r f) e
  never-refused (Take r f) h e = found-unrefused (field_of h.objects r f) e
  never-refused (Make by shape n) h e = absurd (cc)

  free-room : (s t : State) (w : Way) → AllHaveRoom s.task → free_step u s w ≡ Some t → AllHaveRoom t.task
  free-room s t w has = go (look u w s.task)
    where
      reply : (o : Op) (x : Answer Held) → find no_limit o s.heap ≡ x → answered (core u) (memory u) no_limit s w o x ≡ Some t → AllHaveRoom t.task
      reply o (Found v) q e = subst (λ (z : State). AllHaveRoom z.task) (some-inj e) (fill-room w s.task v has)
      reply o Refused q e = absurd (never-refused o s.heap q)
      reply o Missing q e = none-some e

      go : (o : Option Op) → asked (core u) (memory u) no_limit s w o ≡ Some t → AllHaveRoom t.task
      go None e = none-some e
      go (Some o) e = reply o (find no_limit o s.heap) refl e

  pub free-runs-room : (ws : List Way) (s t : State) → AllHaveRoom s.task → runs (free_step u) ws s ≡ Some t → AllHaveRoom t.task
  free-runs-room [] s t has e = subst (λ (z : State). AllHaveRoom z.task) (some-inj e) has
  free-runs-room (w ∷ ws) s t has e = let a = then-some (free_step u s w) (runs (free_step u) ws) t e in free-runs-room ws a.0 t (free-room s a.0 w has a.1) a.2
