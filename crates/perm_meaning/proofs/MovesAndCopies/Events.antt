-- Each event under moves is an event under copies, and so is each list of events.
use Rattle.std.proofs.Common.{◌≡◌, ℕ, true, [], ◌∷◌, Option, Some, None, refl, List, sym, ap, ◌∙◌, suc, Bool, false, subst, ◌-◌, ◌/◌}
use Rattle.std.specs.Prelude.{◌&&◌, not}
use Rattle.std.proofs.lemmas.Bool.{and_parts}
use Rattle.perm_tree.specs.Code.{Code, UnitCode}
use Rattle.perm_tree.specs.Mentions.{mentioned, written, block_mentions, block_writes}
use Rattle.perm_tree.specs.Vars.{Vars, those, minus}
use Rattle.perm_meaning.specs.NamedHeap.{memory, Final, State, Held, Own, marks, Heap, Branch, Task, Op, named}
use Rattle.perm_meaning.specs.Machine.{Way, final, look, Returning, Failing, Fork, Here, GoL, GoR, Stage, Over, Due, Did, Turn, Takes, NoTurn, stage, if_both_over, done, told_to, resumed, join_of, turn_op, leaf_op, leaf_on, fill}
use Rattle.perm_meaning.specs.Custody.{Copies, Moves, only, mentions_l, mentions_r, back_l, back_r, in_neither}
use Rattle.perm_meaning.specs.Steps.{Refused, runs, Answer, Found, Missing, answered, asked, step}
use Rattle.perm_meaning.specs.Expressions.{tagged}
use Rattle.perm_meaning.specs.Names.{Mark}
use Rattle.perm_meaning.specs.Effects.{Tick}
use Rattle.perm_meaning.specs.Turns.{turn}
use Rattle.perm_meaning.specs.Steady.{AreApart, stays_l, stays_r, IsSteadyCode, IsSteady}
use Rattle.perm_meaning.specs.HoldsFewer.{Frame, IsPart, AreParts, hidden, at_base, left_of, in_base, BranchHoldsFewer, going, gone, TaskHoldsFewer, leaf, fork, StateHoldsFewer, DidHoldsFewer, on, splits, ends, dies}
use Rattle.perm_meaning.proofs.Leads.{some-inj, none-some, then-some, then-at}
use Rattle.perm_meaning.proofs.OnWords.Related.{vars-length}
use Rattle.perm_meaning.proofs.MovesAndCopies.Parts.{parts-same, only-parts, parts-at}
use Rattle.perm_meaning.proofs.MovesAndCopies.Ends.{settled-fewer, StageHoldsFewer, stage-fewer, final-fewer, join-fewer, resumed-fewer}
use Rattle.perm_meaning.proofs.MovesAndCopies.Turns.{TurnHoldsFewer, turn-fewer}

module _ (u : UnitCode) (steady : IsSteady u) where
  -- ---------- leaves ----------
  -- a side begins: it holds no more than its parent
  stays-apart : (own : List ℕ) (a : Code) → AreApart (minus (block_mentions own a) (block_writes own a)) (written a)
  stays-apart own a x e = go (written a x) (those own x) (and_parts (mentioned a x) (not (those own x)) (and_parts (block_mentions own a x) (not (block_writes own a x)) e).0).1 (and_parts (block_mentions own a x) (not (block_writes own a x)) e).1
    where
      go : (w o : Bool) → not o ≡ true → not (w && not o) ≡ true → w ≡ false
      go true true e f = absurd (let no : ⊥ = cc e in no)
      go true false e f = absurd (let no : ⊥ = cc f in no)
      go false o e f = refl

  side-begins : (M S : Vars) (l : Own) (t d : ℕ) (g : Mark) (c : Code) (ws : List Held) → AreParts l.vars ws → IsSteadyCode c → AreApart S (written c)
      → BranchHoldsFewer S l.vars (record { own = record l { vars = only tagged M l.vars; depth = d; printed = []; mark = g }; turns = t; code = c; stack = []; close = None })
      (record { own = record l { vars = ws; depth = d; printed = []; mark = g }; turns = t; code = c; stack = []; close = None })
  side-begins M S l t d g c ws h s a = going (only-parts 0 M l.vars ws h) s (at_base (sym (vars-length IsPart l.vars ws h))) (in_base a (λ x q. parts-at (only tagged M l.vars) l.vars (only-parts 0 M l.vars l.vars (parts-same l.vars)) x))

  -- what a turn leaves
  done-fewer : {K : Vars} {vp : List Held} (l : Own) (t n : ℕ) (c : Code) (ws : List Held) (st st' : List Frame) → AreParts l.vars ws → (d e : Did Held Mark) → DidHoldsFewer K vp l ws st st' d e
      → TaskHoldsFewer K vp (done (named Moves u) (record { own = l; turns = t; code = c; stack = st; close = None }) n d) (done (named Copies u) (record { own = record l { vars = ws }; turns = t; code = c; stack = st'; close = None }) n e)
  done-fewer l t n c ws st st' h d e (on {n = m} {us = us} {c = c'} {sv = sv} q s b i) = leaf (settled-fewer u m n c st st' us sv m.vars us c' q s b i)
  done-fewer l t n c ws st st' h d e (splits {p = p} a b s q j r k i) =
      fork (only-parts 0 (in_neither (back_l u l.routine p) (back_r u l.routine p)) l.vars l.vars (parts-same l.vars)) h r k i q j s
      (leaf (side-begins (mentions_l p) (stays_l p) l (n - n / 2) (suc l.depth) (marks.to_left l.mark) p.left ws h a (stays-apart p.own_l p.left)))
      (leaf (side-begins (mentions_r p) (stays_r p) l (n / 2) (suc l.depth) (marks.to_right l.mark) p.right ws h b (stays-apart p.own_r p.right)))
  done-fewer l t n c ws st st' h d e ends = leaf gone
  done-fewer l t n c ws st st' h d e dies = leaf gone

  -- a turn
  told-fewer : {K : Vars} {vp : List Held} (l : Own) (t n : ℕ) (c : Code) (ws : List Held) (st st' : List Frame) → AreParts l.vars ws → (f g : Turn Held Mark Op) → TurnHoldsFewer K vp l ws st st' f g → (o : Op) → turn_op (named Moves u) f ≡ Some o
      → (turn_op (named Copies u) g ≡ Some o)
      × ((v : Option Held) → TaskHoldsFewer K vp (told_to (named Moves u) (record { own = l; turns = t; code = c; stack = st; close = None }) n f v) (told_to (named Copies u) (record { own = record l { vars = ws }; turns = t; code = c; stack = st'; close = None }) n g v))
  told-fewer l t n c ws st st' h NoTurn g k o e = none-some e
  told-fewer l t n c ws st st' h (Takes q told) NoTurn k o e = absurd k
  told-fewer {K} {vp} l t n c ws st st' h (Takes q told) (Takes p said) k o e = (ap (λ z. Some z) (sym k.0) ∙ e, go)
    where
      go : (v : Option Held) → TaskHoldsFewer K vp (told_to (named Moves u) (record { own = l; turns = t; code = c; stack = st; close = None }) n (Takes q told) v) (told_to (named Copies u) (record { own = record l { vars = ws }; turns = t; code = c; stack = st'; close = None }) n (Takes p said) v)
      go (Some v) = done-fewer l t n c ws st st' h (told v) (said v) (k.1 v)
      go None = leaf gone

  -- the event of a leaf
  abbrev LeafHoldsFewer : (K : Vars) (vp : List Held) → Branch → Branch → Stage Held → Stage Held → Op → Type 0
  LeafHoldsFewer K vp b c x y o = (leaf_op (named Copies u) c y ≡ Some o) × ((v : Option Held) → TaskHoldsFewer K vp (leaf_on (named Moves u) b x v) (leaf_on (named Copies u) c y v))

  leaf-fewer : {K : Vars} {vp : List Held} {b c : Branch} → BranchHoldsFewer K vp b c → (o : Op) → leaf_op (named Moves u) b (stage b) ≡ Some o → LeafHoldsFewer K vp b c (stage b) (stage c) o
  leaf-fewer {K} {vp} (going {l = l} {t = t} {c = c} {ws = ws} {st = st} {st' = st'} h s b i) o e = go (stage x) (stage y) (stage-fewer K vp (going h s b i)) e
    where
      x : Branch
      x = record { own = l; turns = t; code = c; stack = st; close = None }

      y : Branch
      y = record { own = record l { vars = ws }; turns = t; code = c; stack = st'; close = None }

      go : (z z' : Stage Held) → StageHoldsFewer K vp z z' → leaf_op (named Moves u) x z ≡ Some o → LeafHoldsFewer K vp x y z z' o
      go (Over f) z' k e = none-some e
      go (Due n) (Over f) k e = absurd k
      go (Due n) (Due m) k e = subst (λ z. LeafHoldsFewer K vp x y (Due n) (Due z) o) k (told-fewer l t n c ws st st' h (turn tagged Moves u marks c st l) (turn tagged Copies u marks c st' (record l { vars = ws })) (turn-fewer u steady l ws h c s b i) o e)
  leaf-fewer (gone {e = Returning v}) o e = none-some e
  leaf-fewer (gone {e = Failing f}) o e = none-some e

  -- ---------- trees ----------
  -- the other machine has the event too, and whatever both are told, the trees stay related
  abbrev pub EventHoldsFewer : Vars → List Held → Way → Task → Task → Op → Type 0
  EventHoldsFewer K vp w t s o = (look (named Copies u) w s ≡ Some o) × ((v : Option Held) → TaskHoldsFewer K vp (fill (named Moves u) w t v) (fill (named Copies u) w s v))

  pub event-fewer : {K : Vars} {vp : List Held} {t s : Task} → TaskHoldsFewer K vp t s → (w : Way) (o : Op) → look (named Moves u) w t ≡ Some o → EventHoldsFewer K vp w t s o
  event-fewer (leaf b) Here o e = leaf-fewer b o e
  event-fewer (leaf b) (GoL w) o e = none-some e
  event-fewer (leaf b) (GoR w) o e = none-some e
  event-fewer (fork h q s b i a j p x y) (GoL w) o e = let z = event-fewer x w o e in (z.0, λ v. fork h q s b i a j p (z.1 v) y)
  event-fewer (fork h q s b i a j p x y) (GoR w) o e = let z = event-fewer y w o e in (z.0, λ v. fork h q s b i a j p x (z.1 v))
  event-fewer {K} {vp} (fork {l = l} {t = t} {c = c} {os = os} {ws = ws} {st = st} {st' = st'} {p = p} {x = x} {y = y} {x' = x'} {y' = y'} h h' s b sd a ad q k r) Here o e = go (final x) (final y) refl refl e
    where
      m : Branch
      m = record { own = l; turns = t; code = c; stack = st; close = None }

      m' : Branch
      m' = record { own = record l { vars = ws }; turns = t; code = c; stack = st'; close = None }

      joined : (f g : Final) → Task
      joined f g = resumed (named Moves u) m (join_of (named Moves u) m p f g)

      joined' : (f g : Final) → Task
      joined' f g = resumed (named Copies u) m' (join_of (named Copies u) m' p f g)

      -- the ends of both sides, as they are
      at : (f g : Option Final) (f' g' : Option Final) → Type 0
      at f g f' g' =
          (if_both_over f' g' None (λ x y. Some Tick) ≡ Some o)
          × ((v : Option Held) → TaskHoldsFewer K vp (if_both_over f g (Fork m p x y) joined) (if_both_over f' g' (Fork m' p x' y') joined'))

      go : (f g : Option Final) → final x ≡ f → final y ≡ g → if_both_over f g None (λ x y. Some Tick) ≡ Some o → at (final x) (final y) (final x') (final y')
      go None g i j e = none-some e
      go (Some f) None i j e = none-some e
      go (Some f) (Some g) i j e =
          let f' = final-fewer _ _ k f i in
          let g' = final-fewer _ _ r g j in
          subst (λ z. at z (final y) (final x') (final y')) (sym i) (subst (λ z. at (Some f) z (final x') (final y')) (sym j)
          (subst (λ z. at (Some f) (Some g) z (final y')) (sym f'.1) (subst (λ z. at (Some f) (Some g) (Some f'.0) z) (sym g'.1)
          (e, λ v. resumed-fewer u l t c os ws s b sd (join_of (named Moves u) m p f g) (join_of (named Copies u) m' p f'.0 g'.0) (join-fewer u l l.routine p q os ws h h' (hidden st') (left_of K st) a ad l.printed f f'.0 g g'.0 f'.2 g'.2)))))

  -- ---------- states ----------
  module _ (fits : ℕ → Bool) {K : Vars} {vp : List Held} where
    pub step-fewer : (s s' s1 : State) (w : Way) → StateHoldsFewer K vp s s' → step (named Moves u) (memory u) fits s w ≡ Some s1 → (t : State) × (step (named Copies u) (memory u) fits s' w ≡ Some t) × StateHoldsFewer K vp s1 t
    step-fewer s s' s1 w h e = go (look (named Moves u) w s.task) refl e
      where
        go : (o : Option Op) → look (named Moves u) w s.task ≡ o → asked (named Moves u) (memory u) fits s w o ≡ Some s1 → (t : State) × (step (named Copies u) (memory u) fits s' w ≡ Some t) × StateHoldsFewer K vp s1 t
        go None i e = none-some e
        go (Some o) i e = found (found-at s.heap) refl e
          where
            ev : EventHoldsFewer K vp w s.task s'.task o
            ev = event-fewer h.0 w o i

            found-at : Heap → Answer Held
            found-at z = (memory u).find fits o z

            same : step (named Copies u) (memory u) fits s' w ≡ answered (named Copies u) (memory u) fits s' w o (found-at s.heap)
            same = ap (λ z. asked (named Copies u) (memory u) fits s' w z) ev.0 ∙ ap (λ z. answered (named Copies u) (memory u) fits s' w o (found-at z)) h.1

            found : (a : Answer Held) → found-at s.heap ≡ a → answered (named Moves u) (memory u) fits s w o a ≡ Some s1 → (t : State) × (step (named Copies u) (memory u) fits s' w ≡ Some t) × StateHoldsFewer K vp s1 t
            found (Found v) j e = (_, same ∙ ap (λ z. answered (named Copies u) (memory u) fits s' w o z) j, subst (λ z. StateHoldsFewer K vp z (record { task = fill (named Copies u) w s'.task (Some v); heap = (memory u).after fits o s'.heap })) (some-inj e) (ev.1 (Some v), ap (λ z. (memory u).after fits o z) h.1))
            found Refused j e = (_, same ∙ ap (λ z. answered (named Copies u) (memory u) fits s' w o z) j, subst (λ z. StateHoldsFewer K vp z (record { task = fill (named Copies u) w s'.task None; heap = (memory u).after fits o s'.heap })) (some-inj e) (ev.1 None, ap (λ z. (memory u).after fits o z) h.1))
            found Missing j e = none-some e

    pub runs-fewer : (es : List Way) (s s' s1 : State) → StateHoldsFewer K vp s s' → runs (step (named Moves u) (memory u) fits) es s ≡ Some s1 → (t : State) × (runs (step (named Copies u) (memory u) fits) es s' ≡ Some t) × StateHoldsFewer K vp s1 t
    runs-fewer [] s s' s1 h e = (s', refl, subst (λ z. StateHoldsFewer K vp z s') (some-inj e) h)
    runs-fewer (w ∷ es) s s' s1 h e =
        let a = then-some (step (named Moves u) (memory u) fits s w) (runs (step (named Moves u) (memory u) fits) es) s1 e in
        let b = step-fewer s s' a.0 w h a.1 in
        let c = runs-fewer es a.0 b.0 s1 b.2 a.2 in
        (c.0, then-at (step (named Copies u) (memory u) fits s' w) (runs (step (named Copies u) (memory u) fits) es) b.0 b.1 ∙ c.1, c.2)
