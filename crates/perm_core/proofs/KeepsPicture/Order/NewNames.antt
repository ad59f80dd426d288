-- After an event no object has a name that is still to be given.
use Rattle.std.proofs.Common.{◌≡◌, ℕ, suc, Bool, true, false, Option, Some, None, List, ◌∷◌, length, refl, sym, ap, subst, ◌∙◌, le_refl, arith, inl, inr}
use Rattle.perm_tree.specs.Code.{Code, While, UnitCode}
use Rattle.perm_tree.specs.declared.ast.Shape.{Shape}
use Rattle.perm_meaning.specs.Names.{Name, Side, OnLeft, OnRight, Mark, next_name, side_mark, after_par, after_object, same_name}
use Rattle.perm_meaning.specs.Objects.{Object, size, new_object, with_field, with_field_if, this_or}
use Rattle.perm_meaning.specs.Effects.{Tick, Load, Store, Take, Make}
use Rattle.perm_meaning.specs.Machine.{Frame, OpenBlock, OpenRecover, OpenCall, Leaf, Fork, Way, Final, Fine, GaveBack, Failed, Did, settled, done, resumed, join_of}
use Rattle.perm_meaning.specs.NamedHeap.{Held, Heap, Op, Own, Branch, Task, has_room, stored, allocated, after}
use Rattle.perm_meaning.specs.Values.{Value, Null}
use Rattle.perm_meaning.proofs.SameName.{name-true}
use Rattle.perm_core.specs.Core.{core}
use Rattle.perm_core.specs.Picture.{IsBelow, MayGive, next, later, MayBeGiven, path_of, PathsFit}
use Rattle.perm_core.proofs.Commute.NamesToCome.{below-itself, below-parent, below-length, one-side, left-not-right}
use Rattle.perm_core.proofs.Commute.TwoOperations.{Makes}
use Rattle.perm_core.proofs.KeepsPicture.Turns.LeafTurns.{Acts, declares, assigns, loads, measures, reads, takes, stores, writes, prints, TurnTo, dying, ending, acting, making, beginning, left_block, right_block, into_loop, out_of_loop, parting, recovering, giving, returning}
use Rattle.perm_core.proofs.KeepsPicture.Trees.TreeEvents.{EventAt, refused_leaf, told_leaf, joining, on_left, on_right}
use Rattle.perm_core.proofs.KeepsPicture.Order.Sides.{settled-path}

-- ---------- marks ----------
-- a branch that has made one object more, or begun one par more, may give fewer names
object-fewer : (m : Mark) (n : Name) → MayGive (after_object m) n → MayGive m n
object-fewer m _ (next c more) = next c (omega arith)
object-fewer m _ (later k c s p more below) = later k c s p more below

par-fewer : (m : Mark) (n : Name) → MayGive (after_par m) n → MayGive m n
par-fewer m _ (next c more) = next c more
par-fewer m _ (later k c s p more below) = later k c s p (omega arith) below

-- a side of the next par gives names that its parent might have given
side-fewer : (s : Side) (m : Mark) (n : Name) → MayGive (side_mark s m) n → MayGive m n
side-fewer s m _ (next c more) = later m.pars c s ((m.pars, s) ∷ m.path) (le_refl m.pars) (below-itself ((m.pars, s) ∷ m.path))
side-fewer s m _ (later k c t p more below) = later m.pars c s p (le_refl m.pars) (below-parent (k, t) ((m.pars, s) ∷ m.path) p below)

-- what a branch gives it names below its path
give-below : (m : Mark) (n : Name) → MayGive m n → IsBelow m.path n.by
give-below m _ (next c more) = below-itself m.path
give-below m _ (later k c s p more below) = below-parent (k, s) m.path p below

given-below : (t : Task) (n : Name) → PathsFit t → MayBeGiven t n → IsBelow (path_of t) n.by
given-below (Leaf b) n fit may = give-below b.own.mark n may
given-below (Fork b p l r) n fit (inl may) = give-below b.own.mark n may
given-below (Fork b p l r) n fit (inr (inl may)) = below-parent (fit.0, OnLeft) b.own.mark.path n.by (subst (λ q. IsBelow q n.by) fit.2 (given-below l n fit.4 may))
given-below (Fork b p l r) n fit (inr (inr may)) = below-parent (fit.0, OnRight) b.own.mark.path n.by (subst (λ q. IsBelow q n.by) fit.3 (given-below r n fit.5 may))

-- ---------- what was made ----------
-- a branch doesn't give again the name of the object that it has made
not-again : (m : Mark) (n : Name) → n ≡ next_name m → MayGive (after_object m) n → ⊥
not-again m _ e (next c more) = let same = ap (λ (k : Name). k.count) e in omega (arith, same, more)
not-again m _ e (later k c s p more below) =
    let less = below-length ((k, s) ∷ m.path) p below in
    let same = ap (λ (q : Name). length q.by) e in
    omega (arith, less, same)

-- a waiting parent gives no name below its sides
not-parents : (m : Mark) (k : ℕ) (s : Side) (n : Name) → m.pars ≡ suc k → IsBelow ((k, s) ∷ m.path) n.by → MayGive m n → ⊥
not-parents m k s _ e under (next c more) = let less = below-length ((k, s) ∷ m.path) m.path under in omega (arith, less)
not-parents m k s _ e under (later j c t p more below) = one-side (k, s) (j, t) m.path p (λ q. apart (ap (λ (x : ℕ × Side). x.0) q)) under below
  where
    apart : k ≡ j → ⊥
    apart q = omega (arith, q, e, more)

-- ---------- trees ----------
module _ (u : UnitCode) where
  on-fewer : (b : Branch) (t : ℕ) (l : Own) (n : Name) (c : Code) (st : List (Frame Held)) → MayGive (settled (core u) (record b { own = l; turns = t }) l.vars c st).own.mark n → MayGive l.mark n
  on-fewer b t l n c st may = subst (λ (m : Mark). MayGive m n) (settled-path u (record b { own = l; turns = t }) l.vars c st) may

  kept-mark : (b : Branch) (l : Own) (n : Name) → l.mark ≡ b.own.mark → MayGive l.mark n → MayGive b.own.mark n
  kept-mark b l n e may = subst (λ (m : Mark). MayGive m n) e may

  turn-fewer : (b : Branch) (t : ℕ) (w : Held) (c : Code) (st : List (Frame Held)) (o : Op) (d : Did Held Mark) (n : Name) → TurnTo u b.own w c st o d → MayBeGiven (done (core u) b t d) n → MayGive b.own.mark n
  turn-fewer b t w _ _ _ _ n (dying c st f) may = may
  turn-fewer b t w _ _ _ _ n (ending at a v q) may = may
  turn-fewer b t w _ _ _ _ n (acting at i rest st o vs l acts stays) may = kept-mark b l n stays.mark (on-fewer b t l n rest st may)
  turn-fewer b t w _ _ _ _ n (making at i rest st shape k x l is q) may = object-fewer b.own.mark n (subst (λ (z : Own). MayGive z.mark n) q (on-fewer b t l n rest st may))
  turn-fewer b t w _ _ _ _ n (beginning at rest st into tie consumed y m args r this found vs saved lent l c caller is code q1 q2 q3 goes) may = kept-mark b l n goes.mark (on-fewer b t l n c (OpenCall tie into y saved lent caller rest ∷ st) may)
  turn-fewer b t w _ _ _ _ n (left_block at x own1 a own2 a2 rest st) may = on-fewer b t b.own n a (OpenBlock own1 rest ∷ st) may
  turn-fewer b t w _ _ _ _ n (right_block at x own1 a own2 a2 rest st) may = on-fewer b t b.own n a2 (OpenBlock own2 rest ∷ st) may
  turn-fewer b t w _ _ _ _ n (into_loop at x own body rest st) may = on-fewer b t b.own n body (OpenBlock own (While at x own body rest) ∷ st) may
  turn-fewer b t w _ _ _ _ n (out_of_loop at x own body rest st) may = on-fewer b t b.own n rest st may
  turn-fewer b t w _ _ _ _ n (parting at own1 a own2 a2 rest st p same) (inl may) = par-fewer b.own.mark n may
  turn-fewer b t w _ _ _ _ n (parting at own1 a own2 a2 rest st p same) (inr (inl may)) = side-fewer OnLeft b.own.mark n may
  turn-fewer b t w _ _ _ _ n (parting at own1 a own2 a2 rest st p same) (inr (inr may)) = side-fewer OnRight b.own.mark n may
  turn-fewer b t w _ _ _ _ n (recovering at x own hides body rest st l saved goes q) may = kept-mark b l n goes.mark (on-fewer b t l n body (OpenRecover own hides saved rest ∷ st) may)
  turn-fewer b t w _ _ _ _ n (giving at y x own hides saved rest st v l had q goes) may = kept-mark b l n goes.mark (on-fewer b t l n rest st may)
  turn-fewer b t w _ _ _ _ n (returning at a tie into y saved lent caller rest st v l q goes) may = kept-mark b l n goes.mark (on-fewer b t l n rest st may)

  resumed-fewer : (b : Branch) (f : Final Held) (n : Name) → MayBeGiven (resumed (core u) b f) n → MayGive b.own.mark n
  resumed-fewer b (Fine vs t p) n may = subst (λ (m : Mark). MayGive m n) (settled-path u (record b { own = record b.own { printed = p }; turns = t }) vs b.code b.stack) may
  resumed-fewer b (GaveBack v t p) n may = may
  resumed-fewer b (Failed e t p) n may = may

  -- an event leaves no more names to be given
  pub gives-fewer : (o : Op) (v : Option Held) (w : Way) (t after : Task) (n : Name) → EventAt u o v w t after → MayBeGiven after n → MayBeGiven t n
  gives-fewer o v _ _ after n (refused_leaf b t _ q open_ same) may = subst (λ (z : Task). MayBeGiven z n) same may
  gives-fewer o v _ _ after n (told_leaf b t w d _ q open_ due turn same) may = turn-fewer b t w b.code b.stack o d n turn (subst (λ (z : Task). MayBeGiven z n) same may)
  gives-fewer o v _ _ after n (joining b p l r x y _ q left right same) may = inl (resumed-fewer b (join_of (core u) b p x y) n (subst (λ (z : Task). MayBeGiven z n) same may))
  gives-fewer o v _ _ _ n (on_left w b p l r after is) (inl may) = inl may
  gives-fewer o v _ _ _ n (on_left w b p l r after is) (inr (inl may)) = inr (inl (gives-fewer o v w l after n is may))
  gives-fewer o v _ _ _ n (on_left w b p l r after is) (inr (inr may)) = inr (inr may)
  gives-fewer o v _ _ _ n (on_right w b p l r after is) (inl may) = inl may
  gives-fewer o v _ _ _ n (on_right w b p l r after is) (inr (inl may)) = inr (inl may)
  gives-fewer o v _ _ _ n (on_right w b p l r after is) (inr (inr may)) = inr (inr (gives-fewer o v w r after n is may))

  -- what a turn makes, it names next, and doesn't give again
  turn-makes : (b : Branch) (t : ℕ) (w : Held) (c : Code) (st : List (Frame Held)) (o : Op) (d : Did Held Mark) (n : Name) → TurnTo u b.own w c st o d → Makes o n → (IsBelow b.own.mark.path n.by) × (MayBeGiven (done (core u) b t d) n → ⊥)
  turn-makes b t w _ _ _ _ n (dying c st f) made = absurd made
  turn-makes b t w _ _ _ _ n (ending at a v q) made = absurd made
  turn-makes b t w _ _ _ _ n (acting at i rest st o vs l acts stays) made = absurd (none acts made)
    where
      none : {w : Held} {i : _} {o : Op} {vs : List Held} → Acts u b.own w i o vs → Makes o n → ⊥
      none (declares x) made = made
      none (assigns x a v vs one) made = made
      none (loads x y f r n here) made = made
      none (measures x y r n here) made = made
      none (reads x y i r n f here) made = made
      none (takes x y f r n here) made = made
      none (stores y f a v vs r n one here) made = made
      none (writes y i e v z r n f e1 e2 here) made = made
      none (prints e) made = made
  turn-makes b t w _ _ _ _ n (making at i rest st shape k x l is q) made = (
    subst (λ (z : Name). IsBelow b.own.mark.path z.by) made (below-itself b.own.mark.path),
    λ may. not-again b.own.mark n (sym made) (subst (λ (m : Mark). MayGive m n) (settled-path u (record b { own = l; turns = t }) l.vars rest st ∙ ap (λ (z : Own). z.mark) q) may),
  )
  turn-makes b t w _ _ _ _ n (beginning at rest st into tie consumed y m args r this found vs saved lent l c caller is code q1 q2 q3 goes) made = absurd made
  turn-makes b t w _ _ _ _ n (left_block at x own1 a own2 a2 rest st) made = absurd made
  turn-makes b t w _ _ _ _ n (right_block at x own1 a own2 a2 rest st) made = absurd made
  turn-makes b t w _ _ _ _ n (into_loop at x own body rest st) made = absurd made
  turn-makes b t w _ _ _ _ n (out_of_loop at x own body rest st) made = absurd made
  turn-makes b t w _ _ _ _ n (parting at own1 a own2 a2 rest st p same) made = absurd made
  turn-makes b t w _ _ _ _ n (recovering at x own hides body rest st l saved goes q) made = absurd made
  turn-makes b t w _ _ _ _ n (giving at y x own hides saved rest st v l had q goes) made = absurd made
  turn-makes b t w _ _ _ _ n (returning at a tie into y saved lent caller rest st v l q goes) made = absurd made

  -- so no branch of the tree gives it again
  pub makes-new : (o : Op) (v : Option Held) (x : Held) (w : Way) (t after : Task) (n : Name) → v ≡ Some x → PathsFit t → EventAt u o v w t after → Makes o n → (IsBelow (path_of t) n.by) × (MayBeGiven after n → ⊥)
  makes-new o v x _ _ after n told fit (refused_leaf b t _ q open_ same) made = let clash : Some x ≡ None = sym told ∙ q in absurd (let no : ⊥ = cc clash in no)
  makes-new o v x _ _ after n told fit (told_leaf b t w d _ q open_ due turn same) made =
      let is = turn-makes b t w b.code b.stack o d n turn made in (is.0, λ may. is.1 (subst (λ (z : Task). MayBeGiven z n) same may))
  makes-new o v x _ _ after n told fit (joining b p l r y z _ q left right same) made = absurd (subst (λ (z : Op). Makes z n) q made)
  makes-new o v x _ _ _ n told fit (on_left w b p l r after is) made = both (makes-new o v x w l after n told fit.4 is made)
    where
      both : (IsBelow (path_of l) n.by) × (MayBeGiven after n → ⊥) → (IsBelow b.own.mark.path n.by) × (MayBeGiven (Fork b p after r) n → ⊥)
      both (below, none) = (below-parent (fit.0, OnLeft) b.own.mark.path n.by under, apart)
        where
          under : IsBelow ((fit.0, OnLeft) ∷ b.own.mark.path) n.by
          under = subst (λ q. IsBelow q n.by) fit.2 below

          apart : MayBeGiven (Fork b p after r) n → ⊥
          apart (inl may) = not-parents b.own.mark fit.0 OnLeft n fit.1 under may
          apart (inr (inl may)) = none may
          apart (inr (inr may)) = one-side (fit.0, OnLeft) (fit.0, OnRight) b.own.mark.path n.by (λ d. left-not-right (fit.0, OnLeft) (fit.0, OnRight) d refl refl) under (subst (λ q. IsBelow q n.by) fit.3 (given-below r n fit.5 may))
  makes-new o v x _ _ _ n told fit (on_right w b p l r after is) made = both (makes-new o v x w r after n told fit.5 is made)
    where
      both : (IsBelow (path_of r) n.by) × (MayBeGiven after n → ⊥) → (IsBelow b.own.mark.path n.by) × (MayBeGiven (Fork b p l after) n → ⊥)
      both (below, none) = (below-parent (fit.0, OnRight) b.own.mark.path n.by under, apart)
        where
          under : IsBelow ((fit.0, OnRight) ∷ b.own.mark.path) n.by
          under = subst (λ q. IsBelow q n.by) fit.3 below

          apart : MayBeGiven (Fork b p l after) n → ⊥
          apart (inl may) = not-parents b.own.mark fit.0 OnRight n fit.1 under may
          apart (inr (inl may)) = one-side (fit.0, OnLeft) (fit.0, OnRight) b.own.mark.path n.by (λ d. left-not-right (fit.0, OnLeft) (fit.0, OnRight) d refl refl) (subst (λ q. IsBelow q n.by) fit.2 (given-below l n fit.4 may)) under
          apart (inr (inr may)) = none may

-- ---------- heaps ----------
-- what isn't there isn't there after an operation, unless it makes it
put-none : (t : Bool) (f : ℕ) (v : Value Name) (x : Option (Object Name)) → x ≡ None → with_field_if t f v x ≡ None
put-none true f v x e = ap (with_field f v) e
put-none false f v x e = e

stored-none : (v : Held) (r : Name) (f : ℕ) (h : Heap) (n : Name) → h.objects n ≡ None → (stored v r f h).objects n ≡ None
stored-none None r f h n e = e
stored-none (Some v) r f h n e = put-none (same_name n r) f v (h.objects n) e

pub after-none : (u : UnitCode) (fits : ℕ → Bool) (o : Op) (h : Heap) (n : Name) → h.objects n ≡ None → ((by : Mark) (shape : Shape) (k : ℕ) → o ≡ Make by shape k → has_room fits k h ≡ true → next_name by ≡ n → ⊥) → (after u fits o h).objects n ≡ None
after-none u fits Tick h n e apart = e
after-none u fits (Load r f) h n e apart = e
after-none u fits (Store r f v) h n e apart = stored-none v r f h n e
after-none u fits (Take r f) h n e apart = stored-none (Some Null) r f h n e
after-none u fits (Make by shape k) h n e apart = by_room (has_room fits k h) (fits (size k)) refl
  where
    by_name : (t : Bool) → same_name n (next_name by) ≡ t → has_room fits k h ≡ true → this_or t (new_object u shape k) (h.objects n) ≡ None
    by_name true q room = absurd (apart by shape k refl room (sym (name-true n (next_name by) q)))
    by_name false q room = e

    by_room : (a b : Bool) → has_room fits k h ≡ a → (allocated a b u by shape k h).objects n ≡ None
    by_room true b room = by_name (same_name n (next_name by)) refl room
    by_room false true room = e
    by_room false false room = e
