-- What holds without an event: a holder that turns to its right side leaves the tree as it is, and a piece at the root below no parents is the whole tree.
use Rattle.std.proofs.Common.{◌≡◌, ℕ, Option, Some, None, List, [], ◌∷◌, ◌++◌, refl, sym, ap, subst, ◌∙◌, inl, inr, arith}
use Rattle.std.specs.Prelude.{◌⊎◌}
use Rattle.perm_meaning.specs.Machine.{Leaf, Fork, Final, Machine, final}
use Rattle.perm_meaning.specs.Steps.{Lone, Run, KeptRight, KeptLeft, lone_task, turned, turned_if, AreOver}
use Rattle.perm_core.specs.Bag.{Picks, IsIn}
use Rattle.perm_core.specs.Pieces.{AtRoot, Piece, NumberedTree, One, Two, held_task, cut, numbers, AllOver}
use Rattle.perm_core.specs.PieceLaws.{piece, TurnsOne, TurnsRight, RootIsAll}
use Rattle.perm_core.proofs.Pieces.Bags.{picks-in, picks-mid, in-split}
use Rattle.perm_core.proofs.Pieces.Holes.{Round, Hole, OnLeft, OnRight, plug, foot_at, parents_at, before, behind, cut-plug, numbers-plug, over-plug, over-in, Spot, find}
use Rattle.perm_core.proofs.Pieces.RightSides.{right_of, EndsRightOf, EndsAt, feet}

module _ {V G : Type 0} where
  -- ---------- the turn to the right side ----------
  -- a holder that turns has the same tree
  pub turned-task : (x : Lone V G) → lone_task (turned x) ≡ lone_task x
  turned-task (Run b) = refl
  turned-task (KeptRight b p l r) = go (final (lone_task l)) l (turned l) (turned-task l)
    where
      go : (f : Option (Final V)) (l z : Lone V G) → lone_task z ≡ lone_task l → lone_task (turned_if f b p z r) ≡ Fork b p (lone_task l) (Leaf r)
      go None l z e = ap (λ t. Fork b p t (Leaf r)) e
      go (Some f) l (Run c) e = ap (λ t. Fork b p t (Leaf r)) e
      go (Some f) l (KeptRight c q x y) e = ap (λ t. Fork b p t (Leaf r)) e
      go (Some f) l (KeptLeft c q x y) e = ap (λ t. Fork b p t (Leaf r)) e
  turned-task (KeptLeft b p l r) = ap (λ t. Fork b p (Leaf l) t) (turned-task r)

  -- and the left sides that it keeps aside have ended
  turned-over : (x : Lone V G) → AreOver x → AreOver (turned x)
  turned-over (Run b) h = tt
  turned-over (KeptRight b p l r) h = go (final (lone_task l)) (turned l) (turned-over l h) (ap final (turned-task l))
    where
      go : (f : Option (Final V)) (z : Lone V G) → AreOver z → final (lone_task z) ≡ f → AreOver (turned_if f b p z r)
      go None z h e = h
      go (Some f) (Run c) h e = ((f, e), tt)
      go (Some f) (KeptRight c q x y) h e = h
      go (Some f) (KeptLeft c q x y) h e = h
  turned-over (KeptLeft b p l r) h = (h.0, turned-over r h.1)

  -- what has one tree has one tree in a hole too
  held-plug : (c : Round V G) (h k : NumberedTree V G) → held_task k ≡ held_task h → held_task (plug c k) ≡ held_task (plug c h)
  held-plug Hole h k e = e
  held-plug (OnLeft w c r) h k e = ap (λ t. Fork w.branch w.blocks t (held_task r)) (held-plug c h k e)
  held-plug (OnRight w l c) h k e = ap (λ t. Fork w.branch w.blocks (held_task l) t) (held-plug c h k e)

module _ {V G O : Type 0} (m : Machine V G O) where
  -- a holder in a hole turns to its right side
  turns-one : (c : Round V G) (x : Lone V G) → AllOver (plug c (One x)) → TurnsOne m (plug c (One x)) (piece m (foot_at AtRoot c) (parents_at [] c) x) (before AtRoot [] c ++ behind AtRoot [] c)
  turns-one c x over =
      record {
        after = plug c (One (turned x));
        task = held-plug c (One x) (One (turned x)) (turned-task x);
        same = numbers-plug c (One (turned x)) ∙ sym (numbers-plug c (One x));
        over = over-plug c (One x) (One (turned x)) over (turned-over x (over-in c (One x) over));
        held = subst (λ z. Picks p z (before AtRoot [] c ++ behind AtRoot [] c)) (sym (cut-plug c (One (turned x)) AtRoot [])) (picks-mid p (before AtRoot [] c) (behind AtRoot [] c));
      }
    where
      p : Piece V G
      p = piece m (foot_at AtRoot c) (parents_at [] c) (turned x)

  pub turns-right : TurnsRight m
  turns-right h x rest over q =
      subst (λ z. TurnsOne m h x z) (sym s.others)
      (subst (λ z. TurnsOne m h z (before AtRoot [] c ++ behind AtRoot [] c)) (λ i. piece m (s.foot_is i) (s.parents_are i) x.own)
      (subst (λ z. TurnsOne m z (piece m (foot_at AtRoot c) (parents_at [] c) x.own) (before AtRoot [] c ++ behind AtRoot [] c)) (sym s.is) (turns-one c x.own (subst (λ z. AllOver z) s.is over))))
    where
      s : Spot h AtRoot [] x rest
      s = find h AtRoot [] x rest q

      c : Round V G
      c = s.round

  -- ---------- the root ----------
  pub root-is-all : RootIsAll m
  root-is-all (One y) x rest (inl q) = (ap (λ (z : Piece V G). One z.own) (sym q.0), sym q.1)
  root-is-all (One y) x rest (inr q) = absurd q.2
  root-is-all (Two w l r) x rest q = absurd (go (in-split p (cut AtRoot (w ∷ []) l) (cut (right_of w.number) [] r) (picks-in p (cut AtRoot [] (Two w l r)) rest q)))
    where
      p : Piece V G
      p = piece m AtRoot [] x

      no_right : (ns : List ℕ) → EndsRightOf p ns → ⊥
      no_right ns h = let e = h.1 in cc

      left : EndsAt p AtRoot 1 ⊎ EndsRightOf p (numbers l) → ⊥
      left (inl h) = let more = h.1 in omega (arith, more)
      left (inr h) = no_right (numbers l) h

      right : EndsAt p (right_of w.number) 0 ⊎ EndsRightOf p (numbers r) → ⊥
      right (inl h) = let e = h.0 in cc
      right (inr h) = no_right (numbers r) h

      go : IsIn p (cut AtRoot (w ∷ []) l) ⊎ IsIn p (cut (right_of w.number) [] r) → ⊥
      go (inl k) = left (feet l AtRoot (w ∷ []) p k)
      go (inr k) = right (feet r (right_of w.number) [] p k)
