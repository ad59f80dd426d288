-- A number is borne by one parent: so the piece at the foot of its right side and the pieces below its left side stand under that parent.
use Rattle.std.proofs.Common.{◌≡◌, ℕ, Some, List, [], ◌∷◌, ◌++◌, length, refl, sym, ap, subst, ◌∙◌, ◌≤◌, le_refl, arith, inl, inr, append_assoc, append-nil}
use Rattle.std.specs.Prelude.{◌⊎◌}
use Rattle.perm_meaning.specs.Steps.{Lone}
use Rattle.perm_core.specs.Bag.{Picks, IsIn, IsDistinct}
use Rattle.perm_core.specs.Pieces.{Foot, AtRoot, OnRightSide, Numbered, Piece, NumberedTree, One, Two, cut, pieces, numbers}
use Rattle.perm_core.proofs.Pieces.Bags.{picks-split, picks-in, in-left, in-right, in-split, distinct-out}
use Rattle.perm_core.proofs.Pieces.Holes.{Round, Hole, OnLeft, OnRight, plug, foot_at, parents_at, before, behind, numbers_before, numbers_behind, numbers-plug, Spot, find}

-- the foot of the right side of this number
abbrev pub right_of : ℕ → Foot
right_of n = OnRightSide (Some n)

same-number : {n k : ℕ} → right_of n ≡ right_of k → n ≡ k
same-number e = cc

module _ {V G : Type 0} where
  -- the stem of the piece ends at the right side of one of these numbers
  abbrev pub EndsRightOf : Piece V G → List ℕ → Type 0
  EndsRightOf p ns = (n : ℕ) × (p.foot ≡ right_of n) × IsIn n ns

  -- it ends here, below at least so many parents
  abbrev pub EndsAt : Piece V G → Foot → ℕ → Type 0
  EndsAt p foot n = (p.foot ≡ foot) × (n ≤ length p.parents)

  wider : (p : Piece V G) (ns ms : List ℕ) → ((n : ℕ) → IsIn n ns → IsIn n ms) → EndsRightOf p ns → EndsRightOf p ms
  wider p ns ms f h = (h.0, h.1, f h.0 h.2)

  -- ---------- where the stems of the pieces end ----------
  pub feet : (h : NumberedTree V G) (foot : Foot) (up : List (Numbered V G)) (p : Piece V G) → IsIn p (cut foot up h) → EndsAt p foot (length up) ⊎ EndsRightOf p (numbers h)
  feet (One x) foot up p (inl q) = inl (ap (λ (z : Piece V G). z.foot) q, subst (λ (z : Piece V G). length up ≤ length z.parents) (sym q) (le_refl (length up)))
  feet (One x) foot up p (inr q) = absurd q
  feet (Two w l r) foot up p q = go (λ q. feet l foot (w ∷ up) p q) (λ q. feet r (right_of w.number) [] p q) (in-split p (cut foot (w ∷ up) l) (cut (right_of w.number) [] r) q)
    where
      left : EndsAt p foot (length (w ∷ up)) ⊎ EndsRightOf p (numbers l) → EndsAt p foot (length up) ⊎ EndsRightOf p (numbers (Two w l r))
      left (inl h) = let more = h.1 in inl (h.0, omega (arith, more))
      left (inr h) = inr (wider p (numbers l) (numbers (Two w l r)) (λ n k. inr (in-left n (numbers l) (numbers r) k)) h)

      right : EndsAt p (right_of w.number) 0 ⊎ EndsRightOf p (numbers r) → EndsAt p foot (length up) ⊎ EndsRightOf p (numbers (Two w l r))
      right (inl h) = inr (w.number, h.0, inl refl)
      right (inr h) = inr (wider p (numbers r) (numbers (Two w l r)) (λ n k. inr (in-right n (numbers l) (numbers r) k)) h)

      go : (IsIn p (cut foot (w ∷ up) l) → EndsAt p foot (length (w ∷ up)) ⊎ EndsRightOf p (numbers l)) → (IsIn p (cut (right_of w.number) [] r) → EndsAt p (right_of w.number) 0 ⊎ EndsRightOf p (numbers r))
          → IsIn p (cut foot (w ∷ up) l) ⊎ IsIn p (cut (right_of w.number) [] r) → EndsAt p foot (length up) ⊎ EndsRightOf p (numbers (Two w l r))
      go f g (inl k) = left (f k)
      go f g (inr k) = right (g k)

  -- the numbers round a hole
  abbrev pub numbers_round : Round V G → List ℕ
  numbers_round c = numbers_before c ++ numbers_behind c

  on-left : (w : Numbered V G) (c : Round V G) (r : NumberedTree V G) (n : ℕ) → IsIn n (numbers_round c) → IsIn n (numbers_round (OnLeft w c r))
  on-left w c r n h = inr (go (in-split n (numbers_before c) (numbers_behind c) h))
    where
      go : IsIn n (numbers_before c) ⊎ IsIn n (numbers_behind c) → IsIn n (numbers_before c ++ (numbers_behind c ++ numbers r))
      go (inl k) = in-left n (numbers_before c) (numbers_behind c ++ numbers r) k
      go (inr k) = in-right n (numbers_before c) (numbers_behind c ++ numbers r) (in-left n (numbers_behind c) (numbers r) k)

  on-right : (w : Numbered V G) (l : NumberedTree V G) (c : Round V G) (n : ℕ) → IsIn n (numbers_round c) → IsIn n (numbers_round (OnRight w l c))
  on-right w l c n h = inr (subst (λ z. IsIn n z) (sym (append_assoc (numbers l) (numbers_before c) (numbers_behind c))) (in-right n (numbers l) (numbers_round c) h))

  feet-before : (c : Round V G) (foot : Foot) (up : List (Numbered V G)) (p : Piece V G) → IsIn p (before foot up c) → (p.foot ≡ foot) ⊎ EndsRightOf p (numbers_round c)
  feet-before Hole foot up p q = absurd q
  feet-before (OnLeft w c r) foot up p q = go (feet-before c foot (w ∷ up) p q)
    where
      go : (p.foot ≡ foot) ⊎ EndsRightOf p (numbers_round c) → (p.foot ≡ foot) ⊎ EndsRightOf p (numbers_round (OnLeft w c r))
      go (inl h) = inl h
      go (inr h) = inr (wider p (numbers_round c) (numbers_round (OnLeft w c r)) (on-left w c r) h)
  feet-before (OnRight w l c) foot up p q = go (λ q. feet-before c (right_of w.number) [] p q) (in-split p (cut foot (w ∷ up) l) (before (right_of w.number) [] c) q)
    where
      wide : List ℕ
      wide = numbers_round (OnRight w l c)

      in_left : (n : ℕ) → IsIn n (numbers l) → IsIn n wide
      in_left n h = inr (in-left n (numbers l ++ numbers_before c) (numbers_behind c) (in-left n (numbers l) (numbers_before c) h))

      left : EndsAt p foot (length (w ∷ up)) ⊎ EndsRightOf p (numbers l) → (p.foot ≡ foot) ⊎ EndsRightOf p wide
      left (inl h) = inl h.0
      left (inr h) = inr (wider p (numbers l) wide in_left h)

      right : (p.foot ≡ right_of w.number) ⊎ EndsRightOf p (numbers_round c) → (p.foot ≡ foot) ⊎ EndsRightOf p wide
      right (inl h) = inr (w.number, h, inl refl)
      right (inr h) = inr (wider p (numbers_round c) wide (on-right w l c) h)

      go : (IsIn p (before (right_of w.number) [] c) → (p.foot ≡ right_of w.number) ⊎ EndsRightOf p (numbers_round c))
          → IsIn p (cut foot (w ∷ up) l) ⊎ IsIn p (before (right_of w.number) [] c) → (p.foot ≡ foot) ⊎ EndsRightOf p wide
      go f (inl k) = left (feet l foot (w ∷ up) p k)
      go f (inr k) = right (f k)

  feet-behind : (c : Round V G) (foot : Foot) (up : List (Numbered V G)) (p : Piece V G) → IsIn p (behind foot up c) → EndsRightOf p (numbers_round c)
  feet-behind Hole foot up p q = absurd q
  feet-behind (OnLeft w c r) foot up p q = go (λ q. feet-behind c foot (w ∷ up) p q) (in-split p (behind foot (w ∷ up) c) (cut (right_of w.number) [] r) q)
    where
      wide : List ℕ
      wide = numbers_round (OnLeft w c r)

      in_right : (n : ℕ) → IsIn n (numbers r) → IsIn n wide
      in_right n h = inr (in-right n (numbers_before c) (numbers_behind c ++ numbers r) (in-right n (numbers_behind c) (numbers r) h))

      right : EndsAt p (right_of w.number) 0 ⊎ EndsRightOf p (numbers r) → EndsRightOf p wide
      right (inl h) = (w.number, h.0, inl refl)
      right (inr h) = wider p (numbers r) wide in_right h

      go : (IsIn p (behind foot (w ∷ up) c) → EndsRightOf p (numbers_round c)) → IsIn p (behind foot (w ∷ up) c) ⊎ IsIn p (cut (right_of w.number) [] r) → EndsRightOf p wide
      go f (inl k) = wider p (numbers_round c) wide (on-left w c r) (f k)
      go f (inr k) = right (feet r (right_of w.number) [] p k)
  feet-behind (OnRight w l c) foot up p q = wider p (numbers_round c) (numbers_round (OnRight w l c)) (on-right w l c) (feet-behind c (right_of w.number) [] p q)

  -- ---------- the innermost parent above a hole ----------
  record Innermost (foot : Foot) (up : List (Numbered V G)) (c : Round V G) (w : Numbered V G) (parents : List (Numbered V G)) : Type 0 where
    outer : Round V G
    right : NumberedTree V G
    same : (x : NumberedTree V G) → plug c x ≡ plug outer (Two w x right)
    same_foot : (f : Foot) → foot_at f c ≡ foot_at f outer
    parents_are : parents_at up outer ≡ parents
    same_before : before foot up c ≡ before foot up outer
    same_behind : behind foot up c ≡ cut (right_of w.number) [] right ++ behind foot up outer

  first-same : {w v : Numbered V G} {a b : List (Numbered V G)} → w ∷ a ≡ v ∷ b → w ≡ v
  first-same e = cc

  rest-same : {w v : Numbered V G} {a b : List (Numbered V G)} → w ∷ a ≡ v ∷ b → a ≡ b
  rest-same e = cc

  just-above : (foot : Foot) (up : List (Numbered V G)) (w : Numbered V G) (r : NumberedTree V G) (parents : List (Numbered V G)) → up ≡ parents → Innermost foot up (OnLeft w Hole r) w parents
  just-above foot up w r parents q =
      record {
        outer = Hole;
        right = r;
        same = λ x. refl;
        same_foot = λ f. refl;
        parents_are = q;
        same_before = refl;
        same_behind = sym (append-nil (cut (right_of w.number) [] r));
      }

  innermost : (c : Round V G) (foot : Foot) (up : List (Numbered V G)) (w : Numbered V G) (parents : List (Numbered V G)) → parents_at up c ≡ w ∷ parents
      → Innermost foot up c w parents ⊎ ((c ≡ Hole) × (up ≡ w ∷ parents))
  innermost Hole foot up w parents e = inr (refl, e)
  innermost (OnLeft v c r) foot up w parents e = inl (go (innermost c foot (v ∷ up) w parents e))
    where
      go : Innermost foot (v ∷ up) c w parents ⊎ ((c ≡ Hole) × (v ∷ up ≡ w ∷ parents)) → Innermost foot up (OnLeft v c r) w parents
      go (inl x) =
          record {
            outer = OnLeft v x.outer r;
            right = x.right;
            same = λ y. ap (λ z. Two v z r) (x.same y);
            same_foot = x.same_foot;
            parents_are = x.parents_are;
            same_before = x.same_before;
            same_behind = ap (λ z. z ++ cut (right_of v.number) [] r) x.same_behind ∙ append_assoc (cut (right_of w.number) [] x.right) (behind foot (v ∷ up) x.outer) (cut (right_of v.number) [] r);
          }
      go (inr q) =
          subst (λ c. Innermost foot up (OnLeft v c r) w parents) (sym q.0)
          (subst (λ w. Innermost foot up (OnLeft v Hole r) w parents) (first-same q.1) (just-above foot up v r parents (rest-same q.1)))
  innermost (OnRight v l c) foot up w parents e = inl (go (innermost c (right_of v.number) [] w parents e))
    where
      go : Innermost (right_of v.number) [] c w parents ⊎ ((c ≡ Hole) × ([] ≡ w ∷ parents)) → Innermost foot up (OnRight v l c) w parents
      go (inl x) =
          record {
            outer = OnRight v l x.outer;
            right = x.right;
            same = λ y. ap (λ z. Two v l z) (x.same y);
            same_foot = λ f. x.same_foot (right_of v.number);
            parents_are = x.parents_are;
            same_before = ap (λ z. cut foot (v ∷ up) l ++ z) x.same_before;
            same_behind = x.same_behind;
          }
      go (inr q) = let e = q.1 in absurd (cc)

  -- ---------- the two sides of a number ----------
  -- a piece at the foot of a right side, below no parents, is all of that side
  whole-right : (t : NumberedTree V G) (n : ℕ) (x : Lone V G) (rest : List (Piece V G)) → (IsIn n (numbers t) → ⊥) → Picks (record { foot = right_of n; parents = []; own = x }) (cut (right_of n) [] t) rest → (t ≡ One x) × (rest ≡ [])
  whole-right (One y) n x rest free (inl q) = (ap (λ (z : Piece V G). One z.own) (sym q.0), sym q.1)
  whole-right (One y) n x rest free (inr q) = absurd q.2
  whole-right (Two w l r) n x rest free q = absurd (go (in-split p (cut (right_of n) (w ∷ []) l) (cut (right_of w.number) [] r) (picks-in p (cut (right_of n) [] (Two w l r)) rest q)))
    where
      p : Piece V G
      p = record { foot = right_of n; parents = []; own = x }

      met : EndsRightOf p (numbers (Two w l r)) → ⊥
      met h = free (subst (λ z. IsIn z (numbers (Two w l r))) (sym (same-number h.1)) h.2)

      left : EndsAt p (right_of n) 1 ⊎ EndsRightOf p (numbers l) → ⊥
      left (inl h) = let more = h.1 in omega (arith, more)
      left (inr h) = met (wider p (numbers l) (numbers (Two w l r)) (λ k i. inr (in-left k (numbers l) (numbers r) i)) h)

      right : EndsAt p (right_of w.number) 0 ⊎ EndsRightOf p (numbers r) → ⊥
      right (inl h) = met (w.number, h.0, inl refl)
      right (inr h) = met (wider p (numbers r) (numbers (Two w l r)) (λ k i. inr (in-right k (numbers l) (numbers r) i)) h)

      go : IsIn p (cut (right_of n) (w ∷ []) l) ⊎ IsIn p (cut (right_of w.number) [] r) → ⊥
      go (inl k) = left (feet l (right_of n) (w ∷ []) p k)
      go (inr k) = right (feet r (right_of w.number) [] p k)

  -- where two pieces under one number stand
  pub record Pair (h : NumberedTree V G) (n : Numbered V G) (foot : Foot) (up : List (Numbered V G)) (l r : Lone V G) (rest : List (Piece V G)) : Type 0 where
    pub round : Round V G
    pub is : h ≡ plug round (Two n (One l) (One r))
    pub foot_is : foot_at AtRoot round ≡ foot
    pub parents_are : parents_at [] round ≡ up
    pub others : rest ≡ before AtRoot [] round ++ behind AtRoot [] round

  pub find-pair : (h : NumberedTree V G) (n : Numbered V G) (foot : Foot) (up : List (Numbered V G)) (l r : Lone V G) (middle rest : List (Piece V G)) → IsDistinct (numbers h)
      → Picks (record { foot = foot; parents = n ∷ up; own = l }) (pieces h) middle → Picks (record { foot = right_of n.number; parents = []; own = r }) middle rest → Pair h n foot up l r rest
  find-pair h n foot up l r middle rest once left right = go (innermost x.round AtRoot [] n up x.parents_are)
    where
      x : Spot h AtRoot [] (record { foot = foot; parents = n ∷ up; own = l }) middle
      x = find h AtRoot [] (record { foot = foot; parents = n ∷ up; own = l }) middle left

      p : Piece V G
      p = record { foot = right_of n.number; parents = []; own = r }

      inside : Innermost AtRoot [] x.round n up → Pair h n foot up l r rest
      inside i = parts (picks-split p a (m ++ z) rest (subst (λ y. Picks p y rest) lists right))
        where
          o : Round V G
          o = i.outer

          a : List (Piece V G)
          a = before AtRoot [] o

          m : List (Piece V G)
          m = cut (right_of n.number) [] i.right

          z : List (Piece V G)
          z = behind AtRoot [] o

          lists : middle ≡ a ++ (m ++ z)
          lists = x.others ∙ ap (λ y. y ++ behind AtRoot [] x.round) i.same_before ∙ ap (λ y. a ++ y) i.same_behind

          is : h ≡ plug o (Two n (One l) i.right)
          is = x.is ∙ i.same (One l)

          others : List ℕ
          others = numbers i.right ++ numbers_behind o

          free : IsIn n.number (numbers_before o ++ others) → ⊥
          free = (distinct-out n.number (numbers_before o) others (subst (λ y. IsDistinct y) (ap (λ t. numbers t) is ∙ numbers-plug o (Two n (One l) i.right)) once)).1

          widen : (k : ℕ) → IsIn k (numbers_before o) ⊎ IsIn k (numbers_behind o) → IsIn k (numbers_before o ++ others)
          widen k (inl q) = in-left k (numbers_before o) others q
          widen k (inr q) = in-right k (numbers_before o) others (in-right k (numbers i.right) (numbers_behind o) q)

          around : EndsRightOf p (numbers_round o) → ⊥
          around q = free (subst (λ y. IsIn y (numbers_before o ++ others)) (sym (same-number q.1)) (widen q.0 (in-split q.0 (numbers_before o) (numbers_behind o) q.2)))

          in_before : (right_of n.number ≡ AtRoot) ⊎ EndsRightOf p (numbers_round o) → ⊥
          in_before (inl e) = absurd (cc)
          in_before (inr q) = around q

          found : (s : List (Piece V G)) → Picks p m s → rest ≡ a ++ (s ++ z) → Pair h n foot up l r rest
          found s q e =
              let y = whole-right i.right n.number r s (λ k. free (in-right n.number (numbers_before o) others (in-left n.number (numbers i.right) (numbers_behind o) k))) q in
              record {
                round = o;
                is = is ∙ ap (λ t. plug o (Two n (One l) t)) y.0;
                foot_is = sym (i.same_foot AtRoot) ∙ x.foot_is;
                parents_are = i.parents_are;
                others = e ∙ ap (λ s. a ++ (s ++ z)) y.1;
              }

          from_middle : (t : List (Piece V G)) → rest ≡ a ++ t → ((s : List (Piece V G)) × Picks p m s × (t ≡ s ++ z)) ⊎ ((s : List (Piece V G)) × Picks p z s × (t ≡ m ++ s)) → Pair h n foot up l r rest
          from_middle t e (inl k) = found k.0 k.1 (e ∙ ap (λ y. a ++ y) k.2)
          from_middle t e (inr k) = absurd (around (feet-behind o AtRoot [] p (picks-in p z k.0 k.1)))

          parts : ((s : List (Piece V G)) × Picks p a s × (rest ≡ s ++ (m ++ z))) ⊎ ((s : List (Piece V G)) × Picks p (m ++ z) s × (rest ≡ a ++ s)) → Pair h n foot up l r rest
          parts (inl k) = absurd (in_before (feet-before o AtRoot [] p (picks-in p a k.0 k.1)))
          parts (inr k) = from_middle k.0 k.2 (picks-split p m z k.0 k.1)

      go : Innermost AtRoot [] x.round n up ⊎ ((x.round ≡ Hole) × ([] ≡ n ∷ up)) → Pair h n foot up l r rest
      go (inl i) = inside i
      go (inr q) = let e = q.1 in absurd (cc)
