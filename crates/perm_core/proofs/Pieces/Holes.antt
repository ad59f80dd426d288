-- A numbered tree with a hole: what stands round it stays, whatever is put into it.
use Rattle.std.proofs.Common.{◌≡◌, ℕ, Option, Some, List, [], ◌∷◌, ◌++◌, refl, sym, ap, ◌∙◌, inl, inr, append_assoc, append-nil}
use Rattle.std.specs.Prelude.{◌⊎◌}
use Rattle.perm_meaning.specs.Machine.{Machine, Fork, Way, GoL, GoR, look, fill}
use Rattle.perm_core.specs.Bag.{Picks}
use Rattle.perm_core.specs.Pieces.{Foot, OnRightSide, Numbered, Piece, NumberedTree, One, Two, held_task, cut, numbers, AllOver}
use Rattle.perm_core.proofs.Pieces.Bags.{picks-split}

-- a tree with a hole
pub data Round (V G : Type 0) : Type 0 where
  Hole : Round V G
  OnLeft : (w : Numbered V G) (c : Round V G) (r : NumberedTree V G) → Round V G
  OnRight : (w : Numbered V G) (l : NumberedTree V G) (c : Round V G) → Round V G

module _ {V G : Type 0} where
  -- the tree with the hole filled
  abbrev pub plug : Round V G → NumberedTree V G → NumberedTree V G
  plug Hole h = h
  plug (OnLeft w c r) h = Two w (plug c h) r
  plug (OnRight w l c) h = Two w l (plug c h)

  -- the node of the whole at a node of what fills the hole
  abbrev pub at_hole : Round V G → Way → Way
  at_hole Hole v = v
  at_hole (OnLeft w c r) v = GoL (at_hole c v)
  at_hole (OnRight w l c) v = GoR (at_hole c v)

  -- where the stem through the hole ends
  abbrev pub foot_at : Foot → Round V G → Foot
  foot_at foot Hole = foot
  foot_at foot (OnLeft w c r) = foot_at foot c
  foot_at foot (OnRight w l c) = foot_at (OnRightSide (Some w.number)) c

  -- the parents above the hole from which left sides alone lead to it
  abbrev pub parents_at : List (Numbered V G) → Round V G → List (Numbered V G)
  parents_at up Hole = up
  parents_at up (OnLeft w c r) = parents_at (w ∷ up) c
  parents_at up (OnRight w l c) = parents_at [] c

  -- the pieces to the left of the hole
  abbrev pub before : Foot → List (Numbered V G) → Round V G → List (Piece V G)
  before foot up Hole = []
  before foot up (OnLeft w c r) = before foot (w ∷ up) c
  before foot up (OnRight w l c) = cut foot (w ∷ up) l ++ before (OnRightSide (Some w.number)) [] c

  -- the pieces to the right of it
  abbrev pub behind : Foot → List (Numbered V G) → Round V G → List (Piece V G)
  behind foot up Hole = []
  behind foot up (OnLeft w c r) = behind foot (w ∷ up) c ++ cut (OnRightSide (Some w.number)) [] r
  behind foot up (OnRight w l c) = behind (OnRightSide (Some w.number)) [] c

  -- the pieces of the whole
  pub cut-plug : (c : Round V G) (h : NumberedTree V G) (foot : Foot) (up : List (Numbered V G)) → cut foot up (plug c h) ≡ before foot up c ++ (cut (foot_at foot c) (parents_at up c) h ++ behind foot up c)
  cut-plug Hole h foot up = sym (append-nil (cut foot up h))
  cut-plug (OnLeft w c r) h foot up =
      let a = before foot (w ∷ up) c in
      let m = cut (foot_at foot c) (parents_at (w ∷ up) c) h in
      let b = behind foot (w ∷ up) c in
      let z = cut (OnRightSide (Some w.number)) [] r in
      ap (λ y. y ++ z) (cut-plug c h foot (w ∷ up)) ∙ append_assoc a (m ++ b) z ∙ ap (λ y. a ++ y) (append_assoc m b z)
  cut-plug (OnRight w l c) h foot up =
      let right = OnRightSide (Some w.number) in
      let a = before right [] c in
      let m = cut (foot_at right c) (parents_at [] c) h in
      let b = behind right [] c in
      let z = cut foot (w ∷ up) l in
      ap (λ y. z ++ y) (cut-plug c h right []) ∙ sym (append_assoc z a (m ++ b))

  -- ---------- numbers ----------
  -- the numbers round the hole
  abbrev pub numbers_before : Round V G → List ℕ
  numbers_before Hole = []
  numbers_before (OnLeft w c r) = w.number ∷ numbers_before c
  numbers_before (OnRight w l c) = w.number ∷ (numbers l ++ numbers_before c)

  abbrev pub numbers_behind : Round V G → List ℕ
  numbers_behind Hole = []
  numbers_behind (OnLeft w c r) = numbers_behind c ++ numbers r
  numbers_behind (OnRight w l c) = numbers_behind c

  pub numbers-plug : (c : Round V G) (h : NumberedTree V G) → numbers (plug c h) ≡ numbers_before c ++ (numbers h ++ numbers_behind c)
  numbers-plug Hole h = sym (append-nil (numbers h))
  numbers-plug (OnLeft w c r) h =
      ap (λ y. w.number ∷ (y ++ numbers r)) (numbers-plug c h)
      ∙ ap (λ y. w.number ∷ y) (append_assoc (numbers_before c) (numbers h ++ numbers_behind c) (numbers r) ∙ ap (λ y. numbers_before c ++ y) (append_assoc (numbers h) (numbers_behind c) (numbers r)))
  numbers-plug (OnRight w l c) h =
      ap (λ y. w.number ∷ (numbers l ++ y)) (numbers-plug c h) ∙ ap (λ y. w.number ∷ y) (sym (append_assoc (numbers l) (numbers_before c) (numbers h ++ numbers_behind c)))

  -- ---------- left sides that are kept aside ----------
  pub over-plug : (c : Round V G) (h k : NumberedTree V G) → AllOver (plug c h) → AllOver k → AllOver (plug c k)
  over-plug Hole h k all new = new
  over-plug (OnLeft w c r) h k all new = (over-plug c h k all.0 new, all.1)
  over-plug (OnRight w l c) h k all new = (all.0, over-plug c h k all.1 new)

  pub over-in : (c : Round V G) (h : NumberedTree V G) → AllOver (plug c h) → AllOver h
  over-in Hole h all = all
  over-in (OnLeft w c r) h all = over-in c h all.0
  over-in (OnRight w l c) h all = over-in c h all.1

  -- ---------- where a piece stands ----------
  pub record Spot (h : NumberedTree V G) (foot : Foot) (up : List (Numbered V G)) (p : Piece V G) (r : List (Piece V G)) : Type 0 where
    pub round : Round V G
    pub is : h ≡ plug round (One p.own)
    pub foot_is : foot_at foot round ≡ p.foot
    pub parents_are : parents_at up round ≡ p.parents
    pub others : r ≡ before foot up round ++ behind foot up round

  pub find : (h : NumberedTree V G) (foot : Foot) (up : List (Numbered V G)) (p : Piece V G) (r : List (Piece V G)) → Picks p (cut foot up h) r → Spot h foot up p r
  find (One x) foot up p r (inl q) =
      record {
        round = Hole;
        is = ap (λ (z : Piece V G). One z.own) (sym q.0);
        foot_is = ap (λ (z : Piece V G). z.foot) (sym q.0);
        parents_are = ap (λ (z : Piece V G). z.parents) (sym q.0);
        others = sym q.1;
      }
  find (One x) foot up p r (inr q) = absurd q.2
  find (Two w l t) foot up p r q =
      go (λ r q. find l foot (w ∷ up) p r q) (λ r q. find t (OnRightSide (Some w.number)) [] p r q) (picks-split p (cut foot (w ∷ up) l) (cut (OnRightSide (Some w.number)) [] t) r q)
    where
      right : List (Piece V G)
      right = cut (OnRightSide (Some w.number)) [] t

      left : List (Piece V G)
      left = cut foot (w ∷ up) l

      go : ((r : List (Piece V G)) → Picks p left r → Spot l foot (w ∷ up) p r) → ((r : List (Piece V G)) → Picks p right r → Spot t (OnRightSide (Some w.number)) [] p r)
          → ((s : List (Piece V G)) × Picks p left s × (r ≡ s ++ right)) ⊎ ((s : List (Piece V G)) × Picks p right s × (r ≡ left ++ s)) → Spot (Two w l t) foot up p r
      go f g (inl k) =
          let x = f k.0 k.1 in
          record {
            round = OnLeft w x.round t;
            is = ap (λ z. Two w z t) x.is;
            foot_is = x.foot_is;
            parents_are = x.parents_are;
            others = k.2 ∙ ap (λ z. z ++ right) x.others ∙ append_assoc (before foot (w ∷ up) x.round) (behind foot (w ∷ up) x.round) right;
          }
      go f g (inr k) =
          let x = g k.0 k.1 in
          record {
            round = OnRight w l x.round;
            is = ap (λ z. Two w l z) x.is;
            foot_is = x.foot_is;
            parents_are = x.parents_are;
            others = k.2 ∙ ap (λ z. left ++ z) x.others ∙ sym (append_assoc left (before (OnRightSide (Some w.number)) [] x.round) (behind (OnRightSide (Some w.number)) [] x.round));
          }

-- ---------- events ----------
module _ {V G O : Type 0} (m : Machine V G O) where
  -- an event in the hole is one of the whole
  pub look-plug : (c : Round V G) (h : NumberedTree V G) (v : Way) → look m (at_hole c v) (held_task (plug c h)) ≡ look m v (held_task h)
  look-plug Hole h v = refl
  look-plug (OnLeft w c r) h v = look-plug c h v
  look-plug (OnRight w l c) h v = look-plug c h v

  pub fill-plug : (c : Round V G) (h k : NumberedTree V G) (v : Way) (a : Option V) → held_task k ≡ fill m v (held_task h) a → held_task (plug c k) ≡ fill m (at_hole c v) (held_task (plug c h)) a
  fill-plug Hole h k v a e = e
  fill-plug (OnLeft w c r) h k v a e = ap (λ t. Fork w.branch w.blocks t (held_task r)) (fill-plug c h k v a e)
  fill-plug (OnRight w l c) h k v a e = ap (λ t. Fork w.branch w.blocks (held_task l) t) (fill-plug c h k v a e)
