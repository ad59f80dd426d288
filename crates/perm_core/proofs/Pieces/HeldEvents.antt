-- What a holder does is the event of a node of the tree that it holds, and each event of a tree is that of a holder, a join under a number, or on a side that is kept aside.
use Rattle.std.proofs.Common.{◌≡◌, Option, Some, None, refl, sym, ap, ◌∙◌, inl, inr}
use Rattle.std.specs.Prelude.{◌⊎◌}
use Rattle.perm_meaning.specs.Machine.{Branch, Task, Leaf, Fork, Blocks, Way, Here, GoL, GoR, Final, Fine, GaveBack, Failed, Stage, Over, Due, Did, On, Splits, Ends, Dies, Turn, Takes, NoTurn, Machine, stage, final, if_both_over, done, told_to, next_turn, leaf_on, resumed, join_of, look, fill}
use Rattle.perm_meaning.specs.Steps.{Lone, Run, KeptRight, KeptLeft, lone_task, lone_of, lone_way, lone_on, left_side_way, right_side_way, after_left, after_right, AreOver}
use Rattle.perm_meaning.proofs.Leads.{none-some, ended-no-event, unended}
use Rattle.perm_core.specs.Pieces.{Numbered, NumberedTree, One, Two, held_task, AllOver, IsAside, IsAsideIn}
use Rattle.perm_core.proofs.Pieces.Holes.{Round, Hole, OnLeft, OnRight, plug, at_hole}

module _ {V G : Type 0} where
  -- the event is the next one of a holder
  pub record AtHolder (h : NumberedTree V G) (w : Way) : Type 0 where
    pub round : Round V G
    pub holder : Lone V G
    pub is : h ≡ plug round (One holder)
    pub way : w ≡ at_hole round (lone_way holder)

  -- it is a join under a number
  pub record AtJoin (h : NumberedTree V G) (w : Way) : Type 0 where
    pub round : Round V G
    pub parent : Numbered V G
    pub left : Branch V G
    pub right : Branch V G
    pub is : h ≡ plug round (Two parent (One (Run left)) (One (Run right)))
    pub way : w ≡ at_hole round Here

module _ {V G O : Type 0} (m : Machine V G O) where
  -- ---------- a holder alone ----------
  -- what a leaf becomes is held by one
  leaf-held : (b : Branch V G) (st : Stage V) (v : Option V) → lone_task (lone_of (leaf_on m b st v)) ≡ leaf_on m b st v
  leaf-held b (Over f) v = refl
  leaf-held b (Due t) v = go (next_turn m b) v
    where
      did : (d : Did V G) → lone_task (lone_of (done m b t d)) ≡ done m b t d
      did (On l c st) = refl
      did (Splits p rest) = refl
      did (Ends w) = refl
      did (Dies e) = refl

      go : (x : Turn V G O) (v : Option V) → lone_task (lone_of (told_to m b t x v)) ≡ told_to m b t x v
      go NoTurn v = refl
      go (Takes o told) (Some v) = did (told v)
      go (Takes o told) None = refl

  pub joined-held : (b : Branch V G) (f : Final V) → lone_task (lone_of (resumed m b f)) ≡ resumed m b f
  joined-held b (Fine vs t p) = refl
  joined-held b (GaveBack v t p) = refl
  joined-held b (Failed e t p) = refl

  -- the tree that a holder holds after its event is that after the event of its node
  pub lone-event : (x : Lone V G) (v : Option V) (o : O) → look m (lone_way x) (lone_task x) ≡ Some o → lone_task (lone_on m x v) ≡ fill m (lone_way x) (lone_task x) v
  lone-event (Run b) v o e = leaf-held b (stage b) v
  lone-event (KeptRight b p l r) v o e = go (final (lone_task l)) (final (Leaf r)) refl refl (lone-event l v o) e
    where
      go : (x y : Option (Final V)) → final (lone_task l) ≡ x → final (Leaf r) ≡ y → (look m (lone_way l) (lone_task l) ≡ Some o → lone_task (lone_on m l v) ≡ fill m (lone_way l) (lone_task l) v)
          → look m (left_side_way x y (lone_way l)) (Fork b p (lone_task l) (Leaf r)) ≡ Some o
          → lone_task (after_left m b p (lone_on m l v) r x y) ≡ fill m (left_side_way x y (lone_way l)) (Fork b p (lone_task l) (Leaf r)) v
      go None y left right h e = ap (λ t. Fork b p t (Leaf r)) (h e)
      go (Some x) None left right h e = ap (λ t. Fork b p t (Leaf r)) (h e)
      go (Some x) (Some y) left right h e =
          joined-held b (join_of m b p x y)
          ∙ sym (ap (λ z. if_both_over z (final (Leaf r)) (Fork b p (lone_task l) (Leaf r)) (λ x y. resumed m b (join_of m b p x y))) left
          ∙ ap (λ z. if_both_over (Some x) z (Fork b p (lone_task l) (Leaf r)) (λ x y. resumed m b (join_of m b p x y))) right)
  lone-event (KeptLeft b p l r) v o e = go (final (Leaf l)) (final (lone_task r)) refl refl (lone-event r v o) e
    where
      go : (x y : Option (Final V)) → final (Leaf l) ≡ x → final (lone_task r) ≡ y → (look m (lone_way r) (lone_task r) ≡ Some o → lone_task (lone_on m r v) ≡ fill m (lone_way r) (lone_task r) v)
          → look m (right_side_way y (lone_way r)) (Fork b p (Leaf l) (lone_task r)) ≡ Some o
          → lone_task (after_right m b p l (lone_on m r v) x y) ≡ fill m (right_side_way y (lone_way r)) (Fork b p (Leaf l) (lone_task r)) v
      go x None left right h e = ap (λ t. Fork b p (Leaf l) t) (h e)
      go (Some x) (Some y) left right h e =
          joined-held b (join_of m b p x y)
          ∙ sym (ap (λ z. if_both_over z (final (lone_task r)) (Fork b p (Leaf l) (lone_task r)) (λ x y. resumed m b (join_of m b p x y))) left
          ∙ ap (λ z. if_both_over (Some x) z (Fork b p (Leaf l) (lone_task r)) (λ x y. resumed m b (join_of m b p x y))) right)
      go None (Some y) left right h e = none-some (sym (ap (λ z. if_both_over z (final (lone_task r)) None (λ x y. Some m.idle)) left) ∙ e)

  -- ---------- left sides that are kept aside stay ended ----------
  leaf-over : (b : Branch V G) (st : Stage V) (v : Option V) → AreOver (lone_of (leaf_on m b st v))
  leaf-over b (Over f) v = tt
  leaf-over b (Due t) v = go (next_turn m b) v
    where
      did : (d : Did V G) → AreOver (lone_of (done m b t d))
      did (On l c st) = tt
      did (Splits p rest) = tt
      did (Ends w) = tt
      did (Dies e) = tt

      go : (x : Turn V G O) (v : Option V) → AreOver (lone_of (told_to m b t x v))
      go NoTurn v = tt
      go (Takes o told) (Some v) = did (told v)
      go (Takes o told) None = tt

  pub joined-over : (b : Branch V G) (f : Final V) → AreOver (lone_of (resumed m b f))
  joined-over b (Fine vs t p) = tt
  joined-over b (GaveBack v t p) = tt
  joined-over b (Failed e t p) = tt

  pub lone-over : (x : Lone V G) (v : Option V) → AreOver x → AreOver (lone_on m x v)
  lone-over (Run b) v h = leaf-over b (stage b) v
  lone-over (KeptRight b p l r) v h = go (final (lone_task l)) (final (Leaf r)) (lone-over l v h)
    where
      go : (x y : Option (Final V)) → AreOver (lone_on m l v) → AreOver (after_left m b p (lone_on m l v) r x y)
      go None y k = k
      go (Some x) None k = k
      go (Some x) (Some y) k = joined-over b (join_of m b p x y)
  lone-over (KeptLeft b p l r) v h = go (final (Leaf l)) (final (lone_task r)) (lone-over r v h.1)
    where
      go : (x y : Option (Final V)) → AreOver (lone_on m r v) → AreOver (after_right m b p l (lone_on m r v) x y)
      go x None k = (h.0, k)
      go None (Some y) k = (h.0, k)
      go (Some x) (Some y) k = joined-over b (join_of m b p x y)

  -- ---------- each event of a tree ----------
  both-over : (x y : Option (Final V)) (o : O) → if_both_over x y None (λ x y. Some m.idle) ≡ Some o → (f : Final V) × (g : Final V) × (x ≡ Some f) × (y ≡ Some g)
  both-over (Some f) (Some g) o h = (f, g, refl, refl)
  both-over (Some f) None o h = none-some h
  both-over None y o h = none-some h

  pub join-sides : (l r : Task V G) (b : Branch V G) (p : Blocks) (o : O) → look m Here (Fork b p l r) ≡ Some o → (f : Final V) × (g : Final V) × (final l ≡ Some f) × (final r ≡ Some g)
  join-sides l r b p o h = both-over (final l) (final r) o h

  -- of the tree of one holder
  own-way : (x : Lone V G) (w : Way) (o : O) → AreOver x → look m w (lone_task x) ≡ Some o → (w ≡ lone_way x) ⊎ IsAside x w
  own-way (Run b) Here o over e = inl refl
  own-way (Run b) (GoL w) o over e = none-some e
  own-way (Run b) (GoR w) o over e = none-some e
  own-way (KeptRight b p l r) Here o over e =
      let j = join-sides (lone_task l) (Leaf r) b p o e in
      inl (sym (ap (λ z. left_side_way z (final (Leaf r)) (lone_way l)) j.2 ∙ ap (λ z. left_side_way (Some j.0) z (lone_way l)) j.3))
  own-way (KeptRight b p l r) (GoL w) o over e = go (own-way l w o over e)
    where
      go : (w ≡ lone_way l) ⊎ IsAside l w → (GoL w ≡ left_side_way (final (lone_task l)) (final (Leaf r)) (lone_way l)) ⊎ IsAside l w
      go (inl q) = inl (ap (λ z. GoL z) q ∙ sym (ap (λ z. left_side_way z (final (Leaf r)) (lone_way l)) (unended m w (lone_task l) o e)))
      go (inr q) = inr q
  own-way (KeptRight b p l r) (GoR w) o over e = inr tt
  own-way (KeptLeft b p l r) Here o over e =
      let j = join-sides (Leaf l) (lone_task r) b p o e in
      inl (sym (ap (λ z. right_side_way z (lone_way r)) j.3))
  own-way (KeptLeft b p l r) (GoL w) o over e = none-some (sym (ended-no-event m w (Leaf l) over.0.0 over.0.1) ∙ e)
  own-way (KeptLeft b p l r) (GoR w) o over e = go (own-way r w o over.1 e)
    where
      go : (w ≡ lone_way r) ⊎ IsAside r w → (GoR w ≡ right_side_way (final (lone_task r)) (lone_way r)) ⊎ IsAside r w
      go (inl q) = inl (ap (λ z. GoR z) q ∙ sym (ap (λ z. right_side_way z (lone_way r)) (unended m w (lone_task r) o e)))
      go (inr q) = inr q

  leaf-is : (h : NumberedTree V G) (f : Final V) → final (held_task h) ≡ Some f → (b : Branch V G) × (h ≡ One (Run b))
  leaf-is (One (Run b)) f e = (b, refl)
  leaf-is (One (KeptRight b p l r)) f e = none-some e
  leaf-is (One (KeptLeft b p l r)) f e = none-some e
  leaf-is (Two w l r) f e = none-some e

  pub each-event : (h : NumberedTree V G) (w : Way) (o : O) → AllOver h → look m w (held_task h) ≡ Some o → AtHolder h w ⊎ (AtJoin h w ⊎ IsAsideIn h w)
  each-event (One x) w o over e = go (own-way x w o over e)
    where
      go : (w ≡ lone_way x) ⊎ IsAside x w → AtHolder (One x) w ⊎ (AtJoin (One x) w ⊎ IsAside x w)
      go (inl q) = inl (record { round = Hole; holder = x; is = refl; way = q })
      go (inr q) = inr (inr q)
  each-event (Two u l r) Here o over e =
      let j = join-sides (held_task l) (held_task r) u.branch u.blocks o e in
      let a = leaf-is l j.0 j.2 in
      let b = leaf-is r j.1 j.3 in
      inr (inl (record { round = Hole; parent = u; left = a.0; right = b.0; is = λ i. Two u (a.1 i) (b.1 i); way = refl }))
  each-event (Two u l r) (GoL w) o over e = go (each-event l w o over.0 e)
    where
      go : AtHolder l w ⊎ (AtJoin l w ⊎ IsAsideIn l w) → AtHolder (Two u l r) (GoL w) ⊎ (AtJoin (Two u l r) (GoL w) ⊎ IsAsideIn l w)
      go (inl x) = inl (record { round = OnLeft u x.round r; holder = x.holder; is = ap (λ z. Two u z r) x.is; way = ap (λ z. GoL z) x.way })
      go (inr (inl x)) = inr (inl (record { round = OnLeft u x.round r; parent = x.parent; left = x.left; right = x.right; is = ap (λ z. Two u z r) x.is; way = ap (λ z. GoL z) x.way }))
      go (inr (inr q)) = inr (inr q)
  each-event (Two u l r) (GoR w) o over e = go (each-event r w o over.1 e)
    where
      go : AtHolder r w ⊎ (AtJoin r w ⊎ IsAsideIn r w) → AtHolder (Two u l r) (GoR w) ⊎ (AtJoin (Two u l r) (GoR w) ⊎ IsAsideIn r w)
      go (inl x) = inl (record { round = OnRight u l x.round; holder = x.holder; is = ap (λ z. Two u l z) x.is; way = ap (λ z. GoR z) x.way })
      go (inr (inl x)) = inr (inl (record { round = OnRight u l x.round; parent = x.parent; left = x.left; right = x.right; is = ap (λ z. Two u l z) x.is; way = ap (λ z. GoR z) x.way }))
      go (inr (inr q)) = inr (inr q)
