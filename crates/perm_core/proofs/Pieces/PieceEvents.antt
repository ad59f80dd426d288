-- Each event of a numbered tree changes one piece, replaces a piece by two that bear a new number, or replaces the two of a number by one; or it is on a side that is kept aside.
use Rattle.std.proofs.Common.{◌≡◌, ℕ, Option, Some, None, List, [], ◌∷◌, ◌++◌, sym, ap, subst, ◌∙◌, inl, inr}
use Rattle.std.specs.Prelude.{◌⊎◌, nat_eq, ◌+◌}
use Rattle.perm_meaning.specs.Machine.{Branch, Leaf, Fork, Blocks, Way, Here, Final, Machine, stage, final, if_both_over, leaf_op, leaf_on, resumed, join_of, look, fill}
use Rattle.perm_meaning.specs.Steps.{Lone, Run, lone_task, lone_of, lone_way, lone_on}
use Rattle.perm_core.specs.Bag.{Picks, IsIn, IsDistinct, one_if, times}
use Rattle.perm_core.specs.Pieces.{AtRoot, OnRightSide, Numbered, Piece, NumberedTree, One, Two, held_task, pieces, numbers, AllOver, IsAsideIn}
use Rattle.perm_core.specs.PieceLaws.{piece, HeldAfter, BearsMore, ChangesOne, Sides, JoinsTwo, SplitsOne, TurnOfPiece, SplitOfPiece, JoinOfPieces, OfOne, OfTwo, EventOfPieces}
use Rattle.perm_core.proofs.Pieces.Bags.{picks-mid, distinct-put, distinct-out, times-put}
use Rattle.perm_core.proofs.Pieces.Holes.{Round, plug, at_hole, foot_at, parents_at, before, behind, cut-plug, numbers_before, numbers_behind, numbers-plug, over-plug, over-in, Spot, find, look-plug, fill-plug}
use Rattle.perm_core.proofs.Pieces.HeldEvents.{joined-held, lone-event, joined-over, lone-over, join-sides, AtHolder, AtJoin, each-event}
use Rattle.perm_core.proofs.Pieces.RightSides.{Pair, find-pair}

module _ {V G O : Type 0} (m : Machine V G O) where
  -- ---------- the pieces in a hole and round it ----------
  abbrev around : Round V G → List (Piece V G)
  around c = before AtRoot [] c ++ behind AtRoot [] c

  abbrev piece_in : Round V G → Lone V G → Piece V G
  piece_in c x = piece m (foot_at AtRoot c) (parents_at [] c) x

  abbrev two_in : Round V G → Numbered V G → Branch V G → Branch V G → NumberedTree V G
  two_in c n l r = plug c (Two n (One (Run l)) (One (Run r)))

  picked : (c : Round V G) (x : Lone V G) → Picks (piece_in c x) (pieces (plug c (One x))) (around c)
  picked c x = subst (λ z. Picks (piece_in c x) z (around c)) (sym (cut-plug c (One x) AtRoot [])) (picks-mid (piece_in c x) (before AtRoot [] c) (behind AtRoot [] c))

  sides-in : (c : Round V G) (n : Numbered V G) (l r : Branch V G) → Sides m (two_in c n l r) n (foot_at AtRoot c) (parents_at [] c) l r (around c)
  sides-in c n l r =
      record {
        middle = a ++ (right ∷ z);
        left = subst (λ y. Picks left y (a ++ (right ∷ z))) (sym (cut-plug c (Two n (One (Run l)) (One (Run r))) AtRoot [])) (picks-mid left a (right ∷ z));
        right = picks-mid right a z;
      }
    where
      a : List (Piece V G)
      a = before AtRoot [] c

      z : List (Piece V G)
      z = behind AtRoot [] c

      left : Piece V G
      left = piece m (foot_at AtRoot c) (n ∷ parents_at [] c) (Run l)

      right : Piece V G
      right = piece m (OnRightSide (Some n.number)) [] (Run r)

  -- ---------- the three changes, in a hole ----------
  changes-one : (c : Round V G) (x : Lone V G) (o : O) → IsDistinct (numbers (plug c (One x))) → AllOver (plug c (One x)) → look m (lone_way x) (lone_task x) ≡ Some o
      → ChangesOne m (plug c (One x)) (at_hole c (lone_way x)) o (piece_in c x) (around c)
  changes-one c x o once over e = record { held = picked c x; next = e; event = look-plug m c (One x) (lone_way x) ∙ e; after = λ v. (plug c (One (lone_on m x v)), is_after v, same v, picked c (lone_on m x v)) }
    where
      same : (v : Option V) → numbers (plug c (One (lone_on m x v))) ≡ numbers (plug c (One x))
      same v = numbers-plug c (One (lone_on m x v)) ∙ sym (numbers-plug c (One x))

      is_after : (v : Option V) → HeldAfter m (plug c (One x)) (at_hole c (lone_way x)) v (plug c (One (lone_on m x v)))
      is_after v =
          record {
            task = fill-plug m c (One x) (One (lone_on m x v)) (lone_way x) v (lone-event m x v o e);
            once = subst (λ z. IsDistinct z) (sym (same v)) once;
            over = over-plug c (One x) (One (lone_on m x v)) over (lone-over m x v (over-in c (One x) over));
          }

  splits-one : (c : Round V G) (b by l r : Branch V G) (p : Blocks) (o : O) (v : Option V) (n : ℕ) → IsDistinct (numbers (plug c (One (Run b)))) → AllOver (plug c (One (Run b)))
      → leaf_op m b (stage b) ≡ Some o → leaf_on m b (stage b) v ≡ Fork by p (Leaf l) (Leaf r) → (IsIn n (numbers (plug c (One (Run b)))) → ⊥)
      → SplitsOne m (plug c (One (Run b))) (at_hole c Here) o v (foot_at AtRoot c) (parents_at [] c) b (record { branch = by; blocks = p; number = n }) l r (around c)
  splits-one c b by l r p o v n once over e f new =
      record {
        held = picked c (Run b);
        next = e;
        starts = f;
        event = look-plug m c (One (Run b)) Here ∙ e;
        after = two_in c parent l r;
        borne = λ i.
            ap (times i) (numbers-plug c (Two parent (One (Run l)) (One (Run r))))
            ∙ times-put i n (numbers_before c) (numbers_behind c)
            ∙ ap (λ z. times i z + one_if (nat_eq i n)) (sym round);
        is_after = record {
          task = fill-plug m c (One (Run b)) (Two parent (One (Run l)) (One (Run r))) Here v (sym f);
          once = subst (λ z. IsDistinct z) (sym (numbers-plug c (Two parent (One (Run l)) (One (Run r)))))
              (distinct-put n (numbers_before c) (numbers_behind c) (subst (λ z. IsDistinct z) round once) (λ k. new (subst (λ z. IsIn n z) (sym round) k)));
          over = over-plug c (One (Run b)) (Two parent (One (Run l)) (One (Run r))) over (tt, tt);
        };
        sides = sides-in c parent l r;
      }
    where
      parent : Numbered V G
      parent = record { branch = by; blocks = p; number = n }

      round : numbers (plug c (One (Run b))) ≡ numbers_before c ++ numbers_behind c
      round = numbers-plug c (One (Run b))

  joins-two : (c : Round V G) (n : Numbered V G) (l r : Branch V G) (x y : Final V) → IsDistinct (numbers (two_in c n l r)) → AllOver (two_in c n l r) → final {G = G} (Leaf l) ≡ Some x → final {G = G} (Leaf r) ≡ Some y
      → JoinsTwo m (two_in c n l r) (at_hole c Here) n (foot_at AtRoot c) (parents_at [] c) l r x y (around c)
  joins-two c n l r x y once over e f =
      record {
        held = sides-in c n l r;
        left_over = e;
        right_over = f;
        event = look-plug m c old Here ∙ ap (λ z. if_both_over z (final (Leaf r)) None (λ x y. Some m.idle)) e ∙ ap (λ z. if_both_over (Some x) z None (λ x y. Some m.idle)) f;
        after = λ v. (plug c (One joined), is_after v, more, picked c joined);
      }
    where
      old : NumberedTree V G
      old = Two n (One (Run l)) (One (Run r))

      end : Final V
      end = join_of m n.branch n.blocks x y

      joined : Lone V G
      joined = lone_of (resumed m n.branch end)

      more : BearsMore m (plug c old) (plug c (One joined)) n.number
      more i =
          ap (times i) (numbers-plug c old)
          ∙ times-put i n.number (numbers_before c) (numbers_behind c)
          ∙ ap (λ z. times i z + one_if (nat_eq i n.number)) (sym (numbers-plug c (One joined)))

      filled : (v : Option V) → fill m Here (held_task old) v ≡ resumed m n.branch end
      filled v =
          ap (λ z. if_both_over z (final (Leaf r)) (held_task old) (λ x y. resumed m n.branch (join_of m n.branch n.blocks x y))) e
          ∙ ap (λ z. if_both_over (Some x) z (held_task old) (λ x y. resumed m n.branch (join_of m n.branch n.blocks x y))) f

      is_after : (v : Option V) → HeldAfter m (two_in c n l r) (at_hole c Here) v (plug c (One joined))
      is_after v =
          record {
            task = fill-plug m c old (One joined) Here v (joined-held m n.branch end ∙ sym (filled v));
            once = subst (λ z. IsDistinct z) (sym (numbers-plug c (One joined))) (distinct-out n.number (numbers_before c) (numbers_behind c) (subst (λ z. IsDistinct z) (numbers-plug c old) once)).0;
            over = over-plug c old (One joined) over (joined-over m n.branch end);
          }

  -- ---------- from pieces to the tree ----------
  pub turn-of-piece : TurnOfPiece m
  turn-of-piece h x rest o once over q e = (
    at_hole c (lone_way x.own),
    subst (λ z. ChangesOne m h (at_hole c (lone_way x.own)) o x z) (sym s.others)
        (subst (λ z. ChangesOne m h (at_hole c (lone_way x.own)) o z (around c)) (λ i. piece m (s.foot_is i) (s.parents_are i) x.own)
        (subst (λ z. ChangesOne m z (at_hole c (lone_way x.own)) o (piece_in c x.own) (around c)) (sym s.is)
        (changes-one c x.own o (subst (λ z. IsDistinct (numbers z)) s.is once) (subst (λ z. AllOver z) s.is over) e))),
  )
    where
      s : Spot h AtRoot [] x rest
      s = find h AtRoot [] x rest q

      c : Round V G
      c = s.round

  pub split-of-piece : SplitOfPiece m
  split-of-piece h foot up b by l r p rest o v n once over q e f new = (
    at_hole c Here,
    subst (λ z. SplitsOne m h (at_hole c Here) o v foot up b parent l r z) (sym s.others)
        (subst (λ z. SplitsOne m h (at_hole c Here) o v foot z b parent l r (around c)) s.parents_are
        (subst (λ z. SplitsOne m h (at_hole c Here) o v z (parents_at [] c) b parent l r (around c)) s.foot_is
        (subst (λ z. SplitsOne m z (at_hole c Here) o v (foot_at AtRoot c) (parents_at [] c) b parent l r (around c)) (sym s.is)
        (splits-one c b by l r p o v n (subst (λ z. IsDistinct (numbers z)) s.is once) (subst (λ z. AllOver z) s.is over) e f (subst (λ z. IsIn n (numbers z) → ⊥) s.is new))))),
  )
    where
      s : Spot h AtRoot [] (piece m foot up (Run b)) rest
      s = find h AtRoot [] (piece m foot up (Run b)) rest q

      c : Round V G
      c = s.round

      parent : Numbered V G
      parent = record { branch = by; blocks = p; number = n }

  pub join-of-pieces : JoinOfPieces m
  join-of-pieces h n foot up l r x y rest once over sides e f = (
    at_hole c Here,
    subst (λ z. JoinsTwo m h (at_hole c Here) n foot up l r x y z) (sym s.others)
        (subst (λ z. JoinsTwo m h (at_hole c Here) n foot z l r x y (around c)) s.parents_are
        (subst (λ z. JoinsTwo m h (at_hole c Here) n z (parents_at [] c) l r x y (around c)) s.foot_is
        (subst (λ z. JoinsTwo m z (at_hole c Here) n (foot_at AtRoot c) (parents_at [] c) l r x y (around c)) (sym s.is)
        (joins-two c n l r x y (subst (λ z. IsDistinct (numbers z)) s.is once) (subst (λ z. AllOver z) s.is over) e f)))),
  )
    where
      s : Pair h n foot up (Run l) (Run r) rest
      s = find-pair h n foot up (Run l) (Run r) sides.middle rest once sides.left sides.right

      c : Round V G
      c = s.round

  -- ---------- from the tree to its pieces ----------
  of-one : (h : NumberedTree V G) (w : Way) (o : O) → IsDistinct (numbers h) → AllOver h → look m w (held_task h) ≡ Some o → AtHolder h w → OfOne m h w o
  of-one h w o once over e a =
      subst (λ z. OfOne m z w o) (sym a.is) (subst (λ z. OfOne m (plug c (One a.holder)) z o) (sym a.way)
      (record { x = piece_in c a.holder; rest = around c; changes = changes-one c a.holder o (subst (λ z. IsDistinct (numbers z)) a.is once) (subst (λ z. AllOver z) a.is over) next }))
    where
      c : Round V G
      c = a.round

      next : look m (lone_way a.holder) (lone_task a.holder) ≡ Some o
      next = sym (look-plug m c (One a.holder) (lone_way a.holder)) ∙ (λ i. look m (sym a.way i) (held_task (sym a.is i))) ∙ e

  of-two : (h : NumberedTree V G) (w : Way) (o : O) → IsDistinct (numbers h) → AllOver h → look m w (held_task h) ≡ Some o → AtJoin h w → OfTwo m h w
  of-two h w o once over e a =
      subst (λ z. OfTwo m z w) (sym a.is) (subst (λ z. OfTwo m (plug c old) z) (sym a.way)
      (record {
        n = a.parent;
        foot = foot_at AtRoot c;
        up = parents_at [] c;
        l = a.left;
        r = a.right;
        x = ends.0;
        y = ends.1;
        rest = around c;
        joins = joins-two c a.parent a.left a.right ends.0 ends.1 (subst (λ z. IsDistinct (numbers z)) a.is once) (subst (λ z. AllOver z) a.is over) ends.2 ends.3;
      }))
    where
      c : Round V G
      c = a.round

      old : NumberedTree V G
      old = Two a.parent (One (Run a.left)) (One (Run a.right))

      ends : (f : Final V) × (g : Final V) × (final {G = G} (Leaf a.left) ≡ Some f) × (final {G = G} (Leaf a.right) ≡ Some g)
      ends = join-sides m (Leaf a.left) (Leaf a.right) a.parent.branch a.parent.blocks o (sym (look-plug m c old Here) ∙ (λ i. look m (sym a.way i) (held_task (sym a.is i))) ∙ e)

  pub event-of-pieces : EventOfPieces m
  event-of-pieces h w o once over e = go (each-event m h w o over e)
    where
      go : AtHolder h w ⊎ (AtJoin h w ⊎ IsAsideIn h w) → OfOne m h w o ⊎ (OfTwo m h w ⊎ IsAsideIn h w)
      go (inl a) = inl (of-one h w o once over e a)
      go (inr (inl a)) = inr (inl (of-two h w o once over e a))
      go (inr (inr k)) = inr (inr k)
