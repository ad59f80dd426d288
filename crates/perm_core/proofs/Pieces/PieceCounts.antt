-- What the pieces of a tree count: the numbers that are borne and the turns that are left, and what events, the starts of pars and joins take of these.
use Rattle.std.proofs.Common.{◌≡◌, ℕ, suc, ◌+◌, Option, Some, None, List, [], ◌∷◌, refl, sym, ap, ◌∙◌, arith}
use Rattle.perm_meaning.specs.Machine.{Branch, Task, Leaf, Fork, Blocks, Way, Here, GoL, GoR, Final, Fine, GaveBack, Failed, Stage, Over, Due, Did, On, Splits, Ends, Dies, Turn, Takes, NoTurn, Machine, stage, final, turns_of, if_both_over, done, told_to, turn_op, next_turn, leaf_op, leaf_on, resumed, join_of, look, fill}
use Rattle.perm_meaning.specs.Steps.{lone_task, lone_of, lone_way}
use Rattle.perm_meaning.proofs.Leads.{some-inj, none-some}
use Rattle.perm_core.specs.Bag.{times, total}
use Rattle.perm_core.specs.Pieces.{Foot, AtRoot, Numbered, NumberedTree, One, Two, held_task, cut, numbers, at_foot, numbers_of, feet_of, parents_of, turns_in, turns_of_piece, turn_at, IsAlone}
use Rattle.perm_core.specs.PieceLaws.{NumbersOfPieces, TurnsOfPieces, TakesTurns, SplitTakes, JoinReturns, AsksAtLeaf}
use Rattle.perm_core.proofs.Pieces.Bags.{total-append, times-append}
use Rattle.perm_core.proofs.Pieces.HeldEvents.{lone-event, joined-held}
use Rattle.perm_core.proofs.Pieces.RightSides.{right_of}
use Rattle.perm_core.proofs.FewEvents.{join-turns, due-turns, over-turns, settled-turns}

module _ {V G : Type 0} where
  -- ---------- numbers ----------
  -- the feet of right sides among the pieces are those of the numbers that are borne, and the foot of the whole
  pub feet-sum : (i : ℕ) (h : NumberedTree V G) (foot : Foot) (up : List (Numbered V G)) → total (feet_of i) (cut foot up h) ≡ at_foot i foot + times i (numbers h)
  feet-sum i (One x) foot up = refl
  feet-sum i (Two w l r) foot up =
      let a = feet-sum i l foot (w ∷ up) in
      let b = feet-sum i r (right_of w.number) [] in
      let c = total-append (feet_of i) (cut foot (w ∷ up) l) (cut (right_of w.number) [] r) in
      let d = times-append i (numbers l) (numbers r) in
      omega arith

  -- the parents of the pieces are those that bear the numbers, and those above the whole
  pub parents-sum : (i : ℕ) (h : NumberedTree V G) (foot : Foot) (up : List (Numbered V G)) → total (parents_of i) (cut foot up h) ≡ times i (numbers_of up) + times i (numbers h)
  parents-sum i (One x) foot up = refl
  parents-sum i (Two w l r) foot up =
      let a = parents-sum i l foot (w ∷ up) in
      let b = parents-sum i r (right_of w.number) [] in
      let c = total-append (parents_of i) (cut foot (w ∷ up) l) (cut (right_of w.number) [] r) in
      let d = times-append i (numbers l) (numbers r) in
      omega arith

  -- ---------- turns ----------
  -- the pieces have the turns of the tree
  pub turns-sum : (h : NumberedTree V G) (foot : Foot) (up : List (Numbered V G)) → total turns_of_piece (cut foot up h) ≡ turns_in (held_task h)
  turns-sum (One x) foot up = omega arith
  turns-sum (Two w l r) foot up =
      let a = turns-sum l foot (w ∷ up) in
      let b = turns-sum r (right_of w.number) [] in
      let c = total-append turns_of_piece (cut foot (w ∷ up) l) (cut (right_of w.number) [] r) in
      omega arith

  -- a leaf that is over has the turns of its end
  pub final-turns : (t : Task V G) (f : Final V) → final t ≡ Some f → turns_in t ≡ turns_of f
  final-turns (Leaf b) f e = sym (over-turns b.close b.code b.stack b.turns b.own f e)
  final-turns (Fork b p l r) f e = none-some e

module _ {V G O : Type 0} (m : Machine V G O) where
  -- ---------- one event ----------
  done-turns : (b : Branch V G) (t : ℕ) (d : Did V G) → turns_in (done m b t d) ≡ t
  done-turns b t (On l c st) = settled-turns m (record b { own = l; turns = t }) l.vars c st
  done-turns b t (Splits p rest) = omega arith
  done-turns b t (Ends v) = refl
  done-turns b t (Dies e) = refl

  told-turns : (b : Branch V G) (t : ℕ) (turn : Turn V G O) (o : O) (v : Option V) → turn_op m turn ≡ Some o → turns_in (told_to m b t turn v) ≡ t
  told-turns b t NoTurn o v e = none-some e
  told-turns b t (Takes q told) o None e = refl
  told-turns b t (Takes q told) o (Some v) e = done-turns b t (told v)

  -- the event of a leaf takes one turn
  pub leaf-turns : (b : Branch V G) (st : Stage V) (o : O) (v : Option V) → stage b ≡ st → leaf_op m b st ≡ Some o → suc (turns_in (leaf_on m b st v)) ≡ b.turns
  leaf-turns b (Over f) o v is e = none-some e
  leaf-turns b (Due t) o v is e =
      let turns : b.turns ≡ suc t = due-turns b.close b.code b.stack b.turns t b.own is in
      let same : turns_in (told_to m b t (next_turn m b) v) ≡ t = told-turns b t (next_turn m b) o v e in
      omega arith

  resumed-turns : (b : Branch V G) (f : Final V) → turns_in (resumed m b f) ≡ turns_of f
  resumed-turns b (Fine vs t p) = settled-turns m (record b { own = record b.own { printed = p }; turns = t }) vs b.code b.stack
  resumed-turns b (GaveBack v t p) = refl
  resumed-turns b (Failed e t p) = refl

  -- a join takes no turn
  pub joined-turns : (b : Branch V G) (p : Blocks) (x y : Final V) → turns_in (resumed m b (join_of m b p x y)) ≡ turns_of x + turns_of y
  joined-turns b p x y = resumed-turns b (join_of m b p x y) ∙ join-turns (m.parting.joined b.own.routine p) b.own.vars b.own.printed x y

  fork-turns : (b : Branch V G) (p : Blocks) (l r : Task V G) (f g : Option (Final V)) (o : O) → final l ≡ f → final r ≡ g → if_both_over f g None (λ x y. Some m.idle) ≡ Some o
      → turns_in (if_both_over f g (Fork b p l r) (λ x y. resumed m b (join_of m b p x y))) + 0 ≡ turns_in l + turns_in r
  fork-turns b p l r None g o left right e = none-some e
  fork-turns b p l r (Some x) None o left right e = none-some e
  fork-turns b p l r (Some x) (Some y) o left right e =
      let both = joined-turns b p x y in
      let first = final-turns l x left in
      let second = final-turns r y right in
      omega arith

  -- the event of a node takes one turn where the node is a leaf, and none where it is a waiting parent
  pub event-turns : (w : Way) (t : Task V G) (o : O) (v : Option V) → look m w t ≡ Some o → turns_in (fill m w t v) + turn_at w t ≡ turns_in t
  event-turns Here (Leaf b) o v e = let h = leaf-turns b (stage b) o v refl e in omega arith
  event-turns Here (Fork b p l r) o v e = fork-turns b p l r (final l) (final r) o refl refl e
  event-turns (GoL w) (Leaf b) o v e = none-some e
  event-turns (GoR w) (Leaf b) o v e = none-some e
  event-turns (GoL w) (Fork b p l r) o v e = let h = event-turns w l o v e in omega arith
  event-turns (GoR w) (Fork b p l r) o v e = let h = event-turns w r o v e in omega arith

  -- ---------- what is asked ----------
  asks-join : (f g : Option (Final V)) (o : O) → if_both_over f g None (λ x y. Some m.idle) ≡ Some o → o ≡ m.idle
  asks-join None g o e = none-some e
  asks-join (Some x) None o e = none-some e
  asks-join (Some x) (Some y) o e = sym (some-inj e)

  -- a node that asks something of the heap is a leaf
  pub asks-leaf : (w : Way) (t : Task V G) (o : O) → look m w t ≡ Some o → (o ≡ m.idle → ⊥) → turn_at w t ≡ 1
  asks-leaf Here (Leaf b) o e n = refl
  asks-leaf Here (Fork b p l r) o e n = absurd (n (asks-join (final l) (final r) o e))
  asks-leaf (GoL w) (Leaf b) o e n = none-some e
  asks-leaf (GoR w) (Leaf b) o e n = none-some e
  asks-leaf (GoL w) (Fork b p l r) o e n = asks-leaf w l o e n
  asks-leaf (GoR w) (Fork b p l r) o e n = asks-leaf w r o e n

  -- a join leaves one branch
  pub joined-alone : (b : Branch V G) (f : Final V) → IsAlone (lone_of (resumed m b f))
  joined-alone b (Fine vs t p) = (_, refl)
  joined-alone b (GaveBack v t p) = (_, refl)
  joined-alone b (Failed e t p) = (_, refl)

  -- ---------- the law ----------
  pub numbers-of-pieces : NumbersOfPieces m
  numbers-of-pieces h i = let a = feet-sum i h AtRoot [] in let b = parents-sum i h AtRoot [] in (omega arith, omega arith)

  pub turns-of-pieces : TurnsOfPieces m
  turns-of-pieces h = turns-sum h AtRoot []

  pub takes-turns : TakesTurns m
  takes-turns x o v e = ap (λ t. turns_in t + turn_at (lone_way x) (lone_task x)) (lone-event m x v o e) ∙ event-turns (lone_way x) (lone_task x) o v e

  pub split-takes : SplitTakes m
  split-takes b c l r p o v e f = ap (λ t. suc (turns_in t)) (sym f) ∙ leaf-turns b (stage b) o v refl e

  pub join-returns : JoinReturns m
  join-returns b l r p x y e f =
      let same : turns_in (lone_task (lone_of (resumed m b (join_of m b p x y)))) ≡ turns_in (resumed m b (join_of m b p x y)) = ap turns_in (joined-held m b (join_of m b p x y)) in
      let both = joined-turns b p x y in
      let first : l.turns ≡ turns_of x = final-turns (Leaf l) x e in
      let second : r.turns ≡ turns_of y = final-turns (Leaf r) y f in
      omega arith

  pub asks-at-leaf : AsksAtLeaf m
  asks-at-leaf x o e n = asks-leaf (lone_way x) (lone_task x) o e n
