-- After an event each side stands in the method of its parent, and bears the path of the par that its parent began last.
use Rattle.std.proofs.Common.{◌≡◌, ℕ, Bool, true, false, Option, List, [], ◌∷◌, refl, sym, ap, subst, ◌∙◌}
use Rattle.std.specs.Prelude.{◌&&◌, ◌||◌, not, nat_eq}
use Rattle.std.proofs.lemmas.Bool.{and_parts}
use Rattle.perm_tree.specs.Code.{Code, End, Give, Return, Do, If, While, Par, Recover, UnitCode}
use Rattle.perm_meaning.specs.Names.{Path, Mark}
use Rattle.perm_meaning.specs.Machine.{Frame, OpenBlock, OpenRecover, OpenCall, Leaf, Way, Final, Fine, GaveBack, Failed, Did, On, Splits, Ends, Dies, settled, done, resumed, join_of}
use Rattle.perm_meaning.specs.NamedHeap.{Held, Op, Own, Branch, Task}
use Rattle.perm_meaning.proofs.SameName.{together, eq-itself, eq-true}
use Rattle.perm_core.specs.Core.{core}
use Rattle.perm_core.specs.Endings.{is_open}
use Rattle.perm_core.specs.Picture.{lowest, stands_in, sides_stand, path_of, PathsFit}
use Rattle.perm_core.proofs.KeepsPicture.Turns.LeafTurns.{TurnTo, dying, ending, acting, making, beginning, left_block, right_block, into_loop, out_of_loop, parting, recovering, giving, returning}
use Rattle.perm_core.proofs.KeepsPicture.Trees.TreeEvents.{EventAt, refused_leaf, told_leaf, joining, on_left, on_right}

module _ (u : UnitCode) where
  -- ---------- a branch that goes on ----------
  pub settled-lowest : (b : Branch) (vs : List Held) (c : Code) (st : List (Frame Held)) → lowest (settled (core u) b vs c st).own.routine (settled (core u) b vs c st).stack ≡ lowest b.own.routine st
  settled-lowest b vs End (OpenBlock own rest ∷ st) = settled-lowest b ((core u).clear_own vs own) rest st
  settled-lowest b vs End [] = refl
  settled-lowest b vs End (OpenRecover own hides saved rest ∷ st) = refl
  settled-lowest b vs End (OpenCall tie into y saved lent caller rest ∷ st) = refl
  settled-lowest b vs (Give at w x) st = refl
  settled-lowest b vs (Return at a) st = refl
  settled-lowest b vs (Do at i rest) st = refl
  settled-lowest b vs (If at x own1 a own2 d rest) st = refl
  settled-lowest b vs (While at x own a rest) st = refl
  settled-lowest b vs (Par at own1 a own2 d rest) st = refl
  settled-lowest b vs (Recover at x own hides a rest) st = refl

  pub settled-path : (b : Branch) (vs : List Held) (c : Code) (st : List (Frame Held)) → (settled (core u) b vs c st).own.mark ≡ b.own.mark
  settled-path b vs End (OpenBlock own rest ∷ st) = settled-path b ((core u).clear_own vs own) rest st
  settled-path b vs End [] = refl
  settled-path b vs End (OpenRecover own hides saved rest ∷ st) = refl
  settled-path b vs End (OpenCall tie into y saved lent caller rest ∷ st) = refl
  settled-path b vs (Give at w x) st = refl
  settled-path b vs (Return at a) st = refl
  settled-path b vs (Do at i rest) st = refl
  settled-path b vs (If at x own1 a own2 d rest) st = refl
  settled-path b vs (While at x own a rest) st = refl
  settled-path b vs (Par at own1 a own2 d rest) st = refl
  settled-path b vs (Recover at x own hides a rest) st = refl

  -- ---------- events of a node ----------
  -- what an event leaves of the root of a tree: its lowest method, unless it has ended, and its path
  pub record Keeps (m : ℕ) (path : Path) (t : Task) : Type 0 where
    pub stands : stands_in m t ≡ true
    pub paths : path_of t ≡ path

  on-stands : (m : ℕ) (b : Branch) (vs : List Held) (c : Code) (st : List (Frame Held)) → lowest b.own.routine st ≡ m → stands_in m (Leaf (settled (core u) b vs c st)) ≡ true
  on-stands m b vs c st e = open_or (not (is_open (settled (core u) b vs c st).close)) (ap (λ n. nat_eq n m) (settled-lowest b vs c st ∙ e) ∙ eq-itself m)
    where
      open_or : (a : Bool) {x : Bool} → x ≡ true → (a || x) ≡ true
      open_or true e = refl
      open_or false e = e

  on-keeps : (m : ℕ) (b : Branch) (l : Own) (t : ℕ) (c : Code) (st : List (Frame Held)) → lowest l.routine st ≡ m → l.mark.path ≡ b.own.mark.path → Keeps m b.own.mark.path (Leaf (settled (core u) (record b { own = l; turns = t }) l.vars c st))
  on-keeps m b l t c st low path = record {
    stands = on-stands m (record b { own = l; turns = t }) l.vars c st low;
    paths = ap (λ (k : Mark). k.path) (settled-path (record b { own = l; turns = t }) l.vars c st) ∙ path;
  }

  path-of-mark : {k n : Mark} → k ≡ n → k.path ≡ n.path
  path-of-mark e = ap (λ (k : Mark). k.path) e

  turn-keeps : (m : ℕ) (b : Branch) (t : ℕ) (w : Held) (c : Code) (st : List (Frame Held)) (o : Op) (d : Did Held Mark) → st ≡ b.stack → lowest b.own.routine st ≡ m → TurnTo u b.own w c st o d → Keeps m b.own.mark.path (done (core u) b t d)
  turn-keeps m b t w _ _ _ _ here low (dying c st f) = record { stands = refl; paths = refl }
  turn-keeps m b t w _ _ _ _ here low (ending at a v q) = record { stands = refl; paths = refl }
  turn-keeps m b t w _ _ _ _ here low (acting at i rest st o vs l acts stays) = on-keeps m b l t rest st (ap (λ n. lowest n st) stays.routine ∙ low) (path-of-mark stays.mark)
  turn-keeps m b t w _ _ _ _ here low (making at i rest st shape n x l is q) = on-keeps m b l t rest st (ap (λ (k : Own). lowest k.routine st) q ∙ low) (ap (λ (k : Own). k.mark.path) q)
  turn-keeps m b t w _ _ _ _ here low (beginning at rest st into tie consumed y n args r this found vs saved lent l c caller is code q1 q2 q3 goes) =
      on-keeps m b l t c (OpenCall tie into y saved lent caller rest ∷ st) (ap (λ k. lowest k st) q3 ∙ low) (path-of-mark goes.mark)
  turn-keeps m b t w _ _ _ _ here low (left_block at x own1 a own2 a2 rest st) = on-keeps m b b.own t a (OpenBlock own1 rest ∷ st) low refl
  turn-keeps m b t w _ _ _ _ here low (right_block at x own1 a own2 a2 rest st) = on-keeps m b b.own t a2 (OpenBlock own2 rest ∷ st) low refl
  turn-keeps m b t w _ _ _ _ here low (into_loop at x own body rest st) = on-keeps m b b.own t body (OpenBlock own (While at x own body rest) ∷ st) low refl
  turn-keeps m b t w _ _ _ _ here low (out_of_loop at x own body rest st) = on-keeps m b b.own t rest st low refl
  turn-keeps m b t w _ _ _ _ here low (parting at own1 a own2 a2 rest st p same) = record { stands = ap (λ n. nat_eq n m) (subst (λ (z : List (Frame Held)). lowest b.own.routine z ≡ m) here low) ∙ eq-itself m; paths = refl }
  turn-keeps m b t w _ _ _ _ here low (recovering at x own hides body rest st l saved goes q) = on-keeps m b l t body (OpenRecover own hides saved rest ∷ st) (ap (λ n. lowest n st) goes.routine ∙ low) (path-of-mark goes.mark)
  turn-keeps m b t w _ _ _ _ here low (giving at y x own hides saved rest st v l had q goes) = on-keeps m b l t rest st (ap (λ n. lowest n st) goes.routine ∙ low) (path-of-mark goes.mark)
  turn-keeps m b t w _ _ _ _ here low (returning at a tie into y saved lent caller rest st v l q goes) = on-keeps m b l t rest st (ap (λ n. lowest n st) goes.routine ∙ low) (path-of-mark goes.mark)

  -- a join
  resumed-keeps : (m : ℕ) (b : Branch) (f : Final Held) → lowest b.own.routine b.stack ≡ m → Keeps m b.own.mark.path (resumed (core u) b f)
  resumed-keeps m b (Fine vs t p) low = record {
    stands = on-stands m (record b { own = record b.own { printed = p }; turns = t }) vs b.code b.stack low;
    paths = path-of-mark (settled-path (record b { own = record b.own { printed = p }; turns = t }) vs b.code b.stack);
  }
  resumed-keeps m b (GaveBack v t p) low = record { stands = refl; paths = refl }
  resumed-keeps m b (Failed e t p) low = record { stands = refl; paths = refl }

  -- a test of a number that holds
  same-number : (n m : ℕ) → nat_eq n m ≡ true → n ≡ m
  same-number n m e = eq-true n m e

  -- an event keeps both of the root
  pub root-keeps : (m : ℕ) (o : Op) (v : Option Held) (w : Way) (t after : Task) → stands_in m t ≡ true → EventAt u o v w t after → Keeps m (path_of t) after
  root-keeps m o v _ _ after e (refused_leaf b t _ q open_ same) = subst (λ (z : Task). Keeps m b.own.mark.path z) (sym same) (record { stands = refl; paths = refl })
  root-keeps m o v _ _ after e (told_leaf b t w d _ q open_ due turn same) =
      let low = same-number (lowest b.own.routine b.stack) m (sym (ap (λ x. not (is_open x) || nat_eq (lowest b.own.routine b.stack) m) open_) ∙ e) in
      subst (λ (z : Task). Keeps m b.own.mark.path z) (sym same) (turn-keeps m b t w b.code b.stack o d refl low turn)
  root-keeps m o v _ _ after e (joining b p l r x y _ q left right same) = subst (λ (z : Task). Keeps m b.own.mark.path z) (sym same) (resumed-keeps m b _ (same-number (lowest b.own.routine b.stack) m e))
  root-keeps m o v _ _ _ e (on_left w b p l r after is) = record { stands = e; paths = refl }
  root-keeps m o v _ _ _ e (on_right w b p l r after is) = record { stands = e; paths = refl }

  -- ---------- sides ----------
  -- the sides of a tree stand in the methods of their parents, and bear the paths of their pars
  pub record SidesFit (t : Task) : Type 0 where
    pub stand : sides_stand t ≡ true
    pub paths : PathsFit t

  turn-sides : (b : Branch) (t : ℕ) (d : Did Held Mark) → SidesFit (done (core u) b t d)
  turn-sides b t (On l c st) = record { stand = refl; paths = tt }
  turn-sides b t (Ends v) = record { stand = refl; paths = tt }
  turn-sides b t (Dies e) = record { stand = refl; paths = tt }
  turn-sides b t (Splits p rest) =
      let same : nat_eq b.own.routine b.own.routine ≡ true = eq-itself b.own.routine in
      record {
        stand = together (nat_eq b.own.routine b.own.routine && nat_eq b.own.routine b.own.routine) true (together (nat_eq b.own.routine b.own.routine) (nat_eq b.own.routine b.own.routine) same same) refl;
        paths = (b.own.mark.pars, refl, refl, refl, tt, tt);
      }

  resumed-sides : (b : Branch) (f : Final Held) → SidesFit (resumed (core u) b f)
  resumed-sides b (Fine vs t p) = record { stand = refl; paths = tt }
  resumed-sides b (GaveBack v t p) = record { stand = refl; paths = tt }
  resumed-sides b (Failed e t p) = record { stand = refl; paths = tt }

  -- so it is after an event
  pub keeps-sides : (o : Op) (v : Option Held) (w : Way) (t after : Task) → SidesFit t → EventAt u o v w t after → SidesFit after
  keeps-sides o v _ _ after fit (refused_leaf b t _ q open_ same) = subst SidesFit (sym same) (record { stand = refl; paths = tt })
  keeps-sides o v _ _ after fit (told_leaf b t w d _ q open_ due turn same) = subst SidesFit (sym same) (turn-sides b t d)
  keeps-sides o v _ _ after fit (joining b p l r x y _ q left right same) = subst SidesFit (sym same) (resumed-sides b (join_of (core u) b p x y))
  keeps-sides o v _ _ _ fit (on_left w b p l r after is) =
      let m = b.own.routine in
      let q = and_parts (stands_in m l && stands_in m r) (sides_stand l && sides_stand r) fit.stand in
      let top = and_parts (stands_in m l) (stands_in m r) q.0 in
      let under = and_parts (sides_stand l) (sides_stand r) q.1 in
      let root = root-keeps m o v w l after top.0 is in
      let more = keeps-sides o v w l after (record { stand = under.0; paths = fit.paths.4 }) is in
      record {
        stand = together (stands_in m after && stands_in m r) (sides_stand after && sides_stand r) (together (stands_in m after) (stands_in m r) root.stands top.1) (together (sides_stand after) (sides_stand r) more.stand under.1);
        paths = (fit.paths.0, fit.paths.1, root.paths ∙ fit.paths.2, fit.paths.3, more.paths, fit.paths.5);
      }
  keeps-sides o v _ _ _ fit (on_right w b p l r after is) =
      let m = b.own.routine in
      let q = and_parts (stands_in m l && stands_in m r) (sides_stand l && sides_stand r) fit.stand in
      let top = and_parts (stands_in m l) (stands_in m r) q.0 in
      let under = and_parts (sides_stand l) (sides_stand r) q.1 in
      let root = root-keeps m o v w r after top.1 is in
      let more = keeps-sides o v w r after (record { stand = under.1; paths = fit.paths.5 }) is in
      record {
        stand = together (stands_in m l && stands_in m after) (sides_stand l && sides_stand after) (together (stands_in m l) (stands_in m after) top.0 root.stands) (together (sides_stand l) (sides_stand after) under.0 more.stand);
        paths = (fit.paths.0, fit.paths.1, fit.paths.2, root.paths ∙ fit.paths.3, fit.paths.4, more.paths);
      }
