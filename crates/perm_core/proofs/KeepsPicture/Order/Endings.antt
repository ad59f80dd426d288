-- After an event the code of each branch ends as what stands below it needs.
use Rattle.std.proofs.Common.{◌≡◌, ℕ, true, Option, Some, None, List, [], ◌∷◌, refl, sym, ap, subst, ◌∙◌}
use Rattle.std.specs.Prelude.{◌&&◌, ℤ}
use Rattle.std.proofs.lemmas.Bool.{and_parts}
use Rattle.perm_tree.specs.Code.{Code, End, Give, Return, Do, If, While, Par, Recover, UnitCode}
use Rattle.perm_meaning.specs.Names.{Mark}
use Rattle.perm_meaning.specs.Machine.{Frame, OpenBlock, OpenRecover, OpenCall, Close, Blocks, Leaf, Way, Final, Fine, GaveBack, Failed, Did, join_final, settled, done, resumed}
use Rattle.perm_meaning.specs.NamedHeap.{Held, Op, Branch, Task}
use Rattle.perm_meaning.proofs.SameName.{together}
use Rattle.perm_core.specs.Core.{core}
use Rattle.perm_core.specs.Endings.{Ending, ByNothing, ByGive, ByReturn, ends, stack_ends, is_settled, is_open, branch_ends, tree_ends}
use Rattle.perm_core.specs.Whole.{IsWhole}
use Rattle.perm_core.proofs.KeepsPicture.Turns.LeafTurns.{TurnTo, dying, ending, acting, making, beginning, left_block, right_block, into_loop, out_of_loop, parting, recovering, giving, returning}
use Rattle.perm_core.proofs.KeepsPicture.Trees.TreeEvents.{EventAt, refused_leaf, told_leaf, joining, on_left, on_right}

-- ---------- stacks ----------
-- how the code above a stack ends
abbrev due_of : Ending → List (Frame Held) → Ending
due_of k [] = k
due_of k (OpenBlock own rest ∷ st) = ByNothing
due_of k (OpenRecover own hides saved rest ∷ st) = ByGive
due_of k (OpenCall tie into y saved lent caller rest ∷ st) = ByReturn

due-of : (k : Ending) (c : Code) (st : List (Frame Held)) → stack_ends k c st ≡ true → ends (due_of k st) c ≡ true
due-of k c [] e = e
due-of k c (OpenBlock own rest ∷ st) e = (and_parts (ends ByNothing c) (stack_ends k rest st) e).0
due-of k c (OpenRecover own hides saved rest ∷ st) e = (and_parts (ends ByGive c) (stack_ends k rest st) e).0
due-of k c (OpenCall tie into y saved lent caller rest ∷ st) e = (and_parts (ends ByReturn c) (stack_ends k rest st) e).0

-- other code that ends so
instead : (k : Ending) (c a : Code) (st : List (Frame Held)) → stack_ends k c st ≡ true → ends (due_of k st) a ≡ true → stack_ends k a st ≡ true
instead k c a [] e f = f
instead k c a (OpenBlock own rest ∷ st) e f = together (ends ByNothing a) (stack_ends k rest st) f (and_parts (ends ByNothing c) (stack_ends k rest st) e).1
instead k c a (OpenRecover own hides saved rest ∷ st) e f = together (ends ByGive a) (stack_ends k rest st) f (and_parts (ends ByGive c) (stack_ends k rest st) e).1
instead k c a (OpenCall tie into y saved lent caller rest ∷ st) e f = together (ends ByReturn a) (stack_ends k rest st) f (and_parts (ends ByReturn c) (stack_ends k rest st) e).1

settled-nothing : (c : Code) → is_settled c [] ≡ true
settled-nothing End = refl
settled-nothing (Give at w x) = refl
settled-nothing (Return at a) = refl
settled-nothing (Do at i rest) = refl
settled-nothing (If at x own1 a own2 d rest) = refl
settled-nothing (While at x own a rest) = refl
settled-nothing (Par at own1 a own2 d rest) = refl
settled-nothing (Recover at x own hides a rest) = refl

module _ (u : UnitCode) where
  -- a branch that goes on ends so, once its ended blocks are left
  settled-ends : (k : Ending) (b : Branch) (vs : List Held) (c : Code) (st : List (Frame Held)) → b.close ≡ None → stack_ends k c st ≡ true → tree_ends k (Leaf (settled (core u) b vs c st)) ≡ true
  settled-ends k b vs End (OpenBlock own rest ∷ st) open_ e = settled-ends k b ((core u).clear_own vs own) rest st open_ (and_parts (ends ByNothing End) (stack_ends k rest st) e).1
  settled-ends k b vs End [] open_ e = ap (λ x. branch_ends k x End []) open_ ∙ e
  settled-ends k b vs End (OpenRecover own hides saved rest ∷ st) open_ e = ap (λ x. branch_ends k x End (OpenRecover own hides saved rest ∷ st)) open_ ∙ e
  settled-ends k b vs End (OpenCall tie into y saved lent caller rest ∷ st) open_ e = ap (λ x. branch_ends k x End (OpenCall tie into y saved lent caller rest ∷ st)) open_ ∙ e
  settled-ends k b vs (Give at w x) st open_ e = ap (λ q. branch_ends k q (Give at w x) st) open_ ∙ e
  settled-ends k b vs (Return at a) st open_ e = ap (λ q. branch_ends k q (Return at a) st) open_ ∙ e
  settled-ends k b vs (Do at i rest) st open_ e = ap (λ q. branch_ends k q (Do at i rest) st) open_ ∙ e
  settled-ends k b vs (If at x own1 a own2 d rest) st open_ e = ap (λ q. branch_ends k q (If at x own1 a own2 d rest) st) open_ ∙ e
  settled-ends k b vs (While at x own a rest) st open_ e = ap (λ q. branch_ends k q (While at x own a rest) st) open_ ∙ e
  settled-ends k b vs (Par at own1 a own2 d rest) st open_ e = ap (λ q. branch_ends k q (Par at own1 a own2 d rest) st) open_ ∙ e
  settled-ends k b vs (Recover at x own hides a rest) st open_ e = ap (λ q. branch_ends k q (Recover at x own hides a rest) st) open_ ∙ e

  -- a side that begins
  side-ends : (c : Code) → ends ByNothing c ≡ true → branch_ends ByNothing None c [] ≡ true
  side-ends c e = together (is_settled c []) (ends ByNothing c) (settled-nothing c) e

  module _ (whole : IsWhole u) where
    -- a turn
    turn-ends : (k : Ending) (b : Branch) (t : ℕ) (w : Held) (c : Code) (st : List (Frame Held)) (o : Op) (d : Did Held Mark) → st ≡ b.stack → b.close ≡ None → stack_ends k c st ≡ true → TurnTo u b.own w c st o d → tree_ends k (done (core u) b t d) ≡ true
    turn-ends k b t w _ _ _ _ here open_ e (dying c st f) = refl
    turn-ends k b t w _ _ _ _ here open_ e (ending at a v q) = e
    turn-ends k b t w _ _ _ _ here open_ e (acting at i rest st o vs l acts stays) = settled-ends k (record b { own = l; turns = t }) l.vars rest st open_ (instead k (Do at i rest) rest st e (due-of k (Do at i rest) st e))
    turn-ends k b t w _ _ _ _ here open_ e (making at i rest st shape n x l is q) = settled-ends k (record b { own = l; turns = t }) l.vars rest st open_ (instead k (Do at i rest) rest st e (due-of k (Do at i rest) st e))
    turn-ends k b t w _ _ _ _ here open_ e (beginning at rest st into tie consumed y m args r this found vs saved lent l c caller is code q1 q2 q3 goes) =
        settled-ends k (record b { own = l; turns = t }) l.vars c (OpenCall tie into y saved lent caller rest ∷ st) open_
        (together (ends ByReturn c) (stack_ends k rest st) (ap (ends ByReturn) code ∙ (whole.routines m r is.here).returns) (instead k _ rest st e (due-of k _ st e)))
    turn-ends k b t w _ _ _ _ here open_ e (left_block at x own1 a own2 a2 rest st) =
        let p = due-of k (If at x own1 a own2 a2 rest) st e in
        let q = and_parts (ends ByNothing a) (ends ByNothing a2 && ends (due_of k st) rest) p in
        settled-ends k (record b { turns = t }) b.own.vars a (OpenBlock own1 rest ∷ st) open_
        (together (ends ByNothing a) (stack_ends k rest st) q.0 (instead k (If at x own1 a own2 a2 rest) rest st e (and_parts (ends ByNothing a2) (ends (due_of k st) rest) q.1).1))
    turn-ends k b t w _ _ _ _ here open_ e (right_block at x own1 a own2 a2 rest st) =
        let p = due-of k (If at x own1 a own2 a2 rest) st e in
        let q = and_parts (ends ByNothing a2) (ends (due_of k st) rest) (and_parts (ends ByNothing a) (ends ByNothing a2 && ends (due_of k st) rest) p).1 in
        settled-ends k (record b { turns = t }) b.own.vars a2 (OpenBlock own2 rest ∷ st) open_ (together (ends ByNothing a2) (stack_ends k rest st) q.0 (instead k (If at x own1 a own2 a2 rest) rest st e q.1))
    turn-ends k b t w _ _ _ _ here open_ e (into_loop at x own body rest st) =
        let q = and_parts (ends ByNothing body) (ends (due_of k st) rest) (due-of k (While at x own body rest) st e) in
        settled-ends k (record b { turns = t }) b.own.vars body (OpenBlock own (While at x own body rest) ∷ st) open_ (together (ends ByNothing body) (stack_ends k (While at x own body rest) st) q.0 e)
    turn-ends k b t w _ _ _ _ here open_ e (out_of_loop at x own body rest st) =
        let q = and_parts (ends ByNothing body) (ends (due_of k st) rest) (due-of k (While at x own body rest) st e) in
        settled-ends k (record b { turns = t }) b.own.vars rest st open_ (instead k (While at x own body rest) rest st e q.1)
    turn-ends k b t w _ _ _ _ here open_ e (parting at own1 a own2 a2 rest st p same) =
        let q = and_parts (ends ByNothing a) (ends ByNothing a2 && ends (due_of k st) rest) (due-of k (Par at own1 a own2 a2 rest) st e) in
        let r = and_parts (ends ByNothing a2) (ends (due_of k st) rest) q.1 in
        together (is_open b.close && stack_ends k rest b.stack) _ (together (is_open b.close) (stack_ends k rest b.stack) (ap is_open open_) (subst (λ (z : List (Frame Held)). stack_ends k rest z ≡ true) here (instead k (Par at own1 a own2 a2 rest) rest st e r.1)))
        (together (branch_ends ByNothing None p.left []) (branch_ends ByNothing None p.right []) (side-ends p.left (ap (λ (x : Blocks). ends ByNothing x.left) same ∙ q.0)) (side-ends p.right (ap (λ (x : Blocks). ends ByNothing x.right) same ∙ r.0)))
    turn-ends k b t w _ _ _ _ here open_ e (recovering at x own hides body rest st l saved goes q) =
        let p = and_parts (ends ByGive body) (ends (due_of k st) rest) (due-of k (Recover at x own hides body rest) st e) in
        settled-ends k (record b { own = l; turns = t }) l.vars body (OpenRecover own hides saved rest ∷ st) open_ (together (ends ByGive body) (stack_ends k rest st) p.0 (instead k (Recover at x own hides body rest) rest st e p.1))
    turn-ends k b t w _ _ _ _ here open_ e (giving at y x own hides saved rest st v l had q goes) = settled-ends k (record b { own = l; turns = t }) l.vars rest st open_ (and_parts (ends ByGive (Give at y x)) (stack_ends k rest st) e).1
    turn-ends k b t w _ _ _ _ here open_ e (returning at a tie into y saved lent caller rest st v l q goes) = settled-ends k (record b { own = l; turns = t }) l.vars rest st open_ (and_parts (ends ByReturn (Return at a)) (stack_ends k rest st) e).1

    -- a join goes well or has failed
    resumed-ends : (k : Ending) (b : Branch) (merge : List Held → List Held → List Held → List Held) (vs : List Held) (out : List ℤ) (x y : Final Held) → (is_open b.close && stack_ends k b.code b.stack) ≡ true → tree_ends k (resumed (core u) b (join_final merge vs out x y)) ≡ true
    resumed-ends k b merge vs out x y e = go x y
      where
        parts : (is_open b.close ≡ true) × (stack_ends k b.code b.stack ≡ true)
        parts = and_parts (is_open b.close) (stack_ends k b.code b.stack) e

        closed : (x : Option (Close Held)) → is_open x ≡ true → x ≡ None
        closed None q = refl
        closed (Some f) q = absurd (let no : ⊥ = cc q in no)

        on : (ws : List Held) (t : ℕ) (p : List ℤ) → tree_ends k (resumed (core u) b (Fine ws t p)) ≡ true
        on ws t p = settled-ends k (record b { own = record b.own { printed = p }; turns = t }) ws b.code b.stack (closed b.close parts.0) parts.1

        go : (x y : Final Held) → tree_ends k (resumed (core u) b (join_final merge vs out x y)) ≡ true
        go (Fine ls t p) (Fine rs n q) = on _ _ _
        go (Fine ls t p) (GaveBack v n q) = on _ _ _
        go (Fine ls t p) (Failed f n q) = refl
        go (GaveBack v t p) (Fine rs n q) = on _ _ _
        go (GaveBack v t p) (GaveBack v2 n q) = on _ _ _
        go (GaveBack v t p) (Failed f n q) = refl
        go (Failed f t p) (Fine rs n q) = refl
        go (Failed f t p) (GaveBack v n q) = refl
        go (Failed f t p) (Failed g n q) = refl

    -- an event
    pub keeps-ends : (o : Op) (v : Option Held) (k : Ending) (w : Way) (t after : Task) → tree_ends k t ≡ true → EventAt u o v w t after → tree_ends k after ≡ true
    keeps-ends o v k _ _ after e (refused_leaf b t _ q open_ same) = ap (tree_ends k) same
    keeps-ends o v k _ _ after e (told_leaf b t w d _ q open_ due turn same) =
        ap (tree_ends k) same ∙ turn-ends k b t w b.code b.stack o d refl open_ (and_parts (is_settled b.code b.stack) (stack_ends k b.code b.stack) (sym (ap (λ x. branch_ends k x b.code b.stack) open_) ∙ e)).1 turn
    keeps-ends o v k _ _ after e (joining b p l r x y _ q left right same) =
        ap (tree_ends k) same ∙ resumed-ends k b ((core u).parting.joined b.own.routine p) b.own.vars b.own.printed x y (and_parts (is_open b.close && stack_ends k b.code b.stack) (tree_ends ByNothing l && tree_ends ByNothing r) e).0
    keeps-ends o v k _ _ _ e (on_left w b p l r after is) =
        let q = and_parts (is_open b.close && stack_ends k b.code b.stack) (tree_ends ByNothing l && tree_ends ByNothing r) e in
        let s = and_parts (tree_ends ByNothing l) (tree_ends ByNothing r) q.1 in
        together (is_open b.close && stack_ends k b.code b.stack) (tree_ends ByNothing after && tree_ends ByNothing r) q.0 (together (tree_ends ByNothing after) (tree_ends ByNothing r) (keeps-ends o v ByNothing w l after s.0 is) s.1)
    keeps-ends o v k _ _ _ e (on_right w b p l r after is) =
        let q = and_parts (is_open b.close && stack_ends k b.code b.stack) (tree_ends ByNothing l && tree_ends ByNothing r) e in
        let s = and_parts (tree_ends ByNothing l) (tree_ends ByNothing r) q.1 in
        together (is_open b.close && stack_ends k b.code b.stack) (tree_ends ByNothing l && tree_ends ByNothing after) q.0 (together (tree_ends ByNothing l) (tree_ends ByNothing after) s.0 (keeps-ends o v ByNothing w r after s.1 is))
