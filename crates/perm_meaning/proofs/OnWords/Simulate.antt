-- Two machines whose turns are related take each event alike: what the one does, the other does too, and they stay related.
use Rattle.std.proofs.Common.{◌≡◌, ℕ, zero, suc, ◌-◌, ◌/◌, Bool, Option, Some, None, List, [], ◌∷◌, refl, sym, ap, ◌∙◌, subst}
use Rattle.std.specs.Prelude.{ℤ}
use Rattle.perm_tree.specs.Code.{Code, End}
use Rattle.perm_meaning.specs.Machine.{Machine, Frame, OpenBlock, OpenRecover, OpenCall, Close, Returning, Failing, NoRoom, Branch, Task, Leaf, Fork, Blocks, Way, Here, GoL, GoR, Final, Fine, GaveBack, Failed, Stage, Over, Due, Did, On, Splits, Ends, Dies, Turn, Takes, NoTurn, stage, final, if_both_over, settled, ended, side_of, done, told_to, resumed, join_of, turn_op, next_turn, leaf_op, leaf_on, look, fill}
use Rattle.perm_meaning.specs.Steps.{Answer, Found, Refused, Missing, Memory, State, leftmost, answered, asked, step, granted, asked_with_care, careful, alone}
use Rattle.perm_meaning.specs.Relate.{OptionR, VarsR, StackR, CloseR, FinalR, BranchR, TaskR, DidR, TurnR}
use Rattle.perm_meaning.proofs.Leads.{some-inj, none-some, then-some, then-at}
use Rattle.perm_meaning.proofs.OnWords.Related.{StageR, stage-alike, final-alike, leftmost-related, branch-up, task-up}
use Rattle.perm_meaning.proofs.OnWords.Joined.{join-alike}

-- both heaps answer alike and stay related; of a field that isn't there nothing is said
module _ {V O H W P J B : Type 0} (R : B → V → W → Type 0) (Grows : B → B → Type 0) (HR : B → H → J → Type 0) (memory : Memory V O H) (memory' : Memory W P J) (fits : ℕ → Bool) where
  abbrev pub AnsweredR : B → O → P → H → J → Answer V → Answer W → Type 0
  AnsweredR b o p h j (Found v) (Found w) = (c : B) × Grows b c × R c v w × HR c (memory.after fits o h) (memory'.after fits p j)
  AnsweredR b o p h j Refused Refused = HR b (memory.after fits o h) (memory'.after fits p j)
  AnsweredR b o p h j Missing answer = Unit {0}
  AnsweredR b o p h j _ _ = ⊥

module _ {V G O W K P B : Type 0} (m : Machine V G O) (m' : Machine W K P) (R : B → V → W → Type 0) (S : B → G → K → Type 0) (Q : B → O → P → Type 0) (Grows : B → B → Type 0) (Fit : Branch V G → Type 0) where
  -- what is asked of two machines: what is related stays so as B grows, marks and pars keep it, and the turns of related branches are related, where the first is fit
  pub record Alike : Type 0 where
    pub same : (b : B) → Grows b b
    pub longer : (b c d : B) → Grows b c → Grows c d → Grows b d
    pub grow : (b c : B) → Grows b c → (v : V) (w : W) → R b v w → R c v w
    pub rise : (b c : B) → Grows b c → (g : G) (k : K) → S b g k → S c g k
    pub idle : (b : B) → Q b m.idle m'.idle
    pub mark_left : (b : B) (g : G) (k : K) → S b g k → S b (m.marks.to_left g) (m'.marks.to_left k)
    pub mark_right : (b : B) (g : G) (k : K) → S b g k → S b (m.marks.to_right g) (m'.marks.to_right k)
    pub mark_after : (b : B) (g : G) (k : K) → S b g k → S b (m.marks.after_par g) (m'.marks.after_par k)
    pub to_left : (b : B) (n : ℕ) (p : Blocks) (vs : List V) (ws : List W) → VarsR (R b) vs ws → VarsR (R b) (m.parting.to_left n p vs) (m'.parting.to_left n p ws)
    pub to_right : (b : B) (n : ℕ) (p : Blocks) (vs : List V) (ws : List W) → VarsR (R b) vs ws → VarsR (R b) (m.parting.to_right n p vs) (m'.parting.to_right n p ws)
    pub kept : (b : B) (n : ℕ) (p : Blocks) (vs : List V) (ws : List W) → VarsR (R b) vs ws → VarsR (R b) (m.parting.kept n p vs) (m'.parting.kept n p ws)
    pub joined : (b : B) (n : ℕ) (p : Blocks) (vs : List V) (ws : List W) (ls : List V) (ls' : List W) (rs : List V) (rs' : List W) → VarsR (R b) vs ws → VarsR (R b) ls ls' → VarsR (R b) rs rs'
        → VarsR (R b) (m.parting.joined n p vs ls rs) (m'.parting.joined n p ws ls' rs')
    pub clear_own : (b : B) (vs : List V) (ws : List W) (own : List ℕ) → VarsR (R b) vs ws → VarsR (R b) (m.clear_own vs own) (m'.clear_own ws own)
    pub turns : (b : B) (x : Branch V G) (y : Branch W K) → Fit x → BranchR (R b) (S b) x y → TurnR R S Q Grows b (next_turn m x) (next_turn m' y)

  -- each leaf is fit
  abbrev pub AllFit : Task V G → Type 0
  AllFit (Leaf b) = Fit b
  AllFit (Fork b p l r) = AllFit l × AllFit r

  module _ (a : Alike) where
    abbrev Branches : B → Branch V G → Branch W K → Type 0
    Branches b x y = BranchR (R b) (S b) x y

    abbrev Tasks : B → Task V G → Task W K → Type 0
    Tasks b t s = TaskR (R b) (S b) t s

    -- ---------- what events leave ----------
    -- the same branch with other variables, code and stack
    with-code : (b : B) (x : Branch V G) (y : Branch W K) (vs : List V) (ws : List W) (c : Code) (st : List (Frame V)) (st' : List (Frame W)) → Branches b x y → VarsR (R b) vs ws → StackR (R b) st st'
        → Branches b (record x { own = record x.own { vars = vs }; code = c; stack = st }) (record y { own = record y.own { vars = ws }; code = c; stack = st' })
    with-code b x y vs ws c st st' h q k =
        record { own = record { vars = q; routine = h.own.routine; depth = h.own.depth; printed = h.own.printed; mark = h.own.mark }; turns = h.turns; code = refl; stack = k; close = h.close }

    -- blocks end alike
    settled-alike : (b : B) (x : Branch V G) (y : Branch W K) (vs : List V) (ws : List W) (c : Code) (st : List (Frame V)) (st' : List (Frame W)) → Branches b x y → VarsR (R b) vs ws → StackR (R b) st st'
        → Branches b (settled m x vs c st) (settled m' y ws c st')
    settled-alike b x y vs ws End (OpenBlock own rest ∷ st) (OpenBlock own' rest' ∷ st') h q k =
        subst (λ z. Branches b (settled m x vs End (OpenBlock own rest ∷ st)) (settled m' y ws End (OpenBlock z rest' ∷ st'))) k.0.0
        (subst (λ z. Branches b (settled m x vs End (OpenBlock own rest ∷ st)) (settled m' y ws End (OpenBlock own z ∷ st'))) k.0.1
        (settled-alike b x y (m.clear_own vs own) (m'.clear_own ws own) rest st st' h (a.clear_own b vs ws own q) k.1))
    settled-alike b x y vs ws End [] (OpenBlock own' rest' ∷ st') h q k = absurd k
    settled-alike b x y vs ws End (OpenRecover own hides saved rest ∷ st) (OpenBlock own' rest' ∷ st') h q k = absurd k.0
    settled-alike b x y vs ws End (OpenCall tie into z saved lent caller rest ∷ st) (OpenBlock own' rest' ∷ st') h q k = absurd k.0
    settled-alike b x y vs ws End (OpenBlock own rest ∷ st) [] h q k = absurd k
    settled-alike b x y vs ws End (OpenBlock own rest ∷ st) (OpenRecover own' hides saved rest' ∷ st') h q k = absurd k.0
    settled-alike b x y vs ws End (OpenBlock own rest ∷ st) (OpenCall tie into z saved lent caller rest' ∷ st') h q k = absurd k.0
    settled-alike b x y vs ws c st st' h q k = with-code b x y vs ws c st st' h q k

    -- branches end alike
    ended-alike : (b : B) (x : Branch V G) (y : Branch W K) (t u : ℕ) (p q : List ℤ) (e : Close V) (f : Close W) → Branches b x y → t ≡ u → p ≡ q → CloseR (R b) (Some e) (Some f) → Tasks b (ended m x t p e) (ended m' y u q f)
    ended-alike b x y t u p q e f h z w k = record { own = record { vars = tt; routine = h.own.routine; depth = h.own.depth; printed = w; mark = h.own.mark }; turns = z; code = refl; stack = tt; close = k }

    -- sides begin alike
    side-alike : (b : B) (x : Branch V G) (y : Branch W K) (g : G) (k : K) (vs : List V) (ws : List W) (t u : ℕ) (c : Code) → Branches b x y → S b g k → VarsR (R b) vs ws → t ≡ u → Branches b (side_of m x g vs t c) (side_of m' y k ws u c)
    side-alike b x y g k vs ws t u c h s q z = record { own = record { vars = q; routine = h.own.routine; depth = ap (λ n. suc n) h.own.depth; printed = refl; mark = s }; turns = z; code = refl; stack = tt; close = tt }

    -- a par begins alike
    split-alike : (b : B) (x : Branch V G) (y : Branch W K) (t u : ℕ) (p : Blocks) (c : Code) → Branches b x y → t ≡ u → Tasks b (done m x t (Splits p c)) (done m' y u (Splits p c))
    split-alike b x y t u p c h z =
        subst (λ n. Tasks b (done m x t (Splits p c)) (done m' (record y { own = record y.own { routine = n } }) u (Splits p c))) h.own.routine (
          record { own = record { vars = a.kept b x.own.routine p x.own.vars y.own.vars h.own.vars; routine = refl; depth = h.own.depth; printed = h.own.printed; mark = a.mark_after b x.own.mark y.own.mark h.own.mark }; turns = refl; code = refl; stack = h.stack; close = h.close },
          refl,
          side-alike b x (record y { own = record y.own { routine = x.own.routine } }) _ _ _ _ (t - t / 2) (u - u / 2) p.left k (a.mark_left b x.own.mark y.own.mark h.own.mark) (a.to_left b x.own.routine p x.own.vars y.own.vars h.own.vars) (ap (λ n. n - n / 2) z),
          side-alike b x (record y { own = record y.own { routine = x.own.routine } }) _ _ _ _ (t / 2) (u / 2) p.right k (a.mark_right b x.own.mark y.own.mark h.own.mark) (a.to_right b x.own.routine p x.own.vars y.own.vars h.own.vars) (ap (λ n. n / 2) z),
        )
      where
        k : Branches b x (record y { own = record y.own { routine = x.own.routine } })
        k = record { own = record { vars = h.own.vars; routine = refl; depth = h.own.depth; printed = h.own.printed; mark = h.own.mark }; turns = h.turns; code = h.code; stack = h.stack; close = h.close }

    -- turns are done alike
    done-alike : (b : B) (x : Branch V G) (y : Branch W K) (t u : ℕ) (d : Did V G) (e : Did W K) → Branches b x y → t ≡ u → DidR (R b) (S b) d e → Tasks b (done m x t d) (done m' y u e)
    done-alike b x y t u (On l c st) (On n c' st') h z r =
        subst (λ k. Tasks b (done m x t (On l c st)) (done m' y u (On n k st'))) r.1
        (settled-alike b (record x { own = l; turns = t }) (record y { own = n; turns = u }) l.vars n.vars c st st' (record { own = r.0; turns = z; code = h.code; stack = h.stack; close = h.close }) r.0.vars r.2)
    done-alike b x y t u (Splits p c) (Splits q c') h z r =
        subst (λ k. Tasks b (done m x t (Splits p c)) (done m' y u (Splits k c'))) r.0 (subst (λ k. Tasks b (done m x t (Splits p c)) (done m' y u (Splits p k))) r.1 (split-alike b x y t u p c h z))
    done-alike b x y t u (Ends v) (Ends w) h z r = ended-alike b x y t u x.own.printed y.own.printed (Returning v) (Returning w) h z h.own.printed r
    done-alike b x y t u (Dies e) (Dies f) h z r = ended-alike b x y t u x.own.printed y.own.printed (Failing e) (Failing f) h z h.own.printed r
    done-alike b x y t u (On l c st) (Splits q c') h z r = absurd r
    done-alike b x y t u (On l c st) (Ends w) h z r = absurd r
    done-alike b x y t u (On l c st) (Dies f) h z r = absurd r
    done-alike b x y t u (Splits p c) (On n c' st') h z r = absurd r
    done-alike b x y t u (Splits p c) (Ends w) h z r = absurd r
    done-alike b x y t u (Splits p c) (Dies f) h z r = absurd r
    done-alike b x y t u (Ends v) (On n c' st') h z r = absurd r
    done-alike b x y t u (Ends v) (Splits q c') h z r = absurd r
    done-alike b x y t u (Ends v) (Dies f) h z r = absurd r
    done-alike b x y t u (Dies e) (On n c' st') h z r = absurd r
    done-alike b x y t u (Dies e) (Splits q c') h z r = absurd r
    done-alike b x y t u (Dies e) (Ends w) h z r = absurd r

    -- a parent goes on alike
    resumed-alike : (b : B) (x : Branch V G) (y : Branch W K) (f : Final V) (g : Final W) → Branches b x y → FinalR (R b) f g → Tasks b (resumed m x f) (resumed m' y g)
    resumed-alike b x y (Fine vs t p) (Fine ws u q) h r =
        subst (λ k. Tasks b (resumed m x (Fine vs t p)) (resumed m' (record y { code = k }) (Fine ws u q))) h.code
        (settled-alike b (record x { own = record x.own { printed = p }; turns = t }) (record y { own = record y.own { printed = q }; turns = u; code = x.code }) vs ws x.code x.stack y.stack
        (record { own = record { vars = h.own.vars; routine = h.own.routine; depth = h.own.depth; printed = r.2; mark = h.own.mark }; turns = r.1; code = refl; stack = h.stack; close = h.close }) r.0 h.stack)
    resumed-alike b x y (GaveBack v t p) (GaveBack w u q) h r = ended-alike b x y t u p q (Returning v) (Returning w) h r.1 r.2 r.0
    resumed-alike b x y (Failed e t p) (Failed f u q) h r = ended-alike b x y t u p q (Failing e) (Failing f) h r.1 r.2 r.0
    resumed-alike b x y (Fine vs t p) (GaveBack w u q) h r = absurd r
    resumed-alike b x y (Fine vs t p) (Failed f u q) h r = absurd r
    resumed-alike b x y (GaveBack v t p) (Fine ws u q) h r = absurd r
    resumed-alike b x y (GaveBack v t p) (Failed f u q) h r = absurd r
    resumed-alike b x y (Failed e t p) (Fine ws u q) h r = absurd r
    resumed-alike b x y (Failed e t p) (GaveBack w u q) h r = absurd r

    -- the join of related sides
    join_of-alike : (b : B) (x : Branch V G) (y : Branch W K) (p : Blocks) (f g : Final V) (f' g' : Final W) → Branches b x y → FinalR (R b) f f' → FinalR (R b) g g' → FinalR (R b) (join_of m x p f g) (join_of m' y p f' g')
    join_of-alike b x y p f g f' g' h r s =
        subst (λ n. FinalR (R b) (join_of m x p f g) (join_of m' (record y { own = record y.own { routine = n } }) p f' g')) h.own.routine
        (join-alike (R b) (m.parting.joined x.own.routine p) (m'.parting.joined x.own.routine p) x.own.vars y.own.vars x.own.printed y.own.printed h.own.vars h.own.printed
        (λ ls ls' rs rs' k l. a.joined b x.own.routine p x.own.vars y.own.vars ls ls' rs rs' h.own.vars k l) f f' g g' r s)

    -- ---------- one event ----------
    -- the other machine has the event too, and whatever both are told, the trees stay related
    pub record Same (b : B) (w : Way) (t : Task V G) (s : Task W K) (o : O) : Type 0 where
      pub op : P
      pub looks : look m' w s ≡ Some op
      pub asks : Q b o op
      pub fills : (c : B) → Grows b c → (v : Option V) (x : Option W) → OptionR (R c) v x → Tasks c (fill m w t v) (fill m' w s x)

    -- the same of a leaf that stands so
    abbrev LeafSame : B → Branch V G → Branch W K → Stage V → Stage W → O → Type 0
    LeafSame b x y z z' o = (op : P) × (leaf_op m' y z' ≡ Some op) × Q b o op × ((c : B) → Grows b c → (v : Option V) (w : Option W) → OptionR (R c) v w → Tasks c (leaf_on m x z v) (leaf_on m' y z' w))

    -- the same of a turn
    turn-same : (b : B) (x : Branch V G) (y : Branch W K) (t u : ℕ) → t ≡ u → Branches b x y → (f : Turn V G O) (g : Turn W K P) → TurnR R S Q Grows b f g → (o : O) → turn_op m f ≡ Some o
        → (op : P) × (turn_op m' g ≡ Some op) × Q b o op × ((c : B) → Grows b c → (v : Option V) (w : Option W) → OptionR (R c) v w → Tasks c (told_to m x t f v) (told_to m' y u g w))
    turn-same b x y t u z h NoTurn g r o e = none-some e
    turn-same b x y t u z h (Takes q told) NoTurn r o e = absurd r
    turn-same b x y t u z h (Takes q told) (Takes p said) r o e = (p, refl, subst (λ i. Q b i p) (some-inj e) r.0, go)
      where
        up : (c : B) → Grows b c → Branches c x y
        up c k = branch-up (R b) (R c) (a.grow b c k) (S b) (S c) (a.rise b c k) x y h

        go : (c : B) → Grows b c → (v : Option V) (w : Option W) → OptionR (R c) v w → Tasks c (told_to m x t (Takes q told) v) (told_to m' y u (Takes p said) w)
        go c k (Some v) (Some w) i = done-alike c x y t u (told v) (said w) (up c k) z (r.1 c k v w i)
        go c k None None i = ended-alike c x y t u x.own.printed y.own.printed (Failing NoRoom) (Failing NoRoom) (up c k) z h.own.printed refl
        go c k (Some v) None i = absurd i
        go c k None (Some w) i = absurd i

    leaf-same : (b : B) (x : Branch V G) (y : Branch W K) (z : Stage V) (z' : Stage W) (o : O) → Fit x → Branches b x y → StageR (R b) (S b) z z' → leaf_op m x z ≡ Some o → LeafSame b x y z z' o
    leaf-same b x y (Over f) z' o i h r e = none-some e
    leaf-same b x y (Due t) (Over g) o i h r e = absurd r
    leaf-same b x y (Due t) (Due u) o i h r e = turn-same b x y t u r h (next_turn m x) (next_turn m' y) (a.turns b x y i h) o e

    -- the same of a parent whose sides are these
    join-same : (b : B) (x : Branch V G) (y : Branch W K) (p : Blocks) (l r : Task V G) (l' r' : Task W K) (f g : Option (Final V)) (f' g' : Option (Final W)) (o : O) → Branches b x y → Tasks b l l' → Tasks b r r'
        → OptionR (FinalR (R b)) f f' → OptionR (FinalR (R b)) g g' → if_both_over f g None (λ i j. Some m.idle) ≡ Some o
        → (op : P) × (if_both_over f' g' None (λ i j. Some m'.idle) ≡ Some op) × Q b o op × Tasks b (if_both_over f g (Fork x p l r) (λ i j. resumed m x (join_of m x p i j))) (if_both_over f' g' (Fork y p l' r') (λ i j. resumed m' y (join_of m' y p i j)))
    join-same b x y p l r l' r' (Some f) (Some g) (Some f') (Some g') o h i j k n e =
        (m'.idle, refl, subst (λ z. Q b z m'.idle) (some-inj e) (a.idle b), resumed-alike b x y (join_of m x p f g) (join_of m' y p f' g') h (join_of-alike b x y p f g f' g' h k n))
    join-same b x y p l r l' r' None g f' g' o h i j k n e = none-some e
    join-same b x y p l r l' r' (Some f) None f' g' o h i j k n e = none-some e
    join-same b x y p l r l' r' (Some f) (Some g) None g' o h i j k n e = absurd k
    join-same b x y p l r l' r' (Some f) (Some g) (Some f') None o h i j k n e = absurd n

    -- the event of a node is one of the other tree's
    pub same : (b : B) (w : Way) (t : Task V G) (s : Task W K) (o : O) → AllFit t → Tasks b t s → look m w t ≡ Some o → Same b w t s o
    same b Here (Leaf x) (Leaf y) o i h e = let k = leaf-same b x y (stage x) (stage y) o i h (stage-alike (R b) (S b) x y h) e in record { op = k.0; looks = k.1; asks = k.2; fills = k.3 }
    same b w (Leaf x) (Fork y q l' r') o i h e = absurd h
    same b w (Fork x p l r) (Leaf y) o i h e = absurd h
    same b (GoL w) (Leaf x) (Leaf y) o i h e = none-some e
    same b (GoR w) (Leaf x) (Leaf y) o i h e = none-some e
    same b Here (Fork x p l r) (Fork y q l' r') o i h e =
        let k = join-same b x y p l r l' r' (final l) (final r) (final l') (final r') o h.0 h.2 h.3 (final-alike (R b) (S b) l l' h.2) (final-alike (R b) (S b) r r' h.3) e in
        subst (λ z. Same b Here (Fork x p l r) (Fork y z l' r') o) h.1
        (record { op = k.0; looks = k.1; asks = k.2; fills = λ c g v v' z. task-up (R b) (R c) (a.grow b c g) (S b) (S c) (a.rise b c g) (fill m Here (Fork x p l r) v) (fill m' Here (Fork y p l' r') v') k.3 })
    same b (GoL w) (Fork x p l r) (Fork y q l' r') o i h e =
        let k = same b w l l' o i.0 h.2 e in
        record { op = k.op; looks = k.looks; asks = k.asks; fills = λ c g v v' z. (branch-up (R b) (R c) (a.grow b c g) (S b) (S c) (a.rise b c g) x y h.0, h.1, k.fills c g v v' z, task-up (R b) (R c) (a.grow b c g) (S b) (S c) (a.rise b c g) r r' h.3) }
    same b (GoR w) (Fork x p l r) (Fork y q l' r') o i h e =
        let k = same b w r r' o i.1 h.3 e in
        record { op = k.op; looks = k.looks; asks = k.asks; fills = λ c g v v' z. (branch-up (R b) (R c) (a.grow b c g) (S b) (S c) (a.rise b c g) x y h.0, h.1, task-up (R b) (R c) (a.grow b c g) (S b) (S c) (a.rise b c g) l l' h.2, k.fills c g v v' z) }

    -- ---------- with memories ----------
    module _ {H J : Type 0} (memory : Memory V O H) (memory' : Memory W P J) (fits : ℕ → Bool) (HR : B → H → J → Type 0) where
      -- a state of the other machine shows one of this
      pub record IsAlike (b : B) (s : State V G H) (t : State W K J) : Type 0 where
        pub task : Tasks b s.task t.task
        pub heap : HR b s.heap t.heap

      module _ (Sound : O → H → Type 0) (heaps : (b : B) (o : O) (p : P) (h : H) (j : J) → Q b o p → Sound o h → HR b h j → AnsweredR R Grows HR memory memory' fits b o p h j (memory.find fits o h) (memory'.find fits p j)) where
        -- a state is fit: so are its leaves, and what it asks next is sound
        pub record IsFit (s : State V G H) : Type 0 where
          pub leaves : AllFit s.task
          pub sound : (w : Way) (o : O) → look m w s.task ≡ Some o → Sound o s.heap

        -- an event of this machine is one of the other, and leads alike
        pub same-event : (b : B) (s s' : State V G H) (t : State W K J) (w : Way) → IsFit s → IsAlike b s t → careful m memory fits s w ≡ Some s' → (c : B) × (t' : State W K J) × (careful m' memory' fits t w ≡ Some t') × Grows b c × IsAlike c s' t'
        same-event b s s' t w i h e = looked (look m w s.task) refl e
          where
            answered : (o : O) → look m w s.task ≡ Some o → (k : Same b w s.task t.task o) (x : Answer V) (y : Answer W) → memory'.find fits k.op t.heap ≡ y → AnsweredR R Grows HR memory memory' fits b o k.op s.heap t.heap x y → granted m memory fits s w o x ≡ Some s'
                → (c : B) × (t' : State W K J) × (careful m' memory' fits t w ≡ Some t') × Grows b c × IsAlike c s' t'
            answered o q k (Found v) (Found x) f r e =
                let u : State W K J = record { task = fill m' w t.task (Some x); heap = memory'.after fits k.op t.heap } in (
                  r.0,
                  u,
                  ap (asked_with_care m' memory' fits t w) k.looks ∙ ap (granted m' memory' fits t w k.op) f,
                  r.1,
                  subst (λ z. IsAlike r.0 z u) (some-inj e) (record { task = k.fills r.0 r.1 (Some v) (Some x) r.2; heap = r.3 }),
                )
            answered o q k (Found v) Refused f r e = absurd r
            answered o q k (Found v) Missing f r e = absurd r
            answered o q k Refused y f r e = none-some e
            answered o q k Missing y f r e = none-some e

            looked : (x : Option O) → look m w s.task ≡ x → asked_with_care m memory fits s w x ≡ Some s' → (c : B) × (t' : State W K J) × (careful m' memory' fits t w ≡ Some t') × Grows b c × IsAlike c s' t'
            looked None q e = none-some e
            looked (Some o) q e =
                let k = same b w s.task t.task o i.leaves h.task q in
                answered o q k (memory.find fits o s.heap) (memory'.find fits k.op t.heap) refl (heaps b o k.op s.heap t.heap k.asks (i.sound w o q) h.heap) e

        -- the same of an event that may be a refused allocation
        pub same-step : (b : B) (s s' : State V G H) (t : State W K J) (w : Way) → IsFit s → IsAlike b s t → step m memory fits s w ≡ Some s' → (c : B) × (t' : State W K J) × (step m' memory' fits t w ≡ Some t') × Grows b c × IsAlike c s' t'
        same-step b s s' t w i h e = looked (look m w s.task) refl e
          where
            reply : (o : O) → look m w s.task ≡ Some o → (k : Same b w s.task t.task o) (x : Answer V) (y : Answer W) → memory'.find fits k.op t.heap ≡ y → AnsweredR R Grows HR memory memory' fits b o k.op s.heap t.heap x y → answered m memory fits s w o x ≡ Some s'
                → (c : B) × (t' : State W K J) × (step m' memory' fits t w ≡ Some t') × Grows b c × IsAlike c s' t'
            reply o q k (Found v) (Found x) f r e =
                let u : State W K J = record { task = fill m' w t.task (Some x); heap = memory'.after fits k.op t.heap } in
                (r.0, u, ap (asked m' memory' fits t w) k.looks ∙ ap (answered m' memory' fits t w k.op) f, r.1, subst (λ z. IsAlike r.0 z u) (some-inj e) (record { task = k.fills r.0 r.1 (Some v) (Some x) r.2; heap = r.3 }))
            reply o q k Refused Refused f r e =
                let u : State W K J = record { task = fill m' w t.task None; heap = memory'.after fits k.op t.heap } in
                (b, u, ap (asked m' memory' fits t w) k.looks ∙ ap (answered m' memory' fits t w k.op) f, a.same b, subst (λ z. IsAlike b z u) (some-inj e) (record { task = k.fills b (a.same b) None None tt; heap = r }))
            reply o q k (Found v) Refused f r e = absurd r
            reply o q k (Found v) Missing f r e = absurd r
            reply o q k Refused (Found x) f r e = absurd r
            reply o q k Refused Missing f r e = absurd r
            reply o q k Missing y f r e = none-some e

            looked : (x : Option O) → look m w s.task ≡ x → asked m memory fits s w x ≡ Some s' → (c : B) × (t' : State W K J) × (step m' memory' fits t w ≡ Some t') × Grows b c × IsAlike c s' t'
            looked None q e = none-some e
            looked (Some o) q e =
                let k = same b w s.task t.task o i.leaves h.task q in
                reply o q k (memory.find fits o s.heap) (memory'.find fits k.op t.heap) refl (heaps b o k.op s.heap t.heap k.asks (i.sound w o q) h.heap) e

        -- where this machine is refused, so is the other
        pub same-refusal : (b : B) (s : State V G H) (t : State W K J) (w : Way) (o : O) → IsFit s → IsAlike b s t → look m w s.task ≡ Some o → memory.find fits o s.heap ≡ Refused
            → (p : P) × (look m' w t.task ≡ Some p) × (memory'.find fits p t.heap ≡ Refused)
        same-refusal b s t w o i h q e =
            let k = same b w s.task t.task o i.leaves h.task q in
            (k.op, k.looks, go k (memory'.find fits k.op t.heap) (subst (λ z. AnsweredR R Grows HR memory memory' fits b o k.op s.heap t.heap z (memory'.find fits k.op t.heap)) e (heaps b o k.op s.heap t.heap k.asks (i.sound w o q) h.heap)))
          where
            go : (k : Same b w s.task t.task o) (y : Answer W) → AnsweredR R Grows HR memory memory' fits b o k.op s.heap t.heap Refused y → y ≡ Refused
            go k Refused r = refl
            go k (Found x) r = absurd r
            go k Missing r = absurd r

        -- ---------- left first ----------
        module _ (Kept : State V G H → Type 0) (fit : (s : State V G H) → Kept s → IsFit s) (keeps : (s s' : State V G H) (w : Way) → Kept s → careful m memory fits s w ≡ Some s' → Kept s') where
          one-more : (n : ℕ) (t t1 t2 : State W K J) → careful m' memory' fits t (leftmost t.task) ≡ Some t1 → alone m' memory' fits n t1 ≡ Some t2 → alone m' memory' fits (suc n) t ≡ Some t2
          one-more n t t1 t2 e q = then-at (careful m' memory' fits t (leftmost t.task)) (alone m' memory' fits n) t1 e ∙ q

          -- so many events of this machine, left first, are as many of the other, and lead alike
          pub same-alone : (n : ℕ) (b : B) (s s' : State V G H) (t : State W K J) → Kept s → IsAlike b s t → alone m memory fits n s ≡ Some s' → (c : B) × (t' : State W K J) × (alone m' memory' fits n t ≡ Some t') × Grows b c × IsAlike c s' t' × Kept s'
          same-alone zero b s s' t i h e = (b, t, refl, a.same b, subst (λ z. IsAlike b z t) (some-inj e) h, subst Kept (some-inj e) i)
          same-alone (suc n) b s s' t i h e =
              let x = then-some (careful m memory fits s (leftmost s.task)) (alone m memory fits n) s' e in
              let k = same-event b s x.0 t (leftmost s.task) (fit s i) h x.1 in
              let r = same-alone n k.0 x.0 s' k.1 (keeps s x.0 (leftmost s.task) i x.1) k.4 x.2 in
              (r.0, r.1, one-more n t k.1 r.1 (ap (careful m' memory' fits t) (sym (leftmost-related (R b) (S b) s.task t.task h.task)) ∙ k.2) r.2, a.longer b k.0 r.0 k.3 r.3, r.4, r.5)
