-- Related variables, stacks, branches and trees of two machines: how they are built, how they end, and that they stay related as more is.
use Rattle.std.proofs.Common.{◌≡◌, ℕ, zero, suc, Bool, true, false, cond, Option, Some, None, List, [], ◌∷◌, ◌++◌, length, refl, ap, subst}
use Rattle.std.specs.Prelude.{slice_get, slice_set, replicate}
use Rattle.perm_tree.specs.Code.{Code, End}
use Rattle.perm_tree.specs.Vars.{Vars}
use Rattle.perm_meaning.specs.Machine.{Own, Frame, OpenBlock, OpenRecover, OpenCall, Close, Returning, Failing, Branch, Task, Leaf, Fork, Way, GoL, GoR, Final, Stage, Over, Due, over, stage, stage_by_turns, stage_by_code, stage_from, final}
use Rattle.perm_meaning.specs.Custody.{from_either_at, from_either, merged}
use Rattle.perm_meaning.specs.Steps.{leftmost, leftmost_of}
use Rattle.perm_meaning.specs.Relate.{OptionR, VarsR, FrameR, StackR, CloseR, FinalR, OwnR, BranchR, TaskR}

-- ---------- lists of variables ----------
module _ {V W : Type 0} (R : V → W → Type 0) where
  -- one list behind another
  pub vars-append : (a : List V) (b : List W) (c : List V) (d : List W) → VarsR R a b → VarsR R c d → VarsR R (a ++ c) (b ++ d)
  vars-append [] [] c d h k = k
  vars-append [] (y ∷ b) c d h k = absurd h
  vars-append (x ∷ a) [] c d h k = absurd h
  vars-append (x ∷ a) (y ∷ b) c d h k = (h.0, vars-append a b c d h.1 k)

  -- so many times the same
  pub vars-repeat : (n : ℕ) (v : V) (w : W) → R v w → VarsR R (replicate n v) (replicate n w)
  vars-repeat zero v w h = tt
  vars-repeat (suc n) v w h = (h, vars-repeat n v w h)

  -- as many in the one list as in the other
  pub vars-length : (a : List V) (b : List W) → VarsR R a b → length a ≡ length b
  vars-length [] [] h = refl
  vars-length [] (y ∷ b) h = absurd h
  vars-length (x ∷ a) [] h = absurd h
  vars-length (x ∷ a) (y ∷ b) h = ap (λ n. suc n) (vars-length a b h.1)

  -- what stands at a place
  pub vars-at : (a : List V) (b : List W) (x : ℕ) → VarsR R a b → OptionR R (slice_get a x) (slice_get b x)
  vars-at [] [] x h = tt
  vars-at [] (w ∷ b) x h = absurd h
  vars-at (v ∷ a) [] x h = absurd h
  vars-at (v ∷ a) (w ∷ b) zero h = h.0
  vars-at (v ∷ a) (w ∷ b) (suc x) h = vars-at a b x h.1

  -- another value at a place
  pub vars-set : (a : List V) (b : List W) (x : ℕ) (v : V) (w : W) → VarsR R a b → R v w → VarsR R (slice_set a x v) (slice_set b x w)
  vars-set [] [] x v w h r = tt
  vars-set [] (y ∷ b) x v w h r = absurd h
  vars-set (z ∷ a) [] x v w h r = absurd h
  vars-set (z ∷ a) (y ∷ b) zero v w h r = (r, h.1)
  vars-set (z ∷ a) (y ∷ b) (suc x) v w h r = (h.0, vars-set a b x v w h.1 r)

  -- those of one list or of the other
  pub vars-either : (i : ℕ) (G : Vars) (a : List V) (b : List W) (c : List V) (d : List W) → VarsR R a b → VarsR R c d → VarsR R (from_either_at i G a c) (from_either_at i G b d)
  vars-either i G [] [] c d h k = tt
  vars-either i G [] (y ∷ b) c d h k = absurd h
  vars-either i G (x ∷ a) [] c d h k = absurd h
  vars-either i G (x ∷ a) (y ∷ b) [] [] h k = tt
  vars-either i G (x ∷ a) (y ∷ b) [] (z ∷ d) h k = absurd k
  vars-either i G (x ∷ a) (y ∷ b) (z ∷ c) [] h k = absurd k
  vars-either i G (x ∷ a) (y ∷ b) (z ∷ c) (w ∷ d) h k = (chosen (G i), vars-either (suc i) G a b c d h.1 k.1)
    where
      chosen : (t : Bool) → R (cond t x z) (cond t y w)
      chosen true = h.0
      chosen false = k.0

  -- what comes back from the sides of a par
  pub vars-merged : (G H : Vars) (a : List V) (b : List W) (c : List V) (d : List W) (e : List V) (f : List W) → VarsR R a b → VarsR R c d → VarsR R e f → VarsR R (merged G H a c e) (merged G H b d f)
  vars-merged G H a b c d e f h k l = vars-either 0 H e f (from_either G c a) (from_either G d b) l (vars-either 0 G c d a b k h)

-- ---------- where branches stand ----------
module _ {V W : Type 0} (R : V → W → Type 0) {G K : Type 0} (S : G → K → Type 0) where
  -- both are over alike, or a step is due with as many turns left
  abbrev pub StageR : Stage V → Stage W → Type 0
  StageR (Over f) (Over g) = FinalR R f g
  StageR (Due t) (Due u) = t ≡ u
  StageR _ _ = ⊥

  by-turns : (t : ℕ) (l : Own V G) (m : Own W K) → OwnR R S l m → StageR (stage_by_turns t l) (stage_by_turns t m)
  by-turns zero l m h = (refl, refl, h.printed)
  by-turns (suc t) l m h = refl

  by-code : (c : Code) (st : List (Frame V)) (st' : List (Frame W)) (t : ℕ) (l : Own V G) (m : Own W K) → StackR R st st' → OwnR R S l m → StageR (stage_by_code c st t l) (stage_by_code c st' t m)
  by-code End [] [] t l m k h = (h.vars, refl, h.printed)
  by-code End [] (g ∷ st') t l m k h = absurd k
  by-code End (f ∷ st) [] t l m k h = absurd k
  by-code c st st' t l m k h = by-turns t l m h

  by-close : (x : Option (Close V)) (y : Option (Close W)) (p : Stage V) (q : Stage W) (t : ℕ) (l : Own V G) (m : Own W K) → CloseR R x y → StageR p q → OwnR R S l m → StageR (stage_from x p t l) (stage_from y q t m)
  by-close None None p q t l m h k o = k
  by-close (Some (Returning v)) (Some (Returning w)) p q t l m h k o = (h, refl, o.printed)
  by-close (Some (Failing e)) (Some (Failing f)) p q t l m h k o = (h, refl, o.printed)
  by-close None (Some y) p q t l m h k o = absurd h
  by-close (Some (Returning v)) None p q t l m h k o = absurd h
  by-close (Some (Failing v)) None p q t l m h k o = absurd h
  by-close (Some (Returning v)) (Some (Failing f)) p q t l m h k o = absurd h
  by-close (Some (Failing e)) (Some (Returning w)) p q t l m h k o = absurd h

  -- related branches stand alike
  pub stage-alike : (b : Branch V G) (c : Branch W K) → BranchR R S b c → StageR (stage b) (stage c)
  stage-alike b c h =
      subst (λ t. StageR (stage b) (stage_from c.close (stage_by_code c.code c.stack t c.own) t c.own)) h.turns
      (subst (λ k. StageR (stage b) (stage_from c.close (stage_by_code k c.stack b.turns c.own) b.turns c.own)) h.code
      (by-close b.close c.close (stage_by_code b.code b.stack b.turns b.own) (stage_by_code b.code c.stack b.turns c.own) b.turns b.own c.own h.close (by-code b.code b.stack c.stack b.turns b.own c.own h.stack h.own) h.own))

  -- and end alike
  pub over-related : (x : Stage V) (y : Stage W) → StageR x y → OptionR (FinalR R) (over x) (over y)
  over-related (Over f) (Over g) h = h
  over-related (Over f) (Due u) h = absurd h
  over-related (Due t) (Over g) h = absurd h
  over-related (Due t) (Due u) h = tt

  -- related trees end alike
  pub final-alike : (t : Task V G) (s : Task W K) → TaskR R S t s → OptionR (FinalR R) (final t) (final s)
  final-alike (Leaf b) (Leaf c) h = over-related (stage b) (stage c) (stage-alike b c h)
  final-alike (Leaf b) (Fork c q x y) h = absurd h
  final-alike (Fork b p l r) (Leaf c) h = absurd h
  final-alike (Fork b p l r) (Fork c q x y) h = tt

  ways-related : (f g : Option (Final V)) (f' g' : Option (Final W)) (l r l' r' : Way) → OptionR (FinalR R) f f' → OptionR (FinalR R) g g' → l ≡ l' → r ≡ r' → leftmost_of f g l r ≡ leftmost_of f' g' l' r'
  ways-related None g None g' l r l' r' h k e q = ap (λ w. GoL w) e
  ways-related (Some x) None (Some y) None l r l' r' h k e q = ap (λ w. GoR w) q
  ways-related (Some x) (Some z) (Some y) (Some w) l r l' r' h k e q = refl
  ways-related None g (Some y) g' l r l' r' h k e q = absurd h
  ways-related (Some x) g None g' l r l' r' h k e q = absurd h
  ways-related (Some x) None (Some y) (Some w) l r l' r' h k e q = absurd k
  ways-related (Some x) (Some z) (Some y) None l r l' r' h k e q = absurd k

  -- the leftmost node of the one is that of the other
  pub leftmost-related : (t : Task V G) (s : Task W K) → TaskR R S t s → leftmost t ≡ leftmost s
  leftmost-related (Leaf b) (Leaf c) h = refl
  leftmost-related (Leaf b) (Fork c q x y) h = absurd h
  leftmost-related (Fork b p l r) (Leaf c) h = absurd h
  leftmost-related (Fork b p l r) (Fork c q x y) h =
      ways-related (final l) (final r) (final x) (final y) (leftmost l) (leftmost r) (leftmost x) (leftmost y) (final-alike l x h.2) (final-alike r y h.3) (leftmost-related l x h.2) (leftmost-related r y h.3)

-- ---------- what is related stays so ----------
module _ {V W : Type 0} (R R' : V → W → Type 0) (up : (v : V) (w : W) → R v w → R' v w) where
  -- variables
  pub vars-up : (a : List V) (b : List W) → VarsR R a b → VarsR R' a b
  vars-up [] [] h = tt
  vars-up [] (y ∷ b) h = absurd h
  vars-up (x ∷ a) [] h = absurd h
  vars-up (x ∷ a) (y ∷ b) h = (up x y h.0, vars-up a b h.1)

  -- one that may be there
  pub option-up : (v : Option V) (w : Option W) → OptionR R v w → OptionR R' v w
  option-up None None h = tt
  option-up None (Some w) h = absurd h
  option-up (Some v) None h = absurd h
  option-up (Some v) (Some w) h = up v w h

  frame-up : (f : Frame V) (g : Frame W) → FrameR R f g → FrameR R' f g
  frame-up (OpenBlock own rest) (OpenBlock own' rest') h = h
  frame-up (OpenRecover own hides saved rest) (OpenRecover own' hides' saved' rest') h = (h.0, h.1, vars-up saved saved' h.2, h.3)
  frame-up (OpenCall tie into y saved lent caller rest) (OpenCall tie' into' y' saved' lent' caller' rest') h = (h.0, h.1, h.2, vars-up saved saved' h.3, option-up lent lent' h.4, h.5, h.6)
  frame-up (OpenBlock own rest) (OpenRecover own' hides' saved' rest') h = absurd h
  frame-up (OpenBlock own rest) (OpenCall tie' into' y' saved' lent' caller' rest') h = absurd h
  frame-up (OpenRecover own hides saved rest) (OpenBlock own' rest') h = absurd h
  frame-up (OpenRecover own hides saved rest) (OpenCall tie' into' y' saved' lent' caller' rest') h = absurd h
  frame-up (OpenCall tie into y saved lent caller rest) (OpenBlock own' rest') h = absurd h
  frame-up (OpenCall tie into y saved lent caller rest) (OpenRecover own' hides' saved' rest') h = absurd h

  -- stacks
  pub stack-up : (a : List (Frame V)) (b : List (Frame W)) → StackR R a b → StackR R' a b
  stack-up [] [] h = tt
  stack-up [] (y ∷ b) h = absurd h
  stack-up (x ∷ a) [] h = absurd h
  stack-up (x ∷ a) (y ∷ b) h = (frame-up x y h.0, stack-up a b h.1)

  close-up : (x : Option (Close V)) (y : Option (Close W)) → CloseR R x y → CloseR R' x y
  close-up None None h = tt
  close-up (Some (Returning v)) (Some (Returning w)) h = up v w h
  close-up (Some (Failing e)) (Some (Failing f)) h = h
  close-up None (Some y) h = absurd h
  close-up (Some (Returning v)) None h = absurd h
  close-up (Some (Failing v)) None h = absurd h
  close-up (Some (Returning v)) (Some (Failing f)) h = absurd h
  close-up (Some (Failing e)) (Some (Returning w)) h = absurd h

  module _ {G K : Type 0} (S S' : G → K → Type 0) (rise : (g : G) (k : K) → S g k → S' g k) where
    -- what turns may change
    pub own-up : (l : Own V G) (m : Own W K) → OwnR R S l m → OwnR R' S' l m
    own-up l m h = record { vars = vars-up l.vars m.vars h.vars; routine = h.routine; depth = h.depth; printed = h.printed; mark = rise l.mark m.mark h.mark }

    -- branches
    pub branch-up : (b : Branch V G) (c : Branch W K) → BranchR R S b c → BranchR R' S' b c
    branch-up b c h = record { own = own-up b.own c.own h.own; turns = h.turns; code = h.code; stack = stack-up b.stack c.stack h.stack; close = close-up b.close c.close h.close }

    -- trees
    pub task-up : (t : Task V G) (s : Task W K) → TaskR R S t s → TaskR R' S' t s
    task-up (Leaf b) (Leaf c) h = branch-up b c h
    task-up (Leaf b) (Fork c q x y) h = absurd h
    task-up (Fork b p l r) (Leaf c) h = absurd h
    task-up (Fork b p l r) (Fork c q x y) h = (branch-up b c h.0, h.1, task-up l x h.2, task-up r y h.3)
