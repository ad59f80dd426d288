-- What one thread holds is a holder; its next event is that of the branch that it runs, and what that leads to, the whole leads to.
use Rattle.std.proofs.Common.{◌≡◌, ℕ, Bool, Some, None, List, [], ◌∷◌, refl, ap, ◌∙◌}
use Rattle.perm_meaning.specs.Machine.{Machine, Branch, Task, Leaf, Fork, final, look}
use Rattle.perm_meaning.specs.Steps.{Lone, Run, KeptRight, KeptLeft, lone_task, AreOver, Memory, State, Leads, leftmost, leftmost_of}
use Rattle.perm_meaning.proofs.Leads.{lead-left, lead-right}
use Rattle.perm_step.specs.Holding.{Aside, RightAside, LeftAside, around, held, tree_around, AreEnded}

module _ {V G : Type 0} where
  -- the tree of what is held within these sides
  pub around-task : (x : Lone V G) (ks : List (Aside V G)) → lone_task (around x ks) ≡ tree_around (lone_task x) ks
  around-task x [] = refl
  around-task x (RightAside b p r ∷ ks) = around-task (KeptRight b p x r) ks
  around-task x (LeftAside b p l ∷ ks) = around-task (KeptLeft b p l x) ks

  -- the left sides that it keeps aside have ended
  around-over : (x : Lone V G) (ks : List (Aside V G)) → AreOver x → AreEnded ks → AreOver (around x ks)
  around-over x [] h k = h
  around-over x (RightAside b p r ∷ ks) h k = around-over (KeptRight b p x r) ks h k
  around-over x (LeftAside b p l ∷ ks) h k = around-over (KeptLeft b p l x) ks (k.0, h) k.1

  -- a holder that runs a branch has kept such sides
  pub held-over : (b : Branch V G) (ks : List (Aside V G)) → AreEnded ks → AreOver (held b ks)
  held-over b ks k = around-over (Run b) ks tt k

  -- what hasn't ended hasn't ended within these sides
  pub around-unended : (t : Task V G) (ks : List (Aside V G)) → final t ≡ None → final (tree_around t ks) ≡ None
  around-unended t [] e = e
  around-unended t (RightAside b p r ∷ ks) e = around-unended (Fork b p t (Leaf r)) ks refl
  around-unended t (LeftAside b p l ∷ ks) e = around-unended (Fork b p (Leaf l) t) ks refl

module _ {V G O : Type 0} (m : Machine V G O) where
  -- what is next within these sides is next in the whole
  pub look-around : (t : Task V G) (ks : List (Aside V G)) → AreEnded ks → final t ≡ None → look m (leftmost (tree_around t ks)) (tree_around t ks) ≡ look m (leftmost t) t
  look-around t [] k e = refl
  look-around t (RightAside b p r ∷ ks) k e =
      look-around (Fork b p t (Leaf r)) ks k refl
      ∙ ap (λ x. look m (leftmost_of x (final (Leaf r)) (leftmost t) (leftmost (Leaf r))) (Fork b p t (Leaf r))) e
  look-around t (LeftAside b p l ∷ ks) k e =
      look-around (Fork b p (Leaf l) t) ks k.1 refl
      ∙ ap (λ x. look m (leftmost_of x (final t) (leftmost (Leaf l)) (leftmost t)) (Fork b p (Leaf l) t)) k.0.1
      ∙ ap (λ x. look m (leftmost_of (Some k.0.0) x (leftmost (Leaf l)) (leftmost t)) (Fork b p (Leaf l) t)) e

  module _ {H : Type 0} (memory : Memory V O H) (fits : ℕ → Bool) where
    -- a state within these sides
    abbrev pub state_around : State V G H → List (Aside V G) → State V G H
    state_around s ks = record { task = tree_around s.task ks; heap = s.heap }

    -- what a state leads to, it leads to within these sides
    pub lead-around : (ks : List (Aside V G)) (s t : State V G H) → AreEnded ks → Leads m memory fits s t → Leads m memory fits (state_around s ks) (state_around t ks)
    lead-around [] s t k l = l
    lead-around (RightAside b p r ∷ ks) s t k l =
        lead-around ks (record { task = Fork b p s.task (Leaf r); heap = s.heap }) (record { task = Fork b p t.task (Leaf r); heap = t.heap }) k (lead-left m memory fits b p (Leaf r) s t l)
    lead-around (LeftAside b p x ∷ ks) s t k l =
        lead-around ks (record { task = Fork b p (Leaf x) s.task; heap = s.heap }) (record { task = Fork b p (Leaf x) t.task; heap = t.heap }) k.1 (lead-right m memory fits b p (Leaf x) k.0.0 k.0.1 s t l)
