-- No event brings turns: what all branches of a run have left is never more than it began with.
use Rattle.std.proofs.Common.{◌≡◌, ℕ, zero, suc, ◌+◌, ◌≤◌, Bool, Option, Some, None, List, [], ◌∷◌, refl, ap, subst, le_refl, arith}
use Rattle.std.specs.Prelude.{ℤ}
use Rattle.perm_tree.specs.Code.{Routine, UnitCode}
use Rattle.perm_meaning.specs.Custody.{Custody}
use Rattle.perm_meaning.specs.Machine.{Machine, Task, Leaf, Fork, Way, look, fill}
use Rattle.perm_meaning.specs.Steps.{Answer, Found, Refused, Missing, Memory, State, Leads, alone, careful, granted, asked_with_care, leftmost}
use Rattle.perm_meaning.specs.WordHeap as on_words
use Rattle.perm_meaning.specs.WordHeap.{NoMark, worded, opening_state}
use Rattle.perm_meaning.proofs.Leads.{some-inj, none-some, then-some}
use Rattle.perm_core.specs.Pieces.{turns_in, turn_at}
use Rattle.perm_core.proofs.Pieces.PieceCounts.{event-turns}
use Rattle.perm_step.specs.Holding.{Aside, RightAside, LeftAside, tree_around}

module _ {V G O H : Type 0} (m : Machine V G O) (memory : Memory V O H) (fits : ℕ → Bool) where
  -- an event leaves no more turns
  event-less : (s t : State V G H) (w : Way) → careful m memory fits s w ≡ Some t → turns_in t.task ≤ turns_in s.task
  event-less s t w e = looked (look m w s.task) refl e
    where
      answer : (o : O) (a : Answer V) → look m w s.task ≡ Some o → granted m memory fits s w o a ≡ Some t → turns_in t.task ≤ turns_in s.task
      answer o (Found v) q e =
          let sum : turns_in (fill m w s.task (Some v)) + turn_at w s.task ≡ turns_in s.task = event-turns m w s.task o (Some v) q in
          subst (λ (z : State V G H). turns_in z.task ≤ turns_in s.task) (some-inj e) (omega (arith, sum))
      answer o Refused q e = none-some e
      answer o Missing q e = none-some e

      looked : (x : Option O) → look m w s.task ≡ x → asked_with_care m memory fits s w x ≡ Some t → turns_in t.task ≤ turns_in s.task
      looked None q e = none-some e
      looked (Some o) q e = answer o (memory.find fits o s.heap) q e

  -- so do many
  pub turns-fall : (n : ℕ) (s t : State V G H) → alone m memory fits n s ≡ Some t → turns_in t.task ≤ turns_in s.task
  turns-fall zero s t e = subst (λ (z : State V G H). turns_in z.task ≤ turns_in s.task) (some-inj e) (le_refl (turns_in s.task))
  turns-fall (suc n) s t e =
      let x = then-some (careful m memory fits s (leftmost s.task)) (alone m memory fits n) t e in
      let first = event-less s x.0 (leftmost s.task) x.1 in
      let rest = turns-fall n x.0 t x.2 in
      omega (arith, first, rest)

-- a tree within what is kept aside has no more turns than the whole
pub turns-around : {V G : Type 0} (t : Task V G) (ks : List (Aside V G)) → turns_in t ≤ turns_in (tree_around t ks)
turns-around t [] = le_refl (turns_in t)
turns-around t (RightAside b p r ∷ ks) = let more : turns_in t + r.turns ≤ turns_in (tree_around (Fork b p t (Leaf r)) ks) = turns-around (Fork b p t (Leaf r)) ks in omega (arith, more)
turns-around t (LeftAside b p l ∷ ks) = let more : l.turns + turns_in t ≤ turns_in (tree_around (Fork b p (Leaf l) t) ks) = turns-around (Fork b p (Leaf l) t) ks in omega (arith, more)

module _ (c : Custody) (u : UnitCode) (fits : ℕ → Bool) (input : List ℤ) (turns : ℕ) (r : Routine) where
  -- what a run from the opening comes to has no more turns than it began with
  pub run-turns : (t : on_words.State) → Leads (worded c u) on_words.memory fits (opening_state u input turns r) t → turns_in t.task ≤ turns
  run-turns t run = turns-fall (worded c u) on_words.memory fits run.0 (opening_state u input turns r) t run.1

  -- so has the tree that runs within what is kept aside
  pub held-turns : (ks : List (Aside ℕ NoMark)) (s : on_words.Task) (t : on_words.State) → t.task ≡ tree_around s ks → Leads (worded c u) on_words.memory fits (opening_state u input turns r) t → turns_in s ≤ turns
  held-turns ks s t is run =
      let whole = run-turns t run in
      let same = ap turns_in is in
      let part = turns-around s ks in
      omega (arith, whole, same, part)
