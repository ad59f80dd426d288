-- Events at the leftmost node, one stretch after another, and those of a side of a par within the whole.
use Rattle.std.proofs.Common.{◌≡◌, ℕ, zero, suc, Bool, Option, Some, None, refl, sym, ap, ◌∙◌, subst}
use Rattle.std.specs.Prelude.{option_and_then}
use Rattle.perm_meaning.specs.Machine.{Machine, Branch, Task, Leaf, Fork, Blocks, Way, Here, GoL, GoR, Final, Stage, Over, Due, final, look, leaf_op, stage, over}
use Rattle.perm_meaning.specs.Steps.{Answer, Found, Refused, Missing, Memory, State, Leads, leftmost, leftmost_of, granted, asked_with_care, careful, alone}

-- ---------- options ----------
-- what stands in an option is one thing
pub some-inj : {A : Type 0} {a b : A} → Some a ≡ Some b → a ≡ b
some-inj {a = a} {b = b} e = ap (λ o. take o a) e
  where
    take : {A : Type 0} → Option A → A → A
    take None a = a
    take (Some b) a = b

-- nothing isn't something
pub none-some : {A B : Type 0} {a : A} → None ≡ Some a → B
none-some e = absurd (cc)

-- what goes on to something begins with something
pub then-some : {A B : Type 0} (o : Option A) (k : A → Option B) (b : B) → option_and_then k o ≡ Some b → (a : A) × (o ≡ Some a) × (k a ≡ Some b)
then-some None k b e = none-some e
then-some (Some a) k b e = (a, refl, e)

-- going on from something
pub then-at : {A B : Type 0} (o : Option A) (k : A → Option B) (a : A) → o ≡ Some a → option_and_then k o ≡ k a
then-at o k a e = ap (λ o. option_and_then k o) e

-- ---------- ended trees ----------
module _ {V G O : Type 0} (m : Machine V G O) where
  -- a leaf that is over asks nothing
  over-no-op : (b : Branch V G) (x : Stage V) (f : Final V) → over x ≡ Some f → leaf_op m b x ≡ None
  over-no-op b (Over g) f h = refl
  over-no-op b (Due t) f h = none-some h

  -- a tree that has ended has no event
  pub ended-no-event : (w : Way) (t : Task V G) (f : Final V) → final t ≡ Some f → look m w t ≡ None
  ended-no-event Here (Leaf b) f h = over-no-op b (stage b) f h
  ended-no-event Here (Fork b p l r) f h = none-some h
  ended-no-event (GoL w) (Leaf b) f h = refl
  ended-no-event (GoL w) (Fork b p l r) f h = none-some h
  ended-no-event (GoR w) (Leaf b) f h = refl
  ended-no-event (GoR w) (Fork b p l r) f h = none-some h

  -- a tree with an event hasn't ended
  pub unended : (w : Way) (t : Task V G) (o : O) → look m w t ≡ Some o → final t ≡ None
  unended w t o e = go (final t) refl
    where
      go : (x : Option (Final V)) → final t ≡ x → x ≡ None
      go None q = refl
      go (Some f) q = none-some (sym (ended-no-event w t f q) ∙ e)

-- ---------- sides ----------
module _ {V G H : Type 0} where
  -- a state as the left side of a par
  abbrev pub in_left : Branch V G → Blocks → Task V G → State V G H → State V G H
  in_left b p r s = record { task = Fork b p s.task r; heap = s.heap }

  -- a state as the right side of a par
  abbrev pub in_right : Branch V G → Blocks → Task V G → State V G H → State V G H
  in_right b p l s = record { task = Fork b p l s.task; heap = s.heap }

module _ {V G O H : Type 0} (m : Machine V G O) (memory : Memory V O H) (fits : ℕ → Bool) where
  -- no event leads nowhere else
  pub stay : (s : State V G H) → Leads m memory fits s s
  stay s = (0, refl)

  -- one event
  pub one : (s t : State V G H) → careful m memory fits s (leftmost s.task) ≡ Some t → Leads m memory fits s t
  one s t e = (1, then-at (careful m memory fits s (leftmost s.task)) (λ z. Some z) t e)

  -- so many events, and what they lead to
  lead-from : (n : ℕ) (s t z : State V G H) → alone m memory fits n s ≡ Some t → Leads m memory fits t z → Leads m memory fits s z
  lead-from zero s t z e l = subst (λ x. Leads m memory fits x z) (sym (some-inj e)) l
  lead-from (suc n) s t z e l =
      let x = then-some (careful m memory fits s (leftmost s.task)) (alone m memory fits n) t e in
      let r = lead-from n x.0 t z x.2 l in
      (suc r.0, then-at (careful m memory fits s (leftmost s.task)) (alone m memory fits r.0) x.0 x.1 ∙ r.1)

  -- one stretch after another
  pub lead : (s t z : State V G H) → Leads m memory fits s t → Leads m memory fits t z → Leads m memory fits s z
  lead s t z a b = lead-from a.0 s t z a.1 b

  -- a state with an event hasn't ended
  pub going-on : (s t : State V G H) (w : Way) → careful m memory fits s w ≡ Some t → final s.task ≡ None
  going-on s t w e = go (final s.task) refl
    where
      go : (x : Option (Final V)) → final s.task ≡ x → x ≡ None
      go None q = refl
      go (Some f) q = none-some (sym (ap (asked_with_care m memory fits s w) (ended-no-event m w s.task f q)) ∙ e)

  -- an event of a left side is one of the whole
  step-left : (b : Branch V G) (p : Blocks) (r : Task V G) (s t : State V G H) (w : Way) → careful m memory fits s w ≡ Some t → careful m memory fits (in_left b p r s) (GoL w) ≡ Some (in_left b p r t)
  step-left b p r s t w e = go (look m w s.task) e
    where
      answer : (o : O) (a : Answer V) → granted m memory fits s w o a ≡ Some t → granted m memory fits (in_left b p r s) (GoL w) o a ≡ Some (in_left b p r t)
      answer o (Found v) e = ap (λ z. Some (in_left b p r z)) (some-inj e)
      answer o Refused e = none-some e
      answer o Missing e = none-some e

      go : (x : Option O) → asked_with_care m memory fits s w x ≡ Some t → asked_with_care m memory fits (in_left b p r s) (GoL w) x ≡ Some (in_left b p r t)
      go None e = none-some e
      go (Some o) e = answer o (memory.find fits o s.heap) e

  -- the same of a right side
  step-right : (b : Branch V G) (p : Blocks) (l : Task V G) (s t : State V G H) (w : Way) → careful m memory fits s w ≡ Some t → careful m memory fits (in_right b p l s) (GoR w) ≡ Some (in_right b p l t)
  step-right b p l s t w e = go (look m w s.task) e
    where
      answer : (o : O) (a : Answer V) → granted m memory fits s w o a ≡ Some t → granted m memory fits (in_right b p l s) (GoR w) o a ≡ Some (in_right b p l t)
      answer o (Found v) e = ap (λ z. Some (in_right b p l z)) (some-inj e)
      answer o Refused e = none-some e
      answer o Missing e = none-some e

      go : (x : Option O) → asked_with_care m memory fits s w x ≡ Some t → asked_with_care m memory fits (in_right b p l s) (GoR w) x ≡ Some (in_right b p l t)
      go None e = none-some e
      go (Some o) e = answer o (memory.find fits o s.heap) e

  -- so many events of a left side
  alone-left : (b : Branch V G) (p : Blocks) (r : Task V G) (n : ℕ) (s t : State V G H) → alone m memory fits n s ≡ Some t → alone m memory fits n (in_left b p r s) ≡ Some (in_left b p r t)
  alone-left b p r zero s t e = ap (λ z. Some (in_left b p r z)) (some-inj e)
  alone-left b p r (suc n) s t e =
      let x = then-some (careful m memory fits s (leftmost s.task)) (alone m memory fits n) t e in
      then-at (careful m memory fits (in_left b p r s) (leftmost (in_left b p r s).task)) (alone m memory fits n) (in_left b p r x.0)
      (ap (λ f. careful m memory fits (in_left b p r s) (leftmost_of f (final r) (leftmost s.task) (leftmost r))) (going-on s x.0 (leftmost s.task) x.1) ∙ step-left b p r s x.0 (leftmost s.task) x.1)
      ∙ alone-left b p r n x.0 t x.2

  -- so many events of a right side, where the left one has ended
  alone-right : (b : Branch V G) (p : Blocks) (l : Task V G) (f : Final V) → final l ≡ Some f → (n : ℕ) (s t : State V G H) → alone m memory fits n s ≡ Some t → alone m memory fits n (in_right b p l s) ≡ Some (in_right b p l t)
  alone-right b p l f q zero s t e = ap (λ z. Some (in_right b p l z)) (some-inj e)
  alone-right b p l f q (suc n) s t e =
      let x = then-some (careful m memory fits s (leftmost s.task)) (alone m memory fits n) t e in
      then-at (careful m memory fits (in_right b p l s) (leftmost (in_right b p l s).task)) (alone m memory fits n) (in_right b p l x.0)
      (ap (λ f. careful m memory fits (in_right b p l s) (leftmost_of f (final s.task) (leftmost l) (leftmost s.task))) q
      ∙ ap (λ g. careful m memory fits (in_right b p l s) (leftmost_of (Some f) g (leftmost l) (leftmost s.task))) (going-on s x.0 (leftmost s.task) x.1)
      ∙ step-right b p l s x.0 (leftmost s.task) x.1)
      ∙ alone-right b p l f q n x.0 t x.2

  -- what a left side leads to, the whole leads to
  pub lead-left : (b : Branch V G) (p : Blocks) (r : Task V G) (s t : State V G H) → Leads m memory fits s t → Leads m memory fits (in_left b p r s) (in_left b p r t)
  lead-left b p r s t l = (l.0, alone-left b p r l.0 s t l.1)

  -- the same of a right side, where the left one has ended
  pub lead-right : (b : Branch V G) (p : Blocks) (l : Task V G) (f : Final V) → final l ≡ Some f → (s t : State V G H) → Leads m memory fits s t → Leads m memory fits (in_right b p l s) (in_right b p l t)
  lead-right b p l f q s t h = (h.0, alone-right b p l f q h.0 s t h.1)
