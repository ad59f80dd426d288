-- Left first, a run ends in one way: in the same state after the same number of events.
use Rattle.std.proofs.Common.{◌≡◌, ℕ, zero, suc, Bool, Some, None, refl, sym, ap, ◌∙◌, subst}
use Rattle.perm_meaning.specs.Machine.{Machine, Final, final, look}
use Rattle.perm_meaning.specs.Steps.{Memory, State, Refused, leftmost, granted, asked_with_care, careful, alone}
use Rattle.perm_meaning.proofs.Leads.{some-inj, none-some, then-some, ended-no-event}

module _ {V G O H : Type 0} (m : Machine V G O) (memory : Memory V O H) (fits : ℕ → Bool) where
  -- no event is next that the heap allows
  abbrev pub IsAtRest : State V G H → Type 0
  IsAtRest s = careful m memory fits s (leftmost s.task) ≡ None

  -- a state that has ended is at rest
  pub over-at-rest : (s : State V G H) (f : Final V) → final s.task ≡ Some f → IsAtRest s
  over-at-rest s f e = ap (asked_with_care m memory fits s (leftmost s.task)) (ended-no-event m (leftmost s.task) s.task f e)

  -- so is one whose next allocation is refused
  pub refused-at-rest : (s : State V G H) (o : O) → look m (leftmost s.task) s.task ≡ Some o → memory.find fits o s.heap ≡ Refused → IsAtRest s
  refused-at-rest s o e q = ap (asked_with_care m memory fits s (leftmost s.task)) e ∙ ap (granted m memory fits s (leftmost s.task) o) q

  -- no events lead on from a state at rest
  stays-at-rest : (k : ℕ) (s t : State V G H) → IsAtRest s → alone m memory fits k s ≡ Some t → (0 ≡ k) × (s ≡ t)
  stays-at-rest zero s t h e = (refl, some-inj e)
  stays-at-rest (suc k) s t h e = let x = then-some (careful m memory fits s (leftmost s.task)) (alone m memory fits k) t e in none-some (sym h ∙ x.1)

  -- two runs from one state to rest are one
  pub determined : (n k : ℕ) (s t t' : State V G H) → alone m memory fits n s ≡ Some t → IsAtRest t → alone m memory fits k s ≡ Some t' → IsAtRest t' → (n ≡ k) × (t ≡ t')
  determined zero k s t t' e h e' h' =
      let x = stays-at-rest k s t' (subst IsAtRest (sym (some-inj e)) h) e' in
      (x.0, sym (some-inj e) ∙ x.1)
  determined (suc n) zero s t t' e h e' h' =
      let x = stays-at-rest (suc n) s t (subst IsAtRest (sym (some-inj e')) h') e in
      (sym x.0, sym x.1 ∙ some-inj e')
  determined (suc n) (suc k) s t t' e h e' h' =
      let x = then-some (careful m memory fits s (leftmost s.task)) (alone m memory fits n) t e in
      let y = then-some (careful m memory fits s (leftmost s.task)) (alone m memory fits k) t' e' in
      let z = some-inj (sym x.1 ∙ y.1) in
      let r = determined n k x.0 t t' x.2 h (subst (λ q. alone m memory fits k q ≡ Some t') (sym z) y.2) h' in
      (ap (λ i. suc i) r.0, r.1)

  -- a run that ends is the only one from its opening that ends
  pub one-end : (n k : ℕ) (s t t' : State V G H) (f g : Final V) → alone m memory fits n s ≡ Some t → final t.task ≡ Some f → alone m memory fits k s ≡ Some t' → final t'.task ≡ Some g → (n ≡ k) × (t ≡ t')
  one-end n k s t t' f g e p e' q = determined n k s t t' e (over-at-rest t f p) e' (over-at-rest t' g q)
