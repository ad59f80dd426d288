-- Where each list of events can be brought to an end, and what a state needs never falls, no list needs more than a complete one.
use Rattle.std.proofs.Common.{◌≡◌, ℕ, zero, suc, ◌≤◌, ◌<◌, ◌⊎◌, inl, inr, Option, Some, List, [], ◌∷◌, ◌++◌, refl, sym, ap, ◌∙◌, subst, arith, le_refl}
use Rattle.perm_meaning.specs.Steps.{runs}
use Rattle.perm_meaning.proofs.Leads.{some-inj, then-some, then-at}
use Rattle.perm_core.proofs.Serial.Confluence.{IsFinal, Commutes, confluent}

-- a state has an event, or it is final
abbrev pub GoesOrEnds : {S E : Type 0} → (S → E → Option S) → S → Type 0
GoesOrEnds {S} {E} step s = ((e : E) × (t : S) × (step s e ≡ Some t)) ⊎ IsFinal step s

-- events keep I, and lists of events come to an end
pub record Terminates {S E : Type 0} (step : S → E → Option S) (I : S → Type 0) (fuel : S → ℕ) : Type 0 where
  pub keeps : (s t : S) (e : E) → I s → step s e ≡ Some t → I t
  pub falls : (s t : S) (e : E) → step s e ≡ Some t → fuel t < fuel s
  pub goes : (s : S) → I s → GoesOrEnds step s

-- a list to a state without an event
pub record Completed {S E : Type 0} (step : S → E → Option S) (s : S) : Type 0 where
  pub events : List E
  pub end : S
  pub run : runs step events s ≡ Some end
  pub final : IsFinal step end

module _ {S E : Type 0} (step : S → E → Option S) where
  -- one list after another
  pub runs-append : (xs ys : List E) (s t : S) → runs step xs s ≡ Some t → runs step (xs ++ ys) s ≡ runs step ys t
  runs-append [] ys s t e = ap (λ z. runs step ys z) (some-inj e)
  runs-append (x ∷ xs) ys s t e =
      let a = then-some (step s x) (runs step xs) t e in
      then-at (step s x) (runs step (xs ++ ys)) a.0 a.1 ∙ runs-append xs ys a.0 t a.2

module _ {S E : Type 0} (step : S → E → Option S) (I : S → Type 0) where
  -- what each event keeps, a list keeps
  pub runs-keep : ((s t : S) (e : E) → I s → step s e ≡ Some t → I t) → (xs : List E) (s t : S) → I s → runs step xs s ≡ Some t → I t
  runs-keep keeps [] s t i e = subst (λ z. I z) (some-inj e) i
  runs-keep keeps (x ∷ xs) s t i e = let a = then-some (step s x) (runs step xs) t e in runs-keep keeps xs a.0 t (keeps s a.0 x i a.1) a.2

  module _ (fuel : S → ℕ) (n : Terminates step I fuel) where
    complete-within : (k : ℕ) (s : S) → I s → fuel s < k → Completed {E = E} step s
    complete-within zero s i less = absurd (omega arith)
    complete-within (suc k) s i less = go (λ t j l. complete-within k t j l) (n.goes s i)
      where
        go : ((t : S) → I t → fuel t < k → Completed {E = E} step t) → GoesOrEnds {E = E} step s → Completed {E = E} step s
        go further (inr f) = record { events = []; end = s; run = refl; final = f }
        go further (inl x) =
            let l = n.falls s x.1 x.0 x.2 in
            let r = further x.1 (n.keeps s x.1 x.0 i x.2) (omega arith) in
            record { events = x.0 ∷ r.events; end = r.end; run = then-at (step s x.0) (runs step r.events) x.1 x.2 ∙ r.run; final = r.final }

    -- each list can be completed
    pub complete : (s : S) → I s → Completed {E = E} step s
    complete s i = complete-within (suc (fuel s)) s i (le_refl (suc (fuel s)))

    module _ (need : S → ℕ) (grows : (s t : S) (e : E) → step s e ≡ Some t → need s ≤ need t) (dec : (x y : E) → Dec (x ≡ y)) (m : Commutes step I) where
      need-grows : (xs : List E) (s t : S) → runs step xs s ≡ Some t → need s ≤ need t
      need-grows [] s t e = subst (λ z. need s ≤ need z) (some-inj e) (le_refl (need s))
      need-grows (x ∷ xs) s t e =
          let a = then-some (step s x) (runs step xs) t e in
          let first = grows s a.0 x a.1 in
          let rest = need-grows xs a.0 t a.2 in
          omega arith

      pub never-more : (xs ys : List E) (s a b : S) → I s → runs step xs s ≡ Some a → IsFinal step a → runs step ys s ≡ Some b → need b ≤ need a
      never-more xs ys s a b i p f q =
          let c = complete b (runs-keep m.keeps ys s b i q) in
          let r = confluent step I dec m xs (ys ++ c.events) s a c.end i p f (runs-append step ys c.events s b q ∙ c.run) c.final in
          let more = need-grows c.events b c.end c.run in
          subst (λ z. need b ≤ need z) (sym r.0) more
