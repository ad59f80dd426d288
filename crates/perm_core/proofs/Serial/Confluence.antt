-- Where events of one state may come in either order, two complete lists of events end in one state and are as long.
use Rattle.std.proofs.Common.{◌≡◌, ◌≢◌, suc, Option, Some, None, List, [], ◌∷◌, length, refl, sym, ap, ◌∙◌, subst}
use Rattle.perm_meaning.specs.Steps.{runs}
use Rattle.perm_meaning.proofs.Leads.{some-inj, none-some, then-some, then-at}

-- the state has no event
abbrev pub IsFinal : {S E : Type 0} → (S → E → Option S) → S → Type 0
IsFinal {E} step s = (e : E) → step s e ≡ None

-- events keep I, and where it holds two events may come in either order
pub record Commutes {S E : Type 0} (step : S → E → Option S) (I : S → Type 0) : Type 0 where
  pub keeps : (s t : S) (e : E) → I s → step s e ≡ Some t → I t
  pub meets : (s a b : S) (p q : E) → I s → p ≢ q → step s p ≡ Some a → step s q ≡ Some b → (t : S) × (step a q ≡ Some t) × (step b p ≡ Some t)

module _ {S E : Type 0} (step : S → E → Option S) (I : S → Type 0) (dec : (x y : E) → Dec (x ≡ y)) (m : Commutes step I) where
  -- what is left of a list after one of its events is moved to its front
  record MovedToFront (ys : List E) (a b : S) : Type 0 where
    rest : List E
    goes : runs step rest a ≡ Some b
    shorter : length ys ≡ suc (length rest)

  -- an event of the first state comes in each complete list, and may come first
  to-front : (ys : List E) (s a b : S) (x : E) → I s → step s x ≡ Some a → runs step ys s ≡ Some b → IsFinal step b → MovedToFront ys a b
  to-front [] s a b x i e r f = none-some (sym (f x) ∙ ap (λ z. step z x) (sym (some-inj r)) ∙ e)
  to-front (y ∷ ys) s a b x i e r f =
      let c = then-some (step s y) (runs step ys) b r in
      let at_same : x ≡ y → MovedToFront (y ∷ ys) a b = λ q. record { rest = ys; goes = ap (λ z. runs step ys z) (some-inj (sym e ∙ ap (λ z. step s z) q ∙ c.1)) ∙ c.2; shorter = refl } in
      let at_other : x ≢ y → MovedToFront (y ∷ ys) a b =
      λ q.
      let d = m.meets s a c.0 x y i q e c.1 in
      let h = to-front ys c.0 d.0 b x (m.keeps s c.0 y i c.1) d.2 c.2 f in
      record { rest = y ∷ h.rest; goes = then-at (step a y) (runs step h.rest) d.0 d.1 ∙ h.goes; shorter = ap suc h.shorter } in
      elim (dec x y) [ yes q ↦ at_same q | no q ↦ at_other q ]

  pub confluent : (xs ys : List E) (s a b : S) → I s → runs step xs s ≡ Some a → IsFinal step a → runs step ys s ≡ Some b → IsFinal step b → (a ≡ b) × (length xs ≡ length ys)
  confluent [] [] s a b i p f q g = (some-inj (sym p ∙ q), refl)
  confluent [] (y ∷ ys) s a b i p f q g =
      let c = then-some (step s y) (runs step ys) b q in
      none-some (sym (subst (λ z. IsFinal step z) (sym (some-inj p)) f y) ∙ c.1)
  confluent (x ∷ xs) ys s a b i p f q g =
      let c = then-some (step s x) (runs step xs) a p in
      let k = to-front ys s c.0 b x i c.1 q g in
      let r = confluent xs k.rest c.0 a b (m.keeps s c.0 x i c.1) c.2 f k.goes g in
      (r.0, ap suc r.1 ∙ sym k.shorter)
