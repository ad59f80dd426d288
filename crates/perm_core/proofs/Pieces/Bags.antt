-- Picking from lists, lists in which no element stands twice, bags, and counts over lists.
use Rattle.std.proofs.Common.{◌≡◌, ℕ, ◌+◌, List, [], ◌∷◌, ◌++◌, refl, sym, ap, subst, ◌∙◌, inl, inr, arith}
use Rattle.std.specs.Prelude.{◌⊎◌, nat_eq}
use Rattle.perm_core.specs.Bag.{Picks, IsIn, IsDistinct, IsSameBag, one_if, times, total}

module _ {X : Type 0} where
  -- what is picked from two lists is picked from one of them
  pub picks-split : (x : X) (xs ys r : List X) → Picks x (xs ++ ys) r → ((s : List X) × Picks x xs s × (r ≡ s ++ ys)) ⊎ ((s : List X) × Picks x ys s × (r ≡ xs ++ s))
  picks-split x [] ys r p = inr (r, p, refl)
  picks-split x (y ∷ xs) ys r (inl h) = inl (xs, inl (h.0, refl), sym h.1)
  picks-split x (y ∷ xs) ys r (inr h) = go (picks-split x xs ys h.0 h.2)
    where
      go : ((s : List X) × Picks x xs s × (h.0 ≡ s ++ ys)) ⊎ ((s : List X) × Picks x ys s × (h.0 ≡ xs ++ s)) → ((s : List X) × Picks x (y ∷ xs) s × (r ≡ s ++ ys)) ⊎ ((s : List X) × Picks x ys s × (r ≡ (y ∷ xs) ++ s))
      go (inl k) = inl (y ∷ k.0, inr (k.0, refl, k.1), h.1 ∙ ap (λ z. y ∷ z) k.2)
      go (inr k) = inr (k.0, k.1, h.1 ∙ ap (λ z. y ∷ z) k.2)

  pub picks-mid : (x : X) (xs ys : List X) → Picks x (xs ++ (x ∷ ys)) (xs ++ ys)
  picks-mid x [] ys = inl (refl, refl)
  picks-mid x (y ∷ xs) ys = inr (xs ++ ys, refl, picks-mid x xs ys)

  pub picks-in : (x : X) (xs r : List X) → Picks x xs r → IsIn x xs
  picks-in x [] r p = absurd p
  picks-in x (y ∷ ys) r (inl h) = inl h.0
  picks-in x (y ∷ ys) r (inr h) = inr (picks-in x ys h.0 h.2)

  pub in-left : (x : X) (xs ys : List X) → IsIn x xs → IsIn x (xs ++ ys)
  in-left x [] ys h = absurd h
  in-left x (y ∷ xs) ys (inl h) = inl h
  in-left x (y ∷ xs) ys (inr h) = inr (in-left x xs ys h)

  pub in-right : (x : X) (xs ys : List X) → IsIn x ys → IsIn x (xs ++ ys)
  in-right x [] ys h = h
  in-right x (y ∷ xs) ys h = inr (in-right x xs ys h)

  pub in-split : (x : X) (xs ys : List X) → IsIn x (xs ++ ys) → IsIn x xs ⊎ IsIn x ys
  in-split x [] ys h = inr h
  in-split x (y ∷ xs) ys (inl h) = inl (inl h)
  in-split x (y ∷ xs) ys (inr h) = go (in-split x xs ys h)
    where
      go : IsIn x xs ⊎ IsIn x ys → IsIn x (y ∷ xs) ⊎ IsIn x ys
      go (inl k) = inl (inr k)
      go (inr k) = inr k

  -- an element put in
  pub distinct-put : (x : X) (xs ys : List X) → IsDistinct (xs ++ ys) → (IsIn x (xs ++ ys) → ⊥) → IsDistinct (xs ++ (x ∷ ys))
  distinct-put x [] ys d new = (new, d)
  distinct-put x (y ∷ xs) ys d new = (λ h. go (in-split y xs (x ∷ ys) h), distinct-put x xs ys d.1 (λ h. new (inr h)))
    where
      go : IsIn y xs ⊎ IsIn y (x ∷ ys) → ⊥
      go (inl h) = d.0 (in-left y xs ys h)
      go (inr (inl h)) = new (inl (sym h))
      go (inr (inr h)) = d.0 (in-right y xs ys h)

  -- and one left out
  pub distinct-out : (x : X) (xs ys : List X) → IsDistinct (xs ++ (x ∷ ys)) → IsDistinct (xs ++ ys) × (IsIn x (xs ++ ys) → ⊥)
  distinct-out x [] ys d = (d.1, d.0)
  distinct-out x (y ∷ xs) ys d = go (distinct-out x xs ys d.1)
    where
      here : IsIn y xs ⊎ IsIn y ys → ⊥
      here (inl h) = d.0 (in-left y xs (x ∷ ys) h)
      here (inr h) = d.0 (in-right y xs (x ∷ ys) (inr h))

      there : (IsIn x (xs ++ ys) → ⊥) → (x ≡ y) ⊎ IsIn x (xs ++ ys) → ⊥
      there apart (inl e) = d.0 (in-right y xs (x ∷ ys) (inl (sym e)))
      there apart (inr h) = apart h

      go : IsDistinct (xs ++ ys) × (IsIn x (xs ++ ys) → ⊥) → IsDistinct (y ∷ (xs ++ ys)) × (IsIn x (y ∷ (xs ++ ys)) → ⊥)
      go (rest, apart) = ((λ h. here (in-split y xs ys h), rest), there apart)

  -- ---------- bags ----------
  -- a list is a bag of itself
  pub bag-same : (xs : List X) → IsSameBag xs xs
  bag-same [] = refl
  bag-same (x ∷ xs) = (xs, inl (refl, refl), bag-same xs)

  -- x from ys, then y from the rest: the same in the other order
  pub picks-swap : (x y : X) (ys r r' : List X) → Picks x ys r → Picks y r r' → (s : List X) × Picks y ys s × Picks x s r'
  picks-swap x y [] r r' p q = absurd p
  picks-swap x y (z ∷ zs) r r' (inl h) q = (z ∷ r', inr (r', refl, subst (λ l. Picks y l r') (sym h.1) q), inl (h.0, refl))
  picks-swap x y (z ∷ zs) r r' (inr h) q = go (subst (λ l. Picks y l r') h.1 q) (λ v k. picks-swap x y zs h.0 v h.2 k)
    where
      go : Picks y (z ∷ h.0) r' → ((v : List X) → Picks y h.0 v → (s : List X) × Picks y zs s × Picks x s v) → (s : List X) × Picks y (z ∷ zs) s × Picks x s r'
      go (inl k) rec = (zs, inl (k.0, refl), subst (λ l. Picks x zs l) k.1 h.2)
      go (inr k) rec = let s = rec k.0 k.2 in (z ∷ s.0, inr (s.0, refl, s.1), inr (k.0, k.1, s.2))

  -- what is picked from a list is picked from its bag
  pub bag-pick : (xs ys : List X) (x : X) (r : List X) → IsSameBag xs ys → Picks x xs r → (s : List X) × Picks x ys s × IsSameBag r s
  bag-pick [] ys x r b p = absurd p
  bag-pick (z ∷ zs) ys x r b (inl h) = (b.0, subst (λ (w : X). Picks w ys b.0) (sym h.0) b.1, subst (λ l. IsSameBag l b.0) h.1 b.2)
  bag-pick (z ∷ zs) ys x r b (inr h) =
      let d = bag-pick zs b.0 x h.0 b.2 h.2 in
      let s = picks-swap z x ys b.0 d.0 b.1 d.1 in
      (s.0, s.1, subst (λ l. IsSameBag l s.0) (sym h.1) (d.0, s.2, d.2))

  -- what is put back to both is again the same bag
  pub bag-put : (xs ys : List X) (x : X) (r s : List X) → Picks x xs r → Picks x ys s → IsSameBag r s → IsSameBag xs ys
  bag-put [] ys x r s p q b = absurd p
  bag-put (z ∷ zs) ys x r s (inl h) q b = (s, subst (λ (w : X). Picks w ys s) h.0 q, subst (λ l. IsSameBag l s) (sym h.1) b)
  bag-put (z ∷ zs) ys x r s (inr h) q b =
      let c = subst (λ l. IsSameBag l s) h.1 b in
      let w = picks-swap x z ys s c.0 q c.1 in
      (w.0, w.1, bag-put zs w.0 x h.0 c.0 h.2 w.2 c.2)

  -- what is picked from a list is picked from two, of which it is the first
  pub picks-left : (x : X) (xs ys r : List X) → Picks x xs r → Picks x (xs ++ ys) (r ++ ys)
  picks-left x [] ys r p = absurd p
  picks-left x (z ∷ zs) ys r (inl h) = inl (h.0, ap (λ l. l ++ ys) h.1)
  picks-left x (z ∷ zs) ys r (inr h) = inr (h.0 ++ ys, ap (λ l. l ++ ys) h.1, picks-left x zs ys h.0 h.2)

  -- or the second
  pub picks-right : (x : X) (xs ys r : List X) → Picks x ys r → Picks x (xs ++ ys) (xs ++ r)
  picks-right x [] ys r p = p
  picks-right x (z ∷ zs) ys r p = inr (zs ++ r, refl, picks-right x zs ys r p)

  -- ---------- sums ----------
  -- what is picked has its part of the sum
  pub total-pick : (f : X → ℕ) (x : X) (xs r : List X) → Picks x xs r → total f xs ≡ f x + total f r
  total-pick f x [] r h = absurd h
  total-pick f x (z ∷ zs) r (inl h) = λ i. f (sym h.0 i) + total f (h.1 i)
  total-pick f x (z ∷ zs) r (inr h) = let e = total-pick f x zs h.0 h.2 in let g : total f r ≡ f z + total f h.0 = ap (total f) h.1 in omega arith

  -- the sum over two lists
  pub total-append : (f : X → ℕ) (xs ys : List X) → total f (xs ++ ys) ≡ total f xs + total f ys
  total-append f [] ys = let e : 0 + total f ys ≡ total f ys = omega arith in sym e
  total-append f (x ∷ xs) ys = let h = total-append f xs ys in omega arith

  -- one bag has one sum
  pub total-bag : (f : X → ℕ) (xs ys : List X) → IsSameBag xs ys → total f xs ≡ total f ys
  total-bag f [] ys b = ap (total f) (sym b)
  total-bag f (x ∷ xs) ys b = let h = total-bag f xs b.0 b.2 in let p = total-pick f x ys b.0 b.1 in omega arith

-- ---------- counts ----------
-- how often a number stands in two lists
pub times-append : (i : ℕ) (xs ys : List ℕ) → times i (xs ++ ys) ≡ times i xs + times i ys
times-append i [] ys = let e : 0 + times i ys ≡ times i ys = omega arith in sym e
times-append i (x ∷ xs) ys = let h = times-append i xs ys in omega arith

-- a number put in
pub times-put : (i n : ℕ) (xs ys : List ℕ) → times i (xs ++ (n ∷ ys)) ≡ times i (xs ++ ys) + one_if (nat_eq i n)
times-put i n [] ys = omega arith
times-put i n (x ∷ xs) ys = let h = times-put i n xs ys in omega arith
