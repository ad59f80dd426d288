-- Elements in the order of their numbers, where the last one has the greatest number.
use Rattle.std.proofs.Common.{◌≡◌, ℕ, ◌<◌, List, [], ◌∷◌, ◌++◌, Bool as Boolean, true, false, leb, refl, ◌∙◌, ap, arith}
use Rattle.std.specs.Prelude.{if◌then◌else◌}
use Rattle.std.proofs.lemmas.Bool.{leb-true, le-leb}
use Rattle.perm_tree.specs.Printer.Programs.{insert_by, sort_by}

-- each number is smaller
abbrev pub EachLess : {A : Type 0} → (A → ℕ) → ℕ → List A → Type 0
EachLess number n [] = Unit {0}
EachLess number n (x ∷ xs) = (number x < n) × EachLess number n xs

module _ {A : Type 0} (number : A → ℕ) where
  insert_by-less : (n : ℕ) (x : A) (ys : List A) → number x < n → EachLess number n ys → EachLess number n (insert_by number x ys)
  insert_by-less n x [] l h = (l, tt)
  insert_by-less n x (y ∷ ys) l h = go (leb (number x) (number y)) (insert_by-less n x ys l h.1)
    where
      go : (b : Boolean) → EachLess number n (insert_by number x ys) → EachLess number n (if b then x ∷ y ∷ ys else y ∷ insert_by number x ys)
      go true k = (l, h)
      go false k = (h.0, k)

  sort_by-less : (n : ℕ) (xs : List A) → EachLess number n xs → EachLess number n (sort_by number xs)
  sort_by-less n [] h = tt
  sort_by-less n (x ∷ xs) h = insert_by-less n x (sort_by number xs) h.0 (sort_by-less n xs h.1)

  insert_by-last : (x : A) (ys : List A) → EachLess number (number x) ys → insert_by number x ys ≡ ys ++ x ∷ []
  insert_by-last x [] h = refl
  insert_by-last x (y ∷ ys) h = go (leb (number x) (number y)) refl (insert_by-last x ys h.1)
    where
      go : (b : Boolean) → leb (number x) (number y) ≡ b → insert_by number x ys ≡ ys ++ x ∷ [] → (if b then x ∷ y ∷ ys else y ∷ insert_by number x ys) ≡ (y ∷ ys) ++ x ∷ []
      go true e k = let l = leb-true (number x) (number y) e in let m : number y < number x = h.0 in absurd (omega arith)
      go false e k = ap (λ z. y ∷ z) k

  insert_by-before : (a x : A) (ys : List A) → number a < number x → insert_by number a (ys ++ x ∷ []) ≡ insert_by number a ys ++ x ∷ []
  insert_by-before a x [] l = go (leb (number a) (number x)) (le-leb (number a) (number x) (omega arith))
    where
      go : (b : Boolean) → b ≡ true → (if b then a ∷ x ∷ [] else x ∷ a ∷ []) ≡ (a ∷ []) ++ x ∷ []
      go true e = refl
      go false e = absurd (cc)
  insert_by-before a x (y ∷ ys) l = go (leb (number a) (number y)) (insert_by-before a x ys l)
    where
      go : (b : Boolean) → insert_by number a (ys ++ x ∷ []) ≡ insert_by number a ys ++ x ∷ [] →
          (if b then a ∷ y ∷ (ys ++ x ∷ []) else y ∷ insert_by number a (ys ++ x ∷ [])) ≡ (if b then a ∷ y ∷ ys else y ∷ insert_by number a ys) ++ x ∷ []
      go true k = refl
      go false k = ap (λ z. y ∷ z) k

  -- the element with the greatest number comes last
  pub sort_by-last : (early : List A) (x : A) (bs : List A) → EachLess number (number x) early → EachLess number (number x) bs → sort_by number (early ++ x ∷ bs) ≡ sort_by number (early ++ bs) ++ x ∷ []
  sort_by-last [] x bs h k = insert_by-last x (sort_by number bs) (sort_by-less (number x) bs k)
  sort_by-last (a ∷ early) x bs h k = ap (insert_by number a) (sort_by-last early x bs h.1 k) ∙ insert_by-before a x (sort_by number (early ++ bs)) h.0
