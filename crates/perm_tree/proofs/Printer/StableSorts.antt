-- A list is put in order in one way only, where elements with the same number keep their order.
use Rattle.std.proofs.Common.{◌≡◌, ◌∙◌, ap, sym, refl, ℕ, suc, ◌<◌, ◌≤◌, List, [], ◌∷◌, length, map, arith, Bool, true, false}
use Rattle.std.specs.Prelude.{cond, nat_lt, nat_le, not, ◌&&◌, ◌==◌, slice_index_or, if◌then◌else◌}
use Rattle.std.specs.List.{filter}
use Rattle.std.specs.List.Sorted.{IsNonDecreasingBy}
use Rattle.std.specs.Ordering.{is_lt, nat_cmp}
use Rattle.std.specs.declared.cmp.Ordering.TheVariants.{Less, Equal, Greater}
use Rattle.std.proofs.lemmas.Bool.Decides.{nat_tests}
use Rattle.perm_tree.specs.Printer.Programs.{insert_by, sort_by}

-- ---------- numbers that tie ----------
abbrev same : ℕ → ℕ → Bool
same a b = not (is_lt (nat_cmp a b)) && not (is_lt (nat_cmp b a))

less : (u v : Bool) → is_lt (cond u Less (cond v Equal Greater)) ≡ u
less true v = refl
less false true = refl
less false false = refl

same-is : (a b : ℕ) → same a b ≡ (not (nat_lt a b) && not (nat_lt b a))
same-is a b = ap (λ u. not u && not (is_lt (nat_cmp b a))) (less (nat_lt a b) (a == b)) ∙ ap (λ u. not (nat_lt a b) && not u) (less (nat_lt b a) (b == a))

same-refl : (a b : ℕ) → a ≡ b → same a b ≡ true
same-refl a b e = same-is a b ∙ ties a b e
  where
    ties : (a b : ℕ) → a ≡ b → (not (nat_lt a b) && not (nat_lt b a)) ≡ true
    ties a b e = grind (arith, nat_tests)

apart : (a b : ℕ) → a < b → same a b ≡ false
apart a b l = same-is a b ∙ differ a b l
  where
    differ : (a b : ℕ) → a < b → (not (nat_lt a b) && not (nat_lt b a)) ≡ false
    differ a b l = grind (arith, nat_tests)

apart' : (a b : ℕ) → b < a → same a b ≡ false
apart' a b l = same-is a b ∙ differ a b l
  where
    differ : (a b : ℕ) → b < a → (not (nat_lt a b) && not (nat_lt b a)) ≡ false
    differ a b l = grind (arith, nat_tests)

module _ {X : Type 0} (n : X → ℕ) where
  abbrev T : X → X → Bool
  T z x = same (n z) (n x)

  yes_first : (z x : X) (xs : List X) → T z x ≡ true → filter (T z) (x ∷ xs) ≡ x ∷ filter (T z) xs
  yes_first z x xs e = ap (λ b. cond b (x ∷ filter (T z) xs) (filter (T z) xs)) e

  no_first : (z x : X) (xs : List X) → T z x ≡ false → filter (T z) (x ∷ xs) ≡ filter (T z) xs
  no_first z x xs e = ap (λ b. cond b (x ∷ filter (T z) xs) (filter (T z) xs)) e

  -- ---------- lists in order ----------
  abbrev AtLeast : ℕ → List X → Type 0
  AtLeast m [] = Unit {0}
  AtLeast m (x ∷ xs) = (m ≤ n x) × AtLeast m xs

  abbrev Rises : List X → Type 0
  Rises [] = Unit {0}
  Rises (x ∷ xs) = AtLeast (n x) xs × Rises xs

  lower : (m k : ℕ) (xs : List X) → m ≤ k → AtLeast k xs → AtLeast m xs
  lower m k [] l a = tt
  lower m k (x ∷ xs) l a = (omega (arith, a.0), lower m k xs l a.1)

  no_ties : (z : X) (m : ℕ) (xs : List X) → n z < m → AtLeast m xs → filter (T z) xs ≡ []
  no_ties z m [] l a = refl
  no_ties z m (x ∷ xs) l a = no_first z x xs (apart (n z) (n x) (omega (arith, a.0))) ∙ no_ties z m xs l a.1

  at_least : (m : ℕ) (xs : List X) → ((k : ℕ) (d : X) → k < length xs → m ≤ n (slice_index_or xs k d)) → AtLeast m xs
  at_least m [] h = tt
  at_least m (x ∷ xs) h = (h 0 x (omega arith), at_least m xs (λ k d l. h (suc k) d (omega arith)))

  pub rises : (xs : List X) → IsNonDecreasingBy n xs → Rises xs
  rises [] h = tt
  rises (x ∷ xs) h = (at_least (n x) xs (λ k d l. h 0 (suc k) d (omega arith) (omega arith)), rises xs (λ i j d le l. h (suc i) (suc j) d (omega arith) (omega arith)))

  -- ---------- one order ----------
  heads : (x y : X) (xs ys : List X) → Rises (y ∷ ys) → x ∷ xs ≡ filter (T x) (y ∷ ys) → n y ≤ n x
  heads x y xs ys up e = go (nat_lt (n x) (n y)) refl
    where
      go : (b : Bool) → nat_lt (n x) (n y) ≡ b → n y ≤ n x
      go false is = grind (arith, nat_tests)
      go true is =
          let l : n x < n y = grind (arith, nat_tests) in
          let none : filter (T x) (y ∷ ys) ≡ [] = no_ties x (n y) (y ∷ ys) l ((omega arith), up.0) in
          absurd (let no : x ∷ xs ≡ [] = e ∙ none in cc)

  pub unique : (xs ys : List X) → Rises xs → Rises ys → ((z : X) → filter (T z) xs ≡ filter (T z) ys) → xs ≡ ys
  unique [] [] up up' h = refl
  unique [] (y ∷ ys) up up' h = absurd (let no : [] ≡ y ∷ filter (T y) ys = h y ∙ yes_first y y ys (same-refl (n y) (n y) refl) in cc)
  unique (x ∷ xs) [] up up' h = absurd (let no : x ∷ filter (T x) xs ≡ [] = sym (yes_first x x xs (same-refl (n x) (n x) refl)) ∙ h x in cc)
  unique (x ∷ xs) (y ∷ ys) up up' h =
      let here : x ∷ filter (T x) xs ≡ filter (T x) (y ∷ ys) = sym (yes_first x x xs (same-refl (n x) (n x) refl)) ∙ h x in
      let there : y ∷ filter (T y) ys ≡ filter (T y) (x ∷ xs) = sym (yes_first y y ys (same-refl (n y) (n y) refl)) ∙ sym (h y) in
      let first : n y ≤ n x = heads x y (filter (T x) xs) ys up' here in
      let second : n x ≤ n y = heads y x (filter (T y) ys) xs up there in
      let both_ways : x ∷ filter (T x) xs ≡ y ∷ filter (T x) ys = here ∙ yes_first x y ys (same-refl (n x) (n y) (omega arith)) in
      let equal : x ≡ y = cc in
      let tails : (z : X) → filter (T z) xs ≡ filter (T z) ys = λ z. tail z (T z x) refl (h z ∙ ap (λ v. filter (T z) (v ∷ ys)) (sym equal)) in
      ap (λ v. v ∷ xs) equal ∙ ap (λ l. y ∷ l) (unique xs ys up.1 up'.1 tails)
    where
      tail : (z : X) (b : Bool) → T z x ≡ b → filter (T z) (x ∷ xs) ≡ filter (T z) (x ∷ ys) → filter (T z) xs ≡ filter (T z) ys
      tail z true is e = let whole : x ∷ filter (T z) xs ≡ x ∷ filter (T z) ys = sym (yes_first z x xs is) ∙ e ∙ yes_first z x ys is in cc
      tail z false is e = sym (no_first z x xs is) ∙ e ∙ no_first z x ys is

  -- ---------- insertion ----------
  at_least-inserted : (m : ℕ) (x : X) (ys : List X) → m ≤ n x → AtLeast m ys → AtLeast m (insert_by n x ys)
  at_least-inserted m x [] l a = (l, tt)
  at_least-inserted m x (y ∷ ys) l a = go (nat_le (n x) (n y)) (at_least-inserted m x ys l a.1)
    where
      go : (b : Bool) → AtLeast m (insert_by n x ys) → AtLeast m (if b then x ∷ y ∷ ys else y ∷ insert_by n x ys)
      go true rest = (l, (a.0, a.1))
      go false rest = (a.0, rest)

  rises-inserted : (x : X) (ys : List X) → Rises ys → Rises (insert_by n x ys)
  rises-inserted x [] up = (tt, tt)
  rises-inserted x (y ∷ ys) up = go (nat_le (n x) (n y)) refl (rises-inserted x ys up.1)
    where
      go : (b : Bool) → nat_le (n x) (n y) ≡ b → Rises (insert_by n x ys) → Rises (if b then x ∷ y ∷ ys else y ∷ insert_by n x ys)
      go true is rest = let l : n x ≤ n y = grind (arith, nat_tests) in ((l, lower (n x) (n y) ys l up.0), up)
      go false is rest = let l : n y ≤ n x = grind (arith, nat_tests) in (at_least-inserted (n y) x ys l up.0, rest)

  filter-inserted : (z x : X) (ys : List X) → filter (T z) (insert_by n x ys) ≡ filter (T z) (x ∷ ys)
  filter-inserted z x [] = refl
  filter-inserted z x (y ∷ ys) = go (nat_le (n x) (n y)) refl (filter-inserted z x ys)
    where
      swapped : (b c : Bool) → T z x ≡ b → T z y ≡ c → n y < n x → filter (T z) (y ∷ (x ∷ ys)) ≡ filter (T z) (x ∷ (y ∷ ys))
      swapped false c is is' l = step c is'
        where
          step : (c : Bool) → T z y ≡ c → filter (T z) (y ∷ (x ∷ ys)) ≡ filter (T z) (x ∷ (y ∷ ys))
          step true is' = yes_first z y (x ∷ ys) is' ∙ ap (λ l. y ∷ l) (no_first z x ys is) ∙ sym (yes_first z y ys is') ∙ sym (no_first z x (y ∷ ys) is)
          step false is' = no_first z y (x ∷ ys) is' ∙ no_first z x ys is ∙ sym (no_first z y ys is') ∙ sym (no_first z x (y ∷ ys) is)
      swapped true c is is' l =
          let other : T z y ≡ false = apart' (n z) (n y) (tied (n z) (n x) (n y) is l) in
          no_first z y (x ∷ ys) other ∙ yes_first z x ys is ∙ ap (λ l. x ∷ l) (sym (no_first z y ys other)) ∙ sym (yes_first z x (y ∷ ys) is)
        where
          tied : (a b c : ℕ) → same a b ≡ true → c < b → c < a
          tied a b c e l = from_tie a b c (sym (same-is a b) ∙ e) l
            where
              from_tie : (a b c : ℕ) → (not (nat_lt a b) && not (nat_lt b a)) ≡ true → c < b → c < a
              from_tie a b c e l = grind (arith, nat_tests)

      go : (b : Bool) → nat_le (n x) (n y) ≡ b → filter (T z) (insert_by n x ys) ≡ filter (T z) (x ∷ ys) → filter (T z) (if b then x ∷ y ∷ ys else y ∷ insert_by n x ys) ≡ filter (T z) (x ∷ y ∷ ys)
      go true is rest = refl
      go false is rest =
          let l : n y < n x = grind (arith, nat_tests) in
          ap (λ v. cond (T z y) (y ∷ v) v) rest ∙ swapped (T z x) (T z y) refl refl l

  pub rises-sorted : (xs : List X) → Rises (sort_by n xs)
  rises-sorted [] = tt
  rises-sorted (x ∷ xs) = rises-inserted x (sort_by n xs) (rises-sorted xs)

  pub filter-sorted : (z : X) (xs : List X) → filter (T z) (sort_by n xs) ≡ filter (T z) xs
  filter-sorted z [] = refl
  filter-sorted z (x ∷ xs) = filter-inserted z x (sort_by n xs) ∙ ap (λ v. cond (T z x) (x ∷ v) v) (filter-sorted z xs)

  -- a list in order in which ties stand as they did
  pub sorted : (xs ys : List X) → IsNonDecreasingBy n ys → ((z : X) → filter (T z) ys ≡ filter (T z) xs) → ys ≡ sort_by n xs
  sorted xs ys up ties = unique ys (sort_by n xs) (rises ys up) (rises-sorted xs) (λ z. ties z ∙ sym (filter-sorted z xs))

-- ---------- elements of another type ----------
module _ {A B : Type 0} (m : A → ℕ) (n : B → ℕ) (f : A → B) (same_number : (a : A) → n (f a) ≡ m a) where
  map-inserted : (x : A) (ys : List A) → map f (insert_by m x ys) ≡ insert_by n (f x) (map f ys)
  map-inserted x [] = refl
  map-inserted x (y ∷ ys) =
      go (nat_le (m x) (m y)) (map-inserted x ys)
      ∙ ap (λ k. if nat_le k (m y) then f x ∷ f y ∷ map f ys else f y ∷ insert_by n (f x) (map f ys)) (sym (same_number x))
      ∙ ap (λ k. if nat_le (n (f x)) k then f x ∷ f y ∷ map f ys else f y ∷ insert_by n (f x) (map f ys)) (sym (same_number y))
    where
      go : (b : Bool) → map f (insert_by m x ys) ≡ insert_by n (f x) (map f ys) → map f (if b then x ∷ y ∷ ys else y ∷ insert_by m x ys) ≡ (if b then f x ∷ f y ∷ map f ys else f y ∷ insert_by n (f x) (map f ys))
      go true rest = refl
      go false rest = ap (λ l. f y ∷ l) rest

  pub map-sorted_by : (xs : List A) → map f (sort_by m xs) ≡ sort_by n (map f xs)
  map-sorted_by [] = refl
  map-sorted_by (x ∷ xs) = map-inserted x (sort_by m xs) ∙ ap (insert_by n (f x)) (map-sorted_by xs)
