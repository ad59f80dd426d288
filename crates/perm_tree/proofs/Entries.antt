-- What is read from a list in which each entry is made of those before it.
use Rattle.std.proofs.Common.{◌≡◌, ℕ, zero, suc, ◌+◌, ◌<◌, List, [], ◌∷◌, ◌++◌, length, Some, refl, sym, ap, arith, append_assoc, append-nil, length-append, add-zero, zero-add, ◌∙◌, subst}
use Rattle.std.specs.Prelude.{slice_get, get_or}
use Rattle.std.proofs.Math.ListN.{get_or-append}
use Rattle.std.proofs.Math.Seq.{get_or-append_seam}
use Rattle.perm_tree.specs.Entries.{entries_from, entries_of}

module _ {X A : Type 0} (make : List A → X → A) where
  -- there is one entry for each element
  pub length-entries_from : (before : List A) (xs : List X) → length (entries_from make before xs) ≡ length before + length xs
  length-entries_from before [] = omega arith
  length-entries_from before (x ∷ xs) =
      omega (arith, length-entries_from (before ++ make before x ∷ []) xs, length-append before (make before x ∷ []))

  pub length-entries_of : (xs : List X) → length (entries_of make xs) ≡ length xs
  length-entries_of xs = omega (arith, length-entries_from [] xs)

  -- the entries of two lists one after the other
  pub entries_from-append : (before : List A) (xs ys : List X) → entries_from make before (xs ++ ys) ≡ entries_from make (entries_from make before xs) ys
  entries_from-append before [] ys = refl
  entries_from-append before (x ∷ xs) ys = entries_from-append (before ++ make before x ∷ []) xs ys

  -- what is there stays, and the rest stands behind it
  pub stays : (before : List A) (xs : List X) → (rest : List A) × (entries_from make before xs ≡ before ++ rest)
  stays before [] = ([], sym (append-nil before))
  stays before (x ∷ xs) = more (stays (before ++ make before x ∷ []) xs)
    where
      more : (rest : List A) × (entries_from make (before ++ make before x ∷ []) xs ≡ (before ++ make before x ∷ []) ++ rest) → (rest : List A) × (entries_from make before (x ∷ xs) ≡ before ++ rest)
      more (rest, e) = (make before x ∷ rest, rw (e, append_assoc) refl)

  -- an entry of the whole is that of each front that holds it
  pub entries_of-front : (xs ys : List X) (at : ℕ) (d : A) → at < length xs → get_or (entries_of make (xs ++ ys)) at d ≡ get_or (entries_of make xs) at d
  entries_of-front xs ys at d within = read (stays (entries_of make xs) ys)
    where
      read : (rest : List A) × (entries_from make (entries_of make xs) ys ≡ entries_of make xs ++ rest) → get_or (entries_of make (xs ++ ys)) at d ≡ get_or (entries_of make xs) at d
      read (rest, e) = rw (entries_from-append [] xs ys, e) (get_or-append (entries_of make xs) rest d at (omega (arith, length-entries_of xs)))

  -- the element at a place makes of the entries before it what it makes of more
  abbrev pub ReadsBefore : ℕ → X → Type 0
  ReadsBefore at x = (before after : List A) → length before ≡ at → make (before ++ after) x ≡ make before x

  seam : (before : List A) (y : X) (ys : List X) → (rest : List A) × (entries_from make before (y ∷ ys) ≡ before ++ make before y ∷ rest)
  seam before y ys = moved (stays (before ++ make before y ∷ []) ys)
    where
      moved : (rest : List A) × (entries_from make (before ++ make before y ∷ []) ys ≡ (before ++ make before y ∷ []) ++ rest)
          → (rest : List A) × (entries_from make before (y ∷ ys) ≡ before ++ make before y ∷ rest)
      moved (rest, e) = (rest, e ∙ append_assoc before (make before y ∷ []) rest)

  from_place : (before : List A) (xs : List X) (k : ℕ) (x : X) (d : A) → slice_get xs k ≡ Some x → ReadsBefore (length before + k) x
      → get_or (entries_from make before xs) (length before + k) d ≡ make (entries_from make before xs) x
  from_place before [] k x d here reads = absurd (let no : ⊥ = cc here in no)
  from_place before (y ∷ ys) zero x d here reads = at_head (seam before y ys)
    where
      at_head : (rest : List A) × (entries_from make before (y ∷ ys) ≡ before ++ make before y ∷ rest)
          → get_or (entries_from make before (y ∷ ys)) (length before + zero) d ≡ make (entries_from make before (y ∷ ys)) x
      at_head (rest, e) =
          let same : y ≡ x = cc here in
          let W = before ++ make before y ∷ rest in
          let read : get_or W (length before + zero) d ≡ make before y = subst (λ n. get_or W n d ≡ make before y) (sym (add-zero (length before))) (get_or-append_seam before (make before y) rest d) in
          let made : make W x ≡ make before x = reads before (make before y ∷ rest) (sym (add-zero (length before))) in
          subst (λ (V : List A). get_or V (length before + zero) d ≡ make V x) (sym e) (read ∙ ap (make before) same ∙ sym made)
  from_place before (y ∷ ys) (suc k) x d here reads =
      let place : length (before ++ make before y ∷ []) + k ≡ length before + suc k = omega (arith, length-append before (make before y ∷ [])) in
      subst
      (λ n. get_or (entries_from make before (y ∷ ys)) n d ≡ make (entries_from make before (y ∷ ys)) x)
      place
      (from_place (before ++ make before y ∷ []) ys k x d here (subst (λ n. ReadsBefore n x) (sym place) reads))

  -- the entry at a place is what the element there makes of all entries
  pub entries_of-at : (xs : List X) (at : ℕ) (x : X) (d : A) → slice_get xs at ≡ Some x → ReadsBefore at x → get_or (entries_of make xs) at d ≡ make (entries_of make xs) x
  entries_of-at xs at x d here reads =
      let place : zero + at ≡ at = zero-add at in
      subst (λ n. get_or (entries_of make xs) n d ≡ make (entries_of make xs) x) place (from_place [] xs at x d here (subst (λ n. ReadsBefore n x) (sym place) reads))
