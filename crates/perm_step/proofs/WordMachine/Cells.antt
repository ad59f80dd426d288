-- The heap of words of a list: what a write and a new object leave.
use Rattle.std.proofs.Common.{◌≡◌, ◌≢◌, ℕ, zero, suc, ◌+◌, ◌<◌, ◌≤◌, List, [], ◌∷◌, ◌++◌, length, get_or, set, replicate, refl, sym, ap, ◌∙◌, subst, arith, inl, inr, eq-eqb, ne_eqb, le-leb, length-set, length-append, get_or-set_same, get_or-set_other}
use Rattle.std.specs.Prelude.{ℤ, pos, nat_eq, cond, take, FitsSigned, ◌⊎◌}
use mir.Syntax.{w64}
use Rattle.std.proofs.lemmas.Bool.{cases_eq}
use Rattle.std.proofs.lemmas.List.{length-replicate, take_more}
use Rattle.perm_tree.specs.declared.ast.Shape.{Shape}
use Rattle.perm_meaning.specs.Expressions.{clear}
use Rattle.perm_meaning.specs.Literals.{NumbersFit}
use Rattle.perm_meaning.specs.Objects.{size, length_of}
use Rattle.perm_meaning.specs.Effects.{Make}
use Rattle.perm_meaning.specs.Steps.{Found, Refused, within}
use Rattle.perm_meaning.specs.WordHeap.{Cells, word_or, write, find, after}
use Rattle.perm_meaning.specs.Words.{number_word, reference_word, words as on_words}
use Rattle.perm_step.specs.Working.{cells_of}

-- ---------- a write ----------
written_by : (ws : List ℕ) (at i w : ℕ) → at < length ws → (i ≡ at) ⊎ (i ≢ at) → word_or (nat_eq i at) w (get_or ws i 0) ≡ get_or (set ws at w) i 0
written_by ws at i w there (inl same) =
    ap (λ b. word_or b w (get_or ws i 0)) (eq-eqb i at same) ∙ sym (get_or-set_same ws at w 0 there) ∙ ap (λ k. get_or (set ws at w) k 0) (sym same)
written_by ws at i w there (inr other) = ap (λ b. word_or b w (get_or ws i 0)) (ne_eqb i at other) ∙ sym (get_or-set_other ws at i w 0 other)

-- a word that is given is written
pub write_cells : (ws : List ℕ) (at w : ℕ) → at < length ws → write (cells_of ws) at w ≡ cells_of (set ws at w)
write_cells ws at w there =
    let words : (i : ℕ) → word_or (nat_eq i at) w (get_or ws i 0) ≡ get_or (set ws at w) i 0 = λ i. written_by ws at i w there (cases_eq i at) in
    let count = sym (length-set ws at w) in
    λ j. record { word = λ i. words i j; given = count j }

-- ---------- a new object ----------
-- words that are 0 look as words that aren't given
pub more_words : (ws : List ℕ) (n i : ℕ) → get_or (ws ++ replicate n 0) i 0 ≡ get_or ws i 0
more_words [] zero i = refl
more_words [] (suc n) zero = refl
more_words [] (suc n) (suc i) = more_words [] n i
more_words (x ∷ ws) n zero = refl
more_words (x ∷ ws) n (suc i) = more_words ws n i

-- the heap with so many words more
pub more_cells : (ws : List ℕ) (n : ℕ) → ◌≡◌ {A = Cells} (record { word = λ i. get_or ws i 0; given = length ws + n }) (cells_of (ws ++ replicate n 0))
more_cells ws n =
    let words : (i : ℕ) → get_or ws i 0 ≡ get_or (ws ++ replicate n 0) i 0 = λ i. sym (more_words ws n i) in
    let count : length ws + n ≡ length (ws ++ replicate n 0) = omega (arith, length-append ws (replicate n 0), length-replicate {A = ℕ} n 0) in
    λ j. record { word = λ i. words i j; given = count j }

-- an object that fits is found behind the words that were given
pub make_found : (limit : ℕ) (ws : List ℕ) (shape : Shape) (n : ℕ) → length ws + size n ≤ limit → find (within limit) (Make tt shape n) (cells_of ws) ≡ Found (reference_word (length ws) (length_of shape n))
make_found limit ws shape n room = ap (λ b. cond b (Found (reference_word (length ws) (length_of shape n))) Refused) (le-leb (length ws + size n) limit room)

-- its words are 0
pub make_after : (limit : ℕ) (ws : List ℕ) (shape : Shape) (n : ℕ) → length ws + size n ≤ limit → after (within limit) (Make tt shape n) (cells_of ws) ≡ cells_of (ws ++ replicate (size n) 0)
make_after limit ws shape n room =
    let alone : size n ≤ limit = omega arith in
    ap (λ b. let c : Cells = record { word = λ i. get_or ws i 0; given = cond b (length ws + size n) (length ws) } in c) (le-leb (size n) limit alone) ∙ more_cells ws (size n)

-- ---------- variables ----------
-- a word that has lost its value stays
pub clear_same : (vs : List ℕ) (y : ℕ) → clear on_words vs y ≡ vs
clear_same [] y = refl
clear_same (v ∷ vs) zero = refl
clear_same (v ∷ vs) (suc y) = ap (λ rest. v ∷ rest) (clear_same vs y)

-- ---------- numbers ----------
-- one more number is written
pub written_more : (ws : List ℕ) (ns : List ℤ) (at w : ℕ) → at < length ws → w ≡ number_word (get_or ns at (pos 0)) → ((k : ℕ) → k < at → get_or ws k 0 ≡ number_word (get_or ns k (pos 0)))
    → (k : ℕ) → k < at + 1 → get_or (set ws at w) k 0 ≡ number_word (get_or ns k (pos 0))
written_more ws ns at w inside is before k below = by (cases_eq k at)
  where
    by : (k ≡ at) ⊎ (k ≢ at) → get_or (set ws at w) k 0 ≡ number_word (get_or ns k (pos 0))
    by (inl same) = ap (λ i. get_or (set ws at w) i 0) same ∙ get_or-set_same ws at w 0 inside ∙ is ∙ ap (λ i. number_word (get_or ns i (pos 0))) (sym same)
    by (inr other) = get_or-set_other ws at k w 0 other ∙ before k (omega arith)

-- the words behind stay
pub others_more : (ws first : List ℕ) (at w : ℕ) → ((k : ℕ) → at ≤ k → get_or ws k 0 ≡ get_or first k 0) → (k : ℕ) → at + 1 ≤ k → get_or (set ws at w) k 0 ≡ get_or first k 0
others_more ws first at w before k behind = get_or-set_other ws at k w 0 (λ e. absurd (omega arith)) ∙ before k (omega arith)

fits_push : (ns : List ℤ) (n : ℤ) → NumbersFit ns → FitsSigned w64 n → NumbersFit (ns ++ n ∷ [])
fits_push [] n fits fit = (fit, tt)
fits_push (m ∷ ns) n fits fit = (fits.0, fits_push ns n fits.1 fit)

-- one more number of 64 bits
pub fits_more : (ns : List ℤ) (at : ℕ) → at < length ns → FitsSigned w64 (get_or ns at (pos 0)) → NumbersFit (take at ns) → NumbersFit (take (at + 1) ns)
fits_more ns at inside fit fits = subst NumbersFit (sym (take_more ns at (pos 0) inside)) (fits_push (take at ns) (get_or ns at (pos 0)) fits fit)
