-- The words of the opening, and the branch that is about to run.
use Rattle.std.proofs.Common.{◌≡◌, ℕ, zero, suc, ◌+◌, ◌<◌, ◌≤◌, List, [], ◌∷◌, ◌++◌, length, get_or, replicate, refl, sym, ap, ◌∙◌, inl, inr, Vec, subst, arith, length-append, length-set}
use Rattle.std.specs.Prelude.{ℤ, pos, ◌⊎◌, slice_set}
use Rattle.std.specs.Vec.{with_items}
use Rattle.std.proofs.lemmas.Bool.{cases_lt}
use Rattle.std.proofs.lemmas.List.{length-replicate, with_items_is}
use Rattle.perm_tree.specs.declared.bodies.Bodies.{Bodies}
use Rattle.perm_meaning.specs.Objects.{size}
use Rattle.perm_meaning.specs.WordHeap.{opening_word, input_word, root_word}
use Rattle.perm_meaning.specs.Words.{number_word, reference_word}
use Rattle.perm_meaning.proofs.OnWords.OpeningShown.{past-input}
use Rattle.perm_step.specs.declared.ask.Ask.TheVariants as asks
use Rattle.perm_step.specs.Heaps.{Answers, Heaped, IsWritten}
use Rattle.perm_step.specs.Opens.{IsEntered, IsOpened}
use Rattle.perm_step.specs.Working.{Working}
use Rattle.perm_step.proofs.WordMachine.Cells.{more_words}

-- the words of the input are those of its numbers
opening-at : (input : List ℤ) (i : ℕ) → i < length input → opening_word input i ≡ number_word (get_or input i (pos 0))
opening-at [] i inside = absurd (omega arith)
opening-at (n ∷ ns) zero inside = refl
opening-at (n ∷ ns) (suc i) inside = opening-at ns i (omega arith)

-- a list of zeros has a 0 at each place
zeros : (n i : ℕ) → ◌≡◌ {A = ℕ} (get_or (replicate n 0) i 0) 0
zeros n i = more_words [] n i

-- on an empty heap the input array is made, and its numbers are written; behind it the object of Main is made
pub record IsMade (fields : ℕ) (input : List ℤ) (array root : ℕ) (old made written last : Heaped) : Type 0 where
  pub fresh : old.words ≡ []
  pub making : Answers (asks.Make (length input) (length input)) old array made
  pub writing : IsWritten input made written
  pub rooting : Answers (asks.Make fields 0) written root last

module _ (fields : ℕ) (input : List ℤ) (array root : ℕ) (old made written last : Heaped) (x : IsMade fields input array root old made written last) where
  -- the words of the input array are 0 at first
  made-words : made.words ≡ replicate (size (length input)) 0
  made-words = ap (λ (h : Heaped). h.words) x.making.2 ∙ ap (λ (ws : List ℕ). ws ++ replicate (size (length input)) 0) x.fresh

  -- as many are there when its numbers are written
  written-count : length written.words ≡ size (length input)
  written-count = x.writing.given ∙ ap length made-words ∙ length-replicate {A = ℕ} (size (length input)) 0

  -- the object of Main comes behind them
  last-words : last.words ≡ written.words ++ replicate (size fields) 0
  last-words = ap (λ (h : Heaped). h.words) x.rooting.2

  -- the heap has the same limit till then
  made-limit : written.limit ≡ old.limit
  made-limit = x.writing.limit ∙ ap (λ (h : Heaped). h.limit) x.making.2

  -- the word of the input array
  pub made-array : array ≡ input_word input
  made-array = x.making.0 ∙ ap (λ (ws : List ℕ). reference_word (length ws) (length input)) x.fresh

  -- the word of the object of Main
  pub made-root : root ≡ root_word input
  made-root = x.rooting.0 ∙ ap (λ n. reference_word n 0) written-count

  -- so many words are given
  pub made-given : length last.words ≡ size (length input) + size fields
  made-given = ap length last-words ∙ omega (arith, length-append written.words (replicate (size fields) 0), length-replicate {A = ℕ} (size fields) 0, written-count)

  -- the heap holds them
  pub made-fits : size (length input) + size fields ≤ old.limit
  made-fits = let fits = x.rooting.1 in omega (arith, fits, written-count, made-limit)

  -- and has the same limit
  pub made-same : last.limit ≡ old.limit
  made-same = ap (λ (h : Heaped). h.limit) x.rooting.2 ∙ made-limit

  -- they are the words of the opening
  pub made-opening : (i : ℕ) → get_or last.words i 0 ≡ opening_word input i
  made-opening i = ap (λ (ws : List ℕ). get_or ws i 0) last-words ∙ more_words written.words (size fields) i ∙ by (cases_lt i (length input))
    where
      by : (i < length input) ⊎ (length input ≤ i) → get_or written.words i 0 ≡ opening_word input i
      by (inl inside) = x.writing.first i inside ∙ sym (opening-at input i inside)
      by (inr behind) = x.writing.others i behind ∙ ap (λ (ws : List ℕ). get_or ws i 0) made-words ∙ zeros (size (length input)) i ∙ sym (past-input input i behind)

-- a set of variables in which one is written
pub written-variable : {Z : Type 0} (v : Vec ℕ Z) (vs ws : List ℕ) (at w : ℕ) → v.items ≡ vs → ws ≡ slice_set v.items at w → (with_items v ws).items ≡ slice_set vs at w
written-variable v vs ws at w items written = with_items_is v ws (ap length written ∙ length-set v.items at w ∙ sym v.ok.0) ∙ written ∙ ap (λ (xs : List ℕ). slice_set xs at w) items

-- so a run is opened
pub made-opened : (b : Bodies) (input : List ℤ) (turns array root : ℕ) (old made written last : Heaped) (c : Working) → IsMade b.fields input array root old made written last → IsEntered b root array turns c → IsOpened b input turns old.limit c last
made-opened b input turns array root old made written last c x enters = record {
  entered = subst (λ w. IsEntered b w (input_word input) turns c) (made-root b.fields input array root old made written last x)
      (subst (λ w. IsEntered b root w turns c) (made-array b.fields input array root old made written last x) enters);
  words = made-opening b.fields input array root old made written last x;
  given = made-given b.fields input array root old made written last x;
  fits = made-fits b.fields input array root old made written last x;
  numbers = x.writing.fit;
  same = made-same b.fields input array root old made written last x;
}
