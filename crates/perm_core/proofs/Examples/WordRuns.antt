-- Runs of the core on words come to what those on names do, by computation.
use Rattle.std.specs.Prelude.{◌≡◌, ℕ, zero, suc, Bool, true, false, ℤ, pos, List, [], ◌∷◌, map, Option, Some, None, slice_get, find, is_some, refl}
use Rattle.perm_tree.specs.Code.{UnitCode, Routine}
use Rattle.perm_tree.proofs.Builder.{Source, text_of, place_in}
use Rattle.perm_tree.proofs.Programs.{p2, p12}
use Rattle.perm_tree.proofs.ParPrograms.{p3, p4, p11}
use Rattle.perm_meaning.specs.Machine.{Leaf, Fork, Way, Here, GoL, GoR, Failure, Trapped, NoTurns, Final, GaveBack, Failed, final}
use Rattle.perm_meaning.proofs.Examples.Shown.{code}
use Rattle.perm_meaning.specs.WordHeap.{Task, State, opening_state}
use Rattle.perm_core.specs.WordCore.{step}
use Rattle.perm_core.proofs.Examples.RegionPrograms.{moving_regions, failing_regions}
use Rattle.perm_core.proofs.Examples.Schedules.{Policy, LeftFirst, RightFirst, InTurn, prefers_left, next_policy, in_order}

abbrev ways : Bool → Task → List Way
ways left (Leaf b) = Here ∷ []
ways left (Fork b p l r) = in_order left (map GoL (ways left l)) (map GoR (ways left r))

abbrev go_on : Option State → (State → State) → State → State
go_on None go s = s
go_on (Some t) go s = go t

abbrev after_way : UnitCode → ℕ → State → Option Way → Option State
after_way u limit s None = None
after_way u limit s (Some w) = step u limit s w

abbrev drive : UnitCode → ℕ → Policy → ℕ → State → State
drive u limit p zero s = s
drive u limit p (suc n) s = go_on (after_way u limit s (find (λ w. is_some (step u limit s w)) (ways (prefers_left p) s.task))) (λ t. drive u limit (next_policy p) n t) s

-- the end of a run on words: the word that it gives back, or how it failed; the printed numbers, the turns left and the number of words given
data WordEnd : Type 0 where
  Gives : (word : ℕ) (printed : List ℤ) (left given : ℕ) → WordEnd
  Fails : (e : Failure) (printed : List ℤ) (left given : ℕ) → WordEnd
  NotEnded : WordEnd

abbrev end_of : Option (Final ℕ) → ℕ → WordEnd
end_of (Some (GaveBack w left printed)) given = Gives w printed left given
end_of (Some (Failed e left printed)) given = Fails e printed left given
end_of _ given = NotEnded

abbrev ended : State → WordEnd
ended s = end_of (final s.task) s.heap.given

abbrev from_routine : {A : Type 0} → UnitCode → List ℤ → ℕ → ℕ → Policy → Option Routine → (State → A) → A → A
from_routine u input turns limit p None show other = other
from_routine u input turns limit p (Some r) show other = show (drive u limit p 1000 (opening_state u input turns r))

abbrev word_run : Source → List ℤ → ℕ → ℕ → Policy → WordEnd
word_run s input turns limit p = from_routine (code s) input turns limit p (slice_get (code s).routines (code s).run) ended NotEnded

-- the words that a run leaves, at the places below n
abbrev words_from : ℕ → ℕ → (ℕ → ℕ) → List ℕ
words_from zero i word = []
words_from (suc n) i word = word i ∷ words_from n (suc i) word

abbrev left_words : Source → List ℤ → ℕ → Policy → List ℕ
left_words s input n p = from_routine (code s) input 1000 1000 p (slice_get (code s).routines (code s).run) (λ t. words_from n 0 t.heap.word) []

list-summed : word_run p2 (pos 5 ∷ pos 6 ∷ pos 7 ∷ []) 100 100 LeftFirst ≡ Gives 18 (pos 18 ∷ []) 52 10
list-summed = refl

child-bumped : word_run p4 [] 100 100 RightFirst ≡ Gives 0 (pos 1 ∷ []) 87 4
child-bumped = refl

six-turns : word_run p11 [] 6 100 (InTurn true) ≡ Fails NoTurns (pos 3 ∷ []) 0 2
six-turns = refl

tree-summed : word_run (p3 1) (pos 7 ∷ pos 8 ∷ []) 100 100 (InTurn false) ≡ Gives 0 (pos 15 ∷ []) 50 12
tree-summed = refl

-- the empty input, Main, the leaf, and the two objects of the ring
ring-words : left_words p12 [] 7 LeftFirst ≡ 0 ∷ 4 ∷ 9 ∷ 6 ∷ 3 ∷ 4 ∷ 3 ∷ []
ring-words = refl

moving-left : word_run moving_regions [] 1000 200 LeftFirst ≡ Gives 4 [] 930 57
moving-left = refl

moving-in-turn : word_run moving_regions [] 1000 200 (InTurn false) ≡ Gives 4 [] 930 57
moving-in-turn = refl

-- the line and the column of the trap in which a run on words ends, and the turns left
abbrev trap_place : Source → WordEnd → (ℕ × ℕ) × ℕ
trap_place s (Fails (Trapped k at) printed left given) = (place_in (text_of s) at.start, left)
trap_place s _ = ((0, 0), 0)

failing-right : trap_place failing_regions (word_run failing_regions [] 1000 200 RightFirst) ≡ ((54, 7), 978)
failing-right = refl
