-- The picture stands too where turns or words run out in the midst of calls, recover blocks and pars, by computation.
use Rattle.std.specs.Prelude.{◌≡◌, ℕ, ◌+◌, true, List, [], ◌∷◌, refl}
use Rattle.perm_tree.proofs.Builder.{Source}
use Rattle.perm_core.proofs.Examples.RegionPrograms.{moving_regions, failing_regions}
use Rattle.perm_core.proofs.Examples.Schedules.{Policy, LeftFirst, RightFirst, InTurn}
use Rattle.perm_core.proofs.Examples.PictureTest.{first_bad}

-- how many states are without a picture in runs with so many turns each
abbrev short_of_turns : Source → Policy → List ℕ → ℕ
short_of_turns s p [] = 0
short_of_turns s p (t ∷ ts) = first_bad s 200 [] t p + short_of_turns s p ts

-- the same in heaps of so many words each
abbrev short_of_words : Source → Policy → List ℕ → ℕ
short_of_words s p [] = 0
short_of_words s p (n ∷ ns) = first_bad s n [] 1000 p + short_of_words s p ns

moving-few-turns : short_of_turns moving_regions (InTurn true) (5 ∷ 9 ∷ 13 ∷ 17 ∷ 25 ∷ 27 ∷ 36 ∷ 41 ∷ 53 ∷ 60 ∷ []) ≡ 0
moving-few-turns = refl

moving-few-words : short_of_words moving_regions RightFirst (7 ∷ 12 ∷ 22 ∷ 27 ∷ 37 ∷ 42 ∷ 47 ∷ []) ≡ 0
moving-few-words = refl

failing-few-turns : short_of_turns failing_regions LeftFirst (6 ∷ 8 ∷ 10 ∷ 12 ∷ 15 ∷ 17 ∷ 20 ∷ 24 ∷ 30 ∷ []) ≡ 0
failing-few-turns = refl

failing-few-words : short_of_words failing_regions RightFirst (7 ∷ 12 ∷ 16 ∷ []) ≡ 0
failing-few-words = refl
