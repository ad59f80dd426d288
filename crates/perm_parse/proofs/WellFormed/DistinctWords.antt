-- The names of a program are distinct words: a name is written down only where no name so far has its bytes.
use Rattle.std.proofs.Common.{◌≡◌, ◌≢◌, ℕ, ◌<◌, List, length, get_or, position, Option, Some, None, Bool, false, refl, arith, bytes_eq}
use Rattle.std.specs.Prelude.{AllPairs}
use Rattle.std.specs.List.{position_or_len}
use Rattle.std.proofs.lemmas.Bool.Decides.{nat_tests, not_from_Decides}
use Rattle.std.proofs.lemmas.List.Quantifiers.{all_pairs_push}
use Rattle.std.proofs.lemmas.List.Sums.{fails_before_first}
use Rattle.std.proofs.lemmas.Slice.Eq.{bytes_eq-Decides}
use Rattle.perm_tree.specs.Places.{Listing}
use Rattle.perm_parse.specs.Grammar.{Classes}
use Rattle.perm_parse.specs.Meaning.{number_at, meaning, nothing_yet}
use Rattle.perm_parse.proofs.Walks.{IsKept, classes-kept}

abbrev AreDistinct : List (List ℕ) → Type 0
AreDistinct names = AllPairs (λ v w. v ≢ w) names

-- distinct words stay so where the one program becomes the other
abbrev StayDistinct : Listing → Listing → Type 0
StayDistinct s t = AreDistinct s.names → AreDistinct t.names

-- where no place passes, no element does
none-passes : {X : Type 0} (p : X → Bool) (xs : List X) (k : ℕ) (d : X) → position p xs ≡ None → k < length xs → p (get_or xs k d) ≡ false
none-passes p xs k d none lt = let at : k < position_or_len p xs = grind (arith, nat_tests) in fails_before_first p xs k d at

-- a name that has no number so far is none of the names
number_at-distinct : (name : List ℕ) (s : Listing) (o : Option ℕ) → position (λ other. bytes_eq other name) s.names ≡ o → StayDistinct s (number_at name s o).1
number_at-distinct name s (Some at) e h = h
number_at-distinct name s None e h = all_pairs_push (λ v w. v ≢ w) s.names name h (λ k d lt.
    not_from_Decides (bytes_eq (get_or s.names k d) name) (bytes_eq-Decides (get_or s.names k d) name) (none-passes (λ other. bytes_eq other name) s.names k d e lt))

distinct : IsKept StayDistinct
distinct = record {
  stays = λ s h. h;
  then = λ {s} {t} {u} f g h. g (f h);
  name = λ text t s. number_at-distinct _ s _ refl;
  expr = λ e s h. h;
  mention = λ i s h. h;
}

-- the names begin with the word `this` alone
pub meaning-words : (text : List ℕ) (tree : Classes) → AllPairs (λ v w. v ≢ w) (meaning text tree).names
meaning-words text tree = classes-kept StayDistinct distinct (λ x s h. h) (λ c s h. h) text tree nothing_yet (λ i j d lt in_range. absurd (omega arith))
