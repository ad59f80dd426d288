-- Words that the rules speak of, by their bytes.
use Rattle.std.specs.Prelude.{ℕ, Bool, List, [], ◌∷◌, get_or, bytes_eq}

-- `this`
abbrev pub this_word : List ℕ
this_word = 116 ∷ 104 ∷ 105 ∷ 115 ∷ []

-- `Main`
abbrev pub main_word : List ℕ
main_word = 77 ∷ 97 ∷ 105 ∷ 110 ∷ []

-- `Run`
abbrev pub run_word : List ℕ
run_word = 82 ∷ 117 ∷ 110 ∷ []

-- `Length`
abbrev pub length_word : List ℕ
length_word = 76 ∷ 101 ∷ 110 ∷ 103 ∷ 116 ∷ 104 ∷ []

-- the name with number n is this word
abbrev pub is_word : List (List ℕ) → List ℕ → ℕ → Bool
is_word names word n = bytes_eq (get_or names n []) word
