-- Lists in which each entry is made of an element and of the entries before it.
use Rattle.std.specs.Prelude.{List, [], ◌∷◌, ◌++◌}

-- the entries so far, and behind them one for each element
abbrev pub entries_from : {X A : Type 0} → (List A → X → A) → List A → List X → List A
entries_from make entries [] = entries
entries_from make entries (x ∷ xs) = entries_from make (entries ++ make entries x ∷ []) xs

-- one entry for each element
abbrev pub entries_of : {X A : Type 0} → (List A → X → A) → List X → List A
entries_of make xs = entries_from make [] xs
