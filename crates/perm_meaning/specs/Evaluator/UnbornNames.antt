-- The names that no object has yet.
use Rattle.std.specs.Prelude.{◌≡◌, ℕ, ◌≤◌, ◌⊎◌, ◌∷◌, ◌++◌, None}
use Rattle.perm_meaning.specs.Names.{Side, Path, Name, Mark}
use Rattle.perm_meaning.specs.Objects.{Objects}

-- the path leads through a side of the par with this number of the branch with this path
abbrev pub LeadsThrough : Path → ℕ → Side → Path → Type 0
LeadsThrough by j s path = (before : Path) × (by ≡ before ++ (j, s) ∷ path)

-- the name is one that a branch with this mark has still to give, or a side of a par that it has still to begin
abbrev pub IsAhead : Mark → Name → Type 0
IsAhead mark name = ((name.by ≡ mark.path) × (mark.made ≤ name.count)) ⊎ ((j : ℕ) × (s : Side) × LeadsThrough name.by j s mark.path × (mark.pars ≤ j))

-- no object has such a name
abbrev pub AreUnborn : Objects Name → Mark → Type 0
AreUnborn objects mark = (name : Name) → IsAhead mark name → objects name ≡ None
