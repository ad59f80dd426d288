-- What code does in a run, with no count of rounds.
use Rattle.std.specs.Prelude.{◌≡◌, ℕ, Bool}
use Rattle.perm_tree.specs.Code.{Code, UnitCode}
use Rattle.perm_meaning.specs.Meaning.{Moment, Result, does, mean}

-- what code does at a moment, where as many rounds of loops and calls may be open as turns are left
abbrev pub whole : UnitCode → (ℕ → Bool) → Code → Moment → Result
whole u fits c m = mean u fits m.turns c m

-- the next round of a loop and the code of a method do what they do by themselves
abbrev pub Unfolds : UnitCode → (ℕ → Bool) → Type 0
Unfolds u fits = (c : Code) (m : Moment) → whole u fits c m ≡ does u fits (whole u fits) c m
