-- The names that a branch, and those that wait for it, have still to give.
use Rattle.std.specs.Prelude.{◌≡◌, List, [], ◌∷◌}
use Rattle.perm_meaning.specs.Names.{Mark, Name, Side, OnLeft, OnRight, after_par, side_mark}
use Rattle.perm_meaning.specs.Objects.{Objects}
use Rattle.perm_meaning.specs.Evaluator.UnbornNames.{AreUnborn}
use Rattle.perm_meaning.specs.Evaluator.Waits.{Waiting, ForBlock, ForRecover, ForCall, ForLeft, ForRight}

-- the branch is a side of the next par of this one
abbrev pub IsSideOf : Side → Mark → Mark → Type 0
IsSideOf s mark parent = mark.path ≡ (parent.pars, s) ∷ parent.path

-- no object has a name that the branch with this mark has still to give, nor one of those that wait for it
abbrev pub AreNew : Objects Name → Mark → List Waiting → Type 0
AreNew objects mark [] = AreUnborn objects mark
AreNew objects mark (ForBlock own rest ∷ ws) = AreNew objects mark ws
AreNew objects mark (ForRecover own rest ∷ ws) = AreNew objects mark ws
AreNew objects mark (ForCall l into rest ∷ ws) = AreNew objects mark ws
AreNew objects mark (ForLeft p m rest ∷ ws) = AreUnborn objects mark × IsSideOf OnLeft mark m.own.mark × AreUnborn objects (side_mark OnRight m.own.mark) × AreNew objects (after_par m.own.mark) ws
AreNew objects mark (ForRight p m x rest ∷ ws) = AreUnborn objects mark × IsSideOf OnRight mark m.own.mark × AreNew objects (after_par m.own.mark) ws
