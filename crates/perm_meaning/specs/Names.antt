-- The names of objects: the branch that made an object, and how many it had made before. They don't depend on the order of events.
use Rattle.std.specs.Prelude.{ℕ, suc, Bool, true, false, ◌&&◌, nat_eq, List, [], ◌∷◌}

-- a side of a par
pub data Side : Type 0 where
  OnLeft : Side
  OnRight : Side

-- where a branch stands, innermost par first: the number of the par within the branch round it, and the side
abbrev pub Path : Type 0
Path = List (ℕ × Side)

-- the path of the branch that made an object, and how many objects that branch had made before
pub record Name : Type 0 where
  pub by : Path
  pub count : ℕ

-- what a branch bears to give names: its path, how many objects it has made, and how many pars it has begun
pub record Mark : Type 0 where
  pub path : Path
  pub made : ℕ
  pub pars : ℕ

-- the name of the next object of a branch
abbrev pub next_name : Mark → Name
next_name m = record { by = m.path; count = m.made }

-- the mark of a side of the next par
abbrev pub side_mark : Side → Mark → Mark
side_mark s m = record { path = (m.pars, s) ∷ m.path; made = 0; pars = 0 }

-- the mark of a branch that has begun one par more
abbrev pub after_par : Mark → Mark
after_par m = record m { pars = suc m.pars }

-- the mark of a branch that has made one object more
abbrev pub after_object : Mark → Mark
after_object m = record m { made = suc m.made }

-- ---------- equality ----------
-- two sides are one
abbrev pub same_side : Side → Side → Bool
same_side OnLeft OnLeft = true
same_side OnRight OnRight = true
same_side _ _ = false

-- two paths are one
abbrev pub same_path : Path → Path → Bool
same_path [] [] = true
same_path (a ∷ p) (b ∷ q) = (nat_eq a.0 b.0 && same_side a.1 b.1) && same_path p q
same_path _ _ = false

-- two names are one
abbrev pub same_name : Name → Name → Bool
same_name a b = nat_eq a.count b.count && same_path a.by b.by

-- ---------- the two objects of the opening ----------
-- the input array and the object of Main are the first two objects of the first branch
abbrev pub input_name : Name
input_name = record { by = []; count = 0 }

-- the name of the object of Main
abbrev pub root_name : Name
root_name = record { by = []; count = 1 }

-- the mark of the first branch, which has made these two
abbrev pub root_mark : Mark
root_mark = record { path = []; made = 2; pars = 0 }
