-- What one thread holds that runs left sides first: the branch that it runs, and the sides that are kept aside round it, the innermost first.
use Rattle.std.specs.Prelude.{◌≡◌, List, [], ◌∷◌, Some}
use Rattle.perm_meaning.specs.Machine.{Branch, Task, Leaf, Fork, Blocks, Final, final}
use Rattle.perm_meaning.specs.Steps.{Lone, Run, KeptRight, KeptLeft}

-- the waiting parent of a par, its blocks, and the side that is kept aside: the right one while the left one runs, or the left one, which has ended, while the right one runs
pub data Aside (V G : Type 0) : Type 0 where
  RightAside : (b : Branch V G) (p : Blocks) (r : Branch V G) → Aside V G
  LeftAside : (b : Branch V G) (p : Blocks) (l : Branch V G) → Aside V G

module _ {V G : Type 0} where
  -- what stands within these sides, as one holder has it
  abbrev pub around : Lone V G → List (Aside V G) → Lone V G
  around x [] = x
  around x (RightAside b p r ∷ ks) = around (KeptRight b p x r) ks
  around x (LeftAside b p l ∷ ks) = around (KeptLeft b p l x) ks

  -- a holder that runs this branch
  abbrev pub held : Branch V G → List (Aside V G) → Lone V G
  held b ks = around (Run b) ks

  -- a tree within these sides
  abbrev pub tree_around : Task V G → List (Aside V G) → Task V G
  tree_around t [] = t
  tree_around t (RightAside b p r ∷ ks) = tree_around (Fork b p t (Leaf r)) ks
  tree_around t (LeftAside b p l ∷ ks) = tree_around (Fork b p (Leaf l) t) ks

  -- the left sides that are kept aside have ended
  abbrev pub AreEnded : List (Aside V G) → Type 0
  AreEnded [] = Unit {0}
  AreEnded (RightAside b p r ∷ ks) = AreEnded ks
  AreEnded (LeftAside b p l ∷ ks) = ((f : Final V) × (final {G = G} (Leaf l) ≡ Some f)) × AreEnded ks
