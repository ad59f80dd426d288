-- How the branches of a tree are held: each holder has one piece, and the numbers of the waiting parents tie the pieces to each other. No holder needs the tree.
use Rattle.std.specs.Prelude.{◌≡◌, ℕ, ◌+◌, nat_eq, List, [], ◌∷◌, ◌++◌, Option, Some, None}
use Rattle.perm_meaning.specs.Machine.{Branch, Task, Leaf, Fork, Blocks, Way, Here, GoL, GoR}
use Rattle.perm_meaning.specs.Steps.{Lone, Run, KeptRight, KeptLeft, lone_task, AreOver}
use Rattle.perm_core.specs.Bag.{IsDistinct, one_if, times}

-- ---------- stems ----------
-- a waiting parent with the blocks of its par, and its number if it bears one
pub record Parent (V G : Type 0) : Type 0 where
  pub branch : Branch V G
  pub blocks : Blocks
  pub number : Option ℕ

-- where a stem ends: at the root, or on the right side of a waiting parent, by that one's number if it bears one
pub data Foot : Type 0 where
  AtRoot : Foot
  OnRightSide : (number : Option ℕ) → Foot

-- the branch of a leaf with the waiting parents from which left sides alone lead to it, the innermost first
pub record Stem (V G : Type 0) : Type 0 where
  pub leaf : Branch V G
  pub parents : List (Parent V G)
  pub foot : Foot

-- ---------- pieces ----------
-- a waiting parent that bears a number
pub record Numbered (V G : Type 0) : Type 0 where
  pub branch : Branch V G
  pub blocks : Blocks
  pub number : ℕ

-- what one holder has: where its stem ends, the numbered parents from which left sides alone lead to the rest, innermost first, and the rest, in which each parent has a side kept aside
pub record Piece (V G : Type 0) : Type 0 where
  pub foot : Foot
  pub parents : List (Numbered V G)
  pub own : Lone V G

module _ {V G : Type 0} where
  -- a waiting parent one of whose sides is kept aside
  abbrev pub without_number : Branch V G → Blocks → Parent V G
  without_number b p = record { branch = b; blocks = p; number = None }

  -- a waiting parent that bears its number
  abbrev pub with_number : Numbered V G → Parent V G
  with_number w = record { branch = w.branch; blocks = w.blocks; number = Some w.number }

  -- the same of each of a list
  abbrev pub with_numbers : List (Numbered V G) → List (Parent V G)
  with_numbers [] = []
  with_numbers (w ∷ ws) = with_number w ∷ with_numbers ws

  -- the stem of a leaf below these parents
  abbrev pub stem : Branch V G → List (Parent V G) → Foot → Stem V G
  stem b parents foot = record { leaf = b; parents = parents; foot = foot }

  -- the stem that runs, below these parents
  abbrev pub running_from : List (Parent V G) → Foot → Lone V G → Stem V G
  running_from parents foot (Run b) = stem b parents foot
  running_from parents foot (KeptRight b p l r) = running_from (without_number b p ∷ parents) foot l
  running_from parents foot (KeptLeft b p l r) = running_from [] (OnRightSide None) r

  -- the stems that are kept aside, below these parents
  abbrev pub aside_from : List (Parent V G) → Foot → Lone V G → List (Stem V G)
  aside_from parents foot (Run b) = []
  aside_from parents foot (KeptRight b p l r) = stem r [] (OnRightSide None) ∷ aside_from (without_number b p ∷ parents) foot l
  aside_from parents foot (KeptLeft b p l r) = stem l (without_number b p ∷ parents) foot ∷ aside_from [] (OnRightSide None) r

  -- the stem that the holder runs
  abbrev pub running : Piece V G → Stem V G
  running x = running_from (with_numbers x.parents) x.foot x.own

  -- the stems that it keeps aside, the innermost last
  abbrev pub aside : Piece V G → List (Stem V G)
  aside x = aside_from (with_numbers x.parents) x.foot x.own

-- ---------- numbered trees ----------
-- a tree in which each waiting parent bears a number or has a side kept aside. Below one without a number none bears one
pub data NumberedTree (V G : Type 0) : Type 0 where
  One : (x : Lone V G) → NumberedTree V G
  Two : (w : Numbered V G) (l r : NumberedTree V G) → NumberedTree V G

module _ {V G : Type 0} where
  -- the tree itself
  abbrev pub held_task : NumberedTree V G → Task V G
  held_task (One x) = lone_task x
  held_task (Two w l r) = Fork w.branch w.blocks (held_task l) (held_task r)

  -- the pieces of a numbered tree below these parents
  abbrev pub cut : Foot → List (Numbered V G) → NumberedTree V G → List (Piece V G)
  cut foot parents (One x) = record { foot = foot; parents = parents; own = x } ∷ []
  cut foot parents (Two w l r) = cut foot (w ∷ parents) l ++ cut (OnRightSide (Some w.number)) [] r

  -- the pieces of a numbered tree
  abbrev pub pieces : NumberedTree V G → List (Piece V G)
  pieces h = cut AtRoot [] h

  -- the numbers that are borne
  abbrev pub numbers : NumberedTree V G → List ℕ
  numbers (One x) = []
  numbers (Two w l r) = w.number ∷ (numbers l ++ numbers r)

  -- the left sides that are kept aside have ended
  abbrev pub AllOver : NumberedTree V G → Type 0
  AllOver (One x) = AreOver x
  AllOver (Two w l r) = AllOver l × AllOver r

  -- a numbering of a tree: no number is borne twice, and the left sides that are kept aside have ended
  pub record IsTreeNumbering (t : Task V G) (h : NumberedTree V G) : Type 0 where
    pub task : held_task h ≡ t
    pub once : IsDistinct (numbers h)
    pub over : AllOver h

  -- the node stands on a right side that is kept aside
  abbrev pub IsAside : Lone V G → Way → Type 0
  IsAside (Run b) w = ⊥
  IsAside (KeptRight b p l r) Here = ⊥
  IsAside (KeptRight b p l r) (GoL w) = IsAside l w
  IsAside (KeptRight b p l r) (GoR w) = Unit {0}
  IsAside (KeptLeft b p l r) Here = ⊥
  IsAside (KeptLeft b p l r) (GoL w) = ⊥
  IsAside (KeptLeft b p l r) (GoR w) = IsAside r w

  -- the same in a numbered tree
  abbrev pub IsAsideIn : NumberedTree V G → Way → Type 0
  IsAsideIn (One x) w = IsAside x w
  IsAsideIn (Two n l r) Here = ⊥
  IsAsideIn (Two n l r) (GoL w) = IsAsideIn l w
  IsAsideIn (Two n l r) (GoR w) = IsAsideIn r w

-- ---------- counts ----------
-- how often a stem ends at the right side of this number: once or not at all
abbrev pub at_foot : ℕ → Foot → ℕ
at_foot i AtRoot = 0
at_foot i (OnRightSide None) = 0
at_foot i (OnRightSide (Some n)) = one_if (nat_eq i n)

module _ {V G : Type 0} where
  -- the numbers of these parents
  abbrev pub numbers_of : List (Numbered V G) → List ℕ
  numbers_of [] = []
  numbers_of (w ∷ ws) = w.number ∷ numbers_of ws

  -- how often a piece stands at the foot of the right side of this number
  abbrev pub feet_of : ℕ → Piece V G → ℕ
  feet_of i x = at_foot i x.foot

  -- how often it stands below the left side of this number
  abbrev pub parents_of : ℕ → Piece V G → ℕ
  parents_of i x = times i (numbers_of x.parents)

  -- the turns that the leaves of a tree have left
  abbrev pub turns_in : Task V G → ℕ
  turns_in (Leaf b) = b.turns
  turns_in (Fork b p l r) = turns_in l + turns_in r

  -- the turns that a piece has left
  abbrev pub turns_of_piece : Piece V G → ℕ
  turns_of_piece x = turns_in (lone_task x.own)

  -- 1 where the node is a leaf, whose event takes a turn; 0 where it is a waiting parent, whose event is the join
  abbrev pub turn_at : Way → Task V G → ℕ
  turn_at Here (Leaf b) = 1
  turn_at Here (Fork b p l r) = 0
  turn_at (GoL w) (Leaf b) = 0
  turn_at (GoL w) (Fork b p l r) = turn_at w l
  turn_at (GoR w) (Leaf b) = 0
  turn_at (GoR w) (Fork b p l r) = turn_at w r

  -- nothing is kept aside
  abbrev pub IsAlone : Lone V G → Type 0
  IsAlone x = (b : Branch V G) × (x ≡ Run b)
