-- What the law of pieces claims: the pieces that the holders have tell each event of a numbered tree, and count its numbers and its turns.
use Rattle.std.specs.Prelude.{◌≡◌, ℕ, suc, ◌+◌, nat_eq, ◌⊎◌, List, [], ◌∷◌, Option, Some}
use Rattle.perm_meaning.specs.Machine.{Branch, Leaf, Fork, Blocks, Way, Final, final, stage, Machine, leaf_op, leaf_on, resumed, join_of}
use Rattle.perm_meaning.specs.Machine as machines
use Rattle.perm_meaning.specs.Steps.{Lone, Run, lone_task, lone_way, lone_on, lone_of, turned}
use Rattle.perm_core.specs.Bag.{Picks, IsIn, IsDistinct, one_if, times, total}
use Rattle.perm_core.specs.Pieces.{Foot, AtRoot, OnRightSide, Numbered, Piece, NumberedTree, IsTreeNumbering, One, held_task, pieces, numbers, AllOver, IsAsideIn, feet_of, parents_of, turns_in, turns_of_piece, turn_at}

module _ {V G O : Type 0} (m : Machine V G O) where
  -- a piece of this foot, these numbered parents, and this rest
  abbrev pub piece : Foot → List (Numbered V G) → Lone V G → Piece V G
  piece foot parents x = record { foot = foot; parents = parents; own = x }

  -- the tree after the event of a node has this numbering
  abbrev pub HeldAfter : NumberedTree V G → Way → Option V → NumberedTree V G → Type 0
  HeldAfter h w v k = IsTreeNumbering (machines.fill m w (held_task h) v) k

  -- the first tree bears this number once more than the second, and all others as often
  abbrev pub BearsMore : NumberedTree V G → NumberedTree V G → ℕ → Type 0
  BearsMore h k n = (i : ℕ) → times i (numbers h) ≡ times i (numbers k) + one_if (nat_eq i n)

  -- the event of the node is the next one of one holder, and changes its piece alone
  pub record ChangesOne (h : NumberedTree V G) (w : Way) (o : O) (x : Piece V G) (rest : List (Piece V G)) : Type 0 where
    pub held : Picks x (pieces h) rest
    pub next : machines.look m (lone_way x.own) (lone_task x.own) ≡ Some o
    pub event : machines.look m w (held_task h) ≡ Some o
    pub after : (v : Option V) → (k : NumberedTree V G) × HeldAfter h w v k × (numbers k ≡ numbers h) × Picks (record x { own = lone_on m x.own v }) (pieces k) rest

  -- the two ended sides of a numbered parent, as they are held
  pub record Sides (h : NumberedTree V G) (n : Numbered V G) (foot : Foot) (up : List (Numbered V G)) (l r : Branch V G) (rest : List (Piece V G)) : Type 0 where
    pub middle : List (Piece V G)
    pub left : Picks (piece foot (n ∷ up) (Run l)) (pieces h) middle
    pub right : Picks (piece (OnRightSide (Some n.number)) [] (Run r)) middle rest

  -- the event of the node is the join under a number, and replaces the pieces of its sides by one
  pub record JoinsTwo (h : NumberedTree V G) (w : Way) (n : Numbered V G) (foot : Foot) (up : List (Numbered V G)) (l r : Branch V G) (x y : Final V) (rest : List (Piece V G)) : Type 0 where
    pub held : Sides h n foot up l r rest
    pub left_over : final {G = G} (Leaf l) ≡ Some x
    pub right_over : final {G = G} (Leaf r) ≡ Some y
    pub event : machines.look m w (held_task h) ≡ Some m.idle
    pub after : (v : Option V) → (k : NumberedTree V G) × HeldAfter h w v k × BearsMore h k n.number × Picks (piece foot up (lone_of (resumed m n.branch (join_of m n.branch n.blocks x y)))) (pieces k) rest

  -- the event of the node is the start of a par under a new number, and replaces a piece with which nothing is kept aside by two, which both bear the number: it stands at the foot of the one and above the other
  pub record SplitsOne (h : NumberedTree V G) (w : Way) (o : O) (v : Option V) (foot : Foot) (up : List (Numbered V G)) (b : Branch V G) (n : Numbered V G) (l r : Branch V G) (rest : List (Piece V G)) : Type 0 where
    pub held : Picks (piece foot up (Run b)) (pieces h) rest
    pub next : leaf_op m b (stage b) ≡ Some o
    pub starts : leaf_on m b (stage b) v ≡ Fork n.branch n.blocks (Leaf l) (Leaf r)
    pub event : machines.look m w (held_task h) ≡ Some o
    pub after : NumberedTree V G
    pub is_after : HeldAfter h w v after
    pub borne : BearsMore after h n.number
    pub sides : Sides after n foot up l r rest

  -- from a piece to the tree: a holder's next event is one of the tree
  abbrev pub TurnOfPiece : Type 0
  TurnOfPiece = (h : NumberedTree V G) (x : Piece V G) (rest : List (Piece V G)) (o : O) → IsDistinct (numbers h) → AllOver h → Picks x (pieces h) rest → machines.look m (lone_way x.own) (lone_task x.own) ≡ Some o
      → (w : Way) × ChangesOne h w o x rest

  -- a par that a holder starts with nothing kept aside may get a number that no parent bears
  abbrev pub SplitOfPiece : Type 0
  SplitOfPiece = (h : NumberedTree V G) (foot : Foot) (up : List (Numbered V G)) (b c l r : Branch V G) (p : Blocks) (rest : List (Piece V G)) (o : O) (v : Option V) (n : ℕ)
      → IsDistinct (numbers h) → AllOver h → Picks (piece foot up (Run b)) (pieces h) rest → leaf_op m b (stage b) ≡ Some o → leaf_on m b (stage b) v ≡ Fork c p (Leaf l) (Leaf r) → (IsIn n (numbers h) → ⊥)
      → (w : Way) × SplitsOne h w o v foot up b (record { branch = c; blocks = p; number = n }) l r rest

  -- the ended sides of a numbered parent may be joined
  abbrev pub JoinOfPieces : Type 0
  JoinOfPieces = (h : NumberedTree V G) (n : Numbered V G) (foot : Foot) (up : List (Numbered V G)) (l r : Branch V G) (x y : Final V) (rest : List (Piece V G))
      → IsDistinct (numbers h) → AllOver h → Sides h n foot up l r rest → final {G = G} (Leaf l) ≡ Some x → final {G = G} (Leaf r) ≡ Some y
      → (w : Way) × JoinsTwo h w n foot up l r x y rest

  -- the event is that of one holder
  pub record OfOne (h : NumberedTree V G) (w : Way) (o : O) : Type 0 where
    pub x : Piece V G
    pub rest : List (Piece V G)
    pub changes : ChangesOne h w o x rest

  -- the event is the join under a number
  pub record OfTwo (h : NumberedTree V G) (w : Way) : Type 0 where
    pub n : Numbered V G
    pub foot : Foot
    pub up : List (Numbered V G)
    pub l : Branch V G
    pub r : Branch V G
    pub x : Final V
    pub y : Final V
    pub rest : List (Piece V G)
    pub joins : JoinsTwo h w n foot up l r x y rest

  -- from the tree to its pieces: each event is that of one holder or a join under a number, or it is on a side that is kept aside
  abbrev pub EventOfPieces : Type 0
  EventOfPieces = (h : NumberedTree V G) (w : Way) (o : O) → IsDistinct (numbers h) → AllOver h → machines.look m w (held_task h) ≡ Some o → OfOne h w o ⊎ (OfTwo h w ⊎ IsAsideIn h w)

  -- ---------- what is no event ----------
  -- the holder has turned to the right side whose left side has ended, if there is one: the tree is the same
  pub record TurnsOne (h : NumberedTree V G) (x : Piece V G) (rest : List (Piece V G)) : Type 0 where
    pub after : NumberedTree V G
    pub task : held_task after ≡ held_task h
    pub same : numbers after ≡ numbers h
    pub over : AllOver after
    pub held : Picks (record x { own = turned x.own }) (pieces after) rest

  -- a holder may turn to its right side
  abbrev pub TurnsRight : Type 0
  TurnsRight = (h : NumberedTree V G) (x : Piece V G) (rest : List (Piece V G)) → AllOver h → Picks x (pieces h) rest → TurnsOne h x rest

  -- a piece that ends at the root below no parents is the whole tree
  abbrev pub RootIsAll : Type 0
  RootIsAll = (h : NumberedTree V G) (x : Lone V G) (rest : List (Piece V G)) → Picks (piece AtRoot [] x) (pieces h) rest → (h ≡ One x) × (rest ≡ [])

  -- ---------- counts ----------
  -- as often as a number is borne, a piece stands at the foot of its right side, and as often one below its left side
  abbrev pub NumbersOfPieces : Type 0
  NumbersOfPieces = (h : NumberedTree V G) (i : ℕ) → (total (feet_of i) (pieces h) ≡ times i (numbers h)) × (total (parents_of i) (pieces h) ≡ times i (numbers h))

  -- the pieces have the turns of the tree
  abbrev pub TurnsOfPieces : Type 0
  TurnsOfPieces = (h : NumberedTree V G) → total turns_of_piece (pieces h) ≡ turns_in (held_task h)

  -- the next event of a holder takes one turn where it is a leaf's, and none where it is a join
  abbrev pub TakesTurns : Type 0
  TakesTurns = (x : Lone V G) (o : O) (v : Option V) → machines.look m (lone_way x) (lone_task x) ≡ Some o → turns_in (lone_task (lone_on m x v)) + turn_at (lone_way x) (lone_task x) ≡ turns_in (lone_task x)

  -- the start of a par takes one turn and shares out the rest
  abbrev pub SplitTakes : Type 0
  SplitTakes = (b c l r : Branch V G) (p : Blocks) (o : O) (v : Option V) → leaf_op m b (stage b) ≡ Some o → leaf_on m b (stage b) v ≡ Fork c p (Leaf l) (Leaf r) → suc (l.turns + r.turns) ≡ b.turns

  -- a join brings the turns of both sides back
  abbrev pub JoinReturns : Type 0
  JoinReturns = (b l r : Branch V G) (p : Blocks) (x y : Final V) → final {G = G} (Leaf l) ≡ Some x → final {G = G} (Leaf r) ≡ Some y
      → turns_in (lone_task (lone_of (resumed m b (join_of m b p x y)))) ≡ l.turns + r.turns

  -- what asks something of the heap is a leaf
  abbrev pub AsksAtLeaf : Type 0
  AsksAtLeaf = (x : Lone V G) (o : O) → machines.look m (lone_way x) (lone_task x) ≡ Some o → (o ≡ m.idle → ⊥) → turn_at (lone_way x) (lone_task x) ≡ 1

  -- ---------- what the law says ----------
  -- the pieces tell every event of a tree but those of sides that are kept aside
  pub record PiecesTellEvents : Type 0 where
    pub turn : TurnOfPiece
    pub split : SplitOfPiece
    pub join : JoinOfPieces
    pub event : EventOfPieces

  -- a holder that turns to its right side leaves the tree as it is, and a piece at the root below no parents is the whole tree
  pub record PiecesTellTree : Type 0 where
    pub right : TurnsRight
    pub root : RootIsAll

  -- the pieces count the numbers that are borne and the turns that are left, and each kind of event takes its part of the turns
  pub record PiecesCount : Type 0 where
    pub numbers : NumbersOfPieces
    pub turns : TurnsOfPieces
    pub takes : TakesTurns
    pub shares : SplitTakes
    pub returns : JoinReturns
    pub asks : AsksAtLeaf
