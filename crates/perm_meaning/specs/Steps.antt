-- The steps of a machine on a heap of its own, lists of events, and the runs in which the leftmost node is always next.
use Rattle.std.specs.Prelude.{◌≡◌, ℕ, zero, suc, Bool, List, [], ◌∷◌, Option, Some, None, nat_le, option_and_then}
use Rattle.perm_meaning.specs.Machine.{Machine, Branch, Task, Leaf, Fork, Blocks, Way, Here, GoL, GoR, Final, stage, final, look, fill, leaf_on, join_of, resumed}

-- what the heap answers: what it finds, that an allocation is refused, or that the field isn't there
pub data Answer (V : Type 0) : Type 0 where
  Found : (v : V) → Answer V
  Refused : Answer V
  Missing : Answer V

-- a heap as a machine sees it: what an operation finds, and what it leaves. The test says which numbers of words fit the heap
pub record Memory (V O H : Type 0) : Type 0 where
  pub find : (ℕ → Bool) → O → H → Answer V
  pub after : (ℕ → Bool) → O → H → H

-- a tree of branches with the heap
pub record State (V G H : Type 0) : Type 0 where
  pub task : Task V G
  pub heap : H

-- so many words fit a heap of this size
abbrev pub within : ℕ → ℕ → Bool
within limit n = nat_le n limit

-- the left side first, then the right one, then the parent
abbrev pub leftmost_of : {V : Type 0} → Option (Final V) → Option (Final V) → Way → Way → Way
leftmost_of None y l r = GoL l
leftmost_of (Some x) None l r = GoR r
leftmost_of (Some x) (Some y) l r = Here

-- the leftmost node that is a leaf which isn't over, or a parent whose sides are over
abbrev pub leftmost : {V G : Type 0} → Task V G → Way
leftmost (Leaf b) = Here
leftmost (Fork b p l r) = leftmost_of (final l) (final r) (leftmost l) (leftmost r)

module _ {V G O H : Type 0} (m : Machine V G O) (memory : Memory V O H) (fits : ℕ → Bool) where
  -- ---------- one event ----------
  -- the state after an event that is told v, or refused
  abbrev pub next_state : State V G H → Way → O → Option V → State V G H
  next_state s w o v = record { task = fill m w s.task v; heap = memory.after fits o s.heap }

  -- the state after an event that the heap answers so
  abbrev pub answered : State V G H → Way → O → Answer V → Option (State V G H)
  answered s w o (Found v) = Some (next_state s w o (Some v))
  answered s w o Refused = Some (next_state s w o None)
  answered s w o Missing = None

  -- the state after an event that asks this, if there is one
  abbrev pub asked : State V G H → Way → Option O → Option (State V G H)
  asked s w None = None
  asked s w (Some o) = answered s w o (memory.find fits o s.heap)

  -- the event of a node, where it has one
  abbrev pub step : State V G H → Way → Option (State V G H)
  step s w = asked s w (look m w s.task)

  -- the same, but a refused allocation is none
  abbrev pub granted : State V G H → Way → O → Answer V → Option (State V G H)
  granted s w o (Found v) = Some (next_state s w o (Some v))
  granted s w o Refused = None
  granted s w o Missing = None

  -- the same of an event that asks this
  abbrev pub asked_with_care : State V G H → Way → Option O → Option (State V G H)
  asked_with_care s w None = None
  asked_with_care s w (Some o) = granted s w o (memory.find fits o s.heap)

  -- the same, but an allocation that would be refused is no event
  abbrev pub careful : State V G H → Way → Option (State V G H)
  careful s w = asked_with_care s w (look m w s.task)

  -- ---------- the leftmost node first ----------
  -- the state after so many events, each at the leftmost node, none of them a refused allocation
  abbrev pub alone : ℕ → State V G H → Option (State V G H)
  alone zero s = Some s
  alone (suc n) s = option_and_then (alone n) (careful s (leftmost s.task))

  -- some number of events at the leftmost node leads from the one to the other
  abbrev pub Leads : State V G H → State V G H → Type 0
  Leads s t = (n : ℕ) × (alone n s ≡ Some t)

-- ---------- lists of events ----------
-- the state after a list of events, where each of them is allowed at its place
abbrev pub runs : {S E : Type 0} → (S → E → Option S) → List E → S → Option S
runs step [] s = Some s
runs step (e ∷ es) s = option_and_then (runs step es) (step s e)

-- each event of the list is allowed at its place
abbrev pub IsLawful : {S E : Type 0} → (S → E → Option S) → List E → S → Type 0
IsLawful {S} step es s = (t : S) × (runs step es s ≡ Some t)

-- after the list the root is an ended leaf, which ended so
abbrev pub IsComplete : {V G H : Type 0} → (State V G H → Way → Option (State V G H)) → List Way → State V G H → Final V → Type 0
IsComplete {V} {G} {H} step es s f = (t : State V G H) × (runs step es s ≡ Some t) × (final t.task ≡ Some f)

-- ---------- a holder that goes left first ----------
-- what one holder of a tree has: the branch that it runs, and of each par round it the side that it keeps aside, the right one until the left has ended
pub data Lone (V G : Type 0) : Type 0 where
  Run : (b : Branch V G) → Lone V G
  KeptRight : (b : Branch V G) (p : Blocks) (l : Lone V G) (r : Branch V G) → Lone V G
  KeptLeft : (b : Branch V G) (p : Blocks) (l : Branch V G) (r : Lone V G) → Lone V G

-- the tree that it holds
abbrev pub lone_task : {V G : Type 0} → Lone V G → Task V G
lone_task (Run b) = Leaf b
lone_task (KeptRight b p l r) = Fork b p (lone_task l) (Leaf r)
lone_task (KeptLeft b p l r) = Fork b p (Leaf l) (lone_task r)

-- a leaf, or a par with its right side aside
abbrev pub lone_of : {V G : Type 0} → Task V G → Lone V G
lone_of (Leaf b) = Run b
lone_of (Fork b p (Leaf l) (Leaf r)) = KeptRight b p (Run l) r
lone_of (Fork b p (Leaf l) (Fork c q x y)) = Run b
lone_of (Fork b p (Fork c q x y) r) = Run b

-- the next node of a holder that runs a right side
abbrev pub right_side_way : {V : Type 0} → Option (Final V) → Way → Way
right_side_way None w = GoR w
right_side_way (Some x) w = Here

-- the next node of a holder that runs a left side
abbrev pub left_side_way : {V : Type 0} → Option (Final V) → Option (Final V) → Way → Way
left_side_way (Some x) (Some y) w = Here
left_side_way (Some x) None w = GoL w
left_side_way None y w = GoL w

-- the node whose event is next for the holder
abbrev pub lone_way : {V G : Type 0} → Lone V G → Way
lone_way (Run b) = Here
lone_way (KeptRight b p l r) = left_side_way (final (lone_task l)) (final (Leaf r)) (lone_way l)
lone_way (KeptLeft b p l r) = right_side_way (final (lone_task r)) (lone_way r)

module _ {V G O : Type 0} (m : Machine V G O) where
  -- what a holder has after an event on a right side, or after the join
  abbrev pub after_right : Branch V G → Blocks → Branch V G → Lone V G → Option (Final V) → Option (Final V) → Lone V G
  after_right b p l r (Some x) (Some y) = lone_of (resumed m b (join_of m b p x y))
  after_right b p l r None (Some y) = KeptLeft b p l r
  after_right b p l r x None = KeptLeft b p l r

  -- the same of a left side
  abbrev pub after_left : Branch V G → Blocks → Lone V G → Branch V G → Option (Final V) → Option (Final V) → Lone V G
  after_left b p l r (Some x) (Some y) = lone_of (resumed m b (join_of m b p x y))
  after_left b p l r (Some x) None = KeptRight b p l r
  after_left b p l r None y = KeptRight b p l r

  -- what the holder has after that event, given what it is told
  abbrev pub lone_on : Lone V G → Option V → Lone V G
  lone_on (Run b) v = lone_of (leaf_on m b (stage b) v)
  lone_on (KeptRight b p l r) v = after_left b p (lone_on l v) r (final (lone_task l)) (final (Leaf r))
  lone_on (KeptLeft b p l r) v = after_right b p l (lone_on r v) (final (Leaf l)) (final (lone_task r))

-- the right side instead of the left one, if that has ended
abbrev pub turned_if : {V G : Type 0} → Option (Final V) → Branch V G → Blocks → Lone V G → Branch V G → Lone V G
turned_if None b p l r = KeptRight b p l r
turned_if (Some x) b p (Run l) r = KeptLeft b p l (Run r)
turned_if (Some x) b p l r = KeptRight b p l r

-- the holder after it has turned to a right side whose left side has ended, if there is one. This is no event
abbrev pub turned : {V G : Type 0} → Lone V G → Lone V G
turned (Run b) = Run b
turned (KeptRight b p l r) = turned_if (final (lone_task l)) b p (turned l) r
turned (KeptLeft b p l r) = KeptLeft b p l (turned r)

-- the left sides that are kept aside have ended
abbrev pub AreOver : {V G : Type 0} → Lone V G → Type 0
AreOver (Run b) = Unit {0}
AreOver (KeptRight b p l r) = AreOver l
AreOver {V} {G} (KeptLeft b p l r) = ((f : Final V) × (final {G = G} (Leaf l) ≡ Some f)) × AreOver r

-- ---------- a holder on its heap ----------
-- what a holder has, with the heap on which it is alone
pub record Solo (V G H : Type 0) : Type 0 where
  pub holder : Lone V G
  pub heap : H

module _ {V G O H : Type 0} (m : Machine V G O) (memory : Memory V O H) (fits : ℕ → Bool) where
  -- what the holder has after an event that is told v, or refused
  abbrev pub next_solo : Solo V G H → O → Option V → Solo V G H
  next_solo x o v = record { holder = turned (lone_on m x.holder v); heap = memory.after fits o x.heap }

  -- the same by what the heap answers
  abbrev pub solo_answered : Solo V G H → O → Answer V → Option (Solo V G H)
  solo_answered x o (Found v) = Some (next_solo x o (Some v))
  solo_answered x o Refused = Some (next_solo x o None)
  solo_answered x o Missing = None

  -- the same by what the event asks, if there is one
  abbrev pub solo_asked : Solo V G H → Option O → Option (Solo V G H)
  solo_asked x None = None
  solo_asked x (Some o) = solo_answered x o (memory.find fits o x.heap)

  -- one event of a holder that is alone, and its turn to the right side after it, if there is one
  abbrev pub solo_step : Solo V G H → Option (Solo V G H)
  solo_step x = solo_asked x (look m (lone_way x.holder) (lone_task x.holder))
