-- A state of the machine whose variables move holds fewer values than one of the machine that copies them: it is the same, but that some variables have lost their values.
use Rattle.std.specs.Prelude.{◌≡◌, ℕ, true, [], ◌∷◌, Option, Some, None, List, length, slice_get}
use Rattle.perm_tree.specs.Code.{Code, Tie}
use Rattle.perm_tree.specs.Vars.{none, Vars, those, plus, minus}
use Rattle.perm_tree.specs.Mentions.{written, just_option}
use Rattle.perm_meaning.specs.NamedHeap.{Final, State, Held, Own, Branch, Task}
use Rattle.perm_meaning.specs.Names.{Mark}
use Rattle.perm_meaning.specs.Turns.{lent_back}
use Rattle.perm_meaning.specs.Machine as machines
use Rattle.perm_meaning.specs.Machine.{Fork, Did, OpenBlock, Blocks, Close, Fine, GaveBack, Failed, OpenRecover, Splits, OpenCall, Leaf, On, Ends, Dies}
use Rattle.perm_meaning.specs.Custody.{writes_l, writes_r}
use Rattle.perm_meaning.specs.Relate.{VarsR}
use Rattle.perm_meaning.specs.Steady.{AreApart, given_var, changed, stays_l, stays_r, IsSteadyPar, IsSteadyCode}

abbrev pub Frame : Type 0
Frame = machines.Frame Held

-- ---------- variables ----------
-- a value is the same; of a variable that has none nothing is said
abbrev pub IsPart : Held → Held → Type 0
IsPart None w = Unit {0}
IsPart (Some v) w = w ≡ Some v

-- the same of lists of variables
abbrev pub AreParts : List Held → List Held → Type 0
AreParts vs ws = VarsR IsPart vs ws

-- the same of a variable that may be there
abbrev pub IsPartAt : Option Held → Option Held → Type 0
IsPartAt (Some (Some v)) w = w ≡ Some (Some v)
IsPartAt _ w = Unit {0}

-- the same of the variables of a set
abbrev pub ArePartsOn : Vars → List Held → List Held → Type 0
ArePartsOn H vs ws = (x : ℕ) → H x ≡ true → IsPartAt (slice_get vs x) (slice_get ws x)

-- the variables of a set are as they were, and as many
pub record AreKept (H : Vars) (vs ws : List Held) : Type 0 where
  pub long : length ws ≡ length vs
  pub same : (x : ℕ) → H x ≡ true → slice_get ws x ≡ slice_get vs x

-- what is laid by of a set is a part of what the variables of the set hold
pub record AreLaidBy (G : Vars) (saved ws : List Held) : Type 0 where
  pub long : length saved ≡ length ws
  pub part : ArePartsOn G saved ws

-- ---------- under copies ----------
-- the variables at the level of the code above a stack that nothing may change: those that the recover blocks of the same method hide
abbrev pub hidden : List Frame → Vars
hidden [] = none
hidden (OpenBlock own rest ∷ st) = hidden st
hidden (OpenRecover own hides saved rest ∷ st) = plus (those hides) (hidden st)
hidden (OpenCall tie into y saved lent caller rest ∷ st) = none

-- code stands above two stacks with these variables under copies, in a branch that began with n variables: the frames are related, and the code changes nothing that is hidden
pub data FitsStacks (n : ℕ) : Code → List Held → List Frame → List Frame → Type 0 where
  at_base : {c : Code} {ws : List Held} → length ws ≡ n → FitsStacks n c ws [] []
  at_block : {c rest : Code} {ws : List Held} {own : List ℕ} {st st' : List Frame} → AreApart (hidden st') (plus (changed c) (those own)) → IsSteadyCode rest → FitsStacks n rest ws st st'
      → FitsStacks n c ws (OpenBlock own rest ∷ st) (OpenBlock own rest ∷ st')
  at_recover : {c rest : Code} {ws saved saved' : List Held} {own hides : List ℕ} {st st' : List Frame} → AreApart (plus (those hides) (hidden st')) (plus (changed c) (those own)) → AreApart (hidden st') (given_var c) → AreLaidBy (those hides) saved ws
      → IsSteadyCode rest → FitsStacks n rest ws st st' → FitsStacks n c ws (OpenRecover own hides saved rest ∷ st) (OpenRecover own hides saved' rest ∷ st')
  at_call : {c rest : Code} {ws saved saved' : List Held} {tie : Tie} {into : Option ℕ} {y caller : ℕ} {lent : Option Held} {st st' : List Frame} → AreApart (hidden st') (just_option into) → AreParts (lent_back lent y saved) saved'
      → IsSteadyCode rest → FitsStacks n rest saved' st st' → FitsStacks n c ws (OpenCall tie into y saved lent caller rest ∷ st) (OpenCall tie into y saved' None caller rest ∷ st')

-- ---------- under moves ----------
-- what is left of a set at the level of the code above a stack: the own variables of open blocks may be written, since they lose their values at the end
abbrev pub left_of : Vars → List Frame → Vars
left_of K [] = K
left_of K (OpenBlock own rest ∷ st) = minus (left_of K st) (those own)
left_of K (OpenRecover own hides saved rest ∷ st) = minus (left_of K st) (those own)
left_of K (OpenCall tie into y saved lent caller rest ∷ st) = none

-- the code above a stack of a side writes nothing of K, and so the variables of K hold no more than they did at its start, where the variables were vp
pub data LeavesAlone (K : Vars) (vp : List Held) : Code → List Held → List Frame → Type 0 where
  in_base : {c : Code} {vs : List Held} → AreApart K (written c) → ArePartsOn K vs vp → LeavesAlone K vp c vs []
  in_block : {c rest : Code} {vs us : List Held} {own : List ℕ} {st : List Frame} → AreApart (minus (left_of K st) (those own)) (written c) → ArePartsOn (minus (left_of K st) (those own)) vs vp → LeavesAlone K vp rest us st
      → LeavesAlone K vp c vs (OpenBlock own rest ∷ st)
  in_recover : {c rest : Code} {vs saved : List Held} {own hides : List ℕ} {st : List Frame} → AreApart (minus (left_of K st) (those own)) (written c) → AreApart (left_of K st) (given_var c) → ArePartsOn (minus (left_of K st) (those own)) vs vp → LeavesAlone K vp rest saved st
      → LeavesAlone K vp c vs (OpenRecover own hides saved rest ∷ st)
  in_call : {c rest : Code} {vs saved : List Held} {tie : Tie} {into : Option ℕ} {y caller : ℕ} {lent : Option Held} {st : List Frame} → AreApart (left_of K st) (just_option into) → LeavesAlone K vp rest (lent_back lent y saved) st
      → LeavesAlone K vp c vs (OpenCall tie into y saved lent caller rest ∷ st)

-- ---------- branches and trees ----------
-- a branch without values that are gone; an ended branch is the same
pub data BranchHoldsFewer (K : Vars) (vp : List Held) : Branch → Branch → Type 0 where
  going : {l : Own} {t : ℕ} {c : Code} {ws : List Held} {st st' : List Frame} → AreParts l.vars ws → IsSteadyCode c → FitsStacks (length vp) c ws st st' → LeavesAlone K vp c l.vars st
      → BranchHoldsFewer K vp (record { own = l; turns = t; code = c; stack = st; close = None }) (record { own = record l { vars = ws }; turns = t; code = c; stack = st'; close = None })
  gone : {l : Own} {t : ℕ} {c : Code} {st : List Frame} {e : Close Held} → BranchHoldsFewer K vp (record { own = l; turns = t; code = c; stack = st; close = Some e }) (record { own = l; turns = t; code = c; stack = st; close = Some e })

-- a tree. A waiting parent began its par with the variables os; each side leaves alone what stands in its block and isn't written there, and what the two blocks write isn't hidden
pub data TaskHoldsFewer : Vars → List Held → Task → Task → Type 0 where
  leaf : {K : Vars} {vp : List Held} {b c : Branch} → BranchHoldsFewer K vp b c → TaskHoldsFewer K vp (Leaf b) (Leaf c)
  fork : {K : Vars} {vp : List Held} {l : Own} {t : ℕ} {c : Code} {os ws : List Held} {st st' : List Frame} {p : Blocks} {x y x' y' : Task} → AreParts l.vars os → AreParts os ws → IsSteadyCode c → FitsStacks (length vp) c ws st st' → LeavesAlone K vp c os st
      → AreApart (hidden st') (plus (writes_l p) (writes_r p)) → AreApart (left_of K st) (plus (writes_l p) (writes_r p)) → IsSteadyPar p
      → TaskHoldsFewer (stays_l p) os x x' → TaskHoldsFewer (stays_r p) os y y'
      → TaskHoldsFewer K vp (Fork (record { own = l; turns = t; code = c; stack = st; close = None }) p x y) (Fork (record { own = record l { vars = ws }; turns = t; code = c; stack = st'; close = None }) p x' y')

-- states: the trees are related, and the heap is one
abbrev pub StateHoldsFewer : Vars → List Held → State → State → Type 0
StateHoldsFewer K vp s s' = TaskHoldsFewer K vp s.task s'.task × (s'.heap ≡ s.heap)

-- the variables of a side that went well: those of K hold no more than at its start, and there are as many
pub record FineHoldsFewer (K : Vars) (vp vs ws : List Held) : Type 0 where
  pub part : AreParts vs ws
  pub less : ArePartsOn K vs vp
  pub long : length ws ≡ length vp

-- how two leaves have ended
abbrev pub FinalHoldsFewer : Vars → List Held → Final → Final → Type 0
FinalHoldsFewer K vp (Fine vs t p) (Fine ws u q) = FineHoldsFewer K vp vs ws × (t ≡ u) × (p ≡ q)
FinalHoldsFewer K vp (GaveBack v t p) (GaveBack w u q) = (v ≡ w) × (t ≡ u) × (p ≡ q)
FinalHoldsFewer K vp (Failed e t p) (Failed f u q) = (e ≡ f) × (t ≡ u) × (p ≡ q)
FinalHoldsFewer K vp _ _ = ⊥

-- the variables of a parent after its par, under moves vs and under copies us: it began the par with the variables os and ws, keeps those of H, and of those of J holds no more
pub record JoinedHoldFewer (H J : Vars) (os ws vs us : List Held) : Type 0 where
  pub part : AreParts vs us
  pub kept : AreKept H ws us
  pub less : ArePartsOn J vs os

-- how its par has ended
abbrev pub JoinHoldsFewer : Vars → Vars → List Held → List Held → Final → Final → Type 0
JoinHoldsFewer H J os ws (Fine vs t p) (Fine us u q) = JoinedHoldFewer H J os ws vs us × (t ≡ u) × (p ≡ q)
JoinHoldsFewer H J os ws (GaveBack v t p) (GaveBack w u q) = (v ≡ w) × (t ≡ u) × (p ≡ q)
JoinHoldsFewer H J os ws (Failed e t p) (Failed f u q) = (e ≡ f) × (t ≡ u) × (p ≡ q)
JoinHoldsFewer H J os ws _ _ = ⊥

-- what a turn does, above these stacks and with these variables under copies
pub data DidHoldsFewer (K : Vars) (vp : List Held) (l : Own) (ws : List Held) (st st' : List Frame) : Did Held Mark → Did Held Mark → Type 0 where
  on : {n : Own} {us : List Held} {c : Code} {sv sv' : List Frame} → AreParts n.vars us → IsSteadyCode c → FitsStacks (length vp) c us sv sv' → LeavesAlone K vp c n.vars sv → DidHoldsFewer K vp l ws st st' (On n c sv) (On (record n { vars = us }) c sv')
  splits : {p : Blocks} {rest : Code} → IsSteadyCode p.left → IsSteadyCode p.right → IsSteadyPar p → AreApart (hidden st') (plus (writes_l p) (writes_r p)) → AreApart (left_of K st) (plus (writes_l p) (writes_r p)) → IsSteadyCode rest → FitsStacks (length vp) rest ws st st' → LeavesAlone K vp rest l.vars st
      → DidHoldsFewer K vp l ws st st' (Splits p rest) (Splits p rest)
  ends : {v : Held} → DidHoldsFewer K vp l ws st st' (Ends v) (Ends v)
  dies : {e : machines.Failure} → DidHoldsFewer K vp l ws st st' (Dies e) (Dies e)
