-- How a branch that stands at a spot of its method leaves ended blocks.
use Rattle.std.proofs.Common.{◌≡◌, ℕ, List, [], ◌∷◌, ◌++◌, Some, refl, ap, ◌∙◌}
use Rattle.perm_tree.specs.Code.{Code, End, Give, Return, Do, If, While, Par, Recover, Invoke, UnitCode}
use Rattle.perm_tree.specs.Links.{Enclosing, InBlock, InRecover, Spot, left_ended}
use Rattle.perm_meaning.specs.Custody.{Copies}
use Rattle.perm_meaning.specs.Effects.{Tick}
use Rattle.perm_meaning.specs.Expressions.{clear, clear_all}
use Rattle.perm_meaning.specs.Machine.{Frame, OpenBlock, OpenRecover, OpenCall, leaf_op, leaf_on, settled, stage}
use Rattle.perm_meaning.specs.WordHeap.{Branch, Task, worded}
use Rattle.perm_meaning.specs.Words.{words}
use Rattle.perm_step.specs.Standing.{Open, calls_of, frame_over, frames_of}
use Rattle.perm_step.proofs.WordMachine.Cells.{clear_same}

-- nothing stands below a method but an open call
abbrev pub AreCalls : List (Frame ℕ) → Type 0
AreCalls [] = Unit {0}
AreCalls (OpenCall tie into y saved lent caller rest ∷ st) = Unit {0}
AreCalls (f ∷ st) = ⊥

frame-call : (m : ℕ) (within : List Enclosing) (c : Code) (saved : List ℕ) (below : List (Frame ℕ)) → AreCalls (frame_over m within c saved below)
frame-call m within (Do at (Invoke into tie consumed y r args) rest) saved below = tt
frame-call m within c saved below = tt

pub are-calls : (spot : ℕ → Spot) (os : List Open) → AreCalls (calls_of spot os)
are-calls spot [] = tt
are-calls spot (o ∷ os) = frame-call (spot o.place).routine (spot o.place).within (spot o.place).code o.saved (calls_of spot os)

-- a branch makes a turn that asks nothing of the heap, and is then this
abbrev pub Ticks : UnitCode → Branch → Task → Type 0
Ticks u b t = (leaf_op (worded Copies u) b (stage b) ≡ Some Tick) × (leaf_on (worded Copies u) b (stage b) (Some 0) ≡ t)

-- ---------- ended blocks ----------
pub clear_all_same : (vs ys : List ℕ) → clear_all words vs ys ≡ vs
clear_all_same vs [] = refl
clear_all_same vs (y ∷ ys) = clear_all_same (clear words vs y) ys ∙ clear_same vs y

-- nothing ends where nothing is open round the code
pub ended-alone : (c : Code) → left_ended c [] ≡ record { code = c; within = [] }
ended-alone End = refl
ended-alone (Give at w x) = refl
ended-alone (Return at a) = refl
ended-alone (Do at i rest) = refl
ended-alone (If at e own1 a own2 b rest) = refl
ended-alone (While at e own body rest) = refl
ended-alone (Par at own1 a own2 b rest) = refl
ended-alone (Recover at x own hides body rest) = refl

-- a branch with this code, and this open round it, stands where the code leads
pub settles : (u : UnitCode) (b : Branch) (vs : List ℕ) (c : Code) (st : List Enclosing) (below : List (Frame ℕ)) → AreCalls below
    → settled (worded Copies u) b vs c (frames_of st ++ below) ≡ record b { own = record b.own { vars = vs }; code = (left_ended c st).code; stack = frames_of (left_ended c st).within ++ below }
settles u b vs End [] [] calls = refl
settles u b vs End [] (OpenBlock own rest ∷ st) calls = absurd calls
settles u b vs End [] (OpenRecover own hides saved rest ∷ st) calls = absurd calls
settles u b vs End [] (OpenCall tie into y saved lent caller rest ∷ st) calls = refl
settles u b vs End (InBlock own rest ∷ st) below calls =
    settles u b (clear_all words vs own) rest st below calls
    ∙ ap (λ (ws : List ℕ). let x : Branch = record b { own = record b.own { vars = ws }; code = (left_ended rest st).code; stack = frames_of (left_ended rest st).within ++ below } in x) (clear_all_same vs own)
settles u b vs End (InRecover own hides rest ∷ st) below calls = refl
settles u b vs (Give at w x) st below calls = refl
settles u b vs (Return at a) st below calls = refl
settles u b vs (Do at i rest) st below calls = refl
settles u b vs (If at e own1 a own2 c rest) st below calls = refl
settles u b vs (While at e own body rest) st below calls = refl
settles u b vs (Par at own1 a own2 c rest) st below calls = refl
settles u b vs (Recover at x own hides body rest) st below calls = refl
