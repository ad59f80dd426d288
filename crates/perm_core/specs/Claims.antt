-- What the laws of the core claim.
use Rattle.std.specs.Prelude.{◌≡◌, ◌≢◌, ℕ, ◌*◌, ◌≤◌, false, ℤ, List, length, Option, Some, None}
use Rattle.perm_tree.specs.Code.{Routine, UnitCode}
use Rattle.perm_rules.specs.Goes.{IsAccepted}
use Rattle.perm_meaning.specs.Machine.{Leaf, Fork, Way, Here, GoL, GoR, over, stage}
use Rattle.perm_meaning.specs.Effects.{Make}
use Rattle.perm_meaning.specs.NamedHeap as named
use Rattle.perm_meaning.specs.NamedHeap.{Op, Task, State, has_room}
use Rattle.perm_meaning.specs.Steps.{within}
use Rattle.perm_meaning.specs.Outcome.{opening_state}
use Rattle.perm_meaning.specs.Claims.{Opens, OpensOnWords}
use Rattle.perm_core.specs.Core.{look, step, runs, IsLawful, Conflict}
use Rattle.perm_meaning.specs.WordHeap as worded
use Rattle.perm_core.specs.WordCore as word_core
use Rattle.perm_meaning.specs.Shows.{Bases, Grows, IsShown, IsShownBy}
use Rattle.perm_core.specs.Whole.{IsWhole}
use Rattle.perm_core.specs.Picture.{IsPicture}
use Rattle.perm_core.specs.Regions.{Labels}
use Rattle.perm_core.specs.NextPicture.{first_picture, next_picture}

-- an accepted unit whose code is made of a resolved program
pub record IsChecked (u : UnitCode) : Type 0 where
  pub accepted : IsAccepted u
  pub whole : IsWhole u

-- the branch of the leaf at a node
abbrev pub leaf_at : Way → Task → Option named.Branch
leaf_at Here (Leaf b) = Some b
leaf_at (GoL w) (Fork b p l r) = leaf_at w l
leaf_at (GoR w) (Fork b p l r) = leaf_at w r
leaf_at _ _ = None

module _ (u : UnitCode) (limit : ℕ) where
  -- ---------- the picture ----------
  -- the opening has a picture
  abbrev pub OpensWithPicture : List ℤ → ℕ → Type 0
  OpensWithPicture input turns = (r : Routine) → IsChecked u → Opens u limit input r → IsPicture u first_picture (opening_state u input turns r)

  -- each event leads from a state with a picture to one with the next picture
  abbrev pub KeepsPicture : Type 0
  KeepsPicture = (labels : Labels) (s t : State) (w : Way) → IsChecked u → IsPicture u labels s → step u limit s w ≡ Some t → IsPicture u (next_picture u limit labels s w) t

  -- so each lawful list of events from the opening leads to a state with a picture
  abbrev pub ReachesPicture : List ℤ → ℕ → Type 0
  ReachesPicture input turns = (r : Routine) (ws : List Way) (t : State) → IsChecked u → Opens u limit input r → runs u limit ws (opening_state u input turns r) ≡ Some t → (labels : Labels) × IsPicture u labels t

  -- a state with a picture has no conflict
  abbrev pub HasNoConflict : Type 0
  HasNoConflict = (labels : Labels) (s : State) → IsPicture u labels s → Conflict u s → ⊥

  -- in this state each leaf that isn't over has an event
  abbrev pub AllHaveNext : State → Type 0
  AllHaveNext s = (w : Way) (b : named.Branch) → leaf_at w s.task ≡ Some b → over (stage b) ≡ None → (t : State) × (step u limit s w ≡ Some t)

  -- so it is in a state with a picture
  abbrev pub HasNext : Type 0
  HasNext = (labels : Labels) (s : State) → IsChecked u → IsPicture u labels s → AllHaveNext s

  -- ---------- the order of events ----------
  -- the operation is an allocation that has no room
  abbrev pub refused : Option Op → State → Type 0
  refused (Some (Make by shape n)) s = has_room (within limit) n s.heap ≡ false
  refused _ s = ⊥

  -- the event of a node is a refused allocation
  abbrev pub Refuses : State → Way → Type 0
  Refuses s w = refused (look u w s.task) s

  -- two events of different nodes may come in either order, unless an allocation is refused in one of the orders
  abbrev pub EitherOrder : Type 0
  EitherOrder = (labels : Labels) (s a b : State) (p q : Way) → IsPicture u labels s → p ≢ q → step u limit s p ≡ Some a → step u limit s q ≡ Some b
      → (Refuses a q → ⊥) → (Refuses b p → ⊥) → (t : State) × (step u limit a q ≡ Some t) × (step u limit b p ≡ Some t)

  -- a list has at most twice as many events as there are turns
  abbrev pub FewEvents : List ℤ → ℕ → Type 0
  FewEvents input turns = (r : Routine) (ws : List Way) → IsLawful u limit ws (opening_state u input turns r) → length ws ≤ 2 * turns

  -- ---------- words ----------
  -- after each lawful list of events the core on words is in a state that shows the one of the core on names
  abbrev pub WordsShowRuns : List ℤ → ℕ → Type 0
  WordsShowRuns input turns = (r : Routine) → IsWhole u → OpensOnWords u limit input r → (ws : List Way) (s : State) → runs u limit ws (opening_state u input turns r) ≡ Some s
      → (t : worded.State) × (word_core.runs u limit ws (worded.opening_state u input turns r) ≡ Some t) × IsShown s t

  -- the event of a node on words leads to a state that shows the one to which it leads on names
  pub record Follows (b : Bases) (t : worded.State) (w : Way) (s' : State) : Type 0 where
    pub after : worded.State
    pub event : word_core.step u limit t w ≡ Some after
    pub bases : Bases
    pub grown : Grows b bases
    pub shown : IsShownBy bases s' after

  -- the core on words does what the core on names does, in each state that is reached from the opening
  abbrev pub WordsFollow : List ℤ → ℕ → Type 0
  WordsFollow input turns = (r : Routine) → IsWhole u → OpensOnWords u limit input r → (ws : List Way) (s s' : State) (b : Bases) (t : worded.State) (w : Way)
      → runs u limit ws (opening_state u input turns r) ≡ Some s → IsShownBy b s t → step u limit s w ≡ Some s' → Follows b t w s'

  -- and it does nothing else
  abbrev pub WordsDoNoMore : List ℤ → ℕ → Type 0
  WordsDoNoMore input turns = (r : Routine) → IsChecked u → OpensOnWords u limit input r → (ws : List Way) (s : State) (b : Bases) (t t' : worded.State) (w : Way)
      → runs u limit ws (opening_state u input turns r) ≡ Some s → IsShownBy b s t → word_core.step u limit t w ≡ Some t'
      → (s' : State) × (step u limit s w ≡ Some s') × (c : Bases) × Grows b c × IsShownBy c s' t'
