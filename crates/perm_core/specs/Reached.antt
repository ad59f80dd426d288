-- The states of the core on words that a list of events reaches from the opening.
use Rattle.std.specs.Prelude.{◌≡◌, ◌≢◌, ℕ, ◌+◌, false, ℤ, List, Option, Some}
use Rattle.perm_tree.specs.Code.{Routine, UnitCode}
use Rattle.perm_meaning.specs.Effects.{Make}
use Rattle.perm_meaning.specs.Machine.{Way, Final, final}
use Rattle.perm_meaning.specs.NamedHeap.{State}
use Rattle.perm_meaning.specs.Objects.{size}
use Rattle.perm_meaning.specs.Outcome.{outcome}
use Rattle.perm_meaning.specs.Shows.{IsShown}
use Rattle.perm_meaning.specs.Steps.{within}
use Rattle.perm_meaning.specs.WordHeap as worded
use Rattle.perm_meaning.specs.WordHeap.{Ask}
use Rattle.perm_meaning.specs.Claims.{OpensOnWords}
use Rattle.perm_core.specs.WordCore as word_core
use Rattle.perm_core.specs.Regions.{Labels}
use Rattle.perm_core.specs.Picture.{IsPicture}
use Rattle.perm_core.specs.Claims.{IsChecked}
use Rattle.perm_core.specs.Serial.{IsToldOnWords}

module _ (u : UnitCode) (limit : ℕ) where
  -- the operation on words is an allocation that has no room
  abbrev pub refused_on_words : Option Ask → worded.State → Type 0
  refused_on_words (Some (Make by shape n)) t = within limit (t.heap.given + size n) ≡ false
  refused_on_words _ t = ⊥

  -- the event of a node on words is a refused allocation
  abbrev pub RefusesOnWords : worded.State → Way → Type 0
  RefusesOnWords t w = refused_on_words (word_core.look u w t.task) t

  -- the event of q after a, and that of p after b, lead to two states on words that show one state on names
  pub record MeetOnWords (a b : worded.State) (p q : Way) : Type 0 where
    pub one : worded.State
    pub other : worded.State
    pub one_event : word_core.step u limit a q ≡ Some one
    pub other_event : word_core.step u limit b p ≡ Some other
    pub state : State
    pub one_shows : IsShown state one
    pub other_shows : IsShown state other

module _ (u : UnitCode) (limit : ℕ) (input : List ℤ) (turns : ℕ) where
  -- the state is reached in a run of an accepted unit on this input
  pub record IsReached (t : worded.State) : Type 0 where
    pub first : Routine
    pub checked : IsChecked u
    pub opens : OpensOnWords u limit input first
    pub events : List Way
    pub run : word_core.runs u limit events (worded.opening_state u input turns first) ≡ Some t

  -- the opening is reached
  abbrev pub ReachesOpening : Type 0
  ReachesOpening = (r : Routine) → IsChecked u → OpensOnWords u limit input r → IsReached (worded.opening_state u input turns r)

  -- and what an event leads to from a state that is reached
  abbrev pub ReachesNext : Type 0
  ReachesNext = (t t' : worded.State) (w : Way) → IsReached t → word_core.step u limit t w ≡ Some t' → IsReached t'

  -- a state that is reached shows one on names that has a picture
  abbrev pub ShowsPicture : Type 0
  ShowsPicture = (t : worded.State) → IsReached t → (labels : Labels) × (s : State) × IsPicture u labels s × IsShown s t

  -- where its root has ended, it tells what the meaning comes to
  abbrev pub TellsMeaning : Type 0
  TellsMeaning = (t : worded.State) (g : Final ℕ) → IsReached t → final t.task ≡ Some g → IsToldOnWords input turns (outcome u input turns limit) t g

  -- a state that is reached has no conflict
  abbrev pub HasNoConflictOnWords : Type 0
  HasNoConflictOnWords = (t : worded.State) → IsReached t → word_core.Conflict u t → ⊥

  -- from a state that is reached two events of different nodes may come in either order, and lead to states that show one state on names, unless an allocation is refused in one of the orders
  abbrev pub EitherOrderOnWords : Type 0
  EitherOrderOnWords = (t a b : worded.State) (p q : Way) → IsReached t → p ≢ q → word_core.step u limit t p ≡ Some a → word_core.step u limit t q ≡ Some b
      → (RefusesOnWords u limit a q → ⊥) → (RefusesOnWords u limit b p → ⊥) → MeetOnWords u limit a b p q
