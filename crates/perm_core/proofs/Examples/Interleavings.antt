-- Different lists of events of the worked programs end alike, by computation.
use Rattle.std.specs.Prelude.{◌≡◌, ℕ, ℤ, pos, true, false, List, [], ◌∷◌, Option, Some, None, slice_get, option_and_then, refl}
use Rattle.perm_tree.specs.declared.errors.TrapKind.TheVariants.{DivideByZero}
use Rattle.perm_tree.proofs.Builder.{Source}
use Rattle.perm_tree.proofs.Programs.{p1}
use Rattle.perm_tree.proofs.ParPrograms.{p3, p4, p9, p10, p11}
use Rattle.perm_meaning.specs.Machine.{Way, Here, GoL, GoR}
use Rattle.perm_meaning.specs.NamedHeap.{State}
use Rattle.perm_meaning.specs.Outcome.{Outcome, opening_state}
use Rattle.perm_meaning.proofs.Examples.Shown.{Shown, ShowsStuck, IsDone, TrapsAt, IsOutOfTurns, Shows, ShowsFull, code, shown}
use Rattle.perm_core.specs.Core.{runs, core_outcome}
use Rattle.perm_core.proofs.Examples.Schedules.{Policy, LeftFirst, RightFirst, InTurn, outcome_under}

abbrev shown_if : Source → Option Outcome → Shown
shown_if s None = ShowsStuck
shown_if s (Some o) = shown s o

-- ---------- two lists of events of the par with two assignments ----------
abbrev after_events : List Way → Option State
after_events ws = option_and_then (λ r. runs (code p11) 100 ws (opening_state (code p11) [] 7 r)) (slice_get (code p11).routines (code p11).run)

-- the left side assigns first
abbrev left_then_right : List Way
left_then_right = Here ∷ Here ∷ Here ∷ GoL Here ∷ GoR Here ∷ Here ∷ Here ∷ Here ∷ []

-- the right side assigns first
abbrev right_then_left : List Way
right_then_left = Here ∷ Here ∷ Here ∷ GoR Here ∷ GoL Here ∷ Here ∷ Here ∷ Here ∷ []

-- both are complete, and end in one state
one-state : after_events left_then_right ≡ after_events right_then_left
one-state = refl

complete : shown_if p11 (option_and_then (core_outcome 7) (after_events left_then_right)) ≡ Shows (IsDone (pos 0)) (pos 3 ∷ []) 7 2
complete = refl

-- a join isn't allowed before both sides have ended
too-early : after_events (Here ∷ Here ∷ Here ∷ GoL Here ∷ Here ∷ []) ≡ None
too-early = refl

-- ---------- runs under a policy ----------
abbrev driven : Source → ℕ → List ℤ → ℕ → Policy → Shown
driven s limit input turns p = shown_if s (outcome_under (code s) limit p 1000 input turns)

two-fields : driven p1 100 [] 100 LeftFirst ≡ Shows (IsDone (pos 0)) (pos 7 ∷ []) 7 5
two-fields = refl

six-turns : driven p11 100 [] 6 (InTurn true) ≡ Shows IsOutOfTurns (pos 3 ∷ []) 6 2
six-turns = refl

four-turns : driven p11 100 [] 4 (InTurn false) ≡ Shows IsOutOfTurns [] 4 2
four-turns = refl

-- the right side prints before the left one traps, and isn't told
left-traps-first : driven p9 100 [] 100 LeftFirst ≡ Shows (TrapsAt DivideByZero (6, 7)) (pos 1 ∷ []) 5 2
left-traps-first = refl

left-traps-last : driven p9 100 [] 100 RightFirst ≡ Shows (TrapsAt DivideByZero (6, 7)) (pos 1 ∷ []) 5 2
left-traps-last = refl

nine-words-left : driven p10 9 [] 100 LeftFirst ≡ ShowsFull
nine-words-left = refl

nine-words-right : driven p10 9 [] 100 RightFirst ≡ ShowsFull
nine-words-right = refl

child-bumped : driven p4 100 [] 100 RightFirst ≡ Shows (IsDone (pos 0)) (pos 1 ∷ []) 13 4
child-bumped = refl

tree-summed : driven (p3 2) 1000 (pos 7 ∷ pos 8 ∷ pos 9 ∷ pos 10 ∷ []) 1000 (InTurn true) ≡ Shows (IsDone (pos 0)) (pos 34 ∷ []) 120 26
tree-summed = refl

tree-summed-right : driven (p3 2) 1000 (pos 7 ∷ pos 8 ∷ pos 9 ∷ pos 10 ∷ []) 1000 RightFirst ≡ Shows (IsDone (pos 0)) (pos 34 ∷ []) 120 26
tree-summed-right = refl
