-- A holder that is alone and goes left first ends as the meaning says, by computation on the worked programs.
use Rattle.std.specs.Prelude.{◌≡◌, ℕ, zero, suc, ℤ, pos, List, [], ◌∷◌, Option, Some, None, slice_get, refl}
use Rattle.perm_tree.specs.declared.errors.TrapKind.TheVariants.{DivideByZero}
use Rattle.perm_tree.specs.Code.{UnitCode, Routine}
use Rattle.perm_tree.proofs.Builder.{Source}
use Rattle.perm_tree.proofs.Programs.{p1, p2}
use Rattle.perm_tree.proofs.ParPrograms.{p3, p4, p9, p10, p11}
use Rattle.perm_meaning.specs.Machine.{final}
use Rattle.perm_meaning.specs.Custody.{Custody, Copies, Moves}
use Rattle.perm_meaning.specs.NamedHeap.{Held, Heap, named, memory}
use Rattle.perm_meaning.specs.Names.{Mark}
use Rattle.perm_meaning.specs.Steps.{Solo, Run, solo_step, lone_task, within}
use Rattle.perm_meaning.specs.Outcome.{Outcome, RanStuck, opening_own, opening_heap, reported}
use Rattle.perm_meaning.specs.Machine as machines
use Rattle.perm_meaning.proofs.Examples.Shown.{Shown, IsDone, TrapsAt, IsOutOfTurns, Shows, ShowsFull, code, shown}

abbrev Holder : Type 0
Holder = Solo Held Mark Heap

abbrev go_on : Option Holder → (Holder → Holder) → Holder → Holder
go_on None go x = x
go_on (Some y) go x = go y

-- what the holder has after at most n events
abbrev drive : Custody → UnitCode → ℕ → ℕ → Holder → Holder
drive c u limit zero x = x
drive c u limit (suc n) x = go_on (solo_step (named c u) (memory u) (within limit) x) (drive c u limit n) x

abbrev told : ℕ → Option (machines.Final Held) → Heap → Outcome
told turns None h = RanStuck
told turns (Some f) h = reported turns f h

abbrev told_of : ℕ → Holder → Outcome
told_of turns x = told turns (final (lone_task x.holder)) x.heap

abbrev opening_holder : UnitCode → List ℤ → ℕ → Routine → Holder
opening_holder u input turns r = record { holder = Run (record { own = opening_own u input r; turns = turns; code = r.code; stack = []; close = None }); heap = opening_heap u input }

abbrev driven : Custody → Source → UnitCode → List ℤ → ℕ → ℕ → Option Routine → Shown
driven c s u input turns limit None = shown s RanStuck
driven c s u input turns limit (Some r) = shown s (told_of turns (drive c u limit 1000 (opening_holder u input turns r)))

-- what a holder shows that is alone, whose variables are handed on so
abbrev pub alone_run : Custody → Source → List ℤ → ℕ → ℕ → Shown
alone_run c s input turns limit = driven c s (code s) input turns limit (slice_get (code s).routines (code s).run)

two-fields : alone_run Copies p1 [] 100 100 ≡ Shows (IsDone (pos 0)) (pos 7 ∷ []) 7 5
two-fields = refl

list-summed : alone_run Copies p2 (pos 5 ∷ pos 6 ∷ pos 7 ∷ []) 100 100 ≡ Shows (IsDone (pos 18)) (pos 18 ∷ []) 48 10
list-summed = refl

list-summed-moving : alone_run Moves p2 (pos 5 ∷ pos 6 ∷ pos 7 ∷ []) 100 100 ≡ Shows (IsDone (pos 18)) (pos 18 ∷ []) 48 10
list-summed-moving = refl

child-bumped : alone_run Copies p4 [] 100 100 ≡ Shows (IsDone (pos 0)) (pos 1 ∷ []) 13 4
child-bumped = refl

child-bumped-moving : alone_run Moves p4 [] 100 100 ≡ Shows (IsDone (pos 0)) (pos 1 ∷ []) 13 4
child-bumped-moving = refl

left-traps : alone_run Copies p9 [] 100 100 ≡ Shows (TrapsAt DivideByZero (6, 7)) (pos 1 ∷ []) 5 2
left-traps = refl

nine-words : alone_run Copies p10 [] 100 9 ≡ ShowsFull
nine-words = refl

six-turns : alone_run Copies p11 [] 6 100 ≡ Shows IsOutOfTurns (pos 3 ∷ []) 6 2
six-turns = refl

four-turns : alone_run Moves p11 [] 4 100 ≡ Shows IsOutOfTurns [] 4 2
four-turns = refl

tree-summed : alone_run Copies (p3 1) (pos 7 ∷ pos 8 ∷ []) 100 100 ≡ Shows (IsDone (pos 0)) (pos 15 ∷ []) 50 12
tree-summed = refl

tree-summed-moving : alone_run Moves (p3 1) (pos 7 ∷ pos 8 ∷ []) 100 100 ≡ Shows (IsDone (pos 0)) (pos 15 ∷ []) 50 12
tree-summed-moving = refl
