-- Each state of these runs has its picture and no conflict, by computation.
use Rattle.std.specs.Prelude.{◌≡◌, pos, true, false, [], ◌∷◌, None, refl}
use Rattle.perm_tree.proofs.Programs.{p1, p2, p5_new, p6_immutable, p12}
use Rattle.perm_tree.proofs.ParPrograms.{p3, p4, p9, p10, p11}
use Rattle.perm_tree.specs.declared.errors.TrapKind.TheVariants.{DivideByZero}
use Rattle.perm_rules.specs.FirstRefused.{unit_refusal}
use Rattle.perm_meaning.proofs.Examples.Shown.{IsDone, TrapsAt, Shows, code, run_plain}
use Rattle.perm_core.proofs.Examples.RegionPrograms.{moving_regions, failing_regions}
use Rattle.perm_core.proofs.Examples.Schedules.{LeftFirst, RightFirst, InTurn}
use Rattle.perm_core.proofs.Examples.PictureTest.{first_bad}

two-fields : first_bad p1 100 [] 100 LeftFirst ≡ 0
two-fields = refl

-- a recover block whose value becomes immutable
list-summed : first_bad p2 100 (pos 5 ∷ pos 6 ∷ []) 1000 LeftFirst ≡ 0
list-summed = refl

consumed-in-loop : first_bad p5_new 100 [] 100 LeftFirst ≡ 0
consumed-in-loop = refl

-- a recover block that uses an immutable variable
immutable-in-recover : first_bad p6_immutable 100 [] 100 LeftFirst ≡ 0
immutable-in-recover = refl

ring : first_bad p12 100 [] 100 RightFirst ≡ 0
ring = refl

-- an isolated variable is lent to a call on the left side of a par, and the right side goes on in the parent's zone
child-bumped : first_bad p4 100 [] 100 LeftFirst ≡ 0
child-bumped = refl

child-bumped-right : first_bad p4 100 [] 100 RightFirst ≡ 0
child-bumped-right = refl

child-bumped-in-turn : first_bad p4 100 [] 100 (InTurn true) ≡ 0
child-bumped-in-turn = refl

left-traps : first_bad p9 100 [] 100 RightFirst ≡ 0
left-traps = refl

nine-words : first_bad p10 9 [] 100 RightFirst ≡ 0
nine-words = refl

four-turns : first_bad p11 100 [] 4 (InTurn false) ≡ 0
four-turns = refl

-- pars within pars, recover blocks, and a lending call whose method starts symmetric pars
tree-summed : first_bad (p3 2) 100 (pos 5 ∷ pos 6 ∷ pos 7 ∷ pos 8 ∷ []) 1000 LeftFirst ≡ 0
tree-summed = refl

tree-summed-right : first_bad (p3 2) 100 (pos 5 ∷ pos 6 ∷ pos 7 ∷ pos 8 ∷ []) 1000 RightFirst ≡ 0
tree-summed-right = refl

tree-summed-in-turn : first_bad (p3 2) 100 (pos 5 ∷ pos 6 ∷ pos 7 ∷ pos 8 ∷ []) 1000 (InTurn false) ≡ 0
tree-summed-in-turn = refl

-- ---------- regions that move in every way ----------
moving-accepted : unit_refusal (code moving_regions) ≡ None
moving-accepted = refl

moving-run : run_plain moving_regions [] ≡ Shows (IsDone (pos 4)) [] 70 57
moving-run = refl

moving-left : first_bad moving_regions 200 [] 1000 LeftFirst ≡ 0
moving-left = refl

moving-right : first_bad moving_regions 200 [] 1000 RightFirst ≡ 0
moving-right = refl

moving-in-turn : first_bad moving_regions 200 [] 1000 (InTurn true) ≡ 0
moving-in-turn = refl

-- what the regions of a failed side leave is harmless
failing-accepted : unit_refusal (code failing_regions) ≡ None
failing-accepted = refl

failing-run : run_plain failing_regions [] ≡ Shows (TrapsAt DivideByZero (54, 7)) [] 22 17
failing-run = refl

failing-left : first_bad failing_regions 200 [] 1000 LeftFirst ≡ 0
failing-left = refl

failing-right : first_bad failing_regions 200 [] 1000 RightFirst ≡ 0
failing-right = refl

failing-in-turn : first_bad failing_regions 200 [] 1000 (InTurn false) ≡ 0
failing-in-turn = refl
