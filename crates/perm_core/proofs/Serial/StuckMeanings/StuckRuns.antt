-- A run whose meaning is stuck: the machine that copies variables, left first, stops, or gives back what is no number.
use Rattle.std.proofs.Common.{◌≡◌, ℕ, ◌≤◌, Bool, Some, List, [], ◌⊎◌, inl, inr, refl, sym, ◌∙◌, subst, le_refl}
use Rattle.std.specs.Prelude.{ℤ, slice_get}
use Rattle.perm_tree.specs.Code.{End, Routine, UnitCode}
use Rattle.perm_meaning.specs.Machine.{Trapped, NoTurns, NoRoom, Leaf, GaveBack, final}
use Rattle.perm_meaning.specs.Custody.{Copies}
use Rattle.perm_meaning.specs.NamedHeap.{Branch, Final, State, named, memory}
use Rattle.perm_meaning.specs.Steps.{within, alone}
use Rattle.perm_meaning.specs.Meaning.{Result, Well, Gave, Handed, Fails, Full, Stuck}
use Rattle.perm_meaning.specs.Outcome.{RanStuck, outcome, reported, reported_result, opening, opening_heap, opening_need, opening_state}
use Rattle.perm_meaning.proofs.LeftFirst.OneTurn.{at-empty}
use Rattle.perm_meaning.proofs.LeftFirst.Reached.{Follows}
use Rattle.perm_meaning.proofs.LeftFirst.WholeRun.{body_result, opening-follows, outcome-is}
use Rattle.perm_core.specs.Endings.{ByReturn}
use Rattle.perm_core.proofs.Serial.StuckMeanings.CalledCodes.{AllReturn}
use Rattle.perm_core.proofs.Serial.StuckMeanings.Results.{EndsBy, mean-by}
use Rattle.perm_core.proofs.Serial.StuckMeanings.Stops.{Stops, Stalls}
use Rattle.perm_core.proofs.Serial.StuckMeanings.Codes.{mean-stalls}

-- left first, the machine that copies variables ends with what isn't told
pub record EndsUntold (u : UnitCode) (fits : ℕ → Bool) (turns : ℕ) (s : State) : Type 0 where
  pub events : ℕ
  pub state : State
  pub ending : Final
  pub run : alone (named Copies u) (memory u) fits events s ≡ Some state
  pub over : final state.task ≡ Some ending
  pub told : reported turns ending state.heap ≡ RanStuck

module _ (u : UnitCode) (all : AllReturn u) (limit : ℕ) (input : List ℤ) (turns : ℕ) (r : Routine) (is : slice_get u.routines u.run ≡ Some r) (room : opening_need u input ≤ limit) where
  abbrev Ends : Type 0
  Ends = Stops u (within limit) (opening_state u input turns r) ⊎ EndsUntold u (within limit) turns (opening_state u input turns r)

  -- the opening stops where the body of `Run` is stuck
  opening-stalls : Stalls u (within limit) (body_result u limit input turns r) (opening_state u input turns r)
  opening-stalls =
      subst (λ (z : Branch). Stalls u (within limit) (body_result u limit input turns r) (record { task = Leaf z; heap = opening_heap u input })) (at-empty u r.code (opening u input turns r))
      (mean-stalls u (within limit) all turns ByReturn r.code (opening u input turns r) [] (le_refl turns) (all u.run r is))

  pub stuck-run : outcome u input turns limit ≡ RanStuck → Ends
  stuck-run stuck =
      go (body_result u limit input turns r) (opening-follows u limit input turns r) (mean-by u (within limit) turns ByReturn r.code (opening u input turns r) (all u.run r is)) opening-stalls
      (sym (outcome-is u limit input turns r is room) ∙ stuck)
    where
      go : (z : Result) → Follows u (within limit) End [] turns (opening_state u input turns r) z → EndsBy ByReturn z → Stalls u (within limit) z (opening_state u input turns r) → reported_result turns z ≡ RanStuck → Ends
      go (Well m) f by x e = absurd by
      go (Gave v m) f by x e = inr (record { events = f.1.2.0; state = record { task = Leaf f.1.0; heap = m.heap }; ending = GaveBack v m.turns m.own.printed; run = f.1.2.1; over = f.1.1; told = e })
      go (Handed y v m) f by x e = absurd by
      go (Fails (Trapped k at) t p h) f by x e = absurd (let z : ⊥ = cc e in z)
      go (Fails NoTurns t p h) f by x e = absurd (let z : ⊥ = cc e in z)
      go (Fails NoRoom t p h) f by x e = absurd (let z : ⊥ = cc e in z)
      go Full f by x e = absurd (let z : ⊥ = cc e in z)
      go Stuck f by x e = inl (x refl)
