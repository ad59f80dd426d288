-- From the opening: each list of events under moves is one under copies, and left first both end as the meaning says.
use Rattle.std.proofs.Common.{◌≡◌, ℕ, Some, refl, ◌≢◌, List, sym, ap, ◌∙◌, subst, ◌≤◌}
use Rattle.std.specs.Prelude.{ℤ, slice_get}
use Rattle.perm_tree.specs.Code.{Routine, UnitCode}
use Rattle.perm_tree.specs.Vars.{none}
use Rattle.perm_meaning.specs.NamedHeap.{memory, Final, State, named}
use Rattle.perm_meaning.specs.Steps.{within, alone, leftmost, runs, step}
use Rattle.perm_meaning.specs.Outcome.{RanStuck, outcome, opening_state, RanFull, opening_own, reported, opening_need}
use Rattle.perm_meaning.specs.Machine.{Way, final}
use Rattle.perm_meaning.specs.Custody.{Copies, Moves}
use Rattle.perm_meaning.specs.Steady.{IsSteady}
use Rattle.perm_meaning.specs.HoldsFewer.{at_base, in_base, going, leaf, StateHoldsFewer, FinalHoldsFewer}
use Rattle.perm_meaning.proofs.Leads.{some-inj, none-some, unended}
use Rattle.perm_meaning.proofs.LeftFirst.Determined.{one-end, determined, over-at-rest, refused-at-rest}
use Rattle.perm_meaning.proofs.LeftFirst.WholeRun.{ends-as-meaning, fills-as-meaning}
use Rattle.perm_meaning.proofs.MovesAndCopies.Parts.{parts-same}
use Rattle.perm_meaning.proofs.MovesAndCopies.Ends.{final-fewer}
use Rattle.perm_meaning.proofs.MovesAndCopies.Events.{runs-fewer}
use Rattle.perm_meaning.proofs.MovesAndCopies.LeftFirst.{told-alike, alone-fewer}

module _ (u : UnitCode) (steady : IsSteady u) where
  -- ---------- from the opening ----------
  module _ (limit : ℕ) (input : List ℤ) (turns : ℕ) (r : Routine) (is : slice_get u.routines u.run ≡ Some r) where
    abbrev opening : State
    opening = opening_state u input turns r

    pub opening-fewer : StateHoldsFewer none (opening_own u input r).vars opening opening
    opening-fewer = (leaf (going {l = opening_own u input r} (parts-same (opening_own u input r).vars) (steady u.run r is) (at_base refl) (in_base (λ x h. absurd (cc)) (λ x h. absurd (cc)))), refl)

    -- each list of events under moves is one under copies, to related states
    pub lists-alike : (es : List Way) (s : State) → runs (step (named Moves u) (memory u) (within limit)) es opening ≡ Some s → (t : State) × (runs (step (named Copies u) (memory u) (within limit)) es opening ≡ Some t) × StateHoldsFewer none (opening_own u input r).vars s t
    lists-alike es s e = runs-fewer u steady (within limit) es opening opening s opening-fewer e

    -- left first, the core ends as the meaning says
    pub ends-as-outcome : opening_need u input ≤ limit → outcome u input turns limit ≢ RanStuck
        → (n : ℕ) (s : State) (f : Final) → alone (named Moves u) (memory u) (within limit) n opening ≡ Some s → final s.task ≡ Some f → reported turns f s.heap ≡ outcome u input turns limit
    ends-as-outcome room unstuck n s f e q = told-alike none (opening_own u input r).vars turns s.heap f b.0 b.2 ∙ ap (λ h. reported turns b.0 h) (sym a.2.1) ∙ same
      where
        a : (t : State) × (alone (named Copies u) (memory u) (within limit) n opening ≡ Some t) × StateHoldsFewer none (opening_own u input r).vars s t
        a = alone-fewer u steady (within limit) n opening opening s opening-fewer e

        b : (g : Final) × (final a.0.task ≡ Some g) × FinalHoldsFewer none (opening_own u input r).vars f g
        b = final-fewer none (opening_own u input r).vars a.2.0 f q

        full : outcome u input turns limit ≢ RanFull
        full z =
            let c = fills-as-meaning u limit input turns r is room z in
            let d = determined (named Copies u) (memory u) (within limit) n c.0 opening a.0 c.1 a.1 (over-at-rest (named Copies u) (memory u) (within limit) a.0 b.0 b.1) c.3 (refused-at-rest (named Copies u) (memory u) (within limit) c.1 c.2 c.4 c.5) in
            none-some (sym (unended (named Copies u) (leftmost c.1.task) c.1.task c.2 c.4) ∙ subst (λ (z : State). final z.task ≡ Some b.0) d.1 b.1)

        same : reported turns b.0 a.0.heap ≡ outcome u input turns limit
        same =
            let c = ends-as-meaning u limit input turns r is room unstuck full in
            let d = one-end (named Copies u) (memory u) (within limit) n c.0 opening a.0 c.1 b.0 c.2 a.1 b.1 c.3 c.4 in
            let g = some-inj (sym b.1 ∙ ap (λ (z : State). final z.task) d.1 ∙ c.4) in
            ap (λ z. reported turns z a.0.heap) g ∙ ap (λ (z : State). reported turns c.2 z.heap) d.1 ∙ c.5
