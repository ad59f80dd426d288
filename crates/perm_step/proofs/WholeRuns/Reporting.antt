-- What is reported of a run that is through is what the unit means, and so it is where the heap is full.
use Rattle.std.proofs.Common.{◌≡◌, ◌≢◌, ◌∙◌, ℕ, ◌-◌, ◌<◌, Some, [], length, refl, sym, subst}
use Rattle.std.specs.Prelude.{ℤ, List, reverse}
use Rattle.perm_tree.specs.declared.bodies.Bodies.{Bodies}
use Rattle.perm_tree.specs.Code.{UnitCode}
use Rattle.perm_tree.specs.Links.{AreBodiesOf}
use Rattle.perm_meaning.specs.declared.End.{End}
use Rattle.perm_meaning.specs.declared.End.TheVariants.{OutOfTurns, HeapFull}
use Rattle.perm_meaning.specs.declared.Outcome.{Outcome}
use Rattle.perm_meaning.specs.Machine.{over, stage}
use Rattle.perm_meaning.specs.Outcome as meaning
use Rattle.perm_meaning.specs.Outcome.{Ran, RanFull, RanStuck, outcome}
use Rattle.perm_meaning.specs.WordHeap.{root_word}
use Rattle.perm_core.specs.Claims.{IsChecked}
use Rattle.perm_step.specs.declared.alone.Run.{Run}
use Rattle.perm_step.specs.declared.alone.Waiting.{Waiting}
use Rattle.perm_step.specs.declared.heap.Shortage.{Shortage}
use Rattle.perm_step.specs.declared.heap.Shortage.TheVariants as shortages
use Rattle.perm_step.specs.declared.pars.Final.{Final}
use Rattle.perm_step.specs.declared.pars.Final.TheVariants as finals
use Rattle.perm_step.specs.Opens.{opening_size, IsNotOpened}
use Rattle.perm_step.specs.ParMoves.{final_of}
use Rattle.perm_step.specs.Reports.{IsReport}
use Rattle.perm_step.specs.Running.{IsRunning}
use Rattle.perm_step.specs.Runs.{asides_of, IsShort, IsThrough, Opening}
use Rattle.perm_step.specs.Standing.{leaf_branch}
use Rattle.perm_step.specs.Tells.{IsFull, Tells}
use Rattle.perm_step.specs.Working.{cells_of}
use Rattle.perm_step.proofs.WholeRuns.OpeningRuns.{same-need}
use Rattle.perm_step.proofs.WholeRuns.RunRounds.{run-tells-end, run-tells-full}
use Rattle.perm_step.proofs.WholeRuns.RunTells.{unopened-tells}
use Rattle.perm_step.proofs.StepClaims.{StepClaims}

-- what is claimed of the steps of each checked unit
abbrev pub Claims : Type 0
Claims = (u : UnitCode) (b : Bodies) (w : AreBodiesOf u b) → IsChecked u → StepClaims u b w

-- one end is told of a run
same-end : (q : meaning.Outcome) (x y : Outcome) → Tells q x → Tells q y → x.end ≡ y.end
same-end (Ran r) x y h k = h.ending ∙ sym k.ending
same-end RanFull x y h k = h.ending ∙ sym k.ending
same-end RanStuck x y h k = absurd h

-- these two ends are different
two-ends : OutOfTurns ≡ HeapFull → ⊥
two-ends same = cc

module _ (claims : Claims) (o : Opening) (b : Bodies) (r : Run) (f : Final) (x : IsThrough o b r f) where
  -- what the unit means
  abbrev pub meant : meaning.Outcome
  meant = outcome o.unit o.input o.turns o.limit

  -- the root runs alone
  alone : IsRunning o.unit o.limit o.input o.turns o.first [] (leaf_branch x.coming.bodies.spot r.leaf) (cells_of r.heap.words)
  alone = subst (λ (ws : List Waiting). IsRunning o.unit o.limit o.input o.turns o.first (asides_of x.coming.bodies.spot (reverse ws)) (leaf_branch x.coming.bodies.spot r.leaf) (cells_of r.heap.words)) x.alone x.coming.running

  -- and has ended on words as the run has
  ended : over (stage (leaf_branch x.coming.bodies.spot r.leaf)) ≡ Some (final_of r.leaf.control f)
  ended = (claims o.unit b x.coming.bodies o.checked).ends x.coming.bottom r.leaf.control r.leaf.ending (Some f) x.coming.leaf.sound x.ends

  -- what is reported of it is what the unit means
  pub through-tells : (told : Outcome) → IsReport o.turns (final_of r.leaf.control f) r.heap.words (root_word o.input) told → Tells meant told
  through-tells told report = run-tells-end o.unit o.limit o.input o.turns o.first o.checked o.opens (leaf_branch x.coming.bodies.spot r.leaf) (cells_of r.heap.words) (final_of r.leaf.control f) r.heap.words told alone ended refl report

  -- of a root that went well any end could be reported; so no root ends so
  pub never-fine : f ≢ finals.Fine
  never-fine fine = two-ends (same-end meant (any OutOfTurns) (any HeapFull) (told OutOfTurns) (told HeapFull))
    where
      any : End → Outcome
      any e = record { end = e; printed = r.leaf.control.printed; spent = o.turns - r.leaf.control.turns; need = length r.heap.words; words = r.heap.words; root = root_word o.input }

      told : (e : End) → Tells meant (any e)
      told e = through-tells (any e) (subst (λ (g : Final). IsReport o.turns (final_of r.leaf.control g) r.heap.words (root_word o.input) (any e)) (sym fine) (record { ending = tt; printed = refl; spent = refl; need = refl; words = refl; root = refl }))

-- where the heap refuses an object, a full heap is told
pub short-tells : (o : Opening) (e : Shortage) (told : Outcome) → IsShort o e → e ≡ shortages.HeapFull → IsFull told → Tells (outcome o.unit o.input o.turns o.limit) told
short-tells o shortages.NoMemory told short is full = cc
short-tells o shortages.HeapFull told short is full = run-tells-full o.unit o.limit o.input o.turns o.first o.checked o.opens short.kept short.branch short.cells short.ask told short.running short.next short.refused full

-- so it is where the heap doesn't hold the opening
pub unopened-full : (u : UnitCode) (b : Bodies) → AreBodiesOf u b → IsChecked u → (input : List ℤ) (turns limit : ℕ) (e : Shortage) (told : Outcome) → IsNotOpened (opening_size b input) limit e → e ≡ shortages.HeapFull → IsFull told
    → Tells (outcome u input turns limit) told
unopened-full u b w checked input turns limit shortages.NoMemory told less is full = cc
unopened-full u b w checked input turns limit shortages.HeapFull told less is full = unopened-tells u input turns limit told (subst (λ n. limit < n) (sym (same-need u b w checked input)) less) full
