-- How the branch of a control stack has ended, and what is told of a root.
use Rattle.std.proofs.Common.{◌≡◌, ◌≢◌, ℕ, Some, None, refl, sym, ap, ◌∙◌}
use Rattle.perm_tree.specs.Code.{UnitCode}
use Rattle.perm_meaning.specs.Machine as machines
use Rattle.perm_meaning.specs.Told.{told_end}
use Rattle.perm_meaning.specs.WordHeap.{Branch}
use Rattle.perm_meaning.proofs.Leads.{some-inj}
use Rattle.perm_step.specs.declared.ends.Finished.{Finished}
use Rattle.perm_step.specs.declared.pars.Final.{Final}
use Rattle.perm_step.specs.declared.pars.Final.TheVariants as finals
use Rattle.perm_step.specs.ParMoves.{final_of, EndsAs}
use Rattle.perm_step.specs.StemMoves.{IsFinished, TellsEnd}
use Rattle.perm_step.specs.Stems.{IsOver, Means, Stack, Stem}
use Rattle.perm_step.specs.Working.{Working}
use Rattle.perm_step.proofs.ControlStacks.StemSteps.{leaf-is, over-as, step-due}
use Rattle.perm_step.proofs.WholeRuns.Comings.{leaf-turns}

-- ---------- stacks that are over ----------
module _ (u : UnitCode) (k : Stack) (s : Stem) (m : Means u k s) where
  -- a stack whose branch has ended has no step due
  pub not-due : (f : machines.Final ℕ) → IsOver s f → EndsAs k.bodies k.leaf.control k.leaf.ending None → ⊥
  not-due f is_over due = let clash : None ≡ Some f = sym (step-due u k s m due) ∙ is_over in let no : ⊥ = cc clash in no

  -- it has ended as the stem has
  pub end-is : (f : machines.Final ℕ) (x : Final) → IsOver s f → EndsAs k.bodies k.leaf.control k.leaf.ending (Some x) → final_of k.leaf.control x ≡ f
  end-is f x is_over ends = some-inj (sym (over-as u k s m x ends) ∙ is_over)

  -- its turns are those of the branch
  pub turns-are : s.leaf.turns ≡ k.leaf.control.turns
  turns-are = ap (λ (x : Branch). x.turns) (leaf-is u k s m) ∙ leaf-turns m.bodies.spot k.leaf

-- ---------- roots ----------
-- the printed numbers of an end are those of the branch
printed-final : (c : Working) (x : Final) → machines.printed_of (final_of c x) ≡ c.printed
printed-final c finals.Fine = refl
printed-final c (finals.Returned w) = refl
printed-final c (finals.Failed e) = refl

-- so are its turns
turns-final : (c : Working) (x : Final) → machines.turns_of (final_of c x) ≡ c.turns
turns-final c finals.Fine = refl
turns-final c (finals.Returned w) = refl
turns-final c (finals.Failed e) = refl

module _ (u : UnitCode) (k : Stack) (s : Stem) (f : machines.Final ℕ) (is : IsFinished u k s f) (x : Final) (ends : EndsAs k.bodies k.leaf.control k.leaf.ending (Some x)) where
  abbrev c : Working
  c = k.leaf.control

  ended-so : final_of c x ≡ f
  ended-so = end-is u k s is.means f x is.over ends

  -- a root of which an end is told hasn't ended as a side
  pub no-side : x ≢ finals.Fine
  no-side fine = let clash : None ≡ Some is.end = ap (λ (y : Final). told_end (final_of c y)) (sym fine) ∙ ap told_end ended-so ∙ is.told in let no : ⊥ = cc clash in no

  -- what is told of it
  pub tells-end : (told : Finished) → ((c : Working) → told_end (final_of c x) ≡ Some told.end) → told.printed ≡ c.printed → told.left ≡ c.turns → TellsEnd f told
  tells-end told end printed left = record {
    ending = ap told_end (sym ended-so) ∙ end c;
    printed = ap machines.printed_of (sym ended-so) ∙ printed-final c x ∙ sym printed;
    left = ap machines.turns_of (sym ended-so) ∙ turns-final c x ∙ sym left;
  }
