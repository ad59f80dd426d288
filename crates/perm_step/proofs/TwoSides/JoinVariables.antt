-- How many variables the branches of a par have.
use Rattle.std.proofs.Common.{◌≡◌, ℕ, [], length, Option, Some, None, refl, sym, ap, subst, ◌∙◌}
use Rattle.std.specs.Prelude.{slice_get}
use Rattle.perm_tree.specs.declared.bodies.Bodies.{Bodies}
use Rattle.perm_tree.specs.Code.{Routine, UnitCode}
use Rattle.perm_tree.specs.Links.{Spot}
use Rattle.perm_step.specs.declared.control.Ending.{Ending}
use Rattle.perm_step.specs.declared.control.Ending.TheVariants as endings
use Rattle.perm_step.specs.declared.pars.Final.{Final}
use Rattle.perm_step.specs.declared.pars.Final.TheVariants as finals
use Rattle.perm_step.specs.Events.{HasVariables, IsSound, bottom_from}
use Rattle.perm_step.specs.ParMoves.{EndsAs, IsAtEnd, RunsOut}
use Rattle.perm_step.specs.Working.{Working, locals}

module _ (u : UnitCode) (spot : ℕ → Spot) where
  -- at two places of one method there are equally many variables
  pub same-variables : (p q m n : ℕ) → HasVariables u spot p m → HasVariables u spot q n → (spot p).routine ≡ (spot q).routine → m ≡ n
  same-variables p q m n at_p at_q same =
      let both : Some at_p.routine ≡ Some at_q.routine = sym at_p.there ∙ ap (λ k. slice_get u.routines k) same ∙ at_q.there in
      let routine : at_p.routine ≡ at_q.routine = cc in
      at_p.many ∙ ap (λ (r : Routine). length r.vars) routine ∙ sym at_q.many

  -- a sound side with no open call has as many variables as the parent in whose method it stands
  pub side-variables : (b : Bodies) (bottom outer : ℕ) (side parent : Working) → IsSound u spot b bottom side → IsSound u spot b outer parent → bottom ≡ (spot parent.at).routine → side.calls ≡ [] → length (locals side) ≡ length (locals parent)
  side-variables b bottom outer side parent sound waits below alone =
      same-variables side.at parent.at (length (locals side)) (length (locals parent)) sound.variables waits.variables (sym (ap (λ cs. bottom_from u spot side.at cs) alone) ∙ sound.below ∙ below)

  -- so it has where it went well
  pub ended-variables : (b : Bodies) (bottom outer : ℕ) (side parent : Working) (ending : Option Ending) (x : Final) → (ending ≡ None → IsSound u spot b bottom side) → IsSound u spot b outer parent → bottom ≡ (spot parent.at).routine → EndsAs b side ending (Some x) → x ≡ finals.Fine
      → length (locals side) ≡ length (locals parent)
  ended-variables b bottom outer side parent (Some (endings.Returned v)) x sound waits below ends fine = absurd (let clash : Some x ≡ Some (finals.Returned v) = ends in let no : ⊥ = cc in no)
  ended-variables b bottom outer side parent (Some (endings.Failed e)) x sound waits below ends fine = absurd (let clash : Some x ≡ Some (finals.Failed e) = ends in let no : ⊥ = cc in no)
  ended-variables b bottom outer side parent None x sound waits below ends fine =
      let at_end : IsAtEnd b side = subst (λ x. RunsOut b side (Some x)) fine ends in
      side-variables b bottom outer side parent (sound refl) waits below at_end.alone
