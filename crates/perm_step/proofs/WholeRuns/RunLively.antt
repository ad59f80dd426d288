-- A run of a checked unit on words goes on left first until the root has ended.
use Rattle.std.proofs.Common.{◌≡◌, ◌≢◌, ℕ, None, List, refl, sym, ap, ◌∙◌, subst, ◌⊎◌, inl, inr}
use Rattle.std.specs.Prelude.{ℤ}
use Rattle.perm_tree.specs.Code.{Routine, UnitCode}
use Rattle.perm_meaning.specs.Custody.{Copies}
use Rattle.perm_meaning.specs.Machine.{Leaf, Stage, Over, Due, final, look, leaf_op, next_turn, over, stage, turn_op}
use Rattle.perm_meaning.specs.WordHeap.{Branch, NoMark, State, worded, memory, opening_state}
use Rattle.perm_meaning.specs.Steps.{leftmost, within, asked_with_care}
use Rattle.perm_meaning.specs.Claims.{OpensOnWords}
use Rattle.perm_meaning.proofs.Leads.{none-some}
use Rattle.perm_meaning.proofs.LeftFirst.Determined.{determined}
use Rattle.perm_core.specs.Claims.{IsChecked}
use Rattle.perm_step.specs.Holding.{Aside, tree_around, AreEnded}
use Rattle.perm_step.specs.Running.{Reaches}
use Rattle.perm_step.proofs.WholeRuns.RunHeld.{around-unended, look-around}
use Rattle.perm_step.proofs.WholeRuns.RunRest.{HasEnded, IsRefused, rest-is, Rest, comes-to-rest}

module _ (u : UnitCode) (limit : ℕ) (checked : IsChecked u) (input : List ℤ) (turns : ℕ) (r : Routine) (opens : OpensOnWords u limit input r) where
  -- where the leftmost node has no event, the root has ended
  pub run-lively : (t : State) → Reaches u limit input turns r t → look (worded Copies u) (leftmost t.task) t.task ≡ None → HasEnded t
  run-lively t run none = by (comes-to-rest u limit checked input turns r opens)
    where
      by : Rest u limit checked input turns r opens → HasEnded t
      by z = on z.rests
        where
          same : t ≡ z.words
          same =
              (determined (worded Copies u) memory (within limit) run.0 z.events (opening_state u input turns r) t z.words run.1
              (ap (asked_with_care (worded Copies u) memory (within limit) t (leftmost t.task)) none) z.on_words (rest-is u limit z.words z.rests)).1

          on : HasEnded z.words ⊎ IsRefused u limit z.words → HasEnded t
          on (inl e) = subst HasEnded (sym same) e
          on (inr (o, asks, refused)) = none-some (sym none ∙ ap (λ (x : State). look (worded Copies u) (leftmost x.task) x.task) same ∙ asks)

  -- a branch that runs within what is kept aside, and isn't over, isn't stuck
  pub held-lively : (ks : List (Aside ℕ NoMark)) (b : Branch) (t : State) → AreEnded ks → t.task ≡ tree_around (Leaf b) ks → Reaches u limit input turns r t → over (stage b) ≡ None → turn_op (worded Copies u) (next_turn (worded Copies u) b) ≢ None
  held-lively ks b t ended is run due stuck =
      let asks = ap (λ x. look (worded Copies u) (leftmost x) x) is ∙ look-around (worded Copies u) (Leaf b) ks ended due ∙ nothing (stage b) in
      let f = run-lively t run asks in
      none-some (sym (ap final is ∙ around-unended (Leaf b) ks due) ∙ f.1)
    where
      nothing : (x : Stage ℕ) → leaf_op (worded Copies u) b x ≡ None
      nothing (Over f) = refl
      nothing (Due n) = stuck
