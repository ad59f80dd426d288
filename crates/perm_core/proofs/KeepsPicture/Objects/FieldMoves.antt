-- A change of labels that leaves alone the regions of variables and of zones leaves every tree as good as it was, and a value that fits a variable may come into it.
use Rattle.std.proofs.Common.{◌≡◌, ℕ, true, Some, List, refl, sym, ap, subst, ◌∙◌, inl, inr}
use Rattle.std.specs.Prelude.{◌⊎◌, slice_get}
use Rattle.perm_tree.specs.declared.ast.Ty.{Ty}
use Rattle.perm_tree.specs.Code.{UnitCode}
use Rattle.perm_meaning.specs.Values.{Value}
use Rattle.perm_meaning.specs.Names.{Name}
use Rattle.perm_meaning.specs.Objects.{Objects}
use Rattle.perm_meaning.specs.Expressions.{assign}
use Rattle.perm_meaning.specs.Machine.{Frame, Way}
use Rattle.perm_meaning.specs.NamedHeap.{Held}
use Rattle.perm_meaning.proofs.Leads.{some-inj}
use Rattle.perm_core.specs.Regions.{Zone, Region, OwnOf, OfVariable, Labels, var_may_lead}
use Rattle.perm_core.specs.Picture.{value_fits, variables_fit, stack_fits}
use Rattle.perm_core.proofs.KeepsPicture.Calls.CallEnds.{set-cases, set-length}
use Rattle.perm_core.proofs.KeepsPicture.Labels.CarriedValues.{AllFit, to-all, from-all, one-carry, stack-carry}
use Rattle.perm_core.proofs.KeepsPicture.Pars.Joins.{stack-alone}
use Rattle.perm_core.proofs.KeepsPicture.Labels.Relabellings.{Good, good-none}

-- the labels change so: every link survives, and the regions of variables and of zones are left alone
pub record MovesFields (labels labels' : Labels) : Type 0 where
  pub ρ : Region → Region
  pub good : Good ρ
  pub own : (q : Zone) → ρ (OwnOf q) ≡ OwnOf q
  pub stay : (w : Way) (k x : ℕ) → ρ (OfVariable w k x) ≡ OfVariable w k x
  pub so : labels' ≡ (λ n. ρ (labels n))

-- no label changes
pub moves-none : (labels : Labels) → MovesFields labels labels
moves-none labels = record { ρ = λ r. r; good = good-none; own = λ q. refl; stay = λ w k x. refl; so = refl }

module _ (u : UnitCode) (labels labels' : Labels) (h : Objects Name) (m : MovesFields labels labels') where
  abbrev ρ : Region → Region
  ρ = m.ρ

  pub stack-after : (w : Way) (z : Zone) (r : ℕ) (st : List (Frame Held)) → stack_fits u labels h w z r st ≡ true → stack_fits u labels' h w z r st ≡ true
  stack-after w z r st e =
      subst (λ (ls : Labels). stack_fits u ls h w z r st ≡ true) (sym m.so)
      (stack-carry u labels h ρ m.good w z r st (stack-alone u labels h ρ m.good w z st (λ i x. m.stay w i x) (m.own z) (λ i. m.own _)) e)

  -- a value comes into a variable that it fits, and the others fit as before
  pub variables-after : (w : Way) (k : ℕ) (z : Zone) (ts : List Ty) (vs : List Held) (x : ℕ) (t : Ty) (d : Value Name) → slice_get ts x ≡ Some t → value_fits h (λ p n. var_may_lead p (OfVariable w k x) z (labels' n)) t d ≡ true
      → variables_fit u labels h z w k 0 ts vs ≡ true → variables_fit u labels' h z w k 0 ts (assign vs x (Some d)) ≡ true
  variables-after w k z ts vs x t d type comes vars = from-all u labels' h z w k ts (assign vs x (Some d)) (record { lengths = fit.lengths ∙ sym (set-length vs x (Some d)); each = each })
    where
      fit : AllFit u labels h z w k ts vs
      fit = to-all u labels h z w k ts vs vars

      Fits : ℕ → Ty → Value Name → Type 0
      Fits i s a = value_fits h (λ p n. var_may_lead p (OfVariable w k i) z (labels' n)) s a ≡ true

      each : (i : ℕ) (s : Ty) (a : Value Name) → slice_get ts i ≡ Some s → slice_get (assign vs x (Some d)) i ≡ Some (Some a) → Fits i s a
      each i s a is has = pick (set-cases vs x (Some d) i (Some a) has)
        where
          pick : ((i ≡ x) × (Some d ≡ Some a)) ⊎ ((i ≡ x → ⊥) × (slice_get vs i ≡ Some (Some a))) → Fits i s a
          pick (inl q) =
              let same : t ≡ s = some-inj (sym type ∙ ap (slice_get ts) (sym q.0) ∙ is) in
              subst (λ (j : ℕ). Fits j s a) (sym q.0) (subst (λ (r : Ty). Fits x r a) same (subst (λ (b : Value Name). Fits x t b) (some-inj q.1) comes))
          pick (inr q) =
              subst (λ (ls : Labels). value_fits h (λ p n. var_may_lead p (OfVariable w k i) z (ls n)) s a ≡ true) (sym m.so)
              (one-carry u labels h ρ m.good w w k k i i z z s a (m.stay w k i) (m.own z) (fit.each i s a is q.1))
