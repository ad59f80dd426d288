-- A change of labels that every link survives leaves variables as good as they were, where it leaves alone what they stand in.
use Rattle.std.proofs.Common.{◌≡◌, ℕ, zero, suc, ◌+◌, Bool, true, false, Option, Some, None, List, [], ◌∷◌, length, refl, sym, ap, subst, ◌∙◌, arith}
use Rattle.std.specs.Prelude.{◌&&◌, slice_get}
use Rattle.std.proofs.lemmas.Bool.{and_parts}
use Rattle.perm_tree.specs.declared.ast.Ty.{Ty}
use Rattle.perm_tree.specs.Code.{UnitCode, Tie, Shares, Raises, Lends}
use Rattle.perm_rules.specs.Parts.{type_of}
use Rattle.perm_meaning.specs.Values.{Value}
use Rattle.perm_meaning.specs.Names.{Name}
use Rattle.perm_meaning.specs.Objects.{Objects}
use Rattle.perm_meaning.specs.Machine.{Frame, OpenBlock, OpenRecover, OpenCall, Way}
use Rattle.perm_meaning.specs.NamedHeap.{Held}
use Rattle.perm_meaning.proofs.SameName.{together}
use Rattle.perm_meaning.proofs.Leads.{some-inj}
use Rattle.perm_core.specs.Regions.{Zone, Base, Region, OwnOf, OfVariable, Labels, same_region, var_may_lead, calls, zones, top_zone}
use Rattle.perm_core.specs.Picture.{context_of, value_fits, variable_fits, variables_fit, lent_right, lent_fits, result_fits, stack_fits}
use Rattle.perm_core.proofs.Commute.LeadsTo.{Holds, holds}
use Rattle.perm_core.proofs.KeepsPicture.Labels.Relabellings.{Good, is-same, region-true, var-carry, value-carry}

-- ---------- variables one by one ----------
-- there is one variable for each type, and each value fits its type
pub record AllFit (u : UnitCode) (labels : Labels) (h : Objects Name) (z : Zone) (w : Way) (k : ℕ) (ts : List Ty) (vs : List Held) : Type 0 where
  pub lengths : length ts ≡ length vs
  pub each : (x : ℕ) (t : Ty) (v : Value Name) → slice_get ts x ≡ Some t → slice_get vs x ≡ Some (Some v) → value_fits h (λ p n. var_may_lead p (OfVariable w k x) z (labels n)) t v ≡ true

module _ (u : UnitCode) (labels : Labels) (h : Objects Name) (z : Zone) (w : Way) (k : ℕ) where
  same-lengths : (x : ℕ) (ts : List Ty) (vs : List Held) → variables_fit u labels h z w k x ts vs ≡ true → length ts ≡ length vs
  same-lengths x [] [] e = refl
  same-lengths x [] (v ∷ vs) e = absurd (cc)
  same-lengths x (t ∷ ts) [] e = absurd (cc)
  same-lengths x (t ∷ ts) (v ∷ vs) e = ap (λ n. suc n) (same-lengths (suc x) ts vs (and_parts (variable_fits u labels h z w k x t v) (variables_fit u labels h z w k (suc x) ts vs) e).1)

  pub to-all : (ts : List Ty) (vs : List Held) → variables_fit u labels h z w k 0 ts vs ≡ true → AllFit u labels h z w k ts vs
  to-all ts vs e = record { lengths = same-lengths 0 ts vs e; each = λ x t v is has. one x t v is (holds u labels h w z k ts vs x v e has) }
    where
      one : (x : ℕ) (t : Ty) (v : Value Name) → slice_get ts x ≡ Some t → Holds u labels h w z k (slice_get ts x) x v → value_fits h (λ p n. var_may_lead p (OfVariable w k x) z (labels n)) t v ≡ true
      one x t v is d = subst (λ t. value_fits h (λ p n. var_may_lead p (OfVariable w k x) z (labels n)) t v ≡ true) (some-inj (sym d.is ∙ is)) d.fits

  from-number : (x : ℕ) (ts : List Ty) (vs : List Held) → length ts ≡ length vs
      → ((i : ℕ) (t : Ty) (v : Value Name) → slice_get ts i ≡ Some t → slice_get vs i ≡ Some (Some v) → (y : ℕ) → y ≡ x + i → value_fits h (λ p n. var_may_lead p (OfVariable w k y) z (labels n)) t v ≡ true)
      → variables_fit u labels h z w k x ts vs ≡ true
  from-number x [] [] e all = refl
  from-number x [] (v ∷ vs) e all = absurd (let no : 0 ≡ suc (length vs) = e in omega (arith, no))
  from-number x (t ∷ ts) [] e all = absurd (let no : suc (length ts) ≡ 0 = e in omega (arith, no))
  from-number x (t ∷ ts) (v ∷ vs) e all =
      let less : suc (length ts) ≡ suc (length vs) = e in
      together (variable_fits u labels h z w k x t v) (variables_fit u labels h z w k (suc x) ts vs)
      (first v (λ a q. all zero t a refl (ap (λ s. Some s) q) x (omega arith)))
      (from-number (suc x) ts vs (omega (arith, less)) (λ i s a is has y q. all (suc i) s a is has y (omega (arith, q))))
    where
      first : (v : Held) → ((a : Value Name) → v ≡ Some a → value_fits h (λ p n. var_may_lead p (OfVariable w k x) z (labels n)) t a ≡ true) → variable_fits u labels h z w k x t v ≡ true
      first None f = refl
      first (Some a) f = f a refl

  pub from-all : (ts : List Ty) (vs : List Held) → AllFit u labels h z w k ts vs → variables_fit u labels h z w k 0 ts vs ≡ true
  from-all ts vs d = from-number 0 ts vs d.lengths (λ i t v is has y q. let same : y ≡ i = omega (arith, q) in subst (λ y. value_fits h (λ p n. var_may_lead p (OfVariable w k y) z (labels n)) t v ≡ true) (sym same) (d.each i t v is has))

-- ---------- what is carried ----------
module _ (u : UnitCode) (labels : Labels) (h : Objects Name) (ρ : Region → Region) (good : Good ρ) where
  abbrev after : Labels
  after n = ρ (labels n)

  -- one value, into the place of a variable whose region and zone are those of its own after the change
  pub one-carry : (w w' : Way) (k k' x y : ℕ) (z z' : Zone) (t : Ty) (v : Value Name) → ρ (OfVariable w k x) ≡ OfVariable w' k' y → ρ (OwnOf z) ≡ OwnOf z'
      → value_fits h (λ p n. var_may_lead p (OfVariable w k x) z (labels n)) t v ≡ true → value_fits h (λ p n. var_may_lead p (OfVariable w' k' y) z' (after n)) t v ≡ true
  one-carry w w' k k' x y z z' t v o e fits =
      value-carry h (λ p n. var_may_lead p (OfVariable w k x) z (labels n)) (λ p n. var_may_lead p (OfVariable w' k' y) z' (after n)) t v
      (λ p s n is q. var-carry ρ good p (OfVariable w k x) (OfVariable w' k' y) z z' (labels n) o e q) fits

  -- the region of each variable with a value stays
  abbrev pub VarsStay : Way → ℕ → List Held → Type 0
  VarsStay w k vs = (x : ℕ) (v : Value Name) → slice_get vs x ≡ Some (Some v) → ρ (OfVariable w k x) ≡ OfVariable w k x

  pub variables-carry : (w : Way) (k : ℕ) (z : Zone) (ts : List Ty) (vs : List Held) → VarsStay w k vs → ρ (OwnOf z) ≡ OwnOf z → variables_fit u labels h z w k 0 ts vs ≡ true → variables_fit u after h z w k 0 ts vs ≡ true
  variables-carry w k z ts vs stay own e =
      let d = to-all u labels h z w k ts vs e in
      from-all u after h z w k ts vs (record { lengths = d.lengths; each = λ x t v is has. one-carry w w k k x x z z t v (stay x v has) own (d.each x t v is has) })

  -- ---------- stacks ----------
  -- the zone of a call that lends stays
  abbrev pub LentStays : Way → Tie → ℕ → Type 0
  LentStays w Lends j = ρ (OwnOf (Base w (suc j))) ≡ OwnOf (Base w (suc j))
  LentStays w Shares j = Unit {0}
  LentStays w Raises j = Unit {0}

  -- what stands below the code of a branch is left alone
  abbrev pub StackStays : Way → Zone → List (Frame Held) → Type 0
  StackStays w z [] = Unit {0}
  StackStays w z (OpenBlock own rest ∷ st) = StackStays w z st
  StackStays w z (OpenRecover own hides saved rest ∷ st) = VarsStay w (calls st) saved × (ρ (OwnOf (top_zone w z st)) ≡ OwnOf (top_zone w z st)) × StackStays w z st
  StackStays w z (OpenCall tie into y saved lent caller rest ∷ st) =
      VarsStay w (calls st) saved × (ρ (OwnOf (top_zone w z st)) ≡ OwnOf (top_zone w z st)) × LentStays w tie (zones st) × StackStays w z st

  lent-carry : (w : Way) (tie : Tie) (j : ℕ) (t : Option Ty) (lent : Option Held) → LentStays w tie j → lent_right u labels h tie t lent && lent_fits u labels h (Base w (suc j)) t lent ≡ true → lent_right u after h tie t lent && lent_fits u after h (Base w (suc j)) t lent ≡ true
  lent-carry w tie j t None stay e = e
  lent-carry w Shares j t (Some v) stay e = absurd (cc)
  lent-carry w Raises j t (Some v) stay e = absurd (cc)
  lent-carry w Lends j None (Some v) stay e = absurd (cc)
  lent-carry w Lends j (Some t) (Some None) stay e = let x = and_parts (lent_right u labels h Lends (Some t) (Some None)) false e in absurd (let no : false ≡ true = x.1 in cc)
  lent-carry w Lends j (Some t) (Some (Some v)) stay e =
      let before : Bool = value_fits h (λ p n. same_region (labels n) (OwnOf (Base w (suc j)))) t v in
      let x = and_parts (lent_right u labels h Lends (Some t) (Some (Some v))) before e in
      together (lent_right u after h Lends (Some t) (Some (Some v))) (value_fits h (λ p n. same_region (after n) (OwnOf (Base w (suc j)))) t v) x.0
      (value-carry h (λ p n. same_region (labels n) (OwnOf (Base w (suc j)))) (λ p n. same_region (after n) (OwnOf (Base w (suc j)))) t v (λ p s n is q. is-same (ap ρ (region-true (labels n) (OwnOf (Base w (suc j))) q) ∙ stay)) x.1)

  pub stack-carry : (w : Way) (z : Zone) (m : ℕ) (st : List (Frame Held)) → StackStays w z st → stack_fits u labels h w z m st ≡ true → stack_fits u after h w z m st ≡ true
  stack-carry w z m [] stay e = refl
  stack-carry w z m (OpenBlock own rest ∷ st) stay e = stack-carry w z m st stay e
  stack-carry w z m (OpenRecover own hides saved rest ∷ st) stay e =
      let ts = (context_of u m).vars in
      let x = and_parts (variables_fit u labels h (top_zone w z st) w (calls st) 0 ts saved) (stack_fits u labels h w z m st) e in
      together (variables_fit u after h (top_zone w z st) w (calls st) 0 ts saved) (stack_fits u after h w z m st)
      (variables-carry w (calls st) (top_zone w z st) ts saved stay.0 stay.1 x.0) (stack-carry w z m st stay.2 x.1)
  stack-carry w z m (OpenCall tie into y saved lent caller rest ∷ st) stay e =
      let ts = (context_of u caller).vars in
      let t = type_of (context_of u caller) y in
      let lends = lent_right u labels h tie t lent && lent_fits u labels h (Base w (suc (zones st))) t lent in
      let lends' = lent_right u after h tie t lent && lent_fits u after h (Base w (suc (zones st))) t lent in
      let result = result_fits u labels h tie (context_of u m).result into caller in
      let x = and_parts (variables_fit u labels h (top_zone w z st) w (calls st) 0 ts saved) (lends && (result && stack_fits u labels h w z caller st)) e in
      let y = and_parts lends (result && stack_fits u labels h w z caller st) x.1 in
      let r = and_parts result (stack_fits u labels h w z caller st) y.1 in
      together (variables_fit u after h (top_zone w z st) w (calls st) 0 ts saved) (lends' && (result_fits u after h tie (context_of u m).result into caller && stack_fits u after h w z caller st))
      (variables-carry w (calls st) (top_zone w z st) ts saved stay.0 stay.1 x.0)
      (together lends' (result_fits u after h tie (context_of u m).result into caller && stack_fits u after h w z caller st) (lent-carry w tie (zones st) t lent stay.2 y.0)
      (together (result_fits u after h tie (context_of u m).result into caller) (stack_fits u after h w z caller st) (same-result tie (context_of u m).result into caller r.0) (stack-carry w z caller st stay.3 r.1)))
    where
      same-result : (tie : Tie) (t : Ty) (into : Option ℕ) (caller : ℕ) → result_fits u labels h tie t into caller ≡ true → result_fits u after h tie t into caller ≡ true
      same-result Lends t None caller e = e
      same-result Lends t (Some x) caller e = e
      same-result Shares t None caller e = e
      same-result Shares t (Some x) caller e = e
      same-result Raises t None caller e = e
      same-result Raises t (Some x) caller e = e
