-- The start of a par in each mode: the variables of both sides and of the parent, and its stack, fit the labels after it.
use Rattle.std.proofs.Common.{◌≡◌, ℕ, zero, suc, ◌+◌, Bool, true, false, Some, None, List, [], ◌∷◌, length, refl, sym, ap, subst, ◌∙◌, inl, arith}
use Rattle.std.specs.Prelude.{◌&&◌, not, nat_eq, cond, slice_get}
use Rattle.perm_tree.specs.declared.ast.Perm.{Perm}
use Rattle.perm_tree.specs.declared.ast.Perm.TheVariants.{Isolated, Immutable, Readable, Writable}
use Rattle.perm_tree.specs.declared.ast.Shape.{Shape}
use Rattle.perm_tree.specs.declared.ast.Ty.{Ty}
use Rattle.perm_tree.specs.declared.ast.Ty.TheVariants.{Ref}
use Rattle.perm_tree.specs.Code.{UnitCode}
use Rattle.perm_tree.specs.Vars.{Vars}
use Rattle.perm_rules.specs.Parts.{Context, type_of}
use Rattle.perm_meaning.specs.Values.{Value}
use Rattle.perm_meaning.specs.Names.{Name}
use Rattle.perm_meaning.specs.Objects.{Objects}
use Rattle.perm_meaning.specs.Expressions.{tagged}
use Rattle.perm_meaning.specs.Custody.{only_at, only}
use Rattle.perm_meaning.specs.Machine.{Way}
use Rattle.perm_meaning.specs.NamedHeap.{Held}
use Rattle.perm_meaning.proofs.Leads.{some-inj, none-some}
use Rattle.perm_core.specs.Regions.{Zone, Under, Region, OwnOf, OfVariable, OfField, Labels, same_way, same_region, is_visible, may_read, var_may_lead}
use Rattle.perm_core.specs.Picture.{value_fits, variables_fit, object_fits}
use Rattle.perm_core.specs.NextPicture.{Renamings, moved, isolated_among, handed}
use Rattle.perm_core.proofs.KeepsPicture.Labels.Relabellings.{Good, good-then, good-all, Sees, frozen, within, across, sees, visible, own-inj, zone-same, is-same, region-true, FieldsStay, object-carry, value-carry, var-carry, tied-carry}
use Rattle.perm_core.proofs.KeepsPicture.Labels.CarriedValues.{AllFit, to-all, from-all}
use Rattle.perm_core.proofs.KeepsPicture.Pars.Joins.{handed-other, handed-at, handed-off, handed-good, among-has, among-only}
use Rattle.std.proofs.lemmas.Bool.{or_left, or_right}

-- ---------- lists ----------
only-from : (G : Vars) (i : ℕ) (vs : List Held) (x : ℕ) (a : Value Name) → slice_get (only_at tagged i G vs) x ≡ Some (Some a) → (y : ℕ) → y ≡ i + x → (G y ≡ true) × (slice_get vs x ≡ Some (Some a))
only-from G i [] x a has y e = none-some has
only-from G i (v ∷ vs) zero a has y e = let same : i ≡ y = omega (arith, e) in subst (λ y. (G y ≡ true) × (Some v ≡ Some (Some a))) same (go (G i) refl has)
  where
    go : (t : Bool) → G i ≡ t → Some (cond t v None) ≡ Some (Some a) → (G i ≡ true) × (Some v ≡ Some (Some a))
    go true g q = (g, q)
    go false g q = absurd (let f : None ≡ Some a = some-inj q in cc)
only-from G i (v ∷ vs) (suc x) a has y e = only-from G (suc i) vs x a has y (omega (arith, e))

-- a variable with a value after all but some lost theirs is one of those, and had it before
pub only-cases : (G : Vars) (vs : List Held) (x : ℕ) (a : Value Name) → slice_get (only tagged G vs) x ≡ Some (Some a) → (G x ≡ true) × (slice_get vs x ≡ Some (Some a))
only-cases G vs x a has = only-from G 0 vs x a has x (omega arith)

pub only-length : (G : Vars) (i : ℕ) (vs : List Held) → length (only_at tagged i G vs) ≡ length vs
only-length G i [] = refl
only-length G i (v ∷ vs) = ap (λ n. suc n) (only-length G (suc i) vs)

-- ---------- zones ----------
-- what may be read from a zone may be read from one under it
under-reads : (v : Way) (z : Zone) (r : Region) → is_visible (OwnOf z) r ≡ true → is_visible (OwnOf (Under v z)) r ≡ true
under-reads v z r e = visible (OwnOf (Under v z)) r (go (sees (OwnOf z) r e))
  where
    go : Sees (OwnOf z) r → Sees (OwnOf (Under v z)) r
    go (frozen q) = frozen q
    go (within q) = across (Under v z) z refl q (or_left _ (may_read z z) (zone-same z))
    go (across y x f q k) = across (Under v z) x refl q (or_right _ (may_read z x) (ap (λ y. may_read y x) (own-inj f) ∙ k))

-- a variable of this permission may go to a side that begins so: one in the parent's zone takes all, one that may read the parent's zone none that is writable, and one that stands alone none that is tied
pub data MayGo (p : Perm) (z : Zone) : Zone → Type 0 where
  stays : MayGo p z z
  reads : (v : Way) → (p ≡ Writable → ⊥) → MayGo p z (Under v z)
  alone : (y : Zone) → (p ≡ Writable → ⊥) → (p ≡ Readable → ⊥) → MayGo p z y

-- a value that isn't isolated leads from the side's zone where it led from the parent's
pub goes-in : (p : Perm) (z y : Zone) (e e' : Region) (r : Region) → (p ≡ Isolated → ⊥) → MayGo p z y → var_may_lead p e z r ≡ true → var_may_lead p e' y r ≡ true
goes-in Isolated z y e e' r n m k = absurd (n refl)
goes-in Immutable z y e e' r n m k = k
goes-in Writable z y e e' r n stays k = k
goes-in Writable z y e e' r n (reads v w) k = absurd (w refl)
goes-in Writable z y e e' r n (alone y' w d) k = absurd (w refl)
goes-in Readable z y e e' r n stays k = k
goes-in Readable z y e e' r n (reads v w) k = under-reads v z r k
goes-in Readable z y e e' r n (alone y' w d) k = absurd (d refl)

-- ---------- the start ----------
module _ (u : UnitCode) (labels : Labels) (h : Objects Name) (w l r : Way) (zp : Zone) (k : ℕ) (c : Context) (a b : Vars)
    (apart-l : same_way l w ≡ false) (apart-r : same_way r w ≡ false) (one_side : (x : ℕ) (s : Shape) → type_of c x ≡ Some (Ref Isolated s) → a x ≡ true → b x ≡ true → ⊥) where
  abbrev pub to_l : Renamings
  to_l = handed u labels w k l 0 (isolated_among u labels c a)

  abbrev pub to_r : Renamings
  to_r = handed u labels w k r 0 (isolated_among u labels c b)

  abbrev pub ρ : Region → Region
  ρ x = moved (handed u labels w k r 0 (isolated_among u labels c b)) (moved (handed u labels w k l 0 (isolated_among u labels c a)) x)

  pub good : Good ρ
  good = good-then (λ x. moved to_l x) (λ x. moved to_r x) (good-all to_l (handed-good u labels w k l 0 (isolated_among u labels c a))) (good-all to_r (handed-good u labels w k r 0 (isolated_among u labels c b)))

  off-way : (v v' : Way) (i i' x x' : ℕ) → same_way v v' ≡ false → same_region (OfVariable v i x) (OfVariable v' i' x') ≡ false
  off-way v v' i i' x x' e = ap (λ t. t && (nat_eq i i' && nat_eq x x')) e

  pub stays-put : (q : Region) → ((x : ℕ) → same_region q (OfVariable w k x) ≡ false) → ρ q ≡ q
  stays-put q e = ap (λ q. moved to_r q) (handed-other u labels w k l 0 (isolated_among u labels c a) q e) ∙ handed-other u labels w k r 0 (isolated_among u labels c b) q e

  pub own-stays : (y : Zone) → ρ (OwnOf y) ≡ OwnOf y
  own-stays y = stays-put (OwnOf y) (λ x. refl)

  pub fields-stay : FieldsStay u labels h ρ good
  fields-stay o f = inl (stays-put (OfField o f) (λ x. refl))

  goes-left : (x : ℕ) (s : Shape) → type_of c x ≡ Some (Ref Isolated s) → a x ≡ true → ρ (OfVariable w k x) ≡ OfVariable l 0 x
  goes-left x s is e =
      ap (λ q. moved to_r q) (handed-at u labels w k l 0 (isolated_among u labels c a) x (λ i j. off-way l w 0 k i j apart-l) (among-has u labels c a x s is e))
      ∙ handed-other u labels w k r 0 (isolated_among u labels c b) (OfVariable l 0 x) (λ y. off-way l w 0 k x y apart-l)

  goes-right : (x : ℕ) (s : Shape) → type_of c x ≡ Some (Ref Isolated s) → b x ≡ true → ρ (OfVariable w k x) ≡ OfVariable r 0 x
  goes-right x s is e =
      ap (λ q. moved to_r q) (handed-off u labels w k l 0 (isolated_among u labels c a) x (among-only u labels c a x (not-left (a x) refl)))
      ∙ handed-at u labels w k r 0 (isolated_among u labels c b) x (λ i j. off-way r w 0 k i j apart-r) (among-has u labels c b x s is e)
    where
      not-left : (t : Bool) → a x ≡ t → a x ≡ false
      not-left true q = absurd (one_side x s is q e)
      not-left false q = q

  -- an isolated variable that stands in neither block
  pub keeps : (x : ℕ) → a x ≡ false → b x ≡ false → ρ (OfVariable w k x) ≡ OfVariable w k x
  keeps x p q =
      ap (λ q. moved to_r q) (handed-off u labels w k l 0 (isolated_among u labels c a) x (among-only u labels c a x p))
      ∙ handed-off u labels w k r 0 (isolated_among u labels c b) x (among-only u labels c b x q)

  abbrev pub after : Labels
  after n = ρ (labels n)

  -- a side's variables: those of a set, each of which may go to the side's zone
  module _ (vs : List Held) (fits : variables_fit u labels h zp w k 0 c.vars vs ≡ true) where
    mine : AllFit u labels h zp w k c.vars vs
    mine = to-all u labels h zp w k c.vars vs fits

    side-fits : (v : Way) (y : Zone) (G : Vars) → ((x : ℕ) (s : Shape) → type_of c x ≡ Some (Ref Isolated s) → G x ≡ true → ρ (OfVariable w k x) ≡ OfVariable v 0 x)
        → ((x : ℕ) (p : Perm) (s : Shape) → type_of c x ≡ Some (Ref p s) → G x ≡ true → MayGo p zp y) → variables_fit u after h y v 0 0 c.vars (only tagged G vs) ≡ true
    side-fits v y G isolated may = from-all u after h y v 0 c.vars (only tagged G vs) (record { lengths = mine.lengths ∙ sym (only-length G 0 vs); each = each })
      where
        each : (x : ℕ) (t : Ty) (q : Value Name) → slice_get c.vars x ≡ Some t → slice_get (only tagged G vs) x ≡ Some (Some q) → value_fits h (λ p n. var_may_lead p (OfVariable v 0 x) y (after n)) t q ≡ true
        each x t q is has =
            let d = only-cases G vs x q has in
            value-carry h (λ p n. var_may_lead p (OfVariable w k x) zp (labels n)) (λ p n. var_may_lead p (OfVariable v 0 x) y (after n)) t q
            (λ p s n e f. by_perm p s n (is ∙ ap (λ t. Some t) e) d.0 f) (mine.each x t q is d.1)
          where
            tied : (p : Perm) (s : Shape) (n : Name) → (p ≡ Isolated → ⊥) → type_of c x ≡ Some (Ref p s) → G x ≡ true → var_may_lead p (OfVariable w k x) zp (labels n) ≡ true → var_may_lead p (OfVariable v 0 x) y (after n) ≡ true
            tied p s n not e g f = goes-in p zp y (OfVariable w k x) (OfVariable v 0 x) (after n) not (may x p s e g) (tied-carry ρ good p (OfVariable w k x) (OfVariable w k x) zp zp (labels n) not (own-stays zp) f)

            by_perm : (p : Perm) (s : Shape) (n : Name) → type_of c x ≡ Some (Ref p s) → G x ≡ true → var_may_lead p (OfVariable w k x) zp (labels n) ≡ true → var_may_lead p (OfVariable v 0 x) y (after n) ≡ true
            by_perm Isolated s n e g f = is-same (ap (λ r. ρ r) (region-true (labels n) (OfVariable w k x) f) ∙ isolated x s e g)
            by_perm Immutable s n e g f = tied Immutable s n (λ d. absurd (cc)) e g f
            by_perm Readable s n e g f = tied Readable s n (λ d. absurd (cc)) e g f
            by_perm Writable s n e g f = tied Writable s n (λ d. absurd (cc)) e g f

    pub left-fits : (y : Zone) → ((x : ℕ) (p : Perm) (s : Shape) → type_of c x ≡ Some (Ref p s) → a x ≡ true → MayGo p zp y) → variables_fit u after h y l 0 0 c.vars (only tagged a vs) ≡ true
    left-fits y may = side-fits l y a goes-left may

    pub right-fits : (y : Zone) → ((x : ℕ) (p : Perm) (s : Shape) → type_of c x ≡ Some (Ref p s) → b x ≡ true → MayGo p zp y) → variables_fit u after h y r 0 0 c.vars (only tagged b vs) ≡ true
    right-fits y may = side-fits r y b goes-right may

    -- the parent keeps no isolated variable that stands in a block
    pub parent-fits : (G : Vars) → ((x : ℕ) (s : Shape) → type_of c x ≡ Some (Ref Isolated s) → G x ≡ true → (a x ≡ false) × (b x ≡ false)) → variables_fit u after h zp w k 0 c.vars (only tagged G vs) ≡ true
    parent-fits G out = from-all u after h zp w k c.vars (only tagged G vs) (record { lengths = mine.lengths ∙ sym (only-length G 0 vs); each = each })
      where
        each : (x : ℕ) (t : Ty) (q : Value Name) → slice_get c.vars x ≡ Some t → slice_get (only tagged G vs) x ≡ Some (Some q) → value_fits h (λ p n. var_may_lead p (OfVariable w k x) zp (after n)) t q ≡ true
        each x t q is has =
            let d = only-cases G vs x q has in
            value-carry h (λ p n. var_may_lead p (OfVariable w k x) zp (labels n)) (λ p n. var_may_lead p (OfVariable w k x) zp (after n)) t q
            (λ p s n e f. by_perm p s n (is ∙ ap (λ t. Some t) e) d.0 f) (mine.each x t q is d.1)
          where
            by_perm : (p : Perm) (s : Shape) (n : Name) → type_of c x ≡ Some (Ref p s) → G x ≡ true → var_may_lead p (OfVariable w k x) zp (labels n) ≡ true → var_may_lead p (OfVariable w k x) zp (after n) ≡ true
            by_perm Isolated s n e g f = let o = out x s e g in var-carry ρ good Isolated (OfVariable w k x) (OfVariable w k x) zp zp (labels n) (keeps x o.0 o.1) (own-stays zp) f
            by_perm Immutable s n e g f = tied-carry ρ good Immutable (OfVariable w k x) (OfVariable w k x) zp zp (labels n) (λ d. absurd (cc)) (own-stays zp) f
            by_perm Readable s n e g f = tied-carry ρ good Readable (OfVariable w k x) (OfVariable w k x) zp zp (labels n) (λ d. absurd (cc)) (own-stays zp) f
            by_perm Writable s n e g f = tied-carry ρ good Writable (OfVariable w k x) (OfVariable w k x) zp zp (labels n) (λ d. absurd (cc)) (own-stays zp) f

  pub objects-fit : ((n : Name) → object_fits u labels h n (h n) ≡ true) → (n : Name) → object_fits u after h n (h n) ≡ true
  objects-fit all n = object-carry u labels h ρ good fields-stay n (h n) (all n)
