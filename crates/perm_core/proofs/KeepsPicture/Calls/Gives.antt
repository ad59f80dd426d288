-- The end of a recover block: the variables and the stack of its method fit the labels after it.
use Rattle.std.proofs.Common.{◌≡◌, ℕ, zero, suc, ◌+◌, ◌<◌, Bool, true, false, Option, Some, None, List, [], ◌∷◌, ◌++◌, length, refl, sym, ap, subst, ◌∙◌, inl, inr, arith}
use Rattle.std.specs.Prelude.{◌⊎◌, ◌&&◌, ◌||◌, not, nat_eq, cond, slice_get}
use Rattle.std.specs.List.{list_any}
use Rattle.std.proofs.Math.Bool.{and-false}
use Rattle.perm_tree.specs.declared.ast.Perm.{Perm}
use Rattle.perm_tree.specs.declared.ast.Perm.TheVariants.{Isolated, Immutable, Readable, Writable}
use Rattle.perm_tree.specs.declared.ast.Shape.{Shape}
use Rattle.perm_tree.specs.declared.ast.Ty.{Ty}
use Rattle.perm_tree.specs.declared.ast.Ty.TheVariants.{Ref}
use Rattle.perm_tree.specs.Code.{Code, UnitCode}
use Rattle.perm_tree.specs.CodeNames.{is_tied}
use Rattle.perm_tree.specs.Shapes.{same_shape}
use Rattle.perm_tree.specs.Vars.{Vars, those, minus, meet}
use Rattle.perm_perm.specs.Adaptation.{raised}
use Rattle.perm_perm.specs.Order.{is_at_most}
use Rattle.perm_rules.specs.Parts.{Context, type_of, if_known, is_isolated}
use Rattle.perm_rules.specs.Pars.{tied_vars, some_var}
use Rattle.perm_meaning.specs.Values.{Value}
use Rattle.perm_meaning.specs.Names.{Name}
use Rattle.perm_meaning.specs.Objects.{Objects}
use Rattle.perm_meaning.specs.Expressions.{tagged, assign, cleared_slot, clear, clear_all}
use Rattle.perm_meaning.specs.Custody.{from_either_at, from_either}
use Rattle.perm_meaning.specs.Machine.{Frame, Way}
use Rattle.perm_meaning.specs.NamedHeap.{Held}
use Rattle.perm_meaning.proofs.SameName.{eq-true}
use Rattle.perm_meaning.proofs.Leads.{some-inj, none-some}
use Rattle.perm_rules.specs.Scoping.{hides_tied}
use Rattle.perm_core.specs.Regions.{Zone, Base, Region, OwnOf, OfVariable, OfField, Labels, same_way, same_region, is_frozen, is_absent, var_may_lead, calls, zones, top_zone}
use Rattle.perm_core.specs.Picture.{context_of, value_fits, variables_fit, stack_fits, stack_hidden, hidden_above, has_value, valued, only_valued, object_fits}
use Rattle.perm_core.specs.NextPicture.{Moves, Ends, renamed, moved, is_rooted, goal, ended_to}
use Rattle.perm_core.proofs.Commute.LeadsTo.{frozen-true}
use Rattle.perm_core.proofs.KeepsPicture.Labels.Relabellings.{Good, good-none, good-then, good-ends, good-moves, of_variable, is-same, region-true, FieldsStay, object-carry, value-carry}
use Rattle.perm_core.proofs.KeepsPicture.Labels.CarriedValues.{AllFit, to-all, from-all, one-carry, stack-carry}
use Rattle.perm_core.proofs.KeepsPicture.Calls.CallEnds.{set-cases, set-length, StartsLow, top-low, nothing-below, get-less, only-hidden, any-left, any-right, stack-stays, own-outside, raised-leads}
use Rattle.perm_core.proofs.KeepsPicture.Calls.Returns.{value-into}

-- ---------- lists ----------
-- a variable with a value after some lost theirs is none of them, and had it before
pub clear-cases : (vs : List Held) (y x : ℕ) (a : Value Name) → slice_get (clear tagged vs y) x ≡ Some (Some a) → (x ≡ y → ⊥) × (slice_get vs x ≡ Some (Some a))
clear-cases vs y x a has = go (set-cases vs y (cleared_slot tagged (slice_get vs y)) x (Some a) has)
  where
    no-value : (o : Option Held) → cleared_slot tagged o ≡ Some a → ⊥
    no-value None e = none-some e
    no-value (Some v) e = none-some e

    go : ((x ≡ y) × (cleared_slot tagged (slice_get vs y) ≡ Some a)) ⊎ ((x ≡ y → ⊥) × (slice_get vs x ≡ Some (Some a))) → (x ≡ y → ⊥) × (slice_get vs x ≡ Some (Some a))
    go (inl q) = absurd (no-value (slice_get vs y) q.1)
    go (inr q) = q

not-equal : (x y : ℕ) → (x ≡ y → ⊥) → nat_eq x y ≡ false
not-equal x y n = go (nat_eq x y) refl
  where
    go : (t : Bool) → nat_eq x y ≡ t → nat_eq x y ≡ false
    go true e = absurd (n (eq-true x y e))
    go false e = e

pub clear_all-cases : (own : List ℕ) (vs : List Held) (x : ℕ) (a : Value Name) → slice_get (clear_all tagged vs own) x ≡ Some (Some a) → (those own x ≡ false) × (slice_get vs x ≡ Some (Some a))
clear_all-cases [] vs x a has = (refl, has)
clear_all-cases (y ∷ own) vs x a has =
    let later = clear_all-cases own (clear tagged vs y) x a has in
    let now = clear-cases vs y x a later.1 in
    (ap (λ t. t || list_any (nat_eq x) own) (not-equal x y now.0) ∙ later.0, now.1)

pub clear_all-length : (own : List ℕ) (vs : List Held) → length (clear_all tagged vs own) ≡ length vs
clear_all-length [] vs = refl
clear_all-length (y ∷ own) vs = clear_all-length own (clear tagged vs y) ∙ set-length vs y (cleared_slot tagged (slice_get vs y))

-- what stands in a list of two stands in the one or in the other
either-from : {A : Type 0} (G : Vars) (i : ℕ) (vs ws : List A) (x : ℕ) (a : A) → slice_get (from_either_at i G vs ws) x ≡ Some a → (y : ℕ) → y ≡ i + x → ((G y ≡ true) × (slice_get vs x ≡ Some a)) ⊎ ((G y ≡ false) × (slice_get ws x ≡ Some a))
either-from G i [] ws x a has y e = none-some has
either-from G i (v ∷ vs) [] x a has y e = none-some has
either-from G i (v ∷ vs) (w ∷ ws) zero a has y e = let same : i ≡ y = omega (arith, e) in subst (λ y. ((G y ≡ true) × (Some v ≡ Some a)) ⊎ ((G y ≡ false) × (Some w ≡ Some a))) same (go (G i) refl has)
  where
    go : (t : Bool) → G i ≡ t → Some (cond t v w) ≡ Some a → ((G i ≡ true) × (Some v ≡ Some a)) ⊎ ((G i ≡ false) × (Some w ≡ Some a))
    go true g q = inl (g, q)
    go false g q = inr (g, q)
either-from G i (v ∷ vs) (w ∷ ws) (suc x) a has y e = either-from G (suc i) vs ws x a has y (omega (arith, e))

pub either-cases : {A : Type 0} (G : Vars) (vs ws : List A) (x : ℕ) (a : A) → slice_get (from_either G vs ws) x ≡ Some a → ((G x ≡ true) × (slice_get vs x ≡ Some a)) ⊎ ((G x ≡ false) × (slice_get ws x ≡ Some a))
either-cases G vs ws x a has = either-from G 0 vs ws x a has x (omega arith)

either-length-from : {A : Type 0} (G : Vars) (i : ℕ) (vs ws : List A) → length vs ≡ length ws → length (from_either_at i G vs ws) ≡ length vs
either-length-from G i [] ws e = refl
either-length-from G i (v ∷ vs) [] e = absurd (let q : suc (length vs) ≡ 0 = e in omega (arith, q))
either-length-from G i (v ∷ vs) (w ∷ ws) e = let q : suc (length vs) ≡ suc (length ws) = e in ap (λ n. suc n) (either-length-from G (suc i) vs ws (omega (arith, q)))

pub either-length : {A : Type 0} (G : Vars) (vs ws : List A) → length vs ≡ length ws → length (from_either G vs ws) ≡ length vs
either-length G vs ws e = either-length-from G 0 vs ws e

-- ---------- the end of a recover block ----------
module _ (u : UnitCode) (labels : Labels) (h : Objects Name) (w : Way) (z : Zone) (st : List (Frame Held)) (low : StartsLow w z) (below : List ℕ) (rest : Code) (m v x : ℕ) (p q : Perm) (s t : Shape) (own hides : List ℕ) where
  abbrev j0 : ℕ
  j0 = zones st

  abbrev k0 : ℕ
  k0 = calls st

  abbrev zin : Zone
  zin = Base w (suc (zones st))

  abbrev zout : Zone
  zout = top_zone w z st

  abbrev c : Context
  c = context_of u m

  abbrev to : Region
  to = goal q (OfVariable w (calls st) x) (OwnOf (top_zone w z st))

  out : is_rooted w (suc j0) zout ≡ false
  out = top-low w z st j0 low (omega arith)

  -- where the given variable is isolated, its region moves
  abbrev pub first : Region → Region
  first r = moved (cond (is_isolated p) (Moves (OfVariable w (calls st) v) (goal q (OfVariable w (calls st) x) (OwnOf (top_zone w z st))) ∷ []) []) r

  -- and then the zone of the block ends
  abbrev pub ρ : Region → Region
  ρ r = renamed (Ends w (suc (zones st)) (ended_to (Some p) (goal q (OfVariable w (calls st) x) (OwnOf (top_zone w z st))))) (first r)

  to-there : (q : Perm) → is_absent (goal q (OfVariable w k0 x) (OwnOf zout)) ≡ false
  to-there Isolated = refl
  to-there Immutable = refl
  to-there Readable = refl
  to-there Writable = refl

  first-good : (p : Perm) → Good (λ r. moved (cond (is_isolated p) (Moves (OfVariable w k0 v) to ∷ []) []) r)
  first-good Isolated = good-moves (OfVariable w k0 v) to (of_variable w k0 v) (to-there q)
  first-good Immutable = good-none
  first-good Readable = good-none
  first-good Writable = good-none

  ended-there : (p : Perm) → is_absent (ended_to (Some p) to) ≡ false
  ended-there Isolated = refl
  ended-there Immutable = refl
  ended-there Readable = refl
  ended-there Writable = to-there q

  good : Good ρ
  good = good-then (λ r. first r) (renamed (Ends w (suc j0) (ended_to (Some p) to))) (first-good p) (good-ends w (suc j0) (ended_to (Some p) to) (ended-there p))

  -- another variable of the method, or one of a lower method, keeps its region
  var-stays : (i y : ℕ) → same_region (OfVariable w i y) (OfVariable w k0 v) ≡ false → ρ (OfVariable w i y) ≡ OfVariable w i y
  var-stays i y e = ap (renamed (Ends w (suc j0) (ended_to (Some p) to))) (go p)
    where
      go : (p : Perm) → moved (cond (is_isolated p) (Moves (OfVariable w k0 v) to ∷ []) []) (OfVariable w i y) ≡ OfVariable w i y
      go Isolated = ap (λ t. cond t to (OfVariable w i y)) e
      go Immutable = refl
      go Readable = refl
      go Writable = refl

  own-stays : (y : Zone) → is_rooted w (suc j0) y ≡ false → ρ (OwnOf y) ≡ OwnOf y
  own-stays y e = ap (renamed (Ends w (suc j0) (ended_to (Some p) to))) (go p) ∙ own-outside w j0 (ended_to (Some p) to) y e
    where
      go : (p : Perm) → moved (cond (is_isolated p) (Moves (OfVariable w k0 v) to ∷ []) []) (OwnOf y) ≡ OwnOf y
      go Isolated = refl
      go Immutable = refl
      go Readable = refl
      go Writable = refl

  fields-stay : FieldsStay u labels h ρ good
  fields-stay o f = inl (ap (renamed (Ends w (suc j0) (ended_to (Some p) to))) (go p))
    where
      go : (p : Perm) → moved (cond (is_isolated p) (Moves (OfVariable w k0 v) to ∷ []) []) (OfField o f) ≡ OfField o f
      go Isolated = refl
      go Immutable = refl
      go Readable = refl
      go Writable = refl

  beside : (y : ℕ) → (y ≡ v → ⊥) → same_region (OfVariable w k0 y) (OfVariable w k0 v) ≡ false
  beside y n = ap (λ t. same_way w w && (nat_eq k0 k0 && t)) (not-equal y v n) ∙ ap (λ t. same_way w w && t) (and-false (nat_eq k0 k0)) ∙ and-false (same_way w w)

  lower : (i y : ℕ) → i < k0 → same_region (OfVariable w i y) (OfVariable w k0 v) ≡ false
  lower i y l = ap (λ t. same_way w w && (t && nat_eq y v)) (not-equal i k0 (λ e. omega (arith, l, e))) ∙ and-false (same_way w w)

  -- the given value, step by step
  given-first : (p : Perm) (r : Region) → var_may_lead p (OfVariable w k0 v) zin r ≡ true → var_may_lead p to zin (moved (cond (is_isolated p) (Moves (OfVariable w k0 v) to ∷ []) []) r) ≡ true
  given-first Isolated r k = is-same (ap (λ t. cond t to r) k)
  given-first Immutable r k = k
  given-first Readable r k = k
  given-first Writable r k = k

  -- a value that isn't tied doesn't mind the zone
  untied : (a : Perm) (b : Shape) (y : ℕ) (r : Region) → is_tied (Ref a b) ≡ false → (y ≡ v → ⊥) → var_may_lead a (OfVariable w k0 y) zin r ≡ true → var_may_lead a (OfVariable w k0 y) zout (ρ r) ≡ true
  untied Isolated b y r e n k = is-same (ap (λ r. ρ r) (region-true r (OfVariable w k0 y) k) ∙ var-stays k0 y (beside y n))
  untied Immutable b y r e n k = ap (λ q. is_frozen q) (ap (λ r. ρ r) (frozen-true r k) ∙ good.fixed)
  untied Readable b y r e n k = absurd (let f : true ≡ false = e in cc)
  untied Writable b y r e n k = absurd (let f : true ≡ false = e in cc)

  abbrev pub after : Labels
  after n = ρ (labels n)

  module _ (vs saved : List Held) (val : Value Name) (U : Vars)
      (fits : variables_fit u labels h zin w k0 0 c.vars vs ≡ true) (fits-saved : variables_fit u labels h zout w k0 0 c.vars saved ≡ true)
      (hold : (y : ℕ) → valued vs y ≡ true → U y ≡ true) (right : hides_tied c (minus U (those own)) hides ≡ true)
      (type-v : type_of c v ≡ Some (Ref p s)) (type-x : type_of c x ≡ Some (Ref q t)) (shapes : same_shape s t ≡ true) (order : is_at_most (raised p) q ≡ true)
      (shown : those (hides ++ hidden_above below st) v ≡ false) (only : only_valued hides saved ≡ true) (has-v : slice_get vs v ≡ Some (Some val)) where
    before : AllFit u labels h zin w k0 c.vars vs
    before = to-all u labels h zin w k0 c.vars vs fits

    laid : AllFit u labels h zout w k0 c.vars saved
    laid = to-all u labels h zout w k0 c.vars saved fits-saved

    isnt-v : (y : ℕ) → those (hides ++ hidden_above below st) y ≡ true → y ≡ v → ⊥
    isnt-v y e f = let g : true ≡ false = sym e ∙ ap (λ y. those (hides ++ hidden_above below st) y) f ∙ shown in absurd (cc)

    -- an outer variable with a value that isn't hidden isn't tied
    plain : (y : ℕ) (ty : Ty) (a : Value Name) → type_of c y ≡ Some ty → slice_get vs y ≡ Some (Some a) → those own y ≡ false → those hides y ≡ false → is_tied ty ≡ false
    plain y ty a is has o hid =
        let none = nothing-below (length c.vars) (minus (meet (tied_vars c) (minus U (those own))) (those hides)) y (get-less c.vars y ty is) (not-true (some_var c (minus (meet (tied_vars c) (minus U (those own))) (those hides))) right) in
        go (is_tied ty) (those own y) (those hides y) (U y) o hid (hold y (ap (λ o. has_value o) has)) (sym (ap (λ o. (if_known o is_tied && (U y && not (those own y))) && not (those hides y)) is) ∙ none)
      where
        not-true : (b : Bool) → not b ≡ true → b ≡ false
        not-true true e = absurd (cc)
        not-true false e = refl

        go : (a b d e : Bool) → b ≡ false → d ≡ false → e ≡ true → (a && (e && not b)) && not d ≡ false → a ≡ false
        go false b d e o p q r = refl
        go true false false true o p q r = absurd (let f : true ≡ false = r in cc)
        go true true d e o p q r = absurd (let f : true ≡ false = o in cc)
        go true false true e o p q r = absurd (let f : true ≡ false = p in cc)
        go true false false false o p q r = absurd (let f : false ≡ true = q in cc)

    abbrev pub cleared : List Held
    cleared = clear_all tagged (clear tagged vs v) own

    abbrev pub given : List Held
    given = assign (from_either (those hides) saved cleared) x (Some val)

    from-block : (y : ℕ) (ty : Ty) (a : Value Name) → type_of c y ≡ Some ty → those hides y ≡ false → slice_get cleared y ≡ Some (Some a) → value_fits h (λ p n. var_may_lead p (OfVariable w k0 y) zout (after n)) ty a ≡ true
    from-block y ty a is hid has =
        let later = clear_all-cases own (clear tagged vs v) y a has in
        let now = clear-cases vs v y a later.1 in
        let tie : is_tied ty ≡ false = plain y ty a is now.1 later.0 hid in
        value-carry h (λ p n. var_may_lead p (OfVariable w k0 y) zin (labels n)) (λ p n. var_may_lead p (OfVariable w k0 y) zout (after n)) ty a
        (λ b d n e f. untied b d y (labels n) (ap (λ t. is_tied t) (sym e) ∙ tie) now.0 f) (before.each y ty a is now.1)

    from-saved : (y : ℕ) (ty : Ty) (a : Value Name) → type_of c y ≡ Some ty → slice_get saved y ≡ Some (Some a) → value_fits h (λ p n. var_may_lead p (OfVariable w k0 y) zout (after n)) ty a ≡ true
    from-saved y ty a is has =
        one-carry u labels h ρ good w w k0 k0 y y zout zout ty a
        (var-stays k0 y (beside y (isnt-v y (any-left y hides (hidden_above below st) (only-hidden hides saved y a only has))))) (own-stays zout out) (laid.each y ty a is has)

    the-given : value_fits h (λ p n. var_may_lead p (OfVariable w k0 x) zout (after n)) (Ref q t) val ≡ true
    the-given =
        value-into h (λ p n. var_may_lead p (OfVariable w k0 v) zin (labels n)) (λ p n. var_may_lead p (OfVariable w k0 x) zout (after n)) p q s t val shapes
        (λ n f. raised-leads w j0 p q s k0 x zout (first (labels n)) out order (given-first p (labels n) f)) (before.each v (Ref p s) val type-v has-v)

    each : (y : ℕ) (ty : Ty) (a : Value Name) → slice_get c.vars y ≡ Some ty → slice_get given y ≡ Some (Some a) → value_fits h (λ p n. var_may_lead p (OfVariable w k0 y) zout (after n)) ty a ≡ true
    each y ty a is has = go (set-cases (from_either (those hides) saved cleared) x (Some val) y (Some a) has)
      where
        either : ((those hides y ≡ true) × (slice_get saved y ≡ Some (Some a))) ⊎ ((those hides y ≡ false) × (slice_get cleared y ≡ Some (Some a))) → value_fits h (λ p n. var_may_lead p (OfVariable w k0 y) zout (after n)) ty a ≡ true
        either (inl e) = from-saved y ty a is e.1
        either (inr e) = from-block y ty a is e.0 e.1

        go : ((y ≡ x) × (Some val ≡ Some a)) ⊎ ((y ≡ x → ⊥) × (slice_get (from_either (those hides) saved cleared) y ≡ Some (Some a))) → value_fits h (λ p n. var_may_lead p (OfVariable w k0 y) zout (after n)) ty a ≡ true
        go (inr e) = either (either-cases (those hides) saved cleared y (Some a) e.1)
        go (inl e) =
            subst (λ y. value_fits h (λ p n. var_may_lead p (OfVariable w k0 y) zout (after n)) ty a ≡ true) (sym e.0)
            (subst (λ a. value_fits h (λ p n. var_may_lead p (OfVariable w k0 x) zout (after n)) ty a ≡ true) (some-inj e.1)
            (subst (λ ty. value_fits h (λ p n. var_may_lead p (OfVariable w k0 x) zout (after n)) ty val ≡ true) (some-inj (sym type-x ∙ ap (slice_get c.vars) (sym e.0) ∙ is)) the-given))

    lengths : length saved ≡ length cleared
    lengths = sym laid.lengths ∙ before.lengths ∙ sym (clear_all-length own (clear tagged vs v) ∙ set-length vs v (cleared_slot tagged (slice_get vs v)))

    -- the variables after the block
    pub given-fits : variables_fit u after h zout w k0 0 c.vars given ≡ true
    given-fits = from-all u after h zout w k0 c.vars given (record {
      lengths = laid.lengths ∙ sym (set-length (from_either (those hides) saved cleared) x (Some val) ∙ either-length (those hides) saved cleared lengths);
      each = each;
    })

    -- what stands below
    pub below-fits : stack_hidden below rest st ≡ true → stack_fits u labels h w z m st ≡ true → stack_fits u after h w z m st ≡ true
    below-fits hid e =
        stack-carry u labels h ρ good w z m st (stack-stays u labels h ρ good w z below rest st j0 (λ i y o. stays i y o) own-stays low (omega arith) hid) e
      where
        stays : (i y : ℕ) → (i < calls st) ⊎ ((i ≡ calls st) × (those (hidden_above below st) y ≡ true)) → ρ (OfVariable w i y) ≡ OfVariable w i y
        stays i y (inl l) = var-stays i y (lower i y l)
        stays i y (inr o) = subst (λ i. ρ (OfVariable w i y) ≡ OfVariable w i y) (sym o.0) (var-stays k0 y (beside y (isnt-v y (any-right y hides (hidden_above below st) o.1))))

    -- and the objects
    pub objects-fit : ((n : Name) → object_fits u labels h n (h n) ≡ true) → (n : Name) → object_fits u after h n (h n) ≡ true
    objects-fit all n = object-carry u labels h ρ good fields-stay n (h n) (all n)
