-- The end of a call, whatever its tie: the variables and the stack of its caller fit the labels after it.
use Rattle.std.proofs.Common.{◌≡◌, ℕ, suc, Bool, true, false, Option, Some, None, List, length, refl, sym, ap, subst, ◌∙◌, inl, inr, arith}
use Rattle.std.specs.Prelude.{◌⊎◌, ◌&&◌, not, slice_get}
use Rattle.std.proofs.lemmas.Bool.{and_parts}
use Rattle.perm_tree.specs.declared.ast.Perm.{Perm}
use Rattle.perm_tree.specs.declared.ast.Perm.TheVariants.{Isolated, Immutable, Readable, Writable}
use Rattle.perm_tree.specs.declared.ast.Shape.{Shape}
use Rattle.perm_tree.specs.declared.ast.Shape.TheVariants.{Class, Array}
use Rattle.perm_tree.specs.declared.ast.Ty.{Ty}
use Rattle.perm_tree.specs.declared.ast.Ty.TheVariants.{Long, Bool as Boolean, Ref}
use Rattle.perm_tree.specs.Code.{Code, UnitCode, Tie, Shares, Raises, Lends}
use Rattle.perm_tree.specs.CodeNames.{is_tied}
use Rattle.perm_tree.specs.Shapes.{same_shape}
use Rattle.perm_perm.specs.Adaptation.{raised}
use Rattle.perm_perm.specs.Order.{is_at_most}
use Rattle.perm_perm.specs.Types.{fits, raised_type}
use Rattle.perm_rules.specs.Parts.{type_of, if_both_known}
use Rattle.perm_rules.specs.Permissions.{call_type}
use Rattle.perm_meaning.specs.Values.{Value, Number, Truth, Null, Reference}
use Rattle.perm_meaning.specs.Names.{Name}
use Rattle.perm_meaning.specs.Objects.{Objects}
use Rattle.perm_meaning.specs.Expressions.{assign_into}
use Rattle.perm_meaning.specs.Turns.{lent_back}
use Rattle.perm_meaning.specs.Machine.{Frame, Way}
use Rattle.perm_meaning.specs.NamedHeap.{Held}
use Rattle.perm_meaning.proofs.SameName.{together, eq-true, eq-itself}
use Rattle.perm_meaning.proofs.Leads.{some-inj, none-some}
use Rattle.perm_core.specs.Regions.{Zone, Base, Region, OwnOf, OfVariable, Labels, same_region, is_absent, var_may_lead, calls, zones, top_zone}
use Rattle.perm_core.specs.Picture.{context_of, has_shape, value_fits, variables_fit, lent_right, lent_fits, result_fits, stack_fits, stack_hidden, object_fits}
use Rattle.perm_core.specs.NextPicture.{Ends, renamed, moved, is_rooted, goal, goal_of, goal_into, perm_of, ended_to, tie_moves}
use Rattle.perm_core.proofs.KeepsPicture.Labels.Relabellings.{Good, good-none, good-ends, is-same, region-true, FieldsStay, object-carry}
use Rattle.perm_core.proofs.KeepsPicture.Labels.CarriedValues.{AllFit, to-all, from-all, one-carry, stack-carry}
use Rattle.perm_core.proofs.KeepsPicture.Calls.CallEnds.{set-cases, set-length, StartsLow, top-low, stack-stays, into-there, weaker, own-outside, own-inside, raised-leads, lending-leads}

-- ---------- values ----------
pub shape-true : (s t : Shape) → same_shape s t ≡ true → s ≡ t
shape-true Array Array e = refl
shape-true Array (Class k) e = absurd (cc)
shape-true (Class j) Array e = absurd (cc)
shape-true (Class j) (Class k) e = ap (λ z. Class z) (eq-true j k e)

-- a value of one type comes into a variable of another of its kind
module _ (h : Objects Name) (test test' : Perm → Name → Bool) where
  pub value-into : (p q : Perm) (s t : Shape) (v : Value Name) → same_shape s t ≡ true → ((n : Name) → test p n ≡ true → test' q n ≡ true) → value_fits h test (Ref p s) v ≡ true → value_fits h test' (Ref q t) v ≡ true
  value-into p q s t Null e f k = refl
  value-into p q s t (Number n) e f k = absurd (cc)
  value-into p q s t (Truth b) e f k = absurd (cc)
  value-into p q s t (Reference n len) e f k =
      let x = and_parts (has_shape (h n) s len) (test p n) k in
      together (has_shape (h n) t len) (test' q n) (ap (λ s. has_shape (h n) s len) (sym (shape-true s t e)) ∙ x.0) (f n x.1)

  pub plain-into : (t : Ty) (v : Value Name) → fits Long t ≡ true → value_fits h test Long v ≡ true → value_fits h test' t v ≡ true
  plain-into Long (Number n) e k = refl
  plain-into Long (Truth b) e k = absurd (cc)
  plain-into Long Null e k = absurd (cc)
  plain-into Long (Reference n l) e k = absurd (cc)
  plain-into Boolean v e k = absurd (let no : false ≡ true = e in cc)
  plain-into (Ref p s) v e k = absurd (let no : false ≡ true = e in cc)

  pub truth-into : (t : Ty) (v : Value Name) → fits Boolean t ≡ true → value_fits h test Boolean v ≡ true → value_fits h test' t v ≡ true
  truth-into Boolean (Truth b) e k = refl
  truth-into Boolean (Number n) e k = absurd (cc)
  truth-into Boolean Null e k = absurd (cc)
  truth-into Boolean (Reference n l) e k = absurd (cc)
  truth-into Long v e k = absurd (let no : false ≡ true = e in cc)
  truth-into (Ref p s) v e k = absurd (let no : false ≡ true = e in cc)

module _ (u : UnitCode) (labels : Labels) (h : Objects Name) (w : Way) (z : Zone) (st : List (Frame Held)) (low : StartsLow w z) where
  abbrev j0 : ℕ
  j0 = zones st

  abbrev k0 : ℕ
  k0 = calls st

  abbrev zout : Zone
  zout = top_zone w z st

  out : is_rooted w (suc j0) zout ≡ false
  out = top-low w z st j0 low (omega arith)

  -- what the end of a call does to the labels
  abbrev pub ends_by : Tie → ℕ → Ty → Region → Region → Region
  ends_by tie y t to r = moved (tie_moves tie (zones st) w (calls st) y t to) r

  -- the zone of the call
  abbrev pub zone_in : Tie → Zone
  zone_in Shares = zout
  zone_in Raises = Base w (suc (zones st))
  zone_in Lends = Base w (suc (zones st))

  -- ---------- the change is good ----------
  ended-there : (t : Ty) (to : Region) → is_absent to ≡ false → is_absent (ended_to (perm_of (Some t)) to) ≡ false
  ended-there Long to e = refl
  ended-there Boolean to e = refl
  ended-there (Ref Isolated s) to e = refl
  ended-there (Ref Immutable s) to e = refl
  ended-there (Ref Readable s) to e = refl
  ended-there (Ref Writable s) to e = e

  pub ends-good : (tie : Tie) (y : ℕ) (t : Ty) (to : Region) → is_absent to ≡ false → Good (ends_by tie y t to)
  ends-good Shares y t to e = good-none
  ends-good Raises y t to e = good-ends w (suc j0) (ended_to (perm_of (Some t)) to) (ended-there t to e)
  ends-good Lends y t to e = good-ends w (suc j0) (OfVariable w k0 y) refl

  vars-stay : (tie : Tie) (y : ℕ) (t : Ty) (to : Region) (v : Way) (i x : ℕ) → ends_by tie y t to (OfVariable v i x) ≡ OfVariable v i x
  vars-stay Shares y t to v i x = refl
  vars-stay Raises y t to v i x = refl
  vars-stay Lends y t to v i x = refl

  own-stays : (tie : Tie) (y : ℕ) (t : Ty) (to : Region) (q : Zone) → is_rooted w (suc j0) q ≡ false → ends_by tie y t to (OwnOf q) ≡ OwnOf q
  own-stays Shares y t to q e = refl
  own-stays Raises y t to q e = own-outside w j0 (ended_to (perm_of (Some t)) to) q e
  own-stays Lends y t to q e = own-outside w j0 (OfVariable w k0 y) q e

  pub fields-stay : (tie : Tie) (y : ℕ) (t : Ty) (to : Region) (g : Good (ends_by tie y t to)) → FieldsStay u labels h (ends_by tie y t to) g
  fields-stay Shares y t to g o f = inl refl
  fields-stay Raises y t to g o f = inl refl
  fields-stay Lends y t to g o f = inl refl

  -- ---------- the result ----------
  -- the result of this type fits a variable of that one
  abbrev ResultFits : Tie → Ty → Ty → Type 0
  ResultFits Lends t s = (is_tied t ≡ false) × (fits t s ≡ true)
  ResultFits tie t s = fits (call_type tie t) s ≡ true

  result-comes : (tie : Tie) (y x : ℕ) (t s : Ty) (v : Value Name) → ResultFits tie t s
      → value_fits h (λ p n. var_may_lead p (goal_of (Some s) (OfVariable w k0 x) (OwnOf zout)) (zone_in tie) (labels n)) t v ≡ true
      → value_fits h (λ p n. var_may_lead p (OfVariable w k0 x) zout (ends_by tie y t (goal_of (Some s) (OfVariable w k0 x) (OwnOf zout)) (labels n))) s v ≡ true
  result-comes Shares y x Long s v e k = plain-into h (λ p n. true) _ s v e k
  result-comes Raises y x Long s v e k = plain-into h (λ p n. true) _ s v e k
  result-comes Lends y x Long s v e k = plain-into h (λ p n. true) _ s v e.1 k
  result-comes Shares y x Boolean s v e k = truth-into h (λ p n. true) _ s v e k
  result-comes Raises y x Boolean s v e k = truth-into h (λ p n. true) _ s v e k
  result-comes Lends y x Boolean s v e k = truth-into h (λ p n. true) _ s v e.1 k
  result-comes Shares y x (Ref p a) Long v e k = absurd (let no : false ≡ true = e in cc)
  result-comes Shares y x (Ref p a) Boolean v e k = absurd (let no : false ≡ true = e in cc)
  result-comes Raises y x (Ref p a) Long v e k = absurd (let no : false ≡ true = e in cc)
  result-comes Raises y x (Ref p a) Boolean v e k = absurd (let no : false ≡ true = e in cc)
  result-comes Lends y x (Ref p a) Long v e k = absurd (let no : false ≡ true = e.1 in cc)
  result-comes Lends y x (Ref p a) Boolean v e k = absurd (let no : false ≡ true = e.1 in cc)
  result-comes Shares y x (Ref p a) (Ref q b) v e k =
      let d = and_parts (same_shape a b) (is_at_most p q) e in
      value-into h (λ p n. var_may_lead p (goal q (OfVariable w k0 x) (OwnOf zout)) zout (labels n)) (λ p n. var_may_lead p (OfVariable w k0 x) zout (labels n)) p q a b v d.0 (λ n f. weaker p q (OfVariable w k0 x) zout (labels n) d.1 f) k
  result-comes Raises y x (Ref p a) (Ref q b) v e k =
      let d = and_parts (same_shape a b) (is_at_most (raised p) q) e in
      value-into h (λ p n. var_may_lead p (goal q (OfVariable w k0 x) (OwnOf zout)) (Base w (suc j0)) (labels n))
      (λ r n. var_may_lead r (OfVariable w k0 x) zout (renamed (Ends w (suc j0) (ended_to (Some p) (goal q (OfVariable w k0 x) (OwnOf zout)))) (labels n))) p q a b v d.0
      (λ n f. raised-leads w j0 p q a k0 x zout (labels n) out d.1 f) k
  result-comes Lends y x (Ref p a) (Ref q b) v e k =
      let d = and_parts (same_shape a b) (is_at_most p q) e.1 in
      value-into h (λ p n. var_may_lead p (goal q (OfVariable w k0 x) (OwnOf zout)) (Base w (suc j0)) (labels n))
      (λ r n. var_may_lead r (OfVariable w k0 x) zout (renamed (Ends w (suc j0) (OfVariable w k0 y)) (labels n))) p q a b v d.0
      (λ n f. lending-leads w j0 p q a (OfVariable w k0 y) k0 x zout (labels n) out e.0 d.1 f) k

  -- ---------- what was lent ----------
  lent-comes : (tie : Tie) (y : ℕ) (t ty : Ty) (to : Region) (v : Value Name) (o : Option Ty) → o ≡ Some ty → lent_right u labels h tie o (Some (Some v)) && lent_fits u labels h (Base w (suc j0)) o (Some (Some v)) ≡ true
      → value_fits h (λ p n. var_may_lead p (OfVariable w k0 y) zout (ends_by tie y t to (labels n))) ty v ≡ true
  lent-comes Shares y t ty to v o q e = absurd (cc)
  lent-comes Raises y t ty to v o q e = absurd (cc)
  lent-comes Lends y t ty to v None q e = none-some q
  lent-comes Lends y t ty to v (Some Long) q e = absurd (cc)
  lent-comes Lends y t ty to v (Some Boolean) q e = absurd (cc)
  lent-comes Lends y t ty to v (Some (Ref Writable s)) q e = absurd (cc)
  lent-comes Lends y t ty to v (Some (Ref Readable s)) q e = absurd (cc)
  lent-comes Lends y t ty to v (Some (Ref Immutable s)) q e = absurd (cc)
  lent-comes Lends y t ty to v (Some (Ref Isolated s)) q e =
      subst (λ ty. value_fits h (λ p n. var_may_lead p (OfVariable w k0 y) zout (renamed (Ends w (suc j0) (OfVariable w k0 y)) (labels n))) ty v ≡ true) (some-inj q)
      (value-into h (λ p n. same_region (labels n) (OwnOf (Base w (suc j0)))) (λ p n. var_may_lead p (OfVariable w k0 y) zout (renamed (Ends w (suc j0) (OfVariable w k0 y)) (labels n))) Isolated Isolated s s v (same s)
      (λ n f. is-same (ap (renamed (Ends w (suc j0) (OfVariable w k0 y))) (region-true (labels n) (OwnOf (Base w (suc j0))) f) ∙ own-inside w j0 (OfVariable w k0 y))) e)
    where
      same : (s : Shape) → same_shape s s ≡ true
      same Array = refl
      same (Class k) = eq-itself k

  -- ---------- the caller ----------
  module _ (tie : Tie) (into : Option ℕ) (y : ℕ) (saved : List Held) (lent : Option Held) (caller : ℕ) (t : Ty) (v : Value Name) where
    abbrev pub to : Region
    to = goal_into (context_of u caller) w z st into

    abbrev pub types : List Ty
    types = (context_of u caller).vars

    pub to-there : is_absent to ≡ false
    to-there = into-there (context_of u caller) w z st into

    abbrev ρ : Region → Region
    ρ r = ends_by tie y t to r

    good : Good (λ r. ends_by tie y t (goal_into (context_of u caller) w z st into) r)
    good = ends-good tie y t to to-there

    abbrev pub after : Labels
    after n = ends_by tie y t (goal_into (context_of u caller) w z st into) (labels n)

    -- the result fits what takes it, before the zone of the call ends
    abbrev pub ResultCame : Type 0
    ResultCame = value_fits h (λ p n. var_may_lead p (goal_into (context_of u caller) w z st into) (zone_in tie) (labels n)) t v ≡ true

    taken : (x : ℕ) (s : Ty) → into ≡ Some x → type_of (context_of u caller) x ≡ Some s → result_fits u labels h tie t into caller ≡ true → ResultFits tie t s
    taken x s e is r = go tie (subst (λ i. result_fits u labels h tie t i caller ≡ true) e r)
      where
        go : (tie : Tie) → result_fits u labels h tie t (Some x) caller ≡ true → ResultFits tie t s
        go Shares r = ap (λ o. if_both_known (Some t) o fits) (sym is) ∙ r
        go Raises r = ap (λ o. if_both_known (Some (raised_type t)) o fits) (sym is) ∙ r
        go Lends r = let d = and_parts (not (is_tied t)) (if_both_known (Some t) (type_of (context_of u caller) x) fits) r in (untied (is_tied t) d.0, ap (λ o. if_both_known (Some t) o fits) (sym is) ∙ d.1)
          where
            untied : (b : Bool) → not b ≡ true → b ≡ false
            untied true e = absurd (cc)
            untied false e = refl

    module _ (fits-saved : variables_fit u labels h zout w k0 0 types saved ≡ true)
        (fits-lent : lent_right u labels h tie (type_of (context_of u caller) y) lent && lent_fits u labels h (Base w (suc j0)) (type_of (context_of u caller) y) lent ≡ true)
        (fits-result : result_fits u labels h tie t into caller ≡ true) (came : ResultCame) where
      before : AllFit u labels h zout w k0 types saved
      before = to-all u labels h zout w k0 types saved fits-saved

      back-length : (lent : Option Held) → length (lent_back lent y saved) ≡ length saved
      back-length None = refl
      back-length (Some a) = set-length saved y a

      into-length : (into : Option ℕ) (vs : List Held) → length (assign_into vs into (Some v)) ≡ length vs
      into-length None vs = refl
      into-length (Some x) vs = set-length vs x (Some v)

      kept : (x : ℕ) (s : Ty) (a : Value Name) → slice_get types x ≡ Some s → slice_get saved x ≡ Some (Some a) → value_fits h (λ p n. var_may_lead p (OfVariable w k0 x) zout (after n)) s a ≡ true
      kept x s a is has = one-carry u labels h ρ good w w k0 k0 x x zout zout s a (vars-stay tie y t to w k0 x) (own-stays tie y t to zout out) (before.each x s a is has)

      back : (lent : Option Held) → lent_right u labels h tie (type_of (context_of u caller) y) lent && lent_fits u labels h (Base w (suc j0)) (type_of (context_of u caller) y) lent ≡ true
          → (x : ℕ) (s : Ty) (a : Value Name) → slice_get types x ≡ Some s → slice_get (lent_back lent y saved) x ≡ Some (Some a) → value_fits h (λ p n. var_may_lead p (OfVariable w k0 x) zout (after n)) s a ≡ true
      back None e x s a is has = kept x s a is has
      back (Some b) e x s a is has = go (set-cases saved y b x (Some a) has)
        where
          go : ((x ≡ y) × (b ≡ Some a)) ⊎ ((x ≡ y → ⊥) × (slice_get saved x ≡ Some (Some a))) → value_fits h (λ p n. var_may_lead p (OfVariable w k0 x) zout (after n)) s a ≡ true
          go (inr q) = kept x s a is q.1
          go (inl q) =
              subst (λ x. value_fits h (λ p n. var_may_lead p (OfVariable w k0 x) zout (after n)) s a ≡ true) (sym q.0)
              (lent-comes tie y t s to a (type_of (context_of u caller) y) (ap (slice_get types) (sym q.0) ∙ is)
              (subst (λ b. lent_right u labels h tie (type_of (context_of u caller) y) (Some b) && lent_fits u labels h (Base w (suc j0)) (type_of (context_of u caller) y) (Some b) ≡ true) q.1 e))

      all : (i : Option ℕ) → i ≡ into → (x : ℕ) (s : Ty) (a : Value Name) → slice_get types x ≡ Some s → slice_get (assign_into (lent_back lent y saved) i (Some v)) x ≡ Some (Some a)
          → value_fits h (λ p n. var_may_lead p (OfVariable w k0 x) zout (after n)) s a ≡ true
      all None e x s a is has = back lent fits-lent x s a is has
      all (Some i) e x s a is has = go (set-cases (lent_back lent y saved) i (Some v) x (Some a) has)
        where
          go : ((x ≡ i) × (Some v ≡ Some a)) ⊎ ((x ≡ i → ⊥) × (slice_get (lent_back lent y saved) x ≡ Some (Some a))) → value_fits h (λ p n. var_may_lead p (OfVariable w k0 x) zout (after n)) s a ≡ true
          go (inr q) = back lent fits-lent x s a is q.1
          go (inl q) =
              let type : type_of (context_of u caller) i ≡ Some s = ap (slice_get types) (sym q.0) ∙ is in
              let home : to ≡ goal_of (Some s) (OfVariable w k0 i) (OwnOf zout) = ap (λ i. goal_into (context_of u caller) w z st i) (sym e) ∙ ap (λ o. goal_of o (OfVariable w k0 i) (OwnOf zout)) type in
              subst (λ x. value_fits h (λ p n. var_may_lead p (OfVariable w k0 x) zout (after n)) s a ≡ true) (sym q.0)
              (subst (λ a. value_fits h (λ p n. var_may_lead p (OfVariable w k0 i) zout (after n)) s a ≡ true) (some-inj q.1)
              (subst (λ to. value_fits h (λ p n. var_may_lead p (OfVariable w k0 i) zout (ends_by tie y t to (labels n))) s v ≡ true) (sym home)
              (result-comes tie y i t s v (taken i s (sym e) type fits-result) (subst (λ to. value_fits h (λ p n. var_may_lead p to (zone_in tie) (labels n)) t v ≡ true) home came))))

      -- the caller's variables after the call
      pub caller-fits : variables_fit u after h zout w k0 0 types (assign_into (lent_back lent y saved) into (Some v)) ≡ true
      caller-fits = from-all u after h zout w k0 types (assign_into (lent_back lent y saved) into (Some v)) (record {
        lengths = before.lengths ∙ sym (into-length into (lent_back lent y saved) ∙ back-length lent);
        each = all into refl;
      })

    -- and what stands below
    pub below-fits : (below : List ℕ) (c : Code) (m : ℕ) → stack_hidden below c st ≡ true → stack_fits u labels h w z m st ≡ true → stack_fits u after h w z m st ≡ true
    below-fits below c m hid e =
        stack-carry u labels h ρ good w z m st
        (stack-stays u labels h ρ good w z below c st j0 (λ i x o. vars-stay tie y t to w i x) (λ q e. own-stays tie y t to q e) low (omega arith) hid) e

    -- and the objects
    pub objects-fit : ((n : Name) → object_fits u labels h n (h n) ≡ true) → (n : Name) → object_fits u after h n (h n) ≡ true
    objects-fit all n = object-carry u labels h ρ good (fields-stay tie y t to good) n (h n) (all n)
