-- What an allowed simple statement asks of the heap is there.
pub mod Evaluation
pub mod Unstuck
pub mod NextEvents
use Rattle.std.proofs.Common.{◌≡◌, ℕ, zero, suc, ◌+◌, ◌<◌, Bool, true, false, Option, Some, None, List, [], ◌∷◌, ◌++◌, length, length-append, refl, sym, ap, subst, ◌∙◌, arith}
use Rattle.std.specs.Prelude.{ℤ, pos, negsuc, not, ◌&&◌, cond, nat_lt, nat_eq, get_or, slice_get}
use Rattle.std.specs.List.{list_any}
use Rattle.std.proofs.lemmas.Bool.{or_parts, not-false, and_parts}
use Rattle.std.proofs.lemmas.Bool.Decides.{nat_tests}
use Rattle.std.proofs.lemmas.Option.{slice_get-get_or}
use Rattle.perm_tree.specs.declared.ast.Shape.TheVariants.{Class, Array}
use Rattle.perm_tree.specs.declared.ast.Ty.{Ty}
use Rattle.perm_tree.specs.declared.ast.Ty.TheVariants.{Long, Ref}
use Rattle.perm_tree.specs.declared.errors.TrapKind.TheVariants.{IndexOutOfRange, StackOverflow}
use Rattle.perm_tree.specs.Code.{Argument, Expression, Consumed, UnitCode}
use Rattle.perm_tree.specs.Mentions.{any_in_argument}
use Rattle.perm_tree.specs.Vars.{Vars, just, minus}
use Rattle.perm_rules.specs.Parts.{Context, type_of}
use Rattle.perm_rules.specs.Liveness.{dead, after_argument, after_arguments, arguments_gone, call_gone}
use Rattle.perm_rules.specs.Sorts.{Sort, Typed, sort_if, term_sort, isnt_plain, argument_wrong}
use Rattle.perm_meaning.specs.Values.{Value, Number, Truth, Null, Reference, Eval, Gives, Traps, Mistyped}
use Rattle.perm_meaning.specs.Names.{Name, Mark}
use Rattle.perm_meaning.specs.Expressions.{tagged, held, look_up, cleared_slot, clear, eval}
use Rattle.perm_meaning.specs.Effects.{Tick, Load, Store, Take, Make, Act, Resumption, Does, Sticks, depth_limit, ticks, halts, on_value, if_number, on_number, on_referred, on_object, on_argument, on_arguments, on_index, on_length, on_call, below_limit}
use Rattle.perm_tree.specs.Shapes.{same_shape}
use Rattle.perm_tree.specs.declared.ast.Shape.{Shape}
use Rattle.perm_rules.specs.Parts.{field_among}
use Rattle.perm_meaning.specs.Objects.{Object, Objects, value_in, field_of}
use Rattle.perm_core.specs.Regions.{OfField, Labels, is_absent, field_may_lead}
use Rattle.perm_core.specs.Picture.{has_shape, length_fits, value_fits, fields_fit, class_fits, values_fit, object_fits}
use Rattle.perm_meaning.specs.NamedHeap.{Held, Op}
use Rattle.perm_core.proofs.Progress.Evaluation.{IsOfType, IsOfSort, Evaluates, AreTyped, plain-long, variable-evaluates, term-evaluates}
use Rattle.perm_meaning.proofs.Leads.{some-inj, none-some}
use Rattle.perm_meaning.proofs.SameName.{eq-true, eq-itself}
use Rattle.perm_core.proofs.Commute.TwoOperations.{get-beside}
use Rattle.perm_core.proofs.Commute.LeafOperations.{Lose, clear-loses}

-- ---------- live variables ----------
left-of : (a b : Bool) → (a && not b) ≡ true → (a ≡ true) × (b ≡ true → ⊥)
left-of true false e = (refl, λ q. absurd (cc))
left-of true true e = absurd (cc)
left-of false b e = absurd (cc)

clear-typed : (c : Context) (G : Vars) (vs : List Held) (y : ℕ) → AreTyped c G vs → AreTyped c (minus G (just y)) (clear tagged vs y)
clear-typed c G vs y typed x e =
    let p = left-of (G x) (just y x) e in
    let t = typed x p.0 in
    (t.0, t.1, t.2, get-beside vs y x (cleared_slot tagged (slice_get vs y)) (λ q. p.1 (subst (λ z. nat_eq z y ≡ true) q (eq-itself y))) ∙ t.3, t.4)

-- ---------- effects ----------
module _ (h : Objects Name) where
  -- the field that an operation asks for is there
  abbrev pub IsThere : Op → Type 0
  IsThere Tick = Unit {0}
  IsThere (Load r f) = (v : Value Name) × (field_of h r f ≡ Some v)
  IsThere (Store r f w) = (v : Value Name) × (field_of h r f ≡ Some v)
  IsThere (Take r f) = (v : Value Name) × (field_of h r f ≡ Some v)
  IsThere (Make by shape n) = Unit {0}

  -- the effect isn't stuck
  abbrev pub GoesOn : Resumption Held Name Mark → Type 0
  GoesOn (Does o told) = IsThere o
  GoesOn Sticks = ⊥

  pub value-goes : (s : Sort) (e : Eval Held) (go : Held → Resumption Held Name Mark) → Evaluates s e → ((v : Value Name) → IsOfSort s v → e ≡ Gives (Some v) → GoesOn (go (Some v))) → GoesOn (on_value tagged e go)
  value-goes s (Gives None) go is k = absurd is
  value-goes s (Gives (Some v)) go is k = k v is refl
  value-goes s (Traps t) go is k = tt
  value-goes s Mistyped go is k = absurd is

  pub number-goes : (s : Sort) (e : Eval Held) (go : ℤ → Resumption Held Name Mark) → Evaluates s e → isnt_plain s Long ≡ false → ((n : ℤ) → GoesOn (go n)) → GoesOn (on_number tagged e go)
  number-goes s e go is plain k =
      value-goes s e (λ v. if_number tagged (tagged.as_number v) go) is (λ v of q. (let x = plain-long s v of plain in subst (λ z. GoesOn (if_number tagged (tagged.as_number (Some z)) go)) (sym x.1) (k x.0)))

  pub index-goes : (i : ℤ) (n : ℕ) (go : ℕ → Resumption Held Name Mark) → ((f : ℕ) → nat_lt f n ≡ true → GoesOn (go f)) → GoesOn (on_index tagged i n go)
  index-goes (negsuc i) n go k = tt
  index-goes (pos i) n go k = within (nat_lt i n) refl
    where
      within : (t : Bool) → nat_lt i n ≡ t → GoesOn (cond t (go i) (halts tagged IndexOutOfRange))
      within true q = k i q
      within false q = tt

  pub length-goes : (i : ℤ) (go : ℕ → Resumption Held Name Mark) → ((n : ℕ) → GoesOn (go n)) → GoesOn (on_length tagged i go)
  length-goes (pos n) go k = k n
  length-goes (negsuc n) go k = tt

  pub limit-goes : (depth : ℕ) (a : Act Held Mark) → GoesOn (below_limit tagged depth a)
  limit-goes depth a = go (nat_lt depth depth_limit)
    where
      go : (t : Bool) → GoesOn (cond t (ticks tagged a) (halts tagged StackOverflow))
      go true = tt
      go false = tt

  -- ---------- variables, arguments and calls ----------
  module _ (c : Context) where
    -- a variable of a reference type that is live refers to null or to an object
    pub object-goes : (G : Vars) (vs : List Held) (y : ℕ) (p : _) (s : _) (go : Name → ℕ → Resumption Held Name Mark) → AreTyped c G vs → dead G y ≡ false → type_of c y ≡ Some (Ref p s)
        → ((r : Name) (n : ℕ) → slice_get vs y ≡ Some (Some (Reference r n)) → GoesOn (go r n)) → GoesOn (on_object tagged vs y go)
    object-goes G vs y p s go typed live type k = found (typed y (not-false (G y) live))
      where
        found : (t : Ty) × (v : Value Name) × (type_of c y ≡ Some t) × (slice_get vs y ≡ Some (Some v)) × IsOfType t v → GoesOn (on_object tagged vs y go)
        found t = subst (λ z. GoesOn (on_value tagged (held tagged z) (λ v. on_referred tagged (tagged.as_reference v) go))) (sym t.3) (value t.1 (subst (λ z. IsOfType z t.1) (some-inj (sym t.2 ∙ type)) t.4) t.3)
          where
            value : (v : Value Name) → IsOfType (Ref p s) v → slice_get vs y ≡ Some (Some v) → GoesOn (on_referred tagged (tagged.as_reference (Some v)) go)
            value (Number n) is q = absurd is
            value (Truth b) is q = absurd is
            value Null is q = tt
            value (Reference r n) is q = k r n q

    pub argument-goes : (G : Vars) (vs : List Held) (a : Argument) (go : Held → List Held → Resumption Held Name Mark) → AreTyped c G vs → any_in_argument (dead G) a ≡ false → argument_wrong c a ≡ false
        → ((v : Held) (ws : List Held) → AreTyped c (after_argument a G) ws → Lose vs ws → GoesOn (go v ws)) → GoesOn (on_argument tagged a vs go)
    argument-goes G vs (Expression e) go typed live right k = value-goes (term_sort c e) (eval tagged e vs) (λ v. go v vs) (term-evaluates c G vs typed e live right) (λ v is q. k (Some v) vs (none-lost) (λ y v e. e))
      where
        none-lost : AreTyped c (after_argument (Expression e) G) vs
        none-lost x on = typed x (go-on (G x) on)
          where
            go-on : (t : Bool) → (t && true) ≡ true → t ≡ true
            go-on true e = refl
            go-on false e = absurd (cc)
    argument-goes G vs (Consumed y) go typed live right k =
        value-goes (sort_if (type_of c y)) (look_up tagged vs y) (λ v. go v (clear tagged vs y)) (variable-evaluates c G vs typed y live) (λ v is q. k (Some v) (clear tagged vs y) (clear-typed c G vs y typed) (clear-loses vs y))

    arguments-go : (args : List Argument) (G : Vars) (found vs : List Held) (go : List Held → List Held → Resumption Held Name Mark) → AreTyped c G vs → arguments_gone args G ≡ false → list_any (argument_wrong c) args ≡ false
        → ((more ws : List Held) → length more ≡ length found + length args → AreTyped c (after_arguments args G) ws → GoesOn (go more ws)) → GoesOn (on_arguments tagged args found vs go)
    arguments-go [] G found vs go typed live right k = let same : length found ≡ length found + 0 = omega arith in k found vs same typed
    arguments-go (a ∷ rest) G found vs go typed live right k =
        let l = or_parts (any_in_argument (dead G) a) (arguments_gone rest (after_argument a G)) live in
        let r = or_parts (argument_wrong c a) (list_any (argument_wrong c) rest) right in
        argument-goes G vs a (λ v vs. on_arguments tagged rest (found ++ v ∷ []) vs go) typed l.0 r.0 (λ v ws typed' lose.
        arguments-go rest (after_argument a G) (found ++ v ∷ []) ws go typed' l.1 r.1 (λ more ws' e t. k more ws' (longer v more e) t))
      where
        longer : (v : Held) (more : List Held) → length more ≡ length (found ++ v ∷ []) + length rest → length more ≡ length found + length (a ∷ rest)
        longer v more e = let n = length-append found (v ∷ []) in omega (arith, e, n)

    receiver-goes : (G : Vars) (vs : List Held) (y : ℕ) (p : _) (s : _) (go : Held → Resumption Held Name Mark) → AreTyped c G vs → dead G y ≡ false → type_of c y ≡ Some (Ref p s) → ((v : Value Name) → IsOfType (Ref p s) v → GoesOn (go (Some v))) → GoesOn (on_value tagged (look_up tagged vs y) go)
    receiver-goes G vs y p s go typed live type k =
        value-goes (Typed (Ref p s)) (look_up tagged vs y) go (subst (λ z. Evaluates (sort_if z) (look_up tagged vs y)) type (variable-evaluates c G vs typed y live)) (λ v is q. k v is)

    pub call-goes : (consumed : Bool) (y : ℕ) (args : List Argument) (G : Vars) (vs : List Held) (p : _) (s : _) (go : Held → List Held → List Held → Resumption Held Name Mark) → AreTyped c G vs → call_gone consumed y args G ≡ false → list_any (argument_wrong c) args ≡ false
        → type_of c y ≡ Some (Ref p s) → ((this : Value Name) (found ws : List Held) → IsOfType (Ref p s) this → length found ≡ length args → GoesOn (go (Some this) found ws)) → GoesOn (on_call tagged consumed y args vs go)
    call-goes true y args G vs p s go typed live right type k =
        let l = or_parts (dead G y) (arguments_gone args (minus G (just y))) live in
        receiver-goes G vs y p s (λ this. on_arguments tagged args [] (clear tagged vs y) (λ found vs. go this found vs)) typed l.0 type (λ this is.
        arguments-go args (minus G (just y)) [] (clear tagged vs y) (λ found vs. go (Some this) found vs) (clear-typed c G vs y typed) l.1 right (λ more ws e t. k this more ws is (exactly more e)))
      where
        exactly : (more : List Held) → length more ≡ 0 + length args → length more ≡ length args
        exactly more e = omega (arith, e)
    call-goes false y args G vs p s go typed live right type k =
        let l = or_parts (arguments_gone args G) (dead (after_arguments args G) y) live in
        arguments-go args G [] vs (λ found vs. on_value tagged (look_up tagged vs y) (λ this. go this found vs)) typed l.0 right (λ more ws e t.
        receiver-goes (after_arguments args G) ws y p s (λ this. go this more ws) t l.1 type (λ this is. k this more ws is (exactly more e)))
      where
        exactly : (more : List Held) → length more ≡ 0 + length args → length more ≡ length args
        exactly more e = omega (arith, e)

-- ---------- fields and items ----------
module _ (u : UnitCode) (labels : Labels) (h : Objects Name) where
  -- a reference that has the shape of a type leads to an object of that shape
  shaped : (o : Option (Object Name)) (s : Shape) (len : ℕ) → has_shape o s len ≡ true → (x : Object Name) × (o ≡ Some x) × (same_shape x.shape s ≡ true) × (length_fits s (length x.values) len ≡ true)
  shaped None s len e = absurd (cc)
  shaped (Some x) s len e = let p = and_parts (same_shape x.shape s) (length_fits s (length x.values) len) e in (x, refl, p.0, p.1)

  field-value : (o : Name) (f i : ℕ) (ts : List Ty) (vs : List (Value Name)) (t : Ty) → fields_fit u labels h o i ts vs ≡ true → slice_get ts f ≡ Some t → (v : Value Name) × (slice_get vs f ≡ Some v)
  field-value o f i [] vs t e q = none-some q
  field-value o f i (t' ∷ ts) [] t e q = absurd (cc)
  field-value o zero i (t' ∷ ts) (v ∷ vs) t e q = (v, refl)
  field-value o (suc f) i (t' ∷ ts) (v ∷ vs) t e q =
      field-value o f (suc i) ts vs t (and_parts (value_fits h (λ p n. field_may_lead p (OfField o i) (labels o) (labels n)) t' v) (fields_fit u labels h o (suc i) ts vs) e).1 q

  among : (o : Option (List Ty)) (f : ℕ) (t : Ty) → field_among o f ≡ Some t → (ts : List Ty) × (o ≡ Some ts) × (slice_get ts f ≡ Some t)
  among None f t e = none-some e
  among (Some ts) f t e = (ts, refl, e)

  pub field-there : (r : Name) (k len f : ℕ) (t : Ty) → object_fits u labels h r (h r) ≡ true → has_shape (h r) (Class k) len ≡ true → field_among (slice_get u.classes k) f ≡ Some t → (v : Value Name) × (field_of h r f ≡ Some v)
  field-there r k len f t fit shape field =
      let x = shaped (h r) (Class k) len shape in
      let d = among (slice_get u.classes k) f t field in
      let whole = sym (ap (λ z. object_fits u labels h r z) x.1) ∙ fit in
      let values = (and_parts (not (is_absent (labels r))) (values_fit u labels h r x.0.shape x.0.values) whole).1 in
      let of_class = sym (ap (λ z. values_fit u labels h r z x.0.values) (same-shape-true x.0.shape k x.2)) ∙ values in
      let fields = sym (ap (λ z. class_fits u labels h r z x.0.values) d.1) ∙ of_class in
      let v = field-value r f 0 d.0 x.0.values t fields d.2 in
      (v.0, ap (λ z. value_in z f) x.1 ∙ v.1)
    where
      same-shape-true : (s : Shape) (k : ℕ) → same_shape s (Class k) ≡ true → s ≡ Class k
      same-shape-true Array k e = absurd (cc)
      same-shape-true (Class j) k e = ap (λ z. Class z) (eq-true j k e)

  pub item-there : (r : Name) (len f : ℕ) → has_shape (h r) Array len ≡ true → nat_lt f len ≡ true → (v : Value Name) × (field_of h r f ≡ Some v)
  item-there r len f shape less =
      let x = shaped (h r) Array len shape in
      let within = below (length x.0.values) x.3 in
      (get_or x.0.values f Null, ap (λ z. value_in z f) x.1 ∙ slice_get-get_or x.0.values f Null within)
    where
      below : (n : ℕ) → nat_eq n len ≡ true → f < n
      below n e = grind (arith, nat_tests)
