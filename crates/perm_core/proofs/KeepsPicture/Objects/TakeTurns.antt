-- An isolated field is taken into a variable, and is null then: its region goes where the value comes, and the branch and the objects fit after it.
use Rattle.std.proofs.Common.{◌≡◌, ℕ, Bool, true, false, Option, Some, None, List, [], ◌∷◌, refl, sym, ap, subst, ◌∙◌, inl, inr, arith}
use Rattle.std.specs.Prelude.{◌⊎◌, ◌&&◌, ◌||◌, not, nat_eq, cond, slice_get, slice_set, is_none}
use Rattle.std.proofs.lemmas.Bool.{or_cases, or_parts, not-true, not-false, and_parts}
use Rattle.std.proofs.lemmas.Bool.Decides.{nat_tests}
use Rattle.std.proofs.Math.Bool.{and-false}
use Rattle.perm_tree.specs.declared.ast.Perm.{Perm}
use Rattle.perm_tree.specs.declared.ast.Perm.TheVariants.{Isolated, Immutable, Readable, Writable}
use Rattle.perm_tree.specs.declared.ast.Shape.{Shape}
use Rattle.perm_tree.specs.declared.ast.Shape.TheVariants.{Class, Array}
use Rattle.perm_tree.specs.declared.ast.Span.{Span}
use Rattle.perm_tree.specs.declared.ast.Ty.{Ty}
use Rattle.perm_tree.specs.declared.ast.Ty.TheVariants.{Long, Bool as Boolean, Ref}
use Rattle.perm_tree.specs.declared.errors.TypeKind.TheVariants.{UnknownName, WrongKind, NotAllowedThrough}
use Rattle.perm_tree.specs.Code.{TakeField, Code, Do, UnitCode}
use Rattle.perm_tree.specs.Shapes.{same_shape}
use Rattle.perm_tree.specs.Vars.{Vars}
use Rattle.perm_rules.specs.Parts.{Context, Simple, type_of, type_of_field, field_among, field_type, if_known, if_both_known, is_object}
use Rattle.perm_rules.specs.Permissions.{may_change}
use Rattle.perm_rules.specs.Shapes.{lacks_field, isnt_object, isnt_isolated, shapes_differ}
use Rattle.perm_rules.specs.Sorts.{differ}
use Rattle.perm_rules.specs.Refusals.{IsAllowed}
use Rattle.perm_rules.proofs.PartLaws.{applies-none}
use Rattle.perm_meaning.specs.Values.{Value, Null, Reference}
use Rattle.perm_meaning.specs.Names.{Name, same_name}
use Rattle.perm_meaning.specs.Objects.{Object, Objects, value_in, field_of, with_field, with_field_if, put}
use Rattle.perm_meaning.specs.Expressions.{assign}
use Rattle.perm_meaning.specs.Effects.{Take}
use Rattle.perm_meaning.specs.Machine.{Frame, Way, Here, On, done}
use Rattle.perm_meaning.specs.NamedHeap.{Held, Own, Branch, found}
use Rattle.perm_meaning.specs.Steps.{Found}
use Rattle.perm_meaning.proofs.Leads.{some-inj}
use Rattle.perm_meaning.proofs.SameName.{together, name-true}
use Rattle.perm_core.specs.Core.{core}
use Rattle.perm_core.specs.Regions.{Zone, Region, Absent, Frozen, OwnOf, OfVariable, OfField, Loose, Labels, same_region, is_absent, is_frozen, var_may_lead, field_may_lead, calls, top_zone}
use Rattle.perm_core.specs.Picture.{context_of, has_shape, value_fits, variables_fit, stack_fits, tree_fits, class_fits, values_fit, object_fits, valued, context_above, RestGoes}
use Rattle.perm_core.specs.NextPicture.{Moves, renamed, moved, goal, goal_of, goal_at, field_region}
use Rattle.perm_core.proofs.Commute.LeadsTo.{own-true, variable-true}
use Rattle.perm_core.proofs.Progress.Unstuck.{there, object-type}
use Rattle.perm_core.proofs.KeepsPicture.Calls.CallEnds.{set-cases, set-length, goal-there, goal-leads}
use Rattle.perm_core.proofs.KeepsPicture.Labels.CarriedValues.{to-all}
use Rattle.perm_core.proofs.KeepsPicture.Objects.FieldMoves.{MovesFields, variables-after, stack-after}
use Rattle.perm_core.proofs.KeepsPicture.Objects.FieldValues.{same-classes, Fits, FieldsFit, fields-each, each-fields, IsOfClass, of-class}
use Rattle.perm_core.proofs.KeepsPicture.Order.HiddenVariables.{top-goes}
use Rattle.perm_core.proofs.KeepsPicture.Objects.LoadTurns.{found-some}
use Rattle.perm_core.proofs.KeepsPicture.Labels.OtherHeaps.{KeepsShapes, variable-more, variables-more, stack-more, field-more, after-keeps}
use Rattle.perm_core.proofs.KeepsPicture.Turns.PlainTurns.{on-fits}
use Rattle.perm_core.proofs.KeepsPicture.Labels.Relabellings.{Good, good-moves, of_field, value-carry, field-carry}
use Rattle.perm_core.proofs.KeepsPicture.Calls.Returns.{value-into}

-- ---------- what is allowed ----------
-- the types of what is taken from, of the field, and of the variable that takes the value
pub record TakeTypes (c : Context) (x y f : ℕ) : Type 0 where
  pub p : Perm
  pub k : ℕ
  pub l : Shape
  pub q : Perm
  pub s : Shape
  pub through : type_of c y ≡ Some (Ref p (Class k))
  pub reads : field_among (slice_get c.classes k) f ≡ Some (Ref Isolated l)
  pub takes : type_of c x ≡ Some (Ref q s)
  pub shapes : same_shape l s ≡ true
  pub changes : may_change (Ref p (Class k)) ≡ true

-- so it is of an allowed take
pub take-types : (c : Context) (x y f : ℕ) (G : Vars) → IsAllowed c (Simple (TakeField x y f)) G → TakeTypes c x y f
take-types c x y f G allowed = types field.0 taker.0 field.1 taker.1 isolated kind
  where
    named : (is_none (type_of c x) || is_none (type_of c y) ≡ false) × (lacks_field c y f ≡ false)
    named = or_parts (is_none (type_of c x) || is_none (type_of c y)) (lacks_field c y f) (applies-none c (Simple (TakeField x y f)) G allowed UnknownName)

    wrong : (isnt_object c y ≡ false) × (isnt_isolated (field_type c y f) || shapes_differ (field_type c y f) (type_of c x) ≡ false)
    wrong = or_parts (isnt_object c y) (isnt_isolated (field_type c y f) || shapes_differ (field_type c y f) (type_of c x)) (applies-none c (Simple (TakeField x y f)) G allowed WrongKind)

    wrongs : (isnt_isolated (field_type c y f) ≡ false) × (shapes_differ (field_type c y f) (type_of c x) ≡ false)
    wrongs = or_parts (isnt_isolated (field_type c y f)) (shapes_differ (field_type c y f) (type_of c x)) wrong.1

    t : (p : Perm) × (k : ℕ) × (type_of c y ≡ Some (Ref p (Class k)))
    t = object-type (type_of c y) (or_parts (is_none (type_of c x)) (is_none (type_of c y)) named.0).1 wrong.0

    taker : (a : Ty) × (type_of c x ≡ Some a)
    taker = there (type_of c x) (or_parts (is_none (type_of c x)) (is_none (type_of c y)) named.0).0

    field : (a : Ty) × (type_of_field c.classes (Some (Ref t.0 (Class t.1))) f ≡ Some a)
    field = there (type_of_field c.classes (Some (Ref t.0 (Class t.1))) f) (sym (ap (λ o. if_known o is_object && is_none (type_of_field c.classes o f)) t.2) ∙ named.1)

    held : field_type c y f ≡ Some field.0
    held = ap (λ o. type_of_field c.classes o f) t.2 ∙ field.1

    isolated : isnt_isolated (Some field.0) ≡ false
    isolated = sym (ap isnt_isolated held) ∙ wrongs.0

    kind : differ field.0 taker.0 ≡ false
    kind = sym (ap (λ o. if_both_known (field_type c y f) o differ) taker.1 ∙ ap (λ o. if_both_known o (Some taker.0) differ) held) ∙ wrongs.1

    types : (a b : Ty) → type_of_field c.classes (Some (Ref t.0 (Class t.1))) f ≡ Some a → type_of c x ≡ Some b → isnt_isolated (Some a) ≡ false → differ a b ≡ false → TakeTypes c x y f
    types (Ref Isolated l) (Ref q s) i j iso kind = record {
      p = t.0;
      k = t.1;
      l = l;
      q = q;
      s = s;
      through = t.2;
      reads = i;
      takes = j;
      shapes = not-false (same_shape l s) kind;
      changes = not-false (may_change (Ref t.0 (Class t.1))) (sym (ap (λ o. if_known o (λ t. not (may_change t))) t.2) ∙ applies-none c (Simple (TakeField x y f)) G allowed NotAllowedThrough);
    }
    types (Ref Isolated l) Long i j iso kind = absurd (let no : ⊥ = cc kind in no)
    types (Ref Isolated l) Boolean i j iso kind = absurd (let no : ⊥ = cc kind in no)
    types (Ref Immutable l) b i j iso kind = absurd (let no : ⊥ = cc iso in no)
    types (Ref Readable l) b i j iso kind = absurd (let no : ⊥ = cc iso in no)
    types (Ref Writable l) b i j iso kind = absurd (let no : ⊥ = cc iso in no)
    types Long b i j iso kind = absurd (let no : ⊥ = cc iso in no)
    types Boolean b i j iso kind = absurd (let no : ⊥ = cc iso in no)

-- nothing is taken out of a frozen object
unfrozen : (p : Perm) (k : ℕ) (w : Way) (j y : ℕ) (z : Zone) (r : Region) → may_change (Ref p (Class k)) ≡ true → var_may_lead p (OfVariable w j y) z r ≡ true → is_frozen r ≡ false
unfrozen Isolated k w j y z r c e = ap (λ a. is_frozen a) (variable-true r w j y e)
unfrozen Writable k w j y z r c e = ap (λ a. is_frozen a) (own-true r z e)
unfrozen Readable k w j y z r c e = absurd (let no : ⊥ = cc c in no)
unfrozen Immutable k w j y z r c e = absurd (let no : ⊥ = cc c in no)

-- what the field leads to is in its free region
free-field : (e home r : Region) → is_frozen home ≡ false → field_may_lead Isolated e home r ≡ true → same_region r e ≡ true
free-field e home r cold k = go (or_cases (same_region r e) (is_frozen home && is_frozen r) k)
  where
    go : (same_region r e ≡ true) ⊎ ((is_frozen home && is_frozen r) ≡ true) → same_region r e ≡ true
    go (inl q) = q
    go (inr q) = absurd (let t : true ≡ false = sym (and_parts (is_frozen home) (is_frozen r) q).0 ∙ cold in let no : ⊥ = cc t in no)

module _ (u : UnitCode) (labels : Labels) (h : Objects Name) (at : Way → Way) (z : Zone) (below : List ℕ) (b : Branch) (span : Span) (x y f : ℕ) (rest : Code) (st : List (Frame Held)) (H : Vars) (r : Name) (len : ℕ) (w : Held)
    (goes : RestGoes u below b.own.routine (Do span (TakeField x y f) rest) st (valued b.own.vars) H) (vars : variables_fit u labels h (top_zone (at Here) z st) (at Here) (calls st) 0 (context_of u b.own.routine).vars b.own.vars ≡ true)
    (stack : stack_fits u labels h (at Here) z b.own.routine st ≡ true) (objects : (n : Name) → object_fits u labels h n (h n) ≡ true) (here : slice_get b.own.vars y ≡ Some (Some (Reference r len))) (told : found (field_of h r f) ≡ Found w) where
  abbrev c : Context
  c = context_of u b.own.routine

  -- the objects after the take
  abbrev pub objects-taken : Objects Name
  objects-taken = put same_name h r f Null

  -- and the labels
  abbrev pub labels-taken : Labels
  labels-taken n = moved (Moves (field_region u labels (slice_get b.own.vars y) f) (goal_at c (at Here) z st x) ∷ []) (labels n)

  ts : TakeTypes c x y f
  ts =
      let is = take-types (context_above u below b.own.routine st) x y f (valued b.own.vars) (top-goes u below b.own.routine (Do span (TakeField x y f) rest) st (valued b.own.vars) H goes).1.0 in
      record { p = is.p; k = is.k; l = is.l; q = is.q; s = is.s; through = is.through; reads = is.reads; takes = is.takes; shapes = is.shapes; changes = is.changes }

  abbrev zone : Zone
  zone = top_zone (at Here) z st

  -- where the value comes
  abbrev to : Region
  to = goal ts.q (OfVariable (at Here) (calls st) x) (OwnOf zone)

  abbrev ρ : Region → Region
  ρ a = renamed (Moves (OfField r f) to) a

  good : Good ρ
  good = good-moves (OfField r f) to (of_field r f) (goal-there (Some (Ref ts.q ts.s)) (OfVariable (at Here) (calls st) x) (OwnOf zone) refl refl)

  taken-so : labels-taken ≡ (λ n. ρ (labels n))
  taken-so e n = same e
    where
      same : labels-taken n ≡ ρ (labels n)
      same =
          ap (λ (o : Option Held). moved (Moves (field_region u labels o f) (goal_at c (at Here) z st x) ∷ []) (labels n)) here
          ∙ ap (λ (o : Option Ty). moved (Moves (OfField r f) (goal_of o (OfVariable (at Here) (calls st) x) (OwnOf zone)) ∷ []) (labels n)) ts.takes

  d : (a : Value Name) × ((field_of h r f ≡ Some a) × (w ≡ Some a))
  d = found-some (field_of h r f) w told

  led : (has_shape (h r) (Class ts.k) len ≡ true) × (var_may_lead ts.p (OfVariable (at Here) (calls st) y) zone (labels r) ≡ true)
  led =
      and_parts (has_shape (h r) (Class ts.k) len) (var_may_lead ts.p (OfVariable (at Here) (calls st) y) zone (labels r))
      ((to-all u labels h zone (at Here) (calls st) c.vars b.own.vars vars).each y (Ref ts.p (Class ts.k)) (Reference r len) ts.through here)

  o : IsOfClass u labels h r ts.k
  o = of-class u labels h r ts.k len (objects r) led.0

  in-class : slice_get o.types f ≡ Some (Ref Isolated ts.l)
  in-class = sym (ap (λ (cs : List (List Ty)). field_among (slice_get cs ts.k) f) (same-classes u b.own.routine) ∙ ap (λ (fs : Option (List Ty)). field_among fs f) o.class) ∙ ts.reads

  -- ---------- variables ----------
  comes : value_fits h (λ q m. var_may_lead q (OfVariable (at Here) (calls st) x) zone (ρ (labels m))) (Ref ts.q ts.s) d.0 ≡ true
  comes =
      value-into h (λ q m. field_may_lead q (OfField r f) (labels r) (labels m)) (λ q m. var_may_lead q (OfVariable (at Here) (calls st) x) zone (ρ (labels m))) Isolated ts.q ts.l ts.s d.0 ts.shapes
      (λ m e. ap (λ t. var_may_lead ts.q (OfVariable (at Here) (calls st) x) zone (cond t to (labels m))) (free-field (OfField r f) (labels r) (labels m) (unfrozen ts.p ts.k (at Here) (calls st) y zone (labels r) ts.changes led.1) e) ∙ goal-leads ts.q (OfVariable (at Here) (calls st) x) zone)
      (o.fields.each f (Ref Isolated ts.l) d.0 in-class (sym (ap (λ (v : Option (Object Name)). value_in v f) o.here) ∙ d.1.0))

  -- what the take changes of the labels
  take-field-moves : MovesFields labels labels-taken
  take-field-moves = record { ρ = ρ; good = good; own = λ q. refl; stay = λ v k i. refl; so = taken-so }

  -- what is there keeps its shape
  take-field-keeps : (ls : Labels) → KeepsShapes ls ls h objects-taken
  take-field-keeps ls = after-keeps u (λ n. true) (Take r f) ls (record { objects = h; given = 0 }) (λ by shape n e. absurd (let no : ⊥ = cc e in no))

  vars-fit : variables_fit u labels-taken objects-taken zone (at Here) (calls st) 0 c.vars (assign b.own.vars x w) ≡ true
  vars-fit =
      subst (λ (v : Held). variables_fit u labels-taken objects-taken zone (at Here) (calls st) 0 c.vars (assign b.own.vars x v) ≡ true) (sym d.1.1)
      (variables-after u labels labels-taken objects-taken take-field-moves (at Here) (calls st) zone c.vars b.own.vars x (Ref ts.q ts.s) d.0 ts.takes
      (variable-more u labels-taken labels-taken h objects-taken (take-field-keeps labels-taken) zone (at Here) (calls st) x (Ref ts.q ts.s) d.0
      (subst (λ (ls : Labels). value_fits h (λ q m. var_may_lead q (OfVariable (at Here) (calls st) x) zone (ls m)) (Ref ts.q ts.s) d.0 ≡ true) (sym taken-so) comes))
      (variables-more u labels labels h objects-taken (take-field-keeps labels) zone (at Here) (calls st) 0 c.vars b.own.vars vars))

  stack-fit : stack_fits u labels-taken objects-taken (at Here) z b.own.routine st ≡ true
  stack-fit = stack-after u labels labels-taken objects-taken take-field-moves (at Here) z b.own.routine st (stack-more u labels labels h objects-taken (take-field-keeps labels) (at Here) z b.own.routine st stack)

  -- the branch that goes on fits
  pub take-field-fits : (l : Own) (t : ℕ) → l.vars ≡ assign b.own.vars x w → l.routine ≡ b.own.routine → tree_fits u labels-taken objects-taken at z (done (core u) b t (On l rest st)) ≡ true
  take-field-fits l t same routine = on-fits u labels-taken objects-taken (at Here) z b l t b.own.routine (assign b.own.vars x w) rest st same routine vars-fit stack-fit at refl

  -- ---------- objects ----------
  abbrev after : Labels
  after n = ρ (labels n)

  -- another field, or one of another object, fits as before
  field-after : (n : Name) (g : ℕ) (t : Ty) (v : Value Name) → (nat_eq g f && same_name n r) ≡ false → Fits u labels h n g t v → Fits u after objects-taken n g t v
  field-after n g t v apart fits =
      field-more u after after h objects-taken (take-field-keeps after) n g t v refl
      (value-carry h (λ p m. field_may_lead p (OfField n g) (labels n) (labels m)) (λ p m. field_may_lead p (OfField n g) (after n) (after m)) t v
      (λ p s m i q. field-carry ρ good p (OfField n g) (labels n) (labels m) (inl (ap (λ b. cond b to (OfField n g)) apart)) q) fits)

  none-after : (a : Region) → is_absent a ≡ true → is_absent (ρ a) ≡ true
  none-after Absent e = refl
  none-after Frozen e = absurd (let no : ⊥ = cc e in no)
  none-after (OwnOf q) e = absurd (let no : ⊥ = cc e in no)
  none-after (OfVariable v k i) e = absurd (let no : ⊥ = cc e in no)
  none-after (OfField n g) e = absurd (let no : ⊥ = cc e in no)
  none-after Loose e = absurd (let no : ⊥ = cc e in no)

  other-object : (n : Name) → same_name n r ≡ false → (a : Option (Object Name)) → object_fits u labels h n a ≡ true → object_fits u after objects-taken n a ≡ true
  other-object n apart None e = none-after (labels n) e
  other-object n apart (Some a) e =
      let p = and_parts (not (is_absent (labels n))) (values_fit u labels h n a.shape a.values) e in
      together (not (is_absent (after n))) (values_fit u after objects-taken n a.shape a.values) (ap (λ t. not t) (good.stay (labels n) (not-true (is_absent (labels n)) p.0))) (shaped a.shape p.1)
    where
      classed : (fs : Option (List Ty)) → class_fits u labels h n fs a.values ≡ true → class_fits u after objects-taken n fs a.values ≡ true
      classed None k = absurd (let no : ⊥ = cc k in no)
      classed (Some fs) k =
          let e = fields-each u labels h n fs a.values k in
          each-fields u after objects-taken n fs a.values (record { lengths = e.lengths; each = λ g t v is has. field-after n g t v (ap (λ b. nat_eq g f && b) apart ∙ and-false (nat_eq g f)) (e.each g t v is has) })

      shaped : (s : Shape) → values_fit u labels h n s a.values ≡ true → values_fit u after objects-taken n s a.values ≡ true
      shaped Array k = k
      shaped (Class j) k = classed (slice_get u.classes j) k

  -- of the object itself the field is null
  own-object : object_fits u after objects-taken r (with_field f Null (h r)) ≡ true
  own-object =
      subst (λ (a : Option (Object Name)). object_fits u after objects-taken r (with_field f Null a) ≡ true) (sym o.here)
      (together (not (is_absent (after r))) (values_fit u after objects-taken r o.object.shape new) (ap (λ t. not t) (good.stay (labels r) o.label))
      (subst (λ (s : Shape). values_fit u after objects-taken r s new ≡ true) (sym o.shape) (subst (λ (fs : Option (List Ty)). class_fits u after objects-taken r fs new ≡ true) (sym o.class) (each-fields u after objects-taken r o.types new fields))))
    where
      new : List (Value Name)
      new = slice_set o.object.values f Null

      each : (g : ℕ) (t : Ty) (v : Value Name) → slice_get o.types g ≡ Some t → slice_get new g ≡ Some v → Fits u after objects-taken r g t v
      each g t v is has = pick (set-cases o.object.values f Null g v has)
        where
          differs : (g f : ℕ) → (g ≡ f → ⊥) → nat_eq g f ≡ false
          differs g f n = grind (arith, nat_tests)

          pick : ((g ≡ f) × (Null ≡ v)) ⊎ ((g ≡ f → ⊥) × (slice_get o.object.values g ≡ Some v)) → Fits u after objects-taken r g t v
          pick (inl q) =
              let same : Ref Isolated ts.l ≡ t = some-inj (sym in-class ∙ ap (slice_get o.types) (sym q.0) ∙ is) in
              subst (λ (a : Value Name). Fits u after objects-taken r g t a) q.1 (subst (λ (s : Ty). Fits u after objects-taken r g s Null) same refl)
          pick (inr q) = field-after r g t v (ap (λ b. b && same_name r r) (differs g f q.0)) (o.fields.each g t v is q.1)

      fields : FieldsFit u after objects-taken r o.types new
      fields = record { lengths = o.fields.lengths ∙ sym (set-length o.object.values f Null); each = each }

  -- and so do the objects
  pub take-field-objects : (n : Name) → object_fits u labels-taken objects-taken n (objects-taken n) ≡ true
  take-field-objects n = subst (λ (ls : Labels). object_fits u ls objects-taken n (objects-taken n) ≡ true) (sym taken-so) (by_name (same_name n r) refl)
    where
      by_name : (t : Bool) → same_name n r ≡ t → object_fits u after objects-taken n (with_field_if t f Null (h n)) ≡ true
      by_name true e = subst (λ (m : Name). object_fits u after objects-taken m (with_field f Null (h m)) ≡ true) (sym (name-true n r e)) own-object
      by_name false e = other-object n e (h n) (objects n)
