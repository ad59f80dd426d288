-- A field, an element or a length is read into a variable: the branch and the objects fit after it. An isolated field that is read through an immutable variable is frozen.
use Rattle.std.proofs.Common.{◌≡◌, ℕ, Bool, true, false, Option, Some, None, List, [], ◌∷◌, refl, sym, ap, subst, ◌∙◌, inl, inr}
use Rattle.std.specs.Prelude.{◌⊎◌, ◌&&◌, ◌||◌, ℤ, cond, slice_get, option_map, is_none}
use Rattle.std.proofs.lemmas.Bool.{or_parts, and_parts}
use Rattle.perm_tree.specs.declared.ast.Perm.{Perm}
use Rattle.perm_tree.specs.declared.ast.Perm.TheVariants.{Isolated, Immutable, Readable, Writable}
use Rattle.perm_tree.specs.declared.ast.Shape.{Shape}
use Rattle.perm_tree.specs.declared.ast.Shape.TheVariants.{Class, Array}
use Rattle.perm_tree.specs.declared.ast.Span.{Span}
use Rattle.perm_tree.specs.declared.ast.Ty.{Ty}
use Rattle.perm_tree.specs.declared.ast.Ty.TheVariants.{Long, Bool as Boolean, Ref}
use Rattle.perm_tree.specs.declared.errors.TypeKind.TheVariants.{UnknownName, WrongKind, NeedsConsume, NotAllowedThrough, PermissionTooWeak}
use Rattle.perm_tree.specs.Code.{Term, LoadField, LoadLength, LoadItem, Code, Do, UnitCode}
use Rattle.perm_tree.specs.CodeNames.{is_tied}
use Rattle.perm_tree.specs.Mentions.{any_in_term}
use Rattle.perm_tree.specs.Vars.{Vars}
use Rattle.perm_perm.specs.Adaptation.{adapted}
use Rattle.perm_rules.specs.Parts.{Context, Simple, type_of, type_of_field, field_among, field_type, if_known, if_both_known, is_object, is_isolated, has_isolated}
use Rattle.perm_rules.specs.Permissions.{read_needs, read_barred, weak, seen_through}
use Rattle.perm_rules.specs.Shapes.{lacks_field, isnt_object, isnt_array, shapes_differ}
use Rattle.perm_rules.specs.Sorts.{differ, isnt_long}
use Rattle.perm_rules.specs.Refusals.{IsAllowed}
use Rattle.perm_rules.proofs.PartLaws.{applies-none}
use Rattle.perm_meaning.specs.Values.{Value, Number, Reference}
use Rattle.perm_meaning.specs.Names.{Name}
use Rattle.perm_meaning.specs.Objects.{Objects, field_of}
use Rattle.perm_meaning.specs.Expressions.{assign}
use Rattle.perm_meaning.specs.Machine.{Frame, Way, Here, On, done}
use Rattle.perm_meaning.specs.NamedHeap.{Held, Own, Branch, found}
use Rattle.perm_meaning.specs.Steps.{Found}
use Rattle.perm_core.specs.Core.{core}
use Rattle.perm_core.specs.Regions.{Zone, Region, Frozen, OwnOf, OfVariable, OfField, Loose, Absent, Labels, same_region, var_may_lead, field_may_lead, calls, top_zone}
use Rattle.perm_core.specs.Picture.{context_of, has_shape, value_fits, variables_fit, stack_fits, tree_fits, object_fits, valued, context_above, RestGoes}
use Rattle.perm_core.specs.NextPicture.{Moves, moved, relabelled, no_change, moving, field_region, is_immutable, instruction_change}
use Rattle.perm_core.proofs.Commute.LeadsTo.{frozen-true}
use Rattle.perm_core.proofs.Progress.Unstuck.{there, object-type, array-type}
use Rattle.perm_core.proofs.KeepsPicture.Turns.Arguments.{kinds-fit}
use Rattle.perm_core.proofs.KeepsPicture.Turns.Arrivals.{thawed, loaded}
use Rattle.perm_core.proofs.KeepsPicture.Labels.CarriedValues.{to-all}
use Rattle.perm_core.proofs.KeepsPicture.Objects.FieldMoves.{MovesFields, moves-none, stack-after, variables-after}
use Rattle.perm_core.proofs.KeepsPicture.Objects.FieldValues.{same-classes, field-fits, item-fits}
use Rattle.perm_core.proofs.KeepsPicture.Order.HiddenVariables.{top-goes}
use Rattle.perm_core.proofs.KeepsPicture.Turns.PlainTurns.{on-fits}
use Rattle.perm_core.proofs.KeepsPicture.Labels.Relabellings.{Good, good-none, good-moves, of_field, region-true, value-carry, FieldsStay, object-carry}
use Rattle.perm_core.proofs.KeepsPicture.Calls.Returns.{value-into}

-- ---------- what is told ----------
-- what the heap answers is there
pub found-some : (o : Option (Value Name)) (w : Held) → found o ≡ Found w → (d : Value Name) × ((o ≡ Some d) × (w ≡ Some d))
found-some None w e = absurd (let no : ⊥ = cc e in no)
found-some (Some d) w e = (d, (refl, let same : Some d ≡ w = cc e in sym same))

-- ---------- a field is frozen ----------
-- the label after an isolated field of which this is the free region is frozen, if it is
abbrev pub froze : Bool → Bool → Region → Region → Region
froze i j e r = moved (cond i (cond j (Moves e Frozen ∷ []) []) []) r

froze-so : (i j : Bool) (e : Region) (labels : Labels) (n : Name) → relabelled (cond i (cond j (moving (Moves e Frozen ∷ [])) no_change) no_change) labels n ≡ froze i j e (labels n)
froze-so true true e labels n = refl
froze-so true false e labels n = refl
froze-so false j e labels n = refl

froze-good : (i j : Bool) (m : Name) (f : ℕ) → Good (froze i j (OfField m f))
froze-good true true m f = good-moves (OfField m f) Frozen (of_field m f) refl
froze-good true false m f = good-none
froze-good false j m f = good-none

froze-own : (i j : Bool) (m : Name) (f : ℕ) (q : Zone) → froze i j (OfField m f) (OwnOf q) ≡ OwnOf q
froze-own true true m f q = refl
froze-own true false m f q = refl
froze-own false j m f q = refl

froze-variable : (i j : Bool) (m : Name) (f : ℕ) (w : Way) (k x : ℕ) → froze i j (OfField m f) (OfVariable w k x) ≡ OfVariable w k x
froze-variable true true m f w k x = refl
froze-variable true false m f w k x = refl
froze-variable false j m f w k x = refl

froze-thawed : (u : UnitCode) (labels : Labels) (p q : Perm) (s l : Shape) (e r : Region) → froze (is_immutable u labels (Some (Ref p s))) (has_isolated (Some (Ref q l))) e r ≡ thawed p q e r
froze-thawed u labels Isolated q s l e r = refl
froze-thawed u labels Readable q s l e r = refl
froze-thawed u labels Writable q s l e r = refl
froze-thawed u labels Immutable Isolated s l e r = refl
froze-thawed u labels Immutable Immutable s l e r = refl
froze-thawed u labels Immutable Readable s l e r = refl
froze-thawed u labels Immutable Writable s l e r = refl

owner : {m n : Name} {f g : ℕ} → OfField m f ≡ OfField n g → m ≡ n
owner {m} {n} {f} {g} e = ap take e
  where
    take : Region → Name
    take (OfField n f) = n
    take Absent = m
    take Frozen = m
    take (OwnOf z) = m
    take (OfVariable w k x) = m
    take Loose = m

-- where something is frozen, the object is
froze-fields : (u : UnitCode) (labels : Labels) (h : Objects Name) (i j : Bool) (m : Name) (f : ℕ) → (i ≡ true → labels m ≡ Frozen) → FieldsStay u labels h (froze i j (OfField m f)) (froze-good i j m f)
froze-fields u labels h false j m f ice o g = inl refl
froze-fields u labels h true false m f ice o g = inl refl
froze-fields u labels h true true m f ice o g = by_test (same_region (OfField o g) (OfField m f)) refl
  where
    by_test : (t : Bool) → same_region (OfField o g) (OfField m f) ≡ t → (cond t Frozen (OfField o g) ≡ OfField o g) ⊎ ((labels o ≡ Frozen) × (cond t Frozen (OfField o g) ≡ Frozen))
    by_test true e = inr (ap labels (owner (region-true (OfField o g) (OfField m f) e)) ∙ ice refl, refl)
    by_test false e = inl refl

-- ---------- what is allowed ----------
-- the types of what is read through and of the field, and that of the variable that takes the value
pub record LoadTypes (c : Context) (x y f : ℕ) : Type 0 where
  pub p : Perm
  pub k : ℕ
  pub field : Ty
  pub taker : Ty
  pub through : type_of c y ≡ Some (Ref p (Class k))
  pub reads : field_among (slice_get c.classes k) f ≡ Some field
  pub takes : type_of c x ≡ Some taker
  pub kind : differ field taker ≡ false
  pub strong : weak (seen_through (Some (Ref p (Class k))) (Some field)) (Some taker) ≡ false
  pub needs : read_needs (Ref p (Class k)) field ≡ false
  pub barred : read_barred (Ref p (Class k)) field ≡ false

-- so it is of an allowed load
pub load-types : (c : Context) (x y f : ℕ) (G : Vars) → IsAllowed c (Simple (LoadField x y f)) G → LoadTypes c x y f
load-types c x y f G allowed = record {
  p = t.0;
  k = t.1;
  field = field.0;
  taker = taker.0;
  through = t.2;
  reads = field.1;
  takes = taker.1;
  kind = sym (ap (λ o. if_both_known (field_type c y f) o differ) taker.1 ∙ ap (λ o. if_both_known o (Some taker.0) differ) held) ∙ wrong.1;
  strong =
      sym (ap (λ o. weak (seen_through (type_of c y) (field_type c y f)) o) taker.1 ∙ ap (λ o. weak (seen_through (type_of c y) o) (Some taker.0)) held ∙ ap (λ o. weak (seen_through o (Some field.0)) (Some taker.0)) t.2)
      ∙ applies-none c (Simple (LoadField x y f)) G allowed PermissionTooWeak;
  needs = both-known read_needs (applies-none c (Simple (LoadField x y f)) G allowed NeedsConsume);
  barred = both-known read_barred (applies-none c (Simple (LoadField x y f)) G allowed NotAllowedThrough);
}
  where
    named : (is_none (type_of c x) || is_none (type_of c y) ≡ false) × (lacks_field c y f ≡ false)
    named = or_parts (is_none (type_of c x) || is_none (type_of c y)) (lacks_field c y f) (applies-none c (Simple (LoadField x y f)) G allowed UnknownName)

    wrong : (isnt_object c y ≡ false) × (shapes_differ (field_type c y f) (type_of c x) ≡ false)
    wrong = or_parts (isnt_object c y) (shapes_differ (field_type c y f) (type_of c x)) (applies-none c (Simple (LoadField x y f)) G allowed WrongKind)

    t : (p : Perm) × (k : ℕ) × (type_of c y ≡ Some (Ref p (Class k)))
    t = object-type (type_of c y) (or_parts (is_none (type_of c x)) (is_none (type_of c y)) named.0).1 wrong.0

    taker : (s : Ty) × (type_of c x ≡ Some s)
    taker = there (type_of c x) (or_parts (is_none (type_of c x)) (is_none (type_of c y)) named.0).0

    field : (s : Ty) × (type_of_field c.classes (Some (Ref t.0 (Class t.1))) f ≡ Some s)
    field = there (type_of_field c.classes (Some (Ref t.0 (Class t.1))) f) (sym (ap (λ o. if_known o is_object && is_none (type_of_field c.classes o f)) t.2) ∙ named.1)

    held : field_type c y f ≡ Some field.0
    held = ap (λ o. type_of_field c.classes o f) t.2 ∙ field.1

    both-known : (test : Ty → Ty → Bool) → if_both_known (type_of c y) (field_type c y f) test ≡ false → test (Ref t.0 (Class t.1)) field.0 ≡ false
    both-known test e = sym (ap (λ o. if_both_known o (field_type c y f) test) t.2 ∙ ap (λ o. if_both_known (Some (Ref t.0 (Class t.1))) o test) held) ∙ e

-- a field that is read is seen as something
seen : (p q : Perm) → (is_isolated q && is_none (adapted p q)) ≡ false → (s : Perm) × (adapted p q ≡ Some s)
seen Isolated Isolated e = absurd (let no : ⊥ = cc e in no)
seen Isolated Immutable e = (Immutable, refl)
seen Isolated Readable e = (Immutable, refl)
seen Isolated Writable e = (Isolated, refl)
seen Immutable Isolated e = (Immutable, refl)
seen Immutable Immutable e = (Immutable, refl)
seen Immutable Readable e = (Immutable, refl)
seen Immutable Writable e = (Immutable, refl)
seen Readable Isolated e = absurd (let no : ⊥ = cc e in no)
seen Readable Immutable e = (Immutable, refl)
seen Readable Readable e = (Readable, refl)
seen Readable Writable e = (Readable, refl)
seen Writable Isolated e = absurd (let no : ⊥ = cc e in no)
seen Writable Immutable e = (Immutable, refl)
seen Writable Readable e = (Readable, refl)
seen Writable Writable e = (Writable, refl)

-- through an isolated variable nothing tied is read
untied : (p q : Perm) (s l : Shape) → read_barred (Ref p s) (Ref q l) ≡ false → p ≡ Isolated → is_tied (Ref q l) ≡ false
untied p q s l e i = subst (λ (r : Perm). read_barred (Ref r s) (Ref q l) ≡ false) i e

-- what is read fits the variable that takes it
pub load-comes : (u : UnitCode) (labels : Labels) (h : Objects Name) (w : Way) (k x y : ℕ) (z : Zone) (r : Name) (f : ℕ) (p : Perm) (n : ℕ) (field taker : Ty) (d : Value Name) → differ field taker ≡ false → weak (seen_through (Some (Ref p (Class n))) (Some field)) (Some taker) ≡ false
    → read_needs (Ref p (Class n)) field ≡ false → read_barred (Ref p (Class n)) field ≡ false → var_may_lead p (OfVariable w k y) z (labels r) ≡ true → value_fits h (λ q m. field_may_lead q (OfField r f) (labels r) (labels m)) field d ≡ true
    → value_fits h (λ q m. var_may_lead q (OfVariable w k x) z (froze (is_immutable u labels (Some (Ref p (Class n)))) (has_isolated (Some field)) (OfField r f) (labels m))) taker d ≡ true
load-comes u labels h w k x y z r f p n Long Long d kind strong needs barred leads fits =
    value-carry h (λ q m. field_may_lead q (OfField r f) (labels r) (labels m)) (λ q m. var_may_lead q (OfVariable w k x) z (froze (is_immutable u labels (Some (Ref p (Class n)))) false (OfField r f) (labels m))) Long d (λ q s m e. absurd (let no : ⊥ = cc e in no)) fits
load-comes u labels h w k x y z r f p n Boolean Boolean d kind strong needs barred leads fits =
    value-carry h (λ q m. field_may_lead q (OfField r f) (labels r) (labels m)) (λ q m. var_may_lead q (OfVariable w k x) z (froze (is_immutable u labels (Some (Ref p (Class n)))) false (OfField r f) (labels m))) Boolean d (λ q s m e. absurd (let no : ⊥ = cc e in no)) fits
load-comes u labels h w k x y z r f p n (Ref q s) (Ref q' s') d kind strong needs barred leads fits =
    let a = seen p q needs in
    let o = kinds-fit a.0 q' s s' kind (sym (ap (λ (b : Option Perm). weak (option_map (λ r. Ref r s) b) (Some (Ref q' s'))) a.1) ∙ strong) in
    value-into h (λ q m. field_may_lead q (OfField r f) (labels r) (labels m)) (λ q' m. var_may_lead q' (OfVariable w k x) z (froze (is_immutable u labels (Some (Ref p (Class n)))) (has_isolated (Some (Ref q s))) (OfField r f) (labels m))) q q' s s' d o.0
    (λ m e. ap (λ b. var_may_lead q' (OfVariable w k x) z b) (froze-thawed u labels p q (Class n) s (OfField r f) (labels m))
    ∙ loaded p q a.0 q' (OfVariable w k y) (OfField r f) (labels r) (OfVariable w k x) (labels m) z a.1 o.1
    (λ i j. (let t : true ≡ false = subst (λ (v : Perm). is_tied (Ref v s) ≡ false) j (untied p q (Class n) s barred i) in let no : ⊥ = cc t in no))
    (λ i j. (let t : true ≡ false = subst (λ (v : Perm). is_tied (Ref v s) ≡ false) j (untied p q (Class n) s barred i) in let no : ⊥ = cc t in no)) leads e)
    fits
load-comes u labels h w k x y z r f p n Long Boolean d kind strong needs barred leads fits = absurd (let no : ⊥ = cc kind in no)
load-comes u labels h w k x y z r f p n Long (Ref q s) d kind strong needs barred leads fits = absurd (let no : ⊥ = cc kind in no)
load-comes u labels h w k x y z r f p n Boolean Long d kind strong needs barred leads fits = absurd (let no : ⊥ = cc kind in no)
load-comes u labels h w k x y z r f p n Boolean (Ref q s) d kind strong needs barred leads fits = absurd (let no : ⊥ = cc kind in no)
load-comes u labels h w k x y z r f p n (Ref q s) Long d kind strong needs barred leads fits = absurd (let no : ⊥ = cc kind in no)
load-comes u labels h w k x y z r f p n (Ref q s) Boolean d kind strong needs barred leads fits = absurd (let no : ⊥ = cc kind in no)

-- ---------- a field is read ----------
module _ (u : UnitCode) (labels : Labels) (h : Objects Name) (at : Way → Way) (z : Zone) (below : List ℕ) (b : Branch) (span : Span) (x y f : ℕ) (rest : Code) (st : List (Frame Held)) (H : Vars) (r : Name) (len : ℕ) (w : Held)
    (goes : RestGoes u below b.own.routine (Do span (LoadField x y f) rest) st (valued b.own.vars) H) (vars : variables_fit u labels h (top_zone (at Here) z st) (at Here) (calls st) 0 (context_of u b.own.routine).vars b.own.vars ≡ true)
    (stack : stack_fits u labels h (at Here) z b.own.routine st ≡ true) (objects : (n : Name) → object_fits u labels h n (h n) ≡ true) (here : slice_get b.own.vars y ≡ Some (Some (Reference r len))) (told : found (field_of h r f) ≡ Found w) where
  abbrev c : Context
  c = context_of u b.own.routine

  -- the labels after the load
  abbrev pub labels-loaded : Labels
  labels-loaded = relabelled (instruction_change u labels c (at Here) z b (LoadField x y f)) labels

  ts : LoadTypes c x y f
  ts =
      let is = load-types (context_above u below b.own.routine st) x y f (valued b.own.vars) (top-goes u below b.own.routine (Do span (LoadField x y f) rest) st (valued b.own.vars) H goes).1.0 in
      record { p = is.p; k = is.k; field = is.field; taker = is.taker; through = is.through; reads = is.reads; takes = is.takes; kind = is.kind; strong = is.strong; needs = is.needs; barred = is.barred }

  abbrev i : Bool
  i = is_immutable u labels (Some (Ref ts.p (Class ts.k)))

  abbrev j : Bool
  j = has_isolated (Some ts.field)

  abbrev ρ : Region → Region
  ρ = froze i j (OfField r f)

  held : type_of_field c.classes (type_of c y) f ≡ Some ts.field
  held = ap (λ o. type_of_field c.classes o f) ts.through ∙ ts.reads

  loaded-so : labels-loaded ≡ (λ n. ρ (labels n))
  loaded-so e n = same e
    where
      same : labels-loaded n ≡ ρ (labels n)
      same =
          ap (λ (o : Option Held). relabelled (cond (is_immutable u labels (type_of c y)) (cond (has_isolated (type_of_field c.classes (type_of c y) f)) (moving (Moves (field_region u labels o f) Frozen ∷ [])) no_change) no_change) labels n) here
          ∙ ap (λ (o : Option Ty). relabelled (cond (is_immutable u labels (type_of c y)) (cond (has_isolated o) (moving (Moves (OfField r f) Frozen ∷ [])) no_change) no_change) labels n) held
          ∙ ap (λ (o : Option Ty). relabelled (cond (is_immutable u labels o) (cond j (moving (Moves (OfField r f) Frozen ∷ [])) no_change) no_change) labels n) ts.through
          ∙ froze-so i j (OfField r f) labels n

  d : (a : Value Name) × ((field_of h r f ≡ Some a) × (w ≡ Some a))
  d = found-some (field_of h r f) w told

  led : (has_shape (h r) (Class ts.k) len ≡ true) × (var_may_lead ts.p (OfVariable (at Here) (calls st) y) (top_zone (at Here) z st) (labels r) ≡ true)
  led =
      and_parts (has_shape (h r) (Class ts.k) len) (var_may_lead ts.p (OfVariable (at Here) (calls st) y) (top_zone (at Here) z st) (labels r))
      ((to-all u labels h (top_zone (at Here) z st) (at Here) (calls st) c.vars b.own.vars vars).each y (Ref ts.p (Class ts.k)) (Reference r len) ts.through here)

  in-class : field_among (slice_get u.classes ts.k) f ≡ Some ts.field
  in-class = ap (λ (cs : List (List Ty)). field_among (slice_get cs ts.k) f) (sym (same-classes u b.own.routine)) ∙ ts.reads

  comes : value_fits h (λ q m. var_may_lead q (OfVariable (at Here) (calls st) x) (top_zone (at Here) z st) (ρ (labels m))) ts.taker d.0 ≡ true
  comes =
      load-comes u labels h (at Here) (calls st) x y (top_zone (at Here) z st) r f ts.p ts.k ts.field ts.taker d.0 ts.kind ts.strong ts.needs ts.barred led.1
      (field-fits u labels h r ts.k len f ts.field d.0 (objects r) led.0 in-class d.1.0)

  -- what the load changes of the labels
  load-field-moves : MovesFields labels labels-loaded
  load-field-moves = record { ρ = ρ; good = froze-good i j r f; own = froze-own i j r f; stay = froze-variable i j r f; so = loaded-so }

  vars-fit : variables_fit u labels-loaded h (top_zone (at Here) z st) (at Here) (calls st) 0 c.vars (assign b.own.vars x w) ≡ true
  vars-fit =
      subst (λ (v : Held). variables_fit u labels-loaded h (top_zone (at Here) z st) (at Here) (calls st) 0 c.vars (assign b.own.vars x v) ≡ true) (sym d.1.1)
      (variables-after u labels labels-loaded h load-field-moves (at Here) (calls st) (top_zone (at Here) z st) c.vars b.own.vars x ts.taker d.0 ts.takes
      (subst (λ (ls : Labels). value_fits h (λ q m. var_may_lead q (OfVariable (at Here) (calls st) x) (top_zone (at Here) z st) (ls m)) ts.taker d.0 ≡ true) (sym loaded-so) comes) vars)

  stack-fit : stack_fits u labels-loaded h (at Here) z b.own.routine st ≡ true
  stack-fit = stack-after u labels labels-loaded h load-field-moves (at Here) z b.own.routine st stack

  -- the branch that goes on fits
  pub load-field-fits : (l : Own) (t : ℕ) → l.vars ≡ assign b.own.vars x w → l.routine ≡ b.own.routine → tree_fits u labels-loaded h at z (done (core u) b t (On l rest st)) ≡ true
  load-field-fits l t same routine = on-fits u labels-loaded h (at Here) z b l t b.own.routine (assign b.own.vars x w) rest st same routine vars-fit stack-fit at refl

  -- and so do the objects
  pub load-field-objects : (n : Name) → object_fits u labels-loaded h n (h n) ≡ true
  load-field-objects n =
      subst (λ (ls : Labels). object_fits u ls h n (h n) ≡ true) (sym loaded-so)
      (object-carry u labels h ρ (froze-good i j r f) (froze-fields u labels h i j r f ice) n (h n) (objects n))
    where
      frozen-through : (p : Perm) → is_immutable u labels (Some (Ref p (Class ts.k))) ≡ true → var_may_lead p (OfVariable (at Here) (calls st) y) (top_zone (at Here) z st) (labels r) ≡ true → labels r ≡ Frozen
      frozen-through Immutable e q = frozen-true (labels r) q
      frozen-through Isolated e q = absurd (let no : ⊥ = cc e in no)
      frozen-through Readable e q = absurd (let no : ⊥ = cc e in no)
      frozen-through Writable e q = absurd (let no : ⊥ = cc e in no)

      ice : i ≡ true → labels r ≡ Frozen
      ice e = frozen-through ts.p e led.1

-- ---------- a length or an element is read ----------
-- a number comes into a variable that takes one
long-taker : (o : Option Ty) → is_none o ≡ false → shapes_differ (Some Long) o ≡ false → o ≡ Some Long
long-taker None known e = absurd (let no : ⊥ = cc known in no)
long-taker (Some Long) known e = refl
long-taker (Some Boolean) known e = absurd (let no : ⊥ = cc e in no)
long-taker (Some (Ref p s)) known e = absurd (let no : ⊥ = cc e in no)

module _ (u : UnitCode) (labels : Labels) (h : Objects Name) (at : Way → Way) (z : Zone) (b : Branch) (x : ℕ) (rest : Code) (st : List (Frame Held)) (type : type_of (context_of u b.own.routine) x ≡ Some Long)
    (vars : variables_fit u labels h (top_zone (at Here) z st) (at Here) (calls st) 0 (context_of u b.own.routine).vars b.own.vars ≡ true) (stack : stack_fits u labels h (at Here) z b.own.routine st ≡ true) where
  -- the branch that goes on with a number in the variable fits
  number-fits : (n : ℤ) (l : Own) (t : ℕ) → l.vars ≡ assign b.own.vars x (Some (Number n)) → l.routine ≡ b.own.routine → tree_fits u labels h at z (done (core u) b t (On l rest st)) ≡ true
  number-fits n l t same routine =
      on-fits u labels h (at Here) z b l t b.own.routine (assign b.own.vars x (Some (Number n))) rest st same routine
      (variables-after u labels labels h (moves-none labels) (at Here) (calls st) (top_zone (at Here) z st) (context_of u b.own.routine).vars b.own.vars x Long (Number n) type refl vars) stack at refl

-- the length of an array comes into a variable. No label changes, nor does the heap
pub load-length-fits : (u : UnitCode) (labels : Labels) (h : Objects Name) (at : Way → Way) (z : Zone) (below : List ℕ) (b : Branch) (span : Span) (x y : ℕ) (rest : Code) (st : List (Frame Held)) (H : Vars) (n : ℤ) → RestGoes u below b.own.routine (Do span (LoadLength x y) rest) st (valued b.own.vars) H
    → variables_fit u labels h (top_zone (at Here) z st) (at Here) (calls st) 0 (context_of u b.own.routine).vars b.own.vars ≡ true → stack_fits u labels h (at Here) z b.own.routine st ≡ true
    → (l : Own) (t : ℕ) → l.vars ≡ assign b.own.vars x (Some (Number n)) → l.routine ≡ b.own.routine → tree_fits u labels h at z (done (core u) b t (On l rest st)) ≡ true
load-length-fits u labels h at z below b span x y rest st H n goes vars stack = number-fits u labels h at z b x rest st (long-taker (type_of c x) known kind) vars stack n
  where
    c : Context
    c = context_above u below b.own.routine st

    allowed : IsAllowed c (Simple (LoadLength x y)) (valued b.own.vars)
    allowed = (top-goes u below b.own.routine (Do span (LoadLength x y) rest) st (valued b.own.vars) H goes).1.0

    known : is_none (type_of c x) ≡ false
    known = (or_parts (is_none (type_of c x)) (is_none (type_of c y)) (or_parts (is_none (type_of c x) || is_none (type_of c y)) false (applies-none c (Simple (LoadLength x y)) (valued b.own.vars) allowed UnknownName)).0).0

    kind : shapes_differ (Some Long) (type_of c x) ≡ false
    kind = (or_parts (isnt_array c y) (shapes_differ (Some Long) (type_of c x)) (applies-none c (Simple (LoadLength x y)) (valued b.own.vars) allowed WrongKind)).1

-- an element of an array comes into a variable. No label changes, nor does the heap
pub load-item-fits : (u : UnitCode) (labels : Labels) (h : Objects Name) (at : Way → Way) (z : Zone) (below : List ℕ) (b : Branch) (span : Span) (x y : ℕ) (e : Term) (rest : Code) (st : List (Frame Held)) (H : Vars) (r : Name) (len f : ℕ) (w : Held)
    → RestGoes u below b.own.routine (Do span (LoadItem x y e) rest) st (valued b.own.vars) H → variables_fit u labels h (top_zone (at Here) z st) (at Here) (calls st) 0 (context_of u b.own.routine).vars b.own.vars ≡ true
    → stack_fits u labels h (at Here) z b.own.routine st ≡ true → ((n : Name) → object_fits u labels h n (h n) ≡ true) → slice_get b.own.vars y ≡ Some (Some (Reference r len)) → found (field_of h r f) ≡ Found w
    → (l : Own) (t : ℕ) → l.vars ≡ assign b.own.vars x w → l.routine ≡ b.own.routine → tree_fits u labels h at z (done (core u) b t (On l rest st)) ≡ true
load-item-fits u labels h at z below b span x y e rest st H r len f w goes vars stack objects here told l t same routine =
    number-fits u labels h at z b x rest st (long-taker (type_of c x) named.0 kind) vars stack number.0 l t (same ∙ ap (λ (v : Held). assign b.own.vars x v) (d.1.1 ∙ ap (λ (a : Value Name). Some a) number.1)) routine
  where
    c : Context
    c = context_above u below b.own.routine st

    allowed : IsAllowed c (Simple (LoadItem x y e)) (valued b.own.vars)
    allowed = (top-goes u below b.own.routine (Do span (LoadItem x y e) rest) st (valued b.own.vars) H goes).1.0

    named : (is_none (type_of c x) ≡ false) × (is_none (type_of c y) || any_in_term (λ x. is_none (type_of c x)) e ≡ false)
    named =
        or_parts (is_none (type_of c x)) (is_none (type_of c y) || any_in_term (λ x. is_none (type_of c x)) e)
        (or_parts (is_none (type_of c x) || (is_none (type_of c y) || any_in_term (λ x. is_none (type_of c x)) e)) false (applies-none c (Simple (LoadItem x y e)) (valued b.own.vars) allowed UnknownName)).0

    wrong : (isnt_array c y ≡ false) × (isnt_long c e || shapes_differ (Some Long) (type_of c x) ≡ false)
    wrong = or_parts (isnt_array c y) (isnt_long c e || shapes_differ (Some Long) (type_of c x)) (applies-none c (Simple (LoadItem x y e)) (valued b.own.vars) allowed WrongKind)

    kind : shapes_differ (Some Long) (type_of c x) ≡ false
    kind = (or_parts (isnt_long c e) (shapes_differ (Some Long) (type_of c x)) wrong.1).1

    through : (p : Perm) × (type_of c y ≡ Some (Ref p Array))
    through = array-type (type_of c y) (or_parts (is_none (type_of c y)) (any_in_term (λ x. is_none (type_of c x)) e) named.1).0 wrong.0

    led : (has_shape (h r) Array len ≡ true) × (var_may_lead through.0 (OfVariable (at Here) (calls st) y) (top_zone (at Here) z st) (labels r) ≡ true)
    led =
        and_parts (has_shape (h r) Array len) (var_may_lead through.0 (OfVariable (at Here) (calls st) y) (top_zone (at Here) z st) (labels r))
        ((to-all u labels h (top_zone (at Here) z st) (at Here) (calls st) (context_of u b.own.routine).vars b.own.vars vars).each y (Ref through.0 Array) (Reference r len) through.1 here)

    d : (a : Value Name) × ((field_of h r f ≡ Some a) × (w ≡ Some a))
    d = found-some (field_of h r f) w told

    number : (n : ℤ) × (d.0 ≡ Number n)
    number = item-fits u labels h r len f d.0 (objects r) led.0 d.1.0
