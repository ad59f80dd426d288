-- An argument's value is stored in a field: the branch and the objects fit after it, the changed one included.
use Rattle.std.proofs.Common.{◌≡◌, ℕ, ◌<◌, Bool, true, false, Option, Some, None, List, refl, sym, ap, subst, ◌∙◌, arith, le_refl, inl, inr}
use Rattle.std.specs.Prelude.{◌⊎◌, ◌&&◌, ◌||◌, not, nat_eq, slice_get, slice_set, is_none}
use Rattle.std.proofs.lemmas.Bool.{or_parts, or_left, not-false, and_parts}
use Rattle.perm_tree.specs.declared.ast.Perm.{Perm}
use Rattle.perm_tree.specs.declared.ast.Perm.TheVariants.{Isolated, Immutable, Readable, Writable}
use Rattle.perm_tree.specs.declared.ast.Shape.{Shape}
use Rattle.perm_tree.specs.declared.ast.Shape.TheVariants.{Class, Array}
use Rattle.perm_tree.specs.declared.ast.Span.{Span}
use Rattle.perm_tree.specs.declared.ast.Ty.{Ty}
use Rattle.perm_tree.specs.declared.ast.Ty.TheVariants.{Long, Bool as Boolean, Ref}
use Rattle.perm_tree.specs.declared.errors.TypeKind.TheVariants.{UnknownName, WrongKind, Gone, NeedsConsume, NotAllowedThrough, PermissionTooWeak}
use Rattle.perm_tree.specs.Code.{Argument, Expression, Consumed, StoreField, Code, Do, Routine, UnitCode}
use Rattle.perm_tree.specs.CodeNames.{is_tied}
use Rattle.perm_tree.specs.Mentions.{any_in_argument, mentions}
use Rattle.perm_tree.specs.Shapes.{same_shape}
use Rattle.perm_tree.specs.Vars.{Vars, those}
use Rattle.perm_rules.specs.Liveness.{dead, after_argument}
use Rattle.perm_rules.specs.Parts.{Context, Simple, any_in_part, type_of, type_of_field, field_among, if_known, is_object, if_both_known}
use Rattle.perm_rules.specs.Permissions.{argument_weak, may_store}
use Rattle.perm_rules.specs.Refusals.{IsAllowed}
use Rattle.perm_rules.specs.Shapes.{argument_misfits, isnt_object, lacks_field}
use Rattle.perm_rules.proofs.PartLaws.{applies-none, part-known}
use Rattle.perm_meaning.specs.Values.{Value, Reference}
use Rattle.perm_meaning.specs.Names.{Name, same_name}
use Rattle.perm_meaning.specs.Objects.{Object, Objects, put}
use Rattle.perm_meaning.specs.Machine.{Frame, Way, Here, On, done}
use Rattle.perm_meaning.specs.NamedHeap.{Held, Heap, Own, Branch, stored}
use Rattle.perm_meaning.proofs.SameName.{eq-itself, eq-true}
use Rattle.perm_core.specs.Core.{core}
use Rattle.perm_core.specs.Regions.{Zone, Region, OwnOf, OfVariable, OfField, Labels, is_absent, var_may_lead, field_may_lead, calls, zones, top_zone}
use Rattle.perm_core.specs.Picture.{context_if, context_of, has_shape, value_fits, variables_fit, stack_fits, tree_fits, class_fits, values_fit, object_fits, valued, hidden_above, context_above, RestGoes, stack_hidden}
use Rattle.perm_core.specs.NextPicture.{moved, goal_of, consumed_moves, region_of, field_region}
use Rattle.perm_core.proofs.KeepsPicture.Turns.Arguments.{get-some, Comes, argument-comes}
use Rattle.perm_core.proofs.KeepsPicture.Turns.Arrivals.{into-own, into-any}
use Rattle.perm_core.proofs.KeepsPicture.Turns.AssignTurns.{moves, moves-good, moves-own, moves-fields, moves-beside, moves-lower, one-cases}
use Rattle.perm_core.proofs.KeepsPicture.Calls.CallEnds.{StartsLow, stack-stays, goal-there}
use Rattle.perm_core.proofs.KeepsPicture.Labels.CarriedValues.{AllFit, to-all, from-all, one-carry, stack-carry}
use Rattle.perm_core.proofs.KeepsPicture.Order.HiddenVariables.{top-goes, statement-shown}
use Rattle.perm_core.proofs.KeepsPicture.Turns.LeafTurns.{Gives_one}
use Rattle.perm_core.proofs.KeepsPicture.Order.LiveLists.{one-length}
use Rattle.perm_core.proofs.KeepsPicture.Labels.OtherHeaps.{KeepsShapes, variables-more, stack-more, field-more}
use Rattle.perm_core.proofs.KeepsPicture.Turns.PlainTurns.{on-fits}
use Rattle.perm_core.proofs.KeepsPicture.Labels.Relabellings.{object-carry, region-true, value-carry}
use Rattle.perm_core.proofs.KeepsPicture.Objects.ChangedObjects.{fields-set, put-objects, told-shape, store-keeps}

-- the classes by which a method is checked are those of its unit
unit-classes : (u : UnitCode) (m : ℕ) → (context_of u m).classes ≡ u.classes
unit-classes u m = go (slice_get u.routines m)
  where
    go : (o : Option Routine) → (context_if u o).classes ≡ u.classes
    go None = refl
    go (Some r) = refl

-- the receiver of a store is an object of a class that has the field, and its permission lets it be written
pub record StoreTypes (classes : List (List Ty)) (receiver : Option Ty) (f : ℕ) : Type 0 where
  pub p : Perm
  pub k : ℕ
  pub t : Ty
  pub is : receiver ≡ Some (Ref p (Class k))
  pub field : type_of_field classes (Some (Ref p (Class k))) f ≡ Some t
  pub may : may_store (Ref p (Class k)) t ≡ true

-- so it is of an allowed store
pub store-types : (c : Context) (y f : ℕ) (a : Argument) (G : Vars) → IsAllowed c (Simple (StoreField y f a)) G → StoreTypes c.classes (type_of c y) f
store-types c y f a G allowed = of_type (get-some c.vars y (part-known c (Simple (StoreField y f a)) G allowed y (or_left (nat_eq y y) (any_in_argument (nat_eq y) a) (eq-itself y))))
  where
    lacks : lacks_field c y f ≡ false
    lacks = (or_parts (any_in_part (λ x. is_none (type_of c x)) (Simple (StoreField y f a))) (lacks_field c y f) (applies-none c (Simple (StoreField y f a)) G allowed UnknownName)).1

    wrong : isnt_object c y ≡ false
    wrong = (or_parts (isnt_object c y) (argument_misfits c a (type_of_field c.classes (type_of c y) f)) (applies-none c (Simple (StoreField y f a)) G allowed WrongKind)).0

    barred : if_both_known (type_of c y) (type_of_field c.classes (type_of c y) f) (λ t u. not (may_store t u)) ≡ false
    barred = applies-none c (Simple (StoreField y f a)) G allowed NotAllowedThrough

    of_field : (p : Perm) (k : ℕ) → type_of c y ≡ Some (Ref p (Class k)) → (o : Option Ty) → type_of_field c.classes (Some (Ref p (Class k))) f ≡ o → is_none o ≡ false → if_both_known (Some (Ref p (Class k))) o (λ t u. not (may_store t u)) ≡ false → StoreTypes c.classes (type_of c y) f
    of_field p k is None here e m = absurd (let no : ⊥ = cc e in no)
    of_field p k is (Some t) here e m = record { p = p; k = k; t = t; is = is; field = here; may = not-false (may_store (Ref p (Class k)) t) m }

    of_type : (t : Ty) × (type_of c y ≡ Some t) → StoreTypes c.classes (type_of c y) f
    of_type (Long, is) = absurd (let q = sym (ap (λ o. if_known o (λ t. not (is_object t))) is) ∙ wrong in let no : ⊥ = cc q in no)
    of_type (Boolean, is) = absurd (let q = sym (ap (λ o. if_known o (λ t. not (is_object t))) is) ∙ wrong in let no : ⊥ = cc q in no)
    of_type (Ref p Array, is) = absurd (let q = sym (ap (λ o. if_known o (λ t. not (is_object t))) is) ∙ wrong in let no : ⊥ = cc q in no)
    of_type (Ref p (Class k), is) =
        of_field p k is (type_of_field c.classes (Some (Ref p (Class k))) f) refl
        (sym (ap (λ o. if_known o is_object && is_none (type_of_field c.classes o f)) is) ∙ lacks)
        (sym (ap (λ o. if_both_known o (type_of_field c.classes o f) (λ t u. not (may_store t u))) is) ∙ barred)

-- where a value goes that is stored through a variable in zone z: the region of the receiver matters only where it is the zone's own
goal-home : (p : Perm) (k : ℕ) (t : Ty) (from e home : Region) (z : Zone) → may_store (Ref p (Class k)) t ≡ true → var_may_lead p from z home ≡ true → goal_of (Some t) e home ≡ goal_of (Some t) e (OwnOf z)
goal-home Writable k t from e home z may leads = ap (goal_of (Some t) e) (region-true home (OwnOf z) leads)
goal-home Isolated k Long from e home z may leads = refl
goal-home Isolated k Boolean from e home z may leads = refl
goal-home Isolated k (Ref Isolated s) from e home z may leads = refl
goal-home Isolated k (Ref Immutable s) from e home z may leads = refl
goal-home Isolated k (Ref Readable s) from e home z may leads = absurd (let no : ⊥ = cc may in no)
goal-home Isolated k (Ref Writable s) from e home z may leads = absurd (let no : ⊥ = cc may in no)
goal-home Readable k t from e home z may leads = absurd (let no : ⊥ = cc may in no)
goal-home Immutable k t from e home z may leads = absurd (let no : ⊥ = cc may in no)

-- what leads as from a variable in the zone leads so from the field
field-leads : (p : Perm) (k : ℕ) (q : Perm) (s : Shape) (e home r : Region) (z : Zone) → may_store (Ref p (Class k)) (Ref q s) ≡ true → (p ≡ Writable → home ≡ OwnOf z) → var_may_lead q e z r ≡ true → field_may_lead q e home r ≡ true
field-leads Writable k q s e home r z may own leads = into-own q e home r z (own refl) leads
field-leads Isolated k q s e home r z may own leads = into-any q e home r z (untied Readable refl) (untied Writable refl) leads
  where
    untied : (p : Perm) → is_tied (Ref p s) ≡ true → q ≡ p → ⊥
    untied p tied same = let no : false ≡ true = sym (ap not (ap (λ p. is_tied (Ref p s)) same ∙ tied)) ∙ may in let w : ⊥ = cc no in w
field-leads Readable k q s e home r z may own leads = absurd (let no : ⊥ = cc may in no)
field-leads Immutable k q s e home r z may own leads = absurd (let no : ⊥ = cc may in no)

module _ (u : UnitCode) (labels : Labels) (heap : Heap) (at : Way → Way) (z : Zone) (low : StartsLow (at Here) z) (below : List ℕ) (b : Branch) (span : Span) (y f : ℕ) (a : Argument) (rest : Code) (st : List (Frame Held)) (H : Vars) (v : Held) (ws : List Held) (r : Name) (len : ℕ)
    (goes : RestGoes u below b.own.routine (Do span (StoreField y f a) rest) st (valued b.own.vars) H) (vars : variables_fit u labels heap.objects (top_zone (at Here) z st) (at Here) (calls st) 0 (context_of u b.own.routine).vars b.own.vars ≡ true)
    (stack : stack_fits u labels heap.objects (at Here) z b.own.routine st ≡ true) (hid : stack_hidden below (Do span (StoreField y f a) rest) st ≡ true) (one : Gives_one b.own.vars a v ws) (here : slice_get ws y ≡ Some (Some (Reference r len))) where
  abbrev c : Context
  c = context_of u b.own.routine

  abbrev h : Objects Name
  h = heap.objects

  abbrev k : ℕ
  k = calls st

  abbrev top : Zone
  top = top_zone (at Here) z st

  -- the labels after the store
  abbrev pub placed : Labels
  placed n = moved (consumed_moves c (at Here) (calls st) a (goal_of (type_of_field c.classes (type_of c y) f) (field_region u labels (slice_get b.own.vars y) f) (region_of u labels (slice_get b.own.vars y)))) (labels n)

  fit : AllFit u labels h top (at Here) k c.vars b.own.vars
  fit = to-all u labels h top (at Here) k c.vars b.own.vars vars

  abbrev part : Context
  part = context_above u below b.own.routine st

  allowed : IsAllowed part (Simple (StoreField y f a)) (valued b.own.vars)
  allowed = (top-goes u below b.own.routine (Do span (StoreField y f a) rest) st (valued b.own.vars) H goes).1.0

  ts : StoreTypes c.classes (type_of c y) f
  ts = store-types part y f a (valued b.own.vars) allowed

  -- the receiver isn't consumed
  was : (slice_get b.own.vars y ≡ Some (Some (Reference r len))) × ((x : ℕ) → a ≡ Consumed x → y ≡ x → ⊥)
  was = one-cases b.own.vars ws a v y (Reference r len) one here

  receiver : (has_shape (h r) (Class ts.k) len ≡ true) × (var_may_lead ts.p (OfVariable (at Here) k y) top (labels r) ≡ true)
  receiver = and_parts (has_shape (h r) (Class ts.k) len) (var_may_lead ts.p (OfVariable (at Here) k y) top (labels r)) (fit.each y (Ref ts.p (Class ts.k)) (Reference r len) ts.is was.0)

  abbrev to : Region
  to = goal_of (type_of_field c.classes (type_of c y) f) (field_region u labels (slice_get b.own.vars y) f) (region_of u labels (slice_get b.own.vars y))

  home : to ≡ goal_of (Some ts.t) (OfField r f) (OwnOf top)
  home =
      ap (λ o. goal_of (type_of_field c.classes o f) (field_region u labels (slice_get b.own.vars y) f) (region_of u labels (slice_get b.own.vars y))) ts.is
      ∙ (ap (λ o. goal_of (type_of_field c.classes (Some (Ref ts.p (Class ts.k))) f) (field_region u labels o f) (region_of u labels o)) was.0
      ∙ (ap (λ o. goal_of o (OfField r f) (labels r)) ts.field ∙ goal-home ts.p ts.k ts.t (OfVariable (at Here) k y) (OfField r f) (labels r) top ts.may receiver.1))

  to-there : is_absent to ≡ false
  to-there = ap (λ g. is_absent g) home ∙ goal-there (Some ts.t) (OfField r f) (OwnOf top) refl refl

  abbrev ρ : Region → Region
  ρ = moves u labels h c (at Here) k to to-there a

  -- the value fits the field
  comes : (d : Value Name) × ((v ≡ Some d) × Comes u labels h c (at Here) k top b.own.vars fit ts.t (OfField r f) top a d)
  comes =
      argument-comes u labels h c (at Here) k top b.own.vars fit ts.t (OfField r f) top a v ws one
      (or_parts (any_in_argument (dead (valued b.own.vars)) a) (dead (after_argument a (valued b.own.vars)) y) (applies-none part (Simple (StoreField y f a)) (valued b.own.vars) allowed Gone)).0
      (sym (ap (λ o. argument_misfits part a o) type) ∙ (or_parts (isnt_object part y) (argument_misfits part a (type_of_field c.classes (type_of c y) f)) (applies-none part (Simple (StoreField y f a)) (valued b.own.vars) allowed WrongKind)).1)
      (sym (ap (λ o. argument_weak part a o) type) ∙ applies-none part (Simple (StoreField y f a)) (valued b.own.vars) allowed PermissionTooWeak)
      (applies-none part (Simple (StoreField y f a)) (valued b.own.vars) allowed NeedsConsume)
      (λ x p s m q. (λ e. refl, λ e. refl))
    where
      type : type_of_field c.classes (type_of c y) f ≡ Some ts.t
      type = ap (λ o. type_of_field c.classes o f) ts.is ∙ ts.field

  -- the objects after the store
  abbrev more : Objects Name
  more = put same_name heap.objects r f comes.0

  kept : KeepsShapes placed placed h more
  kept = store-keeps u placed heap r f (Some comes.0)

  -- in the heap before the store all fits under the labels after it
  old-vars : variables_fit u placed h top (at Here) k 0 c.vars ws ≡ true
  old-vars = from-all u placed h top (at Here) k c.vars ws (record { lengths = fit.lengths ∙ sym (one-length b.own.vars ws a v one); each = each })
    where
      each : (n : ℕ) (t : Ty) (d : Value Name) → slice_get c.vars n ≡ Some t → slice_get ws n ≡ Some (Some d) → value_fits h (λ p m. var_may_lead p (OfVariable (at Here) k n) top (placed m)) t d ≡ true
      each n t d is has =
          let o = one-cases b.own.vars ws a v n d one has in
          one-carry u labels h ρ (moves-good u labels h c (at Here) k to to-there a) (at Here) (at Here) k k n n top top t d
          (moves-beside u labels h c (at Here) k to to-there a n o.1) (moves-own u labels h c (at Here) k to to-there a top) (fit.each n t d is o.0)

  old-stack : stack_fits u placed h (at Here) z b.own.routine st ≡ true
  old-stack =
      stack-carry u labels h ρ (moves-good u labels h c (at Here) k to to-there a) (at Here) z b.own.routine st
      (stack-stays u labels h ρ (moves-good u labels h c (at Here) k to to-there a) (at Here) z below (Do span (StoreField y f a) rest) st (zones st) stays (λ q e. moves-own u labels h c (at Here) k to to-there a q) low (le_refl (zones st)) hid) stack
    where
      stands : (a : Argument) (x : ℕ) → a ≡ Consumed x → mentions (StoreField y f a) x ≡ true
      stands (Expression e) x q = absurd (let no : ⊥ = cc q in no)
      stands (Consumed n) x q = let same : n ≡ x = cc q in second (nat_eq x y) (nat_eq x n) (ap (nat_eq x) same ∙ eq-itself x)
        where
          second : (p q : Bool) → q ≡ true → (p || q) ≡ true
          second true q e = refl
          second false q e = e

      stays : (i n : ℕ) → (i < calls st) ⊎ ((i ≡ calls st) × (those (hidden_above below st) n ≡ true)) → ρ (OfVariable (at Here) i n) ≡ OfVariable (at Here) i n
      stays i n (inl less) = moves-lower u labels h c (at Here) k to to-there a i n less
      stays i n (inr q) =
          subst (λ (j : ℕ). ρ (OfVariable (at Here) j n) ≡ OfVariable (at Here) j n) (sym q.0)
          (moves-beside u labels h c (at Here) k to to-there a n (λ x e same. unmentioned x e (ap (λ (m : ℕ). those (hidden_above below st) m) (sym same) ∙ q.1)))
        where
          unmentioned : (x : ℕ) → a ≡ Consumed x → those (hidden_above below st) x ≡ true → ⊥
          unmentioned x e hidden = let no : true ≡ false = sym (stands a x e) ∙ statement-shown u below b.own.routine span (StoreField y f a) rest st (valued b.own.vars) H goes x hidden in let w : ⊥ = cc no in w

  -- and the value fits its field
  old-field : value_fits h (λ p n. field_may_lead p (OfField r f) (placed r) (placed n)) ts.t comes.0 ≡ true
  old-field =
      value-carry h (λ p n. var_may_lead p (OfField r f) top (placed n)) (λ p n. field_may_lead p (OfField r f) (placed r) (placed n)) ts.t comes.0
      (λ p s n is q. field-leads ts.p ts.k p s (OfField r f) (placed r) (placed n) top (ap (λ t. may_store (Ref ts.p (Class ts.k)) t) (sym is) ∙ ts.may) own q)
      (subst (λ (g : Region). value_fits h (λ p n. var_may_lead p (OfField r f) top (moved (consumed_moves c (at Here) k a g) (labels n))) ts.t comes.0 ≡ true) (sym home) comes.1.1)
    where
      own : ts.p ≡ Writable → placed r ≡ OwnOf top
      own q = ap ρ (region-true (labels r) (OwnOf top) (sym (ap (λ p. var_may_lead p (OfVariable (at Here) k y) top (labels r)) q) ∙ receiver.1)) ∙ moves-own u labels h c (at Here) k to to-there a top

  changed : (o : Object Name) → h r ≡ Some o → values_fit u placed more r o.shape o.values ≡ true → values_fit u placed more r o.shape (slice_set o.values f comes.0) ≡ true
  changed o is e = go o.shape (told-shape h r o (Class ts.k) len is receiver.0) e
    where
      in_class : (fs : Option (List Ty)) → field_among fs f ≡ Some ts.t → class_fits u placed more r fs o.values ≡ true → class_fits u placed more r fs (slice_set o.values f comes.0) ≡ true
      in_class None q e = absurd (let no : ⊥ = cc e in no)
      in_class (Some fs) q e =
          fields-set u placed more r 0 f fs o.values ts.t comes.0 q
          (λ n same. let at_f : n ≡ f = omega (arith, same) in subst (λ (m : ℕ). value_fits more (λ p n. field_may_lead p (OfField r m) (placed r) (placed n)) ts.t comes.0 ≡ true) (sym at_f) (field-more u placed placed h more kept r f ts.t comes.0 refl old-field)) e

      go : (s : Shape) → same_shape s (Class ts.k) ≡ true → values_fit u placed more r s o.values ≡ true → values_fit u placed more r s (slice_set o.values f comes.0) ≡ true
      go Array q e = absurd (let no : ⊥ = cc q in no)
      go (Class l) q e =
          in_class (slice_get u.classes l) (ap (λ (n : ℕ). field_among (slice_get u.classes n) f) (eq-true l ts.k q) ∙ (ap (λ (cs : List (List Ty)). field_among (slice_get cs ts.k) f) (sym (unit-classes u b.own.routine)) ∙ ts.field)) e

  -- the branch that goes on fits
  pub store-fits : (l : Own) (t : ℕ) → l.vars ≡ ws → l.routine ≡ b.own.routine → tree_fits u placed (stored v r f heap).objects at z (done (core u) b t (On l rest st)) ≡ true
  store-fits l t same routine =
      subst (λ (w : Held). tree_fits u placed (stored w r f heap).objects at z (done (core u) b t (On l rest st)) ≡ true) (sym comes.1.0)
      (on-fits u placed more (at Here) z b l t b.own.routine ws rest st same routine (variables-more u placed placed h more kept top (at Here) k 0 c.vars ws old-vars) (stack-more u placed placed h more kept (at Here) z b.own.routine st old-stack) at refl)

  -- and so do the objects
  pub store-objects : ((n : Name) → object_fits u labels heap.objects n (heap.objects n) ≡ true) → (n : Name) → object_fits u placed (stored v r f heap).objects n ((stored v r f heap).objects n) ≡ true
  store-objects all n =
      subst (λ (w : Held). object_fits u placed (stored w r f heap).objects n ((stored w r f heap).objects n) ≡ true) (sym comes.1.0)
      (put-objects u placed h r f comes.0 kept changed
      (λ m. object-carry u labels h ρ (moves-good u labels h c (at Here) k to to-there a) (moves-fields u labels h c (at Here) k to to-there a) m (h m) (all m)) n)
