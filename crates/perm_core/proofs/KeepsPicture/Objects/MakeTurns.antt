-- A new object comes into a variable: the branch and the objects fit after it, the new object included.
use Rattle.std.proofs.Common.{◌≡◌, ℕ, zero, suc, ◌<◌, Bool, true, false, Option, Some, None, List, [], ◌∷◌, length, refl, sym, ap, subst, ◌∙◌, inl, inr}
use Rattle.std.specs.Prelude.{◌⊎◌, not, nat_eq, cond, pos, map, replicate, slice_get}
use Rattle.std.specs.List.{list_all}
use Rattle.std.proofs.lemmas.Bool.{or_parts, or_left, not-false}
use Rattle.std.proofs.lemmas.List.{length-replicate}
use Rattle.perm_tree.specs.declared.ast.Perm.{Perm}
use Rattle.perm_tree.specs.declared.ast.Perm.TheVariants.{Isolated}
use Rattle.perm_tree.specs.declared.ast.Shape.{Shape}
use Rattle.perm_tree.specs.declared.ast.Shape.TheVariants.{Class, Array}
use Rattle.perm_tree.specs.declared.ast.Span.{Span}
use Rattle.perm_tree.specs.declared.ast.Ty.{Ty}
use Rattle.perm_tree.specs.declared.ast.Ty.TheVariants.{Long, Bool as Boolean, Ref}
use Rattle.perm_tree.specs.declared.errors.TypeKind.TheVariants.{WrongKind}
use Rattle.perm_tree.specs.Code.{Instruction, NewObject, NewArray, Code, Do, UnitCode}
use Rattle.perm_tree.specs.Mentions.{any_in_term}
use Rattle.perm_tree.specs.Shapes.{same_shape}
use Rattle.perm_tree.specs.Vars.{Vars}
use Rattle.perm_rules.specs.Parts.{Context, Simple, type_of}
use Rattle.perm_rules.specs.Refusals.{IsAllowed}
use Rattle.perm_rules.specs.Shapes.{shapes_differ}
use Rattle.perm_rules.specs.Sorts.{isnt_long, differ}
use Rattle.perm_rules.proofs.PartLaws.{applies-none, part-known}
use Rattle.perm_meaning.specs.Values.{Value, Number, Reference}
use Rattle.perm_meaning.specs.Names.{Name, next_name, same_name}
use Rattle.perm_meaning.specs.Objects.{Object, Objects, zero_of, types_or_none, first_values, new_object, length_of, this_or, add}
use Rattle.perm_meaning.specs.Expressions.{assign}
use Rattle.perm_meaning.specs.Machine.{Frame, Way, Here, On, done}
use Rattle.perm_meaning.specs.NamedHeap.{Held, Own, Branch}
use Rattle.perm_meaning.proofs.Leads.{some-inj}
use Rattle.perm_meaning.proofs.SameName.{together, eq-itself, name-true, name-itself}
use Rattle.perm_core.specs.Core.{core}
use Rattle.perm_core.specs.Regions.{Zone, Region, OwnOf, OfVariable, OfField, Labels, is_absent, var_may_lead, field_may_lead, calls, top_zone}
use Rattle.perm_core.specs.Picture.{context_of, has_shape, value_fits, variables_fit, stack_fits, tree_fits, fields_fit, is_number, class_fits, values_fit, object_fits, valued, context_above, RestGoes}
use Rattle.perm_core.specs.NextPicture.{label_new, goal_of, goal_at}
use Rattle.perm_core.proofs.KeepsPicture.Turns.Arguments.{get-some}
use Rattle.perm_core.proofs.KeepsPicture.Calls.CallEnds.{set-cases, set-length, goal-there, goal-leads}
use Rattle.perm_core.proofs.KeepsPicture.Labels.CarriedValues.{AllFit, to-all, from-all}
use Rattle.perm_core.proofs.KeepsPicture.Order.HiddenVariables.{top-goes}
use Rattle.perm_core.proofs.KeepsPicture.Turns.LeafTurns.{Creates, object, array}
use Rattle.perm_core.proofs.KeepsPicture.Labels.OtherHeaps.{KeepsShapes, variable-more, stack-more, object-more}
use Rattle.perm_core.proofs.KeepsPicture.Turns.PlainTurns.{on-fits}

-- ---------- new objects ----------
module _ (u : UnitCode) (labels : Labels) (h : Objects Name) (o : Name) where
  zero-fits : (test : Perm → Name → Bool) (t : Ty) → value_fits h test t (zero_of t) ≡ true
  zero-fits test Long = refl
  zero-fits test Boolean = refl
  zero-fits test (Ref p s) = refl

  zeros-fit : (f : ℕ) (ts : List Ty) → fields_fit u labels h o f ts (map zero_of ts) ≡ true
  zeros-fit f [] = refl
  zeros-fit f (t ∷ ts) =
      together (value_fits h (λ p n. field_may_lead p (OfField o f) (labels o) (labels n)) t (zero_of t)) (fields_fit u labels h o (suc f) ts (map zero_of ts)) (zero-fits (λ p n. field_may_lead p (OfField o f) (labels o) (labels n)) t) (zeros-fit (suc f) ts)

  numbers-fit : (n : ℕ) → list_all (is_number u labels h) (replicate n (Number (pos 0))) ≡ true
  numbers-fit zero = refl
  numbers-fit (suc n) = numbers-fit n

  -- the values with which an object begins are of the types of its shape
  first-fit : (l : Own) (i : Instruction) (shape : Shape) (n x : ℕ) → Creates u l i shape n x → values_fit u labels h o shape (first_values u shape n) ≡ true
  first-fit l _ _ _ _ (object x c ts q) = subst (λ (k : Option (List Ty)). class_fits u labels h o k (map zero_of (types_or_none k)) ≡ true) (sym q) (zeros-fit 0 ts)
  first-fit l _ _ _ _ (array x e n) = numbers-fit n

-- a new object has its shape and length
new-shape : (u : UnitCode) (shape s : Shape) (n : ℕ) → same_shape shape s ≡ true → has_shape (Some (new_object {R = Name} u shape n)) s (length_of shape n) ≡ true
new-shape u Array Array n e = ap (λ k. nat_eq k n) (length-replicate n (Number (pos 0))) ∙ eq-itself n
new-shape u (Class k) (Class l) n e = together (nat_eq k l) true e refl
new-shape u Array (Class l) n e = absurd (let no : ⊥ = cc e in no)
new-shape u (Class k) Array n e = absurd (let no : ⊥ = cc e in no)

-- the variable that takes it is known, and of its shape
taker-known : (u : UnitCode) (l : Own) (c : Context) (G : Vars) (i : Instruction) (shape : Shape) (n x : ℕ) → Creates u l i shape n x → IsAllowed c (Simple i) G → x < length c.vars
taker-known u l c G _ _ _ _ (object x k ts q) allowed = part-known c (Simple (NewObject x k)) G allowed x (eq-itself x)
taker-known u l c G _ _ _ _ (array x e n) allowed = part-known c (Simple (NewArray x e)) G allowed x (or_left (nat_eq x x) (any_in_term (nat_eq x) e) (eq-itself x))

taker-shaped : (u : UnitCode) (l : Own) (c : Context) (G : Vars) (i : Instruction) (shape : Shape) (n x : ℕ) → Creates u l i shape n x → IsAllowed c (Simple i) G → shapes_differ (Some (Ref Isolated shape)) (type_of c x) ≡ false
taker-shaped u l c G _ _ _ _ (object x k ts q) allowed = applies-none c (Simple (NewObject x k)) G allowed WrongKind
taker-shaped u l c G _ _ _ _ (array x e n) allowed = (or_parts (isnt_long c e) (shapes_differ (Some (Ref Isolated Array)) (type_of c x)) (applies-none c (Simple (NewArray x e)) G allowed WrongKind)).1

-- ---------- the turn ----------
module _ (u : UnitCode) (labels : Labels) (h : Objects Name) (at : Way → Way) (z : Zone) (below : List ℕ) (b : Branch) (span : Span) (i : Instruction) (shape : Shape) (len x : ℕ) (rest : Code) (st : List (Frame Held)) (H : Vars)
    (goes : RestGoes u below b.own.routine (Do span i rest) st (valued b.own.vars) H) (vars : variables_fit u labels h (top_zone (at Here) z st) (at Here) (calls st) 0 (context_of u b.own.routine).vars b.own.vars ≡ true)
    (stack : stack_fits u labels h (at Here) z b.own.routine st ≡ true) (is : Creates u b.own i shape len x) (new : h (next_name b.own.mark) ≡ None) where
  abbrev c : Context
  c = context_of u b.own.routine

  -- the name of the new object
  abbrev name : Name
  name = next_name b.own.mark

  -- the region of the new object
  abbrev to : Region
  to = goal_at c (at Here) z st x

  -- the labels with that of the new object
  abbrev pub made : Labels
  made n = label_new (Some (next_name b.own.mark, goal_at c (at Here) z st x)) n (labels n)

  -- the objects with the new one
  abbrev pub more : Objects Name
  more = add same_name h (next_name b.own.mark) (new_object u shape len)

  -- the reference to it
  abbrev pub found : Value Name
  found = Reference (next_name b.own.mark) (length_of shape len)

  -- what was there keeps its shape and its label
  made-keeps : KeepsShapes labels made h more
  made-keeps n k l e = by_name (same_name n name) refl
    where
      by_name : (t : Bool) → same_name n name ≡ t → (has_shape (this_or t (new_object u shape len) (h n)) k l ≡ true) × (cond t to (labels n) ≡ labels n)
      by_name true q = absurd (let none : has_shape (h n) k l ≡ false = ap (λ (m : Name). has_shape (h m) k l) (name-true n name q) ∙ ap (λ o. has_shape o k l) new in let clash : true ≡ false = sym e ∙ none in let no : ⊥ = cc clash in no)
      by_name false q = (e, refl)

  fit : AllFit u labels h (top_zone (at Here) z st) (at Here) (calls st) c.vars b.own.vars
  fit = to-all u labels h (top_zone (at Here) z st) (at Here) (calls st) c.vars b.own.vars vars

  allowed : IsAllowed (context_above u below b.own.routine st) (Simple i) (valued b.own.vars)
  allowed = (top-goes u below b.own.routine (Do span i rest) st (valued b.own.vars) H goes).1.0

  type : (t : Ty) × (type_of c x ≡ Some t)
  type = get-some c.vars x (taker-known u b.own (context_above u below b.own.routine st) (valued b.own.vars) i shape len x is allowed)

  home : to ≡ goal_of (Some type.0) (OfVariable (at Here) (calls st) x) (OwnOf (top_zone (at Here) z st))
  home = ap (λ o. goal_of o (OfVariable (at Here) (calls st) x) (OwnOf (top_zone (at Here) z st))) type.1

  to-there : is_absent to ≡ false
  to-there = goal-there (type_of c x) (OfVariable (at Here) (calls st) x) (OwnOf (top_zone (at Here) z st)) refl refl

  made-name : made name ≡ to
  made-name = ap (λ t. cond t to (labels name)) (name-itself name)

  more-name : more name ≡ Some (new_object u shape len)
  more-name = ap (λ t. this_or t (new_object u shape len) (h name)) (name-itself name)

  -- a value fits a variable after the turn
  abbrev Fits : ℕ → Ty → Value Name → Type 0
  Fits n t d = value_fits more (λ p m. var_may_lead p (OfVariable (at Here) (calls st) n) (top_zone (at Here) z st) (made m)) t d ≡ true

  -- the new object fits the variable
  new-fits : Fits x type.0 found
  new-fits = go type.0 home (sym (ap (λ o. shapes_differ (Some (Ref Isolated shape)) o) type.1) ∙ taker-shaped u b.own (context_above u below b.own.routine st) (valued b.own.vars) i shape len x is allowed)
    where
      go : (t : Ty) → to ≡ goal_of (Some t) (OfVariable (at Here) (calls st) x) (OwnOf (top_zone (at Here) z st)) → differ (Ref Isolated shape) t ≡ false → Fits x t found
      go Long q e = absurd (let no : ⊥ = cc e in no)
      go Boolean q e = absurd (let no : ⊥ = cc e in no)
      go (Ref p s) q e =
          together (has_shape (more name) s (length_of shape len)) (var_may_lead p (OfVariable (at Here) (calls st) x) (top_zone (at Here) z st) (made name))
          (ap (λ o. has_shape o s (length_of shape len)) more-name ∙ new-shape u shape s len (not-false (same_shape shape s) e))
          (ap (λ r. var_may_lead p (OfVariable (at Here) (calls st) x) (top_zone (at Here) z st) r) (made-name ∙ q) ∙ goal-leads p (OfVariable (at Here) (calls st) x) (top_zone (at Here) z st))

  vars-fit : variables_fit u made more (top_zone (at Here) z st) (at Here) (calls st) 0 c.vars (assign b.own.vars x (Some found)) ≡ true
  vars-fit = from-all u made more (top_zone (at Here) z st) (at Here) (calls st) c.vars (assign b.own.vars x (Some found)) (record { lengths = fit.lengths ∙ sym (set-length b.own.vars x (Some found)); each = each })
    where
      each : (n : ℕ) (t : Ty) (d : Value Name) → slice_get c.vars n ≡ Some t → slice_get (assign b.own.vars x (Some found)) n ≡ Some (Some d) → Fits n t d
      each n t d here has = pick (set-cases b.own.vars x (Some found) n (Some d) has)
        where
          pick : ((n ≡ x) × (Some found ≡ Some d)) ⊎ ((n ≡ x → ⊥) × (slice_get b.own.vars n ≡ Some (Some d))) → Fits n t d
          pick (inl q) =
              let same : type.0 ≡ t = some-inj (sym type.1 ∙ ap (slice_get c.vars) (sym q.0) ∙ here) in
              subst (λ (m : ℕ). Fits m t d) (sym q.0) (subst (λ (s : Ty). Fits x s d) same (subst (λ (e : Value Name). Fits x type.0 e) (some-inj q.1) new-fits))
          pick (inr q) = variable-more u labels made h more made-keeps (top_zone (at Here) z st) (at Here) (calls st) n t d (fit.each n t d here q.1)

  stack-fit : stack_fits u made more (at Here) z b.own.routine st ≡ true
  stack-fit = stack-more u labels made h more made-keeps (at Here) z b.own.routine st stack

  -- the branch that goes on fits
  pub make-fits : (l : Own) (t : ℕ) → l.vars ≡ assign b.own.vars x (Some found) → l.routine ≡ b.own.routine → tree_fits u made more at z (done (core u) b t (On l rest st)) ≡ true
  make-fits l t same routine = on-fits u made more (at Here) z b l t b.own.routine (assign b.own.vars x (Some found)) rest st same routine vars-fit stack-fit at refl

  -- and so do the objects
  pub make-objects : ((n : Name) → object_fits u labels h n (h n) ≡ true) → (n : Name) → object_fits u made more n (more n) ≡ true
  make-objects all n = by_name (same_name n name) refl
    where
      by_name : (t : Bool) → same_name n name ≡ t → object_fits u made more n (this_or t (new_object u shape len) (h n)) ≡ true
      by_name true q =
          together (not (is_absent (made n))) (values_fit u made more n shape (first_values u shape len)) (ap (λ t. not (is_absent (cond t to (labels n)))) q ∙ ap (λ t. not t) to-there) (first-fit u made more n b.own i shape len x is)
      by_name false q = go (h n) (all n)
        where
          stays : made n ≡ labels n
          stays = ap (λ t. cond t to (labels n)) q

          go : (o : Option (Object Name)) → object_fits u labels h n o ≡ true → object_fits u made more n o ≡ true
          go None e = ap (λ r. is_absent r) stays ∙ e
          go (Some o) e = object-more u labels made h more made-keeps n o stays e
