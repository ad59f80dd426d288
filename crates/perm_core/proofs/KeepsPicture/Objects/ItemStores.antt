-- A number is stored in an element of an array: the branch and the objects fit after it, the changed one included.
use Rattle.std.proofs.Common.{◌≡◌, ℕ, true, false, Some, None, List, refl, sym, ap, subst, ◌∙◌}
use Rattle.std.specs.Prelude.{◌||◌, not, nat_eq, ℤ, option_and_then, slice_get, slice_set}
use Rattle.std.proofs.lemmas.Bool.{or_parts, or_left, and_parts}
use Rattle.perm_tree.specs.declared.ast.Shape.{Shape}
use Rattle.perm_tree.specs.declared.ast.Shape.TheVariants.{Class, Array}
use Rattle.perm_tree.specs.declared.ast.Span.{Span}
use Rattle.perm_tree.specs.declared.ast.Ty.{Ty}
use Rattle.perm_tree.specs.declared.ast.Ty.TheVariants.{Long, Bool as Boolean, Ref}
use Rattle.perm_tree.specs.declared.errors.TypeKind.TheVariants.{WrongKind}
use Rattle.perm_tree.specs.Code.{Term, StoreItem, Code, Do, UnitCode}
use Rattle.perm_tree.specs.Lookup.{is_array}
use Rattle.perm_tree.specs.Mentions.{any_in_term}
use Rattle.perm_tree.specs.Shapes.{same_shape}
use Rattle.perm_tree.specs.Vars.{Vars}
use Rattle.perm_rules.specs.Parts.{Context, Simple, type_of, if_known}
use Rattle.perm_rules.specs.Refusals.{IsAllowed}
use Rattle.perm_rules.specs.Shapes.{isnt_array}
use Rattle.perm_rules.specs.Sorts.{isnt_long}
use Rattle.perm_rules.proofs.PartLaws.{applies-none, part-known}
use Rattle.perm_meaning.specs.Values as values
use Rattle.perm_meaning.specs.Values.{Number, Truth, Null, Reference}
use Rattle.perm_meaning.specs.Names.{Name, same_name}
use Rattle.perm_meaning.specs.Objects.{Object, Objects, put}
use Rattle.perm_meaning.specs.Machine.{Frame, Way, Here, On, done}
use Rattle.perm_meaning.specs.NamedHeap.{Held, Heap, Own, Branch, stored}
use Rattle.perm_meaning.proofs.Leads.{none-some, some-inj}
use Rattle.perm_meaning.proofs.SameName.{eq-itself}
use Rattle.perm_core.specs.Core.{core}
use Rattle.perm_core.specs.Regions.{Zone, OfVariable, Labels, var_may_lead, calls, top_zone}
use Rattle.perm_core.specs.Picture.{context_of, has_shape, variables_fit, stack_fits, tree_fits, values_fit, object_fits, valued, context_above, RestGoes}
use Rattle.perm_core.proofs.KeepsPicture.Turns.Arguments.{get-some}
use Rattle.perm_core.proofs.KeepsPicture.Labels.CarriedValues.{AllFit, to-all}
use Rattle.perm_core.proofs.KeepsPicture.Order.HiddenVariables.{top-goes}
use Rattle.perm_core.proofs.KeepsPicture.Labels.OtherHeaps.{KeepsShapes, variables-more, stack-more}
use Rattle.perm_core.proofs.KeepsPicture.Turns.PlainTurns.{on-fits}
use Rattle.perm_core.proofs.KeepsPicture.Objects.ChangedObjects.{numbers-set, put-objects, told-shape, store-keeps}

module _ (u : UnitCode) (labels : Labels) (heap : Heap) (at : Way → Way) (z : Zone) (below : List ℕ) (b : Branch) (span : Span) (y : ℕ) (i e : Term) (rest : Code) (st : List (Frame Held)) (H : Vars) (v : Held) (n : ℤ) (r : Name) (len f : ℕ)
    (goes : RestGoes u below b.own.routine (Do span (StoreItem y i e) rest) st (valued b.own.vars) H) (vars : variables_fit u labels heap.objects (top_zone (at Here) z st) (at Here) (calls st) 0 (context_of u b.own.routine).vars b.own.vars ≡ true)
    (stack : stack_fits u labels heap.objects (at Here) z b.own.routine st ≡ true) (is : option_and_then values.as_number v ≡ Some n) (here : slice_get b.own.vars y ≡ Some (Some (Reference r len))) where
  abbrev c : Context
  c = context_of u b.own.routine

  abbrev h : Objects Name
  h = heap.objects

  -- a number is stored
  number : (v : Held) → option_and_then values.as_number v ≡ Some n → v ≡ Some (Number n)
  number (Some (Number m)) q = ap (λ k. Some (Number k)) (some-inj q)
  number (Some (Truth t)) q = none-some q
  number (Some Null) q = none-some q
  number (Some (Reference s k)) q = none-some q
  number None q = none-some q

  -- the objects after the store
  abbrev more : Objects Name
  more = put same_name heap.objects r f (Number n)

  kept : KeepsShapes labels labels h more
  kept = store-keeps u labels heap r f (Some (Number n))

  fit : AllFit u labels h (top_zone (at Here) z st) (at Here) (calls st) c.vars b.own.vars
  fit = to-all u labels h (top_zone (at Here) z st) (at Here) (calls st) c.vars b.own.vars vars

  abbrev part : Context
  part = context_above u below b.own.routine st

  allowed : IsAllowed part (Simple (StoreItem y i e)) (valued b.own.vars)
  allowed = (top-goes u below b.own.routine (Do span (StoreItem y i e) rest) st (valued b.own.vars) H goes).1.0

  -- the receiver is an array
  receiver : has_shape (h r) Array len ≡ true
  receiver = of_type (get-some c.vars y (part-known part (Simple (StoreItem y i e)) (valued b.own.vars) allowed y (or_left (nat_eq y y) (any_in_term (nat_eq y) i || any_in_term (nat_eq y) e) (eq-itself y))))
    where
      wrong : isnt_array c y ≡ false
      wrong = (or_parts (isnt_array part y) (isnt_long part i || isnt_long part e) (applies-none part (Simple (StoreItem y i e)) (valued b.own.vars) allowed WrongKind)).0

      of_type : (t : Ty) × (type_of c y ≡ Some t) → has_shape (h r) Array len ≡ true
      of_type (Long, q) = absurd (let w = sym (ap (λ o. if_known o (λ t. not (is_array (Some t)))) q) ∙ wrong in let no : ⊥ = cc w in no)
      of_type (Boolean, q) = absurd (let w = sym (ap (λ o. if_known o (λ t. not (is_array (Some t)))) q) ∙ wrong in let no : ⊥ = cc w in no)
      of_type (Ref p (Class k), q) = absurd (let w = sym (ap (λ o. if_known o (λ t. not (is_array (Some t)))) q) ∙ wrong in let no : ⊥ = cc w in no)
      of_type (Ref p Array, q) = (and_parts (has_shape (h r) Array len) (var_may_lead p (OfVariable (at Here) (calls st) y) (top_zone (at Here) z st) (labels r)) (fit.each y (Ref p Array) (Reference r len) q here)).0

  changed : (o : Object Name) → h r ≡ Some o → values_fit u labels more r o.shape o.values ≡ true → values_fit u labels more r o.shape (slice_set o.values f (Number n)) ≡ true
  changed o q k = go o.shape (told-shape h r o Array len q receiver) k
    where
      go : (s : Shape) → same_shape s Array ≡ true → values_fit u labels more r s o.values ≡ true → values_fit u labels more r s (slice_set o.values f (Number n)) ≡ true
      go Array q k = numbers-set u labels more o.values f n k
      go (Class l) q k = absurd (let no : ⊥ = cc q in no)

  -- the branch that goes on fits
  pub item-fits : (l : Own) (t : ℕ) → l.vars ≡ b.own.vars → l.routine ≡ b.own.routine → tree_fits u labels (stored v r f heap).objects at z (done (core u) b t (On l rest st)) ≡ true
  item-fits l t same routine =
      subst (λ (w : Held). tree_fits u labels (stored w r f heap).objects at z (done (core u) b t (On l rest st)) ≡ true) (sym (number v is))
      (on-fits u labels more (at Here) z b l t b.own.routine b.own.vars rest st same routine (variables-more u labels labels h more kept (top_zone (at Here) z st) (at Here) (calls st) 0 c.vars b.own.vars vars) (stack-more u labels labels h more kept (at Here) z b.own.routine st stack) at refl)

  -- and so do the objects
  pub item-objects : ((m : Name) → object_fits u labels heap.objects m (heap.objects m) ≡ true) → (m : Name) → object_fits u labels (stored v r f heap).objects m ((stored v r f heap).objects m) ≡ true
  item-objects all m =
      subst (λ (w : Held). object_fits u labels (stored w r f heap).objects m ((stored w r f heap).objects m) ≡ true) (sym (number v is))
      (put-objects u labels h r f (Number n) kept changed all m)
