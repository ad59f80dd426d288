-- Variables and objects fit in another heap too, and under other labels, where what is there keeps its shape and its label.
use Rattle.std.proofs.Common.{◌≡◌, ℕ, suc, Bool, true, false, Option, Some, None, List, [], ◌∷◌, refl, sym, ap, subst, ◌∙◌}
use Rattle.std.specs.Prelude.{◌&&◌, ◌||◌, not}
use Rattle.std.proofs.lemmas.Bool.{and_parts}
use Rattle.perm_tree.specs.declared.ast.Perm.{Perm}
use Rattle.perm_tree.specs.declared.ast.Shape.{Shape}
use Rattle.perm_tree.specs.declared.ast.Shape.TheVariants.{Class, Array}
use Rattle.perm_tree.specs.declared.ast.Ty.{Ty}
use Rattle.perm_tree.specs.declared.ast.Ty.TheVariants.{Long, Bool as Boolean, Ref}
use Rattle.perm_tree.specs.Code.{Tie, Shares, Raises, Lends, UnitCode}
use Rattle.perm_tree.specs.Shapes.{same_shape}
use Rattle.perm_rules.specs.Parts.{type_of}
use Rattle.perm_meaning.specs.Values.{Value, Number, Truth, Null, Reference}
use Rattle.perm_meaning.specs.Names.{Name, Mark, next_name, same_name}
use Rattle.perm_meaning.specs.Objects.{Object, Objects, size, new_object, with_field, with_field_if, this_or}
use Rattle.perm_meaning.specs.Effects.{Tick, Load, Store, Take, Make}
use Rattle.perm_meaning.specs.Machine.{Frame, OpenBlock, OpenRecover, OpenCall, Close, Leaf, Fork, Way, Here, GoL, GoR}
use Rattle.perm_meaning.specs.NamedHeap.{Held, Heap, Op, Branch, Task, has_room, stored, allocated, after}
use Rattle.perm_meaning.proofs.SameName.{together, name-true}
use Rattle.perm_core.specs.Regions.{Zone, Base, OwnOf, OfVariable, OfField, Labels, same_region, is_absent, var_may_lead, field_may_lead, calls, zones, top_zone, left_zone, right_zone}
use Rattle.perm_core.specs.Picture.{context_of, mode_in, length_fits, has_shape, value_fits, variable_fits, variables_fit, lent_right, lent_fits, result_fits, stack_fits, has_end, branch_fits, tree_fits, fields_fit, class_fits, values_fit, object_fits}
use Rattle.perm_core.proofs.KeepsPicture.Calls.CallEnds.{set-length}

-- what is there keeps its shape and its label
abbrev pub KeepsShapes : Labels → Labels → Objects Name → Objects Name → Type 0
KeepsShapes labels labels' h h' = (n : Name) (k : Shape) (len : ℕ) → has_shape (h n) k len ≡ true → (has_shape (h' n) k len ≡ true) × (labels' n ≡ labels n)

module _ (u : UnitCode) (labels labels' : Labels) (h h' : Objects Name) (kept : KeepsShapes labels labels' h h') where
  -- ---------- values ----------
  value-more : (test test' : Perm → Name → Bool) (t : Ty) (v : Value Name) → ((p : Perm) (n : Name) → labels' n ≡ labels n → test p n ≡ true → test' p n ≡ true) → value_fits h test t v ≡ true → value_fits h' test' t v ≡ true
  value-more test test' Long (Number n) f e = refl
  value-more test test' Boolean (Truth b) f e = refl
  value-more test test' (Ref p k) Null f e = refl
  value-more test test' (Ref p k) (Reference n len) f e =
      let x = and_parts (has_shape (h n) k len) (test p n) e in
      let s = kept n k len x.0 in
      together (has_shape (h' n) k len) (test' p n) s.0 (f p n s.1 x.1)
  value-more test test' Long (Truth b) f e = absurd (let no : ⊥ = cc e in no)
  value-more test test' Long Null f e = absurd (let no : ⊥ = cc e in no)
  value-more test test' Long (Reference n len) f e = absurd (let no : ⊥ = cc e in no)
  value-more test test' Boolean (Number n) f e = absurd (let no : ⊥ = cc e in no)
  value-more test test' Boolean Null f e = absurd (let no : ⊥ = cc e in no)
  value-more test test' Boolean (Reference n len) f e = absurd (let no : ⊥ = cc e in no)
  value-more test test' (Ref p k) (Number n) f e = absurd (let no : ⊥ = cc e in no)
  value-more test test' (Ref p k) (Truth b) f e = absurd (let no : ⊥ = cc e in no)

  pub variable-more : (z : Zone) (w : Way) (k x : ℕ) (t : Ty) (v : Value Name) → value_fits h (λ p n. var_may_lead p (OfVariable w k x) z (labels n)) t v ≡ true → value_fits h' (λ p n. var_may_lead p (OfVariable w k x) z (labels' n)) t v ≡ true
  variable-more z w k x t v e =
      value-more (λ p n. var_may_lead p (OfVariable w k x) z (labels n)) (λ p n. var_may_lead p (OfVariable w k x) z (labels' n)) t v
      (λ p n same q. subst (λ r. var_may_lead p (OfVariable w k x) z r ≡ true) (sym same) q) e

  pub variables-more : (z : Zone) (w : Way) (k x : ℕ) (ts : List Ty) (vs : List Held) → variables_fit u labels h z w k x ts vs ≡ true → variables_fit u labels' h' z w k x ts vs ≡ true
  variables-more z w k x [] [] e = refl
  variables-more z w k x [] (v ∷ vs) e = absurd (let no : ⊥ = cc e in no)
  variables-more z w k x (t ∷ ts) [] e = absurd (let no : ⊥ = cc e in no)
  variables-more z w k x (t ∷ ts) (v ∷ vs) e =
      let p = and_parts (variable_fits u labels h z w k x t v) (variables_fit u labels h z w k (suc x) ts vs) e in
      together (variable_fits u labels' h' z w k x t v) (variables_fit u labels' h' z w k (suc x) ts vs) (one v p.0) (variables-more z w k (suc x) ts vs p.1)
    where
      one : (v : Held) → variable_fits u labels h z w k x t v ≡ true → variable_fits u labels' h' z w k x t v ≡ true
      one None e = refl
      one (Some a) e = variable-more z w k x t a e

  -- ---------- stacks ----------
  lent-more : (z : Zone) (tie : Tie) (t : Option Ty) (lent : Option Held) → lent_right u labels h tie t lent && lent_fits u labels h z t lent ≡ true → lent_right u labels' h' tie t lent && lent_fits u labels' h' z t lent ≡ true
  lent-more z tie t None e = e
  lent-more z Shares t (Some v) e = absurd (let no : ⊥ = cc e in no)
  lent-more z Raises t (Some v) e = absurd (let no : ⊥ = cc e in no)
  lent-more z Lends None (Some v) e = absurd (let no : ⊥ = cc e in no)
  lent-more z Lends (Some t) (Some None) e = absurd (let q = (and_parts (lent_right u labels h Lends (Some t) (Some None)) false e).1 in let no : ⊥ = cc q in no)
  lent-more z Lends (Some t) (Some (Some a)) e =
      let old : Bool = value_fits h (λ p n. same_region (labels n) (OwnOf z)) t a in
      let new : Bool = value_fits h' (λ p n. same_region (labels' n) (OwnOf z)) t a in
      let p = and_parts (lent_right u labels h Lends (Some t) (Some (Some a))) old e in
      together (lent_right u labels' h' Lends (Some t) (Some (Some a))) new p.0
      (value-more (λ p n. same_region (labels n) (OwnOf z)) (λ p n. same_region (labels' n) (OwnOf z)) t a (λ p n same q. subst (λ r. same_region r (OwnOf z) ≡ true) (sym same) q) p.1)

  same-result : (tie : Tie) (t : Ty) (into : Option ℕ) (caller : ℕ) → result_fits u labels h tie t into caller ≡ true → result_fits u labels' h' tie t into caller ≡ true
  same-result Lends t None caller e = e
  same-result Lends t (Some x) caller e = e
  same-result Shares t None caller e = e
  same-result Shares t (Some x) caller e = e
  same-result Raises t None caller e = e
  same-result Raises t (Some x) caller e = e

  pub stack-more : (w : Way) (z : Zone) (m : ℕ) (st : List (Frame Held)) → stack_fits u labels h w z m st ≡ true → stack_fits u labels' h' w z m st ≡ true
  stack-more w z m [] e = refl
  stack-more w z m (OpenBlock own rest ∷ st) e = stack-more w z m st e
  stack-more w z m (OpenRecover own hides saved rest ∷ st) e =
      let ts = (context_of u m).vars in
      let p = and_parts (variables_fit u labels h (top_zone w z st) w (calls st) 0 ts saved) (stack_fits u labels h w z m st) e in
      together (variables_fit u labels' h' (top_zone w z st) w (calls st) 0 ts saved) (stack_fits u labels' h' w z m st) (variables-more (top_zone w z st) w (calls st) 0 ts saved p.0) (stack-more w z m st p.1)
  stack-more w z m (OpenCall tie into y saved lent caller rest ∷ st) e =
      let ts = (context_of u caller).vars in
      let t = type_of (context_of u caller) y in
      let inner = Base w (suc (zones st)) in
      let lends = lent_right u labels h tie t lent && lent_fits u labels h inner t lent in
      let lends' = lent_right u labels' h' tie t lent && lent_fits u labels' h' inner t lent in
      let result = result_fits u labels h tie (context_of u m).result into caller in
      let result' = result_fits u labels' h' tie (context_of u m).result into caller in
      let p = and_parts (variables_fit u labels h (top_zone w z st) w (calls st) 0 ts saved) (lends && (result && stack_fits u labels h w z caller st)) e in
      let q = and_parts lends (result && stack_fits u labels h w z caller st) p.1 in
      let r = and_parts result (stack_fits u labels h w z caller st) q.1 in
      together (variables_fit u labels' h' (top_zone w z st) w (calls st) 0 ts saved) (lends' && (result' && stack_fits u labels' h' w z caller st)) (variables-more (top_zone w z st) w (calls st) 0 ts saved p.0)
      (together lends' (result' && stack_fits u labels' h' w z caller st) (lent-more inner tie t lent q.0) (together result' (stack_fits u labels' h' w z caller st) (same-result tie (context_of u m).result into caller r.0) (stack-more w z caller st r.1)))

  -- ---------- trees ----------
  pub branch-more : (w : Way) (z : Zone) (b : Branch) → branch_fits u labels h w z b ≡ true → branch_fits u labels' h' w z b ≡ true
  branch-more w z b e = go b.close e
    where
      held : Bool
      held = variables_fit u labels h (top_zone w z b.stack) w (calls b.stack) 0 (context_of u b.own.routine).vars b.own.vars

      held' : Bool
      held' = variables_fit u labels' h' (top_zone w z b.stack) w (calls b.stack) 0 (context_of u b.own.routine).vars b.own.vars

      go : (c : Option (Close Held)) → (has_end u labels h c || (held && stack_fits u labels h w z b.own.routine b.stack)) ≡ true → (has_end u labels' h' c || (held' && stack_fits u labels' h' w z b.own.routine b.stack)) ≡ true
      go (Some c) e = refl
      go None e =
          let p = and_parts held (stack_fits u labels h w z b.own.routine b.stack) e in
          together held' (stack_fits u labels' h' w z b.own.routine b.stack) (variables-more (top_zone w z b.stack) w (calls b.stack) 0 (context_of u b.own.routine).vars b.own.vars p.0) (stack-more w z b.own.routine b.stack p.1)

  pub tree-more : (at : Way → Way) (z : Zone) (t : Task) → tree_fits u labels h at z t ≡ true → tree_fits u labels' h' at z t ≡ true
  tree-more at z (Leaf b) e = branch-more (at Here) z b e
  tree-more at z (Fork b p l r) e =
      let top = top_zone (at Here) z b.stack in
      let m = mode_in u b.own.routine p in
      let left = tree_fits u labels h (λ w. at (GoL w)) (left_zone m (at (GoL Here)) top) l in
      let right = tree_fits u labels h (λ w. at (GoR w)) (right_zone m (at (GoR Here)) top) r in
      let left' = tree_fits u labels' h' (λ w. at (GoL w)) (left_zone m (at (GoL Here)) top) l in
      let right' = tree_fits u labels' h' (λ w. at (GoR w)) (right_zone m (at (GoR Here)) top) r in
      let x = and_parts (branch_fits u labels h (at Here) z b) (left && right) e in
      let y = and_parts left right x.1 in
      together (branch_fits u labels' h' (at Here) z b) (left' && right') (branch-more (at Here) z b x.0)
      (together left' right' (tree-more (λ w. at (GoL w)) (left_zone m (at (GoL Here)) top) l y.0) (tree-more (λ w. at (GoR w)) (right_zone m (at (GoR Here)) top) r y.1))

  -- ---------- objects ----------
  pub field-more : (o : Name) (f : ℕ) (t : Ty) (v : Value Name) → labels' o ≡ labels o → value_fits h (λ p n. field_may_lead p (OfField o f) (labels o) (labels n)) t v ≡ true → value_fits h' (λ p n. field_may_lead p (OfField o f) (labels' o) (labels' n)) t v ≡ true
  field-more o f t v home e =
      value-more (λ p n. field_may_lead p (OfField o f) (labels o) (labels n)) (λ p n. field_may_lead p (OfField o f) (labels' o) (labels' n)) t v
      (λ p n same q. subst (λ r. field_may_lead p (OfField o f) (labels' o) r ≡ true) (sym same) (subst (λ r. field_may_lead p (OfField o f) r (labels n) ≡ true) (sym home) q)) e

  fields-more : (o : Name) (f : ℕ) (ts : List Ty) (vs : List (Value Name)) → labels' o ≡ labels o → fields_fit u labels h o f ts vs ≡ true → fields_fit u labels' h' o f ts vs ≡ true
  fields-more o f [] [] home e = refl
  fields-more o f [] (v ∷ vs) home e = absurd (let no : ⊥ = cc e in no)
  fields-more o f (t ∷ ts) [] home e = absurd (let no : ⊥ = cc e in no)
  fields-more o f (t ∷ ts) (v ∷ vs) home e =
      let p = and_parts (value_fits h (λ p n. field_may_lead p (OfField o f) (labels o) (labels n)) t v) (fields_fit u labels h o (suc f) ts vs) e in
      together (value_fits h' (λ p n. field_may_lead p (OfField o f) (labels' o) (labels' n)) t v) (fields_fit u labels' h' o (suc f) ts vs) (field-more o f t v home p.0) (fields-more o (suc f) ts vs home p.1)

  -- an object that keeps its values
  pub object-more : (o : Name) (x : Object Name) → labels' o ≡ labels o → object_fits u labels h o (Some x) ≡ true → object_fits u labels' h' o (Some x) ≡ true
  object-more o x home e =
      let p = and_parts (not (is_absent (labels o))) (values_fit u labels h o x.shape x.values) e in
      together (not (is_absent (labels' o))) (values_fit u labels' h' o x.shape x.values) (subst (λ r. not (is_absent r) ≡ true) (sym home) p.0) (shaped x.shape p.1)
    where
      classed : (ts : Option (List Ty)) → class_fits u labels h o ts x.values ≡ true → class_fits u labels' h' o ts x.values ≡ true
      classed None e = absurd (let no : ⊥ = cc e in no)
      classed (Some ts) e = fields-more o 0 ts x.values home e

      shaped : (k : Shape) → values_fit u labels h o k x.values ≡ true → values_fit u labels' h' o k x.values ≡ true
      shaped Array e = e
      shaped (Class k) e = classed _ e

-- ---------- operations ----------
field-shape : (f : ℕ) (v : Value Name) (x : Option (Object Name)) (k : Shape) (len : ℕ) → has_shape x k len ≡ true → has_shape (with_field f v x) k len ≡ true
field-shape f v None k len e = absurd (let no : ⊥ = cc e in no)
field-shape f v (Some o) k len e = ap (λ n. same_shape o.shape k && length_fits k n len) (set-length o.values f v) ∙ e

put-shape : (t : Bool) (f : ℕ) (v : Value Name) (x : Option (Object Name)) (k : Shape) (len : ℕ) → has_shape x k len ≡ true → has_shape (with_field_if t f v x) k len ≡ true
put-shape true f v x k len e = field-shape f v x k len e
put-shape false f v x k len e = e

stored-shape : (v : Held) (r : Name) (f : ℕ) (h : Heap) (n : Name) (k : Shape) (len : ℕ) → has_shape (h.objects n) k len ≡ true → has_shape ((stored v r f h).objects n) k len ≡ true
stored-shape None r f h n k len e = e
stored-shape (Some v) r f h n k len e = put-shape (same_name n r) f v (h.objects n) k len e

-- an operation keeps the shapes of what is there, and so all labels but that of the object that it makes
pub after-keeps : (u : UnitCode) (fits : ℕ → Bool) (o : Op) (labels : Labels) (h : Heap) → ((by : Mark) (shape : Shape) (n : ℕ) → o ≡ Make by shape n → h.objects (next_name by) ≡ None) → KeepsShapes labels labels h.objects (after u fits o h).objects
after-keeps u fits Tick labels h new n k len e = (e, refl)
after-keeps u fits (Load r f) labels h new n k len e = (e, refl)
after-keeps u fits (Store r f v) labels h new n k len e = (stored-shape v r f h n k len e, refl)
after-keeps u fits (Take r f) labels h new n k len e = (stored-shape (Some Null) r f h n k len e, refl)
after-keeps u fits (Make by shape m) labels h new n k len e = (by_room (has_room fits m h) (fits (size m)), refl)
  where
    by_name : (t : Bool) → same_name n (next_name by) ≡ t → has_shape (this_or t (new_object u shape m) (h.objects n)) k len ≡ true
    by_name true q = absurd (let z : has_shape (h.objects n) k len ≡ false = ap (λ (x : Name). has_shape (h.objects x) k len) (name-true n (next_name by) q) ∙ ap (λ x. has_shape x k len) (new by shape m refl) in let w : true ≡ false = sym e ∙ z in let no : ⊥ = cc w in no)
    by_name false q = e

    by_room : (a b : Bool) → has_shape ((allocated a b u by shape m h).objects n) k len ≡ true
    by_room true b = by_name (same_name n (next_name by)) refl
    by_room false true = e
    by_room false false = e
