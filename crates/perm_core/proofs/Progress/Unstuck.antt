-- An allowed simple statement over live variables of their types is never stuck.
use Rattle.std.proofs.Common.{◌≡◌, ℕ, suc, ◌<◌, true, false, Option, Some, None, List, [], ◌∷◌, ◌++◌, length, refl, sym, ap, subst, ◌∙◌, arith}
use Rattle.std.specs.Prelude.{ℤ, pos, not, ◌||◌, ◌&&◌, nat_lt, nat_eq, slice_get, is_none}
use Rattle.std.specs.List.{list_any}
use Rattle.std.proofs.lemmas.Bool.{or_parts, not-false}
use Rattle.std.proofs.lemmas.Bool.Decides.{nat_tests}
use Rattle.std.proofs.lemmas.Option.{slice_get-get_or}
use Rattle.perm_tree.specs.declared.ast.Perm.{Perm}
use Rattle.perm_tree.specs.declared.ast.Perm.TheVariants.{Isolated}
use Rattle.perm_tree.specs.declared.ast.Shape.{Shape}
use Rattle.perm_tree.specs.declared.ast.Shape.TheVariants.{Class, Array}
use Rattle.perm_tree.specs.declared.ast.Ty.{Ty}
use Rattle.perm_tree.specs.declared.ast.Ty.TheVariants.{Long, Bool as Boolean, Ref}
use Rattle.perm_tree.specs.declared.errors.TypeKind.TheVariants.{UnknownName, WrongKind, Gone}
use Rattle.perm_tree.specs.Code.{Argument, Instruction, Declare, Assign, LoadField, LoadLength, LoadItem, TakeField, NewObject, NewArray, StoreField, StoreItem, Invoke, Print, Routine, UnitCode}
use Rattle.perm_tree.specs.Lookup.{is_array}
use Rattle.perm_tree.specs.Mentions.{any_in_term, any_in_argument, any_in_option, any_in_instruction}
use Rattle.perm_tree.specs.Vars.{Vars}
use Rattle.perm_rules.specs.Parts.{Context, Simple, type_of, field_type, type_of_field, field_among, if_known, is_object}
use Rattle.perm_rules.specs.Sorts.{term_sort, argument_sort, isnt_plain, isnt_value_of, term_wrong, argument_wrong, differ, isnt_long}
use Rattle.perm_rules.specs.Shapes.{lacks_field, lacks_member, isnt_object, isnt_array, argument_misfits, arguments_misfit, shapes_differ, isnt_isolated, call_misfits, taker_type, instruction_wrong}
use Rattle.perm_rules.specs.Liveness.{dead, after_argument, instruction_gone}
use Rattle.perm_rules.specs.Refusals.{IsAllowed}
use Rattle.perm_rules.proofs.PartLaws.{applies-none}
use Rattle.perm_meaning.specs.Values.{Value, Number, Truth, Null, Reference}
use Rattle.perm_meaning.specs.Names.{Name, Mark}
use Rattle.perm_meaning.specs.Objects.{Objects, field_of}
use Rattle.perm_meaning.specs.Expressions.{tagged, eval}
use Rattle.perm_meaning.specs.Effects as effects
use Rattle.perm_meaning.specs.Effects.{Load, Store, Take, Act, Calls, Resumption, Does, Sticks, choose, with_vars, into_var, makes, ticks, first_vars, if_number, on_value, on_referred, on_object, on_class, on_routine, on_index, on_length, below_limit, effect}
use Rattle.perm_meaning.specs.NamedHeap.{Held, Own, marks}
use Rattle.perm_meaning.proofs.SameName.{eq-itself}
use Rattle.perm_core.specs.Whole.{is_known_type}
use Rattle.perm_core.specs.Regions.{Labels}
use Rattle.perm_core.specs.Picture.{has_shape, object_fits}
use Rattle.perm_core.proofs.Progress.Evaluation.{IsOfType, AreTyped, plain-long, term-evaluates}
use Rattle.perm_core.proofs.Progress.{GoesOn, value-goes, number-goes, index-goes, length-goes, limit-goes, object-goes, argument-goes, call-goes, field-there, item-there}

-- ---------- known types ----------
pub there : {A : Type 0} (o : Option A) → is_none o ≡ false → (x : A) × (o ≡ Some x)
there None e = absurd (cc)
there (Some x) e = (x, refl)

pub object-type : (t : Option Ty) → is_none t ≡ false → if_known t (λ t. not (is_object t)) ≡ false → (p : Perm) × (k : ℕ) × (t ≡ Some (Ref p (Class k)))
object-type None known e = absurd (cc)
object-type (Some Long) known e = absurd (cc)
object-type (Some Boolean) known e = absurd (cc)
object-type (Some (Ref p Array)) known e = absurd (cc)
object-type (Some (Ref p (Class k))) known e = (p, k, refl)

pub array-type : (t : Option Ty) → is_none t ≡ false → if_known t (λ t. not (is_array (Some t))) ≡ false → (p : Perm) × (t ≡ Some (Ref p Array))
array-type None known e = absurd (cc)
array-type (Some Long) known e = absurd (cc)
array-type (Some Boolean) known e = absurd (cc)
array-type (Some (Ref p Array)) known e = (p, refl)
array-type (Some (Ref p (Class k))) known e = absurd (cc)

same-length : (c : Context) (args : List Argument) (ts : List Ty) → arguments_misfit c args ts ≡ false → length args ≡ length ts
same-length c [] [] e = refl
same-length c (a ∷ args) (t ∷ ts) e = ap (λ n. suc n) (same-length c args ts (or_parts (argument_misfits c a (Some t)) (arguments_misfit c args ts) e).1)
same-length c [] (t ∷ ts) e = absurd (cc)
same-length c (a ∷ args) [] e = absurd (cc)

-- a class to which a variable of known type may refer
class-of : (n class : ℕ) (t : Ty) → differ (Ref Isolated (Class class)) t ≡ false → (u : UnitCode) → length u.classes ≡ n → is_known_type u t ≡ true → class < n
class-of n class Long e u is known = absurd (cc)
class-of n class Boolean e u is known = absurd (cc)
class-of n class (Ref p Array) e u is known = absurd (cc)
class-of n class (Ref p (Class k)) e u is known = go n (not-false (nat_eq class k) e) (ap (λ z. nat_lt k z) (sym is) ∙ known)
  where
    go : (n : ℕ) → nat_eq class k ≡ true → nat_lt k n ≡ true → class < n
    go n e less = grind (arith, nat_tests)

module _ (u : UnitCode) (labels : Labels) (h : Objects Name) (c : Context) (G : Vars) (l : Own) where
  -- the live variables have values of their types, which lead to objects of their shapes; the objects have the fields of their shapes; and the classes of types are there
  pub record IsSound : Type 0 where
    pub classes : c.classes ≡ u.classes
    pub routines : c.routines ≡ u.routines
    pub typed : AreTyped c G l.vars
    pub shaped : (y : ℕ) (r : Name) (n : ℕ) (p : Perm) (s : Shape) → type_of c y ≡ Some (Ref p s) → slice_get l.vars y ≡ Some (Some (Reference r n)) → has_shape (h r) s n ≡ true
    pub fit : (n : Name) → object_fits u labels h n (h n) ≡ true
    pub known : (x : ℕ) (t : Ty) → type_of c x ≡ Some t → is_known_type u t ≡ true

  module _ (s : IsSound) where
    -- a field of a receiver that is there
    field-found : (y f : ℕ) (p : Perm) (k : ℕ) → type_of c y ≡ Some (Ref p (Class k)) → lacks_field c y f ≡ false → (r : Name) (n : ℕ) → slice_get l.vars y ≡ Some (Some (Reference r n)) → (v : Value Name) × (field_of h r f ≡ Some v)
    field-found y f p k type has r n q =
        let field = there (type_of_field c.classes (Some (Ref p (Class k))) f) (sym (ap (λ t. if_known t is_object && is_none (type_of_field c.classes t f)) type) ∙ has) in
        field-there u labels h r k n f field.0 (s.fit r) (s.shaped y r n p (Class k) type q) (ap (λ z. field_among (slice_get z k) f) (sym s.classes) ∙ field.1)

    item-found : (y f : ℕ) (p : Perm) → type_of c y ≡ Some (Ref p Array) → (r : Name) (n : ℕ) → slice_get l.vars y ≡ Some (Some (Reference r n)) → nat_lt f n ≡ true → (v : Value Name) × (field_of h r f ≡ Some v)
    item-found y f p type r n q less = item-there u labels h r n f (s.shaped y r n p Array type q) less

    -- ---------- statements ----------
    module _ (i : Instruction) (allowed : IsAllowed c (Simple i) G) where
      stands : (any_in_instruction (λ x. is_none (type_of c x)) i ≡ false) × (lacks_member c (Simple i) ≡ false)
      stands = or_parts (any_in_instruction (λ x. is_none (type_of c x)) i) (lacks_member c (Simple i)) (applies-none c (Simple i) G allowed UnknownName)

      right : instruction_wrong c i ≡ false
      right = applies-none c (Simple i) G allowed WrongKind

      live : instruction_gone i G ≡ false
      live = applies-none c (Simple i) G allowed Gone

    pub instruction-goes : (i : Instruction) → IsAllowed c (Simple i) G → GoesOn h (effect tagged u marks i l)
    instruction-goes (Declare x) a = tt
    instruction-goes (Assign x e) a =
        let r = or_parts (argument_wrong c e) (if_known (type_of c x) (isnt_value_of (argument_sort c e))) (right (Assign x e) a) in
        argument-goes h c G l.vars e (λ v vs. ticks tagged (into_var tagged x vs l v)) s.typed (live (Assign x e) a) r.0 (λ v ws t lose. tt)
    instruction-goes (LoadField x y f) a =
        let n = or_parts (is_none (type_of c x)) (is_none (type_of c y)) (stands (LoadField x y f) a).0 in
        let r = or_parts (isnt_object c y) (shapes_differ (field_type c y f) (type_of c x)) (right (LoadField x y f) a) in
        let t = object-type (type_of c y) n.1 r.0 in
        object-goes h c G l.vars y t.0 (Class t.1) (λ r n. Does (Load r f) (into_var tagged x l.vars l)) s.typed (live (LoadField x y f) a) t.2 (λ q n e. field-found y f t.0 t.1 t.2 (stands (LoadField x y f) a).1 q n e)
    instruction-goes (LoadLength x y) a =
        let n = or_parts (is_none (type_of c x)) (is_none (type_of c y)) (stands (LoadLength x y) a).0 in
        let r = or_parts (isnt_array c y) (shapes_differ (Some Long) (type_of c x)) (right (LoadLength x y) a) in
        let t = array-type (type_of c y) n.1 r.0 in
        object-goes h c G l.vars y t.0 Array (λ r n. ticks tagged (into_var tagged x l.vars l (tagged.number (pos n)))) s.typed (live (LoadLength x y) a) t.1 (λ q n e. tt)
    instruction-goes (LoadItem x y i) a =
        let n = or_parts (is_none (type_of c x)) (is_none (type_of c y) || any_in_term (λ x. is_none (type_of c x)) i) (stands (LoadItem x y i) a).0 in
        let n' = or_parts (is_none (type_of c y)) (any_in_term (λ x. is_none (type_of c x)) i) n.1 in
        let r = or_parts (isnt_array c y) (isnt_long c i || shapes_differ (Some Long) (type_of c x)) (right (LoadItem x y i) a) in
        let r' = or_parts (isnt_long c i) (shapes_differ (Some Long) (type_of c x)) r.1 in
        let long = or_parts (term_wrong c i) (isnt_plain (term_sort c i) Long) r'.0 in
        let g = or_parts (any_in_term (dead G) i) (dead G y) (live (LoadItem x y i) a) in
        let t = array-type (type_of c y) n'.0 r.0 in
        number-goes h (term_sort c i) (eval tagged i l.vars) (λ i. on_object tagged l.vars y (λ r n. on_index tagged i n (λ f. Does (Load r f) (into_var tagged x l.vars l)))) (term-evaluates c G l.vars s.typed i g.0 long.0) long.1 (λ k.
        object-goes h c G l.vars y t.0 Array (λ r n. on_index tagged k n (λ f. Does (Load r f) (into_var tagged x l.vars l))) s.typed g.1 t.1 (λ q n e.
        index-goes h k n (λ f. Does (Load q f) (into_var tagged x l.vars l)) (λ f less. item-found y f t.0 t.1 q n e less)))
    instruction-goes (TakeField x y f) a =
        let n = or_parts (is_none (type_of c x)) (is_none (type_of c y)) (stands (TakeField x y f) a).0 in
        let r = or_parts (isnt_object c y) (isnt_isolated (field_type c y f) || shapes_differ (field_type c y f) (type_of c x)) (right (TakeField x y f) a) in
        let t = object-type (type_of c y) n.1 r.0 in
        object-goes h c G l.vars y t.0 (Class t.1) (λ r n. Does (Take r f) (into_var tagged x l.vars l)) s.typed (live (TakeField x y f) a) t.2 (λ q n e. field-found y f t.0 t.1 t.2 (stands (TakeField x y f) a).1 q n e)
    instruction-goes (NewObject x k) a =
        let t = there (type_of c x) (stands (NewObject x k) a).0 in
        let same = sym (ap (λ z. shapes_differ (Some (Ref Isolated (Class k))) z) t.1) ∙ right (NewObject x k) a in
        let less = class-of (length u.classes) k t.0 same u refl (s.known x t.0 t.1) in
        subst (λ z. GoesOn h (on_class tagged z (λ n. makes tagged marks x (Class k) n l))) (sym (slice_get-get_or u.classes k [] less)) tt
    instruction-goes (NewArray x e) a =
        let r = or_parts (isnt_long c e) (shapes_differ (Some (Ref Isolated Array)) (type_of c x)) (right (NewArray x e) a) in
        let long = or_parts (term_wrong c e) (isnt_plain (term_sort c e) Long) r.0 in
        number-goes h (term_sort c e) (eval tagged e l.vars) (λ n. on_length tagged n (λ n. makes tagged marks x Array n l)) (term-evaluates c G l.vars s.typed e (live (NewArray x e) a) long.0) long.1 (λ n.
        length-goes h n (λ n. makes tagged marks x Array n l) (λ n. tt))
    instruction-goes (StoreField y f e) a =
        let n = or_parts (is_none (type_of c y)) (any_in_argument (λ x. is_none (type_of c x)) e) (stands (StoreField y f e) a).0 in
        let r = or_parts (isnt_object c y) (argument_misfits c e (field_type c y f)) (right (StoreField y f e) a) in
        let m = or_parts (argument_wrong c e) (if_known (field_type c y f) (isnt_value_of (argument_sort c e))) r.1 in
        let g = or_parts (any_in_argument (dead G) e) (dead (after_argument e G) y) (live (StoreField y f e) a) in
        let t = object-type (type_of c y) n.0 r.0 in
        argument-goes h c G l.vars e (λ v vs. on_object tagged vs y (λ r n. Does (Store r f v) (λ w. effects.GoesOn (with_vars tagged l vs)))) s.typed g.0 m.0 (λ v ws typed lose.
        object-goes h c (after_argument e G) ws y t.0 (Class t.1) (λ r n. Does (Store r f v) (λ w. effects.GoesOn (with_vars tagged l ws))) typed g.1 t.2 (λ q n e'. field-found y f t.0 t.1 t.2 (stands (StoreField y f e) a).1 q n (lose y (Reference q n) e')))
    instruction-goes (StoreItem y i e) a =
        let n = or_parts (is_none (type_of c y)) (any_in_term (λ x. is_none (type_of c x)) i || any_in_term (λ x. is_none (type_of c x)) e) (stands (StoreItem y i e) a).0 in
        let r = or_parts (isnt_array c y) (isnt_long c i || isnt_long c e) (right (StoreItem y i e) a) in
        let r' = or_parts (isnt_long c i) (isnt_long c e) r.1 in
        let long = or_parts (term_wrong c i) (isnt_plain (term_sort c i) Long) r'.0 in
        let long' = or_parts (term_wrong c e) (isnt_plain (term_sort c e) Long) r'.1 in
        let g = or_parts (any_in_term (dead G) i) (any_in_term (dead G) e || dead G y) (live (StoreItem y i e) a) in
        let g' = or_parts (any_in_term (dead G) e) (dead G y) g.1 in
        let t = array-type (type_of c y) n.0 r.0 in
        number-goes h (term_sort c i) (eval tagged i l.vars) (λ k. on_value tagged (eval tagged e l.vars) (λ v. if_number tagged (tagged.as_number v) (λ z. storing y k v))) (term-evaluates c G l.vars s.typed i g.0 long.0) long.1 (λ k.
        value-goes h (term_sort c e) (eval tagged e l.vars) (λ v. if_number tagged (tagged.as_number v) (λ z. storing y k v)) (term-evaluates c G l.vars s.typed e g'.0 long'.0) (λ v is q.
        let x = plain-long (term_sort c e) v is long'.1 in
        subst (λ z. GoesOn h (if_number tagged (tagged.as_number (Some z)) (λ n. storing y k (Some z)))) (sym x.1)
        (object-goes h c G l.vars y t.0 Array (λ r n. on_index tagged k n (λ f. Does (Store r f (Some (Number x.0))) (λ w. effects.GoesOn l))) s.typed g'.1 t.1 (λ q n e.
        index-goes h k n (λ f. Does (Store q f (Some (Number x.0))) (λ w. effects.GoesOn l)) (λ f less. item-found y f t.0 t.1 q n e less)))))
      where
        storing : ℕ → ℤ → Held → Resumption Held Name Mark
        storing y k v = on_object tagged l.vars y (λ r n. on_index tagged k n (λ f. Does (Store r f v) (λ w. effects.GoesOn l)))
    instruction-goes (Print e) a =
        let long = or_parts (term_wrong c e) (isnt_plain (term_sort c e) Long) (right (Print e) a) in
        number-goes h (term_sort c e) (eval tagged e l.vars) (λ n. ticks tagged (effects.GoesOn (record l { printed = l.printed ++ n ∷ [] }))) (term-evaluates c G l.vars s.typed e (live (Print e) a) long.0) long.1 (λ n. tt)
    instruction-goes (Invoke into tie consumed y m args) a =
        let n = or_parts (any_in_option (λ x. is_none (type_of c x)) into) (is_none (type_of c y) || list_any (any_in_argument (λ x. is_none (type_of c x))) args) (stands (Invoke into tie consumed y m args) a).0 in
        let n' = or_parts (is_none (type_of c y)) (list_any (any_in_argument (λ x. is_none (type_of c x))) args) n.1 in
        let r = or_parts (isnt_object c y) (list_any (argument_wrong c) args || call_misfits c into args (slice_get c.routines m)) (right (Invoke into tie consumed y m args) a) in
        let r' = or_parts (list_any (argument_wrong c) args) (call_misfits c into args (slice_get c.routines m)) r.1 in
        let t = object-type (type_of c y) n'.0 r.0 in
        let found = there (slice_get c.routines m) (sym (ap (λ z. if_known z is_object && is_none (slice_get c.routines m)) t.2) ∙ (stands (Invoke into tie consumed y m args) a).1) in
        let fits = or_parts (arguments_misfit c args found.0.params) (shapes_differ (Some found.0.result) (taker_type c into)) (sym (ap (λ z. call_misfits c into args z) found.1) ∙ r'.1) in
        call-goes h c consumed y args G l.vars t.0 (Class t.1) (λ this found vs. on_referred tagged (tagged.as_reference this) (λ p n. on_routine tagged (slice_get u.routines m) found (λ r. calling this found vs r))) s.typed (live (Invoke into tie consumed y m args) a) r'.0 t.2
        (λ this more ws is count. called t.0 (Class t.1) this more ws found.0 (ap (λ z. slice_get z m) (sym s.routines) ∙ found.1) (count ∙ same-length c args found.0.params fits.0) is)
      where
        calling : Held → List Held → List Held → Routine → Resumption Held Name Mark
        calling this found vs r = below_limit tagged l.depth (Calls (record { routine = m; code = r.code; first = first_vars tagged r this found; tie = tie; receiver = this; y = y; into = into }) (with_vars tagged l vs))

        called : (p : Perm) (k : Shape) (this : Value Name) (found vs : List Held) (r : Routine) → slice_get u.routines m ≡ Some r → length found ≡ length r.params → IsOfType (Ref p k) this
            → GoesOn h (on_referred tagged (tagged.as_reference (Some this)) (λ p n. on_routine tagged (slice_get u.routines m) found (λ r. calling (Some this) found vs r)))
        called p k (Number n) found vs r is count of = absurd of
        called p k (Truth b) found vs r is count of = absurd of
        called p k Null found vs r is count of = tt
        called p k (Reference q n) found vs r is count of =
            subst (λ z. GoesOn h (on_routine tagged z found (λ r. calling (Some (Reference q n)) found vs r))) (sym is)
            (subst (λ z. GoesOn h (choose z (λ r. calling (Some (Reference q n)) found vs r) (λ r. Sticks) r)) (sym (ap (λ z. nat_eq z (length r.params)) count ∙ eq-itself (length r.params))) (limit-goes h l.depth _))
