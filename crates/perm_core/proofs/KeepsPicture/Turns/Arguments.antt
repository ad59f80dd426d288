-- The value of an argument comes into a place: a variable, a parameter or a result of a type that it fits, in the zone in which the argument stands or, where it isn't tied, in any.
use Rattle.std.proofs.Common.{◌≡◌, ℕ, zero, suc, ◌<◌, Bool, true, false, Option, Some, None, List, [], ◌∷◌, length, refl, sym, ap, subst, ◌∙◌, arith}
use Rattle.std.specs.Prelude.{◌&&◌, not, nat_eq, cond, slice_get}
use Rattle.std.proofs.lemmas.Bool.{or_parts}
use Rattle.perm_tree.specs.declared.ast.BinaryOp.{BinaryOp}
use Rattle.perm_tree.specs.declared.ast.BinaryOp.TheVariants.{Mul, Div, Rem, Plus, Minus, Less, AtMost, Greater, AtLeast, Equal, Differs, And, Or}
use Rattle.perm_tree.specs.declared.ast.UnaryOp.{UnaryOp}
use Rattle.perm_tree.specs.declared.ast.UnaryOp.TheVariants.{Minus as Negative, Not}
use Rattle.perm_tree.specs.declared.ast.Perm.{Perm}
use Rattle.perm_tree.specs.declared.ast.Perm.TheVariants.{Isolated, Immutable, Readable, Writable}
use Rattle.perm_tree.specs.declared.ast.Shape.{Shape}
use Rattle.perm_tree.specs.declared.ast.Shape.TheVariants.{Array}
use Rattle.perm_tree.specs.declared.ast.Ty.{Ty}
use Rattle.perm_tree.specs.declared.ast.Ty.TheVariants.{Long, Bool as Boolean, Ref}
use Rattle.perm_tree.specs.Code.{Term, LongLit, BoolLit, NullLit, Local, Unary, Binary, Argument, Expression, Consumed, UnitCode}
use Rattle.perm_tree.specs.Mentions.{any_in_term, any_in_argument, argument_mentions}
use Rattle.perm_tree.specs.Shapes.{same_shape}
use Rattle.perm_perm.specs.Order.{is_at_most}
use Rattle.perm_perm.specs.Types.{is_too_weak}
use Rattle.perm_rules.specs.Liveness.{dead}
use Rattle.perm_rules.specs.Parts.{Context, type_of, has_isolated}
use Rattle.perm_rules.specs.Permissions.{argument_needs, argument_weak, weak, type_if}
use Rattle.perm_rules.specs.Shapes.{argument_misfits}
use Rattle.perm_rules.specs.Sorts.{Null as NullSort, Typed, sort_if, unary_type, binary_type, term_sort, differ, isnt_value_of, term_wrong, argument_wrong}
use Rattle.perm_meaning.specs.Values.{Value, Number, Truth, Null, Reference, Gives}
use Rattle.perm_meaning.specs.Names.{Name}
use Rattle.perm_meaning.specs.Objects.{Objects}
use Rattle.perm_meaning.specs.Expressions.{tagged, held, eval}
use Rattle.perm_meaning.specs.Machine.{Way}
use Rattle.perm_meaning.specs.NamedHeap.{Held}
use Rattle.perm_meaning.proofs.SameName.{eq-itself}
use Rattle.perm_core.specs.Regions.{Zone, Region, OwnOf, OfVariable, Labels, var_may_lead}
use Rattle.perm_core.specs.Picture.{value_fits, valued}
use Rattle.perm_core.specs.NextPicture.{Moves, moved, goal, goal_of, consumed_moves}
use Rattle.perm_core.proofs.Progress.Evaluation.{IsOfType, IsOfSort, Evaluates, AreTyped, term-evaluates}
use Rattle.perm_core.proofs.KeepsPicture.Turns.Arrivals.{went, arrives}
use Rattle.perm_core.proofs.KeepsPicture.Calls.CallEnds.{get-less}
use Rattle.perm_core.proofs.KeepsPicture.Labels.CarriedValues.{AllFit}
use Rattle.perm_core.proofs.KeepsPicture.Turns.LeafTurns.{Gives_one, plain_one, consumes_one}
use Rattle.perm_core.proofs.KeepsPicture.Calls.Returns.{value-into}
use Rattle.perm_core.proofs.KeepsPicture.Order.ValuedLists.{has-of}

-- ---------- types of values ----------
pub get-some : {A : Type 0} (xs : List A) (x : ℕ) → x < length xs → (t : A) × (slice_get xs x ≡ Some t)
get-some [] x less = absurd (omega (arith, less))
get-some (a ∷ xs) zero less = (a, refl)
get-some (a ∷ xs) (suc x) less = get-some xs x (omega (arith, less))

fits-of-type : (h : Objects Name) (test : Perm → Name → Bool) (t : Ty) (v : Value Name) → value_fits h test t v ≡ true → IsOfType t v
fits-of-type h test Long (Number n) e = tt
fits-of-type h test Boolean (Truth b) e = tt
fits-of-type h test (Ref p s) Null e = tt
fits-of-type h test (Ref p s) (Reference r n) e = tt
fits-of-type h test Long (Truth b) e = absurd (let no : ⊥ = cc e in no)
fits-of-type h test Long Null e = absurd (let no : ⊥ = cc e in no)
fits-of-type h test Long (Reference r n) e = absurd (let no : ⊥ = cc e in no)
fits-of-type h test Boolean (Number n) e = absurd (let no : ⊥ = cc e in no)
fits-of-type h test Boolean Null e = absurd (let no : ⊥ = cc e in no)
fits-of-type h test Boolean (Reference r n) e = absurd (let no : ⊥ = cc e in no)
fits-of-type h test (Ref p s) (Number n) e = absurd (let no : ⊥ = cc e in no)
fits-of-type h test (Ref p s) (Truth b) e = absurd (let no : ⊥ = cc e in no)

-- `long` or `bool`
abbrev pub IsPlain : Ty → Type 0
IsPlain Long = Unit {0}
IsPlain Boolean = Unit {0}
IsPlain (Ref p s) = ⊥

pub unary-plain : (op : UnaryOp) → IsPlain (unary_type op)
unary-plain Negative = tt
unary-plain Not = tt

pub binary-plain : (op : BinaryOp) → IsPlain (binary_type op)
binary-plain Mul = tt
binary-plain Div = tt
binary-plain Rem = tt
binary-plain Plus = tt
binary-plain Minus = tt
binary-plain Less = tt
binary-plain AtMost = tt
binary-plain Greater = tt
binary-plain AtLeast = tt
binary-plain Equal = tt
binary-plain Differs = tt
binary-plain And = tt
binary-plain Or = tt

-- a plain value comes into what is of its kind
pub plain-comes : (h : Objects Name) (test : Perm → Name → Bool) (t u : Ty) (v : Value Name) → IsPlain t → IsOfType t v → differ t u ≡ false → value_fits h test u v ≡ true
plain-comes h test Long Long (Number n) p is e = refl
plain-comes h test Boolean Boolean (Truth b) p is e = refl
plain-comes h test Long Long (Truth b) p is e = absurd is
plain-comes h test Long Long Null p is e = absurd is
plain-comes h test Long Long (Reference r n) p is e = absurd is
plain-comes h test Boolean Boolean (Number n) p is e = absurd is
plain-comes h test Boolean Boolean Null p is e = absurd is
plain-comes h test Boolean Boolean (Reference r n) p is e = absurd is
plain-comes h test Long Boolean v p is e = absurd (let no : ⊥ = cc e in no)
plain-comes h test Long (Ref q s) v p is e = absurd (let no : ⊥ = cc e in no)
plain-comes h test Boolean Long v p is e = absurd (let no : ⊥ = cc e in no)
plain-comes h test Boolean (Ref q s) v p is e = absurd (let no : ⊥ = cc e in no)
plain-comes h test (Ref q s) u v p is e = absurd p

pub null-comes : (h : Objects Name) (test : Perm → Name → Bool) (u : Ty) (v : Value Name) → IsOfSort NullSort v → isnt_value_of NullSort u ≡ false → value_fits h test u v ≡ true
null-comes h test (Ref p s) Null is e = refl
null-comes h test Long v is e = absurd (let no : ⊥ = cc e in no)
null-comes h test Boolean v is e = absurd (let no : ⊥ = cc e in no)
null-comes h test (Ref p s) (Number n) is e = absurd is
null-comes h test (Ref p s) (Truth b) is e = absurd is
null-comes h test (Ref p s) (Reference r n) is e = absurd is

-- one kind and a permission that isn't too weak
pub kinds-fit : (p q : Perm) (s t : Shape) → differ (Ref p s) (Ref q t) ≡ false → is_too_weak (Ref p s) (Ref q t) ≡ false → (same_shape s t ≡ true) × (is_at_most p q ≡ true)
kinds-fit p q s t e f = go (same_shape s t) (is_at_most p q) e f
  where
    go : (a b : Bool) → not a ≡ false → (a && not b) ≡ false → (a ≡ true) × (b ≡ true)
    go true true e f = (refl, refl)
    go true false e f = absurd (let no : ⊥ = cc f in no)
    go false b e f = absurd (let no : ⊥ = cc e in no)

module _ (u : UnitCode) (labels : Labels) (h : Objects Name) (c : Context) (w : Way) (k : ℕ) (z : Zone) (vs : List Held) (fit : AllFit u labels h z w k c.vars vs) where
  -- the variables that have a value have types, and values of them
  pub fit-typed : AreTyped c (valued vs) vs
  fit-typed x live = go (has-of vs x live)
    where
      go : (a : Value Name) × (slice_get vs x ≡ Some (Some a)) → (t : Ty) × (v : Value Name) × (type_of c x ≡ Some t) × (slice_get vs x ≡ Some (Some v)) × IsOfType t v
      go (a, has) =
          let less : x < length vs = get-less vs x (Some a) has in
          let even = fit.lengths in
          let t = get-some c.vars x (omega (arith, less, even)) in
          (t.0, a, t.1, has, fits-of-type h (λ p n. var_may_lead p (OfVariable w k x) z (labels n)) t.0 a (fit.each x t.0 a t.1 has))

  module _ (tq : Ty) (entry : Region) (y : Zone) where
    -- where the argument's value comes to
    abbrev pub to : Region
    to = goal_of (Some tq) entry (OwnOf y)

    -- the value fits there, after the renamings of what is consumed
    abbrev pub Comes : Argument → Value Name → Type 0
    Comes a b = value_fits h (λ p n. var_may_lead p entry y (moved (consumed_moves c w k a to) (labels n))) tq b ≡ true

    -- a variable's value, where what is isolated is consumed
    variable-comes : (a : Argument) (x : ℕ) (t : Ty) (b : Value Name) → type_of c x ≡ Some t → slice_get vs x ≡ Some (Some b) → differ t tq ≡ false → is_too_weak t tq ≡ false
        → ((p : Perm) (s : Shape) → t ≡ Ref p s → (p ≡ Readable → z ≡ y) × (p ≡ Writable → z ≡ y))
        → ((p : Perm) (s : Shape) (q : Perm) (s' : Shape) → t ≡ Ref p s → tq ≡ Ref q s' → (r : Region) → moved (consumed_moves c w k a to) r ≡ went p (OfVariable w k x) (goal q entry (OwnOf y)) r)
        → Comes a b
    variable-comes a x t b is has kind strong home ms = go t tq refl refl kind strong (fit.each x t b is has)
      where
        go : (t' u' : Ty) → t ≡ t' → tq ≡ u' → differ t' u' ≡ false → is_too_weak t' u' ≡ false → value_fits h (λ p n. var_may_lead p (OfVariable w k x) z (labels n)) t b ≡ true → Comes a b
        go Long u' i j kind strong fits = back j (plain-comes h (λ p n. var_may_lead p entry y (moved (consumed_moves c w k a to) (labels n))) Long u' b tt (of_type i fits) kind)
          where
            of_type : t ≡ Long → value_fits h (λ p n. var_may_lead p (OfVariable w k x) z (labels n)) t b ≡ true → IsOfType Long b
            of_type i fits = subst (λ s. IsOfType s b) i (fits-of-type h (λ p n. var_may_lead p (OfVariable w k x) z (labels n)) t b fits)

            back : tq ≡ u' → value_fits h (λ p n. var_may_lead p entry y (moved (consumed_moves c w k a to) (labels n))) u' b ≡ true → Comes a b
            back j e = ap (λ s. value_fits h (λ p n. var_may_lead p entry y (moved (consumed_moves c w k a to) (labels n))) s b) j ∙ e
        go Boolean u' i j kind strong fits = back j (plain-comes h (λ p n. var_may_lead p entry y (moved (consumed_moves c w k a to) (labels n))) Boolean u' b tt (of_type i fits) kind)
          where
            of_type : t ≡ Boolean → value_fits h (λ p n. var_may_lead p (OfVariable w k x) z (labels n)) t b ≡ true → IsOfType Boolean b
            of_type i fits = subst (λ s. IsOfType s b) i (fits-of-type h (λ p n. var_may_lead p (OfVariable w k x) z (labels n)) t b fits)

            back : tq ≡ u' → value_fits h (λ p n. var_may_lead p entry y (moved (consumed_moves c w k a to) (labels n))) u' b ≡ true → Comes a b
            back j e = ap (λ s. value_fits h (λ p n. var_may_lead p entry y (moved (consumed_moves c w k a to) (labels n))) s b) j ∙ e
        go (Ref p s) Long i j kind strong fits = absurd (let no : ⊥ = cc kind in no)
        go (Ref p s) Boolean i j kind strong fits = absurd (let no : ⊥ = cc kind in no)
        go (Ref p s) (Ref q s') i j kind strong fits =
            let f = kinds-fit p q s s' kind strong in
            ap (λ r. value_fits h (λ p n. var_may_lead p entry y (moved (consumed_moves c w k a to) (labels n))) r b) j
            ∙ value-into h (λ p n. var_may_lead p (OfVariable w k x) z (labels n)) (λ p n. var_may_lead p entry y (moved (consumed_moves c w k a to) (labels n))) p q s s' b f.0
            (λ n e. ap (λ r. var_may_lead q entry y r) (ms p s q s' i j (labels n)) ∙ arrives p q (OfVariable w k x) entry z y (labels n) f.1 (home p s i).0 (home p s i).1 e)
            (sym (ap (λ r. value_fits h (λ p n. var_may_lead p (OfVariable w k x) z (labels n)) r b) i) ∙ fits)

    -- what isn't isolated moves nothing
    plain-went : (p : Perm) (from to' r : Region) → has_isolated (Some (Ref p Array)) ≡ false → r ≡ went p from to' r
    plain-went Isolated from to' r e = absurd (let no : ⊥ = cc e in no)
    plain-went Immutable from to' r e = refl
    plain-went Readable from to' r e = refl
    plain-went Writable from to' r e = refl

    consumed-went : (x : ℕ) (p : Perm) (s : Shape) (q : Perm) (s' : Shape) → type_of c x ≡ Some (Ref p s) → tq ≡ Ref q s' → (r : Region) → moved (consumed_moves c w k (Consumed x) to) r ≡ went p (OfVariable w k x) (goal q entry (OwnOf y)) r
    consumed-went x p s q s' is goal_is r =
        ap (λ o. moved (cond (has_isolated o) (Moves (OfVariable w k x) to ∷ []) []) r) is ∙ (ap (λ g. moved (cond (has_isolated (Some (Ref p s))) (Moves (OfVariable w k x) (goal_of (Some g) entry (OwnOf y)) ∷ []) []) r) goal_is ∙ by_perm p)
      where
        by_perm : (p : Perm) → moved (cond (has_isolated (Some (Ref p s))) (Moves (OfVariable w k x) (goal q entry (OwnOf y)) ∷ []) []) r ≡ went p (OfVariable w k x) (goal q entry (OwnOf y)) r
        by_perm Isolated = refl
        by_perm Immutable = refl
        by_perm Readable = refl
        by_perm Writable = refl

    -- an argument that is allowed beside a place of this type gives a value that fits there
    pub argument-comes : (a : Argument) (v : Held) (ws : List Held) → Gives_one vs a v ws → any_in_argument (dead (valued vs)) a ≡ false → argument_misfits c a (Some tq) ≡ false → argument_weak c a (Some tq) ≡ false → argument_needs c a ≡ false
        → ((x : ℕ) (p : Perm) (s : Shape) → argument_mentions a x ≡ true → type_of c x ≡ Some (Ref p s) → (p ≡ Readable → z ≡ y) × (p ≡ Writable → z ≡ y))
        → (b : Value Name) × ((v ≡ Some b) × Comes a b)
    argument-comes _ v _ (plain_one e _ gives) live fits strong needs home = by_term e gives live (or_parts (term_wrong c e) (isnt_value_of (term_sort c e) tq) fits) strong needs home
      where
        evaluated : (e : Term) → eval tagged e vs ≡ Gives v → any_in_term (dead (valued vs)) e ≡ false → term_wrong c e ≡ false → Evaluates (term_sort c e) (Gives v)
        evaluated e gives live right = subst (λ x. Evaluates (term_sort c e) x) gives (term-evaluates c (valued vs) vs fit-typed e live right)

        plain-value : (t : Ty) (v : Held) (e : Term) → IsPlain t → Evaluates (Typed t) (Gives v) → differ t tq ≡ false → (b : Value Name) × ((v ≡ Some b) × Comes (Expression e) b)
        plain-value t None e p is kind = absurd is
        plain-value t (Some b) e p is kind = (b, (refl, plain-comes h (λ p n. var_may_lead p entry y (labels n)) t tq b p is kind))

        null-value : (v : Held) (e : Term) → Evaluates NullSort (Gives v) → isnt_value_of NullSort tq ≡ false → (b : Value Name) × ((v ≡ Some b) × Comes (Expression e) b)
        null-value None e is kind = absurd is
        null-value (Some b) e is kind = (b, (refl, null-comes h (λ p n. var_may_lead p entry y (labels n)) tq b is kind))

        by_variable : (x : ℕ) (o : Option Held) → slice_get vs x ≡ o → held tagged o ≡ Gives v → isnt_value_of (sort_if (type_of c x)) tq ≡ false → argument_weak c (Expression (Local x)) (Some tq) ≡ false → has_isolated (type_of c x) ≡ false
            → ((n : ℕ) (p : Perm) (s : Shape) → nat_eq n x ≡ true → type_of c n ≡ Some (Ref p s) → (p ≡ Readable → z ≡ y) × (p ≡ Writable → z ≡ y)) → (b : Value Name) × ((v ≡ Some b) × Comes (Expression (Local x)) b)
        by_variable x None q e kind strong needs home = absurd (let no : ⊥ = cc e in no)
        by_variable x (Some None) q e kind strong needs home = absurd (let no : ⊥ = cc e in no)
        by_variable x (Some (Some b)) q e kind strong needs home =
            let less : x < length vs = get-less vs x (Some b) q in
            let even = fit.lengths in
            let t = get-some c.vars x (omega (arith, less, even)) in
            let same : Some b ≡ v = cc e in (
              b,
              (
                sym same,
                variable-comes (Expression (Local x)) x t.0 b t.1 q
                    (sym (ap (λ o. isnt_value_of (sort_if o) tq) t.1) ∙ kind)
                    (sym (ap (λ o. argument_weak_of o) t.1) ∙ strong)
                    (λ p s i. home x p s (eq-itself x) (t.1 ∙ ap (λ r. Some r) i))
                    (λ p s q s' i j r. plain-went p (OfVariable w k x) (goal q entry (OwnOf y)) r (isolated-any p s (sym (ap (λ o. has_isolated o) (t.1 ∙ ap (λ r. Some r) i)) ∙ needs))),
              ),
            )
          where
            argument_weak_of : Option Ty → Bool
            argument_weak_of o = weak (type_if (sort_if o)) (Some tq)

            isolated-any : (p : Perm) (s : Shape) → has_isolated (Some (Ref p s)) ≡ false → has_isolated (Some (Ref p Array)) ≡ false
            isolated-any Isolated s e = e
            isolated-any Immutable s e = refl
            isolated-any Readable s e = refl
            isolated-any Writable s e = refl

        by_term : (e : Term) → eval tagged e vs ≡ Gives v → any_in_term (dead (valued vs)) e ≡ false → (term_wrong c e ≡ false) × (isnt_value_of (term_sort c e) tq ≡ false) → argument_weak c (Expression e) (Some tq) ≡ false → argument_needs c (Expression e) ≡ false
            → ((x : ℕ) (p : Perm) (s : Shape) → argument_mentions (Expression e) x ≡ true → type_of c x ≡ Some (Ref p s) → (p ≡ Readable → z ≡ y) × (p ≡ Writable → z ≡ y)) → (b : Value Name) × ((v ≡ Some b) × Comes (Expression e) b)
        by_term (LongLit n) gives live right strong needs home = plain-value Long v (LongLit n) tt (evaluated (LongLit n) gives live right.0) right.1
        by_term (BoolLit t) gives live right strong needs home = plain-value Boolean v (BoolLit t) tt (evaluated (BoolLit t) gives live right.0) right.1
        by_term NullLit gives live right strong needs home = null-value v NullLit (evaluated NullLit gives live right.0) right.1
        by_term (Local x) gives live right strong needs home = by_variable x (slice_get vs x) refl gives right.1 strong needs home
        by_term (Unary op a) gives live right strong needs home = plain-value (unary_type op) v (Unary op a) (unary-plain op) (evaluated (Unary op a) gives live right.0) right.1
        by_term (Binary op a b) gives live right strong needs home = plain-value (binary_type op) v (Binary op a b) (binary-plain op) (evaluated (Binary op a b) gives live right.0) right.1
    argument-comes _ v _ (consumes_one x _ here gives) live fits strong needs home = by_slot v here gives
      where
        by_slot : (v : Held) → slice_get vs x ≡ Some v → held tagged (slice_get vs x) ≡ Gives v → (b : Value Name) × ((v ≡ Some b) × Comes (Consumed x) b)
        by_slot None here gives = absurd (let z : held tagged (Some None) ≡ Gives None = sym (ap (held tagged) here) ∙ gives in let no : ⊥ = cc z in no)
        by_slot (Some b) here gives =
            let less : x < length vs = get-less vs x (Some b) here in
            let even = fit.lengths in
            let t = get-some c.vars x (omega (arith, less, even)) in
            let kind = (or_parts (argument_wrong c (Consumed x)) (isnt_value_of (sort_if (type_of c x)) tq) fits).1 in (
              b,
              (
                refl,
                variable-comes (Consumed x) x t.0 b t.1 here
                    (sym (ap (λ o. isnt_value_of (sort_if o) tq) t.1) ∙ kind)
                    (sym (ap (λ o. weak (type_if (sort_if o)) (Some tq)) t.1) ∙ strong)
                    (λ p s i. home x p s (eq-itself x) (t.1 ∙ ap (λ r. Some r) i))
                    (λ p s q s' i j r. consumed-went x p s q s' (t.1 ∙ ap (λ r. Some r) i) j r),
              ),
            )
