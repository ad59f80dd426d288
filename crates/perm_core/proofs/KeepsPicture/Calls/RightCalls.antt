-- What is allowed of a call, test by test: how its receiver, its arguments and its result fit its method, and what its tie says of them.
use Rattle.std.proofs.Common.{◌≡◌, ℕ, Bool, true, false, Option, Some, None, List, refl, sym, ap, ◌∙◌}
use Rattle.std.specs.Prelude.{◌&&◌, ◌||◌, not, nat_eq, slice_get}
use Rattle.std.specs.List.{list_any, list_all}
use Rattle.std.proofs.lemmas.Bool.{and_parts, or_parts}
use Rattle.perm_tree.specs.declared.ast.Perm.{Perm}
use Rattle.perm_tree.specs.declared.ast.Perm.TheVariants.{Isolated, Immutable, Readable, Writable}
use Rattle.perm_tree.specs.declared.ast.Shape.{Shape}
use Rattle.perm_tree.specs.declared.ast.Shape.TheVariants.{Class, Array}
use Rattle.perm_tree.specs.declared.ast.Ty.{Ty}
use Rattle.perm_tree.specs.declared.ast.Ty.TheVariants.{Long, Bool as Boolean, Ref}
use Rattle.perm_tree.specs.declared.errors.TypeKind.TheVariants.{WrongKind, Gone, NeedsConsume, NotAllowedThrough, PermissionTooWeak}
use Rattle.perm_tree.specs.Code.{Argument, Tie, Shares, Raises, Lends, Invoke, Routine, UnitCode}
use Rattle.perm_tree.specs.CodeNames.{is_tied}
use Rattle.perm_tree.specs.Mentions.{any_in_argument, any_in_option}
use Rattle.perm_tree.specs.Shapes.{same_shape}
use Rattle.perm_tree.specs.Ties.{is_harmless, is_harmless_ty, is_harmless_consumed, tie_of}
use Rattle.perm_tree.specs.Vars.{Vars}
use Rattle.perm_perm.specs.Order.{is_at_most}
use Rattle.perm_perm.specs.Types.{fits, is_too_weak, raised_type}
use Rattle.perm_rules.specs.Liveness.{call_gone}
use Rattle.perm_rules.specs.Parts.{Context, Simple, type_of, if_known, if_both_known, is_object, has_isolated}
use Rattle.perm_rules.specs.Permissions.{argument_needs, arguments_weak, keeps_receiver, call_needs, call_barred, call_weak, receiver_weak, weak, call_type}
use Rattle.perm_rules.specs.Refusals.{IsAllowed}
use Rattle.perm_rules.specs.Shapes.{arguments_misfit, shapes_differ, taker_type, isnt_object, call_misfits}
use Rattle.perm_rules.specs.Sorts.{argument_wrong, differ}
use Rattle.perm_rules.proofs.PartLaws.{applies-none, part-known}
use Rattle.perm_meaning.specs.Names.{Name}
use Rattle.perm_meaning.specs.Objects.{Objects}
use Rattle.perm_meaning.specs.Machine.{Frame}
use Rattle.perm_meaning.specs.NamedHeap.{Held}
use Rattle.perm_meaning.proofs.SameName.{eq-itself, eq-true}
use Rattle.perm_core.specs.Marked.{same_tie, is_called_on, call_right}
use Rattle.perm_core.specs.Regions.{Labels}
use Rattle.perm_core.specs.Picture.{context_if, context_of, context_above, result_fits}
use Rattle.perm_core.proofs.KeepsPicture.Turns.Arguments.{get-some}

-- ---------- ties ----------
-- a call that raises has only harmless arguments
pub raised-harmless : (p : Perm) (s : Shape) (consumed harmless : Bool) → same_tie Raises (tie_of (Some (Ref p s)) consumed harmless) ≡ true → harmless ≡ true
raised-harmless Isolated s false harmless e = absurd (let no : ⊥ = cc e in no)
raised-harmless Isolated s true true e = refl
raised-harmless Isolated s true false e = absurd (let no : ⊥ = cc e in no)
raised-harmless Immutable s consumed true e = refl
raised-harmless Immutable s consumed false e = absurd (let no : ⊥ = cc e in no)
raised-harmless Readable s consumed harmless e = absurd (let no : ⊥ = cc e in no)
raised-harmless Writable s consumed harmless e = absurd (let no : ⊥ = cc e in no)

-- and a harmless receiver
pub raised-consumed : (p : Perm) (s : Shape) (harmless : Bool) → same_tie Raises (tie_of (Some (Ref p s)) true harmless) ≡ true → is_harmless_consumed (Some (Ref p s)) ≡ true
raised-consumed Isolated s harmless e = refl
raised-consumed Immutable s harmless e = refl
raised-consumed Readable s harmless e = absurd (let no : ⊥ = cc e in no)
raised-consumed Writable s harmless e = absurd (let no : ⊥ = cc e in no)

pub raised-kept : (p : Perm) (s : Shape) (harmless : Bool) → same_tie Raises (tie_of (Some (Ref p s)) false harmless) ≡ true → is_harmless_ty (Some (Ref p s)) ≡ true
raised-kept Isolated s harmless e = absurd (let no : ⊥ = cc e in no)
raised-kept Immutable s harmless e = refl
raised-kept Readable s harmless e = absurd (let no : ⊥ = cc e in no)
raised-kept Writable s harmless e = absurd (let no : ⊥ = cc e in no)

-- an isolated receiver that isn't consumed is lent
pub shared-kept : (p : Perm) (s : Shape) (harmless : Bool) → same_tie Shares (tie_of (Some (Ref p s)) false harmless) ≡ true → has_isolated (Some (Ref p s)) ≡ false
shared-kept Isolated s harmless e = absurd (let no : ⊥ = cc e in no)
shared-kept Immutable s harmless e = refl
shared-kept Readable s harmless e = refl
shared-kept Writable s harmless e = refl

pub harmless-unlent : (p : Perm) (s : Shape) → is_harmless_ty (Some (Ref p s)) ≡ true → has_isolated (Some (Ref p s)) ≡ false
harmless-unlent Isolated s e = absurd (let no : ⊥ = cc e in no)
harmless-unlent Immutable s e = refl
harmless-unlent Readable s e = refl
harmless-unlent Writable s e = refl

-- and no other one
pub lent-isolated : (p : Perm) (s : Shape) (consumed harmless : Bool) → same_tie Lends (tie_of (Some (Ref p s)) consumed harmless) ≡ true → (p ≡ Isolated) × (consumed ≡ false)
lent-isolated Isolated s false harmless e = (refl, refl)
lent-isolated Isolated s true true e = absurd (let no : ⊥ = cc e in no)
lent-isolated Isolated s true false e = absurd (let no : ⊥ = cc e in no)
lent-isolated Immutable s consumed true e = absurd (let no : ⊥ = cc e in no)
lent-isolated Immutable s consumed false e = absurd (let no : ⊥ = cc e in no)
lent-isolated Readable s consumed harmless e = absurd (let no : ⊥ = cc e in no)
lent-isolated Writable s consumed harmless e = absurd (let no : ⊥ = cc e in no)

-- where something is lent all arguments are harmless, and the result isn't tied
pub lent-harmless : (keeps harmless free : Bool) → keeps ≡ false → (not keeps && not (harmless && free)) ≡ false → (harmless ≡ true) × (free ≡ true)
lent-harmless true harmless free k e = absurd (let no : ⊥ = cc k in no)
lent-harmless false true true k e = (refl, refl)
lent-harmless false true false k e = absurd (let no : ⊥ = cc e in no)
lent-harmless false false free k e = absurd (let no : ⊥ = cc e in no)

-- what is allowed of a call on a variable of permission p, with the live set G
pub record RightCall (c : Context) (into : Option ℕ) (tie : Tie) (consumed : Bool) (y : ℕ) (args : List Argument) (r : Routine) (p : Perm) (G : Vars) : Type 0 where
  pub is : type_of c y ≡ Some (Ref p (Class r.class))
  pub tied : same_tie tie (tie_of (Some (Ref p (Class r.class))) consumed (list_all (is_harmless (type_of c)) args)) ≡ true
  pub alive : call_gone consumed y args G ≡ false
  pub fit : arguments_misfit c args r.params ≡ false
  pub strong : arguments_weak c args r.params ≡ false
  pub needless : list_any (argument_needs c) args ≡ false
  pub unkept : call_needs tie (Some r) ≡ false
  pub unbarred : call_barred c tie args (Some r) ≡ false
  pub receiver : receiver_weak tie (Some (Ref p (Class r.class))) r.receiver ≡ false
  pub taken : (x : ℕ) → into ≡ Some x → (s : Ty) × (type_of c x ≡ Some s)
  pub shape : shapes_differ (Some r.result) (taker_type c into) ≡ false
  pub result : weak (Some (call_type tie r.result)) (taker_type c into) ≡ false

-- ---------- from what is allowed ----------
routines-of : (u : UnitCode) (o : Option Routine) → (context_if u o).routines ≡ u.routines
routines-of u None = refl
routines-of u (Some r) = refl

-- a call that is allowed and right
pub right-call : (u : UnitCode) (below : List ℕ) (n : ℕ) (st : List (Frame Held)) (into : Option ℕ) (tie : Tie) (consumed : Bool) (y m : ℕ) (args : List Argument) (r : Routine) (G : Vars) → slice_get u.routines m ≡ Some r
    → IsAllowed (context_above u below n st) (Simple (Invoke into tie consumed y m args)) G → call_right (context_of u n) (Invoke into tie consumed y m args) ≡ true
    → (p : Perm) × RightCall (context_of u n) into tie consumed y args r p G
right-call u below n st into tie consumed y m args r G here allowed marked = go type.0 type.1 wrong.0
  where
    C : Context
    C = context_above u below n st

    c : Context
    c = context_of u n

    routine : slice_get c.routines m ≡ Some r
    routine = ap (λ rs. slice_get rs m) (routines-of u (slice_get u.routines n)) ∙ here

    marks : (same_tie tie (tie_of (type_of c y) consumed (list_all (is_harmless (type_of c)) args)) ≡ true) × (is_called_on (type_of c y) (slice_get c.routines m) ≡ true)
    marks = and_parts (same_tie tie (tie_of (type_of c y) consumed (list_all (is_harmless (type_of c)) args))) (is_called_on (type_of c y) (slice_get c.routines m)) marked

    class : (p : Perm) (k : ℕ) → type_of c y ≡ Some (Ref p (Class k)) → k ≡ r.class
    class p k is = eq-true k r.class (sym (λ j. is_called_on (is j) (routine j)) ∙ marks.1)

    second : (p q s : Bool) → q ≡ true → (p || (q || s)) ≡ true
    second true q s e = refl
    second false true s e = refl
    second false false s e = absurd (let no : ⊥ = cc e in no)

    type : (t : Ty) × (type_of c y ≡ Some t)
    type = get-some c.vars y (part-known C (Simple (Invoke into tie consumed y m args)) G allowed y (second (any_in_option (nat_eq y) into) (nat_eq y y) (list_any (any_in_argument (nat_eq y)) args) (eq-itself y)))

    wrong : (isnt_object c y ≡ false) × ((list_any (argument_wrong c) args || call_misfits c into args (slice_get c.routines m)) ≡ false)
    wrong = or_parts (isnt_object c y) (list_any (argument_wrong c) args || call_misfits c into args (slice_get c.routines m)) (applies-none C (Simple (Invoke into tie consumed y m args)) G allowed WrongKind)

    misfits : (arguments_misfit c args r.params ≡ false) × (shapes_differ (Some r.result) (taker_type c into) ≡ false)
    misfits =
        or_parts (arguments_misfit c args r.params) (shapes_differ (Some r.result) (taker_type c into))
        (sym (ap (call_misfits c into args) routine) ∙ (or_parts (list_any (argument_wrong c) args) (call_misfits c into args (slice_get c.routines m)) wrong.1).1)

    needs : (list_any (argument_needs c) args ≡ false) × (call_needs tie (slice_get c.routines m) ≡ false)
    needs = or_parts (list_any (argument_needs c) args) (call_needs tie (slice_get c.routines m)) (applies-none C (Simple (Invoke into tie consumed y m args)) G allowed NeedsConsume)

    weaks : (arguments_weak c args r.params ≡ false) × ((receiver_weak tie (type_of c y) r.receiver || weak (Some (call_type tie r.result)) (taker_type c into)) ≡ false)
    weaks =
        or_parts (arguments_weak c args r.params) (receiver_weak tie (type_of c y) r.receiver || weak (Some (call_type tie r.result)) (taker_type c into))
        (sym (ap (call_weak c into tie y args) routine) ∙ applies-none C (Simple (Invoke into tie consumed y m args)) G allowed PermissionTooWeak)

    rest : (receiver_weak tie (type_of c y) r.receiver ≡ false) × (weak (Some (call_type tie r.result)) (taker_type c into) ≡ false)
    rest = or_parts (receiver_weak tie (type_of c y) r.receiver) (weak (Some (call_type tie r.result)) (taker_type c into)) weaks.1

    taken : (x : ℕ) → into ≡ Some x → (s : Ty) × (type_of c x ≡ Some s)
    taken x q =
        get-some c.vars x (part-known C (Simple (Invoke into tie consumed y m args)) G allowed x (stands (any_in_option (nat_eq x) into) (nat_eq x y || list_any (any_in_argument (nat_eq x)) args) (ap (any_in_option (nat_eq x)) q ∙ eq-itself x)))
      where
        stands : (a b : Bool) → a ≡ true → (a || b) ≡ true
        stands true b e = refl
        stands false b e = absurd (let no : ⊥ = cc e in no)

    right : (p : Perm) → type_of c y ≡ Some (Ref p (Class r.class)) → RightCall c into tie consumed y args r p G
    right p is = record {
      is = is;
      tied = sym (ap (λ o. same_tie tie (tie_of o consumed (list_all (is_harmless (type_of c)) args))) is) ∙ marks.0;
      alive = applies-none C (Simple (Invoke into tie consumed y m args)) G allowed Gone;
      fit = misfits.0;
      strong = weaks.0;
      needless = needs.0;
      unkept = sym (ap (call_needs tie) routine) ∙ needs.1;
      unbarred = sym (ap (call_barred c tie args) routine) ∙ applies-none C (Simple (Invoke into tie consumed y m args)) G allowed NotAllowedThrough;
      receiver = sym (ap (λ o. receiver_weak tie o r.receiver) is) ∙ rest.0;
      taken = taken;
      shape = misfits.1;
      result = rest.1;
    }

    go : (t : Ty) → type_of c y ≡ Some t → isnt_object c y ≡ false → (p : Perm) × RightCall c into tie consumed y args r p G
    go Long is e = absurd (let no : true ≡ false = sym (ap (λ o. if_known o (λ t. not (is_object t))) is) ∙ e in let w : ⊥ = cc no in w)
    go Boolean is e = absurd (let no : true ≡ false = sym (ap (λ o. if_known o (λ t. not (is_object t))) is) ∙ e in let w : ⊥ = cc no in w)
    go (Ref p Array) is e = absurd (let no : true ≡ false = sym (ap (λ o. if_known o (λ t. not (is_object t))) is) ∙ e in let w : ⊥ = cc no in w)
    go (Ref p (Class k)) is e = (p, right p (is ∙ ap (λ k. Some (Ref p (Class k))) (class p k is)))

-- ---------- the result ----------
-- of one kind and not too weak
fits-both : (t s : Ty) → differ t s ≡ false → is_too_weak t s ≡ false → fits t s ≡ true
fits-both Long Long e f = refl
fits-both Long Boolean e f = absurd (let no : ⊥ = cc e in no)
fits-both Long (Ref q b) e f = absurd (let no : ⊥ = cc e in no)
fits-both Boolean Long e f = absurd (let no : ⊥ = cc e in no)
fits-both Boolean Boolean e f = refl
fits-both Boolean (Ref q b) e f = absurd (let no : ⊥ = cc e in no)
fits-both (Ref p a) Long e f = absurd (let no : ⊥ = cc e in no)
fits-both (Ref p a) Boolean e f = absurd (let no : ⊥ = cc e in no)
fits-both (Ref p a) (Ref q b) e f = go (same_shape a b) (is_at_most p q) e f
  where
    go : (s o : Bool) → not s ≡ false → (s && not o) ≡ false → (s && o) ≡ true
    go true true e f = refl
    go true false e f = absurd (let no : ⊥ = cc f in no)
    go false o e f = absurd (let no : ⊥ = cc e in no)

-- raising changes no shape
raised-differ : (t s : Ty) → differ t s ≡ false → differ (raised_type t) s ≡ false
raised-differ Long s e = e
raised-differ Boolean s e = e
raised-differ (Ref p a) Long e = e
raised-differ (Ref p a) Boolean e = e
raised-differ (Ref p a) (Ref q b) e = e

-- the result of an allowed call fits what takes it
pub result-right : (u : UnitCode) (labels : Labels) (h : Objects Name) (n : ℕ) (into : Option ℕ) (tie : Tie) (consumed : Bool) (y : ℕ) (args : List Argument) (r : Routine) (p : Perm) (G : Vars)
    → RightCall (context_of u n) into tie consumed y args r p G → result_fits u labels h tie r.result into n ≡ true
result-right u labels h n into tie consumed y args r p G right = by_into into right.taken right.shape right.result
  where
    c : Context
    c = context_of u n

    free : tie ≡ Lends → is_tied r.result ≡ false
    free q =
        not-true (is_tied r.result)
        (lent-harmless (keeps_receiver r.receiver) (list_all (is_harmless (type_of c)) args) (not (is_tied r.result)) (sym (ap (λ t. call_needs t (Some r)) q) ∙ right.unkept) (sym (ap (λ t. call_barred c t args (Some r)) q) ∙ right.unbarred)).1
      where
        not-true : (t : Bool) → not t ≡ true → t ≡ false
        not-true true e = absurd (let no : ⊥ = cc e in no)
        not-true false e = refl

    dropped : (t : Tie) → (t ≡ Lends → is_tied r.result ≡ false) → result_fits u labels h t r.result None n ≡ true
    dropped Shares f = refl
    dropped Raises f = refl
    dropped Lends f = ap (λ b. not b && true) (f refl)

    came : (t : Tie) (x : ℕ) (s : Ty) → (t ≡ Lends → is_tied r.result ≡ false) → type_of c x ≡ Some s → shapes_differ (Some r.result) (type_of c x) ≡ false → weak (Some (call_type t r.result)) (type_of c x) ≡ false → result_fits u labels h t r.result (Some x) n ≡ true
    came Shares x s f is e g = ap (λ o. if_both_known (Some r.result) o fits) is ∙ fits-both r.result s (sym (ap (λ o. if_both_known (Some r.result) o differ) is) ∙ e) (sym (ap (λ o. if_both_known (Some r.result) o is_too_weak) is) ∙ g)
    came Raises x s f is e g =
        ap (λ o. if_both_known (Some (raised_type r.result)) o fits) is
        ∙ fits-both (raised_type r.result) s (raised-differ r.result s (sym (ap (λ o. if_both_known (Some r.result) o differ) is) ∙ e)) (sym (ap (λ o. if_both_known (Some (raised_type r.result)) o is_too_weak) is) ∙ g)
    came Lends x s f is e g =
        ap (λ b. not b && if_both_known (Some r.result) (type_of c x) fits) (f refl)
        ∙ (ap (λ o. if_both_known (Some r.result) o fits) is ∙ fits-both r.result s (sym (ap (λ o. if_both_known (Some r.result) o differ) is) ∙ e) (sym (ap (λ o. if_both_known (Some r.result) o is_too_weak) is) ∙ g))

    by_into : (o : Option ℕ) → ((x : ℕ) → o ≡ Some x → (s : Ty) × (type_of c x ≡ Some s)) → shapes_differ (Some r.result) (taker_type c o) ≡ false → weak (Some (call_type tie r.result)) (taker_type c o) ≡ false → result_fits u labels h tie r.result o n ≡ true
    by_into None k e f = dropped tie free
    by_into (Some x) k e f = let s = k x refl in came tie x s.0 free s.1 e f
