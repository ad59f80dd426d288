-- An expression of fitting operands whose variables have values of their types gives a value of its sort, or traps.
use Rattle.std.proofs.Common.{◌≡◌, ℕ, Bool, true, false, Option, Some, None, List, refl, sym, subst}
use Rattle.std.specs.Prelude.{ℤ, pos, int_div, int_rem, not, ◌||◌, ◌&&◌, cond, slice_get}
use Rattle.std.proofs.lemmas.Bool.{or_parts, not-false}
use Rattle.perm_tree.specs.declared.ast.Ty.{Ty}
use Rattle.perm_tree.specs.declared.ast.Ty.TheVariants.{Long, Bool as Boolean, Ref}
use Rattle.perm_tree.specs.declared.ast.UnaryOp.{UnaryOp}
use Rattle.perm_tree.specs.declared.ast.UnaryOp.TheVariants.{Minus as Negative, Not}
use Rattle.perm_tree.specs.declared.ast.BinaryOp.{BinaryOp}
use Rattle.perm_tree.specs.declared.ast.BinaryOp.TheVariants.{Mul, Div, Rem, Plus, Minus, Less, AtMost, Greater, AtLeast, Equal, Differs, And, Or}
use Rattle.perm_tree.specs.declared.errors.TrapKind.TheVariants.{DivideByZero, Overflow}
use Rattle.perm_tree.specs.Code.{Term, LongLit, BoolLit, NullLit, Local, Unary, Binary}
use Rattle.perm_tree.specs.Mentions.{any_in_term}
use Rattle.perm_tree.specs.Vars.{Vars}
use Rattle.perm_rules.specs.Parts.{Context, type_of}
use Rattle.perm_rules.specs.Liveness.{dead}
use Rattle.perm_rules.specs.Sorts.{Sort, Unknown, Null as NullSort, Typed, sort_if, unary_type, binary_type, term_sort, isnt_plain, may_be_reference, is_null_test, arent_comparable, arent_plain, operands_misfit, term_wrong}
use Rattle.perm_meaning.specs.Values as values
use Rattle.perm_meaning.specs.Values.{Value, Number, Truth, Null, Reference, Eval, Gives, Traps, Mistyped}
use Rattle.perm_meaning.specs.Names.{Name}
use Rattle.perm_meaning.specs.Expressions.{tagged, filled, held, look_up, eval, left_then_right, then_unary, then_binary, unless_decided}
use Rattle.perm_meaning.specs.NamedHeap.{Held}

-- ---------- values of sorts ----------
-- a value of a type, whatever the permission and the shape
abbrev pub IsOfType : Ty → Value Name → Type 0
IsOfType Long (Number n) = Unit {0}
IsOfType Boolean (Truth b) = Unit {0}
IsOfType (Ref p s) Null = Unit {0}
IsOfType (Ref p s) (Reference r n) = Unit {0}
IsOfType _ _ = ⊥

-- a value of a sort
abbrev pub IsOfSort : Sort → Value Name → Type 0
IsOfSort Unknown v = ⊥
IsOfSort NullSort Null = Unit {0}
IsOfSort NullSort _ = ⊥
IsOfSort (Typed t) v = IsOfType t v

-- what an expression of a sort gives
abbrev pub Evaluates : Sort → Eval Held → Type 0
Evaluates s (Gives None) = ⊥
Evaluates s (Gives (Some v)) = IsOfSort s v
Evaluates s (Traps k) = Unit {0}
Evaluates s Mistyped = ⊥

-- the live variables have types, and values of them
abbrev pub AreTyped : Context → Vars → List Held → Type 0
AreTyped c G vs = (x : ℕ) → G x ≡ true → (t : Ty) × (v : Value Name) × (type_of c x ≡ Some t) × (slice_get vs x ≡ Some (Some v)) × IsOfType t v

-- ---------- operators ----------
-- a value that is of a plain type
pub plain-long : (s : Sort) (v : Value Name) → IsOfSort s v → isnt_plain s Long ≡ false → (n : ℤ) × (v ≡ Number n)
plain-long (Typed Long) (Number n) is e = (n, refl)
plain-long (Typed Long) (Truth b) is e = absurd is
plain-long (Typed Long) Null is e = absurd is
plain-long (Typed Long) (Reference r n) is e = absurd is
plain-long (Typed Boolean) v is e = absurd (cc)
plain-long (Typed (Ref p s)) v is e = absurd (cc)
plain-long Unknown v is e = absurd is
plain-long NullSort v is e = absurd (cc)

pub plain-truth : (s : Sort) (v : Value Name) → IsOfSort s v → isnt_plain s Boolean ≡ false → (b : Bool) × (v ≡ Truth b)
plain-truth (Typed Boolean) (Truth b) is e = (b, refl)
plain-truth (Typed Boolean) (Number n) is e = absurd is
plain-truth (Typed Boolean) Null is e = absurd is
plain-truth (Typed Boolean) (Reference r n) is e = absurd is
plain-truth (Typed Long) v is e = absurd (cc)
plain-truth (Typed (Ref p s)) v is e = absurd (cc)
plain-truth Unknown v is e = absurd is
plain-truth NullSort v is e = absurd (cc)

unary-evaluates : (op : UnaryOp) (s : Sort) (e : Eval Held) → Evaluates s e → isnt_plain s (unary_type op) ≡ false → Evaluates (Typed (unary_type op)) (then_unary tagged op e)
unary-evaluates op s (Gives None) is e = absurd is
unary-evaluates op s (Traps k) is e = tt
unary-evaluates op s Mistyped is e = absurd is
unary-evaluates Negative s (Gives (Some v)) is e = let x = plain-long s v is e in subst (λ z. Evaluates (Typed Long) (then_unary tagged Negative (Gives (Some z)))) (sym x.1) tt
unary-evaluates Not s (Gives (Some v)) is e = let x = plain-truth s v is e in subst (λ z. Evaluates (Typed Boolean) (then_unary tagged Not (Gives (Some z)))) (sym x.1) tt

divided-evaluates : (a b q : ℤ) → Evaluates (Typed Long) (filled (values.divided a b (Number q)))
divided-evaluates a b q = go (values.int_eq b (pos 0)) (values.overflows a b)
  where
    go : (s t : Bool) → Evaluates (Typed Long) (filled (cond s (Traps DivideByZero) (cond t (Traps Overflow) (Gives (Number q)))))
    go true t = tt
    go false true = tt
    go false false = tt

-- an operator on two numbers, which decides nothing by the first
module _ (op : BinaryOp) (gives : (a b : ℤ) → Evaluates (Typed (binary_type op)) (filled (values.on_numbers op a b))) (undecided : (a : ℤ) → values.decided {R = Name} op (Number a) ≡ Some false) where
  on-number : (a : ℤ) (t : Sort) (f : Eval Held) → Evaluates t f → isnt_plain t Long ≡ false → Evaluates (Typed (binary_type op)) (then_binary tagged op (Some (Number a)) f)
  on-number a t (Gives None) is e = absurd is
  on-number a t (Gives (Some w)) is e = let y = plain-long t w is e in subst (λ z. Evaluates (Typed (binary_type op)) (then_binary tagged op (Some (Number a)) (Gives (Some z)))) (sym y.1) (gives a y.0)
  on-number a t (Traps k) is e = tt
  on-number a t Mistyped is e = absurd is

  numbers-evaluate : (s t : Sort) (e f : Eval Held) → Evaluates s e → Evaluates t f → isnt_plain s Long ≡ false → isnt_plain t Long ≡ false → Evaluates (Typed (binary_type op)) (left_then_right tagged op e f)
  numbers-evaluate s t (Gives None) f is js p q = absurd is
  numbers-evaluate s t (Gives (Some v)) f is js p q =
      let x = plain-long s v is p in
      subst (λ z. Evaluates (Typed (binary_type op)) (left_then_right tagged op (Gives (Some z)) f)) (sym x.1)
      (subst (λ d. Evaluates (Typed (binary_type op)) (unless_decided tagged d (Gives (Some (Number x.0))) (then_binary tagged op (Some (Number x.0)) f))) (sym (undecided x.0)) (on-number x.0 t f js q))
  numbers-evaluate s t (Traps k) f is js p q = tt
  numbers-evaluate s t Mistyped f is js p q = absurd is

and-evaluates : (s t : Sort) (e f : Eval Held) → Evaluates s e → Evaluates t f → isnt_plain s Boolean ≡ false → isnt_plain t Boolean ≡ false → Evaluates (Typed Boolean) (left_then_right tagged And e f)
and-evaluates s t (Gives None) f is js p q = absurd is
and-evaluates s t (Traps k) f is js p q = tt
and-evaluates s t Mistyped f is js p q = absurd is
and-evaluates s t (Gives (Some v)) f is js p q = let x = plain-truth s v is p in subst (λ z. Evaluates (Typed Boolean) (left_then_right tagged And (Gives (Some z)) f)) (sym x.1) (go x.0 f js)
  where
    go : (b : Bool) (f : Eval Held) → Evaluates t f → Evaluates (Typed Boolean) (left_then_right tagged And (Gives (Some (Truth b))) f)
    go false f js = tt
    go true (Gives None) js = absurd js
    go true (Gives (Some w)) js = let y = plain-truth t w js q in subst (λ z. Evaluates (Typed Boolean) (left_then_right tagged And (Gives (Some (Truth true))) (Gives (Some z)))) (sym y.1) tt
    go true (Traps k) js = tt
    go true Mistyped js = absurd js

or-evaluates : (s t : Sort) (e f : Eval Held) → Evaluates s e → Evaluates t f → isnt_plain s Boolean ≡ false → isnt_plain t Boolean ≡ false → Evaluates (Typed Boolean) (left_then_right tagged Or e f)
or-evaluates s t (Gives None) f is js p q = absurd is
or-evaluates s t (Traps k) f is js p q = tt
or-evaluates s t Mistyped f is js p q = absurd is
or-evaluates s t (Gives (Some v)) f is js p q = let x = plain-truth s v is p in subst (λ z. Evaluates (Typed Boolean) (left_then_right tagged Or (Gives (Some z)) f)) (sym x.1) (go x.0 f js)
  where
    go : (b : Bool) (f : Eval Held) → Evaluates t f → Evaluates (Typed Boolean) (left_then_right tagged Or (Gives (Some (Truth b))) f)
    go true f js = tt
    go false (Gives None) js = absurd js
    go false (Gives (Some w)) js = let y = plain-truth t w js q in subst (λ z. Evaluates (Typed Boolean) (left_then_right tagged Or (Gives (Some (Truth false))) (Gives (Some z)))) (sym y.1) tt
    go false (Traps k) js = tt
    go false Mistyped js = absurd js

-- ---------- comparisons ----------
-- two values that `==` compares
data AreComparable : Value Name → Value Name → Type 0 where
  numbers : (a b : ℤ) → AreComparable (Number a) (Number b)
  truths : (a b : Bool) → AreComparable (Truth a) (Truth b)
  nulls : AreComparable Null Null
  null_first : (r : Name) (n : ℕ) → AreComparable Null (Reference r n)
  null_second : (r : Name) (n : ℕ) → AreComparable (Reference r n) Null

equal-evaluates : (v w : Value Name) → AreComparable v w → Evaluates (Typed Boolean) (filled (values.binary Equal v w))
equal-evaluates v w (numbers a b) = tt
equal-evaluates v w (truths a b) = tt
equal-evaluates v w nulls = tt
equal-evaluates v w (null_first r n) = tt
equal-evaluates v w (null_second r n) = tt

differs-evaluates : (v w : Value Name) → AreComparable v w → Evaluates (Typed Boolean) (filled (values.binary Differs v w))
differs-evaluates v w (numbers a b) = tt
differs-evaluates v w (truths a b) = tt
differs-evaluates v w nulls = tt
differs-evaluates v w (null_first r n) = tt
differs-evaluates v w (null_second r n) = tt

-- two plain values of one type
plain-values : (s t : Sort) (v w : Value Name) → IsOfSort s v → IsOfSort t w → arent_comparable s t ≡ false → AreComparable v w
plain-values (Typed Long) (Typed Long) v w is js e =
    let x = plain-long (Typed Long) v is refl in
    let y = plain-long (Typed Long) w js refl in
    subst (λ z. AreComparable z w) (sym x.1) (subst (λ z. AreComparable (Number x.0) z) (sym y.1) (numbers x.0 y.0))
plain-values (Typed Boolean) (Typed Boolean) v w is js e =
    let x = plain-truth (Typed Boolean) v is refl in
    let y = plain-truth (Typed Boolean) w js refl in
    subst (λ z. AreComparable z w) (sym x.1) (subst (λ z. AreComparable (Truth x.0) z) (sym y.1) (truths x.0 y.0))
plain-values Unknown t v w is js e = absurd is
plain-values s Unknown v w is js e = absurd js
plain-values NullSort NullSort v w is js e = absurd (cc)
plain-values NullSort (Typed t) v w is js e = absurd (cc)
plain-values (Typed Long) NullSort v w is js e = absurd (cc)
plain-values (Typed Boolean) NullSort v w is js e = absurd (cc)
plain-values (Typed (Ref p s)) NullSort v w is js e = absurd (cc)
plain-values (Typed Long) (Typed Boolean) v w is js e = absurd (cc)
plain-values (Typed Long) (Typed (Ref p s)) v w is js e = absurd (cc)
plain-values (Typed Boolean) (Typed Long) v w is js e = absurd (cc)
plain-values (Typed Boolean) (Typed (Ref p s)) v w is js e = absurd (cc)
plain-values (Typed (Ref p s)) (Typed t) v w is js e = absurd (cc)

-- a value of a reference type beside null
null-values : (t : Option Ty) (v w : Value Name) → IsOfSort (sort_if t) v → IsOfSort NullSort w → may_be_reference t ≡ true → AreComparable v w × AreComparable w v
null-values None v w is js e = absurd is
null-values (Some Long) v w is js e = absurd (cc)
null-values (Some Boolean) v w is js e = absurd (cc)
null-values (Some (Ref p s)) Null Null is js e = (nulls, nulls)
null-values (Some (Ref p s)) (Reference r n) Null is js e = (null_second r n, null_first r n)
null-values (Some (Ref p s)) (Number n) w is js e = absurd is
null-values (Some (Ref p s)) (Truth b) w is js e = absurd is
null-values (Some (Ref p s)) v (Number n) is js e = absurd js
null-values (Some (Ref p s)) v (Truth b) is js e = absurd js
null-values (Some (Ref p s)) v (Reference r n) is js e = absurd js

null-tested : (c : Context) (a b : Term) (v w : Value Name) → IsOfSort (term_sort c a) v → IsOfSort (term_sort c b) w → is_null_test c a b ≡ true → AreComparable v w
null-tested c (Local x) NullLit v w is js e = (null-values (type_of c x) v w is js e).0
null-tested c NullLit (Local x) v w is js e = (null-values (type_of c x) w v js is e).1
null-tested c (Local x) (Local y) v w is js e = absurd (cc)
null-tested c (Local x) (LongLit n) v w is js e = absurd (cc)
null-tested c (Local x) (BoolLit b) v w is js e = absurd (cc)
null-tested c (Local x) (Unary op a) v w is js e = absurd (cc)
null-tested c (Local x) (Binary op a b) v w is js e = absurd (cc)
null-tested c NullLit NullLit v w is js e = absurd (cc)
null-tested c NullLit (LongLit n) v w is js e = absurd (cc)
null-tested c NullLit (BoolLit b) v w is js e = absurd (cc)
null-tested c NullLit (Unary op a) v w is js e = absurd (cc)
null-tested c NullLit (Binary op a b) v w is js e = absurd (cc)
null-tested c (LongLit n) b v w is js e = absurd (cc)
null-tested c (BoolLit a) b v w is js e = absurd (cc)
null-tested c (Unary op a) b v w is js e = absurd (cc)
null-tested c (Binary op a a') b v w is js e = absurd (cc)

comparable : (c : Context) (a b : Term) (v w : Value Name) → IsOfSort (term_sort c a) v → IsOfSort (term_sort c b) w → (not (is_null_test c a b) && arent_comparable (term_sort c a) (term_sort c b)) ≡ false → AreComparable v w
comparable c a b v w is js e = go (is_null_test c a b) refl e
  where
    go : (t : Bool) → is_null_test c a b ≡ t → (not t && arent_comparable (term_sort c a) (term_sort c b)) ≡ false → AreComparable v w
    go true q e = null-tested c a b v w is js q
    go false q e = plain-values (term_sort c a) (term_sort c b) v w is js e

-- an operator that compares any two values, and decides nothing by the first
module _ (op : BinaryOp) (gives : (v w : Value Name) → AreComparable v w → Evaluates (Typed Boolean) (filled (values.binary op v w))) (undecided : (v : Value Name) → values.decided op v ≡ Some false) where
  comparing-evaluates : (s t : Sort) (e f : Eval Held) → Evaluates s e → Evaluates t f → ((v w : Value Name) → IsOfSort s v → IsOfSort t w → AreComparable v w) → Evaluates (Typed Boolean) (left_then_right tagged op e f)
  comparing-evaluates s t (Gives None) f is js h = absurd is
  comparing-evaluates s t (Traps k) f is js h = tt
  comparing-evaluates s t Mistyped f is js h = absurd is
  comparing-evaluates s t (Gives (Some v)) f is js h = subst (λ d. Evaluates (Typed Boolean) (unless_decided tagged d (Gives (Some v)) (then_binary tagged op (Some v) f))) (sym (undecided v)) (go f js)
    where
      go : (f : Eval Held) → Evaluates t f → Evaluates (Typed Boolean) (then_binary tagged op (Some v) f)
      go (Gives None) js = absurd js
      go (Gives (Some w)) js = gives v w (h v w is js)
      go (Traps k) js = tt
      go Mistyped js = absurd js

-- ---------- expressions ----------
module _ (c : Context) (G : Vars) (vs : List Held) (typed : AreTyped c G vs) where
  pub variable-evaluates : (x : ℕ) → dead G x ≡ false → Evaluates (sort_if (type_of c x)) (look_up tagged vs x)
  variable-evaluates x e =
      let t = typed x (not-false (G x) e) in
      subst (λ z. Evaluates (sort_if z) (look_up tagged vs x)) (sym t.2) (subst (λ z. Evaluates (Typed t.0) (held tagged z)) (sym t.3) t.4)

  -- an operator on two numbers, and one on two truth values
  long-evaluates : (op : BinaryOp) (a b : Term) (e f : Eval Held) → ((x y : ℤ) → Evaluates (Typed (binary_type op)) (filled (values.on_numbers op x y))) → ((x : ℤ) → values.decided {R = Name} op (Number x) ≡ Some false)
      → Evaluates (term_sort c a) e → Evaluates (term_sort c b) f → arent_plain c Long a b ≡ false → Evaluates (Typed (binary_type op)) (left_then_right tagged op e f)
  long-evaluates op a b e f gives undecided is js h =
      let p = or_parts (isnt_plain (term_sort c a) Long) (isnt_plain (term_sort c b) Long) h in
      numbers-evaluate op gives undecided (term_sort c a) (term_sort c b) e f is js p.0 p.1

  both-plain : (a b : Term) → arent_plain c Boolean a b ≡ false → (isnt_plain (term_sort c a) Boolean ≡ false) × (isnt_plain (term_sort c b) Boolean ≡ false)
  both-plain a b h = or_parts (isnt_plain (term_sort c a) Boolean) (isnt_plain (term_sort c b) Boolean) h

  binary-evaluates : (op : BinaryOp) (a b : Term) (e f : Eval Held) → Evaluates (term_sort c a) e → Evaluates (term_sort c b) f → operands_misfit c op a b ≡ false → Evaluates (Typed (binary_type op)) (left_then_right tagged op e f)
  binary-evaluates Mul a b e f is js h = long-evaluates Mul a b e f (λ x y. tt) (λ x. refl) is js h
  binary-evaluates Plus a b e f is js h = long-evaluates Plus a b e f (λ x y. tt) (λ x. refl) is js h
  binary-evaluates Minus a b e f is js h = long-evaluates Minus a b e f (λ x y. tt) (λ x. refl) is js h
  binary-evaluates Less a b e f is js h = long-evaluates Less a b e f (λ x y. tt) (λ x. refl) is js h
  binary-evaluates AtMost a b e f is js h = long-evaluates AtMost a b e f (λ x y. tt) (λ x. refl) is js h
  binary-evaluates Greater a b e f is js h = long-evaluates Greater a b e f (λ x y. tt) (λ x. refl) is js h
  binary-evaluates AtLeast a b e f is js h = long-evaluates AtLeast a b e f (λ x y. tt) (λ x. refl) is js h
  binary-evaluates Div a b e f is js h = long-evaluates Div a b e f (λ x y. divided-evaluates x y (int_div x y)) (λ x. refl) is js h
  binary-evaluates Rem a b e f is js h = long-evaluates Rem a b e f (λ x y. divided-evaluates x y (int_rem x y)) (λ x. refl) is js h
  binary-evaluates Equal a b e f is js h = comparing-evaluates Equal equal-evaluates (λ v. refl) (term_sort c a) (term_sort c b) e f is js (λ v w x y. comparable c a b v w x y h)
  binary-evaluates Differs a b e f is js h = comparing-evaluates Differs differs-evaluates (λ v. refl) (term_sort c a) (term_sort c b) e f is js (λ v w x y. comparable c a b v w x y h)
  binary-evaluates And a b e f is js h = and-evaluates (term_sort c a) (term_sort c b) e f is js (both-plain a b h).0 (both-plain a b h).1
  binary-evaluates Or a b e f is js h = or-evaluates (term_sort c a) (term_sort c b) e f is js (both-plain a b h).0 (both-plain a b h).1

  pub term-evaluates : (e : Term) → any_in_term (dead G) e ≡ false → term_wrong c e ≡ false → Evaluates (term_sort c e) (eval tagged e vs)
  term-evaluates (LongLit n) live right = tt
  term-evaluates (BoolLit b) live right = tt
  term-evaluates NullLit live right = tt
  term-evaluates (Local x) live right = variable-evaluates x live
  term-evaluates (Unary op a) live right =
      let p = or_parts (isnt_plain (term_sort c a) (unary_type op)) (term_wrong c a) right in
      unary-evaluates op (term_sort c a) (eval tagged a vs) (term-evaluates a live p.1) p.0
  term-evaluates (Binary op a b) live right =
      let p = or_parts (operands_misfit c op a b) (term_wrong c a || term_wrong c b) right in
      let q = or_parts (term_wrong c a) (term_wrong c b) p.1 in
      let l = or_parts (any_in_term (dead G) a) (any_in_term (dead G) b) live in
      binary-evaluates op a b (eval tagged a vs) (eval tagged b vs) (term-evaluates a l.0 q.0) (term-evaluates b l.1 q.1) p.0
