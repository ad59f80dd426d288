-- Which variables keep a value, or get one, where variables are assigned, cleared, handed on or begun.
use Rattle.std.proofs.Common.{◌≡◌, ℕ, zero, suc, ◌+◌, ◌<◌, Bool, true, false, Option, Some, None, List, [], ◌∷◌, ◌++◌, length, refl, sym, ap, subst, ◌∙◌, arith, inl, inr}
use Rattle.std.specs.Prelude.{◌⊎◌, ◌||◌, not, nat_eq, cond, slice_get, slice_set, replicate}
use Rattle.std.proofs.lemmas.Bool.{or_cases, or_left, or_right, and_parts}
use Rattle.perm_tree.specs.declared.ast.UnaryOp.{UnaryOp}
use Rattle.perm_tree.specs.declared.ast.BinaryOp.{BinaryOp}
use Rattle.perm_tree.specs.Code.{Term, LongLit, BoolLit, NullLit, Local, Unary, Binary, Argument, Expression, Consumed, Instruction, UnitCode}
use Rattle.perm_tree.specs.Mentions.{argument_consumes, arguments_consume, assigns}
use Rattle.perm_tree.specs.Vars.{Vars, none, just, below, those, plus, minus, meet, IsWithin}
use Rattle.perm_rules.specs.Liveness.{after}
use Rattle.perm_meaning.specs.Values as values
use Rattle.perm_meaning.specs.Values.{Value, Number, Truth, Null, Eval, Gives, Traps, Mistyped}
use Rattle.perm_meaning.specs.Names.{Name}
use Rattle.perm_meaning.specs.Expressions.{tagged, filled, held, then_unary, then_binary, unless_decided, left_then_right, assign, clear, clear_all, eval, value_of}
use Rattle.perm_meaning.specs.Custody.{from_either_at, from_either, only_at, only}
use Rattle.perm_meaning.specs.NamedHeap.{Held, Op, Own}
use Rattle.perm_meaning.specs.Effects.{Load, Take, Make}
use Rattle.perm_meaning.proofs.SameName.{together, eq-itself, eq-true}
use Rattle.perm_core.specs.Picture.{has_value, valued}
use Rattle.perm_core.proofs.Commute.TwoOperations.{get-beside}
use Rattle.perm_core.proofs.KeepsPicture.Order.ValuedLists.{has-of, valued-of}
use Rattle.perm_core.proofs.KeepsPicture.Turns.LeafTurns as turns
use Rattle.perm_core.proofs.KeepsPicture.Turns.LeafTurns.{Evaluates, no_more, plain, Gives_one, plain_one, consumes_one, Acts, loads, measures, reads, takes, stores, writes, prints}

-- ---------- one variable ----------
pub set-length : {A : Type 0} (vs : List A) (x : ℕ) (v : A) → length (slice_set vs x v) ≡ length vs
set-length [] x v = refl
set-length (w ∷ vs) zero v = refl
set-length (w ∷ vs) (suc x) v = ap suc (set-length vs x v)

set-there : {A : Type 0} (vs : List A) (x : ℕ) (v : A) → x < length vs → slice_get (slice_set vs x v) x ≡ Some v
set-there [] x v less = absurd (omega (arith, less))
set-there (w ∷ vs) zero v less = refl
set-there (w ∷ vs) (suc x) v less = set-there vs x v (omega (arith, less))

-- a variable that isn't x keeps its value
other-has : (vs : List Held) (x : ℕ) (v : Held) (y : ℕ) → nat_eq y x ≡ false → valued vs y ≡ true → valued (slice_set vs x v) y ≡ true
other-has vs x v y off e = ap has_value (get-beside vs x y v (λ same. clash (sym same))) ∙ e
  where
    clash : y ≡ x → ⊥
    clash same = let z : true ≡ false = sym (eq-itself x) ∙ ap (λ n. nat_eq n x) (sym same) ∙ off in let no : ⊥ = cc z in no

pub assign-has : (vs : List Held) (x : ℕ) (v : Held) (a : Value Name) → x < length vs → v ≡ Some a → IsWithin (plus (valued vs) (just x)) (valued (assign vs x v))
assign-has vs x v a less is y e = go (nat_eq y x) refl e
  where
    go : (b : Bool) → nat_eq y x ≡ b → plus (valued vs) (just x) y ≡ true → valued (assign vs x v) y ≡ true
    go true q e = subst (λ z. valued (assign vs x v) z ≡ true) (sym (eq-true y x q)) (valued-of (assign vs x v) x a (set-there vs x v less ∙ ap (λ z. Some z) is))
    go false q e = other-has vs x v y q (left (or_cases (valued vs y) (nat_eq y x) e))
      where
        left : (valued vs y ≡ true) ⊎ (nat_eq y x ≡ true) → valued vs y ≡ true
        left (inl p) = p
        left (inr p) = absurd (let z : true ≡ false = sym p ∙ q in let no : ⊥ = cc z in no)

unless-just : (y x : ℕ) → not (just x y) ≡ true → nat_eq y x ≡ false
unless-just y x e = go (nat_eq y x) e
  where
    go : (b : Bool) → not b ≡ true → b ≡ false
    go true e = absurd (let no : ⊥ = cc e in no)
    go false e = refl

pub clear-has : (vs : List Held) (x : ℕ) → IsWithin (minus (valued vs) (just x)) (valued (clear tagged vs x))
clear-has vs x y e = let p = and_parts (valued vs y) (not (just x y)) e in other-has vs x _ y (unless-just y x p.1) p.0

pub clear_all-has : (own : List ℕ) (vs : List Held) → IsWithin (minus (valued vs) (those own)) (valued (clear_all tagged vs own))
clear_all-has [] vs y e = (and_parts (valued vs y) (not (those [] y)) e).0
clear_all-has (x ∷ own) vs y e =
    let p = and_parts (valued vs y) (not (those (x ∷ own) y)) e in
    let q = split (nat_eq y x) (those own y) p.1 in
    clear_all-has own (clear tagged vs x) y (together (valued (clear tagged vs x) y) (not (those own y)) (clear-has vs x y (together (valued vs y) (not (nat_eq y x)) p.0 q.0)) q.1)
  where
    split : (a b : Bool) → not (a || b) ≡ true → (not a ≡ true) × (not b ≡ true)
    split true b e = absurd (let no : ⊥ = cc e in no)
    split false b e = (refl, e)

-- ---------- lists ----------
only-at : (i : ℕ) (G : Vars) (vs : List Held) (y : ℕ) (a : Value Name) → G (i + y) ≡ true → slice_get vs y ≡ Some (Some a) → slice_get (only_at tagged i G vs) y ≡ Some (Some a)
only-at i G [] y a g e = absurd (let no : ⊥ = cc e in no)
only-at i G (v ∷ vs) zero a g e = let same : i + 0 ≡ i = omega arith in ap (λ t. Some (cond t v None)) (ap G (sym same) ∙ g) ∙ e
only-at i G (v ∷ vs) (suc y) a g e = let same : i + suc y ≡ suc i + y = omega arith in only-at (suc i) G vs y a (ap G (sym same) ∙ g) e

pub only-has : (G : Vars) (vs : List Held) → IsWithin (meet G (valued vs)) (valued (only tagged G vs))
only-has G vs y e = go (and_parts (G y) (valued vs y) e)
  where
    go : (G y ≡ true) × (valued vs y ≡ true) → valued (only tagged G vs) y ≡ true
    go (g, h) = let v = has-of vs y h in let same : 0 + y ≡ y = omega arith in valued-of (only tagged G vs) y v.0 (only-at 0 G vs y v.0 (ap G same ∙ g) v.1)

either-at : (i : ℕ) (G : Vars) (vs ws : List Held) (y : ℕ) (a : Value Name) (b : Bool) → length vs ≡ length ws → G (i + y) ≡ b → slice_get (cond b vs ws) y ≡ Some (Some a) → slice_get (from_either_at i G vs ws) y ≡ Some (Some a)
either-at i G [] [] y a true same g e = absurd (let no : ⊥ = cc e in no)
either-at i G [] [] y a false same g e = absurd (let no : ⊥ = cc e in no)
either-at i G [] (w ∷ ws) y a b same g e = absurd (let no : 0 ≡ suc (length ws) = same in omega (arith, no))
either-at i G (v ∷ vs) [] y a b same g e = absurd (let no : suc (length vs) ≡ 0 = same in omega (arith, no))
either-at i G (v ∷ vs) (w ∷ ws) zero a true same g e = let z : i + 0 ≡ i = omega arith in ap (λ t. Some (cond t v w)) (ap G (sym z) ∙ g) ∙ e
either-at i G (v ∷ vs) (w ∷ ws) zero a false same g e = let z : i + 0 ≡ i = omega arith in ap (λ t. Some (cond t v w)) (ap G (sym z) ∙ g) ∙ e
either-at i G (v ∷ vs) (w ∷ ws) (suc y) a true same g e =
    let n : suc (length vs) ≡ suc (length ws) = same in let z : i + suc y ≡ suc i + y = omega arith in either-at (suc i) G vs ws y a true (omega (arith, n)) (ap G (sym z) ∙ g) e
either-at i G (v ∷ vs) (w ∷ ws) (suc y) a false same g e =
    let n : suc (length vs) ≡ suc (length ws) = same in let z : i + suc y ≡ suc i + y = omega arith in either-at (suc i) G vs ws y a false (omega (arith, n)) (ap G (sym z) ∙ g) e

pub either-first : (G : Vars) (vs ws : List Held) (y : ℕ) → length vs ≡ length ws → G y ≡ true → valued vs y ≡ true → valued (from_either G vs ws) y ≡ true
either-first G vs ws y same g h = let v = has-of vs y h in let z : 0 + y ≡ y = omega arith in valued-of (from_either G vs ws) y v.0 (either-at 0 G vs ws y v.0 true same (ap G z ∙ g) v.1)

pub either-second : (G : Vars) (vs ws : List Held) (y : ℕ) → length vs ≡ length ws → G y ≡ false → valued ws y ≡ true → valued (from_either G vs ws) y ≡ true
either-second G vs ws y same g h = let v = has-of ws y h in let z : 0 + y ≡ y = omega arith in valued-of (from_either G vs ws) y v.0 (either-at 0 G vs ws y v.0 false same (ap G z ∙ g) v.1)

-- ---------- expressions ----------
-- what gives anything gives a value
abbrev HasValue : Eval Held → Type 0
HasValue e = (v : Held) → e ≡ Gives v → (a : Value Name) × (v ≡ Some a)

filled-has : (e : Eval (Value Name)) → HasValue (filled e)
filled-has (Gives a) v q = let same : Some a ≡ v = cc q in (a, sym same)
filled-has (Traps k) v q = absurd (let no : ⊥ = cc q in no)
filled-has Mistyped v q = absurd (let no : ⊥ = cc q in no)

value-has : (a : Value Name) → HasValue (Gives (Some a))
value-has a v q = let same : Some a ≡ v = cc q in (a, sym same)

pub held-has : (o : Option Held) → HasValue (held tagged o)
held-has None v q = absurd (let no : ⊥ = cc q in no)
held-has (Some None) v q = absurd (let no : ⊥ = cc q in no)
held-has (Some (Some a)) v q = value-has a v q

unary-has : (op : UnaryOp) (e : Eval Held) → HasValue (then_unary tagged op e)
unary-has op (Gives None) v q = absurd (let no : ⊥ = cc q in no)
unary-has op (Gives (Some a)) v q = filled-has (values.unary op a) v q
unary-has op (Traps k) v q = absurd (let no : ⊥ = cc q in no)
unary-has op Mistyped v q = absurd (let no : ⊥ = cc q in no)

binary-has : (op : BinaryOp) (x : Held) (e : Eval Held) → HasValue (then_binary tagged op x e)
binary-has op None (Gives b) v q = absurd (let no : ⊥ = cc q in no)
binary-has op (Some a) (Gives None) v q = absurd (let no : ⊥ = cc q in no)
binary-has op (Some a) (Gives (Some b)) v q = filled-has (values.binary op a b) v q
binary-has op x (Traps k) v q = absurd (let no : ⊥ = cc q in no)
binary-has op x Mistyped v q = absurd (let no : ⊥ = cc q in no)

decided-has : (d : Option Bool) (l r : Eval Held) → HasValue l → HasValue r → HasValue (unless_decided tagged d l r)
decided-has None l r f g v q = absurd (let no : ⊥ = cc q in no)
decided-has (Some true) l r f g v q = f v q
decided-has (Some false) l r f g v q = g v q

both-has : (op : BinaryOp) (l r : Eval Held) → HasValue l → HasValue (left_then_right tagged op l r)
both-has op (Gives x) r f v q = decided-has (tagged.decided op x) (Gives x) (then_binary tagged op x r) f (binary-has op x r) v q
both-has op (Traps k) r f v q = absurd (let no : ⊥ = cc q in no)
both-has op Mistyped r f v q = absurd (let no : ⊥ = cc q in no)

pub eval-has : (e : Term) (vs : List Held) → HasValue (eval tagged e vs)
eval-has (LongLit n) vs v q = value-has (Number n) v q
eval-has (BoolLit b) vs v q = value-has (Truth b) v q
eval-has NullLit vs v q = value-has Null v q
eval-has (Local x) vs v q = held-has (slice_get vs x) v q
eval-has (Unary op a) vs v q = unary-has op (eval tagged a vs) v q
eval-has (Binary op a b) vs v q = both-has op (eval tagged a vs) (eval tagged b vs) (eval-has a vs) v q

pub argument-has : (a : Argument) (vs : List Held) → HasValue (value_of tagged a vs)
argument-has (Expression e) vs v q = eval-has e vs v q
argument-has (Consumed y) vs v q = held-has (slice_get vs y) v q

-- ---------- statements ----------
less-none : (G : Vars) → IsWithin (minus G none) G
less-none G y e = (and_parts (G y) true e).0

pub one-has : (vs ws : List Held) (a : Argument) (v : Held) → Gives_one vs a v ws → ((b : Value Name) × (v ≡ Some b)) × IsWithin (minus (valued vs) (argument_consumes a)) (valued ws)
one-has vs _ _ _ (plain_one e v q) = (eval-has e vs v q, less-none (valued vs))
one-has vs _ _ _ (consumes_one y v here q) = (held-has (slice_get vs y) v q, clear-has vs y)

pub one-length : (vs ws : List Held) (a : Argument) (v : Held) → Gives_one vs a v ws → length ws ≡ length vs
one-length vs _ _ _ (plain_one e v q) = refl
one-length vs _ _ _ (consumes_one y v here q) = set-length vs y _

-- all are values
abbrev pub AllValues : List Held → Type 0
AllValues [] = Unit {0}
AllValues (v ∷ vs) = ((a : Value Name) × (v ≡ Some a)) × AllValues vs

pub minus-both : (G C D : Vars) (y : ℕ) → minus G (plus C D) y ≡ true → (minus G C y ≡ true) × (not (D y) ≡ true)
minus-both G C D y e = let p = and_parts (G y) (not (C y || D y)) e in let q = split (C y) (D y) p.1 in (together (G y) (not (C y)) p.0 q.0, q.1)
  where
    split : (a b : Bool) → not (a || b) ≡ true → (not a ≡ true) × (not b ≡ true)
    split true b e = absurd (let no : ⊥ = cc e in no)
    split false b e = (refl, e)

pub evaluates-has : (args : List Argument) (vs found ws : List Held) → Evaluates args vs found ws → AllValues found × IsWithin (minus (valued vs) (arguments_consume args)) (valued ws)
evaluates-has _ _ _ _ (no_more vs) = (tt, less-none (valued vs))
evaluates-has _ _ _ _ (plain e v rest vs found ws q more) =
    let r = evaluates-has rest vs found ws more in
    ((eval-has e vs v q, r.0), λ y m. let p = minus-both (valued vs) none (arguments_consume rest) y m in r.1 y (together (valued vs y) (not (arguments_consume rest y)) (less-none (valued vs) y p.0) p.1))
evaluates-has _ _ _ _ (turns.consumes x v rest vs found ws here q more) =
    let r = evaluates-has rest (clear tagged vs x) found ws more in
    ((held-has (slice_get vs x) v q, r.0), λ y m. let p = minus-both (valued vs) (just x) (arguments_consume rest) y m in r.1 y (together (valued (clear tagged vs x) y) (not (arguments_consume rest y)) (clear-has vs x y p.0) p.1))

less-left : (G H : Vars) → IsWithin (plus (minus G none) H) (plus G H)
less-left G H y e = pick (or_cases (minus G none y) (H y) e)
  where
    pick : (minus G none y ≡ true) ⊎ (H y ≡ true) → plus G H y ≡ true
    pick (inl q) = or_left (G y) (H y) (less-none G y q)
    pick (inr q) = or_right (G y) (H y) q

right-none : (b : Bool) → (b || false) ≡ true → b ≡ true
right-none true e = refl
right-none false e = e

-- where the heap is asked for a value, a value is told
abbrev pub IsAnswer : Op → Held → Type 0
IsAnswer (Load r f) w = (a : Value Name) × (w ≡ Some a)
IsAnswer (Take r f) w = (a : Value Name) × (w ≡ Some a)
IsAnswer (Make by shape n) w = (a : Value Name) × (w ≡ Some a)
IsAnswer o w = Unit {0}

-- after a simple statement each live variable has a value, where what it assigns is there
pub acts-has : (u : UnitCode) (l : Own) (w : Held) (i : Instruction) (o : Op) (vs : List Held) → Acts u l w i o vs → IsAnswer o w → ((x : ℕ) → assigns i x ≡ true → x < length l.vars) → IsWithin (after i (valued l.vars)) (valued vs)
acts-has u l w _ _ _ (turns.declares x) answer there = clear-has l.vars x
acts-has u l w _ _ _ (turns.assigns x a v ws one) answer there =
    let has = one-has l.vars ws a v one in
    let less : x < length l.vars = there x (eq-itself x) in
    let same : length ws ≡ length l.vars = one-length l.vars ws a v one in
    λ y e. assign-has ws x v has.0.0 (omega (arith, less, same)) has.0.1 y (widen y (or_cases (minus (valued l.vars) (argument_consumes a) y) (just x y) e))
  where
    widen : (y : ℕ) → (minus (valued l.vars) (argument_consumes a) y ≡ true) ⊎ (just x y ≡ true) → plus (valued ws) (just x) y ≡ true
    widen y (inl e) = or_left (valued ws y) (just x y) ((one-has l.vars ws a v one).1 y e)
    widen y (inr e) = or_right (valued ws y) (just x y) e
acts-has u l w _ _ _ (loads x z f r n here) answer there = λ y e. assign-has l.vars x w answer.0 (there x (eq-itself x)) answer.1 y (less-left (valued l.vars) (just x) y e)
acts-has u l w _ _ _ (measures x z r n here) answer there = λ y e. assign-has l.vars x _ _ (there x (eq-itself x)) refl y (less-left (valued l.vars) (just x) y e)
acts-has u l w _ _ _ (reads x z i r n f here) answer there = λ y e. assign-has l.vars x w answer.0 (there x (eq-itself x)) answer.1 y (less-left (valued l.vars) (just x) y e)
acts-has u l w _ _ _ (takes x z f r n here) answer there = λ y e. assign-has l.vars x w answer.0 (there x (eq-itself x)) answer.1 y (less-left (valued l.vars) (just x) y e)
acts-has u l w _ _ _ (stores z f a v ws r n one here) answer there = λ y e. (one-has l.vars ws a v one).1 y (right-none (minus (valued l.vars) (argument_consumes a) y) e)
acts-has u l w _ _ _ (writes z i t v k r n f q p here) answer there = λ y e. less-none (valued l.vars) y (right-none (minus (valued l.vars) none y) e)
acts-has u l w _ _ _ (prints t) answer there = λ y e. less-none (valued l.vars) y (right-none (minus (valued l.vars) none y) e)

-- ---------- methods ----------
found-has : (found : List Held) (n y : ℕ) → AllValues found → below (length found) y ≡ true → valued (found ++ replicate n None) y ≡ true
found-has [] n y all e = absurd (let no : ⊥ = cc e in no)
found-has (v ∷ found) n zero all e = ap (λ (x : Held). has_value (Some x)) all.0.1
found-has (v ∷ found) n (suc y) all e = found-has found n y all.1 e

pub first-has : (this : Held) (a : Value Name) (found : List Held) (n : ℕ) → this ≡ Some a → AllValues found → IsWithin (below (suc (length found))) (valued (this ∷ (found ++ replicate n None)))
first-has this a found n is all zero e = ap (λ (x : Held). has_value (Some x)) is
first-has this a found n is all (suc y) e = found-has found n y all e
