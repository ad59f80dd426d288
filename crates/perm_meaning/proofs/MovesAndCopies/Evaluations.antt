-- An expression gives with fewer variables what it gives with all.
use Rattle.std.proofs.Common.{◌≡◌, ℕ, true, Option, Some, None, refl, List, sym, ap, Bool, false, subst}
use Rattle.std.specs.Prelude.{slice_get}
use Rattle.perm_tree.specs.Code.{LongLit, BoolLit, NullLit, Local, Binary, Expression, Term, Unary, Argument, Consumed}
use Rattle.perm_tree.specs.declared.ast.UnaryOp.{UnaryOp}
use Rattle.perm_tree.specs.declared.ast.BinaryOp.{BinaryOp}
use Rattle.perm_meaning.specs.Expressions.{tagged, held, look_up, then_unary, then_binary, unless_decided, left_then_right, eval, value_of}
use Rattle.perm_meaning.specs.NamedHeap.{Held}
use Rattle.perm_meaning.specs.Relate.{OptionR}
use Rattle.perm_meaning.specs.Values.{Eval, Gives, Traps, Mistyped}
use Rattle.perm_meaning.specs.HoldsFewer.{IsPart, AreParts}
use Rattle.perm_meaning.proofs.OnWords.Related.{vars-at}

-- ---------- expressions ----------
-- what is given is the same; of what is mistyped nothing is said
abbrev pub EvalHoldsFewer : Eval Held → Eval Held → Type 0
EvalHoldsFewer (Gives v) f = f ≡ Gives v
EvalHoldsFewer (Traps t) f = f ≡ Traps t
EvalHoldsFewer Mistyped f = Unit {0}

eval-same : (e : Eval Held) → EvalHoldsFewer e e
eval-same (Gives v) = refl
eval-same (Traps t) = refl
eval-same Mistyped = tt

held-fewer : (v w : Option Held) → OptionR IsPart v w → EvalHoldsFewer (held tagged v) (held tagged w)
held-fewer None w h = tt
held-fewer (Some v) None h = absurd h
held-fewer (Some None) (Some w) h = tt
held-fewer (Some (Some v)) (Some w) h = ap (λ z. held tagged (Some z)) h

pub look-fewer : (vs ws : List Held) (x : ℕ) → AreParts vs ws → EvalHoldsFewer (look_up tagged vs x) (look_up tagged ws x)
look-fewer vs ws x h = held-fewer (slice_get vs x) (slice_get ws x) (vars-at IsPart vs ws x h)

-- a variable that is read has its value
pub read-variable : (v : Option Held) (z : Held) → held tagged v ≡ Gives z → v ≡ Some z
read-variable None z e = absurd (cc)
read-variable (Some None) z e = absurd (cc)
read-variable (Some (Some v)) z e = ap (λ i. Some i) (gives-same e)
  where
    gives-same : {a b : Held} → Gives a ≡ Gives b → a ≡ b
    gives-same {a = a} e = ap (λ o. take o a) e
      where
        take : Eval Held → Held → Held
        take (Gives b) a = b
        take (Traps t) a = a
        take Mistyped a = a

unary-fewer : (op : UnaryOp) (e f : Eval Held) → EvalHoldsFewer e f → EvalHoldsFewer (then_unary tagged op e) (then_unary tagged op f)
unary-fewer op (Gives v) f h = subst (λ z. EvalHoldsFewer (tagged.unary op v) (then_unary tagged op z)) (sym h) (eval-same (tagged.unary op v))
unary-fewer op (Traps t) f h = ap (λ z. then_unary tagged op z) h
unary-fewer op Mistyped f h = tt

second-fewer : (op : BinaryOp) (v : Held) (e f : Eval Held) → EvalHoldsFewer e f → EvalHoldsFewer (then_binary tagged op v e) (then_binary tagged op v f)
second-fewer op v (Gives w) f h = subst (λ z. EvalHoldsFewer (tagged.binary op v w) (then_binary tagged op v z)) (sym h) (eval-same (tagged.binary op v w))
second-fewer op v (Traps t) f h = ap (λ z. then_binary tagged op v z) h
second-fewer op v Mistyped f h = tt

binary-fewer : (op : BinaryOp) (e f e' f' : Eval Held) → EvalHoldsFewer e f → EvalHoldsFewer e' f' → EvalHoldsFewer (left_then_right tagged op e e') (left_then_right tagged op f f')
binary-fewer op (Gives v) f e' f' h k = subst (λ z. EvalHoldsFewer (left_then_right tagged op (Gives v) e') (left_then_right tagged op z f')) (sym h) (which (tagged.decided op v))
  where
    which : (t : Option Bool) → EvalHoldsFewer (unless_decided tagged t (Gives v) (then_binary tagged op v e')) (unless_decided tagged t (Gives v) (then_binary tagged op v f'))
    which None = tt
    which (Some true) = refl
    which (Some false) = second-fewer op v e' f' k
binary-fewer op (Traps t) f e' f' h k = ap (λ z. left_then_right tagged op z f') h
binary-fewer op Mistyped f e' f' h k = tt

pub eval-fewer : (e : Term) (vs ws : List Held) → AreParts vs ws → EvalHoldsFewer (eval tagged e vs) (eval tagged e ws)
eval-fewer (LongLit n) vs ws h = refl
eval-fewer (BoolLit b) vs ws h = refl
eval-fewer NullLit vs ws h = refl
eval-fewer (Local x) vs ws h = look-fewer vs ws x h
eval-fewer (Unary op a) vs ws h = unary-fewer op (eval tagged a vs) (eval tagged a ws) (eval-fewer a vs ws h)
eval-fewer (Binary op a b) vs ws h = binary-fewer op (eval tagged a vs) (eval tagged a ws) (eval tagged b vs) (eval tagged b ws) (eval-fewer a vs ws h) (eval-fewer b vs ws h)

pub value-of-fewer : (a : Argument) (vs ws : List Held) → AreParts vs ws → EvalHoldsFewer (value_of tagged a vs) (value_of tagged a ws)
value-of-fewer (Expression e) vs ws h = eval-fewer e vs ws h
value-of-fewer (Consumed y) vs ws h = look-fewer vs ws y h
