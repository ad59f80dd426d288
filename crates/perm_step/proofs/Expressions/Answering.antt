-- What follows for an expression from the values of its operands.
use Rattle.std.proofs.Common.{◌≡◌, ℕ, true, false, Some, None, Option, Bool, refl, sym, ◌∙◌, ap}
use Rattle.perm_tree.specs.declared.ast.UnaryOp.{UnaryOp}
use Rattle.perm_tree.specs.declared.ast.BinaryOp.{BinaryOp}
use Rattle.perm_tree.specs.declared.errors.TrapKind.{TrapKind}
use Rattle.perm_meaning.specs.Expressions.{left_then_right, then_binary, then_unary, unless_decided}
use Rattle.perm_meaning.specs.Values.{Eval, Gives, Traps, Mistyped}
use Rattle.perm_meaning.specs.Words.{words}
use Rattle.perm_step.specs.declared.values.Value.{Value}
use Rattle.perm_step.specs.declared.values.Value.TheVariants.{Word, Trap}
use Rattle.perm_step.specs.Evaluation.{as_eval, IsAnswer}

-- the value of what an expression gives
pub exact : (e : Eval ℕ) (v : Value) → as_eval v ≡ e → IsAnswer e v
exact (Gives w) v same = same
exact (Traps k) v same = same
exact Mistyped v same = tt

-- the right operand is mistyped: the left one decides, or the whole is mistyped
without_right : (d : Option Bool) (a : ℕ) (right : Eval ℕ) (v : Value) → as_eval v ≡ unless_decided words d (Gives a) right → IsAnswer (unless_decided words d (Gives a) Mistyped) v
without_right None a right v same = tt
without_right (Some true) a right v same = same
without_right (Some false) a right v same = tt

pub both : (op : BinaryOp) (e f : Eval ℕ) (left right v : Value) → IsAnswer e left → IsAnswer f right → as_eval v ≡ left_then_right words op (as_eval left) (as_eval right) → IsAnswer (left_then_right words op e f) v
both op Mistyped f left right v l r same = tt
both op (Traps k) f left right v l r same = exact (Traps k) v (same ∙ ap (λ x. left_then_right words op x (as_eval right)) l)
both op (Gives a) Mistyped left right v l r same =
    without_right (words.decided op a) a (then_binary words op a (as_eval right)) v (same ∙ ap (λ x. left_then_right words op x (as_eval right)) l)
both op (Gives a) (Gives b) left right v l r same =
    exact (left_then_right words op (Gives a) (Gives b)) v (same ∙ ap (λ x. left_then_right words op x (as_eval right)) l ∙ ap (left_then_right words op (Gives a)) r)
both op (Gives a) (Traps k) left right v l r same =
    exact (left_then_right words op (Gives a) (Traps k)) v (same ∙ ap (λ x. left_then_right words op x (as_eval right)) l ∙ ap (left_then_right words op (Gives a)) r)

pub one : (op : UnaryOp) (e : Eval ℕ) (value v : Value) → IsAnswer e value → as_eval v ≡ then_unary words op (as_eval value) → IsAnswer (then_unary words op e) v
one op Mistyped value v is same = tt
one op (Gives a) value v is same = exact (then_unary words op (Gives a)) v (same ∙ ap (then_unary words op) is)
one op (Traps k) value v is same = exact (Traps k) v (same ∙ ap (then_unary words op) is)

-- ---------- operands that come late ----------
-- a left operand that traps
pub left_traps : (op : BinaryOp) (e f : Eval ℕ) (k : TrapKind) → IsAnswer e (Trap k) → IsAnswer (left_then_right words op e f) (Trap k)
left_traps op Mistyped f k l = tt
left_traps op (Traps j) f k l = l
left_traps op (Gives a) f k l = absurd (let no : ⊥ = cc l in no)

-- each expression has an answer
answer_of : (e : Eval ℕ) → (v : Value) × IsAnswer e v
answer_of (Gives w) = (Word w, refl)
answer_of (Traps k) = (Trap k, refl)
answer_of Mistyped = (Word 0, tt)

-- a left operand that decides
pub left_decides : (op : BinaryOp) (e f : Eval ℕ) (a : ℕ) → IsAnswer e (Word a) → words.decided op a ≡ Some true → IsAnswer (left_then_right words op e f) (Word a)
left_decides op e f a l is =
    let right = answer_of f in
    both op e f (Word a) right.0 (Word a) l right.1 (sym (ap (λ d. unless_decided words d (Gives a) (then_binary words op a (as_eval right.0))) is))

-- a right operand that counts
pub right_counts : (op : BinaryOp) (e f : Eval ℕ) (a : ℕ) (right v : Value) → IsAnswer e (Word a) → IsAnswer f right → words.decided op a ≡ Some false → as_eval v ≡ then_binary words op a (as_eval right) → IsAnswer (left_then_right words op e f) v
right_counts op e f a right v l r is same = both op e f (Word a) right v l r (same ∙ sym (ap (λ d. unless_decided words d (Gives a) (then_binary words op a (as_eval right))) is))
