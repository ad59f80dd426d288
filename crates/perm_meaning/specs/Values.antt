-- What variables and fields hold, over any kind R of reference, and what operators make of it.
use Rattle.std.specs.Prelude.{ℕ, ◌-◌, ◌^◌, Bool, true, false, not, ◌&&◌, nat_eq, ℤ, pos, negsuc, int_lt, int_le, int_div, int_rem, Option, Some, None, cond}
use Rattle.std.specs.Int.{int_wrapping_add, int_wrapping_sub, int_wrapping_mul}
use mir.Syntax.{w64}
use Rattle.perm_tree.specs.declared.ast.UnaryOp.{UnaryOp}
use Rattle.perm_tree.specs.declared.ast.UnaryOp.TheVariants.{Minus as Negative, Not}
use Rattle.perm_tree.specs.declared.ast.BinaryOp.{BinaryOp}
use Rattle.perm_tree.specs.declared.ast.BinaryOp.TheVariants.{Mul, Div, Rem, Plus, Minus, Less, AtMost, Greater, AtLeast, Equal, Differs, And, Or}
use Rattle.perm_tree.specs.declared.errors.TrapKind.{TrapKind}
use Rattle.perm_tree.specs.declared.errors.TrapKind.TheVariants.{DivideByZero, Overflow}

-- a number of 64 bits, a truth value, null, or a reference: to what, and the length of an array, which is 0 for an object of a class
pub data Value (R : Type 0) : Type 0 where
  Number : (n : ℤ) → Value R
  Truth : (b : Bool) → Value R
  Null : Value R
  Reference : (r : R) (len : ℕ) → Value R

-- what a variable holds: a value, or none before its first assignment, after its declaration and after its consume
abbrev pub Slot : Type 0 → Type 0
Slot R = Option (Value R)

-- what an expression gives: a value, a trap, or nothing where an operand isn't of the kind that is needed
pub data Eval (V : Type 0) : Type 0 where
  Gives : (v : V) → Eval V
  Traps : (k : TrapKind) → Eval V
  Mistyped : Eval V

-- what a value refers to: nothing at null, an object and its length, or it is no reference
pub data Referred (R : Type 0) : Type 0 where
  ToNull : Referred R
  ToObject : (r : R) (len : ℕ) → Referred R
  NoReference : Referred R

-- ---------- numbers ----------
-- the least number of 64 bits
abbrev pub least : ℤ
least = negsuc (2 ^ 63 - 1)

-- two numbers are one
abbrev pub int_eq : ℤ → ℤ → Bool
int_eq (pos a) (pos b) = nat_eq a b
int_eq (negsuc a) (negsuc b) = nat_eq a b
int_eq _ _ = false

-- the one division that has no result of 64 bits
abbrev pub overflows : ℤ → ℤ → Bool
overflows a b = int_eq a least && int_eq b (negsuc 0)

-- a quotient or a remainder q of a and b, where there is one
abbrev pub divided : {V : Type 0} → ℤ → ℤ → V → Eval V
divided a b q = cond (int_eq b (pos 0)) (Traps DivideByZero) (cond (overflows a b) (Traps Overflow) (Gives q))

-- the wrapped negative
abbrev pub negative : ℤ → ℤ
negative a = int_wrapping_sub w64 (pos 0) a

-- two truth values are one
abbrev pub bool_eq : Bool → Bool → Bool
bool_eq true b = b
bool_eq false b = not b

-- ---------- operators on values ----------
module _ {R : Type 0} where
  -- operators on two numbers
  abbrev pub on_numbers : BinaryOp → ℤ → ℤ → Eval (Value R)
  on_numbers Mul a b = Gives (Number (int_wrapping_mul w64 a b))
  on_numbers Div a b = divided a b (Number (int_div a b))
  on_numbers Rem a b = divided a b (Number (int_rem a b))
  on_numbers Plus a b = Gives (Number (int_wrapping_add w64 a b))
  on_numbers Minus a b = Gives (Number (int_wrapping_sub w64 a b))
  on_numbers Less a b = Gives (Truth (int_lt a b))
  on_numbers AtMost a b = Gives (Truth (int_le a b))
  on_numbers Greater a b = Gives (Truth (int_lt b a))
  on_numbers AtLeast a b = Gives (Truth (int_le b a))
  on_numbers Equal a b = Gives (Truth (int_eq a b))
  on_numbers Differs a b = Gives (Truth (not (int_eq a b)))
  on_numbers _ a b = Mistyped

  -- operators on two truth values; `&&` and `||` come here only where the left side doesn't decide
  abbrev pub on_truths : BinaryOp → Bool → Bool → Eval (Value R)
  on_truths Equal a b = Gives (Truth (bool_eq a b))
  on_truths Differs a b = Gives (Truth (not (bool_eq a b)))
  on_truths And a b = Gives (Truth b)
  on_truths Or a b = Gives (Truth b)
  on_truths _ a b = Mistyped

  -- a test against null
  abbrev pub on_null_test : BinaryOp → Bool → Eval (Value R)
  on_null_test Equal is_null = Gives (Truth is_null)
  on_null_test Differs is_null = Gives (Truth (not is_null))
  on_null_test _ is_null = Mistyped

  -- a binary operator on two values
  abbrev pub binary : BinaryOp → Value R → Value R → Eval (Value R)
  binary op (Number a) (Number b) = on_numbers op a b
  binary op (Truth a) (Truth b) = on_truths op a b
  binary op Null Null = on_null_test op true
  binary op (Reference r n) Null = on_null_test op false
  binary op Null (Reference r n) = on_null_test op false
  binary op _ _ = Mistyped

  -- a unary operator on a value
  abbrev pub unary : UnaryOp → Value R → Eval (Value R)
  unary Negative (Number a) = Gives (Number (negative a))
  unary Not (Truth b) = Gives (Truth (not b))
  unary _ _ = Mistyped

  -- whether the left side decides, so that the right one isn't evaluated; nothing where `&&` or `||` has no truth value on the left
  abbrev pub decided : BinaryOp → Value R → Option Bool
  decided And (Truth b) = Some (not b)
  decided And _ = None
  decided Or (Truth b) = Some b
  decided Or _ = None
  decided _ _ = Some false

  -- the number that a value is, if it is one
  abbrev pub as_number : Value R → Option ℤ
  as_number (Number n) = Some n
  as_number _ = None

  -- the truth value that a value is, if it is one
  abbrev pub as_truth : Value R → Option Bool
  as_truth (Truth b) = Some b
  as_truth _ = None

  -- what a value refers to
  abbrev pub as_reference : Value R → Referred R
  as_reference (Reference r n) = ToObject r n
  as_reference Null = ToNull
  as_reference _ = NoReference
