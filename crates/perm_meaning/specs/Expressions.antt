-- How variables are read, assigned and cleared, and what expressions give, over anything V that variables may hold.
use Rattle.std.specs.Prelude.{ℕ, Bool, true, false, ℤ, List, [], ◌∷◌, slice_get, slice_set, Option, Some, None, option_and_then}
use Rattle.perm_tree.specs.declared.ast.UnaryOp.{UnaryOp}
use Rattle.perm_tree.specs.declared.ast.BinaryOp.{BinaryOp}
use Rattle.perm_tree.specs.Code.{Argument, Expression, Consumed, Term, LongLit, BoolLit, NullLit, Local, Unary, Binary}
use Rattle.perm_meaning.specs.Values as values
use Rattle.perm_meaning.specs.Values.{Value, Number, Truth, Null, Reference, Slot, Eval, Gives, Traps, Mistyped, Referred, ToNull, ToObject, NoReference}

-- what a run needs to know of what variables hold: V is what they hold, and R what names an object
pub record Reading (V R : Type 0) : Type 0 where
  -- what a variable holds before its first assignment, and what is left of one that loses its value
  pub unset : V
  pub cleared : V → V
  -- the value that a variable has
  pub value : V → Eval V
  pub number : ℤ → V
  pub truth : Bool → V
  pub null : V
  pub unary : UnaryOp → V → Eval V
  pub binary : BinaryOp → V → V → Eval V
  pub decided : BinaryOp → V → Option Bool
  pub as_number : V → Option ℤ
  pub as_truth : V → Option Bool
  pub as_reference : V → Referred R

-- ---------- values that know their kind ----------
-- a value as what a variable holds
abbrev pub filled : {R : Type 0} → Eval (Value R) → Eval (Slot R)
filled (Gives v) = Gives (Some v)
filled (Traps k) = Traps k
filled Mistyped = Mistyped

-- the value that a variable has
abbrev pub slot_value : {R : Type 0} → Slot R → Eval (Slot R)
slot_value None = Mistyped
slot_value (Some v) = Gives (Some v)

-- an operator on what a variable holds
abbrev pub slot_unary : {R : Type 0} → UnaryOp → Slot R → Eval (Slot R)
slot_unary op (Some a) = filled (values.unary op a)
slot_unary op None = Mistyped

-- an operator on what two variables hold
abbrev pub slot_binary : {R : Type 0} → BinaryOp → Slot R → Slot R → Eval (Slot R)
slot_binary op (Some a) (Some b) = filled (values.binary op a b)
slot_binary op _ _ = Mistyped

-- what a variable refers to
abbrev pub slot_reference : {R : Type 0} → Slot R → Referred R
slot_reference None = NoReference
slot_reference (Some v) = values.as_reference v

-- variables that hold values which know their kind
abbrev pub tagged : {R : Type 0} → Reading (Slot R) R
tagged = record {
  unset = None;
  cleared = λ v. None;
  value = slot_value;
  number = λ n. Some (Number n);
  truth = λ b. Some (Truth b);
  null = Some Null;
  unary = slot_unary;
  binary = slot_binary;
  decided = λ op v. option_and_then (values.decided op) v;
  as_number = λ v. option_and_then values.as_number v;
  as_truth = λ v. option_and_then values.as_truth v;
  as_reference = slot_reference;
}

-- ---------- variables ----------
-- a variable takes a value
abbrev pub assign : {V : Type 0} → List V → ℕ → V → List V
assign vs x v = slice_set vs x v

-- a variable takes a value, if one is named
abbrev pub assign_into : {V : Type 0} → List V → Option ℕ → V → List V
assign_into vs None v = vs
assign_into vs (Some x) v = assign vs x v

module _ {V R : Type 0} (k : Reading V R) where
  -- the value of a variable that is there
  abbrev pub held : Option V → Eval V
  held None = Mistyped
  held (Some v) = k.value v

  -- the value of a variable
  abbrev pub look_up : List V → ℕ → Eval V
  look_up vs x = held (slice_get vs x)

  -- what is left of a variable that loses its value
  abbrev pub cleared_slot : Option V → V
  cleared_slot None = k.unset
  cleared_slot (Some v) = k.cleared v

  -- a variable loses its value
  abbrev pub clear : List V → ℕ → List V
  clear vs x = slice_set vs x (cleared_slot (slice_get vs x))

  -- all of these variables lose their values
  abbrev pub clear_all : List V → List ℕ → List V
  clear_all vs [] = vs
  clear_all vs (x ∷ xs) = clear_all (clear vs x) xs

  -- ---------- expressions ----------
  -- an operator on what its operand gives
  abbrev pub then_unary : UnaryOp → Eval V → Eval V
  then_unary op (Gives a) = k.unary op a
  then_unary op (Traps t) = Traps t
  then_unary op Mistyped = Mistyped

  -- an operator on its left value and what its right operand gives
  abbrev pub then_binary : BinaryOp → V → Eval V → Eval V
  then_binary op a (Gives b) = k.binary op a b
  then_binary op a (Traps t) = Traps t
  then_binary op a Mistyped = Mistyped

  -- the right side counts only where the left doesn't decide
  abbrev pub unless_decided : Option Bool → Eval V → Eval V → Eval V
  unless_decided None left right = Mistyped
  unless_decided (Some true) left right = left
  unless_decided (Some false) left right = right

  -- the left side comes first; the right one counts only where the left doesn't decide
  abbrev pub left_then_right : BinaryOp → Eval V → Eval V → Eval V
  left_then_right op (Gives a) b = unless_decided (k.decided op a) (Gives a) (then_binary op a b)
  left_then_right op (Traps t) b = Traps t
  left_then_right op Mistyped b = Mistyped

  -- what an expression gives
  abbrev pub eval : Term → List V → Eval V
  eval (LongLit n) vs = Gives (k.number n)
  eval (BoolLit b) vs = Gives (k.truth b)
  eval NullLit vs = Gives k.null
  eval (Local x) vs = look_up vs x
  eval (Unary op a) vs = then_unary op (eval a vs)
  eval (Binary op a b) vs = left_then_right op (eval a vs) (eval b vs)

  -- the value of an argument that nothing comes after
  abbrev pub value_of : Argument → List V → Eval V
  value_of (Expression e) vs = eval e vs
  value_of (Consumed y) vs = look_up vs y
