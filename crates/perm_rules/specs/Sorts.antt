-- What is known of the value of an expression, and expressions whose operands don't fit.
use Rattle.std.specs.Prelude.{Bool, true, false, not, ◌&&◌, ◌||◌, Option, Some, None}
use Rattle.perm_tree.specs.declared.ast.Ty.{Ty}
use Rattle.perm_tree.specs.declared.ast.Ty.TheVariants.{Long, Bool as Boolean}
use Rattle.perm_tree.specs.declared.ast.UnaryOp.{UnaryOp}
use Rattle.perm_tree.specs.declared.ast.UnaryOp.TheVariants.{Minus as Negative, Not}
use Rattle.perm_tree.specs.declared.ast.BinaryOp.{BinaryOp}
use Rattle.perm_tree.specs.declared.ast.BinaryOp.TheVariants.{Mul, Div, Rem, Plus, Minus, Equal, Differs, And, Or}
use Rattle.perm_tree.specs.Code.{Term, LongLit, BoolLit, NullLit, Local, Unary, Binary, Argument, Expression, Consumed}
use Rattle.perm_perm.specs.Types.{same_kind}
use Rattle.perm_rules.specs.Parts.{Context, type_of, is_reference, isnt_reference, if_known}

-- nothing, where a variable isn't known; that it is null; or its type
pub data Sort : Type 0 where
  Unknown : Sort
  Null : Sort
  Typed : (t : Ty) → Sort

-- a variable's, by its type
abbrev pub sort_if : Option Ty → Sort
sort_if None = Unknown
sort_if (Some t) = Typed t

-- the type of an operator's value; a unary operator takes a value of the same type
abbrev pub unary_type : UnaryOp → Ty
unary_type Negative = Long
unary_type Not = Boolean

-- the same of a binary operator
abbrev pub binary_type : BinaryOp → Ty
binary_type Mul = Long
binary_type Div = Long
binary_type Rem = Long
binary_type Plus = Long
binary_type Minus = Long
binary_type _ = Boolean

-- what is known of an expression's value
abbrev pub term_sort : Context → Term → Sort
term_sort c (LongLit n) = Typed Long
term_sort c (BoolLit b) = Typed Boolean
term_sort c NullLit = Null
term_sort c (Local x) = sort_if (type_of c x)
term_sort c (Unary op a) = Typed (unary_type op)
term_sort c (Binary op a b) = Typed (binary_type op)

-- the same of an argument
abbrev pub argument_sort : Context → Argument → Sort
argument_sort c (Expression e) = term_sort c e
argument_sort c (Consumed y) = sort_if (type_of c y)

-- two types differ in more than permissions
abbrev pub differ : Ty → Ty → Bool
differ t u = not (same_kind t u)

-- the value is known not to be a number or a truth value of this type
abbrev pub isnt_plain : Sort → Ty → Bool
isnt_plain Unknown t = false
isnt_plain Null t = true
isnt_plain (Typed u) t = differ u t

-- the value is known not to come into a variable of this type, whatever the permissions
abbrev pub isnt_value_of : Sort → Ty → Bool
isnt_value_of Unknown t = false
isnt_value_of Null t = isnt_reference t
isnt_value_of (Typed u) t = differ u t

-- ---------- operands ----------
-- nothing is known that keeps the variable from being a reference
abbrev pub may_be_reference : Option Ty → Bool
may_be_reference None = true
may_be_reference (Some t) = is_reference t

-- one variable of a reference type beside null
abbrev pub is_null_test : Context → Term → Term → Bool
is_null_test c (Local x) NullLit = may_be_reference (type_of c x)
is_null_test c NullLit (Local x) = may_be_reference (type_of c x)
is_null_test c _ _ = false

-- two values are known not to be both `long` or both `bool`
abbrev pub arent_comparable : Sort → Sort → Bool
arent_comparable Unknown t = false
arent_comparable s Unknown = false
arent_comparable (Typed Long) (Typed Long) = false
arent_comparable (Typed Boolean) (Typed Boolean) = false
arent_comparable _ _ = true

-- both operands are to be of one type
abbrev pub arent_plain : Context → Ty → Term → Term → Bool
arent_plain c t a b = isnt_plain (term_sort c a) t || isnt_plain (term_sort c b) t

-- the operands don't fit their operator
abbrev pub operands_misfit : Context → BinaryOp → Term → Term → Bool
operands_misfit c And a b = arent_plain c Boolean a b
operands_misfit c Or a b = arent_plain c Boolean a b
operands_misfit c Equal a b = not (is_null_test c a b) && arent_comparable (term_sort c a) (term_sort c b)
operands_misfit c Differs a b = not (is_null_test c a b) && arent_comparable (term_sort c a) (term_sort c b)
operands_misfit c _ a b = arent_plain c Long a b

-- an operator anywhere in the expression has operands that don't fit it
abbrev pub term_wrong : Context → Term → Bool
term_wrong c (Unary op a) = isnt_plain (term_sort c a) (unary_type op) || term_wrong c a
term_wrong c (Binary op a b) = operands_misfit c op a b || (term_wrong c a || term_wrong c b)
term_wrong c _ = false

-- the same of an argument; only references are consumed
abbrev pub argument_wrong : Context → Argument → Bool
argument_wrong c (Expression e) = term_wrong c e
argument_wrong c (Consumed y) = if_known (type_of c y) isnt_reference

-- the expression is known to be no `long`
abbrev pub isnt_long : Context → Term → Bool
isnt_long c e = term_wrong c e || isnt_plain (term_sort c e) Long

-- it is known to be no `bool`
abbrev pub isnt_bool : Context → Term → Bool
isnt_bool c e = term_wrong c e || isnt_plain (term_sort c e) Boolean
