-- The operands of an operation, and the variables of several arguments.
use Rattle.std.specs.Prelude.{ℕ, suc, nat_eq, List}
use Rattle.std.specs.List.{list_any}
use Rattle.perm_tree.specs.declared.bodies.Operand.{Operand}
use Rattle.perm_tree.specs.declared.bodies.Operand.TheVariants.{Null, Earlier}
use Rattle.perm_tree.specs.declared.bodies.Operation.{Operation}
use Rattle.perm_tree.specs.declared.bodies.Operation.TheVariants.{Unary, Binary}
use Rattle.perm_tree.specs.Code.{Argument}
use Rattle.perm_tree.specs.Mentions.{any_in_argument}
use Rattle.perm_tree.specs.Vars.{Vars}

-- the left operand, or the only one
abbrev pub left_of : Operation → Operand
left_of (Unary op a) = a
left_of (Binary op a b) = a

-- the right operand; that of a unary operator is as null
abbrev pub right_of : Operation → Operand
right_of (Unary op a) = Null
right_of (Binary op a b) = b

-- one more than the place of the operation whose value an operand is
abbrev pub rank : Operand → ℕ
rank (Earlier i) = suc i
rank a = 0

-- the variables that stand in some arguments
abbrev pub stand_in : List Argument → Vars
stand_in args x = list_any (any_in_argument (nat_eq x)) args
