-- How deep operands nest where a chain of left operands counts for nothing.
use Rattle.std.specs.Prelude.{ℕ, suc, ◌≤◌, max, All, List, get_or}
use Rattle.perm_tree.specs.declared.ast.Expr.{Expr}
use Rattle.perm_tree.specs.declared.ast.Expr.TheVariants.{Unary, Binary}
use Rattle.perm_tree.specs.Entries.{entries_of}

-- how deep right and unary operands nest in an expression, by the depths of those before it; a left operand adds nothing
abbrev pub operand_depth : List ℕ → Expr → ℕ
operand_depth depths (Unary op a) = suc (get_or depths a 0)
operand_depth depths (Binary op a b) = max (get_or depths a 0) (suc (get_or depths b 0))
operand_depth depths _ = 0

-- the depth of each expression
abbrev pub operand_depths : List Expr → List ℕ
operand_depths exprs = entries_of operand_depth exprs

-- how deep right and unary operands nest at most: a method leaves 98 of the 100 brackets and unary operators that may be open, and before the first of them and behind each the six levels of binary operators nest to the right
abbrev pub deepest_operand : ℕ
deepest_operand = 594

-- no expression is deeper than that
abbrev pub HasShallowOperands : List Expr → Type 0
HasShallowOperands exprs = All (λ n. n ≤ deepest_operand) (operand_depths exprs)
