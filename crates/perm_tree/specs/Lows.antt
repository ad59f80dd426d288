-- The lows of expressions: each expression is made of expressions from its low up to its own place.
use Rattle.std.specs.Prelude.{ℕ, List, [], ◌∷◌, ◌++◌, length, min, slice_index}
use Rattle.perm_tree.specs.declared.ast.Expr.{Expr}
use Rattle.perm_tree.specs.declared.ast.Expr.TheVariants.{Unary, Binary}

-- the low of an expression at a place, by those of the expressions before it
abbrev pub low_in : List ℕ → Expr → ℕ
low_in lows (Unary op a) = slice_index lows a
low_in lows (Binary op a b) = min (slice_index lows a) (slice_index lows b)
low_in lows _ = length lows

-- the lows of expressions behind those whose lows are given
abbrev pub lows_from : List ℕ → List Expr → List ℕ
lows_from lows [] = lows
lows_from lows (e ∷ es) = lows_from (lows ++ low_in lows e ∷ []) es

-- the low of each expression
abbrev pub lows_of : List Expr → List ℕ
lows_of exprs = lows_from [] exprs
