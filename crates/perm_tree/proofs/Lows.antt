-- Lows of longer lists.
use Rattle.std.proofs.Common.{◌≡◌, ℕ, ◌+◌, List, [], ◌∷◌, ◌++◌, length, refl, sym, arith, length-append}
use Rattle.perm_tree.specs.declared.ast.Expr.{Expr}
use Rattle.perm_tree.specs.Lows.{low_in, lows_from, lows_of}

-- there is one low for each expression
pub length-lows_from : (lows : List ℕ) (es : List Expr) → length (lows_from lows es) ≡ length lows + length es
length-lows_from lows [] = omega arith
length-lows_from lows (e ∷ es) = omega (arith, length-lows_from (lows ++ low_in lows e ∷ []) es, length-append lows (low_in lows e ∷ []))

pub length-lows_of : (es : List Expr) → length (lows_of es) ≡ length es
length-lows_of es = omega (arith, length-lows_from [] es)

-- one expression more has its low behind those of the others
pub lows_from-append : (lows : List ℕ) (es : List Expr) (e : Expr) → lows_from lows (es ++ e ∷ []) ≡ lows_from lows es ++ low_in (lows_from lows es) e ∷ []
lows_from-append lows [] e = refl
lows_from-append lows (x ∷ xs) e = lows_from-append (lows ++ low_in lows x ∷ []) xs e

pub lows_of-push : (exprs exprs' : List Expr) (e : Expr) (lows lows' : List ℕ) (low : ℕ) → lows ≡ lows_of exprs → exprs' ≡ exprs ++ e ∷ [] → low ≡ low_in lows e → lows' ≡ lows ++ low ∷ [] → lows' ≡ lows_of exprs'
lows_of-push exprs exprs' e lows lows' low before grown is pushed = rw (pushed, is, before, grown) (sym (lows_from-append [] exprs e))
