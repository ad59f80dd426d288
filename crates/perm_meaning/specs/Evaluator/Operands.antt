-- What is found of the operands of an expression.
use Rattle.std.specs.Prelude.{◌≡◌, ℕ, ◌-◌, ◌≤◌, List, get_or}
use Rattle.perm_tree.specs.declared.ast.Expr.{Expr}
use Rattle.perm_tree.specs.declared.ast.Expr.TheVariants.{Unary, Binary}
use Rattle.perm_tree.specs.Code.{Term, NullLit}
use Rattle.perm_meaning.specs.declared.eval.values.Given.{Given}
use Rattle.perm_meaning.specs.declared.eval.values.Given.TheVariants.{Nothing}
use Rattle.perm_meaning.specs.Expressions.{eval, tagged}
use Rattle.perm_meaning.specs.NamedHeap.{Held}
use Rattle.perm_meaning.specs.Evaluator.NumberedValues.{given_by, Names}

module _ (vs : List Held) (names : Names) (terms : List Term) (low : ℕ) (found : List Given) where
  -- what the expression at a place gives is found, where that of the low is the first
  abbrev pub IsFound : ℕ → Type 0
  IsFound a = given_by names (get_or found (a - low) Nothing) ≡ eval tagged (get_or terms a NullLit) vs

  -- so is what the operands of an expression give
  abbrev pub OperandsAre : Expr → Type 0
  OperandsAre (Unary op a) = (low ≤ a) × IsFound a
  OperandsAre (Binary op a b) = ((low ≤ a) × IsFound a) × ((low ≤ b) × IsFound b)
  OperandsAre _ = Unit {0}
