-- The operands that stand for the expressions from a low place on, and the operations of which they are values.
use Rattle.std.specs.Prelude.{◌≡◌, ℕ, ◌+◌, ◌-◌, ◌<◌, ◌≤◌, List, [], ◌∷◌, length, get_or, slice_index}
use Rattle.perm_tree.specs.declared.ast.Expr.{Expr}
use Rattle.perm_tree.specs.declared.ast.Expr.TheVariants as exprs
use Rattle.perm_tree.specs.declared.bodies.Operand.{Operand}
use Rattle.perm_tree.specs.declared.bodies.Operand.TheVariants as operands
use Rattle.perm_tree.specs.declared.bodies.Operation.{Operation}
use Rattle.perm_tree.specs.declared.bodies.Operation.TheVariants as operations
use Rattle.perm_tree.specs.declared.unit.VarInfo.{VarInfo}
use Rattle.perm_tree.specs.BodyTerms.{operand_term, operation_term, operation_terms, IsOperandBelow, IsOperationBelow, AreOrdered}
use Rattle.perm_tree.specs.Code.{Term}
use Rattle.perm_tree.specs.CodeNames.{term_at}
use Rattle.perm_tree.specs.Lookup.{var_place}
use Rattle.perm_tree.specs.Lows.{lows_of}
use Rattle.perm_table.specs.Numbering.{Naming, setting_of}
use Rattle.perm_table.specs.declared.numbering.expressions.Node.{Node}
use Rattle.perm_table.specs.declared.numbering.expressions.Node.TheVariants as nodes

-- the operand for the expression at a place, of those from a low place on
abbrev pub operand_at : ℕ → List Operand → ℕ → Operand
operand_at low all at = get_or all (at - low) operands.Null

-- an expression with the operands that are found for its parts
abbrev pub node_of : List VarInfo → (ℕ → Operand) → Expr → Node
node_of vars found (exprs.Number n) = nodes.Operand (operands.Number n)
node_of vars found (exprs.Bool b) = nodes.Operand (operands.Bool b)
node_of vars found exprs.Null = nodes.Operand operands.Null
node_of vars found (exprs.Var x) = nodes.Operand (operands.Local (var_place vars x))
node_of vars found (exprs.Unary op a) = nodes.Operation (operations.Unary op (found a))
node_of vars found (exprs.Binary op a b) = nodes.Operation (operations.Binary op (found a) (found b))

-- its term, by those of the operations before it
abbrev pub node_term : List Term → Node → Term
node_term earlier (nodes.Operand a) = operand_term [] a
node_term earlier (nodes.Operation o) = operation_term earlier o

-- its operands are no values of operations from a place on; alone it is no such value at all
abbrev pub IsNodeBelow : ℕ → Node → Type 0
IsNodeBelow at (nodes.Operand a) = IsOperandBelow 0 a
IsNodeBelow at (nodes.Operation o) = IsOperationBelow at o

-- the operand that stands for it behind so many operations
abbrev pub operand_for : ℕ → Node → Operand
operand_for count (nodes.Operand a) = a
operand_for count (nodes.Operation o) = operands.Earlier count

-- its operation, if it has one
abbrev pub operations_for : Node → List Operation
operations_for (nodes.Operand a) = []
operations_for (nodes.Operation o) = o ∷ []

-- the expressions from a low place up to another that are made of those from the low place on have their terms by these operands and operations
pub record AreKnown (n : Naming) (low at : ℕ) (all : List Operand) (run : List Operation) : Type 0 where
  pub count : low + length all ≡ at
  pub ordered : AreOrdered run
  pub below : (i : ℕ) → IsOperandBelow (length run) (get_or all i operands.Null)
  pub terms : (k : ℕ) → k < at → low ≤ slice_index (lows_of n.tables.program.exprs) k → operand_term (operation_terms run) (operand_at low all k) ≡ term_at (setting_of n) k
