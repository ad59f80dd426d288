-- The canonical text of a program: its expressions, types and names. A text is the list of its bytes, and is made of parts that stand one after the other.
use Rattle.std.specs.Prelude.{ℕ, Bool, true, false, nat_lt, nat_le, List, [], ◌∷◌, ◌++◌, get_or, codes}
use Rattle.std.specs.Fmt.{signed_decimal}
use Rattle.perm_tree.specs.declared.ast.Perm.{Perm}
use Rattle.perm_tree.specs.declared.ast.Perm.TheVariants.{Isolated, Immutable, Readable, Writable}
use Rattle.perm_tree.specs.declared.ast.Shape.TheVariants.{Class, Array}
use Rattle.perm_tree.specs.declared.ast.Ty.{Ty}
use Rattle.perm_tree.specs.declared.ast.Ty.TheVariants as type
use Rattle.perm_tree.specs.declared.ast.UnaryOp.{UnaryOp}
use Rattle.perm_tree.specs.declared.ast.UnaryOp.TheVariants as unary
use Rattle.perm_tree.specs.declared.ast.BinaryOp.{BinaryOp}
use Rattle.perm_tree.specs.declared.ast.BinaryOp.TheVariants as op
use Rattle.perm_tree.specs.declared.ast.Expr.{Expr}
use Rattle.perm_tree.specs.declared.ast.Expr.TheVariants as node
use Rattle.perm_tree.specs.Entries.{entries_of}

-- the text of some parts
abbrev pub parts_text : List (List ℕ) → List ℕ
parts_text [] = []
parts_text (part ∷ parts) = part ++ parts_text parts

-- ---------- names and types ----------
-- the word of a name
abbrev pub word : List (List ℕ) → ℕ → List ℕ
word names n = get_or names n []

-- the keyword of a permission
abbrev pub perm_text : Perm → List ℕ
perm_text Isolated = codes "isolated"
perm_text Immutable = codes "immutable"
perm_text Readable = codes "readable"
perm_text Writable = codes "writable"

-- the text of a type, in which a class is named by the number of its name
abbrev pub type_text : List (List ℕ) → Ty → List ℕ
type_text names type.Long = codes "long"
type_text names type.Bool = codes "bool"
type_text names (type.Ref p (Class n)) = parts_text (perm_text p ∷ codes " " ∷ word names n ∷ [])
type_text names (type.Ref p Array) = parts_text (perm_text p ∷ codes " long[]" ∷ [])

-- ---------- operators ----------
-- how loosely a binary operator binds, from tightest to loosest
abbrev pub level : BinaryOp → ℕ
level op.Mul = 1
level op.Div = 1
level op.Rem = 1
level op.Plus = 2
level op.Minus = 2
level op.Less = 3
level op.AtMost = 3
level op.Greater = 3
level op.AtLeast = 3
level op.Equal = 4
level op.Differs = 4
level op.And = 5
level op.Or = 6

-- a binary operator, with one space on each side
abbrev pub operator_text : BinaryOp → List ℕ
operator_text op.Mul = codes " * "
operator_text op.Div = codes " / "
operator_text op.Rem = codes " % "
operator_text op.Plus = codes " + "
operator_text op.Minus = codes " - "
operator_text op.Less = codes " < "
operator_text op.AtMost = codes " <= "
operator_text op.Greater = codes " > "
operator_text op.AtLeast = codes " >= "
operator_text op.Equal = codes " == "
operator_text op.Differs = codes " != "
operator_text op.And = codes " && "
operator_text op.Or = codes " || "

-- a unary operator
abbrev pub sign_text : UnaryOp → List ℕ
sign_text unary.Minus = codes "-"
sign_text unary.Not = codes "!"

-- `true` or `false`
abbrev pub truth_text : Bool → List ℕ
truth_text true = codes "true"
truth_text false = codes "false"

-- ---------- expressions ----------
-- an expression written down: its text, and how loosely its outermost operator binds, which is 0 where that is no binary one
pub record ExprText : Type 0 where
  pub text : List ℕ
  pub looseness : ℕ

-- something that binds tightest
abbrev pub tight_text : List ℕ → ExprText
tight_text text = record { text = text; looseness = 0 }

-- the parts of an operand, which is in parentheses where a test holds
abbrev pub operand : Bool → List ℕ → List (List ℕ)
operand true text = codes "(" ∷ text ∷ codes ")" ∷ []
operand false text = text ∷ []

-- the operand of a unary operator is in parentheses where it is binary
abbrev pub unary_operand : ExprText → List (List ℕ)
unary_operand a = operand (nat_lt 0 a.looseness) a.text

-- a left operand is in parentheses where it binds looser than its operator
abbrev pub left_operand : BinaryOp → ExprText → List (List ℕ)
left_operand o a = operand (nat_lt (level o) a.looseness) a.text

-- a right operand is in parentheses where it binds looser or equally
abbrev pub right_operand : BinaryOp → ExprText → List (List ℕ)
right_operand o b = operand (nat_le (level o) b.looseness) b.text

-- the expression at a place, as it is written
abbrev pub expr_text_at : List ExprText → ℕ → ExprText
expr_text_at texts at = get_or texts at (tight_text [])

-- an expression written down, by those that stand before it
abbrev pub expr_text_of : List (List ℕ) → List ExprText → Expr → ExprText
expr_text_of names before (node.Number n) = tight_text (signed_decimal n)
expr_text_of names before (node.Bool b) = tight_text (truth_text b)
expr_text_of names before node.Null = tight_text (codes "null")
expr_text_of names before (node.Var x) = tight_text (word names x.name)
expr_text_of names before (node.Unary o a) = tight_text (parts_text (sign_text o ∷ unary_operand (expr_text_at before a)))
expr_text_of names before (node.Binary o a b) = record {
  text = parts_text (left_operand o (expr_text_at before a) ++ operator_text o ∷ right_operand o (expr_text_at before b));
  looseness = level o;
}

-- all expressions of a program, written down
abbrev pub expr_texts_of : List (List ℕ) → List Expr → List ExprText
expr_texts_of names exprs = entries_of (expr_text_of names) exprs
