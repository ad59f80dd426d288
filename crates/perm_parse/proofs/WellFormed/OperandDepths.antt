-- How deep right and unary operands nest in an expression that is read: six times as deep as brackets and unary operators at most, and by the looseness of its outermost operator deeper.
use Rattle.std.proofs.Common.{◌≡◌, ℕ, ◌+◌, ◌*◌, ◌≤◌, List, [], ◌∷◌, ◌++◌, length, pos, true, false, Option, Some, None, get_or, refl, sym, subst, arith}
use Rattle.std.specs.Prelude.{All}
use Rattle.std.proofs.lemmas.List.Elements.{All-push}
use Rattle.perm_tree.specs.Operands.{operand_depth, operand_depths, HasShallowOperands}
use Rattle.perm_tree.specs.Places.{Listing}
use Rattle.perm_tree.specs.declared.ast.BinaryOp.{BinaryOp}
use Rattle.perm_tree.specs.declared.ast.BinaryOp.TheVariants as op
use Rattle.perm_tree.specs.declared.ast.Expr.{Expr}
use Rattle.perm_tree.specs.declared.ast.Expr.TheVariants as node
use Rattle.perm_tree.specs.declared.tokens.Token.{Token}
use Rattle.perm_tree.specs.declared.tokens.TokenKind.{TokenKind}
use Rattle.perm_tree.specs.declared.tokens.TokenKind.TheVariants as kinds
use Rattle.perm_tree.proofs.Entries.{entries_from-append}
use Rattle.perm_parse.specs.Grammar.{ExprTree, IsExpr, level, looseness}
use Rattle.perm_parse.specs.Levels.{expr_levels}
use Rattle.perm_parse.specs.Meaning.{number_at, ident, var_as, var, expr_of}
use Rattle.perm_parse.specs.Parses.{Shallow}
use Rattle.perm_parse.proofs.Walks.ListGrowth.{Front, front-refl, expr-grows}
use Rattle.perm_parse.proofs.WellFormed.ExpressionMarks.{entry-pushed}

-- ---------- operators ----------
level-most : (o : BinaryOp) → level o ≤ 6
level-most op.Mul = omega arith
level-most op.Div = omega arith
level-most op.Rem = omega arith
level-most op.Plus = omega arith
level-most op.Minus = omega arith
level-most op.Less = omega arith
level-most op.AtMost = omega arith
level-most op.Greater = omega arith
level-most op.AtLeast = omega arith
level-most op.Equal = omega arith
level-most op.Differs = omega arith
level-most op.And = omega arith
level-most op.Or = omega arith

looseness-most : (e : ExprTree) → looseness e ≤ 6
looseness-most (ExprTree.binary o a t b) = level-most o
looseness-most _ = omega arith

-- ---------- levels ----------
-- where no level is past the deepest, none behind an expression is
pub expr-behind : (i b : ℕ) (e : ExprTree) (rest : List ℕ) → Shallow (expr_levels i b e rest) → Shallow rest
expr-behind i b (ExprTree.parens opening e closing) rest h = (expr-behind (i + 1) (i + 1) e (b ∷ rest) h.1).1
expr-behind i b (ExprTree.unary o t e) rest h = expr-behind (i + 1) b e rest h.1
expr-behind i b (ExprTree.binary o x t y) rest h = expr-behind i b y rest (expr-behind i b x (i ∷ expr_levels i b y rest) h).1
expr-behind i b (ExprTree.number t) rest h = h.1
expr-behind i b (ExprTree.true_word t) rest h = h.1
expr-behind i b (ExprTree.false_word t) rest h = h.1
expr-behind i b (ExprTree.null_word t) rest h = h.1
expr-behind i b (ExprTree.variable t) rest h = h.1

-- ---------- names ----------
number_at-exprs : (name : List ℕ) (s : Listing) (o : Option ℕ) → (number_at name s o).1.exprs ≡ s.exprs
number_at-exprs name s (Some at) = refl
number_at-exprs name s None = refl

pub ident-exprs : (text : List ℕ) (t : Token) (s : Listing) → (ident text t s).1.exprs ≡ s.exprs
ident-exprs text t s = number_at-exprs _ s _

var_as-exprs : (text : List ℕ) (t : Token) (s : Listing) (k : TokenKind) → (var_as text t s k).1.exprs ≡ s.exprs
var_as-exprs text t s kinds.This = refl
var_as-exprs text t s _ = ident-exprs text t s

pub var-exprs : (text : List ℕ) (t : Token) (s : Listing) → (var text t s).1.exprs ≡ s.exprs
var-exprs text t s = var_as-exprs text t s t.kind

-- ---------- depths ----------
-- the depth at the place of an expression, in any list that begins with those that are read
abbrev depth_at : List Expr → ℕ → ℕ
depth_at xs at = get_or (operand_depths xs) at 0

pushed-depth : (e : Expr) (before xs : List Expr) → Front (before ++ e ∷ []) xs → depth_at xs (length before) ≡ operand_depth (operand_depths before) e
pushed-depth e before xs f = entry-pushed operand_depth before xs e 0 f

expr-depth : (text : List ℕ) (e : ExprTree) (s : Listing) (i b : ℕ) (rest : List ℕ) → IsExpr e → i ≤ 100 → Shallow (expr_levels i b e rest) →
    (xs : List Expr) → Front (expr_of text e s).1.exprs xs → depth_at xs (expr_of text e s).0 + 6 * i ≤ 600 + looseness e
expr-depth text (ExprTree.number t) s i b rest is le h xs f = let d = pushed-depth (node.Number (pos t.value)) s.exprs xs f in omega arith
expr-depth text (ExprTree.true_word t) s i b rest is le h xs f = let d = pushed-depth (node.Bool true) s.exprs xs f in omega arith
expr-depth text (ExprTree.false_word t) s i b rest is le h xs f = let d = pushed-depth (node.Bool false) s.exprs xs f in omega arith
expr-depth text (ExprTree.null_word t) s i b rest is le h xs f = let d = pushed-depth node.Null s.exprs xs f in omega arith
expr-depth text (ExprTree.variable t) s i b rest is le h xs f = let x = var text t s in let d = pushed-depth (node.Var x.0) x.1.exprs xs f in omega arith
expr-depth text (ExprTree.parens opening e closing) s i b rest is le h xs f =
    let k = expr-depth text e s (i + 1) (i + 1) (b ∷ rest) is.1 h.0 h.1 xs f in
    omega (arith, looseness-most e)
expr-depth text (ExprTree.unary o t e) s i b rest is le h xs f =
    let x = expr_of text e s in
    let d = pushed-depth (node.Unary o x.0) x.1.exprs xs f in
    let k = expr-depth text e s (i + 1) b rest is.1 h.0 h.1 x.1.exprs (front-refl x.1.exprs) in
    omega (arith, is.2)
expr-depth text (ExprTree.binary o a t c) s i b rest is le h xs f =
    let x = expr_of text a s in
    let y = expr_of text c x.1 in
    let d = pushed-depth (node.Binary o x.0 y.0) y.1.exprs xs f in
    let k = expr-depth text a s i b (i ∷ expr_levels i b c rest) is.left le h y.1.exprs (expr-grows text c x.1).exprs in
    let l = expr-depth text c x.1 i b rest is.right le (expr-behind i b a (i ∷ expr_levels i b c rest) h).1 y.1.exprs (front-refl y.1.exprs) in
    omega (arith, is.left_level, is.right_level)

-- ---------- all expressions ----------
pushed-low : (e : Expr) (before : List Expr) → operand_depth (operand_depths before) e ≤ 594 → HasShallowOperands before → HasShallowOperands (before ++ e ∷ [])
pushed-low e before fits low =
    subst (All (λ n. n ≤ 594)) (sym (entries_from-append operand_depth [] before (e ∷ [])))
    (All-push (λ n. n ≤ 594) (operand_depths before) (operand_depth (operand_depths before) e) low fits)

-- an expression within a method leaves each expression shallow
pub expr-low : (text : List ℕ) (e : ExprTree) (s : Listing) (i b : ℕ) (rest : List ℕ) → IsExpr e → 2 ≤ i → i ≤ 100 → Shallow (expr_levels i b e rest) →
    HasShallowOperands s.exprs → HasShallowOperands (expr_of text e s).1.exprs
expr-low text (ExprTree.number t) s i b rest is two le h low = pushed-low (node.Number (pos t.value)) s.exprs (omega arith) low
expr-low text (ExprTree.true_word t) s i b rest is two le h low = pushed-low (node.Bool true) s.exprs (omega arith) low
expr-low text (ExprTree.false_word t) s i b rest is two le h low = pushed-low (node.Bool false) s.exprs (omega arith) low
expr-low text (ExprTree.null_word t) s i b rest is two le h low = pushed-low node.Null s.exprs (omega arith) low
expr-low text (ExprTree.variable t) s i b rest is two le h low =
    let x = var text t s in
    pushed-low (node.Var x.0) x.1.exprs (omega arith) (subst HasShallowOperands (sym (var-exprs text t s)) low)
expr-low text (ExprTree.parens opening e closing) s i b rest is two le h low = expr-low text e s (i + 1) (i + 1) (b ∷ rest) is.1 (omega arith) h.0 h.1 low
expr-low text (ExprTree.unary o t e) s i b rest is two le h low =
    let x = expr_of text e s in
    let k = expr-depth text e s (i + 1) b rest is.1 h.0 h.1 x.1.exprs (front-refl x.1.exprs) in
    pushed-low (node.Unary o x.0) x.1.exprs (omega (arith, is.2)) (expr-low text e s (i + 1) b rest is.1 (omega arith) h.0 h.1 low)
expr-low text (ExprTree.binary o a t c) s i b rest is two le h low =
    let x = expr_of text a s in
    let y = expr_of text c x.1 in
    let behind = (expr-behind i b a (i ∷ expr_levels i b c rest) h).1 in
    let k = expr-depth text a s i b (i ∷ expr_levels i b c rest) is.left le h y.1.exprs (expr-grows text c x.1).exprs in
    let l = expr-depth text c x.1 i b rest is.right le behind y.1.exprs (front-refl y.1.exprs) in
    pushed-low (node.Binary o x.0 y.0) y.1.exprs (omega (arith, is.left_level, is.right_level, level-most o))
    (expr-low text c x.1 i b rest is.right two le behind (expr-low text a s i b (i ∷ expr_levels i b c rest) is.left two le h low))
