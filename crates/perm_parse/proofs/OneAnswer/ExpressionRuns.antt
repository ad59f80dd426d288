-- Reading an expression: operators take their operands as the grammar's trees do.
use Rattle.std.proofs.Common.{◌≡◌, ℕ, ◌<◌, ◌≤◌, List, [], ◌∷◌, Some, None, refl, ◌∙◌, ap, arith, inl, inr}
use Rattle.std.proofs.lemmas.Bool.{le-leb, lt-leb}
use Rattle.perm_tree.specs.declared.ast.UnaryOp.TheVariants as unary_op
use Rattle.perm_tree.specs.declared.ast.BinaryOp.{BinaryOp}
use Rattle.perm_tree.specs.declared.ast.BinaryOp.TheVariants as op
use Rattle.perm_tree.specs.declared.tokens.Token.{Token}
use Rattle.perm_tree.specs.declared.tokens.TokenKind.{TokenKind}
use Rattle.perm_parse.specs.Grammar.{ExprTree, Is, IsExpr, looseness, level, sign, expr_text}
use Rattle.perm_parse.specs.Levels.{expr_levels}
use Rattle.perm_parse.specs.States.{Pending, Purpose, State, Room, level_pending, level_purpose}
use Rattle.perm_parse.specs.Machine.{reduce, step, op_of, finish}
use Rattle.perm_parse.proofs.OneAnswer.Runs.{Runs, stop, go, moves, via}

-- where the reading stands behind the tokens of an expression: at its last operand
abbrev pub settle : ExprTree → List Pending → ExprTree × List Pending
settle (ExprTree.unary o t e) ps = settle e (Pending.before o t ∷ ps)
settle (ExprTree.binary o a t b) ps = settle b (Pending.left a o t ∷ ps)
settle e ps = (e, ps)

pub Room-less : (k l : ℕ) (ps : List Pending) → k ≤ l → Room l ps → Room k ps
Room-less k l [] h r = tt
Room-less k l (Pending.before o t ∷ ps) h r = omega arith
Room-less k l (Pending.left a o t ∷ ps) h r = omega arith

pub level-positive : (o : BinaryOp) → 0 < level o
level-positive op.Mul = omega arith
level-positive op.Div = omega arith
level-positive op.Rem = omega arith
level-positive op.Plus = omega arith
level-positive op.Minus = omega arith
level-positive op.Less = omega arith
level-positive op.AtMost = omega arith
level-positive op.Greater = omega arith
level-positive op.AtLeast = omega arith
level-positive op.Equal = omega arith
level-positive op.Differs = omega arith
level-positive op.And = omega arith
level-positive op.Or = omega arith

pub level-most : (o : BinaryOp) → level o ≤ 6
level-most op.Mul = omega arith
level-most op.Div = omega arith
level-most op.Rem = omega arith
level-most op.Plus = omega arith
level-most op.Minus = omega arith
level-most op.Less = omega arith
level-most op.AtMost = omega arith
level-most op.Greater = omega arith
level-most op.AtLeast = omega arith
level-most op.Equal = omega arith
level-most op.Differs = omega arith
level-most op.And = omega arith
level-most op.Or = omega arith

pub looseness-most : (e : ExprTree) → looseness e ≤ 6
looseness-most (ExprTree.binary o a t b) = level-most o
looseness-most _ = omega arith

-- the operators above leave a value alone
pub reduce-stays : (l : ℕ) (e : ExprTree) (ps : List Pending) → 0 < l → Room l ps → reduce l e ps ≡ (e, ps)
reduce-stays l e [] pos r = refl
reduce-stays l e (Pending.before o t ∷ ps) pos r = absurd (omega arith)
reduce-stays l e (Pending.left a o t ∷ ps) pos r = rw (lt-leb (level o) l r) refl

pub reduce-settled : (l : ℕ) (e : ExprTree) (ps : List Pending) → IsExpr e → looseness e ≤ l → reduce l (settle e ps).0 (settle e ps).1 ≡ reduce l e ps
reduce-settled l (ExprTree.unary o t e) ps h le = reduce-settled l e (Pending.before o t ∷ ps) h.1 (omega (arith, h.2))
reduce-settled l (ExprTree.binary o a t b) ps h le = reduce-settled l b (Pending.left a o t ∷ ps) h.right (omega (arith, h.right_level)) ∙ rw (le-leb (level o) l le) refl
reduce-settled l _ ps h le = refl

-- the state behind the tokens of an expression
abbrev pub at_last : ExprTree → List Pending → Purpose → State
at_last e ps k = State.after (settle e ps).0 (settle e ps).1 k

pub op_of-sign : (o : BinaryOp) → op_of (sign o) ≡ Some o
op_of-sign op.Mul = refl
op_of-sign op.Div = refl
op_of-sign op.Rem = refl
op_of-sign op.Plus = refl
op_of-sign op.Minus = refl
op_of-sign op.Less = refl
op_of-sign op.AtMost = refl
op_of-sign op.Greater = refl
op_of-sign op.AtLeast = refl
op_of-sign op.Equal = refl
op_of-sign op.Differs = refl
op_of-sign op.And = refl
op_of-sign op.Or = refl

-- an operator behind an expression makes it the left operand
pub operator : (k : Purpose) (o : BinaryOp) (t : Token) (a : ExprTree) (ps : List Pending) → IsExpr a → Is (sign o) t → looseness a ≤ level o → Room (level o) ps →
    step (at_last a ps k) t ≡ Some (State.operand (Pending.left a o t ∷ ps) k)
operator k o t a ps h is le room = rw (is, op_of-sign o, reduce-settled (level o) a ps h le, reduce-stays (level o) a ps (level-positive o) room) refl

-- a whole expression is closed by what is no operator
pub closes : (k : Purpose) (e : ExprTree) (t : Token) → IsExpr e → op_of t.kind ≡ None → step (at_last e [] k) t ≡ finish k e t t.kind
closes k e t h no_op = rw (no_op, reduce-settled 6 e [] h (looseness-most e)) refl

pub reads : (k : Purpose) (e : ExprTree) (ps : List Pending) (rest : List Token) → IsExpr e → Room (looseness e) ps →
    Runs (State.operand ps k) (expr_text e rest) (expr_levels (level_pending (level_purpose k) ps) (level_purpose k) e) (at_last e ps k) rest
reads k (ExprTree.number t) ps rest h room = go h refl stop
reads k (ExprTree.true_word t) ps rest h room = go h refl stop
reads k (ExprTree.false_word t) ps rest h room = go h refl stop
reads k (ExprTree.null_word t) ps rest h room = go h refl stop
reads k (ExprTree.variable t) ps rest (inl h) room = go h refl stop
reads k (ExprTree.variable t) ps rest (inr h) room = go h refl stop
reads k (ExprTree.parens opening e closing) ps rest h room =
    let q = Purpose.inner ps k opening in
    go h.0 refl (via (reads q e [] (closing ∷ rest) h.1 tt) (moves (closes q e closing h.1 (ap op_of h.2) ∙ ap (λ (x : TokenKind). finish q e closing x) h.2) stop))
reads k (ExprTree.unary unary_op.Minus t e) ps rest h room = go h.0 refl (reads k e (Pending.before unary_op.Minus t ∷ ps) rest h.1 h.2)
reads k (ExprTree.unary unary_op.Not t e) ps rest h room = go h.0 refl (reads k e (Pending.before unary_op.Not t ∷ ps) rest h.1 h.2)
reads k (ExprTree.binary o a t b) ps rest h room =
    via (reads k a ps (t ∷ expr_text b rest) h.left (Room-less (looseness a) (level o) ps h.left_level room))
    (moves (operator k o t a ps h.left h.operator h.left_level room) (reads k b (Pending.left a o t ∷ ps) rest h.right h.right_level))
