-- The canonical tree: parentheses just where an operand binds too loosely. It has the meaning of the tree that it is made of.
use Rattle.std.proofs.Common.{◌≡◌, ℕ, ◌+◌, ◌<◌, ◌≤◌, max, List, ◌∷◌, Bool as Boolean, true, false, ltb, leb, refl, ◌∙◌, ap, arith, ◌⊎◌, inl, inr}
use Rattle.std.proofs.lemmas.Bool.{leb-true, leb-false, ltb-true, ltb-false}
use Rattle.perm_tree.specs.Places.{Listing}
use Rattle.perm_tree.specs.declared.ast.Expr.TheVariants as node
use Rattle.perm_tree.specs.declared.tokens.TokenKind.TheVariants as kind
use Rattle.perm_parse.specs.Grammar.{ExprTree}
use Rattle.perm_parse.specs.Grammar.{IsExpr, looseness, level}
use Rattle.perm_parse.specs.Levels.{expr_levels}
use Rattle.perm_parse.specs.Parses.{Shallow, deepest}
use Rattle.perm_parse.specs.Meaning.{push_expr, expr_of}
use Rattle.perm_parse.proofs.OneAnswer.Completion.{some_token}
use Rattle.perm_parse.proofs.OneAnswer.ExpressionRuns.{level-positive}

-- ---- expressions

-- in parentheses where this says so
abbrev pub enclose : Boolean → ExprTree → ExprTree
enclose true e = ExprTree.parens (some_token kind.OpenParen) e (some_token kind.CloseParen)
enclose false e = e

-- a left operand of an operator of this level, and a right one
abbrev pub left_operand : ℕ → ExprTree → ExprTree
left_operand n e = enclose (ltb n (looseness e)) e

abbrev pub right_operand : ℕ → ExprTree → ExprTree
right_operand n e = enclose (leb n (looseness e)) e

abbrev pub bare : ExprTree → ExprTree
bare (ExprTree.number t) = ExprTree.number t
bare (ExprTree.true_word t) = ExprTree.true_word t
bare (ExprTree.false_word t) = ExprTree.false_word t
bare (ExprTree.null_word t) = ExprTree.null_word t
bare (ExprTree.variable t) = ExprTree.variable t
bare (ExprTree.parens opening e closing) = bare e
bare (ExprTree.unary o t e) = ExprTree.unary o t (left_operand 0 (bare e))
bare (ExprTree.binary o a t b) = ExprTree.binary o (left_operand (level o) (bare a)) t (right_operand (level o) (bare b))

enclose-of : (text : List ℕ) (b : Boolean) (e : ExprTree) (s : Listing) → expr_of text (enclose b e) s ≡ expr_of text e s
enclose-of text true e s = refl
enclose-of text false e s = refl

enclose-is : (b : Boolean) (e : ExprTree) → IsExpr e → IsExpr (enclose b e)
enclose-is true e h = (refl, h, refl)
enclose-is false e h = h

left-tight : (n : ℕ) (e : ExprTree) → looseness (left_operand n e) ≤ n
left-tight n e = go (ltb n (looseness e)) refl
  where
    go : (b : Boolean) → ltb n (looseness e) ≡ b → looseness (enclose b e) ≤ n
    go true h = omega arith
    go false h = let k = ltb-false n (looseness e) h in omega arith

right-tight : (n : ℕ) (e : ExprTree) → 0 < n → looseness (right_operand n e) < n
right-tight n e some = go (leb n (looseness e)) refl
  where
    go : (b : Boolean) → leb n (looseness e) ≡ b → looseness (enclose b e) < n
    go true h = some
    go false h = let k = leb-false n (looseness e) h in omega arith

-- it is a tree, and means the same
pub bare-is : (e : ExprTree) → IsExpr e → IsExpr (bare e)
bare-is (ExprTree.number t) h = h
bare-is (ExprTree.true_word t) h = h
bare-is (ExprTree.false_word t) h = h
bare-is (ExprTree.null_word t) h = h
bare-is (ExprTree.variable t) h = h
bare-is (ExprTree.parens opening e closing) h = bare-is e h.1
bare-is (ExprTree.unary o t e) h = (h.0, enclose-is (ltb 0 (looseness (bare e))) (bare e) (bare-is e h.1), (let k = left-tight 0 (bare e) in omega arith))
bare-is (ExprTree.binary o a t b) h = record {
  left = enclose-is (ltb (level o) (looseness (bare a))) (bare a) (bare-is a h.left);
  operator = h.operator;
  right = enclose-is (leb (level o) (looseness (bare b))) (bare b) (bare-is b h.right);
  left_level = left-tight (level o) (bare a);
  right_level = right-tight (level o) (bare b) (level-positive o);
}

pub bare-of : (text : List ℕ) (e : ExprTree) (s : Listing) → expr_of text (bare e) s ≡ expr_of text e s
bare-of text (ExprTree.number t) s = refl
bare-of text (ExprTree.true_word t) s = refl
bare-of text (ExprTree.false_word t) s = refl
bare-of text (ExprTree.null_word t) s = refl
bare-of text (ExprTree.variable t) s = refl
bare-of text (ExprTree.parens opening e closing) s = bare-of text e s
bare-of text (ExprTree.unary o t e) s =
    let x : expr_of text (left_operand 0 (bare e)) s ≡ expr_of text e s = enclose-of text (ltb 0 (looseness (bare e))) (bare e) s ∙ bare-of text e s in
    ap (λ (z : ℕ × Listing). push_expr (node.Unary o z.0) z.1) x
bare-of text (ExprTree.binary o a t b) s =
    let x : expr_of text (left_operand (level o) (bare a)) s ≡ expr_of text a s = enclose-of text (ltb (level o) (looseness (bare a))) (bare a) s ∙ bare-of text a s in
    let y : (r : Listing) → expr_of text (right_operand (level o) (bare b)) r ≡ expr_of text b r = λ r. enclose-of text (leb (level o) (looseness (bare b))) (bare b) r ∙ bare-of text b r in
    ap (λ (z : ℕ × Listing). let w = expr_of text (right_operand (level o) (bare b)) z.1 in push_expr (node.Binary o z.0 w.0) w.1) x
    ∙ ap (λ (w : ℕ × Listing). push_expr (node.Binary o (expr_of text a s).0 w.0) w.1) (y (expr_of text a s).1)

-- ---- how deep an expression goes

abbrev pub expr_depth : ExprTree → ℕ
expr_depth (ExprTree.parens opening e closing) = expr_depth e + 1
expr_depth (ExprTree.unary o t e) = expr_depth e + 1
expr_depth (ExprTree.binary o a t b) = max (expr_depth a) (expr_depth b)
expr_depth _ = 0

-- no deeper, and where parentheses are put there were some
abbrev Shallower : ExprTree → Type 0
Shallower e = (expr_depth (bare e) ≤ expr_depth e) × ((looseness (bare e) ≤ looseness e) ⊎ (expr_depth (bare e) + 1 ≤ expr_depth e))

left-depth : (n : ℕ) (e : ExprTree) → looseness e ≤ n → Shallower e → expr_depth (left_operand n (bare e)) ≤ expr_depth e
left-depth n e le h = go (ltb n (looseness (bare e))) refl h.1
  where
    go : (b : Boolean) → ltb n (looseness (bare e)) ≡ b → (looseness (bare e) ≤ looseness e) ⊎ (expr_depth (bare e) + 1 ≤ expr_depth e) → expr_depth (enclose b (bare e)) ≤ expr_depth e
    go true l (inl tight) = let k = ltb-true n (looseness (bare e)) l in absurd (omega arith)
    go true l (inr deep) = deep
    go false l _ = h.0

right-depth : (n : ℕ) (e : ExprTree) → looseness e < n → Shallower e → expr_depth (right_operand n (bare e)) ≤ expr_depth e
right-depth n e le h = go (leb n (looseness (bare e))) refl h.1
  where
    go : (b : Boolean) → leb n (looseness (bare e)) ≡ b → (looseness (bare e) ≤ looseness e) ⊎ (expr_depth (bare e) + 1 ≤ expr_depth e) → expr_depth (enclose b (bare e)) ≤ expr_depth e
    go true l (inl tight) = let k = leb-true n (looseness (bare e)) l in absurd (omega arith)
    go true l (inr deep) = deep
    go false l _ = h.0

bare-depth : (e : ExprTree) → IsExpr e → Shallower e
bare-depth (ExprTree.number t) h = (omega arith, inl (omega arith))
bare-depth (ExprTree.true_word t) h = (omega arith, inl (omega arith))
bare-depth (ExprTree.false_word t) h = (omega arith, inl (omega arith))
bare-depth (ExprTree.null_word t) h = (omega arith, inl (omega arith))
bare-depth (ExprTree.variable t) h = (omega arith, inl (omega arith))
bare-depth (ExprTree.parens opening e closing) h = let k = (bare-depth e h.1).0 in (omega arith, inr (omega arith))
bare-depth (ExprTree.unary o t e) h =
    let k = left-depth 0 e (omega arith) (bare-depth e h.1) in
    (omega arith, inl (omega arith))
bare-depth (ExprTree.binary o a t b) h =
    let k = left-depth (level o) a h.left_level (bare-depth a h.left) in
    let l = right-depth (level o) b h.right_level (bare-depth b h.right) in
    (omega arith, inl (omega arith))

-- levels that aren't too deep, for an expression that stands at one that isn't
low-depth : (i d : ℕ) (e : ExprTree) (rest : List ℕ) → i ≤ deepest → Shallow (expr_levels i d e rest) → (i + expr_depth e ≤ deepest) × (d ≤ deepest) × Shallow rest
low-depth i d (ExprTree.number t) rest le h = (omega arith, h.0, h.1)
low-depth i d (ExprTree.true_word t) rest le h = (omega arith, h.0, h.1)
low-depth i d (ExprTree.false_word t) rest le h = (omega arith, h.0, h.1)
low-depth i d (ExprTree.null_word t) rest le h = (omega arith, h.0, h.1)
low-depth i d (ExprTree.variable t) rest le h = (omega arith, h.0, h.1)
low-depth i d (ExprTree.parens opening e closing) rest le h = let k = low-depth (i + 1) (i + 1) e (d ∷ rest) h.0 h.1 in (omega arith, k.2.0, k.2.1)
low-depth i d (ExprTree.unary o t e) rest le h = let k = low-depth (i + 1) d e rest h.0 h.1 in (omega arith, k.1, k.2)
low-depth i d (ExprTree.binary o a t b) rest le h =
    let k = low-depth i d a (i ∷ expr_levels i d b rest) le h in
    let l = low-depth i d b rest le k.2.1 in
    (omega arith, l.1, l.2)

depth-low : (i d : ℕ) (e : ExprTree) (rest : List ℕ) → i + expr_depth e ≤ deepest → d ≤ deepest → Shallow rest → Shallow (expr_levels i d e rest)
depth-low i d (ExprTree.number t) rest le h more = (h, more)
depth-low i d (ExprTree.true_word t) rest le h more = (h, more)
depth-low i d (ExprTree.false_word t) rest le h more = (h, more)
depth-low i d (ExprTree.null_word t) rest le h more = (h, more)
depth-low i d (ExprTree.variable t) rest le h more = (h, more)
depth-low i d (ExprTree.parens opening e closing) rest le h more = (omega arith, depth-low (i + 1) (i + 1) e (d ∷ rest) (omega arith) (omega arith) (h, more))
depth-low i d (ExprTree.unary o t e) rest le h more = (omega arith, depth-low (i + 1) d e rest (omega arith) h more)
depth-low i d (ExprTree.binary o a t b) rest le h more =
    depth-low i d a (i ∷ expr_levels i d b rest) (omega arith) h (omega arith, depth-low i d b rest (omega arith) h more)

-- it stays shallow
pub bare-low : (i d : ℕ) (e : ExprTree) (rest others : List ℕ) → IsExpr e → i ≤ deepest → (Shallow rest → Shallow others) → Shallow (expr_levels i d e rest) → Shallow (expr_levels i d (bare e) others)
bare-low i d e rest others is le more h =
    let k = low-depth i d e rest le h in
    let l = (bare-depth e is).0 in
    depth-low i d (bare e) others (omega arith) k.1 (more k.2)
