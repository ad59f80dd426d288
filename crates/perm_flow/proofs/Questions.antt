-- What is told of an expression, operator by operator.
use Rattle.std.proofs.Common.{◌≡◌, ◌∙◌, Bool, true, false, refl, ap, sym}
use Rattle.std.specs.Prelude.{◌&&◌, ◌||◌, not}
use Rattle.perm_tree.specs.declared.ast.BinaryOp.{BinaryOp}
use Rattle.perm_tree.specs.declared.ast.UnaryOp.{UnaryOp}
use Rattle.perm_tree.specs.Code.{Term, Unary, Binary}
use Rattle.perm_rules.specs.Parts.{Context}
use Rattle.perm_flow.specs.declared.terms.Question.{Question}
use Rattle.perm_flow.specs.declared.terms.Question.TheVariants.{Any, Wrong, Needs}
use Rattle.perm_flow.specs.Questions.{binary_answer, is_passed_over, answer, unary_answer}

-- a unary operator, or its operand
answer-unary : (c : Context) (q : Question) (op : UnaryOp) (a : Term) → answer c q (Unary op a) ≡ (unary_answer c q op a || answer c q a)
answer-unary c (Any test) op a = refl
answer-unary c Wrong op a = refl
answer-unary c Needs op a = refl

-- a binary operator, or its operands, unless they are passed over
answer-binary : (c : Context) (q : Question) (op : BinaryOp) (a b : Term)
    → answer c q (Binary op a b) ≡ (not (is_passed_over c q op a b) && (binary_answer c q op a b || (answer c q a || answer c q b)))
answer-binary c (Any test) op a b = refl
answer-binary c Wrong op a b = refl
answer-binary c Needs op a b = refl

-- ---------- a walk along left operands ----------
in_turn : (f x r t : Bool) → (((f || x) || r) || t) ≡ (f || (x || (t || r)))
in_turn true x r t = refl
in_turn false true r t = refl
in_turn false false true true = refl
in_turn false false true false = refl
in_turn false false false t = or_false t
  where
    or_false : (b : Bool) → b ≡ (b || false)
    or_false true = refl
    or_false false = refl

one_more : (f x t : Bool) → ((f || x) || t) ≡ (f || (x || t))
one_more true x t = refl
one_more false x t = refl

or-false : (f : Bool) → (f || false) ≡ f
or-false true = refl
or-false false = refl

-- from a unary operator to its operand
pub unary-step : (c : Context) (q : Question) (op : UnaryOp) (e a : Term) (f x whole : Bool) → e ≡ Unary op a → (f || answer c q e) ≡ whole → x ≡ unary_answer c q op a → ((f || x) || answer c q a) ≡ whole
unary-step c q op e a f x whole is kept one =
    ap (λ y. (f || y) || answer c q a) one ∙ one_more f (unary_answer c q op a) (answer c q a)
    ∙ ap (λ t. f || t) (sym (answer-unary c q op a)) ∙ ap (λ t. f || answer c q t) (sym is) ∙ kept

-- from a binary operator to its left operand
pub binary-step : (c : Context) (q : Question) (op : BinaryOp) (e a b : Term) (f p x r whole : Bool) → e ≡ Binary op a b → (f || answer c q e) ≡ whole
    → p ≡ is_passed_over c q op a b → p ≡ false → x ≡ binary_answer c q op a b → r ≡ answer c q b → (((f || x) || r) || answer c q a) ≡ whole
binary-step c q op e a b f p x r whole is kept over holds_not one right =
    ap (λ y. ((f || y) || r) || answer c q a) one ∙ ap (λ y. ((f || binary_answer c q op a b) || y) || answer c q a) right
    ∙ in_turn f (binary_answer c q op a b) (answer c q b) (answer c q a)
    ∙ ap (λ y. f || (not y && (binary_answer c q op a b || (answer c q a || answer c q b)))) (sym holds_not ∙ over)
    ∙ ap (λ t. f || t) (sym (answer-binary c q op a b)) ∙ ap (λ t. f || answer c q t) (sym is) ∙ kept

-- operands that are passed over
pub passed-step : (c : Context) (q : Question) (op : BinaryOp) (e a b : Term) (f p whole : Bool) → e ≡ Binary op a b → (f || answer c q e) ≡ whole
    → p ≡ is_passed_over c q op a b → p ≡ true → f ≡ whole
passed-step c q op e a b f p whole is kept over holds =
    sym (or-false f)
    ∙ ap (λ y. f || (not y && (binary_answer c q op a b || (answer c q a || answer c q b)))) (sym holds ∙ over)
    ∙ ap (λ t. f || t) (sym (answer-binary c q op a b)) ∙ ap (λ t. f || answer c q t) (sym is) ∙ kept
