-- The terms and the values of operations that stand one behind the other.
use Rattle.std.proofs.Common.{◌≡◌, ◌∙◌, ℕ, zero, suc, ◌+◌, ◌-◌, ◌<◌, ◌≤◌, inl, inr, List, [], ◌∷◌, ◌++◌, length, Some, get_or, set, refl, ap, sym, subst, arith, get_or-set_same, get_or-set_other}
use Rattle.std.specs.Prelude.{slice_get}
use Rattle.std.proofs.Math.ListN.{get_or-append}
use Rattle.std.proofs.lemmas.Bool.{cases_lt}
use Rattle.std.proofs.lemmas.Option.{slice_get-get_or}
use Rattle.perm_tree.specs.declared.ast.BinaryOp.{BinaryOp}
use Rattle.perm_tree.specs.declared.ast.UnaryOp.{UnaryOp}
use Rattle.perm_tree.specs.declared.bodies.Operand.{Operand}
use Rattle.perm_tree.specs.declared.bodies.Operand.TheVariants.{Number, Bool as Truth, Null, Local, Earlier}
use Rattle.perm_tree.specs.declared.bodies.Operation.{Operation}
use Rattle.perm_tree.specs.declared.bodies.Operation.TheVariants.{Unary, Binary}
use Rattle.perm_tree.specs.BodyTerms.{operand_term, operation_term, operation_terms, AreOrdered, IsOperandBelow, IsOperationBelow}
use Rattle.perm_tree.specs.Code.{Term, NullLit, Unary as UnaryTerm, Binary as BinaryTerm}
use Rattle.perm_tree.specs.Entries.{entries_from}
use Rattle.perm_tree.proofs.Entries.{ReadsBefore, entries_of-at}
use Rattle.perm_meaning.specs.Expressions.{eval}
use Rattle.perm_meaning.specs.Words.{words}
use Rattle.perm_step.specs.declared.values.Value.{Value}
use Rattle.perm_step.specs.declared.values.Value.TheVariants.{Word}
use Rattle.perm_step.specs.Evaluation.{last_term, AreValues, IsAnswer, IsLast}

-- ---------- places ----------
-- an operand below a place is below each later one
pub operand-below : (at count : ℕ) (a : Operand) → at ≤ count → IsOperandBelow at a → IsOperandBelow count a
operand-below at count (Earlier i) le below = omega (arith, below)
operand-below at count (Number n) le below = tt
operand-below at count (Truth b) le below = tt
operand-below at count Null le below = tt
operand-below at count (Local x) le below = tt

-- so is an operation
pub operation-below : (at count : ℕ) (o : Operation) → at ≤ count → IsOperationBelow at o → IsOperationBelow count o
operation-below at count (Unary op a) le below = operand-below at count a le below
operation-below at count (Binary op a b) le below = (operand-below at count a le below.0, operand-below at count b le below.1)

-- ---------- terms ----------
operand-reads : (at : ℕ) (a : Operand) → IsOperandBelow at a → (before after : List Term) → length before ≡ at → operand_term (before ++ after) a ≡ operand_term before a
operand-reads at (Earlier i) below before after count = get_or-append before after NullLit i (omega (arith, below))
operand-reads at (Number n) below before after count = refl
operand-reads at (Truth b) below before after count = refl
operand-reads at Null below before after count = refl
operand-reads at (Local x) below before after count = refl

operation-reads : (at : ℕ) (o : Operation) → IsOperationBelow at o → ReadsBefore operation_term at o
operation-reads at (Unary op a) below before after count = ap (UnaryTerm op) (operand-reads at a below before after count)
operation-reads at (Binary op a b) below before after count =
    ap (λ t. BinaryTerm op t (operand_term (before ++ after) b)) (operand-reads at a below.0 before after count)
    ∙ ap (BinaryTerm op (operand_term before a)) (operand-reads at b below.1 before after count)

-- the term of an operation at its place
pub operation_term-at : (run : List Operation) (at : ℕ) (o : Operation) → slice_get run at ≡ Some o → IsOperationBelow at o → get_or (operation_terms run) at NullLit ≡ operation_term (operation_terms run) o
operation_term-at run at o here below = entries_of-at operation_term run at o NullLit here (operation-reads at o below)

-- ---------- values ----------
-- one value more
pub values-more : (vs : List ℕ) (run : List Operation) (at : ℕ) (old : List Value) (o : Operation) (v : Value) → slice_get run at ≡ Some o → AreOrdered run → at < length old → AreValues vs (operation_terms run) at old
    → ((terms : List Term) → IsOperationBelow at o → AreValues vs terms at old → IsAnswer (eval words (operation_term terms o) vs) v)
    → AreValues vs (operation_terms run) (at + 1) (set old at v)
values-more vs run at old o v here ordered inside known gives k below = elim (cases_lt k at) [
  | inl earlier ↦ subst (IsAnswer (eval words (get_or (operation_terms run) k NullLit) vs)) (sym (get_or-set_other old at k v (Word 0) (λ e. absurd (omega arith)))) (known k earlier)
  | inr later ↦
      let place : k ≡ at = omega arith in
      let new : get_or (set old at v) at (Word 0) ≡ v = get_or-set_same old at v (Word 0) inside in
      let first = ordered at o here in
      let made : eval words (get_or (operation_terms run) at NullLit) vs ≡ eval words (operation_term (operation_terms run) o) vs = ap (λ t. eval words t vs) (operation_term-at run at o here first) in
      subst (λ n. IsAnswer (eval words (get_or (operation_terms run) n NullLit) vs) (get_or (set old at v) n (Word 0))) (sym place)
      (subst (λ x. IsAnswer x (get_or (set old at v) at (Word 0))) (sym made)
      (subst (IsAnswer (eval words (operation_term (operation_terms run) o) vs)) (sym new) (gives (operation_terms run) first known)))
]

-- an operation that is read stands behind those that it works on
pub ordered-at : (run : List Operation) (at count : ℕ) (d : Operation) → AreOrdered run → at < length run → at ≤ count → IsOperationBelow count (get_or run at d)
ordered-at run at count d ordered inside le = operation-below at count (get_or run at d) le (ordered at (get_or run at d) (slice_get-get_or run at d inside))

-- ---------- what no term of an operation is ----------
all-made : (P : Term → Type 0) → P NullLit → ((op : UnaryOp) (a : Term) → P (UnaryTerm op a)) → ((op : BinaryOp) (a b : Term) → P (BinaryTerm op a b))
    → (before : List Term) (run : List Operation) → ((at : ℕ) → P (get_or before at NullLit)) → (at : ℕ) → P (get_or (entries_from operation_term before run) at NullLit)
all-made P none one two before [] is at = is at
all-made P none one two before (o ∷ run) is at = all-made P none one two (before ++ operation_term before o ∷ []) run pushed at
  where
    new : (terms : List Term) (o : Operation) → P (operation_term terms o)
    new terms (Unary op a) = one op (operand_term terms a)
    new terms (Binary op a b) = two op (operand_term terms a) (operand_term terms b)

    push : (ts : List Term) → ((at : ℕ) → P (get_or ts at NullLit)) → (t : Term) → P t → (at : ℕ) → P (get_or (ts ++ t ∷ []) at NullLit)
    push [] all t is zero = is
    push [] all t is (suc at) = none
    push (x ∷ ts) all t is zero = all zero
    push (x ∷ ts) all t is (suc at) = push ts (λ n. all (suc n)) t is at

    pushed : (at : ℕ) → P (get_or (before ++ operation_term before o ∷ []) at NullLit)
    pushed at = push before is (operation_term before o) (new before o) at

-- what holds of the terms that operators make holds of the terms of operations
pub made-term : (run : List Operation) (at : ℕ) (P : Term → Type 0) → P NullLit → ((op : UnaryOp) (a : Term) → P (UnaryTerm op a)) → ((op : BinaryOp) (a b : Term) → P (BinaryTerm op a b)) → P (get_or (operation_terms run) at NullLit)
made-term run at P none one two = all-made P none one two [] run (λ n. none) at

-- ---------- the last value ----------
-- a value that is kept is the last one
pub last-more : (at : ℕ) (old : List Value) (v : Value) → at < length old → IsLast (at + 1) v (set old at v)
last-more at old v inside k is = let place : k ≡ at = omega arith in sym (get_or-set_same old at v (Word 0) inside) ∙ ap (λ n. get_or (set old at v) n (Word 0)) (sym place)

-- the last of some values is that of the last term
pub last-answer : (vs : List ℕ) (run : List Operation) (at : ℕ) (last : Value) (values : List Value) → 1 ≤ length run → at ≡ length run → AreValues vs (operation_terms run) at values → IsLast at last values → IsAnswer (eval words (last_term run) vs) last
last-answer vs run at last values some all known is =
    let place : length run - 1 < at = omega arith in
    let next : (length run - 1) + 1 ≡ at = omega arith in
    subst (IsAnswer (eval words (last_term run) vs)) (sym (is (length run - 1) next)) (known (length run - 1) place)
