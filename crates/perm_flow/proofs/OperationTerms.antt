-- The terms of operations that stand one behind the other.
use Rattle.std.proofs.Common.{◌≡◌, ◌∙◌, ℕ, zero, false, suc, ◌<◌, ◌≤◌, List, [], ◌∷◌, ◌++◌, length, Some, get_or, refl, ap, sym, subst, arith, pos}
use Rattle.std.specs.Prelude.{slice_get}
use Rattle.std.proofs.Math.ListN.{get_or-append}
use Rattle.std.proofs.lemmas.Option.{slice_get-get_or}
use Rattle.perm_tree.specs.declared.ast.BinaryOp.{BinaryOp}
use Rattle.perm_tree.specs.declared.ast.UnaryOp.{UnaryOp}
use Rattle.perm_tree.specs.declared.bodies.Operand.{Operand}
use Rattle.perm_tree.specs.declared.bodies.Operand.TheVariants.{Number, Bool as Truth, Null, Local, Earlier}
use Rattle.perm_tree.specs.declared.bodies.Operation.{Operation}
use Rattle.perm_tree.specs.declared.bodies.Operation.TheVariants.{Unary, Binary}
use Rattle.perm_tree.specs.BodyTerms.{operand_term, operation_term, operation_terms, AreOrdered, IsOperandBelow, IsOperationBelow}
use Rattle.perm_tree.specs.Code.{Term, NullLit, Unary as UnaryTerm, Binary as BinaryTerm}
use Rattle.perm_tree.specs.Entries.{entries_from}
use Rattle.perm_tree.specs.declared.ast.UnaryOp.TheVariants.{Minus}
use Rattle.perm_tree.proofs.Entries.{ReadsBefore, entries_of-at}
use Rattle.perm_rules.specs.Parts.{Context}
use Rattle.perm_rules.specs.Sorts.{term_sort}
use Rattle.perm_flow.specs.Questions.{is_beside_null, is_null}

-- ---------- places ----------
-- an operand below a place is below each later one
operand-below : (at count : ℕ) (a : Operand) → at ≤ count → IsOperandBelow at a → IsOperandBelow count a
operand-below at count (Earlier i) le below = omega (arith, below)
operand-below at count (Number n) le below = tt
operand-below at count (Truth b) le below = tt
operand-below at count Null le below = tt
operand-below at count (Local x) le below = tt

-- so is an operation
operation-below : (at count : ℕ) (o : Operation) → at ≤ count → IsOperationBelow at o → IsOperationBelow count o
operation-below at count (Unary op a) le below = operand-below at count a le below
operation-below at count (Binary op a b) le below = (operand-below at count a le below.0, operand-below at count b le below.1)

-- ---------- terms ----------
operand-reads : (at : ℕ) (a : Operand) → IsOperandBelow at a → (before after : List Term) → length before ≡ at → operand_term (before ++ after) a ≡ operand_term before a
operand-reads at (Earlier i) below before after count = get_or-append before after NullLit i (omega (arith, below))
operand-reads at (Number n) below before after count = refl
operand-reads at (Truth b) below before after count = refl
operand-reads at Null below before after count = refl
operand-reads at (Local x) below before after count = refl

operation-reads : (at : ℕ) (o : Operation) → IsOperationBelow at o → ReadsBefore operation_term at o
operation-reads at (Unary op a) below before after count = ap (UnaryTerm op) (operand-reads at a below before after count)
operation-reads at (Binary op a b) below before after count =
    ap (λ t. BinaryTerm op t (operand_term (before ++ after) b)) (operand-reads at a below.0 before after count)
    ∙ ap (BinaryTerm op (operand_term before a)) (operand-reads at b below.1 before after count)

-- of ordered operations, the term of the one at a place
operation_term-at : (run : List Operation) (at : ℕ) (o : Operation) → AreOrdered run → slice_get run at ≡ Some o → get_or (operation_terms run) at NullLit ≡ operation_term (operation_terms run) o
operation_term-at run at o ordered here = entries_of-at operation_term run at o NullLit here (operation-reads at o (ordered at o here))

-- ---------- what holds of every operation's term ----------
all-made : (P : Term → Type 0) → P NullLit → ((op : UnaryOp) (a : Term) → P (UnaryTerm op a)) → ((op : BinaryOp) (a b : Term) → P (BinaryTerm op a b))
    → (before : List Term) (run : List Operation) → ((at : ℕ) → P (get_or before at NullLit)) → (at : ℕ) → P (get_or (entries_from operation_term before run) at NullLit)
all-made P none one two before [] is at = is at
all-made P none one two before (o ∷ run) is at = all-made P none one two (before ++ operation_term before o ∷ []) run pushed at
  where
    new : (terms : List Term) (o : Operation) → P (operation_term terms o)
    new terms (Unary op a) = one op (operand_term terms a)
    new terms (Binary op a b) = two op (operand_term terms a) (operand_term terms b)

    push : (ts : List Term) → ((at : ℕ) → P (get_or ts at NullLit)) → (t : Term) → P t → (at : ℕ) → P (get_or (ts ++ t ∷ []) at NullLit)
    push [] all t is zero = is
    push [] all t is (suc at) = none
    push (x ∷ ts) all t is zero = all zero
    push (x ∷ ts) all t is (suc at) = push ts (λ n. all (suc n)) t is at

    pushed : (at : ℕ) → P (get_or (before ++ operation_term before o ∷ []) at NullLit)
    pushed at = push before is (operation_term before o) (new before o) at

-- what holds of the terms that operators make holds of the terms of operations
pub made-term : (run : List Operation) (at : ℕ) (P : Term → Type 0) → P NullLit → ((op : UnaryOp) (a : Term) → P (UnaryTerm op a)) → ((op : BinaryOp) (a b : Term) → P (BinaryTerm op a b)) → P (get_or (operation_terms run) at NullLit)
made-term run at P none one two = all-made P none one two [] run (λ n. none) at

-- ---------- earlier operations ----------
-- what stands for an operation that isn't there
abbrev pub no_operation : Operation
no_operation = Unary Minus (Number (pos 0))

-- the term of an earlier operation is no `null`
pub earlier-no_null : (run : List Operation) (at : ℕ) → AreOrdered run → at < length run → is_null (get_or (operation_terms run) at NullLit) ≡ false
earlier-no_null run at ordered inside = ap is_null (operation_term-at run at o ordered (slice_get-get_or run at no_operation inside)) ∙ go o
  where
    o : Operation
    o = get_or run at no_operation

    go : (o : Operation) → is_null (operation_term (operation_terms run) o) ≡ false
    go (Unary op a) = refl
    go (Binary op a b) = refl

-- it is no variable
pub earlier-no_local : (c : Context) (run : List Operation) (at : ℕ) (b : Term) → is_beside_null c (get_or (operation_terms run) at NullLit) b ≡ false
earlier-no_local c run at b = made-term run at (λ t. is_beside_null c t b ≡ false) refl (λ op a. refl) (λ op a d. refl)

-- its sort is that of the operation
pub earlier-sort : (c : Context) (run : List Operation) (at : ℕ) → AreOrdered run → at < length run
    → term_sort c (operation_term (operation_terms run) (get_or run at no_operation)) ≡ term_sort c (get_or (operation_terms run) at NullLit)
earlier-sort c run at ordered inside = ap (term_sort c) (sym (operation_term-at run at (get_or run at no_operation) ordered (slice_get-get_or run at no_operation inside)))

-- how far into the operations of its expression an operand reaches
abbrev pub place_of : Operand → ℕ
place_of (Earlier i) = suc i
place_of a = 0

-- ---------- from an operation to its operands ----------
-- the operand is an earlier operation
pub record Leads (run : List Operation) (left : Operand) (o : Operation) : Type 0 where
  pub place : ℕ
  pub at : left ≡ Earlier place
  pub inside : place < length run
  pub below : IsOperationBelow place o
  pub term : operand_term (operation_terms run) left ≡ operation_term (operation_terms run) o

pub leads : (run : List Operation) (left : Operand) (i : ℕ) (o : Operation) → AreOrdered run → IsOperandBelow (length run) left → left ≡ Earlier i → get_or run i no_operation ≡ o → Leads run left o
leads run left i o ordered below is read =
    let inside : i < length run = subst (IsOperandBelow (length run)) is below in
    let here : slice_get run i ≡ Some o = slice_get-get_or run i no_operation inside ∙ ap Some read in
    record { place = i; at = is; inside = inside; below = ordered i o here; term = ap (operand_term (operation_terms run)) is ∙ operation_term-at run i o ordered here }

-- its operands are among the operations
pub leads-below : (run : List Operation) (left : Operand) (o : Operation) → Leads run left o → IsOperationBelow (length run) o
leads-below run left o x = operation-below x.place (length run) o (omega (arith, x.inside)) x.below

-- and they stand before it
pub leads-down : (run : List Operation) (left : Operand) (o : Operation) (a : Operand) (x : Leads run left o) → IsOperandBelow x.place a → place_of a < place_of left
leads-down run left o a x below = subst (λ n. place_of a < n) (sym (ap place_of x.at)) (go a below)
  where
    go : (a : Operand) → IsOperandBelow x.place a → place_of a < suc x.place
    go (Earlier i) below = omega (arith, below)
    go (Number n) below = omega arith
    go (Truth b) below = omega arith
    go Null below = omega arith
    go (Local y) below = omega arith
