-- The terms of operations, and the variables that stand in them.
use Rattle.std.proofs.Common.{◌≡◌, ◌∙◌, ℕ, zero, suc, ◌<◌, ◌≤◌, List, [], ◌∷◌, ◌++◌, length, Some, refl, sym, ap, subst, arith, get_or}
use Rattle.std.specs.Prelude.{slice_get}
use Rattle.std.proofs.Math.ListN.{get_or-append}
use Rattle.std.proofs.lemmas.Option.{slice_get-get_or}
use Rattle.perm_tree.specs.declared.bodies.Argument.{Argument}
use Rattle.perm_tree.specs.declared.bodies.Operand.{Operand}
use Rattle.perm_tree.specs.declared.bodies.Operand.TheVariants as operands
use Rattle.perm_tree.specs.declared.bodies.Operation.{Operation}
use Rattle.perm_tree.specs.declared.bodies.Operation.TheVariants as operations
use Rattle.perm_tree.specs.BodyTerms.{operand_term, operation_term, operation_terms, AreArgumentsIn, AreOrdered, IsArgumentIn, IsOperandBelow, IsOperationBelow}
use Rattle.perm_tree.specs.Code.{Term, NullLit, Binary, Unary}
use Rattle.perm_tree.specs.Mentions.{term_mentions}
use Rattle.perm_tree.specs.Vars.{plus}
use Rattle.perm_tree.proofs.Entries.{entries_of-at}
use Rattle.perm_par.specs.Operands.{left_of, rank, right_of}
use Rattle.perm_par.proofs.KnownSets.{plus-comm}

-- ---------- terms ----------
operand-reads : (before after : List Term) (a : Operand) → IsOperandBelow (length before) a → operand_term (before ++ after) a ≡ operand_term before a
operand-reads before after (operands.Number n) below = refl
operand-reads before after (operands.Bool b) below = refl
operand-reads before after operands.Null below = refl
operand-reads before after (operands.Local x) below = refl
operand-reads before after (operands.Earlier i) below = get_or-append before after NullLit i below

operation-reads : (before after : List Term) (o : Operation) → IsOperationBelow (length before) o → operation_term (before ++ after) o ≡ operation_term before o
operation-reads before after (operations.Unary op a) below = ap (Unary op) (operand-reads before after a below)
operation-reads before after (operations.Binary op a b) below = let s = operand-reads before after a below.0 in let t = operand-reads before after b below.1 in λ i. Binary op (s i) (t i)

-- the term of an operation of an expression is made of those before it
pub operation-at : (run : List Operation) (at : ℕ) (o : Operation) → AreOrdered run → slice_get run at ≡ Some o → get_or (operation_terms run) at NullLit ≡ operation_term (operation_terms run) o
operation-at run at o ordered here =
    entries_of-at operation_term run at o NullLit here (λ before after count. operation-reads before after o (subst (λ n. IsOperationBelow n o) (sym count) (ordered at o here)))

-- ---------- variables ----------
-- those of an operation are those of its operands
pub operation-mentions : (ts : List Term) (o : Operation) → term_mentions (operation_term ts o) ≡ plus (term_mentions (operand_term ts (right_of o))) (term_mentions (operand_term ts (left_of o)))
operation-mentions ts (operations.Unary op a) = refl
operation-mentions ts (operations.Binary op a b) = plus-comm (term_mentions (operand_term ts a)) (term_mentions (operand_term ts b))

-- ---------- operands ----------
operand-below : (at n : ℕ) (a : Operand) → at ≤ n → IsOperandBelow at a → IsOperandBelow n a
operand-below at n (operands.Number m) less below = tt
operand-below at n (operands.Bool b) less below = tt
operand-below at n operands.Null less below = tt
operand-below at n (operands.Local x) less below = tt
operand-below at n (operands.Earlier i) less below = omega arith

-- the operands of an operation are below it
pub left-below : (at n : ℕ) (o : Operation) → at ≤ n → IsOperationBelow at o → IsOperandBelow n (left_of o)
left-below at n (operations.Unary op a) less below = operand-below at n a less below
left-below at n (operations.Binary op a b) less below = operand-below at n a less below.0

pub right-below : (at n : ℕ) (o : Operation) → at ≤ n → IsOperationBelow at o → IsOperandBelow n (right_of o)
right-below at n (operations.Unary op a) less below = tt
right-below at n (operations.Binary op a b) less below = operand-below at n b less below.1

pub rank-below : (at : ℕ) (a : Operand) → IsOperandBelow at a → rank a ≤ at
rank-below at (operands.Number m) below = omega arith
rank-below at (operands.Bool b) below = omega arith
rank-below at operands.Null below = omega arith
rank-below at (operands.Local x) below = omega arith
rank-below at (operands.Earlier i) below = below

-- ---------- arguments ----------
pub argument-at : (all : List Operation) (args : List Argument) (i : ℕ) (d : Argument) → i < length args → AreArgumentsIn all args → IsArgumentIn all (get_or args i d)
argument-at all [] i d less are = absurd (omega arith)
argument-at all (a ∷ args) zero d less are = are.0
argument-at all (a ∷ args) (suc i) d less are = argument-at all args i d (omega arith) are.1

-- ---------- the operands of an operation at a place ----------
-- both are below the place, and their variables are those of the operation
pub record OperandsAt (run : List Operation) (at : ℕ) (r l : Operand) : Type 0 where
  pub right : IsOperandBelow (length run) r
  pub left : IsOperandBelow (length run) l
  pub right_rank : rank r ≤ at
  pub left_rank : rank l ≤ at
  pub mentions : term_mentions (get_or (operation_terms run) at NullLit) ≡ plus (term_mentions (operand_term (operation_terms run) r)) (term_mentions (operand_term (operation_terms run) l))

pub operands-at : (run : List Operation) (at : ℕ) (d : Operation) (r l : Operand) → AreOrdered run → at < length run → r ≡ right_of (get_or run at d) → l ≡ left_of (get_or run at d) → OperandsAt run at r l
operands-at run at d r l ordered less right left =
    subst (λ (q : Operand). OperandsAt run at q l) (sym right)
    (subst (λ (q : Operand). OperandsAt run at (right_of (get_or run at d)) q) (sym left)
    (record {
      right = right-below at (length run) o (omega arith) below;
      left = left-below at (length run) o (omega arith) below;
      right_rank = rank-below at (right_of o) (right-below at at o (omega arith) below);
      left_rank = rank-below at (left_of o) (left-below at at o (omega arith) below);
      mentions = ap term_mentions (operation-at run at o ordered here) ∙ operation-mentions (operation_terms run) o;
    }))
  where
    o : Operation
    o = get_or run at d

    here : slice_get run at ≡ Some o
    here = slice_get-get_or run at d less

    below : IsOperationBelow at o
    below = ordered at o here

-- so is the right one alone
pub right-at : (run : List Operation) (at : ℕ) (d : Operation) (r : Operand) → AreOrdered run → at < length run → r ≡ right_of (get_or run at d) → IsOperandBelow (length run) r × (rank r ≤ at)
right-at run at d r ordered less right = let parts = operands-at run at d r (left_of (get_or run at d)) ordered less right refl in (parts.right, parts.right_rank)
