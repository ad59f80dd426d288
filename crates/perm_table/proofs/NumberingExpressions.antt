-- The operands of the expressions from a low place on have their terms.
use Rattle.std.proofs.Common.{◌≡◌, ◌∙◌, ℕ, ◌+◌, ◌-◌, ◌<◌, ◌≤◌, inl, inr, List, [], ◌∷◌, ◌++◌, length, Some, get_or, take, drop, refl, sym, ap, subst, arith, length-append, append-nil}
use Rattle.std.specs.Prelude.{slice_get}
use Rattle.std.proofs.Math.ListN.{get_or-append}
use Rattle.std.proofs.Math.Seq.{get_or-append_seam}
use Rattle.std.proofs.lemmas.Bool.{cases_lt}
use Rattle.std.proofs.lemmas.List.{get_or_past, take_all}
use Rattle.std.proofs.lemmas.Option.{slice_get_within, slice_get-get_or}
use Rattle.perm_tree.specs.declared.ast.Expr.{Expr}
use Rattle.perm_tree.specs.declared.ast.Expr.TheVariants.{Number, Bool as Truth, Null, Var, Unary, Binary}
use Rattle.perm_tree.specs.declared.bodies.Bodies.{Bodies}
use Rattle.perm_tree.specs.declared.bodies.Expression.TheVariants as expressions
use Rattle.perm_tree.specs.declared.bodies.Operand.{Operand}
use Rattle.perm_tree.specs.declared.bodies.Operand.TheVariants as operands
use Rattle.perm_tree.specs.declared.bodies.Operation.{Operation}
use Rattle.perm_tree.specs.BodyTerms.{operand_term, operation_term, operation_terms, stretch, IsOperandBelow, IsOperationBelow, AreOrdered}
use Rattle.perm_tree.specs.Code as code
use Rattle.perm_tree.specs.Code.{Term, NullLit}
use Rattle.perm_tree.specs.CodeNames.{term_of, terms_of, term_at}
use Rattle.perm_tree.specs.Lows.{lows_of}
use Rattle.perm_tree.specs.Places.{ExprBelow, IsPlaced}
use Rattle.perm_tree.proofs.CodeLaws.{term_at-is}
use Rattle.perm_tree.proofs.Entries.{entries_from-append, length-entries_of}
use Rattle.perm_tree.proofs.LowLaws.{AreFrom, operands-from, low-le}
use Rattle.perm_table.specs.Numbered.{TellsTerm}
use Rattle.perm_table.specs.Numbering.{Naming, setting_of}
use Rattle.perm_table.specs.Operands.{node_of, node_term, operand_at, operand_for, operations_for, AreKnown, IsNodeBelow}
use Rattle.perm_table.specs.declared.numbering.expressions.Node.{Node}
use Rattle.perm_table.specs.declared.numbering.expressions.Node.TheVariants as nodes

-- ---------- operations with more behind ----------
length-terms : (run : List Operation) → length (operation_terms run) ≡ length run
length-terms run = length-entries_of operation_term run

-- the terms of one operation more
terms-push : (run : List Operation) (o : Operation) → operation_terms (run ++ o ∷ []) ≡ operation_terms run ++ operation_term (operation_terms run) o ∷ []
terms-push run o = entries_from-append operation_term [] run (o ∷ [])

-- an operand keeps its term
operand-stays : (earlier more : List Term) (a : Operand) → IsOperandBelow (length earlier) a → operand_term (earlier ++ more) a ≡ operand_term earlier a
operand-stays earlier more (operands.Number n) below = refl
operand-stays earlier more (operands.Bool b) below = refl
operand-stays earlier more operands.Null below = refl
operand-stays earlier more (operands.Local x) below = refl
operand-stays earlier more (operands.Earlier i) below = get_or-append earlier more NullLit i below

below-more : (a : Operand) (m n : ℕ) → m ≤ n → IsOperandBelow m a → IsOperandBelow n a
below-more (operands.Number i) m n le below = tt
below-more (operands.Bool b) m n le below = tt
below-more operands.Null m n le below = tt
below-more (operands.Local x) m n le below = tt
below-more (operands.Earlier i) m n le below = omega arith

ordered-more : (run : List Operation) (o : Operation) → AreOrdered run → IsOperationBelow (length run) o → AreOrdered (run ++ o ∷ [])
ordered-more run o are below at p here = elim (cases_lt at (length run)) [
  | inl within ↦
      let old : slice_get run at ≡ Some p = slice_get-get_or run at p within ∙ ap Some (sym (get_or-append run (o ∷ []) p at within) ∙ read) in
      are at p old
  | inr past ↦
      let place : length run ≡ at = omega (arith, slice_get_within (run ++ o ∷ []) at p here, length-append run (o ∷ [])) in
      let same : o ≡ p = sym (get_or-append_seam run o [] p) ∙ ap (λ n. get_or (run ++ o ∷ []) n p) place ∙ read in
      subst (λ n. IsOperationBelow n p) place (subst (IsOperationBelow (length run)) same below)
]
  where
    read : get_or (run ++ o ∷ []) at p ≡ p
    read = let e : Some (get_or (run ++ o ∷ []) at p) ≡ Some p = sym (slice_get-get_or (run ++ o ∷ []) at p (slice_get_within (run ++ o ∷ []) at p here)) ∙ here in cc

-- ---------- one expression more ----------
module _ (n : Naming) (low at : ℕ) (all : List Operand) (run : List Operation) (k : AreKnown n low at all run) (placed : IsPlaced n.tables.program) where
  abbrev lows : List ℕ
  lows = lows_of n.tables.program.exprs

  abbrev terms : List Term
  terms = terms_of n.vars n.tables.program.exprs

  -- a node stands behind its operands
  pub node-below : (e : Expr) → IsNodeBelow (length run) (node_of n.vars (operand_at low all) e)
  node-below (Number i) = tt
  node-below (Truth b) = tt
  node-below Null = tt
  node-below (Var x) = tt
  node-below (Unary op a) = k.below (a - low)
  node-below (Binary op a b) = (k.below (a - low), k.below (b - low))

  term-is : (e : Expr) (mid : ℕ) → low ≤ mid → ExprBelow at e → AreFrom mid lows e → node_term (operation_terms run) (node_of n.vars (operand_at low all) e) ≡ term_of n.vars terms e
  term-is (Number i) mid le below from = refl
  term-is (Truth b) mid le below from = refl
  term-is Null mid le below from = refl
  term-is (Var x) mid le below from = refl
  term-is (Unary op a) mid le below from = ap (code.Unary op) (k.terms a below (omega arith))
  term-is (Binary op a b) mid le below from = let s = k.terms a below.0 (omega (arith, from.0)) in let t = k.terms b below.1 (omega (arith, from.1)) in (λ j. code.Binary op (s j) (t j))

  -- the node of an expression that is made of those from the low place on has its term
  pub node-term : (e : Expr) → slice_get n.tables.program.exprs at ≡ Some e → low ≤ get_or lows at 0 → node_term (operation_terms run) (node_of n.vars (operand_at low all) e) ≡ term_at (setting_of n) at
  node-term e here from =
      let below : ExprBelow at e = placed.exprs at e here in
      term-is e (get_or lows at 0) from below (operands-from n.tables.program.exprs at e here below) ∙ sym (term_at-is n.tables n.vars at e placed here)

  leaf-term : (a : Operand) (ts : List Term) → IsOperandBelow 0 a → operand_term ts a ≡ operand_term [] a
  leaf-term (operands.Number i) ts below = refl
  leaf-term (operands.Bool b) ts below = refl
  leaf-term operands.Null ts below = refl
  leaf-term (operands.Local x) ts below = refl
  leaf-term (operands.Earlier i) ts below = absurd (omega arith)

  ordered-with : (node : Node) → IsNodeBelow (length run) node → AreOrdered (run ++ operations_for node)
  ordered-with (nodes.Operand a) below = subst AreOrdered (sym (append-nil run)) k.ordered
  ordered-with (nodes.Operation o) below = ordered-more run o k.ordered below

  length-with : (node : Node) → length run ≤ length (run ++ operations_for node)
  length-with node = omega (arith, length-append run (operations_for node))

  operand-below : (node : Node) → IsNodeBelow (length run) node → IsOperandBelow (length (run ++ operations_for node)) (operand_for (length run) node)
  operand-below (nodes.Operand a) below = below-more a 0 (length (run ++ [])) (omega arith) below
  operand-below (nodes.Operation o) below = omega (arith, length-append run (o ∷ []))

  old-term : (node : Node) (a : Operand) → IsOperandBelow (length run) a → operand_term (operation_terms (run ++ operations_for node)) a ≡ operand_term (operation_terms run) a
  old-term (nodes.Operand b) a below = ap (λ (r : List Operation). operand_term (operation_terms r) a) (append-nil run)
  old-term (nodes.Operation o) a below =
      ap (λ (ts : List Term). operand_term ts a) (terms-push run o)
      ∙ operand-stays (operation_terms run) (operation_term (operation_terms run) o ∷ []) a (subst (λ m. IsOperandBelow m a) (sym (length-terms run)) below)

  new-term : (node : Node) → IsNodeBelow (length run) node → operand_term (operation_terms (run ++ operations_for node)) (operand_for (length run) node) ≡ node_term (operation_terms run) node
  new-term (nodes.Operand a) below = leaf-term a (operation_terms (run ++ [])) below
  new-term (nodes.Operation o) below =
      ap (λ (ts : List Term). get_or ts (length run) NullLit) (terms-push run o)
      ∙ ap (λ m. get_or (operation_terms run ++ operation_term (operation_terms run) o ∷ []) m NullLit) (sym (length-terms run))
      ∙ get_or-append_seam (operation_terms run) (operation_term (operation_terms run) o) [] NullLit

  -- the operand of the next expression is known too
  pub known-more : (e : Expr) → slice_get n.tables.program.exprs at ≡ Some e
      → AreKnown n low (at + 1) (all ++ operand_for (length run) (node_of n.vars (operand_at low all) e) ∷ []) (run ++ operations_for (node_of n.vars (operand_at low all) e))
  known-more e here = record { count = omega (arith, k.count, length-append all (new ∷ [])); ordered = ordered-with node (node-below e); below = each; terms = found }
    where
      node : Node
      node = node_of n.vars (operand_at low all) e

      new : Operand
      new = operand_for (length run) node

      longer : List Operation
      longer = run ++ operations_for node

      at_end : get_or (all ++ new ∷ []) (length all) operands.Null ≡ new
      at_end = get_or-append_seam all new [] operands.Null

      each : (i : ℕ) → IsOperandBelow (length longer) (get_or (all ++ new ∷ []) i operands.Null)
      each i = elim (cases_lt i (length all)) [
        | inl within ↦
            subst (IsOperandBelow (length longer)) (sym (get_or-append all (new ∷ []) operands.Null i within))
            (below-more (get_or all i operands.Null) (length run) (length longer) (length-with node) (k.below i))
        | inr past ↦ elim (cases_lt (length all) i) [
          | inl far ↦ subst (IsOperandBelow (length longer)) (sym (get_or_past (all ++ new ∷ []) i operands.Null (omega (arith, length-append all (new ∷ []))))) tt
          | inr near ↦
              let place : length all ≡ i = omega arith in
              subst (λ m. IsOperandBelow (length longer) (get_or (all ++ new ∷ []) m operands.Null)) place (subst (IsOperandBelow (length longer)) (sym at_end) (operand-below node (node-below e)))
        ]
      ]

      found : (i : ℕ) → i < at + 1 → low ≤ get_or lows i 0 → operand_term (operation_terms longer) (operand_at low (all ++ new ∷ []) i) ≡ term_at (setting_of n) i
      found i within from = elim (cases_lt i at) [
        | inl earlier ↦
            let place : low ≤ i = omega (arith, low-le n.tables.program.exprs i) in
            let inside : i - low < length all = omega (arith, k.count) in
            ap (operand_term (operation_terms longer)) (get_or-append all (new ∷ []) operands.Null (i - low) inside)
            ∙ old-term node (operand_at low all i) (k.below (i - low))
            ∙ k.terms i earlier from
        | inr later ↦
            let place : at ≡ i = omega arith in
            let start : at - low ≡ length all = omega (arith, k.count) in
            let read : operand_at low (all ++ new ∷ []) at ≡ new = ap (λ m. get_or (all ++ new ∷ []) m operands.Null) start ∙ at_end in
            let high : low ≤ get_or lows at 0 = subst (λ m. low ≤ get_or lows m 0) (sym place) from in
            subst (λ m. operand_term (operation_terms longer) (operand_at low (all ++ new ∷ []) m) ≡ term_at (setting_of n) m) place
            (ap (operand_term (operation_terms longer)) read ∙ new-term node (node-below e) ∙ node-term e here high)
      ]

-- before the first expression nothing is known
pub known-none : (n : Naming) (low : ℕ) → AreKnown n low low [] []
known-none n low = record {
  count = omega arith;
  ordered = λ at o here. absurd (let no : ⊥ = cc here in no);
  below = λ i. tt;
  terms = λ k within from. absurd (omega (arith, low-le n.tables.program.exprs k));
}

-- ---------- what is added ----------
drop-front : {A : Type 0} (xs ys : List A) → drop (length xs) (xs ++ ys) ≡ ys
drop-front [] ys = refl
drop-front (x ∷ xs) ys = drop-front xs ys

-- what is added is a stretch
pub behind : {A : Type 0} (xs ys : List A) → stretch (xs ++ ys) (length xs) (length ys) ≡ ys
behind xs ys = ap (take (length ys)) (drop-front xs ys) ∙ take_all (length ys) ys (omega arith)

-- some operations are there where they are added
pub operations-told : (old new : Bodies) (run : List Operation) (o : Operation) (first count : ℕ)
    → first ≡ length old.operations → count ≡ length (run ++ o ∷ []) → new ≡ record old { operations = old.operations ++ (run ++ o ∷ []) } → AreOrdered run → IsOperationBelow (length run) o
    → TellsTerm old new (operation_term (operation_terms run) o) (expressions.Operations first count)
operations-told old new run o first count begin many is are below =
    subst (λ (b : Bodies). TellsTerm old b t (expressions.Operations first count)) (sym is)
    (subst (λ f. TellsTerm old made t (expressions.Operations f count)) (sym begin)
    (subst (λ m. TellsTerm old made t (expressions.Operations (length old.operations) m)) (sym many) told))
  where
    all : List Operation
    all = run ++ o ∷ []

    t : Term
    t = operation_term (operation_terms run) o

    made : Bodies
    made = record old { operations = old.operations ++ all }

    last : length all - 1 ≡ length (operation_terms run)
    last = omega (arith, length-append run (o ∷ []), length-terms run)

    told : TellsTerm old made t (expressions.Operations (length old.operations) (length all))
    told = record {
      grows = record { operations = (all, refl); arguments = ([], sym (append-nil old.arguments)); sides = refl; steps = refl; places = refl; entries = refl; run = refl; fields = refl };
      arguments = refl;
      inside = (
        omega (arith, length-append run (o ∷ [])),
        omega (arith, length-append old.operations all),
        subst AreOrdered (sym (behind old.operations all)) (ordered-more run o are below),
      );
      term =
          ap (λ (r : List Operation). get_or (operation_terms r) (length all - 1) NullLit) (behind old.operations all)
          ∙ ap (λ m. get_or (operation_terms all) m NullLit) last
          ∙ ap (λ (ts : List Term). get_or ts (length (operation_terms run)) NullLit) (terms-push run o)
          ∙ get_or-append_seam (operation_terms run) t [] NullLit;
    }
