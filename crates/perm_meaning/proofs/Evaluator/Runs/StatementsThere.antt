-- The statements of a part of a method are those of the program, and one with no turn left fails.
use Rattle.std.proofs.Common.{◌≡◌, ◌≢◌, ℕ, zero, suc, ◌<◌, List, [], ◌∷◌, length, Option, Some, None, refl, sym, subst, arith}
use Rattle.std.specs.Prelude.{slice_get}
use Rattle.std.proofs.lemmas.Option.{slice_get_within}
use Rattle.perm_tree.specs.declared.ast.Block.{Block}
use Rattle.perm_tree.specs.declared.ast.ClassDecl.{ClassDecl}
use Rattle.perm_tree.specs.declared.ast.Method.{Method}
use Rattle.perm_tree.specs.declared.ast.Rhs.{Rhs}
use Rattle.perm_tree.specs.declared.ast.Rhs.TheVariants as rhs
use Rattle.perm_tree.specs.declared.ast.Stmt.{Stmt}
use Rattle.perm_tree.specs.declared.ast.StmtKind.{StmtKind}
use Rattle.perm_tree.specs.declared.ast.StmtKind.TheVariants as kinds
use Rattle.perm_tree.specs.declared.unit.MethodTable.{MethodTable}
use Rattle.perm_tree.specs.InBody.{body_if, method_if}
use Rattle.perm_tree.specs.Lookup.{method_in}
use Rattle.perm_tree.specs.Places.{AllBelow, ElseBelow, IsPlaced, KindPlaced, RhsPlaced}
use Rattle.perm_tree.specs.Scopes.{else_stmts}
use Rattle.perm_tree.specs.UnitTables.{Tables}
use Rattle.perm_meaning.specs.declared.eval.frames.Failure.TheVariants as failures
use Rattle.perm_meaning.specs.declared.eval.parts.Part.{Part}
use Rattle.perm_meaning.specs.declared.eval.parts.Part.TheVariants as parts
use Rattle.perm_meaning.specs.declared.eval.state.Fate.TheVariants as fates
use Rattle.perm_meaning.specs.declared.eval.state.State.{State}
use Rattle.perm_meaning.specs.Evaluator.Parts.{first_if, first_stmts, recover_stmts, second_if, second_stmts, stmts_in}
use Rattle.perm_meaning.specs.Evaluator.Runs.{ComesNext, IsNext}
use Rattle.perm_meaning.specs.Evaluator.States.{Moves}
use Rattle.perm_meaning.proofs.Leads.{none-some}
use Rattle.perm_meaning.proofs.Evaluator.Measure.{end-less}
use Rattle.perm_meaning.proofs.Evaluator.ControlTurns.{turns-out}
use Rattle.perm_meaning.proofs.Evaluator.Runs.Blocks.{moves-means}

-- ---------- places ----------
-- a place among places that are below a number is below it
below-at : (n : ℕ) (is : List ℕ) (at i : ℕ) → AllBelow n is → slice_get is at ≡ Some i → i < n
below-at n [] at i below e = none-some e
below-at n (j ∷ is) zero i below e = subst (λ k. k < n) (let same : j ≡ i = cc e in same) below.0
below-at n (j ∷ is) (suc at) i below e = below-at n is at i below.1 e

-- the statements of a statement's first block stand before it
first-below : (exprs at : ℕ) (kind : StmtKind) → KindPlaced exprs at kind → AllBelow at (first_stmts kind)
first-below exprs at (kinds.Declare t x) placed = tt
first-below exprs at (kinds.Assign t x r) placed = of_rhs r placed
  where
    of_rhs : (r : Rhs) → RhsPlaced exprs at r → AllBelow at (recover_stmts r)
    of_rhs (rhs.Recover b w give) placed = placed
    of_rhs (rhs.Value a) placed = tt
    of_rhs (rhs.Field y f) placed = tt
    of_rhs (rhs.TakeField y f) placed = tt
    of_rhs (rhs.Item y n) placed = tt
    of_rhs (rhs.New c) placed = tt
    of_rhs (rhs.NewArray n) placed = tt
    of_rhs (rhs.Call c) placed = tt
first-below exprs at (kinds.SetField y f a) placed = tt
first-below exprs at (kinds.SetItem y n a) placed = tt
first-below exprs at (kinds.Call c) placed = tt
first-below exprs at (kinds.Print n) placed = tt
first-below exprs at (kinds.If n a b) placed = placed.1
first-below exprs at (kinds.While n a) placed = placed.1
first-below exprs at (kinds.Par a b) placed = placed.0

-- so do those of its second block
second-below : (exprs at : ℕ) (kind : StmtKind) → KindPlaced exprs at kind → AllBelow at (second_stmts kind)
second-below exprs at (kinds.Declare t x) placed = tt
second-below exprs at (kinds.Assign t x r) placed = tt
second-below exprs at (kinds.SetField y f a) placed = tt
second-below exprs at (kinds.SetItem y n a) placed = tt
second-below exprs at (kinds.Call c) placed = tt
second-below exprs at (kinds.Print n) placed = tt
second-below exprs at (kinds.If n a b) placed = of_else b placed.2
  where
    of_else : (b : Option Block) → ElseBelow at b → AllBelow at (else_stmts b)
    of_else None below = tt
    of_else (Some b) below = below
second-below exprs at (kinds.While n a) placed = tt
second-below exprs at (kinds.Par a b) placed = placed.1

module _ (u : Tables) (placed : IsPlaced u.program) where
  -- a statement of a body is one of the program
  body-there : (at i : ℕ) (o : Option MethodTable) → slice_get (body_if (method_if u o)) at ≡ Some i → i < length u.program.stmts
  body-there at i None e = none-some e
  body-there at i (Some t) e = of_class (slice_get u.program.classes t.class) refl e
    where
      of_method : (c : ClassDecl) (o : Option Method) → slice_get u.program.classes t.class ≡ Some c → slice_get c.methods t.«method» ≡ o → slice_get (body_if o) at ≡ Some i → i < length u.program.stmts
      of_method c None here there e = none-some e
      of_method c (Some d) here there e = below-at (length u.program.stmts) d.body.stmts at i (placed.bodies t.class c here t.«method» d there).0 e

      of_class : (o : Option ClassDecl) → slice_get u.program.classes t.class ≡ o → slice_get (body_if (method_in o t.«method»)) at ≡ Some i → i < length u.program.stmts
      of_class None here e = none-some e
      of_class (Some c) here e = of_method c (slice_get c.methods t.«method») here refl e

  -- so is one of the first block of a statement
  first-there : (j at i : ℕ) (o : Option Stmt) → slice_get u.program.stmts j ≡ o → slice_get (first_if o) at ≡ Some i → i < length u.program.stmts
  first-there j at i None here e = none-some e
  first-there j at i (Some s) here e =
      let inside = slice_get_within u.program.stmts j s here in
      let before = below-at j (first_stmts s.kind) at i (first-below (length u.program.exprs) j s.kind (placed.stmts j s here)) e in
      omega (arith, inside, before)

  -- and one of its second block
  second-there : (j at i : ℕ) (o : Option Stmt) → slice_get u.program.stmts j ≡ o → slice_get (second_if o) at ≡ Some i → i < length u.program.stmts
  second-there j at i None here e = none-some e
  second-there j at i (Some s) here e =
      let inside = slice_get_within u.program.stmts j s here in
      let before = below-at j (second_stmts s.kind) at i (second-below (length u.program.exprs) j s.kind (placed.stmts j s here)) e in
      omega (arith, inside, before)

  part-there : (m : ℕ) (p : Part) (at i : ℕ) → slice_get (stmts_in u m p) at ≡ Some i → i < length u.program.stmts
  part-there m parts.Body at i e = body-there at i (slice_get u.tables m) e
  part-there m (parts.First j) at i e = first-there j at i (slice_get u.program.stmts j) refl e
  part-there m (parts.Second j) at i e = second-there j at i (slice_get u.program.stmts j) refl e

-- past the places of a list nothing is there
not-past : {X : Type 0} (xs : List X) (i : ℕ) → i < length xs → slice_get xs i ≡ None → ⊥
not-past [] i lt e = absurd (omega (arith, lt))
not-past (x ∷ xs) zero lt e = none-some (sym e)
not-past (x ∷ xs) (suc i) lt e = not-past xs i (omega (arith, lt)) e

-- a place in a part of a method is one of the program
pub stmts-there : (u : Tables) → IsPlaced u.program → (m : ℕ) (p : Part) (at i : ℕ) → slice_get (stmts_in u m p) at ≡ Some i → slice_get u.program.stmts i ≢ None
stmts-there u placed m p at i e none = not-past u.program.stmts i (part-there u placed m p at i e) none

-- ---------- no turns ----------
-- a statement that comes next with no turn left fails
pub turn-out : (u : Tables) (s : State) (i : ℕ) (d : Stmt) → ComesNext u s i d → s.turns ≡ 0 → IsPlaced u.program → IsNext u s fates.Goes s (fates.Fails failures.NoTurns)
turn-out u s i d next none placed = record {
  means = moves-means u s s (fates.Fails failures.NoTurns) (subst (λ (z : State). Moves u z z (fates.Fails failures.NoTurns)) (λ j. record s { turns = sym none j }) (turns-out u s i d placed next.next next.here)) refl
      (λ n. record { vars = λ below. below; frames = λ below frames. frames; value = λ below. tt });
  small = λ small. small;
  less = end-less s (fates.Fails failures.NoTurns) refl;
}
