-- The statements of a method's body: they are there, and so are those of their blocks.
use Rattle.std.proofs.Common.{◌≡◌, ◌<◌, ℕ, zero, suc, true, List, [], ◌∷◌, length, Some, sym, ap, subst, arith, get_or, inl, inr, ◌∙◌}
use Rattle.std.specs.Prelude.{◌⊎◌, nat_eq, slice_get, Contains}
use Rattle.std.proofs.lemmas.Bool.{eqb-true, or_cases}
use Rattle.perm_tree.specs.declared.ast.ClassDecl.{ClassDecl}
use Rattle.perm_tree.specs.declared.ast.Stmt.{Stmt}
use Rattle.perm_tree.specs.InBody.{inner_places, places_with, all_within, body_if, method_if, method_at, IsStmtOf}
use Rattle.perm_tree.specs.Places.{AllBelow}
use Rattle.perm_tree.specs.Resolves.{IsResolved}
use Rattle.perm_tree.specs.UnitTables.{Tables}
use Rattle.perm_tree.specs.Vars.{those}
use Rattle.perm_tree.proofs.MethodMarks.{method-class}
use Rattle.perm_tree.proofs.StandOnce.{holders-same}
use Rattle.perm_tree.proofs.HeldStatements.{Reached, earlier, element-there, inner-below, listed-below, reached, reaches}
use Rattle.perm_rules.proofs.Hiding.Holders.{own-within, sink}
use Rattle.perm_rules.proofs.Modes.{Stands, stands-in}

-- what is listed is contained
pub contained-those : (xs : List ℕ) (i : ℕ) → those xs i ≡ true → Contains xs i
contained-those [] i e = absurd (let no : ⊥ = cc e in no)
contained-those (x ∷ xs) i e = pick (or_cases (nat_eq i x) (those xs i) e) (λ q. contained-those xs i q)
  where
    pick : (nat_eq i x ≡ true) ⊎ (those xs i ≡ true) → (those xs i ≡ true → Contains xs i) → Contains (x ∷ xs) i
    pick (inl q) later = (zero, omega arith, sym (eqb-true i x q))
    pick (inr q) later = let (k, less, is) = later q in (suc k, omega (arith, less), is)

module _ (u : Tables) (resolved : IsResolved u) where
  placed : (j : ℕ) (s : Stmt) → slice_get u.program.stmts j ≡ Some s → AllBelow j (inner_places s)
  placed j s here = inner-below (length u.program.exprs) j s.kind (resolved.formed.placed.stmts j s here)

  one : (j k : ℕ) (s t : Stmt) (i : ℕ) → slice_get u.program.stmts j ≡ Some s → slice_get u.program.stmts k ≡ Some t → those (inner_places s) i ≡ true → those (inner_places t) i ≡ true → j ≡ k
  one = holders-same u.program resolved.formed.orderly.once

  module _ (m at : ℕ) (stands : Stands u m at) where
    class : (c : ClassDecl) × (slice_get u.program.classes stands.table.class ≡ Some c) × (slice_get c.methods stands.table.«method» ≡ Some stands.«method»)
    class = method-class u stands.table stands.«method» stands.is

    body_below : AllBelow (length u.program.stmts) stands.«method».body.stmts
    body_below = (resolved.formed.placed.bodies stands.table.class class.0 class.1 stands.table.«method» stands.«method» class.2).0

    from : Reached (all_within u.program.stmts) stands.«method».body.stmts at
    from = reached (all_within u.program.stmts) stands.«method».body.stmts at stands.inside

    top : from.at < length u.program.stmts
    top = listed-below (length u.program.stmts) stands.«method».body.stmts from.at body_below from.listed

    below : (at ≡ from.at) ⊎ (those (get_or (all_within u.program.stmts) from.at []) at ≡ true) → at < length u.program.stmts
    below (inl q) = subst (λ n. n < length u.program.stmts) (sym q) top
    below (inr q) = let less : at < from.at = earlier u.program.stmts placed (suc from.at) from.at at (omega arith) q in omega (arith, top)

    inner : (s : Stmt) (i : ℕ) → slice_get u.program.stmts at ≡ Some s → those (inner_places s) i ≡ true → (at ≡ from.at) ⊎ (those (get_or (all_within u.program.stmts) from.at []) at ≡ true)
        → those (places_with (all_within u.program.stmts) stands.«method».body.stmts) i ≡ true
    inner s i here inside (inl q) =
        reaches (all_within u.program.stmts) stands.«method».body.stmts i at (subst (λ n. those stands.«method».body.stmts n ≡ true) (sym q) from.listed) (inr (own-within u.program.stmts placed one at s i here inside))
    inner s i here inside (inr q) =
        reaches (all_within u.program.stmts) stands.«method».body.stmts i from.at from.listed (inr (sink u.program.stmts placed one at s i here inside (suc from.at) from.at (omega arith) q))

  -- a statement of a body has a place of the program
  pub stmt-below : (m at : ℕ) → IsStmtOf u m at → at < length u.program.stmts
  stmt-below m at inside = let stands = stands-in u m at inside in below m at stands (from m at stands).either

  -- a statement of a body is there
  pub stmt-there : (m at : ℕ) → IsStmtOf u m at → (s : Stmt) × (slice_get u.program.stmts at ≡ Some s)
  stmt-there m at inside = element-there u.program.stmts at (stmt-below m at inside)

  -- what stands in a block of a statement of a body is of the body too
  pub stmt-inside : (m at : ℕ) (s : Stmt) (i : ℕ) → IsStmtOf u m at → slice_get u.program.stmts at ≡ Some s → those (inner_places s) i ≡ true → IsStmtOf u m i
  stmt-inside m at s i inside here listed =
      let stands = stands-in u m at inside in
      let same : method_at u m ≡ Some stands.«method» = ap (method_if u) stands.here ∙ stands.is in
      subst (λ o. Contains (places_with (all_within u.program.stmts) (body_if o)) i) (sym same)
      (contained-those (places_with (all_within u.program.stmts) stands.«method».body.stmts) i (inner m at stands s i here listed (from m at stands).either))
