-- The method of a table of a resolved unit: it is there, its places are in range, and its marks rise.
use Rattle.std.proofs.Common.{◌≡◌, ℕ, zero, suc, List, [], ◌∷◌, ◌++◌, length, Option, Some, None, refl, ap, subst}
use Rattle.std.specs.Prelude.{flat_map, slice_get}
use Rattle.perm_tree.specs.declared.ast.ClassDecl.{ClassDecl}
use Rattle.perm_tree.specs.declared.ast.Expr.{Expr}
use Rattle.perm_tree.specs.declared.ast.Method.{Method}
use Rattle.perm_tree.specs.declared.ast.Stmt.{Stmt}
use Rattle.perm_tree.specs.declared.unit.MethodTable.{MethodTable}
use Rattle.perm_tree.specs.Lookup.{method_in, method_of}
use Rattle.perm_tree.specs.Places.{MethodPlaced}
use Rattle.perm_tree.specs.Resolves.{IsResolved}
use Rattle.perm_tree.specs.TextOrder.{Mark, IsRising, method_marks, methods_marks}
use Rattle.perm_tree.specs.UnitTables.{Tables}
use Rattle.perm_tree.proofs.Passing.{method-passes, methods-pass}

-- the class of a table is there, and so is its method
pub method-class : (u : Tables) (t : MethodTable) (d : Method) → method_of u.program t ≡ Some d → (c : ClassDecl) × (slice_get u.program.classes t.class ≡ Some c) × (slice_get c.methods t.«method» ≡ Some d)
method-class u t d is = there (slice_get u.program.classes t.class) is
  where
    there : (o : Option ClassDecl) → method_in o t.«method» ≡ Some d → (c : ClassDecl) × (o ≡ Some c) × (slice_get c.methods t.«method» ≡ Some d)
    there None e = absurd (let no : ⊥ = cc e in no)
    there (Some c) e = (c, refl, e)

-- ---------- marks ----------
-- the marks of a method rise, and others behind them
pub record MethodRises (exprs : List Expr) (stmts : List Stmt) (d : Method) : Type 0 where
  pub rest : List Mark
  pub rise : IsRising 0 (method_marks exprs stmts d rest)

module _ (exprs : List Expr) (stmts : List Stmt) where
  -- the marks of two rows of methods
  pub methods-append : (ds es : List Method) (rest : List Mark) → methods_marks exprs stmts (ds ++ es) rest ≡ methods_marks exprs stmts ds (methods_marks exprs stmts es rest)
  methods-append [] es rest = refl
  methods-append (d ∷ ds) es rest = ap (method_marks exprs stmts d) (methods-append ds es rest)

  method-rises : (ds : List Method) (m : ℕ) (d : Method) (rest : List Mark) → IsRising 0 (methods_marks exprs stmts ds rest) → slice_get ds m ≡ Some d → MethodRises exprs stmts d
  method-rises [] m d rest rise here = absurd (let no : ⊥ = cc here in no)
  method-rises (e ∷ ds) zero d rest rise here = let same : e ≡ d = cc here in subst (MethodRises exprs stmts) same (record { rest = methods_marks exprs stmts ds rest; rise = rise })
  method-rises (e ∷ ds) (suc m) d rest rise here = method-rises ds m d rest (method-passes exprs stmts e 0 (methods_marks exprs stmts ds rest) rise) here

  -- those of each method of a class that is there rise
  class-rises : (cs : List ClassDecl) (n : ℕ) (c : ClassDecl) (m : ℕ) (d : Method) (rest : List Mark) → IsRising 0 (methods_marks exprs stmts (flat_map (λ c. c.methods) cs) rest)
      → slice_get cs n ≡ Some c → slice_get c.methods m ≡ Some d → MethodRises exprs stmts d
  class-rises [] n c m d rest rise here there = absurd (let no : ⊥ = cc here in no)
  class-rises (e ∷ cs) n c m d rest rise here there = at n here (class-rises cs)
    where
      others : List Mark
      others = methods_marks exprs stmts (flat_map (λ c. c.methods) cs) rest

      split : IsRising 0 (methods_marks exprs stmts e.methods others)
      split = subst (IsRising 0) (methods-append e.methods (flat_map (λ c. c.methods) cs) rest) rise

      at : (i : ℕ) → slice_get (e ∷ cs) i ≡ Some c
          → ((j : ℕ) (b : ClassDecl) (n : ℕ) (f : Method) (rest : List Mark) → IsRising 0 (methods_marks exprs stmts (flat_map (λ c. c.methods) cs) rest) → slice_get cs j ≡ Some b → slice_get b.methods n ≡ Some f → MethodRises exprs stmts f) → MethodRises exprs stmts d
      at zero q later = let same : c ≡ e = cc q in method-rises e.methods m d others split (subst (λ (b : ClassDecl). slice_get b.methods m ≡ Some d) same there)
      at (suc j) q later = later j c m d rest (methods-pass exprs stmts e.methods 0 others split) q there

-- ---------- units ----------
-- the places and the marks of the method of a table
pub IsResolved-method : (u : Tables) (t : MethodTable) (d : Method) → IsResolved u → method_of u.program t ≡ Some d
    → MethodPlaced (length u.program.exprs) (length u.program.stmts) d × MethodRises u.program.exprs u.program.stmts d
IsResolved-method u t d is here =
    let found = method-class u t d here in (
      is.formed.placed.bodies t.class found.0 found.1 t.«method» d found.2,
      class-rises u.program.exprs u.program.stmts u.program.classes t.class found.0 t.«method» d [] is.formed.orderly.ordered found.1 found.2,
    )
