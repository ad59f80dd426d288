-- The tables of a program name its methods, and there is one routine for each.
use Rattle.std.proofs.Common.{◌≡◌, ℕ, zero, suc, ◌+◌, List, [], ◌∷◌, ◌++◌, length, Option, Some, refl, sym, ap, subst, arith, add-zero}
use Rattle.std.specs.Prelude.{flat_map, slice_get}
use Rattle.perm_tree.specs.declared.ast.ClassDecl.{ClassDecl}
use Rattle.perm_tree.specs.declared.ast.Method.{Method}
use Rattle.perm_tree.specs.declared.unit.MethodTable.{MethodTable}
use Rattle.perm_tree.specs.Code.{Routine}
use Rattle.perm_tree.specs.CodeOf.{routine, routine_if, routines_of}
use Rattle.perm_tree.specs.Lookup.{method_in, method_of}
use Rattle.perm_tree.specs.Places.{Listing}
use Rattle.perm_tree.specs.Scopes.{method_vars, all_inner, class_tables, tables_from, tables_of}
use Rattle.perm_tree.specs.TextOrder.{methods_of}
use Rattle.perm_tree.specs.UnitTables.{Tables}

-- a table is that of a method, and has its variables
abbrev pub IsTable : Listing → MethodTable → Method → Type 0
IsTable p t d = (method_of p t ≡ Some d) × (t.vars ≡ method_vars p.stmts (all_inner p.stmts) t.class d)

-- each table is that of a method of the program
abbrev pub AllMethods : Listing → List MethodTable → Type 0
AllMethods p [] = Unit {0}
AllMethods p (t ∷ ts) = ((d : Method) × IsTable p t d) × AllMethods p ts

-- the tables are those of these methods, one by one
abbrev pub AreTables : Listing → List MethodTable → List Method → Type 0
AreTables p [] [] = Unit {0}
AreTables p (t ∷ ts) (d ∷ ds) = IsTable p t d × AreTables p ts ds
AreTables p _ _ = ⊥

AreTables-append : (p : Listing) (ts us : List MethodTable) (ds es : List Method) → AreTables p ts ds → AreTables p us es → AreTables p (ts ++ us) (ds ++ es)
AreTables-append p [] us [] es f g = g
AreTables-append p [] us (d ∷ ds) es f g = absurd f
AreTables-append p (t ∷ ts) us [] es f g = absurd f
AreTables-append p (t ∷ ts) us (d ∷ ds) es f g = (f.0, AreTables-append p ts us ds es f.1 g)

class_tables-are : (p : Listing) (class m : ℕ) (ds : List Method)
    → ((j : ℕ) (d : Method) → slice_get ds j ≡ Some d → method_in (slice_get p.classes class) (m + j) ≡ Some d) → AreTables p (class_tables p.stmts (all_inner p.stmts) class m ds) ds
class_tables-are p class m [] there = tt
class_tables-are p class m (d ∷ ds) there = (
  (subst (λ n. method_in (slice_get p.classes class) n ≡ Some d) (add-zero m) (there zero d refl), refl),
  class_tables-are p class (suc m) ds (λ j e q. subst (λ n. method_in (slice_get p.classes class) n ≡ Some e) (omega arith) (there (suc j) e q)),
)

tables_from-are : (p : Listing) (k : ℕ) (cs : List ClassDecl)
    → ((j : ℕ) (c : ClassDecl) → slice_get cs j ≡ Some c → slice_get p.classes (k + j) ≡ Some c) → AreTables p (tables_from p.stmts (all_inner p.stmts) k cs) (flat_map (λ c. c.methods) cs)
tables_from-are p k [] there = tt
tables_from-are p k (c ∷ cs) there =
    let here : slice_get p.classes k ≡ Some c = subst (λ n. slice_get p.classes n ≡ Some c) (add-zero k) (there zero c refl) in
    AreTables-append
    p
    (class_tables p.stmts (all_inner p.stmts) k 0 c.methods)
    (tables_from p.stmts (all_inner p.stmts) (suc k) cs)
    c.methods
    (flat_map (λ c. c.methods) cs)
    (class_tables-are p k 0 c.methods (λ j d q. rw here (subst (λ n. slice_get c.methods n ≡ Some d) (omega arith) q)))
    (tables_from-are p (suc k) cs (λ j e q. subst (λ n. slice_get p.classes n ≡ Some e) (omega arith) (there (suc j) e q)))

-- the tables of a program are those of its methods, in order
pub tables_of-are : (p : Listing) → AreTables p (tables_of p) (methods_of p)
tables_of-are p = tables_from-are p 0 p.classes (λ j c q. subst (λ n. slice_get p.classes n ≡ Some c) (omega arith) q)

all-methods : (p : Listing) (ts : List MethodTable) (ds : List Method) → AreTables p ts ds → AllMethods p ts
all-methods p [] [] are = tt
all-methods p [] (d ∷ ds) are = absurd are
all-methods p (t ∷ ts) [] are = absurd are
all-methods p (t ∷ ts) (d ∷ ds) are = ((d, are.0), all-methods p ts ds are.1)

pub tables_of-methods : (p : Listing) → AllMethods p (tables_of p)
tables_of-methods p = all-methods p (tables_of p) (methods_of p) (tables_of-are p)

-- there is one routine for each table
pub length-routines_of : (u : Tables) (ts : List MethodTable) → AllMethods u.program ts → length (routines_of u ts) ≡ length ts
length-routines_of u [] f = refl
length-routines_of u (t ∷ ts) f = rw f.0.1.0 (ap suc (length-routines_of u ts f.1))

-- the routine of a table has the number of the table
pub routines_of-at : (u : Tables) (ts : List MethodTable) (at : ℕ) (t : MethodTable) (d : Method) → AllMethods u.program ts → slice_get ts at ≡ Some t → method_of u.program t ≡ Some d
    → slice_get (routines_of u ts) at ≡ Some (routine u t d)
routines_of-at u [] at t d f here is = absurd (let no : ⊥ = cc here in no)
routines_of-at u (s ∷ ts) zero t d f here is =
    let same : s ≡ t = cc here in
    let there : method_of u.program s ≡ Some d = subst (λ (r : MethodTable). method_of u.program r ≡ Some d) (sym same) is in
    rw there (ap (λ (r : MethodTable). Some (routine u r d)) same)
routines_of-at u (s ∷ ts) (suc at) t d f here is = rw f.0.1.0 (routines_of-at u ts at t d f.1 here is)

-- the table and the method of a routine
abbrev pub HasTable : Tables → List MethodTable → ℕ → Routine → Type 0
HasTable u ts at r = (t : MethodTable) × (d : Method) × (slice_get ts at ≡ Some t) × IsTable u.program t d × (routine u t d ≡ r)

-- a routine is that of the table with its number
pub routine-table : (u : Tables) (ts : List MethodTable) (at : ℕ) (r : Routine) → AllMethods u.program ts → slice_get (routines_of u ts) at ≡ Some r → HasTable u ts at r
routine-table u [] at r f here = absurd (let no : ⊥ = cc here in no)
routine-table u (t ∷ ts) at r f here =
    first f.0 at (subst (λ (o : Option Method). slice_get (routine_if u t o ++ routines_of u ts) at ≡ Some r) f.0.1.0 here) (λ n q. routine-table u ts n r f.1 q)
  where
    first : (is : (d : Method) × IsTable u.program t d) (n : ℕ) → slice_get (routine u t is.0 ∷ routines_of u ts) n ≡ Some r
        → ((m : ℕ) → slice_get (routines_of u ts) m ≡ Some r → HasTable u ts m r) → HasTable u (t ∷ ts) n r
    first (d, is) zero q later = let same : routine u t d ≡ r = cc q in (t, d, refl, is, same)
    first (d, is) (suc n) q later = later n q
