-- The routine with which the run of a resolved unit starts.
use Rattle.std.proofs.Common.{◌≡◌, ◌≢◌, ℕ, zero, suc, ◌+◌, ◌<◌, Bool, true, false, List, [], ◌∷◌, ◌++◌, Option, Some, None, refl, sym, ap, subst, arith, ◌∙◌, eq-eqb, ne_eqb, add-zero}
use Rattle.std.specs.Prelude.{◌&&◌, slice_get, map, cond, find}
use Rattle.std.proofs.lemmas.List.Folds.{find_at}
use Rattle.std.proofs.lemmas.Bool.{and_parts}
use Rattle.perm_tree.specs.declared.ast.ClassDecl.{ClassDecl}
use Rattle.perm_tree.specs.declared.ast.FieldDecl.{FieldDecl}
use Rattle.perm_tree.specs.declared.ast.Method.{Method}
use Rattle.perm_tree.specs.declared.ast.Perm.{Perm}
use Rattle.perm_tree.specs.declared.ast.Perm.TheVariants.{Isolated, Immutable, Readable, Writable}
use Rattle.perm_tree.specs.declared.ast.Shape.TheVariants.{Class, Array}
use Rattle.perm_tree.specs.declared.ast.Ty.{Ty}
use Rattle.perm_tree.specs.declared.ast.Ty.TheVariants.{Long, Bool as Boolean, Ref}
use Rattle.perm_tree.specs.declared.ast.Stmt.{Stmt}
use Rattle.perm_tree.specs.declared.unit.MethodTable.{MethodTable}
use Rattle.perm_tree.specs.declared.unit.VarInfo.{VarInfo}
use Rattle.perm_tree.specs.CodeOf.{routine, code_of}
use Rattle.perm_tree.specs.Lookup.{method_in, method_of, is_method_if, is_method_of, is_class_word, main_place, run_place}
use Rattle.perm_tree.specs.Names.{run_in, main_run, is_long, is_writable, is_input, takes_input, is_good_run}
use Rattle.perm_tree.specs.Places.{Listing}
use Rattle.perm_tree.specs.Resolves.{unmentioned, IsResolved}
use Rattle.perm_tree.specs.Scopes.{method_vars, all_inner, class_tables, tables_from, tables_of}
use Rattle.perm_tree.specs.Spelling.{main_word, run_word, is_word}
use Rattle.perm_tree.specs.UnitTables.{Tables}
use Rattle.perm_tree.proofs.AcceptedNames.{names_refusal-accepted}
use Rattle.perm_tree.proofs.TableLaws.{AllMethods, tables_of-methods, routines_of-at}

-- ---------- what is found in two lists, one after the other ----------
find-right : {A : Type 0} (f : A → Bool) (xs ys : List A) → find f xs ≡ None → find f (xs ++ ys) ≡ find f ys
find-right f [] ys e = refl
find-right f (x ∷ xs) ys e = right (f x) x (find f xs) (find f (xs ++ ys)) (find f ys) e (find-right f xs ys)
  where
    right : {A : Type 0} (b : Bool) (x : A) (o r s : Option A) → cond b (Some x) o ≡ None → (o ≡ None → r ≡ s) → cond b (Some x) r ≡ s
    right true x o r s e more = absurd (let no : ⊥ = cc e in no)
    right false x o r s e more = more e

find-left : {A : Type 0} (f : A → Bool) (xs ys : List A) → find f ys ≡ None → find f (xs ++ ys) ≡ find f xs
find-left f [] ys e = e
find-left f (x ∷ xs) ys e = ap (cond (f x) (Some x)) (find-left f xs ys e)

-- ---------- the method of a class whose name passes a test ----------
module _ (p : Listing) (k : ℕ) (test : ℕ → Bool) where
  -- a table is found where the method is found, and it is that method's
  abbrev Finds : Option MethodTable → Option Method → Type 0
  Finds None None = Unit {0}
  Finds (Some t) (Some d) = (t.class ≡ k) × (method_of p t ≡ Some d)
  Finds _ _ = ⊥

  cond-finds : (b : Bool) (t : MethodTable) (d : Method) (o : Option MethodTable) (r : Option Method) → (t.class ≡ k) × (method_of p t ≡ Some d) → Finds o r → Finds (cond b (Some t) o) (cond b (Some d) r)
  cond-finds true t d o r here later = here
  cond-finds false t d o r here later = later

  abbrev is_here : MethodTable → Bool
  is_here = is_method_of p k test

  passes : (t : MethodTable) (d : Method) → t.class ≡ k → method_of p t ≡ Some d → is_here t ≡ test d.name.name
  passes t d same is = let e = eq-eqb t.class k same in λ j. e j && is_method_if test (is j)

  abbrev is_named : Method → Bool
  is_named d = test d.name.name

  step : (t : MethodTable) (d : Method) (ts : List MethodTable) (ds : List Method) → t.class ≡ k → method_of p t ≡ Some d → Finds (find is_here ts) (find is_named ds) → Finds (find is_here (t ∷ ts)) (find is_named (d ∷ ds))
  step t d ts ds same is later =
      subst
      (λ b. Finds (cond b (Some t) (find is_here ts)) (find is_named (d ∷ ds)))
      (sym (passes t d same is))
      (cond-finds (test d.name.name) t d (find is_here ts) (find is_named ds) (same, is) later)

  class-finds : (stmts : List Stmt) (inner : List (List VarInfo)) (m : ℕ) (ds : List Method)
      → ((j : ℕ) (d : Method) → slice_get ds j ≡ Some d → method_in (slice_get p.classes k) (m + j) ≡ Some d) → Finds (find is_here (class_tables stmts inner k m ds)) (find is_named ds)
  class-finds stmts inner m [] there = tt
  class-finds stmts inner m (d ∷ ds) there =
      step
      (record { class = k; «method» = m; vars = method_vars stmts inner k d })
      d
      (class_tables stmts inner k (suc m) ds)
      ds
      refl
      (subst (λ n. method_in (slice_get p.classes k) n ≡ Some d) (add-zero m) (there zero d refl))
      (class-finds stmts inner (suc m) ds (λ j e q. subst (λ n. method_in (slice_get p.classes k) n ≡ Some e) (omega arith) (there (suc j) e q)))

  -- no table of another class is found
  other-class : (stmts : List Stmt) (inner : List (List VarInfo)) (class m : ℕ) (ds : List Method) → class ≢ k → find is_here (class_tables stmts inner class m ds) ≡ None
  other-class stmts inner class m [] differs = refl
  other-class stmts inner class m (d ∷ ds) differs = rw (ne_eqb class k differs) (other-class stmts inner class (suc m) ds differs)

  past : (stmts : List Stmt) (inner : List (List VarInfo)) (n : ℕ) (cs : List ClassDecl) → k < n → find is_here (tables_from stmts inner n cs) ≡ None
  past stmts inner n [] behind = refl
  past stmts inner n (c ∷ cs) behind =
      find-left is_here (class_tables stmts inner n 0 c.methods) (tables_from stmts inner (suc n) cs) (past stmts inner (suc n) cs (omega arith)) ∙ other-class stmts inner n 0 c.methods (λ e. absurd (omega arith))

  among : (stmts : List Stmt) (inner : List (List VarInfo)) (n j : ℕ) (cs : List ClassDecl) (c : ClassDecl) → slice_get cs j ≡ Some c → n + j ≡ k → slice_get p.classes k ≡ Some c
      → Finds (find is_here (tables_from stmts inner n cs)) (find is_named c.methods)
  among stmts inner n j [] c here at is = absurd (let no : ⊥ = cc here in no)
  among stmts inner n zero (b ∷ cs) c here at is =
      let first : b ≡ c = cc here in
      let place : k ≡ n = omega arith in
      subst
      (λ (o : Option MethodTable). Finds o (find is_named c.methods))
      (sym (find-left is_here (class_tables stmts inner n 0 b.methods) (tables_from stmts inner (suc n) cs) (past stmts inner (suc n) cs (omega arith))))
      (subst
      (λ (x : ClassDecl). Finds (find is_here (class_tables stmts inner n 0 x.methods)) (find is_named c.methods))
      (sym first)
      (subst
      (λ i. Finds (find is_here (class_tables stmts inner i 0 c.methods)) (find is_named c.methods))
      place
      (class-finds stmts inner 0 c.methods (λ i d q. rw is (subst (λ m. slice_get c.methods m ≡ Some d) (omega arith) q)))))
  among stmts inner n (suc j) (b ∷ cs) c here at is =
      subst
      (λ (o : Option MethodTable). Finds o (find is_named c.methods))
      (sym (find-right is_here (class_tables stmts inner n 0 b.methods) (tables_from stmts inner (suc n) cs) (other-class stmts inner n 0 b.methods (λ e. absurd (omega arith)))))
      (among stmts inner (suc n) j cs c here (omega arith) is)

  found : (o : Option MethodTable) (d : Method) → Finds o (Some d) → (t : MethodTable) × (o ≡ Some t) × (t.class ≡ k) × (method_of p t ≡ Some d)
  found None d none = absurd none
  found (Some t) d here = (t, refl, here.0, here.1)

-- ---------- Run ----------
-- the table, the method and the routine of a unit's Run
pub record HasRun (u : Tables) : Type 0 where
  pub table : MethodTable
  pub «method» : Method
  pub at : slice_get u.tables (run_place u) ≡ Some table
  pub class : table.class ≡ main_place u.program
  pub is : method_of u.program table ≡ Some «method»
  pub good : is_good_run «method» ≡ true
  pub routine : slice_get (code_of u).routines (code_of u).run ≡ Some (routine u table «method»)

run-class : (p : Listing) (o : Option ClassDecl) (d : Method) → run_in p o ≡ Some d → (c : ClassDecl) × (o ≡ Some c) × (find (λ e. is_word p.names run_word e.name.name) c.methods ≡ Some d)
run-class p None d e = absurd (let no : ⊥ = cc e in no)
run-class p (Some c) d e = (c, refl, e)

-- each resolved unit has its Run
pub IsResolved-run : (u : Tables) → IsResolved u → HasRun u
IsResolved-run u is = by_method (names_refusal-accepted (unmentioned p) is.accepted).run
  where
    p : Listing
    p = u.program

    k : ℕ
    k = main_place p

    test : ℕ → Bool
    test = is_word p.names run_word

    by_table : (d : Method) → is_good_run d ≡ true → (t : MethodTable) × (find (is_method_of p k test) (tables_of p) ≡ Some t) × (t.class ≡ k) × (method_of p t ≡ Some d) → HasRun u
    by_table d good (t, e, class, of) =
        let here : slice_get u.tables (run_place u) ≡ Some t = sym (find_at (is_method_of p k test) u.tables) ∙ ap (find (is_method_of p k test)) is.tables ∙ e in
        record {
          table = t;
          «method» = d;
          at = here;
          class = class;
          is = of;
          good = good;
          routine = routines_of-at u u.tables (run_place u) t d (subst (AllMethods p) (sym is.tables) (tables_of-methods p)) here of;
        }

    by_class : (d : Method) → is_good_run d ≡ true → (c : ClassDecl) × (find (is_class_word p main_word) p.classes ≡ Some c) × (find (is_named p k test) c.methods ≡ Some d) → HasRun u
    by_class d good (c, e, named) =
        let here : slice_get p.classes k ≡ Some c = sym (find_at (is_class_word p main_word) p.classes) ∙ e in
        let finds = among p k test p.stmts (all_inner p.stmts) 0 k p.classes c here (omega arith) here in
        by_table d good (found p k test (find (is_method_of p k test) (tables_of p)) d (subst (Finds p k test (find (is_method_of p k test) (tables_of p))) named finds))

    by_method : (d : Method) × (main_run p ≡ Some d) × (is_good_run d ≡ true) → HasRun u
    by_method (d, e, good) = by_class d good (run-class p (find (is_class_word p main_word) p.classes) d e)

long-is : (t : Ty) → is_long t ≡ true → t ≡ Long
long-is Long e = refl
long-is Boolean e = absurd (let no : ⊥ = cc e in no)
long-is (Ref q shape) e = absurd (let no : ⊥ = cc e in no)

writable-is : (q : Perm) → is_writable q ≡ true → q ≡ Writable
writable-is Isolated e = absurd (let no : ⊥ = cc e in no)
writable-is Immutable e = absurd (let no : ⊥ = cc e in no)
writable-is Readable e = absurd (let no : ⊥ = cc e in no)
writable-is Writable e = refl

input-is : (t : Ty) → is_input t ≡ true → t ≡ Ref Immutable Array
input-is Long e = absurd (let no : ⊥ = cc e in no)
input-is Boolean e = absurd (let no : ⊥ = cc e in no)
input-is (Ref Isolated shape) e = absurd (let no : ⊥ = cc e in no)
input-is (Ref Immutable (Class n)) e = absurd (let no : ⊥ = cc e in no)
input-is (Ref Immutable Array) e = refl
input-is (Ref Readable shape) e = absurd (let no : ⊥ = cc e in no)
input-is (Ref Writable shape) e = absurd (let no : ⊥ = cc e in no)

inputs-are : (fs : List FieldDecl) → takes_input fs ≡ true → map (λ f. f.ty) fs ≡ Ref Immutable Array ∷ []
inputs-are [] e = absurd (let no : ⊥ = cc e in no)
inputs-are (f ∷ []) e = ap (λ t. t ∷ []) (input-is f.ty e)
inputs-are (f ∷ g ∷ fs) e = absurd (let no : ⊥ = cc e in no)

-- it takes the immutable input on a writable object, and gives a `long`
pub good_run-types : (d : Method) → is_good_run d ≡ true → (d.result ≡ Long) × (map (λ f. f.ty) d.params ≡ Ref Immutable Array ∷ []) × (d.receiver ≡ Writable)
good_run-types d good =
    let first = and_parts (is_long d.result) (takes_input d.params && is_writable d.receiver) good in
    let rest = and_parts (takes_input d.params) (is_writable d.receiver) first.1 in
    (long-is d.result first.0, inputs-are d.params rest.0, writable-is d.receiver rest.1)
