-- A resolved unit has fewer methods than 32 bits tell apart.
use Rattle.std.proofs.Common.{◌≡◌, ℕ, suc, ◌*◌, ◌<◌, ◌≤◌, List, [], ◌∷◌, ◌++◌, length, Option, Some, None, refl, sym, ap, arith, ◌∙◌, inl, inr, get_or}
use Rattle.std.specs.Prelude.{◌⊎◌, flat_map, slice_get}
use Rattle.std.proofs.lemmas.List.{length-append, length-map}
use Rattle.std.proofs.lemmas.Option.{slice_get_cases}
use Rattle.perm_tree.specs.declared.ast.ClassDecl.{ClassDecl}
use Rattle.perm_tree.specs.declared.ast.Ident.{Ident}
use Rattle.perm_tree.specs.declared.ast.Method.{Method}
use Rattle.perm_tree.specs.declared.ast.Stmt.{Stmt}
use Rattle.perm_tree.specs.declared.errors.Limit.{Limit}
use Rattle.perm_tree.specs.declared.errors.Limit.TheVariants.{Classes, Fields, Methods}
use Rattle.perm_tree.specs.declared.errors.TableError.{TableError}
use Rattle.perm_tree.specs.declared.unit.VarInfo.{VarInfo}
use Rattle.perm_tree.specs.Names.{Complaint, class_mentions, class_names, complaints, doubles, field_names, first_of_all, in_class, in_method, main_run, method_names, most, passes, passing, refusal_from, run_refusal, unknowns}
use Rattle.perm_tree.specs.Places.{Listing}
use Rattle.perm_tree.specs.Resolves.{unmentioned, IsResolved}
use Rattle.perm_tree.specs.Scopes.{all_inner, class_tables, tables_from, tables_of}
use Rattle.perm_tree.specs.UnitTables.{Tables}

-- ---------- nothing is refused ----------
nil-left : {A : Type 0} (xs ys : List A) → xs ++ ys ≡ [] → xs ≡ []
nil-left [] ys e = refl
nil-left (x ∷ xs) ys e = absurd (let no : ⊥ = cc e in no)

nil-right : {A : Type 0} (xs ys : List A) → xs ++ ys ≡ [] → ys ≡ []
nil-right [] ys e = e
nil-right (x ∷ xs) ys e = absurd (let no : ⊥ = cc e in no)

no-complaints : (cs : List Complaint) (o : Option TableError) → refusal_from (first_of_all cs) o ≡ None → cs ≡ []
no-complaints [] o e = refl
no-complaints (c ∷ cs) o e = absurd (let no : ⊥ = cc e in no)

-- where no declaration passes a limit, there are no more than it allows
within-limit : (limit : Limit) (is : List Ident) → passing limit is ≡ [] → length is ≤ most limit
within-limit limit is e = pick (slice_get_cases is (most limit)).1
  where
    no-one : (i : Ident) → slice_get is (most limit) ≡ Some i → ⊥
    no-one i here = let clash : passes limit (Some i) ≡ [] = ap (passes limit) (sym here) ∙ e in let no : ⊥ = cc clash in no

    pick : ((i : Ident) × (most limit < length is) × (slice_get is (most limit) ≡ Some i) × (get_or is (most limit) i ≡ i)) ⊎ ((length is ≤ most limit) × (slice_get is (most limit) ≡ None)) → length is ≤ most limit
    pick (inl (i, past, here, same)) = absurd (no-one i here)
    pick (inr both) = both.0

-- ---------- tables ----------
tables-in-class : (stmts : List Stmt) (inner : List (List VarInfo)) (k m : ℕ) (ds : List Method) → length (class_tables stmts inner k m ds) ≡ length ds
tables-in-class stmts inner k m [] = refl
tables-in-class stmts inner k m (d ∷ ds) = ap suc (tables-in-class stmts inner k (suc m) ds)

few-tables : (stmts : List Stmt) (inner : List (List VarInfo)) (k : ℕ) (cs : List ClassDecl) → flat_map in_class cs ≡ [] → length (tables_from stmts inner k cs) ≤ 256 * length cs
few-tables stmts inner k [] e = omega arith
few-tables stmts inner k (c ∷ cs) e =
    let own : in_class c ≡ [] = nil-left (in_class c) (flat_map in_class cs) e in
    let limits : passing Fields (field_names c) ++ passing Methods (method_names c) ≡ [] = nil-right (doubles (field_names c ++ method_names c)) (passing Fields (field_names c) ++ passing Methods (method_names c)) own in
    let few : length (method_names c) ≤ 256 = within-limit Methods (method_names c) (nil-right (passing Fields (field_names c)) (passing Methods (method_names c)) limits) in
    let rest : length (tables_from stmts inner (suc k) cs) ≤ 256 * length cs = few-tables stmts inner (suc k) cs (nil-right (in_class c) (flat_map in_class cs) e) in
    omega
    (arith, few, rest, length-map c.methods (λ (d : Method). d.name), tables-in-class stmts inner k 0 c.methods, length-append (class_tables stmts inner k 0 c.methods) (tables_from stmts inner (suc k) cs))

-- a resolved unit has at most 256 methods for each of at most 1000 classes
pub few-methods : (u : Tables) → IsResolved u → length u.tables ≤ 256000
few-methods u is =
    omega
    (arith, classes, few-tables u.program.stmts (all_inner u.program.stmts) 0 u.program.classes (nil-left (flat_map in_class u.program.classes) behind3 rest2), length-map u.program.classes (λ (c : ClassDecl). c.name), ap length is.tables)
  where
    p : Listing
    p = unmentioned u.program

    behind3 : List Complaint
    behind3 = flat_map in_method (tables_of p) ++ unknowns (class_names p) (class_mentions p)

    behind2 : List Complaint
    behind2 = flat_map in_class p.classes ++ behind3

    behind1 : List Complaint
    behind1 = passing Classes (class_names p) ++ behind2

    rest1 : behind1 ≡ []
    rest1 = nil-right (doubles (class_names p)) behind1 (no-complaints (complaints p) (run_refusal (main_run p)) is.accepted)

    rest2 : behind2 ≡ []
    rest2 = nil-right (passing Classes (class_names p)) behind2 rest1

    classes : length (class_names p) ≤ 1000
    classes = within-limit Classes (class_names p) (nil-left (passing Classes (class_names p)) behind2 rest1)
