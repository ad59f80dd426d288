-- The classes of the types of a resolved unit's fields and variables are classes of the unit.
use Rattle.std.proofs.Common.{◌≡◌, ℕ, zero, suc, ◌<◌, Bool, true, List, [], ◌∷◌, ◌++◌, length, Option, Some, None, refl, sym, subst, get_or, ◌∙◌}
use Rattle.std.specs.Prelude.{◌&&◌, map, flat_map, slice_get, nat_lt}
use Rattle.std.specs.List.{list_all}
use Rattle.std.proofs.lemmas.Bool.{lt-ltb}
use Rattle.std.proofs.lemmas.List.{length-map}
use Rattle.std.proofs.lemmas.List.Folds.{list_all-append, list_all-map}
use Rattle.std.proofs.lemmas.Option.{slice_get_within}
use Rattle.perm_tree.specs.declared.ast.ClassDecl.{ClassDecl}
use Rattle.perm_tree.specs.declared.ast.FieldDecl.{FieldDecl}
use Rattle.perm_tree.specs.declared.ast.Method.{Method}
use Rattle.perm_tree.specs.declared.ast.Rhs.{Rhs}
use Rattle.perm_tree.specs.declared.ast.Rhs.TheVariants.{Value, Field, TakeField, Item, New, NewArray, Call as CallRhs, Recover}
use Rattle.perm_tree.specs.declared.ast.Shape.TheVariants.{Class, Array}
use Rattle.perm_tree.specs.declared.ast.Stmt.{Stmt}
use Rattle.perm_tree.specs.declared.ast.StmtKind.{StmtKind}
use Rattle.perm_tree.specs.declared.ast.StmtKind.TheVariants.{Declare, Assign, SetField, SetItem, Call as CallStmt, Print, If, While, Par}
use Rattle.perm_tree.specs.declared.ast.Ty.{Ty}
use Rattle.perm_tree.specs.declared.ast.Ty.TheVariants.{Long, Bool as Boolean, Ref}
use Rattle.perm_tree.specs.declared.unit.MethodTable.{MethodTable}
use Rattle.perm_tree.specs.declared.unit.VarInfo.{VarInfo}
use Rattle.perm_tree.specs.Code.{Routine}
use Rattle.perm_tree.specs.CodeOf.{routine, code_of}
use Rattle.perm_tree.specs.Entries.{entries_from}
use Rattle.perm_tree.specs.Lookup.{method_of}
use Rattle.perm_tree.specs.Places.{AllBelow}
use Rattle.perm_tree.specs.Resolves.{IsResolved}
use Rattle.perm_tree.specs.Scopes.{declared_if, declared_at, known_until, block_vars, block_end, braced_vars, else_stmts, rhs_vars, inner_vars, all_inner, param_var, method_vars}
use Rattle.perm_tree.specs.UnitTables.{Tables}
use Rattle.perm_tree.specs.WellFormed.{ty_classes, decl_classes, method_classes, member_classes, stmt_classes}
use Rattle.perm_tree.proofs.MethodMarks.{method-class}
use Rattle.perm_tree.proofs.ResolvedTypes.{IsResolved-types}
use Rattle.perm_tree.proofs.TableLaws.{AllMethods, IsTable, HasTable, tables_of-methods, routine-table}
use Rattle.perm_core.specs.Whole.{is_known_type}

-- ---------- lists ----------
-- what keeps to a bound in a whole does so in its two parts
below-parts : (n : ℕ) (xs ys : List ℕ) → AllBelow n (xs ++ ys) → AllBelow n xs × AllBelow n ys
below-parts n [] ys below = (tt, below)
below-parts n (x ∷ xs) ys below = let rest = below-parts n xs ys below.1 in ((below.0, rest.0), rest.1)

-- so it does in what one element gives
below-at : {A : Type 0} (n : ℕ) (f : A → List ℕ) (xs : List A) (at : ℕ) (x : A) → AllBelow n (flat_map f xs) → slice_get xs at ≡ Some x → AllBelow n (f x)
below-at n f [] at x below here = absurd (let no : ⊥ = cc here in no)
below-at n f (y ∷ ys) zero x below here = let same : y ≡ x = cc here in subst (λ z. AllBelow n (f z)) same (below-parts n (f y) (flat_map f ys) below).0
below-at n f (y ∷ ys) (suc at) x below here = below-at n f ys at x (below-parts n (f y) (flat_map f ys) below).1 here

-- what holds of all elements of a list, and of the element that stands behind it, holds wherever it is read
get_or-one-more : {A : Type 0} (P : A → Type 0) (d : A) (xs : List A) (x : A) → P d → ((at : ℕ) → P (get_or xs at d)) → P x → (at : ℕ) → P (get_or (xs ++ x ∷ []) at d)
get_or-one-more P d [] x last all here zero = here
get_or-one-more P d [] x last all here (suc at) = last
get_or-one-more P d (y ∷ xs) x last all here zero = all zero
get_or-one-more P d (y ∷ xs) x last all here (suc at) = get_or-one-more P d xs x last (λ k. all (suc k)) here at

-- what each entry has that is made of entries that have it, all entries have
pub entries_from-each : {X A : Type 0} (make : List A → X → A) (P : A → Type 0) (d : A) → P d → ((before : List A) (x : X) → ((at : ℕ) → P (get_or before at d)) → P (make before x))
    → (before : List A) (xs : List X) → ((at : ℕ) → P (get_or before at d)) → (at : ℕ) → P (get_or (entries_from make before xs) at d)
entries_from-each make P d last step before [] all at = all at
entries_from-each make P d last step before (x ∷ xs) all at =
    entries_from-each make P d last step (before ++ make before x ∷ []) xs (get_or-one-more P d before (make before x) last all (step before x all)) at

-- ---------- types ----------
module _ (u : Tables) where
  -- the type's class is there
  abbrev known : Ty → Bool
  known = is_known_type (code_of u)

  -- how many classes there are
  abbrev count : ℕ
  count = length u.program.classes

  class-known : (k : ℕ) → k < count → nat_lt k (length (code_of u).classes) ≡ true
  class-known k within = lt-ltb k (length (code_of u).classes) (subst (λ n. k < n) (sym (length-map u.program.classes (λ (c : ClassDecl). map (λ f. f.ty) c.fields))) within)

  ty-known : (t : Ty) → AllBelow count (ty_classes t) → known t ≡ true
  ty-known Long below = refl
  ty-known Boolean below = refl
  ty-known (Ref q (Class k)) below = class-known k below.0
  ty-known (Ref q Array) below = refl

  -- the types of declarations
  abbrev KnownDecls : List FieldDecl → Type 0
  KnownDecls ds = list_all (λ d. known d.ty) ds ≡ true

  decls-known : (ds : List FieldDecl) → AllBelow count (decl_classes ds) → KnownDecls ds
  decls-known [] below = refl
  decls-known (d ∷ ds) below =
      let parts = below-parts count (ty_classes d.ty) (decl_classes ds) below in
      let first = ty-known d.ty parts.0 in
      let rest = decls-known ds parts.1 in
      λ j. first j && rest j

  -- the types of the fields of some classes
  fields-known : (cs : List ClassDecl) → AllBelow count (flat_map member_classes cs) → list_all (list_all known) (map (λ c. map (λ f. f.ty) c.fields) cs) ≡ true
  fields-known [] below = refl
  fields-known (c ∷ cs) below =
      let parts = below-parts count (member_classes c) (flat_map member_classes cs) below in
      let members = below-parts count (decl_classes c.fields) (flat_map method_classes c.methods) parts.0 in
      let first = list_all-map known (λ (f : FieldDecl). f.ty) c.fields ∙ decls-known c.fields members.0 in
      let rest = fields-known cs parts.1 in
      λ j. first j && rest j

  -- ---------- variables ----------
  -- the types of variables
  abbrev KnownVars : List VarInfo → Type 0
  KnownVars vs = list_all (λ v. known v.ty) vs ≡ true

  vars-append : (vs ws : List VarInfo) → KnownVars vs → KnownVars ws → KnownVars (vs ++ ws)
  vars-append vs ws first rest = list_all-append (λ (v : VarInfo). known v.ty) vs ws ∙ (λ j. first j && rest j)

  module _ (stmts : List Stmt) (below : AllBelow count (flat_map stmt_classes stmts)) where
    -- what a statement declares
    declared-known : (at : ℕ) → KnownDecls (declared_at stmts at)
    declared-known at = there (slice_get stmts at) (λ s here. decls-known (declared_if (Some s)) (below-at count stmt_classes stmts at s below here))
      where
        there : (o : Option Stmt) → ((s : Stmt) → o ≡ Some s → KnownDecls (declared_if (Some s))) → KnownDecls (declared_if o)
        there None all = refl
        there (Some s) all = all s refl

    until-known : (end at : ℕ) → KnownVars (map (known_until end) (declared_at stmts at))
    until-known end at = list_all-map (λ (v : VarInfo). known v.ty) (known_until end) (declared_at stmts at) ∙ declared-known at

    module _ (inner : List (List VarInfo)) (all : (at : ℕ) → KnownVars (get_or inner at [])) where
      block-known : (end : ℕ) (is : List ℕ) → KnownVars (block_vars stmts inner end is)
      block-known end [] = refl
      block-known end (i ∷ is) =
          vars-append
          (map (known_until end) (declared_at stmts i))
          (get_or inner i [] ++ block_vars stmts inner end is)
          (until-known end i)
          (vars-append (get_or inner i []) (block_vars stmts inner end is) (all i) (block-known end is))

      braced-known : (is : List ℕ) → KnownVars (braced_vars stmts inner is)
      braced-known is = block-known (block_end stmts 0 is) is

      two-known : (is js : List ℕ) → KnownVars (braced_vars stmts inner is ++ braced_vars stmts inner js)
      two-known is js = vars-append (braced_vars stmts inner is) (braced_vars stmts inner js) (braced-known is) (braced-known js)

      rhs-known : (r : Rhs) → KnownVars (rhs_vars stmts inner r)
      rhs-known (Value a) = refl
      rhs-known (Field y f) = refl
      rhs-known (TakeField y f) = refl
      rhs-known (Item y e) = refl
      rhs-known (New c) = refl
      rhs-known (NewArray e) = refl
      rhs-known (CallRhs c) = refl
      rhs-known (Recover b w give) = block-known give.end b.stmts

      -- what the blocks within a statement declare
      inner-known : (k : StmtKind) → KnownVars (inner_vars stmts inner k)
      inner-known (Declare t x) = refl
      inner-known (Assign t x r) = rhs-known r
      inner-known (SetField y f a) = refl
      inner-known (SetItem y i e) = refl
      inner-known (CallStmt c) = refl
      inner-known (Print e) = refl
      inner-known (If e a b) = two-known a.stmts (else_stmts b)
      inner-known (While e a) = braced-known a.stmts
      inner-known (Par a b) = two-known a.stmts b.stmts

    all_inner-known : (at : ℕ) → KnownVars (get_or (all_inner stmts) at [])
    all_inner-known =
        entries_from-each (λ (inner : List (List VarInfo)) (s : Stmt). inner_vars stmts inner s.kind) KnownVars [] refl (λ inner s all. inner-known inner all s.kind) [] stmts (λ at. refl)

    -- the variables of a method of a class that is there
    vars-known : (class : ℕ) (d : Method) → class < count → AllBelow count (method_classes d) → KnownVars (method_vars stmts (all_inner stmts) class d)
    vars-known class d within classes =
        let this = class-known class within in
        let params = list_all-map (λ (v : VarInfo). known v.ty) (param_var d) d.params ∙ decls-known d.params (below-parts count (ty_classes d.result) (decl_classes d.params) classes).1 in
        let locals = block-known (all_inner stmts) all_inner-known d.span.end d.body.stmts in
        let rest = vars-append (map (param_var d) d.params) (block_vars stmts (all_inner stmts) d.span.end d.body.stmts) params locals in
        λ j. this j && rest j

-- ---------- units ----------
-- the class of a table is there
pub method-class-within : (u : Tables) (t : MethodTable) (d : Method) → method_of u.program t ≡ Some d → t.class < length u.program.classes
method-class-within u t d is = let found = method-class u t d is in slice_get_within u.program.classes t.class found.0 found.1

-- the table and the method of a routine of a resolved unit
pub IsResolved-table : (u : Tables) (at : ℕ) (r : Routine) → IsResolved u → slice_get (code_of u).routines at ≡ Some r → HasTable u u.tables at r
IsResolved-table u at r is here = routine-table u u.tables at r (subst (AllMethods u.program) (sym is.tables) (tables_of-methods u.program)) here

table-known : (u : Tables) (t : MethodTable) (d : Method) → IsResolved u → IsTable u.program t d → list_all (is_known_type (code_of u)) (routine u t d).vars ≡ true
table-known u t d is table =
    let p = u.program in
    let n = length p.classes in
    let found = method-class u t d table.0 in
    let classes = below-parts n (flat_map member_classes p.classes) (flat_map stmt_classes p.stmts) (IsResolved-types u is) in
    let members = below-at n member_classes p.classes t.class found.0 classes.0 found.1 in
    let methods = (below-parts n (decl_classes found.0.fields) (flat_map method_classes found.0.methods) members).1 in
    let «method» = below-at n method_classes found.0.methods t.«method» d methods found.2 in
    list_all-map (is_known_type (code_of u)) (λ (v : VarInfo). v.ty) t.vars
    ∙ subst (KnownVars u) (sym table.1) (vars-known u p.stmts classes.1 t.class d (method-class-within u t d table.0) «method»)

-- the classes of the types of all variables are there
pub IsResolved-known : (u : Tables) (at : ℕ) (r : Routine) → IsResolved u → slice_get (code_of u).routines at ≡ Some r → list_all (is_known_type (code_of u)) r.vars ≡ true
IsResolved-known u at r is here = by_table (IsResolved-table u at r is here)
  where
    by_table : HasTable u u.tables at r → list_all (is_known_type (code_of u)) r.vars ≡ true
    by_table (t, d, there, table, same) = subst (λ (q : Routine). list_all (is_known_type (code_of u)) q.vars ≡ true) same (table-known u t d is table)

-- and so are those of all fields
pub IsResolved-fields : (u : Tables) → IsResolved u → list_all (list_all (is_known_type (code_of u))) (code_of u).classes ≡ true
IsResolved-fields u is = fields-known u u.program.classes (below-parts (length u.program.classes) (flat_map member_classes u.program.classes) (flat_map stmt_classes u.program.stmts) (IsResolved-types u is)).0
