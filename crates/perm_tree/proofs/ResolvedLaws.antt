-- Class names that become numbers in types change no name and no place.
use Rattle.std.proofs.Common.{◌≡◌, ℕ, zero, suc, Bool, true, false, List, [], ◌∷◌, ◌++◌, length, Option, Some, None, refl, sym, ap, subst, ◌∙◌}
use Rattle.std.specs.Prelude.{◌&&◌, map, flat_map, slice_get, get_or, find, cond, option_map}
use Rattle.std.proofs.lemmas.List.{length-map, map-append}
use Rattle.std.proofs.lemmas.List.Folds.{flat_map-map}
use Rattle.std.proofs.lemmas.Option.{slice_get-map}
use Rattle.perm_tree.specs.declared.ast.ClassDecl.{ClassDecl}
use Rattle.perm_tree.specs.declared.ast.FieldDecl.{FieldDecl}
use Rattle.perm_tree.specs.declared.ast.Ident.{Ident}
use Rattle.perm_tree.specs.declared.ast.Method.{Method}
use Rattle.perm_tree.specs.declared.ast.Perm.TheVariants.{Isolated, Immutable, Readable, Writable}
use Rattle.perm_tree.specs.declared.ast.Shape.TheVariants.{Class, Array}
use Rattle.perm_tree.specs.declared.ast.Ty.{Ty}
use Rattle.perm_tree.specs.declared.ast.Ty.TheVariants.{Long, Bool as Boolean, Ref}
use Rattle.perm_tree.specs.declared.ast.Rhs.{Rhs}
use Rattle.perm_tree.specs.declared.ast.Rhs.TheVariants.{Value, Field, TakeField, Item, New, NewArray, Call as CallRhs, Recover}
use Rattle.perm_tree.specs.declared.ast.Stmt.{Stmt}
use Rattle.perm_tree.specs.declared.ast.StmtKind.{StmtKind}
use Rattle.perm_tree.specs.declared.ast.StmtKind.TheVariants.{Declare, Assign, SetField, SetItem, Call as CallStmt, Print, If, While, Par}
use Rattle.perm_tree.specs.declared.unit.VarInfo.{VarInfo}
use Rattle.perm_tree.specs.Entries.{entries_from}
use Rattle.perm_tree.specs.Lookup.{class_place, is_class_word}
use Rattle.perm_tree.specs.Names.{Complaint, class_names, var_names, made_class, class_mentions, doubles, unknowns, passing, in_class, in_method, complaints, first_of_all, run_in, main_run, is_long, is_writable, is_input, takes_input, is_good_run, run_refusal, refusal_from, names_refusal}
use Rattle.perm_tree.specs.declared.errors.Limit.TheVariants.{Classes, Fields, Methods, Variables}
use Rattle.perm_tree.specs.Places.{Listing, KindPlaced, MethodPlaced, ClassPlaced, IsPlaced}
use Rattle.perm_tree.specs.Resolves.{renamed_ty, renamed_decl, renamed_method, renamed_class, renamed_kind, renamed_stmt, with_types, resolved}
use Rattle.perm_tree.specs.Scopes.{declared_by, declared_if, declared_at, known_until, block_end, block_vars, braced_vars, else_stmts, rhs_vars, inner_vars, all_inner, param_var, method_vars, class_tables, tables_from, tables_of}
use Rattle.perm_tree.specs.Spelling.{main_word, run_word, is_word}

-- ---------- lists ----------
map-twice : {A B C : Type 0} (f : B → C) (g : A → B) (xs : List A) → map f (map g xs) ≡ map (λ x. f (g x)) xs
map-twice f g [] = refl
map-twice f g (x ∷ xs) = ap (λ ys. f (g x) ∷ ys) (map-twice f g xs)

map-same : {A B : Type 0} (f g : A → B) (xs : List A) → ((x : A) → f x ≡ g x) → map f xs ≡ map g xs
map-same f g xs same = ap (λ h. map h xs) (λ i x. same x i)

-- where g changes nothing that f shows
pub map-unseen : {A B : Type 0} (f : A → B) (g : A → A) (xs : List A) → ((x : A) → f (g x) ≡ f x) → map f (map g xs) ≡ map f xs
map-unseen f g xs same = map-twice f g xs ∙ map-same (λ x. f (g x)) f xs same

-- so in lists
pub flat_map-unseen : {A B : Type 0} (f : A → List B) (g : A → A) (xs : List A) → ((x : A) → f (g x) ≡ f x) → flat_map f (map g xs) ≡ flat_map f xs
flat_map-unseen f g xs same = flat_map-map f g xs ∙ ap (λ h. flat_map h xs) (λ i x. same x i)

option_map-cond : {A : Type 0} (g : A → A) (x : A) (b : Bool) (o : Option A) → cond b (Some (g x)) (option_map g o) ≡ option_map g (cond b (Some x) o)
option_map-cond g x true o = refl
option_map-cond g x false o = refl

find-unseen : {A : Type 0} (f : A → Bool) (g : A → A) (xs : List A) → ((x : A) → f (g x) ≡ f x) → find f (map g xs) ≡ option_map g (find f xs)
find-unseen f g [] same = refl
find-unseen f g (x ∷ xs) same = rw (same x, find-unseen f g xs same) (option_map-cond g x (f x) (find f xs))

-- ---------- places ----------
kind-placed : (p : Listing) (exprs at : ℕ) (kind : StmtKind) → KindPlaced exprs at kind → KindPlaced exprs at (renamed_kind (class_place p) kind)
kind-placed p exprs at (Declare t x) placed = placed
kind-placed p exprs at (Assign t x r) placed = placed
kind-placed p exprs at (SetField y f a) placed = placed
kind-placed p exprs at (SetItem y i e) placed = placed
kind-placed p exprs at (CallStmt c) placed = placed
kind-placed p exprs at (Print e) placed = placed
kind-placed p exprs at (If e a b) placed = placed
kind-placed p exprs at (While e a) placed = placed
kind-placed p exprs at (Par a b) placed = placed

-- an element of a changed list is that of the list, changed
changed-at : {A : Type 0} (g : A → A) (xs : List A) (at : ℕ) (y : A) → slice_get (map g xs) at ≡ Some y → (x : A) × (slice_get xs at ≡ Some x) × (g x ≡ y)
changed-at g [] at y here = absurd (let no : ⊥ = cc here in no)
changed-at g (x ∷ xs) zero y here = (x, refl, let q : g x ≡ y = cc here in q)
changed-at g (x ∷ xs) (suc at) y here = changed-at g xs at y here

pub resolved-placed : (p : Listing) → IsPlaced p → IsPlaced (resolved p)
resolved-placed p placed = record {
  exprs = placed.exprs;
  literals = placed.literals;
  stmts = λ at s here. stmt at s (changed-at (renamed_stmt (class_place p)) p.stmts at s here);
  bodies = λ k c here m d there. body k c m d (changed-at (renamed_class (class_place p)) p.classes k c here) there;
}
  where
    stmt : (at : ℕ) (s : Stmt) → (x : Stmt) × (slice_get p.stmts at ≡ Some x) × (renamed_stmt (class_place p) x ≡ s) → KindPlaced (length p.exprs) at s.kind
    stmt at s (x, here, is) = subst (λ (y : Stmt). KindPlaced (length p.exprs) at y.kind) is (kind-placed p (length p.exprs) at x.kind (placed.stmts at x here))

    bodies : (c : ClassDecl) (m : ℕ) (d : Method) → ClassPlaced (length p.exprs) (length p.stmts) c → (e : Method) × (slice_get c.methods m ≡ Some e) × (renamed_method (class_place p) e ≡ d)
        → MethodPlaced (length p.exprs) (length (map (renamed_stmt (class_place p)) p.stmts)) d
    bodies c m d all (e, here, is) =
        subst
        (λ n. MethodPlaced (length p.exprs) n d)
        (sym (length-map p.stmts (renamed_stmt (class_place p))))
        (subst (λ (f : Method). MethodPlaced (length p.exprs) (length p.stmts) f) is (all m e here))

    body : (k : ℕ) (c : ClassDecl) (m : ℕ) (d : Method) → (x : ClassDecl) × (slice_get p.classes k ≡ Some x) × (renamed_class (class_place p) x ≡ c) → slice_get c.methods m ≡ Some d
        → MethodPlaced (length p.exprs) (length (map (renamed_stmt (class_place p)) p.stmts)) d
    body k c m d (x, here, is) there =
        bodies x m d (placed.bodies k x here) (changed-at (renamed_method (class_place p)) x.methods m d (subst (λ (y : ClassDecl). slice_get y.methods m ≡ Some d) (sym is) there))

-- ---------- variables ----------
-- a variable as a name
abbrev pub ident : VarInfo → Ident
ident v = record { name = v.name; span = v.declared }

abbrev idents : List VarInfo → List Ident
idents vars = map ident vars

module _ (p : Listing) where
  -- the statements of the resolved program
  abbrev stmts : List Stmt
  stmts = map (renamed_stmt (class_place p)) p.stmts

  declared-names : (kind : StmtKind) → map (λ d. d.name) (declared_by (renamed_kind (class_place p) kind)) ≡ map (λ d. d.name) (declared_by kind)
  declared-names (Declare t x) = refl
  declared-names (Assign None x r) = refl
  declared-names (Assign (Some t) x r) = refl
  declared-names (SetField y f a) = refl
  declared-names (SetItem y i e) = refl
  declared-names (CallStmt c) = refl
  declared-names (Print e) = refl
  declared-names (If e a b) = refl
  declared-names (While e a) = refl
  declared-names (Par a b) = refl

  declared_at-names : (i : ℕ) → map (λ d. d.name) (declared_at stmts i) ≡ map (λ d. d.name) (declared_at p.stmts i)
  declared_at-names i = rw (slice_get-map (renamed_stmt (class_place p)) p.stmts i) (cases (slice_get p.stmts i))
    where
      cases : (o : Option Stmt) → map (λ d. d.name) (declared_if (option_map (renamed_stmt (class_place p)) o)) ≡ map (λ d. d.name) (declared_if o)
      cases None = refl
      cases (Some s) = declared-names s.kind

  -- the same names of variables, by statement
  abbrev SameNames : List (List VarInfo) → List (List VarInfo) → Type 0
  SameNames inner' inner = map idents inner' ≡ map idents inner

  read-map : (xs : List (List VarInfo)) (i : ℕ) → get_or (map idents xs) i [] ≡ idents (get_or xs i [])
  read-map [] i = refl
  read-map (x ∷ xs) zero = refl
  read-map (x ∷ xs) (suc i) = read-map xs i

  same-at : (inner' inner : List (List VarInfo)) (i : ℕ) → SameNames inner' inner → idents (get_or inner' i []) ≡ idents (get_or inner i [])
  same-at inner' inner i same = sym (read-map inner' i) ∙ ap (λ xs. get_or xs i []) same ∙ read-map inner i

  idents-three : (a b c : List VarInfo) → idents (a ++ (b ++ c)) ≡ idents a ++ (idents b ++ idents c)
  idents-three a b c = map-append ident a (b ++ c) ∙ ap (λ xs. idents a ++ xs) (map-append ident b c)

  -- in a block
  block-names : (inner' inner : List (List VarInfo)) (end' end : ℕ) (is : List ℕ) → SameNames inner' inner → idents (block_vars stmts inner' end' is) ≡ idents (block_vars p.stmts inner end is)
  block-names inner' inner end' end [] same = refl
  block-names inner' inner end' end (i ∷ is) same =
      let own = map-twice ident (known_until end') (declared_at stmts i) ∙ declared_at-names i ∙ sym (map-twice ident (known_until end) (declared_at p.stmts i)) in
      let here = same-at inner' inner i same in
      let rest = block-names inner' inner end' end is same in
      idents-three (map (known_until end') (declared_at stmts i)) (get_or inner' i []) (block_vars stmts inner' end' is)
      ∙ (λ j. own j ++ (here j ++ rest j))
      ∙ sym (idents-three (map (known_until end) (declared_at p.stmts i)) (get_or inner i []) (block_vars p.stmts inner end is))

  braced-names : (inner' inner : List (List VarInfo)) (is : List ℕ) → SameNames inner' inner → idents (braced_vars stmts inner' is) ≡ idents (braced_vars p.stmts inner is)
  braced-names inner' inner is same = block-names inner' inner (block_end stmts 0 is) (block_end p.stmts 0 is) is same

  two-names : (inner' inner : List (List VarInfo)) (is js : List ℕ) → SameNames inner' inner
      → idents (braced_vars stmts inner' is ++ braced_vars stmts inner' js) ≡ idents (braced_vars p.stmts inner is ++ braced_vars p.stmts inner js)
  two-names inner' inner is js same =
      let a = braced-names inner' inner is same in
      let b = braced-names inner' inner js same in
      map-append ident (braced_vars stmts inner' is) (braced_vars stmts inner' js) ∙ (λ j. a j ++ b j) ∙ sym (map-append ident (braced_vars p.stmts inner is) (braced_vars p.stmts inner js))

  rhs-names : (inner' inner : List (List VarInfo)) (r : Rhs) → SameNames inner' inner → idents (rhs_vars stmts inner' r) ≡ idents (rhs_vars p.stmts inner r)
  rhs-names inner' inner (Value a) same = refl
  rhs-names inner' inner (Field y f) same = refl
  rhs-names inner' inner (TakeField y f) same = refl
  rhs-names inner' inner (Item y e) same = refl
  rhs-names inner' inner (New c) same = refl
  rhs-names inner' inner (NewArray e) same = refl
  rhs-names inner' inner (CallRhs c) same = refl
  rhs-names inner' inner (Recover b w give) same = block-names inner' inner give.end give.end b.stmts same

  -- in the blocks of a statement
  inner-names : (inner' inner : List (List VarInfo)) (kind : StmtKind) → SameNames inner' inner → idents (inner_vars stmts inner' (renamed_kind (class_place p) kind)) ≡ idents (inner_vars p.stmts inner kind)
  inner-names inner' inner (Declare t x) same = refl
  inner-names inner' inner (Assign t x r) same = rhs-names inner' inner r same
  inner-names inner' inner (SetField y f a) same = refl
  inner-names inner' inner (SetItem y i e) same = refl
  inner-names inner' inner (CallStmt c) same = refl
  inner-names inner' inner (Print e) same = refl
  inner-names inner' inner (If e a b) same = two-names inner' inner a.stmts (else_stmts b) same
  inner-names inner' inner (While e a) same = braced-names inner' inner a.stmts same
  inner-names inner' inner (Par a b) same = two-names inner' inner a.stmts b.stmts same

  entries-names : (inner' inner : List (List VarInfo)) (ss : List Stmt) → SameNames inner' inner
      → SameNames (entries_from (λ inner s. inner_vars stmts inner s.kind) inner' (map (renamed_stmt (class_place p)) ss)) (entries_from (λ inner s. inner_vars p.stmts inner s.kind) inner ss)
  entries-names inner' inner [] same = same
  entries-names inner' inner (s ∷ ss) same =
      let here = inner-names inner' inner s.kind same in
      let x' = inner_vars stmts inner' (renamed_kind (class_place p) s.kind) in
      let x = inner_vars p.stmts inner s.kind in
      entries-names (inner' ++ x' ∷ []) (inner ++ x ∷ []) ss (map-append idents inner' (x' ∷ []) ∙ (λ j. same j ++ here j ∷ []) ∙ sym (map-append idents inner (x ∷ [])))

  inner-same : SameNames (all_inner stmts) (all_inner p.stmts)
  inner-same = entries-names [] [] p.stmts refl

  -- in a method
  method-names : (inner' inner : List (List VarInfo)) (class : ℕ) (d : Method) → SameNames inner' inner → idents (method_vars stmts inner' class (renamed_method (class_place p) d)) ≡ idents (method_vars p.stmts inner class d)
  method-names inner' inner class d same =
      let params = map-twice ident (param_var (renamed_method (class_place p) d)) (map (renamed_decl (class_place p)) d.params) ∙ map-unseen (λ f. f.name) (renamed_decl (class_place p)) d.params (λ f. refl) ∙ sym (map-twice ident (param_var d) d.params) in
      let body = block-names inner' inner d.span.end d.span.end d.body.stmts same in
      ap (λ xs. record { name = 0; span = record { start = d.name.span.start; end = d.name.span.start } } ∷ xs) (
      map-append ident (map (param_var (renamed_method (class_place p) d)) (map (renamed_decl (class_place p)) d.params)) (block_vars stmts inner' d.span.end d.body.stmts)
      ∙ (λ j. params j ++ body j)
      ∙ sym (map-append ident (map (param_var d) d.params) (block_vars p.stmts inner d.span.end d.body.stmts))
      )

  class-names : (inner' inner : List (List VarInfo)) (class m : ℕ) (ds : List Method) → SameNames inner' inner
      → map var_names (class_tables stmts inner' class m (map (renamed_method (class_place p)) ds)) ≡ map var_names (class_tables p.stmts inner class m ds)
  class-names inner' inner class m [] same = refl
  class-names inner' inner class m (d ∷ ds) same =
      let here = method-names inner' inner class d same in
      let rest = class-names inner' inner class (suc m) ds same in
      λ j. here j ∷ rest j

  tables-names : (inner' inner : List (List VarInfo)) (k : ℕ) (cs : List ClassDecl) → SameNames inner' inner
      → map var_names (tables_from stmts inner' k (map (renamed_class (class_place p)) cs)) ≡ map var_names (tables_from p.stmts inner k cs)
  tables-names inner' inner k [] same = refl
  tables-names inner' inner k (c ∷ cs) same =
      let here = class-names inner' inner k 0 c.methods same in
      let rest = tables-names inner' inner (suc k) cs same in
      map-append var_names (class_tables stmts inner' k 0 (map (renamed_method (class_place p)) c.methods)) (tables_from stmts inner' (suc k) (map (renamed_class (class_place p)) cs))
      ∙ (λ j. here j ++ rest j)
      ∙ sym (map-append var_names (class_tables p.stmts inner k 0 c.methods) (tables_from p.stmts inner (suc k) cs))

  -- ---------- complaints ----------
  abbrev in_names : List Ident → List Complaint
  in_names is = doubles is ++ passing Variables is

  methods-same : flat_map in_method (tables_of (with_types p)) ≡ flat_map in_method (tables_of p)
  methods-same =
      sym (flat_map-map in_names var_names (tables_of (with_types p)))
      ∙ ap (flat_map in_names) (tables-names (all_inner stmts) (all_inner p.stmts) 0 p.classes inner-same)
      ∙ flat_map-map in_names var_names (tables_of p)

  made-same : (kind : StmtKind) → made_class (renamed_kind (class_place p) kind) ≡ made_class kind
  made-same (Declare t x) = refl
  made-same (Assign t x (Value a)) = refl
  made-same (Assign t x (Field y f)) = refl
  made-same (Assign t x (TakeField y f)) = refl
  made-same (Assign t x (Item y e)) = refl
  made-same (Assign t x (New c)) = refl
  made-same (Assign t x (NewArray e)) = refl
  made-same (Assign t x (CallRhs c)) = refl
  made-same (Assign t x (Recover b w give)) = refl
  made-same (SetField y f a) = refl
  made-same (SetItem y i e) = refl
  made-same (CallStmt c) = refl
  made-same (Print e) = refl
  made-same (If e a b) = refl
  made-same (While e a) = refl
  made-same (Par a b) = refl

  pub mentions-same : class_mentions (with_types p) ≡ class_mentions p
  mentions-same = ap (λ is. p.mentions ++ is) (flat_map-unseen (λ s. made_class s.kind) (renamed_stmt (class_place p)) p.stmts (λ s. made-same s.kind))

  pub class_names-same : class_names (with_types p) ≡ class_names p
  class_names-same = map-unseen (λ c. c.name) (renamed_class (class_place p)) p.classes (λ c. refl)

  in_class-same : (c : ClassDecl) → in_class (renamed_class (class_place p) c) ≡ in_class c
  in_class-same c =
      let fields = map-unseen (λ f. f.name) (renamed_decl (class_place p)) c.fields (λ f. refl) in
      let methods = map-unseen (λ d. d.name) (renamed_method (class_place p)) c.methods (λ d. refl) in
      λ j. doubles (fields j ++ methods j) ++ (passing Fields (fields j) ++ passing Methods (methods j))

  complaints-same : complaints (with_types p) ≡ complaints p
  complaints-same =
      let classes = flat_map-unseen in_class (renamed_class (class_place p)) p.classes in_class-same in
      λ j. doubles (class_names-same j) ++ (passing Classes (class_names-same j) ++ (classes j ++ (methods-same j ++ unknowns (class_names-same j) (mentions-same j))))

  -- ---------- Main and Run ----------
  is_long-same : (t : Ty) → is_long (renamed_ty (class_place p) t) ≡ is_long t
  is_long-same Long = refl
  is_long-same Boolean = refl
  is_long-same (Ref q shape) = refl

  is_input-same : (t : Ty) → is_input (renamed_ty (class_place p) t) ≡ is_input t
  is_input-same Long = refl
  is_input-same Boolean = refl
  is_input-same (Ref Isolated (Class n)) = refl
  is_input-same (Ref Isolated Array) = refl
  is_input-same (Ref Immutable (Class n)) = refl
  is_input-same (Ref Immutable Array) = refl
  is_input-same (Ref Readable (Class n)) = refl
  is_input-same (Ref Readable Array) = refl
  is_input-same (Ref Writable (Class n)) = refl
  is_input-same (Ref Writable Array) = refl

  takes_input-same : (fs : List FieldDecl) → takes_input (map (renamed_decl (class_place p)) fs) ≡ takes_input fs
  takes_input-same [] = refl
  takes_input-same (f ∷ []) = is_input-same f.ty
  takes_input-same (f ∷ g ∷ fs) = refl

  is_good_run-same : (d : Method) → is_good_run (renamed_method (class_place p) d) ≡ is_good_run d
  is_good_run-same d =
      let result = is_long-same d.result in
      let params = takes_input-same d.params in
      λ j. result j && (params j && is_writable d.receiver)

  run_refusal-same : (o : Option Method) → run_refusal (option_map (renamed_method (class_place p)) o) ≡ run_refusal o
  run_refusal-same None = refl
  run_refusal-same (Some d) = rw (is_good_run-same d)

  run_in-same : (o : Option ClassDecl) → run_in (with_types p) (option_map (renamed_class (class_place p)) o) ≡ option_map (renamed_method (class_place p)) (run_in p o)
  run_in-same None = refl
  run_in-same (Some c) = find-unseen (λ d. is_word p.names run_word d.name.name) (renamed_method (class_place p)) c.methods (λ d. refl)

  main_run-same : main_run (with_types p) ≡ option_map (renamed_method (class_place p)) (main_run p)
  main_run-same =
      ap (run_in (with_types p)) (find-unseen (is_class_word p main_word) (renamed_class (class_place p)) p.classes (λ c. refl)) ∙ run_in-same (find (is_class_word p main_word) p.classes)

  -- what is refused of the names of a program is refused of the one with numbers in its types
  pub names_refusal-typed : names_refusal (with_types p) ≡ names_refusal p
  names_refusal-typed =
      let run = ap run_refusal main_run-same ∙ run_refusal-same (main_run p) in
      λ j. refusal_from (first_of_all (complaints-same j)) (run j)
