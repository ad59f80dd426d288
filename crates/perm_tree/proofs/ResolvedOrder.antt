-- Resolving leaves the marks of the methods and the numbers of names.
use Rattle.std.proofs.Common.{◌≡◌, ℕ, List, [], ◌∷◌, ◌++◌, refl, sym, ap, ◌∙◌}
use Rattle.std.specs.Prelude.{map, flat_map}
use Rattle.std.proofs.lemmas.List.{map-append}
use Rattle.perm_tree.specs.declared.ast.FieldDecl.{FieldDecl}
use Rattle.perm_tree.specs.declared.ast.Method.{Method}
use Rattle.perm_tree.specs.declared.ast.Stmt.{Stmt}
use Rattle.perm_tree.specs.declared.ast.StmtKind.{StmtKind}
use Rattle.perm_tree.specs.declared.ast.StmtKind.TheVariants.{Declare, Assign, SetField, SetItem, Call as CallStmt, Print, If, While, Par}
use Rattle.perm_tree.specs.Entries.{entries_from}
use Rattle.perm_tree.specs.Lookup.{class_place}
use Rattle.perm_tree.specs.Places.{Listing}
use Rattle.perm_tree.specs.Resolves.{renamed_decl, renamed_method, renamed_class, renamed_kind, renamed_stmt, resolved}
use Rattle.perm_tree.specs.TextOrder.{Marks, Mark, names, ends, mark_names, all_expr_marks, arg_marks, block_marks, kind_marks, stmt_marks, all_stmt_marks, params_marks, method_marks, methods_marks, methods_of, marks_of}
use Rattle.perm_tree.specs.WellFormed.{name_numbers}
use Rattle.perm_tree.proofs.ResolvedLaws.{map-unseen}

-- ---------- lists ----------
-- where each part of a changed element is the part of the element, changed
pub flat_map-changed : {A B : Type 0} (f : A → List B) (g : A → A) (h : B → B) (xs : List A) → ((x : A) → f (g x) ≡ map h (f x)) → flat_map f (map g xs) ≡ map h (flat_map f xs)
flat_map-changed f g h [] same = refl
flat_map-changed f g h (x ∷ xs) same =
    let rest = flat_map-changed f g h xs same in
    (λ j. same x j ++ rest j) ∙ sym (map-append h (f x) (flat_map f xs))

-- ---------- marks ----------
module _ (p : Listing) where
  -- a resolved statement has the same marks
  kind-marks : (exprs stmts : List Marks) (head : ℕ) (kind : StmtKind) → kind_marks exprs stmts head (renamed_kind (class_place p) kind) ≡ kind_marks exprs stmts head kind
  kind-marks exprs stmts head (Declare t x) = refl
  kind-marks exprs stmts head (Assign t x r) = refl
  kind-marks exprs stmts head (SetField y f a) = refl
  kind-marks exprs stmts head (SetItem y i e) = refl
  kind-marks exprs stmts head (CallStmt c) = refl
  kind-marks exprs stmts head (Print e) = refl
  kind-marks exprs stmts head (If e a b) = refl
  kind-marks exprs stmts head (While e a) = refl
  kind-marks exprs stmts head (Par a b) = refl

  -- so do all statements
  entries-marks : (exprs before : List Marks) (ss : List Stmt) → entries_from (stmt_marks exprs) before (map (renamed_stmt (class_place p)) ss) ≡ entries_from (stmt_marks exprs) before ss
  entries-marks exprs before [] = refl
  entries-marks exprs before (s ∷ ss) =
      let here = kind-marks exprs before s.head.end s.kind in
      let marks : stmt_marks exprs before (renamed_stmt (class_place p) s) ≡ stmt_marks exprs before s = λ j rest. here j (ends s.span.end ∷ rest) in
      ap (λ m. entries_from (stmt_marks exprs) (before ++ m ∷ []) (map (renamed_stmt (class_place p)) ss)) marks ∙ entries-marks exprs (before ++ stmt_marks exprs before s ∷ []) ss

  stmts-marks : all_stmt_marks p.exprs (map (renamed_stmt (class_place p)) p.stmts) ≡ all_stmt_marks p.exprs p.stmts
  stmts-marks = entries-marks (all_expr_marks p.exprs) [] p.stmts

  params-marks : (fs : List FieldDecl) (rest : List Mark) → params_marks (map (renamed_decl (class_place p)) fs) rest ≡ params_marks fs rest
  params-marks [] rest = refl
  params-marks (f ∷ fs) rest = ap (λ ms. names f.name ∷ ms) (params-marks fs rest)

  -- a resolved method has the same marks
  method-marks : (d : Method) (rest : List Mark) → method_marks p.exprs (map (renamed_stmt (class_place p)) p.stmts) (renamed_method (class_place p) d) rest ≡ method_marks p.exprs p.stmts d rest
  method-marks d rest =
      let back = arg_marks (all_expr_marks p.exprs) d.back (ends d.span.end ∷ rest) in
      let params = params-marks d.params in
      (λ j. names d.name ∷ params (block_marks (all_stmt_marks p.exprs (map (renamed_stmt (class_place p)) p.stmts)) d.body.stmts back) j)
      ∙ (λ j. names d.name ∷ params_marks d.params (block_marks (stmts-marks j) d.body.stmts back))

  -- the methods of the resolved program are those of the program, resolved
  pub methods-resolved : methods_of (resolved p) ≡ map (renamed_method (class_place p)) (methods_of p)
  methods-resolved = flat_map-changed (λ c. c.methods) (renamed_class (class_place p)) (renamed_method (class_place p)) p.classes (λ c. refl)

  methods-marks : (ds : List Method) (rest : List Mark) → methods_marks p.exprs (map (renamed_stmt (class_place p)) p.stmts) (map (renamed_method (class_place p)) ds) rest ≡ methods_marks p.exprs p.stmts ds rest
  methods-marks [] rest = refl
  methods-marks (d ∷ ds) rest =
      method-marks d (methods_marks p.exprs (map (renamed_stmt (class_place p)) p.stmts) (map (renamed_method (class_place p)) ds) rest)
      ∙ ap (method_marks p.exprs p.stmts d) (methods-marks ds rest)

  -- resolving leaves the marks of all methods
  pub marks_of-resolved : marks_of (resolved p) ≡ marks_of p
  marks_of-resolved = ap (λ ds. methods_marks p.exprs (map (renamed_stmt (class_place p)) p.stmts) ds []) methods-resolved ∙ methods-marks (methods_of p) []

  -- ---------- names ----------
  class-numbers : map (λ c. c.name.name) (map (renamed_class (class_place p)) p.classes) ≡ map (λ c. c.name.name) p.classes
  class-numbers = map-unseen (λ c. c.name.name) (renamed_class (class_place p)) p.classes (λ c. refl)

  field-numbers : map (λ f. f.name.name) (flat_map (λ c. c.fields) (map (renamed_class (class_place p)) p.classes)) ≡ map (λ f. f.name.name) (flat_map (λ c. c.fields) p.classes)
  field-numbers =
      ap (map (λ f. f.name.name)) (flat_map-changed (λ c. c.fields) (renamed_class (class_place p)) (renamed_decl (class_place p)) p.classes (λ c. refl))
      ∙ map-unseen (λ f. f.name.name) (renamed_decl (class_place p)) (flat_map (λ c. c.fields) p.classes) (λ f. refl)

  -- the names of the resolved program have the same numbers
  pub numbers-resolved : name_numbers (resolved p) ≡ name_numbers p
  numbers-resolved = λ j. class-numbers j ++ (field-numbers j ++ mark_names (marks_of-resolved j))
