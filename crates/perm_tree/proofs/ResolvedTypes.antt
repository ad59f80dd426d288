-- The classes of the types of a resolved program are there, and the unit of a program is resolved.
use Rattle.std.proofs.Common.{◌≡◌, ℕ, zero, suc, ◌<◌, List, [], ◌∷◌, ◌++◌, length, Some, None, refl, sym, ap, subst, arith, get_or, ◌∙◌}
use Rattle.std.specs.Prelude.{All, Contains, map, flat_map, slice_get}
use Rattle.std.proofs.lemmas.List.{get_or-map, length-map, map-append}
use Rattle.perm_tree.specs.declared.ast.ClassDecl.{ClassDecl}
use Rattle.perm_tree.specs.declared.ast.FieldDecl.{FieldDecl}
use Rattle.perm_tree.specs.declared.ast.Ident.{Ident}
use Rattle.perm_tree.specs.declared.ast.Method.{Method}
use Rattle.perm_tree.specs.declared.ast.Shape.TheVariants.{Class, Array}
use Rattle.perm_tree.specs.declared.ast.Ty.{Ty}
use Rattle.perm_tree.specs.declared.ast.Ty.TheVariants.{Long, Bool, Ref}
use Rattle.perm_tree.specs.declared.ast.Stmt.{Stmt}
use Rattle.perm_tree.specs.declared.ast.StmtKind.{StmtKind}
use Rattle.perm_tree.specs.declared.ast.StmtKind.TheVariants.{Declare, Assign, SetField, SetItem, Call, Print, If, While, Par}
use Rattle.perm_tree.specs.Lookup.{class_place}
use Rattle.perm_tree.specs.Names.{names_refusal}
use Rattle.perm_tree.specs.Places.{AllBelow, Listing}
use Rattle.perm_tree.specs.Resolves.{renamed_ty, renamed_decl, renamed_method, renamed_class, renamed_kind, renamed_stmt, renamed_mention, resolved, unmentioned, Resolves, IsResolved}
use Rattle.perm_tree.specs.Scopes.{declared_by, tables_of}
use Rattle.perm_tree.specs.TextOrder.{IsRising}
use Rattle.perm_tree.specs.UnitTables.{Tables}
use Rattle.perm_tree.specs.WellFormed.{ty_classes, decl_classes, method_classes, member_classes, stmt_classes, type_classes, mention_numbers, IsOrderly, IsWellFormed}
use Rattle.perm_tree.proofs.AcceptedNames.{names_refusal-accepted, names_refusal-unmentioned}
use Rattle.perm_tree.proofs.ResolvedBlocks.{resolved-once, resolved-shallow}
use Rattle.perm_tree.proofs.ResolvedLaws.{names_refusal-typed, resolved-placed}
use Rattle.perm_tree.proofs.ResolvedOrder.{flat_map-changed, marks_of-resolved, numbers-resolved}

-- ---------- lists ----------
-- a changed element is among the changed ones
contains-map : (f : ℕ → ℕ) (xs : List ℕ) (x : ℕ) → Contains xs x → Contains (map f xs) (f x)
contains-map f xs x (k, within, is) = (k, omega (arith, length-map xs f), get_or-map f xs k x (f x) within ∙ ap f is)

-- so it is of all elements
all-among-map : (f : ℕ → ℕ) (xs ys : List ℕ) → All (Contains xs) ys → All (Contains (map f xs)) (map f ys)
all-among-map f xs ys all k d within =
    let there : k < length ys = omega (arith, length-map ys f) in
    subst (Contains (map f xs)) (sym (get_or-map f ys k d d there)) (contains-map f xs (get_or ys k d) (all k d there))

below-each : (n : ℕ) (xs : List ℕ) → All (λ x. x < n) xs → AllBelow n xs
below-each n [] all = tt
below-each n (x ∷ xs) all = (all 0 x (omega arith), below-each n xs (λ k d within. all (suc k) d (omega arith)))

slice_get-front : {A : Type 0} (xs ys : List A) (k : ℕ) (x : A) → slice_get xs k ≡ Some x → slice_get (xs ++ ys) k ≡ Some x
slice_get-front [] ys k x here = absurd (let no : ⊥ = cc here in no)
slice_get-front (y ∷ xs) ys zero x here = here
slice_get-front (y ∷ xs) ys (suc k) x here = slice_get-front xs ys k x here

-- what is among numbers below n is below n
below-at : (n : ℕ) (xs : List ℕ) (k d : ℕ) → AllBelow n xs → k < length xs → get_or xs k d < n
below-at n [] k d all within = absurd (omega arith)
below-at n (x ∷ xs) zero d all within = all.0
below-at n (x ∷ xs) (suc k) d all within = below-at n xs k d all.1 (omega arith)

among-below : (n : ℕ) (xs ys : List ℕ) → All (Contains xs) ys → AllBelow n xs → AllBelow n ys
among-below n xs ys among all = below-each n ys (λ k d within. one (get_or ys k d) (among k d within))
  where
    one : (y : ℕ) → Contains xs y → y < n
    one y (k, within, is) = subst (λ x. x < n) is (below-at n xs k y all within)

-- mentioned classes whose numbers are below n
below-known : (n : ℕ) (number : ℕ → ℕ) (is : List Ident) → ((k : ℕ) (i : Ident) → slice_get is k ≡ Some i → number i.name < n) → AllBelow n (map (λ i. i.name) (map (renamed_mention number) is))
below-known n number [] known = tt
below-known n number (i ∷ is) known = (known 0 i refl, below-known n number is (λ k j here. known (suc k) j here))

-- ---------- the classes of types ----------
module _ (p : Listing) where
  abbrev number : ℕ → ℕ
  number = class_place p

  ty-classes : (t : Ty) → ty_classes (renamed_ty (class_place p) t) ≡ map number (ty_classes t)
  ty-classes Long = refl
  ty-classes Bool = refl
  ty-classes (Ref q (Class n)) = refl
  ty-classes (Ref q Array) = refl

  decl-classes : (ds : List FieldDecl) → decl_classes (map (renamed_decl (class_place p)) ds) ≡ map number (decl_classes ds)
  decl-classes ds = flat_map-changed (λ d. ty_classes d.ty) (renamed_decl (class_place p)) number ds (λ d. ty-classes d.ty)

  method-classes : (d : Method) → method_classes (renamed_method (class_place p) d) ≡ map number (method_classes d)
  method-classes d =
      let result = ty-classes d.result in
      let params = decl-classes d.params in
      (λ j. result j ++ params j) ∙ sym (map-append number (ty_classes d.result) (decl_classes d.params))

  member-classes : (c : ClassDecl) → member_classes (renamed_class (class_place p) c) ≡ map number (member_classes c)
  member-classes c =
      let fields = decl-classes c.fields in
      let methods = flat_map-changed method_classes (renamed_method (class_place p)) number c.methods method-classes in
      (λ j. fields j ++ methods j) ∙ sym (map-append number (decl_classes c.fields) (flat_map method_classes c.methods))

  declared-resolved : (kind : StmtKind) → declared_by (renamed_kind (class_place p) kind) ≡ map (renamed_decl (class_place p)) (declared_by kind)
  declared-resolved (Declare t x) = refl
  declared-resolved (Assign None x r) = refl
  declared-resolved (Assign (Some t) x r) = refl
  declared-resolved (SetField y f a) = refl
  declared-resolved (SetItem y i e) = refl
  declared-resolved (Call c) = refl
  declared-resolved (Print e) = refl
  declared-resolved (If e a b) = refl
  declared-resolved (While e a) = refl
  declared-resolved (Par a b) = refl

  stmt-classes : (s : Stmt) → stmt_classes (renamed_stmt (class_place p) s) ≡ map number (stmt_classes s)
  stmt-classes s = ap decl_classes (declared-resolved s.kind) ∙ decl-classes (declared_by s.kind)

  type-classes : type_classes (resolved p) ≡ map number (type_classes p)
  type-classes =
      let classes = flat_map-changed member_classes (renamed_class (class_place p)) number p.classes member-classes in
      let stmts = flat_map-changed stmt_classes (renamed_stmt (class_place p)) number p.stmts stmt-classes in
      (λ j. classes j ++ stmts j) ∙ sym (map-append number (flat_map member_classes p.classes) (flat_map stmt_classes p.stmts))

  mention-numbers : (is : List Ident) → map (λ i. i.name) (map (renamed_mention number) is) ≡ map number (map (λ i. i.name) is)
  mention-numbers [] = refl
  mention-numbers (i ∷ is) = ap (λ ns. number i.name ∷ ns) (mention-numbers is)

  -- ---------- the resolved program ----------
  -- what keeps a program in order keeps the resolved one
  pub resolved-orderly : IsOrderly p → IsOrderly (resolved p)
  resolved-orderly orderly = record {
    words = orderly.words;
    first = orderly.first;
    named = subst (AllBelow (length p.names)) (sym (numbers-resolved p)) orderly.named;
    mentioned =
        subst (λ ms. All (Contains ms) (type_classes (resolved p))) (sym (mention-numbers p.mentions))
        (subst (All (Contains (map number (mention_numbers p)))) (sym type-classes) (all-among-map number (mention_numbers p) (type_classes p) orderly.mentioned));
    ordered = subst (IsRising 0) (sym (marks_of-resolved p)) orderly.ordered;
    once = resolved-once p orderly.once;
    blocks = resolved-shallow p orderly.blocks;
    operands = orderly.operands;
  }

  pub resolved-formed : IsWellFormed p → IsWellFormed (resolved p)
  resolved-formed formed = record { placed = resolved-placed p formed.placed; orderly = resolved-orderly formed.orderly }

  -- where nothing is refused of its names the classes that it mentions are there
  mentions-there : names_refusal p ≡ None → AllBelow (length p.classes) (mention_numbers (resolved p))
  mentions-there accepted = below-known (length p.classes) number p.mentions (λ k i here. (names_refusal-accepted p accepted).known k i (slice_get-front p.mentions _ k i here))

-- ---------- units ----------
-- the unit of a well formed program is resolved
pub Resolves-resolved : (p : Listing) (u : Tables) → IsWellFormed p → Resolves p u → IsResolved u
Resolves-resolved p u formed is = record {
  formed = subst IsWellFormed (sym is.program) (resolved-formed p formed);
  accepted = ap (λ (q : Listing). names_refusal (unmentioned q)) is.program ∙ names_refusal-typed (unmentioned p) ∙ names_refusal-unmentioned p is.accepted;
  mentions = subst (λ (q : Listing). AllBelow (length q.classes) (mention_numbers q)) (sym is.program)
      (subst (λ n. AllBelow n (mention_numbers (resolved p))) (sym (length-map p.classes (renamed_class (class_place p)))) (mentions-there p is.accepted));
  tables = is.tables ∙ ap tables_of (sym is.program);
}

-- the classes of the types of a resolved unit are there
pub IsResolved-types : (u : Tables) → IsResolved u → AllBelow (length u.program.classes) (type_classes u.program)
IsResolved-types u is = among-below (length u.program.classes) (mention_numbers u.program) (type_classes u.program) is.formed.orderly.mentioned is.mentions
