-- What holds of a program of whose names nothing is refused.
use Rattle.std.proofs.Common.{◌≡◌, ℕ, zero, suc, ◌+◌, ◌<◌, ◌≤◌, Bool, true, false, List, [], ◌∷◌, ◌++◌, length, Option, Some, None, refl, sym, ap, arith, ◌∙◌, eq-eqb}
use Rattle.std.specs.Prelude.{◌||◌, not, map, filter, flat_map, slice_get, cond, nat_eq, if◌then◌else◌}
use Rattle.std.specs.List.{list_any, position_or_len}
use Rattle.std.proofs.lemmas.List.{map-append}
use Rattle.std.proofs.lemmas.List.Elements.{filter-append}
use Rattle.perm_tree.specs.declared.ast.ClassDecl.{ClassDecl}
use Rattle.perm_tree.specs.declared.ast.Ident.{Ident}
use Rattle.perm_tree.specs.declared.ast.Method.{Method}
use Rattle.perm_tree.specs.declared.errors.Limit.{Limit}
use Rattle.perm_tree.specs.declared.errors.Limit.TheVariants.{Classes, Fields, Methods, Variables}
use Rattle.perm_tree.specs.declared.errors.TableError.{TableError}
use Rattle.perm_tree.specs.declared.errors.TableError.TheVariants.{UnknownClass, BadMain}
use Rattle.perm_tree.specs.declared.unit.MethodTable.{MethodTable}
use Rattle.perm_tree.specs.Lookup.{class_place}
use Rattle.perm_tree.specs.Names.{Complaint, class_names, field_names, method_names, var_names, class_mentions, later, double_at, doubles, is_class_name, unknowns, made_class, most, passes, passing, in_class, in_method, complaints, first_of_all, main_run, is_good_run, run_refusal, refusal_from, names_refusal}
use Rattle.perm_tree.specs.Places.{Listing}
use Rattle.perm_tree.specs.Resolves.{unmentioned}
use Rattle.perm_tree.specs.Scopes.{tables_of}

-- ---------- empty lists ----------
nil-left : {A : Type 0} (xs ys : List A) → xs ++ ys ≡ [] → xs ≡ []
nil-left [] ys e = refl
nil-left (x ∷ xs) ys e = absurd (let no : ⊥ = cc e in no)

nil-right : {A : Type 0} (xs ys : List A) → xs ++ ys ≡ [] → ys ≡ []
nil-right [] ys e = e
nil-right (x ∷ xs) ys e = absurd (let no : ⊥ = cc e in no)

nil-map : {A B : Type 0} (f : A → B) (xs : List A) → map f xs ≡ [] → xs ≡ []
nil-map f [] e = refl
nil-map f (x ∷ xs) e = absurd (let no : ⊥ = cc e in no)

nil-flat_map : {A B : Type 0} (f : A → List B) (xs : List A) (at : ℕ) (x : A) → flat_map f xs ≡ [] → slice_get xs at ≡ Some x → f x ≡ []
nil-flat_map f [] at x e here = absurd (let no : ⊥ = cc here in no)
nil-flat_map f (y ∷ ys) zero x e here = let same : y ≡ x = cc here in ap f (sym same) ∙ nil-left (f y) (flat_map f ys) e
nil-flat_map f (y ∷ ys) (suc at) x e here = nil-flat_map f ys at x (nil-right (f y) (flat_map f ys) e) here

nil-cond : {A : Type 0} (b : Bool) (x : A) (xs : List A) → cond b (x ∷ xs) xs ≡ [] → (b ≡ false) × (xs ≡ [])
nil-cond true x xs e = absurd (let no : ⊥ = cc e in no)
nil-cond false x xs e = (refl, e)

nil-filter : {A : Type 0} (f : A → Bool) (xs : List A) (at : ℕ) (x : A) → filter f xs ≡ [] → slice_get xs at ≡ Some x → f x ≡ false
nil-filter f [] at x e here = absurd (let no : ⊥ = cc here in no)
nil-filter f (y ∷ ys) zero x e here = let same : y ≡ x = cc here in ap f (sym same) ∙ (nil-cond (f y) y (filter f ys) e).0
nil-filter f (y ∷ ys) (suc at) x e here = nil-filter f ys at x (nil-cond (f y) y (filter f ys) e).1 here

-- ---------- the parts of a refusal ----------
-- no two names of a group are equal
abbrev pub AreDistinct : List Ident → Type 0
AreDistinct is = (a b : ℕ) (i j : Ident) → slice_get is a ≡ Some i → slice_get is b ≡ Some j → i.name ≡ j.name → a ≡ b

apart : (i : Ident) (is : List Ident) → map (λ j. double_at (later i j)) (filter (λ j. nat_eq i.name j.name) is) ≡ [] → (b : ℕ) (j : Ident) → slice_get is b ≡ Some j → i.name ≡ j.name → ⊥
apart i is e b j here same =
    let differs = nil-filter (λ k. nat_eq i.name k.name) is b j (nil-map (λ k. double_at (later i k)) (filter (λ k. nat_eq i.name k.name) is) e) here in
    let equal = eq-eqb i.name j.name same in
    cc (differs, equal)

doubles-distinct : (is : List Ident) → doubles is ≡ [] → AreDistinct is
doubles-distinct [] e a b i j here there same = absurd (let no : ⊥ = cc here in no)
doubles-distinct (k ∷ ks) e zero zero i j here there same = refl
doubles-distinct (k ∷ ks) e zero (suc b) i j here there same =
    let is : k ≡ i = cc here in
    absurd (apart k ks (nil-left (map (λ n. double_at (later k n)) (filter (λ n. nat_eq k.name n.name) ks)) (doubles ks) e) b j there (ap (λ (n : Ident). n.name) is ∙ same))
doubles-distinct (k ∷ ks) e (suc a) zero i j here there same =
    let is : k ≡ j = cc there in
    absurd (apart k ks (nil-left (map (λ n. double_at (later k n)) (filter (λ n. nat_eq k.name n.name) ks)) (doubles ks) e) a i here (ap (λ (n : Ident). n.name) is ∙ sym same))
doubles-distinct (k ∷ ks) e (suc a) (suc b) i j here there same =
    ap suc (doubles-distinct ks (nil-right (map (λ n. double_at (later k n)) (filter (λ n. nat_eq k.name n.name) ks)) (doubles ks) e) a b i j here there same)

within : {A : Type 0} (xs : List A) (n : ℕ) → slice_get xs n ≡ None → length xs ≤ n
within [] n e = omega arith
within (x ∷ xs) zero e = absurd (let no : ⊥ = cc e in no)
within (x ∷ xs) (suc n) e = let rest = within xs n e in omega arith

none-passes : (limit : Limit) (o : Option Ident) → passes limit o ≡ [] → o ≡ None
none-passes limit None e = refl
none-passes limit (Some i) e = absurd (let no : ⊥ = cc e in no)

-- there are at most as many as the limit says
passing-few : (limit : Limit) (is : List Ident) → passing limit is ≡ [] → length is ≤ most limit
passing-few limit is e = within is (most limit) (none-passes limit (slice_get is (most limit)) e)

first_place : (b rest : Bool) (n m : ℕ) → (rest ≡ true → n < m) → b || rest ≡ true → cond (not b) (1 + n) 0 < suc m
first_place true rest n m found e = omega arith
first_place false rest n m found e = let small = found e in omega arith

-- an element that passes a test is found
any-place : {A : Type 0} (f : A → Bool) (xs : List A) → list_any f xs ≡ true → position_or_len f xs < length xs
any-place f [] e = absurd (let no : ⊥ = cc e in no)
any-place f (x ∷ xs) e = first_place (f x) (list_any f xs) (position_or_len f xs) (length xs) (any-place f xs) e

any-map : {A B : Type 0} (f : B → Bool) (g : A → B) (xs : List A) → list_any f (map g xs) ≡ list_any (λ x. f (g x)) xs
any-map f g [] = refl
any-map f g (x ∷ xs) = ap (λ b. f (g x) || b) (any-map f g xs)

not-false : (b : Bool) → not b ≡ false → b ≡ true
not-false true e = refl
not-false false e = absurd (let no : ⊥ = cc e in no)

-- each mentioned name is that of a class
unknowns-known : (p : Listing) (is : List Ident) (at : ℕ) (i : Ident) → unknowns (class_names p) is ≡ [] → slice_get is at ≡ Some i → class_place p i.name < length p.classes
unknowns-known p is at i e here =
    let known = not-false (is_class_name (class_names p) i) (nil-filter (λ j. not (is_class_name (class_names p) j)) is at i (nil-map unknown (filter (λ j. not (is_class_name (class_names p) j)) is) e) here) in
    any-place (λ c. nat_eq c.name.name i.name) p.classes (sym (any-map (λ (c : Ident). nat_eq c.name i.name) (λ (c : ClassDecl). c.name) p.classes) ∙ known)
  where
    unknown : Ident → Complaint
    unknown j = record { at = j.span; rank = 2; what = UnknownClass j.span }

nothing-refused : (cs : List Complaint) (o : Option TableError) → refusal_from (first_of_all cs) o ≡ None → (cs ≡ []) × (o ≡ None)
nothing-refused [] o e = (refl, e)
nothing-refused (c ∷ cs) o e = absurd (let no : ⊥ = cc e in no)

good-run : (o : Option Method) → run_refusal o ≡ None → (d : Method) × (o ≡ Some d) × (is_good_run d ≡ true)
good-run None e = absurd (let no : ⊥ = cc e in no)
good-run (Some d) e = (d, refl, chosen (is_good_run d) e)
  where
    chosen : (b : Bool) → (if b then None else Some (BadMain d.name.span)) ≡ None → b ≡ true
    chosen true q = refl
    chosen false q = absurd (let no : ⊥ = cc q in no)

-- ---------- the whole ----------
-- names are distinct, their numbers are within the limits, class names are known, and Main has its Run
pub record IsAccepted (p : Listing) : Type 0 where
  pub classes : AreDistinct (class_names p)
  pub members : (k : ℕ) (c : ClassDecl) → slice_get p.classes k ≡ Some c → AreDistinct (field_names c ++ method_names c)
  pub few_fields : (k : ℕ) (c : ClassDecl) → slice_get p.classes k ≡ Some c → length (field_names c) ≤ 256
  pub variables : (n : ℕ) (t : MethodTable) → slice_get (tables_of p) n ≡ Some t → AreDistinct (var_names t)
  pub few_variables : (n : ℕ) (t : MethodTable) → slice_get (tables_of p) n ≡ Some t → length (var_names t) ≤ 256
  pub known : (n : ℕ) (i : Ident) → slice_get (class_mentions p) n ≡ Some i → class_place p i.name < length p.classes
  pub run : (d : Method) × (main_run p ≡ Some d) × (is_good_run d ≡ true)

pub names_refusal-accepted : (p : Listing) → names_refusal p ≡ None → IsAccepted p
names_refusal-accepted p e = record {
  classes = doubles-distinct (class_names p) (nil-left (doubles (class_names p)) behind1 all);
  members = λ k c here. doubles-distinct (field_names c ++ method_names c) (nil-left (doubles (field_names c ++ method_names c)) (limits c) (class k c here));
  few_fields = λ k c here. passing-few Fields (field_names c) (nil-left (passing Fields (field_names c)) (passing Methods (method_names c)) (class_limits k c here));
  variables = λ n t here. doubles-distinct (var_names t) (nil-left (doubles (var_names t)) (passing Variables (var_names t)) (method n t here));
  few_variables = λ n t here. passing-few Variables (var_names t) (nil-right (doubles (var_names t)) (passing Variables (var_names t)) (method n t here));
  known = λ n i here. unknowns-known p (class_mentions p) n i (nil-right (flat_map in_method (tables_of p)) (unknowns (class_names p) (class_mentions p)) rest3) here;
  run = good-run (main_run p) parts.1;
}
  where
    parts : (complaints p ≡ []) × (run_refusal (main_run p) ≡ None)
    parts = nothing-refused (complaints p) (run_refusal (main_run p)) e

    behind3 : List Complaint
    behind3 = flat_map in_method (tables_of p) ++ unknowns (class_names p) (class_mentions p)

    behind2 : List Complaint
    behind2 = flat_map in_class p.classes ++ behind3

    behind1 : List Complaint
    behind1 = passing Classes (class_names p) ++ behind2

    all : complaints p ≡ []
    all = parts.0

    rest1 : behind1 ≡ []
    rest1 = nil-right (doubles (class_names p)) behind1 all

    rest2 : behind2 ≡ []
    rest2 = nil-right (passing Classes (class_names p)) behind2 rest1

    rest3 : behind3 ≡ []
    rest3 = nil-right (flat_map in_class p.classes) behind3 rest2

    limits : ClassDecl → List Complaint
    limits c = passing Fields (field_names c) ++ passing Methods (method_names c)

    class : (k : ℕ) (c : ClassDecl) → slice_get p.classes k ≡ Some c → in_class c ≡ []
    class k c here = nil-flat_map in_class p.classes k c (nil-left (flat_map in_class p.classes) behind3 rest2) here

    class_limits : (k : ℕ) (c : ClassDecl) → slice_get p.classes k ≡ Some c → limits c ≡ []
    class_limits k c here = nil-right (doubles (field_names c ++ method_names c)) (limits c) (class k c here)

    method : (n : ℕ) (t : MethodTable) → slice_get (tables_of p) n ≡ Some t → in_method t ≡ []
    method n t here = nil-flat_map in_method (tables_of p) n t (nil-left (flat_map in_method (tables_of p)) (unknowns (class_names p) (class_mentions p)) rest3) here

-- ---------- without what is mentioned ----------
unknowns-append : (cs is js : List Ident) → unknowns cs (is ++ js) ≡ unknowns cs is ++ unknowns cs js
unknowns-append cs is js = ap (map complaint) (filter-append (λ i. not (is_class_name cs i)) is js) ∙ map-append complaint (filter (λ i. not (is_class_name cs i)) is) (filter (λ i. not (is_class_name cs i)) js)
  where
    complaint : Ident → Complaint
    complaint i = record { at = i.span; rank = 2; what = UnknownClass i.span }

-- where nothing is refused of the names of a program, nothing is refused of the others where what it mentions is left out
pub names_refusal-unmentioned : (p : Listing) → names_refusal p ≡ None → names_refusal (unmentioned p) ≡ None
names_refusal-unmentioned p e =
    let made = flat_map (λ s. made_class s.kind) p.stmts in
    let classes = doubles (class_names p) in
    let limit = passing Classes (class_names p) in
    let members = flat_map in_class p.classes in
    let variables = flat_map in_method (tables_of p) in
    let unknown = unknowns (class_names p) (p.mentions ++ made) in
    let parts : (complaints p ≡ []) × (run_refusal (main_run p) ≡ None) = nothing-refused (complaints p) (run_refusal (main_run p)) e in
    let behind1 = nil-right classes (limit ++ (members ++ (variables ++ unknown))) parts.0 in
    let behind2 = nil-right limit (members ++ (variables ++ unknown)) behind1 in
    let behind3 = nil-right members (variables ++ unknown) behind2 in
    let last = nil-right (unknowns (class_names p) p.mentions) (unknowns (class_names p) made) (sym (unknowns-append (class_names p) p.mentions made) ∙ nil-right variables unknown behind3) in
    let one = nil-left classes (limit ++ (members ++ (variables ++ unknown))) parts.0 in
    let two = nil-left limit (members ++ (variables ++ unknown)) behind1 in
    let three = nil-left members (variables ++ unknown) behind2 in
    let four = nil-left variables unknown behind3 in
    λ j. refusal_from (first_of_all (one j ++ (two j ++ (three j ++ (four j ++ last j))))) (parts.1 j)
