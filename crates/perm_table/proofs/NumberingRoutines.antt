-- The number of a method is that of the first one of its class and its place among those of the class.
use Rattle.std.proofs.Common.{◌≡◌, ◌∙◌, ℕ, zero, suc, ◌+◌, ◌<◌, Bool, true, false, not, cond, List, [], ◌∷◌, ◌++◌, length, Option, Some, None, get_or, refl, sym, ap, subst, arith, length-append, add-zero, zero-add, eq-eqb, ne_eqb}
use Rattle.std.specs.Prelude.{◌&&◌, nat_eq, nat_lt, slice_get}
use Rattle.std.specs.List.{position, position_or_len}
use Rattle.std.proofs.lemmas.Bool.Decides.{nat_tests}
use Rattle.perm_tree.specs.declared.ast.ClassDecl.{ClassDecl}
use Rattle.perm_tree.specs.declared.ast.Method.{Method}
use Rattle.perm_tree.specs.declared.ast.Shape.TheVariants.{Class, Array}
use Rattle.perm_tree.specs.declared.ast.Ty.{Ty}
use Rattle.perm_tree.specs.declared.ast.Ty.TheVariants.{Long, Bool as Boolean, Ref}
use Rattle.perm_tree.specs.declared.unit.MethodTable.{MethodTable}
use Rattle.perm_tree.specs.Lookup.{method_in, is_method_if, is_method_of, method_place}
use Rattle.perm_tree.specs.Places.{Listing}
use Rattle.perm_tree.specs.Scopes.{all_inner, class_tables, tables_from, tables_of}
use Rattle.perm_tree.specs.UnitTables.{Tables}
use Rattle.perm_table.specs.Numbering.{class_in, firsts_from, method_number, number_behind}

pub length-firsts_from : (before : ℕ) (cs : List ClassDecl) → length (firsts_from before cs) ≡ length cs
length-firsts_from before [] = refl
length-firsts_from before (c ∷ cs) = ap suc (length-firsts_from (before + length c.methods) cs)

fails : {A : Type 0} (f : A → Bool) (x : A) (xs : List A) → f x ≡ false → position_or_len f (x ∷ xs) ≡ 1 + position_or_len f xs
fails f x xs e = λ j. cond (not (e j)) (1 + position_or_len f xs) 0

later : (b : Bool) (x n r : ℕ) → nat_lt x n ≡ b → 1 + cond b x (n + r) ≡ cond (nat_lt (1 + x) (suc n)) (1 + x) (suc n + r)
later true x n r e = grind (arith, nat_tests)
later false x n r e = grind (arith, nat_tests)

step : (b : Bool) (x n r rest : ℕ) → rest ≡ cond (nat_lt x n) x (n + r) → cond (not b) (1 + rest) 0 ≡ cond (nat_lt (cond (not b) (1 + x) 0) (suc n)) (cond (not b) (1 + x) 0) (suc n + r)
step true x n r rest e = grind (arith, nat_tests)
step false x n r rest e = ap (λ m. 1 + m) e ∙ later (nat_lt x n) x n r refl

plus-cond : (b : Bool) (n x y : ℕ) → n + cond b x y ≡ cond b (n + x) (n + y)
plus-cond true n x y = refl
plus-cond false n x y = refl

behind : (b : Bool) (first count x : ℕ) → cond b (first + x) count ≡ number_behind first count (cond b (Some x) None)
behind true first count x = refl
behind false first count x = refl

module _ (p : Listing) (k : ℕ) (test : ℕ → Bool) where
  abbrev is_here : MethodTable → Bool
  is_here = is_method_of p k test

  abbrev is_named : Method → Bool
  is_named d = test d.name.name

  -- the tables of a class
  abbrev tables : ℕ → ℕ → List Method → List MethodTable
  tables class m ds = class_tables p.stmts (all_inner p.stmts) class m ds

  length-tables : (class m : ℕ) (ds : List Method) → length (tables class m ds) ≡ length ds
  length-tables class m [] = refl
  length-tables class m (d ∷ ds) = ap suc (length-tables class (suc m) ds)

  -- no table of another class is that of a method of the class
  others : (class m : ℕ) (ds : List Method) (rest : List MethodTable) → nat_eq class k ≡ false → position_or_len is_here (tables class m ds ++ rest) ≡ length ds + position_or_len is_here rest
  others class m [] rest other = sym (zero-add (position_or_len is_here rest))
  others class m (d ∷ ds) rest other =
      let more = others class (suc m) ds rest other in
      let no : (nat_eq class k && is_method_if test (method_in (slice_get p.classes class) m)) ≡ false = λ j. other j && is_method_if test (method_in (slice_get p.classes class) m) in
      (λ j. cond (not (no j)) (1 + position_or_len is_here (tables class (suc m) ds ++ rest)) 0) ∙ ap (λ n. 1 + n) more ∙ omega arith

  -- the methods of the class stand from a place on
  abbrev AreThere : ℕ → List Method → Type 0
  AreThere m ds = (j : ℕ) (d : Method) → slice_get ds j ≡ Some d → method_in (slice_get p.classes k) (m + j) ≡ Some d

  -- the first table of the class whose method has the name is that of the first method with it
  own : (m : ℕ) (ds : List Method) (rest : List MethodTable) → AreThere m ds
      → position_or_len is_here (tables k m ds ++ rest) ≡ cond (nat_lt (position_or_len is_named ds) (length ds)) (position_or_len is_named ds) (length ds + position_or_len is_here rest)
  own m [] rest there = sym (zero-add (position_or_len is_here rest))
  own m (d ∷ ds) rest there =
      let here : method_in (slice_get p.classes k) m ≡ Some d = subst (λ n. method_in (slice_get p.classes k) n ≡ Some d) (add-zero m) (there zero d refl) in
      let same = eq-eqb k k refl in
      let is : (nat_eq k k && is_method_if test (method_in (slice_get p.classes k) m)) ≡ is_named d = λ j. same j && is_method_if test (here j) in
      let more = own (suc m) ds rest (λ j e q. subst (λ n. method_in (slice_get p.classes k) n ≡ Some e) (omega arith) (there (suc j) e q)) in
      (λ j. cond (not (is j)) (1 + position_or_len is_here (tables k (suc m) ds ++ rest)) 0)
      ∙ step (is_named d) (position_or_len is_named ds) (length ds) (position_or_len is_here rest) (position_or_len is_here (tables k (suc m) ds ++ rest)) more

  -- the tables of classes from a place on
  abbrev all : ℕ → List ClassDecl → List MethodTable
  all j cs = tables_from p.stmts (all_inner p.stmts) j cs

  past : (j : ℕ) (cs : List ClassDecl) → k < j → position_or_len is_here (all j cs) ≡ length (all j cs)
  past j [] far = refl
  past j (c ∷ cs) far =
      others j 0 c.methods (all (suc j) cs) (ne_eqb j k (λ e. absurd (omega (arith, e))))
      ∙ ap (λ n. length c.methods + n) (past (suc j) cs (omega arith))
      ∙ omega (arith, length-append (tables j 0 c.methods) (all (suc j) cs), length-tables j 0 c.methods)

  -- where the method is, if there is the class, whose first method has a number; of so many
  abbrev spot : Option ClassDecl → ℕ → ℕ → ℕ
  spot None first count = count
  spot (Some c) first count = cond (nat_lt (position_or_len is_named c.methods) (length c.methods)) (first + position_or_len is_named c.methods) count

  found : (j : ℕ) (cs : List ClassDecl) (i before : ℕ) → j + i ≡ k → ((n : ℕ) (c : ClassDecl) → slice_get cs n ≡ Some c → slice_get p.classes (j + n) ≡ Some c)
      → before + position_or_len is_here (all j cs) ≡ spot (slice_get cs i) (get_or (firsts_from before cs) i 0) (before + length (all j cs))
  found j [] i before at there = refl
  found j (c ∷ cs) zero before at there =
      let same : j ≡ k = omega arith in
      let here : slice_get p.classes j ≡ Some c = subst (λ n. slice_get p.classes n ≡ Some c) (add-zero j) (there zero c refl) in
      let are : AreThere 0 c.methods = λ n d q. subst (λ m. method_in (slice_get p.classes m) (0 + n) ≡ Some d) same (rw here (subst (λ m. slice_get c.methods m ≡ Some d) (sym (zero-add n)) q)) in
      let x = position_or_len is_named c.methods in
      let rest = all (suc j) cs in
      let first : position_or_len is_here (tables j 0 c.methods ++ rest) ≡ cond (nat_lt x (length c.methods)) x (length c.methods + position_or_len is_here rest) =
      subst (λ n. position_or_len is_here (tables n 0 c.methods ++ rest) ≡ cond (nat_lt x (length c.methods)) x (length c.methods + position_or_len is_here rest)) (sym same) (own 0 c.methods rest are) in
      let count : before + (length c.methods + position_or_len is_here rest) ≡ before + length (tables j 0 c.methods ++ rest) =
      omega (arith, past (suc j) cs (omega arith), length-append (tables j 0 c.methods) rest, length-tables j 0 c.methods) in
      ap (λ n. before + n) first
      ∙ plus-cond (nat_lt x (length c.methods)) before x (length c.methods + position_or_len is_here rest)
      ∙ ap (cond (nat_lt x (length c.methods)) (before + x)) count
  found j (c ∷ cs) (suc i) before at there =
      let rest = all (suc j) cs in
      let next = before + length c.methods in
      let more = found (suc j) cs i next (omega arith) (λ n e q. subst (λ m. slice_get p.classes m ≡ Some e) (omega arith) (there (suc n) e q)) in
      let count : next + length rest ≡ before + length (tables j 0 c.methods ++ rest) = omega (arith, length-append (tables j 0 c.methods) rest, length-tables j 0 c.methods) in
      let first : before + position_or_len is_here (tables j 0 c.methods ++ rest) ≡ next + position_or_len is_here rest =
      omega (arith, others j 0 c.methods rest (ne_eqb j k (λ e. absurd (omega (arith, e))))) in
      first ∙ more ∙ ap (spot (slice_get cs i) (get_or (firsts_from next cs) i 0)) count

  abbrev number_of : Option ClassDecl → ℕ → ℕ → ℕ
  number_of None first count = count
  number_of (Some c) first count = number_behind first count (position is_named c.methods)

  spot-number : (o : Option ClassDecl) (first count : ℕ) → spot o first count ≡ number_of o first count
  spot-number None first count = refl
  spot-number (Some c) first count = behind (nat_lt (position_or_len is_named c.methods) (length c.methods)) first count (position_or_len is_named c.methods)

-- the first table of a class whose method has a name
pub number-of-method : (p : Listing) (k name : ℕ)
    → position_or_len (is_method_of p k (λ n. nat_eq n name)) (tables_of p) ≡ method_number (get_or (firsts_from 0 p.classes) k 0) (length (tables_of p)) (slice_get p.classes k) name
number-of-method p k name =
    let test : ℕ → Bool = λ n. nat_eq n name in
    let place = found p k test 0 p.classes k 0 (zero-add k) (λ n c q. subst (λ m. slice_get p.classes m ≡ Some c) (sym (zero-add n)) q) in
    let first = get_or (firsts_from 0 p.classes) k 0 in
    sym (zero-add (position_or_len (is_method_of p k test) (tables_of p)))
    ∙ place
    ∙ ap (spot p k test (slice_get p.classes k) first) (zero-add (length (tables_of p)))
    ∙ spot-number p k test (slice_get p.classes k) first (length (tables_of p))
    ∙ same (slice_get p.classes k) first (length (tables_of p))
  where
    same : (o : Option ClassDecl) (first count : ℕ) → number_of p k (λ n. nat_eq n name) o first count ≡ method_number first count o name
    same None first count = refl
    same (Some c) first count = refl

-- so of the method of a name in the class of a type
pub method_place-is : (u : Tables) (t : Option Ty) (k name : ℕ) → u.tables ≡ tables_of u.program → class_in t ≡ Some k
    → method_number (get_or (firsts_from 0 u.program.classes) k 0) (length u.tables) (slice_get u.program.classes k) name ≡ method_place u t name
method_place-is u None k name are is = absurd (let no : ⊥ = cc is in no)
method_place-is u (Some Long) k name are is = absurd (let no : ⊥ = cc is in no)
method_place-is u (Some Boolean) k name are is = absurd (let no : ⊥ = cc is in no)
method_place-is u (Some (Ref q Array)) k name are is = absurd (let no : ⊥ = cc is in no)
method_place-is u (Some (Ref q (Class j))) k name are is =
    let same : j ≡ k = cc is in
    let first = get_or (firsts_from 0 u.program.classes) k 0 in
    let test = λ (n : ℕ). position_or_len (is_method_of u.program n (λ m. nat_eq m name)) u.tables in
    ap (λ (ts : List MethodTable). method_number first (length ts) (slice_get u.program.classes k) name) are
    ∙ sym (number-of-method u.program k name)
    ∙ ap (position_or_len (is_method_of u.program k (λ m. nat_eq m name))) (sym are)
    ∙ ap test (sym same)
