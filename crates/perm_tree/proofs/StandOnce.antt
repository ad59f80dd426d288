-- In a program whose statements each stand in one block, two statements hold no statement in common, and none holds one of a method's body.
use Rattle.std.proofs.Common.{◌≡◌, ◌≢◌, ℕ, zero, suc, ◌<◌, true, List, [], ◌∷◌, ◌++◌, length, Some, refl, sym, ◌∙◌, ap, subst, arith, append_assoc, get_or, inl, inr}
use Rattle.std.specs.Prelude.{◌⊎◌, AllPairs, Contains, flat_map, map, nat_eq, slice_get}
use Rattle.std.proofs.lemmas.Bool.{eqb-true, eq-eqb, or_cases, or_left, or_right}
use Rattle.std.proofs.lemmas.Grind.{flat_map-append}
use Rattle.std.proofs.lemmas.List.{map-append}
use Rattle.std.proofs.lemmas.List.Folds.{list_any-append}
use Rattle.perm_tree.specs.declared.ast.Block.{Block}
use Rattle.perm_tree.specs.declared.ast.ClassDecl.{ClassDecl}
use Rattle.perm_tree.specs.declared.ast.Method.{Method}
use Rattle.perm_tree.specs.declared.ast.Stmt.{Stmt}
use Rattle.perm_tree.specs.Blocks.{kind_blocks, stmt_blocks, block_places, HasStatementsOnce}
use Rattle.perm_tree.specs.Places.{Listing}
use Rattle.perm_tree.specs.TextOrder.{methods_of}
use Rattle.perm_tree.specs.Vars.{those}
use Rattle.perm_tree.specs.InBody.{inner_places}

-- ---------- listed numbers ----------
pub those-left : (xs ys : List ℕ) (i : ℕ) → those xs i ≡ true → those (xs ++ ys) i ≡ true
those-left xs ys i e = list_any-append (nat_eq i) xs ys ∙ or_left (those xs i) (those ys i) e

pub those-right : (xs ys : List ℕ) (i : ℕ) → those ys i ≡ true → those (xs ++ ys) i ≡ true
those-right xs ys i e = list_any-append (nat_eq i) xs ys ∙ or_right (those xs i) (those ys i) e

pub those-parts : (xs ys : List ℕ) (i : ℕ) → those (xs ++ ys) i ≡ true → (those xs i ≡ true) ⊎ (those ys i ≡ true)
those-parts xs ys i e = or_cases (those xs i) (those ys i) (sym (list_any-append (nat_eq i) xs ys) ∙ e)

-- an element is listed
pub those-contained : (xs : List ℕ) (i : ℕ) → Contains xs i → those xs i ≡ true
those-contained xs i (k, within, is) = at xs k within is
  where
    at : (xs : List ℕ) (k : ℕ) → k < length xs → get_or xs k i ≡ i → those xs i ≡ true
    at [] k within is = absurd (omega arith)
    at (x ∷ xs) zero within is = or_left (nat_eq i x) (those xs i) (eq-eqb i x (sym is))
    at (x ∷ xs) (suc k) within is = or_right (nat_eq i x) (those xs i) (at xs k (omega arith) is)

-- a listed number stands at some place
place-of : (xs : List ℕ) (i : ℕ) → those xs i ≡ true → (k : ℕ) × (k < length xs) × (get_or xs k 0 ≡ i)
place-of [] i e = absurd (let no : ⊥ = cc e in no)
place-of (x ∷ xs) i e = pick (or_cases (nat_eq i x) (those xs i) e) (λ q. place-of xs i q)
  where
    later : (k : ℕ) × (k < length xs) × (get_or xs k 0 ≡ i) → (k : ℕ) × (k < suc (length xs)) × (get_or (x ∷ xs) k 0 ≡ i)
    later (k, within, is) = (suc k, omega arith, is)

    pick : (nat_eq i x ≡ true) ⊎ (those xs i ≡ true) → (those xs i ≡ true → (k : ℕ) × (k < length xs) × (get_or xs k 0 ≡ i)) → (k : ℕ) × (k < suc (length xs)) × (get_or (x ∷ xs) k 0 ≡ i)
    pick (inl q) more = (0, omega arith, sym (eqb-true i x q))
    pick (inr q) more = later (more q)

-- ---------- lists without equal elements ----------
abbrev pub AreApart : List ℕ → Type 0
AreApart xs = AllPairs (λ i j. i ≢ j) xs

apart-tail : (x : ℕ) (xs : List ℕ) → AreApart (x ∷ xs) → AreApart xs
apart-tail x xs all i j d less within = all (suc i) (suc j) d (omega arith) (omega arith)

apart-head : (x : ℕ) (xs : List ℕ) → AreApart (x ∷ xs) → those xs x ≡ true → ⊥
apart-head x xs all e = go (place-of xs x e)
  where
    go : (k : ℕ) × (k < length xs) × (get_or xs k 0 ≡ x) → ⊥
    go (k, within, is) = all 0 (suc k) 0 (omega arith) (omega arith) (sym is)

-- what stands in front doesn't stand behind
pub apart-parts : (xs ys : List ℕ) → AreApart (xs ++ ys) → (i : ℕ) → those xs i ≡ true → those ys i ≡ true → ⊥
apart-parts [] ys all i e f = absurd (let no : ⊥ = cc e in no)
apart-parts (x ∷ xs) ys all i e f = pick (or_cases (nat_eq i x) (those xs i) e) (λ q. apart-parts xs ys (apart-tail x (xs ++ ys) all) i q f)
  where
    pick : (nat_eq i x ≡ true) ⊎ (those xs i ≡ true) → (those xs i ≡ true → ⊥) → ⊥
    pick (inl q) later = apart-head x (xs ++ ys) all (subst (λ n. those (xs ++ ys) n ≡ true) (eqb-true i x q) (those-right xs ys i f))
    pick (inr q) later = later q

pub apart-behind : (xs ys : List ℕ) → AreApart (xs ++ ys) → AreApart ys
apart-behind [] ys all = all
apart-behind (x ∷ xs) ys all = apart-behind xs ys (apart-tail x (xs ++ ys) all)

-- ---------- statements ----------
-- the places in the blocks of a statement and of others
places-cons : (t : Stmt) (ss : List Stmt) → block_places (stmt_blocks (t ∷ ss)) ≡ inner_places t ++ block_places (stmt_blocks ss)
places-cons t ss = flat_map-append (λ b. b.stmts) (kind_blocks t.kind) (stmt_blocks ss)

-- what stands in the blocks of one of some statements stands in their blocks
pub inner-listed : (ss : List Stmt) (j : ℕ) (s : Stmt) (i : ℕ) → slice_get ss j ≡ Some s → those (inner_places s) i ≡ true → those (block_places (stmt_blocks ss)) i ≡ true
inner-listed [] j s i here e = absurd (let no : ⊥ = cc here in no)
inner-listed (t ∷ ss) zero s i here e =
    let same : t ≡ s = cc here in
    subst (λ xs. those xs i ≡ true) (sym (places-cons t ss)) (those-left (inner_places t) (block_places (stmt_blocks ss)) i (subst (λ (r : Stmt). those (inner_places r) i ≡ true) (sym same) e))
inner-listed (t ∷ ss) (suc j) s i here e =
    subst (λ xs. those xs i ≡ true) (sym (places-cons t ss)) (those-right (inner_places t) (block_places (stmt_blocks ss)) i (inner-listed ss j s i here e))

-- two statements that hold one are the same
holder-same : (ss : List Stmt) (rest : List ℕ) → AreApart (block_places (stmt_blocks ss) ++ rest) → (j k : ℕ) (s t : Stmt) (i : ℕ) → slice_get ss j ≡ Some s → slice_get ss k ≡ Some t
    → those (inner_places s) i ≡ true → those (inner_places t) i ≡ true → j ≡ k
holder-same [] rest all j k s t i here there e f = absurd (let no : ⊥ = cc here in no)
holder-same (r ∷ ss) rest all j k s t i here there e f = by-places j k here there (λ apart j k here there. holder-same ss rest apart j k s t i here there e f)
  where
    apart : AreApart (inner_places r ++ (block_places (stmt_blocks ss) ++ rest))
    apart = subst AreApart (ap (λ xs. xs ++ rest) (places-cons r ss) ∙ append_assoc (inner_places r) (block_places (stmt_blocks ss)) rest) all

    first : (n : ℕ) (s t : Stmt) → r ≡ s → slice_get ss n ≡ Some t → those (inner_places s) i ≡ true → those (inner_places t) i ≡ true → ⊥
    first n s t same there e f =
        apart-parts (inner_places r) (block_places (stmt_blocks ss) ++ rest) apart i (subst (λ (r : Stmt). those (inner_places r) i ≡ true) (sym same) e)
        (those-left (block_places (stmt_blocks ss)) rest i (inner-listed ss n t i there f))

    by-places : (j k : ℕ) → slice_get (r ∷ ss) j ≡ Some s → slice_get (r ∷ ss) k ≡ Some t → (AreApart (block_places (stmt_blocks ss) ++ rest) → (j k : ℕ) → slice_get ss j ≡ Some s → slice_get ss k ≡ Some t → j ≡ k) → j ≡ k
    by-places zero zero here there later = refl
    by-places zero (suc k) here there later = absurd (first k s t (cc here) there e f)
    by-places (suc j) zero here there later = absurd (first j t s (cc there) here f e)
    by-places (suc j) (suc k) here there later = ap suc (later (apart-behind (inner_places r) (block_places (stmt_blocks ss) ++ rest) apart) j k here there)

-- ---------- programs ----------
-- the places of the statements of a program's bodies
abbrev pub body_listed : Listing → List ℕ
body_listed p = block_places (map (λ d. d.body) (methods_of p))

pub once-places : (p : Listing) → HasStatementsOnce p → AreApart (block_places (stmt_blocks p.stmts) ++ body_listed p)
once-places p once = subst AreApart (flat_map-append (λ b. b.stmts) (stmt_blocks p.stmts) (map (λ d. d.body) (methods_of p))) once.apart

-- no two statements of a program hold one
pub holders-same : (p : Listing) → HasStatementsOnce p → (j k : ℕ) (s t : Stmt) (i : ℕ) → slice_get p.stmts j ≡ Some s → slice_get p.stmts k ≡ Some t
    → those (inner_places s) i ≡ true → those (inner_places t) i ≡ true → j ≡ k
holders-same p once = holder-same p.stmts (body_listed p) (once-places p once)

pub method-listed : (ds : List Method) (n : ℕ) (d : Method) (i : ℕ) → slice_get ds n ≡ Some d → those d.body.stmts i ≡ true → those (block_places (map (λ d. d.body) ds)) i ≡ true
method-listed [] n d i here e = absurd (let no : ⊥ = cc here in no)
method-listed (c ∷ ds) zero d i here e =
    let same : c ≡ d = cc here in
    those-left c.body.stmts (block_places (map (λ d. d.body) ds)) i (subst (λ (r : Method). those r.body.stmts i ≡ true) (sym same) e)
method-listed (c ∷ ds) (suc n) d i here e = those-right c.body.stmts (block_places (map (λ d. d.body) ds)) i (method-listed ds n d i here e)

-- the statements of the bodies of a class and of others
bodies-append : (ds es : List Method) → block_places (map (λ d. d.body) (ds ++ es)) ≡ block_places (map (λ d. d.body) ds) ++ block_places (map (λ d. d.body) es)
bodies-append ds es = ap block_places (map-append (λ (d : Method). d.body) ds es) ∙ flat_map-append (λ (b : Block). b.stmts) (map (λ d. d.body) ds) (map (λ d. d.body) es)

class-listed : (cs : List ClassDecl) (k n : ℕ) (c : ClassDecl) (d : Method) (i : ℕ) → slice_get cs k ≡ Some c → slice_get c.methods n ≡ Some d → those d.body.stmts i ≡ true
    → those (block_places (map (λ d. d.body) (flat_map (λ c. c.methods) cs))) i ≡ true
class-listed [] k n c d i here there e = absurd (let no : ⊥ = cc here in no)
class-listed (b ∷ cs) zero n c d i here there e =
    let same : b ≡ c = cc here in
    subst (λ xs. those xs i ≡ true) (sym (bodies-append b.methods (flat_map (λ c. c.methods) cs)))
    (those-left (block_places (map (λ d. d.body) b.methods)) (block_places (map (λ d. d.body) (flat_map (λ c. c.methods) cs))) i
    (method-listed b.methods n d i (subst (λ (z : ClassDecl). slice_get z.methods n ≡ Some d) (sym same) there) e))
class-listed (b ∷ cs) (suc k) n c d i here there e =
    subst (λ xs. those xs i ≡ true) (sym (bodies-append b.methods (flat_map (λ c. c.methods) cs)))
    (those-right (block_places (map (λ d. d.body) b.methods)) (block_places (map (λ d. d.body) (flat_map (λ c. c.methods) cs))) i (class-listed cs k n c d i here there e))

-- no statement holds one of a method's body
pub body-unheld : (p : Listing) → HasStatementsOnce p → (k n : ℕ) (c : ClassDecl) (d : Method) (i : ℕ) → slice_get p.classes k ≡ Some c → slice_get c.methods n ≡ Some d → those d.body.stmts i ≡ true
    → (j : ℕ) (s : Stmt) → slice_get p.stmts j ≡ Some s → those (inner_places s) i ≡ true → ⊥
body-unheld p once k n c d i here there e j s at f =
    apart-parts (block_places (stmt_blocks p.stmts)) (body_listed p) (once-places p once) i (inner-listed p.stmts j s i at f) (class-listed p.classes k n c d i here there e)
