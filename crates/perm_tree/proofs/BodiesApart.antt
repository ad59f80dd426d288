-- No statement stands in the bodies of two methods.
use Rattle.std.proofs.Common.{◌≡◌, ℕ, zero, suc, ◌+◌, ◌<◌, ◌≤◌, true, List, [], ◌∷◌, ◌++◌, length, Option, Some, None, refl, sym, ◌∙◌, ap, subst, arith, get_or, inl, inr, add-zero}
use Rattle.std.specs.Prelude.{◌⊎◌, flat_map, map, option_map, slice_get}
use Rattle.std.proofs.lemmas.List.{map-append}
use Rattle.std.proofs.lemmas.Option.{slice_get-map, slice_get_within}
use Rattle.perm_tree.specs.declared.ast.ClassDecl.{ClassDecl}
use Rattle.perm_tree.specs.declared.ast.Method.{Method}
use Rattle.perm_tree.specs.declared.ast.Stmt.{Stmt}
use Rattle.perm_tree.specs.declared.unit.MethodTable.{MethodTable}
use Rattle.perm_tree.specs.Blocks.{block_places, stmt_blocks, HasStatementsOnce}
use Rattle.perm_tree.specs.InBody.{all_within, body_if, body_places, inner_places, method_if, places_with, IsStmtOf}
use Rattle.perm_tree.specs.Lookup.{method_in, method_of}
use Rattle.perm_tree.specs.Places.{AllBelow, IsPlaced, Listing}
use Rattle.perm_tree.specs.Resolves.{IsResolved}
use Rattle.perm_tree.specs.Scopes.{all_inner, class_tables, tables_from, tables_of}
use Rattle.perm_tree.specs.TextOrder.{methods_of}
use Rattle.perm_tree.specs.UnitTables.{Tables}
use Rattle.perm_tree.specs.Vars.{those}
use Rattle.perm_tree.proofs.HeldStatements.{inner-below, listed-below, opened, reached, reaches, within-at, Opened, Reached}
use Rattle.perm_tree.proofs.StandOnce.{apart-behind, apart-parts, body_listed, holders-same, inner-listed, method-listed, once-places, those-contained, AreApart}

-- ---------- what stands round a statement ----------
module _ (stmts : List Stmt) (placed : (j : ℕ) (s : Stmt) → slice_get stmts j ≡ Some s → AllBelow j (inner_places s)) where
  abbrev within : List (List ℕ)
  within = all_within stmts

  -- the statement whose block holds a place is another one, or stands within it
  record Outside (j at : ℕ) : Type 0 where
    place : ℕ
    stmt : Stmt
    here : slice_get stmts place ≡ Some stmt
    inside : those (inner_places stmt) at ≡ true
    either : (place ≡ j) ⊎ (those (get_or within j []) place ≡ true)

  outside : (n j at : ℕ) → j < n → those (get_or within j []) at ≡ true → Outside j at
  outside zero j at less e = absurd (omega arith)
  outside (suc n) j at less e = go (opened stmts placed j at e) (λ k small q. outside n k at small q)
    where
      go : Opened stmts placed j at → ((k : ℕ) → k < n → those (get_or within k []) at ≡ true → Outside k at) → Outside j at
      go o later = pick o.inside.either
        where
          before : o.inside.at < j
          before = listed-below j (inner_places o.stmt) o.inside.at (placed j o.stmt o.here) o.inside.listed

          deeper : Outside o.inside.at at → Outside j at
          deeper r = record {
            place = r.place;
            stmt = r.stmt;
            here = r.here;
            inside = r.inside;
            either = inr (subst (λ xs. those xs r.place ≡ true) (sym (within-at stmts placed j o.stmt o.here)) (reaches within (inner_places o.stmt) r.place o.inside.at o.inside.listed r.either));
          }

          pick : (at ≡ o.inside.at) ⊎ (those (get_or within o.inside.at []) at ≡ true) → Outside j at
          pick (inl q) = record { place = j; stmt = o.stmt; here = o.here; inside = subst (λ x. those (inner_places o.stmt) x ≡ true) (sym q) o.inside.listed; either = inl refl }
          pick (inr q) = deeper (later o.inside.at (omega (arith, before)) q)

  -- so of some statements
  record Surrounds (is : List ℕ) (at : ℕ) : Type 0 where
    place : ℕ
    stmt : Stmt
    here : slice_get stmts place ≡ Some stmt
    inside : those (inner_places stmt) at ≡ true
    listed : those (places_with within is) place ≡ true

  -- a place in or within some statements is one of them, or the statement whose block holds it is in or within them
  surrounded : (is : List ℕ) (at : ℕ) → those (places_with within is) at ≡ true → (those is at ≡ true) ⊎ Surrounds is at
  surrounded is at e = go (reached within is at e)
    where
      go : Reached within is at → (those is at ≡ true) ⊎ Surrounds is at
      go r = pick r.either
        where
          wrap : Outside r.at at → Surrounds is at
          wrap o = record { place = o.place; stmt = o.stmt; here = o.here; inside = o.inside; listed = reaches within is o.place r.at r.listed o.either }

          pick : (at ≡ r.at) ⊎ (those (get_or within r.at []) at ≡ true) → (those is at ≡ true) ⊎ Surrounds is at
          pick (inl q) = inl (subst (λ x. those is x ≡ true) (sym q) r.listed)
          pick (inr q) = inr (wrap (outside (suc r.at) r.at at (omega arith) q))

-- ---------- two methods ----------
-- two methods with one statement in both bodies are the same
methods-same : (ds : List Method) → AreApart (block_places (map (λ d. d.body) ds)) → (m n : ℕ) (d e : Method) (i : ℕ) → slice_get ds m ≡ Some d → slice_get ds n ≡ Some e → those d.body.stmts i ≡ true → those e.body.stmts i ≡ true → m ≡ n
methods-same [] apart m n d e i here there f g = absurd (let no : ⊥ = cc here in no)
methods-same (c ∷ ds) apart m n d e i here there f g = by-places m n here there (λ m n here there. methods-same ds (apart-behind c.body.stmts (block_places (map (λ d. d.body) ds)) apart) m n d e i here there f g)
  where
    first : (n : ℕ) (d e : Method) → c ≡ d → slice_get ds n ≡ Some e → those d.body.stmts i ≡ true → those e.body.stmts i ≡ true → ⊥
    first n d e same there f g =
        apart-parts c.body.stmts (block_places (map (λ d. d.body) ds)) apart i (subst (λ (r : Method). those r.body.stmts i ≡ true) (sym same) f) (method-listed ds n e i there g)

    by-places : (m n : ℕ) → slice_get (c ∷ ds) m ≡ Some d → slice_get (c ∷ ds) n ≡ Some e → ((m n : ℕ) → slice_get ds m ≡ Some d → slice_get ds n ≡ Some e → m ≡ n) → m ≡ n
    by-places zero zero here there later = refl
    by-places zero (suc n) here there later = absurd (first n d e (cc here) there f g)
    by-places (suc m) zero here there later = absurd (first m e d (cc there) here g f)
    by-places (suc m) (suc n) here there later = ap suc (later m n here there)

module _ (p : Listing) (is_placed : IsPlaced p) (once : HasStatementsOnce p) where
  inner : (j : ℕ) (s : Stmt) → slice_get p.stmts j ≡ Some s → AllBelow j (inner_places s)
  inner j s here = inner-below (length p.exprs) j s.kind (is_placed.stmts j s here)

  unheld : (m : ℕ) (d : Method) (i : ℕ) → slice_get (methods_of p) m ≡ Some d → those d.body.stmts i ≡ true → (j : ℕ) (s : Stmt) → slice_get p.stmts j ≡ Some s → those (inner_places s) i ≡ true → ⊥
  unheld m d i here e j s at f = apart-parts (block_places (stmt_blocks p.stmts)) (body_listed p) (once-places p once) i (inner-listed p.stmts j s i at f) (method-listed (methods_of p) m d i here e)

  -- two with a statement in or within both are the same, if two are with the one that holds it
  by-holders : (at m o : ℕ) (d e : Method) → slice_get (methods_of p) m ≡ Some d → slice_get (methods_of p) o ≡ Some e
      → ((i : ℕ) → at < i → i < length p.stmts → those (places_with (all_within p.stmts) d.body.stmts) i ≡ true → those (places_with (all_within p.stmts) e.body.stmts) i ≡ true → m ≡ o)
      → those (places_with (all_within p.stmts) d.body.stmts) at ≡ true → those (places_with (all_within p.stmts) e.body.stmts) at ≡ true → m ≡ o
  by-holders at m o d e here there later f g = pick (surrounded p.stmts inner d.body.stmts at f) (surrounded p.stmts inner e.body.stmts at g)
    where
      pick : (those d.body.stmts at ≡ true) ⊎ Surrounds p.stmts inner d.body.stmts at → (those e.body.stmts at ≡ true) ⊎ Surrounds p.stmts inner e.body.stmts at → m ≡ o
      pick (inl a) (inl b) = methods-same (methods_of p) (apart-behind (block_places (stmt_blocks p.stmts)) (body_listed p) (once-places p once)) m o d e at here there a b
      pick (inl a) (inr s) = absurd (unheld m d at here a s.place s.stmt s.here s.inside)
      pick (inr s) (inl b) = absurd (unheld o e at there b s.place s.stmt s.here s.inside)
      pick (inr s) (inr r) =
          let same = holders-same p once r.place s.place r.stmt s.stmt at r.here s.here r.inside s.inside in
          later s.place (listed-below s.place (inner_places s.stmt) at (inner s.place s.stmt s.here) s.inside) (slice_get_within p.stmts s.place s.stmt s.here) s.listed
          (subst (λ i. those (places_with (all_within p.stmts) e.body.stmts) i ≡ true) same r.listed)

  -- so all of them are
  method-same : (n at : ℕ) → length p.stmts ≤ at + n → (m o : ℕ) (d e : Method) → slice_get (methods_of p) m ≡ Some d → slice_get (methods_of p) o ≡ Some e
      → those (places_with (all_within p.stmts) d.body.stmts) at ≡ true → those (places_with (all_within p.stmts) e.body.stmts) at ≡ true → m ≡ o
  method-same zero at room m o d e here there = by-holders at m o d e here there (λ i above below f g. absurd (omega (arith, room, above, below)))
  method-same (suc n) at room m o d e here there = by-holders at m o d e here there (λ i above below f g. method-same n i (omega (arith, room, above)) m o d e here there f g)

-- ---------- tables ----------
-- the tables of a class are those of its methods
class_tables-listed : (p : Listing) (class m : ℕ) (ds : List Method) → ((j : ℕ) (d : Method) → slice_get ds j ≡ Some d → method_in (slice_get p.classes class) (m + j) ≡ Some d)
    → map (method_of p) (class_tables p.stmts (all_inner p.stmts) class m ds) ≡ map (λ d. Some d) ds
class_tables-listed p class m [] there = refl
class_tables-listed p class m (d ∷ ds) there =
    let one : method_in (slice_get p.classes class) m ≡ Some d = subst (λ n. method_in (slice_get p.classes class) n ≡ Some d) (add-zero m) (there zero d refl) in
    let more = class_tables-listed p class (suc m) ds (λ j e q. subst (λ n. method_in (slice_get p.classes class) n ≡ Some e) (omega arith) (there (suc j) e q)) in
    λ i. one i ∷ more i

tables_from-listed : (p : Listing) (k : ℕ) (cs : List ClassDecl) → ((j : ℕ) (c : ClassDecl) → slice_get cs j ≡ Some c → slice_get p.classes (k + j) ≡ Some c)
    → map (method_of p) (tables_from p.stmts (all_inner p.stmts) k cs) ≡ map (λ d. Some d) (flat_map (λ c. c.methods) cs)
tables_from-listed p k [] there = refl
tables_from-listed p k (c ∷ cs) there =
    let here : slice_get p.classes k ≡ Some c = subst (λ n. slice_get p.classes n ≡ Some c) (add-zero k) (there zero c refl) in
    let one = class_tables-listed p k 0 c.methods (λ j d q. rw here (subst (λ n. slice_get c.methods n ≡ Some d) (omega arith) q)) in
    let more = tables_from-listed p (suc k) cs (λ j e q. subst (λ n. slice_get p.classes n ≡ Some e) (omega arith) (there (suc j) e q)) in
    map-append (method_of p) (class_tables p.stmts (all_inner p.stmts) k 0 c.methods) (tables_from p.stmts (all_inner p.stmts) (suc k) cs)
    ∙ (λ i. one i ++ more i)
    ∙ sym (map-append (λ (d : Method). Some d) c.methods (flat_map (λ c. c.methods) cs))

-- the method of the table with a number has that number
method-there : (p : Listing) (m : ℕ) (t : MethodTable) (d : Method) → slice_get (tables_of p) m ≡ Some t → method_of p t ≡ Some d → slice_get (methods_of p) m ≡ Some d
method-there p m t d here is = pick (slice_get (methods_of p) m) (sym (slice_get-map (λ (e : Method). Some e) (methods_of p) m) ∙ sym (ap (λ (l : List (Option Method)). slice_get l m) listed) ∙ slice_get-map (method_of p) (tables_of p) m ∙ ap (option_map (method_of p)) here ∙ ap (λ (o : Option Method). Some o) is)
  where
    listed : map (method_of p) (tables_of p) ≡ map (λ d. Some d) (methods_of p)
    listed = tables_from-listed p 0 p.classes (λ j c q. subst (λ n. slice_get p.classes n ≡ Some c) (omega arith) q)

    pick : (o : Option Method) → option_map (λ (e : Method). Some e) o ≡ Some (Some d) → o ≡ Some d
    pick None same = absurd (let no : ⊥ = cc same in no)
    pick (Some e) same = cc same

-- ---------- units ----------
-- the method in whose body a place stands
record StandsIn (u : Tables) (m at : ℕ) : Type 0 where
  body : Method
  there : slice_get (methods_of u.program) m ≡ Some body
  listed : those (places_with (all_within u.program.stmts) body.body.stmts) at ≡ true

stands-in : (u : Tables) (m at : ℕ) → IsResolved u → IsStmtOf u m at → StandsIn u m at
stands-in u m at is stands = by-table (slice_get u.tables m) refl (those-contained (body_places u m) at stands)
  where
    by-method : (t : MethodTable) (o : Option Method) → slice_get u.tables m ≡ Some t → method_of u.program t ≡ o → those (places_with (all_within u.program.stmts) (body_if o)) at ≡ true → StandsIn u m at
    by-method t None here found e = absurd (let no : ⊥ = cc e in no)
    by-method t (Some d) here found e = record { body = d; there = method-there u.program m t d (subst (λ (ts : List MethodTable). slice_get ts m ≡ Some t) is.tables here) found; listed = e }

    by-table : (o : Option MethodTable) → slice_get u.tables m ≡ o → those (places_with (all_within u.program.stmts) (body_if (method_if u (slice_get u.tables m)))) at ≡ true → StandsIn u m at
    by-table None here e = absurd (let none : those (places_with (all_within u.program.stmts) (body_if (method_if u None))) at ≡ true = subst (λ o. those (places_with (all_within u.program.stmts) (body_if (method_if u o))) at ≡ true) here e in let no : ⊥ = cc none in no)
    by-table (Some t) here e = by-method t (method_of u.program t) here refl (subst (λ o. those (places_with (all_within u.program.stmts) (body_if (method_if u o))) at ≡ true) here e)

-- a statement stands in the body of one method
pub bodies-apart : (u : Tables) (m n at : ℕ) → IsResolved u → IsStmtOf u m at → IsStmtOf u n at → m ≡ n
bodies-apart u m n at is one two = go (stands-in u m at is one) (stands-in u n at is two)
  where
    go : StandsIn u m at → StandsIn u n at → m ≡ n
    go a b = method-same u.program is.formed.placed is.formed.orderly.once (length u.program.stmts) at (omega arith) m n a.body b.body a.there b.there a.listed b.listed
