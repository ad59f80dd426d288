-- Which statements stand within others.
use Rattle.std.proofs.Common.{◌≡◌, ℕ, zero, suc, ◌<◌, ◌≤◌, true, List, [], ◌∷◌, ◌++◌, length, Option, Some, None, refl, sym, ◌∙◌, ap, subst, arith, get_or, inl, inr, append_assoc, append-nil}
use Rattle.std.specs.Prelude.{◌⊎◌, nat_eq, slice_get, unwrap_or}
use Rattle.std.proofs.Math.ListN.{get_or-append}
use Rattle.std.proofs.lemmas.Bool.{eqb-true, eq-eqb, or_cases, or_left, or_right}
use Rattle.std.proofs.lemmas.Option.{slice_get_cases, slice_get_past, unwrap_or-slice_get}
use Rattle.perm_tree.specs.declared.ast.Block.{Block}
use Rattle.perm_tree.specs.declared.ast.Rhs.{Rhs}
use Rattle.perm_tree.specs.declared.ast.Rhs.TheVariants.{Value, Field, TakeField as TakeRhs, Item, New, NewArray as NewArrayRhs, Call as CallRhs, Recover as RecoverRhs}
use Rattle.perm_tree.specs.declared.ast.Stmt.{Stmt}
use Rattle.perm_tree.specs.declared.ast.StmtKind.{StmtKind}
use Rattle.perm_tree.specs.declared.ast.StmtKind.TheVariants.{Declare as DeclareStmt, Assign as AssignStmt, SetField, SetItem, Call as CallStmt, Print as PrintStmt, If as IfStmt, While as WhileStmt, Par as ParStmt}
use Rattle.perm_tree.specs.Blocks.{rhs_blocks, else_blocks, kind_blocks, block_places}
use Rattle.perm_tree.specs.InBody.{inner_places, places_with, all_within}
use Rattle.perm_tree.specs.Places.{AllBelow, ElseBelow, IsPlaced, KindPlaced, Listing, RhsPlaced}
use Rattle.perm_tree.specs.Scopes.{else_stmts}
use Rattle.perm_tree.specs.Vars.{those}
use Rattle.perm_tree.proofs.Entries.{entries_of-at, length-entries_of}
use Rattle.perm_tree.proofs.StandOnce.{those-parts, those-left, those-right}

-- an element whose place is in range is there
pub element-there : {X : Type 0} (xs : List X) (i : ℕ) → i < length xs → (x : X) × (slice_get xs i ≡ Some x)
element-there {X} xs i less = pick (slice_get_cases xs i).1
  where
    pick : ((x : X) × (i < length xs) × (slice_get xs i ≡ Some x) × (get_or xs i x ≡ x)) ⊎ ((length xs ≤ i) × (slice_get xs i ≡ None)) → (x : X) × (slice_get xs i ≡ Some x)
    pick (inl (x, small, here, is)) = (x, here)
    pick (inr both) = let past : length xs ≤ i = both.0 in absurd (omega arith)

pub listed-below : (n : ℕ) (is : List ℕ) (i : ℕ) → AllBelow n is → those is i ≡ true → i < n
listed-below n [] i all e = absurd (let no : ⊥ = cc e in no)
listed-below n (j ∷ is) i all e = pick (or_cases (nat_eq i j) (those is i) e) (λ q. listed-below n is i all.1 q)
  where
    pick : (nat_eq i j ≡ true) ⊎ (those is i ≡ true) → (those is i ≡ true → i < n) → i < n
    pick (inl q) later = subst (λ x. x < n) (sym (eqb-true i j q)) all.0
    pick (inr q) later = later q

-- what stands behind doesn't change the places within statements that stand before
places-front : (before after : List (List ℕ)) (is : List ℕ) → AllBelow (length before) is → places_with (before ++ after) is ≡ places_with before is
places-front before after [] all = refl
places-front before after (i ∷ is) all =
    ap (λ xs. i ∷ (xs ++ places_with (before ++ after) is)) (get_or-append before after [] i all.0) ∙ ap (λ xs. i ∷ (get_or before i [] ++ xs)) (places-front before after is all.1)

-- a place among some statements and those within them is that of one of them, or is within it
pub record Reached (inner : List (List ℕ)) (is : List ℕ) (i : ℕ) : Type 0 where
  pub at : ℕ
  pub listed : those is at ≡ true
  pub either : (i ≡ at) ⊎ (those (get_or inner at []) i ≡ true)

pub reached : (inner : List (List ℕ)) (is : List ℕ) (i : ℕ) → those (places_with inner is) i ≡ true → Reached inner is i
reached inner [] i e = absurd (let no : ⊥ = cc e in no)
reached inner (j ∷ is) i e = first (or_cases (nat_eq i j) (those (get_or inner j [] ++ places_with inner is) i) e) (λ q. reached inner is i q)
  where
    here : those (j ∷ is) j ≡ true
    here = or_left (nat_eq j j) (those is j) (eq-eqb j j refl)

    later : Reached inner is i → Reached inner (j ∷ is) i
    later r = record { at = r.at; listed = or_right (nat_eq r.at j) (those is r.at) r.listed; either = r.either }

    second : (those (get_or inner j []) i ≡ true) ⊎ (those (places_with inner is) i ≡ true) → (those (places_with inner is) i ≡ true → Reached inner is i) → Reached inner (j ∷ is) i
    second (inl q) more = record { at = j; listed = here; either = inr q }
    second (inr q) more = later (more q)

    first : (nat_eq i j ≡ true) ⊎ (those (get_or inner j [] ++ places_with inner is) i ≡ true) → (those (places_with inner is) i ≡ true → Reached inner is i) → Reached inner (j ∷ is) i
    first (inl q) more = record { at = j; listed = here; either = inl (eqb-true i j q) }
    first (inr q) more = second (those-parts (get_or inner j []) (places_with inner is) i q) more

pub reaches : (inner : List (List ℕ)) (is : List ℕ) (i at : ℕ) → those is at ≡ true → (i ≡ at) ⊎ (those (get_or inner at []) i ≡ true) → those (places_with inner is) i ≡ true
reaches inner [] i at e either = absurd (let no : ⊥ = cc e in no)
reaches inner (j ∷ is) i at e either = pick (or_cases (nat_eq at j) (those is at) e) (λ q. reaches inner is i at q either)
  where
    here : at ≡ j → (i ≡ at) ⊎ (those (get_or inner at []) i ≡ true) → those (places_with inner (j ∷ is)) i ≡ true
    here same (inl q) = or_left (nat_eq i j) (those (get_or inner j [] ++ places_with inner is) i) (eq-eqb i j (q ∙ same))
    here same (inr q) =
        or_right (nat_eq i j) (those (get_or inner j [] ++ places_with inner is) i)
        (those-left (get_or inner j []) (places_with inner is) i (subst (λ n. those (get_or inner n []) i ≡ true) same q))

    pick : (nat_eq at j ≡ true) ⊎ (those is at ≡ true) → (those is at ≡ true → those (places_with inner is) i ≡ true) → those (places_with inner (j ∷ is)) i ≡ true
    pick (inl q) later = here (eqb-true at j q) either
    pick (inr q) later = or_right (nat_eq i j) (those (get_or inner j [] ++ places_with inner is) i) (those-right (get_or inner j []) (places_with inner is) i (later q))

-- ---------- what lists of statements hide ----------

-- ---------- places ----------
below-append : (n : ℕ) (is js : List ℕ) → AllBelow n is → AllBelow n js → AllBelow n (is ++ js)
below-append n [] js f g = g
below-append n (i ∷ is) js f g = (f.0, below-append n is js f.1 g)

one-below : (n : ℕ) (b : Block) → AllBelow n b.stmts → AllBelow n (block_places (b ∷ []))
one-below n b f = below-append n b.stmts [] f tt

pub else-below : (n : ℕ) (b : Option Block) → ElseBelow n b → AllBelow n (else_stmts b)
else-below n None f = tt
else-below n (Some b) f = f

pub else-places : (b : Option Block) → block_places (else_blocks b) ≡ else_stmts b
else-places None = refl
else-places (Some b) = append-nil b.stmts

rhs-below : (exprs n : ℕ) (r : Rhs) → RhsPlaced exprs n r → AllBelow n (block_places (rhs_blocks r))
rhs-below exprs n (Value a) f = tt
rhs-below exprs n (Field y x) f = tt
rhs-below exprs n (TakeRhs y x) f = tt
rhs-below exprs n (Item y e) f = tt
rhs-below exprs n (New x) f = tt
rhs-below exprs n (NewArrayRhs e) f = tt
rhs-below exprs n (CallRhs m) f = tt
rhs-below exprs n (RecoverRhs b w give) f = one-below n b f

-- the statements of a statement's blocks stand before it
pub inner-below : (exprs n : ℕ) (kind : StmtKind) → KindPlaced exprs n kind → AllBelow n (block_places (kind_blocks kind))
inner-below exprs n (DeclareStmt t x) f = tt
inner-below exprs n (AssignStmt t x r) f = rhs-below exprs n r f
inner-below exprs n (SetField y x a) f = tt
inner-below exprs n (SetItem y i e) f = tt
inner-below exprs n (CallStmt m) f = tt
inner-below exprs n (PrintStmt e) f = tt
inner-below exprs n (IfStmt e a b) f = below-append n a.stmts (block_places (else_blocks b)) f.1 (subst (AllBelow n) (sym (else-places b)) (else-below n b f.2))
inner-below exprs n (WhileStmt e a) f = one-below n a f.1
inner-below exprs n (ParStmt a b) f = below-append n a.stmts (block_places (b ∷ [])) f.0 (one-below n b f.1)

pub places-append : (inner : List (List ℕ)) (is js : List ℕ) → places_with inner (is ++ js) ≡ places_with inner is ++ places_with inner js
places-append inner [] js = refl
places-append inner (i ∷ is) js =
    ap (λ xs. i ∷ (get_or inner i [] ++ xs)) (places-append inner is js) ∙ ap (λ xs. i ∷ xs) (sym (append_assoc (get_or inner i []) (places_with inner is) (places_with inner js)))

-- a place in or within two lists of statements is in or within the one or the other
pub places-parts : (inner : List (List ℕ)) (is js : List ℕ) (at : ℕ) → those (places_with inner (is ++ js)) at ≡ true → (those (places_with inner is) at ≡ true) ⊎ (those (places_with inner js) at ≡ true)
places-parts inner is js at e = those-parts (places_with inner is) (places_with inner js) at (subst (λ xs. those xs at ≡ true) (places-append inner is js) e)

-- ---------- the statements of a program ----------
module _ (stmts : List Stmt) (placed : (j : ℕ) (s : Stmt) → slice_get stmts j ≡ Some s → AllBelow j (inner_places s)) where
  abbrev within : List (List ℕ)
  within = all_within stmts

  pub within-length : length within ≡ length stmts
  within-length = length-entries_of (λ inner s. places_with inner (inner_places s)) stmts

  pub within-at : (j : ℕ) (s : Stmt) → slice_get stmts j ≡ Some s → get_or within j [] ≡ places_with within (inner_places s)
  within-at j s here =
      entries_of-at (λ inner s. places_with inner (inner_places s)) stmts j s [] here
      (λ before after count. places-front before after (inner_places s) (subst (λ n. AllBelow n (inner_places s)) (sym count) (placed j s here)))

  -- the statement that holds a place, or holds what holds it
  pub record Opened (j i : ℕ) : Type 0 where
    pub stmt : Stmt
    pub here : slice_get stmts j ≡ Some stmt
    pub inside : Reached within (inner_places stmt) i

  pub opened : (j i : ℕ) → those (get_or within j []) i ≡ true → Opened j i
  opened j i e = by-option (slice_get stmts j) refl
    where
      past : slice_get stmts j ≡ None → length stmts ≤ j
      past none = pick (slice_get_cases stmts j).1
        where
          pick : ((x : Stmt) × (j < length stmts) × (slice_get stmts j ≡ Some x) × (get_or stmts j x ≡ x)) ⊎ ((length stmts ≤ j) × (slice_get stmts j ≡ None)) → length stmts ≤ j
          pick (inl (x, less, here, is)) = absurd (let no : ⊥ = cc (none, here) in no)
          pick (inr both) = both.0

      nothing : slice_get stmts j ≡ None → get_or within j [] ≡ []
      nothing none = let behind : length stmts ≤ j = past none in sym (unwrap_or-slice_get within j []) ∙ ap (λ o. unwrap_or o []) (slice_get_past within j (omega (arith, within-length)))

      by-option : (o : Option Stmt) → slice_get stmts j ≡ o → Opened j i
      by-option None q = absurd (let no : ⊥ = cc (subst (λ xs. those xs i ≡ true) (nothing q) e) in no)
      by-option (Some s) q = record { stmt = s; here = q; inside = reached within (inner_places s) i (subst (λ xs. those xs i ≡ true) (within-at j s q) e) }

  -- what is within a statement stands before it
  pub earlier : (n j i : ℕ) → j < n → those (get_or within j []) i ≡ true → i < j
  earlier zero j i less e = absurd (omega arith)
  earlier (suc n) j i less e = go (opened j i e) (λ k small q. earlier n k i small q)
    where
      go : Opened j i → ((k : ℕ) → k < n → those (get_or within k []) i ≡ true → i < k) → i < j
      go o later = pick o.inside.either
        where
          before : o.inside.at < j
          before = listed-below j (inner_places o.stmt) o.inside.at (placed j o.stmt o.here) o.inside.listed

          pick : (i ≡ o.inside.at) ⊎ (those (get_or within o.inside.at []) i ≡ true) → i < j
          pick (inl q) = subst (λ x. x < j) (sym q) before
          pick (inr q) = let deep : i < o.inside.at = later o.inside.at (omega (arith, before)) q in omega (arith, before)

-- the places within a statement of a program
pub within-stmt : (p : Listing) (at : ℕ) (s : Stmt) → IsPlaced p → slice_get p.stmts at ≡ Some s → get_or (all_within p.stmts) at [] ≡ places_with (all_within p.stmts) (inner_places s)
within-stmt p at s placed here = within-at p.stmts (λ j t there. inner-below (length p.exprs) j t.kind (placed.stmts j t there)) at s here
