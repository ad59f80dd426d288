-- The statements of a block of a body, the blocks of its statements, and how the places of statements go down into blocks.
use Rattle.std.proofs.Common.{◌≡◌, ℕ, zero, suc, ◌<◌, ◌≤◌, max, true, List, [], ◌∷◌, length, Option, Some, None, refl, sym, subst, arith, get_or, All, inl}
use Rattle.std.specs.Prelude.{Contains, nat_eq, slice_index}
use Rattle.std.specs.Option.{IfSome}
use Rattle.std.proofs.lemmas.Bool.{eq-eqb, or_left, or_right}
use Rattle.std.proofs.lemmas.List.Elements.{All-from_get_or}
use Rattle.perm_tree.specs.declared.ast.Block.{Block}
use Rattle.perm_tree.specs.declared.ast.Ident.{Ident}
use Rattle.perm_tree.specs.declared.ast.Rhs.TheVariants.{Recover}
use Rattle.perm_tree.specs.declared.ast.Span.{Span}
use Rattle.perm_tree.specs.declared.ast.Stmt.{Stmt}
use Rattle.perm_tree.specs.declared.ast.StmtKind.{StmtKind}
use Rattle.perm_tree.specs.declared.ast.StmtKind.TheVariants.{Assign, If, While, Par}
use Rattle.perm_tree.specs.declared.ast.Ty.{Ty}
use Rattle.perm_tree.specs.Blocks.{block_places, kind_blocks}
use Rattle.perm_tree.specs.InBody.{all_within, body_if, body_places, places_with, HasStmt, IsBlockOf, Body, Inner, IsStmtOf}
use Rattle.perm_tree.specs.Places.{AllBelow, KindPlaced}
use Rattle.perm_tree.specs.Resolves.{IsResolved}
use Rattle.perm_tree.specs.Scopes.{else_stmts}
use Rattle.perm_tree.specs.UnitTables.{Tables}
use Rattle.perm_tree.specs.Vars.{those}
use Rattle.perm_tree.proofs.StandOnce.{those-left, those-right}
use Rattle.perm_tree.proofs.HeldStatements.{reaches}
use Rattle.perm_rules.proofs.MethodStatements.{contained-those, stmt-inside}

-- ---------- the statements of a block ----------
-- what is at a place of a list is listed
listed-at : (xs : List ℕ) (i : ℕ) → i < length xs → those xs (slice_index xs i) ≡ true
listed-at [] i less = absurd (omega arith)
listed-at (x ∷ xs) zero less = or_left (nat_eq x x) (those xs x) (eq-eqb x x refl)
listed-at (x ∷ xs) (suc i) less = or_right (nat_eq (slice_index xs i) x) (those xs (slice_index xs i)) (listed-at xs i (omega arith))

-- a statement of a block stands among those of all blocks
block-listed : (bs : List Block) (b : Block) (k i : ℕ) → k < length bs → get_or bs k b ≡ b → those b.stmts i ≡ true → those (block_places bs) i ≡ true
block-listed [] b k i less is listed = absurd (omega arith)
block-listed (a ∷ bs) b zero i less is listed = those-left a.stmts (block_places bs) i (subst (λ (c : Block). those c.stmts i ≡ true) (sym is) listed)
block-listed (a ∷ bs) b (suc k) i less is listed = those-right a.stmts (block_places bs) i (block-listed bs b k i (omega arith) is listed)

-- the first statements of blocks stand among these and those within them
outer-listed : (inner : List (List ℕ)) (is : List ℕ) (i : ℕ) → those is i ≡ true → those (places_with inner is) i ≡ true
outer-listed inner is i listed = reaches inner is i i listed (inl refl)

-- each statement of a block of a body is one of the body
pub block-stmt : (u : Tables) (m : ℕ) (b : Block) (i : ℕ) → IsResolved u → IsBlockOf u m b → those b.stmts i ≡ true → IsStmtOf u m i
block-stmt u m b i resolved (Body d there is) listed =
    contained-those (body_places u m) i
    (subst (λ o. those (places_with (all_within u.program.stmts) (body_if o)) i ≡ true) (sym there)
    (outer-listed (all_within u.program.stmts) d.body.stmts i (subst (λ (c : Block). those c.stmts i ≡ true) is listed)))
block-stmt u m b i resolved (Inner at s stands (k, less, is)) listed = stmt-inside u resolved m at s i stands.inside stands.here (block-listed (kind_blocks s.kind) b k i less is listed)

-- so they all are
pub block-stmts : (u : Tables) (m : ℕ) (b : Block) → IsResolved u → IsBlockOf u m b → All (IsStmtOf u m) b.stmts
block-stmts u m b resolved block = All-from_get_or (IsStmtOf u m) b.stmts 0 (λ i less. block-stmt u m b (slice_index b.stmts i) resolved block (listed-at b.stmts i less))

-- ---------- the blocks of a statement ----------
module _ (u : Tables) (m at : ℕ) (s : Stmt) (stands : HasStmt u m at s) where
  inner-block : (b : Block) (kind : StmtKind) → s.kind ≡ kind → Contains (kind_blocks kind) b → IsBlockOf u m b
  inner-block b kind is holds = Inner at s stands (subst (λ (q : StmtKind). Contains (kind_blocks q) b) (sym is) holds)

  pub if-block : (e : ℕ) (a : Block) (b : Option Block) → s.kind ≡ If e a b → IsBlockOf u m a
  if-block e a b is = inner-block a (If e a b) is (0, omega arith, refl)

  pub else-block : (e : ℕ) (a : Block) (b : Option Block) → s.kind ≡ If e a b → IfSome b (IsBlockOf u m)
  else-block e a None is = tt
  else-block e a (Some b) is = inner-block b (If e a (Some b)) is (1, omega arith, refl)

  pub while-block : (e : ℕ) (a : Block) → s.kind ≡ While e a → IsBlockOf u m a
  while-block e a is = inner-block a (While e a) is (0, omega arith, refl)

  pub left-block : (a b : Block) → s.kind ≡ Par a b → IsBlockOf u m a
  left-block a b is = inner-block a (Par a b) is (0, omega arith, refl)

  pub right-block : (a b : Block) → s.kind ≡ Par a b → IsBlockOf u m b
  right-block a b is = inner-block b (Par a b) is (1, omega arith, refl)

  pub recover-block : (t : Option Ty) (x : Ident) (a : Block) (w : Ident) (give : Span) → s.kind ≡ Assign t x (Recover a w give) → IsBlockOf u m a
  recover-block t x a w give is = inner-block a (Assign t x (Recover a w give)) is (0, omega arith, refl)

-- ---------- places go down ----------
-- one more than the highest of some places
abbrev pub top : List ℕ → ℕ
top [] = 0
top (i ∷ is) = max (suc i) (top is)

pub top-below : (n : ℕ) (is : List ℕ) → AllBelow n is → top is ≤ n
top-below n [] all = omega arith
top-below n (i ∷ is) all = let rest : top is ≤ n = top-below n is all.1 in let first : i < n = all.0 in omega arith

pub below-top : (is : List ℕ) (i : ℕ) → i < length is → slice_index is i < top is
below-top [] i less = absurd (omega arith)
below-top (x ∷ is) zero less = omega arith
below-top (x ∷ is) (suc i) less = let rest : slice_index is i < top is = below-top is i (omega arith) in omega arith

-- the blocks of a statement stand before it
module _ (exprs at : ℕ) where
  pub if-top : (e : ℕ) (a : Block) (b : Option Block) → KindPlaced exprs at (If e a b) → (top a.stmts ≤ at) × (top (else_stmts b) ≤ at)
  if-top e a None placed = (top-below at a.stmts placed.1, omega arith)
  if-top e a (Some b) placed = (top-below at a.stmts placed.1, top-below at b.stmts placed.2)

  pub while-top : (e : ℕ) (a : Block) → KindPlaced exprs at (While e a) → top a.stmts ≤ at
  while-top e a placed = top-below at a.stmts placed.1

  pub par-top : (a b : Block) → KindPlaced exprs at (Par a b) → (top a.stmts ≤ at) × (top b.stmts ≤ at)
  par-top a b placed = (top-below at a.stmts placed.0, top-below at b.stmts placed.1)

  pub recover-top : (t : Option Ty) (x : Ident) (a : Block) (w : Ident) (give : Span) → KindPlaced exprs at (Assign t x (Recover a w give)) → top a.stmts ≤ at
  recover-top t x a w give placed = top-below at a.stmts placed
