-- The blocks of a program: which statements stand in them, and how deep they nest.
use Rattle.std.specs.Prelude.{◌≢◌, ℕ, suc, ◌<◌, ◌≤◌, max, All, AllPairs, Contains, List, [], ◌∷◌, ◌++◌, length, map, flat_map, get_or, Option, Some, None}
use Rattle.perm_tree.specs.declared.ast.Block.{Block}
use Rattle.perm_tree.specs.declared.ast.Rhs.{Rhs}
use Rattle.perm_tree.specs.declared.ast.Rhs.TheVariants.{Recover}
use Rattle.perm_tree.specs.declared.ast.Stmt.{Stmt}
use Rattle.perm_tree.specs.declared.ast.StmtKind.{StmtKind}
use Rattle.perm_tree.specs.declared.ast.StmtKind.TheVariants.{Assign, If, While, Par}
use Rattle.perm_tree.specs.Entries.{entries_of}
use Rattle.perm_tree.specs.Places.{Listing}
use Rattle.perm_tree.specs.TextOrder.{methods_of}

-- ---------- which statements stand in blocks ----------
-- the block of a right side, if it has one
abbrev pub rhs_blocks : Rhs → List Block
rhs_blocks (Recover b w give) = b ∷ []
rhs_blocks _ = []

-- the block behind `else`, if there is one
abbrev pub else_blocks : Option Block → List Block
else_blocks None = []
else_blocks (Some b) = b ∷ []

-- the blocks of a statement, in text order
abbrev pub kind_blocks : StmtKind → List Block
kind_blocks (Assign t x r) = rhs_blocks r
kind_blocks (If e a b) = a ∷ else_blocks b
kind_blocks (While e a) = a ∷ []
kind_blocks (Par a b) = a ∷ b ∷ []
kind_blocks _ = []

-- the blocks of some statements
abbrev pub stmt_blocks : List Stmt → List Block
stmt_blocks stmts = flat_map (λ s. kind_blocks s.kind) stmts

-- the blocks of a program: those of its statements, and the bodies of its methods
abbrev pub blocks_of : Listing → List Block
blocks_of p = stmt_blocks p.stmts ++ map (λ d. d.body) (methods_of p)

-- the places of the statements that stand in some blocks
abbrev pub block_places : List Block → List ℕ
block_places bs = flat_map (λ b. b.stmts) bs

-- each statement of a program stands in one block, and in no other one
pub record HasStatementsOnce (p : Listing) : Type 0 where
  pub held : (at : ℕ) → at < length p.stmts → Contains (block_places (blocks_of p)) at
  pub apart : AllPairs (λ i j. i ≢ j) (block_places (blocks_of p))

-- ---------- how deep blocks nest ----------
-- the depth of the deepest of the statements at some places
abbrev pub deepest_at : List ℕ → List ℕ → ℕ
deepest_at depths [] = 0
deepest_at depths (i ∷ is) = max (get_or depths i 0) (deepest_at depths is)

-- how deep some blocks nest: one deeper than the deepest statement in them
abbrev pub blocks_depth : List ℕ → List Block → ℕ
blocks_depth depths [] = 0
blocks_depth depths (b ∷ bs) = max (suc (deepest_at depths b.stmts)) (blocks_depth depths bs)

-- how deep blocks nest within a statement, by the depths of the statements before it
abbrev pub stmt_depth : List ℕ → Stmt → ℕ
stmt_depth depths s = blocks_depth depths (kind_blocks s.kind)

-- the depth of each statement
abbrev pub stmt_depths : List Stmt → List ℕ
stmt_depths stmts = entries_of stmt_depth stmts

-- how deep blocks nest at most: of the 100 brackets that may be open two are those of the class and of the method
abbrev pub deepest_block : ℕ
deepest_block = 98

-- no statement is deeper than that
abbrev pub HasShallowBlocks : List Stmt → Type 0
HasShallowBlocks stmts = All (λ n. n ≤ deepest_block) (stmt_depths stmts)
