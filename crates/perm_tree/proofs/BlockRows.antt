-- Worked examples of the first name, of blocks and of operands, by computation.
use Rattle.std.proofs.Common.{◌≡◌, ℕ, zero, suc, ◌<◌, ◌≤◌, List, [], ◌∷◌, get_or, refl, ap, arith}
use Rattle.std.specs.Prelude.{pos, true, codes, nat_le}
use Rattle.std.specs.List.{list_all}
use Rattle.perm_tree.specs.declared.ast.BinaryOp.TheVariants.{Plus}
use Rattle.perm_tree.specs.declared.ast.UnaryOp.TheVariants.{Not}
use Rattle.perm_tree.specs.declared.ast.Block.{Block}
use Rattle.perm_tree.specs.declared.ast.Expr.{Expr}
use Rattle.perm_tree.specs.declared.ast.Expr.TheVariants.{Number, Bool, Unary, Binary}
use Rattle.perm_tree.specs.declared.ast.Span.{Span}
use Rattle.perm_tree.specs.declared.ast.Stmt.{Stmt}
use Rattle.perm_tree.specs.declared.ast.StmtKind.{StmtKind}
use Rattle.perm_tree.specs.declared.ast.StmtKind.TheVariants.{Print, While, Par}
use Rattle.perm_tree.specs.Blocks.{blocks_of, block_places, HasStatementsOnce, stmt_depths, deepest_block, HasShallowBlocks}
use Rattle.perm_tree.specs.Operands.{operand_depths, HasShallowOperands}
use Rattle.perm_tree.specs.Places.{Listing}
use Rattle.perm_tree.specs.Spelling.{this_word}
use Rattle.perm_tree.specs.WellFormed.{HasThisFirst}
use Rattle.perm_tree.proofs.Builder.{listing_of}
use Rattle.perm_tree.proofs.Programs.{p2, p6}

-- ---------- programs as they are read ----------
pub p6-this : HasThisFirst (listing_of p6).names
p6-this = refl

-- a block of a recover, and the body round it
pub p6-places : block_places (blocks_of (listing_of p6)) ≡ 2 ∷ 3 ∷ 0 ∷ 1 ∷ 4 ∷ []
p6-places = refl

pub p6-depths : stmt_depths (listing_of p6).stmts ≡ 0 ∷ 0 ∷ 0 ∷ 0 ∷ 1 ∷ []
p6-depths = refl

pub p2-places : block_places (blocks_of (listing_of p2)) ≡ 2 ∷ 3 ∷ 8 ∷ 9 ∷ 10 ∷ 11 ∷ 12 ∷ 13 ∷ 5 ∷ 6 ∷ 7 ∷ 14 ∷ 15 ∷ 0 ∷ 1 ∷ 4 ∷ 16 ∷ 17 ∷ 18 ∷ 19 ∷ []
p2-places = refl

-- a loop within a recover block
pub p2-depths : stmt_depths (listing_of p2).stmts ≡ 0 ∷ 0 ∷ 0 ∷ 0 ∷ 1 ∷ 0 ∷ 0 ∷ 0 ∷ 0 ∷ 0 ∷ 0 ∷ 0 ∷ 0 ∷ 0 ∷ 1 ∷ 0 ∷ 2 ∷ 0 ∷ 0 ∷ 0 ∷ []
p2-depths = refl

pub p2-operands : operand_depths (listing_of p2).exprs ≡ 0 ∷ 0 ∷ 1 ∷ 0 ∷ 0 ∷ 1 ∷ 0 ∷ 0 ∷ 0 ∷ 0 ∷ 0 ∷ 1 ∷ 0 ∷ 0 ∷ 0 ∷ 0 ∷ 0 ∷ 0 ∷ 1 ∷ 0 ∷ 0 ∷ 0 ∷ 0 ∷ []
p2-operands = refl

-- ---------- listings that no text has ----------
abbrev nowhere : Span
nowhere = record { start = 0; end = 0 }

abbrev stmt : StmtKind → Stmt
stmt kind = record { span = nowhere; head = nowhere; kind = kind }

abbrev braced : List ℕ → Block
braced is = record { stmts = is }

abbrev listing : List (List ℕ) → List Stmt → List Expr → Listing
listing names stmts exprs = record { names = names; classes = []; stmts = stmts; exprs = exprs; mentions = [] }

-- another word before `this`
pub other-first : HasThisFirst (codes "that" ∷ this_word ∷ []) → ⊥
other-first h = let apart : ◌≡◌ {A = ℕ} 97 105 = ap (λ (w : List ℕ). get_or w 2 0) h in omega arith

-- no name at all
pub no-names : HasThisFirst []
no-names = tt

-- a statement that both blocks of a par hold
abbrev shared : Listing
shared = listing [] (stmt (Print 0) ∷ stmt (Par (braced (0 ∷ [])) (braced (0 ∷ []))) ∷ []) (Number (pos 1) ∷ [])

pub shared-places : block_places (blocks_of shared) ≡ 0 ∷ 0 ∷ []
shared-places = refl

pub shared-refused : HasStatementsOnce shared → ⊥
shared-refused h = h.apart 0 1 0 (omega arith) (omega arith) refl

-- a statement that one block holds twice
abbrev again : Listing
again = listing [] (stmt (Print 0) ∷ stmt (While 0 (braced (0 ∷ 0 ∷ []))) ∷ []) (Bool true ∷ [])

pub again-refused : HasStatementsOnce again → ⊥
again-refused h = h.apart 0 1 0 (omega arith) (omega arith) refl

-- a statement that no block holds
pub lost-refused : HasStatementsOnce (listing [] (stmt (Print 0) ∷ []) (Number (pos 1) ∷ [])) → ⊥
lost-refused h = let within : (h.held 0 (omega arith)).0 < 0 = (h.held 0 (omega arith)).1 in omega arith

-- loops that each hold the one before, from a place on
abbrev loops : ℕ → ℕ → List Stmt
loops at zero = []
loops at (suc n) = stmt (While 0 (braced (at ∷ []))) ∷ loops (suc at) n

-- an empty loop within so many others
abbrev tower : ℕ → List Stmt
tower n = stmt (While 0 (braced [])) ∷ loops 0 n

pub tower-depths : stmt_depths (tower 3) ≡ 1 ∷ 2 ∷ 3 ∷ 4 ∷ []
tower-depths = refl

-- 98 loops one within the other
pub tower-fits : list_all (λ n. nat_le n deepest_block) (stmt_depths (tower 97)) ≡ true
tower-fits = refl

-- one loop more
pub tower-refused : HasShallowBlocks (tower 98) → ⊥
tower-refused h = let deep : 99 ≤ 98 = h 98 0 (omega arith) in omega arith

-- sums in which each has the one before on its right, from a place on
abbrev sums : (ℕ → Expr) → ℕ → ℕ → List Expr
sums make at zero = []
sums make at (suc n) = make at ∷ sums make (suc at) n

abbrev to_the_right : ℕ → List Expr
to_the_right n = Number (pos 1) ∷ sums (λ at. Binary Plus 0 at) 0 n

abbrev to_the_left : ℕ → List Expr
to_the_left n = Number (pos 1) ∷ sums (λ at. Binary Plus at 0) 0 n

abbrev negations : ℕ → List Expr
negations n = Bool true ∷ sums (λ at. Unary Not at) 0 n

pub right-depths : operand_depths (to_the_right 4) ≡ 0 ∷ 1 ∷ 2 ∷ 3 ∷ 4 ∷ []
right-depths = refl

-- a chain of left operands may be as long as the text
pub left-depths : operand_depths (to_the_left 6) ≡ 0 ∷ 1 ∷ 1 ∷ 1 ∷ 1 ∷ 1 ∷ 1 ∷ []
left-depths = refl

pub negations-refused : HasShallowOperands (negations 595) → ⊥
negations-refused h = let deep : 595 ≤ 594 = h 595 0 (omega arith) in omega arith
