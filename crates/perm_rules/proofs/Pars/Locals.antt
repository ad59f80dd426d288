-- A variable that is no parameter is known from its declaration on.
use Rattle.std.proofs.Common.{◌≡◌, ℕ, zero, suc, List, [], ◌∷◌, ◌++◌, refl, subst, inl, inr}
use Rattle.std.specs.Prelude.{◌⊎◌, map, get_or}
use Rattle.perm_tree.specs.declared.ast.FieldDecl.{FieldDecl}
use Rattle.perm_tree.specs.declared.ast.Rhs.{Rhs}
use Rattle.perm_tree.specs.declared.ast.Rhs.TheVariants.{Value, Field, TakeField, Item, New, NewArray, Call as CallRhs, Recover}
use Rattle.perm_tree.specs.declared.ast.Stmt.{Stmt}
use Rattle.perm_tree.specs.declared.ast.StmtKind.{StmtKind}
use Rattle.perm_tree.specs.declared.ast.StmtKind.TheVariants.{Declare, Assign, SetField, SetItem, Call as CallStmt, Print, If, While, Par}
use Rattle.perm_tree.specs.declared.unit.VarInfo.{VarInfo}
use Rattle.perm_tree.specs.Entries.{entries_from}
use Rattle.perm_tree.specs.Scopes.{declared_at, known_until, block_end, block_vars, braced_vars, else_stmts, rhs_vars, inner_vars}
use Rattle.perm_rules.proofs.Pars.Beginnings.{IsAmong, among-append, among-none}

-- so it is of all variables of a list
abbrev pub AreLocal : List VarInfo → Type 0
AreLocal ws = (v : VarInfo) → IsAmong v ws → v.declared.start ≡ v.scope.start

local-none : AreLocal []
local-none v at = absurd (among-none v at)

local-append : (vs ws : List VarInfo) → AreLocal vs → AreLocal ws → AreLocal (vs ++ ws)
local-append vs ws left right v at = pick (among-append v vs ws at)
  where
    pick : IsAmong v vs ⊎ IsAmong v ws → v.declared.start ≡ v.scope.start
    pick (inl i) = left v i
    pick (inr i) = right v i

local-known : (end : ℕ) (ds : List FieldDecl) → AreLocal (map (known_until end) ds)
local-known end [] v at = absurd (among-none v at)
local-known end (d ∷ ds) v (zero, here) = let same : known_until end d ≡ v = cc here in subst (λ (w : VarInfo). w.declared.start ≡ w.scope.start) same refl
local-known end (d ∷ ds) v (suc z, here) = local-known end ds v (z, here)

-- all rows of variables are so
abbrev AllLocal : List (List VarInfo) → Type 0
AllLocal [] = Unit {0}
AllLocal (vs ∷ rows) = AreLocal vs × AllLocal rows

row-local : (rows : List (List VarInfo)) (i : ℕ) → AllLocal rows → AreLocal (get_or rows i [])
row-local [] i all = local-none
row-local (vs ∷ rows) zero all = all.0
row-local (vs ∷ rows) (suc i) all = row-local rows i all.1

rows-local : (rows : List (List VarInfo)) (vs : List VarInfo) → AllLocal rows → AreLocal vs → AllLocal (rows ++ vs ∷ [])
rows-local [] vs all more = (more, tt)
rows-local (ws ∷ rows) vs all more = (all.0, rows-local rows vs all.1 more)

module _ (stmts : List Stmt) where
  module _ (inner : List (List VarInfo)) (all : AllLocal inner) where
    pub block-local : (end : ℕ) (is : List ℕ) → AreLocal (block_vars stmts inner end is)
    block-local end [] = local-none
    block-local end (i ∷ is) =
        local-append (map (known_until end) (declared_at stmts i)) (get_or inner i [] ++ block_vars stmts inner end is) (local-known end (declared_at stmts i))
        (local-append (get_or inner i []) (block_vars stmts inner end is) (row-local inner i all) (block-local end is))

    braced-local : (is : List ℕ) → AreLocal (braced_vars stmts inner is)
    braced-local is = block-local (block_end stmts 0 is) is

    rhs-local : (r : Rhs) → AreLocal (rhs_vars stmts inner r)
    rhs-local (Value a) = local-none
    rhs-local (Field y f) = local-none
    rhs-local (TakeField y f) = local-none
    rhs-local (Item y e) = local-none
    rhs-local (New c) = local-none
    rhs-local (NewArray e) = local-none
    rhs-local (CallRhs c) = local-none
    rhs-local (Recover b w give) = block-local give.end b.stmts

    kind-local : (kind : StmtKind) → AreLocal (inner_vars stmts inner kind)
    kind-local (Declare t x) = local-none
    kind-local (Assign t x r) = rhs-local r
    kind-local (SetField y f a) = local-none
    kind-local (SetItem y i e) = local-none
    kind-local (CallStmt c) = local-none
    kind-local (Print e) = local-none
    kind-local (If e a b) = local-append (braced_vars stmts inner a.stmts) (braced_vars stmts inner (else_stmts b)) (braced-local a.stmts) (braced-local (else_stmts b))
    kind-local (While e a) = braced-local a.stmts
    kind-local (Par a b) = local-append (braced_vars stmts inner a.stmts) (braced_vars stmts inner b.stmts) (braced-local a.stmts) (braced-local b.stmts)

  all-local : (inner : List (List VarInfo)) (xs : List Stmt) → AllLocal inner → AllLocal (entries_from (λ before s. inner_vars stmts before s.kind) inner xs)
  all-local inner [] all = all
  all-local inner (s ∷ xs) all = all-local (inner ++ inner_vars stmts inner s.kind ∷ []) xs (rows-local inner (inner_vars stmts inner s.kind) all (kind-local inner all s.kind))

  -- the variables that a block and the blocks within it declare
  pub locals : (end : ℕ) (is : List ℕ) → AreLocal (block_vars stmts (entries_from (λ before s. inner_vars stmts before s.kind) [] stmts) end is)
  locals end is = block-local (entries_from (λ before s. inner_vars stmts before s.kind) [] stmts) (all-local [] stmts tt) end is
