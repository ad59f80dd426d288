-- What the code of statements writes, by the statements, and the blocks of a par by its place.
use Rattle.std.proofs.Common.{◌≡◌, ◌∙◌, ℕ, zero, suc, ◌+◌, ◌<◌, ◌≤◌, Bool, true, false, max, List, [], ◌∷◌, length, drop, Option, Some, None, refl, sym, ap, arith}
use Rattle.std.specs.Prelude.{◌||◌, ◌&&◌, cond, not, nat_eq, slice_get, slice_index}
use Rattle.std.proofs.Math.Bool.{or_assoc}
use Rattle.std.proofs.lemmas.List.{drop_all, drop_more, get_or_past}
use Rattle.perm_tree.specs.declared.ast.Block.{Block}
use Rattle.perm_tree.specs.declared.ast.Rhs.{Rhs}
use Rattle.perm_tree.specs.declared.ast.Rhs.TheVariants as rhs
use Rattle.perm_tree.specs.declared.ast.Stmt.{Stmt}
use Rattle.perm_tree.specs.declared.ast.StmtKind.{StmtKind}
use Rattle.perm_tree.specs.declared.ast.StmtKind.TheVariants as kinds
use Rattle.perm_tree.specs.Code.{Code, End, Give, LoadField, LoadLength}
use Rattle.perm_tree.specs.CodeNames.{Setting, field_at, own_vars, ty_at, var_at}
use Rattle.perm_tree.specs.CodeOf.{assignment, block_code, codes_of, kind_code, stmt_code}
use Rattle.perm_tree.specs.InBody.{setting_at}
use Rattle.perm_tree.specs.Lookup.{is_array}
use Rattle.perm_tree.specs.Mentions.{assigns, consumes, written}
use Rattle.perm_tree.specs.Places.{AllBelow, ElseBelow, IsPlaced, KindPlaced, RhsPlaced}
use Rattle.perm_tree.specs.Scopes.{else_stmts}
use Rattle.perm_tree.specs.Spelling.{is_word, length_word}
use Rattle.perm_tree.specs.UnitTables.{Tables}
use Rattle.perm_tree.specs.Vars.{those}
use Rattle.perm_tree.proofs.CodeLaws.{stmt_code-is}
use Rattle.perm_tree.proofs.Entries.{length-entries_of}
use Rattle.perm_meaning.specs.declared.eval.parts.Part.TheVariants as parts
use Rattle.perm_meaning.specs.Machine.{Blocks}
use Rattle.perm_meaning.specs.Evaluator.Parts.{code_from, first_end, first_end_if, first_if, first_stmts, recover_stmts, second_if, second_stmts, stmts_in}
use Rattle.perm_meaning.specs.Turns.{blocks}
use Rattle.perm_meaning.specs.Evaluator.Writes.{from_block, kind_writes, par_at, rhs_consumes, rhs_gives, stmt_writes, stmts_write}

-- ---------- places go down ----------
-- one more than the highest of some places
abbrev pub top : List ℕ → ℕ
top [] = 0
top (i ∷ is) = max (suc i) (top is)

-- places below a number
pub top-below : (n : ℕ) (is : List ℕ) → AllBelow n is → top is ≤ n
top-below n [] all = omega arith
top-below n (i ∷ is) all = let rest : top is ≤ n = top-below n is all.1 in let first : i < n = all.0 in omega arith

-- each of some places is below it
pub below-top : (is : List ℕ) (i : ℕ) → i < length is → slice_index is i < top is
below-top [] i less = absurd (omega arith)
below-top (j ∷ is) zero less = omega arith
below-top (j ∷ is) (suc i) less = let rest : slice_index is i < top is = below-top is i (omega (arith, less)) in omega arith

else-top : (at : ℕ) (b : Option Block) → ElseBelow at b → top (else_stmts b) ≤ at
else-top at None below = omega arith
else-top at (Some b) below = top-below at b.stmts below

recover-top : (exprs at : ℕ) (r : Rhs) → RhsPlaced exprs at r → top (recover_stmts r) ≤ at
recover-top exprs at (rhs.Recover b w give) placed = top-below at b.stmts placed
recover-top exprs at (rhs.Value a) placed = omega arith
recover-top exprs at (rhs.Field y f) placed = omega arith
recover-top exprs at (rhs.TakeField y f) placed = omega arith
recover-top exprs at (rhs.Item y e) placed = omega arith
recover-top exprs at (rhs.New c) placed = omega arith
recover-top exprs at (rhs.NewArray e) placed = omega arith
recover-top exprs at (rhs.Call c) placed = omega arith

-- the statements of a statement's first block stand before it
pub first-top : (exprs at : ℕ) (kind : StmtKind) → KindPlaced exprs at kind → top (first_stmts kind) ≤ at
first-top exprs at (kinds.If e a b) placed = top-below at a.stmts placed.1
first-top exprs at (kinds.While e a) placed = top-below at a.stmts placed.1
first-top exprs at (kinds.Par a b) placed = top-below at a.stmts placed.0
first-top exprs at (kinds.Assign t x r) placed = recover-top exprs at r placed
first-top exprs at (kinds.Declare t x) placed = omega arith
first-top exprs at (kinds.SetField y f a) placed = omega arith
first-top exprs at (kinds.SetItem y i e) placed = omega arith
first-top exprs at (kinds.Call c) placed = omega arith
first-top exprs at (kinds.Print e) placed = omega arith

-- so do those of its second block
pub second-top : (exprs at : ℕ) (kind : StmtKind) → KindPlaced exprs at kind → top (second_stmts kind) ≤ at
second-top exprs at (kinds.If e a b) placed = else-top at b placed.2
second-top exprs at (kinds.Par a b) placed = top-below at b.stmts placed.1
second-top exprs at (kinds.While e a) placed = omega arith
second-top exprs at (kinds.Assign t x r) placed = omega arith
second-top exprs at (kinds.Declare t x) placed = omega arith
second-top exprs at (kinds.SetField y f a) placed = omega arith
second-top exprs at (kinds.SetItem y i e) placed = omega arith
second-top exprs at (kinds.Call c) placed = omega arith
second-top exprs at (kinds.Print e) placed = omega arith

-- ---------- truth values ----------
or-false : (b : Bool) → (b || false) ≡ b
or-false true = refl
or-false false = refl

-- a truth value that makes no difference to what nothing holds
adds-none : (b : Bool) → false ≡ (b || false) → b ≡ false
adds-none b e = sym (e ∙ or-false b)

-- ---------- statements one behind the other ----------
-- the code from a statement on writes what the statement and what the rest writes
pub from-stmt : (k : Setting) (is : List ℕ) (i x : ℕ) (end : Code) → i < length is
    → written (block_code k (drop i is) end) x ≡ written (stmt_code k (slice_index is i) (block_code k (drop (i + 1) is) end)) x
from-stmt k is i x end less = ap (λ (js : List ℕ). written (block_code k js end) x) (drop_more is i 0 less)

-- behind the last statement stands the end
pub from-end : (k : Setting) (is : List ℕ) (i x : ℕ) (end : Code) → length is ≤ i → written (block_code k (drop i is) end) x ≡ written end x
from-end k is i x end past = ap (λ (js : List ℕ). written (block_code k js end) x) (drop_all i is past)

-- whether the statements write a variable, whatever stands behind them
abbrev pub AreWriting : Setting → List ℕ → ℕ → Bool → Type 0
AreWriting k is x b = (end : Code) → written (block_code k is end) x ≡ (b || written end x)

-- of a block, whether it writes an outer variable
pub block-writes : (k : Setting) (is : List ℕ) (x : ℕ) (b : Bool) → AreWriting k is x b → from_block k is b x ≡ stmts_write k is x
block-writes k is x b inner = ap (λ (c : Bool). c && not (those (own_vars k is) x)) (sym (inner End ∙ or-false b))

-- ---------- kinds of statements ----------
-- a statement without blocks
plain : (k : Setting) (kind : StmtKind) (x : ℕ) (f g b r : Bool) → f ≡ false → g ≡ false → stmt_writes k kind false false x ≡ b → (b || r) ≡ (stmt_writes k kind f g x || r)
plain k kind x f g b r first second e = ap (λ (c : Bool). c || r) (sym e) ∙ (λ i. stmt_writes k kind (sym first i) (sym second i) x || r)

-- one of two blocks, or the rest
two-blocks : (f g own1 own2 r : Bool) → (((f || false) && own1) || (((g || false) && own2) || r)) ≡ ((((f || false) && own1) || (g && own2)) || r)
two-blocks f g own1 own2 r =
    ap (λ (c : Bool). ((f || false) && own1) || ((c && own2) || r)) (or-false g) ∙ sym (or_assoc ((f || false) && own1) (g && own2) r)

-- one block, or the rest
one-block : (b r : Bool) → (b || r) ≡ ((b || false) || r)
one-block b r = ap (λ (c : Bool). c || r) (sym (or-false b))

module _ (k : Setting) (s : Stmt) (rest : Code) (x : ℕ) (f g : Bool) where
  -- what the code of an assignment to y writes
  abbrev Assigns : ℕ → Rhs → Type 0
  Assigns y r = written (assignment k (codes_of k) s y r rest) x ≡ (((rhs_consumes k r x || nat_eq x y) || (from_block k (recover_stmts r) (f || rhs_gives k y r x) x || from_block k [] g x)) || written rest x)

  assign-plain : (b n : Bool) → f ≡ false → g ≡ false → ((b || n) || written rest x) ≡ (((b || n) || (from_block k [] (f || false) x || from_block k [] g x)) || written rest x)
  assign-plain b n first second = one-block (b || n) (written rest x) ∙ (λ i. ((b || n) || (from_block k [] (sym first i || false) x || from_block k [] (sym second i) x)) || written rest x)

  load-writes : (y : ℕ) (c : Bool) (z v w : ℕ) → ((consumes (cond c (LoadLength y z) (LoadField y v w)) x || assigns (cond c (LoadLength y z) (LoadField y v w)) x) || written rest x) ≡ ((false || nat_eq x y) || written rest x)
  load-writes y true z v w = refl
  load-writes y false z v w = refl

  assignment-writes : (y : ℕ) (r : Rhs) → AreWriting k (recover_stmts r) x f → g ≡ false → Assigns y r
  assignment-writes y (rhs.Value a) inner none = assign-plain (rhs_consumes k (rhs.Value a) x) (nat_eq x y) (adds-none f (inner End)) none
  assignment-writes y (rhs.Field z v) inner none =
      load-writes y (is_array (ty_at k z) && is_word k.tables.program.names length_word v.name) (var_at k z) (var_at k z) (field_at k z v) ∙ assign-plain false (nat_eq x y) (adds-none f (inner End)) none
  assignment-writes y (rhs.TakeField z v) inner none = assign-plain false (nat_eq x y) (adds-none f (inner End)) none
  assignment-writes y (rhs.Item z e) inner none = assign-plain false (nat_eq x y) (adds-none f (inner End)) none
  assignment-writes y (rhs.New c) inner none = assign-plain false (nat_eq x y) (adds-none f (inner End)) none
  assignment-writes y (rhs.NewArray e) inner none = assign-plain false (nat_eq x y) (adds-none f (inner End)) none
  assignment-writes y (rhs.Call c) inner none = assign-plain (rhs_consumes k (rhs.Call c) x) (nat_eq x y) (adds-none f (inner End)) none
  assignment-writes y (rhs.Recover b w give) inner none =
      let own : Bool = not (those (own_vars k b.stmts) x) in
      let given : Bool = f || (nat_eq x (var_at k w) || nat_eq x y) in
      ap (λ (c : Bool). nat_eq x y || ((c && own) || written rest x)) (inner (Give give (var_at k w) y))
      ∙ sym (or_assoc (nat_eq x y) (given && own) (written rest x))
      ∙ ap (λ (c : Bool). (nat_eq x y || c) || written rest x) (sym (or-false (given && own)))
      ∙ ap (λ (c : Bool). (nat_eq x y || ((given && own) || from_block k [] c x)) || written rest x) (sym none)

  -- what the code of a statement writes, by what its blocks write
  pub kind-writes : (kind : StmtKind) → AreWriting k (first_stmts kind) x f → AreWriting k (second_stmts kind) x g → written (kind_code k (codes_of k) s kind rest) x ≡ (stmt_writes k kind f g x || written rest x)
  kind-writes (kinds.Declare t y) first second = plain k (kinds.Declare t y) x f g false (written rest x) (adds-none f (first End)) (adds-none g (second End)) refl
  kind-writes (kinds.Assign t y r) first second = assignment-writes (var_at k y) r first (adds-none g (second End))
  kind-writes (kinds.SetField y v a) first second =
      plain k (kinds.SetField y v a) x f g (kind_writes k (kinds.SetField y v a) x || false) (written rest x) (adds-none f (first End)) (adds-none g (second End)) refl
  kind-writes (kinds.SetItem y i e) first second = plain k (kinds.SetItem y i e) x f g false (written rest x) (adds-none f (first End)) (adds-none g (second End)) refl
  kind-writes (kinds.Call c) first second =
      plain k (kinds.Call c) x f g (kind_writes k (kinds.Call c) x || false) (written rest x) (adds-none f (first End)) (adds-none g (second End)) refl
  kind-writes (kinds.Print e) first second = plain k (kinds.Print e) x f g false (written rest x) (adds-none f (first End)) (adds-none g (second End)) refl
  kind-writes (kinds.If e a b) first second =
      let own1 : Bool = not (those (own_vars k a.stmts) x) in
      let own2 : Bool = not (those (own_vars k (else_stmts b)) x) in
      (λ i. (first End i && own1) || ((second End i && own2) || written rest x)) ∙ two-blocks f g own1 own2 (written rest x)
  kind-writes (kinds.While e a) first second =
      let own1 : Bool = not (those (own_vars k a.stmts) x) in
      ap (λ (c : Bool). (c && own1) || written rest x) (first End)
      ∙ one-block ((f || false) && own1) (written rest x)
      ∙ ap (λ (c : Bool). (((f || false) && own1) || from_block k [] c x) || written rest x) (sym (adds-none g (second End)))
  kind-writes (kinds.Par a b) first second =
      let own1 : Bool = not (those (own_vars k a.stmts) x) in
      let own2 : Bool = not (those (own_vars k b.stmts) x) in
      (λ i. (first End i && own1) || ((second End i && own2) || written rest x)) ∙ two-blocks f g own1 own2 (written rest x)

-- ---------- statements by their places ----------
-- the statement at a place writes what its kind does
pub stmt-writes : (k : Setting) (at x : ℕ) (s : Stmt) (f g : Bool) (rest : Code) → IsPlaced k.tables.program → slice_get k.tables.program.stmts at ≡ Some s → AreWriting k (first_stmts s.kind) x f → AreWriting k (second_stmts s.kind) x g
    → written (stmt_code k at rest) x ≡ (stmt_writes k s.kind f g x || written rest x)
stmt-writes k at x s f g rest placed here first second = ap (λ (c : Code). written c x) (stmt_code-is k at s rest placed here) ∙ kind-writes k s rest x f g s.kind first second

-- a place past the last has no code
pub no-stmt : (k : Setting) (at : ℕ) (rest : Code) → length k.tables.program.stmts ≤ at → stmt_code k at rest ≡ rest
no-stmt k at rest past =
    ap (λ (c : Code → Code). c rest) (get_or_past (codes_of k) at (λ c. c) (omega (arith, past, length-entries_of (λ codes (s : Stmt). kind_code k codes s s.kind) k.tables.program.stmts)))

-- ---------- pars ----------
-- the blocks of a par are those of its place
pub par-at : (u : Tables) (m at : ℕ) (s : Stmt) (a b : Block) → slice_get u.program.stmts at ≡ Some s → s.kind ≡ kinds.Par a b
    → blocks (own_vars (setting_at u m) (first_if (Some s))) (code_from u m (parts.First at) 0) (own_vars (setting_at u m) (second_if (Some s))) (code_from u m (parts.Second at) 0) ≡ par_at u m at
par-at u m at s a b here par =
    let k = setting_at u m in
    let ends : first_end_if k (Some s) ≡ End = ap (first_end k) par in
    (λ i. blocks (own_vars k (first_if (sym here i))) (code_from u m (parts.First at) 0) (own_vars k (second_if (sym here i))) (code_from u m (parts.Second at) 0))
    ∙ (λ i. blocks (own_vars k (stmts_in u m (parts.First at))) (block_code k (stmts_in u m (parts.First at)) ((ap (first_end_if k) here ∙ ends) i)) (own_vars k (stmts_in u m (parts.Second at))) (block_code k (stmts_in u m (parts.Second at)) End))

-- its left block is the code of its first part
pub left-is : (u : Tables) (m at : ℕ) (s : Stmt) (a b : Block) → slice_get u.program.stmts at ≡ Some s → s.kind ≡ kinds.Par a b → (par_at u m at).left ≡ code_from u m (parts.First at) 0
left-is u m at s a b here par = ap (λ (p : Blocks). p.left) (sym (par-at u m at s a b here par))

-- its right block is the code of its second part
pub right-is : (u : Tables) (m at : ℕ) → (par_at u m at).right ≡ code_from u m (parts.Second at) 0
right-is u m at = refl
