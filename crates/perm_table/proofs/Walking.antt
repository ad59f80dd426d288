-- How the variables of blocks are added one by one.
use Rattle.std.proofs.Common.{◌≡◌, ℕ, zero, suc, ◌+◌, ◌<◌, List, [], ◌∷◌, ◌++◌, length, Option, Some, None, refl, sym, ap, subst, arith, drop, get_or, drop-cons, append_assoc, add-one, ◌∙◌}
use Rattle.std.specs.Prelude.{map, slice_get, slice_index}
use Rattle.std.proofs.Math.ListN.{get_or-append}
use Rattle.perm_tree.specs.declared.ast.Block.{Block}
use Rattle.perm_tree.specs.declared.ast.Rhs.{Rhs}
use Rattle.perm_tree.specs.declared.ast.Rhs.TheVariants.{Value, Field, TakeField, Item, New, NewArray, Call as CallRhs, Recover}
use Rattle.perm_tree.specs.declared.ast.Stmt.{Stmt}
use Rattle.perm_tree.specs.declared.ast.StmtKind.{StmtKind}
use Rattle.perm_tree.specs.declared.ast.StmtKind.TheVariants.{Declare, Assign, SetField, SetItem, Call as CallStmt, Print, If, While, Par}
use Rattle.perm_tree.specs.declared.unit.VarInfo.{VarInfo}
use Rattle.perm_tree.specs.Places.{AllBelow, ElseBelow, RhsPlaced, KindPlaced, IsPlaced, Listing}
use Rattle.perm_tree.specs.Scopes.{all_inner, block_end, block_vars, braced_vars, declared_at, declared_by, declared_if, else_stmts, end_if, inner_vars, known_until, rhs_vars}
use Rattle.perm_tree.proofs.Entries.{entries_of-at}

-- ---------- places ----------
pub AllBelow-at : (n : ℕ) (is : List ℕ) (i : ℕ) → AllBelow n is → i < length is → slice_index is i < n
AllBelow-at n [] i all within = absurd (omega arith)
AllBelow-at n (x ∷ is) zero all within = all.0
AllBelow-at n (x ∷ is) (suc i) all within = AllBelow-at n is i all.1 (omega arith)

pub drop-at : (is : List ℕ) (i : ℕ) → i < length is → drop i is ≡ slice_index is i ∷ drop (i + 1) is
drop-at is i within = drop-cons is i 0 within ∙ ap (λ n. slice_index is i ∷ drop n is) (sym (add-one i))

-- ---------- blocks within a statement ----------
-- only the entries before a place are read
block-front : (stmts : List Stmt) (before after : List (List VarInfo)) (end : ℕ) (is : List ℕ) → AllBelow (length before) is → block_vars stmts (before ++ after) end is ≡ block_vars stmts before end is
block-front stmts before after end [] all = refl
block-front stmts before after end (i ∷ is) all =
    let here = get_or-append before after [] i all.0 in
    let rest = block-front stmts before after end is all.1 in
    λ j. map (known_until end) (declared_at stmts i) ++ (here j ++ rest j)

braced-front : (stmts : List Stmt) (before after : List (List VarInfo)) (is : List ℕ) → AllBelow (length before) is → braced_vars stmts (before ++ after) is ≡ braced_vars stmts before is
braced-front stmts before after is all = block-front stmts before after (block_end stmts 0 is) is all

else-front : (stmts : List Stmt) (before after : List (List VarInfo)) (b : Option Block) → ElseBelow (length before) b → braced_vars stmts (before ++ after) (else_stmts b) ≡ braced_vars stmts before (else_stmts b)
else-front stmts before after None all = refl
else-front stmts before after (Some b) all = braced-front stmts before after b.stmts all

rhs-front : (stmts : List Stmt) (before after : List (List VarInfo)) (exprs : ℕ) (r : Rhs) → RhsPlaced exprs (length before) r → rhs_vars stmts (before ++ after) r ≡ rhs_vars stmts before r
rhs-front stmts before after exprs (Value a) all = refl
rhs-front stmts before after exprs (Field y f) all = refl
rhs-front stmts before after exprs (TakeField y f) all = refl
rhs-front stmts before after exprs (Item y e) all = refl
rhs-front stmts before after exprs (New c) all = refl
rhs-front stmts before after exprs (NewArray e) all = refl
rhs-front stmts before after exprs (CallRhs c) all = refl
rhs-front stmts before after exprs (Recover b w give) all = block-front stmts before after give.end b.stmts all

inner-front : (stmts : List Stmt) (before after : List (List VarInfo)) (exprs : ℕ) (k : StmtKind) → KindPlaced exprs (length before) k → inner_vars stmts (before ++ after) k ≡ inner_vars stmts before k
inner-front stmts before after exprs (Declare t x) all = refl
inner-front stmts before after exprs (Assign t x r) all = rhs-front stmts before after exprs r all
inner-front stmts before after exprs (SetField y f a) all = refl
inner-front stmts before after exprs (SetItem y i e) all = refl
inner-front stmts before after exprs (CallStmt c) all = refl
inner-front stmts before after exprs (Print e) all = refl
inner-front stmts before after exprs (If e a b) all = let yes = braced-front stmts before after a.stmts all.1 in let no = else-front stmts before after b all.2 in λ j. yes j ++ no j
inner-front stmts before after exprs (While e a) all = braced-front stmts before after a.stmts all.1
inner-front stmts before after exprs (Par a b) all = let left = braced-front stmts before after a.stmts all.0 in let right = braced-front stmts before after b.stmts all.1 in λ j. left j ++ right j

-- the entry of a statement is made of all entries
pub inner-at : (p : Listing) (at : ℕ) (s : Stmt) → IsPlaced p → slice_get p.stmts at ≡ Some s → get_or (all_inner p.stmts) at [] ≡ inner_vars p.stmts (all_inner p.stmts) s.kind
inner-at p at s placed here =
    entries_of-at (λ inner (x : Stmt). inner_vars p.stmts inner x.kind) p.stmts at s [] here
    (λ before after n. inner-front p.stmts before after (length p.exprs) s.kind (subst (λ m. KindPlaced (length p.exprs) m s.kind) (sym n) (placed.stmts at s here)))

-- ---------- loops ----------
-- one statement more of a block
pub block-step : (stmts : List Stmt) (inner : List (List VarInfo)) (end : ℕ) (places : List ℕ) (i : ℕ) (start old own new : List VarInfo) (s : Stmt)
    → i < length places → slice_get stmts (slice_index places i) ≡ Some s → old ++ block_vars stmts inner end (drop i places) ≡ start ++ block_vars stmts inner end places
    → own ≡ old ++ map (known_until end) (declared_by s.kind) → new ≡ own ++ get_or inner (slice_index places i) []
    → new ++ block_vars stmts inner end (drop (i + 1) places) ≡ start ++ block_vars stmts inner end places
block-step stmts inner end places i start old own new s within here so_far declares adds =
    let at = slice_index places i in
    let rest = block_vars stmts inner end (drop (i + 1) places) in
    let declared = map (known_until end) (declared_by s.kind) in
    let inside = get_or inner at [] in
    let is : new ≡ old ++ declared ++ inside = adds ∙ ap (λ vs. vs ++ inside) declares in
    let grouped : old ++ declared ++ inside ++ rest ≡ old ++ (declared ++ (inside ++ rest)) = append_assoc (old ++ declared) inside rest ∙ append_assoc old declared (inside ++ rest) in
    let there : block_vars stmts inner end (drop i places) ≡ declared ++ (inside ++ rest) =
    ap (block_vars stmts inner end) (drop-at places i within) ∙ ap (λ o. map (known_until end) (declared_if o) ++ (inside ++ rest)) here in
    ap (λ vs. vs ++ rest) is ∙ grouped ∙ ap (λ vs. old ++ vs) (sym there) ∙ so_far

pub block_end-step : (stmts : List Stmt) (places : List ℕ) (i end : ℕ) (s : Stmt) → i < length places → slice_get stmts (slice_index places i) ≡ Some s
    → block_end stmts end (drop i places) ≡ block_end stmts 0 places → block_end stmts s.span.end (drop (i + 1) places) ≡ block_end stmts 0 places
block_end-step stmts places i end s within here so_far =
    ap (λ o. block_end stmts (end_if end o) (drop (i + 1) places)) (sym here) ∙ ap (block_end stmts end) (sym (drop-at places i within)) ∙ so_far
