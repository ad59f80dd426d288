-- Among the entries of a block stand those of each statement in it and within it, checked with what is hidden at its place.
use Rattle.std.proofs.Common.{◌≡◌, ℕ, zero, suc, ◌<◌, ◌≤◌, true, false, List, [], ◌∷◌, ◌++◌, length, Some, None, refl, sym, ◌∙◌, ap, subst, arith, get_or, inl, inr, append_assoc, append-nil, le_refl}
use Rattle.std.specs.Prelude.{◌⊎◌, nat_eq, slice_get}
use Rattle.std.proofs.lemmas.Bool.{eqb-true, eq-eqb, or_cases, or_left}
use Rattle.perm_tree.specs.declared.ast.Block.{Block}
use Rattle.perm_tree.specs.declared.ast.Rhs.{Rhs}
use Rattle.perm_tree.specs.declared.ast.Rhs.TheVariants.{Value, Field, TakeField as TakeRhs, Item, New, NewArray as NewArrayRhs, Call as CallRhs, Recover as RecoverRhs}
use Rattle.perm_tree.specs.declared.ast.Span.{Span}
use Rattle.perm_tree.specs.declared.ast.Stmt.{Stmt}
use Rattle.perm_tree.specs.declared.ast.StmtKind.{StmtKind}
use Rattle.perm_tree.specs.declared.ast.StmtKind.TheVariants.{Declare as DeclareStmt, Assign as AssignStmt, SetField, SetItem, Call as CallStmt, Print as PrintStmt, If as IfStmt, While as WhileStmt, Par as ParStmt}
use Rattle.perm_tree.specs.Blocks.{rhs_blocks, kind_blocks, block_places}
use Rattle.perm_tree.specs.Code.{Term, Instruction, Declare, Assign, LoadItem, TakeField, NewObject, NewArray, StoreField, StoreItem, Print, Code, End, Give, Do, If, While, Par, Recover}
use Rattle.perm_tree.specs.CodeNames.{Setting, term_at, var_at, field_at, argument, call, read, own_vars, tied_before}
use Rattle.perm_tree.specs.CodeOf.{sequence, assignment, kind_code, codes_of, stmt_code, block_code}
use Rattle.perm_tree.specs.Lookup.{class_place}
use Rattle.perm_tree.specs.Places.{AllBelow, RhsPlaced, KindPlaced, IsPlaced}
use Rattle.perm_tree.specs.Scopes.{else_stmts}
use Rattle.perm_tree.specs.Vars.{Vars, those, minus}
use Rattle.perm_tree.proofs.CodeLaws.{stmt_code-is}
use Rattle.perm_tree.proofs.HeldStatements.{element-there, else-below, else-places, inner-below, opened, places-parts, within-at}
use Rattle.perm_tree.proofs.StandOnce.{those-left, those-right, those-parts}
use Rattle.perm_rules.specs.AtPlace.{rhs_hides, hides_of, hidden_by}
use Rattle.perm_rules.specs.Effects.{Effect, changed, no_effect, instruction_effect, then, effect, block_effect, either, both, repeated}
use Rattle.perm_rules.specs.FirstRefused.{Entry, entry, entries}
use Rattle.perm_rules.specs.Goes.{hiding}
use Rattle.perm_tree.specs.InBody.{inner_places, places_with, all_within}
use Rattle.perm_rules.specs.Laws.{HasStretch}
use Rattle.perm_rules.specs.Pars.{par_head}
use Rattle.perm_rules.specs.Parts.{Context, Condition, RecoverHead}
use Rattle.perm_rules.proofs.SetLaws.{then-changed, lost-changed, empty-changed}
use Rattle.perm_rules.proofs.Hiding.Holders.{hidden-by-holder}

-- ---------- stretches ----------
stretch-front : {c : Context} {a : Code} (xs ys : List Entry) → HasStretch c a xs → HasStretch c a (xs ++ ys)
stretch-front {c} {a} xs ys is = record {
  live = is.live;
  before = is.before;
  behind = is.behind ++ ys;
  split = ap (λ zs. zs ++ ys) is.split ∙ (append_assoc is.before (entries c a is.live ++ is.behind) ys ∙ ap (λ zs. is.before ++ zs) (append_assoc (entries c a is.live) is.behind ys));
}

stretch-behind : {c : Context} {a : Code} (xs ys : List Entry) → HasStretch c a ys → HasStretch c a (xs ++ ys)
stretch-behind {c} {a} xs ys is = record {
  live = is.live;
  before = xs ++ is.before;
  behind = is.behind;
  split = ap (λ zs. xs ++ zs) is.split ∙ sym (append_assoc xs is.before (entries c a is.live ++ is.behind));
}

-- ---------- one statement before others ----------
-- the entries of a code before a rest are its own, and then those of the rest, which is entered with what the code leaves
abbrev pub Splits : Context → (Code → Code) → Vars → Type 0
Splits c f G = (K : Vars) × (K ≡ changed (effect (f End)) G) × ((rest : Code) → entries c (f rest) G ≡ entries c (f End) G ++ entries c rest K)

alone : (e : Effect) (G : Vars) → changed e G ≡ changed (then e no_effect) G
alone e G = empty-changed (changed e G) ∙ then-changed e no_effect G

one-block : (x : Entry) (xs ys : List Entry) → x ∷ (xs ++ ys) ≡ (x ∷ (xs ++ [])) ++ ys
one-block x xs ys = ap (λ zs. x ∷ (zs ++ ys)) (sym (append-nil xs))

two-blocks : (x : Entry) (xs ys zs : List Entry) → x ∷ (xs ++ (ys ++ zs)) ≡ (x ∷ (xs ++ (ys ++ []))) ++ zs
two-blocks x xs ys zs = ap (λ vs. x ∷ vs) (ap (λ vs. xs ++ (vs ++ zs)) (sym (append-nil ys)) ∙ sym (append_assoc xs (ys ++ []) zs))

do-splits : (c : Context) (at : Span) (i : Instruction) (G : Vars) → Splits c (Do at i) G
do-splits c at i G = (changed (instruction_effect i) G, alone (instruction_effect i) G, λ rest. refl)

if-splits : (c : Context) (at : Span) (e : Term) (own1 : List ℕ) (a : Code) (own2 : List ℕ) (b : Code) (G : Vars) → Splits c (If at e own1 a own2 b) G
if-splits c at e own1 a own2 b G =
    let K : Vars = changed (either (block_effect own1 a) (block_effect own2 b)) G in
    (K, alone (either (block_effect own1 a) (block_effect own2 b)) G, λ rest. two-blocks (entry c at (Condition e) G) (entries c a G) (entries c b G) (entries c rest K))

par-splits : (c : Context) (at : Span) (own1 : List ℕ) (a : Code) (own2 : List ℕ) (b : Code) (G : Vars) → Splits c (Par at own1 a own2 b) G
par-splits c at own1 a own2 b G =
    let K : Vars = changed (both (block_effect own1 a) (block_effect own2 b)) G in
    (K, alone (both (block_effect own1 a) (block_effect own2 b)) G, λ rest. two-blocks (entry c at (par_head c own1 a own2 b) G) (entries c a G) (entries c b G) (entries c rest K))

while-splits : (c : Context) (at : Span) (e : Term) (own : List ℕ) (body : Code) (G : Vars) → Splits c (While at e own body) G
while-splits c at e own body G =
    let K : Vars = minus G (block_effect own body).lost in
    (K, lost-changed (block_effect own body).lost G ∙ alone (repeated (block_effect own body)) G, λ rest. one-block (entry c at (Condition e) K) (entries c body K) (entries c rest K))

recover-splits : (c : Context) (at : Span) (x : ℕ) (own hides : List ℕ) (body : Code) (G : Vars) → Splits c (Recover at x own hides body) G
recover-splits c at x own hides body G =
    let K : Vars = changed (block_effect own body) G in
    (K, alone (block_effect own body) G, λ rest. one-block (entry c at (RecoverHead x) G) (entries (hiding hides c) body G) (entries c rest K))

module _ (k : Setting) (c : Context) (codes : List (Code → Code)) (s : Stmt) (G : Vars) where
  assignment-splits : (x : ℕ) (r : Rhs) → Splits c (assignment k codes s x r) G
  assignment-splits x (Value a) = do-splits c s.span (Assign x (argument k a)) G
  assignment-splits x (Field y f) = do-splits c s.span (read k x y f) G
  assignment-splits x (TakeRhs y f) = do-splits c s.span (TakeField x (var_at k y) (field_at k y f)) G
  assignment-splits x (Item y e) = do-splits c s.span (LoadItem x (var_at k y) (term_at k e)) G
  assignment-splits x (New n) = do-splits c s.span (NewObject x (class_place k.tables.program n.name)) G
  assignment-splits x (NewArrayRhs e) = do-splits c s.span (NewArray x (term_at k e)) G
  assignment-splits x (CallRhs m) = do-splits c s.span (call k (Some x) m) G
  assignment-splits x (RecoverRhs b w give) = recover-splits c s.head x (own_vars k b.stmts) (tied_before s.head.end 0 k.vars) (sequence codes b.stmts (Give give (var_at k w) x)) G

  kind-splits : (kind : StmtKind) → Splits c (kind_code k codes s kind) G
  kind-splits (DeclareStmt t x) = do-splits c s.span (Declare (var_at k x)) G
  kind-splits (AssignStmt t x r) = assignment-splits (var_at k x) r
  kind-splits (SetField y f a) = do-splits c s.span (StoreField (var_at k y) (field_at k y f) (argument k a)) G
  kind-splits (SetItem y i e) = do-splits c s.span (StoreItem (var_at k y) (term_at k i) (term_at k e)) G
  kind-splits (CallStmt m) = do-splits c s.span (call k None m) G
  kind-splits (PrintStmt e) = do-splits c s.span (Print (term_at k e)) G
  kind-splits (IfStmt e a b) = if-splits c s.head (term_at k e) (own_vars k a.stmts) (sequence codes a.stmts End) (own_vars k (else_stmts b)) (sequence codes (else_stmts b) End) G
  kind-splits (WhileStmt e a) = while-splits c s.head (term_at k e) (own_vars k a.stmts) (sequence codes a.stmts End) G
  kind-splits (ParStmt a b) = par-splits c s.head (own_vars k a.stmts) (sequence codes a.stmts End) (own_vars k b.stmts) (sequence codes b.stmts End) G

-- so it is of the statement at a place
pub stmt-splits : (k : Setting) (placed : IsPlaced k.tables.program) (c : Context) (i : ℕ) (s : Stmt) (G : Vars) → slice_get k.tables.program.stmts i ≡ Some s → Splits c (stmt_code k i) G
stmt-splits k placed c i s G here = go (kind-splits k c (codes_of k) s G s.kind)
  where
    go : Splits c (kind_code k (codes_of k) s s.kind) G → Splits c (stmt_code k i) G
    go (K, left, same) = (K, left ∙ ap (λ a. changed (effect a) G) (sym (stmt_code-is k i s End placed here)), λ rest. ap (λ a. entries c a G) (stmt_code-is k i s rest placed here) ∙ (same rest ∙ ap (λ a. entries c a G ++ entries c rest K) (sym (stmt_code-is k i s End placed here))))

-- ---------- the statements of a program ----------
module _ (k : Setting) (top : Context) (placed : IsPlaced k.tables.program)
    (one : (i j : ℕ) (s t : Stmt) (x : ℕ) → slice_get k.tables.program.stmts i ≡ Some s → slice_get k.tables.program.stmts j ≡ Some t → those (inner_places s) x ≡ true → those (inner_places t) x ≡ true → i ≡ j) where
  abbrev stmts : List Stmt
  stmts = k.tables.program.stmts

  abbrev within : List (List ℕ)
  within = all_within stmts

  -- what is hidden at a place
  abbrev hidden : ℕ → List ℕ
  hidden at = hidden_by k.vars at within stmts

  inner : (j : ℕ) (s : Stmt) → slice_get stmts j ≡ Some s → AllBelow j (inner_places s)
  inner j s here = inner-below (length k.tables.program.exprs) j s.kind (placed.stmts j s here)

  -- the entries of the statement at a place stand among some
  abbrev pub StandsIn : ℕ → List Entry → Type 0
  StandsIn at all = HasStretch (hiding (hidden at) top) (stmt_code k at End) all

  -- so it is of each statement within another one
  abbrev StmtHolds : ℕ → Type 0
  StmtHolds j = (at : ℕ) (H : List ℕ) (G : Vars) → those (get_or within j []) at ≡ true → hidden j ≡ H → StandsIn at (entries (hiding H top) (stmt_code k j End) G)

  -- and of each one in or within some statements, at each of which is hidden the same
  abbrev BlockHolds : ℕ → ℕ → Type 0
  BlockHolds n at = (is : List ℕ) → AllBelow n is → (last : Code) (H : List ℕ) (G : Vars) → ((i : ℕ) → those is i ≡ true → hidden i ≡ H) → those (places_with within is) at ≡ true
      → StandsIn at (entries (hiding H top) (block_code k is last) G)

  block-holds : (n at : ℕ) → n ≤ length stmts → ((j : ℕ) → j < n → StmtHolds j) → BlockHolds n at
  block-holds n at room all [] below last H G same e = absurd (let no : ⊥ = cc e in no)
  block-holds n at room all (i ∷ is) below last H G same e =
      go (element-there stmts i (let small : i < n = below.0 in omega arith)) (λ K q. block-holds n at room all is below.1 last H K (λ j f. same j (those-right (i ∷ []) is j f)) q)
    where
      own : hidden i ≡ H
      own = same i (those-left (i ∷ []) is i (those-first i))
        where
          those-first : (x : ℕ) → those (x ∷ []) x ≡ true
          those-first x = or_left (nat_eq x x) false (eq-eqb x x refl)

      go : (s : Stmt) × (slice_get stmts i ≡ Some s) → ((K : Vars) → those (places_with within is) at ≡ true → StandsIn at (entries (hiding H top) (block_code k is last) K))
          → StandsIn at (entries (hiding H top) (block_code k (i ∷ is) last) G)
      go (s, here) later = on (stmt-splits k placed (hiding H top) i s G here)
        where
          on : Splits (hiding H top) (stmt_code k i) G → StandsIn at (entries (hiding H top) (block_code k (i ∷ is) last) G)
          on (K, left, splits) = first (or_cases (nat_eq at i) (those (get_or within i [] ++ places_with within is) at) e)
            where
              front : List Entry
              front = entries (hiding H top) (stmt_code k i End) G

              rest : List Entry
              rest = entries (hiding H top) (block_code k is last) K

              whole : StandsIn at (front ++ rest) → StandsIn at (entries (hiding H top) (block_code k (i ∷ is) last) G)
              whole is_in = subst (StandsIn at) (sym (splits (block_code k is last))) is_in

              itself : StandsIn i (front ++ rest)
              itself = subst (λ (h : List ℕ). HasStretch (hiding h top) (stmt_code k i End) (front ++ rest)) (sym own) (record { live = G; before = []; behind = rest; split = refl })

              second : (those (get_or within i []) at ≡ true) ⊎ (those (places_with within is) at ≡ true) → StandsIn at (front ++ rest)
              second (inl q) = stretch-front front rest (all i below.0 at H G q own)
              second (inr q) = stretch-behind front rest (later K q)

              first : (nat_eq at i ≡ true) ⊎ (those (get_or within i [] ++ places_with within is) at ≡ true) → StandsIn at (entries (hiding H top) (block_code k (i ∷ is) last) G)
              first (inl q) = whole (subst (λ x. StandsIn x (front ++ rest)) (sym (eqb-true at i q)) itself)
              first (inr q) = whole (second (those-parts (get_or within i []) (places_with within is) at q))

  -- ---------- statements with blocks ----------
  nothing-within : {X : Type 0} (at : ℕ) → those (places_with within []) at ≡ true → X
  nothing-within at e = absurd (let no : ⊥ = cc e in no)

  module _ (n at : ℕ) (s : Stmt) (H : List ℕ) (G : Vars) (blocks : BlockHolds n at) where
    -- the one block of a statement that hides nothing
    in-block : (b : Block) (K : Vars) → AllBelow n b.stmts → ((i : ℕ) → those (block_places (b ∷ [])) i ≡ true → hidden i ≡ H) → those (places_with within (block_places (b ∷ []))) at ≡ true
        → StandsIn at (entries (hiding H top) (block_code k b.stmts End) K)
    in-block b K below same e =
        blocks b.stmts below End H K (λ i f. same i (those-left b.stmts [] i f)) (subst (λ is. those (places_with within is) at ≡ true) (append-nil b.stmts) e)

    rhs-holds : (exprs x : ℕ) (r : Rhs) → RhsPlaced exprs n r → ((i : ℕ) → those (block_places (rhs_blocks r)) i ≡ true → hidden i ≡ rhs_hides k.vars s r ++ H)
        → those (places_with within (block_places (rhs_blocks r))) at ≡ true → StandsIn at (entries (hiding H top) (assignment k (codes_of k) s x r End) G)
    rhs-holds exprs x (Value a) below same e = nothing-within at e
    rhs-holds exprs x (Field y f) below same e = nothing-within at e
    rhs-holds exprs x (TakeRhs y f) below same e = nothing-within at e
    rhs-holds exprs x (Item y i) below same e = nothing-within at e
    rhs-holds exprs x (New c) below same e = nothing-within at e
    rhs-holds exprs x (NewArrayRhs i) below same e = nothing-within at e
    rhs-holds exprs x (CallRhs m) below same e = nothing-within at e
    rhs-holds exprs x (RecoverRhs b w give) below same e = stretch-behind (entry (hiding H top) s.head (RecoverHead x) G ∷ []) (entries (hiding h (hiding H top)) body G ++ []) (stretch-front (entries (hiding h (hiding H top)) body G) [] moved)
      where
        h : List ℕ
        h = tied_before s.head.end 0 k.vars

        body : Code
        body = sequence (codes_of k) b.stmts (Give give (var_at k w) x)

        moved : StandsIn at (entries (hiding h (hiding H top)) body G)
        moved =
            subst
            (λ hs. StandsIn at (entries (record top { hidden = hs }) body G))
            (append_assoc h H top.hidden)
            (blocks b.stmts below (Give give (var_at k w) x) (h ++ H) G (λ i f. same i (those-left b.stmts [] i f)) (subst (λ is. those (places_with within is) at ≡ true) (append-nil b.stmts) e))

    -- two blocks
    in-blocks : (is js : List ℕ) (head : Entry) (K : Vars) → AllBelow n is → AllBelow n js → ((i : ℕ) → those (is ++ js) i ≡ true → hidden i ≡ H) → those (places_with within (is ++ js)) at ≡ true
        → StandsIn at (head ∷ (entries (hiding H top) (block_code k is End) K ++ (entries (hiding H top) (block_code k js End) K ++ [])))
    in-blocks is js head K left right same e = stretch-behind (head ∷ []) (one_side ++ (other_side ++ [])) (pick (places-parts within is js at e))
      where
        one_side : List Entry
        one_side = entries (hiding H top) (block_code k is End) K

        other_side : List Entry
        other_side = entries (hiding H top) (block_code k js End) K

        pick : (those (places_with within is) at ≡ true) ⊎ (those (places_with within js) at ≡ true) → StandsIn at (one_side ++ (other_side ++ []))
        pick (inl q) = stretch-front one_side (other_side ++ []) (blocks is left End H K (λ i f. same i (those-left is js i f)) q)
        pick (inr q) = stretch-behind one_side (other_side ++ []) (stretch-front other_side [] (blocks js right End H K (λ i f. same i (those-right is js i f)) q))

    kind-holds : (exprs : ℕ) (kind : StmtKind) → KindPlaced exprs n kind → ((i : ℕ) → those (block_places (kind_blocks kind)) i ≡ true → hidden i ≡ hides_of k.vars s kind ++ H)
        → those (places_with within (block_places (kind_blocks kind))) at ≡ true → StandsIn at (entries (hiding H top) (kind_code k (codes_of k) s kind End) G)
    kind-holds exprs (DeclareStmt t x) below same e = nothing-within at e
    kind-holds exprs (AssignStmt t x r) below same e = rhs-holds exprs (var_at k x) r below same e
    kind-holds exprs (SetField y f a) below same e = nothing-within at e
    kind-holds exprs (SetItem y i v) below same e = nothing-within at e
    kind-holds exprs (CallStmt m) below same e = nothing-within at e
    kind-holds exprs (PrintStmt v) below same e = nothing-within at e
    kind-holds exprs (IfStmt v a b) below same e =
        in-blocks a.stmts (else_stmts b) (entry (hiding H top) s.head (Condition (term_at k v)) G) G below.1 (else-below n b below.2)
        (λ i f. same i (subst (λ js. those (a.stmts ++ js) i ≡ true) (sym (else-places b)) f))
        (subst (λ js. those (places_with within (a.stmts ++ js)) at ≡ true) (else-places b) e)
    kind-holds exprs (WhileStmt v a) below same e =
        let K : Vars = minus G (block_effect (own_vars k a.stmts) (sequence (codes_of k) a.stmts End)).lost in
        let inside : List Entry = entries (hiding H top) (sequence (codes_of k) a.stmts End) K in
        stretch-behind (entry (hiding H top) s.head (Condition (term_at k v)) K ∷ []) (inside ++ []) (stretch-front inside [] (in-block a K below.1 same e))
    kind-holds exprs (ParStmt a b) below same e =
        in-blocks a.stmts b.stmts (entry (hiding H top) s.head (par_head (hiding H top) (own_vars k a.stmts) (sequence (codes_of k) a.stmts End) (own_vars k b.stmts) (sequence (codes_of k) b.stmts End)) G) G below.0 below.1
        (λ i f. same i (subst (λ js. those (a.stmts ++ js) i ≡ true) (sym (append-nil b.stmts)) f))
        (subst (λ js. those (places_with within (a.stmts ++ js)) at ≡ true) (append-nil b.stmts) e)

  stmts-hold : (n : ℕ) → n ≤ length stmts → (j : ℕ) → j < n → StmtHolds j
  stmts-hold zero room j less at H G e own = absurd (omega arith)
  stmts-hold (suc n) room j less at H G e own =
      let o = opened stmts inner j at e in
      go o.stmt o.here (block-holds j at (omega arith) (λ i small. stmts-hold n (omega arith) i (omega arith)))
    where
      go : (s : Stmt) → slice_get stmts j ≡ Some s → BlockHolds j at → StandsIn at (entries (hiding H top) (stmt_code k j End) G)
      go s here blocks =
          subst
          (λ a. StandsIn at (entries (hiding H top) a G))
          (sym (stmt_code-is k j s End placed here))
          (kind-holds j at s H G blocks (length k.tables.program.exprs) s.kind (placed.stmts j s here)
          (λ i f. hidden-by-holder stmts inner one j s i here f k.vars ∙ ap (λ hs. hides_of k.vars s s.kind ++ hs) own)
          (subst (λ xs. those xs at ≡ true) (within-at stmts inner j s here) e))

  -- among the entries of a body, at whose statements nothing is hidden, stand those of each statement in it and within it
  pub body-holds : (is : List ℕ) (last : Code) (G : Vars) (at : ℕ) → AllBelow (length stmts) is → ((i : ℕ) → those is i ≡ true → hidden i ≡ []) → those (places_with within is) at ≡ true
      → StandsIn at (entries (hiding [] top) (block_code k is last) G)
  body-holds is last G at below none e = block-holds (length stmts) at (le_refl (length stmts)) (stmts-hold (length stmts) (le_refl (length stmts))) is below last [] G none e
