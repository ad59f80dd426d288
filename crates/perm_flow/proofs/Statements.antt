-- The statements of a body: where they stand, what variables they are checked by, and what the walk gives of them.
use Rattle.std.proofs.Common.{◌≡◌, ◌∙◌, ℕ, zero, suc, ◌+◌, ◌<◌, ◌≤◌, true, false, List, [], ◌∷◌, length, Option, Some, None, Ok, Err, refl, sym, ap, subst, arith, inl, inr, drop, get_or, cond}
use Rattle.std.specs.Prelude.{◌⊎◌, ◌||◌, Bool, Contains, max, nat_eq, slice_get}
use Rattle.std.proofs.lemmas.Bool.{cases_lt, eqb-true, eq-eqb, or_cases, or_left, or_right, false_from_ne_true}
use Rattle.std.proofs.lemmas.List.{drop_all, drop_more}
use Rattle.perm_tree.specs.declared.ast.Block.{Block}
use Rattle.perm_tree.specs.declared.ast.Stmt.{Stmt}
use Rattle.perm_tree.specs.declared.errors.TypeError.{TypeError}
use Rattle.perm_tree.specs.declared.var_set.VarSet.{VarSet}
use Rattle.perm_tree.specs.Blocks.{kind_blocks, block_places}
use Rattle.perm_tree.specs.Code.{Code, End, Routine}
use Rattle.perm_tree.specs.CodeNames.{Setting}
use Rattle.perm_tree.specs.CodeOf.{block_code, stmt_code}
use Rattle.perm_tree.specs.InBody.{body_if, places_with, all_within, IsBlockOf, IsStmtOf}
use Rattle.perm_tree.specs.Places.{AllBelow}
use Rattle.perm_tree.specs.VarSets.{member}
use Rattle.perm_tree.specs.Vars.{Vars, below, those, IsWithin}
use Rattle.perm_tree.proofs.CodeLaws.{stmt_code-is}
use Rattle.perm_tree.proofs.RoutineLaws.{IsResolved-vars}
use Rattle.perm_rules.specs.Effects.{changed, effect}
use Rattle.perm_rules.specs.FirstRefused.{first_refused, or_later}
use Rattle.perm_rules.specs.Goes.{hiding}
use Rattle.perm_rules.specs.MethodBodies.{Body, context_of, setting_of, IsBody}
use Rattle.perm_rules.specs.Parts.{Context}
use Rattle.perm_tree.proofs.HeldStatements.{reaches}
use Rattle.perm_tree.proofs.StandOnce.{those-left, those-right}
use Rattle.perm_rules.proofs.MethodsAtPlace.{method-there}
use Rattle.perm_rules.proofs.MethodStatements.{contained-those, stmt-inside, stmt-there}
use Rattle.perm_rules.proofs.Sequences.{IsStatement, placed-statement, refused-cons, effect-cons}
use Rattle.perm_flow.specs.Parts.{HoldsHidden}
use Rattle.perm_flow.specs.Walk.{kind_end, AreOfBody, BlockGives, CodeGives, IsKnown}
use Rattle.perm_flow.proofs.CodeForms.{stays-known}

-- ---------- bounds ----------
-- the least number above all of some places
abbrev pub bound : List ℕ → ℕ
bound [] = 0
bound (i ∷ is) = max (suc i) (bound is)

pub below-bound : (is : List ℕ) (i : ℕ) → those is i ≡ true → i < bound is
below-bound [] i e = absurd (let no : ⊥ = cc e in no)
below-bound (j ∷ is) i e = pick (or_cases (nat_eq i j) (those is i) e) (λ q. below-bound is i q)
  where
    pick : (nat_eq i j ≡ true) ⊎ (those is i ≡ true) → (those is i ≡ true → i < bound is) → i < max (suc j) (bound is)
    pick (inl q) later = let same : i ≡ j = eqb-true i j q in omega arith
    pick (inr q) later = let less : i < bound is = later q in omega arith

pub bound-least : (n : ℕ) (is : List ℕ) → AllBelow n is → bound is ≤ n
bound-least n [] all = omega arith
bound-least n (i ∷ is) all = let first : i < n = all.0 in let rest : bound is ≤ n = bound-least n is all.1 in omega arith

-- an element of a list is listed
pub element-listed : (xs : List ℕ) (i d : ℕ) → i < length xs → those xs (get_or xs i d) ≡ true
element-listed [] i d less = absurd (omega arith)
element-listed (x ∷ xs) zero d less = or_left (nat_eq x x) (those xs x) (eq-eqb x x refl)
element-listed (x ∷ xs) (suc i) d less = or_right (nat_eq (get_or xs i d) x) (those xs (get_or xs i d)) (element-listed xs i d (omega arith))

-- ---------- a body ----------
-- a method has at most 256 variables
pub few-vars : (b : Body) → IsBody b → length (context_of b).vars ≤ 256
few-vars b is =
    let there = method-there b.unit b.number is.table is.resolved is.tabled in
    let vars = IsResolved-vars b.unit b.number _ is.resolved there.found in
    subst (λ (r : Routine). length r.vars ≤ 256) (sym there.routine) vars.2

-- a statement of the body is one statement of its code
pub body-statement : (b : Body) → IsBody b → (at : ℕ) → IsStmtOf b.unit b.number at → IsStatement (stmt_code (setting_of b) at)
body-statement b is at inside =
    let there = stmt-there b.unit is.resolved b.number at inside in
    placed-statement (setting_of b) at there.0 is.resolved.formed.placed there.1

-- its code alone
pub stmt-code : (b : Body) → IsBody b → (at : ℕ) (s : Stmt) → slice_get b.unit.program.stmts at ≡ Some s → stmt_code (setting_of b) at End ≡ kind_end b s
stmt-code b is at s here = stmt_code-is (setting_of b) at s End is.resolved.formed.placed here

-- ---------- what is hidden ----------
-- the numbers below n of a set
abbrev listed : ℕ → Vars → List ℕ
listed zero G = []
listed (suc n) G = cond (G n) (n ∷ listed n G) (listed n G)

listed-past : (n : ℕ) (G : Vars) (x : ℕ) → n ≤ x → those (listed n G) x ≡ false
listed-past zero G x past = refl
listed-past (suc n) G x past = go (G n) (listed-past n G x (omega arith))
  where
    go : (b : Bool) → those (listed n G) x ≡ false → those (cond b (n ∷ listed n G) (listed n G)) x ≡ false
    go false h = h
    go true h = ap (λ c. c || those (listed n G) x) (false_from_ne_true (nat_eq x n) (λ e. let same : x ≡ n = eqb-true x n e in omega arith)) ∙ h

listed-below : (n : ℕ) (G : Vars) (x : ℕ) → x < n → those (listed n G) x ≡ G x
listed-below zero G x less = absurd (omega arith)
listed-below (suc n) G x less = go (G n) refl (cases_lt x n) (λ l. listed-below n G x l)
  where
    go : (b : Bool) → G n ≡ b → (x < n) ⊎ (n ≤ x) → (x < n → those (listed n G) x ≡ G x) → those (cond b (n ∷ listed n G) (listed n G)) x ≡ G x
    go false is (inl l) later = later l
    go false is (inr past) later = let same : x ≡ n = omega arith in listed-past n G x past ∙ (sym is ∙ ap G (sym same))
    go true is (inl l) later = ap (λ c. c || those (listed n G) x) (false_from_ne_true (nat_eq x n) (λ e. let same : x ≡ n = eqb-true x n e in omega arith)) ∙ later l
    go true is (inr past) later = let same : x ≡ n = omega arith in or_left (nat_eq x n) (those (listed n G) x) (eq-eqb x n same) ∙ (sym is ∙ ap G (sym same))

-- some variables are hidden of which a set holds the known ones
pub some-hidden : (b : Body) (hidden : VarSet) → (hides : List ℕ) × HoldsHidden b hidden hides
some-hidden b hidden = (listed (length (context_of b).vars) (member hidden), λ x less. sym (listed-below (length (context_of b).vars) (member hidden) x less))

-- ---------- blocks ----------
-- what is refused and changed from some statements of a block on is what is refused and changed of the block, whatever comes last
pub record BlockLeft (c : Context) (k : Setting) (is : List ℕ) (G : Vars) (rest : List ℕ) (H : Vars) : Type 0 where
  pub refused : (last : Code) → first_refused c (block_code k is last) G ≡ first_refused c (block_code k rest last) H
  pub changes : (last : Code) → changed (effect (block_code k is last)) G ≡ changed (effect (block_code k rest last)) H

pub block-begins : (c : Context) (k : Setting) (is : List ℕ) (G : Vars) → BlockLeft c k is G is G
block-begins c k is G = record { refused = λ last. refl; changes = λ last. refl }

later-of : (a b : Option TypeError) → a ≡ None → or_later a b ≡ b
later-of None b h = refl
later-of (Some e) b h = absurd (cc)

-- one more statement
pub block-more : (c : Context) (k : Setting) (is : List ℕ) (G : Vars) (i : ℕ) (H : Vars) (set : VarSet) → i < length is → IsStatement (stmt_code k (get_or is i 0))
    → BlockLeft c k is G (drop i is) H → CodeGives c (stmt_code k (get_or is i 0) End) (effect (stmt_code k (get_or is i 0) End)) H (Ok set) → BlockLeft c k is G (drop (i + 1) is) (member set)
block-more c k is G i H set within one left gives = record {
  refused = λ last.
      left.refused last
      ∙ (ap (λ (l : List ℕ). first_refused c (block_code k l last) H) more
      ∙ (refused-cons k at rest last one c H
      ∙ (later-of _ _ gives.0 ∙ ap (λ (M : Vars). first_refused c (block_code k rest last) M) (sym gives.1))));
  changes = λ last.
      left.changes last
      ∙ (ap (λ (l : List ℕ). changed (effect (block_code k l last)) H) more
      ∙ (effect-cons k at rest last one H ∙ ap (λ (M : Vars). changed (effect (block_code k rest last)) M) (sym gives.1)));
}
  where
    at : ℕ
    at = get_or is i 0

    rest : List ℕ
    rest = drop (i + 1) is

    more : drop i is ≡ at ∷ rest
    more = drop_more is i 0 within

-- a statement that is refused
pub block-stops : (c : Context) (k : Setting) (is : List ℕ) (G : Vars) (i : ℕ) (H : Vars) (e : TypeError) → i < length is → IsStatement (stmt_code k (get_or is i 0))
    → BlockLeft c k is G (drop i is) H → first_refused c (stmt_code k (get_or is i 0) End) H ≡ Some e → BlockGives c k is G (Err e)
block-stops c k is G i H e within one left refused last =
    left.refused last
    ∙ (ap (λ (l : List ℕ). first_refused c (block_code k l last) H) (drop_more is i 0 within)
    ∙ (refused-cons k (get_or is i 0) (drop (i + 1) is) last one c H ∙ ap (λ o. or_later o (first_refused c (block_code k (drop (i + 1) is) last) (changed (effect (stmt_code k (get_or is i 0) End)) H))) refused))

-- all statements
pub block-ends : (c : Context) (k : Setting) (is : List ℕ) (G : Vars) (i : ℕ) (set : VarSet) → length is ≤ i → BlockLeft c k is G (drop i is) (member set) → BlockGives c k is G (Ok set)
block-ends c k is G i set end left last = (
  left.refused last ∙ ap (λ (l : List ℕ). first_refused c (block_code k l last) (member set)) (drop_all i is end),
  left.changes last ∙ ap (λ (l : List ℕ). changed (effect (block_code k l last)) (member set)) (drop_all i is end),
)

-- after one more statement the live set still holds known variables
pub more-known : (b : Body) (hidden live set : VarSet) (a : Code) → IsKnown b live
    → ((hides : List ℕ) → HoldsHidden b hidden hides → CodeGives (hiding hides (context_of b)) a (effect a) (member live) (Ok set)) → IsKnown b set
more-known b hidden live set a known gives =
    let some = some-hidden b hidden in
    let is = gives some.0 some.1 in
    subst (λ (M : Vars). IsWithin M (below (length (context_of b).vars))) (sym is.1) (stays-known (hiding some.0 (context_of b)) a (member live) is.0 known)

-- what stands in a block is listed among what stands in some blocks
block-listed : (bs : List Block) (block : Block) (i : ℕ) → Contains bs block → those block.stmts i ≡ true → those (block_places bs) i ≡ true
block-listed bs block i (k, within, is) listed = at bs k within is
  where
    at : (bs : List Block) (k : ℕ) → k < length bs → get_or bs k block ≡ block → those (block_places bs) i ≡ true
    at [] k within is = absurd (omega arith)
    at (c ∷ bs) zero within is = those-left c.stmts (block_places bs) i (subst (λ (d : Block). those d.stmts i ≡ true) (sym is) listed)
    at (c ∷ bs) (suc k) within is = those-right c.stmts (block_places bs) i (at bs k (omega arith) is)

-- the statements of a block of the body are of the body
pub block-inside : (b : Body) → IsBody b → (block : Block) → IsBlockOf b.unit b.number block → AreOfBody b block.stmts
block-inside b is block (IsBlockOf.Body d there same) i listed =
    subst (λ o. Contains (places_with (all_within b.unit.program.stmts) (body_if o)) i) (sym there)
    (contained-those (places_with (all_within b.unit.program.stmts) d.body.stmts) i
    (reaches (all_within b.unit.program.stmts) d.body.stmts i i (subst (λ (c : Block). those c.stmts i ≡ true) same listed) (inl refl)))
block-inside b is block (IsBlockOf.Inner at s stands contains) i listed =
    stmt-inside b.unit is.resolved b.number at s i stands.inside stands.here (block-listed (kind_blocks s.kind) block i contains listed)
