-- Which statement holds another one in a block, and what is hidden there.
use Rattle.std.proofs.Common.{◌≡◌, ◌∙◌, ℕ, ◌+◌, ◌<◌, ◌≤◌, true, false, List, ◌++◌, length, Some, None, get_or, sym, ap, subst, arith, inl, inr}
use Rattle.std.specs.Prelude.{◌⊎◌, ◌||◌, Bool, slice_get}
use Rattle.std.proofs.lemmas.Bool.{cases_lt}
use Rattle.std.proofs.lemmas.Option.{slice_get-get_or, slice_get_within}
use Rattle.perm_tree.specs.declared.ast.Stmt.{Stmt}
use Rattle.perm_tree.specs.declared.unit.VarInfo.{VarInfo}
use Rattle.perm_tree.specs.declared.var_set.VarSet.{VarSet}
use Rattle.perm_tree.specs.InBody.{all_within, inner_places}
use Rattle.perm_tree.specs.VarSets.{member}
use Rattle.perm_tree.specs.Vars.{none, plus, those}
use Rattle.perm_rules.specs.AtPlace.{hidden_by, hides_of}
use Rattle.perm_rules.proofs.Hiding.Holders.{hidden-by-holder, hidden-in-body}
use Rattle.perm_tree.proofs.HeldStatements.{listed-below}
use Rattle.perm_flow.specs.Walk.{AreHolders, HoldsPlace, IsHolder}
use Rattle.perm_flow.proofs.HiddenSets.{those-append}

-- the statement of a list at a place
pub element-is : (stmts : List Stmt) (i : ℕ) (s : Stmt) → i < length stmts → s ≡ get_or stmts i s → slice_get stmts i ≡ Some s
element-is stmts i s within is = slice_get-get_or stmts i s within ∙ ap Some (sym is)

-- one more statement doesn't hold a place
pub none-holds : (stmts : List Stmt) (at i : ℕ) (r : Stmt) → slice_get stmts i ≡ Some r → those (inner_places r) at ≡ false
    → ((j : ℕ) (s : Stmt) → j < i → slice_get stmts j ≡ Some s → those (inner_places s) at ≡ true → ⊥)
    → (j : ℕ) (s : Stmt) → j < i + 1 → slice_get stmts j ≡ Some s → those (inner_places s) at ≡ true → ⊥
none-holds stmts at i r here out before j s less there inside = go (cases_lt j i)
  where
    go : (j < i) ⊎ (i ≤ j) → ⊥
    go (inl small) = before j s small there inside
    go (inr past) =
        let same : j ≡ i = omega arith in
        let found : slice_get stmts i ≡ Some s = subst (λ n. slice_get stmts n ≡ Some s) same there in
        let equal : r ≡ s = cc (here, found) in
        let clash : false ≡ true = sym out ∙ (ap (λ (q : Stmt). those (inner_places q) at) equal ∙ inside) in
        cc

module _ (stmts : List Stmt) (are : AreHolders stmts) (at place : ℕ) (holder : IsHolder stmts at place) where
  pub holder-there : place < length stmts
  holder-there = slice_get_within stmts place holder.stmt holder.there

  -- what holds a statement stands behind it
  pub holder-behind : at < place
  holder-behind = listed-below place (inner_places holder.stmt) at (are.below place holder.stmt holder.there) holder.inside

  pub hidden-within : (vars : List VarInfo) (s : Stmt) (own outer all : VarSet) (x : ℕ) → s ≡ get_or stmts place s → member own x ≡ those (hides_of vars s s.kind) x → member outer x ≡ those (hidden_by vars place (all_within stmts) stmts) x
      → member all ≡ plus (member own) (member outer) → member all x ≡ those (hidden_by vars at (all_within stmts) stmts) x
  hidden-within vars s own outer all x is one two both =
      let here : slice_get stmts place ≡ Some s = element-is stmts place s holder-there is in
      let there : slice_get stmts place ≡ Some holder.stmt = holder.there in
      let same : s ≡ holder.stmt = cc (here, there) in
      ap (λ (M : ℕ → Bool). M x) both
      ∙ ((λ i. one i || two i)
      ∙ (sym (those-append (hides_of vars s s.kind) (hidden_by vars place (all_within stmts) stmts) x)
      ∙ (ap (λ (q : Stmt). those (hides_of vars q q.kind ++ hidden_by vars place (all_within stmts) stmts) x) same
      ∙ ap (λ hs. those hs x) (sym (hidden-by-holder stmts are.below are.one place holder.stmt at holder.there holder.inside vars)))))

-- nothing is hidden where no statement holds the place
pub nothing-hidden : (stmts : List Stmt) → AreHolders stmts → (at : ℕ) → HoldsPlace stmts at None → (vars : List VarInfo) (set : VarSet) (x : ℕ) → member set ≡ none → member set x ≡ those (hidden_by vars at (all_within stmts) stmts) x
nothing-hidden stmts are at out vars set x is =
    ap (λ (M : ℕ → Bool). M x) is ∙ ap (λ hs. those hs x) (sym (hidden-in-body stmts are.below are.one vars at (λ j s there inside. out j s there inside)))
