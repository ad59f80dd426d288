-- What is hidden at a place, by the statement whose block holds it.
use Rattle.std.proofs.Common.{◌≡◌, ℕ, zero, suc, ◌<◌, ◌≤◌, Bool, true, false, cond, List, [], ◌∷◌, ◌++◌, length, Some, refl, sym, ◌∙◌, ap, subst, arith, get_or, inl, inr}
use Rattle.std.specs.Prelude.{◌⊎◌, slice_get}
use Rattle.perm_tree.specs.declared.ast.Stmt.{Stmt}
use Rattle.perm_tree.specs.declared.unit.VarInfo.{VarInfo}
use Rattle.perm_tree.specs.Places.{AllBelow}
use Rattle.perm_tree.specs.Vars.{those}
use Rattle.perm_tree.proofs.ClassMaps.{same_bool}
use Rattle.perm_tree.proofs.HeldStatements.{listed-below, opened, reaches, within-at, within-length, earlier, Opened}
use Rattle.perm_tree.specs.InBody.{inner_places, all_within}
use Rattle.perm_rules.specs.AtPlace.{hides_of, hidden_by}

not-true : (b : Bool) → (b ≡ true → ⊥) → b ≡ false
not-true true f = absurd (f refl)
not-true false f = refl

module _ (vars : List VarInfo) where
  same-hidden : (ws : List (List ℕ)) (ss : List Stmt) (i j : ℕ) → ((n : ℕ) → those (get_or ws n []) i ≡ those (get_or ws n []) j) → hidden_by vars i ws ss ≡ hidden_by vars j ws ss
  same-hidden [] ss i j all = refl
  same-hidden (w ∷ ws) [] i j all = refl
  same-hidden (w ∷ ws) (s ∷ ss) i j all =
      ap (λ b. cond b (hides_of vars s s.kind) [] ++ hidden_by vars i ws ss) (all 0) ∙ ap (λ xs. cond (those w j) (hides_of vars s s.kind) [] ++ xs) (same-hidden ws ss i j (λ n. all (suc n)))

  none-hidden : (ws : List (List ℕ)) (ss : List Stmt) (i : ℕ) → ((n : ℕ) → those (get_or ws n []) i ≡ false) → hidden_by vars i ws ss ≡ []
  none-hidden [] ss i all = refl
  none-hidden (w ∷ ws) [] i all = refl
  none-hidden (w ∷ ws) (s ∷ ss) i all = ap (λ b. cond b (hides_of vars s s.kind) [] ++ hidden_by vars i ws ss) (all 0) ∙ none-hidden ws ss i (λ n. all (suc n))

  -- one statement round a place i stands round no other place j, and behind it each one round the one is round the other
  pub record Parts (ws : List (List ℕ)) (d i j : ℕ) : Type 0 where
    pub before : (n : ℕ) → n < d → (those (get_or ws n []) i ≡ false) × (those (get_or ws n []) j ≡ false)
    pub inside : those (get_or ws d []) i ≡ true
    pub outside : those (get_or ws d []) j ≡ false
    pub behind : (n : ℕ) → d < n → those (get_or ws n []) i ≡ those (get_or ws n []) j

  one-more : (ws : List (List ℕ)) (ss : List Stmt) (d : ℕ) (s : Stmt) (i j : ℕ) → length ws ≡ length ss → slice_get ss d ≡ Some s → Parts ws d i j → hidden_by vars i ws ss ≡ hides_of vars s s.kind ++ hidden_by vars j ws ss
  one-more [] [] d s i j same here parts = absurd (let no : ⊥ = cc here in no)
  one-more [] (t ∷ ss) d s i j same here parts = absurd (omega arith)
  one-more (w ∷ ws) [] d s i j same here parts = absurd (let no : ⊥ = cc here in no)
  one-more (w ∷ ws) (t ∷ ss) zero s i j same here parts =
      let is : t ≡ s = cc here in
      ap (λ b. cond b (hides_of vars t t.kind) [] ++ hidden_by vars i ws ss) parts.inside
      ∙ (ap (λ xs. hides_of vars t t.kind ++ xs) (same-hidden ws ss i j (λ n. parts.behind (suc n) (omega arith)))
      ∙ (ap (λ (r : Stmt). hides_of vars r r.kind ++ hidden_by vars j ws ss) is
      ∙ ap (λ b. hides_of vars s s.kind ++ (cond b (hides_of vars t t.kind) [] ++ hidden_by vars j ws ss)) (sym parts.outside)))
  one-more (w ∷ ws) (t ∷ ss) (suc d) s i j same here parts =
      let first = parts.before 0 (omega arith) in
      ap (λ b. cond b (hides_of vars t t.kind) [] ++ hidden_by vars i ws ss) first.0
      ∙ (one-more ws ss d s i j (omega arith) here (record { before = λ n less. parts.before (suc n) (omega arith); inside = parts.inside; outside = parts.outside; behind = λ n less. parts.behind (suc n) (omega arith) })
      ∙ ap (λ b. hides_of vars s s.kind ++ (cond b (hides_of vars t t.kind) [] ++ hidden_by vars j ws ss)) (sym first.1))

-- ---------- the statements of a program ----------
module _ (stmts : List Stmt) (placed : (j : ℕ) (s : Stmt) → slice_get stmts j ≡ Some s → AllBelow j (inner_places s))
    (one : (j k : ℕ) (s t : Stmt) (i : ℕ) → slice_get stmts j ≡ Some s → slice_get stmts k ≡ Some t → those (inner_places s) i ≡ true → those (inner_places t) i ≡ true → j ≡ k) where
  abbrev within : List (List ℕ)
  within = all_within stmts

  -- a statement stands in the block of some statement, if it is within one
  pub record HolderOf (i : ℕ) : Type 0 where
    pub place : ℕ
    pub stmt : Stmt
    pub here : slice_get stmts place ≡ Some stmt
    pub inside : those (inner_places stmt) i ≡ true

  held : (n j i : ℕ) → j < n → those (get_or within j []) i ≡ true → HolderOf i
  held zero j i less e = absurd (omega arith)
  held (suc n) j i less e = go (opened stmts placed j i e) (λ k small q. held n k i small q)
    where
      go : Opened stmts placed j i → ((k : ℕ) → k < n → those (get_or within k []) i ≡ true → HolderOf i) → HolderOf i
      go o later = pick o.inside.either
        where
          before : o.inside.at < j
          before = listed-below j (inner_places o.stmt) o.inside.at (placed j o.stmt o.here) o.inside.listed

          pick : (i ≡ o.inside.at) ⊎ (those (get_or within o.inside.at []) i ≡ true) → HolderOf i
          pick (inl q) = record { place = j; stmt = o.stmt; here = o.here; inside = subst (λ x. those (inner_places o.stmt) x ≡ true) (sym q) o.inside.listed }
          pick (inr q) = later o.inside.at (omega (arith, before)) q

  module _ (j : ℕ) (s : Stmt) (i : ℕ) (there : slice_get stmts j ≡ Some s) (inside : those (inner_places s) i ≡ true) where
    -- what is round a statement is the one whose block holds it, or is round that
    climb : (n k : ℕ) → k < n → those (get_or within k []) i ≡ true → (k ≡ j) ⊎ (those (get_or within k []) j ≡ true)
    climb zero k less e = absurd (omega arith)
    climb (suc n) k less e = go (opened stmts placed k i e) (λ at small q. climb n at small q)
      where
        go : Opened stmts placed k i → ((at : ℕ) → at < n → those (get_or within at []) i ≡ true → (at ≡ j) ⊎ (those (get_or within at []) j ≡ true)) → (k ≡ j) ⊎ (those (get_or within k []) j ≡ true)
        go o later = pick o.inside.either
          where
            before : o.inside.at < k
            before = listed-below k (inner_places o.stmt) o.inside.at (placed k o.stmt o.here) o.inside.listed

            wrap : (j ≡ o.inside.at) ⊎ (those (get_or within o.inside.at []) j ≡ true) → those (get_or within k []) j ≡ true
            wrap either = subst (λ xs. those xs j ≡ true) (sym (within-at stmts placed k o.stmt o.here)) (reaches within (inner_places o.stmt) j o.inside.at o.inside.listed either)

            up : (o.inside.at ≡ j) ⊎ (those (get_or within o.inside.at []) j ≡ true) → (k ≡ j) ⊎ (those (get_or within k []) j ≡ true)
            up (inl q) = inr (wrap (inl (sym q)))
            up (inr q) = inr (wrap (inr q))

            pick : (i ≡ o.inside.at) ⊎ (those (get_or within o.inside.at []) i ≡ true) → (k ≡ j) ⊎ (those (get_or within k []) j ≡ true)
            pick (inl q) = inl (one k j o.stmt s i o.here there (subst (λ x. those (inner_places o.stmt) x ≡ true) (sym q) o.inside.listed) inside)
            pick (inr q) = up (later o.inside.at (omega (arith, before)) q)

    pub own-within : those (get_or within j []) i ≡ true
    own-within = subst (λ xs. those xs i ≡ true) (sym (within-at stmts placed j s there)) (reaches within (inner_places s) i i inside (inl refl))

    -- what is round the one whose block holds it is round it
    pub sink : (n k : ℕ) → k < n → those (get_or within k []) j ≡ true → those (get_or within k []) i ≡ true
    sink zero k less e = absurd (omega arith)
    sink (suc n) k less e = go (opened stmts placed k j e) (λ at small q. sink n at small q)
      where
        go : Opened stmts placed k j → ((at : ℕ) → at < n → those (get_or within at []) j ≡ true → those (get_or within at []) i ≡ true) → those (get_or within k []) i ≡ true
        go o later = pick o.inside.either
          where
            before : o.inside.at < k
            before = listed-below k (inner_places o.stmt) o.inside.at (placed k o.stmt o.here) o.inside.listed

            wrap : those (get_or within o.inside.at []) i ≡ true → those (get_or within k []) i ≡ true
            wrap q = subst (λ xs. those xs i ≡ true) (sym (within-at stmts placed k o.stmt o.here)) (reaches within (inner_places o.stmt) i o.inside.at o.inside.listed (inr q))

            pick : (j ≡ o.inside.at) ⊎ (those (get_or within o.inside.at []) j ≡ true) → those (get_or within k []) i ≡ true
            pick (inl q) = wrap (subst (λ x. those (get_or within x []) i ≡ true) q own-within)
            pick (inr q) = wrap (later o.inside.at (omega (arith, before)) q)

    not-behind : (k : ℕ) → k ≤ j → those (get_or within k []) j ≡ false
    not-behind k least = not-true (those (get_or within k []) j) (λ e. let less : j < k = earlier stmts placed (suc k) k j (omega arith) e in omega arith)

    -- at a statement is hidden what the one hides whose block holds it, and what is hidden there
    pub hidden-by-holder : (vars : List VarInfo) → hidden_by vars i within stmts ≡ hides_of vars s s.kind ++ hidden_by vars j within stmts
    hidden-by-holder vars = one-more vars within stmts j s i j (within-length stmts placed) there (record {
      before = λ n less. (not-true (those (get_or within n []) i) (λ e. front n less (climb (suc n) n (omega arith) e)), not-behind n (omega arith));
      inside = own-within;
      outside = not-behind j (omega arith);
      behind = λ n less. same_bool (those (get_or within n []) i) (those (get_or within n []) j) (λ e. back n less (climb (suc n) n (omega arith) e)) (λ e. sink (suc n) n (omega arith) e);
    })
      where
        front : (n : ℕ) → n < j → (n ≡ j) ⊎ (those (get_or within n []) j ≡ true) → ⊥
        front n less (inl q) = omega arith
        front n less (inr q) = let after : j < n = earlier stmts placed (suc n) n j (omega arith) q in omega arith

        back : (n : ℕ) → j < n → (n ≡ j) ⊎ (those (get_or within n []) j ≡ true) → those (get_or within n []) j ≡ true
        back n less (inl q) = absurd (omega arith)
        back n less (inr q) = q

  -- at a statement that stands in no block of a statement nothing is hidden
  pub hidden-in-body : (vars : List VarInfo) (i : ℕ) → ((j : ℕ) (s : Stmt) → slice_get stmts j ≡ Some s → those (inner_places s) i ≡ true → ⊥) → hidden_by vars i within stmts ≡ []
  hidden-in-body vars i out = none-hidden vars within stmts i (λ n. not-true (those (get_or within n []) i) (λ e. no (held (suc n) n i (omega arith) e)))
    where
      no : HolderOf i → ⊥
      no h = out h.place h.stmt h.here h.inside
