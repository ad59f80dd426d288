-- What each event on names keeps: numbers of 64 bits in the code, and names to come that are new.
use Rattle.std.proofs.Common.{◌≡◌, ℕ, ◌<◌, Some, [], ◌∷◌, ◌++◌, length, ◌⊎◌, inl, inr, refl, sym, ap, ◌∙◌, subst, arith}
use Rattle.std.proofs.lemmas.List.{length-append}
use Rattle.perm_meaning.specs.Names.{Side, OnLeft, OnRight, Path, Name, Mark}
use Rattle.perm_meaning.specs.Objects.{Object, Objects}
use Rattle.perm_meaning.specs.Machine.{OpenBlock, OpenRecover, OpenCall, Close, Returning, Failing, Leaf, Fork, Blocks, Way, Here, GoL, GoR, Fine, GaveBack, Failed, Stage, Over, Due, Did, On, Splits, Ends, Dies, Turn, Takes, NoTurn, stage, final, if_both_over, settled, ended, done, told_to, resumed, join_of, turn_op, next_turn, leaf_op, leaf_on, look, fill}
use Rattle.perm_meaning.specs.Machine as machines
use Rattle.perm_meaning.specs.NamedHeap.{Held, Branch, Task}
use Rattle.perm_meaning.specs.Literals.{CodeFits}
use Rattle.perm_meaning.proofs.OnWords.Moved.{StackFits}

-- what stands below the code of a branch on names
abbrev pub Frame : Type 0
Frame = machines.Frame Held

-- ---------- paths ----------
-- a path that lies within the branch with path q
abbrev pub Extends : Path → Path → Type 0
Extends q p = (xs : Path) × (p ≡ xs ++ q)

-- what lies within a side lies within its parent
pub within-parent : (x : ℕ × Side) (q p : Path) → Extends (x ∷ q) p → Extends q p
within-parent x q p e = (e.0 ++ x ∷ [], e.1 ∙ again e.0)
  where
    again : (xs : Path) → xs ++ (x ∷ q) ≡ (xs ++ x ∷ []) ++ q
    again [] = refl
    again (y ∷ xs) = ap (λ (z : Path). y ∷ z) (again xs)

-- a side isn't its parent
pub not-itself : (x : ℕ × Side) (q : Path) → Extends (x ∷ q) q → ⊥
not-itself x q e = let n = ap (λ (z : Path). length z) e.1 ∙ length-append e.0 (x ∷ q) in absurd (omega (arith, n))

-- what lies within two sides of one branch lies within one
one-side : (x y : ℕ × Side) (q p : Path) → Extends (x ∷ q) p → Extends (y ∷ q) p → x ≡ y
one-side x y q p e f = head (go e.0 f.0 (x ∷ q) (y ∷ q) same (sym e.1 ∙ f.1))
  where
    same : length e.0 ≡ length f.0
    same =
        let n = ap (λ (z : Path). length z) e.1 ∙ length-append e.0 (x ∷ q) in
        let m = ap (λ (z : Path). length z) f.1 ∙ length-append f.0 (y ∷ q) in omega (arith, n, m)

    head : x ∷ q ≡ y ∷ q → x ≡ y
    head e = ap (first x) e
      where
        first : (ℕ × Side) → Path → ℕ × Side
        first d [] = d
        first d (z ∷ zs) = z

    go : (xs ys a b : Path) → length xs ≡ length ys → xs ++ a ≡ ys ++ b → a ≡ b
    go [] [] a b n e = e
    go [] (y ∷ ys) a b n e = absurd (omega arith)
    go (x ∷ xs) [] a b n e = absurd (omega arith)
    go (x ∷ xs) (y ∷ ys) a b n e = go xs ys a b (omega arith) (ap (λ (z : Path). rest z) e)
      where
        rest : Path → Path
        rest [] = []
        rest (z ∷ zs) = zs

-- ---------- names to come ----------
-- a name isn't one that a branch with this mark, or a side of a par that it begins, may give yet
pub record IsBefore (g : Mark) (n : Name) : Type 0 where
  pub own : n.by ≡ g.path → n.count < g.made
  pub sides : (k : ℕ) (s : Side) → Extends ((k, s) ∷ g.path) n.by → k < g.pars

-- so are all objects
abbrev pub AreBefore : Mark → Objects Name → Type 0
AreBefore g h = (n : Name) (o : Object Name) → h n ≡ Some o → IsBefore g n

-- a branch with path q: its names to come are new, and its code has numbers of 64 bits
pub record BranchKept (q : Path) (h : Objects Name) (b : Branch) : Type 0 where
  pub path : b.own.mark.path ≡ q
  pub before : AreBefore b.own.mark h
  pub code : CodeFits b.code
  pub stack : StackFits b.stack

-- the same of a tree
abbrev pub TaskKept : Path → Objects Name → Task → Type 0
TaskKept q h (Leaf b) = BranchKept q h b
TaskKept q h (Fork b p l r) = BranchKept q h b × ((k : ℕ) × (k < b.own.mark.pars) × TaskKept ((k, OnLeft) ∷ q) h l × TaskKept ((k, OnRight) ∷ q) h r)

-- an object of the later heap is one of the earlier, or its name lies within q
abbrev pub Adds : Path → Objects Name → Objects Name → Type 0
Adds q h h' = (n : Name) (o : Object Name) → h' n ≡ Some o → ((p : Object Name) × (h n ≡ Some p)) ⊎ Extends q n.by

-- what holds of each name of the earlier heap and of the new ones, holds of those of the later
before-more : (g : Mark) (q : Path) (h h' : Objects Name) → Adds q h h' → AreBefore g h → ((n : Name) → Extends q n.by → IsBefore g n) → AreBefore g h'
before-more g q h h' a b f n o e = go (a n o e)
  where
    go : ((p : Object Name) × (h n ≡ Some p)) ⊎ Extends q n.by → IsBefore g n
    go (inl z) = b n z.0 z.1
    go (inr z) = f n z

-- a branch whose names to come aren't touched
branch-more : (p q : Path) (h h' : Objects Name) (b : Branch) → Adds q h h' → BranchKept p h b → ((n : Name) → Extends q n.by → IsBefore b.own.mark n) → BranchKept p h' b
branch-more p q h h' b a k f = record { path = k.path; before = before-more b.own.mark q h h' a k.before f; code = k.code; stack = k.stack }

-- a tree apart from the new name
pub apart-kept : (p q : Path) (h h' : Objects Name) (t : Task) → Adds q h h' → ((n : Name) → Extends q n.by → Extends p n.by → ⊥) → TaskKept p h t → TaskKept p h' t
apart-kept p q h h' (Leaf b) a d k = branch-more p q h h' b a k (λ n e. outside n e)
  where
    outside : (n : Name) → Extends q n.by → IsBefore b.own.mark n
    outside n e =
        record {
          own = λ z. absurd (d n e (subst (λ y. Extends p y) (sym (z ∙ k.path)) ([], refl)));
          sides = λ j s z. absurd (d n e (within-parent (j, s) p n.by (subst (λ y. Extends ((j, s) ∷ y) n.by) k.path z)));
        }
apart-kept p q h h' (Fork b x l r) a d k = (
  branch-more p q h h' b a k.0 (λ n e. outside n e),
  (
    k.1.0,
    k.1.1,
    apart-kept ((k.1.0, OnLeft) ∷ p) q h h' l a (λ n e f. d n e (within-parent (k.1.0, OnLeft) p n.by f)) k.1.2,
    apart-kept ((k.1.0, OnRight) ∷ p) q h h' r a (λ n e f. d n e (within-parent (k.1.0, OnRight) p n.by f)) k.1.3,
  ),
)
  where
    outside : (n : Name) → Extends q n.by → IsBefore b.own.mark n
    outside n e =
        record {
          own = λ z. absurd (d n e (subst (λ y. Extends p y) (sym (z ∙ k.0.path)) ([], refl)));
          sides = λ j s z. absurd (d n e (within-parent (j, s) p n.by (subst (λ y. Extends ((j, s) ∷ y) n.by) k.0.path z)));
        }

-- a parent whose side makes an object
pub parent-kept : (q : Path) (k : ℕ) (s : Side) (h h' : Objects Name) (b : Branch) → k < b.own.mark.pars → Adds ((k, s) ∷ q) h h' → BranchKept q h b → BranchKept q h' b
parent-kept q k s h h' b lt a h1 = branch-more q ((k, s) ∷ q) h h' b a h1 (λ n e. inside n e)
  where
    inside : (n : Name) → Extends ((k, s) ∷ q) n.by → IsBefore b.own.mark n
    inside n e =
        record {
          own = λ z. absurd (not-itself (k, s) q (subst (λ y. Extends ((k, s) ∷ q) y) (z ∙ h1.path) e));
          sides = λ j t z. (let x = ap (λ (y : ℕ × Side). y.0) (one-side (k, s) (j, t) q n.by e (subst (λ y. Extends ((j, t) ∷ y) n.by) h1.path z)) in omega (arith, x, lt));
        }

-- what lies within the left side of a par doesn't lie within the right one
pub left-right : (k : ℕ) (q p : Path) → Extends ((k, OnLeft) ∷ q) p → Extends ((k, OnRight) ∷ q) p → ⊥
left-right k q p e f = let x = ap (λ (y : ℕ × Side). y.1) (one-side (k, OnLeft) (k, OnRight) q p e f) in absurd (cc)

-- and the other way round
pub right-left : (k : ℕ) (q p : Path) → Extends ((k, OnRight) ∷ q) p → Extends ((k, OnLeft) ∷ q) p → ⊥
right-left k q p e f = left-right k q p f e
