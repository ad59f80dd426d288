-- The names that branches give are new.
use Rattle.std.proofs.Common.{◌≡◌, ◌∙◌, ℕ, ◌<◌, Bool, true, false, [], ◌∷◌, ◌++◌, length, None, inl, inr, refl, sym, ap, arith, le_refl, append_assoc, length-append, Some, Option}
use Rattle.perm_meaning.specs.Names.{Side, OnLeft, OnRight, Path, Name, Mark, next_name, side_mark, after_par, after_object, same_name}
use Rattle.perm_meaning.specs.Objects.{Objects, Object, add, put, this_or, with_field_if}
use Rattle.perm_meaning.specs.Values.{Value}
use Rattle.perm_meaning.proofs.Leads.{none-some}
use Rattle.perm_meaning.specs.Evaluator.UnbornNames.{LeadsThrough, IsAhead, AreUnborn}
use Rattle.perm_meaning.proofs.SameName.{name-true}

-- the next name of a branch is new
pub next-unborn : (objects : Objects Name) (mark : Mark) → AreUnborn objects mark → objects (next_name mark) ≡ None
next-unborn objects mark new = new (next_name mark) (inl (refl, le_refl mark.made))

-- no path leads through a side of itself
no-loop : (before : Path) (j : ℕ) (s : Side) (p : Path) → p ≡ before ++ (j, s) ∷ p → ⊥
no-loop before j s p e = omega (arith, ap (λ (q : Path). length q) e, length-append before ((j, s) ∷ p))

-- one path leads through one side of a branch
one-side : (a b : Path) (x y : ℕ × Side) (p : Path) → a ++ x ∷ p ≡ b ++ y ∷ p → x ≡ y
one-side [] [] x y p e = head e
  where
    head : {x y : ℕ × Side} {p q : Path} → x ∷ p ≡ y ∷ q → x ≡ y
    head {x} e = ap (λ (l : Path). first x l) e
      where
        first : ℕ × Side → Path → ℕ × Side
        first d [] = d
        first d (z ∷ zs) = z
one-side [] (z ∷ b) x y p e = absurd (omega (arith, ap (λ (q : Path). length q) e, length-append b (y ∷ p)))
one-side (z ∷ a) [] x y p e = absurd (omega (arith, ap (λ (q : Path). length q) e, length-append a (x ∷ p)))
one-side (z ∷ a) (w ∷ b) x y p e = one-side a b x y p (ap (λ (l : Path). rest l) e)
  where
    rest : Path → Path
    rest [] = []
    rest (z ∷ zs) = zs

-- a new object has no other name
pub kept : (objects : Objects Name) (name new : Name) (o : Object Name) → (name ≡ new → ⊥) → objects name ≡ None → add same_name objects new o name ≡ None
kept objects name new o other e = go (same_name name new) refl
  where
    go : (b : Bool) → same_name name new ≡ b → this_or b o (objects name) ≡ None
    go false q = e
    go true q = absurd (other (name-true name new q))

-- ---------- new objects ----------
-- a name that is ahead after one object more was ahead before
pub ahead-before : (mark : Mark) (name : Name) → IsAhead (after_object mark) name → IsAhead mark name
ahead-before mark name (inl a) = inl (a.0, omega (arith, a.1))
ahead-before mark name (inr a) = inr a

-- and it isn't the name of that object
ahead-other : (mark : Mark) (name : Name) → IsAhead (after_object mark) name → name ≡ next_name mark → ⊥
ahead-other mark name (inl a) e = omega (arith, a.1, ap (λ (n : Name). n.count) e)
ahead-other mark name (inr a) e = no-loop a.2.0 a.0 a.1 mark.path (sym (ap (λ (n : Name). n.by) e) ∙ a.2.1)

-- a branch that has made an object has new names still
pub still-unborn : (objects : Objects Name) (mark : Mark) (o : Object Name) → AreUnborn objects mark → AreUnborn (add same_name objects (next_name mark) o) (after_object mark)
still-unborn objects mark o new name a = kept objects name (next_name mark) o (ahead-other mark name a) (new name (ahead-before mark name a))

-- a branch within a side that another one has begun gives none of that one's names
pub parent-unborn : (objects : Objects Name) (mark parent : Mark) (o : Object Name) (j : ℕ) (s : Side) → LeadsThrough mark.path j s parent.path → j < parent.pars → AreUnborn objects parent → AreUnborn (add same_name objects (next_name mark) o) parent
parent-unborn objects mark parent o j s through lt new name a = kept objects name (next_name mark) o (λ e. other a (ap (λ (n : Name). n.by) e)) (new name a)
  where
    other : IsAhead parent name → name.by ≡ mark.path → ⊥
    other (inl a) e = no-loop through.0 j s parent.path (sym a.0 ∙ e ∙ through.1)
    other (inr a) e =
        let same : (a.0, a.1) ≡ (j, s) = one-side a.2.0 through.0 (a.0, a.1) (j, s) parent.path (sym a.2.1 ∙ e ∙ through.1) in
        omega (arith, lt, a.3, ap (λ (x : ℕ × Side). x.0) same)

-- a branch within the left side gives none of the right side's names
pub right-unborn : (objects : Objects Name) (mark parent : Mark) (o : Object Name) → LeadsThrough mark.path parent.pars OnLeft parent.path → AreUnborn objects (side_mark OnRight parent)
    → AreUnborn (add same_name objects (next_name mark) o) (side_mark OnRight parent)
right-unborn objects mark parent o through new name a = kept objects name (next_name mark) o (λ e. other a (ap (λ (n : Name). n.by) e)) (new name a)
  where
    clash : (pre : Path) → pre ++ (parent.pars, OnRight) ∷ parent.path ≡ through.0 ++ (parent.pars, OnLeft) ∷ parent.path → ⊥
    clash pre e = apart (ap (λ (x : ℕ × Side). x.1) (one-side pre through.0 (parent.pars, OnRight) (parent.pars, OnLeft) parent.path e))
      where
        apart : OnRight ≡ OnLeft → ⊥
        apart q = absurd (cc)

    other : IsAhead (side_mark OnRight parent) name → name.by ≡ mark.path → ⊥
    other (inl a) e = clash [] (sym a.0 ∙ e ∙ through.1)
    other (inr a) e = clash (a.2.0 ++ (a.0, a.1) ∷ []) (append_assoc a.2.0 ((a.0, a.1) ∷ []) ((parent.pars, OnRight) ∷ parent.path) ∙ sym a.2.1 ∙ e ∙ through.1)

-- ---------- pars ----------
-- the sides of the next par have new names
pub side-unborn : (objects : Objects Name) (mark : Mark) (s : Side) → AreUnborn objects mark → AreUnborn objects (side_mark s mark)
side-unborn objects mark s new name (inl a) = new name (inr (mark.pars, s, ([], a.0), le_refl mark.pars))
side-unborn objects mark s new name (inr a) =
    new name (inr (mark.pars, s, (a.2.0 ++ (a.0, a.1) ∷ [], a.2.1 ∙ sym (append_assoc a.2.0 ((a.0, a.1) ∷ []) ((mark.pars, s) ∷ mark.path))), le_refl mark.pars))

-- so has the branch that has begun it
pub waiting-unborn : (objects : Objects Name) (mark : Mark) → AreUnborn objects mark → AreUnborn objects (after_par mark)
waiting-unborn objects mark new name (inl a) = new name (inl a)
waiting-unborn objects mark new name (inr a) = new name (inr (a.0, a.1, a.2, omega (arith, a.3)))

-- ---------- stores ----------
-- a store makes no object
pub put-unborn : (objects : Objects Name) (mark : Mark) (r : Name) (f : ℕ) (v : Value Name) → AreUnborn objects mark → AreUnborn (put same_name objects r f v) mark
put-unborn objects mark r f v new name a = go (same_name name r) (objects name) (new name a)
  where
    go : (b : Bool) (o : Option (Object Name)) → o ≡ None → with_field_if b f v o ≡ None
    go true None e = refl
    go true (Some x) e = none-some (sym e)
    go false o e = e
