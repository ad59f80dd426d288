-- Sets that hold what is hidden.
use Rattle.std.proofs.Common.{◌≡◌, ◌∙◌, ℕ, suc, ◌+◌, ◌<◌, ◌≤◌, Bool, true, false, List, [], ◌∷◌, ◌++◌, length, refl, sym, ap, subst, drop, get_or, add-one}
use Rattle.std.specs.Prelude.{◌||◌, ◌&&◌, ◌≢◌, nat_eq, nat_lt}
use Rattle.std.proofs.lemmas.Bool.{eq-eqb, eqb-true, false_from_ne_true, or_left}
use Rattle.std.proofs.lemmas.List.{drop_all, drop_more}
use Rattle.perm_tree.specs.declared.ast.Ty.TheVariants.{Long}
use Rattle.perm_tree.specs.declared.unit.VarInfo.{VarInfo}
use Rattle.perm_tree.specs.declared.var_set.VarSet.{VarSet}
use Rattle.perm_tree.specs.CodeNames.{is_tied, listed_if, tied_before}
use Rattle.perm_tree.specs.Vars.{Vars, none, plus, those}
use Rattle.perm_tree.specs.VarSets.{member}

-- ---------- tests ----------
or-assoc : (a b c : Bool) → ((a || b) || c) ≡ (a || (b || c))
or-assoc true b c = refl
or-assoc false b c = refl

or-false : (a : Bool) → (a || false) ≡ a
or-false true = refl
or-false false = refl

-- ---------- lists ----------
-- an empty set adds nothing
pub nothing-more : (s : VarSet) (G : Vars) (x : ℕ) → member s ≡ none → plus (member s) G x ≡ G x
nothing-more s G x is = ap (λ (H : Vars). plus H G x) is

-- the set of two lists
pub those-append : (xs ys : List ℕ) (x : ℕ) → those (xs ++ ys) x ≡ (those xs x || those ys x)
those-append [] ys x = refl
those-append (y ∷ xs) ys x = ap (λ b. nat_eq x y || b) (those-append xs ys x) ∙ sym (or-assoc (nat_eq x y) (those xs x) (those ys x))

-- ---------- variables that are tied ----------
listed-first : (b : Bool) (n : ℕ) (xs : List ℕ) (x : ℕ) → those (listed_if b n xs) x ≡ (those (listed_if b n []) x || those xs x)
listed-first true n xs x = ap (λ b. b || those xs x) (sym (or-false (nat_eq x n)))
listed-first false n xs x = refl

-- a set with the one number that is listed, and with none
pub one-listed : (s t : VarSet) (b : Bool) (n x : ℕ) → b ≡ true → member t x ≡ (member s x || nat_eq x n) → member t x ≡ plus (member s) (those (listed_if b n [])) x
one-listed s t b n x is with_it =
    with_it ∙ (ap (λ c. member s x || c) (sym (or-false (nat_eq x n))) ∙ ap (λ c. member s x || those (listed_if c n []) x) (sym is))

pub none-listed : (s : VarSet) (b : Bool) (n x : ℕ) → b ≡ false → member s x ≡ plus (member s) (those (listed_if b n [])) x
none-listed s b n x is = sym (or-false (member s x)) ∙ ap (λ c. member s x || those (listed_if c n []) x) (sym is)

-- what stands for a variable past the last
abbrev pub no_var : VarInfo
no_var = record { name = 0; ty = Long; declared = record { start = 0; end = 0 }; scope = record { start = 0; end = 0 } }

-- a set with one more variable, if it is tied
pub tied-more : (end : ℕ) (vars : List VarInfo) (i : ℕ) (tied : Bool) (s t : VarSet) (x : ℕ) (b : Bool) → i < length vars → tied ≡ is_tied (get_or vars i no_var).ty
    → member t x ≡ plus (member s) (those (listed_if (nat_lt (get_or vars i no_var).declared.start end && tied) i [])) x
    → plus (member s) (those (tied_before end i (drop i vars))) x ≡ b → plus (member t) (those (tied_before end (i + 1) (drop (i + 1) vars))) x ≡ b
tied-more end vars i tied s t x b within same is before =
    let v : VarInfo = get_or vars i no_var in
    let first = those (listed_if (nat_lt v.declared.start end && is_tied v.ty) i []) in
    let later = tied_before end (suc i) (drop (suc i) vars) in
    let more : member t x ≡ (member s x || first x) = is ∙ ap (λ c. member s x || those (listed_if (nat_lt v.declared.start end && c) i []) x) same in
    rw add-one
    (ap (λ c. c || those later x) more
    ∙ (or-assoc (member s x) (first x) (those later x)
    ∙ (ap (λ c. member s x || c) (sym (listed-first (nat_lt v.declared.start end && is_tied v.ty) i later x))
    ∙ subst (λ (l : List VarInfo). plus (member s) (those (tied_before end i l)) x ≡ b) (drop_more vars i no_var within ∙ ap (λ n. v ∷ drop n vars) (add-one i)) before)))

-- a set with all of them
pub tied-all : (end : ℕ) (vars : List VarInfo) (i : ℕ) (s : VarSet) (x : ℕ) (b : Bool) → length vars ≤ i → plus (member s) (those (tied_before end i (drop i vars))) x ≡ b → member s x ≡ b
tied-all end vars i s x b past before =
    sym (or-false (member s x)) ∙ subst (λ (l : List VarInfo). plus (member s) (those (tied_before end i l)) x ≡ b) (drop_all i vars past) before

-- ---------- places in blocks ----------
-- a place that comes next is listed, or is further on
pub listed-here : (is : List ℕ) (i at : ℕ) → i < length is → get_or is i 0 ≡ at → those (drop i is) at ≡ those is at → those is at ≡ true
listed-here is i at within same before =
    sym before ∙ (ap (λ (l : List ℕ). those l at) (drop_more is i 0 within) ∙ or-left-true (those (drop (i + 1) is) at))
  where
    or-left-true : (b : Bool) → (nat_eq at (get_or is i 0) || b) ≡ true
    or-left-true b = or_left (nat_eq at (get_or is i 0)) b (eq-eqb at (get_or is i 0) (sym same))

pub listed-later : (is : List ℕ) (i at : ℕ) → i < length is → get_or is i 0 ≢ at → those (drop i is) at ≡ those is at → those (drop (i + 1) is) at ≡ those is at
listed-later is i at within differs before =
    ap (λ b. b || those (drop (i + 1) is) at) (sym (false_from_ne_true (nat_eq at (get_or is i 0)) (λ e. differs (sym (eqb-true at (get_or is i 0) e)))))
    ∙ (ap (λ (l : List ℕ). those l at) (sym (drop_more is i 0 within)) ∙ before)

pub listed-end : (is : List ℕ) (i at : ℕ) → length is ≤ i → those (drop i is) at ≡ those is at → those is at ≡ false
listed-end is i at end before = sym before ∙ ap (λ (l : List ℕ). those l at) (drop_all i is end)

-- the same of two blocks
pub listed-both : (xs ys : List ℕ) (at : ℕ) (a b : Bool) → a ≡ those xs at → b ≡ those ys at → (a || b) ≡ those (xs ++ ys) at
listed-both xs ys at a b p q = (λ j. p j || q j) ∙ sym (those-append xs ys at)
