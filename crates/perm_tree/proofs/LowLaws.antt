-- The low of an expression is no higher than its place, and than the lows of its operands.
use Rattle.std.proofs.Common.{◌≡◌, ◌∙◌, ℕ, zero, suc, ◌+◌, ◌<◌, ◌≤◌, List, [], ◌∷◌, ◌++◌, inl, inr, length, Some, get_or, refl, sym, ap, subst, arith, length-append, zero-add}
use Rattle.std.specs.Prelude.{slice_get}
use Rattle.std.proofs.Math.ListN.{get_or-append}
use Rattle.std.proofs.Math.Seq.{get_or-append_seam}
use Rattle.std.proofs.lemmas.Bool.{cases_lt}
use Rattle.std.proofs.lemmas.List.{get_or_past}
use Rattle.perm_tree.specs.declared.ast.Expr.{Expr}
use Rattle.perm_tree.specs.declared.ast.Expr.TheVariants.{Number, Bool as Truth, Null, Var, Unary, Binary}
use Rattle.perm_tree.specs.Lows.{low_in, lows_from, lows_of}
use Rattle.perm_tree.specs.Places.{ExprBelow}

-- the operands of an expression have lows from here on
abbrev pub AreFrom : ℕ → List ℕ → Expr → Type 0
AreFrom low lows (Unary op a) = low ≤ get_or lows a 0
AreFrom low lows (Binary op a b) = (low ≤ get_or lows a 0) × (low ≤ get_or lows b 0)
AreFrom low lows _ = Unit {0}

-- no low is higher than its place
abbrev AreLow : List ℕ → Type 0
AreLow lows = (k : ℕ) → get_or lows k 0 ≤ k

low_of-le : (lows : List ℕ) (a : ℕ) → AreLow lows → get_or lows a 0 ≤ length lows
low_of-le lows a low = elim (cases_lt a (length lows)) [
  | inl within ↦ omega (arith, low a)
  | inr past ↦ rw (get_or_past lows a 0 past) (omega arith)
]

low_in-le : (lows : List ℕ) (e : Expr) → AreLow lows → low_in lows e ≤ length lows
low_in-le lows (Number n) low = omega arith
low_in-le lows (Truth b) low = omega arith
low_in-le lows Null low = omega arith
low_in-le lows (Var x) low = omega arith
low_in-le lows (Unary op a) low = low_of-le lows a low
low_in-le lows (Binary op a b) low = omega (arith, low_of-le lows a low)

-- lows that are there stay
front : (lows : List ℕ) (es : List Expr) (k : ℕ) → k < length lows → get_or (lows_from lows es) k 0 ≡ get_or lows k 0
front lows [] k within = refl
front lows (e ∷ es) k within =
    front (lows ++ low_in lows e ∷ []) es k (omega (arith, length-append lows (low_in lows e ∷ [])))
    ∙ get_or-append lows (low_in lows e ∷ []) 0 k within

head_from : (lows all : List ℕ) (e : Expr) (low : ℕ) → low ≡ low_in lows e → ((k : ℕ) → k < length lows → get_or all k 0 ≡ get_or lows k 0) → ExprBelow (length lows) e → AreFrom low all e
head_from lows all (Number n) low is same below = tt
head_from lows all (Truth b) low is same below = tt
head_from lows all Null low is same below = tt
head_from lows all (Var x) low is same below = tt
head_from lows all (Unary op a) low is same below = omega (arith, same a below)
head_from lows all (Binary op a b) low is same below = (omega (arith, same a below.0), omega (arith, same b below.1))

from_place : (lows : List ℕ) (es : List Expr) (k : ℕ) (e : Expr) → slice_get es k ≡ Some e → ExprBelow (length lows + k) e → AreFrom (get_or (lows_from lows es) (length lows + k) 0) (lows_from lows es) e
from_place lows [] k e here below = absurd (let no : ⊥ = cc here in no)
from_place lows (y ∷ ys) zero e here below =
    let same : y ≡ e = cc here in
    let next = lows ++ low_in lows y ∷ [] in
    let place : length lows + zero ≡ length lows = omega arith in
    let low : get_or (lows_from next ys) (length lows + zero) 0 ≡ low_in lows e =
    ap (λ n. get_or (lows_from next ys) n 0) place
    ∙ front next ys (length lows) (omega (arith, length-append lows (low_in lows y ∷ [])))
    ∙ get_or-append_seam lows (low_in lows y) [] 0
    ∙ ap (low_in lows) same in
    head_from lows (lows_from next ys) e (get_or (lows_from next ys) (length lows + zero) 0) low
    (λ k within. front next ys k (omega (arith, length-append lows (low_in lows y ∷ []))) ∙ get_or-append lows (low_in lows y ∷ []) 0 k within)
    (subst (λ n. ExprBelow n e) place below)
from_place lows (y ∷ ys) (suc k) e here below =
    let next = lows ++ low_in lows y ∷ [] in
    let place : length next + k ≡ length lows + suc k = omega (arith, length-append lows (low_in lows y ∷ [])) in
    subst (λ n. AreFrom (get_or (lows_from next ys) n 0) (lows_from next ys) e) place (from_place next ys k e here (subst (λ n. ExprBelow n e) (sym place) below))

-- the operands of an expression have no lower lows
pub operands-from : (exprs : List Expr) (at : ℕ) (e : Expr) → slice_get exprs at ≡ Some e → ExprBelow at e → AreFrom (get_or (lows_of exprs) at 0) (lows_of exprs) e
operands-from exprs at e here below =
    let place : zero + at ≡ at = zero-add at in
    subst (λ n. AreFrom (get_or (lows_of exprs) n 0) (lows_of exprs) e) place (from_place [] exprs at e here (subst (λ n. ExprBelow n e) (sym place) below))

grown : (lows : List ℕ) (new : ℕ) → AreLow lows → new ≤ length lows → AreLow (lows ++ new ∷ [])
grown lows new low fits k = elim (cases_lt k (length lows)) [
  | inl within ↦ rw (get_or-append lows (new ∷ []) 0 k within) (low k)
  | inr past ↦ elim (cases_lt (length lows) k) [
    | inl far ↦ rw (get_or_past (lows ++ new ∷ []) k 0 (omega (arith, length-append lows (new ∷ [])))) (omega arith)
    | inr near ↦ let place : length lows ≡ k = omega arith in subst (λ n. get_or (lows ++ new ∷ []) n 0 ≤ n) place (rw (get_or-append_seam lows new [] 0) fits)
  ]
]

all_low : (lows : List ℕ) (es : List Expr) → AreLow lows → AreLow (lows_from lows es)
all_low lows [] low = low
all_low lows (e ∷ es) low = all_low (lows ++ low_in lows e ∷ []) es (grown lows (low_in lows e) low (low_in-le lows e low))

-- the low of an expression is no higher than its place
pub low-le : (exprs : List Expr) (at : ℕ) → get_or (lows_of exprs) at 0 ≤ at
low-le exprs at = all_low [] exprs (λ k. omega arith) at
