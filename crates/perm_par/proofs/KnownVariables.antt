-- The known variables of a method are few, and loops that gather them.
use Rattle.std.proofs.Common.{◌≡◌, ◌∙◌, ℕ, zero, suc, ◌+◌, ◌<◌, ◌≤◌, Bool, true, false, List, ◌++◌, length, Some, refl, sym, ap, subst, arith}
use Rattle.std.specs.Prelude.{◌&&◌, ◌||◌, nat_eq, slice_get}
use Rattle.std.proofs.lemmas.Bool.{eqb-true}
use Rattle.std.proofs.lemmas.List.{length-map}
use Rattle.std.proofs.lemmas.List.Folds.{list_any-append}
use mathlib.Core.Path.{fun_ext}
use Rattle.perm_tree.specs.declared.ast.Ident.{Ident}
use Rattle.perm_tree.specs.declared.ast.Ty.{Ty}
use Rattle.perm_tree.specs.declared.unit.MethodTable.{MethodTable}
use Rattle.perm_tree.specs.declared.unit.VarInfo.{VarInfo}
use Rattle.perm_tree.specs.declared.var_set.VarSet.{VarSet}
use Rattle.perm_tree.specs.InBody.{vars_at, vars_if}
use Rattle.perm_tree.specs.Mentions.{known}
use Rattle.perm_tree.specs.Resolves.{unmentioned}
use Rattle.perm_tree.specs.Vars.{Vars, none, just, below, those, plus, minus, some_below}
use Rattle.perm_tree.specs.VarSets.{member}
use Rattle.perm_tree.proofs.AcceptedNames.{names_refusal-accepted}
use Rattle.perm_rules.specs.AtPlace.{plain_context}
use Rattle.perm_rules.specs.MethodBodies.{Body, IsBody}
use Rattle.perm_rules.proofs.MethodsAtPlace.{types-there}
use Rattle.perm_par.specs.Known.{count_of, HoldsKnown}
use Rattle.perm_par.proofs.KnownSets.{known-none, known-plus, known-minus, plus-assoc, plus-none}

-- a method has at most 256 variables
pub few-variables : (b : Body) → IsBody b → count_of b ≤ 256
few-variables b is =
    let most = (names_refusal-accepted (unmentioned b.unit.program) is.resolved.accepted).few_variables b.number is.table (subst (λ (ts : List MethodTable). slice_get ts b.number ≡ Some is.table) is.resolved.tables is.tabled) in
    let same : length (vars_at b.unit b.number) ≡ length is.table.vars = ap (λ o. length (vars_if o)) is.tabled in
    omega (arith, most, same, length-map is.table.vars (λ (v : VarInfo). let i : Ident = record { name = v.name; span = v.declared } in i))

-- ---------- one variable ----------
below-past : (n x : ℕ) → n ≤ x → below n x ≡ false
below-past zero x past = refl
below-past (suc n) zero past = absurd (omega arith)
below-past (suc n) (suc x) past = below-past n x (omega arith)

pub below-within : (n x : ℕ) → x < n → below n x ≡ true
below-within zero x less = absurd (omega arith)
below-within (suc n) zero less = refl
below-within (suc n) (suc x) less = below-within n x (omega arith)

-- a number past the last variable is none
pub known-past : (n x : ℕ) → n ≤ x → none ≡ known n (just x)
known-past n x past = fun_ext (λ y. by-test y (nat_eq y x) refl (below n y) refl)
  where
    by-test : (y : ℕ) (e : Bool) → nat_eq y x ≡ e → (b : Bool) → below n y ≡ b → false ≡ (b && e)
    by-test y false here false is = refl
    by-test y false here true is = refl
    by-test y true here false is = refl
    by-test y true here true is =
        let same : y ≡ x = eqb-true y x here in
        let no : false ≡ true = sym (below-past n y (omega arith)) ∙ is in
        absurd (let no : ⊥ = cc no in no)

-- a variable is known
pub known-within : (n x : ℕ) → x < n → just x ≡ known n (just x)
known-within n x less = fun_ext (λ y. by-test y (nat_eq y x) refl (below n y) refl)
  where
    by-test : (y : ℕ) (e : Bool) → nat_eq y x ≡ e → (b : Bool) → below n y ≡ b → e ≡ (b && e)
    by-test y false here false is = refl
    by-test y false here true is = refl
    by-test y true here true is = refl
    by-test y true here false is =
        let same : y ≡ x = eqb-true y x here in
        let no : true ≡ false = sym (below-within n y (omega arith)) ∙ is in
        absurd (let no : ⊥ = cc no in no)

-- ---------- sets of two ----------
pub holds-none : (b : Body) (s : VarSet) → member s ≡ none → HoldsKnown b s none
holds-none b s is = is ∙ sym (known-none (count_of b))

pub holds-plus : (b : Body) (r s t : VarSet) (G H : Vars) → member r ≡ plus (member s) (member t) → HoldsKnown b s G → HoldsKnown b t H → HoldsKnown b r (plus G H)
holds-plus b r s t G H is one two = is ∙ (λ i. plus (one i) (two i)) ∙ sym (known-plus (count_of b) G H)

pub holds-minus : (b : Body) (r s t : VarSet) (G H : Vars) → member r ≡ minus (member s) (member t) → HoldsKnown b s G → HoldsKnown b t H → HoldsKnown b r (minus G H)
holds-minus b r s t G H is one two = is ∙ (λ i. minus (one i) (two i)) ∙ sym (known-minus (count_of b) G H)

-- ---------- loops ----------
-- one more part of a whole
pub gathers-more : (b : Body) (s t part : VarSet) (G H K : Vars) (W : Vars) → member t ≡ plus (member s) (member part) → HoldsKnown b part G → H ≡ plus G K
    → plus (member s) (known (count_of b) H) ≡ W → plus (member t) (known (count_of b) K) ≡ W
gathers-more b s t part G H K W is one split before =
    let n = count_of b in
    ap (λ (m : Vars). plus m (known n K)) (is ∙ ap (λ (m : Vars). plus (member s) m) one)
    ∙ plus-assoc (member s) (known n G) (known n K)
    ∙ ap (λ (m : Vars). plus (member s) m) (sym (ap (λ (m : Vars). known n m) split ∙ known-plus n G K))
    ∙ before

-- no part yet
pub gathers-none : (b : Body) (s : VarSet) (H : Vars) → member s ≡ none → plus (member s) (known (count_of b) H) ≡ known (count_of b) H
gathers-none b s H is = ap (λ (m : Vars). plus m (known (count_of b) H)) is

-- no part is left
pub gathers-all : (b : Body) (s : VarSet) (H W : Vars) → H ≡ none → plus (member s) (known (count_of b) H) ≡ W → member s ≡ W
gathers-all b s H W left before =
    sym (ap (λ (m : Vars). plus (member s) m) (ap (λ (m : Vars). known (count_of b) m) left ∙ known-none (count_of b)) ∙ plus-none (member s)) ∙ before

-- the set of two lists
pub those-append : (xs ys : List ℕ) → those (xs ++ ys) ≡ plus (those xs) (those ys)
those-append xs ys = fun_ext (λ x. list_any-append (nat_eq x) xs ys)

-- ---------- what blocks are checked by ----------
-- the rules count the same variables
pub context-count : (b : Body) → IsBody b → count_of b ≡ length (plain_context b.unit b.number).vars
context-count b is =
    sym (ap (λ (ts : List Ty). length ts) (types-there b.unit b.number is.table is.resolved is.tabled) ∙ length-map (vars_at b.unit b.number) (λ v. v.ty))

-- ---------- whether some variable is in a set ----------
-- one more number
pub some-more : (n : ℕ) (G : Vars) (found here : Bool) → found ≡ some_below n G → here ≡ G n → (found || here) ≡ some_below (n + 1) G
some-more n G found here one two = (λ i. one i || two i) ∙ or-comm (some_below n G) (G n) ∙ ap (λ m. some_below m G) next
  where
    next : suc n ≡ n + 1
    next = omega arith

    or-comm : (a b : Bool) → (a || b) ≡ (b || a)
    or-comm true true = refl
    or-comm true false = refl
    or-comm false true = refl
    or-comm false false = refl
