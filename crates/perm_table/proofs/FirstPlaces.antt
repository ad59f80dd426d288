-- The first class of a name, by its place and by its number in a map.
use Rattle.std.proofs.Common.{◌≡◌, ℕ, suc, ◌+◌, ◌-◌, ◌<◌, ◌≤◌, Bool, true, false, List, [], ◌∷◌, length, Option, Some, refl, sym, ap, arith, drop, drop-cons, get_or, add-zero, zero-add, ◌∙◌}
use Rattle.std.specs.Prelude.{nat_eq, unwrap_or, cond, not, if◌then◌else◌}
use Rattle.std.specs.List.{position_or_len}
use Rattle.perm_tree.specs.declared.ast.ClassDecl.{ClassDecl}
use Rattle.perm_table.specs.Numbers.{place_from}

-- a list from the place before
pub drop-before : {A : Type 0} (xs : List A) (at : ℕ) (d : A) → 0 < at → at ≤ length xs → drop (at - 1) xs ≡ get_or xs (at - 1) d ∷ drop at xs
drop-before xs at d some le =
    let next : suc (at - 1) ≡ at = omega arith in
    drop-cons xs (at - 1) d (omega arith) ∙ ap (λ n. get_or xs (at - 1) d ∷ drop n xs) next

-- the place where a name is found, else the number behind all
found : (b : Bool) (at m n : ℕ) (o : Option ℕ) → unwrap_or o (suc at + m) ≡ suc at + n → unwrap_or (if b then Some at else o) (at + suc m) ≡ at + cond (not b) (1 + n) 0
found true at m n o e = sym (add-zero at)
found false at m n o e =
    let same : at + suc m ≡ suc at + m = omega arith in
    let there : suc at + n ≡ at + (1 + n) = omega arith in
    ap (unwrap_or o) same ∙ e ∙ there

pub place_from-position : (name at : ℕ) (cs : List ClassDecl) → unwrap_or (place_from at cs name) (at + length cs) ≡ at + position_or_len (λ c. nat_eq c.name.name name) cs
place_from-position name at [] = refl
place_from-position name at (c ∷ cs) =
    found (nat_eq c.name.name name) at (length cs) (position_or_len (λ c. nat_eq c.name.name name) cs) (place_from (suc at) cs name) (place_from-position name (suc at) cs)

pub position-from : (name : ℕ) (cs : List ClassDecl) → unwrap_or (place_from 0 cs name) (length cs) ≡ position_or_len (λ c. nat_eq c.name.name name) cs
position-from name cs = ap (unwrap_or (place_from 0 cs name)) (sym (zero-add (length cs))) ∙ place_from-position name 0 cs ∙ zero-add (position_or_len (λ c. nat_eq c.name.name name) cs)

pub place_from-step : (classes : List ClassDecl) (at : ℕ) (d : ClassDecl) (old new : ℕ → Option ℕ) → 0 < at → at ≤ length classes
    → ((name : ℕ) → old name ≡ place_from at (drop at classes) name) → ((name : ℕ) → new name ≡ cond (nat_eq (get_or classes (at - 1) d).name.name name) (Some (at - 1)) (old name))
    → (at - 1 ≤ length classes) × ((name : ℕ) → new name ≡ place_from (at - 1) (drop (at - 1) classes) name)
place_from-step classes at d old new some le known now = (omega arith, step)
  where
    step : (name : ℕ) → new name ≡ place_from (at - 1) (drop (at - 1) classes) name
    step name =
        let next : at ≡ suc (at - 1) = omega arith in
        now name
        ∙ (λ j. if nat_eq (get_or classes (at - 1) d).name.name name then Some (at - 1) else known name j)
        ∙ (λ j. if nat_eq (get_or classes (at - 1) d).name.name name then Some (at - 1) else place_from (next j) (drop at classes) name)
        ∙ ap (λ cs. place_from (at - 1) cs name) (sym (drop-before classes at d some le))
