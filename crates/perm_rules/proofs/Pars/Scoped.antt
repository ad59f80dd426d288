-- Variables by their scopes: those whose names stand in a stretch of the text, and those that are declared in one.
use Rattle.std.proofs.Common.{◌≡◌, ℕ, zero, suc, ◌+◌, ◌<◌, ◌≤◌, Bool, true, false, List, [], ◌∷◌, ◌++◌, Some, refl, ap, subst, arith}
use Rattle.std.specs.Prelude.{◌&&◌, not, nat_eq, nat_lt, nat_le, cond, slice_get}
use Rattle.std.proofs.lemmas.Bool.{and_parts, eqb-true, leb-true, ltb-true}
use Rattle.perm_tree.specs.declared.ast.FieldDecl.{FieldDecl}
use Rattle.perm_tree.specs.declared.ast.Ident.{Ident}
use Rattle.perm_tree.specs.declared.unit.VarInfo.{VarInfo}
use Rattle.perm_tree.specs.Lookup.{is_known_as, var_place}
use Rattle.perm_tree.specs.Scopes.{known_until}
use Rattle.perm_tree.specs.Vars.{those}

-- the scope of a variable meets a stretch of the text
abbrev pub Meets : List VarInfo → ℕ → ℕ → ℕ → Type 0
Meets vars lo hi x = (v : VarInfo) → slice_get vars x ≡ Some v → (v.scope.start < hi) × (lo < v.scope.end)

-- it lies in one
abbrev pub LiesIn : List VarInfo → ℕ → ℕ → ℕ → Type 0
LiesIn vars lo hi x = (v : VarInfo) → slice_get vars x ≡ Some v → (lo ≤ v.scope.start) × (v.scope.end ≤ hi)

-- the scopes of listed variables all lie in one
abbrev pub AllLie : List VarInfo → ℕ → ℕ → List ℕ → Type 0
AllLie vars lo hi xs = (x : ℕ) → those xs x ≡ true → LiesIn vars lo hi x

pub meets-more : (vars : List VarInfo) (lo hi from end x : ℕ) → from ≤ lo → hi ≤ end → Meets vars lo hi x → Meets vars from end x
meets-more vars lo hi from end x less more meets v here =
    let begins : v.scope.start < hi = (meets v here).0 in
    let ends : lo < v.scope.end = (meets v here).1 in
    (omega arith, omega arith)

pub lies-more : (vars : List VarInfo) (lo hi from end x : ℕ) → from ≤ lo → hi ≤ end → LiesIn vars lo hi x → LiesIn vars from end x
lies-more vars lo hi from end x less more lies v here =
    let begins : lo ≤ v.scope.start = (lies v here).0 in
    let ends : v.scope.end ≤ hi = (lies v here).1 in
    (omega arith, omega arith)

-- the variable that a name means is known where the name stands
pub known-found : (i : Ident) (vars : List VarInfo) (v : VarInfo) → slice_get vars (var_place vars i) ≡ Some v → is_known_as i v ≡ true
known-found i [] v here = absurd (let no : ⊥ = cc here in no)
known-found i (w ∷ ws) v here = by-test (is_known_as i w) refl here (λ q. known-found i ws v q)
  where
    by-test : (b : Bool) → is_known_as i w ≡ b → slice_get (w ∷ ws) (cond (not b) (1 + var_place ws i) 0) ≡ Some v → (slice_get ws (var_place ws i) ≡ Some v → is_known_as i v ≡ true) → is_known_as i v ≡ true
    by-test true e q later = let same : w ≡ v = cc q in subst (λ (t : VarInfo). is_known_as i t ≡ true) same e
    by-test false e q later =
        let next : 1 + var_place ws i ≡ suc (var_place ws i) = omega arith in
        later (subst (λ n. slice_get (w ∷ ws) n ≡ Some v) next q)

-- so its scope meets each stretch in which the name stands
pub named-meets : (vars : List VarInfo) (lo hi : ℕ) (i : Ident) → lo ≤ i.span.start → i.span.start < hi → Meets vars lo hi (var_place vars i)
named-meets vars lo hi i low less v here =
    let scope = (and_parts (nat_eq v.name i.name) (nat_le v.scope.start i.span.start && nat_lt i.span.start v.scope.end) (known-found i vars v here)).1 in
    let both = and_parts (nat_le v.scope.start i.span.start) (nat_lt i.span.start v.scope.end) scope in
    let begins : v.scope.start ≤ i.span.start = leb-true v.scope.start i.span.start both.0 in
    let ends : i.span.start < v.scope.end = ltb-true i.span.start v.scope.end both.1 in
    (omega arith, omega arith)

-- ---------- declarations ----------
-- no two variables have one name
abbrev pub AreApart : List VarInfo → Type 0
AreApart vars = (a b : ℕ) (v w : VarInfo) → slice_get vars a ≡ Some v → slice_get vars b ≡ Some w → v.name ≡ w.name → a ≡ b

-- some variables are among those of a method
abbrev pub AllHad : List VarInfo → List VarInfo → Type 0
AllHad vars [] = Unit {0}
AllHad vars (w ∷ ws) = ((y : ℕ) × (slice_get vars y ≡ Some w)) × AllHad vars ws

pub had-left : (vars vs ws : List VarInfo) → AllHad vars (vs ++ ws) → AllHad vars vs
had-left vars [] ws had = tt
had-left vars (v ∷ vs) ws had = (had.0, had-left vars vs ws had.1)

pub had-right : (vars vs ws : List VarInfo) → AllHad vars (vs ++ ws) → AllHad vars ws
had-right vars [] ws had = had
had-right vars (v ∷ vs) ws had = had-right vars vs ws had.1

-- those that stand behind others
pub had-behind : (front ws : List VarInfo) → AllHad (front ++ ws) ws
had-behind front ws = go ws (at front)
  where
    at : (vs : List VarInfo) (y : ℕ) (w : VarInfo) → slice_get ws y ≡ Some w → (z : ℕ) × (slice_get (vs ++ ws) z ≡ Some w)
    at [] y w here = (y, here)
    at (v ∷ vs) y w here = next (at vs y w here)
      where
        next : (z : ℕ) × (slice_get (vs ++ ws) z ≡ Some w) → (z : ℕ) × (slice_get (v ∷ (vs ++ ws)) z ≡ Some w)
        next (z, there) = (suc z, there)

    go : (us : List VarInfo) → ((y : ℕ) (w : VarInfo) → slice_get us y ≡ Some w → (z : ℕ) × (slice_get (front ++ ws) z ≡ Some w)) → AllHad (front ++ ws) us
    go [] all = tt
    go (u ∷ us) all = (all zero u refl, go us (λ y w here. all (suc y) w here))

-- the name of a declaration means the variable that it declares, whose scope begins with it
pub declared-lies : (vars : List VarInfo) (lo end : ℕ) (d : FieldDecl) → AreApart vars → (y : ℕ) × (slice_get vars y ≡ Some (known_until end d)) → lo ≤ d.name.span.start → LiesIn vars lo end (var_place vars d.name)
declared-lies vars lo end d apart (y, there) low v here =
    let known = and_parts (nat_eq v.name d.name.name) (nat_le v.scope.start d.name.span.start && nat_lt d.name.span.start v.scope.end) (known-found d.name vars v here) in
    let place : var_place vars d.name ≡ y = apart (var_place vars d.name) y v (known_until end d) here there (eqb-true v.name d.name.name known.0) in
    let same : known_until end d ≡ v = cc (there, here, ap (slice_get vars) place) in
    subst (λ (w : VarInfo). (lo ≤ w.scope.start) × (w.scope.end ≤ end)) same (low, omega arith)
