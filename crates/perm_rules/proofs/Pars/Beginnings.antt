-- Where the scopes of variables begin: those of the variables that stand in a stretch of the text, and those of the variables that are declared in one.
use Rattle.std.proofs.Common.{◌≡◌, ℕ, zero, suc, ◌+◌, ◌<◌, ◌≤◌, Bool, true, false, Some, List, [], ◌∷◌, ◌++◌, refl, sym, ap, subst, ◌∙◌, arith, zero-add, add-zero, le_refl, inl, inr}
use Rattle.std.specs.Prelude.{◌⊎◌, ◌&&◌, not, nat_eq, nat_lt, length, map, slice_get}
use Rattle.std.specs.List.{list_any}
use Rattle.std.proofs.lemmas.Bool.{and_parts, eq-eqb, eqb-true, lt-ltb, ltb-true, or_cases, or_left, or_right}
use Rattle.perm_tree.specs.declared.ast.FieldDecl.{FieldDecl}
use Rattle.perm_tree.specs.declared.ast.Ident.{Ident}
use Rattle.perm_tree.specs.declared.ast.Ty.{Ty}
use Rattle.perm_tree.specs.declared.unit.VarInfo.{VarInfo}
use Rattle.perm_tree.specs.CodeNames.{is_tied, listed_if, tied_before}
use Rattle.perm_tree.specs.Lookup.{is_known_as, var_place}
use Rattle.perm_tree.specs.Scopes.{known_until}
use Rattle.perm_tree.specs.Vars.{Vars, those, plus, minus, meet, some_below}
use Rattle.perm_rules.specs.Parts.{Context, if_known}
use Rattle.perm_rules.specs.Pars.{tied_vars}
use Rattle.perm_rules.specs.Scoping.{has_none, hides_tied}
use Rattle.perm_rules.proofs.Pars.Scoped.{AreApart, known-found, AllHad, had-left, had-right}

-- ---------- lists of variables ----------
-- a variable stands in a list
abbrev pub IsAmong : VarInfo → List VarInfo → Type 0
IsAmong v ws = (z : ℕ) × (slice_get ws z ≡ Some v)

pub among-append : (v : VarInfo) (vs ws : List VarInfo) → IsAmong v (vs ++ ws) → IsAmong v vs ⊎ IsAmong v ws
among-append v [] ws at = inr at
among-append v (w ∷ vs) ws (zero, here) = inl (zero, here)
among-append v (w ∷ vs) ws (suc z, here) = behind (among-append v vs ws (z, here))
  where
    behind : IsAmong v vs ⊎ IsAmong v ws → IsAmong v (w ∷ vs) ⊎ IsAmong v ws
    behind (inl (y, there)) = inl (suc y, there)
    behind (inr there) = inr there

pub among-none : (v : VarInfo) → IsAmong v [] → ⊥
among-none v (z, here) = absurd (let no : ⊥ = cc here in no)

-- the scope of a variable begins in a stretch
pub record StartsIn (lo hi : ℕ) (v : VarInfo) : Type 0 where
  pub behind : lo ≤ v.scope.start
  pub before : v.scope.start < hi

-- so it is of all variables of a list
abbrev pub AllStartIn : ℕ → ℕ → List VarInfo → Type 0
AllStartIn lo hi ws = (v : VarInfo) → IsAmong v ws → StartsIn lo hi v

pub start-none : (lo hi : ℕ) → AllStartIn lo hi []
start-none lo hi v at = absurd (among-none v at)

pub start-more : (lo from hi end : ℕ) (ws : List VarInfo) → lo ≤ from → hi ≤ end → AllStartIn from hi ws → AllStartIn lo end ws
start-more lo from hi end ws low more all v at =
    let s : StartsIn from hi v = all v at in
    let begins : from ≤ v.scope.start = s.behind in
    let last : v.scope.start < hi = s.before in
    record { behind = omega arith; before = omega arith }

pub start-append : (lo hi : ℕ) (vs ws : List VarInfo) → AllStartIn lo hi vs → AllStartIn lo hi ws → AllStartIn lo hi (vs ++ ws)
start-append lo hi vs ws left right v at = pick (among-append v vs ws at)
  where
    pick : IsAmong v vs ⊎ IsAmong v ws → StartsIn lo hi v
    pick (inl i) = left v i
    pick (inr i) = right v i

-- the scopes of all variables of a list end before a place
abbrev pub AllEndIn : ℕ → List VarInfo → Type 0
AllEndIn end ws = (v : VarInfo) → IsAmong v ws → v.scope.end ≤ end

-- both
pub record Rows (lo hi end : ℕ) (ws : List VarInfo) : Type 0 where
  pub starts : AllStartIn lo hi ws
  pub ends : AllEndIn end ws

pub rows-none : (lo hi end : ℕ) → Rows lo hi end []
rows-none lo hi end = record { starts = start-none lo hi; ends = λ v at. absurd (among-none v at) }

pub rows-more : (lo from hi to last end : ℕ) (ws : List VarInfo) → lo ≤ from → hi ≤ to → last ≤ end → Rows from hi last ws → Rows lo to end ws
rows-more lo from hi to last end ws low more far rows = record {
  starts = start-more lo from hi to ws low more rows.starts;
  ends = λ v at. let before : v.scope.end ≤ last = rows.ends v at in omega arith;
}

pub rows-append : (lo hi end : ℕ) (vs ws : List VarInfo) → Rows lo hi end vs → Rows lo hi end ws → Rows lo hi end (vs ++ ws)
rows-append lo hi end vs ws left right = record { starts = start-append lo hi vs ws left.starts right.starts; ends = λ v at. pick v (among-append v vs ws at) }
  where
    pick : (v : VarInfo) → IsAmong v vs ⊎ IsAmong v ws → v.scope.end ≤ end
    pick v (inl i) = left.ends v i
    pick v (inr i) = right.ends v i

-- some declarations stand in a stretch
abbrev pub AllNamed : ℕ → ℕ → List FieldDecl → Type 0
AllNamed lo hi [] = Unit {0}
AllNamed lo hi (d ∷ ds) = ((lo ≤ d.name.span.start) × (d.name.span.start < hi)) × AllNamed lo hi ds

named-row : (lo hi end : ℕ) (d : FieldDecl) → lo ≤ d.name.span.start → d.name.span.start < hi → Rows lo hi end (known_until end d ∷ [])
named-row lo hi end d low less = record { starts = λ v at. begins v at; ends = λ v at. last v at }
  where
    begins : (v : VarInfo) → IsAmong v (known_until end d ∷ []) → StartsIn lo hi v
    begins v (zero, here) = let same : known_until end d ≡ v = cc here in subst (StartsIn lo hi) same (record { behind = low; before = less })
    begins v (suc z, here) = absurd (let no : ⊥ = cc here in no)

    last : (v : VarInfo) → IsAmong v (known_until end d ∷ []) → v.scope.end ≤ end
    last v (zero, here) = let same : known_until end d ≡ v = cc here in subst (λ (w : VarInfo). w.scope.end ≤ end) same (le_refl end)
    last v (suc z, here) = absurd (let no : ⊥ = cc here in no)

pub named-rows : (lo hi end : ℕ) (ds : List FieldDecl) → AllNamed lo hi ds → Rows lo hi end (map (known_until end) ds)
named-rows lo hi end [] all = rows-none lo hi end
named-rows lo hi end (d ∷ ds) all = rows-append lo hi end (known_until end d ∷ []) (map (known_until end) ds) (named-row lo hi end d all.0.0 all.0.1) (named-rows lo hi end ds all.1)

-- ---------- the variables of a method ----------
-- a variable of the method whose scope begins in a stretch is among the listed ones
abbrev pub AreAll : List VarInfo → ℕ → ℕ → List VarInfo → Type 0
AreAll vars lo hi ws = (y : ℕ) (v : VarInfo) → slice_get vars y ≡ Some v → (v.scope.start < lo) ⊎ ((hi ≤ v.scope.start) ⊎ IsAmong v ws)

-- two stretches, one behind the other
all-left : (vars : List VarInfo) (lo mid hi : ℕ) (vs ws : List VarInfo) → mid ≤ hi → AllStartIn mid hi ws → AreAll vars lo hi (vs ++ ws) → AreAll vars lo mid vs
all-left vars lo mid hi vs ws more later all y v here = pick (all y v here)
  where
    part : IsAmong v vs ⊎ IsAmong v ws → (v.scope.start < lo) ⊎ ((mid ≤ v.scope.start) ⊎ IsAmong v vs)
    part (inl i) = inr (inr i)
    part (inr i) = inr (inl (later v i).behind)

    pick : (v.scope.start < lo) ⊎ ((hi ≤ v.scope.start) ⊎ IsAmong v (vs ++ ws)) → (v.scope.start < lo) ⊎ ((mid ≤ v.scope.start) ⊎ IsAmong v vs)
    pick (inl less) = inl less
    pick (inr (inl past)) = inr (inl (omega arith))
    pick (inr (inr i)) = part (among-append v vs ws i)

all-right : (vars : List VarInfo) (lo mid hi : ℕ) (vs ws : List VarInfo) → lo ≤ mid → AllStartIn lo mid vs → AreAll vars lo hi (vs ++ ws) → AreAll vars mid hi ws
all-right vars lo mid hi vs ws low first all y v here = pick (all y v here)
  where
    part : IsAmong v vs ⊎ IsAmong v ws → (v.scope.start < mid) ⊎ ((hi ≤ v.scope.start) ⊎ IsAmong v ws)
    part (inl i) = inl (first v i).before
    part (inr i) = inr (inr i)

    pick : (v.scope.start < lo) ⊎ ((hi ≤ v.scope.start) ⊎ IsAmong v (vs ++ ws)) → (v.scope.start < mid) ⊎ ((hi ≤ v.scope.start) ⊎ IsAmong v ws)
    pick (inl less) = inl (omega arith)
    pick (inr (inl past)) = inr (inl past)
    pick (inr (inr i)) = part (among-append v vs ws i)

-- a shorter stretch
all-within : (vars : List VarInfo) (lo from to hi : ℕ) (ws : List VarInfo) → lo ≤ from → to ≤ hi → AreAll vars lo hi ws → AreAll vars from to ws
all-within vars lo from to hi ws low more all y v here = pick (all y v here)
  where
    pick : (v.scope.start < lo) ⊎ ((hi ≤ v.scope.start) ⊎ IsAmong v ws) → (v.scope.start < from) ⊎ ((to ≤ v.scope.start) ⊎ IsAmong v ws)
    pick (inl less) = inl (omega arith)
    pick (inr (inl past)) = inr (inl (omega arith))
    pick (inr (inr i)) = inr (inr i)

-- the variables of a method whose scopes begin in a stretch are these
pub record BeginIn (vars : List VarInfo) (lo hi : ℕ) (ws : List VarInfo) : Type 0 where
  pub had : AllHad vars ws
  pub all : AreAll vars lo hi ws

pub begin-left : (vars : List VarInfo) (lo mid hi : ℕ) (vs ws : List VarInfo) → mid ≤ hi → AllStartIn mid hi ws → BeginIn vars lo hi (vs ++ ws) → BeginIn vars lo mid vs
begin-left vars lo mid hi vs ws more later is = record { had = had-left vars vs ws is.had; all = all-left vars lo mid hi vs ws more later is.all }

pub begin-right : (vars : List VarInfo) (lo mid hi : ℕ) (vs ws : List VarInfo) → lo ≤ mid → AllStartIn lo mid vs → BeginIn vars lo hi (vs ++ ws) → BeginIn vars mid hi ws
begin-right vars lo mid hi vs ws low first is = record { had = had-right vars vs ws is.had; all = all-right vars lo mid hi vs ws low first is.all }

pub begin-within : (vars : List VarInfo) (lo from to hi : ℕ) (ws : List VarInfo) → lo ≤ from → to ≤ hi → BeginIn vars lo hi ws → BeginIn vars from to ws
begin-within vars lo from to hi ws low more is = record { had = is.had; all = all-within vars lo from to hi ws low more is.all }

-- the name of a variable that is known where the name stands means one that is there
known-there : (i : Ident) (w : VarInfo) → is_known_as i w ≡ true → (vars : List VarInfo) (z : ℕ) → slice_get vars z ≡ Some w → (v : VarInfo) × (slice_get vars (var_place vars i) ≡ Some v)
known-there i w known [] z at = absurd (let no : ⊥ = cc at in no)
known-there i w known (u ∷ us) zero at = let same : u ≡ w = cc at in let e : is_known_as i u ≡ true = subst (λ (t : VarInfo). is_known_as i t ≡ true) (sym same) known in (u, rw e refl)
known-there i w known (u ∷ us) (suc z) at = by-test (is_known_as i u) refl (known-there i w known us z at)
  where
    by-test : (b : Bool) → is_known_as i u ≡ b → (v : VarInfo) × (slice_get us (var_place us i) ≡ Some v) → (v : VarInfo) × (slice_get (u ∷ us) (var_place (u ∷ us) i) ≡ Some v)
    by-test true e later = (u, rw e refl)
    by-test false e (v, here) = let next : suc (var_place us i) ≡ 1 + var_place us i = omega arith in (v, rw e (subst (λ n. slice_get (u ∷ us) n ≡ Some v) next here))

-- ---------- where scopes begin ----------
module _ (vars : List VarInfo) where
  -- the scope of a variable begins before a place
  abbrev pub Begins : ℕ → ℕ → Type 0
  Begins lo x = (v : VarInfo) → slice_get vars x ≡ Some v → v.scope.start < lo

  -- so it is of each one of a set
  abbrev pub AllBegin : ℕ → Vars → Type 0
  AllBegin lo U = (x : ℕ) → U x ≡ true → Begins lo x

  pub begins-more : (lo hi : ℕ) (U : Vars) → lo ≤ hi → AllBegin lo U → AllBegin hi U
  begins-more lo hi U less all x e v here = let low : v.scope.start < lo = all x e v here in omega arith

  pub begins-plus : (lo : ℕ) (U V : Vars) → AllBegin lo U → AllBegin lo V → AllBegin lo (plus U V)
  begins-plus lo U V left right x e = pick (or_cases (U x) (V x) e)
    where
      pick : (U x ≡ true) ⊎ (V x ≡ true) → Begins lo x
      pick (inl a) = left x a
      pick (inr b) = right x b

  -- ---------- what a block declares ----------
  -- a variable is there, and its scope begins not before a place
  abbrev pub IsBegun : ℕ → ℕ → Type 0
  IsBegun lo x = (v : VarInfo) × (slice_get vars x ≡ Some v) × (lo ≤ v.scope.start)

  -- so it is of the listed ones
  abbrev pub AreBegun : ℕ → List ℕ → Type 0
  AreBegun lo xs = (x : ℕ) → those xs x ≡ true → IsBegun lo x

  pub begun-more : (lo from : ℕ) (xs : List ℕ) → lo ≤ from → AreBegun from xs → AreBegun lo xs
  begun-more lo from xs low all x e = more (all x e)
    where
      more : IsBegun from x → IsBegun lo x
      more (v, here, begins) = (v, here, omega arith)

  -- no variable is in a set whose scopes begin before the place
  pub begun-none : (lo : ℕ) (U : Vars) (xs : List ℕ) → AllBegin lo U → AreBegun lo xs → has_none U xs ≡ true
  begun-none lo U [] low all = refl
  begun-none lo U (x ∷ xs) low all = by-test (U x) refl (begun-none lo U xs low (λ y e. all y (or_right (nat_eq y x) (those xs y) e)))
    where
      clash : U x ≡ true → IsBegun lo x → ⊥
      clash e (v, here, begins) = let less : v.scope.start < lo = low x e v here in omega arith

      listed : those (x ∷ xs) x ≡ true
      listed = rw (eq-eqb x x refl) refl

      by-test : (b : Bool) → U x ≡ b → has_none U xs ≡ true → has_none U (x ∷ xs) ≡ true
      by-test true e later = absurd (clash e (all x listed))
      by-test false e later = rw e later

  -- the name of a declaration means the variable that it declares, which is there
  pub declared-begun : (lo end : ℕ) (d : FieldDecl) → (y : ℕ) × (slice_get vars y ≡ Some (known_until end d)) → d.name.span.start < end → AreApart vars → lo ≤ d.name.span.start → IsBegun lo (var_place vars d.name)
  declared-begun lo end d (y, there) less apart low = pick (known-there d.name (known_until end d) known vars y there)
    where
      known : is_known_as d.name (known_until end d) ≡ true
      known = rw (eq-eqb d.name.name d.name.name refl, lt-ltb d.name.span.start end less) grind arith

      pick : (v : VarInfo) × (slice_get vars (var_place vars d.name) ≡ Some v) → IsBegun lo (var_place vars d.name)
      pick (v, here) =
          let names = and_parts (nat_eq v.name d.name.name) _ (known-found d.name vars v here) in
          let place : var_place vars d.name ≡ y = apart (var_place vars d.name) y v (known_until end d) here there (eqb-true v.name d.name.name names.0) in
          let same : known_until end d ≡ v = cc (there, here, ap (slice_get vars) place) in
          (v, here, subst (λ (w : VarInfo). lo ≤ w.scope.start) same low)

  -- the names of some declarations mean all variables that they declare
  pub declared-listed : (lo hi end : ℕ) (ds : List FieldDecl) → hi ≤ end → AllNamed lo hi ds → AreApart vars → (x : ℕ) (v : VarInfo) → slice_get vars x ≡ Some v → IsAmong v (map (known_until end) ds)
      → those (map (λ d. var_place vars d.name) ds) x ≡ true
  declared-listed lo hi end [] last all apart x v here at = absurd (among-none v at)
  declared-listed lo hi end (d ∷ ds) last all apart x v here (zero, at) =
      let same : known_until end d ≡ v = cc at in
      let there : slice_get vars x ≡ Some (known_until end d) = here ∙ ap (λ (w : VarInfo). Some w) (sym same) in
      let low : lo ≤ d.name.span.start = all.0.0 in
      let less : d.name.span.start < hi = all.0.1 in
      pick there (declared-begun lo end d (x, there) (omega arith) apart low)
    where
      pick : slice_get vars x ≡ Some (known_until end d) → IsBegun lo (var_place vars d.name) → those (map (λ d. var_place vars d.name) (d ∷ ds)) x ≡ true
      pick there (w, found, begins) =
          let names = and_parts (nat_eq w.name d.name.name) _ (known-found d.name vars w found) in
          let place : var_place vars d.name ≡ x = apart (var_place vars d.name) x w (known_until end d) found there (eqb-true w.name d.name.name names.0) in
          or_left (nat_eq x (var_place vars d.name)) (those (map (λ d. var_place vars d.name) ds) x) (eq-eqb x (var_place vars d.name) (sym place))
  declared-listed lo hi end (d ∷ ds) last all apart x v here (suc z, at) =
      or_right (nat_eq x (var_place vars d.name)) (those (map (λ d. var_place vars d.name) ds) x) (declared-listed lo hi end ds last all.1 apart x v here (z, at))

-- ---------- what a recover block hides ----------
-- a variable is declared in its scope; it is known from its declaration on, or declared before a place
pub record IsEarly (from : ℕ) (v : VarInfo) : Type 0 where
  pub known : v.scope.start ≤ v.declared.start
  pub early : (v.declared.start ≤ v.scope.start) ⊎ (v.declared.start < from)

-- so it is of all variables
abbrev pub AllEarly : ℕ → List VarInfo → Type 0
AllEarly from vars = (x : ℕ) (v : VarInfo) → slice_get vars x ≡ Some v → IsEarly from v

some_below-none : (n : ℕ) (S : Vars) → ((x : ℕ) → S x ≡ false) → some_below n S ≡ false
some_below-none zero S all = refl
some_below-none (suc n) S all = rw (all n, some_below-none n S all) refl

nothing-left : (a g l : Bool) → (a ≡ true → g ≡ true → l ≡ true) → (a && g) && not l ≡ false
nothing-left true true l all = rw (all refl refl) refl
nothing-left true false l all = refl
nothing-left false g l all = refl

front-more : (x y : ℕ) (b : Bool) (xs : List ℕ) → list_any (nat_eq x) xs ≡ true → list_any (nat_eq x) (listed_if b y xs) ≡ true
front-more x y true xs e = or_right (nat_eq x y) (list_any (nat_eq x) xs) e
front-more x y false xs e = e

front-listed : (x : ℕ) (xs : List ℕ) (b t : Bool) → b ≡ true → t ≡ true → list_any (nat_eq x) (listed_if (b && t) x xs) ≡ true
front-listed x xs b t p q = rw (p, q, eq-eqb x x refl) refl

-- a variable of a tied type that is declared before a place is listed
tied-listed : (at n : ℕ) (vars : List VarInfo) (x : ℕ) → if_known (slice_get (map (λ v. v.ty) vars) x) is_tied ≡ true
    → ((v : VarInfo) → slice_get vars x ≡ Some v → v.declared.start < at) → list_any (nat_eq (n + x)) (tied_before at n vars) ≡ true
tied-listed at n [] x tied before = absurd (let no : ⊥ = cc tied in no)
tied-listed at n (v ∷ vs) zero tied before =
    let early : v.declared.start < at = before v refl in
    subst
    (λ m. list_any (nat_eq m) (tied_before at n (v ∷ vs)) ≡ true)
    (sym (add-zero n))
    (front-listed n (tied_before at (suc n) vs) (nat_lt v.declared.start at) (is_tied v.ty) (lt-ltb v.declared.start at early) tied)
tied-listed at n (v ∷ vs) (suc x) tied before =
    front-more (n + suc x) n (nat_lt v.declared.start at && is_tied v.ty) (tied_before at (suc n) vs)
    (subst (λ m. list_any (nat_eq m) (tied_before at (suc n) vs) ≡ true) (omega arith) (tied-listed at (suc n) vs x tied before))

-- a number, counted from n, is that of a variable that is declared before a place
pub record IsBefore (at n : ℕ) (vars : List VarInfo) (x : ℕ) : Type 0 where
  pub place : ℕ
  pub var : VarInfo
  pub counted : x ≡ n + place
  pub there : slice_get vars place ≡ Some var
  pub before : var.declared.start < at

-- what is listed is declared before the place
tied-before : (at n : ℕ) (vars : List VarInfo) (x : ℕ) → those (tied_before at n vars) x ≡ true → IsBefore at n vars x
tied-before at n [] x e = absurd (let no : ⊥ = cc e in no)
tied-before at n (v ∷ vs) x e = by-test (nat_lt v.declared.start at) (is_tied v.ty) refl e (λ q. tied-before at (suc n) vs x q)
  where
    next : IsBefore at (suc n) vs x → IsBefore at n (v ∷ vs) x
    next is = record { place = suc is.place; var = is.var; counted = (let i : x ≡ suc n + is.place = is.counted in omega (arith, i)); there = is.there; before = is.before }

    by-test : (s t : Bool) → nat_lt v.declared.start at ≡ s → those (listed_if (s && t) n (tied_before at (suc n) vs)) x ≡ true
        → (those (tied_before at (suc n) vs) x ≡ true → IsBefore at (suc n) vs x) → IsBefore at n (v ∷ vs) x
    by-test true true p q later = pick (or_cases (nat_eq x n) (those (tied_before at (suc n) vs) x) q)
      where
        pick : (nat_eq x n ≡ true) ⊎ (those (tied_before at (suc n) vs) x ≡ true) → IsBefore at n (v ∷ vs) x
        pick (inl i) = let same : x ≡ n = eqb-true x n i in record { place = zero; var = v; counted = omega (arith, same); there = refl; before = ltb-true v.declared.start at p }
        pick (inr i) = next (later i)
    by-test true false p q later = next (later q)
    by-test false t p q later = next (later q)

module _ (vars : List VarInfo) (from at : ℕ) (early : AllEarly from vars) where
  -- the scope of what is hidden begins before the place
  pub hides-begin : AllBegin vars at (those (tied_before at 0 vars))
  hides-begin x e v here = go (tied-before at 0 vars x e)
    where
      go : IsBefore at 0 vars x → v.scope.start < at
      go is =
          let i : x ≡ 0 + is.place = is.counted in
          let same : x ≡ is.place = omega (arith, i) in
          let there : slice_get vars is.place ≡ Some is.var = is.there in
          let one : is.var ≡ v = cc (there, here, ap (slice_get vars) same) in
          let less : is.var.declared.start < at = is.before in
          let known : is.var.scope.start ≤ is.var.declared.start = (early is.place is.var there).known in
          subst (λ (z : VarInfo). z.scope.start < at) one (omega arith)

  -- nothing tied whose scope begins before the place is left out
  pub tied-hidden : (c : Context) (U : Vars) → c.vars ≡ map (λ v. v.ty) vars → from ≤ at → AllBegin vars at U → hides_tied c U (tied_before at 0 vars) ≡ true
  tied-hidden c U types low all =
      let hides = tied_before at 0 vars in
      rw
      (some_below-none
      (length c.vars)
      (minus (meet (tied_vars c) U) (those hides))
      (λ x. nothing-left (tied_vars c x) (U x) (those hides x) (λ tied live. listed x (subst (λ (ts : List Ty). if_known (slice_get ts x) is_tied ≡ true) types tied) (λ v here. before x v here live))))
      refl
    where
      listed : (x : ℕ) → if_known (slice_get (map (λ v. v.ty) vars) x) is_tied ≡ true → ((v : VarInfo) → slice_get vars x ≡ Some v → v.declared.start < at) → those (tied_before at 0 vars) x ≡ true
      listed x tied less = subst (λ m. list_any (nat_eq m) (tied_before at 0 vars) ≡ true) (zero-add x) (tied-listed at 0 vars x tied less)

      before : (x : ℕ) (v : VarInfo) → slice_get vars x ≡ Some v → U x ≡ true → v.declared.start < at
      before x v here live = pick (early x v here).early
        where
          pick : (v.declared.start ≤ v.scope.start) ⊎ (v.declared.start < from) → v.declared.start < at
          pick (inl less) = let begins : v.scope.start < at = all x live v here in omega arith
          pick (inr less) = omega arith
