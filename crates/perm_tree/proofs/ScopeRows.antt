-- Rows of variables that stand in text order, and whose scopes nest.
use Rattle.std.proofs.Common.{ℕ, suc, ◌<◌, ◌≤◌, List, [], ◌∷◌, ◌++◌, arith, inl, inr}
use Rattle.std.specs.Prelude.{All, AllPairs, map}
use Rattle.std.proofs.lemmas.List.Elements.{All-nil, All-cons}
use Rattle.std.proofs.lemmas.List.Kept.{AllPairs-cons}
use Rattle.perm_tree.specs.declared.ast.FieldDecl.{FieldDecl}
use Rattle.perm_tree.specs.declared.unit.VarInfo.{VarInfo}
use Rattle.perm_tree.specs.Nesting.{IsInOrBehind, IsInScope, AreNested}
use Rattle.perm_tree.specs.Scopes.{known_until}

-- ---------- words ----------
-- a variable is declared in its scope; the scope begins not before base and ends by hi, and the declaration begins not before lo
pub record Lies (base lo hi : ℕ) (v : VarInfo) : Type 0 where
  pub begins : base ≤ v.scope.start
  pub declared : lo ≤ v.declared.start
  pub inside : IsInScope v
  pub ends : v.scope.end ≤ hi

-- so do all
abbrev pub AllLie : ℕ → ℕ → ℕ → List VarInfo → Type 0
AllLie base lo hi [] = Unit {0}
AllLie base lo hi (v ∷ vs) = Lies base lo hi v × AllLie base lo hi vs

-- a variable is declared before another one, whose scope lies in its scope or behind it
abbrev IsBefore : VarInfo → VarInfo → Type 0
IsBefore v w = (v.declared.start < w.declared.start) × IsInOrBehind v.scope w.scope

-- so it is before all
abbrev AllAfter : VarInfo → List VarInfo → Type 0
AllAfter v [] = Unit {0}
AllAfter v (w ∷ ws) = IsBefore v w × AllAfter v ws

-- so each is before the later ones
abbrev Nests : List VarInfo → Type 0
Nests [] = Unit {0}
Nests (v ∷ vs) = AllAfter v vs × Nests vs

-- a row of variables in a stretch of the text
pub record Laid (base lo hi : ℕ) (vars : List VarInfo) : Type 0 where
  pub room : lo ≤ hi
  pub lie : AllLie base lo hi vars
  pub nests : Nests vars

-- ---------- rows ----------
lies-more : (b l h c m k : ℕ) (v : VarInfo) → c ≤ b → m ≤ l → h ≤ k → Lies b l h v → Lies c m k v
lies-more b l h c m k v less lower more is = record { begins = omega arith; declared = omega arith; inside = is.inside; ends = omega arith }

all_lie-more : (b l h c m k : ℕ) (vs : List VarInfo) → c ≤ b → m ≤ l → h ≤ k → AllLie b l h vs → AllLie c m k vs
all_lie-more b l h c m k [] less lower more all = tt
all_lie-more b l h c m k (v ∷ vs) less lower more all = (lies-more b l h c m k v less lower more all.0, all_lie-more b l h c m k vs less lower more all.1)

all_lie-append : (b l h : ℕ) (vs ws : List VarInfo) → AllLie b l h vs → AllLie b l h ws → AllLie b l h (vs ++ ws)
all_lie-append b l h [] ws all more = more
all_lie-append b l h (v ∷ vs) ws all more = (all.0, all_lie-append b l h vs ws all.1 more)

after-append : (v : VarInfo) (ws us : List VarInfo) → AllAfter v ws → AllAfter v us → AllAfter v (ws ++ us)
after-append v [] us all more = more
after-append v (w ∷ ws) us all more = (all.0, after-append v ws us all.1 more)

-- what lies in the scope of a variable and behind its name
after-within : (v : VarInfo) (b l h : ℕ) (ws : List VarInfo) → v.scope.start ≤ b → v.declared.start < l → h ≤ v.scope.end → AllLie b l h ws → AllAfter v ws
after-within v b l h [] begins before ends all = tt
after-within v b l h (w ∷ ws) begins before ends all =
    let is : Lies b l h w = all.0 in
    ((omega arith, (omega arith, inl (omega arith))), after-within v b l h ws begins before ends all.1)

-- what lies behind the scope of a variable
after-behind : (v : VarInfo) (b l h : ℕ) (ws : List VarInfo) → IsInScope v → v.scope.end ≤ b → b ≤ l → AllLie b l h ws → AllAfter v ws
after-behind v b l h [] inside ends more all = tt
after-behind v b l h (w ∷ ws) inside ends more all =
    let is : Lies b l h w = all.0 in
    ((omega arith, (omega arith, inr (omega arith))), after-behind v b l h ws inside ends more all.1)

nests-append : (lo mid hi : ℕ) (vs ws : List VarInfo) → AllLie lo lo mid vs → AllLie mid mid hi ws → Nests vs → Nests ws → Nests (vs ++ ws)
nests-append lo mid hi [] ws all more here later = later
nests-append lo mid hi (v ∷ vs) ws all more here later =
    let is : Lies lo lo mid v = all.0 in
    (after-append v vs ws here.0 (after-behind v mid mid hi ws is.inside is.ends (omega arith) more), nests-append lo mid hi vs ws all.1 more here.1 later)

pub laid-nil : (b lo hi : ℕ) → lo ≤ hi → Laid b lo hi []
laid-nil b lo hi room = record { room = room; lie = tt; nests = tt }

-- in a longer stretch
pub laid-more : (b l h c m k : ℕ) (vs : List VarInfo) → c ≤ b → m ≤ l → h ≤ k → Laid b l h vs → Laid c m k vs
laid-more b l h c m k vs less lower more is = record { room = omega arith; lie = all_lie-more b l h c m k vs less lower more is.lie; nests = is.nests }

-- two rows, one behind the other
pub laid-append : (lo mid hi : ℕ) (vs ws : List VarInfo) → Laid lo lo mid vs → Laid mid mid hi ws → Laid lo lo hi (vs ++ ws)
laid-append lo mid hi vs ws is more = record {
  room = omega arith;
  lie = all_lie-append lo lo hi vs ws (all_lie-more lo lo mid lo lo hi vs (omega arith) (omega arith) (omega arith) is.lie) (all_lie-more mid mid hi lo lo hi ws (omega arith) (omega arith) (omega arith) more.lie);
  nests = nests-append lo mid hi vs ws is.lie more.lie is.nests more.nests;
}

-- a variable, and behind its name a row in its scope
pub laid-cons : (v : VarInfo) (b c lo : ℕ) (vs : List VarInfo) → c ≤ v.scope.start → v.scope.start ≤ b → v.scope.start ≤ v.declared.start → lo ≤ v.declared.start
    → Laid b (suc v.declared.start) v.scope.end vs → Laid c lo v.scope.end (v ∷ vs)
laid-cons v b c lo vs from begins inside low is = record {
  room = omega arith;
  lie = (
    record { begins = from; declared = low; inside = (inside, omega arith); ends = omega arith },
    all_lie-more b (suc v.declared.start) v.scope.end c lo v.scope.end vs (omega arith) (omega arith) (omega arith) is.lie,
  );
  nests = (after-within v b (suc v.declared.start) v.scope.end vs begins (omega arith) (omega arith) is.lie, is.nests);
}

-- ---------- what a statement declares ----------
-- the names of some declarations, and behind them a row
abbrev pub Opens : ℕ → ℕ → List FieldDecl → List VarInfo → Type 0
Opens lo hi [] vs = Laid lo lo hi vs
Opens lo hi (d ∷ ds) vs = (lo ≤ d.name.span.start) × Opens (suc d.name.span.start) hi ds vs

pub opens-room : (lo hi : ℕ) (ds : List FieldDecl) (vs : List VarInfo) → Opens lo hi ds vs → lo ≤ hi
opens-room lo hi [] vs is = omega arith
opens-room lo hi (d ∷ ds) vs is = let rest : suc d.name.span.start ≤ hi = opens-room (suc d.name.span.start) hi ds vs is.1 in omega arith

-- known to the end of a block, before the rest of the block
pub opens-laid : (lo hi end : ℕ) (ds : List FieldDecl) (vs ws : List VarInfo) → Opens lo hi ds vs → Laid hi hi end ws → Laid lo lo end (map (known_until end) ds ++ (vs ++ ws))
opens-laid lo hi end [] vs ws is later = laid-append lo hi end vs ws is later
opens-laid lo hi end (d ∷ ds) vs ws is later =
    let x = d.name.span.start in
    laid-cons
    (known_until end d)
    (suc x)
    lo
    lo
    (map (known_until end) ds ++ (vs ++ ws))
    is.0
    (omega arith)
    (omega arith)
    is.0
    (opens-laid (suc x) hi end ds vs ws is.1 later)

-- ---------- whole rows ----------
all-inside : (b l h : ℕ) (vs : List VarInfo) → AllLie b l h vs → All IsInScope vs
all-inside b l h [] all = All-nil IsInScope
all-inside b l h (v ∷ vs) all = All-cons IsInScope v vs all.0.inside (all-inside b l h vs all.1)

all-ascend : (v : VarInfo) (ws : List VarInfo) → AllAfter v ws → All (λ w. v.declared.start < w.declared.start) ws
all-ascend v [] all = All-nil (λ w. v.declared.start < w.declared.start)
all-ascend v (w ∷ ws) all = All-cons (λ w. v.declared.start < w.declared.start) w ws all.0.0 (all-ascend v ws all.1)

all-nested : (v : VarInfo) (ws : List VarInfo) → AllAfter v ws → All (λ w. IsInOrBehind v.scope w.scope) ws
all-nested v [] all = All-nil (λ w. IsInOrBehind v.scope w.scope)
all-nested v (w ∷ ws) all = All-cons (λ w. IsInOrBehind v.scope w.scope) w ws all.0.1 (all-nested v ws all.1)

pairs-nil : (R : VarInfo → VarInfo → Type 0) → AllPairs R []
pairs-nil R i j d before within = absurd (omega arith)

pairs-ascend : (vs : List VarInfo) → Nests vs → AllPairs (λ v w. v.declared.start < w.declared.start) vs
pairs-ascend [] nests = pairs-nil (λ v w. v.declared.start < w.declared.start)
pairs-ascend (v ∷ vs) nests = AllPairs-cons (λ v w. v.declared.start < w.declared.start) v vs (all-ascend v vs nests.0) (pairs-ascend vs nests.1)

pairs-nested : (vs : List VarInfo) → Nests vs → AllPairs (λ v w. IsInOrBehind v.scope w.scope) vs
pairs-nested [] nests = pairs-nil (λ v w. IsInOrBehind v.scope w.scope)
pairs-nested (v ∷ vs) nests = AllPairs-cons (λ v w. IsInOrBehind v.scope w.scope) v vs (all-nested v vs nests.0) (pairs-nested vs nests.1)

-- a row is nested
pub laid-nested : (b lo hi : ℕ) (vars : List VarInfo) → Laid b lo hi vars → AreNested vars
laid-nested b lo hi vars is = record { within = all-inside b lo hi vars is.lie; ascending = pairs-ascend vars is.nests; nested = pairs-nested vars is.nests }
