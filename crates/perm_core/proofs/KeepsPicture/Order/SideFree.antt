-- No part of a block mentions what may have a value before it and stands in no outer part of it.
use Rattle.std.proofs.Common.{◌≡◌, ℕ, Bool, true, false, List, [], ◌∷◌, refl, sym, ap, ◌∙◌, inl, inr}
use Rattle.std.specs.Prelude.{◌⊎◌, ◌&&◌, ◌||◌, not, nat_eq}
use Rattle.std.specs.List.{list_any}
use Rattle.std.proofs.lemmas.Bool.{or_cases, or_left, or_right, and_parts}
use Rattle.perm_tree.specs.Code.{Code, End, Give, Return, Do, If, While, Par, Recover}
use Rattle.perm_tree.specs.Mentions.{term_mentions, argument_mentions, mentions, mentioned, block_mentions}
use Rattle.perm_tree.specs.Vars.{Vars, just, those, plus, minus, IsWithin}
use Rattle.perm_rules.specs.Parts.{Context}
use Rattle.perm_meaning.proofs.SameName.{together, eq-true, eq-itself}
use Rattle.perm_rules.specs.Scoping.{given, has_none, hides_tied, is_scoped}
use Rattle.perm_core.proofs.KeepsPicture.Order.FewerLive.{IsFree}

not-held : (D E : Vars) (y : ℕ) → IsWithin D E → E y ≡ false → D y ≡ false
not-held D E y less e = go (D y) refl
  where
    go : (b : Bool) → D y ≡ b → D y ≡ false
    go false q = q
    go true q = absurd (let f : true ≡ false = sym (less y q) ∙ e in cc)

-- fewer variables stand nowhere either
pub free-fewer : (D E : Vars) (a : Code) → IsWithin D E → IsFree E a → IsFree D a
free-fewer D E End less free = tt
free-fewer D E (Give at w x) less free = not-held D E w less free
free-fewer D E (Return at r) less free = λ y m. not-held D E y less (free y m)
free-fewer D E (Do at i rest) less free = (λ y m. not-held D E y less (free.0 y m), free-fewer D E rest less free.1)
free-fewer D E (If at e own1 a own2 b rest) less free = (λ y m. not-held D E y less (free.0 y m), (free-fewer D E a less free.1.0, (free-fewer D E b less free.1.1.0, free-fewer D E rest less free.1.1.1)))
free-fewer D E (While at e own body rest) less free = (λ y m. not-held D E y less (free.0 y m), (free-fewer D E body less free.1.0, free-fewer D E rest less free.1.1))
free-fewer D E (Par at own1 a own2 b rest) less free = (free-fewer D E a less free.0, (free-fewer D E b less free.1.0, free-fewer D E rest less free.1.1))
free-fewer D E (Recover at x own hides body rest) less free = (free-fewer D E body less free.0, free-fewer D E rest less free.1)

-- what is held of a set but doesn't stand in one place
module _ (U : Vars) where
  stands-out : (M : Vars) (y : ℕ) → M y ≡ true → minus U M y ≡ false
  stands-out M y m = ap (λ b. U y && not b) m ∙ zero (U y)
    where
      zero : (b : Bool) → b && false ≡ false
      zero true = refl
      zero false = refl

  -- left of more is left of less, also where more may have a value
  narrower : (M N V : Vars) → IsWithin U V → ((y : ℕ) → U y ≡ true → N y ≡ true → M y ≡ true) → IsWithin (minus U M) (minus V N)
  narrower M N V less held y e = go (U y) (M y) (N y) (V y) (less y) (held y) e
    where
      go : (u m n v : Bool) → (u ≡ true → v ≡ true) → (u ≡ true → n ≡ true → m ≡ true) → u && not m ≡ true → v && not n ≡ true
      go true false false v f g e = together v true (f refl) refl
      go true false true v f g e = absurd (let q : false ≡ true = g refl refl in cc)
      go true true n v f g e = absurd (let q : false ≡ true = e in cc)
      go false m n v f g e = absurd (let q : false ≡ true = e in cc)

none-listed : (U : Vars) (own : List ℕ) (y : ℕ) → has_none U own ≡ true → U y ≡ true → those own y ≡ false
none-listed U own y none u = go (those own y) refl
  where
    held : (xs : List ℕ) → list_any (nat_eq y) xs ≡ true → list_any U xs ≡ true
    held [] e = e
    held (x ∷ xs) e = pick (held xs) (or_cases (nat_eq y x) (list_any (nat_eq y) xs) e)
      where
        pick : (list_any (nat_eq y) xs ≡ true → list_any U xs ≡ true) → (nat_eq y x ≡ true) ⊎ (list_any (nat_eq y) xs ≡ true) → (U x || list_any U xs) ≡ true
        pick rec (inl q) = or_left (U x) (list_any U xs) (ap U (sym (eq-true y x q)) ∙ u)
        pick rec (inr q) = or_right (U x) (list_any U xs) (rec q)

    go : (b : Bool) → those own y ≡ b → those own y ≡ false
    go false q = q
    go true q = absurd (let f : false ≡ true = sym (ap (λ b. not b) (held own q)) ∙ none in cc)

-- what stands in a block that declares nothing of U stands in an outer part of it
in-block : (U : Vars) (own : List ℕ) (a : Code) (y : ℕ) → has_none U own ≡ true → U y ≡ true → mentioned a y ≡ true → block_mentions own a y ≡ true
in-block U own a y none u m = together (mentioned a y) (not (those own y)) m (ap (λ b. not b) (none-listed U own y none u))

keep : (U M : Vars) → IsWithin U (plus U M)
keep U M y e = or_left (U y) (M y) e

pub side-free : (c : Context) (a : Code) (U : Vars) → is_scoped c a U ≡ true → IsFree (minus U (mentioned a)) a
side-free c End U e = tt
side-free c (Give at w x) U e = stands-out U (plus (just w) (just x)) w (or_left (just w w) (just x w) (eq-itself w))
side-free c (Return at r) U e = λ y m. stands-out U (argument_mentions r) y m
side-free c (Do at i rest) U e =
    let M : Vars = plus (mentions i) (mentioned rest) in (
      λ y m. stands-out U M y (or_left (mentions i y) (mentioned rest y) m),
      free-fewer (minus U M) (minus (plus U (mentions i)) (mentioned rest)) rest (narrower U M (mentioned rest) (plus U (mentions i)) (keep U (mentions i)) (λ y u m. or_right (mentions i y) (mentioned rest y) m)) (side-free c rest (plus U (mentions i)) e),
    )
side-free c (If at t own1 a own2 b rest) U e =
    let A : Vars = block_mentions own1 a in
    let B : Vars = block_mentions own2 b in
    let R : Vars = mentioned rest in
    let M : Vars = plus (term_mentions t) (plus A (plus B R)) in
    let d = and_parts (has_none U own1 && has_none U own2) (is_scoped c a U && (is_scoped c b U && is_scoped c rest (plus U (plus A B)))) e in
    let o = and_parts (has_none U own1) (has_none U own2) d.0 in
    let p = and_parts (is_scoped c a U) (is_scoped c b U && is_scoped c rest (plus U (plus A B))) d.1 in
    let q = and_parts (is_scoped c b U) (is_scoped c rest (plus U (plus A B))) p.1 in (
      λ y m. stands-out U M y (or_left (term_mentions t y) (plus A (plus B R) y) m),
      (
        free-fewer (minus U M) (minus U (mentioned a)) a (narrower U M (mentioned a) U (λ y u. u) (λ y u m. or_right (term_mentions t y) (plus A (plus B R) y) (or_left (A y) (plus B R y) (in-block U own1 a y o.0 u m)))) (side-free c a U p.0),
        (
          free-fewer (minus U M) (minus U (mentioned b)) b (narrower U M (mentioned b) U (λ y u. u) (λ y u m. or_right (term_mentions t y) (plus A (plus B R) y) (or_right (A y) (plus B R y) (or_left (B y) (R y) (in-block U own2 b y o.1 u m))))) (side-free c b U q.0),
          free-fewer (minus U M) (minus (plus U (plus A B)) R) rest (narrower U M R (plus U (plus A B)) (keep U (plus A B)) (λ y u m. or_right (term_mentions t y) (plus A (plus B R) y) (or_right (A y) (plus B R y) (or_right (B y) (R y) m)))) (side-free c rest (plus U (plus A B)) q.1),
        ),
      ),
    )
side-free c (Par at own1 a own2 b rest) U e =
    let A : Vars = block_mentions own1 a in
    let B : Vars = block_mentions own2 b in
    let R : Vars = mentioned rest in
    let M : Vars = plus A (plus B R) in
    let d = and_parts (has_none U own1 && has_none U own2) (is_scoped c a U && (is_scoped c b U && is_scoped c rest (plus U (plus A B)))) e in
    let o = and_parts (has_none U own1) (has_none U own2) d.0 in
    let p = and_parts (is_scoped c a U) (is_scoped c b U && is_scoped c rest (plus U (plus A B))) d.1 in
    let q = and_parts (is_scoped c b U) (is_scoped c rest (plus U (plus A B))) p.1 in (
      free-fewer (minus U M) (minus U (mentioned a)) a (narrower U M (mentioned a) U (λ y u. u) (λ y u m. or_left (A y) (plus B R y) (in-block U own1 a y o.0 u m))) (side-free c a U p.0),
      (
        free-fewer (minus U M) (minus U (mentioned b)) b (narrower U M (mentioned b) U (λ y u. u) (λ y u m. or_right (A y) (plus B R y) (or_left (B y) (R y) (in-block U own2 b y o.1 u m)))) (side-free c b U q.0),
        free-fewer (minus U M) (minus (plus U (plus A B)) R) rest (narrower U M R (plus U (plus A B)) (keep U (plus A B)) (λ y u m. or_right (A y) (plus B R y) (or_right (B y) (R y) m))) (side-free c rest (plus U (plus A B)) q.1),
      ),
    )
side-free c (While at t own body rest) U e =
    let B : Vars = block_mentions own body in
    let R : Vars = mentioned rest in
    let M : Vars = plus (term_mentions t) (plus B R) in
    let d = and_parts (has_none U own) (is_scoped c body (plus U B) && is_scoped c rest (plus U B)) e in
    let p = and_parts (is_scoped c body (plus U B)) (is_scoped c rest (plus U B)) d.1 in (
      λ y m. stands-out U M y (or_left (term_mentions t y) (plus B R y) m),
      (
        free-fewer (minus U M) (minus (plus U B) (mentioned body)) body (narrower U M (mentioned body) (plus U B) (keep U B) (λ y u m. or_right (term_mentions t y) (plus B R y) (or_left (B y) (R y) (in-block U own body y d.0 u m)))) (side-free c body (plus U B) p.0),
        free-fewer (minus U M) (minus (plus U B) R) rest (narrower U M R (plus U B) (keep U B) (λ y u m. or_right (term_mentions t y) (plus B R y) (or_right (B y) (R y) m))) (side-free c rest (plus U B) p.1),
      ),
    )
side-free c (Recover at x own hides body rest) U e =
    let B : Vars = block_mentions own body in
    let R : Vars = mentioned rest in
    let M : Vars = plus (just x) (plus B R) in
    let V : Vars = plus (just x) (plus U B) in
    let H : Vars = plus U (those hides) in
    let d = and_parts (given body x && (has_none H own && hides_tied c (plus U B) hides)) (is_scoped c body H && is_scoped c rest V) e in
    let o = and_parts (has_none H own) (hides_tied c (plus U B) hides) (and_parts (given body x) (has_none H own && hides_tied c (plus U B) hides) d.0).1 in
    let p = and_parts (is_scoped c body H) (is_scoped c rest V) d.1 in
    let wide : IsWithin U H = keep U (those hides) in (
      free-fewer (minus U M) (minus H (mentioned body)) body (narrower U M (mentioned body) H wide (λ y u m. or_right (just x y) (plus B R y) (or_left (B y) (R y) (in-block H own body y o.0 (wide y u) m)))) (side-free c body H p.0),
      free-fewer (minus U M) (minus V R) rest (narrower U M R V (λ y u. or_right (just x y) (plus U B y) (or_left (U y) (B y) u)) (λ y u m. or_right (just x y) (plus B R y) (or_right (B y) (R y) m))) (side-free c rest V p.1),
    )
