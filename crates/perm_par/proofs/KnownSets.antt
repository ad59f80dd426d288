-- The known part of sets and effects is that of their parts, and laws of effects one behind the other.
use Rattle.std.proofs.Common.{◌≡◌, ℕ, true, false, List, [], refl}
use Rattle.std.specs.Prelude.{not, ◌&&◌, ◌||◌}
use mathlib.Core.Bool.{beq}
use Rattle.perm_tree.specs.Mentions.{known}
use Rattle.perm_tree.specs.Vars.{Vars, none, below, those, plus, minus, meet}
use Rattle.perm_rules.specs.Effects.{Effect, no_effect, then, either, both, closed, repeated, known_effect}
use Rattle.perm_rules.proofs.Truth.{each-of-two, each-of-three, each-of-four, each-of-five}
use Rattle.perm_rules.proofs.SetLaws.{same-by-test}
use Rattle.perm_par.specs.BlockEffects.{without}

-- ---------- sets ----------
pub known-none : (n : ℕ) → known n none ≡ none
known-none n = same-by-test _ _ (λ x. each-of-two (λ b u. beq (b && false) false) refl (below n x) true)

pub known-plus : (n : ℕ) (G H : Vars) → known n (plus G H) ≡ plus (known n G) (known n H)
known-plus n G H = same-by-test _ _ (λ x. each-of-three (λ b g h. beq (b && (g || h)) ((b && g) || (b && h))) refl (below n x) (G x) (H x))

pub known-minus : (n : ℕ) (G H : Vars) → known n (minus G H) ≡ minus (known n G) (known n H)
known-minus n G H = same-by-test _ _ (λ x. each-of-three (λ b g h. beq (b && (g && not h)) ((b && g) && not (b && h))) refl (below n x) (G x) (H x))

pub known-meet : (n : ℕ) (G H : Vars) → known n (meet G H) ≡ meet (known n G) (known n H)
known-meet n G H = same-by-test _ _ (λ x. each-of-three (λ b g h. beq (b && (g && h)) ((b && g) && (b && h))) refl (below n x) (G x) (H x))

pub known-twice : (n : ℕ) (G : Vars) → known n (known n G) ≡ known n G
known-twice n G = same-by-test _ _ (λ x. each-of-two (λ b g. beq (b && (b && g)) (b && g)) refl (below n x) (G x))

pub plus-none : (G : Vars) → plus G none ≡ G
plus-none G = same-by-test _ _ (λ x. each-of-two (λ g u. beq (g || false) g) refl (G x) true)

pub none-plus : (G : Vars) → plus none G ≡ G
none-plus G = refl

pub minus-none : (G : Vars) → minus G none ≡ G
minus-none G = same-by-test _ _ (λ x. each-of-two (λ g u. beq (g && not false) g) refl (G x) true)

pub plus-comm : (G H : Vars) → plus G H ≡ plus H G
plus-comm G H = same-by-test _ _ (λ x. each-of-two (λ g h. beq (g || h) (h || g)) refl (G x) (H x))

pub plus-assoc : (G H K : Vars) → plus (plus G H) K ≡ plus G (plus H K)
plus-assoc G H K = same-by-test _ _ (λ x. each-of-three (λ g h k. beq ((g || h) || k) (g || (h || k))) refl (G x) (H x) (K x))

-- ---------- effects ----------
-- effects are the same by what they lose and what they make
pub same-effect : (s t : Effect) → s.lost ≡ t.lost → s.made ≡ t.made → s ≡ t
same-effect s t lost made = λ i. record { lost = lost i; made = made i }

pub known-no-effect : (n : ℕ) → known_effect n no_effect ≡ no_effect
known-no-effect n = same-effect (known_effect n no_effect) no_effect (known-none n) (known-none n)

then-known : (n : ℕ) (L M K : Vars) → known n (plus (minus L M) K) ≡ plus (minus (known n L) (known n M)) (known n K)
then-known n L M K = same-by-test _ _ (λ x. each-of-four (λ b l m k. beq (b && ((l && not m) || k)) (((b && l) && not (b && m)) || (b && k))) refl (below n x) (L x) (M x) (K x))

pub known-then : (n : ℕ) (s t : Effect) → known_effect n (then s t) ≡ then (known_effect n s) (known_effect n t)
known-then n s t = same-effect (known_effect n (then s t)) (then (known_effect n s) (known_effect n t)) (then-known n s.lost t.made t.lost) (then-known n s.made t.lost t.made)

pub known-either : (n : ℕ) (s t : Effect) → known_effect n (either s t) ≡ either (known_effect n s) (known_effect n t)
known-either n s t = same-effect (known_effect n (either s t)) (either (known_effect n s) (known_effect n t)) (known-plus n s.lost t.lost) (known-meet n s.made t.made)

pub known-both : (n : ℕ) (s t : Effect) → known_effect n (both s t) ≡ both (known_effect n s) (known_effect n t)
known-both n s t = same-effect (known_effect n (both s t)) (both (known_effect n s) (known_effect n t)) (known-plus n s.lost t.lost) (known-plus n s.made t.made)

pub known-repeated : (n : ℕ) (s : Effect) → known_effect n (repeated s) ≡ repeated (known_effect n s)
known-repeated n s = same-effect (known_effect n (repeated s)) (repeated (known_effect n s)) refl (known-none n)

pub known-closed : (n : ℕ) (own : List ℕ) (s : Effect) → known_effect n (closed own s) ≡ without (known n (those own)) (known_effect n s)
known-closed n own s =
    same-effect (known_effect n (closed own s)) (without (known n (those own)) (known_effect n s)) (known-plus n s.lost (those own)) (known-minus n s.made (those own))

then-lost : (A B C D E : Vars) → plus (minus (plus (minus A B) C) D) E ≡ plus (minus A (plus (minus B E) D)) (plus (minus C D) E)
then-lost A B C D E = same-by-test _ _ (λ x. each-of-five (λ a b c d e. beq ((((a && not b) || c) && not d) || e) ((a && not ((b && not e) || d)) || ((c && not d) || e))) refl (A x) (B x) (C x) (D x) (E x))

pub then-assoc : (s t r : Effect) → then (then s t) r ≡ then s (then t r)
then-assoc s t r = same-effect (then (then s t) r) (then s (then t r)) (then-lost s.lost t.made t.lost r.made r.lost) (then-lost s.made t.lost t.made r.lost r.made)

then-empty : (G : Vars) → plus (minus G none) none ≡ G
then-empty G = same-by-test _ _ (λ x. each-of-two (λ g u. beq ((g && not false) || false) g) refl (G x) true)

pub then-nothing : (s : Effect) → then s no_effect ≡ s
then-nothing s = same-effect (then s no_effect) s (then-empty s.lost) (then-empty s.made)

empty-then : (G H : Vars) → plus (minus none G) H ≡ H
empty-then G H = same-by-test _ _ (λ x. each-of-two (λ g h. beq ((false && not g) || h) h) refl (G x) (H x))

pub nothing-then : (s : Effect) → then no_effect s ≡ s
nothing-then s = same-effect (then no_effect s) s (empty-then s.made s.lost) (empty-then s.lost s.made)

-- a block of nothing has no effect
pub closed-nothing : closed [] no_effect ≡ no_effect
closed-nothing = same-effect (closed [] no_effect) no_effect refl refl
