-- Laws of sets of variables and of effects, by tables of truth values.
use Rattle.std.proofs.Common.{◌≡◌, ℕ, Bool, true, false, refl, sym, ap, subst}
use Rattle.std.specs.Prelude.{not, ◌&&◌, ◌||◌}
use Rattle.std.proofs.lemmas.Bool.{and_parts, and_from}
use mathlib.Core.Bool.{beq}
use mathlib.Core.Path.{fun_ext}
use Rattle.perm_tree.specs.Vars.{Vars, none, plus, minus, meet, IsWithin}
use Rattle.perm_rules.specs.Effects.{Effect, changed, no_effect, then, either, both}
use Rattle.perm_rules.specs.Goes.{joined}
use Rattle.perm_perm.proofs.OverAll.{implies, implies-at}
use Rattle.perm_tree.proofs.ClassMaps.{same_bool}
use Rattle.perm_rules.proofs.Truth.{implies-from, beq-true, each-of-two, each-of-three, each-of-four, each-of-five}

-- the sets have no variable in common
abbrev pub IsApart : Vars → Vars → Type 0
IsApart G H = (x : ℕ) → (G x && H x) ≡ false

-- nothing is both lost and made
abbrev pub IsClear : Effect → Type 0
IsClear e = IsApart e.lost e.made

-- ---------- within ----------
pub changed-within : (e : Effect) (G H : Vars) → IsWithin G H → IsWithin (changed e G) (changed e H)
changed-within e G H w x h =
    implies-at _ _ (implies-at _ _ (each-of-four (λ g k l m. implies (implies g k) (implies ((g && not l) || m) ((k && not l) || m))) refl (G x) (H x) (e.lost x) (e.made x)) (implies-from (G x) (H x) (w x))) h

pub minus-less : (G L : Vars) → IsWithin (minus G L) G
minus-less G L x h = (and_parts (G x) (not (L x)) h).0

pub same-set : (G H : Vars) → IsWithin G H → IsWithin H G → G ≡ H
same-set G H a b = fun_ext (λ x. same_bool (G x) (H x) (a x) (b x))

pub same-by-test : (f g : Vars) → ((x : ℕ) → beq (f x) (g x) ≡ true) → f ≡ g
same-by-test f g h = fun_ext (λ x. beq-true (f x) (g x) (h x))

-- ---------- what effects change ----------
pub then-changed : (a b : Effect) (G : Vars) → changed b (changed a G) ≡ changed (then a b) G
then-changed a b G = same-by-test _ _ (λ x.
    each-of-five (λ g al am bl bm. beq ((((g && not al) || am) && not bl) || bm) ((g && not ((al && not bm) || bl)) || ((am && not bl) || bm))) refl
    (G x) (a.lost x) (a.made x) (b.lost x) (b.made x))

pub if-changed : (a b : Effect) (G : Vars) → IsClear a → IsClear b → meet (changed a G) (changed b G) ≡ changed (either a b) G
if-changed a b G p q = fun_ext (λ x. go (G x) (a.lost x) (a.made x) (b.lost x) (b.made x) (p x) (q x))
  where
    go : (g k m l n : Bool) → (k && m) ≡ false → (l && n) ≡ false
        → (((g && not k) || m) && ((g && not l) || n)) ≡ ((g && not (k || l)) || (m && n))
    go g k m l n p q = beq-true _ _ (implies-at (not (l && n)) _ (implies-at (not (k && m)) _ (each-of-five (λ g k m l n. implies (not (k && m)) (implies (not (l && n)) (beq (((g && not k) || m) && ((g && not l) || n)) ((g && not (k || l)) || (m && n))))) refl g k m l n) (ap not p)) (ap not q))

pub par-changed : (a b : Effect) (G : Vars) → IsClear a → IsClear b → IsApart a.lost b.made → IsApart b.lost a.made
    → joined G (changed a G) (changed b G) ≡ changed (both a b) G
par-changed a b G p q r s = fun_ext (λ x. go (G x) (a.lost x) (a.made x) (b.lost x) (b.made x) (p x) (q x) (r x) (s x))
  where
    go : (g k m l n : Bool) → (k && m) ≡ false → (l && n) ≡ false → (k && n) ≡ false → (l && m) ≡ false
        → ((g && not ((g && not ((g && not k) || m)) || (g && not ((g && not l) || n)))) || ((((g && not k) || m) && not g) || (((g && not l) || n) && not g))) ≡ ((g && not (k || l)) || (m || n))
    go g k m l n p q r s =
        beq-true _ _ (implies-at (not (l && m)) _ (implies-at (not (k && n)) _ (implies-at (not (l && n)) _ (implies-at (not (k && m)) _
        (each-of-five (λ g k m l n. implies (not (k && m)) (implies (not (l && n)) (implies (not (k && n)) (implies (not (l && m))
        (beq ((g && not ((g && not ((g && not k) || m)) || (g && not ((g && not l) || n)))) || ((((g && not k) || m) && not g) || (((g && not l) || n) && not g))) ((g && not (k || l)) || (m || n))))))) refl g k m l n)
        (ap not p)) (ap not q)) (ap not r)) (ap not s))

-- at the end of a block that declares own
pub closed-changed : (a : Effect) (own G : Vars) → minus (changed a G) own ≡ changed (record { lost = plus a.lost own; made = minus a.made own }) G
closed-changed a own G = same-by-test _ _ (λ x. each-of-four (λ g k m o. beq (((g && not k) || m) && not o) ((g && not (k || o)) || (m && not o))) refl (G x) (a.lost x) (a.made x) (own x))

pub lost-changed : (L G : Vars) → minus G L ≡ changed (record { lost = L; made = none }) G
lost-changed L G = same-by-test _ _ (λ x. each-of-two (λ g l. beq (g && not l) ((g && not l) || false)) refl (G x) (L x))

pub empty-changed : (G : Vars) → G ≡ changed no_effect G
empty-changed G = same-by-test _ _ (λ x. each-of-two (λ g u. beq g ((g && not false) || false)) refl (G x) true)

-- ---------- nothing is both lost and made ----------
pub clear-then : (a b : Effect) → IsClear a → IsClear b → IsClear (then a b)
clear-then a b p q x = go (a.lost x) (a.made x) (b.lost x) (b.made x) (p x) (q x)
  where
    go : (k m l n : Bool) → (k && m) ≡ false → (l && n) ≡ false → (((k && not n) || l) && ((m && not l) || n)) ≡ false
    go k m l n p q = beq-true _ _ (implies-at (not (l && n)) _ (implies-at (not (k && m)) _ (each-of-four (λ k m l n. implies (not (k && m)) (implies (not (l && n)) (beq (((k && not n) || l) && ((m && not l) || n)) false))) refl k m l n) (ap not p)) (ap not q))

pub clear-either : (a b : Effect) → IsClear a → IsClear b → IsClear (either a b)
clear-either a b p q x = go (a.lost x) (a.made x) (b.lost x) (b.made x) (p x) (q x)
  where
    go : (k m l n : Bool) → (k && m) ≡ false → (l && n) ≡ false → ((k || l) && (m && n)) ≡ false
    go k m l n p q = beq-true _ _ (implies-at (not (l && n)) _ (implies-at (not (k && m)) _ (each-of-four (λ k m l n. implies (not (k && m)) (implies (not (l && n)) (beq ((k || l) && (m && n)) false))) refl k m l n) (ap not p)) (ap not q))

pub clear-both : (a b : Effect) → IsClear a → IsClear b → IsApart a.lost b.made → IsApart b.lost a.made → IsClear (both a b)
clear-both a b p q r s x = go (a.lost x) (a.made x) (b.lost x) (b.made x) (p x) (q x) (r x) (s x)
  where
    go : (k m l n : Bool) → (k && m) ≡ false → (l && n) ≡ false → (k && n) ≡ false → (l && m) ≡ false → ((k || l) && (m || n)) ≡ false
    go k m l n p q r s =
        beq-true _ _ (implies-at (not (l && m)) _ (implies-at (not (k && n)) _ (implies-at (not (l && n)) _ (implies-at (not (k && m)) _
        (each-of-four (λ k m l n. implies (not (k && m)) (implies (not (l && n)) (implies (not (k && n)) (implies (not (l && m)) (beq ((k || l) && (m || n)) false))))) refl k m l n)
        (ap not p)) (ap not q)) (ap not r)) (ap not s))

pub clear-closed : (a : Effect) (own : Vars) → IsClear a → IsApart (plus a.lost own) (minus a.made own)
clear-closed a own p x = go (a.lost x) (a.made x) (own x) (p x)
  where
    go : (k m o : Bool) → (k && m) ≡ false → ((k || o) && (m && not o)) ≡ false
    go k m o p = beq-true _ _ (implies-at (not (k && m)) _ (each-of-three (λ k m o. implies (not (k && m)) (beq ((k || o) && (m && not o)) false)) refl k m o) (ap not p))

pub clear-none : (L : Vars) → IsApart L none
clear-none L x = beq-true _ _ (each-of-two (λ l u. beq (l && false) false) refl (L x) true)

pub clear-empty : IsClear no_effect
clear-empty x = refl

pub clear-minus : (L M : Vars) → IsApart (minus L M) M
clear-minus L M x = beq-true _ _ (each-of-two (λ l m. beq ((l && not m) && m) false) refl (L x) (M x))

-- ---------- sets from which a loop goes round ----------
-- a set without what is lost stays within what it changes to
pub keeps-within : (e : Effect) (G : Vars) → IsWithin (minus G e.lost) (changed e (minus G e.lost))
keeps-within e G x h =
    implies-at (G x && not (e.lost x)) (((G x && not (e.lost x)) && not (e.lost x)) || e.made x)
    (each-of-three (λ g l m. implies (g && not l) (((g && not l) && not l) || m)) refl (G x) (e.lost x) (e.made x)) h

-- a set that goes to a larger one has nothing that is lost
pub lost-nothing : (e : Effect) (K L G : Vars) → IsClear e → L ≡ changed e K → IsWithin K L → IsWithin K G → IsWithin K (minus G e.lost)
lost-nothing e K L G clear is wide part x k =
    let at : changed e K x ≡ true = subst (λ (f : Vars). f x ≡ true) is (wide x k) in
    and_from (G x) (not (e.lost x)) (part x k) (go (K x) (e.lost x) (e.made x) (clear x) at)
  where
    go : (k l m : Bool) → (l && m) ≡ false → ((k && not l) || m) ≡ true → not l ≡ true
    go k false m a b = refl
    go k true true a b = sym a
    go true true false a b = b
    go false true false a b = b
