-- Names of objects to come: the branches of two leaves name theirs apart, and each of these names may still be given.
use Rattle.std.proofs.Common.{◌≡◌, ◌≢◌, ℕ, ◌≤◌, Some, [], ◌∷◌, length, refl, sym, ap, subst, ◌∙◌, le_refl, arith, inl, inr}
use Rattle.perm_meaning.specs.Names.{Path, Side, OnLeft, OnRight, next_name}
use Rattle.perm_meaning.specs.Machine.{Leaf, Fork, Way, Here, GoL, GoR}
use Rattle.perm_meaning.specs.NamedHeap.{Branch, Task}
use Rattle.perm_meaning.proofs.Leads.{some-inj, none-some}
use Rattle.perm_core.specs.Claims.{leaf_at}
use Rattle.perm_core.specs.Picture.{IsBelow, MayGive, next, MayBeGiven, path_of, PathsFit}
use Rattle.perm_core.proofs.Commute.TwoNodes.{AreApart}

-- ---------- paths ----------
pub below-itself : (p : Path) → IsBelow p p
below-itself [] = refl
below-itself (s ∷ p) = inl refl

pub below-parent : (s : ℕ × Side) (above p : Path) → IsBelow (s ∷ above) p → IsBelow above p
below-parent s above [] h = absurd (cc)
below-parent s above (t ∷ p) (inl e) = inr (subst (λ q. IsBelow above q) (rest e) (below-itself above))
  where
    rest : s ∷ above ≡ t ∷ p → above ≡ p
    rest e = cc
below-parent s above (t ∷ p) (inr h) = inr (below-parent s above p h)

pub below-length : (above p : Path) → IsBelow above p → length above ≤ length p
below-length above [] h = subst (λ q. length q ≤ 0) (sym h) (le_refl 0)
below-length above (s ∷ p) (inl e) = subst (λ q. length q ≤ length (s ∷ p)) (sym e) (le_refl (length (s ∷ p)))
below-length above (s ∷ p) (inr h) = let less = below-length above p h in omega (arith, less)

-- no path is below two that differ in their last step alone
pub one-side : (a b : ℕ × Side) (above p : Path) → a ≢ b → IsBelow (a ∷ above) p → IsBelow (b ∷ above) p → ⊥
one-side a b above [] d h k = absurd (cc)
one-side a b above (s ∷ p) d (inl e) (inl f) = d (first (e ∙ sym f))
  where
    first : a ∷ above ≡ b ∷ above → a ≡ b
    first e = cc
one-side a b above (s ∷ p) d (inl e) (inr k) = let less = below-length (b ∷ above) p k in let same = ap (λ q. length q) e in omega (arith, less, same)
one-side a b above (s ∷ p) d (inr h) (inl f) = let less = below-length (a ∷ above) p h in let same = ap (λ q. length q) f in omega (arith, less, same)
one-side a b above (s ∷ p) d (inr h) (inr k) = one-side a b above p d h k

pub left-not-right : (a b : ℕ × Side) → a ≡ b → a.1 ≡ OnLeft → b.1 ≡ OnRight → ⊥
left-not-right a b e l r = let same = ap (λ (q : ℕ × Side). q.1) e in absurd (cc)

-- ---------- leaves ----------
pub may-be-given : (w : Way) (t : Task) (b : Branch) → leaf_at w t ≡ Some b → MayBeGiven t (next_name b.own.mark)
may-be-given Here (Leaf a) b e = subst (λ z. MayGive a.own.mark (next_name z.own.mark)) (some-inj e) (next a.own.mark.made (le_refl a.own.mark.made))
may-be-given Here (Fork a p l r) b e = none-some e
may-be-given (GoL w) (Leaf a) b e = none-some e
may-be-given (GoR w) (Leaf a) b e = none-some e
may-be-given (GoL w) (Fork a p l r) b e = inr (inl (may-be-given w l b e))
may-be-given (GoR w) (Fork a p l r) b e = inr (inr (may-be-given w r b e))

leaf-below : (w : Way) (t : Task) (b : Branch) → PathsFit t → leaf_at w t ≡ Some b → IsBelow (path_of t) b.own.mark.path
leaf-below Here (Leaf a) b fit e = subst (λ z. IsBelow a.own.mark.path z.own.mark.path) (some-inj e) (below-itself a.own.mark.path)
leaf-below Here (Fork a p l r) b fit e = none-some e
leaf-below (GoL w) (Leaf a) b fit e = none-some e
leaf-below (GoR w) (Leaf a) b fit e = none-some e
leaf-below (GoL w) (Fork a p l r) b fit e = below-parent (fit.0, OnLeft) a.own.mark.path b.own.mark.path (subst (λ q. IsBelow q b.own.mark.path) fit.2 (leaf-below w l b fit.4 e))
leaf-below (GoR w) (Fork a p l r) b fit e = below-parent (fit.0, OnRight) a.own.mark.path b.own.mark.path (subst (λ q. IsBelow q b.own.mark.path) fit.3 (leaf-below w r b fit.5 e))

-- the branches of two leaves have different paths
pub paths-differ : (p q : Way) (t : Task) (a b : Branch) → PathsFit t → AreApart p q → leaf_at p t ≡ Some a → leaf_at q t ≡ Some b → a.own.mark.path ≢ b.own.mark.path
paths-differ Here q t a b fit apart e f same = apart
paths-differ (GoL p) Here t a b fit apart e f same = apart
paths-differ (GoR p) Here t a b fit apart e f same = apart
paths-differ (GoL p) q (Leaf c) a b fit apart e f same = none-some e
paths-differ (GoR p) q (Leaf c) a b fit apart e f same = none-some e
paths-differ (GoL p) (GoL q) (Fork c x l r) a b fit apart e f same = paths-differ p q l a b fit.4 apart e f same
paths-differ (GoR p) (GoR q) (Fork c x l r) a b fit apart e f same = paths-differ p q r a b fit.5 apart e f same
paths-differ (GoL p) (GoR q) (Fork c x l r) a b fit apart e f same =
    one-side (fit.0, OnLeft) (fit.0, OnRight) c.own.mark.path b.own.mark.path (λ d. left-not-right (fit.0, OnLeft) (fit.0, OnRight) d refl refl)
    (subst (λ z. IsBelow ((fit.0, OnLeft) ∷ c.own.mark.path) z) same (subst (λ z. IsBelow z a.own.mark.path) fit.2 (leaf-below p l a fit.4 e))) (subst (λ z. IsBelow z b.own.mark.path) fit.3 (leaf-below q r b fit.5 f))
paths-differ (GoR p) (GoL q) (Fork c x l r) a b fit apart e f same =
    one-side (fit.0, OnRight) (fit.0, OnLeft) c.own.mark.path b.own.mark.path (λ d. left-not-right (fit.0, OnLeft) (fit.0, OnRight) (sym d) refl refl)
    (subst (λ z. IsBelow ((fit.0, OnRight) ∷ c.own.mark.path) z) same (subst (λ z. IsBelow z a.own.mark.path) fit.3 (leaf-below p r a fit.5 e))) (subst (λ z. IsBelow z b.own.mark.path) fit.2 (leaf-below q l b fit.4 f))
