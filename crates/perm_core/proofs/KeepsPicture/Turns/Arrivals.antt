-- Where a value leads that comes from one variable into another, into a field, or out of a field.
use Rattle.std.proofs.Common.{◌≡◌, Bool, true, false, Some, refl, sym, ap, subst, ◌∙◌, inl, inr}
use Rattle.std.specs.Prelude.{◌⊎◌, ◌&&◌, ◌||◌, cond}
use Rattle.std.proofs.lemmas.Bool.{or_cases, or_left, or_right, and_parts}
use Rattle.perm_tree.specs.declared.ast.Perm.{Perm}
use Rattle.perm_tree.specs.declared.ast.Perm.TheVariants.{Isolated, Immutable, Readable, Writable}
use Rattle.perm_perm.specs.Adaptation.{adapted}
use Rattle.perm_perm.specs.Order.{is_at_most}
use Rattle.perm_meaning.proofs.Leads.{some-inj, none-some}
use Rattle.perm_core.specs.Regions.{Zone, Base, Under, Region, Frozen, OwnOf, same_zone, same_region, is_frozen, may_read, is_visible, var_may_lead, field_may_lead}
use Rattle.perm_core.specs.NextPicture.{goal}
use Rattle.perm_core.proofs.Commute.LeadsTo.{zone-true, frozen-true}
use Rattle.perm_core.proofs.KeepsPicture.Labels.Relabellings.{Sees, frozen, within, across, sees, visible, own-inj, is-same, region-true}
use Rattle.perm_core.proofs.KeepsPicture.Calls.CallEnds.{goal-leads, weaker}

-- the label after an isolated value of this region went to another one; a value that isn't isolated moves nothing
abbrev pub went : Perm → Region → Region → Region → Region
went Isolated from to r = cond (same_region r from) to r
went _ from to r = r

-- it leads where it comes to: in the same zone, or in any if it isn't tied
pub arrives : (p q : Perm) (from entry : Region) (z y : Zone) (r : Region) → is_at_most p q ≡ true → (p ≡ Readable → z ≡ y) → (p ≡ Writable → z ≡ y)
    → var_may_lead p from z r ≡ true → var_may_lead q entry y (went p from (goal q entry (OwnOf y)) r) ≡ true
arrives Isolated q from entry z y r o d e k = subst (λ t. var_may_lead q entry y (cond t (goal q entry (OwnOf y)) r) ≡ true) (sym k) (goal-leads q entry y)
arrives Immutable q from entry z y r o d e k = weaker Immutable q entry y r o k
arrives Readable q from entry z y r o d e k = weaker Readable q entry y r o (subst (λ x. is_visible (OwnOf x) r ≡ true) (d refl) k)
arrives Writable q from entry z y r o d e k = weaker Writable q entry y r o (subst (λ x. same_region r (OwnOf x) ≡ true) (e refl) k)

-- in a field of an object of the own region of a zone that leads as well which leads from a variable in the zone
pub into-own : (q : Perm) (entry home r : Region) (y : Zone) → home ≡ OwnOf y → var_may_lead q entry y r ≡ true → field_may_lead q entry home r ≡ true
into-own Isolated entry home r y h k = or_left (same_region r entry) (is_frozen home && is_frozen r) k
into-own Immutable entry home r y h k = k
into-own Readable entry home r y h k = subst (λ o. is_visible o r ≡ true) (sym h) k
into-own Writable entry home r y h k = subst (λ o. same_region r o ≡ true) (sym h) k

-- and in any object which isn't tied
pub into-any : (q : Perm) (entry home r : Region) (y : Zone) → (q ≡ Readable → ⊥) → (q ≡ Writable → ⊥) → var_may_lead q entry y r ≡ true → field_may_lead q entry home r ≡ true
into-any Isolated entry home r y d e k = or_left (same_region r entry) (is_frozen home && is_frozen r) k
into-any Immutable entry home r y d e k = k
into-any Readable entry home r y d e k = absurd (d refl)
into-any Writable entry home r y d e k = absurd (e refl)

-- ---------- what is read ----------
reads-on : (z y x : Zone) → may_read z y ≡ true → may_read y x ≡ true → may_read z x ≡ true
reads-on (Base w k) y x a b = absurd (let f : false ≡ true = a in cc)
reads-on (Under w z) y x a b = go (λ q. reads-on z y x q b) (or_cases (same_zone y z) (may_read z y) a)
  where
    go : (may_read z y ≡ true → may_read z x ≡ true) → (same_zone y z ≡ true) ⊎ (may_read z y ≡ true) → (same_zone x z || may_read z x) ≡ true
    go rec (inl q) = or_right (same_zone x z) (may_read z x) (ap (λ z. may_read z x) (sym (zone-true y z q)) ∙ b)
    go rec (inr q) = or_right (same_zone x z) (may_read z x) (rec q)

sees-on : (a b c : Region) → Sees a b → Sees b c → Sees a c
sees-on a b c s (frozen e) = frozen e
sees-on a b c s (within e) = subst (λ q. Sees a q) (sym e) s
sees-on a b c (frozen e) (across y x f g k) = absurd (let q : Frozen ≡ OwnOf y = sym e ∙ f in cc)
sees-on a b c (within e) (across y x f g k) = across y x (sym e ∙ f) g k
sees-on a b c (across v u f' g' k') (across y x f g k) = across v x f' g (reads-on v u x k' (ap (λ q. may_read q x) (own-inj (sym g' ∙ f)) ∙ k))

from-frozen : (r : Region) → Sees Frozen r → r ≡ Frozen
from-frozen r (frozen e) = e
from-frozen r (within e) = e
from-frozen r (across y x f g k) = absurd (cc)

-- an isolated field that is read through an immutable variable is frozen then
abbrev pub thawed : Perm → Perm → Region → Region → Region
thawed Immutable Isolated entry r = cond (same_region r entry) Frozen r
thawed _ _ entry r = r

-- what is read from a field f of an object in the region home through a variable p leads where it is seen to; through an isolated one nothing tied is read
pub loaded : (p f s q : Perm) (e entry home to r : Region) (z : Zone) → adapted p f ≡ Some s → is_at_most s q ≡ true → (p ≡ Isolated → f ≡ Readable → ⊥) → (p ≡ Isolated → f ≡ Writable → ⊥)
    → var_may_lead p e z home ≡ true → field_may_lead f entry home r ≡ true → var_may_lead q to z (thawed p f entry r) ≡ true
loaded Isolated Isolated s q e entry home to r z a o d t k l = none-some a
loaded Isolated Immutable s q e entry home to r z a o d t k l = weaker Immutable q to z r (ap (λ s. is_at_most s q) (some-inj a) ∙ o) l
loaded Isolated Readable s q e entry home to r z a o d t k l = absurd (d refl refl)
loaded Isolated Writable s q e entry home to r z a o d t k l = absurd (t refl refl)
loaded Immutable Isolated s q e entry home to r z a o d t k l =
    weaker Immutable q to z (cond (same_region r entry) Frozen r) (ap (λ s. is_at_most s q) (some-inj a) ∙ o) (ice (same_region r entry) (or_cases (same_region r entry) (is_frozen home && is_frozen r) l))
  where
    ice : (b : Bool) → (b ≡ true) ⊎ ((is_frozen home && is_frozen r) ≡ true) → is_frozen (cond b Frozen r) ≡ true
    ice true g = refl
    ice false (inl g) = absurd (cc)
    ice false (inr g) = (and_parts (is_frozen home) (is_frozen r) g).1
loaded Immutable Immutable s q e entry home to r z a o d t k l = weaker Immutable q to z r (ap (λ s. is_at_most s q) (some-inj a) ∙ o) l
loaded Immutable Readable s q e entry home to r z a o d t k l =
    weaker Immutable q to z r (ap (λ s. is_at_most s q) (some-inj a) ∙ o) (ap (λ x. is_frozen x) (from-frozen r (subst (λ x. Sees x r) (frozen-true home k) (sees home r l))))
loaded Immutable Writable s q e entry home to r z a o d t k l = weaker Immutable q to z r (ap (λ s. is_at_most s q) (some-inj a) ∙ o) (ap (λ x. is_frozen x) (region-true r home l) ∙ k)
loaded Readable Isolated s q e entry home to r z a o d t k l = none-some a
loaded Readable Immutable s q e entry home to r z a o d t k l = weaker Immutable q to z r (ap (λ s. is_at_most s q) (some-inj a) ∙ o) l
loaded Readable Readable s q e entry home to r z a o d t k l =
    weaker Readable q to z r (ap (λ s. is_at_most s q) (some-inj a) ∙ o) (visible (OwnOf z) r (sees-on (OwnOf z) home r (sees (OwnOf z) home k) (sees home r l)))
loaded Readable Writable s q e entry home to r z a o d t k l = weaker Readable q to z r (ap (λ s. is_at_most s q) (some-inj a) ∙ o) (ap (λ x. is_visible (OwnOf z) x) (region-true r home l) ∙ k)
loaded Writable Isolated s q e entry home to r z a o d t k l = none-some a
loaded Writable Immutable s q e entry home to r z a o d t k l = weaker Immutable q to z r (ap (λ s. is_at_most s q) (some-inj a) ∙ o) l
loaded Writable Readable s q e entry home to r z a o d t k l = weaker Readable q to z r (ap (λ s. is_at_most s q) (some-inj a) ∙ o) (subst (λ x. is_visible x r ≡ true) (region-true home (OwnOf z) k) l)
loaded Writable Writable s q e entry home to r z a o d t k l = weaker Writable q to z r (ap (λ s. is_at_most s q) (some-inj a) ∙ o) (is-same (region-true r home l ∙ region-true home (OwnOf z) k))
