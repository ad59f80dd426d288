-- Two leaves of a tree stand in zones and at nodes such that what the one may write, the other may not touch.
use Rattle.std.proofs.Common.{◌≡◌, ℕ, Option, Some, None, List, [], ◌∷◌, refl, sym, ap, subst, ◌∙◌, inl, inr}
use Rattle.std.specs.Prelude.{◌⊎◌, suc}
use Rattle.perm_tree.specs.Code.{UnitCode, Shares, Raises, Lends}
use Rattle.perm_rules.specs.declared.ParMode.{ParMode}
use Rattle.perm_rules.specs.declared.ParMode.TheVariants.{Symmetric, LeftAlone, RightAlone}
use Rattle.perm_meaning.specs.Names.{Side, OnLeft, OnRight}
use Rattle.perm_meaning.specs.Machine.{Frame, OpenBlock, OpenRecover, OpenCall, Leaf, Fork, Way, Here, GoL, GoR}
use Rattle.perm_meaning.specs.NamedHeap.{Held, Task}
use Rattle.perm_meaning.proofs.Leads.{some-inj, none-some}
use Rattle.perm_core.specs.Regions.{Zone, Base, Under, Region, Frozen, OwnOf, OfVariable, zones, top_zone, left_zone, right_zone}
use Rattle.perm_core.specs.Picture.{mode_in}
use Rattle.perm_core.proofs.Commute.TwoNodes.{AreApart}

-- ---------- zones ----------
-- the node at which a zone begins
abbrev pub base : Zone → Way
base (Base w k) = w
base (Under w z) = w

-- the first zone may read the own region of the second
abbrev pub Reads : Zone → Zone → Type 0
Reads (Base w k) y = ⊥
Reads (Under w z) y = (y ≡ z) ⊎ Reads z y

-- the node below one on this side
abbrev pub on_side : Side → Way → Way
on_side OnLeft w = GoL w
on_side OnRight w = GoR w

abbrev pub other_side : Side → Side
other_side OnLeft = OnRight
other_side OnRight = OnLeft

-- the zone in which this side of a par begins
abbrev pub side_zone : Side → ParMode → Way → Zone → Zone
side_zone OnLeft m w z = left_zone m w z
side_zone OnRight m w z = right_zone m w z

-- the nodes of a side, where the nodes of the whole are where `at` puts them
abbrev pub side_at : Side → (Way → Way) → Way → Way
side_at s at w = at (on_side s w)

-- the zone in which the code above a stack stands begins at the node of the branch, or is that in which the branch began
top-cases : (w : Way) (z : Zone) (st : List (Frame Held)) → (top_zone w z st ≡ z) ⊎ ((k : ℕ) × (top_zone w z st ≡ Base w k))
top-cases w z [] = inl refl
top-cases w z (OpenBlock own rest ∷ st) = top-cases w z st
top-cases w z (OpenRecover own hides saved rest ∷ st) = inr (suc (zones st), refl)
top-cases w z (OpenCall Shares into y saved lent caller rest ∷ st) = top-cases w z st
top-cases w z (OpenCall Raises into y saved lent caller rest ∷ st) = inr (suc (zones st), refl)
top-cases w z (OpenCall Lends into y saved lent caller rest ∷ st) = inr (suc (zones st), refl)

-- the zones of the two sides of a par, which begins in zone z
data SideZones (z : Zone) (here there : Way) : Zone → Zone → Type 0 where
  both_under : SideZones z here there (Under here z) (Under there z)
  first_alone : SideZones z here there (Base here 0) z
  second_alone : SideZones z here there z (Base there 0)

side-zones : (s : Side) (m : ParMode) (z : Zone) (here there : Way) → SideZones z here there (side_zone s m here z) (side_zone (other_side s) m there z)
side-zones OnLeft Symmetric z h t = both_under
side-zones OnLeft LeftAlone z h t = first_alone
side-zones OnLeft RightAlone z h t = second_alone
side-zones OnRight Symmetric z h t = both_under
side-zones OnRight LeftAlone z h t = second_alone
side-zones OnRight RightAlone z h t = first_alone

-- ---------- nodes ----------
-- different nodes are put at different places
abbrev pub IsInjective : (Way → Way) → Type 0
IsInjective at = (v w : Way) → at v ≡ at w → v ≡ w

pub side-injective : (s : Side) (at : Way → Way) → IsInjective at → IsInjective (side_at s at)
side-injective OnLeft at i v w e = let x = i (GoL v) (GoL w) e in cc
side-injective OnRight at i v w e = let x = i (GoR v) (GoR w) e in cc

pub sides-differ : (s : Side) (at : Way → Way) → IsInjective at → (v w : Way) → side_at s at v ≡ side_at (other_side s) at w → ⊥
sides-differ OnLeft at i v w e = let x = i (GoL v) (GoR w) e in absurd (cc)
sides-differ OnRight at i v w e = let x = i (GoR v) (GoL w) e in absurd (cc)

pub above-differs : (s : Side) (at : Way → Way) → IsInjective at → (w : Way) → at Here ≡ side_at s at w → ⊥
above-differs OnLeft at i w e = let x = i Here (GoL w) e in absurd (cc)
above-differs OnRight at i w e = let x = i Here (GoR w) e in absurd (cc)

-- neither a zone nor one that it may read begins at one of these nodes
pub record IsOutside (at : Way → Way) (z : Zone) : Type 0 where
  pub own : (w : Way) → base z ≡ at w → ⊥
  pub read : (y : Zone) → Reads z y → (w : Way) → base y ≡ at w → ⊥

-- nor at a node of a side
abbrev pub IsAbove : (Way → Way) → Zone → Type 0
IsAbove at z = (s : Side) → IsOutside (side_at s at) z

pub above-top : (at : Way → Way) (z : Zone) (st : List (Frame Held)) → IsInjective at → IsAbove at z → IsAbove at (top_zone (at Here) z st)
above-top at z st i above = go (top-cases (at Here) z st)
  where
    go : (top_zone (at Here) z st ≡ z) ⊎ ((k : ℕ) × (top_zone (at Here) z st ≡ Base (at Here) k)) → IsAbove at (top_zone (at Here) z st)
    go (inl e) = subst (λ y. IsAbove at y) (sym e) above
    go (inr e) = subst (λ y. IsAbove at y) (sym e.1) (λ s. record { own = above-differs s at i; read = λ y r. absurd r })

pub above-side : (s : Side) (m : ParMode) (at : Way → Way) (z : Zone) → IsInjective at → IsAbove at z → IsAbove (side_at s at) (side_zone s m (side_at s at Here) z)
above-side s m at z i above t = go (side-zones s m z (side_at s at Here) (side_at (other_side s) at Here))
  where
    go : {x y : Zone} → SideZones z (side_at s at Here) (side_at (other_side s) at Here) x y → IsOutside (side_at t (side_at s at)) x
    go both_under = record { own = above-differs t (side_at s at) (side-injective s at i); read = λ y r w. under y r w }
      where
        under : (y : Zone) → (y ≡ z) ⊎ Reads z y → (w : Way) → base y ≡ side_at t (side_at s at) w → ⊥
        under y (inl e) w q = (above s).own (on_side t w) (sym (ap (λ z. base z) e) ∙ q)
        under y (inr r) w q = (above s).read y r (on_side t w) q
    go first_alone = record { own = above-differs t (side_at s at) (side-injective s at i); read = λ y r. absurd r }
    go second_alone = record { own = λ w. (above s).own (on_side t w); read = λ y r w. (above s).read y r (on_side t w) }

-- ---------- regions ----------
-- a variable of a node that `at` names, or a zone that begins there
data IsPlaced (at : Way → Way) (r : Region) : Type 0 where
  variable : (w : Way) (k x : ℕ) → r ≡ OfVariable (at w) k x → IsPlaced at r
  zone : (y : Zone) (w : Way) → r ≡ OwnOf y → base y ≡ at w → IsPlaced at r

-- what the leaves of a tree that begins in a zone may write
abbrev IsWritten : (Way → Way) → Zone → Region → Type 0
IsWritten at z r = IsPlaced at r ⊎ (r ≡ OwnOf z)

-- what they may touch
data IsTouched (at : Way → Way) (z : Zone) (r : Region) : Type 0 where
  written : IsWritten at z r → IsTouched at z r
  frozen : r ≡ Frozen → IsTouched at z r
  across : (y : Zone) → r ≡ OwnOf y → Reads z y → IsTouched at z r

placed-side : (s : Side) (at : Way → Way) (r : Region) → IsPlaced (side_at s at) r → IsPlaced at r
placed-side s at r (variable w k x e) = variable (on_side s w) k x e
placed-side s at r (zone y w e b) = zone y (on_side s w) e b

-- ---------- from a zone to that in which the whole begins ----------
written-top : (at : Way → Way) (z : Zone) (st : List (Frame Held)) (r : Region) → IsWritten at (top_zone (at Here) z st) r → IsWritten at z r
written-top at z st r (inl p) = inl p
written-top at z st r (inr e) = go (top-cases (at Here) z st)
  where
    go : (top_zone (at Here) z st ≡ z) ⊎ ((k : ℕ) × (top_zone (at Here) z st ≡ Base (at Here) k)) → IsWritten at z r
    go (inl q) = inr (e ∙ ap (λ y. OwnOf y) q)
    go (inr q) = inl (zone (top_zone (at Here) z st) Here e (ap (λ y. base y) q.1))

touched-top : (at : Way → Way) (z : Zone) (st : List (Frame Held)) (r : Region) → IsTouched at (top_zone (at Here) z st) r → IsTouched at z r
touched-top at z st r (written h) = written (written-top at z st r h)
touched-top at z st r (frozen e) = frozen e
touched-top at z st r (across y e reads) = go (top-cases (at Here) z st)
  where
    go : (top_zone (at Here) z st ≡ z) ⊎ ((k : ℕ) × (top_zone (at Here) z st ≡ Base (at Here) k)) → IsTouched at z r
    go (inl q) = across y e (subst (λ x. Reads x y) q reads)
    go (inr q) = absurd (subst (λ x. Reads x y) q.1 reads)

written-side : (s : Side) (m : ParMode) (at : Way → Way) (z : Zone) (r : Region) → IsWritten (side_at s at) (side_zone s m (side_at s at Here) z) r → IsWritten at z r
written-side s m at z r (inl p) = inl (placed-side s at r p)
written-side s m at z r (inr e) = go (side-zones s m z (side_at s at Here) (side_at (other_side s) at Here)) e
  where
    go : {x y : Zone} → SideZones z (side_at s at Here) (side_at (other_side s) at Here) x y → r ≡ OwnOf x → IsWritten at z r
    go both_under e = inl (zone (Under (side_at s at Here) z) (on_side s Here) e refl)
    go first_alone e = inl (zone (Base (side_at s at Here) 0) (on_side s Here) e refl)
    go second_alone e = inr e

touched-side : (s : Side) (m : ParMode) (at : Way → Way) (z : Zone) (r : Region) → IsTouched (side_at s at) (side_zone s m (side_at s at Here) z) r → IsTouched at z r
touched-side s m at z r (written h) = written (written-side s m at z r h)
touched-side s m at z r (frozen e) = frozen e
touched-side s m at z r (across y e reads) = go (side-zones s m z (side_at s at Here) (side_at (other_side s) at Here)) reads
  where
    go : {x x' : Zone} → SideZones z (side_at s at Here) (side_at (other_side s) at Here) x x' → Reads x y → IsTouched at z r
    go both_under (inl q) = written (inr (e ∙ ap (λ x. OwnOf x) q))
    go both_under (inr reads) = across y e reads
    go first_alone reads = absurd reads
    go second_alone reads = across y e reads

-- ---------- two sides ----------
own-inj : {y z : Zone} → OwnOf y ≡ OwnOf z → y ≡ z
own-inj e = cc

variable-inj : {v w : Way} {j k x y : ℕ} → OfVariable v j x ≡ OfVariable w k y → v ≡ w
variable-inj e = cc

variable-own : {w : Way} {k x : ℕ} {z : Zone} → OfVariable w k x ≡ OwnOf z → ⊥
variable-own e = absurd (cc)

frozen-variable : {w : Way} {k x : ℕ} → Frozen ≡ OfVariable w k x → ⊥
frozen-variable e = absurd (cc)

frozen-own : {z : Zone} → Frozen ≡ OwnOf z → ⊥
frozen-own e = absurd (cc)

-- the writer's nodes are those of `at`, in zone w; the other's those of `to`, in zone z
pub record AreSplit (at to : Way → Way) (w z : Zone) : Type 0 where
  nodes : (u v : Way) → at u ≡ to v → ⊥
  zones : w ≡ z → ⊥
  unread : Reads z w → ⊥
  writer : (u : Way) → base w ≡ to u → ⊥
  pub other : IsOutside at z

pub split-sides : (s : Side) (m : ParMode) (at : Way → Way) (z : Zone) → IsInjective at → IsAbove at z
    → AreSplit (side_at s at) (side_at (other_side s) at) (side_zone s m (side_at s at Here) z) (side_zone (other_side s) m (side_at (other_side s) at Here) z)
split-sides s m at z i above = go (side-zones s m z (side_at s at Here) (side_at (other_side s) at Here))
  where
    here : Way
    here = side_at s at Here

    there : Way
    there = side_at (other_side s) at Here

    differ : (u v : Way) → side_at s at u ≡ side_at (other_side s) at v → ⊥
    differ u v e = sides-differ s at i u v e

    outside : IsOutside (side_at s at) z
    outside = above s

    away : IsOutside (side_at (other_side s) at) z
    away = above (other_side s)

    under : (y : Zone) → (y ≡ z) ⊎ Reads z y → (u : Way) → base y ≡ side_at s at u → ⊥
    under y (inl e) u q = outside.own u (sym (ap (λ x. base x) e) ∙ q)
    under y (inr r) u q = outside.read y r u q

    go : {x y : Zone} → SideZones z here there x y → AreSplit (side_at s at) (side_at (other_side s) at) x y
    go both_under =
        record {
          nodes = differ;
          zones = λ e. differ Here Here (ap (λ x. base x) e);
          unread = λ r. under (Under here z) r Here refl;
          writer = λ u e. differ Here u e;
          other = record { own = λ u e. differ u Here (sym e); read = λ y r u. under y r u };
        }
    go first_alone =
        record {
          nodes = differ;
          zones = λ e. outside.own Here (sym (ap (λ x. base x) e));
          unread = λ r. outside.read (Base here 0) r Here refl;
          writer = λ u e. differ Here u e;
          other = outside;
        }
    go second_alone =
        record {
          nodes = differ;
          zones = λ e. away.own Here (ap (λ x. base x) e);
          unread = λ r. r;
          writer = away.own;
          other = record { own = λ u e. differ u Here (sym e); read = λ y r. absurd r };
        }

-- what is written on the one side isn't touched on the other
never-meet : (at to : Way → Way) (w z : Zone) (r : Region) → AreSplit at to w z → IsWritten at w r → IsTouched to z r → ⊥
never-meet at to w z r s (inl (variable u k x e)) (written (inl (variable v j y f))) = s.nodes u v (variable-inj (sym e ∙ f))
never-meet at to w z r s (inl (variable u k x e)) (written (inl (zone y v f b))) = variable-own (sym e ∙ f)
never-meet at to w z r s (inl (variable u k x e)) (written (inr f)) = variable-own (sym e ∙ f)
never-meet at to w z r s (inl (variable u k x e)) (frozen f) = frozen-variable (sym f ∙ e)
never-meet at to w z r s (inl (variable u k x e)) (across y f reads) = variable-own (sym e ∙ f)
never-meet at to w z r s (inl (zone x u e b)) (written (inl (variable v j y f))) = variable-own (sym f ∙ e)
never-meet at to w z r s (inl (zone x u e b)) (written (inl (zone y v f c))) = s.nodes u v (sym b ∙ ap (λ q. base q) (own-inj (sym e ∙ f)) ∙ c)
never-meet at to w z r s (inl (zone x u e b)) (written (inr f)) = s.other.own u (ap (λ q. base q) (own-inj (sym f ∙ e)) ∙ b)
never-meet at to w z r s (inl (zone x u e b)) (frozen f) = frozen-own (sym f ∙ e)
never-meet at to w z r s (inl (zone x u e b)) (across y f reads) = s.other.read y reads u (ap (λ q. base q) (own-inj (sym f ∙ e)) ∙ b)
never-meet at to w z r s (inr e) (written (inl (variable v j y f))) = variable-own (sym f ∙ e)
never-meet at to w z r s (inr e) (written (inl (zone y v f c))) = s.writer v (ap (λ q. base q) (own-inj (sym e ∙ f)) ∙ c)
never-meet at to w z r s (inr e) (written (inr f)) = s.zones (own-inj (sym e ∙ f))
never-meet at to w z r s (inr e) (frozen f) = frozen-own (sym f ∙ e)
never-meet at to w z r s (inr e) (across y f reads) = s.unread (subst (λ q. Reads z q) (own-inj (sym f ∙ e)) reads)

-- ---------- leaves ----------
-- what the code of a leaf that stands in a zone may write
abbrev pub MayWrite : Way → Zone → Region → Type 0
MayWrite w z r = (r ≡ OwnOf z) ⊎ ((k : ℕ) × (x : ℕ) × (r ≡ OfVariable w k x))

-- what it may touch
pub data MayTouch (w : Way) (z : Zone) (r : Region) : Type 0 where
  write : MayWrite w z r → MayTouch w z r
  frozen : r ≡ Frozen → MayTouch w z r
  across : (y : Zone) → r ≡ OwnOf y → Reads z y → MayTouch w z r

module _ (u : UnitCode) where
  -- the zone in which the code of a leaf stands
  abbrev pub zone_at : (Way → Way) → Zone → Way → Task → Option Zone
  zone_at at z Here (Leaf b) = Some (top_zone (at Here) z b.stack)
  zone_at at z (GoL w) (Fork b p l r) = zone_at (λ w. at (GoL w)) (left_zone (mode_in u b.own.routine p) (at (GoL Here)) (top_zone (at Here) z b.stack)) w l
  zone_at at z (GoR w) (Fork b p l r) = zone_at (λ w. at (GoR w)) (right_zone (mode_in u b.own.routine p) (at (GoR Here)) (top_zone (at Here) z b.stack)) w r
  zone_at at z _ _ = None

  written-at : (w : Way) (t : Task) (at : Way → Way) (z y : Zone) (r : Region) → zone_at at z w t ≡ Some y → MayWrite (at w) y r → IsWritten at z r
  written-at w t at z y r e (inr h) = inl (variable w h.0 h.1 h.2)
  written-at Here (Leaf b) at z y r e (inl h) = written-top at z b.stack r (inr (h ∙ ap (λ q. OwnOf q) (sym (some-inj e))))
  written-at Here (Fork b p l k) at z y r e (inl h) = none-some e
  written-at (GoL w) (Leaf b) at z y r e (inl h) = none-some e
  written-at (GoR w) (Leaf b) at z y r e (inl h) = none-some e
  written-at (GoL w) (Fork b p l k) at z y r e (inl h) =
      let top = top_zone (at Here) z b.stack in
      let m = mode_in u b.own.routine p in
      written-top at z b.stack r (written-side OnLeft m at top r (written-at w l (side_at OnLeft at) (left_zone m (at (GoL Here)) top) y r e (inl h)))
  written-at (GoR w) (Fork b p l k) at z y r e (inl h) =
      let top = top_zone (at Here) z b.stack in
      let m = mode_in u b.own.routine p in
      written-top at z b.stack r (written-side OnRight m at top r (written-at w k (side_at OnRight at) (right_zone m (at (GoR Here)) top) y r e (inl h)))

  touched-at : (w : Way) (t : Task) (at : Way → Way) (z y : Zone) (r : Region) → zone_at at z w t ≡ Some y → MayTouch (at w) y r → IsTouched at z r
  touched-at w t at z y r e (write h) = written (written-at w t at z y r e h)
  touched-at w t at z y r e (frozen h) = frozen h
  touched-at Here (Leaf b) at z y r e (across x h reads) = touched-top at z b.stack r (across x h (subst (λ q. Reads q x) (sym (some-inj e)) reads))
  touched-at Here (Fork b p l k) at z y r e (across x h reads) = none-some e
  touched-at (GoL w) (Leaf b) at z y r e (across x h reads) = none-some e
  touched-at (GoR w) (Leaf b) at z y r e (across x h reads) = none-some e
  touched-at (GoL w) (Fork b p l k) at z y r e (across x h reads) =
      let top = top_zone (at Here) z b.stack in
      let m = mode_in u b.own.routine p in
      touched-top at z b.stack r (touched-side OnLeft m at top r (touched-at w l (side_at OnLeft at) (left_zone m (at (GoL Here)) top) y r e (across x h reads)))
  touched-at (GoR w) (Fork b p l k) at z y r e (across x h reads) =
      let top = top_zone (at Here) z b.stack in
      let m = mode_in u b.own.routine p in
      touched-top at z b.stack r (touched-side OnRight m at top r (touched-at w k (side_at OnRight at) (right_zone m (at (GoR Here)) top) y r e (across x h reads)))

  leaves-apart : (p q : Way) (t : Task) (at : Way → Way) (z y y' : Zone) (r : Region) → IsInjective at → IsAbove at z → AreApart p q → zone_at at z p t ≡ Some y → zone_at at z q t ≡ Some y'
      → MayWrite (at p) y r → MayTouch (at q) y' r → ⊥
  leaves-apart Here q t at z y y' r i above apart e f writes touches = apart
  leaves-apart (GoL p) Here t at z y y' r i above apart e f writes touches = apart
  leaves-apart (GoR p) Here t at z y y' r i above apart e f writes touches = apart
  leaves-apart (GoL p) q (Leaf b) at z y y' r i above apart e f writes touches = none-some e
  leaves-apart (GoR p) q (Leaf b) at z y y' r i above apart e f writes touches = none-some e
  leaves-apart (GoL p) (GoL q) (Fork b x l k) at z y y' r i above apart e f writes touches =
      let top = top_zone (at Here) z b.stack in
      let m = mode_in u b.own.routine x in
      leaves-apart p q l (side_at OnLeft at) (left_zone m (at (GoL Here)) top) y y' r (side-injective OnLeft at i) (above-side OnLeft m at top i (above-top at z b.stack i above)) apart e f writes touches
  leaves-apart (GoR p) (GoR q) (Fork b x l k) at z y y' r i above apart e f writes touches =
      let top = top_zone (at Here) z b.stack in
      let m = mode_in u b.own.routine x in
      leaves-apart p q k (side_at OnRight at) (right_zone m (at (GoR Here)) top) y y' r (side-injective OnRight at i) (above-side OnRight m at top i (above-top at z b.stack i above)) apart e f writes touches
  leaves-apart (GoL p) (GoR q) (Fork b x l k) at z y y' r i above apart e f writes touches =
      let top = top_zone (at Here) z b.stack in
      let m = mode_in u b.own.routine x in
      never-meet (side_at OnLeft at) (side_at OnRight at) (left_zone m (at (GoL Here)) top) (right_zone m (at (GoR Here)) top) r (split-sides OnLeft m at top i (above-top at z b.stack i above))
      (written-at p l (side_at OnLeft at) (left_zone m (at (GoL Here)) top) y r e writes) (touched-at q k (side_at OnRight at) (right_zone m (at (GoR Here)) top) y' r f touches)
  leaves-apart (GoR p) (GoL q) (Fork b x l k) at z y y' r i above apart e f writes touches =
      let top = top_zone (at Here) z b.stack in
      let m = mode_in u b.own.routine x in
      never-meet (side_at OnRight at) (side_at OnLeft at) (right_zone m (at (GoR Here)) top) (left_zone m (at (GoL Here)) top) r (split-sides OnRight m at top i (above-top at z b.stack i above))
      (written-at p k (side_at OnRight at) (right_zone m (at (GoR Here)) top) y r e writes) (touched-at q l (side_at OnLeft at) (left_zone m (at (GoL Here)) top) y' r f touches)

  -- of the whole tree, which begins in the first zone
  pub regions-apart : (p q : Way) (t : Task) (y y' : Zone) (r : Region) → AreApart p q → zone_at (λ w. w) (Base Here 0) p t ≡ Some y → zone_at (λ w. w) (Base Here 0) q t ≡ Some y' → MayWrite p y r → MayTouch q y' r → ⊥
  regions-apart p q t y y' r = leaves-apart p q t (λ w. w) (Base Here 0) y y' r (λ v w e. e) above
    where
      above : IsAbove (λ w. w) (Base Here 0)
      above OnLeft = record { own = λ w e. absurd (cc); read = λ y r. absurd r }
      above OnRight = record { own = λ w e. absurd (cc); read = λ y r. absurd r }
