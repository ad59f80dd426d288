-- Paths of steps, one after the other.
use Rattle.std.proofs.Common.{◌≡◌, ℕ, suc, ◌+◌, ◌<◌, List, [], ◌∷◌, ◌++◌, length, refl, sym, subst, arith, length-append}
use Rattle.perm_tree.specs.declared.bodies.Bodies.{Bodies}
use Rattle.perm_tree.specs.declared.bodies.Step.{Step}
use Rattle.perm_tree.specs.Code.{UnitCode}
use Rattle.perm_tree.specs.Links.{Spot, IsLinked, IsSimple, StandsAt}
use Rattle.perm_table.specs.Emission.{AreAt, IsLinkedAt, AreLinkedAt, IsPath}
use Rattle.perm_table.specs.Growth.{Extends}
use Rattle.perm_table.proofs.Growth.{Extends-trans}

-- ---------- spots and steps in a row ----------
-- the first of some spots in a row
pub at-front : (spot : ℕ → Spot) (all : List Step) (at : ℕ) (xs ys : List Spot) → AreAt spot all at (xs ++ ys) → AreAt spot all at xs
at-front spot all at [] ys are = tt
at-front spot all at (x ∷ xs) ys are = (are.0, at-front spot all (suc at) xs ys are.1)

-- and the others
pub at-back : (spot : ℕ → Spot) (all : List Step) (at behind : ℕ) (xs ys : List Spot) → behind ≡ at + length xs → AreAt spot all at (xs ++ ys) → AreAt spot all behind ys
at-back spot all at behind [] ys is are = let same : at ≡ behind = omega arith in subst (λ n. AreAt spot all n ys) same are
at-back spot all at behind (x ∷ xs) ys is are = at-back spot all (suc at) behind xs ys (omega arith) are.1

-- linked steps, and others behind them
pub linked-both : (spot : ℕ → Spot) (b : Bodies) (u : UnitCode) (at behind : ℕ) (steps last : List Step) → behind ≡ at + length steps
    → AreLinkedAt spot b u at steps → AreLinkedAt spot b u behind last → AreLinkedAt spot b u at (steps ++ last)
linked-both spot b u at behind [] last is first later = let same : behind ≡ at = omega arith in subst (λ n. AreLinkedAt spot b u n last) same later
linked-both spot b u at behind (s ∷ steps) last is first later = (first.0, linked-both spot b u (suc at) behind steps last (omega arith) first.1 later)

-- ---------- paths ----------
-- a path of no steps
pub path-none : (u : UnitCode) (b : Bodies) (at : ℕ) (given : (ℕ → Spot) → List Step → Type 0) → IsPath u b at [] given given
path-none u b at given = record { spots = []; count = refl; linked = λ spot later more are h. (tt, h) }

-- two paths, of which the second is given what the first gains
pub path-then : (u : UnitCode) (mid new : Bodies) (at behind : ℕ) (steps last : List Step) (given gained more : (ℕ → Spot) → List Step → Type 0)
    → behind ≡ at + length steps → Extends mid new
    → IsPath u mid at steps given gained → IsPath u new behind last (λ spot all. given spot all × gained spot all) more → IsPath u new at (steps ++ last) given (λ spot all. gained spot all × more spot all)
path-then u mid new at behind steps last given gained more is grown one two = record {
  spots = one.spots ++ two.spots;
  count = omega (arith, length-append one.spots two.spots, length-append steps last, one.count, two.count);
  linked = λ spot later grows are h.
      let a = one.linked spot later (Extends-trans mid new later grown grows) (at-front spot later.steps at one.spots two.spots are) h in
      let b = two.linked spot later grows (at-back spot later.steps at behind one.spots two.spots (omega (arith, is, one.count)) are) (h, a.1) in
      (linked-both spot later u at behind steps last is a.0 b.0, (a.1, b.1));
}

-- a path from more that is given to less that is gained
pub path-as : (u : UnitCode) (b : Bodies) (at : ℕ) (steps : List Step) (given gained given2 gained2 : (ℕ → Spot) → List Step → Type 0)
    → ((spot : ℕ → Spot) (all : List Step) → given2 spot all → given spot all) → ((spot : ℕ → Spot) (all : List Step) → gained spot all → gained2 spot all) → IsPath u b at steps given gained → IsPath u b at steps given2 gained2
path-as u b at steps given gained given2 gained2 from to path = record {
  spots = path.spots;
  count = path.count;
  linked = λ spot later grows are h. let a = path.linked spot later grows are (from spot later.steps h) in (a.0, to spot later.steps a.1);
}

-- one step
pub path-one : (u : UnitCode) (b : Bodies) (at : ℕ) (s : Step) (here : Spot) (given : (ℕ → Spot) → List Step → Type 0)
    → ((spot : ℕ → Spot) (later : Bodies) → Extends b later → given spot later.steps → IsLinked (λ q there. StandsAt spot later.steps q there) later u here s) → (IsSimple s.action → s.next < at)
    → IsPath u b at (s ∷ []) given (λ spot all. StandsAt spot all at here)
path-one u b at s here given link falls = record {
  spots = here ∷ [];
  count = refl;
  linked = λ spot later grows are h. ((linked_here spot later grows are.0 h, tt), are.0);
}
  where
    linked_here : (spot : ℕ → Spot) (later : Bodies) → Extends b later → StandsAt spot later.steps at here → given spot later.steps → IsLinkedAt spot later u at s
    linked_here spot later grows is h = record {
      linked = subst (λ (x : Spot). IsLinked (λ q there. StandsAt spot later.steps q there) later u x s) (sym is.1) (link spot later grows h);
      falls = falls;
    }

-- two paths that are given the same
pub path-beside : (u : UnitCode) (mid new : Bodies) (at behind : ℕ) (steps last : List Step) (given gained more : (ℕ → Spot) → List Step → Type 0)
    → behind ≡ at + length steps → Extends mid new
    → IsPath u mid at steps given gained → IsPath u new behind last given more → IsPath u new at (steps ++ last) given (λ spot all. gained spot all × more spot all)
path-beside u mid new at behind steps last given gained more is grown one two =
    path-then u mid new at behind steps last given gained more is grown one (path-as u new behind last given more (λ spot all. given spot all × gained spot all) more (λ spot all h. h.0) (λ spot all h. h) two)

-- a path to which the second is linked, and which is gained no longer
pub path-on : (u : UnitCode) (mid new : Bodies) (at behind : ℕ) (steps last : List Step) (given gained more : (ℕ → Spot) → List Step → Type 0)
    → behind ≡ at + length steps → Extends mid new
    → IsPath u mid at steps given gained → IsPath u new behind last gained more → IsPath u new at (steps ++ last) given more
path-on u mid new at behind steps last given gained more is grown one two =
    path-as u new at (steps ++ last) given (λ spot all. gained spot all × more spot all) given more (λ spot all h. h) (λ spot all h. h.1)
    (path-then u mid new at behind steps last given gained more is grown one (path-as u new behind last gained more (λ spot all. given spot all × gained spot all) more (λ spot all h. h.1) (λ spot all h. h) two))

-- one more step behind a path
pub path-last : (u : UnitCode) (mid new : Bodies) (at behind : ℕ) (steps : List Step) (s : Step) (here : Spot) (given gained : (ℕ → Spot) → List Step → Type 0)
    → behind ≡ at + length steps → Extends mid new → IsPath u mid at steps given gained
    → ((spot : ℕ → Spot) (later : Bodies) → Extends new later → given spot later.steps × gained spot later.steps → IsLinked (λ q there. StandsAt spot later.steps q there) later u here s) → (IsSimple s.action → s.next < behind)
    → IsPath u new at (steps ++ s ∷ []) given (λ spot all. StandsAt spot all behind here)
path-last u mid new at behind steps s here given gained is grown path link falls =
    let last = λ (spot : ℕ → Spot) (all : List Step). StandsAt spot all behind here in
    path-as u new at (steps ++ s ∷ []) given (λ spot all. gained spot all × last spot all) given last (λ spot all h. h) (λ spot all h. h.1)
    (path-then u mid new at behind steps (s ∷ []) given gained last is grown path (path-one u new behind s here (λ spot all. given spot all × gained spot all) link falls))
