-- Steps that are named stay so where more is emitted.
use Rattle.std.proofs.Common.{◌≡◌, ◌∙◌, ℕ, zero, suc, ◌<◌, ◌≤◌, Bool, true, false, List, [], ◌∷◌, ◌++◌, length, Some, refl, sym, ap, subst, arith, ◌⊎◌, inl, inr}
use Rattle.std.specs.Prelude.{Contains, nat_eq, slice_get, slice_set}
use Rattle.std.proofs.lemmas.Bool.{eqb-true, eq-eqb}
use Rattle.std.proofs.lemmas.List.Elements.{Contains-append_cases, Contains-append_left, Contains-append_right}
use Rattle.perm_tree.specs.declared.bodies.Action.{Action}
use Rattle.perm_tree.specs.declared.bodies.Bodies.{Bodies}
use Rattle.perm_tree.specs.declared.bodies.Step.{Step}
use Rattle.perm_tree.specs.CodeNames.{Setting}
use Rattle.perm_table.specs.Growth.{Extends}
use Rattle.perm_table.specs.StepPlaces.{AreNamed, HasAt, Held, IsNamed, IsNamedIf, Kept, SaysAt}
use Rattle.perm_table.proofs.Growth.{Extends-trans, HasMore-refl}
use Rattle.perm_table.proofs.Emission.Says.{says-stays}

-- ---------- lists ----------
-- what stands in the front of a list
pub get-front : {A : Type 0} (xs ys : List A) (p : ℕ) (x : A) → slice_get xs p ≡ Some x → slice_get (xs ++ ys) p ≡ Some x
get-front [] ys p x there = absurd (let nothing : ⊥ = cc there in nothing)
get-front (y ∷ xs) ys zero x there = there
get-front (y ∷ xs) ys (suc p) x there = get-front xs ys p x there

-- what stands behind a list
pub get-last : {A : Type 0} (xs : List A) (x : A) (p : ℕ) → p ≡ length xs → slice_get (xs ++ x ∷ []) p ≡ Some x
get-last [] x p is = ap (slice_get (x ∷ [])) is
get-last (y ∷ xs) x zero is = absurd (omega arith)
get-last (y ∷ xs) x (suc p) is = get-last xs x p (omega arith)

-- what is set
pub get-set : {A : Type 0} (xs : List A) (p : ℕ) (x : A) → p < length xs → slice_get (slice_set xs p x) p ≡ Some x
get-set [] p x within = absurd (omega arith)
get-set (y ∷ xs) zero x within = refl
get-set (y ∷ xs) (suc p) x within = get-set xs p x (omega arith)

-- nothing else changes
pub get-beside : {A : Type 0} (xs : List A) (p q : ℕ) (x : A) → (q ≡ p → ⊥) → slice_get (slice_set xs p x) q ≡ slice_get xs q
get-beside [] p q x differs = refl
get-beside (y ∷ xs) zero zero x differs = absurd (differs refl)
get-beside (y ∷ xs) zero (suc q) x differs = refl
get-beside (y ∷ xs) (suc p) zero x differs = refl
get-beside (y ∷ xs) (suc p) (suc q) x differs = get-beside xs p q x (λ e. differs (ap suc e))

pub length-set : {A : Type 0} (xs : List A) (p : ℕ) (x : A) → length (slice_set xs p x) ≡ length xs
length-set [] p x = refl
length-set (y ∷ xs) zero x = refl
length-set (y ∷ xs) (suc p) x = ap suc (length-set xs p x)

none-held : (i : ℕ) → Contains {X = ℕ} [] i → ⊥
none-held i (n, within, is) = omega (arith, within)

one-held : (at i : ℕ) → Contains (at ∷ []) i → i ≡ at
one-held at i (zero, within, is) = sym is
one-held at i (suc n, within, is) = absurd (omega (arith, within))

-- ---------- steps that stay ----------
-- bodies are extended, and the steps from a place on stay
pub record Keep (from : ℕ) (old new : Bodies) : Type 0 where
  pub extends : Extends old new
  pub steps : (p : ℕ) (s : Step) → from ≤ p → slice_get old.steps p ≡ Some s → slice_get new.steps p ≡ Some s

-- where steps are added
pub keep-more : (from : ℕ) (old new : Bodies) (added : List Step) → Extends old new → new.steps ≡ old.steps ++ added → Keep from old new
keep-more from old new added more is = record {
  extends = more;
  steps = λ p s behind there. subst (λ (l : List Step). slice_get l p ≡ Some s) (sym is) (get-front old.steps added p s there);
}

-- where one before is set
pub keep-set : (from place : ℕ) (old new : Bodies) (x : Step) → place < from → Extends old new → new.steps ≡ slice_set old.steps place x → Keep from old new
keep-set from place old new x before more is = record {
  extends = more;
  steps = λ p s behind there.
      subst (λ (l : List Step). slice_get l p ≡ Some s) (sym is) (get-beside old.steps place p x (λ e. omega (arith, e, before, behind)) ∙ there);
}

pub keep-trans : (from : ℕ) (a b c : Bodies) → Keep from a b → Keep from b c → Keep from a c
keep-trans from a b c f g = record {
  extends = Extends-trans a b c f.extends g.extends;
  steps = λ p s behind there. g.steps p s behind (f.steps p s behind there);
}

-- ---------- what is said of a step ----------
-- the same in other words
pub at-as : (says tells : Action → Type 0) (old new : Bodies) (place : ℕ) → ((a : Action) → says a → tells a) → HasAt says old new place → HasAt tells old new place
at-as says tells old new place to has = record { behind = has.behind; step = has.step; there = has.there; said = to has.step.action has.said }

module _ (k : Setting) where
  -- it stays
  at-stays : (old mid new : Bodies) (at place : ℕ) → Keep (length old.steps) mid new → HasAt (SaysAt k mid at) old mid place → HasAt (SaysAt k new at) old new place
  at-stays old mid new at place keep has = record {
    behind = has.behind;
    step = has.step;
    there = keep.steps place has.step has.behind has.there;
    said = λ s here. says-stays k mid new keep.extends s s.kind has.step.action (has.said s here);
  }

  -- ---------- named steps ----------
  -- where no place changes none is named
  pub named-none : (old new : Bodies) → new.places ≡ old.places → AreNamed k old new []
  named-none old new same = record {
    count = ap (λ (l : List ℕ). length l) same;
    each = λ at. Kept (none-held at) (ap (λ (l : List ℕ). slice_get l at) same);
  }

  -- a step that was added last was added
  sooner : (old mid new : Bodies) (at : ℕ) → length old.steps ≤ length mid.steps → IsNamed k mid new at → IsNamed k old new at
  sooner old mid new at longer is = record { place = is.place; placed = is.placed; has = record { behind = omega (arith, longer, is.has.behind); step = is.has.step; there = is.has.there; said = is.has.said } }

  -- more steps are named
  named-both : (old mid new : Bodies) (first last held : List ℕ) → length old.steps ≤ length mid.steps → Keep (length old.steps) mid new
      → ((i : ℕ) → Contains first i → Contains held i) → ((i : ℕ) → Contains last i → Contains held i) → ((i : ℕ) → Contains held i → Contains first i ⊎ Contains last i)
      → AreNamed k old mid first → AreNamed k mid new last → AreNamed k old new held
  named-both old mid new first last held longer keep in_first in_last parts one two = record {
    count = two.count ∙ one.count;
    each = λ at. pick at (one.each at) (two.each at);
  }
    where
      stays : (at : ℕ) → IsNamed k old mid at → slice_get new.places at ≡ slice_get mid.places at → IsNamed k old new at
      stays at is same = record { place = is.place; placed = same ∙ is.placed; has = at-stays old mid new at is.place keep is.has }

      neither : (i : ℕ) → (Contains first i → ⊥) → (Contains last i → ⊥) → Contains first i ⊎ Contains last i → ⊥
      neither i out behind (inl q) = out q
      neither i out behind (inr q) = behind q

      pick : (at : ℕ) → IsNamedIf k old mid first at → IsNamedIf k mid new last at → IsNamedIf k old new held at
      pick at before (Held inside is) = Held (in_last at inside) (sooner old mid new at longer is)
      pick at (Held inside is) (Kept out same) = Held (in_first at inside) (stays at is same)
      pick at (Kept out same) (Kept behind still) = Kept (λ q. neither at out behind (parts at q)) (still ∙ same)

  -- those that are named later are listed behind
  pub named-behind : (old mid new : Bodies) (first last : List ℕ) → length old.steps ≤ length mid.steps → Keep (length old.steps) mid new → AreNamed k old mid first → AreNamed k mid new last → AreNamed k old new (first ++ last)
  named-behind old mid new first last longer keep one two =
      named-both old mid new first last (first ++ last) longer keep (Contains-append_left first last) (Contains-append_right first last) (Contains-append_cases first last) one two

  -- or in front
  pub named-front : (old mid new : Bodies) (first last : List ℕ) → length old.steps ≤ length mid.steps → Keep (length old.steps) mid new → AreNamed k old mid first → AreNamed k mid new last → AreNamed k old new (last ++ first)
  named-front old mid new first last longer keep one two =
      named-both old mid new first last (last ++ first) longer keep (Contains-append_right last first) (Contains-append_left last first) (λ i q. turn i (Contains-append_cases last first i q)) one two
    where
      turn : (i : ℕ) → Contains last i ⊎ Contains first i → Contains first i ⊎ Contains last i
      turn i (inl q) = inr q
      turn i (inr q) = inl q

  -- no more are named
  pub named-on : (old mid new : Bodies) (held : List ℕ) → length old.steps ≤ length mid.steps → Keep (length old.steps) mid new → new.places ≡ mid.places → AreNamed k old mid held → AreNamed k old new held
  named-on old mid new held longer keep same one =
      named-both old mid new held [] held longer keep (λ i q. q) (λ i q. absurd (none-held i q)) (λ i q. inl q) one (named-none mid new same)

  -- none were named before
  pub named-from : (old mid new : Bodies) (held : List ℕ) → length old.steps ≤ length mid.steps → mid.places ≡ old.places → AreNamed k mid new held → AreNamed k old new held
  named-from old mid new held longer same two = record {
    count = two.count ∙ ap (λ (l : List ℕ). length l) same;
    each = λ at. pick at (two.each at);
  }
    where
      pick : (at : ℕ) → IsNamedIf k mid new held at → IsNamedIf k old new held at
      pick at (Held inside is) = Held inside (sooner old mid new at longer is)
      pick at (Kept out still) = Kept out (still ∙ ap (λ (l : List ℕ). slice_get l at) same)

  -- nothing is named where no place changes
  pub named-nothing : (old new : Bodies) (held : List ℕ) → held ≡ [] → new.places ≡ old.places → AreNamed k old new held
  named-nothing old new held is same = subst (λ (l : List ℕ). AreNamed k old new l) (sym is) (named-none old new same)

  -- ---------- one more name ----------
  still : (from : ℕ) (b : Bodies) (at place : ℕ) → Keep from b (record b { places = slice_set b.places at place })
  still from b at place = record {
    extends = record { operations = HasMore-refl b.operations; arguments = HasMore-refl b.arguments; sides = HasMore-refl b.sides };
    steps = λ p s behind there. there;
  }

  -- the step of a statement is named, after those within it
  pub named-more : (old mid new : Bodies) (at place : ℕ) (inner : List ℕ) → length old.steps ≤ length mid.steps → at < length mid.places → new ≡ record mid { places = slice_set mid.places at place }
      → HasAt (SaysAt k mid at) old mid place → AreNamed k old mid inner → AreNamed k old new (at ∷ inner)
  named-more old mid new at place inner longer within is has one = subst (λ (b : Bodies). AreNamed k old b (at ∷ inner)) (sym is) (record {
    count = length-set mid.places at place ∙ one.count;
    each = λ i. pick i (nat_eq i at) refl;
  })
    where
      here : IsNamed k old (record mid { places = slice_set mid.places at place }) at
      here = record { place = place; placed = get-set mid.places at place within; has = at-stays old mid (record mid { places = slice_set mid.places at place }) at place (still (length old.steps) mid at place) has }

      other : (i : ℕ) → (i ≡ at → ⊥) → IsNamedIf k old mid inner i → IsNamedIf k old (record mid { places = slice_set mid.places at place }) (at ∷ inner) i
      other i differs (Held inside named) = Held (Contains-append_right (at ∷ []) inner i inside) (record {
        place = named.place;
        placed = get-beside mid.places at i place differs ∙ named.placed;
        has = at-stays old mid (record mid { places = slice_set mid.places at place }) i named.place (still (length old.steps) mid at place) named.has;
      })
      other i differs (Kept out same) = Kept (λ q. neither (Contains-append_cases (at ∷ []) inner i q)) (get-beside mid.places at i place differs ∙ same)
        where
          neither : Contains (at ∷ []) i ⊎ Contains inner i → ⊥
          neither (inl q) = differs (one-held at i q)
          neither (inr q) = out q

      pick : (i : ℕ) (b : Bool) → nat_eq i at ≡ b → IsNamedIf k old (record mid { places = slice_set mid.places at place }) (at ∷ inner) i
      pick i true e =
          let same : i ≡ at = eqb-true i at e in
          subst (λ n. IsNamedIf k old (record mid { places = slice_set mid.places at place }) (at ∷ inner) n) (sym same) (Held (0, omega arith, refl) here)
      pick i false e = other i (λ same. let clash : true ≡ false = sym (eq-eqb i at same) ∙ e in absurd (cc clash)) (one.each i)
