-- The join of a par in each mode: the variables and the stack of the parent fit the labels after it.
use Rattle.std.proofs.Common.{◌≡◌, ℕ, zero, suc, ◌+◌, ◌<◌, Bool, true, false, Some, List, [], ◌∷◌, ◌++◌, length, refl, sym, ap, subst, ◌∙◌, inl, inr, arith}
use Rattle.std.specs.Prelude.{◌⊎◌, ◌&&◌, ◌||◌, not, nat_eq, cond, slice_get}
use Rattle.std.specs.List.{list_any}
use Rattle.std.proofs.lemmas.Bool.{or_cases, or_left, or_right, and_parts}
use Rattle.std.proofs.Math.Bool.{and-false}
use Rattle.perm_tree.specs.declared.ast.Perm.{Perm}
use Rattle.perm_tree.specs.declared.ast.Perm.TheVariants.{Isolated, Immutable, Readable, Writable}
use Rattle.perm_tree.specs.declared.ast.Shape.{Shape}
use Rattle.perm_tree.specs.declared.ast.Ty.{Ty}
use Rattle.perm_tree.specs.declared.ast.Ty.TheVariants.{Ref}
use Rattle.perm_tree.specs.Code.{UnitCode}
use Rattle.perm_tree.specs.Vars.{Vars, meet}
use Rattle.perm_rules.specs.declared.ParMode.{ParMode}
use Rattle.perm_rules.specs.declared.ParMode.TheVariants.{Symmetric, LeftAlone, RightAlone}
use Rattle.perm_rules.specs.Parts.{Context, type_of, has_isolated}
use Rattle.perm_rules.specs.Pars.{isolated_vars}
use Rattle.perm_meaning.specs.Values.{Value}
use Rattle.perm_meaning.specs.Names.{Name}
use Rattle.perm_meaning.specs.Objects.{Objects}
use Rattle.perm_meaning.specs.Custody.{from_either, merged}
use Rattle.perm_meaning.specs.Machine.{Frame, OpenBlock, OpenRecover, OpenCall, Way}
use Rattle.perm_meaning.specs.NamedHeap.{Held}
use Rattle.perm_meaning.proofs.SameName.{together, eq-true, eq-itself}
use Rattle.perm_tree.specs.Code.{Tie, Shares, Raises, Lends}
use Rattle.perm_core.specs.Regions.{Zone, Base, Under, Region, OwnOf, OfVariable, OfField, Labels, same_way, same_zone, same_region, may_read, var_may_lead, calls, zones, top_zone, left_zone, right_zone}
use Rattle.perm_core.specs.Picture.{value_fits, variables_fit, stack_fits, object_fits}
use Rattle.perm_core.specs.NextPicture.{Renamings, renamed, moved, zone_joined, members_from, isolated_among, handed, zone_moves}
use Rattle.perm_core.proofs.Commute.LeadsTo.{zone-true}
use Rattle.perm_core.proofs.KeepsPicture.Labels.Relabellings.{Good, good-then, good-all, AllGood, good-moves, good-joins, MayJoin, of_variable, way-same, zone-same, FieldsStay, object-carry, value-carry, var-carry, tied-carry}
use Rattle.perm_core.proofs.KeepsPicture.Labels.CarriedValues.{AllFit, to-all, from-all, one-carry, LentStays, StackStays, stack-carry}
use Rattle.perm_core.proofs.KeepsPicture.Calls.CallEnds.{get-less}
use Rattle.perm_core.proofs.KeepsPicture.Calls.Gives.{either-cases, either-length}

-- ---------- lists of renamings ----------
pub moved-append : (ms ns : Renamings) (r : Region) → moved (ms ++ ns) r ≡ moved ns (moved ms r)
moved-append [] ns r = refl
moved-append (m ∷ ms) ns r = moved-append ms ns (renamed m r)

module _ (u : UnitCode) (labels : Labels) where
  -- what is handed from another frame is left alone
  pub handed-other : (w : Way) (k : ℕ) (v : Way) (j : ℕ) (xs : List ℕ) (r : Region) → ((x : ℕ) → same_region r (OfVariable w k x) ≡ false) → moved (handed u labels w k v j xs) r ≡ r
  handed-other w k v j [] r off = refl
  handed-other w k v j (x ∷ xs) r off =
      let same : cond (same_region r (OfVariable w k x)) (OfVariable v j x) r ≡ r = ap (λ t. cond t (OfVariable v j x) r) (off x) in
      ap (λ r. moved (handed u labels w k v j xs) r) same ∙ handed-other w k v j xs r off

  -- what is handed on arrives
  pub handed-at : (w : Way) (k : ℕ) (v : Way) (j : ℕ) (xs : List ℕ) (x : ℕ) → ((a b : ℕ) → same_region (OfVariable v j a) (OfVariable w k b) ≡ false) → list_any (nat_eq x) xs ≡ true → moved (handed u labels w k v j xs) (OfVariable w k x) ≡ OfVariable v j x
  handed-at w k v j [] x off e = absurd (let f : false ≡ true = e in cc)
  handed-at w k v j (y ∷ xs) x off e = go (λ q. handed-at w k v j xs x off q) (nat_eq x y) refl
    where
      go : (list_any (nat_eq x) xs ≡ true → moved (handed u labels w k v j xs) (OfVariable w k x) ≡ OfVariable v j x) → (t : Bool) → nat_eq x y ≡ t
          → moved (handed u labels w k v j xs) (cond (same_way w w && (nat_eq k k && nat_eq x y)) (OfVariable v j y) (OfVariable w k x)) ≡ OfVariable v j x
      go rec true q =
          let same : x ≡ y = eq-true x y q in
          let hit : (same_way w w && (nat_eq k k && nat_eq x y)) ≡ true = together (same_way w w) (nat_eq k k && nat_eq x y) (way-same w) (together (nat_eq k k) (nat_eq x y) (eq-itself k) q) in
          ap (λ t. moved (handed u labels w k v j xs) (cond t (OfVariable v j y) (OfVariable w k x))) hit ∙ handed-other w k v j xs (OfVariable v j y) (λ b. off y b) ∙ ap (λ y. OfVariable v j y) (sym same)
      go rec false q =
          let miss : (same_way w w && (nat_eq k k && nat_eq x y)) ≡ false = ap (λ t. same_way w w && (nat_eq k k && t)) q ∙ ap (λ t. same_way w w && t) (and-false (nat_eq k k)) ∙ and-false (same_way w w) in
          ap (λ t. moved (handed u labels w k v j xs) (cond t (OfVariable v j y) (OfVariable w k x))) miss ∙ rec (sym (ap (λ t. t || list_any (nat_eq x) xs) q) ∙ e)

  pub handed-good : (w : Way) (k : ℕ) (v : Way) (j : ℕ) (xs : List ℕ) → AllGood (handed u labels w k v j xs)
  handed-good w k v j [] = tt
  handed-good w k v j (x ∷ xs) = (good-moves (OfVariable w k x) (OfVariable v j x) (of_variable w k x) refl, handed-good w k v j xs)

  -- the members of a set below n are listed
  numbers-has : (n k : ℕ) (G : Vars) (i : ℕ) → i < n → G (k + i) ≡ true → list_any (nat_eq (k + i)) (members_from u labels n k G) ≡ true
  numbers-has zero k G i less e = absurd (omega (arith, less))
  numbers-has (suc n) k G zero less e = go (G k) refl
    where
      same : k + 0 ≡ k
      same = omega arith

      go : (t : Bool) → G k ≡ t → list_any (nat_eq (k + 0)) (cond (G k) (k ∷ members_from u labels n (suc k) G) (members_from u labels n (suc k) G)) ≡ true
      go true q =
          ap (λ t. list_any (nat_eq (k + 0)) (cond t (k ∷ members_from u labels n (suc k) G) (members_from u labels n (suc k) G))) q
          ∙ or_left (nat_eq (k + 0) k) (list_any (nat_eq (k + 0)) (members_from u labels n (suc k) G)) (ap (λ x. nat_eq x k) same ∙ eq-itself k)
      go false q = absurd (let f : false ≡ true = sym q ∙ ap G (sym same) ∙ e in cc)
  numbers-has (suc n) k G (suc i) less e =
      let same : k + suc i ≡ suc k + i = omega arith in
      let later : list_any (nat_eq (suc k + i)) (members_from u labels n (suc k) G) ≡ true = numbers-has n (suc k) G i (omega (arith, less)) (ap G (sym same) ∙ e) in
      subst (λ x. list_any (nat_eq x) (members_from u labels (suc n) k G) ≡ true) (sym same) (go (G k) later)
    where
      go : (t : Bool) → list_any (nat_eq (suc k + i)) (members_from u labels n (suc k) G) ≡ true → list_any (nat_eq (suc k + i)) (cond t (k ∷ members_from u labels n (suc k) G) (members_from u labels n (suc k) G)) ≡ true
      go true l = or_right (nat_eq (suc k + i) k) (list_any (nat_eq (suc k + i)) (members_from u labels n (suc k) G)) l
      go false l = l

  pub among-has : (c : Context) (G : Vars) (x : ℕ) (s : Shape) → type_of c x ≡ Some (Ref Isolated s) → G x ≡ true → list_any (nat_eq x) (isolated_among u labels c G) ≡ true
  among-has c G x s is e =
      let same : 0 + x ≡ x = omega arith in
      subst (λ y. list_any (nat_eq y) (isolated_among u labels c G) ≡ true) same
      (numbers-has (length c.vars) 0 (meet (isolated_vars c) G) x (get-less c.vars x (Ref Isolated s) is) (subst (λ y. meet (isolated_vars c) G y ≡ true) (sym same) (together (isolated_vars c x) (G x) (ap (λ o. has_isolated o) is) e)))

  -- what isn't handed on stays
  pub handed-off : (w : Way) (k : ℕ) (v : Way) (j : ℕ) (xs : List ℕ) (x : ℕ) → list_any (nat_eq x) xs ≡ false → moved (handed u labels w k v j xs) (OfVariable w k x) ≡ OfVariable w k x
  handed-off w k v j [] x e = refl
  handed-off w k v j (y ∷ xs) x e = go (handed-off w k v j xs x) (nat_eq x y) (list_any (nat_eq x) xs) refl refl e
    where
      go : (list_any (nat_eq x) xs ≡ false → moved (handed u labels w k v j xs) (OfVariable w k x) ≡ OfVariable w k x) → (a b : Bool) → nat_eq x y ≡ a → list_any (nat_eq x) xs ≡ b → a || b ≡ false
          → moved (handed u labels w k v j xs) (cond (same_way w w && (nat_eq k k && nat_eq x y)) (OfVariable v j y) (OfVariable w k x)) ≡ OfVariable w k x
      go rec true b p q f = absurd (let g : true ≡ false = f in cc)
      go rec false true p q f = absurd (let g : true ≡ false = f in cc)
      go rec false false p q f =
          let miss : (same_way w w && (nat_eq k k && nat_eq x y)) ≡ false = ap (λ t. same_way w w && (nat_eq k k && t)) p ∙ ap (λ t. same_way w w && t) (and-false (nat_eq k k)) ∙ and-false (same_way w w) in
          ap (λ t. moved (handed u labels w k v j xs) (cond t (OfVariable v j y) (OfVariable w k x))) miss ∙ rec q

  -- what is listed is in the set
  numbers-only : (n k : ℕ) (G : Vars) (x : ℕ) → list_any (nat_eq x) (members_from u labels n k G) ≡ true → G x ≡ true
  numbers-only zero k G x e = absurd (let f : false ≡ true = e in cc)
  numbers-only (suc n) k G x e = go (numbers-only n (suc k) G x) (G k) refl e
    where
      go : (list_any (nat_eq x) (members_from u labels n (suc k) G) ≡ true → G x ≡ true) → (t : Bool) → G k ≡ t → list_any (nat_eq x) (cond t (k ∷ members_from u labels n (suc k) G) (members_from u labels n (suc k) G)) ≡ true → G x ≡ true
      go rec false q f = rec f
      go rec true q f = first (or_cases (nat_eq x k) (list_any (nat_eq x) (members_from u labels n (suc k) G)) f)
        where
          first : (nat_eq x k ≡ true) ⊎ (list_any (nat_eq x) (members_from u labels n (suc k) G) ≡ true) → G x ≡ true
          first (inl d) = ap G (eq-true x k d) ∙ q
          first (inr d) = rec d

  pub among-only : (c : Context) (G : Vars) (x : ℕ) → G x ≡ false → list_any (nat_eq x) (isolated_among u labels c G) ≡ false
  among-only c G x e = go (list_any (nat_eq x) (isolated_among u labels c G)) refl
    where
      go : (t : Bool) → list_any (nat_eq x) (isolated_among u labels c G) ≡ t → list_any (nat_eq x) (isolated_among u labels c G) ≡ false
      go false q = q
      go true q = absurd (let f : true ≡ false = sym (and_parts (isolated_vars c x) (G x) (numbers-only (length c.vars) 0 (meet (isolated_vars c) G) x q)).1 ∙ e in cc)

-- ---------- zones ----------
-- a zone neither begins at a node nor stands in one that does
abbrev pub Avoids : Way → Zone → Type 0
Avoids v (Base w k) = same_way w v ≡ false
Avoids v (Under w z) = (same_way w v ≡ false) × Avoids v z

avoids-read : (v : Way) (z x : Zone) → Avoids v z → may_read z x ≡ true → Avoids v x
avoids-read v (Base w k) x a e = absurd (let f : false ≡ true = e in cc)
avoids-read v (Under w z) x a e = go (λ q. avoids-read v z x a.1 q) (or_cases (same_zone x z) (may_read z x) e)
  where
    go : (may_read z x ≡ true → Avoids v x) → (same_zone x z ≡ true) ⊎ (may_read z x ≡ true) → Avoids v x
    go rec (inl q) = subst (λ x. Avoids v x) (sym (zone-true x z q)) a.1
    go rec (inr q) = rec q

-- such a zone stays where one that begins there becomes another
under-stays : (v : Way) (y z x : Zone) → Avoids v x → zone_joined (Under v y) z x ≡ x
under-stays v y z (Base w k) a = refl
under-stays v y z (Under w x) a =
    let miss : (same_way w v && same_zone x y) ≡ false = ap (λ t. t && same_zone x y) a.0 in
    ap (λ t. cond t z (Under w (zone_joined (Under v y) z x))) miss ∙ ap (λ x. Under w x) (under-stays v y z x a.1)

base-stays : (v : Way) (j : ℕ) (z x : Zone) → Avoids v x → zone_joined (Base v j) z x ≡ x
base-stays v j z (Base w k) a = let miss : (same_way w v && nat_eq k j) ≡ false = ap (λ t. t && nat_eq k j) a in ap (λ t. cond t z (Base w k)) miss
base-stays v j z (Under w x) a = ap (λ x. Under w x) (base-stays v j z x a.1)

pub under-joins : (v : Way) (z : Zone) → Avoids v z → MayJoin (Under v z) z
under-joins v z a = record {
  stays = under-stays v z z z a;
  read = λ x r. under-stays v z z x (avoids-read v z x a r);
  no_more = λ x r. go x (or_cases (same_zone x z) (may_read z x) r);
}
  where
    go : (x : Zone) → (same_zone x z ≡ true) ⊎ (may_read z x ≡ true) → (x ≡ z) ⊎ (may_read z x ≡ true)
    go x (inl q) = inl (zone-true x z q)
    go x (inr q) = inr q

pub base-joins : (v : Way) (j : ℕ) (z : Zone) → Avoids v z → MayJoin (Base v j) z
base-joins v j z a = record { stays = base-stays v j z z a; read = λ x r. base-stays v j z x (avoids-read v z x a r); no_more = λ x r. absurd (let f : false ≡ true = r in cc) }

-- ---------- stacks ----------
module _ (u : UnitCode) (labels : Labels) (h : Objects Name) (ρ : Region → Region) (good : Good ρ) where
  -- a change that leaves all variables and zones of a node alone, and the zone in which the branch began, leaves its stack alone
  pub stack-alone : (w : Way) (z : Zone) (st : List (Frame Held)) → ((i x : ℕ) → ρ (OfVariable w i x) ≡ OfVariable w i x) → ρ (OwnOf z) ≡ OwnOf z → ((i : ℕ) → ρ (OwnOf (Base w i)) ≡ OwnOf (Base w i)) → StackStays u labels h ρ good w z st
  stack-alone w z [] vars start own = tt
  stack-alone w z (OpenBlock o rest ∷ st) vars start own = stack-alone w z st vars start own
  stack-alone w z (OpenRecover o hides saved rest ∷ st) vars start own = (λ x v has. vars (calls st) x, top w z st start own, stack-alone w z st vars start own)
    where
      top : (w : Way) (z : Zone) (st : List (Frame Held)) → ρ (OwnOf z) ≡ OwnOf z → ((i : ℕ) → ρ (OwnOf (Base w i)) ≡ OwnOf (Base w i)) → ρ (OwnOf (top_zone w z st)) ≡ OwnOf (top_zone w z st)
      top w z [] start own = start
      top w z (OpenBlock o rest ∷ st) start own = top w z st start own
      top w z (OpenRecover o hides saved rest ∷ st) start own = own (suc (zones st))
      top w z (OpenCall Shares into y saved lent caller rest ∷ st) start own = top w z st start own
      top w z (OpenCall Raises into y saved lent caller rest ∷ st) start own = own (suc (zones st))
      top w z (OpenCall Lends into y saved lent caller rest ∷ st) start own = own (suc (zones st))
  stack-alone w z (OpenCall tie into y saved lent caller rest ∷ st) vars start own = (λ x v has. vars (calls st) x, top w z st start own, lends tie, stack-alone w z st vars start own)
    where
      top : (w : Way) (z : Zone) (st : List (Frame Held)) → ρ (OwnOf z) ≡ OwnOf z → ((i : ℕ) → ρ (OwnOf (Base w i)) ≡ OwnOf (Base w i)) → ρ (OwnOf (top_zone w z st)) ≡ OwnOf (top_zone w z st)
      top w z [] start own = start
      top w z (OpenBlock o rest ∷ st) start own = top w z st start own
      top w z (OpenRecover o hides saved rest ∷ st) start own = own (suc (zones st))
      top w z (OpenCall Shares into y saved lent caller rest ∷ st) start own = top w z st start own
      top w z (OpenCall Raises into y saved lent caller rest ∷ st) start own = own (suc (zones st))
      top w z (OpenCall Lends into y saved lent caller rest ∷ st) start own = own (suc (zones st))

      lends : (tie : Tie) → LentStays u labels h ρ good w tie (zones st)
      lends Shares = tt
      lends Raises = tt
      lends Lends = own (suc (zones st))

-- ---------- the join ----------
module _ (u : UnitCode) (labels : Labels) (h : Objects Name) (w l r : Way) (zp : Zone) (k : ℕ) (c : Context) (mode : ParMode) (a b : Vars)
    (apart-l : same_way w l ≡ false) (apart-r : same_way w r ≡ false) (apart-lr : same_way l r ≡ false) (apart-rl : same_way r l ≡ false) (avoid-l : Avoids l zp) (avoid-r : Avoids r zp) where
  abbrev from_l : Renamings
  from_l = handed u labels l 0 w k (isolated_among u labels c a)

  abbrev from_r : Renamings
  from_r = handed u labels r 0 w k (isolated_among u labels c b)

  abbrev joins : Renamings
  joins = zone_moves u labels mode l r zp

  -- the change of a join
  abbrev ρ : Region → Region
  ρ x = moved (zone_moves u labels mode l r zp) (moved (handed u labels r 0 w k (isolated_among u labels c b)) (moved (handed u labels l 0 w k (isolated_among u labels c a)) x))

  joins-good : (mode : ParMode) → AllGood (zone_moves u labels mode l r zp)
  joins-good Symmetric = (good-joins (Under l zp) zp (under-joins l zp avoid-l), (good-joins (Under r zp) zp (under-joins r zp avoid-r), tt))
  joins-good LeftAlone = (good-joins (Base l 0) zp (base-joins l 0 zp avoid-l), tt)
  joins-good RightAlone = (good-joins (Base r 0) zp (base-joins r 0 zp avoid-r), tt)

  good : Good ρ
  good =
      good-then (λ x. moved from_r (moved from_l x)) (λ x. moved joins x)
      (good-then (λ x. moved from_l x) (λ x. moved from_r x) (good-all from_l (handed-good u labels l 0 w k (isolated_among u labels c a))) (good-all from_r (handed-good u labels r 0 w k (isolated_among u labels c b))))
      (good-all joins (joins-good mode))

  -- only zones change in the last step
  joins-var : (mode : ParMode) (v : Way) (i x : ℕ) → moved (zone_moves u labels mode l r zp) (OfVariable v i x) ≡ OfVariable v i x
  joins-var Symmetric v i x = refl
  joins-var LeftAlone v i x = refl
  joins-var RightAlone v i x = refl

  joins-field : (mode : ParMode) (o : Name) (f : ℕ) → moved (zone_moves u labels mode l r zp) (OfField o f) ≡ OfField o f
  joins-field Symmetric o f = refl
  joins-field LeftAlone o f = refl
  joins-field RightAlone o f = refl

  off-way : (v v' : Way) (i i' x x' : ℕ) → same_way v v' ≡ false → same_region (OfVariable v i x) (OfVariable v' i' x') ≡ false
  off-way v v' i i' x x' e = ap (λ t. t && (nat_eq i i' && nat_eq x x')) e

  -- the first steps leave alone what is no variable of a side
  handed-alone : (q : Region) → ((x : ℕ) → same_region q (OfVariable l 0 x) ≡ false) → ((x : ℕ) → same_region q (OfVariable r 0 x) ≡ false) → moved from_r (moved from_l q) ≡ q
  handed-alone q el er = ap (λ q. moved from_r q) (handed-other u labels l 0 w k (isolated_among u labels c a) q el) ∙ handed-other u labels r 0 w k (isolated_among u labels c b) q er

  var-stays : (v : Way) (i x : ℕ) → same_way v l ≡ false → same_way v r ≡ false → ρ (OfVariable v i x) ≡ OfVariable v i x
  var-stays v i x el er = ap (λ q. moved joins q) (handed-alone (OfVariable v i x) (λ y. off-way v l i 0 x y el) (λ y. off-way v r i 0 x y er)) ∙ joins-var mode v i x

  fields-stay : FieldsStay u labels h ρ good
  fields-stay o f = inl (ap (λ q. moved joins q) (handed-alone (OfField o f) (λ x. refl) (λ x. refl)) ∙ joins-field mode o f)

  -- what comes back from the left
  left-comes : (x : ℕ) → list_any (nat_eq x) (isolated_among u labels c a) ≡ true → ρ (OfVariable l 0 x) ≡ OfVariable w k x
  left-comes x e =
      ap (λ q. moved joins (moved from_r q)) (handed-at u labels l 0 w k (isolated_among u labels c a) x (λ i j. off-way w l k 0 i j apart-l) e)
      ∙ ap (λ q. moved joins q) (handed-other u labels r 0 w k (isolated_among u labels c b) (OfVariable w k x) (λ y. off-way w r k 0 x y apart-r)) ∙ joins-var mode w k x

  right-comes : (x : ℕ) → list_any (nat_eq x) (isolated_among u labels c b) ≡ true → ρ (OfVariable r 0 x) ≡ OfVariable w k x
  right-comes x e =
      ap (λ q. moved joins (moved from_r q)) (handed-other u labels l 0 w k (isolated_among u labels c a) (OfVariable r 0 x) (λ y. off-way r l 0 0 x y apart-rl))
      ∙ ap (λ q. moved joins q) (handed-at u labels r 0 w k (isolated_among u labels c b) x (λ i j. off-way w r k 0 i j apart-r) e) ∙ joins-var mode w k x

  -- zones that begin at neither side stay
  joins-zone : (mode : ParMode) (y : Zone) → Avoids l y → Avoids r y → moved (zone_moves u labels mode l r zp) (OwnOf y) ≡ OwnOf y
  joins-zone Symmetric y el er = ap (λ y. OwnOf (zone_joined (Under r zp) zp y)) (under-stays l zp zp y el) ∙ ap (λ y. OwnOf y) (under-stays r zp zp y er)
  joins-zone LeftAlone y el er = ap (λ y. OwnOf y) (base-stays l 0 zp y el)
  joins-zone RightAlone y el er = ap (λ y. OwnOf y) (base-stays r 0 zp y er)

  zone-stays : (y : Zone) → Avoids l y → Avoids r y → ρ (OwnOf y) ≡ OwnOf y
  zone-stays y el er = ap (λ q. moved joins q) (handed-alone (OwnOf y) (λ x. refl) (λ x. refl)) ∙ joins-zone mode y el er

  -- the zones of the sides become the parent's
  left-zone : (mode : ParMode) → moved (zone_moves u labels mode l r zp) (OwnOf (left_zone mode l zp)) ≡ OwnOf zp
  left-zone Symmetric =
      ap (λ t. OwnOf (zone_joined (Under r zp) zp (cond t zp (Under l (zone_joined (Under l zp) zp zp))))) (together (same_way l l) (same_zone zp zp) (way-same l) (zone-same zp))
      ∙ ap (λ y. OwnOf y) (under-stays r zp zp zp avoid-r)
  left-zone LeftAlone = ap (λ t. OwnOf (cond t zp (Base l 0))) (together (same_way l l) (nat_eq 0 0) (way-same l) refl)
  left-zone RightAlone = joins-zone RightAlone zp avoid-l avoid-r

  right-zone : (mode : ParMode) → moved (zone_moves u labels mode l r zp) (OwnOf (right_zone mode r zp)) ≡ OwnOf zp
  right-zone Symmetric =
      let miss : (same_way r l && same_zone zp zp) ≡ false = ap (λ t. t && same_zone zp zp) apart-rl in
      ap (λ t. OwnOf (zone_joined (Under r zp) zp (cond t zp (Under r (zone_joined (Under l zp) zp zp))))) miss
      ∙ ap (λ y. OwnOf (zone_joined (Under r zp) zp (Under r y))) (under-stays l zp zp zp avoid-l)
      ∙ ap (λ t. OwnOf (cond t zp (Under r (zone_joined (Under r zp) zp zp)))) (together (same_way r r) (same_zone zp zp) (way-same r) (zone-same zp))
  right-zone LeftAlone = joins-zone LeftAlone zp avoid-l avoid-r
  right-zone RightAlone = ap (λ t. OwnOf (cond t zp (Base r 0))) (together (same_way r r) (nat_eq 0 0) (way-same r) refl)

  own-left : ρ (OwnOf (left_zone mode l zp)) ≡ OwnOf zp
  own-left = ap (λ q. moved joins q) (handed-alone (OwnOf (left_zone mode l zp)) (λ x. refl) (λ x. refl)) ∙ left-zone mode

  own-right : ρ (OwnOf (right_zone mode r zp)) ≡ OwnOf zp
  own-right = ap (λ q. moved joins q) (handed-alone (OwnOf (right_zone mode r zp)) (λ x. refl) (λ x. refl)) ∙ right-zone mode

  abbrev pub after : Labels
  after n = ρ (labels n)

  -- a value comes back from a side
  comes-back : (v : Way) (x : ℕ) (zs : Zone) (t : Ty) (y : Value Name) → ((s : Shape) → t ≡ Ref Isolated s → ρ (OfVariable v 0 x) ≡ OfVariable w k x) → ρ (OwnOf zs) ≡ OwnOf zp
      → value_fits h (λ p n. var_may_lead p (OfVariable v 0 x) zs (labels n)) t y ≡ true → value_fits h (λ p n. var_may_lead p (OfVariable w k x) zp (after n)) t y ≡ true
  comes-back v x zs t y o e f = value-carry h (λ p n. var_may_lead p (OfVariable v 0 x) zs (labels n)) (λ p n. var_may_lead p (OfVariable w k x) zp (after n)) t y (λ p s n q g. by_perm p s n q g) f
    where
      tied : (p : Perm) (n : Name) → (p ≡ Isolated → ⊥) → var_may_lead p (OfVariable v 0 x) zs (labels n) ≡ true → var_may_lead p (OfVariable w k x) zp (after n) ≡ true
      tied p n not g = tied-carry ρ good p (OfVariable v 0 x) (OfVariable w k x) zs zp (labels n) not e g

      by_perm : (p : Perm) (s : Shape) (n : Name) → t ≡ Ref p s → var_may_lead p (OfVariable v 0 x) zs (labels n) ≡ true → var_may_lead p (OfVariable w k x) zp (after n) ≡ true
      by_perm Isolated s n q g = var-carry ρ good Isolated (OfVariable v 0 x) (OfVariable w k x) zs zp (labels n) (o s q) e g
      by_perm Immutable s n q g = tied Immutable n (λ d. absurd (cc)) g
      by_perm Readable s n q g = tied Readable n (λ d. absurd (cc)) g
      by_perm Writable s n q g = tied Writable n (λ d. absurd (cc)) g

  module _ (vs ls rs : List Held) (fits : variables_fit u labels h zp w k 0 c.vars vs ≡ true) (fits-l : variables_fit u labels h (left_zone mode l zp) l 0 0 c.vars ls ≡ true) (fits-r : variables_fit u labels h (right_zone mode r zp) r 0 0 c.vars rs ≡ true) where
    mine : AllFit u labels h zp w k c.vars vs
    mine = to-all u labels h zp w k c.vars vs fits

    lefts : AllFit u labels h (left_zone mode l zp) l 0 c.vars ls
    lefts = to-all u labels h (left_zone mode l zp) l 0 c.vars ls fits-l

    rights : AllFit u labels h (right_zone mode r zp) r 0 c.vars rs
    rights = to-all u labels h (right_zone mode r zp) r 0 c.vars rs fits-r

    each : (x : ℕ) (t : Ty) (v : Value Name) → slice_get c.vars x ≡ Some t → slice_get (merged a b vs ls rs) x ≡ Some (Some v) → value_fits h (λ p n. var_may_lead p (OfVariable w k x) zp (after n)) t v ≡ true
    each x t v is has = from-right (either-cases b rs (from_either a ls vs) x (Some v) has)
      where
        Fits : Type 0
        Fits = value_fits h (λ p n. var_may_lead p (OfVariable w k x) zp (after n)) t v ≡ true

        from-left : ((a x ≡ true) × (slice_get ls x ≡ Some (Some v))) ⊎ ((a x ≡ false) × (slice_get vs x ≡ Some (Some v))) → value_fits h (λ p n. var_may_lead p (OfVariable w k x) zp (after n)) t v ≡ true
        from-left (inl e) = comes-back l x (left_zone mode l zp) t v (λ s q. left-comes x (among-has u labels c a x s (is ∙ ap (λ t. Some t) q) e.0)) own-left (lefts.each x t v is e.1)
        from-left (inr e) = one-carry u labels h ρ good w w k k x x zp zp t v (var-stays w k x apart-l apart-r) (zone-stays zp avoid-l avoid-r) (mine.each x t v is e.1)

        from-right : ((b x ≡ true) × (slice_get rs x ≡ Some (Some v))) ⊎ ((b x ≡ false) × (slice_get (from_either a ls vs) x ≡ Some (Some v))) → value_fits h (λ p n. var_may_lead p (OfVariable w k x) zp (after n)) t v ≡ true
        from-right (inl e) = comes-back r x (right_zone mode r zp) t v (λ s q. right-comes x (among-has u labels c b x s (is ∙ ap (λ t. Some t) q) e.0)) own-right (rights.each x t v is e.1)
        from-right (inr e) = from-left (either-cases a ls vs x (Some v) e.1)

    -- the parent's variables after the join
    pub joined-fits : variables_fit u after h zp w k 0 c.vars (merged a b vs ls rs) ≡ true
    joined-fits =
        let left : length (from_either a ls vs) ≡ length ls = either-length a ls vs (sym lefts.lengths ∙ mine.lengths) in
        from-all u after h zp w k c.vars (merged a b vs ls rs) (record {
          lengths = rights.lengths ∙ sym (either-length b rs (from_either a ls vs) (sym rights.lengths ∙ lefts.lengths ∙ sym left));
          each = each;
        })

  -- what stands below in the parent
  pub below-fits : (z : Zone) (m : ℕ) (st : List (Frame Held)) → Avoids l z → Avoids r z → stack_fits u labels h w z m st ≡ true → stack_fits u after h w z m st ≡ true
  below-fits z m st el er e =
      stack-carry u labels h ρ good w z m st (stack-alone u labels h ρ good w z st (λ i x. var-stays w i x apart-l apart-r) (zone-stays z el er) (λ i. zone-stays (Base w i) apart-l apart-r)) e

  -- and the objects, whether the sides went well or failed
  pub objects-fit : ((n : Name) → object_fits u labels h n (h n) ≡ true) → (n : Name) → object_fits u after h n (h n) ≡ true
  objects-fit all n = object-carry u labels h ρ good fields-stay n (h n) (all n)
