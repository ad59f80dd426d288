-- The end of a call keeps what its caller's variables lead to, whatever its tie.
use Rattle.std.proofs.Common.{◌≡◌, ℕ, zero, suc, ◌<◌, ◌≤◌, Bool, true, false, Option, Some, None, List, [], ◌∷◌, ◌++◌, length, refl, sym, ap, subst, ◌∙◌, inl, inr, arith}
use Rattle.std.specs.Prelude.{◌⊎◌, ◌&&◌, ◌||◌, not, nat_eq, cond, slice_get, slice_set}
use Rattle.std.specs.List.{list_any}
use Rattle.std.proofs.lemmas.Bool.{or_cases, or_left, or_right, and_parts}
use Rattle.std.proofs.lemmas.Bool.Decides.{nat_tests}
use Rattle.std.proofs.Math.Bool.{and-false}
use Rattle.perm_tree.specs.declared.ast.Perm.{Perm}
use Rattle.perm_tree.specs.declared.ast.Perm.TheVariants.{Isolated, Immutable, Readable, Writable}
use Rattle.perm_tree.specs.declared.ast.Shape.{Shape}
use Rattle.perm_tree.specs.declared.ast.Ty.{Ty}
use Rattle.perm_tree.specs.declared.ast.Ty.TheVariants.{Long, Bool as Boolean, Ref}
use Rattle.perm_tree.specs.Code.{Code, UnitCode, Tie, Shares, Raises, Lends}
use Rattle.perm_tree.specs.CodeNames.{is_tied}
use Rattle.perm_tree.specs.Vars.{Vars, those, minus, some_below}
use Rattle.perm_perm.specs.Adaptation.{raised}
use Rattle.perm_perm.specs.Order.{is_at_most}
use Rattle.perm_rules.specs.Parts.{Context, type_of}
use Rattle.perm_meaning.specs.Values.{Value}
use Rattle.perm_meaning.specs.Names.{Name}
use Rattle.perm_meaning.specs.Objects.{Objects}
use Rattle.perm_meaning.specs.Machine.{Frame, OpenBlock, OpenRecover, OpenCall, Way}
use Rattle.perm_meaning.specs.NamedHeap.{Held}
use Rattle.perm_meaning.proofs.SameName.{together, eq-true, eq-itself}
use Rattle.perm_meaning.proofs.Leads.{some-inj, none-some}
use Rattle.perm_core.specs.Regions.{Zone, Base, Region, Frozen, OwnOf, OfVariable, Loose, Labels, same_way, is_frozen, is_absent, may_read, var_may_lead, begins_zone, calls, zones, top_zone}
use Rattle.perm_core.specs.Picture.{hidden_above, has_value, valued, only_valued, none_valued, stack_hidden}
use Rattle.perm_core.specs.NextPicture.{Ends, renamed, is_rooted, goal, goal_of, goal_into, ended_to}
use Rattle.perm_core.proofs.Commute.LeadsTo.{frozen-true}
use Rattle.perm_core.proofs.KeepsPicture.Labels.Relabellings.{Good, Sees, frozen, within, across, sees, visible, region-same, region-true, own-inj, way-same}
use Rattle.perm_core.proofs.KeepsPicture.Labels.CarriedValues.{LentStays, StackStays}

-- ---------- lists ----------
-- what stands in a list after a change stands there by it, or stood there before
pub set-cases : {A : Type 0} (vs : List A) (x : ℕ) (new : A) (i : ℕ) (v : A) → slice_get (slice_set vs x new) i ≡ Some v → ((i ≡ x) × (new ≡ v)) ⊎ ((i ≡ x → ⊥) × (slice_get vs i ≡ Some v))
set-cases [] x new i v e = none-some e
set-cases (a ∷ vs) zero new zero v e = inl (refl, some-inj e)
set-cases (a ∷ vs) zero new (suc i) v e = inr (λ q. omega (arith, q), e)
set-cases (a ∷ vs) (suc x) new zero v e = inr (λ q. omega (arith, q), e)
set-cases (a ∷ vs) (suc x) new (suc i) v e = go (set-cases vs x new i v e)
  where
    go : ((i ≡ x) × (new ≡ v)) ⊎ ((i ≡ x → ⊥) × (slice_get vs i ≡ Some v)) → ((suc i ≡ suc x) × (new ≡ v)) ⊎ ((suc i ≡ suc x → ⊥) × (slice_get vs i ≡ Some v))
    go (inl q) = inl (ap (λ n. suc n) q.0, q.1)
    go (inr q) = inr (λ e. (let less : suc i ≡ suc x = e in q.0 (omega (arith, less))), q.1)

pub set-length : {A : Type 0} (vs : List A) (x : ℕ) (new : A) → length (slice_set vs x new) ≡ length vs
set-length [] x new = refl
set-length (a ∷ vs) zero new = refl
set-length (a ∷ vs) (suc x) new = ap (λ n. suc n) (set-length vs x new)

-- ---------- zones ----------
-- the zone in which a branch begins, begins at no frame of it
abbrev pub StartsLow : Way → Zone → Type 0
StartsLow w z = (i : ℕ) → is_rooted w (suc i) z ≡ false

apart-numbers : (i j : ℕ) → i < j → nat_eq i j ≡ false
apart-numbers i j less = grind (arith, nat_tests)

-- a zone that begins in a stack isn't one that begins above it
pub top-low : (w : Way) (z : Zone) (st : List (Frame Held)) (j : ℕ) → StartsLow w z → zones st ≤ j → is_rooted w (suc j) (top_zone w z st) ≡ false
top-low w z [] j low less = low j
top-low w z (OpenBlock own rest ∷ st) j low less = top-low w z st j low less
top-low w z (OpenRecover own hides saved rest ∷ st) j low less = ap (λ t. same_way w w && t) (apart-numbers (suc (zones st)) (suc j) (let q : suc (zones st) ≤ j = less in omega (arith, q))) ∙ and-false (same_way w w)
top-low w z (OpenCall Shares into y saved lent caller rest ∷ st) j low less = top-low w z st j low less
top-low w z (OpenCall Raises into y saved lent caller rest ∷ st) j low less = ap (λ t. same_way w w && t) (apart-numbers (suc (zones st)) (suc j) (let q : suc (zones st) ≤ j = less in omega (arith, q))) ∙ and-false (same_way w w)
top-low w z (OpenCall Lends into y saved lent caller rest ∷ st) j low less = ap (λ t. same_way w w && t) (apart-numbers (suc (zones st)) (suc j) (let q : suc (zones st) ≤ j = less in omega (arith, q))) ∙ and-false (same_way w w)

-- a zone that begins lower than another one isn't it
pub lower-apart : (w : Way) (i j : ℕ) → i < j → is_rooted w (suc j) (Base w (suc i)) ≡ false
lower-apart w i j less = ap (λ t. same_way w w && t) (apart-numbers (suc i) (suc j) (omega (arith, less))) ∙ and-false (same_way w w)

-- ---------- hidden variables ----------
pub nothing-below : (n : ℕ) (S : Vars) (x : ℕ) → x < n → some_below n S ≡ false → S x ≡ false
nothing-below zero S x less e = absurd (omega (arith, less))
nothing-below (suc n) S x less e = go (λ l q. nothing-below n S x l q) (S n) (some_below n S) refl refl e (nat_eq x n) refl
  where
    go : (x < n → some_below n S ≡ false → S x ≡ false) → (a b : Bool) → S n ≡ a → some_below n S ≡ b → a || b ≡ false → (t : Bool) → nat_eq x n ≡ t → S x ≡ false
    go rec true b p q e t r = absurd (cc)
    go rec false true p q e t r = absurd (cc)
    go rec false false p q e true r = ap S (eq-true x n r) ∙ p
    go rec false false p q e false r = rec (below (nat_eq x n) refl r) q
      where
        below : (t : Bool) → nat_eq x n ≡ t → t ≡ false → x < n
        below t e f = let d : nat_eq x n ≡ false = e ∙ f in grind (arith, nat_tests)

pub get-less : {A : Type 0} (vs : List A) (x : ℕ) (v : A) → slice_get vs x ≡ Some v → x < length vs
get-less [] x v e = none-some e
get-less (a ∷ vs) zero v e = omega arith
get-less (a ∷ vs) (suc x) v e = let less : x < length vs = get-less vs x v e in omega (arith, less)

-- what is laid by is hidden
pub only-hidden : (hides : List ℕ) (vs : List Held) (x : ℕ) (v : Value Name) → only_valued hides vs ≡ true → slice_get vs x ≡ Some (Some v) → those hides x ≡ true
only-hidden hides vs x v only has =
    let none : minus (valued vs) (those hides) x ≡ false = nothing-below (length vs) (minus (valued vs) (those hides)) x (get-less vs x (Some v) has) (not-true (some_below (length vs) (minus (valued vs) (those hides))) only) in
    hid (valued vs x) (those hides x) (ap (λ o. has_value o) has) none
  where
    not-true : (t : Bool) → not t ≡ true → t ≡ false
    not-true true e = absurd (cc)
    not-true false e = refl

    hid : (a b : Bool) → a ≡ true → a && not b ≡ false → b ≡ true
    hid true true p q = refl
    hid true false p q = absurd (cc)
    hid false b p q = absurd (cc)

pub any-right : (x : ℕ) (xs ys : List ℕ) → list_any (nat_eq x) ys ≡ true → list_any (nat_eq x) (xs ++ ys) ≡ true
any-right x [] ys e = e
any-right x (y ∷ xs) ys e = or_right (nat_eq x y) (list_any (nat_eq x) (xs ++ ys)) (any-right x xs ys e)

pub any-left : (x : ℕ) (xs ys : List ℕ) → list_any (nat_eq x) xs ≡ true → list_any (nat_eq x) (xs ++ ys) ≡ true
any-left x [] ys e = absurd (let no : false ≡ true = e in cc)
any-left x (y ∷ xs) ys e = go (λ q. any-left x xs ys q) (or_cases (nat_eq x y) (list_any (nat_eq x) xs) e)
  where
    go : (list_any (nat_eq x) xs ≡ true → list_any (nat_eq x) (xs ++ ys) ≡ true) → (nat_eq x y ≡ true) ⊎ (list_any (nat_eq x) xs ≡ true) → (nat_eq x y || list_any (nat_eq x) (xs ++ ys)) ≡ true
    go rec (inl q) = or_left (nat_eq x y) (list_any (nat_eq x) (xs ++ ys)) q
    go rec (inr q) = or_right (nat_eq x y) (list_any (nat_eq x) (xs ++ ys)) (rec q)

-- ---------- stacks ----------
module _ (u : UnitCode) (labels : Labels) (h : Objects Name) (ρ : Region → Region) (good : Good ρ) where
  -- a change leaves a stack alone that leaves its variables alone, but perhaps some of its top method that aren't hidden, and its zones
  pub stack-stays : (w : Way) (z : Zone) (below : List ℕ) (c : Code) (st : List (Frame Held)) (j : ℕ)
      → ((i x : ℕ) → (i < calls st) ⊎ ((i ≡ calls st) × (those (hidden_above below st) x ≡ true)) → ρ (OfVariable w i x) ≡ OfVariable w i x)
      → ((q : Zone) → is_rooted w (suc j) q ≡ false → ρ (OwnOf q) ≡ OwnOf q) → StartsLow w z → zones st ≤ j → stack_hidden below c st ≡ true → StackStays u labels h ρ good w z st
  stack-stays w z below c [] j vars own low less hid = tt
  stack-stays w z below c (OpenBlock own' rest ∷ st) j vars own low less hid = stack-stays w z below rest st j vars own low less hid
  stack-stays w z below c (OpenRecover own' hides saved rest ∷ st) j vars own low less hid =
      let fewer : suc (zones st) ≤ j = less in
      let a : Bool = only_valued hides saved in
      let b : Bool = none_valued (hidden_above below st) saved in
      let x = and_parts (a && b) _ hid in
      let only : a ≡ true = (and_parts a b x.0).0 in
      let rest-hid = (and_parts _ (stack_hidden below rest st) x.1).1 in (
        λ i v has. vars (calls st) i (inr (refl, any-left i hides (hidden_above below st) (only-hidden hides saved i v only has))),
        own (top_zone w z st) (top-low w z st j low (omega (arith, fewer))),
        stack-stays w z below rest st j (λ i x o. vars i x (more i x o)) own low (omega (arith, fewer)) rest-hid,
      )
    where
      more : (i x : ℕ) → (i < calls st) ⊎ ((i ≡ calls st) × (those (hidden_above below st) x ≡ true)) → (i < calls st) ⊎ ((i ≡ calls st) × (those (hides ++ hidden_above below st) x ≡ true))
      more i x (inl l) = inl l
      more i x (inr e) = inr (e.0, any-right x hides (hidden_above below st) e.1)
  stack-stays w z below c (OpenCall tie into y saved lent caller rest ∷ st) j vars own low less hid =
      let fewer : zones st ≤ j = fewer-zones tie less in (
        λ i v has. vars (calls st) i (inl (omega arith)),
        own (top_zone w z st) (top-low w z st j low fewer),
        lent-stays tie less,
        stack-stays w z below rest st j (λ i x o. vars i x (inl (lower i x o))) own low fewer (and_parts _ (stack_hidden below rest st) hid).1,
      )
    where
      fewer-zones : (tie : Tie) → cond (begins_zone tie) (suc (zones st)) (zones st) ≤ j → zones st ≤ j
      fewer-zones Shares l = l
      fewer-zones Raises l = let q : suc (zones st) ≤ j = l in omega (arith, q)
      fewer-zones Lends l = let q : suc (zones st) ≤ j = l in omega (arith, q)

      lent-stays : (tie : Tie) → cond (begins_zone tie) (suc (zones st)) (zones st) ≤ j → LentStays u labels h ρ good w tie (zones st)
      lent-stays Shares l = tt
      lent-stays Raises l = tt
      lent-stays Lends l = let q : suc (zones st) ≤ j = l in own (Base w (suc (zones st))) (lower-apart w (zones st) j (omega (arith, q)))

      lower : (i x : ℕ) → (i < calls st) ⊎ ((i ≡ calls st) × (those (hidden_above below st) x ≡ true)) → i < suc (calls st)
      lower i x (inl l) = omega (arith, l)
      lower i x (inr e) = let q : i ≡ calls st = e.0 in omega (arith, q)

-- ---------- permissions ----------
-- where a value goes is a region
pub goal-there : (o : Option Ty) (entry home : Region) → is_absent entry ≡ false → is_absent home ≡ false → is_absent (goal_of o entry home) ≡ false
goal-there None entry home e h = refl
goal-there (Some Long) entry home e h = refl
goal-there (Some Boolean) entry home e h = refl
goal-there (Some (Ref Isolated s)) entry home e h = e
goal-there (Some (Ref Writable s)) entry home e h = h
goal-there (Some (Ref Readable s)) entry home e h = h
goal-there (Some (Ref Immutable s)) entry home e h = refl

pub into-there : (c : Context) (w : Way) (z : Zone) (st : List (Frame Held)) (into : Option ℕ) → is_absent (goal_into c w z st into) ≡ false
into-there c w z st None = refl
into-there c w z st (Some x) = goal-there (type_of c x) (OfVariable w (calls st) x) (OwnOf (top_zone w z st)) refl refl

-- where an isolated value goes fits what it comes into
pub goal-leads : (q : Perm) (e : Region) (z : Zone) → var_may_lead q e z (goal q e (OwnOf z)) ≡ true
goal-leads Isolated e z = region-same e
goal-leads Writable e z = region-same (OwnOf z)
goal-leads Readable e z = visible (OwnOf z) (OwnOf z) (within refl)
goal-leads Immutable e z = refl

-- what fits a permission fits each that it is at most; where it is isolated it has gone where the other takes it
pub weaker : (p q : Perm) (e : Region) (z : Zone) (r : Region) → is_at_most p q ≡ true → var_may_lead p (goal q e (OwnOf z)) z r ≡ true → var_may_lead q e z r ≡ true
weaker Isolated q e z r o k = subst (λ r. var_may_lead q e z r ≡ true) (sym (region-true r (goal q e (OwnOf z)) k)) (goal-leads q e z)
weaker Writable Isolated e z r o k = absurd (let no : false ≡ true = o in cc)
weaker Writable Writable e z r o k = k
weaker Writable Readable e z r o k = visible (OwnOf z) r (within (region-true r (OwnOf z) k))
weaker Writable Immutable e z r o k = absurd (let no : false ≡ true = o in cc)
weaker Readable Isolated e z r o k = absurd (let no : false ≡ true = o in cc)
weaker Readable Writable e z r o k = absurd (let no : false ≡ true = o in cc)
weaker Readable Readable e z r o k = k
weaker Readable Immutable e z r o k = absurd (let no : false ≡ true = o in cc)
weaker Immutable Isolated e z r o k = absurd (let no : false ≡ true = o in cc)
weaker Immutable Writable e z r o k = absurd (let no : false ≡ true = o in cc)
weaker Immutable Readable e z r o k = visible (OwnOf z) r (frozen (frozen-true r k))
weaker Immutable Immutable e z r o k = k

-- a value of a raised permission, at the end of the zone in which it stood
module _ (w : Way) (j : ℕ) where
  abbrev pub inner : Zone
  inner = Base w (suc j)

  -- where the zone doesn't begin at the one that ends, its region stays
  pub own-outside : (to : Region) (q : Zone) → is_rooted w (suc j) q ≡ false → renamed (Ends w (suc j) to) (OwnOf q) ≡ OwnOf q
  own-outside to q e = ap (λ t. cond t to (OwnOf q)) e

  pub own-inside : (to : Region) → renamed (Ends w (suc j) to) (OwnOf inner) ≡ to
  own-inside to = ap (λ t. cond t to (OwnOf inner)) (together (same_way w w) (nat_eq (suc j) (suc j)) (way-same w) (eq-itself (suc j)))

  -- where a value goes is no zone that ends
  pub goal-stays : (to e : Region) (z : Zone) (q : Perm) → is_rooted w (suc j) z ≡ false → ((r : Region) → r ≡ e → renamed (Ends w (suc j) to) r ≡ r) → renamed (Ends w (suc j) to) (goal q e (OwnOf z)) ≡ goal q e (OwnOf z)
  goal-stays to e z Isolated out f = f e refl
  goal-stays to e z Writable out f = own-outside to z out
  goal-stays to e z Readable out f = own-outside to z out
  goal-stays to e z Immutable out f = refl

  pub raised-leads : (p q : Perm) (s : Shape) (k x : ℕ) (z : Zone) (r : Region) → is_rooted w (suc j) z ≡ false → is_at_most (raised p) q ≡ true
      → var_may_lead p (goal q (OfVariable w k x) (OwnOf z)) inner r ≡ true
      → var_may_lead q (OfVariable w k x) z (renamed (Ends w (suc j) (ended_to (Some p) (goal q (OfVariable w k x) (OwnOf z)))) r) ≡ true
  raised-leads Isolated q s k x z r out o f =
      let to = goal q (OfVariable w k x) (OwnOf z) in
      subst (λ r. var_may_lead q (OfVariable w k x) z r ≡ true)
      (sym (ap (renamed (Ends w (suc j) Loose)) (region-true r to f) ∙ goal-stays Loose (OfVariable w k x) z q out (λ r e. ap (renamed (Ends w (suc j) Loose)) e ∙ sym e)))
      (goal-leads q (OfVariable w k x) z)
  raised-leads Writable q s k x z r out o f =
      let to = goal q (OfVariable w k x) (OwnOf z) in
      subst (λ r. var_may_lead q (OfVariable w k x) z r ≡ true) (sym (ap (renamed (Ends w (suc j) to)) (region-true r (OwnOf inner) f) ∙ own-inside to)) (goal-leads q (OfVariable w k x) z)
  raised-leads Readable q s k x z r out o f = weaker Immutable q (OfVariable w k x) z (renamed (Ends w (suc j) Frozen) r) o (ap (λ q. is_frozen q) (ice (sees (OwnOf inner) r f)))
    where
      ice : Sees (OwnOf inner) r → renamed (Ends w (suc j) Frozen) r ≡ Frozen
      ice (frozen e) = ap (renamed (Ends w (suc j) Frozen)) e
      ice (within e) = ap (renamed (Ends w (suc j) Frozen)) e ∙ own-inside Frozen
      ice (across y z' e f' q) = absurd (let no : false ≡ true = ap (λ y. may_read y z') (own-inj e) ∙ q in cc)
  raised-leads Immutable q s k x z r out o f = weaker Immutable q (OfVariable w k x) z (renamed (Ends w (suc j) Loose) r) o (ap (λ q. is_frozen q) (ap (renamed (Ends w (suc j) Loose)) (frozen-true r f)))

  -- a value that isn't tied is as it was
  pub lending-leads : (p q : Perm) (s : Shape) (to : Region) (k x : ℕ) (z : Zone) (r : Region) → is_rooted w (suc j) z ≡ false → is_tied (Ref p s) ≡ false → is_at_most p q ≡ true
      → var_may_lead p (goal q (OfVariable w k x) (OwnOf z)) inner r ≡ true
      → var_may_lead q (OfVariable w k x) z (renamed (Ends w (suc j) to) r) ≡ true
  lending-leads Isolated q s to k x z r out n o f =
      let home = goal q (OfVariable w k x) (OwnOf z) in
      subst (λ r. var_may_lead q (OfVariable w k x) z r ≡ true) (sym (ap (renamed (Ends w (suc j) to)) (region-true r home f) ∙ goal-stays to (OfVariable w k x) z q out (λ r e. ap (renamed (Ends w (suc j) to)) e ∙ sym e))) (goal-leads q (OfVariable w k x) z)
  lending-leads Writable q s to k x z r out n o f = absurd (let no : true ≡ false = n in cc)
  lending-leads Readable q s to k x z r out n o f = absurd (let no : true ≡ false = n in cc)
  lending-leads Immutable q s to k x z r out n o f = weaker Immutable q (OfVariable w k x) z (renamed (Ends w (suc j) to) r) o (ap (λ q. is_frozen q) (ap (renamed (Ends w (suc j) to)) (frozen-true r f)))
