-- A par begins: what is allowed of its head lets each variable go to its side, and then the parent and both sides fit.
use Rattle.std.proofs.Common.{◌≡◌, ℕ, ◌<◌, Bool, true, false, Option, Some, None, List, length, refl, sym, ap, subst, ◌∙◌, arith, le_refl, inl, inr}
use Rattle.std.specs.Prelude.{◌⊎◌, ◌&&◌, ◌||◌, ◌-◌, ◌/◌, not, nat_eq, slice_get}
use Rattle.std.proofs.lemmas.Bool.{or_parts}
use Rattle.std.proofs.lemmas.Bool.Decides.{nat_tests}
use Rattle.perm_tree.specs.declared.ast.Perm.{Perm}
use Rattle.perm_tree.specs.declared.ast.Perm.TheVariants.{Isolated, Writable}
use Rattle.perm_tree.specs.declared.ast.Shape.{Shape}
use Rattle.perm_tree.specs.declared.ast.Ty.{Ty}
use Rattle.perm_tree.specs.declared.ast.Ty.TheVariants.{Ref}
use Rattle.perm_tree.specs.declared.errors.TypeKind.TheVariants.{ParShared, ParPermission}
use Rattle.perm_tree.specs.Code.{Code, Routine, UnitCode}
use Rattle.perm_tree.specs.CodeNames.{is_tied}
use Rattle.perm_tree.specs.Mentions.{block_mentions}
use Rattle.perm_tree.specs.Names.{is_writable}
use Rattle.perm_tree.specs.Vars.{Vars, below, those, meet}
use Rattle.perm_rules.specs.declared.ParMode.{ParMode}
use Rattle.perm_rules.specs.Parts.{Context, type_of, if_known, if_reference, has_isolated}
use Rattle.perm_rules.specs.Pars.{uses, touches, isolated_vars, writable_vars, tied_vars, some_var, has_writable, can_stand_alone, mode_by, mode_of, par_head}
use Rattle.perm_rules.specs.Refusals.{IsAllowed}
use Rattle.perm_rules.proofs.PartLaws.{applies-none}
use Rattle.perm_meaning.specs.Names.{Name}
use Rattle.perm_meaning.specs.Objects.{Objects}
use Rattle.perm_meaning.specs.Expressions.{tagged}
use Rattle.perm_meaning.specs.Custody.{is_isolated, vars_of_routine, var_types, isolated_in, in_neither, only, mentions_l, mentions_r, writes_l, writes_r, back_l, back_r}
use Rattle.perm_meaning.specs.Machine.{Frame, Blocks, Way, Here, GoL, GoR, Splits, side_of, done}
use Rattle.perm_meaning.specs.NamedHeap.{Held, Branch}
use Rattle.perm_meaning.specs.Turns.{blocks}
use Rattle.perm_meaning.proofs.SameName.{together}
use Rattle.perm_core.specs.Core.{core}
use Rattle.perm_core.specs.Regions.{Zone, Base, Under, Region, OfVariable, Labels, same_way, calls, zones, top_zone, left_zone, right_zone}
use Rattle.perm_core.specs.Picture.{context_if, context_of, mode_in, variables_fit, stack_fits, branch_fits, tree_fits, object_fits, hidden_above, stack_hidden}
use Rattle.perm_core.specs.NextPicture.{moved, isolated_among, handed, par_moves}
use Rattle.perm_core.proofs.KeepsPicture.Calls.CallEnds.{StartsLow, stack-stays, nothing-below, get-less}
use Rattle.perm_core.proofs.KeepsPicture.Labels.CarriedValues.{stack-carry}
use Rattle.perm_core.proofs.KeepsPicture.Pars.Joins.{moved-append}
use Rattle.perm_core.proofs.KeepsPicture.Order.LiveTurns.{below-less}
use Rattle.perm_core.proofs.KeepsPicture.Pars.ParStarts as starts
use Rattle.perm_core.proofs.KeepsPicture.Pars.ParStarts.{MayGo, stays, reads, alone}
use Rattle.perm_core.proofs.KeepsPicture.Turns.PlainTurns.{whole}

-- ---------- what is allowed of a head ----------
not-true : (b : Bool) → not b ≡ true → b ≡ false
not-true true e = absurd (let no : ⊥ = cc e in no)
not-true false e = refl

clash : {A : Type 0} (b : Bool) → b ≡ true → b ≡ false → A
clash b e f = absurd (let no : true ≡ false = sym e ∙ f in let z : ⊥ = cc no in z)

module _ (u : UnitCode) (c : Context) (own1 : List ℕ) (a : Code) (own2 : List ℕ) (d : Code) (G : Vars) (allowed : IsAllowed c (par_head c own1 a own2 d) G) where
  abbrev used_l : Vars
  used_l = uses c own1 a

  abbrev used_r : Vars
  used_r = uses c own2 d

  abbrev mode : ParMode
  mode = mode_of c (uses c own1 a) (uses c own2 d)

  -- a typed variable that stands in a block is used by it
  is-used : (own : List ℕ) (e : Code) (x : ℕ) (t : Ty) → type_of c x ≡ Some t → block_mentions own e x ≡ true → uses c own e x ≡ true
  is-used own e x t is m = together (below (length c.vars) x) (block_mentions own e x) (below-less u (length c.vars) x (get-less c.vars x t is)) m

  -- a variable of the method that passes a test is some variable
  some-holds : (S : Vars) (x : ℕ) (t : Ty) → type_of c x ≡ Some t → S x ≡ true → some_var c S ≡ false → ⊥
  some-holds S x t is e none = clash (S x) e (nothing-below (length c.vars) S x (get-less c.vars x t is) none)

  -- no isolated variable stands in both blocks
  pub one-side : (x : ℕ) (s : Shape) → type_of c x ≡ Some (Ref Isolated s) → block_mentions own1 a x ≡ true → block_mentions own2 d x ≡ true → ⊥
  one-side x s is l r =
      let shared = or_parts (some_var c (meet (touches c own1 a) used_r)) (some_var c (meet (touches c own2 d) used_l) || some_var c (meet (isolated_vars c) (meet used_l used_r))) (applies-none c (par_head c own1 a own2 d) G allowed ParShared) in
      let more = or_parts (some_var c (meet (touches c own2 d) used_l)) (some_var c (meet (isolated_vars c) (meet used_l used_r))) shared.1 in
      some-holds (meet (isolated_vars c) (meet used_l used_r)) x (Ref Isolated s) is
      (together (isolated_vars c x) (meet used_l used_r x) (ap has_isolated is) (together (used_l x) (used_r x) (is-used own1 a x (Ref Isolated s) is l) (is-used own2 d x (Ref Isolated s) is r))) more.1

  -- a block in which no writable variable stands
  no-writable : (U : Vars) (x : ℕ) (s : Shape) → type_of c x ≡ Some (Ref Writable s) → U x ≡ true → has_writable c U ≡ false → ⊥
  no-writable U x s is e none = some-holds (meet (writable_vars c) U) x (Ref Writable s) is (together (writable_vars c x) (U x) (ap (λ o. if_reference o is_writable) is) e) none

  -- a block that can stand alone
  not-tied : (U : Vars) (x : ℕ) (p : Perm) (s : Shape) → type_of c x ≡ Some (Ref p s) → U x ≡ true → can_stand_alone c U ≡ true → is_tied (Ref p s) ≡ true → ⊥
  not-tied U x p s is e can tied = some-holds (meet (tied_vars c) U) x (Ref p s) is (together (tied_vars c x) (U x) (ap (λ o. if_known o is_tied) is ∙ tied) e) (not-true (some_var c (meet (tied_vars c) U)) can)

  alone-may : (U : Vars) (x : ℕ) (p : Perm) (s : Shape) (z y : Zone) → type_of c x ≡ Some (Ref p s) → U x ≡ true → can_stand_alone c U ≡ true → MayGo p z y
  alone-may U x p s z y is e can =
      alone y (λ q. not-tied U x p s is e can (ap (λ p. is_tied (Ref p s)) q)) (λ q. not-tied U x p s is e can (ap (λ p. is_tied (Ref p s)) q))

  reads-may : (U : Vars) (x : ℕ) (p : Perm) (s : Shape) (z : Zone) (v : Way) → type_of c x ≡ Some (Ref p s) → U x ≡ true → has_writable c U ≡ false → MayGo p z (Under v z)
  reads-may U x p s z v is e none = reads v (λ q. no-writable U x s (is ∙ ap (λ p. Some (Ref p s)) q) e none)

  -- whichever mode it is, each variable may go to its side
  pub left-may : (z : Zone) (l : Way) (x : ℕ) (p : Perm) (s : Shape) → type_of c x ≡ Some (Ref p s) → block_mentions own1 a x ≡ true → MayGo p z (left_zone mode l z)
  left-may z l x p s is m = go (has_writable c used_l || has_writable c used_r) (can_stand_alone c used_l) refl refl
    where
      go : (w can : Bool) → (has_writable c used_l || has_writable c used_r) ≡ w → can_stand_alone c used_l ≡ can → MayGo p z (left_zone (mode_by w can) l z)
      go false can e f = reads-may used_l x p s z l is (is-used own1 a x (Ref p s) is m) (or_parts (has_writable c used_l) (has_writable c used_r) e).0
      go true true e f = alone-may used_l x p s z (Base l 0) is (is-used own1 a x (Ref p s) is m) f
      go true false e f = stays

  pub right-may : (z : Zone) (r : Way) (x : ℕ) (p : Perm) (s : Shape) → type_of c x ≡ Some (Ref p s) → block_mentions own2 d x ≡ true → MayGo p z (right_zone mode r z)
  right-may z r x p s is m = go (has_writable c used_l || has_writable c used_r) (can_stand_alone c used_l) refl refl
    where
      other : (w can more : Bool) → w ≡ true → can ≡ false → (w && not (can || more)) ≡ false → more ≡ true
      other true false true e f g = refl
      other true false false e f g = absurd (let no : ⊥ = cc g in no)
      other true true more e f g = absurd (let no : ⊥ = cc f in no)
      other false can more e f g = absurd (let no : ⊥ = cc e in no)

      go : (w can : Bool) → (has_writable c used_l || has_writable c used_r) ≡ w → can_stand_alone c used_l ≡ can → MayGo p z (right_zone (mode_by w can) r z)
      go false can e f = reads-may used_r x p s z r is (is-used own2 d x (Ref p s) is m) (or_parts (has_writable c used_l) (has_writable c used_r) e).1
      go true true e f = stays
      go true false e f =
          alone-may used_r x p s z (Base r 0) is (is-used own2 d x (Ref p s) is m)
          (other (has_writable c used_l || has_writable c used_r) (can_stand_alone c used_l) (can_stand_alone c used_r) e f (applies-none c (par_head c own1 a own2 d) G allowed ParPermission))

-- the types by which a method's variables are isolated are those of its context
typed-same : (u : UnitCode) (m x : ℕ) → slice_get (var_types u m) x ≡ type_of (context_of u m) x
typed-same u m x = go (slice_get u.routines m)
  where
    go : (o : Option Routine) → slice_get (vars_of_routine o) x ≡ slice_get (context_if u o).vars x
    go None = refl
    go (Some r) = refl

less-apart : (i k : ℕ) → i < k → nat_eq i k ≡ false
less-apart i k less = grind (arith, nat_tests)

off : (a b c : Bool) → b ≡ false → (a && (b && c)) ≡ false
off true b c e = ap (λ t. t && c) e
off false b c e = refl

-- ---------- the turn ----------
module _ (u : UnitCode) (labels : Labels) (h : Objects Name) where
  -- the labels after a par begins
  abbrev pub parted : Context → (Way → Way) → List (Frame Held) → Blocks → Labels
  parted c at st p n = moved (par_moves u labels c at st p) (labels n)

  -- one change after the other is both
  parted-both : (c : Context) (at : Way → Way) (st : List (Frame Held)) (p : Blocks) → parted c at st p ≡ (λ n. moved (handed u labels (at Here) (calls st) (at (GoR Here)) 0 (isolated_among u labels c (mentions_r p))) (moved (handed u labels (at Here) (calls st) (at (GoL Here)) 0 (isolated_among u labels c (mentions_l p))) (labels n)))
  parted-both c at st p i n = moved-append (handed u labels (at Here) (calls st) (at (GoL Here)) 0 (isolated_among u labels c (mentions_l p))) (handed u labels (at Here) (calls st) (at (GoR Here)) 0 (isolated_among u labels c (mentions_r p))) (labels n) i

  -- the parent and both sides fit, where no hidden variable stands in a block
  pub split-fits : (at : Way → Way) (z : Zone) (b : Branch) (t : ℕ) (own1 : List ℕ) (a : Code) (own2 : List ℕ) (d rest below_code : Code) (below : List ℕ) (G : Vars)
      → same_way (at (GoL Here)) (at Here) ≡ false → same_way (at (GoR Here)) (at Here) ≡ false → StartsLow (at Here) z
      → IsAllowed (context_of u b.own.routine) (par_head (context_of u b.own.routine) own1 a own2 d) G
      → ((y : ℕ) → those (hidden_above below b.stack) y ≡ true → (block_mentions own1 a y ≡ false) × (block_mentions own2 d y ≡ false))
      → variables_fit u labels h (top_zone (at Here) z b.stack) (at Here) (calls b.stack) 0 (context_of u b.own.routine).vars b.own.vars ≡ true → stack_fits u labels h (at Here) z b.own.routine b.stack ≡ true → stack_hidden below below_code b.stack ≡ true
      → tree_fits u (parted (context_of u b.own.routine) at b.stack (blocks own1 a own2 d)) h at z (done (core u) b t (Splits (blocks own1 a own2 d) rest)) ≡ true
  split-fits at z b t own1 a own2 d rest below_code below G apart_l apart_r low allowed aside vars stack hid =
      subst (λ (ls : Labels). tree_fits u ls h at z (done (core u) b t (Splits p rest)) ≡ true) (sym (parted-both c at b.stack p))
      (together (branch_fits u after h w z parent) (left && right) (whole u after h w z parent kept_fit stack_fit)
      (together left right (whole u after h l (left_zone m l top) left_branch left_fit refl) (whole u after h r (right_zone m r top) right_branch right_fit refl)))
    where
      c : Context
      c = context_of u b.own.routine

      p : Blocks
      p = blocks own1 a own2 d

      w : Way
      w = at Here

      l : Way
      l = at (GoL Here)

      r : Way
      r = at (GoR Here)

      k : ℕ
      k = calls b.stack

      top : Zone
      top = top_zone w z b.stack

      m : ParMode
      m = mode_in u b.own.routine p

      A : Vars
      A = block_mentions own1 a

      B : Vars
      B = block_mentions own2 d

      one : (x : ℕ) (s : Shape) → type_of c x ≡ Some (Ref Isolated s) → A x ≡ true → B x ≡ true → ⊥
      one = one-side u c own1 a own2 d G allowed

      after : Labels
      after = starts.after u labels h w l r top k c A B apart_l apart_r one

      ρ : Region → Region
      ρ = starts.ρ u labels h w l r top k c A B apart_l apart_r one

      kept : Vars
      kept = in_neither (back_l u b.own.routine p) (back_r u b.own.routine p)

      parent : Branch
      parent = record b { own = record b.own { vars = only tagged kept b.own.vars; mark = (core u).marks.after_par b.own.mark }; turns = 0; code = rest }

      left_branch : Branch
      left_branch = side_of (core u) b ((core u).marks.to_left b.own.mark) (only tagged A b.own.vars) (t - t / 2) a

      right_branch : Branch
      right_branch = side_of (core u) b ((core u).marks.to_right b.own.mark) (only tagged B b.own.vars) (t / 2) d

      left : Bool
      left = branch_fits u after h l (left_zone m l top) left_branch

      right : Bool
      right = branch_fits u after h r (right_zone m r top) right_branch

      left_fit : variables_fit u after h (left_zone m l top) l 0 0 c.vars (only tagged A b.own.vars) ≡ true
      left_fit = starts.left-fits u labels h w l r top k c A B apart_l apart_r one b.own.vars vars (left_zone m l top) (λ x p s is e. left-may u c own1 a own2 d G allowed top l x p s is e)

      right_fit : variables_fit u after h (right_zone m r top) r 0 0 c.vars (only tagged B b.own.vars) ≡ true
      right_fit = starts.right-fits u labels h w l r top k c A B apart_l apart_r one b.own.vars vars (right_zone m r top) (λ x p s is e. right-may u c own1 a own2 d G allowed top r x p s is e)

      -- an isolated variable that the parent keeps stands in neither block
      none-back : (x : ℕ) (s : Shape) (W N : Vars) → type_of c x ≡ Some (Ref Isolated s) → (W x || (isolated_in u b.own.routine x && N x)) ≡ false → N x ≡ false
      none-back x s W N is e = go (W x) (isolated_in u b.own.routine x) (N x) (ap is_isolated (typed-same u b.own.routine x ∙ is)) e
        where
          go : (f i n : Bool) → i ≡ true → (f || (i && n)) ≡ false → n ≡ false
          go true i n q e = absurd (let no : ⊥ = cc e in no)
          go false true n q e = e
          go false false n q e = absurd (let no : ⊥ = cc q in no)

      kept_fit : variables_fit u after h top w k 0 c.vars (only tagged kept b.own.vars) ≡ true
      kept_fit = starts.parent-fits u labels h w l r top k c A B apart_l apart_r one b.own.vars vars kept (λ x s is e. neither x s is (or_parts (back_l u b.own.routine p x) (back_r u b.own.routine p x) (not-true (back_l u b.own.routine p x || back_r u b.own.routine p x) e)))
        where
          neither : (x : ℕ) (s : Shape) → type_of c x ≡ Some (Ref Isolated s) → (back_l u b.own.routine p x ≡ false) × (back_r u b.own.routine p x ≡ false) → (A x ≡ false) × (B x ≡ false)
          neither x s is q = (none-back x s (writes_l p) A is q.0, none-back x s (writes_r p) B is q.1)

      stack_fit : stack_fits u after h w z b.own.routine b.stack ≡ true
      stack_fit =
          stack-carry u labels h ρ (starts.good u labels h w l r top k c A B apart_l apart_r one) w z b.own.routine b.stack
          (stack-stays u labels h ρ (starts.good u labels h w l r top k c A B apart_l apart_r one) w z below below_code b.stack (zones b.stack) beside (λ q e. starts.own-stays u labels h w l r top k c A B apart_l apart_r one q) low (le_refl (zones b.stack)) hid) stack
        where
          beside : (i x : ℕ) → (i < calls b.stack) ⊎ ((i ≡ calls b.stack) × (those (hidden_above below b.stack) x ≡ true)) → ρ (OfVariable w i x) ≡ OfVariable w i x
          beside i x (inl less) = starts.stays-put u labels h w l r top k c A B apart_l apart_r one (OfVariable w i x) (λ y. off (same_way w w) (nat_eq i k) (nat_eq x y) (less-apart i k less))
          beside i x (inr same) = subst (λ n. ρ (OfVariable w n x) ≡ OfVariable w n x) (sym same.0) (starts.keeps u labels h w l r top k c A B apart_l apart_r one x (aside x same.1).0 (aside x same.1).1)

  -- and so do the objects
  pub split-objects : (at : Way → Way) (st : List (Frame Held)) (c : Context) (own1 : List ℕ) (a : Code) (own2 : List ℕ) (d : Code) (G : Vars) → same_way (at (GoL Here)) (at Here) ≡ false → same_way (at (GoR Here)) (at Here) ≡ false
      → IsAllowed c (par_head c own1 a own2 d) G → (z : Zone) → ((n : Name) → object_fits u labels h n (h n) ≡ true) → (n : Name) → object_fits u (parted c at st (blocks own1 a own2 d)) h n (h n) ≡ true
  split-objects at st c own1 a own2 d G apart_l apart_r allowed z all n =
      subst (λ (ls : Labels). object_fits u ls h n (h n) ≡ true) (sym (parted-both c at st (blocks own1 a own2 d)))
      (starts.objects-fit u labels h (at Here) (at (GoL Here)) (at (GoR Here)) z (calls st) c (block_mentions own1 a) (block_mentions own2 d) apart_l apart_r (one-side u c own1 a own2 d G allowed) all n)
