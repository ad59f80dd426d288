-- An argument's value is assigned to a variable: the branch and the objects fit after it.
use Rattle.std.proofs.Common.{◌≡◌, ℕ, ◌<◌, Bool, true, false, Some, List, [], ◌∷◌, refl, sym, ap, subst, ◌∙◌, arith, le_refl, inl, inr}
use Rattle.std.specs.Prelude.{◌⊎◌, ◌&&◌, ◌||◌, nat_eq, cond, slice_get}
use Rattle.std.proofs.lemmas.Bool.Decides.{nat_tests}
use Rattle.perm_tree.specs.declared.ast.Span.{Span}
use Rattle.perm_tree.specs.declared.ast.Ty.{Ty}
use Rattle.perm_tree.specs.declared.errors.TypeKind.TheVariants.{WrongKind, Gone, NeedsConsume, PermissionTooWeak}
use Rattle.perm_tree.specs.Code.{Argument, Expression, Consumed, Assign, Code, Do, UnitCode}
use Rattle.perm_tree.specs.Mentions.{any_in_argument, mentions}
use Rattle.perm_tree.specs.Vars.{Vars, those}
use Rattle.perm_rules.specs.Parts.{Context, Simple, type_of, has_isolated}
use Rattle.perm_rules.specs.Permissions.{argument_weak}
use Rattle.perm_rules.specs.Shapes.{argument_misfits}
use Rattle.perm_rules.specs.Refusals.{IsAllowed}
use Rattle.perm_rules.proofs.PartLaws.{applies-none, part-known}
use Rattle.perm_meaning.specs.Values.{Value}
use Rattle.perm_meaning.specs.Names.{Name}
use Rattle.perm_meaning.specs.Objects.{Objects}
use Rattle.perm_meaning.specs.Expressions.{assign}
use Rattle.perm_meaning.specs.Machine.{Frame, Way, Here, On, done}
use Rattle.perm_meaning.specs.NamedHeap.{Held, Own, Branch}
use Rattle.perm_meaning.proofs.Leads.{some-inj}
use Rattle.perm_meaning.proofs.SameName.{eq-itself}
use Rattle.perm_core.specs.Core.{core}
use Rattle.perm_core.specs.Regions.{Zone, Region, OwnOf, OfVariable, OfField, Labels, same_way, same_region, is_absent, var_may_lead, calls, zones, top_zone}
use Rattle.perm_core.specs.Picture.{context_of, value_fits, variables_fit, stack_fits, tree_fits, object_fits, valued, hidden_above, context_above, RestGoes, stack_hidden}
use Rattle.perm_core.specs.NextPicture.{Moves, moved, goal_of, goal_at, consumed_moves}
use Rattle.perm_core.proofs.KeepsPicture.Turns.Arguments.{get-some, Comes, argument-comes}
use Rattle.perm_core.proofs.KeepsPicture.Calls.CallEnds.{StartsLow, set-cases, set-length, stack-stays, goal-there}
use Rattle.perm_core.proofs.KeepsPicture.Labels.CarriedValues.{AllFit, to-all, from-all, one-carry, stack-carry}
use Rattle.perm_core.proofs.KeepsPicture.Calls.Gives.{clear-cases}
use Rattle.perm_core.proofs.KeepsPicture.Order.HiddenVariables.{top-goes, statement-shown}
use Rattle.perm_core.proofs.KeepsPicture.Turns.LeafTurns.{Gives_one, plain_one, consumes_one}
use Rattle.perm_core.proofs.KeepsPicture.Order.LiveLists.{one-length}
use Rattle.perm_core.proofs.KeepsPicture.Turns.PlainTurns.{on-fits}
use Rattle.perm_core.proofs.KeepsPicture.Labels.Relabellings.{Good, good-none, good-moves, of_variable, FieldsStay, object-carry}

-- ---------- what a consumed argument moves ----------
module _ (u : UnitCode) (labels : Labels) (h : Objects Name) (c : Context) (w : Way) (k : ℕ) (to : Region) (there : is_absent to ≡ false) where
  abbrev pub moves : Argument → Region → Region
  moves a r = moved (consumed_moves c w k a to) r

  pub moves-good : (a : Argument) → Good (moves a)
  moves-good (Expression e) = good-none
  moves-good (Consumed y) = by_test (has_isolated (type_of c y))
    where
      by_test : (t : Bool) → Good (λ r. moved (cond t (Moves (OfVariable w k y) to ∷ []) []) r)
      by_test true = good-moves (OfVariable w k y) to (of_variable w k y) there
      by_test false = good-none

  -- what isn't the region of the consumed variable stays
  pub moves-other : (a : Argument) (r : Region) → ((y : ℕ) → a ≡ Consumed y → same_region r (OfVariable w k y) ≡ false) → moves a r ≡ r
  moves-other (Expression e) r off = refl
  moves-other (Consumed y) r off = by_test (has_isolated (type_of c y))
    where
      by_test : (t : Bool) → moved (cond t (Moves (OfVariable w k y) to ∷ []) []) r ≡ r
      by_test true = ap (λ t. cond t to r) (off y refl)
      by_test false = refl

  pub moves-own : (a : Argument) (z : Zone) → moves a (OwnOf z) ≡ OwnOf z
  moves-own a z = moves-other a (OwnOf z) (λ y q. refl)

  pub moves-fields : (a : Argument) → FieldsStay u labels h (moves a) (moves-good a)
  moves-fields a o f = inl (moves-other a (OfField o f) (λ y q. refl))

  -- so does that of another variable of the frame, and that of a lower frame
  pub moves-beside : (a : Argument) (x : ℕ) → ((y : ℕ) → a ≡ Consumed y → x ≡ y → ⊥) → moves a (OfVariable w k x) ≡ OfVariable w k x
  moves-beside a x apart = moves-other a (OfVariable w k x) (λ y q. off (same_way w w) (nat_eq k k) (nat_eq x y) (differs x y (apart y q)))
    where
      differs : (x y : ℕ) → (x ≡ y → ⊥) → nat_eq x y ≡ false
      differs x y n = grind (arith, nat_tests)

      off : (a b e : Bool) → e ≡ false → (a && (b && e)) ≡ false
      off true true e q = q
      off true false e q = refl
      off false b e q = refl

  pub moves-lower : (a : Argument) (i x : ℕ) → i < k → moves a (OfVariable w i x) ≡ OfVariable w i x
  moves-lower a i x less = moves-other a (OfVariable w i x) (λ y q. off (same_way w w) (nat_eq i k) (nat_eq x y) (differs i k less))
    where
      differs : (i k : ℕ) → i < k → nat_eq i k ≡ false
      differs i k less = grind (arith, nat_tests)

      off : (a b e : Bool) → b ≡ false → (a && (b && e)) ≡ false
      off true b e q = ap (λ t. t && e) q
      off false b e q = refl

-- what is left of the variables when an argument is evaluated was there before, and isn't consumed
pub one-cases : (vs ws : List Held) (a : Argument) (v : Held) (x : ℕ) (b : Value Name) → Gives_one vs a v ws → slice_get ws x ≡ Some (Some b) → (slice_get vs x ≡ Some (Some b)) × ((y : ℕ) → a ≡ Consumed y → x ≡ y → ⊥)
one-cases vs _ _ _ x b (plain_one e v q) has = (has, λ y q. absurd (let no : ⊥ = cc q in no))
one-cases vs _ _ _ x b (consumes_one z v here q) has =
    let p = clear-cases vs z x b has in
    (p.1, λ y q same. p.0 (same ∙ (let i : y ≡ z = cc q in i)))

module _ (u : UnitCode) (labels : Labels) (h : Objects Name) (at : Way → Way) (z : Zone) (low : StartsLow (at Here) z) (below : List ℕ) (b : Branch) (span : Span) (x : ℕ) (a : Argument) (rest : Code) (st : List (Frame Held)) (H : Vars) (v : Held) (ws : List Held)
    (goes : RestGoes u below b.own.routine (Do span (Assign x a) rest) st (valued b.own.vars) H) (vars : variables_fit u labels h (top_zone (at Here) z st) (at Here) (calls st) 0 (context_of u b.own.routine).vars b.own.vars ≡ true)
    (stack : stack_fits u labels h (at Here) z b.own.routine st ≡ true) (hid : stack_hidden below (Do span (Assign x a) rest) st ≡ true) (one : Gives_one b.own.vars a v ws) where
  abbrev c : Context
  c = context_of u b.own.routine

  -- the labels after the assignment
  abbrev pub assigned : Labels
  assigned n = moved (consumed_moves c (at Here) (calls st) a (goal_at c (at Here) z st x)) (labels n)

  fit : AllFit u labels h (top_zone (at Here) z st) (at Here) (calls st) c.vars b.own.vars
  fit = to-all u labels h (top_zone (at Here) z st) (at Here) (calls st) c.vars b.own.vars vars

  allowed : IsAllowed (context_above u below b.own.routine st) (Simple (Assign x a)) (valued b.own.vars)
  allowed = (top-goes u below b.own.routine (Do span (Assign x a) rest) st (valued b.own.vars) H goes).1.0

  type : (t : Ty) × (type_of c x ≡ Some t)
  type = get-some c.vars x (part-known (context_above u below b.own.routine st) (Simple (Assign x a)) (valued b.own.vars) allowed x (first (nat_eq x x) (any_in_argument (nat_eq x) a) (eq-itself x)))
    where
      first : (p q : Bool) → p ≡ true → (p || q) ≡ true
      first true q e = refl
      first false q e = absurd (let no : ⊥ = cc e in no)

  abbrev to : Region
  to = goal_at c (at Here) z st x

  to-there : is_absent to ≡ false
  to-there = goal-there (type_of c x) (OfVariable (at Here) (calls st) x) (OwnOf (top_zone (at Here) z st)) refl refl

  home : to ≡ goal_of (Some type.0) (OfVariable (at Here) (calls st) x) (OwnOf (top_zone (at Here) z st))
  home = ap (λ o. goal_of o (OfVariable (at Here) (calls st) x) (OwnOf (top_zone (at Here) z st))) type.1

  -- the value fits the variable
  comes : (d : Value Name) × ((v ≡ Some d) × Comes u labels h c (at Here) (calls st) (top_zone (at Here) z st) b.own.vars fit type.0 (OfVariable (at Here) (calls st) x) (top_zone (at Here) z st) a d)
  comes =
      argument-comes u labels h c (at Here) (calls st) (top_zone (at Here) z st) b.own.vars fit type.0 (OfVariable (at Here) (calls st) x) (top_zone (at Here) z st) a v ws one
      (applies-none (context_above u below b.own.routine st) (Simple (Assign x a)) (valued b.own.vars) allowed Gone)
      (sym (ap (λ o. argument_misfits (context_above u below b.own.routine st) a o) type.1) ∙ applies-none (context_above u below b.own.routine st) (Simple (Assign x a)) (valued b.own.vars) allowed WrongKind)
      (sym (ap (λ o. argument_weak (context_above u below b.own.routine st) a o) type.1) ∙ applies-none (context_above u below b.own.routine st) (Simple (Assign x a)) (valued b.own.vars) allowed PermissionTooWeak)
      (applies-none (context_above u below b.own.routine st) (Simple (Assign x a)) (valued b.own.vars) allowed NeedsConsume)
      (λ y p s m q. (λ e. refl, λ e. refl))

  vars-fit : variables_fit u assigned h (top_zone (at Here) z st) (at Here) (calls st) 0 c.vars (assign ws x v) ≡ true
  vars-fit = from-all u assigned h (top_zone (at Here) z st) (at Here) (calls st) c.vars (assign ws x v) (record { lengths = fit.lengths ∙ sym (set-length ws x v ∙ one-length b.own.vars ws a v one); each = each })
    where
      Fits : ℕ → Ty → Value Name → Type 0
      Fits n t d = value_fits h (λ p m. var_may_lead p (OfVariable (at Here) (calls st) n) (top_zone (at Here) z st) (assigned m)) t d ≡ true

      new : (d : Value Name) → v ≡ Some d → Fits x type.0 d
      new d q =
          let same : comes.0 ≡ d = some-inj (sym comes.1.0 ∙ q) in
          subst (λ (g : Region). value_fits h (λ p m. var_may_lead p (OfVariable (at Here) (calls st) x) (top_zone (at Here) z st) (moved (consumed_moves c (at Here) (calls st) a g) (labels m))) type.0 d ≡ true) (sym home)
          (subst (λ (e : Value Name). Comes u labels h c (at Here) (calls st) (top_zone (at Here) z st) b.own.vars fit type.0 (OfVariable (at Here) (calls st) x) (top_zone (at Here) z st) a e) same comes.1.1)

      each : (n : ℕ) (t : Ty) (d : Value Name) → slice_get c.vars n ≡ Some t → slice_get (assign ws x v) n ≡ Some (Some d) → Fits n t d
      each n t d is has = pick (set-cases ws x v n (Some d) has)
        where
          pick : ((n ≡ x) × (v ≡ Some d)) ⊎ ((n ≡ x → ⊥) × (slice_get ws n ≡ Some (Some d))) → Fits n t d
          pick (inl q) =
              let same : type.0 ≡ t = some-inj (sym type.1 ∙ ap (slice_get c.vars) (sym q.0) ∙ is) in
              subst (λ (m : ℕ). Fits m t d) (sym q.0) (subst (λ (s : Ty). Fits x s d) same (new d q.1))
          pick (inr q) =
              let o = one-cases b.own.vars ws a v n d one q.1 in
              one-carry u labels h (moves u labels h c (at Here) (calls st) to to-there a) (moves-good u labels h c (at Here) (calls st) to to-there a) (at Here) (at Here) (calls st) (calls st) n n (top_zone (at Here) z st) (top_zone (at Here) z st) t d
              (moves-beside u labels h c (at Here) (calls st) to to-there a n o.1) (moves-own u labels h c (at Here) (calls st) to to-there a (top_zone (at Here) z st)) (fit.each n t d is o.0)

  stack-fit : stack_fits u assigned h (at Here) z b.own.routine st ≡ true
  stack-fit =
      stack-carry u labels h (moves u labels h c (at Here) (calls st) to to-there a) (moves-good u labels h c (at Here) (calls st) to to-there a) (at Here) z b.own.routine st
      (stack-stays u labels h (moves u labels h c (at Here) (calls st) to to-there a) (moves-good u labels h c (at Here) (calls st) to to-there a) (at Here) z below (Do span (Assign x a) rest) st (zones st) stays (λ q e. moves-own u labels h c (at Here) (calls st) to to-there a q) low (le_refl (zones st)) hid) stack
    where
      stands : (a : Argument) (y : ℕ) → a ≡ Consumed y → mentions (Assign x a) y ≡ true
      stands (Expression e) y q = absurd (let no : ⊥ = cc q in no)
      stands (Consumed n) y q = let same : n ≡ y = cc q in second (nat_eq y x) (nat_eq y n) (ap (nat_eq y) same ∙ eq-itself y)
        where
          second : (p q : Bool) → q ≡ true → (p || q) ≡ true
          second true q e = refl
          second false q e = e

      stays : (i n : ℕ) → (i < calls st) ⊎ ((i ≡ calls st) × (those (hidden_above below st) n ≡ true)) → moves u labels h c (at Here) (calls st) to to-there a (OfVariable (at Here) i n) ≡ OfVariable (at Here) i n
      stays i n (inl less) = moves-lower u labels h c (at Here) (calls st) to to-there a i n less
      stays i n (inr q) =
          subst (λ (j : ℕ). moves u labels h c (at Here) (calls st) to to-there a (OfVariable (at Here) j n) ≡ OfVariable (at Here) j n) (sym q.0)
          (moves-beside u labels h c (at Here) (calls st) to to-there a n (λ y e same. unmentioned y e (ap (λ (m : ℕ). those (hidden_above below st) m) (sym same) ∙ q.1)))
        where
          unmentioned : (y : ℕ) → a ≡ Consumed y → those (hidden_above below st) y ≡ true → ⊥
          unmentioned y e hidden = let no : true ≡ false = sym (stands a y e) ∙ statement-shown u below b.own.routine span (Assign x a) rest st (valued b.own.vars) H goes y hidden in let w : ⊥ = cc no in w

  -- the branch that goes on fits
  pub assign-fits : (l : Own) (t : ℕ) → l.vars ≡ assign ws x v → l.routine ≡ b.own.routine → tree_fits u assigned h at z (done (core u) b t (On l rest st)) ≡ true
  assign-fits l t same routine = on-fits u assigned h (at Here) z b l t b.own.routine (assign ws x v) rest st same routine vars-fit stack-fit at refl

  -- and so do the objects
  pub assign-objects : ((n : Name) → object_fits u labels h n (h n) ≡ true) → (n : Name) → object_fits u assigned h n (h n) ≡ true
  assign-objects all n = object-carry u labels h (moves u labels h c (at Here) (calls st) to to-there a) (moves-good u labels h c (at Here) (calls st) to to-there a) (moves-fields u labels h c (at Here) (calls st) to to-there a) n (h n) (all n)
