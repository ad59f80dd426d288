-- The arguments of a call come to its parameters one after the other: each value fits its parameter after the call's renamings, and so do the caller's variables that are left.
use Rattle.std.proofs.Common.{◌≡◌, ℕ, zero, suc, ◌+◌, Bool, true, false, Some, None, List, [], ◌∷◌, ◌++◌, length, refl, sym, ap, subst, ◌∙◌, arith, inl, inr}
use Rattle.std.specs.Prelude.{◌⊎◌, ◌&&◌, not, nat_eq, cond, slice_get}
use Rattle.std.specs.List.{list_any, list_all}
use Rattle.std.proofs.lemmas.Bool.{or_parts, or_left, or_right, and_parts}
use Rattle.std.proofs.lemmas.Bool.Decides.{nat_tests}
use Rattle.std.proofs.Math.Bool.{and-false}
use Rattle.perm_tree.specs.declared.ast.Perm.{Perm}
use Rattle.perm_tree.specs.declared.ast.Perm.TheVariants.{Isolated, Immutable, Readable, Writable}
use Rattle.perm_tree.specs.declared.ast.Shape.{Shape}
use Rattle.perm_tree.specs.declared.ast.Shape.TheVariants.{Array}
use Rattle.perm_tree.specs.declared.ast.Ty.{Ty}
use Rattle.perm_tree.specs.declared.ast.Ty.TheVariants.{Long, Bool as Boolean, Ref}
use Rattle.perm_tree.specs.Code.{Term, LongLit, BoolLit, NullLit, Local, Unary, Binary, Argument, Expression, Consumed, UnitCode}
use Rattle.perm_tree.specs.Mentions.{any_in_term, any_in_argument, argument_consumes, arguments_consume}
use Rattle.perm_tree.specs.Ties.{is_harmless, is_harmless_ty, is_harmless_consumed}
use Rattle.perm_tree.specs.Vars.{Vars, IsWithin}
use Rattle.perm_rules.specs.Liveness.{dead, after_argument, arguments_gone}
use Rattle.perm_rules.specs.Parts.{Context, type_of, has_isolated}
use Rattle.perm_rules.specs.Permissions.{argument_needs, argument_weak, arguments_weak}
use Rattle.perm_rules.specs.Shapes.{argument_misfits, arguments_misfit}
use Rattle.perm_rules.specs.Sorts.{Null as NullSort, Typed, unary_type, binary_type, term_sort, differ, isnt_value_of, term_wrong}
use Rattle.perm_rules.proofs.PartLaws.{any_in_argument-within}
use Rattle.perm_meaning.specs.Values.{Value, Gives}
use Rattle.perm_meaning.specs.Names.{Name}
use Rattle.perm_meaning.specs.Objects.{Objects}
use Rattle.perm_meaning.specs.Expressions.{tagged, eval, clear}
use Rattle.perm_meaning.specs.Machine.{Way}
use Rattle.perm_meaning.specs.NamedHeap.{Held}
use Rattle.perm_meaning.proofs.Leads.{some-inj}
use Rattle.perm_meaning.proofs.SameName.{together, eq-true, eq-itself}
use Rattle.perm_core.specs.Regions.{Zone, Region, OwnOf, OfVariable, Labels, same_way, same_region, is_absent, var_may_lead}
use Rattle.perm_core.specs.Picture.{value_fits, valued}
use Rattle.perm_core.specs.NextPicture.{Moves, Renamings, moved, goal_of, consumed_moves, arguments_moves}
use Rattle.perm_core.proofs.Progress.Evaluation.{Evaluates as EvaluatesTo, term-evaluates}
use Rattle.perm_core.proofs.KeepsPicture.Turns.Arguments.{IsPlain, unary-plain, binary-plain, plain-comes, null-comes, fit-typed, Comes, argument-comes}
use Rattle.perm_core.proofs.KeepsPicture.Calls.CallEnds.{goal-there}
use Rattle.perm_core.proofs.KeepsPicture.Turns.AssignTurns.{moves, moves-good, moves-own, moves-beside, one-cases}
use Rattle.perm_core.proofs.KeepsPicture.Labels.CarriedValues.{AllFit, one-carry}
use Rattle.perm_core.proofs.KeepsPicture.Pars.Joins.{moved-append}
use Rattle.perm_core.proofs.KeepsPicture.Turns.LeafTurns.{Evaluates, no_more, plain, consumes, Gives_one, plain_one, consumes_one}
use Rattle.perm_core.proofs.KeepsPicture.Order.LiveLists.{one-has, one-length}
use Rattle.perm_core.proofs.KeepsPicture.Labels.Relabellings.{Good, good-none, good-then, good-moves, of_variable}

-- ---------- renamings of the variables of a frame ----------
-- these renamings move at most the regions of such variables of a frame, and move nothing to the region of a variable of it
pub record Hands (w : Way) (k : ℕ) (S : Vars) (ms : Renamings) : Type 0 where
  pub good : Good (λ r. moved ms r)
  pub other : (r : Region) → ((y : ℕ) → S y ≡ true → same_region r (OfVariable w k y) ≡ false) → moved ms r ≡ r
  pub onto : (y : ℕ) (r : Region) → same_region r (OfVariable w k y) ≡ false → same_region (moved ms r) (OfVariable w k y) ≡ false

module _ (w : Way) (k : ℕ) where
  pub hands-none : (S : Vars) → Hands w k S []
  hands-none S = record { good = good-none; other = λ r off. refl; onto = λ y r e. e }

  pub hands-one : (S : Vars) (y : ℕ) (to : Region) → S y ≡ true → is_absent to ≡ false → ((x : ℕ) → same_region to (OfVariable w k x) ≡ false) → Hands w k S (Moves (OfVariable w k y) to ∷ [])
  hands-one S y to has there away = record {
    good = good-moves (OfVariable w k y) to (of_variable w k y) there;
    other = λ r off. ap (λ t. cond t to r) (off y has);
    onto = λ x r e. by_test x r e (same_region r (OfVariable w k y));
  }
    where
      by_test : (x : ℕ) (r : Region) → same_region r (OfVariable w k x) ≡ false → (t : Bool) → same_region (cond t to r) (OfVariable w k x) ≡ false
      by_test x r e true = away x
      by_test x r e false = e

  pub hands-append : (S T U : Vars) (ms ns : Renamings) → IsWithin S U → IsWithin T U → Hands w k S ms → Hands w k T ns → Hands w k U (ms ++ ns)
  hands-append S T U ms ns less more a b = record {
    good = subst Good (λ i r. sym (moved-append ms ns r) i) (good-then (λ r. moved ms r) (λ r. moved ns r) a.good b.good);
    other = λ r off. moved-append ms ns r ∙ ap (λ x. moved ns x) (a.other r (λ y e. off y (less y e))) ∙ b.other r (λ y e. off y (more y e));
    onto = λ y r e. ap (λ x. same_region x (OfVariable w k y)) (moved-append ms ns r) ∙ b.onto y (moved ms r) (a.onto y r e);
  }

  -- a parameter's region, or where else an argument goes, is no region of a variable of the caller
  pub goal-away : (t : Ty) (x : ℕ) (z : Zone) (n : ℕ) → same_region (goal_of (Some t) (OfVariable w (suc k) x) (OwnOf z)) (OfVariable w k n) ≡ false
  goal-away Long x z n = refl
  goal-away Boolean x z n = refl
  goal-away (Ref Immutable s) x z n = refl
  goal-away (Ref Readable s) x z n = refl
  goal-away (Ref Writable s) x z n = refl
  goal-away (Ref Isolated s) x z n = ap (λ t. same_way w w && (t && nat_eq x n)) (above k) ∙ and-false (same_way w w)
    where
      above : (k : ℕ) → nat_eq (suc k) k ≡ false
      above k = grind (arith, nat_tests)

  module _ (c : Context) where
    pub consumed-hands : (a : Argument) (to : Region) → is_absent to ≡ false → ((x : ℕ) → same_region to (OfVariable w k x) ≡ false) → Hands w k (argument_consumes a) (consumed_moves c w k a to)
    consumed-hands (Expression e) to there away = hands-none _
    consumed-hands (Consumed y) to there away = by_test (has_isolated (type_of c y))
      where
        by_test : (t : Bool) → Hands w k (argument_consumes (Consumed y)) (cond t (Moves (OfVariable w k y) to ∷ []) [])
        by_test true = hands-one (argument_consumes (Consumed y)) y to (eq-itself y) there away
        by_test false = hands-none _

    pub arguments-hands : (x : ℕ) (args : List Argument) (ts : List Ty) (z : Zone) → Hands w k (arguments_consume args) (arguments_moves c w k x args ts z)
    arguments-hands x [] ts z = hands-none _
    arguments-hands x (a ∷ rest) [] z = hands-none _
    arguments-hands x (a ∷ rest) (t ∷ ts) z =
        hands-append (argument_consumes a) (arguments_consume rest) (arguments_consume (a ∷ rest)) (consumed_moves c w k a (goal_of (Some t) (OfVariable w (suc k) x) (OwnOf z))) (arguments_moves c w k (suc x) rest ts z)
        (λ y e. or_left (argument_consumes a y) (arguments_consume rest y) e) (λ y e. or_right (argument_consumes a y) (arguments_consume rest y) e)
        (consumed-hands a (goal_of (Some t) (OfVariable w (suc k) x) (OwnOf z)) (goal-there (Some t) (OfVariable w (suc k) x) (OwnOf z) refl refl) (goal-away t x z)) (arguments-hands (suc x) rest ts z)

-- ---------- one argument ----------
-- where a variable isn't harmless as an argument, the call stands in its caller's zone
harmless-free : (p : Perm) (s : Shape) → is_harmless_ty (Some (Ref p s)) ≡ true → (p ≡ Readable → ⊥) × (p ≡ Writable → ⊥)
harmless-free Isolated s e = absurd (let no : ⊥ = cc e in no)
harmless-free Immutable s e = (λ q. (let no : ⊥ = cc q in no), λ q. (let no : ⊥ = cc q in no))
harmless-free Readable s e = absurd (let no : ⊥ = cc e in no)
harmless-free Writable s e = absurd (let no : ⊥ = cc e in no)

harmless-consumed : (p : Perm) (s : Shape) → is_harmless_consumed (Some (Ref p s)) ≡ true → (p ≡ Readable → ⊥) × (p ≡ Writable → ⊥)
harmless-consumed Isolated s e = (λ q. (let no : ⊥ = cc q in no), λ q. (let no : ⊥ = cc q in no))
harmless-consumed Immutable s e = (λ q. (let no : ⊥ = cc q in no), λ q. (let no : ⊥ = cc q in no))
harmless-consumed Readable s e = absurd (let no : ⊥ = cc e in no)
harmless-consumed Writable s e = absurd (let no : ⊥ = cc e in no)

-- what reads nothing that has no value stays so where more have one
pub alive-more : (a : Argument) (G S : Vars) → IsWithin G S → any_in_argument (dead G) a ≡ false → any_in_argument (dead S) a ≡ false
alive-more a G S less e = go (any_in_argument (dead S) a) (any_in_argument (dead G) a) (any_in_argument-within (dead S) (dead G) fewer a) e
  where
    fewer : IsWithin (dead S) (dead G)
    fewer x m = flip (G x) (S x) (less x) m
      where
        flip : (g s : Bool) → (g ≡ true → s ≡ true) → not s ≡ true → not g ≡ true
        flip false s f m = refl
        flip true s f m = absurd (let no : not true ≡ true = subst (λ t. not t ≡ true) (f refl) m in let w : ⊥ = cc no in w)

    go : (s g : Bool) → (s ≡ true → g ≡ true) → g ≡ false → s ≡ false
    go false g f e = refl
    go true g f e = absurd (let no : true ≡ false = sym (f refl) ∙ e in let w : ⊥ = cc no in w)

plain-gives : (vs us : List Held) (e : Term) (v : Held) → Gives_one vs (Expression e) v us → eval tagged e vs ≡ Gives v
plain-gives vs _ _ _ (plain_one e v q) = q

module _ (u : UnitCode) (h : Objects Name) (c : Context) (w : Way) (k : ℕ) (zc zi : Zone) where
  -- the call stands in its caller's zone, or the argument is harmless
  abbrev pub MayCome : Argument → Type 0
  MayCome a = (zc ≡ zi) ⊎ (is_harmless (type_of c) a ≡ true)

  -- an argument's value fits the parameter with number x
  pub one-comes : (labels : Labels) (vs : List Held) (fit : AllFit u labels h zc w k c.vars vs) (t : Ty) (x : ℕ) (a : Argument) (v : Held) (us : List Held) → Gives_one vs a v us → any_in_argument (dead (valued vs)) a ≡ false → argument_misfits c a (Some t) ≡ false
      → argument_weak c a (Some t) ≡ false → argument_needs c a ≡ false → MayCome a → (b : Value Name) × ((v ≡ Some b) × Comes u labels h c w k zc vs fit t (OfVariable w (suc k) x) zi a b)
  one-comes labels vs fit t x a v us one live fits strong needs home = go a one live fits strong needs home
    where
      Result : Argument → Type 0
      Result a = (b : Value Name) × ((v ≡ Some b) × Comes u labels h c w k zc vs fit t (OfVariable w (suc k) x) zi a b)

      evaluated : (e : Term) → Gives_one vs (Expression e) v us → any_in_term (dead (valued vs)) e ≡ false → term_wrong c e ≡ false → EvaluatesTo (term_sort c e) (Gives v)
      evaluated e one live right = subst (λ x. EvaluatesTo (term_sort c e) x) (plain-gives vs us e v one) (term-evaluates c (valued vs) vs (fit-typed u labels h c w k zc vs fit) e live right)

      plain-value : (s : Ty) (v' : Held) (e : Term) → v ≡ v' → IsPlain s → EvaluatesTo (Typed s) (Gives v') → differ s t ≡ false → (b : Value Name) × ((v ≡ Some b) × (value_fits h (λ p n. var_may_lead p (OfVariable w (suc k) x) zi (labels n)) t b ≡ true))
      plain-value s None e q p is kind = absurd is
      plain-value s (Some b) e q p is kind = (b, (q, plain-comes h (λ p n. var_may_lead p (OfVariable w (suc k) x) zi (labels n)) s t b p is kind))

      null-value : (v' : Held) (e : Term) → v ≡ v' → EvaluatesTo NullSort (Gives v') → isnt_value_of NullSort t ≡ false → (b : Value Name) × ((v ≡ Some b) × (value_fits h (λ p n. var_may_lead p (OfVariable w (suc k) x) zi (labels n)) t b ≡ true))
      null-value None e q is kind = absurd is
      null-value (Some b) e q is kind = (b, (q, null-comes h (λ p n. var_may_lead p (OfVariable w (suc k) x) zi (labels n)) t b is kind))

      at_home : (n : ℕ) → (zc ≡ zi) ⊎ (is_harmless_ty (type_of c n) ≡ true) → (m : ℕ) (p : Perm) (s : Shape) → nat_eq m n ≡ true → type_of c m ≡ Some (Ref p s) → (p ≡ Readable → zc ≡ zi) × (p ≡ Writable → zc ≡ zi)
      at_home n (inl e) m p s q is = (λ r. e, λ r. e)
      at_home n (inr e) m p s q is =
          let f = harmless-free p s (sym (ap is_harmless_ty (ap (type_of c) (sym (eq-true m n q)) ∙ is)) ∙ e) in
          (λ r. absurd (f.0 r), λ r. absurd (f.1 r))

      consumed-home : (n : ℕ) → (zc ≡ zi) ⊎ (is_harmless_consumed (type_of c n) ≡ true) → (m : ℕ) (p : Perm) (s : Shape) → nat_eq m n ≡ true → type_of c m ≡ Some (Ref p s) → (p ≡ Readable → zc ≡ zi) × (p ≡ Writable → zc ≡ zi)
      consumed-home n (inl e) m p s q is = (λ r. e, λ r. e)
      consumed-home n (inr e) m p s q is =
          let f = harmless-consumed p s (sym (ap is_harmless_consumed (ap (type_of c) (sym (eq-true m n q)) ∙ is)) ∙ e) in
          (λ r. absurd (f.0 r), λ r. absurd (f.1 r))

      go : (a : Argument) → Gives_one vs a v us → any_in_argument (dead (valued vs)) a ≡ false → argument_misfits c a (Some t) ≡ false → argument_weak c a (Some t) ≡ false → argument_needs c a ≡ false → MayCome a → Result a
      go (Consumed n) one live fits strong needs home =
          argument-comes u labels h c w k zc vs fit t (OfVariable w (suc k) x) zi (Consumed n) v us one live fits strong needs (consumed-home n home)
      go (Expression (Local n)) one live fits strong needs home =
          argument-comes u labels h c w k zc vs fit t (OfVariable w (suc k) x) zi (Expression (Local n)) v us one live fits strong needs (at_home n home)
      go (Expression (LongLit n)) one live fits strong needs home =
          let d = or_parts (term_wrong c (LongLit n)) (isnt_value_of (term_sort c (LongLit n)) t) fits in
          plain-value Long v (LongLit n) refl tt (evaluated (LongLit n) one live d.0) d.1
      go (Expression (BoolLit n)) one live fits strong needs home =
          let d = or_parts (term_wrong c (BoolLit n)) (isnt_value_of (term_sort c (BoolLit n)) t) fits in
          plain-value Boolean v (BoolLit n) refl tt (evaluated (BoolLit n) one live d.0) d.1
      go (Expression NullLit) one live fits strong needs home =
          let d = or_parts (term_wrong c NullLit) (isnt_value_of (term_sort c NullLit) t) fits in
          null-value v NullLit refl (evaluated NullLit one live d.0) d.1
      go (Expression (Unary op e)) one live fits strong needs home =
          let d = or_parts (term_wrong c (Unary op e)) (isnt_value_of (term_sort c (Unary op e)) t) fits in
          plain-value (unary_type op) v (Unary op e) refl (unary-plain op) (evaluated (Unary op e) one live d.0) d.1
      go (Expression (Binary op e f)) one live fits strong needs home =
          let d = or_parts (term_wrong c (Binary op e f)) (isnt_value_of (term_sort c (Binary op e f)) t) fits in
          plain-value (binary_type op) v (Binary op e f) refl (binary-plain op) (evaluated (Binary op e f) one live d.0) d.1

  -- ---------- all arguments ----------
  -- what is left of the caller's variables fits after an argument's renamings
  next-fit : (labels : Labels) (vs us : List Held) (a : Argument) (v : Held) (to : Region) (there : is_absent to ≡ false) → Gives_one vs a v us → AllFit u labels h zc w k c.vars vs → AllFit u (λ n. moved (consumed_moves c w k a to) (labels n)) h zc w k c.vars us
  next-fit labels vs us a v to there one fit = record {
    lengths = fit.lengths ∙ sym (one-length vs us a v one);
    each = λ n t d is has.
        let o = one-cases vs us a v n d one has in
        one-carry u labels h (moves u labels h c w k to there a) (moves-good u labels h c w k to there a) w w k k n n zc zc t d (moves-beside u labels h c w k to there a n o.1) (moves-own u labels h c w k to there a zc) (fit.each n t d is o.0);
  }

  -- the arguments came to the parameters from number x on, and these variables are left
  pub record Came (labels : Labels) (x : ℕ) (args : List Argument) (ts : List Ty) (found ws : List Held) : Type 0 where
    pub lengths : length found ≡ length ts
    pub each : (i : ℕ) (t : Ty) (d : Value Name) → slice_get ts i ≡ Some t → slice_get found i ≡ Some (Some d) → (n : ℕ) → n ≡ x + i
        → value_fits h (λ p m. var_may_lead p (OfVariable w (suc k) n) zi (moved (arguments_moves c w k x args ts zi) (labels m))) t d ≡ true
    pub left : AllFit u (λ m. moved (arguments_moves c w k x args ts zi) (labels m)) h zc w k c.vars ws

  -- the call stands in its caller's zone, or all arguments are harmless
  abbrev pub MayAllCome : List Argument → Type 0
  MayAllCome args = (zc ≡ zi) ⊎ (list_all (is_harmless (type_of c)) args ≡ true)

  came-none : (labels : Labels) (x : ℕ) (vs : List Held) → AllFit u labels h zc w k c.vars vs → Came labels x [] [] [] vs
  came-none labels x vs fit = record { lengths = refl; each = λ i t d is has n q. absurd (let no : ⊥ = cc is in no); left = fit }

  came-more : (labels : Labels) (x : ℕ) (a : Argument) (rest : List Argument) (t : Ty) (ts : List Ty) (v : Held) (found ws : List Held) (b : Value Name) → v ≡ Some b
      → value_fits h (λ p m. var_may_lead p (OfVariable w (suc k) x) zi (moved (consumed_moves c w k a (goal_of (Some t) (OfVariable w (suc k) x) (OwnOf zi))) (labels m))) t b ≡ true
      → Came (λ m. moved (consumed_moves c w k a (goal_of (Some t) (OfVariable w (suc k) x) (OwnOf zi))) (labels m)) (suc x) rest ts found ws
      → Came labels x (a ∷ rest) (t ∷ ts) (v ∷ found) ws
  came-more labels x a rest t ts v found ws b value comes came = record {
    lengths = ap (λ n. suc n) came.lengths;
    each = each;
    left = subst (λ (ls : Labels). AllFit u ls h zc w k c.vars ws) (sym split) came.left;
  }
    where
      first_moves : Renamings
      first_moves = consumed_moves c w k a (goal_of (Some t) (OfVariable w (suc k) x) (OwnOf zi))

      later_moves : Renamings
      later_moves = arguments_moves c w k (suc x) rest ts zi

      first : Labels
      first m = moved first_moves (labels m)

      split : ◌≡◌ {A = Labels} (λ m. moved (first_moves ++ later_moves) (labels m)) (λ m. moved later_moves (first m))
      split i m = moved-append first_moves later_moves (labels m) i

      hands : Hands w k (arguments_consume rest) later_moves
      hands = arguments-hands w k c (suc x) rest ts zi

      Fits : ℕ → Ty → Value Name → Type 0
      Fits n s d = value_fits h (λ p m. var_may_lead p (OfVariable w (suc k) n) zi (moved (first_moves ++ later_moves) (labels m))) s d ≡ true

      stays : moved later_moves (OfVariable w (suc k) x) ≡ OfVariable w (suc k) x
      stays = hands.other (OfVariable w (suc k) x) (λ y e. goal-away w k (Ref Isolated Array) x zi y)

      new : Fits x t b
      new =
          subst (λ (ls : Labels). value_fits h (λ p m. var_may_lead p (OfVariable w (suc k) x) zi (ls m)) t b ≡ true) (sym split)
          (one-carry u first h (λ r. moved later_moves r) hands.good w w (suc k) (suc k) x x zi zi t b stays (hands.other (OwnOf zi) (λ y e. refl)) comes)

      each : (i : ℕ) (s : Ty) (d : Value Name) → slice_get (t ∷ ts) i ≡ Some s → slice_get (v ∷ found) i ≡ Some (Some d) → (n : ℕ) → n ≡ x + i → Fits n s d
      each zero s d is has n q =
          let at : x ≡ n = omega (arith, q) in
          let same : b ≡ d = some-inj (sym value ∙ some-inj has) in
          subst (λ (n : ℕ). Fits n s d) at (subst (λ (s : Ty). Fits x s d) (some-inj is) (subst (λ (d : Value Name). Fits x t d) same new))
      each (suc i) s d is has n q =
          subst (λ (ls : Labels). value_fits h (λ p m. var_may_lead p (OfVariable w (suc k) n) zi (ls m)) s d ≡ true) (sym split) (came.each i s d is has n (omega (arith, q)))

  next-alive : (vs us : List Held) (a : Argument) (v : Held) (G : Vars) → Gives_one vs a v us → IsWithin G (valued vs) → IsWithin (after_argument a G) (valued us)
  next-alive vs us a v G one less y e =
      let q = and_parts (G y) (not (argument_consumes a y)) e in
      (one-has vs us a v one).1 y (together (valued vs y) (not (argument_consumes a y)) (less y q.0) q.1)

  one-may : (a : Argument) (rest : List Argument) → MayAllCome (a ∷ rest) → MayCome a × MayAllCome rest
  one-may a rest (inl e) = (inl e, inl e)
  one-may a rest (inr e) = let q = and_parts (is_harmless (type_of c) a) (list_all (is_harmless (type_of c)) rest) e in (inr q.0, inr q.1)

  -- arguments that are allowed beside parameters of these types come to them
  pub arguments-come : (args : List Argument) (labels : Labels) (x : ℕ) (ts : List Ty) (vs found ws : List Held) (G : Vars) → Evaluates args vs found ws → AllFit u labels h zc w k c.vars vs → IsWithin G (valued vs) → arguments_gone args G ≡ false
      → arguments_misfit c args ts ≡ false → arguments_weak c args ts ≡ false → list_any (argument_needs c) args ≡ false → MayAllCome args → Came labels x args ts found ws
  arguments-come _ labels x [] _ _ _ G (no_more vs) fit less gone misfit weak needs may = came-none labels x vs fit
  arguments-come _ labels x (t ∷ ts) _ _ _ G (no_more vs) fit less gone misfit weak needs may = absurd (let no : ⊥ = cc misfit in no)
  arguments-come _ labels x [] _ _ _ G (plain e v rest vs found ws q more) fit less gone misfit weak needs may = absurd (let no : ⊥ = cc misfit in no)
  arguments-come _ labels x [] _ _ _ G (consumes y v rest vs found ws here q more) fit less gone misfit weak needs may = absurd (let no : ⊥ = cc misfit in no)
  arguments-come _ labels x (t ∷ ts) _ _ _ G (plain e v rest vs found ws q more) fit less gone misfit weak needs may =
      let a : Argument = Expression e in
      let one = plain_one e v q in
      let g = or_parts (any_in_argument (dead G) a) (arguments_gone rest (after_argument a G)) gone in
      let m = or_parts (argument_misfits c a (Some t)) (arguments_misfit c rest ts) misfit in
      let s = or_parts (argument_weak c a (Some t)) (arguments_weak c rest ts) weak in
      let n = or_parts (argument_needs c a) (list_any (argument_needs c) rest) needs in
      let y = one-may a rest may in
      let comes = one-comes labels vs fit t x a v vs one (alive-more a G (valued vs) less g.0) m.0 s.0 n.0 y.0 in
      came-more labels x a rest t ts v found ws comes.0 comes.1.0 comes.1.1
      (arguments-come rest (λ m. moved (consumed_moves c w k a (goal_of (Some t) (OfVariable w (suc k) x) (OwnOf zi))) (labels m)) (suc x) ts vs found ws (after_argument a G) more
      (next-fit labels vs vs a v (goal_of (Some t) (OfVariable w (suc k) x) (OwnOf zi)) (goal-there (Some t) (OfVariable w (suc k) x) (OwnOf zi) refl refl) one fit)
      (next-alive vs vs a v G one less) g.1 m.1 s.1 n.1 y.1)
  arguments-come _ labels x (t ∷ ts) _ _ _ G (consumes z v rest vs found ws here q more) fit less gone misfit weak needs may =
      let a : Argument = Consumed z in
      let us : List Held = clear tagged vs z in
      let one = consumes_one z v here q in
      let g = or_parts (any_in_argument (dead G) a) (arguments_gone rest (after_argument a G)) gone in
      let m = or_parts (argument_misfits c a (Some t)) (arguments_misfit c rest ts) misfit in
      let s = or_parts (argument_weak c a (Some t)) (arguments_weak c rest ts) weak in
      let n = or_parts (argument_needs c a) (list_any (argument_needs c) rest) needs in
      let y = one-may a rest may in
      let comes = one-comes labels vs fit t x a v us one (alive-more a G (valued vs) less g.0) m.0 s.0 n.0 y.0 in
      came-more labels x a rest t ts v found ws comes.0 comes.1.0 comes.1.1
      (arguments-come rest (λ m. moved (consumed_moves c w k a (goal_of (Some t) (OfVariable w (suc k) x) (OwnOf zi))) (labels m)) (suc x) ts us found ws (after_argument a G) more
      (next-fit labels vs us a v (goal_of (Some t) (OfVariable w (suc k) x) (OwnOf zi)) (goal-there (Some t) (OfVariable w (suc k) x) (OwnOf zi) refl refl) one fit)
      (next-alive vs us a v G one less) g.1 m.1 s.1 n.1 y.1)
