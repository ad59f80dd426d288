-- A call begins: its receiver and its arguments fit the first variables of the method, what it borrows fits its zone, and what is left to the caller fits, however the call is tied.
use Rattle.std.proofs.Common.{◌≡◌, ℕ, zero, suc, ◌+◌, Bool, true, false, Some, None, List, [], ◌∷◌, ◌++◌, length, replicate, refl, sym, ap, subst, ◌∙◌, arith, inl, inr}
use Rattle.std.specs.Prelude.{◌⊎◌, ◌&&◌, ◌||◌, not, nat_eq, cond, slice_get}
use Rattle.std.specs.List.{list_any}
use Rattle.std.proofs.lemmas.Bool.Decides.{nat_tests}
use Rattle.std.proofs.lemmas.List.{length-append, length-replicate}
use Rattle.std.proofs.Math.Bool.{and-false}
use Rattle.perm_tree.specs.declared.ast.Perm.{Perm}
use Rattle.perm_tree.specs.declared.ast.Perm.TheVariants.{Isolated, Immutable, Readable, Writable}
use Rattle.perm_tree.specs.declared.ast.Shape.TheVariants.{Class}
use Rattle.perm_tree.specs.declared.ast.Ty.{Ty}
use Rattle.perm_tree.specs.declared.ast.Ty.TheVariants.{Ref}
use Rattle.perm_tree.specs.Code.{Local, Argument, Expression, Consumed, UnitCode}
use Rattle.perm_tree.specs.Ties.{is_harmless_ty}
use Rattle.perm_tree.specs.Vars.{Vars, just, IsWithin}
use Rattle.perm_tree.specs.Mentions.{arguments_consume}
use Rattle.perm_perm.specs.Order.{is_at_most}
use Rattle.perm_rules.specs.Liveness.{arguments_gone, call_gone}
use Rattle.perm_rules.specs.Parts.{Context, type_of, if_known, has_isolated, isnt_reference}
use Rattle.perm_rules.specs.Permissions.{argument_needs, arguments_weak, keeps_receiver, weak, type_if}
use Rattle.perm_rules.specs.Shapes.{arguments_misfit}
use Rattle.perm_rules.specs.Sorts.{sort_if, isnt_value_of}
use Rattle.perm_meaning.specs.Values.{Value, Gives}
use Rattle.perm_meaning.specs.Names.{Name}
use Rattle.perm_meaning.specs.Objects.{Objects}
use Rattle.perm_meaning.specs.Expressions.{tagged, held, clear}
use Rattle.perm_meaning.specs.Machine.{Way}
use Rattle.perm_meaning.specs.NamedHeap.{Held}
use Rattle.perm_meaning.proofs.Leads.{some-inj, none-some}
use Rattle.perm_meaning.proofs.SameName.{eq-true, eq-itself}
use Rattle.perm_core.specs.Regions.{Zone, Region, OwnOf, OfVariable, Labels, same_way, same_region, var_may_lead}
use Rattle.perm_core.specs.Picture.{value_fits, variables_fit, has_value, valued}
use Rattle.perm_core.specs.NextPicture.{Moves, moved, arguments_moves}
use Rattle.perm_core.proofs.KeepsPicture.Calls.CallArguments.{Hands, hands-one, arguments-hands, goal-away, Came, MayAllCome, one-comes, arguments-come}
use Rattle.perm_core.proofs.KeepsPicture.Calls.CallEnds.{set-length, goal-leads}
use Rattle.perm_core.proofs.KeepsPicture.Labels.CarriedValues.{AllFit, from-all, one-carry}
use Rattle.perm_core.proofs.KeepsPicture.Calls.Gives.{clear-cases}
use Rattle.perm_core.proofs.KeepsPicture.Turns.LeafTurns.{Evaluates, no_more, plain, consumes, plain_one}
use Rattle.perm_core.proofs.KeepsPicture.Labels.Relabellings.{is-same, region-true, region-same}
use Rattle.perm_core.proofs.KeepsPicture.Calls.Returns.{value-into}

-- ---------- lists ----------
unlike : (x y : ℕ) → (x ≡ y → ⊥) → nat_eq x y ≡ false
unlike x y n = grind (arith, nat_tests)

none-there : (n i : ℕ) (d : Value Name) → slice_get (replicate n None) i ≡ Some (Some d) → ⊥
none-there zero i d e = none-some e
none-there (suc n) zero d e = let no : ⊥ = cc e in no
none-there (suc n) (suc i) d e = none-there n i d e

-- a value among the first variables of a method is that of a parameter
first-place : (params locals : List Ty) (found : List Held) (n i : ℕ) (t : Ty) (d : Value Name) → length found ≡ length params → slice_get (params ++ locals) i ≡ Some t → slice_get (found ++ replicate n None) i ≡ Some (Some d)
    → (slice_get params i ≡ Some t) × (slice_get found i ≡ Some (Some d))
first-place params locals [] n i t d even is has = absurd (none-there n i d has)
first-place [] locals (v ∷ found) n i t d even is has = absurd (let e : suc (length found) ≡ 0 = even in omega (arith, e))
first-place (p ∷ params) locals (v ∷ found) n zero t d even is has = (is, has)
first-place (p ∷ params) locals (v ∷ found) n (suc i) t d even is has = first-place params locals found n i t d (let e : suc (length found) ≡ suc (length params) = even in omega (arith, e)) is has

-- what has a value after some arguments are taken had it before, and none of them consumes it
evaluates-cases : (args : List Argument) (vs found ws : List Held) (x : ℕ) (b : Value Name) → Evaluates args vs found ws → slice_get ws x ≡ Some (Some b) → (slice_get vs x ≡ Some (Some b)) × (arguments_consume args x ≡ false)
evaluates-cases _ _ _ _ x b (no_more vs) has = (has, refl)
evaluates-cases _ _ _ _ x b (plain e v rest vs found ws q more) has = evaluates-cases rest vs found ws x b more has
evaluates-cases _ _ _ _ x b (consumes y v rest vs found ws here q more) has =
    let o = evaluates-cases rest (clear tagged vs y) found ws x b more has in
    let c = clear-cases vs y x b o.0 in
    (c.1, ap (λ t. t || arguments_consume rest x) (unlike x y c.0) ∙ o.1)

-- ---------- the three ways ----------
module _ (u : UnitCode) (h : Objects Name) (c : Context) (w : Way) (k : ℕ) (zc zi : Zone) (q : Perm) (class : ℕ) (params : List Ty) where
  -- the type of `this`
  abbrev this_type : Ty
  this_type = Ref q (Class class)

  -- the receiver and the arguments fit the first variables, and the caller's fit that are left to it
  pub record Begun (after : Labels) (this : Held) (found saved : List Held) : Type 0 where
    pub this_fits : (d : Value Name) → this ≡ Some d → value_fits h (λ p n. var_may_lead p (OfVariable w (suc k) 0) zi (after n)) (Ref q (Class class)) d ≡ true
    pub lengths : length found ≡ length params
    pub each : (i : ℕ) (t : Ty) (d : Value Name) → slice_get params i ≡ Some t → slice_get found i ≡ Some (Some d) → value_fits h (λ p n. var_may_lead p (OfVariable w (suc k) (suc i)) zi (after n)) t d ≡ true
    pub kept : AllFit u after h zc w k c.vars saved

  -- the first variables of the method fit
  pub first-fit : (after : Labels) (this : Held) (found saved : List Held) (locals : List Ty) (n : ℕ) → length (params ++ locals) ≡ length found + n → Begun after this found saved
      → variables_fit u after h zi w (suc k) 0 (Ref q (Class class) ∷ (params ++ locals)) (this ∷ (found ++ replicate n None)) ≡ true
  first-fit after this found saved locals n count begun = from-all u after h zi w (suc k) (Ref q (Class class) ∷ (params ++ locals)) (this ∷ (found ++ replicate n None)) (record { lengths = lengths; each = each })
    where
      unset : Held
      unset = None

      lengths : suc (length (params ++ locals)) ≡ suc (length (found ++ replicate n None))
      lengths = let a = length-append found (replicate n None) in let b = length-replicate n unset in omega (arith, a, b, count)

      each : (x : ℕ) (t : Ty) (d : Value Name) → slice_get (Ref q (Class class) ∷ (params ++ locals)) x ≡ Some t → slice_get (this ∷ (found ++ replicate n None)) x ≡ Some (Some d)
          → value_fits h (λ p m. var_may_lead p (OfVariable w (suc k) x) zi (after m)) t d ≡ true
      each zero t d is has = subst (λ (s : Ty). value_fits h (λ p m. var_may_lead p (OfVariable w (suc k) 0) zi (after m)) s d ≡ true) (some-inj is) (begun.this_fits d (some-inj has))
      each (suc x) t d is has = let o = first-place params locals found n x t d begun.lengths is has in begun.each x t d o.0 o.1

  module _ (labels : Labels) (p : Perm) (y : ℕ) (args : List Argument) (G : Vars) (vs : List Held) (fit : AllFit u labels h zc w k c.vars vs) (is : type_of c y ≡ Some (Ref p (Class class))) (less : IsWithin G (valued vs))
      (shapes : arguments_misfit c args params ≡ false) (strong : arguments_weak c args params ≡ false) (needless : list_any (argument_needs c) args ≡ false) where
    same-class : (not (nat_eq class class)) ≡ false
    same-class = ap (λ t. not t) (eq-itself class)

    enough : not (is_at_most p q) ≡ false → (nat_eq class class && not (is_at_most p q)) ≡ false
    enough e = ap (λ t. nat_eq class class && t) e ∙ and-false (nat_eq class class)

    -- a receiver that is consumed comes like a first argument
    pub consumed-begins : (this : Held) (found ws : List Held) → Evaluates (Consumed y ∷ args) vs (this ∷ found) ws → call_gone true y args G ≡ false → not (is_at_most p q) ≡ false → MayAllCome u h c w k zc zi (Consumed y ∷ args)
        → Begun (λ n. moved (arguments_moves c w k 0 (Consumed y ∷ args) (Ref q (Class class) ∷ params) zi) (labels n)) this found ws
    consumed-begins this found ws is_all alive at_most may = record {
      this_fits = λ d e. came.each 0 this_type d refl (ap (λ v. Some v) e) 0 refl;
      lengths = let e : suc (length found) ≡ suc (length params) = came.lengths in omega (arith, e);
      each = λ i t d at has. came.each (suc i) t d at has (suc i) (omega arith);
      kept = came.left;
    }
      where
        came : Came u h c w k zc zi labels 0 (Consumed y ∷ args) (Ref q (Class class) ∷ params) (this ∷ found) ws
        came =
            arguments-come u h c w k zc zi (Consumed y ∷ args) labels 0 (Ref q (Class class) ∷ params) vs (this ∷ found) ws G is_all fit less alive
            (ap (λ t. t || arguments_misfit c args params) (ap (λ o. if_known o isnt_reference || isnt_value_of (sort_if o) (Ref q (Class class))) is ∙ same-class) ∙ shapes)
            (ap (λ t. t || arguments_weak c args params) (ap (λ o. weak (type_if (sort_if o)) (Some (Ref q (Class class)))) is ∙ enough at_most) ∙ strong)
            needless may

    -- one that isn't, like a last one
    pub kept-begins : (this : Held) (a : Value Name) (found ws : List Held) → this ≡ Some a → Evaluates args vs found ws → slice_get ws y ≡ Some this → arguments_gone args G ≡ false → not (is_at_most p q) ≡ false → has_isolated (Some (Ref p (Class class))) ≡ false
        → MayAllCome u h c w k zc zi args → (zc ≡ zi) ⊎ (is_harmless_ty (Some (Ref p (Class class))) ≡ true) → Begun (λ n. moved (arguments_moves c w k 1 args params zi) (labels n)) this found ws
    kept-begins this a found ws value all here alive at_most free may home = record {
      this_fits = λ d e. (let same : comes.0 ≡ d = some-inj (sym comes.1.0 ∙ e) in subst (λ (d : Value Name). value_fits h (λ p n. var_may_lead p (OfVariable w (suc k) 0) zi (after n)) (Ref q (Class class)) d ≡ true) same comes.1.1);
      lengths = came.lengths;
      each = λ i t d at has. came.each i t d at has (suc i) (omega arith);
      kept = came.left;
    }
      where
        after : Labels
        after n = moved (arguments_moves c w k 1 args params zi) (labels n)

        came : Came u h c w k zc zi labels 1 args params found ws
        came = arguments-come u h c w k zc zi args labels 1 params vs found ws G all fit less alive shapes strong needless may

        at_home : (zc ≡ zi) ⊎ (is_harmless_ty (Some (Ref p (Class class))) ≡ true) → (zc ≡ zi) ⊎ (is_harmless_ty (type_of c y) ≡ true)
        at_home (inl e) = inl e
        at_home (inr e) = inr (ap is_harmless_ty is ∙ e)

        comes : (b : Value Name) × ((this ≡ Some b) × (value_fits h (λ p n. var_may_lead p (OfVariable w (suc k) 0) zi (after n)) (Ref q (Class class)) b ≡ true))
        comes =
            one-comes u h c w k zc zi after ws came.left (Ref q (Class class)) 0 (Expression (Local y)) this ws
            (plain_one (Local y) this (ap (held tagged) (here ∙ ap (λ v. Some v) value) ∙ sym (ap (λ v. Gives v) value)))
            (ap (λ o. not (has_value o)) (here ∙ ap (λ v. Some v) value))
            (ap (λ o. isnt_value_of (sort_if o) (Ref q (Class class))) is ∙ same-class)
            (ap (λ o. weak (type_if (sort_if o)) (Some (Ref q (Class class)))) is ∙ enough at_most)
            (ap has_isolated is ∙ free) (at_home home)

    -- ---------- a receiver that is lent ----------
    -- its region becomes that of the call's zone
    abbrev lend : Region → Region
    lend r = moved (Moves (OfVariable w k y) (OwnOf zi) ∷ []) r

    lend-hands : Hands w k (just y) (Moves (OfVariable w k y) (OwnOf zi) ∷ [])
    lend-hands = hands-one w k (just y) y (OwnOf zi) (eq-itself y) refl (λ x. refl)

    beside : (x n : ℕ) → nat_eq x n ≡ false → same_region (OfVariable w k x) (OfVariable w k n) ≡ false
    beside x n e = ap (λ t. same_way w w && (nat_eq k k && t)) e ∙ (ap (λ t. same_way w w && t) (and-false (nat_eq k k)) ∙ and-false (same_way w w))

    -- no argument consumes it, so it doesn't matter when
    lend-last : arguments_consume args y ≡ false → (r : Region) → moved (arguments_moves c w k 1 args params zi) (lend r) ≡ lend (moved (arguments_moves c w k 1 args params zi) r)
    lend-last free r = by_test (same_region r (OfVariable w k y)) refl
      where
        hands : Hands w k (arguments_consume args) (arguments_moves c w k 1 args params zi)
        hands = arguments-hands w k c 1 args params zi

        go : Region → Region
        go r = moved (arguments_moves c w k 1 args params zi) r

        apart : (n : ℕ) → arguments_consume args n ≡ true → (t : Bool) → nat_eq y n ≡ t → same_region (OfVariable w k y) (OfVariable w k n) ≡ false
        apart n e false q = beside y n q
        apart n e true q = absurd (let no : true ≡ false = sym e ∙ (ap (arguments_consume args) (sym (eq-true y n q)) ∙ free) in let w : ⊥ = cc no in w)

        mine : go (OfVariable w k y) ≡ OfVariable w k y
        mine = hands.other (OfVariable w k y) (λ n e. apart n e (nat_eq y n) refl)

        by_test : (t : Bool) → same_region r (OfVariable w k y) ≡ t → go (lend r) ≡ lend (go r)
        by_test true e =
            ap go (ap (λ t. cond t (OwnOf zi) r) e) ∙ (hands.other (OwnOf zi) (λ n q. refl)
            ∙ sym (ap lend (ap go (region-true r (OfVariable w k y) e) ∙ mine) ∙ ap (λ t. cond t (OwnOf zi) (OfVariable w k y)) (region-same (OfVariable w k y))))
        by_test false e = ap go (ap (λ t. cond t (OwnOf zi) r) e) ∙ sym (ap (λ t. cond t (OwnOf zi) (go r)) (hands.onto y r e))

    -- such a method reads or writes its receiver
    unkept-leads : (q : Perm) → keeps_receiver q ≡ false → var_may_lead q (OfVariable w (suc k) 0) zi (OwnOf zi) ≡ true
    unkept-leads Isolated e = absurd (let no : ⊥ = cc e in no)
    unkept-leads Immutable e = absurd (let no : ⊥ = cc e in no)
    unkept-leads Readable e = goal-leads Readable (OfVariable w (suc k) 0) zi
    unkept-leads Writable e = goal-leads Writable (OfVariable w (suc k) 0) zi

    pub lent-begins : (this : Held) (a : Value Name) (found ws : List Held) → p ≡ Isolated → keeps_receiver q ≡ false → this ≡ Some a → Evaluates args vs found ws → slice_get ws y ≡ Some this → arguments_gone args G ≡ false → MayAllCome u h c w k zc zi args
        → Begun (λ n. moved (Moves (OfVariable w k y) (OwnOf zi) ∷ arguments_moves c w k 1 args params zi) (labels n)) this found (clear tagged ws y)
        × (value_fits h (λ p n. same_region (moved (Moves (OfVariable w k y) (OwnOf zi) ∷ arguments_moves c w k 1 args params zi) (labels n)) (OwnOf zi)) (Ref p (Class class)) a ≡ true)
    lent-begins this a found ws isolated unkept value all here alive may =
        (subst (λ (ls : Labels). Begun ls this found (clear tagged ws y)) (sym last_so) begun, subst (λ (ls : Labels). value_fits h (λ p n. same_region (ls n) (OwnOf zi)) (Ref p (Class class)) a ≡ true) (sym last_so) borrowed)
      where
        after : Labels
        after n = moved (arguments_moves c w k 1 args params zi) (labels n)

        lent : Labels
        lent n = lend (after n)

        last_so : ◌≡◌ {A = Labels} (λ n. moved (Moves (OfVariable w k y) (OwnOf zi) ∷ arguments_moves c w k 1 args params zi) (labels n)) lent
        last_so i n = lend-last (evaluates-cases args vs found ws y a all (here ∙ ap (λ v. Some v) value)).1 (labels n) i

        came : Came u h c w k zc zi labels 1 args params found ws
        came = arguments-come u h c w k zc zi args labels 1 params vs found ws G all fit less alive shapes strong needless may

        before : value_fits h (λ p n. var_may_lead p (OfVariable w k y) zc (after n)) (Ref p (Class class)) a ≡ true
        before = came.left.each y (Ref p (Class class)) a is (here ∙ ap (λ v. Some v) value)

        handed : (n : Name) → var_may_lead p (OfVariable w k y) zc (after n) ≡ true → lent n ≡ OwnOf zi
        handed n e = ap (λ t. cond t (OwnOf zi) (after n)) (subst (λ (p : Perm). var_may_lead p (OfVariable w k y) zc (after n) ≡ true) isolated e)

        borrowed : value_fits h (λ p n. same_region (lent n) (OwnOf zi)) (Ref p (Class class)) a ≡ true
        borrowed = value-into h (λ p n. var_may_lead p (OfVariable w k y) zc (after n)) (λ p n. same_region (lent n) (OwnOf zi)) p p (Class class) (Class class) a (eq-itself class) (λ n e. is-same (handed n e)) before

        this_fits : (d : Value Name) → this ≡ Some d → value_fits h (λ p n. var_may_lead p (OfVariable w (suc k) 0) zi (lent n)) (Ref q (Class class)) d ≡ true
        this_fits d e =
            subst (λ (d : Value Name). value_fits h (λ p n. var_may_lead p (OfVariable w (suc k) 0) zi (lent n)) (Ref q (Class class)) d ≡ true) (some-inj (sym value ∙ e))
            (value-into h (λ p n. var_may_lead p (OfVariable w k y) zc (after n)) (λ p n. var_may_lead p (OfVariable w (suc k) 0) zi (lent n)) p q (Class class) (Class class) a (eq-itself class)
            (λ n e. ap (λ r. var_may_lead q (OfVariable w (suc k) 0) zi r) (handed n e) ∙ unkept-leads q unkept) before)

        above : (x : ℕ) → lend (OfVariable w (suc k) x) ≡ OfVariable w (suc k) x
        above x = ap (λ t. cond t (OwnOf zi) (OfVariable w (suc k) x)) (goal-away w k (Ref Isolated (Class class)) x zi y)

        begun : Begun lent this found (clear tagged ws y)
        begun = record {
          this_fits = this_fits;
          lengths = came.lengths;
          each = λ i t d at has. one-carry u after h lend lend-hands.good w w (suc k) (suc k) (suc i) (suc i) zi zi t d (above (suc i)) refl (came.each i t d at has (suc i) (omega arith));
          kept = record {
            lengths = came.left.lengths ∙ sym (set-length ws y _);
            each = λ x t d at has.
                let o = clear-cases ws y x d has in
                one-carry u after h lend lend-hands.good w w k k x x zc zc t d (ap (λ t. cond t (OwnOf zi) (OfVariable w k x)) (beside x y (unlike x y o.0))) refl (came.left.each x t d at o.1);
          };
        }
