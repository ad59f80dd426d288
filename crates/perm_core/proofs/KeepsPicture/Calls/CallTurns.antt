-- A call begins: the branch that goes on in the method and the objects fit after it, however the call is tied.
use Rattle.std.proofs.Common.{◌≡◌, ℕ, suc, ◌+◌, ◌-◌, ◌<◌, Bool, true, false, Option, Some, None, List, [], ◌∷◌, ◌++◌, length, replicate, refl, sym, ap, subst, ◌∙◌, arith, le_refl, inl, inr}
use Rattle.std.specs.Prelude.{◌⊎◌, ◌&&◌, ◌||◌, not, nat_eq, slice_get}
use Rattle.std.specs.List.{list_any, list_all}
use Rattle.std.proofs.lemmas.Bool.{or_cases, or_left, or_right, or_parts, and_parts}
use Rattle.std.proofs.lemmas.Bool.Decides.{nat_tests}
use Rattle.std.proofs.lemmas.List.{length-append}
use Rattle.std.proofs.Math.Bool.{and-false}
use Rattle.perm_tree.specs.declared.ast.Perm.{Perm}
use Rattle.perm_tree.specs.declared.ast.Shape.TheVariants.{Class}
use Rattle.perm_tree.specs.declared.ast.Span.{Span}
use Rattle.perm_tree.specs.declared.ast.Ty.{Ty}
use Rattle.perm_tree.specs.declared.ast.Ty.TheVariants.{Ref}
use Rattle.perm_tree.specs.Code.{Argument, Expression, Consumed, Tie, Shares, Raises, Lends, Invoke, Code, Do, Routine, UnitCode}
use Rattle.perm_tree.specs.CodeNames.{is_tied}
use Rattle.perm_tree.specs.Mentions.{any_in_argument, any_in_option, argument_consumes, arguments_consume, mentions}
use Rattle.perm_tree.specs.Ties.{is_harmless, is_harmless_consumed}
use Rattle.perm_tree.specs.Vars.{Vars, just, those, IsWithin}
use Rattle.perm_rules.specs.Liveness.{dead, after_arguments, arguments_gone}
use Rattle.perm_rules.specs.Parts.{Context, Simple, type_of, has_isolated}
use Rattle.perm_rules.specs.Permissions.{keeps_receiver}
use Rattle.perm_rules.specs.Refusals.{IsAllowed}
use Rattle.perm_rules.specs.Scoping.{is_scoped}
use Rattle.perm_rules.specs.Goes.{context}
use Rattle.perm_meaning.specs.Values.{Value, Reference}
use Rattle.perm_meaning.specs.Names.{Name}
use Rattle.perm_meaning.specs.Objects.{Objects}
use Rattle.perm_meaning.specs.Expressions.{tagged}
use Rattle.perm_meaning.specs.Effects.{first_vars}
use Rattle.perm_meaning.specs.Custody.{Moves as Moving, while_called, lent_by}
use Rattle.perm_meaning.specs.Machine.{Frame, OpenCall, Way, Here, On, done}
use Rattle.perm_meaning.specs.NamedHeap.{Held, Own, Branch}
use Rattle.perm_meaning.proofs.SameName.{together, eq-itself}
use Rattle.perm_core.specs.Core.{core}
use Rattle.perm_core.specs.Marked.{call_right, calls_right}
use Rattle.perm_core.specs.Regions.{Zone, Base, OwnOf, OfVariable, OfField, Labels, same_way, same_region, calls, zones, top_zone}
use Rattle.perm_core.specs.Picture.{context_if, context_of, variables_fit, lent_right, lent_fits, result_fits, stack_fits, tree_fits, object_fits, valued, hidden_above, context_above, RestGoes, stack_right, stack_hidden}
use Rattle.perm_core.specs.NextPicture.{Renamings, moved, goal, zone_of_call, receiver_moves, arguments_moves, call_moves}
use Rattle.perm_core.specs.Whole.{IsWholeRoutine, IsWhole}
use Rattle.perm_core.proofs.KeepsPicture.Calls.CallArguments.{Hands, hands-none, hands-one, hands-append, goal-away, consumed-hands, arguments-hands}
use Rattle.perm_core.proofs.KeepsPicture.Calls.CallBeginnings.{Begun, first-fit, consumed-begins, kept-begins, lent-begins}
use Rattle.perm_core.proofs.KeepsPicture.Calls.CallEnds.{StartsLow, goal-there, stack-stays}
use Rattle.perm_core.proofs.KeepsPicture.Labels.CarriedValues.{AllFit, to-all, from-all, stack-carry}
use Rattle.perm_core.proofs.KeepsPicture.Order.HiddenVariables.{top-goes, statement-shown}
use Rattle.perm_core.proofs.KeepsPicture.Turns.LeafTurns.{Begins, Receives, first, last, consumes}
use Rattle.perm_core.proofs.KeepsPicture.Turns.PlainTurns.{on-fits}
use Rattle.perm_core.proofs.KeepsPicture.Labels.Relabellings.{object-carry}
use Rattle.perm_core.proofs.KeepsPicture.Calls.RightCalls.{RightCall, right-call, result-right, raised-harmless, raised-consumed, raised-kept, shared-kept, harmless-unlent, lent-isolated, lent-harmless}
use Rattle.perm_core.proofs.KeepsPicture.Order.RightCode.{top-right}

-- ---------- what a call moves ----------
-- what some arguments consume stands in them
consumed-stands : (args : List Argument) → IsWithin (arguments_consume args) (λ x. list_any (any_in_argument (nat_eq x)) args)
consumed-stands [] x e = absurd (let no : ⊥ = cc e in no)
consumed-stands (a ∷ rest) x e = go (λ q. consumed-stands rest x q) a (or_cases (argument_consumes a x) (arguments_consume rest x) e)
  where
    go : (arguments_consume rest x ≡ true → list_any (any_in_argument (nat_eq x)) rest ≡ true) → (a : Argument) → (argument_consumes a x ≡ true) ⊎ (arguments_consume rest x ≡ true) → (any_in_argument (nat_eq x) a || list_any (any_in_argument (nat_eq x)) rest) ≡ true
    go more (Expression e) (inl q) = absurd (let no : ⊥ = cc q in no)
    go more (Consumed y) (inl q) = or_left (nat_eq x y) (list_any (any_in_argument (nat_eq x)) rest) q
    go more a (inr q) = or_right (any_in_argument (nat_eq x) a) (list_any (any_in_argument (nat_eq x)) rest) (more q)

module _ (c : Context) (w : Way) (k : ℕ) (into : Option ℕ) (tie : Tie) (consumed : Bool) (y m : ℕ) (args : List Argument) (r : Routine) (z : Zone) where
  abbrev standing : Vars
  standing = mentions (Invoke into tie consumed y m args)

  receiver-stands : IsWithin (just y) standing
  receiver-stands x e = or_right (any_in_option (nat_eq x) into) (nat_eq x y || list_any (any_in_argument (nat_eq x)) args) (or_left (nat_eq x y) (list_any (any_in_argument (nat_eq x)) args) e)

  arguments-stand : IsWithin (arguments_consume args) standing
  arguments-stand x e =
      or_right (any_in_option (nat_eq x) into) (nat_eq x y || list_any (any_in_argument (nat_eq x)) args) (or_right (nat_eq x y) (list_any (any_in_argument (nat_eq x)) args) (consumed-stands args x e))

  -- a call moves regions of variables alone that stand in it
  pub call-hands : Hands w k standing (receiver_moves c w k tie consumed y r.receiver z ++ arguments_moves c w k 1 args r.params z)
  call-hands = hands-append w k (just y) (arguments_consume args) standing (receiver_moves c w k tie consumed y r.receiver z) (arguments_moves c w k 1 args r.params z) receiver-stands arguments-stand (receiver tie consumed) (arguments-hands w k c 1 args r.params z)
    where
      kept : Hands w k (just y) (receiver_moves c w k Shares true y r.receiver z)
      kept = consumed-hands w k c (Consumed y) (goal r.receiver (OfVariable w (suc k) 0) (OwnOf z)) (goal-there (Some (Ref r.receiver (Class r.class))) (OfVariable w (suc k) 0) (OwnOf z) refl refl) (goal-away w k (Ref r.receiver (Class r.class)) 0 z)

      receiver : (t : Tie) (b : Bool) → Hands w k (just y) (receiver_moves c w k t b y r.receiver z)
      receiver Shares true = kept
      receiver Raises true = kept
      receiver Shares false = hands-none w k (just y)
      receiver Raises false = hands-none w k (just y)
      receiver Lends b = hands-one w k (just y) y (OwnOf z) (eq-itself y) refl (λ x. refl)

-- ---------- however it is tied ----------
module _ (u : UnitCode) (labels : Labels) (h : Objects Name) (c : Context) (w : Way) (z : Zone) (st : List (Frame Held)) (l : Own) (fit : AllFit u labels h (top_zone w z st) w (calls st) c.vars l.vars) where
  -- the labels after it
  abbrev pub after : Tie → Bool → ℕ → List Argument → Routine → Labels
  after tie consumed y args r n = moved (receiver_moves c w (calls st) tie consumed y r.receiver (zone_of_call tie w z st) ++ arguments_moves c w (calls st) 1 args r.params (zone_of_call tie w z st)) (labels n)

  -- what fits after it
  abbrev pub Starts : Tie → Bool → ℕ → List Argument → Routine → Held → List Held → List Held → Type 0
  Starts tie consumed y args r this found vs =
      Begun u h c w (calls st) (top_zone w z st) (zone_of_call tie w z st) r.receiver r.class r.params (after tie consumed y args r) this found (while_called tagged Moving tie y vs)
      × ((lent_right u (after tie consumed y args r) h tie (type_of c y) (lent_by Moving tie this) && lent_fits u (after tie consumed y args r) h (Base w (suc (zones st))) (type_of c y) (lent_by Moving tie this)) ≡ true)

  pub call-starts : (into : Option ℕ) (tie : Tie) (consumed : Bool) (y : ℕ) (args : List Argument) (r : Routine) (p : Perm) (G : Vars) (this : Held) (a : Value Name) (found vs : List Held) → RightCall c into tie consumed y args r p G → IsWithin G (valued l.vars) → this ≡ Some a
      → Receives u l consumed y args this found vs → Starts tie consumed y args r this found vs
  call-starts into Shares _ _ _ r p G _ a _ _ right less value (first y args this found vs here q is) = (
    consumed-begins u h c w (calls st) (top_zone w z st) (top_zone w z st) r.receiver r.class r.params labels p y args G l.vars fit right.is less right.fit right.strong right.needless this found vs (consumes y this args l.vars found vs here q is) right.alive right.receiver (inl refl),
    refl,
  )
  call-starts into Shares _ _ _ r p G _ a _ _ right less value (last y args this found vs is here) =
      let alive = or_parts (arguments_gone args G) (dead (after_arguments args G) y) right.alive in (
        kept-begins u h c w (calls st) (top_zone w z st) (top_zone w z st) r.receiver r.class r.params labels p y args G l.vars fit right.is less right.fit right.strong right.needless this a found vs value is here alive.0 right.receiver
            (shared-kept p (Class r.class) (list_all (is_harmless (type_of c)) args) right.tied) (inl refl) (inl refl),
        refl,
      )
  call-starts into Raises _ _ _ r p G _ a _ _ right less value (first y args this found vs here q is) =
      let all = raised-harmless p (Class r.class) true (list_all (is_harmless (type_of c)) args) right.tied in
      let own = raised-consumed p (Class r.class) (list_all (is_harmless (type_of c)) args) right.tied in (
        consumed-begins u h c w (calls st) (top_zone w z st) (Base w (suc (zones st))) r.receiver r.class r.params labels p y args G l.vars fit right.is less right.fit right.strong right.needless this found vs (consumes y this args l.vars found vs here q is) right.alive right.receiver
            (inr (together (is_harmless (type_of c) (Consumed y)) (list_all (is_harmless (type_of c)) args) (ap is_harmless_consumed right.is ∙ own) all)),
        refl,
      )
  call-starts into Raises _ _ _ r p G _ a _ _ right less value (last y args this found vs is here) =
      let all = raised-harmless p (Class r.class) false (list_all (is_harmless (type_of c)) args) right.tied in
      let own = raised-kept p (Class r.class) (list_all (is_harmless (type_of c)) args) right.tied in
      let alive = or_parts (arguments_gone args G) (dead (after_arguments args G) y) right.alive in (
        kept-begins u h c w (calls st) (top_zone w z st) (Base w (suc (zones st))) r.receiver r.class r.params labels p y args G l.vars fit right.is less right.fit right.strong right.needless this a found vs value is here alive.0 right.receiver
            (harmless-unlent p (Class r.class) own) (inr all) (inr own),
        refl,
      )
  call-starts into Lends _ _ _ r p G _ a _ _ right less value (first y args this found vs here q is) =
      absurd (let no : true ≡ false = (lent-isolated p (Class r.class) true (list_all (is_harmless (type_of c)) args) right.tied).1 in let w : ⊥ = cc no in w)
  call-starts into Lends _ _ _ r p G _ a _ _ right less value (last y args this found vs is here) =
      let alive = or_parts (arguments_gone args G) (dead (after_arguments args G) y) right.alive in
      let isolated = (lent-isolated p (Class r.class) false (list_all (is_harmless (type_of c)) args) right.tied).0 in
      let all = (lent-harmless (keeps_receiver r.receiver) (list_all (is_harmless (type_of c)) args) (not (is_tied r.result)) right.unkept right.unbarred).0 in
      let begun =
      lent-begins u h c w (calls st) (top_zone w z st) (Base w (suc (zones st))) r.receiver r.class r.params labels p y args G l.vars fit right.is less right.fit right.strong right.needless this a found vs isolated right.unkept value is here alive.0 (inr all) in (
        begun.0,
        together (has_isolated (type_of c y)) (lent_fits u (after Lends false y args r) h (Base w (suc (zones st))) (type_of c y) (Some this))
            (ap has_isolated right.is ∙ ap (λ q. has_isolated (Some (Ref q (Class r.class)))) isolated)
            (ap (λ o. lent_fits u (after Lends false y args r) h (Base w (suc (zones st))) o (Some this)) right.is
            ∙ ap (λ v. lent_fits u (after Lends false y args r) h (Base w (suc (zones st))) (Some (Ref p (Class r.class))) (Some v)) value ∙ begun.1),
      )

-- ---------- the turn ----------
module _ (u : UnitCode) (whole : IsWhole u) (labels : Labels) (h : Objects Name) (at : Way → Way) (z : Zone) (low : StartsLow (at Here) z) (below : List ℕ) (b : Branch) (span : Span) (into : Option ℕ) (tie : Tie) (consumed : Bool) (y m : ℕ) (args : List Argument) (rest : Code) (st : List (Frame Held)) (H : Vars) (r : Routine) (this : Held) (found vs : List Held)
    (begins : Begins u b.own tie consumed y m args r this found vs)
    (goes : RestGoes u below b.own.routine (Do span (Invoke into tie consumed y m args) rest) st (valued b.own.vars) H)
    (vars : variables_fit u labels h (top_zone (at Here) z st) (at Here) (calls st) 0 (context_of u b.own.routine).vars b.own.vars ≡ true)
    (stack : stack_fits u labels h (at Here) z b.own.routine st ≡ true) (hid : stack_hidden below (Do span (Invoke into tie consumed y m args) rest) st ≡ true)
    (right : stack_right u b.own.routine (Do span (Invoke into tie consumed y m args) rest) st (valued b.own.vars) ≡ true) where
  abbrev c : Context
  c = context_of u b.own.routine

  -- the labels after the call has begun
  abbrev pub called : Labels
  called n = moved (call_moves c (at Here) z st tie consumed y args (slice_get u.routines m)) (labels n)

  abbrev moves : Renamings
  moves = receiver_moves c (at Here) (calls st) tie consumed y r.receiver (zone_of_call tie (at Here) z st) ++ arguments_moves c (at Here) (calls st) 1 args r.params (zone_of_call tie (at Here) z st)

  abbrev then : Labels
  then n = moved moves (labels n)

  called-so : called ≡ then
  called-so i n = moved (call_moves c (at Here) z st tie consumed y args (begins.here i)) (labels n)

  fit : AllFit u labels h (top_zone (at Here) z st) (at Here) (calls st) c.vars b.own.vars
  fit = to-all u labels h (top_zone (at Here) z st) (at Here) (calls st) c.vars b.own.vars vars

  tied : call_right c (Invoke into tie consumed y m args) ≡ true
  tied =
      (and_parts (call_right c (Invoke into tie consumed y m args)) (calls_right c rest)
      (and_parts (calls_right c (Do span (Invoke into tie consumed y m args) rest)) (is_scoped c (Do span (Invoke into tie consumed y m args) rest) (valued b.own.vars))
      (top-right u b.own.routine (Do span (Invoke into tie consumed y m args) rest) st (valued b.own.vars) right)).0).0

  allowed : IsAllowed (context_above u below b.own.routine st) (Simple (Invoke into tie consumed y m args)) (valued b.own.vars)
  allowed = (top-goes u below b.own.routine (Do span (Invoke into tie consumed y m args) rest) st (valued b.own.vars) H goes).1.0

  called-rightly : (p : Perm) × RightCall c into tie consumed y args r p (valued b.own.vars)
  called-rightly = right-call u below b.own.routine st into tie consumed y m args r (valued b.own.vars) begins.here allowed tied

  starts : Starts u labels h c (at Here) z st b.own fit tie consumed y args r this found vs
  starts = call-starts u labels h c (at Here) z st b.own fit into tie consumed y args r called-rightly.0 (valued b.own.vars) this (Reference begins.p begins.n) found vs called-rightly.1 (λ x e. e) begins.receiver begins.receives

  hands : Hands (at Here) (calls st) (mentions (Invoke into tie consumed y m args)) moves
  hands = call-hands c (at Here) (calls st) into tie consumed y m args r (zone_of_call tie (at Here) z st)

  -- the regions of other variables stay
  beside : (i n x : ℕ) → (i < calls st) ⊎ ((i ≡ calls st) × (n ≡ x → ⊥)) → same_region (OfVariable (at Here) i n) (OfVariable (at Here) (calls st) x) ≡ false
  beside i n x (inl less) = ap (λ t. same_way (at Here) (at Here) && (t && nat_eq n x)) (differ i (calls st) less) ∙ and-false (same_way (at Here) (at Here))
    where
      differ : (i k : ℕ) → i < k → nat_eq i k ≡ false
      differ i k less = grind (arith, nat_tests)
  beside i n x (inr q) =
      ap (λ t. same_way (at Here) (at Here) && (nat_eq i (calls st) && t)) (differ n x q.1) ∙ (ap (λ t. same_way (at Here) (at Here) && t) (and-false (nat_eq i (calls st))) ∙ and-false (same_way (at Here) (at Here)))
    where
      differ : (n x : ℕ) → (n ≡ x → ⊥) → nat_eq n x ≡ false
      differ n x apart = grind (arith, nat_tests)

  stays : (i n : ℕ) → (i < calls st) ⊎ ((i ≡ calls st) × (those (hidden_above below st) n ≡ true)) → moved moves (OfVariable (at Here) i n) ≡ OfVariable (at Here) i n
  stays i n o = hands.other (OfVariable (at Here) i n) (λ x e. beside i n x (pick x e o))
    where
      pick : (x : ℕ) → mentions (Invoke into tie consumed y m args) x ≡ true → (i < calls st) ⊎ ((i ≡ calls st) × (those (hidden_above below st) n ≡ true)) → (i < calls st) ⊎ ((i ≡ calls st) × (n ≡ x → ⊥))
      pick x e (inl less) = inl less
      pick x e (inr q) = inr (q.0, apart)
        where
          apart : n ≡ x → ⊥
          apart same =
              let no : true ≡ false = sym e ∙ statement-shown u below b.own.routine span (Invoke into tie consumed y m args) rest st (valued b.own.vars) H goes x (ap (λ k. those (hidden_above below st) k) (sym same) ∙ q.1) in
              let w : ⊥ = cc no in w

  lower-fit : stack_fits u then h (at Here) z b.own.routine st ≡ true
  lower-fit =
      stack-carry u labels h (λ x. moved moves x) hands.good (at Here) z b.own.routine st
      (stack-stays u labels h (λ x. moved moves x) hands.good (at Here) z below (Do span (Invoke into tie consumed y m args) rest) st (zones st) stays (λ q e. hands.other (OwnOf q) (λ x p. refl)) low (le_refl (zones st)) hid) stack

  -- ---------- the method ----------
  abbrev inner : Frame Held
  inner = OpenCall tie into y (while_called tagged Moving tie y vs) (lent_by Moving tie this) b.own.routine rest

  method-so : context_of u m ≡ context u r
  method-so i = context_if u (begins.here i)

  whole-method : IsWholeRoutine u r
  whole-method = whole.routines m r begins.here

  vars-fit : variables_fit u then h (zone_of_call tie (at Here) z st) (at Here) (suc (calls st)) 0 (context_of u m).vars (first_vars tagged r this found) ≡ true
  vars-fit =
      ap (λ (k : Context). variables_fit u then h (zone_of_call tie (at Here) z st) (at Here) (suc (calls st)) 0 k.vars (first_vars tagged r this found)) method-so
      ∙ ap (λ (ts : List Ty). variables_fit u then h (zone_of_call tie (at Here) z st) (at Here) (suc (calls st)) 0 ts (this ∷ (found ++ replicate (length ts - (1 + length found)) None))) whole-method.vars
      ∙ first-fit u h c (at Here) (calls st) (top_zone (at Here) z st) (zone_of_call tie (at Here) z st) r.receiver r.class r.params then this found (while_called tagged Moving tie y vs) whole-method.locals
      (length (Ref r.receiver (Class r.class) ∷ (r.params ++ whole-method.locals)) - (1 + length found)) count starts.0
    where
      count : length (r.params ++ whole-method.locals) ≡ length found + (length (Ref r.receiver (Class r.class) ∷ (r.params ++ whole-method.locals)) - (1 + length found))
      count = go (length-append r.params whole-method.locals) starts.0.lengths
        where
          go : length (r.params ++ whole-method.locals) ≡ length r.params + length whole-method.locals → length found ≡ length r.params → length (r.params ++ whole-method.locals) ≡ length found + (suc (length (r.params ++ whole-method.locals)) - (1 + length found))
          go a b = omega (arith, a, b)

  stack-fit : stack_fits u then h (at Here) z m (inner ∷ st) ≡ true
  stack-fit =
      together (variables_fit u then h (top_zone (at Here) z st) (at Here) (calls st) 0 c.vars (while_called tagged Moving tie y vs)) _
      (from-all u then h (top_zone (at Here) z st) (at Here) (calls st) c.vars (while_called tagged Moving tie y vs) starts.0.kept)
      (together (lent_right u then h tie (type_of c y) (lent_by Moving tie this) && lent_fits u then h (Base (at Here) (suc (zones st))) (type_of c y) (lent_by Moving tie this)) _ starts.1
      (together (result_fits u then h tie (context_of u m).result into b.own.routine) (stack_fits u then h (at Here) z b.own.routine st)
      (ap (λ (k : Context). result_fits u then h tie k.result into b.own.routine) method-so ∙ result-right u then h b.own.routine into tie consumed y args r called-rightly.0 (valued b.own.vars) called-rightly.1) lower-fit))

  -- the method's body goes on, and fits
  pub call-fits : (l : Own) (t : ℕ) (code : Code) (saved : List Held) (lent : Option Held) (n : ℕ) → saved ≡ while_called tagged Moving tie y vs → lent ≡ lent_by Moving tie this → n ≡ b.own.routine → l.vars ≡ first_vars tagged r this found → l.routine ≡ m
      → tree_fits u called h at z (done (core u) b t (On l code (OpenCall tie into y saved lent n rest ∷ st))) ≡ true
  call-fits l t code saved lent n same_saved same_lent same_caller same routine =
      subst (λ (ls : Labels). tree_fits u ls h at z (done (core u) b t (On l code (OpenCall tie into y saved lent n rest ∷ st))) ≡ true) (sym called-so)
      (on-fits u then h (at Here) z b l t m (first_vars tagged r this found) code (OpenCall tie into y saved lent n rest ∷ st) same routine vars-fit
      (subst (λ (f : Frame Held). stack_fits u then h (at Here) z m (f ∷ st) ≡ true) (λ i. OpenCall tie into y (sym same_saved i) (sym same_lent i) (sym same_caller i) rest) stack-fit) at refl)

  -- and so do the objects
  pub call-objects : ((n : Name) → object_fits u labels h n (h n) ≡ true) → (n : Name) → object_fits u called h n (h n) ≡ true
  call-objects all n =
      subst (λ (ls : Labels). object_fits u ls h n (h n) ≡ true) (sym called-so)
      (object-carry u labels h (λ x. moved moves x) hands.good (λ o f. inl (hands.other (OfField o f) (λ x p. refl))) n (h n) (all n))
