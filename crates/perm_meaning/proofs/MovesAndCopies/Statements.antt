-- A simple statement asks and does under moves what it asks and does under copies, and changes only what it may alter.
use Rattle.std.proofs.Common.{◌≡◌, ℕ, true, [], ◌∷◌, Option, Some, None, refl, List, sym, ap, zero, suc, Bool, false, ◌++◌, length, subst, cond}
use Rattle.std.specs.Prelude.{pos, ℤ, nat_eq, slice_get, slice_set, nat_lt, negsuc}
use Rattle.perm_tree.specs.declared.ast.Shape.TheVariants.{Class, Array}
use Rattle.perm_tree.specs.Code.{Expression, Lends, Assign, NewObject, Invoke, Routine, UnitCode, Shares, Raises, Argument, Consumed, Instruction, Declare, LoadField, LoadLength, LoadItem, TakeField, NewArray, StoreField, StoreItem, Print, Tie}
use Rattle.perm_tree.specs.Vars.{none, Vars, just, plus}
use Rattle.perm_tree.specs.declared.ast.Ty.{Ty}
use Rattle.perm_tree.specs.Mentions.{consumes, assigns, just_option, argument_consumes, arguments_consume, just_if}
use Rattle.perm_tree.specs.declared.errors.TrapKind.{TrapKind}
use Rattle.perm_tree.specs.declared.errors.TrapKind.TheVariants.{NullReference, IndexOutOfRange, Overflow, StackOverflow}
use Rattle.perm_meaning.specs.Expressions.{tagged, clear, cleared_slot, look_up, eval}
use Rattle.perm_meaning.specs.NamedHeap.{Held, Own, marks}
use Rattle.perm_meaning.specs.Values.{Eval, Gives, Traps, Mistyped, Referred, ToNull, ToObject, NoReference}
use Rattle.perm_meaning.specs.Names.{Name, Mark}
use Rattle.perm_meaning.specs.Effects.{Store, Calling, Act, GoesOn, Calls, Halts, Resumption, Does, Sticks, depth_limit, choose, first_vars, ticks, halts, with_vars, on_value, if_number, on_number, on_referred, on_object, on_argument, on_arguments, on_index, on_length, on_class, on_call, on_routine, below_limit, into_var, made, makes, effect}
use Rattle.perm_meaning.specs.Custody.{Moves, while_called, lent_by}
use Rattle.perm_meaning.specs.Turns.{lent_back}
use Rattle.perm_meaning.specs.Steady.{AreApart, alters, KeepsLent, IsSteadyCode, IsSteady}
use Rattle.perm_meaning.specs.HoldsFewer.{IsPart, AreParts, ArePartsOn, AreKept}
use Rattle.perm_meaning.proofs.Leads.{some-inj}
use Rattle.perm_meaning.proofs.OnWords.Related.{vars-set}
use Rattle.perm_meaning.proofs.MovesAndCopies.Parts.{part-same, part-at-same}
use Rattle.perm_meaning.proofs.MovesAndCopies.KeptVariables.{kept-same, kept-set, apart-left, apart-right, on-cleared-one, on-set}
use Rattle.perm_meaning.proofs.MovesAndCopies.Ends.{parts-clear}
use Rattle.perm_meaning.proofs.MovesAndCopies.Evaluations.{EvalHoldsFewer, look-fewer, read-variable, eval-fewer}

-- ---------- acts ----------
-- what is done, where ms and os are the variables before it under moves and under copies: those of J hold no more, and those of H are kept
pub data ActHoldsFewer (H J : Vars) (ms os : List Held) : Act Held Mark → Act Held Mark → Type 0 where
  goes : {n : Own} {us : List Held} → AreParts n.vars us → AreKept H os us → ArePartsOn J n.vars ms → ActHoldsFewer H J ms os (GoesOn n) (GoesOn (record n { vars = us }))
  calls : {x : Calling Held} {n : Own} {us : List Held} → AreParts n.vars us → AreKept H os us → ArePartsOn J n.vars ms → AreApart H (just_option x.into) → AreApart J (just_option x.into)
      → lent_back (lent_by Moves x.tie x.receiver) x.y (while_called tagged Moves x.tie x.y n.vars) ≡ n.vars → IsSteadyCode x.code → ActHoldsFewer H J ms os (Calls x n) (Calls x (record n { vars = us }))
  traps : {k : TrapKind} → ActHoldsFewer H J ms os (Halts k) (Halts k)

-- a variable that is set again as it was
set-back : (vs : List Held) (y : ℕ) (v w : Held) → slice_get vs y ≡ Some v → slice_set (slice_set vs y w) y v ≡ vs
set-back [] y v w e = refl
set-back (z ∷ vs) zero v w e = ap (λ i. i ∷ vs) (sym (some-inj e))
set-back (z ∷ vs) (suc y) v w e = ap (λ i. z ∷ i) (set-back vs y v w e)

-- what is lent comes back
lent-comes-back : (tie : Tie) (consumed : Bool) (into : Option ℕ) (y m : ℕ) (args : List Argument) (v : Held) (vs : List Held) → KeepsLent (Invoke into tie consumed y m args) → (consumed ≡ false → slice_get vs y ≡ Some v)
    → lent_back (lent_by Moves tie v) y (while_called tagged Moves tie y vs) ≡ vs
lent-comes-back Shares consumed into y m args v vs q e = refl
lent-comes-back Raises consumed into y m args v vs q e = refl
lent-comes-back Lends true into y m args v vs q e = absurd q
lent-comes-back Lends false into y m args v vs q e = set-back vs y v (cleared_slot tagged (slice_get vs y)) (e refl)

module _ (u : UnitCode) (steady : IsSteady u) (H J : Vars) (ms os : List Held) where
  abbrev pub EffectHoldsFewer : Resumption Held Name Mark → Resumption Held Name Mark → Type 0
  EffectHoldsFewer Sticks e = Unit {0}
  EffectHoldsFewer (Does o told) Sticks = ⊥
  EffectHoldsFewer (Does o told) (Does p said) = (o ≡ p) × ((v : Held) → ActHoldsFewer H J ms os (told v) (said v))

  -- what is true of the variables meanwhile
  pub record HoldsMeanwhile (vs ws : List Held) : Type 0 where
    pub part : AreParts vs ws
    pub kept : AreKept H os ws
    pub less : ArePartsOn J vs ms

  now-clear : (vs ws : List Held) (y : ℕ) → AreApart H (just y) → HoldsMeanwhile vs ws → HoldsMeanwhile (clear tagged vs y) (clear tagged ws y)
  now-clear vs ws y a n = record { part = parts-clear vs ws y n.part; kept = kept-set y (cleared_slot tagged (slice_get ws y)) a n.kept; less = on-cleared-one J vs ms y n.less }

  -- ---------- ways on ----------
  halts-fewer : (k : TrapKind) → EffectHoldsFewer (halts tagged k) (halts tagged k)
  halts-fewer k = (refl, λ v. traps)

  value-fewer : (e f : Eval Held) (go go' : Held → Resumption Held Name Mark) → EvalHoldsFewer e f → ((v : Held) → e ≡ Gives v → EffectHoldsFewer (go v) (go' v)) → EffectHoldsFewer (on_value tagged e go) (on_value tagged f go')
  value-fewer (Gives v) f go go' h k = subst (λ z. EffectHoldsFewer (go v) (on_value tagged z go')) (sym h) (k v refl)
  value-fewer (Traps t) f go go' h k = subst (λ z. EffectHoldsFewer (halts tagged t) (on_value tagged z go')) (sym h) (halts-fewer t)
  value-fewer Mistyped f go go' h k = tt

  if-number-fewer : (o : Option ℤ) (go go' : ℤ → Resumption Held Name Mark) → ((n : ℤ) → EffectHoldsFewer (go n) (go' n)) → EffectHoldsFewer (if_number tagged o go) (if_number tagged o go')
  if-number-fewer None go go' k = tt
  if-number-fewer (Some n) go go' k = k n

  number-fewer : (e f : Eval Held) (go go' : ℤ → Resumption Held Name Mark) → EvalHoldsFewer e f → ((n : ℤ) → EffectHoldsFewer (go n) (go' n)) → EffectHoldsFewer (on_number tagged e go) (on_number tagged f go')
  number-fewer e f go go' h k = value-fewer e f (λ v. if_number tagged (tagged.as_number v) go) (λ v. if_number tagged (tagged.as_number v) go') h (λ v q. if-number-fewer (tagged.as_number v) go go' k)

  referred-fewer : (r : Referred Name) (go go' : Name → ℕ → Resumption Held Name Mark) → ((r : Name) (n : ℕ) → EffectHoldsFewer (go r n) (go' r n)) → EffectHoldsFewer (on_referred tagged r go) (on_referred tagged r go')
  referred-fewer (ToObject r n) go go' k = k r n
  referred-fewer ToNull go go' k = halts-fewer NullReference
  referred-fewer NoReference go go' k = tt

  object-fewer : (vs ws : List Held) (y : ℕ) (go go' : Name → ℕ → Resumption Held Name Mark) → AreParts vs ws → ((r : Name) (n : ℕ) → EffectHoldsFewer (go r n) (go' r n)) → EffectHoldsFewer (on_object tagged vs y go) (on_object tagged ws y go')
  object-fewer vs ws y go go' h k = value-fewer (look_up tagged vs y) (look_up tagged ws y) (λ v. on_referred tagged (tagged.as_reference v) go) (λ v. on_referred tagged (tagged.as_reference v) go') (look-fewer vs ws y h) (λ v q. referred-fewer (tagged.as_reference v) go go' k)

  argument-fewer : (a : Argument) (vs ws : List Held) (go go' : Held → List Held → Resumption Held Name Mark) → AreApart H (argument_consumes a) → HoldsMeanwhile vs ws
      → ((v : Held) (vs ws : List Held) → HoldsMeanwhile vs ws → EffectHoldsFewer (go v vs) (go' v ws)) → EffectHoldsFewer (on_argument tagged a vs go) (on_argument tagged a ws go')
  argument-fewer (Expression e) vs ws go go' a n k = value-fewer (eval tagged e vs) (eval tagged e ws) (λ v. go v vs) (λ v. go' v ws) (eval-fewer e vs ws n.part) (λ v z. k v vs ws n)
  argument-fewer (Consumed y) vs ws go go' a n k =
      value-fewer (look_up tagged vs y) (look_up tagged ws y) (λ v. go v (clear tagged vs y)) (λ v. go' v (clear tagged ws y)) (look-fewer vs ws y n.part) (λ v z. k v (clear tagged vs y) (clear tagged ws y) (now-clear vs ws y a n))

  arguments-fewer : (args : List Argument) (found vs ws : List Held) (go go' : List Held → List Held → Resumption Held Name Mark) → AreApart H (arguments_consume args) → HoldsMeanwhile vs ws
      → ((found vs ws : List Held) → HoldsMeanwhile vs ws → EffectHoldsFewer (go found vs) (go' found ws)) → EffectHoldsFewer (on_arguments tagged args found vs go) (on_arguments tagged args found ws go')
  arguments-fewer [] found vs ws go go' a n k = k found vs ws n
  arguments-fewer (e ∷ rest) found vs ws go go' a n k =
      argument-fewer e vs ws (λ v vs. on_arguments tagged rest (found ++ v ∷ []) vs go) (λ v ws. on_arguments tagged rest (found ++ v ∷ []) ws go') (apart-left (argument_consumes e) (arguments_consume rest) a) n
      (λ v vs ws n. arguments-fewer rest (found ++ v ∷ []) vs ws go go' (apart-right (argument_consumes e) (arguments_consume rest) a) n k)

  index-fewer : (i : ℤ) (n : ℕ) (go go' : ℕ → Resumption Held Name Mark) → ((f : ℕ) → EffectHoldsFewer (go f) (go' f)) → EffectHoldsFewer (on_index tagged i n go) (on_index tagged i n go')
  index-fewer (pos i) n go go' k = which (nat_lt i n)
    where
      which : (t : Bool) → EffectHoldsFewer (cond t (go i) (halts tagged IndexOutOfRange)) (cond t (go' i) (halts tagged IndexOutOfRange))
      which true = k i
      which false = halts-fewer IndexOutOfRange
  index-fewer (negsuc i) n go go' k = halts-fewer IndexOutOfRange

  length-fewer : (n : ℤ) (go go' : ℕ → Resumption Held Name Mark) → ((n : ℕ) → EffectHoldsFewer (go n) (go' n)) → EffectHoldsFewer (on_length tagged n go) (on_length tagged n go')
  length-fewer (pos n) go go' k = k n
  length-fewer (negsuc n) go go' k = halts-fewer Overflow

  class-fewer : (o : Option (List Ty)) (go go' : ℕ → Resumption Held Name Mark) → ((n : ℕ) → EffectHoldsFewer (go n) (go' n)) → EffectHoldsFewer (on_class tagged o go) (on_class tagged o go')
  class-fewer None go go' k = tt
  class-fewer (Some ts) go go' k = k (length ts)

  call-fewer : (consumed : Bool) (y : ℕ) (args : List Argument) (vs ws : List Held) (go go' : Held → List Held → List Held → Resumption Held Name Mark) → AreApart H (just_if consumed y) → AreApart H (arguments_consume args) → HoldsMeanwhile vs ws
      → ((v : Held) (found vs ws : List Held) → HoldsMeanwhile vs ws → (consumed ≡ false → slice_get vs y ≡ Some v) → EffectHoldsFewer (go v found vs) (go' v found ws)) → EffectHoldsFewer (on_call tagged consumed y args vs go) (on_call tagged consumed y args ws go')
  call-fewer true y args vs ws go go' a b n k =
      value-fewer (look_up tagged vs y) (look_up tagged ws y) (λ v. on_arguments tagged args [] (clear tagged vs y) (λ found vs. go v found vs)) (λ v. on_arguments tagged args [] (clear tagged ws y) (λ found ws. go' v found ws)) (look-fewer vs ws y n.part)
      (λ v z. arguments-fewer args [] (clear tagged vs y) (clear tagged ws y) (λ found vs. go v found vs) (λ found ws. go' v found ws) b (now-clear vs ws y a n) (λ found vs ws n. k v found vs ws n (λ e. absurd (cc))))
  call-fewer false y args vs ws go go' a b n k =
      arguments-fewer args [] vs ws (λ found vs. on_value tagged (look_up tagged vs y) (λ v. go v found vs)) (λ found ws. on_value tagged (look_up tagged ws y) (λ v. go' v found ws)) b n
      (λ found vs ws n. value-fewer (look_up tagged vs y) (look_up tagged ws y) (λ v. go v found vs) (λ v. go' v found ws) (look-fewer vs ws y n.part) (λ v z. k v found vs ws n (λ e. read-variable (slice_get vs y) v z)))

  routine-fewer : (o : Option Routine) (found : List Held) (go go' : Routine → Resumption Held Name Mark) → ((r : Routine) → o ≡ Some r → EffectHoldsFewer (go r) (go' r)) → EffectHoldsFewer (on_routine tagged o found go) (on_routine tagged o found go')
  routine-fewer None found go go' k = tt
  routine-fewer (Some r) found go go' k = which (nat_eq (length found) (length r.params))
    where
      which : (t : Bool) → EffectHoldsFewer (choose t go (λ r. Sticks) r) (choose t go' (λ r. Sticks) r)
      which true = k r refl
      which false = tt

  below-limit-fewer : (d : ℕ) (a a' : Act Held Mark) → ActHoldsFewer H J ms os a a' → EffectHoldsFewer (below_limit tagged d a) (below_limit tagged d a')
  below-limit-fewer d a a' k = which (nat_lt d depth_limit)
    where
      which : (t : Bool) → EffectHoldsFewer (cond t (ticks tagged a) (halts tagged StackOverflow)) (cond t (ticks tagged a') (halts tagged StackOverflow))
      which true = (refl, λ v. k)
      which false = halts-fewer StackOverflow

  -- a variable takes a value
  into-variable-fewer : (l : Own) (x : ℕ) (vs ws : List Held) (v : Held) → AreApart H (just x) → AreApart J (just x) → HoldsMeanwhile vs ws → ActHoldsFewer H J ms os (into_var tagged x vs l v) (into_var tagged x ws l v)
  into-variable-fewer l x vs ws v a b n = goes (vars-set IsPart vs ws x v v n.part (part-same v)) (kept-set x v a n.kept) (on-set J vs ms x v b n.less)

-- ---------- the table ----------
module _ (u : UnitCode) (steady : IsSteady u) (H J : Vars) (l : Own) (os : List Held) (h : AreParts l.vars os) where
  start : HoldsMeanwhile u steady H J l.vars os l.vars os
  start = record { part = h; kept = kept-same H os; less = λ x j. part-at-same (slice_get l.vars x) }

  -- a new object comes into a variable
  made-fewer : (x : ℕ) (v : Held) → AreApart H (just x) → AreApart J (just x) → ActHoldsFewer H J l.vars os (made tagged marks x l v) (made tagged marks x (record l { vars = os }) v)
  made-fewer x v a b = goes (vars-set IsPart l.vars os x v v h (part-same v)) (kept-set x v a (kept-same H os)) (on-set J l.vars l.vars x v b (λ x j. part-at-same (slice_get l.vars x)))

  -- what is written doesn't stand in J
  pub effect-fewer : (i : Instruction) → KeepsLent i → AreApart H (alters i) → AreApart J (plus (consumes i) (assigns i)) → EffectHoldsFewer u steady H J l.vars os (effect tagged u marks i l) (effect tagged u marks i (record l { vars = os }))
  effect-fewer (Declare x) n a b = (refl, λ w. goes (parts-clear l.vars os x h) (kept-set x (cleared_slot tagged (slice_get os x)) (apart-left (just x) (plus none none) a) (kept-same H os)) (on-cleared-one J l.vars l.vars x start.less))
  effect-fewer (Assign x e) n a b =
      argument-fewer u steady H J l.vars os e l.vars os (λ v vs. ticks tagged (into_var tagged x vs l v)) (λ v ws. ticks tagged (into_var tagged x ws (record l { vars = os }) v)) (apart-left (argument_consumes e) (just x) a) start
      (λ v vs ws k. (refl, λ w. into-variable-fewer u steady H J l.vars os l x vs ws v (apart-right (argument_consumes e) (just x) a) (apart-right (argument_consumes e) (just x) b) k))
  effect-fewer (LoadField x y f) n a b = object-fewer u steady H J l.vars os l.vars os y _ _ h (λ r k. (refl, λ v. into-variable-fewer u steady H J l.vars os l x l.vars os v a b start))
  effect-fewer (LoadLength x y) n a b = object-fewer u steady H J l.vars os l.vars os y _ _ h (λ r k. (refl, λ v. into-variable-fewer u steady H J l.vars os l x l.vars os (tagged.number (pos k)) a b start))
  effect-fewer (LoadItem x y i) n a b =
      number-fewer u steady H J l.vars os (eval tagged i l.vars) (eval tagged i os) _ _ (eval-fewer i l.vars os h) (λ z. object-fewer u steady H J l.vars os l.vars os y _ _ h (λ r k. index-fewer u steady H J l.vars os z k _ _ (λ f. (refl, λ v. into-variable-fewer u steady H J l.vars os l x l.vars os v a b start))))
  effect-fewer (TakeField x y f) n a b = object-fewer u steady H J l.vars os l.vars os y _ _ h (λ r k. (refl, λ v. into-variable-fewer u steady H J l.vars os l x l.vars os v a b start))
  effect-fewer (NewObject x c) n a b =
      class-fewer u steady H J l.vars os (slice_get u.classes c) (λ n. makes tagged marks x (Class c) n l) (λ n. makes tagged marks x (Class c) n (record l { vars = os })) (λ k. (refl, λ v. made-fewer x v a b))
  effect-fewer (NewArray x e) n a b =
      number-fewer u steady H J l.vars os (eval tagged e l.vars) (eval tagged e os) _ _ (eval-fewer e l.vars os h) (λ z. length-fewer u steady H J l.vars os z (λ n. makes tagged marks x Array n l) (λ n. makes tagged marks x Array n (record l { vars = os })) (λ k. (refl, λ v. made-fewer x v a b)))
  effect-fewer (StoreField y f e) n a b =
      argument-fewer u steady H J l.vars os e l.vars os (λ v vs. on_object tagged vs y (λ r n. Does (Store r f v) (λ w. GoesOn (with_vars tagged l vs)))) (λ v ws. on_object tagged ws y (λ r n. Does (Store r f v) (λ w. GoesOn (with_vars tagged (record l { vars = os }) ws)))) (apart-left (argument_consumes e) none a) start
      (λ v vs ws k. object-fewer u steady H J l.vars os vs ws y _ _ k.part (λ r i. (refl, λ w. goes k.part k.kept k.less)))
  effect-fewer (StoreItem y i e) n a b =
      number-fewer u steady H J l.vars os (eval tagged i l.vars) (eval tagged i os) _ _ (eval-fewer i l.vars os h) (λ z.
      value-fewer u steady H J l.vars os (eval tagged e l.vars) (eval tagged e os) _ _ (eval-fewer e l.vars os h) (λ v q.
      if-number-fewer u steady H J l.vars os (tagged.as_number v) _ _ (λ j. object-fewer u steady H J l.vars os l.vars os y _ _ h (λ r k. index-fewer u steady H J l.vars os z k _ _ (λ f. (refl, λ w. goes h (kept-same H os) start.less))))))
  effect-fewer (Print e) n a b = number-fewer u steady H J l.vars os (eval tagged e l.vars) (eval tagged e os) _ _ (eval-fewer e l.vars os h) (λ z. (refl, λ w. goes h (kept-same H os) start.less))
  effect-fewer (Invoke into tie consumed y m args) n a b =
      let c = apart-left (plus (just_if consumed y) (arguments_consume args)) (just_option into) a in
      call-fewer u steady H J l.vars os consumed y args l.vars os _ _ (apart-left (just_if consumed y) (arguments_consume args) c) (apart-right (just_if consumed y) (arguments_consume args) c) start (λ v found vs ws k e.
      referred-fewer u steady H J l.vars os (tagged.as_reference v) _ _ (λ p j.
      routine-fewer u steady H J l.vars os (slice_get u.routines m) found _ _ (λ r is.
      below-limit-fewer u steady H J l.vars os l.depth (Calls (record { routine = m; code = r.code; first = first_vars tagged r v found; tie = tie; receiver = v; y = y; into = into }) (with_vars tagged l vs))
      (Calls (record { routine = m; code = r.code; first = first_vars tagged r v found; tie = tie; receiver = v; y = y; into = into }) (with_vars tagged (record l { vars = os }) ws))
      (calls k.part k.kept k.less (apart-right (plus (just_if consumed y) (arguments_consume args)) (just_option into) a) (apart-right (plus (just_if consumed y) (arguments_consume args)) (just_option into) b) (lent-comes-back tie consumed into y m args v vs n e) (steady m r is)))))
