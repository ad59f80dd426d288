-- What the next turn of a branch asks of the heap touches what its variables lead to, and writes what those through which it writes lead to.
use Rattle.std.proofs.Common.{◌≡◌, ℕ, zero, suc, Bool, true, false, Option, Some, None, List, [], ◌∷◌, ◌++◌, refl, ap, subst, ◌∙◌}
use Rattle.std.specs.Prelude.{ℤ, pos, negsuc, nat_lt, nat_eq, cond, length, slice_get, slice_set}
use Rattle.perm_tree.specs.declared.ast.Span.{Span}
use Rattle.perm_tree.specs.declared.ast.Shape.{Shape}
use Rattle.perm_tree.specs.declared.ast.Shape.TheVariants.{Class, Array}
use Rattle.perm_tree.specs.declared.ast.Ty.{Ty}
use Rattle.perm_tree.specs.declared.errors.TrapKind.TheVariants.{IndexOutOfRange, StackOverflow}
use Rattle.perm_tree.specs.Code.{Argument, Expression, Consumed, Instruction, Declare, Assign, LoadField, LoadLength, LoadItem, TakeField, NewObject, NewArray, StoreField, StoreItem, Invoke, Print, Code, End, Give, Return, Do, If, While, Par, Recover, Routine, UnitCode}
use Rattle.perm_meaning.specs.Values.{Value, Number, Truth, Null, Reference, Eval, Gives, Traps, Mistyped, Referred, ToNull, ToObject, NoReference}
use Rattle.perm_meaning.specs.Names.{Name, Mark, next_name}
use Rattle.perm_meaning.specs.Expressions.{tagged, held, look_up, cleared_slot, clear, eval, value_of}
use Rattle.perm_meaning.specs.Effects.{Tick, Load, Store, Take, Make, Act, GoesOn, Calls, Resumption, Does, Sticks, choose, depth_limit, ticks, halts, with_vars, into_var, makes, first_vars, on_value, if_number, on_number, on_referred, on_object, on_argument, on_arguments, on_index, on_length, on_class, on_call, on_routine, below_limit, effect}
use Rattle.perm_meaning.specs.NamedHeap.{Held, Op, Own, marks}
use Rattle.perm_core.specs.Core.{Writes, Touches}
use Rattle.perm_core.specs.Regions.{Zone, Labels}
use Rattle.perm_meaning.specs.Machine.{Way, Frame, OpenBlock, OpenRecover, OpenCall, On, Splits, Turn, Takes, NoTurn}
use Rattle.perm_meaning.specs.Custody.{Moves}
use Rattle.perm_meaning.specs.Turns as turns
use Rattle.perm_meaning.specs.Turns.{blocks, tick, trap, returned, turn_of, by_truth, on_test, given_back, turn}
use Rattle.perm_core.proofs.Commute.ZonesApart.{MayWrite, MayTouch, write}
use Rattle.perm_core.proofs.Commute.TwoOperations.{Makes}

-- ---------- variables ----------
-- what the later variables refer to, the former refer to as well
abbrev pub Lose : List Held → List Held → Type 0
Lose vs ws = (y : ℕ) (v : Value Name) → slice_get ws y ≡ Some (Some v) → slice_get vs y ≡ Some (Some v)

set-loses : (vs : List Held) (x : ℕ) → Lose vs (slice_set vs x None)
set-loses [] x y v e = e
set-loses (w ∷ vs) zero zero v e = absurd (cc)
set-loses (w ∷ vs) zero (suc y) v e = e
set-loses (w ∷ vs) (suc x) zero v e = e
set-loses (w ∷ vs) (suc x) (suc y) v e = set-loses vs x y v e

pub clear-loses : (vs : List Held) (x : ℕ) → Lose vs (clear tagged vs x)
clear-loses vs x = go (slice_get vs x)
  where
    go : (v : Option Held) → Lose vs (slice_set vs x (cleared_slot tagged v))
    go None = set-loses vs x
    go (Some v) = set-loses vs x

-- a variable that gives a value has it
pub looked-up : (o : Option Held) (v : Held) → held tagged o ≡ Gives v → o ≡ Some v
looked-up None v e = absurd (cc)
looked-up (Some None) v e = absurd (cc)
looked-up (Some (Some x)) v e = cc

pub referred-to : (v : Held) (r : Name) (n : ℕ) → tagged.as_reference v ≡ ToObject r n → v ≡ Some (Reference r n)
referred-to None r n e = absurd (cc)
referred-to (Some (Number x)) r n e = absurd (cc)
referred-to (Some (Truth x)) r n e = absurd (cc)
referred-to (Some Null) r n e = absurd (cc)
referred-to (Some (Reference q m)) r n e = cc

-- through which variable an instruction writes
abbrev pub WritesThrough : Instruction → ℕ → Type 0
WritesThrough (TakeField x y f) q = y ≡ q
WritesThrough (StoreField y f a) q = y ≡ q
WritesThrough (StoreItem y i e) q = y ≡ q
WritesThrough _ q = ⊥

-- the same of the first instruction of a code
abbrev pub FirstWritesThrough : Code → ℕ → Type 0
FirstWritesThrough (Do at i rest) q = WritesThrough i q
FirstWritesThrough _ q = ⊥

-- ---------- effects ----------
module _ (labels : Labels) (w : Way) (z : Zone) (l : Own) where
  -- the operation touches and writes what the leaf may touch and write, and makes the object that its mark names next
  pub record IsIn (o : Op) : Type 0 where
    pub touches : (r : Name) (f : ℕ) → Touches o r f → MayTouch w z (labels r)
    pub writes : (r : Name) (f : ℕ) → Writes o r f → MayWrite w z (labels r)
    pub makes : (r : Name) → Makes o r → next_name l.mark ≡ r

  pub tick-in : IsIn Tick
  tick-in = record { touches = λ r f t. absurd t; writes = λ r f t. absurd t; makes = λ r m. absurd m }

  make-in : (shape : Shape) (n : ℕ) → IsIn (Make l.mark shape n)
  make-in shape n = record { touches = λ r f t. absurd t; writes = λ r f t. absurd t; makes = λ r m. m }

  load-in : (r : Name) (f : ℕ) → MayTouch w z (labels r) → IsIn (Load r f)
  load-in r f may = record { touches = λ q g t. subst (λ n. MayTouch w z (labels n)) t.0 may; writes = λ q g t. absurd t; makes = λ q m. absurd m }

  store-in : (r : Name) (f : ℕ) (v : Held) → MayWrite w z (labels r) → IsIn (Store r f v)
  store-in r f v may = record { touches = λ q g t. write (subst (λ n. MayWrite w z (labels n)) t.0 may); writes = λ q g t. subst (λ n. MayWrite w z (labels n)) t.0 may; makes = λ q m. absurd m }

  take-in : (r : Name) (f : ℕ) → MayWrite w z (labels r) → IsIn (Take r f)
  take-in r f may = record { touches = λ q g t. write (subst (λ n. MayWrite w z (labels n)) t.0 may); writes = λ q g t. subst (λ n. MayWrite w z (labels n)) t.0 may; makes = λ q m. absurd m }

  -- what an effect asks is so
  abbrev Asks : Resumption Held Name Mark → Type 0
  Asks (Does o told) = IsIn o
  Asks Sticks = Unit {0}

  value-asks : (e : Eval Held) (go : Held → Resumption Held Name Mark) → ((v : Held) → e ≡ Gives v → Asks (go v)) → Asks (on_value tagged e go)
  value-asks (Gives v) go h = h v refl
  value-asks (Traps t) go h = tick-in
  value-asks Mistyped go h = tt

  number-if : (n : Option ℤ) (go : ℤ → Resumption Held Name Mark) → ((n : ℤ) → Asks (go n)) → Asks (if_number tagged n go)
  number-if None go h = tt
  number-if (Some n) go h = h n

  number-asks : (e : Eval Held) (go : ℤ → Resumption Held Name Mark) → ((n : ℤ) → Asks (go n)) → Asks (on_number tagged e go)
  number-asks e go h = value-asks e (λ v. if_number tagged (tagged.as_number v) go) (λ v q. number-if (tagged.as_number v) go h)

  referred-asks : (x : Referred Name) (go : Name → ℕ → Resumption Held Name Mark) → ((r : Name) (n : ℕ) → x ≡ ToObject r n → Asks (go r n)) → Asks (on_referred tagged x go)
  referred-asks (ToObject r n) go h = h r n refl
  referred-asks ToNull go h = tick-in
  referred-asks NoReference go h = tt

  object-asks : (vs : List Held) (y : ℕ) (go : Name → ℕ → Resumption Held Name Mark) → ((r : Name) (n : ℕ) → slice_get vs y ≡ Some (Some (Reference r n)) → Asks (go r n)) → Asks (on_object tagged vs y go)
  object-asks vs y go h =
      value-asks (look_up tagged vs y) (λ v. on_referred tagged (tagged.as_reference v) go)
      (λ v q. referred-asks (tagged.as_reference v) go (λ r n e. h r n (looked-up (slice_get vs y) v q ∙ ap (λ x. Some x) (referred-to v r n e))))

  argument-asks : (a : Argument) (vs : List Held) (go : Held → List Held → Resumption Held Name Mark) → ((v : Held) (ws : List Held) → Lose vs ws → Asks (go v ws)) → Asks (on_argument tagged a vs go)
  argument-asks (Expression e) vs go h = value-asks (eval tagged e vs) (λ v. go v vs) (λ v q. h v vs (λ y v e. e))
  argument-asks (Consumed y) vs go h = value-asks (look_up tagged vs y) (λ v. go v (clear tagged vs y)) (λ v q. h v (clear tagged vs y) (clear-loses vs y))

  arguments-ask : (args : List Argument) (found vs : List Held) (go : List Held → List Held → Resumption Held Name Mark) → ((found ws : List Held) → Asks (go found ws)) → Asks (on_arguments tagged args found vs go)
  arguments-ask [] found vs go h = h found vs
  arguments-ask (a ∷ rest) found vs go h = argument-asks a vs (λ v vs. on_arguments tagged rest (found ++ v ∷ []) vs go) (λ v ws lose. arguments-ask rest (found ++ v ∷ []) ws go h)

  index-asks : (i : ℤ) (n : ℕ) (go : ℕ → Resumption Held Name Mark) → ((f : ℕ) → Asks (go f)) → Asks (on_index tagged i n go)
  index-asks (negsuc i) n go h = tick-in
  index-asks (pos i) n go h = within (nat_lt i n)
    where
      within : (t : Bool) → Asks (cond t (go i) (halts tagged IndexOutOfRange))
      within true = h i
      within false = tick-in

  length-asks : (i : ℤ) (go : ℕ → Resumption Held Name Mark) → ((n : ℕ) → Asks (go n)) → Asks (on_length tagged i go)
  length-asks (pos n) go h = h n
  length-asks (negsuc n) go h = tick-in

  class-asks : (ts : Option (List Ty)) (go : ℕ → Resumption Held Name Mark) → ((n : ℕ) → Asks (go n)) → Asks (on_class tagged ts go)
  class-asks None go h = tt
  class-asks (Some ts) go h = h (length ts)

  call-asks : (consumed : Bool) (y : ℕ) (args : List Argument) (vs : List Held) (go : Held → List Held → List Held → Resumption Held Name Mark) → ((this : Held) (found ws : List Held) → Asks (go this found ws)) → Asks (on_call tagged consumed y args vs go)
  call-asks true y args vs go h =
      value-asks (look_up tagged vs y) (λ this. on_arguments tagged args [] (clear tagged vs y) (λ found vs. go this found vs)) (λ this q. arguments-ask args [] (clear tagged vs y) (λ found vs. go this found vs) (λ found ws. h this found ws))
  call-asks false y args vs go h =
      arguments-ask args [] vs (λ found vs. on_value tagged (look_up tagged vs y) (λ this. go this found vs)) (λ found ws. value-asks (look_up tagged ws y) (λ this. go this found ws) (λ this q. h this found ws))

  routine-asks : (r : Option Routine) (args : List Held) (go : Routine → Resumption Held Name Mark) → ((r : Routine) → Asks (go r)) → Asks (on_routine tagged r args go)
  routine-asks None args go h = tt
  routine-asks (Some r) args go h = fitting (nat_eq (length args) (length r.params))
    where
      fitting : (t : Bool) → Asks (choose t go (λ r. Sticks) r)
      fitting true = h r
      fitting false = tt

  limit-asks : (depth : ℕ) (a : Act Held Mark) → Asks (below_limit tagged depth a)
  limit-asks depth a = below (nat_lt depth depth_limit)
    where
      below : (t : Bool) → Asks (cond t (ticks tagged a) (halts tagged StackOverflow))
      below true = tick-in
      below false = tick-in

  -- what a list of variables refers to, the leaf may touch, and what those refer to that are written through, it may write
  module _ (u : UnitCode) (touch : (y : ℕ) (r : Name) (n : ℕ) → slice_get l.vars y ≡ Some (Some (Reference r n)) → MayTouch w z (labels r)) where
    abbrev pub MayWriteThrough : (ℕ → Type 0) → Type 0
    MayWriteThrough Through = (y : ℕ) (r : Name) (n : ℕ) → Through y → slice_get l.vars y ≡ Some (Some (Reference r n)) → MayWrite w z (labels r)

    effect-asks : (i : Instruction) → MayWriteThrough (WritesThrough i) → Asks (effect tagged u marks i l)
    effect-asks (Declare x) through = tick-in
    effect-asks (Assign x a) through = argument-asks a l.vars (λ v vs. ticks tagged (into_var tagged x vs l v)) (λ v ws lose. tick-in)
    effect-asks (LoadField x y f) through = object-asks l.vars y (λ r n. Does (Load r f) (into_var tagged x l.vars l)) (λ r n e. load-in r f (touch y r n e))
    effect-asks (LoadLength x y) through = object-asks l.vars y (λ r n. ticks tagged (into_var tagged x l.vars l (tagged.number (pos n)))) (λ r n e. tick-in)
    effect-asks (LoadItem x y i) through =
        number-asks (eval tagged i l.vars) (λ i. on_object tagged l.vars y (λ r n. on_index tagged i n (λ f. Does (Load r f) (into_var tagged x l.vars l))))
        (λ i. object-asks l.vars y (λ r n. on_index tagged i n (λ f. Does (Load r f) (into_var tagged x l.vars l))) (λ r n e. index-asks i n (λ f. Does (Load r f) (into_var tagged x l.vars l)) (λ f. load-in r f (touch y r n e))))
    effect-asks (TakeField x y f) through = object-asks l.vars y (λ r n. Does (Take r f) (into_var tagged x l.vars l)) (λ r n e. take-in r f (through y r n refl e))
    effect-asks (NewObject x c) through = class-asks (slice_get u.classes c) (λ n. makes tagged marks x (Class c) n l) (λ n. make-in (Class c) n)
    effect-asks (NewArray x e) through = number-asks (eval tagged e l.vars) (λ n. on_length tagged n (λ n. makes tagged marks x Array n l)) (λ n. length-asks n (λ n. makes tagged marks x Array n l) (λ n. make-in Array n))
    effect-asks (StoreField y f a) through =
        argument-asks a l.vars (λ v vs. on_object tagged vs y (λ r n. Does (Store r f v) (λ w. GoesOn (with_vars tagged l vs))))
        (λ v ws lose. object-asks ws y (λ r n. Does (Store r f v) (λ w. GoesOn (with_vars tagged l ws))) (λ r n e. store-in r f v (through y r n refl (lose y (Reference r n) e))))
    effect-asks (StoreItem y i e) through =
        number-asks (eval tagged i l.vars) (λ i. on_value tagged (eval tagged e l.vars) (λ v. if_number tagged (tagged.as_number v) (λ n. storing i v))) (λ i.
        value-asks (eval tagged e l.vars) (λ v. if_number tagged (tagged.as_number v) (λ n. storing i v)) (λ v q.
        number-if (tagged.as_number v) (λ n. storing i v) (λ n. stored i v)))
      where
        storing : ℤ → Held → Resumption Held Name Mark
        storing i v = on_object tagged l.vars y (λ r n. on_index tagged i n (λ f. Does (Store r f v) (λ w. GoesOn l)))

        stored : (i : ℤ) (v : Held) → Asks (storing i v)
        stored i v = object-asks l.vars y (λ r n. on_index tagged i n (λ f. Does (Store r f v) (λ w. GoesOn l))) (λ r n q. index-asks i n (λ f. Does (Store r f v) (λ w. GoesOn l)) (λ f. store-in r f v (through y r n refl q)))
    effect-asks (Invoke into tie consumed y m args) through =
        call-asks consumed y args l.vars (λ this found vs. on_referred tagged (tagged.as_reference this) (λ p n. on_routine tagged (slice_get u.routines m) found (λ r. calling this found vs r))) (λ this found vs.
        referred-asks (tagged.as_reference this) (λ p n. on_routine tagged (slice_get u.routines m) found (λ r. calling this found vs r)) (λ p n q.
        routine-asks (slice_get u.routines m) found (λ r. calling this found vs r) (λ r. limit-asks l.depth (begun this found vs r))))
      where
        begun : Held → List Held → List Held → Routine → Act Held Mark
        begun this found vs r = Calls (record { routine = m; code = r.code; first = first_vars tagged r this found; tie = tie; receiver = this; y = y; into = into }) (with_vars tagged l vs)

        calling : Held → List Held → List Held → Routine → Resumption Held Name Mark
        calling this found vs r = below_limit tagged l.depth (begun this found vs r)
    effect-asks (Print e) through = number-asks (eval tagged e l.vars) (λ n. ticks tagged (GoesOn (record l { printed = l.printed ++ n ∷ [] }))) (λ n. tick-in)

    -- ---------- turns ----------
    abbrev pub TurnAsks : Turn Held Mark Op → Type 0
    TurnAsks (Takes o told) = IsIn o
    TurnAsks NoTurn = Unit {0}

    turn-of-asks : (at : Span) (rest : Code) (st : List (Frame Held)) (e : Resumption Held Name Mark) → Asks e → TurnAsks (turn_of tagged Moves at rest st e)
    turn-of-asks at rest st (Does o told) h = h
    turn-of-asks at rest st Sticks h = tt

    returned-asks : (v : Held) (st : List (Frame Held)) → TurnAsks (returned tagged Moves v st l)
    returned-asks v [] = tick-in
    returned-asks v (OpenCall tie into y saved lent caller rest ∷ st) = tick-in
    returned-asks v (OpenBlock own rest ∷ st) = tt
    returned-asks v (OpenRecover own hides saved rest ∷ st) = tt

    given-asks : (e : Eval Held) (x y : ℕ) (st : List (Frame Held)) → TurnAsks (given_back tagged Moves e x y st l)
    given-asks (Gives v) x y [] = tt
    given-asks (Gives v) x y (OpenCall tie into z saved lent caller rest ∷ st) = tt
    given-asks (Gives v) x y (OpenBlock own rest ∷ st) = tt
    given-asks (Gives v) x y (OpenRecover own hides saved rest ∷ st) = tick-in
    given-asks (Traps t) x y st = tt
    given-asks Mistyped x y st = tt

    test-asks : (e : Eval Held) (at : Span) (a b : Turn Held Mark Op) → TurnAsks a → TurnAsks b → TurnAsks (on_test tagged Moves e at a b)
    test-asks (Gives v) at a b h k = go (tagged.as_truth v)
      where
        go : (t : Option Bool) → TurnAsks (by_truth tagged Moves t a b)
        go None = tt
        go (Some true) = h
        go (Some false) = k
    test-asks (Traps t) at a b h k = tick-in
    test-asks Mistyped at a b h k = tt

    pub turn-asks : (c : Code) (st : List (Frame Held)) → MayWriteThrough (FirstWritesThrough c) → TurnAsks (turn tagged Moves u marks c st l)
    turn-asks End st through = tt
    turn-asks (Give at x y) st through = given-asks (look_up tagged l.vars x) x y st
    turn-asks (Return at a) st through = go (value_of tagged a l.vars)
      where
        go : (e : Eval Held) → TurnAsks (turns.on_value tagged Moves e at (λ v. returned tagged Moves v st l))
        go (Gives v) = returned-asks v st
        go (Traps t) = tick-in
        go Mistyped = tt
    turn-asks (Do at i rest) st through = turn-of-asks at rest st (effect tagged u marks i l) (effect-asks i through)
    turn-asks (If at e own1 a own2 b rest) st through =
        test-asks (eval tagged e l.vars) at (tick tagged Moves (On l a (OpenBlock own1 rest ∷ st))) (tick tagged Moves (On l b (OpenBlock own2 rest ∷ st))) tick-in tick-in
    turn-asks (While at e own body rest) st through =
        test-asks (eval tagged e l.vars) at (tick tagged Moves (On l body (OpenBlock own (While at e own body rest) ∷ st))) (tick tagged Moves (On l rest st)) tick-in tick-in
    turn-asks (Par at own1 a own2 b rest) st through = go (nat_lt l.depth depth_limit)
      where
        go : (t : Bool) → TurnAsks (cond t (tick tagged Moves (Splits (blocks own1 a own2 b) rest)) (trap tagged Moves at StackOverflow))
        go true = tick-in
        go false = tick-in
    turn-asks (Recover at x own hides body rest) st through = tick-in
