-- What a turn leaves of its branch: code whose numbers have 64 bits, and a mark that has moved by what it made.
use Rattle.std.proofs.Common.{◌≡◌, ℕ, zero, suc, Bool, true, false, cond, Option, Some, None, List, [], ◌∷◌, ◌++◌, length, refl, ap, subst}
use Rattle.std.specs.Prelude.{nat_eq, nat_lt, ℤ, pos, negsuc, slice_get}
use Rattle.perm_tree.specs.declared.ast.Span.{Span}
use Rattle.perm_tree.specs.declared.ast.Ty.{Ty}
use Rattle.perm_tree.specs.declared.errors.TrapKind.TheVariants.{IndexOutOfRange, StackOverflow}
use Rattle.perm_tree.specs.Code.{Argument, Expression, Consumed, Instruction, Declare, Assign, LoadField, LoadLength, LoadItem, TakeField, NewObject, NewArray, StoreField, StoreItem, Invoke, Print, Code, End, Give, Return, Do, If, While, Par, Recover, Routine, UnitCode}
use Rattle.perm_meaning.specs.Values.{Eval, Gives, Traps, Mistyped, Referred, ToNull, ToObject, NoReference}
use Rattle.perm_meaning.specs.Expressions.{tagged, clear, look_up, eval, value_of}
use Rattle.perm_meaning.specs.Names.{Name, Mark, after_object}
use Rattle.perm_meaning.specs.Machine.{Frame, OpenBlock, OpenRecover, OpenCall, Did, On, Splits, Ends, Dies, Turn, Takes, NoTurn}
use Rattle.perm_meaning.specs.Effects.{Tick, Load, Store, Take, Make, Act, GoesOn, Calls, Halts, Resumption, Does, Sticks, depth_limit, choose, halts, ticks, on_value, if_number, on_number, on_referred, on_object, on_argument, on_arguments, on_index, on_length, on_class, on_call, on_routine, below_limit, effect}
use Rattle.perm_meaning.specs.Custody.{Custody}
use Rattle.perm_meaning.specs.Turns as turns
use Rattle.perm_meaning.specs.Turns.{blocks, tick, trap, returned, acted, turn_of, by_truth, on_test, given_back, turn}
use Rattle.perm_meaning.specs.NamedHeap.{Held, Op, Own, marks}
use Rattle.perm_meaning.specs.Literals.{CodeFits, RoutinesFit, UnitFits}
use Rattle.perm_meaning.proofs.Leads.{some-inj, none-some}

-- the code that comes after what stands below has numbers of 64 bits
abbrev pub FrameFits : Frame Held → Type 0
FrameFits (OpenBlock own rest) = CodeFits rest
FrameFits (OpenRecover own hides saved rest) = CodeFits rest
FrameFits (OpenCall tie into y saved lent caller rest) = CodeFits rest

-- the same of a whole stack
abbrev pub StackFits : List (Frame Held) → Type 0
StackFits [] = Unit {0}
StackFits (f ∷ fs) = FrameFits f × StackFits fs

-- ---------- simple statements ----------
-- an act moves the mark as its operation says
abbrev ActMoved : Op → Mark → Act Held Mark → Type 0
ActMoved (Make by shape n) g (GoesOn l) = (by ≡ g) × (l.mark ≡ after_object g)
ActMoved (Make by shape n) g _ = ⊥
ActMoved o g (GoesOn l) = l.mark ≡ g
ActMoved o g (Calls x l) = (l.mark ≡ g) × CodeFits x.code
ActMoved o g (Halts t) = Unit {0}

abbrev EffectMoved : Mark → Resumption Held Name Mark → Type 0
EffectMoved g Sticks = Unit {0}
EffectMoved g (Does o told) = (v : Held) → ActMoved o g (told v)

-- a method of a unit
pub routine-fits : (rs : List Routine) (m : ℕ) (r : Routine) → RoutinesFit rs → slice_get rs m ≡ Some r → CodeFits r.code
routine-fits [] m r f e = none-some e
routine-fits (x ∷ rs) zero r f e = subst (λ (z : Routine). CodeFits z.code) (some-inj e) f.0
routine-fits (x ∷ rs) (suc m) r f e = routine-fits rs m r f.1 e

module _ (u : UnitCode) (fits : UnitFits u) (g : Mark) where
  m-value : (e : Eval Held) (go : Held → Resumption Held Name Mark) → ((v : Held) → EffectMoved g (go v)) → EffectMoved g (on_value tagged e go)
  m-value (Gives v) go k = k v
  m-value (Traps t) go k = λ v. tt
  m-value Mistyped go k = tt

  m-if : (o : Option ℤ) (go : ℤ → Resumption Held Name Mark) → ((n : ℤ) → EffectMoved g (go n)) → EffectMoved g (if_number tagged o go)
  m-if None go k = tt
  m-if (Some n) go k = k n

  m-number : (e : Eval Held) (go : ℤ → Resumption Held Name Mark) → ((n : ℤ) → EffectMoved g (go n)) → EffectMoved g (on_number tagged e go)
  m-number e go k = m-value e (λ v. if_number tagged (tagged.as_number v) go) (λ v. m-if (tagged.as_number v) go k)

  m-referred : (r : Referred Name) (go : Name → ℕ → Resumption Held Name Mark) → ((r : Name) (n : ℕ) → EffectMoved g (go r n)) → EffectMoved g (on_referred tagged r go)
  m-referred (ToObject r n) go k = k r n
  m-referred ToNull go k = λ v. tt
  m-referred NoReference go k = tt

  m-object : (vs : List Held) (y : ℕ) (go : Name → ℕ → Resumption Held Name Mark) → ((r : Name) (n : ℕ) → EffectMoved g (go r n)) → EffectMoved g (on_object tagged vs y go)
  m-object vs y go k = m-value (look_up tagged vs y) (λ v. on_referred tagged (tagged.as_reference v) go) (λ v. m-referred (tagged.as_reference v) go k)

  m-argument : (a : Argument) (vs : List Held) (go : Held → List Held → Resumption Held Name Mark) → ((v : Held) (vs : List Held) → EffectMoved g (go v vs)) → EffectMoved g (on_argument tagged a vs go)
  m-argument (Expression e) vs go k = m-value (eval tagged e vs) (λ v. go v vs) (λ v. k v vs)
  m-argument (Consumed y) vs go k = m-value (look_up tagged vs y) (λ v. go v (clear tagged vs y)) (λ v. k v (clear tagged vs y))

  m-arguments : (args : List Argument) (found vs : List Held) (go : List Held → List Held → Resumption Held Name Mark) → ((found vs : List Held) → EffectMoved g (go found vs)) → EffectMoved g (on_arguments tagged args found vs go)
  m-arguments [] found vs go k = k found vs
  m-arguments (a ∷ rest) found vs go k = m-argument a vs (λ v vs. on_arguments tagged rest (found ++ v ∷ []) vs go) (λ v vs. m-arguments rest (found ++ v ∷ []) vs go k)

  m-index : (i : ℤ) (n : ℕ) (go : ℕ → Resumption Held Name Mark) → ((f : ℕ) → EffectMoved g (go f)) → EffectMoved g (on_index tagged i n go)
  m-index (pos i) n go k = which (nat_lt i n)
    where
      which : (t : Bool) → EffectMoved g (cond t (go i) (halts tagged IndexOutOfRange))
      which true = k i
      which false = λ v. tt
  m-index (negsuc i) n go k = λ v. tt

  m-length : (n : ℤ) (go : ℕ → Resumption Held Name Mark) → ((n : ℕ) → EffectMoved g (go n)) → EffectMoved g (on_length tagged n go)
  m-length (pos n) go k = k n
  m-length (negsuc n) go k = λ v. tt

  m-class : (o : Option (List Ty)) (go : ℕ → Resumption Held Name Mark) → ((n : ℕ) → EffectMoved g (go n)) → EffectMoved g (on_class tagged o go)
  m-class None go k = tt
  m-class (Some ts) go k = k (length ts)

  m-call : (consumed : Bool) (y : ℕ) (args : List Argument) (vs : List Held) (go : Held → List Held → List Held → Resumption Held Name Mark) → ((v : Held) (found vs : List Held) → EffectMoved g (go v found vs)) → EffectMoved g (on_call tagged consumed y args vs go)
  m-call true y args vs go k =
      m-value (look_up tagged vs y) (λ v. on_arguments tagged args [] (clear tagged vs y) (λ found vs. go v found vs)) (λ v. m-arguments args [] (clear tagged vs y) (λ found vs. go v found vs) (λ found vs. k v found vs))
  m-call false y args vs go k =
      m-arguments args [] vs (λ found vs. on_value tagged (look_up tagged vs y) (λ v. go v found vs)) (λ found vs. m-value (look_up tagged vs y) (λ v. go v found vs) (λ v. k v found vs))

  m-routine : (o : Option Routine) (args : List Held) (go : Routine → Resumption Held Name Mark) → ((r : Routine) → o ≡ Some r → EffectMoved g (go r)) → EffectMoved g (on_routine tagged o args go)
  m-routine None args go k = tt
  m-routine (Some r) args go k = which (nat_eq (length args) (length r.params))
    where
      which : (t : Bool) → EffectMoved g (choose t go (λ r. Sticks) r)
      which true = k r refl
      which false = tt

  m-limit : (d : ℕ) (a : Act Held Mark) → ActMoved Tick g a → EffectMoved g (below_limit tagged d a)
  m-limit d a k = which (nat_lt d depth_limit)
    where
      which : (t : Bool) → EffectMoved g (cond t (ticks tagged a) (halts tagged StackOverflow))
      which true = λ v. k
      which false = λ v. tt

  effect-moved : (i : Instruction) (l : Own) → l.mark ≡ g → EffectMoved g (effect tagged u marks i l)
  effect-moved (Declare x) l e = λ v. e
  effect-moved (Assign x a) l e = m-argument a l.vars _ (λ v vs w. e)
  effect-moved (LoadField x y f) l e = m-object l.vars y _ (λ r n v. e)
  effect-moved (LoadLength x y) l e = m-object l.vars y _ (λ r n v. e)
  effect-moved (LoadItem x y i) l e = m-number (eval tagged i l.vars) _ (λ i. m-object l.vars y _ (λ r n. m-index i n _ (λ f v. e)))
  effect-moved (TakeField x y f) l e = m-object l.vars y _ (λ r n v. e)
  effect-moved (NewObject x k) l e = m-class (slice_get u.classes k) _ (λ n v. (e, ap after_object e))
  effect-moved (NewArray x n) l e = m-number (eval tagged n l.vars) _ (λ n. m-length n _ (λ n v. (e, ap after_object e)))
  effect-moved (StoreField y f a) l e = m-argument a l.vars _ (λ v vs. m-object vs y _ (λ r n w. e))
  effect-moved (StoreItem y i x) l e = m-number (eval tagged i l.vars) _ (λ i. m-value (eval tagged x l.vars) _ (λ v. m-if (tagged.as_number v) _ (λ z. m-object l.vars y _ (λ r n. m-index i n _ (λ f w. e)))))
  effect-moved (Invoke into tie consumed y m args) l e =
      m-call consumed y args l.vars _ (λ v found vs. m-referred (tagged.as_reference v) _ (λ p n. m-routine (slice_get u.routines m) found _ (λ r q. m-limit l.depth _ (e, routine-fits u.routines m r fits q))))
  effect-moved (Print x) l e = m-number (eval tagged x l.vars) _ (λ n v. e)

  -- ---------- turns ----------
  -- what is done moves the mark as the operation says
  abbrev pub DidMoved : Op → Did Held Mark → Type 0
  DidMoved (Make by shape n) (On l c st) = (by ≡ g) × (l.mark ≡ after_object g) × CodeFits c × StackFits st
  DidMoved (Make by shape n) _ = ⊥
  DidMoved o (On l c st) = (l.mark ≡ g) × CodeFits c × StackFits st
  DidMoved o (Splits p rest) = CodeFits p.left × CodeFits p.right × CodeFits rest
  DidMoved o (Ends v) = Unit {0}
  DidMoved o (Dies e) = Unit {0}

  abbrev pub TurnMoved : Turn Held Mark Op → Type 0
  TurnMoved NoTurn = Unit {0}
  TurnMoved (Takes o told) = (v : Held) → DidMoved o (told v)

  module _ (c : Custody) where
    acted-moved : (o : Op) (at : Span) (rest : Code) (st : List (Frame Held)) (a : Act Held Mark) → CodeFits rest → StackFits st → ActMoved o g a → DidMoved o (acted tagged c at rest st a)
    acted-moved (Make by shape n) at rest st (GoesOn l) f k h = (h.0, h.1, f, k)
    acted-moved (Make by shape n) at rest st (Calls x l) f k h = absurd h
    acted-moved (Make by shape n) at rest st (Halts t) f k h = absurd h
    acted-moved Tick at rest st (GoesOn l) f k h = (h, f, k)
    acted-moved Tick at rest st (Calls x l) f k h = (h.0, h.1, (f, k))
    acted-moved Tick at rest st (Halts t) f k h = tt
    acted-moved (Load r i) at rest st (GoesOn l) f k h = (h, f, k)
    acted-moved (Load r i) at rest st (Calls x l) f k h = (h.0, h.1, (f, k))
    acted-moved (Load r i) at rest st (Halts t) f k h = tt
    acted-moved (Store r i v) at rest st (GoesOn l) f k h = (h, f, k)
    acted-moved (Store r i v) at rest st (Calls x l) f k h = (h.0, h.1, (f, k))
    acted-moved (Store r i v) at rest st (Halts t) f k h = tt
    acted-moved (Take r i) at rest st (GoesOn l) f k h = (h, f, k)
    acted-moved (Take r i) at rest st (Calls x l) f k h = (h.0, h.1, (f, k))
    acted-moved (Take r i) at rest st (Halts t) f k h = tt

    statement-moved : (at : Span) (rest : Code) (st : List (Frame Held)) (e : Resumption Held Name Mark) → CodeFits rest → StackFits st → EffectMoved g e → TurnMoved (turn_of tagged c at rest st e)
    statement-moved at rest st Sticks f k h = tt
    statement-moved at rest st (Does o told) f k h = λ v. acted-moved o at rest st (told v) f k (h v)

    returned-moved : (v : Held) (st : List (Frame Held)) (l : Own) → l.mark ≡ g → StackFits st → TurnMoved (returned tagged c v st l)
    returned-moved v [] l e k = λ w. tt
    returned-moved v (OpenBlock own rest ∷ st) l e k = tt
    returned-moved v (OpenRecover own hides saved rest ∷ st) l e k = tt
    returned-moved v (OpenCall tie into y saved lent caller rest ∷ st) l e k = λ w. (e, k.0, k.1)

    given-moved : (e : Eval Held) (w x : ℕ) (st : List (Frame Held)) (l : Own) → l.mark ≡ g → StackFits st → TurnMoved (given_back tagged c e w x st l)
    given-moved (Gives v) w x [] l e k = tt
    given-moved (Gives v) w x (OpenBlock own rest ∷ st) l e k = tt
    given-moved (Gives v) w x (OpenRecover own hides saved rest ∷ st) l e k = λ z. (e, k.0, k.1)
    given-moved (Gives v) w x (OpenCall tie into y saved lent caller rest ∷ st) l e k = tt
    given-moved (Traps t) w x st l e k = tt
    given-moved Mistyped w x st l e k = tt

    value-moved : (e : Eval Held) (at : Span) (go : Held → Turn Held Mark Op) → ((v : Held) → TurnMoved (go v)) → TurnMoved (turns.on_value tagged c e at go)
    value-moved (Gives v) at go k = k v
    value-moved (Traps t) at go k = λ v. tt
    value-moved Mistyped at go k = tt

    truth-moved : (o : Option Bool) (a b : Turn Held Mark Op) → TurnMoved a → TurnMoved b → TurnMoved (by_truth tagged c o a b)
    truth-moved None a b h k = tt
    truth-moved (Some true) a b h k = h
    truth-moved (Some false) a b h k = k

    test-moved : (e : Eval Held) (at : Span) (a b : Turn Held Mark Op) → TurnMoved a → TurnMoved b → TurnMoved (on_test tagged c e at a b)
    test-moved (Gives v) at a b h k = truth-moved (tagged.as_truth v) a b h k
    test-moved (Traps t) at a b h k = λ v. tt
    test-moved Mistyped at a b h k = tt

    pub turn-moved : (code : Code) (st : List (Frame Held)) (l : Own) → l.mark ≡ g → CodeFits code → StackFits st → TurnMoved (turn tagged c u marks code st l)
    turn-moved End st l e f k = tt
    turn-moved (Give at w x) st l e f k = given-moved (look_up tagged l.vars w) w x st l e k
    turn-moved (Return at a) st l e f k = value-moved (value_of tagged a l.vars) at _ (λ v. returned-moved v st l e k)
    turn-moved (Do at i rest) st l e f k = statement-moved at rest st (effect tagged u marks i l) f.1 k (effect-moved i l e)
    turn-moved (If at x own1 a own2 b rest) st l e f k = test-moved (eval tagged x l.vars) at _ _ (λ v. (e, f.1, (f.3, k))) (λ v. (e, f.2, (f.3, k)))
    turn-moved (While at x own body rest) st l e f k = test-moved (eval tagged x l.vars) at _ _ (λ v. (e, f.1, (f, k))) (λ v. (e, f.2, k))
    turn-moved (Par at own1 a own2 b rest) st l e f k = which (nat_lt l.depth depth_limit)
      where
        which : (t : Bool) → TurnMoved (cond t (tick tagged c (Splits (blocks own1 a own2 b) rest)) (trap tagged c at StackOverflow))
        which true = λ v. f
        which false = λ v. tt
    turn-moved (Recover at x own hides body rest) st l e f k = λ v. (e, f.0, (f.1, k))
