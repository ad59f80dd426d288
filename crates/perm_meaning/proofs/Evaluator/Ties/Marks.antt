-- A branch that goes on after it has made an object has the mark of one object more.
use Rattle.std.proofs.Common.{◌≡◌, ℕ, Bool, true, false, ℤ, pos, negsuc, List, [], ◌∷◌, ◌++◌, length, Option, Some, None, sym, ap, cond}
use Rattle.std.specs.Prelude.{nat_eq, nat_lt, slice_get}
use Rattle.perm_tree.specs.declared.ast.Ty.{Ty}
use Rattle.perm_tree.specs.declared.errors.TrapKind.TheVariants.{IndexOutOfRange, StackOverflow}
use Rattle.perm_tree.specs.declared.ast.Shape.{Shape}
use Rattle.perm_tree.specs.declared.ast.Shape.TheVariants.{Class, Array}
use Rattle.perm_tree.specs.Code.{Argument, Expression, Consumed, Instruction, Declare, Assign, LoadField, LoadLength, LoadItem, TakeField, NewObject, NewArray, StoreField, StoreItem, Invoke, Print, Routine, UnitCode}
use Rattle.perm_meaning.specs.Evaluator.Asks.{Way}
use Rattle.perm_meaning.specs.Effects.{Act, Calls, Does, GoesOn, Halts, Load, Make, Sticks, Store, Take, Tick, below_limit, choose, depth_limit, effect, if_number, makes, on_argument, on_arguments, on_call, on_class, on_index, on_length, on_number, on_object, on_referred, on_routine, on_value}
use Rattle.perm_meaning.specs.Expressions.{clear, eval, look_up, tagged}
use Rattle.perm_meaning.specs.NamedHeap.{Held, Own, marks}
use Rattle.perm_meaning.specs.Names.{Mark, Name, after_object}
use Rattle.perm_meaning.specs.Values.{Eval, Gives, Mistyped, NoReference, Referred, ToNull, ToObject, Traps}

-- the branch of a mark makes an object and goes on with the mark after it
abbrev pub MarksMade : Mark → Way → Type 0
MarksMade m (Does (Make by shape n) told) = (w : Held) (k : Own) → told w ≡ GoesOn k → k.mark ≡ after_object m
MarksMade m (Does Tick told) = Unit {0}
MarksMade m (Does (Load r f) told) = Unit {0}
MarksMade m (Does (Store r f v) told) = Unit {0}
MarksMade m (Does (Take r f) told) = Unit {0}
MarksMade m Sticks = Unit {0}

-- what a branch has that goes on, else what is given
abbrev pub own_of : Own → Act Held Mark → Own
own_of l (GoesOn k) = k
own_of l (Calls c k) = l
own_of l (Halts k) = l

module _ (m : Mark) where
  -- one of two turns
  either : (b : Bool) (x y : Way) → MarksMade m x → MarksMade m y → MarksMade m (cond b x y)
  either true x y p q = p
  either false x y p q = q

  -- a turn on a value
  value : (e : Eval Held) (go : Held → Way) → ((v : Held) → MarksMade m (go v)) → MarksMade m (on_value tagged e go)
  value (Gives v) go k = k v
  value (Traps t) go k = tt
  value Mistyped go k = tt

  -- a turn on what may be a number
  if-number : (n : Option ℤ) (go : ℤ → Way) → ((n : ℤ) → MarksMade m (go n)) → MarksMade m (if_number tagged n go)
  if-number None go k = tt
  if-number (Some n) go k = k n

  -- a turn on a number
  number : (e : Eval Held) (go : ℤ → Way) → ((n : ℤ) → MarksMade m (go n)) → MarksMade m (on_number tagged e go)
  number e go k = value e (λ v. if_number tagged (tagged.as_number v) go) (λ v. if-number (tagged.as_number v) go k)

  -- a turn on what is referred to
  referred : (r : Referred Name) (go : Name → ℕ → Way) → ((r : Name) (n : ℕ) → MarksMade m (go r n)) → MarksMade m (on_referred tagged r go)
  referred ToNull go k = tt
  referred (ToObject r n) go k = k r n
  referred NoReference go k = tt

  -- a turn on what a variable refers to
  object : (vs : List Held) (y : ℕ) (go : Name → ℕ → Way) → ((r : Name) (n : ℕ) → MarksMade m (go r n)) → MarksMade m (on_object tagged vs y go)
  object vs y go k = value (look_up tagged vs y) (λ v. on_referred tagged (tagged.as_reference v) go) (λ v. referred (tagged.as_reference v) go k)

  -- a turn on an argument
  argument : (a : Argument) (vs : List Held) (go : Held → List Held → Way) → ((v : Held) (ws : List Held) → MarksMade m (go v ws)) → MarksMade m (on_argument tagged a vs go)
  argument (Expression e) vs go k = value (eval tagged e vs) (λ v. go v vs) (λ v. k v vs)
  argument (Consumed y) vs go k = value (look_up tagged vs y) (λ v. go v (clear tagged vs y)) (λ v. k v (clear tagged vs y))

  -- a turn on arguments
  arguments : (args : List Argument) (found vs : List Held) (go : List Held → List Held → Way) → ((found ws : List Held) → MarksMade m (go found ws)) → MarksMade m (on_arguments tagged args found vs go)
  arguments [] found vs go k = k found vs
  arguments (a ∷ rest) found vs go k = argument a vs (λ v ws. on_arguments tagged rest (found ++ v ∷ []) ws go) (λ v ws. arguments rest (found ++ v ∷ []) ws go k)

  -- a turn on an index
  index : (i : ℤ) (n : ℕ) (go : ℕ → Way) → ((f : ℕ) → MarksMade m (go f)) → MarksMade m (on_index tagged i n go)
  index (pos i) n go k = either (nat_lt i n) (go i) (Does Tick (λ w. Halts IndexOutOfRange)) (k i) tt
  index (negsuc i) n go k = tt

  -- a turn on the length of an array
  a-length : (n : ℤ) (go : ℕ → Way) → ((n : ℕ) → MarksMade m (go n)) → MarksMade m (on_length tagged n go)
  a-length (pos n) go k = k n
  a-length (negsuc n) go k = tt

  -- a turn on a class
  class : (ts : Option (List Ty)) (go : ℕ → Way) → ((n : ℕ) → MarksMade m (go n)) → MarksMade m (on_class tagged ts go)
  class None go k = tt
  class (Some ts) go k = k (length ts)

  -- a turn on what is called with what
  call : (consumed : Bool) (y : ℕ) (args : List Argument) (vs : List Held) (go : Held → List Held → List Held → Way) → ((this : Held) (found ws : List Held) → MarksMade m (go this found ws)) → MarksMade m (on_call tagged consumed y args vs go)
  call true y args vs go k =
      value (look_up tagged vs y) (λ this. on_arguments tagged args [] (clear tagged vs y) (λ found ws. go this found ws)) (λ this. arguments args [] (clear tagged vs y) (λ found ws. go this found ws) (λ found ws. k this found ws))
  call false y args vs go k =
      arguments args [] vs (λ found ws. on_value tagged (look_up tagged ws y) (λ this. go this found ws)) (λ found ws. value (look_up tagged ws y) (λ this. go this found ws) (λ this. k this found ws))

  -- a turn on a method
  routine : (r : Option Routine) (args : List Held) (go : Routine → Way) → ((r : Routine) → MarksMade m (go r)) → MarksMade m (on_routine tagged r args go)
  routine None args go k = tt
  routine (Some r) args go k = choice (nat_eq (length args) (length r.params))
    where
      choice : (b : Bool) → MarksMade m (choose b go (λ r. Sticks) r)
      choice true = k r
      choice false = tt

  -- a turn below the depth limit
  limit : (depth : ℕ) (a : Act Held Mark) → MarksMade m (below_limit tagged depth a)
  limit depth a = either (nat_lt depth depth_limit) (Does Tick (λ w. a)) (Does Tick (λ w. Halts StackOverflow)) tt tt

-- a branch that has made an object for a variable goes on with the mark after it
makes-marks : (x : ℕ) (shape : Shape) (n : ℕ) (l : Own) → MarksMade l.mark (makes tagged marks x shape n l)
makes-marks x shape n l w k e = ap (λ (a : Act Held Mark). (own_of l a).mark) (sym e)

-- so does every instruction that makes one
pub effect-marks : (u : UnitCode) (i : Instruction) (l : Own) → MarksMade l.mark (effect tagged u marks i l)
effect-marks u (Declare x) l = tt
effect-marks u (Assign x a) l = argument l.mark a l.vars _ (λ v vs. tt)
effect-marks u (LoadField x y f) l = object l.mark l.vars y _ (λ r n. tt)
effect-marks u (LoadLength x y) l = object l.mark l.vars y _ (λ r n. tt)
effect-marks u (LoadItem x y i) l = number l.mark (eval tagged i l.vars) _ (λ i. object l.mark l.vars y _ (λ r n. index l.mark i n _ (λ f. tt)))
effect-marks u (TakeField x y f) l = object l.mark l.vars y _ (λ r n. tt)
effect-marks u (NewObject x c) l = class l.mark (slice_get u.classes c) _ (λ n. makes-marks x (Class c) n l)
effect-marks u (NewArray x n) l = number l.mark (eval tagged n l.vars) _ (λ n. a-length l.mark n _ (λ n. makes-marks x Array n l))
effect-marks u (StoreField y f a) l = argument l.mark a l.vars _ (λ v vs. object l.mark vs y _ (λ r n. tt))
effect-marks u (StoreItem y i e) l =
    number l.mark (eval tagged i l.vars) _ (λ i. value l.mark (eval tagged e l.vars) _ (λ v. if-number l.mark (tagged.as_number v) _ (λ z. object l.mark l.vars y _ (λ r n. index l.mark i n _ (λ f. tt)))))
effect-marks u (Invoke into tie consumed y m args) l =
    call l.mark consumed y args l.vars _ (λ this found vs. referred l.mark (tagged.as_reference this) _ (λ p n. routine l.mark (slice_get u.routines m) found _ (λ r. limit l.mark l.depth _)))
effect-marks u (Print e) l = number l.mark (eval tagged e l.vars) _ (λ n. tt)
