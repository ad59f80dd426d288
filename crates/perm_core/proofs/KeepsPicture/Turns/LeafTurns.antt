-- What a turn does to its branch, case by case: each turn that asks the heap something, told any value, is one of these.
use Rattle.std.proofs.Common.{◌≡◌, ℕ, suc, ◌-◌, Bool, true, false, Option, Some, None, List, [], ◌∷◌, ◌++◌, length, refl, sym, ap, subst, ◌∙◌}
use Rattle.std.specs.Prelude.{ℤ, pos, negsuc, nat_lt, nat_eq, not, cond, slice_get, option_and_then}
use Rattle.std.proofs.lemmas.List.{append_assoc, append-nil}
use Rattle.perm_tree.specs.declared.ast.Span.{Span}
use Rattle.perm_tree.specs.declared.ast.Shape.{Shape}
use Rattle.perm_tree.specs.declared.ast.Shape.TheVariants.{Class, Array}
use Rattle.perm_tree.specs.declared.ast.Ty.{Ty}
use Rattle.perm_tree.specs.declared.errors.TrapKind.{TrapKind}
use Rattle.perm_tree.specs.declared.errors.TrapKind.TheVariants.{IndexOutOfRange, StackOverflow}
use Rattle.perm_tree.specs.Code.{Term, Argument, Expression, Consumed, Instruction, Declare, Assign, LoadField, LoadLength, LoadItem, TakeField, NewObject, NewArray, StoreField, StoreItem, Invoke, Print, Tie, Code, End, Give, Return, Do, If, While, Par, Recover, Routine, UnitCode}
use Rattle.perm_tree.specs.Vars.{those}
use Rattle.perm_meaning.specs.Values as values
use Rattle.perm_meaning.specs.Values.{Value, Number, Truth, Null, Reference, Eval, Gives, Traps, Mistyped, Referred, ToNull, ToObject, NoReference}
use Rattle.perm_meaning.specs.Names.{Name, Mark, after_object}
use Rattle.perm_meaning.specs.Expressions.{tagged, assign, assign_into, look_up, clear, clear_all, eval, value_of}
use Rattle.perm_meaning.specs.Effects.{Tick, Load, Store, Take, Make, Act, GoesOn, Calls, Halts, Resumption, Does, Sticks, choose, depth_limit, ticks, halts, with_vars, into_var, makes, first_vars, on_value, if_number, on_number, on_referred, on_object, on_argument, on_arguments, on_index, on_length, on_class, on_call, on_routine, below_limit, effect}
use Rattle.perm_meaning.specs.Custody.{Moves, from_either, only, while_called, lent_by}
use Rattle.perm_meaning.specs.Machine.{Frame, OpenBlock, OpenRecover, OpenCall, Failure, Trapped, Blocks, Did, On, Splits, Ends, Dies, Turn, Takes, NoTurn}
use Rattle.perm_meaning.specs.NamedHeap.{Held, Op, Own, marks}
use Rattle.perm_meaning.specs.Turns as turns
use Rattle.perm_meaning.specs.Turns.{blocks, lent_back, tick, trap, called, returned, acted, turn_of, by_truth, on_test, given_back, turn}
use Rattle.perm_core.proofs.Commute.LeafOperations.{looked-up, referred-to}

-- ---------- arguments ----------
-- arguments are evaluated one after the other, from some variables to others; what is consumed loses its value
pub data Evaluates : List Argument → List Held → List Held → List Held → Type 0 where
  no_more : (vs : List Held) → Evaluates [] vs [] vs
  plain : (e : Term) (v : Held) (rest : List Argument) (vs found ws : List Held) → eval tagged e vs ≡ Gives v → Evaluates rest vs found ws → Evaluates (Expression e ∷ rest) vs (v ∷ found) ws
  consumes : (y : ℕ) (v : Held) (rest : List Argument) (vs found ws : List Held) → slice_get vs y ≡ Some v → look_up tagged vs y ≡ Gives v → Evaluates rest (clear tagged vs y) found ws → Evaluates (Consumed y ∷ rest) vs (v ∷ found) ws

-- the same of one argument
pub data Gives_one (vs : List Held) : Argument → Held → List Held → Type 0 where
  plain_one : (e : Term) (v : Held) → eval tagged e vs ≡ Gives v → Gives_one vs (Expression e) v vs
  consumes_one : (y : ℕ) (v : Held) → slice_get vs y ≡ Some v → look_up tagged vs y ≡ Gives v → Gives_one vs (Consumed y) v (clear tagged vs y)

module _ (u : UnitCode) (l : Own) where
  -- ---------- simple statements ----------
  -- a simple statement that asks o and is told w leaves its branch with these variables
  pub data Acts (w : Held) : Instruction → Op → List Held → Type 0 where
    declares : (x : ℕ) → Acts w (Declare x) Tick (clear tagged l.vars x)
    assigns : (x : ℕ) (a : Argument) (v : Held) (vs : List Held) → Gives_one l.vars a v vs → Acts w (Assign x a) Tick (assign vs x v)
    loads : (x y f : ℕ) (r : Name) (n : ℕ) → slice_get l.vars y ≡ Some (Some (Reference r n)) → Acts w (LoadField x y f) (Load r f) (assign l.vars x w)
    measures : (x y : ℕ) (r : Name) (n : ℕ) → slice_get l.vars y ≡ Some (Some (Reference r n)) → Acts w (LoadLength x y) Tick (assign l.vars x (Some (Number (pos n))))
    reads : (x y : ℕ) (i : Term) (r : Name) (n f : ℕ) → slice_get l.vars y ≡ Some (Some (Reference r n)) → Acts w (LoadItem x y i) (Load r f) (assign l.vars x w)
    takes : (x y f : ℕ) (r : Name) (n : ℕ) → slice_get l.vars y ≡ Some (Some (Reference r n)) → Acts w (TakeField x y f) (Take r f) (assign l.vars x w)
    stores : (y f : ℕ) (a : Argument) (v : Held) (vs : List Held) (r : Name) (n : ℕ) → Gives_one l.vars a v vs → slice_get vs y ≡ Some (Some (Reference r n)) → Acts w (StoreField y f a) (Store r f v) vs
    writes : (y : ℕ) (i e : Term) (v : Held) (z : ℤ) (r : Name) (n f : ℕ) → eval tagged e l.vars ≡ Gives v → option_and_then values.as_number v ≡ Some z → slice_get l.vars y ≡ Some (Some (Reference r n)) → Acts w (StoreItem y i e) (Store r f v) l.vars
    prints : (e : Term) → Acts w (Print e) Tick l.vars

  -- a new object comes into a variable
  pub data Creates : Instruction → Shape → ℕ → ℕ → Type 0 where
    object : (x c : ℕ) (ts : List Ty) → slice_get u.classes c ≡ Some ts → Creates (NewObject x c) (Class c) (length ts) x
    array : (x : ℕ) (e : Term) (n : ℕ) → Creates (NewArray x e) Array n x

  -- the receiver and the arguments of a call are evaluated, a consumed receiver first
  pub data Receives : Bool → ℕ → List Argument → Held → List Held → List Held → Type 0 where
    first : (y : ℕ) (args : List Argument) (this : Held) (found vs : List Held) → slice_get l.vars y ≡ Some this → look_up tagged l.vars y ≡ Gives this → Evaluates args (clear tagged l.vars y) found vs → Receives true y args this found vs
    last : (y : ℕ) (args : List Argument) (this : Held) (found vs : List Held) → Evaluates args l.vars found vs → slice_get vs y ≡ Some this → Receives false y args this found vs

  -- the branch that goes on with other variables, and the same method
  pub record Stays (l' : Own) (vs : List Held) : Type 0 where
    pub vars : l'.vars ≡ vs
    pub routine : l'.routine ≡ l.routine
    pub mark : l'.mark ≡ l.mark

  -- a call that begins
  pub record Begins (tie : Tie) (consumed : Bool) (y m : ℕ) (args : List Argument) (r : Routine) (this : Held) (found vs : List Held) : Type 0 where
    pub p : Name
    pub n : ℕ
    pub here : slice_get u.routines m ≡ Some r
    pub receiver : this ≡ Some (Reference p n)
    pub receives : Receives consumed y args this found vs
    pub even : nat_eq (length found) (length r.params) ≡ true

  -- what the statement does, by what it asks and is told
  pub data ActTo (w : Held) : Instruction → Op → Act Held Mark → Type 0 where
    trapping : (i : Instruction) (k : TrapKind) → ActTo w i Tick (Halts k)
    going : (i : Instruction) (o : Op) (vs : List Held) (l' : Own) → Acts w i o vs → Stays l' vs → ActTo w i o (GoesOn l')
    creating : (i : Instruction) (shape : Shape) (n x : ℕ) → Creates i shape n x → ActTo w i (Make l.mark shape n) (GoesOn (record l { vars = assign l.vars x w; mark = after_object l.mark }))
    calling : (into : Option ℕ) (tie : Tie) (consumed : Bool) (y m : ℕ) (args : List Argument) (r : Routine) (this : Held) (found vs : List Held) → Begins tie consumed y m args r this found vs
        → ActTo w (Invoke into tie consumed y m args) Tick (Calls (record { routine = m; code = r.code; first = first_vars tagged r this found; tie = tie; receiver = this; y = y; into = into }) (with_vars tagged l vs))

  -- so it is of an effect, whatever is told
  abbrev Tells : Instruction → Resumption Held Name Mark → Type 0
  Tells i (Does o told) = (w : Held) → ActTo w i o (told w)
  Tells i Sticks = Unit {0}

  trap-tells : (i : Instruction) (k : TrapKind) → Tells i (halts tagged k)
  trap-tells i k w = trapping i k

  go-tells : (i : Instruction) (o : Op) (told : Held → List Held) → ((w : Held) → Acts w i o (told w)) → Tells i (Does o (λ w. GoesOn (with_vars tagged l (told w))))
  go-tells i o told h w = going i o (told w) (with_vars tagged l (told w)) (h w) (record { vars = refl; routine = refl; mark = refl })

  value-tells : (i : Instruction) (e : Eval Held) (go : Held → Resumption Held Name Mark) → ((v : Held) → e ≡ Gives v → Tells i (go v)) → Tells i (on_value tagged e go)
  value-tells i (Gives v) go h = h v refl
  value-tells i (Traps t) go h = trap-tells i t
  value-tells i Mistyped go h = tt

  number-if : (i : Instruction) (n : Option ℤ) (go : ℤ → Resumption Held Name Mark) → ((z : ℤ) → n ≡ Some z → Tells i (go z)) → Tells i (if_number tagged n go)
  number-if i None go h = tt
  number-if i (Some n) go h = h n refl

  number-tells : (i : Instruction) (e : Eval Held) (go : ℤ → Resumption Held Name Mark) → ((n : ℤ) → Tells i (go n)) → Tells i (on_number tagged e go)
  number-tells i e go h = value-tells i e (λ v. if_number tagged (tagged.as_number v) go) (λ v q. number-if i (tagged.as_number v) go (λ z p. h z))

  referred-tells : (i : Instruction) (x : Referred Name) (go : Name → ℕ → Resumption Held Name Mark) → ((r : Name) (n : ℕ) → x ≡ ToObject r n → Tells i (go r n)) → Tells i (on_referred tagged x go)
  referred-tells i (ToObject r n) go h = h r n refl
  referred-tells i ToNull go h = λ w. trapping i _
  referred-tells i NoReference go h = tt

  object-tells : (i : Instruction) (vs : List Held) (y : ℕ) (go : Name → ℕ → Resumption Held Name Mark) → ((r : Name) (n : ℕ) → slice_get vs y ≡ Some (Some (Reference r n)) → Tells i (go r n)) → Tells i (on_object tagged vs y go)
  object-tells i vs y go h =
      value-tells i (look_up tagged vs y) (λ v. on_referred tagged (tagged.as_reference v) go)
      (λ v q. referred-tells i (tagged.as_reference v) go (λ r n e. h r n (looked-up (slice_get vs y) v q ∙ ap (λ x. Some x) (referred-to v r n e))))

  argument-tells : (i : Instruction) (a : Argument) (vs : List Held) (go : Held → List Held → Resumption Held Name Mark) → ((v : Held) (ws : List Held) → Gives_one vs a v ws → Tells i (go v ws)) → Tells i (on_argument tagged a vs go)
  argument-tells i (Expression e) vs go h = value-tells i (eval tagged e vs) (λ v. go v vs) (λ v q. h v vs (plain_one e v q))
  argument-tells i (Consumed y) vs go h = value-tells i (look_up tagged vs y) (λ v. go v (clear tagged vs y)) (λ v q. h v (clear tagged vs y) (consumes_one y v (looked-up (slice_get vs y) v q) q))

  arguments-tell : (i : Instruction) (args : List Argument) (before vs : List Held) (go : List Held → List Held → Resumption Held Name Mark) → ((found ws : List Held) → Evaluates args vs found ws → Tells i (go (before ++ found) ws)) → Tells i (on_arguments tagged args before vs go)
  arguments-tell i [] before vs go h = subst (λ xs. Tells i (go xs vs)) (append-nil before) (h [] vs (no_more vs))
  arguments-tell i (a ∷ rest) before vs go h = argument-tells i a vs (λ v ws. on_arguments tagged rest (before ++ v ∷ []) ws go) (λ v ws one. arguments-tell i rest (before ++ v ∷ []) ws go (λ found us more. on v ws one found us more))
    where
      cons : (a : Argument) (v : Held) (ws found us : List Held) → Gives_one vs a v ws → Evaluates rest ws found us → Evaluates (a ∷ rest) vs (v ∷ found) us
      cons (Expression e) v _ found us (plain_one _ _ q) more = plain e v rest vs found us q more
      cons (Consumed y) v _ found us (consumes_one _ _ p q) more = consumes y v rest vs found us p q more

      on : (v : Held) (ws : List Held) → Gives_one vs a v ws → (found us : List Held) → Evaluates rest ws found us → Tells i (go ((before ++ v ∷ []) ++ found) us)
      on v ws one found us more = subst (λ xs. Tells i (go xs us)) (sym (append_assoc before (v ∷ []) found)) (h (v ∷ found) us (cons a v ws found us one more))

  index-tells : (i : Instruction) (z : ℤ) (n : ℕ) (go : ℕ → Resumption Held Name Mark) → ((f : ℕ) → Tells i (go f)) → Tells i (on_index tagged z n go)
  index-tells i (negsuc z) n go h = trap-tells i IndexOutOfRange
  index-tells i (pos z) n go h = within (nat_lt z n)
    where
      within : (t : Bool) → Tells i (cond t (go z) (halts tagged IndexOutOfRange))
      within true = h z
      within false = trap-tells i IndexOutOfRange

  length-tells : (i : Instruction) (z : ℤ) (go : ℕ → Resumption Held Name Mark) → ((n : ℕ) → Tells i (go n)) → Tells i (on_length tagged z go)
  length-tells i (pos n) go h = h n
  length-tells i (negsuc n) go h = λ w. trapping i _

  class-tells : (i : Instruction) (ts : Option (List Ty)) (go : ℕ → Resumption Held Name Mark) → ((us : List Ty) → ts ≡ Some us → Tells i (go (length us))) → Tells i (on_class tagged ts go)
  class-tells i None go h = tt
  class-tells i (Some ts) go h = h ts refl

  call-tells : (i : Instruction) (consumed : Bool) (y : ℕ) (args : List Argument) (go : Held → List Held → List Held → Resumption Held Name Mark)
      → ((this : Held) (found ws : List Held) → Receives consumed y args this found ws → Tells i (go this found ws)) → Tells i (on_call tagged consumed y args l.vars go)
  call-tells i true y args go h =
      value-tells i (look_up tagged l.vars y) (λ this. on_arguments tagged args [] (clear tagged l.vars y) (λ found vs. go this found vs))
      (λ this q. arguments-tell i args [] (clear tagged l.vars y) (λ found vs. go this found vs) (λ found ws is. h this found ws (first y args this found ws (looked-up (slice_get l.vars y) this q) q is)))
  call-tells i false y args go h =
      arguments-tell i args [] l.vars (λ found vs. on_value tagged (look_up tagged vs y) (λ this. go this found vs))
      (λ found ws is. value-tells i (look_up tagged ws y) (λ this. go this found ws) (λ this q. h this found ws (last y args this found ws is (looked-up (slice_get ws y) this q))))

  routine-tells : (i : Instruction) (r : Option Routine) (args : List Held) (go : Routine → Resumption Held Name Mark) → ((s : Routine) → r ≡ Some s → nat_eq (length args) (length s.params) ≡ true → Tells i (go s)) → Tells i (on_routine tagged r args go)
  routine-tells i None args go h = tt
  routine-tells i (Some r) args go h = fitting (nat_eq (length args) (length r.params)) refl
    where
      fitting : (t : Bool) → nat_eq (length args) (length r.params) ≡ t → Tells i (choose t go (λ r. Sticks) r)
      fitting true q = h r refl q
      fitting false q = tt

  limit-tells : (i : Instruction) (depth : ℕ) (a : Act Held Mark) → ((w : Held) → ActTo w i Tick a) → Tells i (below_limit tagged depth a)
  limit-tells i depth a h = below (nat_lt depth depth_limit)
    where
      below : (t : Bool) → Tells i (cond t (ticks tagged a) (halts tagged StackOverflow))
      below true = h
      below false = trap-tells i StackOverflow

  create-tells : (i : Instruction) (shape : Shape) (n x : ℕ) → Creates i shape n x → Tells i (makes tagged marks x shape n l)
  create-tells i shape n x is w = creating i shape n x is

  pub effect-tells : (i : Instruction) → Tells i (effect tagged u marks i l)
  effect-tells (Declare x) = go-tells (Declare x) Tick (λ w. clear tagged l.vars x) (λ w. declares x)
  effect-tells (Assign x a) = argument-tells (Assign x a) a l.vars (λ v vs. ticks tagged (into_var tagged x vs l v)) (λ v ws one. go-tells (Assign x a) Tick (λ w. assign ws x v) (λ w. assigns x a v ws one))
  effect-tells (LoadField x y f) =
      object-tells (LoadField x y f) l.vars y (λ r n. Does (Load r f) (into_var tagged x l.vars l)) (λ r n e. go-tells (LoadField x y f) (Load r f) (λ w. assign l.vars x w) (λ w. loads x y f r n e))
  effect-tells (LoadLength x y) =
      object-tells (LoadLength x y) l.vars y (λ r n. ticks tagged (into_var tagged x l.vars l (tagged.number (pos n))))
      (λ r n e. go-tells (LoadLength x y) Tick (λ w. assign l.vars x (Some (Number (pos n)))) (λ w. measures x y r n e))
  effect-tells (LoadItem x y t) =
      number-tells (LoadItem x y t) (eval tagged t l.vars) (λ i. on_object tagged l.vars y (λ r n. on_index tagged i n (λ f. Does (Load r f) (into_var tagged x l.vars l))))
      (λ i. object-tells (LoadItem x y t) l.vars y (λ r n. on_index tagged i n (λ f. Does (Load r f) (into_var tagged x l.vars l)))
      (λ r n e. index-tells (LoadItem x y t) i n (λ f. Does (Load r f) (into_var tagged x l.vars l)) (λ f. go-tells (LoadItem x y t) (Load r f) (λ w. assign l.vars x w) (λ w. reads x y t r n f e))))
  effect-tells (TakeField x y f) =
      object-tells (TakeField x y f) l.vars y (λ r n. Does (Take r f) (into_var tagged x l.vars l)) (λ r n e. go-tells (TakeField x y f) (Take r f) (λ w. assign l.vars x w) (λ w. takes x y f r n e))
  effect-tells (NewObject x c) =
      class-tells (NewObject x c) (slice_get u.classes c) (λ n. makes tagged marks x (Class c) n l) (λ ts e. create-tells (NewObject x c) (Class c) (length ts) x (object x c ts e))
  effect-tells (NewArray x t) =
      number-tells (NewArray x t) (eval tagged t l.vars) (λ n. on_length tagged n (λ n. makes tagged marks x Array n l))
      (λ n. length-tells (NewArray x t) n (λ n. makes tagged marks x Array n l) (λ n. create-tells (NewArray x t) Array n x (array x t n)))
  effect-tells (StoreField y f a) =
      argument-tells (StoreField y f a) a l.vars (λ v vs. on_object tagged vs y (λ r n. Does (Store r f v) (λ w. GoesOn (with_vars tagged l vs))))
      (λ v ws one. object-tells (StoreField y f a) ws y (λ r n. Does (Store r f v) (λ w. GoesOn (with_vars tagged l ws))) (λ r n e. go-tells (StoreField y f a) (Store r f v) (λ w. ws) (λ w. stores y f a v ws r n one e)))
  effect-tells (StoreItem y t e) =
      number-tells (StoreItem y t e) (eval tagged t l.vars) (λ i. on_value tagged (eval tagged e l.vars) (λ v. if_number tagged (tagged.as_number v) (λ z. storing i v)))
      (λ i. value-tells (StoreItem y t e) (eval tagged e l.vars) (λ v. if_number tagged (tagged.as_number v) (λ z. storing i v)) (λ v q. number-if (StoreItem y t e) (tagged.as_number v) (λ z. storing i v) (λ z p. stored i v z q p)))
    where
      storing : ℤ → Held → Resumption Held Name Mark
      storing i v = on_object tagged l.vars y (λ r n. on_index tagged i n (λ f. Does (Store r f v) (λ w. GoesOn l)))

      stored : (i : ℤ) (v : Held) (z : ℤ) → eval tagged e l.vars ≡ Gives v → option_and_then values.as_number v ≡ Some z → Tells (StoreItem y t e) (storing i v)
      stored i v z q p =
          object-tells (StoreItem y t e) l.vars y (λ r n. on_index tagged i n (λ f. Does (Store r f v) (λ w. GoesOn l)))
          (λ r n here. index-tells (StoreItem y t e) i n (λ f. Does (Store r f v) (λ w. GoesOn l))
          (λ f w. going (StoreItem y t e) (Store r f v) l.vars l (writes y t e v z r n f q p here) (record { vars = refl; routine = refl; mark = refl })))
  effect-tells (Invoke into tie consumed y m args) =
      call-tells (Invoke into tie consumed y m args) consumed y args (λ this found vs. on_referred tagged (tagged.as_reference this) (λ p n. on_routine tagged (slice_get u.routines m) found (λ r. begun this found vs r)))
      (λ this found vs is. referred-tells (Invoke into tie consumed y m args) (tagged.as_reference this) (λ p n. on_routine tagged (slice_get u.routines m) found (λ r. begun this found vs r))
      (λ p n q. routine-tells (Invoke into tie consumed y m args) (slice_get u.routines m) found (λ r. begun this found vs r)
      (λ r here even. limit-tells (Invoke into tie consumed y m args) l.depth (call this found vs r)
      (λ w. calling into tie consumed y m args r this found vs (record { p = p; n = n; here = here; receiver = referred-to this p n q; receives = is; even = even })))))
    where
      call : Held → List Held → List Held → Routine → Act Held Mark
      call this found vs r = Calls (record { routine = m; code = r.code; first = first_vars tagged r this found; tie = tie; receiver = this; y = y; into = into }) (with_vars tagged l vs)

      begun : Held → List Held → List Held → Routine → Resumption Held Name Mark
      begun this found vs r = below_limit tagged l.depth (call this found vs r)
  effect-tells (Print e) =
      number-tells (Print e) (eval tagged e l.vars) (λ n. ticks tagged (GoesOn (record l { printed = l.printed ++ n ∷ [] })))
      (λ n w. going (Print e) Tick l.vars (record l { printed = l.printed ++ n ∷ [] }) (prints e) (record { vars = refl; routine = refl; mark = refl }))

  -- ---------- turns ----------
  -- the branch goes on with other variables, in another method
  pub record Goes_in (l' : Own) (m : ℕ) (vs : List Held) : Type 0 where
    pub vars : l'.vars ≡ vs
    pub routine : l'.routine ≡ m
    pub mark : l'.mark ≡ l.mark

  -- what a turn does, by what it asks and is told
  pub data TurnTo (w : Held) : Code → List (Frame Held) → Op → Did Held Mark → Type 0 where
    dying : (c : Code) (st : List (Frame Held)) (e : Failure) → TurnTo w c st Tick (Dies e)
    ending : (at : Span) (a : Argument) (v : Held) → value_of tagged a l.vars ≡ Gives v → TurnTo w (Return at a) [] Tick (Ends v)
    acting : (at : Span) (i : Instruction) (rest : Code) (st : List (Frame Held)) (o : Op) (vs : List Held) (l' : Own) → Acts w i o vs → Stays l' vs → TurnTo w (Do at i rest) st o (On l' rest st)
    making : (at : Span) (i : Instruction) (rest : Code) (st : List (Frame Held)) (shape : Shape) (n x : ℕ) (l' : Own) → Creates i shape n x → l' ≡ record l { vars = assign l.vars x w; mark = after_object l.mark } → TurnTo w (Do at i rest) st (Make l.mark shape n) (On l' rest st)
    beginning : (at : Span) (rest : Code) (st : List (Frame Held)) (into : Option ℕ) (tie : Tie) (consumed : Bool) (y m : ℕ) (args : List Argument) (r : Routine) (this : Held) (found vs saved : List Held) (lent : Option Held) (l' : Own) (c : Code) (caller : ℕ)
        → Begins tie consumed y m args r this found vs → c ≡ r.code → saved ≡ while_called tagged Moves tie y vs → lent ≡ lent_by Moves tie this → caller ≡ l.routine → Goes_in l' m (first_vars tagged r this found)
        → TurnTo w (Do at (Invoke into tie consumed y m args) rest) st Tick (On l' c (OpenCall tie into y saved lent caller rest ∷ st))
    left_block : (at : Span) (e : Term) (own1 : List ℕ) (a : Code) (own2 : List ℕ) (b rest : Code) (st : List (Frame Held)) → TurnTo w (If at e own1 a own2 b rest) st Tick (On l a (OpenBlock own1 rest ∷ st))
    right_block : (at : Span) (e : Term) (own1 : List ℕ) (a : Code) (own2 : List ℕ) (b rest : Code) (st : List (Frame Held)) → TurnTo w (If at e own1 a own2 b rest) st Tick (On l b (OpenBlock own2 rest ∷ st))
    into_loop : (at : Span) (e : Term) (own : List ℕ) (body rest : Code) (st : List (Frame Held)) → TurnTo w (While at e own body rest) st Tick (On l body (OpenBlock own (While at e own body rest) ∷ st))
    out_of_loop : (at : Span) (e : Term) (own : List ℕ) (body rest : Code) (st : List (Frame Held)) → TurnTo w (While at e own body rest) st Tick (On l rest st)
    parting : (at : Span) (own1 : List ℕ) (a : Code) (own2 : List ℕ) (b rest : Code) (st : List (Frame Held)) (p : Blocks) → p ≡ blocks own1 a own2 b → TurnTo w (Par at own1 a own2 b rest) st Tick (Splits p rest)
    recovering : (at : Span) (x : ℕ) (own hides : List ℕ) (body rest : Code) (st : List (Frame Held)) (l' : Own) (saved : List Held) → Goes_in l' l.routine (only tagged (λ y. not (those hides y)) l.vars) → saved ≡ only tagged (those hides) l.vars
        → TurnTo w (Recover at x own hides body rest) st Tick (On l' body (OpenRecover own hides saved rest ∷ st))
    giving : (at : Span) (y x : ℕ) (own hides : List ℕ) (saved : List Held) (rest : Code) (st : List (Frame Held)) (v : Held) (l' : Own) → slice_get l.vars y ≡ Some v → look_up tagged l.vars y ≡ Gives v
        → Goes_in l' l.routine (assign (from_either (those hides) saved (clear_all tagged (clear tagged l.vars y) own)) x v) → TurnTo w (Give at y x) (OpenRecover own hides saved rest ∷ st) Tick (On l' rest st)
    returning : (at : Span) (a : Argument) (tie : Tie) (into : Option ℕ) (y : ℕ) (saved : List Held) (lent : Option Held) (caller : ℕ) (rest : Code) (st : List (Frame Held)) (v : Held) (l' : Own) → value_of tagged a l.vars ≡ Gives v
        → Goes_in l' caller (assign_into (lent_back lent y saved) into v) → TurnTo w (Return at a) (OpenCall tie into y saved lent caller rest ∷ st) Tick (On l' rest st)

  -- so it is of a turn, whatever is told
  abbrev pub TurnTells : Code → List (Frame Held) → Turn Held Mark Op → Type 0
  TurnTells c st (Takes o told) = (w : Held) → TurnTo w c st o (told w)
  TurnTells c st NoTurn = Unit {0}

  act-turns : (at : Span) (i : Instruction) (rest : Code) (st : List (Frame Held)) (w : Held) (o : Op) (a : Act Held Mark) → ActTo w i o a → TurnTo w (Do at i rest) st o (acted tagged Moves at rest st a)
  act-turns at i rest st w _ (Halts k) (trapping _ _) = dying (Do at i rest) st (Trapped k at)
  act-turns at i rest st w o (GoesOn l') (going _ _ vs _ acts stays) = acting at i rest st o vs l' acts stays
  act-turns at i rest st w _ _ (creating _ shape n x is) = making at i rest st shape n x (record l { vars = assign l.vars x w; mark = after_object l.mark }) is refl
  act-turns at _ rest st w _ _ (calling into tie consumed y m args r this found vs is) =
      beginning at rest st into tie consumed y m args r this found vs (while_called tagged Moves tie y vs) (lent_by Moves tie this)
      (record l { vars = first_vars tagged r this found; routine = m; depth = suc l.depth }) r.code l.routine is refl refl refl refl (record { vars = refl; routine = refl; mark = refl })

  turn-of-tells : (at : Span) (i : Instruction) (rest : Code) (st : List (Frame Held)) (e : Resumption Held Name Mark) → Tells i e → TurnTells (Do at i rest) st (turn_of tagged Moves at rest st e)
  turn-of-tells at i rest st (Does o told) h = λ w. act-turns at i rest st w o (told w) (h w)
  turn-of-tells at i rest st Sticks h = tt

  returned-tells : (at : Span) (a : Argument) (v : Held) (st : List (Frame Held)) → value_of tagged a l.vars ≡ Gives v → TurnTells (Return at a) st (returned tagged Moves v st l)
  returned-tells at a v [] q = λ w. ending at a v q
  returned-tells at a v (OpenCall tie into y saved lent caller rest ∷ st) q =
      λ w. returning at a tie into y saved lent caller rest st v (record l { vars = assign_into (lent_back lent y saved) into v; routine = caller; depth = l.depth - 1 }) q (record { vars = refl; routine = refl; mark = refl })
  returned-tells at a v (OpenBlock own rest ∷ st) q = tt
  returned-tells at a v (OpenRecover own hides saved rest ∷ st) q = tt

  given-tells : (at : Span) (e : Eval Held) (y x : ℕ) (st : List (Frame Held)) → look_up tagged l.vars y ≡ e → TurnTells (Give at y x) st (given_back tagged Moves e y x st l)
  given-tells at (Gives v) y x [] q = tt
  given-tells at (Gives v) y x (OpenCall tie into z saved lent caller rest ∷ st) q = tt
  given-tells at (Gives v) y x (OpenBlock own rest ∷ st) q = tt
  given-tells at (Gives v) y x (OpenRecover own hides saved rest ∷ st) q =
      λ w. giving at y x own hides saved rest st v (with_vars tagged l (assign (from_either (those hides) saved (clear_all tagged (clear tagged l.vars y) own)) x v)) (looked-up (slice_get l.vars y) v q) q (record { vars = refl; routine = refl; mark = refl })
  given-tells at (Traps t) y x st q = tt
  given-tells at Mistyped y x st q = tt

  test-tells : (c : Code) (st : List (Frame Held)) (e : Eval Held) (at : Span) (a b : Turn Held Mark Op) → TurnTells c st a → TurnTells c st b → TurnTells c st (on_test tagged Moves e at a b)
  test-tells c st (Gives v) at a b h k = go (tagged.as_truth v)
    where
      go : (t : Option Bool) → TurnTells c st (by_truth tagged Moves t a b)
      go None = tt
      go (Some true) = h
      go (Some false) = k
  test-tells c st (Traps t) at a b h k = λ w. dying c st (Trapped t at)
  test-tells c st Mistyped at a b h k = tt

  pub turn-tells : (c : Code) (st : List (Frame Held)) → TurnTells c st (turn tagged Moves u marks c st l)
  turn-tells End st = tt
  turn-tells (Give at y x) st = given-tells at (look_up tagged l.vars y) y x st refl
  turn-tells (Return at a) st = go (value_of tagged a l.vars) refl
    where
      go : (e : Eval Held) → value_of tagged a l.vars ≡ e → TurnTells (Return at a) st (turns.on_value tagged Moves e at (λ v. returned tagged Moves v st l))
      go (Gives v) q = returned-tells at a v st q
      go (Traps t) q = λ w. dying (Return at a) st (Trapped t at)
      go Mistyped q = tt
  turn-tells (Do at i rest) st = turn-of-tells at i rest st (effect tagged u marks i l) (effect-tells i)
  turn-tells (If at e own1 a own2 b rest) st =
      test-tells (If at e own1 a own2 b rest) st (eval tagged e l.vars) at (tick tagged Moves (On l a (OpenBlock own1 rest ∷ st))) (tick tagged Moves (On l b (OpenBlock own2 rest ∷ st)))
      (λ w. left_block at e own1 a own2 b rest st) (λ w. right_block at e own1 a own2 b rest st)
  turn-tells (While at e own body rest) st =
      test-tells (While at e own body rest) st (eval tagged e l.vars) at (tick tagged Moves (On l body (OpenBlock own (While at e own body rest) ∷ st))) (tick tagged Moves (On l rest st))
      (λ w. into_loop at e own body rest st) (λ w. out_of_loop at e own body rest st)
  turn-tells (Par at own1 a own2 b rest) st = go (nat_lt l.depth depth_limit)
    where
      go : (t : Bool) → TurnTells (Par at own1 a own2 b rest) st (cond t (tick tagged Moves (Splits (blocks own1 a own2 b) rest)) (trap tagged Moves at StackOverflow))
      go true = λ w. parting at own1 a own2 b rest st (blocks own1 a own2 b) refl
      go false = λ w. dying (Par at own1 a own2 b rest) st (Trapped StackOverflow at)
  turn-tells (Recover at x own hides body rest) st =
      λ w. recovering at x own hides body rest st (with_vars tagged l (only tagged (λ y. not (those hides y)) l.vars)) (only tagged (those hides) l.vars) (record { vars = refl; routine = refl; mark = refl }) refl
