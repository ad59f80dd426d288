-- What one turn of a simple statement asks of the heap, and what it does to its branch. The meaning and the machines share this one table.
use Rattle.std.specs.Prelude.{ℕ, ◌+◌, ◌-◌, Bool, true, false, ℤ, pos, negsuc, List, [], ◌∷◌, ◌++◌, length, replicate, nat_eq, nat_lt, slice_get, Option, Some, None, cond}
use Rattle.perm_tree.specs.declared.ast.Shape.{Shape}
use Rattle.perm_tree.specs.declared.ast.Shape.TheVariants.{Class, Array}
use Rattle.perm_tree.specs.declared.ast.Ty.{Ty}
use Rattle.perm_tree.specs.declared.errors.TrapKind.{TrapKind}
use Rattle.perm_tree.specs.declared.errors.TrapKind.TheVariants.{NullReference, IndexOutOfRange, Overflow, StackOverflow}
use Rattle.perm_tree.specs.Code.{Argument, Expression, Consumed, Tie, Instruction, Declare, Assign, LoadField, LoadLength, LoadItem, TakeField, NewObject, NewArray, StoreField, StoreItem, Invoke, Print, Code, Routine, UnitCode}
use Rattle.perm_meaning.specs.Values.{Eval, Gives, Traps, Mistyped, Referred, ToNull, ToObject, NoReference}
use Rattle.perm_meaning.specs.Expressions.{Reading, assign, look_up, clear, eval}
use Rattle.perm_meaning.specs.Machine.{Own, Marks}

-- an operation on the heap: nothing; field f of what r names is loaded, stored to, or swapped with null; an object is made with n values, and what the branch bears names it
pub data Op (V R G : Type 0) : Type 0 where
  Tick : Op V R G
  Load : (r : R) (f : ℕ) → Op V R G
  Store : (r : R) (f : ℕ) (v : V) → Op V R G
  Take : (r : R) (f : ℕ) → Op V R G
  Make : (by : G) (shape : Shape) (n : ℕ) → Op V R G

-- a call that begins: the method with its code, the values of its variables, how it is tied, its receiver with that one's variable, and where the result goes
pub record Calling (V : Type 0) : Type 0 where
  pub routine : ℕ
  pub code : Code
  pub first : List V
  pub tie : Tie
  pub receiver : V
  pub y : ℕ
  pub into : Option ℕ

-- what a simple statement does: its branch goes on, it begins a call, or it traps
pub data Act (V G : Type 0) : Type 0 where
  GoesOn : (l : Own V G) → Act V G
  Calls : (c : Calling V) (l : Own V G) → Act V G
  Halts : (k : TrapKind) → Act V G

-- one operation, and what is done by what it finds; or nothing, where a value or a member that is needed isn't there
pub data Resumption (V R G : Type 0) : Type 0 where
  Does : (o : Op V R G) (told : V → Act V G) → Resumption V R G
  Sticks : Resumption V R G

-- open calls and par branches of one path
abbrev pub depth_limit : ℕ
depth_limit = 100000

-- one of two ways on; the other isn't gone
abbrev pub choose : {A B : Type 0} → Bool → (A → B) → (A → B) → A → B
choose true go other a = go a
choose false go other a = other a

-- the variables at the start of a method: `this`, the parameters, and the locals
abbrev pub first_vars : {V R : Type 0} → Reading V R → Routine → V → List V → List V
first_vars k r this args = this ∷ (args ++ replicate (length r.vars - (1 + length args)) k.unset)

module _ {V R G : Type 0} (k : Reading V R) where
  -- an effect that asks nothing of the heap
  abbrev pub ticks : Act V G → Resumption V R G
  ticks a = Does Tick (λ w. a)

  -- a trap before the heap is asked
  abbrev pub halts : TrapKind → Resumption V R G
  halts t = ticks (Halts t)

  -- the same branch with other variables
  abbrev pub with_vars : Own V G → List V → Own V G
  with_vars l vs = record l { vars = vs }

  -- ---------- what is needed of values ----------
  -- go on with a value, or trap
  abbrev pub on_value : Eval V → (V → Resumption V R G) → Resumption V R G
  on_value (Gives v) go = go v
  on_value (Traps t) go = halts t
  on_value Mistyped go = Sticks

  -- go on with a number, if it is one
  abbrev pub if_number : Option ℤ → (ℤ → Resumption V R G) → Resumption V R G
  if_number None go = Sticks
  if_number (Some n) go = go n

  -- go on with the number that an expression gives
  abbrev pub on_number : Eval V → (ℤ → Resumption V R G) → Resumption V R G
  on_number e go = on_value e (λ v. if_number (k.as_number v) go)

  -- go on with what is referred to and its length, or trap at null
  abbrev pub on_referred : Referred R → (R → ℕ → Resumption V R G) → Resumption V R G
  on_referred (ToObject r n) go = go r n
  on_referred ToNull go = halts NullReference
  on_referred NoReference go = Sticks

  -- go on with what a variable refers to
  abbrev pub on_object : List V → ℕ → (R → ℕ → Resumption V R G) → Resumption V R G
  on_object vs y go = on_value (look_up k vs y) (λ v. on_referred (k.as_reference v) go)

  -- an argument's value, and the variables after it
  abbrev pub on_argument : Argument → List V → (V → List V → Resumption V R G) → Resumption V R G
  on_argument (Expression e) vs go = on_value (eval k e vs) (λ v. go v vs)
  on_argument (Consumed y) vs go = on_value (look_up k vs y) (λ v. go v (clear k vs y))

  -- the values of arguments from left to right, behind those that are found already
  abbrev pub on_arguments : List Argument → List V → List V → (List V → List V → Resumption V R G) → Resumption V R G
  on_arguments [] found vs go = go found vs
  on_arguments (a ∷ rest) found vs go = on_argument a vs (λ v vs. on_arguments rest (found ++ v ∷ []) vs go)

  -- the place of an index within a length
  abbrev pub on_index : ℤ → ℕ → (ℕ → Resumption V R G) → Resumption V R G
  on_index (pos i) n go = cond (nat_lt i n) (go i) (halts IndexOutOfRange)
  on_index (negsuc i) n go = halts IndexOutOfRange

  -- the length of a new array isn't negative
  abbrev pub on_length : ℤ → (ℕ → Resumption V R G) → Resumption V R G
  on_length (pos n) go = go n
  on_length (negsuc n) go = halts Overflow

  -- the number of fields of a class
  abbrev pub on_class : Option (List Ty) → (ℕ → Resumption V R G) → Resumption V R G
  on_class None go = Sticks
  on_class (Some ts) go = go (length ts)

  -- ---------- calls ----------
  -- a receiver that is consumed comes first, and one that isn't comes last
  abbrev pub on_call : Bool → ℕ → List Argument → List V → (V → List V → List V → Resumption V R G) → Resumption V R G
  on_call true y args vs go = on_value (look_up k vs y) (λ this. on_arguments args [] (clear k vs y) (λ found vs. go this found vs))
  on_call false y args vs go = on_arguments args [] vs (λ found vs. on_value (look_up k vs y) (λ this. go this found vs))

  -- a method that takes so many arguments
  abbrev pub on_routine : Option Routine → List V → (Routine → Resumption V R G) → Resumption V R G
  on_routine None args go = Sticks
  on_routine (Some r) args go = choose (nat_eq (length args) (length r.params)) go (λ r. Sticks) r

  -- a call at the depth limit traps
  abbrev pub below_limit : ℕ → Act V G → Resumption V R G
  below_limit depth a = cond (nat_lt depth depth_limit) (ticks a) (halts StackOverflow)

  -- ---------- objects ----------
  -- a new object comes into x, and the branch has made one more
  abbrev pub made : Marks G → ℕ → Own V G → V → Act V G
  made g x l w = GoesOn (record l { vars = assign l.vars x w; mark = g.after_object l.mark })

  -- a new object of n values is made for x
  abbrev pub makes : Marks G → ℕ → Shape → ℕ → Own V G → Resumption V R G
  makes g x shape n l = Does (Make l.mark shape n) (made g x l)

  -- what is found comes into x
  abbrev pub into_var : ℕ → List V → Own V G → V → Act V G
  into_var x vs l w = GoesOn (with_vars l (assign vs x w))

  -- ---------- the table ----------
  -- expressions come first, then the test for null, then that of an index, then the heap word
  abbrev pub effect : UnitCode → Marks G → Instruction → Own V G → Resumption V R G
  effect u g (Declare x) l = ticks (GoesOn (with_vars l (clear k l.vars x)))
  effect u g (Assign x a) l = on_argument a l.vars (λ v vs. ticks (into_var x vs l v))
  effect u g (LoadField x y f) l = on_object l.vars y (λ r n. Does (Load r f) (into_var x l.vars l))
  effect u g (LoadLength x y) l = on_object l.vars y (λ r n. ticks (into_var x l.vars l (k.number (pos n))))
  effect u g (LoadItem x y i) l = on_number (eval k i l.vars) (λ i. on_object l.vars y (λ r n. on_index i n (λ f. Does (Load r f) (into_var x l.vars l))))
  effect u g (TakeField x y f) l = on_object l.vars y (λ r n. Does (Take r f) (into_var x l.vars l))
  effect u g (NewObject x c) l = on_class (slice_get u.classes c) (λ n. makes g x (Class c) n l)
  effect u g (NewArray x n) l = on_number (eval k n l.vars) (λ n. on_length n (λ n. makes g x Array n l))
  effect u g (StoreField y f a) l = on_argument a l.vars (λ v vs. on_object vs y (λ r n. Does (Store r f v) (λ w. GoesOn (with_vars l vs))))
  effect u g (StoreItem y i e) l =
      on_number (eval k i l.vars) (λ i. on_value (eval k e l.vars) (λ v. if_number (k.as_number v) (λ z. on_object l.vars y (λ r n. on_index i n (λ f. Does (Store r f v) (λ w. GoesOn l))))))
  effect u g (Invoke into tie consumed y m args) l =
      on_call consumed y args l.vars (λ this found vs. on_referred (k.as_reference this) (λ p n. on_routine (slice_get u.routines m) found (λ r.
      below_limit l.depth (Calls (record { routine = m; code = r.code; first = first_vars k r this found; tie = tie; receiver = this; y = y; into = into }) (with_vars l vs)))))
  effect u g (Print e) l = on_number (eval k e l.vars) (λ n. ticks (GoesOn (record l { printed = l.printed ++ n ∷ [] })))
