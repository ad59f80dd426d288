-- A simple statement calls code of the unit only, which ends by a return where all methods' code does.
use Rattle.std.proofs.Common.{◌≡◌, ℕ, Bool, true, false, cond, Option, Some, None, List, [], ◌∷◌, ◌++◌, length, refl}
use Rattle.std.specs.Prelude.{ℤ, pos, negsuc, nat_eq, nat_lt, slice_get}
use Rattle.perm_tree.specs.declared.ast.Ty.{Ty}
use Rattle.perm_tree.specs.declared.errors.TrapKind.TheVariants.{IndexOutOfRange, StackOverflow}
use Rattle.perm_tree.specs.Code.{Argument, Expression, Consumed, Instruction, Declare, Assign, LoadField, LoadLength, LoadItem, TakeField, NewObject, NewArray, StoreField, StoreItem, Invoke, Print, Routine, UnitCode}
use Rattle.perm_meaning.specs.Values.{Eval, Gives, Traps, Mistyped, Referred, ToNull, ToObject, NoReference}
use Rattle.perm_meaning.specs.Expressions.{tagged, clear, look_up, eval}
use Rattle.perm_meaning.specs.Names.{Name, Mark}
use Rattle.perm_meaning.specs.Effects.{Act, Calls, Resumption, Does, Sticks, depth_limit, choose, ticks, halts, on_value, if_number, on_number, on_referred, on_object, on_argument, on_arguments, on_index, on_length, on_class, on_call, on_routine, below_limit, effect}
use Rattle.perm_meaning.specs.NamedHeap.{Held, Own, marks}
use Rattle.perm_core.specs.Endings.{ByReturn, ends}

-- the code of each method ends by a return
abbrev pub AllReturn : UnitCode → Type 0
AllReturn u = (m : ℕ) (r : Routine) → slice_get u.routines m ≡ Some r → ends ByReturn r.code ≡ true

-- what is called ends by a return
abbrev pub CallsRightly : Act Held Mark → Type 0
CallsRightly (Calls x l) = ends ByReturn x.code ≡ true
CallsRightly _ = Unit {0}

-- the same whatever the heap answers
abbrev pub AllCallRightly : Resumption Held Name Mark → Type 0
AllCallRightly Sticks = Unit {0}
AllCallRightly (Does o told) = (v : Held) → CallsRightly (told v)

-- ---------- ways on ----------
value-calls : (e : Eval Held) (go : Held → Resumption Held Name Mark) → ((v : Held) → AllCallRightly (go v)) → AllCallRightly (on_value tagged e go)
value-calls (Gives v) go k = k v
value-calls (Traps t) go k = λ v. tt
value-calls Mistyped go k = tt

if-number-calls : (o : Option ℤ) (go : ℤ → Resumption Held Name Mark) → ((n : ℤ) → AllCallRightly (go n)) → AllCallRightly (if_number tagged o go)
if-number-calls None go k = tt
if-number-calls (Some n) go k = k n

number-calls : (e : Eval Held) (go : ℤ → Resumption Held Name Mark) → ((n : ℤ) → AllCallRightly (go n)) → AllCallRightly (on_number tagged e go)
number-calls e go k = value-calls e (λ v. if_number tagged (tagged.as_number v) go) (λ v. if-number-calls (tagged.as_number v) go k)

referred-calls : (r : Referred Name) (go : Name → ℕ → Resumption Held Name Mark) → ((r : Name) (n : ℕ) → AllCallRightly (go r n)) → AllCallRightly (on_referred tagged r go)
referred-calls (ToObject r n) go k = k r n
referred-calls ToNull go k = λ v. tt
referred-calls NoReference go k = tt

object-calls : (vs : List Held) (y : ℕ) (go : Name → ℕ → Resumption Held Name Mark) → ((r : Name) (n : ℕ) → AllCallRightly (go r n)) → AllCallRightly (on_object tagged vs y go)
object-calls vs y go k = value-calls (look_up tagged vs y) (λ v. on_referred tagged (tagged.as_reference v) go) (λ v. referred-calls (tagged.as_reference v) go k)

argument-calls : (a : Argument) (vs : List Held) (go : Held → List Held → Resumption Held Name Mark) → ((v : Held) (vs : List Held) → AllCallRightly (go v vs)) → AllCallRightly (on_argument tagged a vs go)
argument-calls (Expression e) vs go k = value-calls (eval tagged e vs) (λ v. go v vs) (λ v. k v vs)
argument-calls (Consumed y) vs go k = value-calls (look_up tagged vs y) (λ v. go v (clear tagged vs y)) (λ v. k v (clear tagged vs y))

arguments-call : (args : List Argument) (found vs : List Held) (go : List Held → List Held → Resumption Held Name Mark) → ((found vs : List Held) → AllCallRightly (go found vs)) → AllCallRightly (on_arguments tagged args found vs go)
arguments-call [] found vs go k = k found vs
arguments-call (e ∷ rest) found vs go k = argument-calls e vs (λ v vs. on_arguments tagged rest (found ++ v ∷ []) vs go) (λ v vs. arguments-call rest (found ++ v ∷ []) vs go k)

index-calls : (i : ℤ) (n : ℕ) (go : ℕ → Resumption Held Name Mark) → ((f : ℕ) → AllCallRightly (go f)) → AllCallRightly (on_index tagged i n go)
index-calls (pos i) n go k = which (nat_lt i n)
  where
    which : (t : Bool) → AllCallRightly (cond t (go i) (halts tagged IndexOutOfRange))
    which true = k i
    which false = λ v. tt
index-calls (negsuc i) n go k = λ v. tt

length-calls : (n : ℤ) (go : ℕ → Resumption Held Name Mark) → ((n : ℕ) → AllCallRightly (go n)) → AllCallRightly (on_length tagged n go)
length-calls (pos n) go k = k n
length-calls (negsuc n) go k = λ v. tt

class-calls : (o : Option (List Ty)) (go : ℕ → Resumption Held Name Mark) → ((n : ℕ) → AllCallRightly (go n)) → AllCallRightly (on_class tagged o go)
class-calls None go k = tt
class-calls (Some ts) go k = k (length ts)

call-calls : (consumed : Bool) (y : ℕ) (args : List Argument) (vs : List Held) (go : Held → List Held → List Held → Resumption Held Name Mark) → ((v : Held) (found vs : List Held) → AllCallRightly (go v found vs)) → AllCallRightly (on_call tagged consumed y args vs go)
call-calls true y args vs go k = value-calls (look_up tagged vs y) (λ v. on_arguments tagged args [] (clear tagged vs y) (λ found vs. go v found vs)) (λ v. arguments-call args [] (clear tagged vs y) (λ found vs. go v found vs) (λ found vs. k v found vs))
call-calls false y args vs go k =
    arguments-call args [] vs (λ found vs. on_value tagged (look_up tagged vs y) (λ v. go v found vs)) (λ found vs. value-calls (look_up tagged vs y) (λ v. go v found vs) (λ v. k v found vs))

routine-calls : (o : Option Routine) (found : List Held) (go : Routine → Resumption Held Name Mark) → ((r : Routine) → o ≡ Some r → AllCallRightly (go r)) → AllCallRightly (on_routine tagged o found go)
routine-calls None found go k = tt
routine-calls (Some r) found go k = which (nat_eq (length found) (length r.params))
  where
    which : (t : Bool) → AllCallRightly (choose t go (λ r. Sticks) r)
    which true = k r refl
    which false = tt

limit-calls : (d : ℕ) (a : Act Held Mark) → CallsRightly a → AllCallRightly (below_limit tagged d a)
limit-calls d a k = which (nat_lt d depth_limit)
  where
    which : (t : Bool) → AllCallRightly (cond t (ticks tagged a) (halts tagged StackOverflow))
    which true = λ v. k
    which false = λ v. tt

-- ---------- the table ----------
pub effect-calls : (u : UnitCode) → AllReturn u → (i : Instruction) (l : Own) → AllCallRightly (effect tagged u marks i l)
effect-calls u all (Declare x) l = λ v. tt
effect-calls u all (Assign x e) l = argument-calls e l.vars _ (λ v vs w. tt)
effect-calls u all (LoadField x y f) l = object-calls l.vars y _ (λ r n v. tt)
effect-calls u all (LoadLength x y) l = object-calls l.vars y _ (λ r n v. tt)
effect-calls u all (LoadItem x y i) l = number-calls (eval tagged i l.vars) _ (λ z. object-calls l.vars y _ (λ r n. index-calls z n _ (λ f v. tt)))
effect-calls u all (TakeField x y f) l = object-calls l.vars y _ (λ r n v. tt)
effect-calls u all (NewObject x c) l = class-calls (slice_get u.classes c) _ (λ n v. tt)
effect-calls u all (NewArray x e) l = number-calls (eval tagged e l.vars) _ (λ z. length-calls z _ (λ n v. tt))
effect-calls u all (StoreField y f e) l = argument-calls e l.vars _ (λ v vs. object-calls vs y _ (λ r n w. tt))
effect-calls u all (StoreItem y i e) l =
    number-calls (eval tagged i l.vars) _ (λ z. value-calls (eval tagged e l.vars) _ (λ v. if-number-calls (tagged.as_number v) _ (λ j. object-calls l.vars y _ (λ r n. index-calls z n _ (λ f w. tt)))))
effect-calls u all (Print e) l = number-calls (eval tagged e l.vars) _ (λ z v. tt)
effect-calls u all (Invoke into tie consumed y m args) l =
    call-calls consumed y args l.vars _ (λ v found vs. referred-calls (tagged.as_reference v) _ (λ p n. routine-calls (slice_get u.routines m) found _ (λ r is. limit-calls l.depth _ (all m r is))))
