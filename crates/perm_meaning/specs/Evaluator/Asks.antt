-- What a simple statement asks of the heap, and what it goes on with.
use Rattle.std.specs.Prelude.{List, ℕ, ◌++◌, ℤ, pos, negsuc, [], ◌∷◌, length, nat_lt, cond, Option, Some, None}
use Rattle.perm_tree.specs.declared.ast.Shape.TheVariants.{Class, Array}
use Rattle.perm_tree.specs.declared.ast.Ty.{Ty}
use Rattle.perm_tree.specs.Code.{UnitCode}
use Rattle.perm_meaning.specs.Objects.{field_types}
use Rattle.perm_meaning.specs.declared.eval.asks.Ask.{Ask}
use Rattle.perm_meaning.specs.declared.eval.asks.Ask.TheVariants as asks
use Rattle.perm_meaning.specs.declared.eval.asks.Told.{Told}
use Rattle.perm_meaning.specs.declared.eval.asks.Told.TheVariants as told
use Rattle.perm_meaning.specs.declared.eval.asks.Asked.{Asked}
use Rattle.perm_meaning.specs.declared.eval.asks.Asked.TheVariants as asked
use Rattle.perm_meaning.specs.Effects.{Tick, Load, Store, Take, Make, Act, GoesOn, Halts, Resumption, Does, Sticks, with_vars, on_value, on_referred, on_number, if_number, on_index, on_length, into_var, ticks, made, makes}
use Rattle.perm_meaning.specs.Expressions.{tagged, assign, slot_reference}
use Rattle.perm_meaning.specs.NamedHeap.{Held, Op, marks}
use Rattle.perm_meaning.specs.NamedHeap as heaps
use Rattle.perm_meaning.specs.Names.{Name, Mark}
use Rattle.perm_meaning.specs.Evaluator.NumberedValues.{held_by, value_by, Names}
use Rattle.perm_meaning.specs.Values.{Eval, Number}

-- a turn of a branch on names
abbrev pub Way : Type 0
Way = Resumption Held Name Mark

-- ---------- what is asked ----------
-- the operation of a branch that bears this mark
abbrev pub op_by : UnitCode → Names → Mark → Ask → Op
op_by u names mark asks.Tick = Tick
op_by u names mark (asks.Load r f) = Load (names r) f
op_by u names mark (asks.Store r f v) = Store (names r) f (Some (value_by names v))
op_by u names mark (asks.Take r f) = Take (names r) f
op_by u names mark (asks.Object c) = Make mark (Class c) (length (field_types u c))
op_by u names mark (asks.Array n) = Make mark Array n

-- what is done by what the heap answers
abbrev pub told_by : Names → heaps.Own → Told → Held → Act Held Mark
told_by names l told.Goes w = GoesOn l
told_by names l (told.Into x) w = GoesOn (with_vars tagged l (assign l.vars x w))
told_by names l (told.Sets x v) w = GoesOn (with_vars tagged l (assign l.vars x (held_by names v)))
told_by names l (told.Made x) w = made tagged marks x l w
told_by names l (told.Prints n) w = GoesOn (record l { printed = l.printed ++ n ∷ [] })
told_by names l (told.Halts k) w = Halts k

-- the turn
abbrev pub asked_by : UnitCode → Names → heaps.Own → Asked → Way
asked_by u names l (asked.Does a t) = Does (op_by u names l.mark a) (told_by names l t)
asked_by u names l asked.Sticks = Sticks

-- ---------- the forms of simple statements, by what their operands give ----------
-- go on with what is referred to
abbrev pub referred : Eval Held → (Name → ℕ → Way) → Way
referred y go = on_value tagged y (λ v. on_referred tagged (slot_reference v) go)

-- the value comes into x
abbrev pub assigned : heaps.Own → ℕ → Eval Held → Way
assigned l x v = on_value tagged v (λ v. ticks tagged (into_var tagged x l.vars l v))

-- a field comes into x
abbrev pub loaded : heaps.Own → ℕ → ℕ → Eval Held → Way
loaded l x f y = referred y (λ r n. Does (Load r f) (into_var tagged x l.vars l))

-- the length comes into x
abbrev pub measured : heaps.Own → ℕ → Eval Held → Way
measured l x y = referred y (λ r n. ticks tagged (into_var tagged x l.vars l (Some (Number (pos n)))))

-- an element comes into x
abbrev pub loaded_item : heaps.Own → ℕ → Eval Held → Eval Held → Way
loaded_item l x i y = on_number tagged i (λ i. referred y (λ r n. on_index tagged i n (λ f. Does (Load r f) (into_var tagged x l.vars l))))

-- a field that is left null comes into x
abbrev pub taken : heaps.Own → ℕ → ℕ → Eval Held → Way
taken l x f y = referred y (λ r n. Does (Take r f) (into_var tagged x l.vars l))

-- a new array comes into x
abbrev pub new_array : heaps.Own → ℕ → Eval Held → Way
new_array l x n = on_number tagged n (λ n. on_length tagged n (λ n. makes tagged marks x Array n l))

-- a value comes into a field
abbrev pub stored_by : heaps.Own → ℕ → Eval Held → Eval Held → Way
stored_by l f v y = on_value tagged v (λ v. referred y (λ r n. Does (Store r f v) (λ w. GoesOn l)))

-- a number comes into an element
abbrev pub stored_item : heaps.Own → Eval Held → Eval Held → Eval Held → Way
stored_item l i e y =
    on_number tagged i (λ i. on_value tagged e (λ v. if_number tagged (tagged.as_number v) (λ z. referred y (λ r n. on_index tagged i n (λ f. Does (Store r f v) (λ w. GoesOn l))))))

-- a number is printed
abbrev pub printed_by : heaps.Own → Eval Held → Way
printed_by l e = on_number tagged e (λ n. ticks tagged (GoesOn (record l { printed = l.printed ++ n ∷ [] })))

-- the place of an index within a length, if there is one
abbrev pub index_in : ℤ → ℕ → Option ℕ
index_in (pos i) n = cond (nat_lt i n) (Some i) None
index_in (negsuc i) n = None

-- the length of a new array, if it isn't negative
abbrev pub length_in : ℤ → Option ℕ
length_in (pos n) = Some n
length_in (negsuc n) = None

-- a new object of a class with so many fields comes into x, if the class is there
abbrev pub made_of : heaps.Own → ℕ → ℕ → Option ℕ → Way
made_of l x c None = Sticks
made_of l x c (Some n) = makes tagged marks x (Class c) n l

-- the number of the fields of a class that is there
abbrev pub count_of : Option (List Ty) → Option ℕ
count_of None = None
count_of (Some ts) = Some (length ts)
