-- What permissions ask for: a consume, another receiver, or a stronger permission; and what is hidden within recover blocks.
use Rattle.std.specs.Prelude.{ℕ, Bool, true, false, not, ◌&&◌, ◌||◌, List, ◌∷◌, Option, Some, None, option_map, slice_get, is_none}
use Rattle.std.specs.List.{list_any, list_all}
use Rattle.perm_tree.specs.declared.ast.Perm.{Perm}
use Rattle.perm_tree.specs.declared.ast.Perm.TheVariants.{Isolated, Immutable, Writable}
use Rattle.perm_tree.specs.declared.ast.Ty.{Ty}
use Rattle.perm_tree.specs.declared.ast.Ty.TheVariants.{Ref}
use Rattle.perm_tree.specs.declared.ast.BinaryOp.{BinaryOp}
use Rattle.perm_tree.specs.declared.ast.BinaryOp.TheVariants.{Equal, Differs}
use Rattle.perm_tree.specs.Code.{Term, Local, Unary, Binary, Argument, Expression, Consumed, Tie, Raises, Lends, Instruction, Assign, LoadField, LoadItem, TakeField, NewArray, StoreField, StoreItem, Invoke, Print, Routine}
use Rattle.perm_tree.specs.CodeNames.{is_tied}
use Rattle.perm_tree.specs.Ties.{is_harmless}
use Rattle.perm_tree.specs.Vars.{those}
use Rattle.perm_perm.specs.Order.{is_at_most}
use Rattle.perm_perm.specs.Adaptation.{adapted}
use Rattle.perm_perm.specs.Types.{is_too_weak, raised_type}
use Rattle.perm_rules.specs.Parts.{Context, Part, Simple, Condition, Given, Returned, any_in_part, type_of, field_type, if_known, if_both_known, if_reference, is_isolated, has_isolated}
use Rattle.perm_rules.specs.Sorts.{Sort, Typed, argument_sort, is_null_test}
use Rattle.perm_rules.specs.Shapes.{taker_type}

-- ---------- a consume is needed ----------
-- the operator is `==` or `!=`
abbrev pub is_equality : BinaryOp → Bool
is_equality Equal = true
is_equality Differs = true
is_equality _ = false

-- an isolated variable stands as a value, and not as the operand of a test against null
abbrev pub term_needs : Context → Term → Bool
term_needs c (Local x) = has_isolated (type_of c x)
term_needs c (Unary op a) = term_needs c a
term_needs c (Binary op a b) = not (is_equality op && is_null_test c a b) && (term_needs c a || term_needs c b)
term_needs c _ = false

-- the same of an argument, where it isn't consumed
abbrev pub argument_needs : Context → Argument → Bool
argument_needs c (Expression e) = term_needs c e
argument_needs c (Consumed y) = false

-- an isolated field is seen as nothing through the receiver
abbrev pub read_needs : Ty → Ty → Bool
read_needs (Ref p k) (Ref q l) = is_isolated q && is_none (adapted p q)
read_needs _ _ = false

-- a method with this permission keeps its receiver
abbrev pub keeps_receiver : Perm → Bool
keeps_receiver Isolated = true
keeps_receiver Immutable = true
keeps_receiver _ = false

-- a variable is lent to a method that keeps its receiver
abbrev pub call_needs : Tie → Option Routine → Bool
call_needs Lends (Some r) = keeps_receiver r.receiver
call_needs _ _ = false

-- the same of a simple statement, with reads of isolated fields and lent receivers
abbrev pub instruction_needs : Context → Instruction → Bool
instruction_needs c (Assign x a) = argument_needs c a
instruction_needs c (LoadField x y f) = if_both_known (type_of c y) (field_type c y f) read_needs
instruction_needs c (LoadItem x y i) = term_needs c i
instruction_needs c (NewArray x n) = term_needs c n
instruction_needs c (StoreField y f a) = argument_needs c a
instruction_needs c (StoreItem y i e) = term_needs c i || term_needs c e
instruction_needs c (Invoke into tie consumed y routine args) = list_any (argument_needs c) args || call_needs tie (slice_get c.routines routine)
instruction_needs c (Print e) = term_needs c e
instruction_needs c _ = false

-- an isolated variable stands as a value, an isolated field is read without a take, or a method keeps a receiver that is only lent
abbrev pub needs_consume : Context → Part → Bool
needs_consume c (Simple i) = instruction_needs c i
needs_consume c (Condition e) = term_needs c e
needs_consume c (Returned a) = argument_needs c a
needs_consume c _ = false

-- ---------- not through this receiver ----------
-- through an isolated variable no readable or writable field is read
abbrev pub read_barred : Ty → Ty → Bool
read_barred (Ref Isolated k) (Ref q l) = is_tied (Ref q l)
read_barred _ _ = false

-- through a writable variable every field is written, and through an isolated one each that isn't readable or writable
abbrev pub may_store : Ty → Ty → Bool
may_store (Ref Writable k) t = true
may_store (Ref Isolated k) t = not (is_tied t)
may_store _ t = false

-- an array is written, and an isolated field taken, through a writable or an isolated variable
abbrev pub may_change : Ty → Bool
may_change (Ref Writable k) = true
may_change (Ref Isolated k) = true
may_change _ = false

-- a lending call has only harmless arguments, and its result isn't readable or writable
abbrev pub may_lend : Context → List Argument → Routine → Bool
may_lend c args r = list_all (is_harmless (type_of c)) args && not (is_tied r.result)

-- a call lends what it may not lend; where the method keeps its receiver, a consume is needed instead
abbrev pub call_barred : Context → Tie → List Argument → Option Routine → Bool
call_barred c Lends args (Some r) = not (keeps_receiver r.receiver) && not (may_lend c args r)
call_barred c _ args _ = false

-- a field, an item or a method isn't used so through a receiver of this permission
abbrev pub not_allowed_through : Context → Part → Bool
not_allowed_through c (Simple (LoadField x y f)) = if_both_known (type_of c y) (field_type c y f) read_barred
not_allowed_through c (Simple (TakeField x y f)) = if_known (type_of c y) (λ t. not (may_change t))
not_allowed_through c (Simple (StoreField y f a)) = if_both_known (type_of c y) (field_type c y f) (λ t u. not (may_store t u))
not_allowed_through c (Simple (StoreItem y i e)) = if_known (type_of c y) (λ t. not (may_change t))
not_allowed_through c (Simple (Invoke into tie consumed y routine args)) = call_barred c tie args (slice_get c.routines routine)
not_allowed_through c _ = false

-- ---------- a permission is too weak ----------
-- of two known types of one shape, the permission of the one isn't at most that of the other
abbrev pub weak : Option Ty → Option Ty → Bool
weak t u = if_both_known t u is_too_weak

-- the type of a value, if it has one that is known
abbrev pub type_if : Sort → Option Ty
type_if (Typed t) = Some t
type_if _ = None

-- the value of an argument has the shape of a type, and too weak a permission
abbrev pub argument_weak : Context → Argument → Option Ty → Bool
argument_weak c a t = weak (type_if (argument_sort c a)) t

-- the same of some argument beside its parameter
abbrev pub arguments_weak : Context → List Argument → List Ty → Bool
arguments_weak c (a ∷ rest) (t ∷ ts) = argument_weak c a (Some t) || arguments_weak c rest ts
arguments_weak c _ _ = false

-- the type that a field has where it is read through a receiver
abbrev pub seen_through : Option Ty → Option Ty → Option Ty
seen_through (Some (Ref p k)) (Some (Ref q l)) = option_map (λ r. Ref r l) (adapted p q)
seen_through _ t = t

-- the type of a call's value: the method's result, raised where the call raises
abbrev pub call_type : Tie → Ty → Ty
call_type Raises t = raised_type t
call_type _ t = t

-- the permission of a receiver that isn't lent is more than the method asks for
abbrev pub receiver_weak : Tie → Option Ty → Perm → Bool
receiver_weak Lends t r = false
receiver_weak _ t r = if_reference t (λ p. not (is_at_most p r))

-- of a call an argument, the receiver or the result is too weak
abbrev pub call_weak : Context → Option ℕ → Tie → ℕ → List Argument → Option Routine → Bool
call_weak c into tie y args None = false
call_weak c into tie y args (Some r) =
    arguments_weak c args r.params || (receiver_weak tie (type_of c y) r.receiver || weak (Some (call_type tie r.result)) (taker_type c into))

-- a given value is raised, and then has the shape of the variable that takes it and too weak a permission
abbrev pub raised_weak : Ty → Ty → Bool
raised_weak t u = is_too_weak (raised_type t) u

-- shapes fit, and a permission isn't at most the one that is asked for
abbrev pub permission_too_weak : Context → Part → Bool
permission_too_weak c (Simple (Assign x a)) = argument_weak c a (type_of c x)
permission_too_weak c (Simple (LoadField x y f)) = weak (seen_through (type_of c y) (field_type c y f)) (type_of c x)
permission_too_weak c (Simple (StoreField y f a)) = argument_weak c a (field_type c y f)
permission_too_weak c (Simple (Invoke into tie consumed y routine args)) = call_weak c into tie y args (slice_get c.routines routine)
permission_too_weak c (Given w x) = if_both_known (type_of c w) (type_of c x) raised_weak
permission_too_weak c (Returned a) = argument_weak c a (Some c.result)
permission_too_weak c _ = false

-- ---------- hidden ----------
-- a hidden variable is mentioned or assigned; the one that takes what is given stands outside of its recover block
abbrev pub is_hidden : Context → Part → Bool
is_hidden c (Given w x) = those c.hidden w
is_hidden c p = any_in_part (those c.hidden) p
