-- Parts that name what isn't known, and parts in which shapes don't fit.
use Rattle.std.specs.Prelude.{ℕ, Bool, true, false, not, ◌&&◌, ◌||◌, List, [], ◌∷◌, Option, Some, None, slice_get, is_none}
use Rattle.std.specs.List.{list_any}
use Rattle.perm_tree.specs.declared.ast.Perm.TheVariants.{Isolated}
use Rattle.perm_tree.specs.declared.ast.Shape.TheVariants.{Class, Array}
use Rattle.perm_tree.specs.declared.ast.Ty.{Ty}
use Rattle.perm_tree.specs.declared.ast.Ty.TheVariants.{Long, Ref}
use Rattle.perm_tree.specs.Code.{Argument, Instruction, Declare, Assign, LoadField, LoadLength, LoadItem, TakeField, NewObject, NewArray, StoreField, StoreItem, Invoke, Print, Routine}
use Rattle.perm_tree.specs.Lookup.{is_array}
use Rattle.perm_rules.specs.Parts.{Context, Part, Simple, Condition, ParHead, RecoverHead, Given, Returned, any_in_part, type_of, field_type, if_known, if_both_known, has_isolated, is_object, isnt_reference}
use Rattle.perm_rules.specs.Sorts.{argument_sort, argument_wrong, isnt_value_of, differ, isnt_long, isnt_bool}

-- ---------- names that aren't known ----------
-- the class of the variable y has no field with this number
abbrev pub lacks_field : Context → ℕ → ℕ → Bool
lacks_field c y f = if_known (type_of c y) is_object && is_none (field_type c y f)

-- the class of the variable y has no such method
abbrev pub lacks_routine : Context → ℕ → ℕ → Bool
lacks_routine c y m = if_known (type_of c y) is_object && is_none (slice_get c.routines m)

-- the class of the receiver has no such member
abbrev pub lacks_member : Context → Part → Bool
lacks_member c (Simple (LoadField x y f)) = lacks_field c y f
lacks_member c (Simple (TakeField x y f)) = lacks_field c y f
lacks_member c (Simple (StoreField y f a)) = lacks_field c y f
lacks_member c (Simple (Invoke into tie consumed y routine args)) = lacks_routine c y routine
lacks_member c _ = false

-- a variable isn't known, or the receiver's class has no such member
abbrev pub unknown_name : Context → Part → Bool
unknown_name c p = any_in_part (λ x. is_none (type_of c x)) p || lacks_member c p

-- ---------- shapes that don't fit ----------
-- the value of an argument doesn't come into a variable of a type, if that is known
abbrev pub argument_misfits : Context → Argument → Option Ty → Bool
argument_misfits c a t = argument_wrong c a || if_known t (isnt_value_of (argument_sort c a))

-- the arguments don't fit the parameters, or there are more or fewer
abbrev pub arguments_misfit : Context → List Argument → List Ty → Bool
arguments_misfit c [] [] = false
arguments_misfit c (a ∷ rest) (t ∷ ts) = argument_misfits c a (Some t) || arguments_misfit c rest ts
arguments_misfit c _ _ = true

-- the variable y is known to be no object of a class
abbrev pub isnt_object : Context → ℕ → Bool
isnt_object c y = if_known (type_of c y) (λ t. not (is_object t))

-- the variable y is known to be no array
abbrev pub isnt_array : Context → ℕ → Bool
isnt_array c y = if_known (type_of c y) (λ t. not (is_array (Some t)))

-- two known types differ in more than permissions
abbrev pub shapes_differ : Option Ty → Option Ty → Bool
shapes_differ t u = if_both_known t u differ

-- the field is known not to be isolated
abbrev pub isnt_isolated : Option Ty → Bool
isnt_isolated t = if_known t (λ u. not (has_isolated (Some u)))

-- the type of the variable that takes a result, if one does
abbrev pub taker_type : Context → Option ℕ → Option Ty
taker_type c None = None
taker_type c (Some x) = type_of c x

-- the arguments or the result of a call don't fit its method
abbrev pub call_misfits : Context → Option ℕ → List Argument → Option Routine → Bool
call_misfits c into args None = false
call_misfits c into args (Some r) = arguments_misfit c args r.params || shapes_differ (Some r.result) (taker_type c into)

-- shapes don't fit in a simple statement, or a member is used of what has no such member
abbrev pub instruction_wrong : Context → Instruction → Bool
instruction_wrong c (Declare x) = false
instruction_wrong c (Assign x a) = argument_misfits c a (type_of c x)
instruction_wrong c (LoadField x y f) = isnt_object c y || shapes_differ (field_type c y f) (type_of c x)
instruction_wrong c (LoadLength x y) = isnt_array c y || shapes_differ (Some Long) (type_of c x)
instruction_wrong c (LoadItem x y i) = isnt_array c y || (isnt_long c i || shapes_differ (Some Long) (type_of c x))
instruction_wrong c (TakeField x y f) = isnt_object c y || (isnt_isolated (field_type c y f) || shapes_differ (field_type c y f) (type_of c x))
instruction_wrong c (NewObject x class) = shapes_differ (Some (Ref Isolated (Class class))) (type_of c x)
instruction_wrong c (NewArray x n) = isnt_long c n || shapes_differ (Some (Ref Isolated Array)) (type_of c x)
instruction_wrong c (StoreField y f a) = isnt_object c y || argument_misfits c a (field_type c y f)
instruction_wrong c (StoreItem y i e) = isnt_array c y || (isnt_long c i || isnt_long c e)
instruction_wrong c (Invoke into tie consumed y routine args) =
    isnt_object c y || (list_any (argument_wrong c) args || call_misfits c into args (slice_get c.routines routine))
instruction_wrong c (Print e) = isnt_long c e

-- the same of each part; what is wrong with a given value is told by another kind
abbrev pub wrong_kind : Context → Part → Bool
wrong_kind c (Simple i) = instruction_wrong c i
wrong_kind c (Condition e) = isnt_bool c e
wrong_kind c (ParHead u1 u2 a1 a2) = false
wrong_kind c (RecoverHead x) = if_known (type_of c x) isnt_reference
wrong_kind c (Given w x) = false
wrong_kind c (Returned a) = argument_misfits c a (Some c.result)

-- what is given is no reference, or of another shape than the variable that takes it
abbrev pub bad_give : Context → Part → Bool
bad_give c (Given w x) = if_both_known (type_of c w) (type_of c x) (λ t u. isnt_reference t || differ t u)
bad_give c _ = false
