-- How a call is tied to its caller's references, by the types of its receiver and of its arguments.
use Rattle.std.specs.Prelude.{ℕ, Bool, true, false, Option, Some}
use Rattle.perm_tree.specs.declared.ast.Perm.TheVariants.{Isolated, Immutable, Readable, Writable}
use Rattle.perm_tree.specs.declared.ast.Ty.{Ty}
use Rattle.perm_tree.specs.declared.ast.Ty.TheVariants.{Ref}
use Rattle.perm_tree.specs.Code.{Argument, Expression, Consumed, Local, Tie, Shares, Raises, Lends}

-- a variable of this type may stand as a harmless argument
abbrev pub is_harmless_ty : Option Ty → Bool
is_harmless_ty (Some (Ref Isolated k)) = false
is_harmless_ty (Some (Ref Immutable k)) = true
is_harmless_ty (Some (Ref Readable k)) = false
is_harmless_ty (Some (Ref Writable k)) = false
is_harmless_ty _ = true

-- the same of one that is consumed
abbrev pub is_harmless_consumed : Option Ty → Bool
is_harmless_consumed (Some (Ref Isolated k)) = true
is_harmless_consumed (Some (Ref Immutable k)) = true
is_harmless_consumed _ = false

-- an argument is harmless where it is a `long`, a `bool`, null, an immutable variable, consumed or not, or a consumed isolated one
abbrev pub is_harmless : (ℕ → Option Ty) → Argument → Bool
is_harmless ty (Expression (Local x)) = is_harmless_ty (ty x)
is_harmless ty (Expression e) = true
is_harmless ty (Consumed y) = is_harmless_consumed (ty y)

-- a result is raised where all arguments are harmless
abbrev pub raises_if : Bool → Tie
raises_if true = Raises
raises_if false = Shares

-- an isolated receiver that isn't consumed is lent; an immutable one, or a consumed isolated one, raises the result where all arguments are harmless
abbrev pub tie_of : Option Ty → Bool → Bool → Tie
tie_of (Some (Ref Isolated k)) false harmless = Lends
tie_of (Some (Ref Isolated k)) true harmless = raises_if harmless
tie_of (Some (Ref Immutable k)) consumed harmless = raises_if harmless
tie_of _ consumed harmless = Shares
