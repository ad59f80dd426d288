-- What code says of its calls is right: how each is tied, and that the called method is one of the receiver's class.
use Rattle.std.specs.Prelude.{Bool, true, false, ◌&&◌, nat_eq, slice_get, Option, Some}
use Rattle.std.specs.List.{list_all}
use Rattle.perm_tree.specs.declared.ast.Shape.TheVariants.{Class}
use Rattle.perm_tree.specs.declared.ast.Ty.{Ty}
use Rattle.perm_tree.specs.declared.ast.Ty.TheVariants.{Ref}
use Rattle.perm_tree.specs.Code.{Code, End, Give, Return, Do, If, While, Par, Recover, Routine, Instruction, Invoke, Tie, Shares, Raises, Lends}
use Rattle.perm_tree.specs.Ties.{tie_of, is_harmless}
use Rattle.perm_rules.specs.Parts.{Context, type_of}

-- two ties are one
abbrev pub same_tie : Tie → Tie → Bool
same_tie Shares Shares = true
same_tie Raises Raises = true
same_tie Lends Lends = true
same_tie _ _ = false

-- a method that is called on an object is one of its class
abbrev pub is_called_on : Option Ty → Option Routine → Bool
is_called_on (Some (Ref p (Class k))) (Some r) = nat_eq k r.class
is_called_on t r = true

-- the tie of a call is that of its receiver's type and its arguments, and its method is one of the receiver's class
abbrev pub call_right : Context → Instruction → Bool
call_right c (Invoke into tie consumed y m args) =
    same_tie tie (tie_of (type_of c y) consumed (list_all (is_harmless (type_of c)) args)) && is_called_on (type_of c y) (slice_get c.routines m)
call_right c _ = true

-- the same of all calls of a code
abbrev pub calls_right : Context → Code → Bool
calls_right c (Do at i rest) = call_right c i && calls_right c rest
calls_right c (If at e own1 a own2 b rest) = calls_right c a && (calls_right c b && calls_right c rest)
calls_right c (While at e own body rest) = calls_right c body && calls_right c rest
calls_right c (Par at own1 a own2 b rest) = calls_right c a && (calls_right c b && calls_right c rest)
calls_right c (Recover at x own hides body rest) = calls_right c body && calls_right c rest
calls_right c End = true
calls_right c (Give at w x) = true
calls_right c (Return at a) = true
