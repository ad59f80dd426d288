-- When a value of one type may come into a variable of another.
use Rattle.std.specs.Prelude.{Bool, true, false, ◌&&◌, not}
use Rattle.perm_tree.specs.declared.ast.Ty.{Ty}
use Rattle.perm_tree.specs.declared.ast.Ty.TheVariants.{Long, Bool as Boolean, Ref}
use Rattle.perm_tree.specs.Shapes.{same_shape}
use Rattle.perm_perm.specs.Order.{is_at_most}
use Rattle.perm_perm.specs.Adaptation.{raised}

-- both `long`, both `bool`, or references of one shape, whatever their permissions
abbrev pub same_kind : Ty → Ty → Bool
same_kind Long Long = true
same_kind Boolean Boolean = true
same_kind (Ref p k) (Ref q l) = same_shape k l
same_kind _ _ = false

-- a value of the one type may come into a variable of the other
abbrev pub fits : Ty → Ty → Bool
fits Long Long = true
fits Boolean Boolean = true
fits (Ref p k) (Ref q l) = same_shape k l && is_at_most p q
fits _ _ = false

-- references of one shape, and the permission isn't at most the other
abbrev pub is_too_weak : Ty → Ty → Bool
is_too_weak (Ref p k) (Ref q l) = same_shape k l && not (is_at_most p q)
is_too_weak _ _ = false

-- `null` may come into a variable of the type
abbrev pub fits_null : Ty → Bool
fits_null (Ref p k) = true
fits_null _ = false

-- the type with its permission raised
abbrev pub raised_type : Ty → Ty
raised_type (Ref p k) = Ref (raised p) k
raised_type t = t
