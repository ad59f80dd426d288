-- A value fits exactly where shapes fit and the permission isn't too weak.
use Rattle.std.specs.Prelude.{◌≡◌, Bool, true, false, ◌&&◌, not, refl}
use Rattle.perm_tree.specs.declared.ast.Ty.TheVariants.{Long, Bool as Boolean, Ref}
use Rattle.perm_tree.specs.Shapes.{same_shape}
use Rattle.perm_perm.specs.Order.{is_at_most}
use Rattle.perm_perm.specs.Laws.{FitsByParts}

pub fits-parts : FitsByParts
fits-parts Long Long = refl
fits-parts Long Boolean = refl
fits-parts Long (Ref q l) = refl
fits-parts Boolean Long = refl
fits-parts Boolean Boolean = refl
fits-parts Boolean (Ref q l) = refl
fits-parts (Ref p k) Long = refl
fits-parts (Ref p k) Boolean = refl
fits-parts (Ref p k) (Ref q l) = go (same_shape k l) (is_at_most p q)
  where
    go : (a b : Bool) → (a && b) ≡ (a && not (a && not b))
    go true true = refl
    go true false = refl
    go false b = refl
