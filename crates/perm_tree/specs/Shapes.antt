-- When two shapes are one.
use Rattle.std.specs.Prelude.{Bool, true, false, nat_eq}
use Rattle.perm_tree.specs.declared.ast.Shape.{Shape}
use Rattle.perm_tree.specs.declared.ast.Shape.TheVariants.{Class, Array}

-- both are arrays, or objects of one class
abbrev pub same_shape : Shape → Shape → Bool
same_shape (Class k) (Class l) = nat_eq k l
same_shape Array Array = true
same_shape _ _ = false
