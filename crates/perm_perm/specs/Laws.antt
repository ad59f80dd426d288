-- What the laws of the order, of adaptation and of types claim.
use Rattle.std.specs.Prelude.{◌≡◌, ◌&&◌, not, IsTrue, Some}
use Rattle.perm_tree.specs.declared.ast.Perm.{Perm}
use Rattle.perm_tree.specs.declared.ast.Perm.TheVariants.{Isolated, Readable}
use Rattle.perm_tree.specs.declared.ast.Ty.{Ty}
use Rattle.perm_perm.specs.Order.{is_at_most}
use Rattle.perm_perm.specs.Adaptation.{adapted}
use Rattle.perm_perm.specs.Types.{same_kind, fits, is_too_weak}

-- the one permission is at most the other
abbrev pub IsAtMost : Perm → Perm → Type 0
IsAtMost p q = IsTrue (is_at_most p q)

-- each permission is at most itself
abbrev pub IsReflexive : Type 0
IsReflexive = (p : Perm) → IsAtMost p p

-- what is at most a permission is at most each that this one is at most
abbrev pub IsTransitive : Type 0
IsTransitive = (p q r : Perm) → IsAtMost p q → IsAtMost q r → IsAtMost p r

-- permissions that are at most each other are one
abbrev pub IsAntisymmetric : Type 0
IsAntisymmetric = (p q : Perm) → IsAtMost p q → IsAtMost q p → p ≡ q

-- isolated is at most each permission
abbrev pub IsolatedIsLeast : Type 0
IsolatedIsLeast = (p : Perm) → IsAtMost Isolated p

-- each permission is at most readable
abbrev pub ReadableIsGreatest : Type 0
ReadableIsGreatest = (p : Perm) → IsAtMost p Readable

-- a lesser receiver and a lesser field give what is at most the other, where both give something
abbrev pub IsMonotone : Type 0
IsMonotone = (p q r s a b : Perm) → IsAtMost p q → IsAtMost r s → adapted p r ≡ Some a → adapted q s ≡ Some b → IsAtMost a b

-- reading a field of a field goes by the one or by the other field first, where both ways give something
abbrev pub IsAssociative : Type 0
IsAssociative = (p q r a b c d : Perm) → adapted p q ≡ Some a → adapted a r ≡ Some b → adapted q r ≡ Some c → adapted p c ≡ Some d → b ≡ d

-- a value of a type may come into a variable of another exactly where the two are of one kind and the permission isn't too weak
abbrev pub FitsByParts : Type 0
FitsByParts = (t u : Ty) → fits t u ≡ (same_kind t u && not (is_too_weak t u))
