-- The laws of adaptation, by tests over all permissions.
use Rattle.std.specs.Prelude.{◌≡◌, Bool, true, Option, Some, None, refl}
use Rattle.perm_tree.specs.declared.ast.Perm.{Perm}
use Rattle.perm_perm.specs.Order.{is_at_most, same_perm}
use Rattle.perm_perm.specs.Adaptation.{adapted}
use Rattle.perm_perm.specs.Laws.{IsMonotone, IsAssociative}
use Rattle.perm_perm.proofs.OverAll.{each_three-at, each_four-at, implies, implies-at}
use Rattle.perm_perm.proofs.OrderLaws.{same_perm-true}

-- the test holds where both have a value
abbrev both : (Perm → Perm → Bool) → Option Perm → Option Perm → Bool
both test (Some a) (Some b) = test a b
both test _ _ = true

abbrev adapted_then : Option Perm → (Perm → Option Perm) → Option Perm
adapted_then None f = None
adapted_then (Some a) f = f a

monotone_test : (p q r s : Perm) → is_at_most p q ≡ true → is_at_most r s ≡ true → both is_at_most (adapted p r) (adapted q s) ≡ true
monotone_test p q r s a b =
    implies-at _ _ (implies-at _ _ (each_four-at (λ p q r s. implies (is_at_most p q) (implies (is_at_most r s) (both is_at_most (adapted p r) (adapted q s)))) refl p q r s) a) b

pub monotone : IsMonotone
monotone p q r s a b h k e f = rw (e, f) at (monotone_test p q r s h k)

associative_test : (p q r : Perm) → both same_perm (adapted_then (adapted p q) (λ a. adapted a r)) (adapted_then (adapted q r) (λ a. adapted p a)) ≡ true
associative_test p q r =
    each_three-at (λ p q r. both same_perm (adapted_then (adapted p q) (λ a. adapted a r)) (adapted_then (adapted q r) (λ a. adapted p a))) refl p q r

pub associative : IsAssociative
associative p q r a b c d e f g h = same_perm-true b d (rw (e, f, g, h) at (associative_test p q r))
