-- The laws of the order, by tests over all permissions.
use Rattle.std.specs.Prelude.{◌≡◌, true, refl}
use Rattle.perm_tree.specs.declared.ast.Perm.{Perm}
use Rattle.perm_tree.specs.declared.ast.Perm.TheVariants.{Isolated, Immutable, Readable, Writable}
use Rattle.perm_perm.specs.Order.{is_at_most, same_perm}
use Rattle.perm_perm.specs.Laws.{IsReflexive, IsTransitive, IsAntisymmetric, IsolatedIsLeast, ReadableIsGreatest}
use Rattle.perm_perm.proofs.OverAll.{each_perm-at, each_two-at, each_three-at, implies, implies-at}

pub reflexive : IsReflexive
reflexive = each_perm-at (λ p. is_at_most p p) refl

pub transitive : IsTransitive
transitive p q r a b =
    implies-at _ _ (implies-at _ _ (each_three-at (λ p q r. implies (is_at_most p q) (implies (is_at_most q r) (is_at_most p r))) refl p q r) a) b

pub same_perm-true : (p q : Perm) → same_perm p q ≡ true → p ≡ q
same_perm-true Isolated Isolated h = refl
same_perm-true Immutable Immutable h = refl
same_perm-true Readable Readable h = refl
same_perm-true Writable Writable h = refl
same_perm-true _ _ h = cc

pub same_perm-refl : (p : Perm) → same_perm p p ≡ true
same_perm-refl = each_perm-at (λ p. same_perm p p) refl

pub antisymmetric : IsAntisymmetric
antisymmetric p q a b =
    same_perm-true p q (implies-at _ _ (implies-at _ _ (each_two-at (λ p q. implies (is_at_most p q) (implies (is_at_most q p) (same_perm p q))) refl p q) a) b)

pub isolated_least : IsolatedIsLeast
isolated_least = each_perm-at (λ p. is_at_most Isolated p) refl

pub readable_greatest : ReadableIsGreatest
readable_greatest = each_perm-at (λ p. is_at_most p Readable) refl
