-- The test of the order holds exactly of the pairs of the list.
use Rattle.std.proofs.Common.{◌≡◌, ◌↔◌, Bool, true, ◌&&◌, zero, suc, List, [], ◌∷◌, subst, arith, Contains, IsTrue, inl, inr}
use Rattle.std.proofs.lemmas.Bool.{or_cases, or_left, or_right, and_parts, and_from}
use Rattle.std.proofs.lemmas.List.Elements.{Contains-append_right}
use Rattle.perm_tree.specs.declared.ast.Perm.{Perm}
use Rattle.perm_perm.specs.Order.{order, same_perm, has_pair, is_at_most}
use Rattle.perm_perm.proofs.OrderLaws.{same_perm-true, same_perm-refl}

pair-is : (r : Perm × Perm) (p q : Perm) → r.0 ≡ p → r.1 ≡ q → r ≡ (p, q)
pair-is (a, b) p q e f = cc

Contains-head : (r : Perm × Perm) (rest : List (Perm × Perm)) (p q : Perm) → r ≡ (p, q) → Contains (r ∷ rest) (p, q)
Contains-head r rest p q e = (0, omega arith, e)

Contains-from_test : (pairs : List (Perm × Perm)) (p q : Perm) → has_pair pairs p q ≡ true → Contains pairs (p, q)
Contains-from_test [] p q h = absurd (cc)
Contains-from_test (r ∷ rest) p q h =
    elim (or_cases (same_perm r.0 p && same_perm r.1 q) (has_pair rest p q) h) [
      | inl here ↦
          let parts : (same_perm r.0 p ≡ true) × (same_perm r.1 q ≡ true) = and_parts (same_perm r.0 p) (same_perm r.1 q) here in
          Contains-head r rest p q (pair-is r p q (same_perm-true r.0 p parts.0) (same_perm-true r.1 q parts.1))
      | inr later ↦ Contains-append_right (r ∷ []) rest (p, q) (Contains-from_test rest p q later)
    ]

test-head : (r : Perm × Perm) (p q : Perm) → r ≡ (p, q) → (same_perm r.0 p && same_perm r.1 q) ≡ true
test-head r p q e = rw e (and_from (same_perm p p) (same_perm q q) (same_perm-refl p) (same_perm-refl q))

test-from_Contains : (pairs : List (Perm × Perm)) (p q : Perm) → Contains pairs (p, q) → has_pair pairs p q ≡ true
test-from_Contains [] p q (k, below, e) = absurd (omega arith)
test-from_Contains (r ∷ rest) p q (zero, below, e) = or_left (same_perm r.0 p && same_perm r.1 q) (has_pair rest p q) (test-head r p q e)
test-from_Contains (r ∷ rest) p q (suc k, below, e) =
    or_right (same_perm r.0 p && same_perm r.1 q) (has_pair rest p q) (test-from_Contains rest p q (k, omega arith, e))

order_test : (p q : Perm) → IsTrue (is_at_most p q) ↔ Contains order (p, q)
order_test p q = (Contains-from_test order p q, test-from_Contains order p q)

-- what equals the test is true exactly of the pairs
pub pairs_by_test : (p q : Perm) (b : Bool) → is_at_most p q ≡ b → IsTrue b ↔ Contains order (p, q)
pairs_by_test p q b e = let Holds : Bool → Type 0 = λ b. IsTrue b ↔ Contains order (p, q) in subst Holds e (order_test p q)
