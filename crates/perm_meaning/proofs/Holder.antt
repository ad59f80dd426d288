-- A holder goes left first.
use Rattle.std.proofs.Common.{◌≡◌, Option, Some, None, refl, sym, ap, ◌∙◌}
use Rattle.perm_meaning.specs.Machine.{Machine, Leaf, Fork, Here, GoL, GoR, Final, final, look}
use Rattle.perm_meaning.specs.Steps.{Run, KeptRight, KeptLeft, lone_task, lone_way, leftmost, leftmost_of, left_side_way, right_side_way}
use Rattle.perm_meaning.specs.Claims.{HolderGoesLeftFirst}
use Rattle.perm_meaning.proofs.Leads.{none-some, ended-no-event}

module _ {V G O : Type 0} (m : Machine V G O) where
  -- the event of a holder is the leftmost of its tree
  pub holder-goes-left-first : HolderGoesLeftFirst m
  holder-goes-left-first (Run b) o h e = refl
  holder-goes-left-first (KeptRight b p l r) o h e = go (final (lone_task l)) (final (Leaf r)) refl e (holder-goes-left-first l o h)
    where
      go : (x y : Option (Final V)) → final (lone_task l) ≡ x → look m (left_side_way x y (lone_way l)) (Fork b p (lone_task l) (Leaf r)) ≡ Some o
          → (look m (lone_way l) (lone_task l) ≡ Some o → leftmost (lone_task l) ≡ lone_way l) → leftmost_of x y (leftmost (lone_task l)) Here ≡ left_side_way x y (lone_way l)
      go None y q e rec = ap (λ w. GoL w) (rec e)
      go (Some f) (Some g) q e rec = refl
      go (Some f) None q e rec = none-some (sym (ended-no-event m (lone_way l) (lone_task l) f q) ∙ e)
  holder-goes-left-first (KeptLeft b p l r) o h e =
      ap (λ x. leftmost_of x (final (lone_task r)) Here (leftmost (lone_task r))) h.0.1 ∙ go (final (lone_task r)) e (holder-goes-left-first r o h.1)
    where
      go : (y : Option (Final V)) → look m (right_side_way y (lone_way r)) (Fork b p (Leaf l) (lone_task r)) ≡ Some o
          → (look m (lone_way r) (lone_task r) ≡ Some o → leftmost (lone_task r) ≡ lone_way r) → leftmost_of (Some h.0.0) y Here (leftmost (lone_task r)) ≡ right_side_way y (lone_way r)
      go None e rec = ap (λ w. GoR w) (rec e)
      go (Some g) e rec = refl
