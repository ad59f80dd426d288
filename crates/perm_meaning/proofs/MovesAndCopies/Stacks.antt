-- Stacks above which some code stands: other variables, and other code.
use Rattle.std.proofs.Common.{◌≡◌, ℕ, List, sym, ◌∙◌, false, subst}
use Rattle.std.specs.Prelude.{slice_get}
use Rattle.std.proofs.lemmas.Bool.{or_left}
use Rattle.perm_tree.specs.Code.{Code}
use Rattle.perm_tree.specs.Mentions.{written}
use Rattle.perm_tree.specs.Vars.{Vars, those}
use Rattle.perm_meaning.specs.NamedHeap.{Held}
use Rattle.perm_meaning.specs.Steady.{AreApart, given_var, changed}
use Rattle.perm_meaning.specs.HoldsFewer.{Frame, IsPartAt, ArePartsOn, AreKept, hidden, FitsStacks, at_base, at_block, left_of, LeavesAlone, in_base, in_block, in_recover, in_call, at_recover, at_call}
use Rattle.perm_meaning.proofs.MovesAndCopies.KeptVariables.{apart-left, apart-right, apart-plus, kept-right}

-- ---------- what stands below, under copies ----------
module _ {n : ℕ} where
  -- what is hidden keeps its values
  pub stacks-other-variables : {c : Code} {ws us : List Held} {st st' : List Frame} → FitsStacks n c ws st st' → AreKept (hidden st') ws us → FitsStacks n c us st st'
  stacks-other-variables (at_base q) k = at_base (k.long ∙ q)
  stacks-other-variables (at_block a s b) k = at_block a s (stacks-other-variables b k)
  stacks-other-variables {ws = ws} {us = us} (at_recover {saved = saved} {hides = hides} {st' = st'} a g v s b) k =
      at_recover a g (record { long = v.long ∙ sym k.long; part = λ x h. subst (λ z. IsPartAt (slice_get saved x) z) (sym (k.same x (or_left (those hides x) (hidden st' x) h))) (v.part x h) }) s (stacks-other-variables b (kept-right (those hides) (hidden st') k))
  stacks-other-variables (at_call a q s b) k = at_call a q s b

  -- other code that changes no more
  pub stacks-other-code : {c d : Code} {ws : List Held} {st st' : List Frame} → FitsStacks n c ws st st' → ((x : ℕ) → changed c x ≡ false → changed d x ≡ false) → ((x : ℕ) → given_var c x ≡ false → given_var d x ≡ false) → FitsStacks n d ws st st'
  stacks-other-code (at_base q) f g = at_base q
  stacks-other-code {c = c} {d = d} (at_block {own = own} a s b) f g = at_block (apart-plus (changed d) (those own) (λ x h. f x (apart-left (changed c) (those own) a x h)) (apart-right (changed c) (those own) a)) s b
  stacks-other-code {c = c} {d = d} (at_recover {own = own} a t v s b) f g = at_recover (apart-plus (changed d) (those own) (λ x h. f x (apart-left (changed c) (those own) a x h)) (apart-right (changed c) (those own) a)) (λ x h. g x (t x h)) v s b
  stacks-other-code (at_call a q s b) f g = at_call a q s b

  -- the code changes nothing that is hidden
  pub changes-none-hidden : {c : Code} {ws : List Held} {st st' : List Frame} → FitsStacks n c ws st st' → AreApart (hidden st') (changed c)
  changes-none-hidden (at_base q) = λ x h. absurd (cc)
  changes-none-hidden {c = c} (at_block {own = own} a s b) = apart-left (changed c) (those own) a
  changes-none-hidden {c = c} (at_recover {own = own} a t v s b) = apart-left (changed c) (those own) a
  changes-none-hidden (at_call a q s b) = λ x h. absurd (cc)

-- ---------- what stands below, under moves ----------
module _ {K : Vars} {vp : List Held} where
  pub side-other-variables : {c : Code} {vs us : List Held} {st : List Frame} → LeavesAlone K vp c vs st → ArePartsOn (left_of K st) us vp → LeavesAlone K vp c us st
  side-other-variables (in_base a q) k = in_base a k
  side-other-variables (in_block a q s) k = in_block a k s
  side-other-variables (in_recover a g q s) k = in_recover a g k s
  side-other-variables (in_call a s) k = in_call a s

  pub side-other-code : {c d : Code} {vs : List Held} {st : List Frame} → LeavesAlone K vp c vs st → ((x : ℕ) → written c x ≡ false → written d x ≡ false) → ((x : ℕ) → given_var c x ≡ false → given_var d x ≡ false) → LeavesAlone K vp d vs st
  side-other-code (in_base a q) f g = in_base (λ x h. f x (a x h)) q
  side-other-code (in_block a q s) f g = in_block (λ x h. f x (a x h)) q s
  side-other-code (in_recover a t q s) f g = in_recover (λ x h. f x (a x h)) (λ x h. g x (t x h)) q s
  side-other-code (in_call a s) f g = in_call a s

  pub side-variables : {c : Code} {vs : List Held} {st : List Frame} → LeavesAlone K vp c vs st → ArePartsOn (left_of K st) vs vp
  side-variables (in_base a q) = q
  side-variables (in_block a q s) = q
  side-variables (in_recover a t q s) = q
  side-variables (in_call a s) = λ x h. absurd (cc)

  pub side-writes-none : {c : Code} {vs : List Held} {st : List Frame} → LeavesAlone K vp c vs st → AreApart (left_of K st) (written c)
  side-writes-none (in_base a q) = a
  side-writes-none (in_block a q s) = a
  side-writes-none (in_recover a t q s) = a
  side-writes-none (in_call a s) = λ x h. absurd (cc)
