-- The machine that copies variables does what the core does: the same events, with the same heap and the same end.
use Rattle.std.proofs.Common.{◌≡◌, ℕ, Option, Some, None, List, refl, sym, ap, ◌∙◌}
use Rattle.std.specs.Prelude.{ℤ}
use Rattle.perm_tree.specs.Code.{UnitCode}
use Rattle.perm_tree.specs.Vars.{Vars, none}
use Rattle.perm_meaning.specs.Machine.{final}
use Rattle.perm_meaning.specs.NamedHeap.{Final, Held, State}
use Rattle.perm_meaning.specs.Outcome.{opening_own, reported}
use Rattle.perm_meaning.proofs.MovesAndCopies.LeftFirst.{OverHoldsFewer, finals-alike, told-alike}
use Rattle.perm_meaning.proofs.MovesAndCopies.Runs.{lists-alike}
use Rattle.perm_core.specs.Core.{told_of}
use Rattle.perm_core.specs.Serial.{CopiesFollow}
use Rattle.perm_core.proofs.Serial.SteadyCodes.{checked-steady}

-- both tell the same, or have not ended
ends-told : (K : Vars) (vp : List Held) (turns : ℕ) (s t : State) (x y : Option Final) → t.heap ≡ s.heap → OverHoldsFewer K vp x y → told_of turns t y ≡ told_of turns s x
ends-told K vp turns s t None None e h = refl
ends-told K vp turns s t (Some f) (Some g) e h = ap (λ z. Some z) (ap (λ z. reported turns g z) e ∙ sym (told-alike K vp turns s.heap f g h))
ends-told K vp turns s t None (Some g) e h = absurd h
ends-told K vp turns s t (Some f) None e h = absurd h

pub copies-follow : (u : UnitCode) (limit : ℕ) (input : List ℤ) (turns : ℕ) → CopiesFollow u limit input turns
copies-follow u limit input turns r ws s checked opens e =
    let a = lists-alike u (checked-steady u checked) limit input turns r opens.run ws s e in
    record {
      state = a.0;
      run = a.1;
      heap = a.2.1;
      told = ends-told none (opening_own u input r).vars turns s a.0 (final s.task) (final a.0.task) a.2.1 (finals-alike none (opening_own u input r).vars a.2.0);
    }
