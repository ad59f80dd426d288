-- A statement that took its turn.
use Rattle.std.proofs.Common.{◌≡◌, suc, ◌-◌, Option, Some, None, sym, subst, arith}
use Rattle.perm_tree.specs.Code.{Instruction}
use Rattle.perm_tree.specs.UnitTables.{Tables}
use Rattle.perm_meaning.specs.declared.eval.state.Fate.{Fate}
use Rattle.perm_meaning.specs.declared.eval.state.Fate.TheVariants.{Goes}
use Rattle.perm_meaning.specs.declared.eval.state.State.{State}
use Rattle.perm_meaning.specs.Evaluator.Runs.{unspent, IsNext, MayTurn}
use Rattle.perm_meaning.proofs.Leads.{none-some, some-inj}

-- the state before a turn was spent
pub unspent-is : (s : State) → (s.turns ≡ 0 → ⊥) → unspent (record s { turns = s.turns - 1 }) ≡ s
unspent-is s left = λ i. record s { turns = back i }
  where
    back : suc (s.turns - 1) ≡ s.turns
    back = omega (arith, left)

module _ (u : Tables) (s new : State) where
  -- a statement of the kind took its turn
  pub has-turned : (kind : Option Instruction) (f : Fate) → MayTurn u kind s new (Some f) → IsNext u (unspent s) Goes new f
  has-turned None f turned = none-some (sym turned.0)
  has-turned (Some i) f turned = subst (λ (f : Fate). IsNext u (unspent s) Goes new f) (sym (some-inj turned.1)) turned.2

  -- one of another kind left all as it was
  pub is-left : (kind : Option Instruction) (y : Option Fate) → ((f : Fate) → y ≡ Some f → ⊥) → MayTurn u kind s new y → new ≡ s
  is-left None y none turned = turned.1
  is-left (Some i) y none turned = absurd (none turned.0 turned.1)
