-- Each step of a running branch of a checked unit is an event of the word machine.
use Rattle.std.proofs.Common.{◌≡◌, sym, refl, subst}
use Rattle.perm_tree.specs.declared.bodies.Action.{Action}
use Rattle.perm_tree.specs.declared.bodies.Action.TheVariants as actions
use Rattle.perm_tree.specs.declared.bodies.Bodies.{Bodies}
use Rattle.perm_tree.specs.Code.{UnitCode}
use Rattle.perm_tree.specs.Links.{AreBodiesOf}
use Rattle.perm_core.specs.Claims.{IsChecked}
use Rattle.perm_meaning.specs.WordHeap.{Ask}
use Rattle.perm_step.specs.Events.{NextAsks}
use Rattle.perm_step.specs.HeapAsks.{IsAskFor, TrapsFirst}
use Rattle.perm_step.specs.Standing.{branch_of}
use Rattle.perm_step.specs.StepMoves.{IsCallable, Leads}
use Rattle.perm_step.specs.Working.{locals}
use Rattle.perm_step.proofs.Routines.CallNext.{call-asks-next, call-callable-next, call-makes-next}
use Rattle.perm_step.proofs.WholeRuns.Comings.{no-end}
use Rattle.perm_step.proofs.TwoSides.ParClaims.{ends-next, forks-next, joins-next, par-asked, par-trapped}
use Rattle.perm_step.proofs.Routines.ReturnNext.{return-asks-next, return-makes-next}
use Rattle.perm_step.proofs.SimpleStatements.SimpleClaims.{plain-asks-next, plain-makes-next, plain-traps-next}
use Rattle.perm_step.proofs.SimpleStatements.SimpleForms.{IsPlain}
use Rattle.perm_step.proofs.StepClaims.{AsksNext, CallableNext, IsMade, MakesNext, StepClaims, TrapsNext, TrapsTo}
use Rattle.perm_step.proofs.Tests.TestClaims.{give-asked, give-made, if-asked, if-made, recover-asked, recover-made, while-asked, while-made}

module _ (u : UnitCode) (b : Bodies) (w : AreBodiesOf u b) where
  asks-next : AsksNext u b w
  asks-next m c s q due asked = by s.action refl
    where
      plain : (a : Action) → s.action ≡ a → IsPlain a → (o : Ask) × NextAsks u (branch_of w.spot c) o × IsAskFor q o
      plain a is simple = plain-asks-next u b w m c s due (subst IsPlain (sym is) simple) q asked

      by : (a : Action) → s.action ≡ a → (o : Ask) × NextAsks u (branch_of w.spot c) o × IsAskFor q o
      by (actions.Declare x) is = plain (actions.Declare x) is tt
      by (actions.Assign x a) is = plain (actions.Assign x a) is tt
      by (actions.LoadField x y f) is = plain (actions.LoadField x y f) is tt
      by (actions.LoadLength x y) is = plain (actions.LoadLength x y) is tt
      by (actions.LoadItem x y e) is = plain (actions.LoadItem x y e) is tt
      by (actions.TakeField x y f) is = plain (actions.TakeField x y f) is tt
      by (actions.NewObject x k n) is = plain (actions.NewObject x k n) is tt
      by (actions.NewArray x e) is = plain (actions.NewArray x e) is tt
      by (actions.StoreField y f a) is = plain (actions.StoreField y f a) is tt
      by (actions.StoreItem y i e) is = plain (actions.StoreItem y i e) is tt
      by (actions.Print e) is = plain (actions.Print e) is tt
      by (actions.Invoke v) is = call-asks-next u b w m c s v is due q asked
      by (actions.If e other) is = if-asked u b w m c s due e other q is asked
      by (actions.While e first) is = while-asked u b w m c s due e first q is asked
      by (actions.Par first second place) is = par-asked u b w m c s first second place q due is asked
      by actions.Recover is = recover-asked u b w m c s due q is asked
      by (actions.Give y x) is = give-asked u b w m c s due y x q is asked
      by (actions.Return a) is = return-asks-next u b w m c s a is due q asked
      by actions.End is = absurd (no-end u b w m c s due is)

  traps-next : TrapsNext u b w
  traps-next m c s k due traps = by s.action refl
    where
      Trapped : Type 0
      Trapped = TrapsTo u b w c s k

      plain : (a : Action) → s.action ≡ a → IsPlain a → Trapped
      plain a is simple = plain-traps-next u b w m c s due (subst IsPlain (sym is) simple) k traps

      never : (a : Action) → s.action ≡ a → (TrapsFirst b (locals c) c.depth a k → ⊥) → Trapped
      never a is not_so = absurd (not_so (subst (λ (x : Action). TrapsFirst b (locals c) c.depth x k) is traps))

      by : (a : Action) → s.action ≡ a → Trapped
      by (actions.Declare x) is = plain (actions.Declare x) is tt
      by (actions.Assign x a) is = plain (actions.Assign x a) is tt
      by (actions.LoadField x y f) is = plain (actions.LoadField x y f) is tt
      by (actions.LoadLength x y) is = plain (actions.LoadLength x y) is tt
      by (actions.LoadItem x y e) is = plain (actions.LoadItem x y e) is tt
      by (actions.TakeField x y f) is = plain (actions.TakeField x y f) is tt
      by (actions.NewObject x k n) is = plain (actions.NewObject x k n) is tt
      by (actions.NewArray x e) is = plain (actions.NewArray x e) is tt
      by (actions.StoreField y f a) is = plain (actions.StoreField y f a) is tt
      by (actions.StoreItem y i e) is = plain (actions.StoreItem y i e) is tt
      by (actions.Print e) is = plain (actions.Print e) is tt
      by (actions.Par first second place) is = par-trapped u b w m c s first second place k due is traps
      by (actions.Invoke v) is = never (actions.Invoke v) is (λ h. h)
      by (actions.If e other) is = never (actions.If e other) is (λ h. h)
      by (actions.While e first) is = never (actions.While e first) is (λ h. h)
      by actions.Recover is = never actions.Recover is (λ h. h)
      by (actions.Give y x) is = never (actions.Give y x) is (λ h. h)
      by (actions.Return a) is = never (actions.Return a) is (λ h. h)
      by actions.End is = never actions.End is (λ h. h)

  makes-next : IsChecked u → MakesNext u b w
  makes-next checked m c s q v new due leads asked goes = by s.action refl
    where
      plain : (a : Action) → s.action ≡ a → IsPlain a → IsMade u b w m c v new
      plain a is simple = plain-makes-next u b w m c s due (subst IsPlain (sym is) simple) q v new asked goes

      by : (a : Action) → s.action ≡ a → IsMade u b w m c v new
      by (actions.Declare x) is = plain (actions.Declare x) is tt
      by (actions.Assign x a) is = plain (actions.Assign x a) is tt
      by (actions.LoadField x y f) is = plain (actions.LoadField x y f) is tt
      by (actions.LoadLength x y) is = plain (actions.LoadLength x y) is tt
      by (actions.LoadItem x y e) is = plain (actions.LoadItem x y e) is tt
      by (actions.TakeField x y f) is = plain (actions.TakeField x y f) is tt
      by (actions.NewObject x k n) is = plain (actions.NewObject x k n) is tt
      by (actions.NewArray x e) is = plain (actions.NewArray x e) is tt
      by (actions.StoreField y f a) is = plain (actions.StoreField y f a) is tt
      by (actions.StoreItem y i e) is = plain (actions.StoreItem y i e) is tt
      by (actions.Print e) is = plain (actions.Print e) is tt
      by (actions.Invoke call) is = call-makes-next u b w m c s call is due checked.whole v new goes
      by (actions.If e other) is = if-made u b w m c s due e other v new is goes
      by (actions.While e first) is = while-made u b w m c s due e first v new is goes
      by (actions.Par first second place) is = absurd (subst Leads is leads)
      by actions.Recover is = recover-made u b w m c s due v new is goes
      by (actions.Give y x) is = give-made u b w m c s due y x v new is goes
      by (actions.Return a) is = return-makes-next u b w m c s a is due v new goes
      by actions.End is = absurd (subst Leads is leads)

  callable-next : CallableNext u b w
  callable-next m c s due = by s.action refl
    where
      any : (a : Action) → s.action ≡ a → IsCallable b a c → IsCallable b s.action c
      any a is h = subst (λ (x : Action). IsCallable b x c) (sym is) h

      by : (a : Action) → s.action ≡ a → IsCallable b s.action c
      by (actions.Declare x) is = any (actions.Declare x) is tt
      by (actions.Assign x a) is = any (actions.Assign x a) is tt
      by (actions.LoadField x y f) is = any (actions.LoadField x y f) is tt
      by (actions.LoadLength x y) is = any (actions.LoadLength x y) is tt
      by (actions.LoadItem x y e) is = any (actions.LoadItem x y e) is tt
      by (actions.TakeField x y f) is = any (actions.TakeField x y f) is tt
      by (actions.NewObject x k n) is = any (actions.NewObject x k n) is tt
      by (actions.NewArray x e) is = any (actions.NewArray x e) is tt
      by (actions.StoreField y f a) is = any (actions.StoreField y f a) is tt
      by (actions.StoreItem y i e) is = any (actions.StoreItem y i e) is tt
      by (actions.Print e) is = any (actions.Print e) is tt
      by (actions.If e other) is = any (actions.If e other) is tt
      by (actions.While e first) is = any (actions.While e first) is tt
      by (actions.Par first second place) is = any (actions.Par first second place) is tt
      by actions.Recover is = any actions.Recover is tt
      by (actions.Give y x) is = any (actions.Give y x) is tt
      by (actions.Return a) is = any (actions.Return a) is tt
      by actions.End is = any actions.End is tt
      by (actions.Invoke v) is = call-callable-next u b w m c s v is due

-- all of this holds of a checked unit
pub step-claims : (u : UnitCode) (b : Bodies) (w : AreBodiesOf u b) → IsChecked u → StepClaims u b w
step-claims u b w checked = record {
  asks = asks-next u b w;
  traps = traps-next u b w;
  makes = makes-next u b w checked;
  callable = callable-next u b w;
  forks = forks-next u b w;
  joins = joins-next u b w;
  ends = ends-next u b w;
}
