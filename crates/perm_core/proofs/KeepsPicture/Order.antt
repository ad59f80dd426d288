-- Each event leads from a state with a picture to an orderly one.
pub mod Endings
pub mod Sides
pub mod NewNames
pub mod ValuedLists
pub mod RightCode
pub mod RightTurns
pub mod HiddenVariables
pub mod LiveLists
pub mod LiveCode
pub mod LiveTurns
pub mod LiveTrees
pub mod ValueSets
pub mod FewerLive
pub mod GoesOfTrees
pub mod HiddenFree
pub mod SideFree
use Rattle.std.proofs.Common.{◌≡◌, ℕ, Bool, true, false, Option, Some, None, [], sym, ap, subst, ◌∙◌, inl, inr}
use Rattle.std.specs.Prelude.{◌⊎◌, cond}
use Rattle.perm_tree.specs.declared.ast.Shape.{Shape}
use Rattle.perm_tree.specs.Code.{UnitCode}
use Rattle.perm_tree.specs.Vars.{Vars}
use Rattle.perm_meaning.specs.Values.{Value, Reference}
use Rattle.perm_meaning.specs.Names.{Name, Mark, next_name}
use Rattle.perm_meaning.specs.Objects.{length_of, field_of}
use Rattle.perm_meaning.specs.Effects.{Tick, Load, Store, Take, Make}
use Rattle.perm_meaning.specs.Machine.{Way, Here}
use Rattle.perm_meaning.specs.NamedHeap.{Held, Op, State, Heap, has_room, found, find, after}
use Rattle.perm_meaning.specs.Steps.{Found, Refused, within}
use Rattle.perm_meaning.proofs.Leads.{some-inj}
use Rattle.perm_core.specs.Claims.{IsChecked}
use Rattle.perm_core.specs.Endings.{ByReturn, is_by_return}
use Rattle.perm_core.specs.Regions.{Base, Labels}
use Rattle.perm_core.specs.Picture.{MayBeGiven, TreeGoes, IsOrderly, IsPicture}
use Rattle.perm_core.proofs.Commute.TwoOperations.{Makes}
use Rattle.perm_core.proofs.KeepsPicture.Order.Endings.{keeps-ends}
use Rattle.perm_core.proofs.KeepsPicture.Order.GoesOfTrees.{Further}
use Rattle.perm_core.proofs.KeepsPicture.Order.HiddenVariables.{keeps-hidden}
use Rattle.perm_core.proofs.KeepsPicture.Order.LiveLists.{IsAnswer}
use Rattle.perm_core.proofs.KeepsPicture.Order.LiveTrees.{Premises, keeps-goes}
use Rattle.perm_core.proofs.KeepsPicture.Order.NewNames.{gives-fewer, makes-new, after-none}
use Rattle.perm_core.proofs.KeepsPicture.Order.RightTurns.{keeps-right}
use Rattle.perm_core.proofs.KeepsPicture.Order.Sides.{SidesFit, keeps-sides}
use Rattle.perm_core.proofs.KeepsPicture.Trees.TreeEvents.{EventAt, IsTold, IsStep, step-event}

-- ---------- answers ----------
found-answers : (v : Option (Value Name)) (x : Held) → found v ≡ Found x → (a : Value Name) × (x ≡ Some a)
found-answers None x e = absurd (let no : ⊥ = cc e in no)
found-answers (Some a) x e = let same : Some a ≡ x = cc e in (a, sym same)

-- what the heap finds is a value where one is asked for
pub answers : (fits : ℕ → Bool) (o : Op) (h : Heap) (x : Held) → find fits o h ≡ Found x → IsAnswer o x
answers fits Tick h x e = tt
answers fits (Load r f) h x e = found-answers (field_of h.objects r f) x e
answers fits (Store r f v) h x e = tt
answers fits (Take r f) h x e = found-answers (field_of h.objects r f) x e
answers fits (Make by shape n) h x e = go (has_room fits n h) e
  where
    go : (t : Bool) → cond t (Found (Some (Reference (next_name by) (length_of shape n)))) Refused ≡ Found x → (a : Value Name) × (x ≡ Some a)
    go true e = let same : Some (Reference (next_name by) (length_of shape n)) ≡ x = cc e in (Reference (next_name by) (length_of shape n), sym same)
    go false e = absurd (let no : ⊥ = cc e in no)

-- an object that has room isn't refused
unrefused : (fits : ℕ → Bool) (by : Mark) (shape : Shape) (n : ℕ) (h : Heap) → find fits (Make by shape n) h ≡ Refused → has_room fits n h ≡ true → ⊥
unrefused fits by shape n h e room = let z = sym (ap (λ t. cond t (Found (Some (Reference (next_name by) (length_of shape n)))) Refused) room) ∙ e in let no : ⊥ = cc z in no

module _ (u : UnitCode) (limit : ℕ) where
  -- ---------- the next state ----------
  pub next-orderly : (labels : Labels) (s t : State) (w : Way) → IsChecked u → IsPicture u labels s → IsStep u limit s t w → IsOrderly u t
  next-orderly labels s t w checked picture e = record {
    goes = on (keeps-goes u labels s.heap.objects checked.accepted e.op e.told told-answers ByReturn [] (λ w. w) (Base Here 0) is.goes.0 w s.task t.task premises is.goes.1 event);
    ends = keeps-ends u checked.whole e.op e.told ByReturn w s.task t.task is.ends event;
    right = keeps-right u checked.whole e.op e.told w s.task t.task is.right event;
    hidden = keeps-hidden u e.op e.told [] is.goes.0 w s.task t.task is.hidden is.right is.goes.1 event;
    stand = sides.stand;
    new = λ n may. ap (λ (h : Heap). h.objects n) e.heap ∙ new n may e.answer;
    paths = sides.paths;
  }
    where
      is : IsOrderly u s
      is = picture.orderly

      event : EventAt u e.op e.told w s.task t.task
      event = step-event u limit s t w e

      premises : Premises u labels s.heap.objects ByReturn [] (λ w. w) (Base Here 0) s.task
      premises = record { variables = picture.variables; stand = is.stand; ends = is.ends; right = is.right; hidden = is.hidden }

      sides : SidesFit u t.task
      sides = keeps-sides u e.op e.told w s.task t.task (record { stand = is.stand; paths = is.paths }) event

      told-answers : (x : Held) → e.told ≡ Some x → IsAnswer e.op x
      told-answers x q = go e.answer
        where
          go : IsTold limit e.op e.told s.heap → IsAnswer e.op x
          go (inl (y, (p, f))) = subst (IsAnswer e.op) (some-inj (sym p ∙ q)) (answers (within limit) e.op s.heap y f)
          go (inr (p, f)) = let z : None ≡ Some x = sym p ∙ q in absurd (let no : ⊥ = cc z in no)

      on : Further (λ L. TreeGoes u [] t.task L) is.goes.0 ⊎ ((is_by_return ByReturn ≡ true) × ((L : Vars) × TreeGoes u [] t.task L)) → (H : Vars) × TreeGoes u [] t.task H
      on (inl f) = (f.ends, f.goes)
      on (inr f) = f.1

      new : (n : Name) → MayBeGiven t.task n → IsTold limit e.op e.told s.heap → (after u (within limit) e.op s.heap).objects n ≡ None
      new n may (inl (y, (p, f))) =
          after-none u (within limit) e.op s.heap n (is.new n (gives-fewer u e.op e.told w s.task t.task n event may))
          (λ by shape k q room names. (makes-new u e.op e.told y w s.task t.task n p is.paths event (subst (λ (o : Op). Makes o n) (sym q) names)).1 may)
      new n may (inr (p, f)) =
          after-none u (within limit) e.op s.heap n (is.new n (gives-fewer u e.op e.told w s.task t.task n event may))
          (λ by shape k q room names. unrefused (within limit) by shape k s.heap (subst (λ (o : Op). find (within limit) o s.heap ≡ Refused) q f) room)
