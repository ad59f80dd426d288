-- The turn of a call, by what its receiver and its arguments give.
use Rattle.std.proofs.Common.{◌≡◌, ◌∙◌, ℕ, true, false, List, [], Option, Some, None, refl, sym, ap}
use Rattle.perm_tree.specs.declared.errors.TrapKind.{TrapKind}
use Rattle.perm_tree.specs.Code.{Argument, Invoke, Tie, UnitCode}
use Rattle.perm_meaning.specs.declared.eval.own.Own as owned
use Rattle.perm_meaning.specs.declared.eval.tell.Passed.{Passed}
use Rattle.perm_meaning.specs.declared.eval.tell.Passed.TheVariants as passed
use Rattle.perm_meaning.specs.Evaluator.Asks.{Way}
use Rattle.perm_meaning.specs.Evaluator.BegunCalls.{begun, begun_if, begun_on}
use Rattle.perm_meaning.specs.Effects.{Sticks, effect, halts, on_arguments, on_referred, on_value, with_vars}
use Rattle.perm_meaning.specs.Expressions.{clear, look_up, slot_reference, tagged}
use Rattle.perm_meaning.specs.NamedHeap.{Held, Own, marks}
use Rattle.perm_meaning.specs.Names.{Mark}
use Rattle.perm_meaning.specs.Evaluator.NumberedValues.{all_by, Names}
use Rattle.perm_meaning.specs.Evaluator.SimpleStatements.{own_by}
use Rattle.perm_meaning.specs.Evaluator.ToldAnswers.{passed_by}
use Rattle.perm_meaning.specs.Values.{Eval, Gives, Traps, Mistyped, Number, Truth, Null, Reference}
use Rattle.perm_meaning.proofs.Evaluator.Asks.{own-after}

module _ (u : UnitCode) (tie : Tie) (y m : ℕ) (into : Option ℕ) where
  -- what a call is made on that refers to an object is that reference
  pub receiver-is : (e : Eval Held) (found : List Held) (l : Own) → on_value tagged e (λ this. on_referred tagged (slot_reference this) (λ p n. begun u tie y m into this found l)) ≡ begun_on u tie y m into e found l
  receiver-is (Gives None) found l = refl
  receiver-is (Gives (Some (Number n))) found l = refl
  receiver-is (Gives (Some (Truth b))) found l = refl
  receiver-is (Gives (Some Null)) found l = refl
  receiver-is (Gives (Some (Reference r n))) found l = refl
  receiver-is (Traps k) found l = refl
  receiver-is Mistyped found l = refl

  module _ (names : Names) (mark : Mark) (old new : owned.Own) (args : List Argument) (same : new ≡ record old { vars = new.vars }) where
    -- with the values of the arguments, the branch has what it has after them
    begun-after : (e : List Held → Eval Held) (g : Eval Held) (p : Passed) → e (all_by names new.vars) ≡ g
        → passed_by names new.vars p (λ found vs. begun_on u tie y m into (e vs) found (with_vars tagged (own_by names mark old) vs)) ≡ begun_if u names tie y m into g p (own_by names mark new)
    begun-after e g (passed.All found) q =
        ap (λ (l : Own). begun_on u tie y m into (e (all_by names new.vars)) (all_by names found) l) (own-after u names mark old new (all_by names new.vars) same refl)
        ∙ ap (λ (x : Eval Held). begun_on u tie y m into x (all_by names found) (own_by names mark new)) q
    begun-after e g (passed.Halts k) q = refl
    begun-after e g passed.Sticks q = refl

    -- a receiver that isn't consumed comes last
    pub calls-kept : (g : Eval Held) (p : Passed) → ((go : List Held → List Held → Way) → on_arguments tagged args [] (all_by names old.vars) go ≡ passed_by names new.vars p go) → g ≡ look_up tagged (all_by names new.vars) y
        → effect tagged u marks (Invoke into tie false y m args) (own_by names mark old) ≡ begun_if u names tie y m into g p (own_by names mark new)
    calls-kept g p passes q =
        (λ i. on_arguments tagged args [] (all_by names old.vars) (λ found vs. receiver-is (look_up tagged vs y) found (with_vars tagged (own_by names mark old) vs) i))
        ∙ passes (λ found vs. begun_on u tie y m into (look_up tagged vs y) found (with_vars tagged (own_by names mark old) vs))
        ∙ begun-after (λ vs. look_up tagged vs y) g p (sym q)

    -- a receiver that is consumed comes first
    pub calls-consumed : (v : Held) (p : Passed) → Gives v ≡ look_up tagged (all_by names old.vars) y → ((go : List Held → List Held → Way) → on_arguments tagged args [] (clear tagged (all_by names old.vars) y) go ≡ passed_by names new.vars p go)
        → effect tagged u marks (Invoke into tie true y m args) (own_by names mark old) ≡ begun_if u names tie y m into (Gives v) p (own_by names mark new)
    calls-consumed v p q passes =
        ap (λ (e : Eval Held). on_value tagged e (λ this. on_arguments tagged args [] (clear tagged (all_by names old.vars) y) (λ found vs. on_referred tagged (slot_reference this) (λ p n. begun u tie y m into this found (with_vars tagged (own_by names mark old) vs))))) (sym q)
        ∙ (λ i. on_arguments tagged args [] (clear tagged (all_by names old.vars) y) (λ found vs. receiver-is (Gives v) found (with_vars tagged (own_by names mark old) vs) i))
        ∙ passes (λ found vs. begun_on u tie y m into (Gives v) found (with_vars tagged (own_by names mark old) vs))
        ∙ begun-after (λ vs. Gives v) (Gives v) p refl

  -- a receiver that is consumed traps
  pub receiver-halts : (args : List Argument) (l : Own) (k : TrapKind) → Traps k ≡ look_up tagged l.vars y → effect tagged u marks (Invoke into tie true y m args) l ≡ halts tagged k
  receiver-halts args l k q =
      ap (λ (e : Eval Held). on_value tagged e (λ this. on_arguments tagged args [] (clear tagged l.vars y) (λ found vs. on_referred tagged (slot_reference this) (λ p n. begun u tie y m into this found (with_vars tagged l vs))))) (sym q)

  -- a receiver that is consumed gives nothing
  pub receiver-sticks : (args : List Argument) (l : Own) → Mistyped ≡ look_up tagged l.vars y → effect tagged u marks (Invoke into tie true y m args) l ≡ Sticks
  receiver-sticks args l q =
      ap (λ (e : Eval Held). on_value tagged e (λ this. on_arguments tagged args [] (clear tagged l.vars y) (λ found vs. on_referred tagged (slot_reference this) (λ p n. begun u tie y m into this found (with_vars tagged l vs))))) (sym q)
