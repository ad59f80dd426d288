-- What a call comes to.
use Rattle.std.proofs.Common.{◌≡◌, ◌∙◌, ℕ, zero, suc, ◌+◌, ◌-◌, Bool, true, false, List, ◌∷◌, ◌++◌, length, Option, Some, None, refl, sym, ap}
use Rattle.std.specs.Prelude.{cond, nat_eq, nat_lt, replicate}
use Rattle.std.proofs.lemmas.List.{length-map, map-append}
use Rattle.perm_tree.specs.declared.ast.Method.{Method}
use Rattle.perm_tree.specs.declared.errors.TrapKind.TheVariants.{StackOverflow}
use Rattle.perm_tree.specs.Code.{Routine, Tie}
use Rattle.perm_tree.specs.CodeOf.{code_of}
use Rattle.perm_tree.specs.InBody.{method_at, vars_at}
use Rattle.perm_tree.specs.Resolves.{IsResolved}
use Rattle.perm_tree.specs.UnitTables.{Tables}
use Rattle.perm_meaning.specs.declared.eval.values.Value.{Value}
use Rattle.perm_meaning.specs.Evaluator.BegunCalls.{begun, BeginsCall}
use Rattle.perm_meaning.specs.Effects.{Calls, below_limit, choose, depth_limit, first_vars, halts, on_routine, ticks, Sticks}
use Rattle.perm_meaning.specs.Expressions.{tagged}
use Rattle.perm_meaning.specs.NamedHeap.{Held, Own}
use Rattle.perm_meaning.specs.Evaluator.NumberedValues.{all_by, held_by, value_by, Names}
use Rattle.perm_meaning.proofs.Evaluator.Routines.{IsRoutineAt, routine-there, routine-gone}

-- variables that hold nothing
unset-by : (names : Names) (n : ℕ) → all_by names (replicate n None) ≡ replicate n None
unset-by names zero = refl
unset-by names (suc n) = ap (λ (vs : List Held). None ∷ vs) (unset-by names n)

-- the variables at the start of a method
pub first-by : (names : Names) (r : Routine) (this : Value) (found : List (Option Value)) (n : ℕ) → length r.vars ≡ n
    → first_vars tagged r (Some (value_by names this)) (all_by names found) ≡ all_by names (Some this ∷ (found ++ replicate (n - (1 + length found)) None))
first-by names r this found n e =
    ap (λ k. Some (value_by names this) ∷ (all_by names found ++ replicate k None)) (ap (λ z. z - (1 + length (all_by names found))) e ∙ ap (λ z. n - (1 + z)) (length-map found (held_by names)))
    ∙ ap (λ (vs : List Held). Some (value_by names this) ∷ (all_by names found ++ vs)) (sym (unset-by names (n - (1 + length found))))
    ∙ ap (λ (vs : List Held). Some (value_by names this) ∷ vs) (sym (map-append (held_by names) found (replicate (n - (1 + length found)) None)))

module _ (u : Tables) (names : Names) (l : Own) (tie : Tie) (y m : ℕ) (into : Option ℕ) (this : Value) (found : List (Option Value)) (is : IsResolved u) where
  -- the turn of the call
  abbrev pub turn_of_call : Rattle.perm_meaning.specs.Evaluator.Asks.Way
  turn_of_call = begun (code_of u) tie y m into (Some (value_by names this)) (all_by names found) l

  -- no such method is there
  pub call-gone : method_at u m ≡ None → turn_of_call ≡ Sticks
  call-gone e = ap (λ o. on_routine tagged o (all_by names found) (λ r. below_limit tagged l.depth (Calls (record { routine = m; code = r.code; first = first_vars tagged r (Some (value_by names this)) (all_by names found); tie = tie; receiver = Some (value_by names this); y = y; into = into }) l))) (routine-gone u m is e)

  module _ (d : Method) (there : method_at u m ≡ Some d) where
    by-tests : (r : Routine) → IsRoutineAt u m d r → (a b : Bool) → nat_eq (length found) (length d.params) ≡ a → nat_lt l.depth depth_limit ≡ b
        → turn_of_call ≡ choose a (λ r. cond b (ticks tagged (Calls (record { routine = m; code = r.code; first = first_vars tagged r (Some (value_by names this)) (all_by names found); tie = tie; receiver = Some (value_by names this); y = y; into = into }) l)) (halts tagged StackOverflow)) (λ r. Sticks) r
    by-tests r at a b e q =
        let counts : nat_eq (length (all_by names found)) (length r.params) ≡ a = ap (λ z. nat_eq z (length r.params)) (length-map found (held_by names)) ∙ ap (nat_eq (length found)) at.params ∙ e in
        ap (λ o. on_routine tagged o (all_by names found) (λ r. below_limit tagged l.depth (Calls (record { routine = m; code = r.code; first = first_vars tagged r (Some (value_by names this)) (all_by names found); tie = tie; receiver = Some (value_by names this); y = y; into = into }) l))) at.there
        ∙ ap (λ z. choose z (λ r. below_limit tagged l.depth (Calls (record { routine = m; code = r.code; first = first_vars tagged r (Some (value_by names this)) (all_by names found); tie = tie; receiver = Some (value_by names this); y = y; into = into }) l)) (λ r. Sticks) r) counts
        ∙ ap (λ z. choose a (λ r. cond z (ticks tagged (Calls (record { routine = m; code = r.code; first = first_vars tagged r (Some (value_by names this)) (all_by names found); tie = tie; receiver = Some (value_by names this); y = y; into = into }) l)) (halts tagged StackOverflow)) (λ r. Sticks) r) q

    -- it takes another number of arguments
    pub call-miscounts : nat_eq (length found) (length d.params) ≡ false → turn_of_call ≡ Sticks
    call-miscounts e = let x = routine-there u m d is there in by-tests x.0 x.1 false (nat_lt l.depth depth_limit) e refl

    -- a call at the depth limit traps
    pub call-overflows : nat_eq (length found) (length d.params) ≡ true → nat_lt l.depth depth_limit ≡ false → turn_of_call ≡ halts tagged StackOverflow
    call-overflows e q = let x = routine-there u m d is there in by-tests x.0 x.1 true false e q

    -- a call begins
    pub call-begins : (depth : ℕ) → depth ≡ suc l.depth → nat_eq (length found) (length d.params) ≡ true → nat_lt l.depth depth_limit ≡ true
        → BeginsCall names (code_of u) l turn_of_call m (Some this ∷ (found ++ replicate (length (vars_at u m) - (1 + length found)) None)) depth into
    call-begins depth deeper e q = let x = routine-there u m d is there in record {
      calling = record { routine = m; code = x.0.code; first = first_vars tagged x.0 (Some (value_by names this)) (all_by names found); tie = tie; receiver = Some (value_by names this); y = y; into = into };
      turn = by-tests x.0 x.1 true true e q;
      «method» = refl;
      first = first-by names x.0 this found (length (vars_at u m)) x.1.vars;
      deeper = deeper;
      into_is = refl;
      routine = x.0;
      there = x.1.there;
      code = refl;
    }
