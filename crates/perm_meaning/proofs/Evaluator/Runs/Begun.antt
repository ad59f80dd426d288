-- A run begins as the meaning says.
use Rattle.std.proofs.Common.{◌≡◌, ◌∙◌, ℕ, ◌+◌, ◌≤◌, true, List, [], ◌∷◌, ◌++◌, length, Some, None, sym, ap, subst, arith}
use Rattle.std.specs.Prelude.{ℤ, map, nat_le, slice_get, if◌then◌else◌}
use Rattle.std.proofs.lemmas.List.{length-map}
use Rattle.std.proofs.lemmas.Bool.Decides.{nat_tests}
use Rattle.perm_tree.specs.declared.ast.Method.{Method}
use Rattle.perm_tree.specs.declared.ast.Shape.TheVariants.{Class}
use Rattle.perm_tree.specs.Code.{Routine}
use Rattle.perm_tree.specs.CodeOf.{code_of}
use Rattle.perm_tree.specs.InBody.{method_at, vars_at}
use Rattle.perm_tree.specs.Lookup.{main_place, run_place}
use Rattle.perm_tree.specs.Resolves.{IsResolved}
use Rattle.perm_tree.specs.UnitTables.{Tables}
use Rattle.perm_meaning.specs.declared.eval.state.Fate.TheVariants.{Goes}
use Rattle.perm_meaning.specs.declared.eval.state.State.{State}
use Rattle.perm_meaning.specs.declared.eval.values.Value.{Value}
use Rattle.perm_meaning.specs.declared.eval.values.Value.TheVariants as held
use Rattle.perm_meaning.specs.Effects.{first_vars}
use Rattle.perm_meaning.specs.Expressions.{tagged}
use Rattle.perm_meaning.specs.Evaluator.Frames.{NoneStands}
use Rattle.perm_meaning.specs.Meaning.{Result}
use Rattle.perm_meaning.specs.Names.{root_mark}
use Rattle.perm_meaning.specs.NamedHeap.{Held}
use Rattle.perm_meaning.specs.Evaluator.NumberedValues.{all_by, Names}
use Rattle.perm_meaning.specs.Objects.{field_types, size}
use Rattle.perm_meaning.specs.Evaluator.Opening.{first_state, opening_part, opening_vars, Begins, HasBoth}
use Rattle.perm_meaning.specs.Outcome.{opening, opening_heap, opening_need, outcome, outcome_from, reported_result, RanFull, RanStuck}
use Rattle.perm_meaning.specs.Evaluator.Runs.{Means}
use Rattle.perm_meaning.specs.Steps.{within}
use Rattle.perm_meaning.specs.Evaluator.NumberedHeap.{Stored, StartsAs}
use Rattle.perm_meaning.specs.Evaluator.Ties.{moment_by, opening_names}
use Rattle.perm_meaning.specs.Values as values
use Rattle.perm_meaning.specs.Evaluator.Waits.{resumed}
use Rattle.perm_meaning.specs.Evaluator.WholeCode.{whole}
use Rattle.perm_meaning.proofs.Evaluator.BegunCalls.{first-by}
use Rattle.perm_meaning.proofs.Evaluator.Routines.{IsRoutineAt, routine-gone, routine-there}
use Rattle.perm_meaning.proofs.Evaluator.Ties.Opening.{opening-below, opening-tied, opening-unborn}
use Rattle.perm_meaning.proofs.Evaluator.Waits.{outcome-of}

-- ---------- the heap ----------

-- the heap has both objects, if both have room
pub has-both : (u : Tables) (input : List ℤ) (limit : ℕ) (array main : List Value) (s : Stored)
    → array ≡ map held.Number input → StartsAs (code_of u) (Class (main_place u.program)) (length main) main → length main ≡ length (field_types (code_of u) (main_place u.program))
    → nat_le (0 + size (length array) + size (length main)) limit ≡ true
    → s ≡ record { objects = ([] ++ array ∷ []) ++ main ∷ []; given = (0 + size (length array)) + size (length main); limit = limit }
    → HasBoth u input limit s
has-both u input limit array main s numbers starts count room is = record {
  room = subst (λ n. n ≤ limit) need (fits (0 + size (length array) + size (length main)) room);
  main = main;
  start = starts;
  is = is ∙ (λ i. record { objects = numbers i ∷ main ∷ []; given = need i; limit = limit });
}
  where
    from_nothing : (a b : ℕ) → 0 + a + b ≡ a + b
    from_nothing a b = omega arith

    fits : (n : ℕ) → nat_le n limit ≡ true → n ≤ limit
    fits n e = grind (arith, nat_tests)

    need : 0 + size (length array) + size (length main) ≡ opening_need (code_of u) input
    need = from_nothing (size (length array)) (size (length main)) ∙ (λ i. size (length (numbers i)) + size (count i)) ∙ ap (λ n. size n + size (length (field_types (code_of u) (main_place u.program)))) (length-map input held.Number)

-- ---------- the meaning ----------
module _ (u : Tables) (is : IsResolved u) (input : List ℤ) (turns limit : ℕ) (d : Method) (there : method_at u (run_place u) ≡ Some d) where
  -- the routine of `Run`
  abbrev pub run_routine : Routine
  run_routine = (routine-there u (run_place u) d is there).0

  is-run : IsRoutineAt u (run_place u) d run_routine
  is-run = (routine-there u (run_place u) d is there).1

  -- what its body comes to
  abbrev pub run_result : Result
  run_result = resumed (code_of u) (within limit) [] (whole (code_of u) (within limit) run_routine.code (opening (code_of u) input turns run_routine))

  -- the variables are those of the meaning, whatever the names
  vars-by : (names : Names) → all_by names (opening_vars (length (vars_at u (run_place u))) (length input)) ≡ first_vars tagged run_routine (Some (values.Reference (names 1) 0)) (Some (values.Reference (names 0) (length input)) ∷ [])
  vars-by names = sym (first-by names run_routine (held.Reference 1 0) (Some (held.Reference 0 (length input)) ∷ []) (length (vars_at u (run_place u))) is-run.vars)

  -- the run is at the moment of the opening
  opens-at : moment_by opening_names root_mark (opening_heap (code_of u) input) turns (opening_part u (length input)) ≡ opening (code_of u) input turns run_routine
  opens-at = ap
      (λ (vs : List Held). record { turns = turns; own = record { vars = vs; routine = run_place u; depth = 1; printed = []; mark = root_mark }; heap = opening_heap (code_of u) input })
      (vars-by opening_names)

  -- it comes to what the body of `Run` comes to
  first-means : (main : List Value) → StartsAs (code_of u) (Class (main_place u.program)) 0 main → Means u (first_state u input turns limit main) Goes run_result
  first-means main starts = record {
    names = opening_names;
    mark = root_mark;
    heap = opening_heap (code_of u) input;
    waits = [];
    objects = opening-tied (code_of u) input main limit starts;
    vars = opening-below run_routine (length input) (opening_vars (length (vars_at u (run_place u))) (length input)) vars-by;
    frames = tt;
    value = tt;
    new = opening-unborn (code_of u) input;
    comes = record { stand = NoneStands; is = λ j. resumed (code_of u) (within limit) [] (whole (code_of u) (within limit) (sym is-run.code j) (opens-at j)) };
  }

  module _ (s : State) (begins : Begins u input turns limit s) where
    -- so does a state with which a run begins
    pub begins-means : Means u s Goes run_result
    begins-means =
        let whole_state : s ≡ first_state u input turns limit begins.heap.main = λ i. record { own = begins.own i; turns = begins.turns_are i; heap = begins.heap.is i; control = begins.control i } in
        subst (λ (s : State). Means u s Goes run_result) (sym whole_state) (first-means begins.heap.main begins.heap.start)

    -- of which the outcome tells
    pub begins-tells : outcome (code_of u) input turns limit ≡ reported_result turns run_result
    begins-tells = outcome-of (code_of u) limit input turns run_routine is-run.there begins.heap.room

-- where `Run` isn't there, nothing is meant
pub no-run : (u : Tables) → IsResolved u → (input : List ℤ) (turns limit : ℕ) → opening_need (code_of u) input ≤ limit → method_at u (run_place u) ≡ None → outcome (code_of u) input turns limit ≡ RanStuck
no-run u is input turns limit room gone = fits room ∙ ap (outcome_from (code_of u) input turns limit) (routine-gone u (run_place u) is gone)
  where
    fits : opening_need (code_of u) input ≤ limit → outcome (code_of u) input turns limit ≡ outcome_from (code_of u) input turns limit (slice_get (code_of u).routines (run_place u))
    fits le = ap (λ b. if b then outcome_from (code_of u) input turns limit (slice_get (code_of u).routines (run_place u)) else RanFull) (holds (opening_need (code_of u) input) limit le)
      where
        holds : (a b : ℕ) → a ≤ b → nat_le a b ≡ true
        holds a b le = grind (arith, nat_tests)
