-- How parts of methods end, and which variables lose their values there.
use Rattle.std.specs.Prelude.{◌≡◌, ℕ, zero, suc, Bool, List, Option}
use Rattle.perm_tree.specs.declared.ast.Span.{Span}
use Rattle.perm_tree.specs.Code.{Code, UnitCode}
use Rattle.perm_meaning.specs.declared.eval.ends.Ended.{Ended}
use Rattle.perm_meaning.specs.declared.eval.ends.Ended.TheVariants.{Closes, Gives, Returns}
use Rattle.perm_meaning.specs.declared.eval.frames.Failure.TheVariants as failures
use Rattle.perm_meaning.specs.declared.eval.own.Own.{Own}
use Rattle.perm_meaning.specs.declared.eval.state.Fate.{Fate}
use Rattle.perm_meaning.specs.declared.eval.state.Fate.TheVariants as fates
use Rattle.perm_meaning.specs.declared.eval.values.Given.{Given}
use Rattle.perm_meaning.specs.declared.eval.values.Given.TheVariants as given
use Rattle.perm_meaning.specs.declared.eval.values.Value.{Value}
use Rattle.perm_meaning.specs.Expressions.{clear, tagged}
use Rattle.perm_meaning.specs.Meaning.{Moment, Result, Well, Gave, Handed, does, on_value, set_vars, spend}
use Rattle.perm_meaning.specs.Evaluator.NumberedValues.{all_by, given_by, Names}

-- what an end comes to at a moment, if the variables are these afterwards
abbrev pub ended : Names → List (Option Value) → Ended → Moment → Result
ended names vs Closes m = Well m
ended names vs (Gives g x at) m = spend m (λ m. on_value (given_by names g) at m (λ v. Handed x v (set_vars m (all_by names vs))))
ended names vs (Returns g at) m = spend m (λ m. on_value (given_by names g) at m (λ v. Gave v m))

-- code that is an end comes to what is found of it, wherever the branch has these variables
abbrev pub EndsAs : UnitCode → Code → Own → Own → Ended → Type 0
EndsAs u c old new e =
    (names : Names) (fits : ℕ → Bool) (again : Code → Moment → Result) (m : Moment) → m.own.vars ≡ all_by names old.vars → does u fits again c m ≡ ended names new.vars e m

-- an end leaves the variables as they are, but for the one that a recover block gives, which loses its value
abbrev pub LosesGiven : Own → Own → Ended → Type 0
LosesGiven old new (Gives g x at) = (w : ℕ) × ((names : Names) → all_by names new.vars ≡ clear tagged (all_by names old.vars) w)
LosesGiven old new e = new ≡ old

-- ---------- fates ----------
-- the fate where a recover block gives this for x, by the turns left
abbrev pub give_fate : ℕ → Given → ℕ → Span → Fate
give_fate zero g x at = fates.Fails failures.NoTurns
give_fate (suc t) (given.Value v) x at = fates.Gives v x
give_fate (suc t) (given.Trap k) x at = fates.Fails (failures.Trapped k at)
give_fate (suc t) given.Nothing x at = fates.Sticks

-- the fate where a method gives this back
abbrev pub return_fate : ℕ → Given → Span → Fate
return_fate zero g at = fates.Fails failures.NoTurns
return_fate (suc t) (given.Value v) at = fates.Returns v
return_fate (suc t) (given.Trap k) at = fates.Fails (failures.Trapped k at)
return_fate (suc t) given.Nothing at = fates.Sticks
