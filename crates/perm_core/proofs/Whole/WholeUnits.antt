-- The code of a resolved unit is whole.
use Rattle.std.proofs.Common.{◌≡◌, ℕ, ◌<◌, length, Some, sym, subst}
use Rattle.std.specs.Prelude.{map, slice_get}
use Rattle.std.proofs.lemmas.List.{length-map}
use Rattle.perm_tree.specs.declared.ast.ClassDecl.{ClassDecl}
use Rattle.perm_tree.specs.Code.{Routine}
use Rattle.perm_tree.specs.CodeOf.{routine, code_of}
use Rattle.perm_tree.specs.Resolves.{IsResolved}
use Rattle.perm_tree.specs.UnitTables.{Tables}
use Rattle.perm_tree.proofs.RoutineLaws.{HasVars, IsResolved-vars}
use Rattle.perm_tree.proofs.RunLaw.{HasRun, IsResolved-run, good_run-types}
use Rattle.perm_meaning.proofs.UnitLiterals.{IsResolved-fits}
use Rattle.perm_core.specs.Whole.{IsWholeRoutine, IsRun, IsWhole}
use Rattle.perm_rules.proofs.Pars.{IsResolved-scoped}
use Rattle.perm_core.proofs.Whole.WholeCode.{IsResolved-returns, IsResolved-calls}
use Rattle.perm_core.proofs.Whole.WholeTypes.{IsResolved-known, IsResolved-fields, method-class-within}

routine-whole : (u : Tables) (at : ℕ) (r : Routine) → IsResolved u → slice_get (code_of u).routines at ≡ Some r → IsWholeRoutine (code_of u) r
routine-whole u at r is here = by_vars (IsResolved-vars u at r is here)
  where
    by_vars : HasVars r → IsWholeRoutine (code_of u) r
    by_vars (locals, vars, few) = record {
      locals = locals;
      vars = vars;
      known = IsResolved-known u at r is here;
      returns = IsResolved-returns u at r here is;
      calls = IsResolved-calls u at r here is;
      scoped = IsResolved-scoped u at r is here;
    }

-- the class Main is there
main-there : (u : Tables) → HasRun u → (code_of u).main < length (code_of u).classes
main-there u run =
    subst (λ n. (code_of u).main < n) (sym (length-map u.program.classes (λ (c : ClassDecl). map (λ f. f.ty) c.fields)))
    (subst (λ n. n < length u.program.classes) run.class (method-class-within u run.table run.«method» run.is))

-- its Run is that of the unit
run-right : (u : Tables) (run : HasRun u) → IsRun (code_of u) (routine u run.table run.«method»)
run-right u run = let types = good_run-types run.«method» run.good in record { class = run.class; receiver = types.2; params = types.1; result = types.0 }

-- so the whole code
pub resolved-whole : (u : Tables) → IsResolved u → IsWhole (code_of u)
resolved-whole u is = record {
  routines = λ at r here. routine-whole u at r is here;
  fits = IsResolved-fits u is;
  fields = IsResolved-fields u is;
  main = main-there u (IsResolved-run u is);
  first = routine u (IsResolved-run u is).table (IsResolved-run u is).«method»;
  there = (IsResolved-run u is).routine;
  run = run-right u (IsResolved-run u is);
}
