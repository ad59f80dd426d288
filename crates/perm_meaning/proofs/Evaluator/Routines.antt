-- The routines of a unit's code, by its methods.
use Rattle.std.proofs.Common.{◌≡◌, ◌∙◌, ℕ, length, Option, Some, None, refl, sym, ap, subst}
use Rattle.std.specs.Prelude.{slice_get}
use Rattle.std.proofs.lemmas.List.{length-map}
use Rattle.perm_tree.specs.declared.ast.FieldDecl.{FieldDecl}
use Rattle.perm_tree.specs.declared.ast.Method.{Method}
use Rattle.perm_tree.specs.declared.unit.MethodTable.{MethodTable}
use Rattle.perm_tree.specs.declared.unit.VarInfo.{VarInfo}
use Rattle.perm_tree.specs.Code.{Routine}
use Rattle.perm_tree.specs.CodeNames.{setting}
use Rattle.perm_tree.specs.CodeOf.{block_code, code_of, routine}
use Rattle.perm_tree.specs.InBody.{body_if, method_at, method_if, vars_at, vars_if}
use Rattle.perm_tree.specs.Lookup.{method_of}
use Rattle.perm_tree.specs.Resolves.{IsResolved}
use Rattle.perm_tree.specs.UnitTables.{Tables}
use Rattle.perm_tree.proofs.TableLaws.{AllMethods, tables_of-methods, routine-table, routines_of-at}
use Rattle.perm_meaning.specs.declared.eval.parts.Part.TheVariants.{Body}
use Rattle.perm_meaning.specs.Evaluator.Parts.{code_from, return_if}
use Rattle.perm_meaning.proofs.Leads.{none-some}

-- what the routine of a method is: it has the method's parameters and variables, and the code of its body
pub record IsRoutineAt (u : Tables) (m : ℕ) (d : Method) (r : Routine) : Type 0 where
  pub there : slice_get (code_of u).routines m ≡ Some r
  pub params : length r.params ≡ length d.params
  pub vars : length r.vars ≡ length (vars_at u m)
  pub code : r.code ≡ code_from u m Body 0

all-methods : (u : Tables) → IsResolved u → AllMethods u.program u.tables
all-methods u is = subst (AllMethods u.program) (sym is.tables) (tables_of-methods u.program)

with-table : (u : Tables) (m : ℕ) (t : MethodTable) (d : Method) → IsResolved u → slice_get u.tables m ≡ Some t → method_of u.program t ≡ Some d → IsRoutineAt u m d (routine u t d)
with-table u m t d is here has = record {
  there = routines_of-at u u.tables m t d (all-methods u is) here has;
  params = length-map d.params (λ (f : FieldDecl). f.ty);
  vars = length-map t.vars (λ (v : VarInfo). v.ty) ∙ ap (λ (o : Option MethodTable). length (vars_if o)) (sym here);
  code = sym (
      ap (λ (o : Option MethodTable). block_code (setting u (vars_if o)) (body_if (method_if u o)) (return_if (setting u (vars_if o)) (method_if u o))) here
      ∙ ap (λ (o : Option Method). block_code (setting u t.vars) (body_if o) (return_if (setting u t.vars) o)) has
      );
}

-- the routine of a method that is there
pub routine-there : (u : Tables) (m : ℕ) (d : Method) → IsResolved u → method_at u m ≡ Some d → (r : Routine) × IsRoutineAt u m d r
routine-there u m d is e = go (slice_get u.tables m) refl
  where
    go : (o : Option MethodTable) → slice_get u.tables m ≡ o → (r : Routine) × IsRoutineAt u m d r
    go None q = none-some (sym (ap (method_if u) q) ∙ e)
    go (Some t) q = (routine u t d, with-table u m t d is q (sym (ap (method_if u) q) ∙ e))

-- where no method is there, no routine is
pub routine-gone : (u : Tables) (m : ℕ) → IsResolved u → method_at u m ≡ None → slice_get (code_of u).routines m ≡ None
routine-gone u m is e = go (slice_get (code_of u).routines m) refl
  where
    go : (o : Option Routine) → slice_get (code_of u).routines m ≡ o → o ≡ None
    go None q = refl
    go (Some r) q =
        let x = routine-table u u.tables m r (all-methods u is) q in
        none-some (sym e ∙ ap (method_if u) x.2 ∙ x.3.0)
