-- What stands at the number of a method of a resolved unit: a method, its routine, and what its blocks are checked by.
use Rattle.std.proofs.Common.{◌≡◌, ℕ, zero, suc, List, [], ◌∷◌, Some, sym, ◌∙◌, ap, subst}
use Rattle.std.specs.Prelude.{map, slice_get}
use Rattle.std.proofs.lemmas.Option.{get_or_from_slice_get}
use Rattle.perm_tree.specs.declared.ast.Method.{Method}
use Rattle.perm_tree.specs.declared.unit.MethodTable.{MethodTable}
use Rattle.perm_tree.specs.declared.unit.VarInfo.{VarInfo}
use Rattle.perm_tree.specs.CodeOf.{routine, code_of}
use Rattle.perm_tree.specs.Lookup.{method_of}
use Rattle.perm_tree.specs.Places.{Listing}
use Rattle.perm_tree.specs.Resolves.{IsResolved}
use Rattle.perm_tree.specs.UnitTables.{Tables}
use Rattle.perm_tree.proofs.TableLaws.{AllMethods, IsTable, tables_of-methods, routines_of-at}
use Rattle.perm_tree.specs.InBody.{vars_if, vars_at}
use Rattle.perm_rules.specs.AtPlace.{no_routine, routine_at, plain_context}

table-method : (p : Listing) (ts : List MethodTable) (m : ℕ) (t : MethodTable) → AllMethods p ts → slice_get ts m ≡ Some t → (d : Method) × IsTable p t d
table-method p [] m t all here = absurd (let no : ⊥ = cc here in no)
table-method p (s ∷ ts) zero t all here = let same : s ≡ t = cc here in subst (λ (r : MethodTable). (d : Method) × IsTable p r d) same all.0
table-method p (s ∷ ts) (suc m) t all here = table-method p ts m t all.1 here

-- a table with its method, whose routine has the same number
pub record MethodAt (u : Tables) (m : ℕ) (t : MethodTable) : Type 0 where
  pub «method» : Method
  pub is : method_of u.program t ≡ Some «method»
  pub found : slice_get (code_of u).routines m ≡ Some (routine u t «method»)
  pub routine : routine_at u m ≡ routine u t «method»

pub method-there : (u : Tables) (m : ℕ) (t : MethodTable) → IsResolved u → slice_get u.tables m ≡ Some t → MethodAt u m t
method-there u m t is here = go (table-method u.program u.tables m t all here)
  where
    all : AllMethods u.program u.tables
    all = subst (AllMethods u.program) (sym is.tables) (tables_of-methods u.program)

    go : (d : Method) × IsTable u.program t d → MethodAt u m t
    go (d, table) =
        let there : slice_get (code_of u).routines m ≡ Some (routine u t d) = routines_of-at u u.tables m t d all here table.0 in
        record { «method» = d; is = table.0; found = there; routine = get_or_from_slice_get (code_of u).routines m (routine u t d) no_routine there }

-- the variables by whose types its blocks are checked are those of its table
pub types-there : (u : Tables) (m : ℕ) (t : MethodTable) → IsResolved u → slice_get u.tables m ≡ Some t → (plain_context u m).vars ≡ map (λ v. v.ty) (vars_at u m)
types-there u m t is here = ap (λ r. r.vars) (method-there u m t is here).routine ∙ ap (λ (vs : List VarInfo). map (λ v. v.ty) vs) (sym (ap vars_if here))
