-- The variables of the routines of a resolved unit.
use Rattle.std.proofs.Common.{◌≡◌, ℕ, ◌≤◌, List, [], ◌∷◌, ◌++◌, length, Some, refl, sym, ap, subst, arith, ◌∙◌}
use Rattle.std.specs.Prelude.{map, slice_get}
use Rattle.std.proofs.lemmas.List.{length-map, map-append}
use Rattle.perm_tree.specs.declared.ast.FieldDecl.{FieldDecl}
use Rattle.perm_tree.specs.declared.ast.Ident.{Ident}
use Rattle.perm_tree.specs.declared.ast.Method.{Method}
use Rattle.perm_tree.specs.declared.ast.Shape.TheVariants.{Class}
use Rattle.perm_tree.specs.declared.ast.Ty.{Ty}
use Rattle.perm_tree.specs.declared.ast.Ty.TheVariants.{Ref}
use Rattle.perm_tree.specs.declared.unit.MethodTable.{MethodTable}
use Rattle.perm_tree.specs.declared.unit.VarInfo.{VarInfo}
use Rattle.perm_tree.specs.Code.{Routine}
use Rattle.perm_tree.specs.CodeOf.{routine, code_of}
use Rattle.perm_tree.specs.Resolves.{unmentioned, IsResolved}
use Rattle.perm_tree.specs.Scopes.{all_inner, block_vars, param_var}
use Rattle.perm_tree.specs.UnitTables.{Tables}
use Rattle.perm_tree.proofs.AcceptedNames.{names_refusal-accepted}
use Rattle.perm_tree.proofs.TableLaws.{AllMethods, IsTable, tables_of-methods, routine-table}

abbrev types : List VarInfo → List Ty
types vars = map (λ v. v.ty) vars

param-types : (d : Method) (ps : List FieldDecl) → types (map (param_var d) ps) ≡ map (λ f. f.ty) ps
param-types d [] = refl
param-types d (f ∷ ps) = ap (λ ts. f.ty ∷ ts) (param-types d ps)

-- `this` comes first, then the parameters, then what the body declares
abbrev pub HasVars : Routine → Type 0
HasVars r = (locals : List Ty) × (r.vars ≡ Ref r.receiver (Class r.class) ∷ (r.params ++ locals)) × (length r.vars ≤ 256)

table-vars : (u : Tables) (at : ℕ) (t : MethodTable) (d : Method) → IsResolved u → slice_get u.tables at ≡ Some t → IsTable u.program t d → HasVars (routine u t d)
table-vars u at t d is here table = (types locals, vars, few)
  where
    locals : List VarInfo
    locals = block_vars u.program.stmts (all_inner u.program.stmts) d.span.end d.body.stmts

    vars : types t.vars ≡ Ref d.receiver (Class t.class) ∷ (map (λ f. f.ty) d.params ++ types locals)
    vars =
        ap types table.1
        ∙ ap (λ ts. Ref d.receiver (Class t.class) ∷ ts) (map-append (λ (v : VarInfo). v.ty) (map (param_var d) d.params) locals ∙ ap (λ ts. ts ++ types locals) (param-types d d.params))

    few : length (types t.vars) ≤ 256
    few =
        let most = (names_refusal-accepted (unmentioned u.program) is.accepted).few_variables at t (subst (λ (ts : List MethodTable). slice_get ts at ≡ Some t) is.tables here) in
        omega (arith, most, length-map t.vars (λ (v : VarInfo). v.ty), length-map t.vars (λ (v : VarInfo). let i : Ident = record { name = v.name; span = v.declared } in i))

pub IsResolved-vars : (u : Tables) (at : ℕ) (r : Routine) → IsResolved u → slice_get (code_of u).routines at ≡ Some r → HasVars r
IsResolved-vars u at r is here = by_table (routine-table u u.tables at r (subst (AllMethods u.program) (sym is.tables) (tables_of-methods u.program)) here)
  where
    by_table : (t : MethodTable) × (d : Method) × (slice_get u.tables at ≡ Some t) × IsTable u.program t d × (routine u t d ≡ r) → HasVars r
    by_table (t, d, there, table, same) = subst HasVars same (table-vars u at t d is there table)
