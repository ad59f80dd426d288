-- In the code of a resolved program the method that a call finds in the class of its receiver's type is of that class.
use Rattle.std.proofs.Common.{◌≡◌, ℕ, Bool, true, false, Option, Some, None, List, [], ◌∷◌, refl, sym, ap, ◌∙◌}
use Rattle.std.specs.Prelude.{cond, find, nat_eq, slice_get}
use Rattle.std.proofs.lemmas.List.Folds.{find_at}
use Rattle.std.proofs.lemmas.Bool.{and_parts}
use Rattle.perm_tree.specs.declared.ast.Perm.{Perm}
use Rattle.perm_tree.specs.declared.ast.Shape.TheVariants.{Class, Array}
use Rattle.perm_tree.specs.declared.ast.Ty.{Ty}
use Rattle.perm_tree.specs.declared.ast.Ty.TheVariants.{Long, Bool as Boolean, Ref}
use Rattle.perm_tree.specs.declared.unit.MethodTable.{MethodTable}
use Rattle.perm_tree.specs.Code.{Routine}
use Rattle.perm_tree.specs.CodeOf.{code_of}
use Rattle.perm_tree.specs.Lookup.{method_of, is_method_if, is_method_of, method_place}
use Rattle.perm_tree.specs.Resolves.{IsResolved}
use Rattle.perm_tree.specs.UnitTables.{Tables}
use Rattle.perm_tree.proofs.TableLaws.{HasTable}
use Rattle.perm_meaning.proofs.Leads.{some-inj, none-some}
use Rattle.perm_meaning.proofs.SameName.{eq-true, eq-itself}
use Rattle.perm_core.specs.Marked.{is_called_on}
use Rattle.perm_core.proofs.Whole.WholeTypes.{IsResolved-table}

-- what is found passes the test
found-passes : {A : Type 0} (p : A → Bool) (xs : List A) (x : A) → find p xs ≡ Some x → p x ≡ true
found-passes p [] x e = none-some e
found-passes p (y ∷ xs) x e = go (found-passes p xs x) (p y) refl e
  where
    go : (find p xs ≡ Some x → p x ≡ true) → (b : Bool) → p y ≡ b → cond b (Some y) (find p xs) ≡ Some x → p x ≡ true
    go rec true q e = ap p (sym (some-inj e)) ∙ q
    go rec false q e = rec e

pub called-class : (u : Tables) (q : Perm) (k name : ℕ) (r : Routine) → IsResolved u → slice_get (code_of u).routines (method_place u (Some (Ref q (Class k))) name) ≡ Some r → r.class ≡ k
called-class u q k name r is here = by_table (IsResolved-table u (method_place u (Some (Ref q (Class k))) name) r is here)
  where
    test : MethodTable → Bool
    test = is_method_of u.program k (λ n. nat_eq n name)

    by_table : HasTable u u.tables (method_place u (Some (Ref q (Class k))) name) r → r.class ≡ k
    by_table (t, d, there, table, same) =
        let passes : test t ≡ true = found-passes test u.tables t (find_at test u.tables ∙ there) in
        ap (λ (x : Routine). x.class) (sym same) ∙ eq-true t.class k (and_parts (nat_eq t.class k) (is_method_if (λ n. nat_eq n name) (method_of u.program t)) passes).0

-- so the called method is one of the receiver's class
pub called-on : (u : Tables) (t : Option Ty) (name : ℕ) → IsResolved u → is_called_on t (slice_get (code_of u).routines (method_place u t name)) ≡ true
called-on u (Some (Ref q (Class k))) name is = by_routine (slice_get (code_of u).routines (method_place u (Some (Ref q (Class k))) name)) refl
  where
    by_routine : (r : Option Routine) → slice_get (code_of u).routines (method_place u (Some (Ref q (Class k))) name) ≡ r → is_called_on (Some (Ref q (Class k))) r ≡ true
    by_routine None e = refl
    by_routine (Some r) e = ap (nat_eq k) (called-class u q k name r is e) ∙ eq-itself k
called-on u (Some (Ref q Array)) name is = refl
called-on u (Some Long) name is = refl
called-on u (Some Boolean) name is = refl
called-on u None name is = refl
