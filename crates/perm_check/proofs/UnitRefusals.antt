-- The first refused part of a unit, by those of its methods, one behind the other.
use Rattle.std.proofs.Common.{◌≡◌, ℕ, ◌+◌, ◌<◌, ◌≤◌, List, length, Option, Some, None, sym, ap, subst, ◌∙◌, drop, get_or}
use Rattle.std.specs.Prelude.{slice_get}
use Rattle.std.proofs.lemmas.List.{drop_all, drop_more}
use Rattle.std.proofs.lemmas.Option.{slice_get-get_or}
use Rattle.perm_tree.specs.declared.errors.TypeError.{TypeError}
use Rattle.perm_tree.specs.Code.{Routine, UnitCode}
use Rattle.perm_tree.specs.CodeOf.{code_of}
use Rattle.perm_tree.specs.Resolves.{IsResolved}
use Rattle.perm_tree.specs.UnitTables.{Tables}
use Rattle.perm_tree.proofs.TableLaws.{AllMethods, length-routines_of, tables_of-methods}
use Rattle.perm_rules.specs.AtPlace.{no_routine}
use Rattle.perm_rules.specs.FirstRefused.{method_refusal, methods_refusal, or_later}

-- the refusal of the methods from a place on: that of the first of them, or else of the others
pub methods-next : (u : UnitCode) (rs : List Routine) (i : ℕ) (o : Option TypeError) → i < length rs → ((r : Routine) → slice_get rs i ≡ Some r → o ≡ method_refusal u r)
    → methods_refusal u (drop i rs) ≡ or_later o (methods_refusal u (drop (i + 1) rs))
methods-next u rs i o within is =
    ap (λ (l : List Routine). methods_refusal u l) (drop_more rs i no_routine within)
    ∙ ap (λ q. or_later q (methods_refusal u (drop (i + 1) rs))) (sym (is (get_or rs i no_routine) (slice_get-get_or rs i no_routine within)))

pub methods-done : (u : UnitCode) (rs : List Routine) (i : ℕ) → length rs ≤ i → methods_refusal u (drop i rs) ≡ None
methods-done u rs i past = ap (λ (l : List Routine). methods_refusal u l) (drop_all i rs past)

-- a resolved unit has as many routines as tables
pub methods-counted : (u : Tables) → IsResolved u → length (code_of u).routines ≡ length u.tables
methods-counted u is = length-routines_of u u.tables (subst (AllMethods u.program) (sym is.tables) (tables_of-methods u.program))
