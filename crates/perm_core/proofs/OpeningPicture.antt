-- The opening of an accepted unit has a picture: the input array is frozen, and the object of Main is in the region of the first zone.
use Rattle.std.proofs.Common.{◌≡◌, ℕ, zero, suc, ◌+◌, ◌-◌, ◌<◌, ◌≤◌, Bool, true, false, Option, Some, None, List, [], ◌∷◌, ◌++◌, length, map, refl, sym, ap, subst, ◌∙◌, inr, arith}
use Rattle.std.proofs.lemmas.Bool.Decides.{nat_tests}
use Rattle.std.proofs.lemmas.List.{length-map}
use Rattle.std.proofs.lemmas.Option.{slice_get-get_or}
use Rattle.std.proofs.Math.Bool.{and-false}
use Rattle.std.specs.Prelude.{ℤ, ◌&&◌, nat_eq, get_or, replicate, slice_get, cond}
use Rattle.std.specs.List.{list_all}
use Rattle.perm_tree.specs.declared.ast.Perm.TheVariants.{Immutable, Writable}
use Rattle.perm_tree.specs.declared.ast.Shape.TheVariants.{Class, Array}
use Rattle.perm_tree.specs.declared.ast.Ty.{Ty}
use Rattle.perm_tree.specs.declared.ast.Ty.TheVariants.{Long, Bool as Boolean, Ref}
use Rattle.perm_tree.specs.Code.{Code, End, Give, Return, Do, If, While, Par, Recover, Routine, UnitCode}
use Rattle.perm_tree.specs.Vars.{Vars, below}
use Rattle.perm_rules.specs.Goes.{Goes, context, first_live, HasDerivation, HaveDerivations}
use Rattle.perm_meaning.specs.Values.{Number, Reference}
use Rattle.perm_meaning.specs.Names.{Name, input_name, root_name, root_mark, same_name, same_path}
use Rattle.perm_meaning.specs.Objects.{Objects, zero_of, types_or_none, new_object, input_object, this_or}
use Rattle.perm_meaning.specs.Machine.{Way, Here}
use Rattle.perm_meaning.specs.NamedHeap.{Held}
use Rattle.perm_meaning.specs.Outcome.{opening_heap, opening_own, opening_state}
use Rattle.perm_meaning.proofs.Leads.{some-inj, none-some}
use Rattle.perm_meaning.proofs.SameName.{eq-itself, name-true, together}
use Rattle.perm_meaning.specs.Claims.{Opens}
use Rattle.perm_core.specs.Endings.{ByReturn, ends, is_settled}
use Rattle.perm_rules.specs.Scoping.{is_scoped}
use Rattle.perm_core.specs.Marked.{calls_right}
use Rattle.perm_core.specs.Whole.{IsWholeRoutine, IsRun}
use Rattle.perm_core.specs.Regions.{Zone, Base, Absent, Frozen, OwnOf, Labels, is_absent}
use Rattle.perm_core.specs.Picture.{context_if, context_of, value_fits, variable_fits, variables_fit, fields_fit, class_fits, is_number, object_fits, has_value, valued, code_right, MayGive, next, later, IsPicture}
use Rattle.perm_core.specs.NextPicture.{first_picture}
use Rattle.perm_core.specs.Claims.{IsChecked, OpensWithPicture}

-- ---------- code ----------
settled : (c : Code) → is_settled c [] ≡ true
settled End = refl
settled (Give at w x) = refl
settled (Return at a) = refl
settled (Do at i rest) = refl
settled (If at e own1 a own2 b rest) = refl
settled (While at e own body rest) = refl
settled (Par at own1 a own2 b rest) = refl
settled (Recover at x own hides body rest) = refl

pub derived : (u : UnitCode) (rs : List Routine) (m : ℕ) (r : Routine) → HaveDerivations u rs → slice_get rs m ≡ Some r → HasDerivation u r
derived u [] m r all e = none-some e
derived u (q ∷ rs) zero r all e = subst (λ z. HasDerivation u z) (some-inj e) all.0
derived u (q ∷ rs) (suc m) r all e = derived u rs m r all.1 e

-- ---------- values ----------
module _ (u : UnitCode) (labels : Labels) (h : Objects Name) where
  all-numbers : (input : List ℤ) → list_all (is_number u labels h) (input_object input).values ≡ true
  all-numbers [] = refl
  all-numbers (n ∷ input) = all-numbers input

  -- variables without values fit
  unset-fit : (w : Way) (z : Zone) (k x : ℕ) (ts : List Ty) → variables_fit u labels h z w k x ts (replicate (length ts) None) ≡ true
  unset-fit w z k x [] = refl
  unset-fit w z k x (t ∷ ts) = unset-fit w z k (suc x) ts

  zero-fits : (test : _) (t : Ty) → value_fits h test t (zero_of t) ≡ true
  zero-fits test Long = refl
  zero-fits test Boolean = refl
  zero-fits test (Ref p s) = refl

  zeros-fit : (o : Name) (f : ℕ) (ts : List Ty) → fields_fit u labels h o f ts (map zero_of ts) ≡ true
  zeros-fit o f [] = refl
  zeros-fit o f (t ∷ ts) = together _ (fields_fit u labels h o (suc f) ts (map zero_of ts)) (zero-fits _ t) (zeros-fit o (suc f) ts)

  class-zeros : (o : Name) (ts : Option (List Ty)) (fields : List Ty) → ts ≡ Some fields → class_fits u labels h o ts (map zero_of (types_or_none ts)) ≡ true
  class-zeros o ts fields e = subst (λ z. class_fits u labels h o z (map zero_of (types_or_none z)) ≡ true) (sym e) (zeros-fit o 0 fields)

-- ---------- names to come ----------
-- a name that the first branch may give is neither of the two that are given
unlike-given : (n m : Name) → MayGive root_mark n → m.by ≡ [] → m.count < 2 → same_name n m ≡ false
unlike-given n m (next c made) by small = ap (λ t. t && same_path [] m.by) (differ c m.count made small)
  where
    differ : (c k : ℕ) → 2 ≤ c → k < 2 → nat_eq c k ≡ false
    differ c k made small = grind (arith, nat_tests)
unlike-given n m (later k c s [] from below) by small = absurd (cc)
unlike-given n m (later k c s (t ∷ p) from below) by small = ap (λ q. nat_eq c m.count && same_path (t ∷ p) q) by ∙ and-false (nat_eq c m.count)

-- ---------- the opening ----------
module _ (u : UnitCode) (limit : ℕ) (input : List ℤ) (turns : ℕ) (r : Routine) (checked : IsChecked u) (opens : Opens u limit input r) where
  abbrev objects : Objects Name
  objects = (opening_heap u input).objects

  routine : IsWholeRoutine u r
  routine = checked.whole.routines u.run r opens.run

  run : IsRun u r
  run = subst (IsRun u) (some-inj (sym checked.whole.there ∙ opens.run)) checked.whole.run

  types : r.vars ≡ Ref Writable (Class u.main) ∷ (Ref Immutable Array ∷ routine.locals)
  types = routine.vars ∙ (λ i. Ref (run.receiver i) (Class (run.class i)) ∷ (run.params i ++ routine.locals))

  abbrev held : List Held
  held = (opening_own u input r).vars

  vars-held : held ≡ Some (Reference root_name 0) ∷ (Some (Reference input_name (length input)) ∷ replicate (length routine.locals) None)
  vars-held = ap (λ n. Some (Reference root_name 0) ∷ (Some (Reference input_name (length input)) ∷ replicate n None)) (rest (ap (λ ts. length ts) types))
    where
      rest : length r.vars ≡ suc (suc (length routine.locals)) → length r.vars - (1 + 1) ≡ length routine.locals
      rest e = omega (arith, e)

  variables : variables_fit u first_picture objects (Base Here 0) Here 0 0 (context_of u u.run).vars held ≡ true
  variables =
      ap (λ q. variables_fit u first_picture objects (Base Here 0) Here 0 0 (context_if u q).vars held) opens.run
      ∙ ap (λ ts. variables_fit u first_picture objects (Base Here 0) Here 0 0 ts held) types
      ∙ ap (λ vs. variables_fit u first_picture objects (Base Here 0) Here 0 0 (Ref Writable (Class u.main) ∷ (Ref Immutable Array ∷ routine.locals)) vs) vars-held
      ∙ together this_fits (input_fits && others) this-fits (together input_fits others input-fits (unset-fit u first_picture objects Here (Base Here 0) 0 2 routine.locals))
    where
      this_fits : Bool
      this_fits = variable_fits u first_picture objects (Base Here 0) Here 0 0 (Ref Writable (Class u.main)) (Some (Reference root_name 0))

      input_fits : Bool
      input_fits = variable_fits u first_picture objects (Base Here 0) Here 0 1 (Ref Immutable Array) (Some (Reference input_name (length input)))

      others : Bool
      others = variables_fit u first_picture objects (Base Here 0) Here 0 2 routine.locals (replicate (length routine.locals) None)

      this-fits : this_fits ≡ true
      this-fits = ap (λ t. ((t && nat_eq 0 0) && true)) (eq-itself u.main)

      input-fits : input_fits ≡ true
      input-fits = ap (λ t. t && true) (ap (λ n. nat_eq n (length input)) (length-map input Number) ∙ eq-itself (length input))

  -- ---------- objects ----------
  main-fields : (ts : List Ty) × (slice_get u.classes u.main ≡ Some ts)
  main-fields = (get_or u.classes u.main [], slice_get-get_or u.classes u.main [] checked.whole.main)

  an-object : (n : Name) → object_fits u first_picture objects n (objects n) ≡ true
  an-object n = go (same_name n root_name) (same_name n input_name) refl refl
    where
      root-fits : object_fits u first_picture objects root_name (objects root_name) ≡ true
      root-fits = class-zeros u first_picture objects root_name (slice_get u.classes u.main) main-fields.0 main-fields.1

      input_fits : object_fits u first_picture objects input_name (objects input_name) ≡ true
      input_fits = all-numbers u first_picture objects input

      go : (s t : Bool) → same_name n root_name ≡ s → same_name n input_name ≡ t → object_fits u first_picture objects n (objects n) ≡ true
      go true t e f = subst (λ z. object_fits u first_picture objects z (objects z) ≡ true) (sym (name-true n root_name e)) root-fits
      go false true e f = subst (λ z. object_fits u first_picture objects z (objects z) ≡ true) (sym (name-true n input_name f)) input_fits
      go false false e f =
          ap (λ s. object_fits u first_picture objects n (this_or s (new_object u (Class u.main) 0) (this_or (same_name n input_name) (input_object input) None))) e
          ∙ ap (λ t. object_fits u first_picture objects n (this_or t (input_object input) None)) f
          ∙ ap (λ t. is_absent (cond t Frozen (cond (same_name n root_name) (OwnOf (Base Here 0)) Absent))) f
          ∙ ap (λ s. is_absent (cond s (OwnOf (Base Here 0)) Absent)) e

  new-names : (n : Name) → MayGive root_mark n → objects n ≡ None
  new-names n may =
      ap (λ s. this_or s (new_object u (Class u.main) 0) (this_or (same_name n input_name) (input_object input) None)) (unlike-given n root_name may refl (omega arith))
      ∙ ap (λ t. this_or t (input_object input) None) (unlike-given n input_name may refl (omega arith))

  -- ---------- code ----------
  unset-dead : (n x : ℕ) → has_value (slice_get (replicate n None) x) ≡ false
  unset-dead zero x = refl
  unset-dead (suc n) zero = refl
  unset-dead (suc n) (suc x) = unset-dead n x

  live : first_live r ≡ valued held
  live = λ i x. (ap (λ ps. below (1 + length ps) x) run.params ∙ two x ∙ sym (ap (λ vs. valued vs x) vars-held)) i
    where
      two : (x : ℕ) → below 2 x ≡ valued (Some (Reference root_name 0) ∷ (Some (Reference input_name (length input)) ∷ replicate (length routine.locals) None)) x
      two zero = refl
      two (suc zero) = refl
      two (suc (suc x)) = sym (unset-dead (length routine.locals) x)

  goes : (H : Vars) × Goes (context_of u u.run) r.code (valued held) H
  goes =
      let d = derived u u.routines u.run r checked.accepted opens.run in
      (d.0, subst (λ q. Goes (context_if u q) r.code (valued held) d.0) (sym opens.run) (subst (λ G. Goes (context u r) r.code G d.0) live d.1))

  right : code_right (context_of u u.run) r.code (valued held) ≡ true
  right =
      subst (λ q. code_right (context_if u q) r.code (valued held) ≡ true) (sym opens.run)
      (together (calls_right (context u r) r.code) (is_scoped (context u r) r.code (valued held)) routine.calls (ap (λ G. is_scoped (context u r) r.code G) (sym live) ∙ routine.scoped))

  first-picture : IsPicture u first_picture (opening_state u input turns r)
  first-picture =
      record {
        variables = together _ true variables refl;
        objects = an-object;
        orderly = record {
          goes = (goes.0, inr goes.1);
          ends = together (is_settled r.code []) (ends ByReturn r.code) (settled r.code) routine.returns;
          right = right;
          hidden = refl;
          stand = refl;
          new = new-names;
          paths = tt;
        };
      }

pub opens-with-picture : (u : UnitCode) (limit : ℕ) (input : List ℤ) (turns : ℕ) → OpensWithPicture u limit input turns
opens-with-picture u limit input turns r checked opens = first-picture u limit input turns r checked opens
