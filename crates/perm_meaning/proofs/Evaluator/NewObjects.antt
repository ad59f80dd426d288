-- What new objects start with.
use Rattle.std.proofs.Common.{◌≡◌, ◌∙◌, ℕ, zero, suc, ◌+◌, ◌≤◌, true, pos, List, [], ◌∷◌, ◌++◌, length, Some, None, inr, refl, sym, ap, subst, arith}
use Rattle.std.specs.Prelude.{map, nat_le, replicate, slice_get, option_map}
use Rattle.std.proofs.lemmas.Option.{slice_get-map}
use Rattle.std.proofs.lemmas.List.{length-map, length-replicate}
use Rattle.std.proofs.lemmas.Bool.Decides.{nat_tests}
use Rattle.perm_tree.specs.declared.ast.ClassDecl.{ClassDecl}
use Rattle.perm_tree.specs.declared.ast.FieldDecl.{FieldDecl}
use Rattle.perm_tree.specs.declared.ast.Shape.TheVariants.{Class, Array}
use Rattle.perm_tree.specs.declared.ast.Ty.{Ty}
use Rattle.perm_tree.specs.declared.ast.Ty.TheVariants.{Long, Bool as Boolean, Ref}
use Rattle.perm_tree.specs.declared.unit.MethodTable.{MethodTable}
use Rattle.perm_tree.specs.Code.{UnitCode}
use Rattle.perm_tree.specs.CodeOf.{code_of}
use Rattle.perm_tree.specs.Places.{Listing}
use Rattle.perm_meaning.specs.declared.eval.answers.Answer.TheVariants.{Found}
use Rattle.perm_meaning.specs.declared.eval.values.Value.{Value}
use Rattle.perm_meaning.specs.declared.eval.values.Value.TheVariants as held
use Rattle.perm_meaning.specs.Names.{Name}
use Rattle.perm_meaning.specs.Evaluator.NumberedValues.{value_by, Names}
use Rattle.perm_meaning.specs.Objects.{field_types, size, types_or_none, zero_of}
use Rattle.perm_meaning.specs.Evaluator.NumberedHeap.{Stored, MakesOne, StartsAs, zero_value}
use Rattle.perm_meaning.specs.Values as values

-- an array starts with zeros
pub array-start : (u : UnitCode) (n : ℕ) → StartsAs u Array n (replicate n (held.Number (pos 0)))
array-start u zero names = refl
array-start u (suc n) names = ap (λ (vs : List (values.Value Name)). values.Number (pos 0) ∷ vs) (array-start u n names)

-- what a field starts as
zero-by : (names : Names) (t : Ty) → value_by names (zero_value t) ≡ zero_of t
zero-by names Long = refl
zero-by names Boolean = refl
zero-by names (Ref p k) = refl

fields-by : (names : Names) (fs : List FieldDecl) → map (value_by names) (map (λ (f : FieldDecl). zero_value f.ty) fs) ≡ map zero_of (map (λ (f : FieldDecl). f.ty) fs)
fields-by names [] = refl
fields-by names (f ∷ fs) = let a = zero-by names f.ty in let b = fields-by names fs in λ i. a i ∷ b i

-- the types of the fields of a class that is there
pub types-there : (p : Listing) (tables : List MethodTable) (k : ℕ) (d : ClassDecl) → slice_get p.classes k ≡ Some d → field_types (code_of (record { program = p; tables = tables })) k ≡ map (λ (f : FieldDecl). f.ty) d.fields
types-there p tables k d e =
    ap types_or_none (slice_get-map (λ (c : ClassDecl). map (λ (f : FieldDecl). f.ty) c.fields) p.classes k ∙ ap (option_map (λ (c : ClassDecl). map (λ (f : FieldDecl). f.ty) c.fields)) e)

-- those of one that isn't there
pub types-gone : (p : Listing) (tables : List MethodTable) (k : ℕ) → slice_get p.classes k ≡ None → field_types (code_of (record { program = p; tables = tables })) k ≡ []
types-gone p tables k e =
    ap types_or_none (slice_get-map (λ (c : ClassDecl). map (λ (f : FieldDecl). f.ty) c.fields) p.classes k ∙ ap (option_map (λ (c : ClassDecl). map (λ (f : FieldDecl). f.ty) c.fields)) e)

-- an object starts with what its fields start as
pub object-start : (u : UnitCode) (k n : ℕ) (fs : List FieldDecl) (o : List Value) → field_types u k ≡ map (λ (f : FieldDecl). f.ty) fs → o ≡ map (λ (f : FieldDecl). zero_value f.ty) fs → StartsAs u (Class k) n o
object-start u k n fs o e q names = ap (map (value_by names)) q ∙ fields-by names fs ∙ ap (map zero_of) (sym e)

-- and has as many values as the class has fields
pub object-count : (u : UnitCode) (k : ℕ) (fs : List FieldDecl) (o : List Value) → field_types u k ≡ map (λ (f : FieldDecl). f.ty) fs → o ≡ map (λ (f : FieldDecl). zero_value f.ty) fs → length o ≡ length (field_types u k)
object-count u k fs o e q =
    ap (λ (l : List Value). length l) q ∙ length-map fs (λ (f : FieldDecl). zero_value f.ty) ∙ sym (length-map fs (λ (f : FieldDecl). f.ty)) ∙ ap (λ (l : List Ty). length l) (sym e)

-- an array is made that has room
pub array-made : (u : UnitCode) (n number : ℕ) (o : List Value) (old new : Stored) → nat_le (old.given + size n) old.limit ≡ true → o ≡ replicate n (held.Number (pos 0)) → number ≡ length old.objects
    → new ≡ record old { objects = old.objects ++ o ∷ []; given = old.given + size (length o) } → MakesOne u Array n old (Found (Some (held.Reference number n))) new
array-made u n number o old new room q is after = inr (
  ap (λ r. Found (Some (held.Reference r n))) is,
  record {
    room = fits;
    values = o;
    start = subst (λ (l : List Value). StartsAs u Array n l) (sym q) (array-start u n);
    after = after ∙ ap (λ k. record old { objects = old.objects ++ o ∷ []; given = old.given + size k }) (ap (λ (l : List Value). length l) q ∙ length-replicate n (held.Number (pos 0)));
  },
)
  where
    fits : old.given + size n ≤ old.limit
    fits = within (old.given + size n) old.limit room
      where
        within : (a b : ℕ) → nat_le a b ≡ true → a ≤ b
        within a b e = grind (arith, nat_tests)
