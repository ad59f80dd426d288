-- The arguments of calls, and the types of the variables that they name.
use Rattle.std.proofs.Common.{◌≡◌, ◌∙◌, ℕ, zero, suc, ◌≤◌, inl, inr, Bool, true, false, List, [], ◌∷◌, length, map, drop, min, refl, ap, sym, arith}
use Rattle.std.specs.Prelude.{All, ◌⊎◌, ◌||◌, Option, Some, None, option_map, slice_get}
use Rattle.std.proofs.Math.Path.{fun_ext}
use Rattle.std.proofs.lemmas.Bool.{cases_lt}
use Rattle.std.proofs.lemmas.List.{at_drop_all}
use Rattle.std.proofs.lemmas.Option.{get_or_from_slice_get, slice_get-map}
use Rattle.perm_tree.specs.declared.ast.Ty.{Ty}
use Rattle.perm_tree.specs.declared.bodies.Argument.{Argument}
use Rattle.perm_tree.specs.declared.bodies.Operation.{Operation}
use Rattle.perm_tree.specs.declared.unit.VarInfo.{VarInfo}
use Rattle.perm_tree.specs.BodyTerms.{AreArgumentsIn, IsArgumentIn}
use Rattle.perm_tree.specs.declared.ast.Method.{Method}
use Rattle.perm_tree.specs.Code as code
use Rattle.perm_tree.specs.CodeOf.{code_of}
use Rattle.perm_tree.specs.InBody.{method_at, method_if, vars_at}
use Rattle.perm_tree.specs.Lookup.{ty_if, var_ty}
use Rattle.perm_rules.specs.AtPlace.{no_routine}
use Rattle.perm_rules.specs.MethodBodies.{Body, context_of, setting_of, IsBody, IsRoutineOf}
use Rattle.perm_rules.specs.Parts.{Context, type_of}
use Rattle.perm_rules.specs.Permissions.{arguments_weak}
use Rattle.perm_rules.specs.Shapes.{argument_misfits, arguments_misfit}
use Rattle.perm_rules.proofs.BodiesThere.{body-types, routine-there}

-- each of some arguments is there
pub each-in : (all : List Operation) (args : List Argument) → AreArgumentsIn all args → All (IsArgumentIn all) args
each-in all [] there k d less = absurd (omega arith)
each-in all (a ∷ rest) there zero d less = there.0
each-in all (a ∷ rest) there (suc k) d less = each-in all rest there.1 k d (omega arith)

-- a type by its variable is that by the context
pub types-same : (b : Body) → IsBody b → type_of (context_of b) ≡ var_ty (setting_of b).vars
types-same b is = fun_ext (λ x. ap (λ (ts : List Ty). slice_get ts x) (body-types b is) ∙ slice_get-map (λ v. v.ty) (vars_at b.unit b.number) x ∙ go (slice_get (vars_at b.unit b.number) x))
  where
    go : (o : Option VarInfo) → option_map (λ v. v.ty) o ≡ ty_if o
    go None = refl
    go (Some v) = refl

-- the result of the method is that of its declaration
pub result-same : (b : Body) → IsBody b → (d : Method) → method_at b.unit b.number ≡ Some d → (context_of b).result ≡ d.result
result-same b is d there =
    let told : IsRoutineOf b.unit b.number d = routine-there b.unit b.number is.table d is.resolved is.tabled (sym (ap (method_if b.unit) is.tabled) ∙ there) in
    ap (λ (r : code.Routine). r.result) (get_or_from_slice_get (code_of b.unit).routines b.number told.routine no_routine told.there) ∙ told.result

-- ---------- arguments beside parameters ----------
or_true : (b : Bool) → (b || true) ≡ true
or_true true = refl
or_true false = refl

-- more or fewer arguments than parameters don't fit
pub misfit-count : {X Y : Type 0} (c : Context) (A : X → code.Argument) (T : Y → Ty) (xs : List X) (ys : List Y) → (length xs ≡ length ys → ⊥) → arguments_misfit c (map A xs) (map T ys) ≡ true
misfit-count c A T [] [] other = absurd (other refl)
misfit-count c A T [] (y ∷ ys) other = refl
misfit-count c A T (x ∷ xs) [] other = refl
misfit-count c A T (x ∷ xs) (y ∷ ys) other =
    ap (λ b. argument_misfits c (A x) (Some (T y)) || b) (misfit-count c A T xs ys (λ e. other (omega arith))) ∙ or_true (argument_misfits c (A x) (Some (T y)))

no-params : (c : Context) (args : List code.Argument) → arguments_weak c args [] ≡ false
no-params c [] = refl
no-params c (a ∷ args) = refl

-- where no arguments or no parameters are left, nothing is too weak
pub weak-past : {X Y : Type 0} (c : Context) (A : X → code.Argument) (T : Y → Ty) (xs : List X) (ys : List Y) (n : ℕ) → (length xs ≤ n) ⊎ (length ys ≤ n) → arguments_weak c (map A (drop n xs)) (map T (drop n ys)) ≡ false
weak-past c A T xs ys n (inl past) = at_drop_all (λ zs. arguments_weak c (map A zs) (map T (drop n ys))) xs n past
weak-past c A T xs ys n (inr past) = at_drop_all (λ zs. arguments_weak c (map A (drop n xs)) (map T zs)) ys n past ∙ no-params c (map A (drop n xs))

-- the lesser of two lengths is one of them
pub lesser : (m n k : ℕ) → k ≡ min m n → (m ≤ k) ⊎ (n ≤ k)
lesser m n k is = elim (cases_lt m n) [
  | inl less ↦ inl (omega arith)
  | inr more ↦ inr (omega arith)
]

-- what has been found is all
pub found-all : (f rest whole : Bool) → (f || rest) ≡ whole → rest ≡ false → f ≡ whole
found-all true rest whole kept none = kept
found-all false rest whole kept none = sym none ∙ kept
