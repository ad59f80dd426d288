-- What the code of every resolved program has.
use Rattle.std.specs.Prelude.{◌≡◌, ℕ, ◌<◌, Bool, true, List, [], ◌∷◌, ◌++◌, length, nat_lt, slice_get, Some}
use Rattle.std.specs.List.{list_all}
use Rattle.perm_tree.specs.declared.ast.Perm.TheVariants.{Immutable, Writable}
use Rattle.perm_tree.specs.declared.ast.Shape.TheVariants.{Class, Array}
use Rattle.perm_tree.specs.declared.ast.Ty.{Ty}
use Rattle.perm_tree.specs.declared.ast.Ty.TheVariants.{Long, Ref}
use Rattle.perm_tree.specs.Code.{Routine, UnitCode}
use Rattle.perm_meaning.specs.Literals.{UnitFits}
use Rattle.perm_rules.specs.Goes.{context, first_live}
use Rattle.perm_core.specs.Endings.{ByReturn, ends}
use Rattle.perm_rules.specs.Scoping.{is_scoped}
use Rattle.perm_core.specs.Marked.{calls_right}

-- the type's class is a class of the unit
abbrev pub is_known_type : UnitCode → Ty → Bool
is_known_type u (Ref p (Class k)) = nat_lt k (length u.classes)
is_known_type u t = true

-- a method's variables begin with `this` and its parameters, their classes are there, its code ends by a return, what that says of calls is right, and it is rightly scoped
pub record IsWholeRoutine (u : UnitCode) (r : Routine) : Type 0 where
  pub locals : List Ty
  pub vars : r.vars ≡ Ref r.receiver (Class r.class) ∷ (r.params ++ locals)
  pub known : list_all (is_known_type u) r.vars ≡ true
  pub returns : ends ByReturn r.code ≡ true
  pub calls : calls_right (context u r) r.code ≡ true
  pub scoped : is_scoped (context u r) r.code (first_live r) ≡ true

-- `Run` is a method of Main, and takes the input
pub record IsRun (u : UnitCode) (r : Routine) : Type 0 where
  pub class : r.class ≡ u.main
  pub receiver : r.receiver ≡ Writable
  pub params : r.params ≡ Ref Immutable Array ∷ []
  pub result : r.result ≡ Long

-- all methods are whole, the numbers in their code have 64 bits, the classes of all fields are there, and Main has its `Run`
pub record IsWhole (u : UnitCode) : Type 0 where
  pub routines : (m : ℕ) (r : Routine) → slice_get u.routines m ≡ Some r → IsWholeRoutine u r
  pub fits : UnitFits u
  pub fields : list_all (list_all (is_known_type u)) u.classes ≡ true
  pub main : u.main < length u.classes
  pub first : Routine
  pub there : slice_get u.routines u.run ≡ Some first
  pub run : IsRun u first
