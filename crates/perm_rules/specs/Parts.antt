-- The parts of a method, what they are checked by, and the types of variables and fields.
use Rattle.std.specs.Prelude.{ℕ, Bool, true, false, not, ◌||◌, List, Option, Some, None, slice_get}
use Rattle.perm_tree.specs.declared.ast.Perm.{Perm}
use Rattle.perm_tree.specs.declared.ast.Perm.TheVariants.{Isolated}
use Rattle.perm_tree.specs.declared.ast.Shape.TheVariants.{Class}
use Rattle.perm_tree.specs.declared.ast.Ty.{Ty}
use Rattle.perm_tree.specs.declared.ast.Ty.TheVariants.{Ref}
use Rattle.perm_tree.specs.Code.{Term, Argument, Instruction, Routine}
use Rattle.perm_tree.specs.Mentions.{any_in_term, any_in_argument, any_in_instruction}
use Rattle.perm_tree.specs.Vars.{Vars}

-- what a part is checked by: the types of the fields of each class, the methods of the unit, the types of the variables and of the result of the method, and the variables that are hidden where the part stands
pub record Context : Type 0 where
  pub classes : List (List Ty)
  pub routines : List Routine
  pub vars : List Ty
  pub result : Ty
  pub hidden : List ℕ

-- what is checked at one place: a simple statement; the condition of an `if` or a `while`; the head of a par, by the outer variables u1 and u2 that its blocks mention and the variables a1 and a2 that they write or declare; the head of a recover block whose value x takes; the `give` of w to x; a `return`
pub data Part : Type 0 where
  Simple : (i : Instruction) → Part
  Condition : (e : Term) → Part
  ParHead : (u1 u2 a1 a2 : Vars) → Part
  RecoverHead : (x : ℕ) → Part
  Given : (w x : ℕ) → Part
  Returned : (a : Argument) → Part

-- some variable that stands in the part passes a test, one that takes a value included; those of a par's blocks stand in parts of their own
abbrev pub any_in_part : Vars → Part → Bool
any_in_part test (Simple i) = any_in_instruction test i
any_in_part test (Condition e) = any_in_term test e
any_in_part test (ParHead u1 u2 a1 a2) = false
any_in_part test (RecoverHead x) = test x
any_in_part test (Given w x) = test w || test x
any_in_part test (Returned a) = any_in_argument test a

-- ---------- types ----------
-- the declared type of a variable
abbrev pub type_of : Context → ℕ → Option Ty
type_of c x = slice_get c.vars x

-- the declared type of field f in a list of fields
abbrev pub field_among : Option (List Ty) → ℕ → Option Ty
field_among None f = None
field_among (Some fields) f = slice_get fields f

-- the same in the class of a type
abbrev pub type_of_field : List (List Ty) → Option Ty → ℕ → Option Ty
type_of_field classes (Some (Ref p (Class k))) f = field_among (slice_get classes k) f
type_of_field classes _ f = None

-- the declared type of field f in the class of the variable y
abbrev pub field_type : Context → ℕ → ℕ → Option Ty
field_type c y f = type_of_field c.classes (type_of c y) f

-- the type is known, and passes a test
abbrev pub if_known : Option Ty → (Ty → Bool) → Bool
if_known None test = false
if_known (Some t) test = test t

-- both types are known, and they pass a test
abbrev pub if_both_known : Option Ty → Option Ty → (Ty → Ty → Bool) → Bool
if_both_known (Some t) (Some u) test = test t u
if_both_known _ _ test = false

-- the type is known to be a reference, whose permission passes a test
abbrev pub if_reference : Option Ty → (Perm → Bool) → Bool
if_reference (Some (Ref p k)) test = test p
if_reference _ test = false

-- ---------- tests of permissions and types ----------
-- the permission is isolated
abbrev pub is_isolated : Perm → Bool
is_isolated Isolated = true
is_isolated _ = false

-- the type is known to be isolated
abbrev pub has_isolated : Option Ty → Bool
has_isolated t = if_reference t is_isolated

-- a reference, whatever its shape
abbrev pub is_reference : Ty → Bool
is_reference (Ref p k) = true
is_reference _ = false

-- a reference to an object of a class
abbrev pub is_object : Ty → Bool
is_object (Ref p (Class k)) = true
is_object _ = false

-- `long` or `bool`
abbrev pub isnt_reference : Ty → Bool
isnt_reference t = not (is_reference t)
