-- The body of a method as the typing rules read it: by its number in a unit, and by what the unit's bodies say of it.
use Rattle.std.specs.Prelude.{◌≡◌, ℕ, List, All, Some, map, slice_get}
use Rattle.perm_tree.specs.declared.ast.Method.{Method}
use Rattle.perm_tree.specs.declared.bodies.Argument as handed
use Rattle.perm_tree.specs.declared.bodies.Bodies.{Bodies}
use Rattle.perm_tree.specs.declared.bodies.Entry.{Entry}
use Rattle.perm_tree.specs.declared.unit.MethodTable.{MethodTable}
use Rattle.perm_tree.specs.Code.{Routine}
use Rattle.perm_tree.specs.BodyTerms.{argument_of, IsArgumentIn}
use Rattle.perm_tree.specs.CodeNames.{Setting, argument}
use Rattle.perm_tree.specs.CodeOf.{code_of}
use Rattle.perm_tree.specs.InBody.{setting_at, method_at, IsStmtOf}
use Rattle.perm_tree.specs.Lookup.{method_of}
use Rattle.perm_tree.specs.Places.{Listing}
use Rattle.perm_tree.specs.Resolves.{IsResolved}
use Rattle.perm_tree.specs.StatementSteps.{AreSteps}
use Rattle.perm_tree.specs.UnitTables.{Tables}
use Rattle.perm_rules.specs.AtPlace.{plain_context}
use Rattle.perm_rules.specs.Parts.{Context}

-- a method of a unit by its number, with the unit's bodies
pub record Body : Type 0 where
  pub unit : Tables
  pub bodies : Bodies
  pub number : ℕ

-- what its code is made with
abbrev pub setting_of : Body → Setting
setting_of b = setting_at b.unit b.number

-- what its parts are checked by where nothing is hidden
abbrev pub context_of : Body → Context
context_of b = plain_context b.unit b.number

-- the unit is resolved, the bodies are its own, and the method is there
pub record IsBody (b : Body) : Type 0 where
  pub resolved : IsResolved b.unit
  pub steps : AreSteps b.unit b.bodies
  pub table : MethodTable
  pub tabled : slice_get b.unit.tables b.number ≡ Some table
  pub «method» : Method
  pub there : method_at b.unit b.number ≡ Some «method»
  pub entry : Entry
  pub entered : slice_get b.bodies.entries b.number ≡ Some entry

-- some statements are of the body
abbrev pub AreStmtsOf : Body → List ℕ → Type 0
AreStmtsOf b is = All (IsStmtOf b.unit b.number) is

-- the table is that of a method of the program
pub record IsMethodTable (p : Listing) (t : MethodTable) : Type 0 where
  pub «method» : Method
  pub there : method_of p t ≡ Some «method»

-- the method with number n has this declaration, if it is there
pub record IsRoutineOf (u : Tables) (n : ℕ) (d : Method) : Type 0 where
  pub routine : Routine
  pub there : slice_get (code_of u).routines n ≡ Some routine
  pub receiver : routine.receiver ≡ d.receiver
  pub result : routine.result ≡ d.result
  pub params : routine.params ≡ map (λ f. f.ty) d.params

-- the method returns this value
pub record ReturnsBack (b : Body) (a : handed.Argument) : Type 0 where
  pub «method» : Method
  pub there : method_at b.unit b.number ≡ Some «method»
  pub value : argument_of b.bodies.operations a ≡ argument (setting_of b) «method».back
  pub inside : IsArgumentIn b.bodies.operations a
