-- What a numbered part is in the code, and sets that hold what is hidden.
use Rattle.std.specs.Prelude.{◌≡◌, ℕ, ◌<◌, List, length}
use Rattle.perm_tree.specs.BodyTerms.{argument_of, expression_term, instruction_of, IsActionIn, IsArgumentIn, IsExpressionIn}
use Rattle.perm_tree.specs.CodeOf.{code_of}
use Rattle.perm_tree.specs.Lookup.{var_ty}
use Rattle.perm_tree.specs.StatementSteps.{action_tie}
use Rattle.perm_tree.specs.VarSets.{member}
use Rattle.perm_tree.specs.Vars.{those}
use Rattle.perm_tree.specs.declared.var_set.VarSet.{VarSet}
use Rattle.perm_rules.specs.MethodBodies.{Body, context_of, setting_of}
use Rattle.perm_rules.specs.Parts as rules
use Rattle.perm_flow.specs.declared.part.Part.{Part}
use Rattle.perm_flow.specs.declared.part.Part.TheVariants.{Simple, Condition, Recover, Given, Returned}

-- a part in the code of a method
abbrev pub part_of : Body → Part → rules.Part
part_of b (Simple a) = rules.Simple (instruction_of b.bodies (action_tie (var_ty (setting_of b).vars) b.bodies a) a)
part_of b (Condition e) = rules.Condition (expression_term b.bodies.operations e)
part_of b (Recover x) = rules.RecoverHead x
part_of b (Given w x) = rules.Given w x
part_of b (Returned a) = rules.Returned (argument_of b.bodies.operations a)

-- its expressions and arguments are there
abbrev pub IsPartIn : Body → Part → Type 0
IsPartIn b (Simple a) = IsActionIn b.bodies (code_of b.unit) a
IsPartIn b (Condition e) = IsExpressionIn b.bodies.operations e
IsPartIn b (Recover x) = Unit {0}
IsPartIn b (Given w x) = Unit {0}
IsPartIn b (Returned a) = IsArgumentIn b.bodies.operations a

-- of the variables of the method, the set holds those that are hidden
abbrev pub HoldsHidden : Body → VarSet → List ℕ → Type 0
HoldsHidden b set hides = (x : ℕ) → x < length (context_of b).vars → member set x ≡ those hides x
