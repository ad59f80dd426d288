-- What is refused of `Main` and its `Run`, by parts.
use Rattle.std.specs.Prelude.{ℕ, Bool, true, false, List, Option, Some, None, find}
use Rattle.perm_tree.specs.declared.ast.ClassDecl.{ClassDecl}
use Rattle.perm_tree.specs.declared.ast.Perm.{Perm}
use Rattle.perm_tree.specs.declared.ast.Perm.TheVariants.{Immutable}
use Rattle.perm_tree.specs.declared.ast.Shape.{Shape}
use Rattle.perm_tree.specs.declared.ast.Shape.TheVariants.{Array}
use Rattle.perm_tree.specs.declared.errors.TableError.{TableError}
use Rattle.perm_tree.specs.declared.errors.TableError.TheVariants.{NoMain}
use Rattle.perm_tree.specs.Names.{run_refusal}
use Rattle.perm_tree.specs.Spelling.{is_word, run_word}

-- the shape is that of an array
abbrev pub is_array : Shape → Bool
is_array Array = true
is_array _ = false

-- the permission is `immutable`
abbrev pub is_immutable : Perm → Bool
is_immutable Immutable = true
is_immutable _ = false

-- what is refused of the class `Main`, if there is one, and of its `Run`
abbrev pub main_refusal : List (List ℕ) → Option ClassDecl → Option TableError
main_refusal names None = Some NoMain
main_refusal names (Some c) = run_refusal (find (λ d. is_word names run_word d.name.name) c.methods)
