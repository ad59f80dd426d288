-- Parts of the walk that finds variables.
use Rattle.std.specs.Prelude.{List, [], ◌∷◌, Option, Some, None}
use Rattle.perm_tree.specs.declared.ast.FieldDecl.{FieldDecl}
use Rattle.perm_tree.specs.declared.ast.Ident.{Ident}
use Rattle.perm_tree.specs.declared.ast.Ty.{Ty}

-- a declaration, if its type is written before it
abbrev pub typed : Option Ty → Ident → List FieldDecl
typed None x = []
typed (Some t) x = record { ty = t; name = x } ∷ []
