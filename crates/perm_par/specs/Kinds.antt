-- Kinds of variables by their permission.
use Rattle.std.specs.Prelude.{Bool, cond, Option, Some, None, Result}
use Rattle.perm_tree.specs.declared.ast.Ty.{Ty}
use Rattle.perm_tree.specs.declared.errors.TypeKind.{TypeKind}
use Rattle.perm_tree.specs.declared.errors.TypeKind.TheVariants.{ParPermission}
use Rattle.perm_tree.specs.CodeNames.{is_tied}
use Rattle.perm_tree.specs.Names.{is_writable}
use Rattle.perm_tree.specs.Vars.{Vars, none}
use Rattle.perm_rules.specs.declared.ParMode.{ParMode}
use Rattle.perm_rules.specs.AtPlace.{mode_unless}
use Rattle.perm_rules.specs.Pars.{mode_of, par_permission}
use Rattle.perm_rules.specs.Parts.{Context, ParHead, has_isolated, if_known, if_reference, type_of}
use Rattle.perm_rules.specs.MethodBodies.{Body, context_of}
use Rattle.perm_par.specs.declared.modes.Kind.{Kind}
use Rattle.perm_par.specs.declared.modes.Kind.TheVariants.{Isolated, Writable, Tied}

-- a variable of this type is of the kind
abbrev pub is_of : Kind → Option Ty → Bool
is_of Isolated t = has_isolated t
is_of Writable t = if_reference t is_writable
is_of Tied t = if_known t is_tied

-- the variables of a kind
abbrev pub of_kind : Body → Kind → Vars
of_kind b kind x = is_of kind (type_of (context_of b) x)

-- the mode of blocks that mention these, of which nothing is shared; it is refused where a writable variable stands in them and neither can stand alone
abbrev pub permitted : Context → Vars → Vars → Result ParMode TypeKind
permitted c u1 u2 = mode_unless (cond (par_permission c (ParHead u1 u2 none none)) (Some ParPermission) None) (mode_of c u1 u2)
